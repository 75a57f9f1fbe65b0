-- The kinds of module, their words, and the kind of a side.
use Rattle.std.specs.Prelude.{ℕ, List, codes}
use Rattle.ad_base.specs.declared.limits.Kind.{Kind}
use Rattle.ad_base.specs.declared.limits.Kind.TheVariants as kinds
use Rattle.ad_base.specs.declared.limits.Side.{Side}
use Rattle.ad_base.specs.declared.limits.Side.TheVariants as sides

-- the word that names a kind in commands and requests
abbrev pub kind_word : Kind → List ℕ
kind_word kinds.Bottom = codes "bottom"
kind_word kinds.Top = codes "top"
kind_word kinds.Star = codes "star"

-- the kind of the modules of one side
abbrev pub kind_of : Side → Kind
kind_of sides.Bottom = kinds.Bottom
kind_of sides.Top = kinds.Top
