-- What was found of each kind.
use Rattle.std.proofs.Common.{ℕ, List}
use Rattle.ad_base.specs.declared.limits.Kind.{Kind}
use Rattle.ad_base.specs.declared.limits.Kind.TheVariants.{Bottom, Top, Star}
use Rattle.ad_decompose.specs.Decomposed.{Decomposed, AreAtomic, atomic_of, genuine_of}

-- what holds of each kind holds of every kind
pub each_kind : (found : Decomposed) (order : List ℕ) → AreAtomic (genuine_of found Bottom) order found.bottom → AreAtomic (genuine_of found Top) order found.top
    → AreAtomic (genuine_of found Star) order found.star → (kind : Kind) → AreAtomic (genuine_of found kind) order (atomic_of found kind)
each_kind found order bottom top star Bottom = bottom
each_kind found order bottom top star Top = top
each_kind found order bottom top star Star = star
