-- `One` as a type that may hold the type that holds it: it stores its part as the kit's box does.
use mathlib.Core.Path.{refl}
use mathlib.Core.Former.{Former, this, via}
use denote.RattleType.{RattleType}
use denote.HoleLaws.{Alike}
use denote.HolePlaces.{Recodes, struct_places, laid}
use denote.Hole.Fix.{over}
use denote.Param.Weighed.{Weighed}
use denote.Model.Placed.{view_places}
use Rattle.sqlite_items.specs.formers.boxed.Boxed as kit
use Rattle.ad_tree.specs.declared.one.One.TheInside.{Inside}
use Rattle.ad_tree.specs.declared.one.One.TheView.{view, invariant}
use Rattle.ad_tree.specs.contracts.one.One as C
use Rattle.ad_tree.specs.contracts.one.One.TheInside as I

abbrev pub the_former : Former {0} → Former {0}
the_former g = kit.the_former g

abbrev pub the_weighed : {g : Former {0}} → Weighed g → Weighed (the_former g)
the_weighed w = kit.the_weighed w

abbrev field : Former {0}
field = via (kit.the_former this) Inside (λ X s. s.part) (λ X v. record { part = v }) (λ _ _. refl) (λ _ _. refl)

module _ (R S : RattleType) (h : R.Denot → S.Denot) where
  pub the_places : Alike R S h → Alike (C.the_row R) (C.the_row S) ((the_former this).map R.Denot S.Denot h)
  the_places a = view_places field this view (λ X Y k u. refl) (λ X u. refl) R.Denot S.Denot h (C.the_row R).coded (C.the_row S).coded
      (invariant R.Denot) (invariant S.Denot) (λ u p q. refl) (λ u p q. refl) (λ u e. tt) (λ u e. tt)
      (over (I.the_row R)) (over (I.the_row S))
      (struct_places (I.the_type R) (I.the_type S) (h, tt) _ (λ d. refl) refl (laid _ _ _ (kit.the_places R S h a), tt))

  pub the_codes_placed : Recodes R S h → Recodes (C.the_row R) (C.the_row S) ((the_former this).map R.Denot S.Denot h)
  the_codes_placed e d = kit.the_codes_placed R S h e d
