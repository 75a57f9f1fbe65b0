-- Ontologies as lists: their logical axioms, and what editions keep of them.
use Rattle.std.proofs.Common.{◌≡◌, ℕ, ◌+◌, ◌-◌, ◌^◌, ◌≤◌, not, List, [], length, min, refl, sym, arith, subst}
use Rattle.std.specs.List.{IsDistinct}
use Rattle.std.proofs.lemmas.List.Filters.{length-filter_both}
use Rattle.ad_base.specs.Limits.{AreWithinStandard}
use Rattle.ad_base.specs.declared.limits.Limits.{Limits}
use Rattle.ad_tree.specs.Logical.{is_logical}
use Rattle.ad_tree.specs.declared.axioms.Noted.{Noted}
use Rattle.ad_write.specs.Canonical.{canon_document}
use Rattle.ad_apply.specs.Same.{same_axiom}
use Rattle.ad_syntax_laws.specs.OntologyModule.{logical}
use Rattle.ad_edition.specs.Edition.{Whole, limited_edition, limited_of, IsSound}

-- at most all axioms are logical
pub length-logical : (ontology : List Noted) → length (logical ontology) ≤ length ontology
length-logical ontology =
    omega (arith, length-filter_both (λ a. is_logical a.axiom) (λ a. not (is_logical a.axiom)) (λ _. refl) ontology)

-- the edition without axioms is sound
pub IsSound-empty : (limits : Limits) (axioms : List Noted) → axioms ≡ [] → AreWithinStandard limits → IsSound (limited_edition 0 axioms limits) 0 12
unfolding IsDistinct
IsSound-empty limits axioms none w = subst (λ l. IsSound (limited_edition 0 l limits) 0 12) (sym none) (record {
  distinct = tt;
  counted = refl;
  measured = refl;
  few = omega arith;
  within = omega arith;
  numbered = omega arith;
  standard = w;
})

-- what an edition keeps, said of the edition as it is seen
pub sound_as : (e seen : Whole) (count bytes : ℕ) → IsSound (limited_of e) count bytes → e ≡ seen → IsSound (limited_of seen) count bytes
sound_as e seen count bytes sound is = subst (λ x. IsSound (limited_of x) count bytes) is sound

-- the next edition is sound where no limit is passed
pub IsSound-next : (limits : Limits) (number count bytes : ℕ) (axioms after : List Noted) → AreWithinStandard limits → IsDistinct same_axiom axioms → after ≡ axioms
    → count ≡ length (logical axioms) → bytes ≡ min (length (canon_document axioms)) (2 ^ 64 - 1) → length axioms ≤ 4294967295
    → count ≤ limits.axioms → bytes ≤ limits.bytes → number + 1 ≤ limits.editions → IsSound (limited_edition (number + 1) after limits) count bytes
IsSound-next limits number count bytes axioms after w distinct is counted measured few low short early =
    subst (λ l. IsSound (limited_edition (number + 1) l limits) count bytes) (sym is) (record {
      distinct = distinct;
      counted = counted;
      measured = omega (arith, measured, short, w.bytes);
      few = few;
      within = low;
      numbered = early;
      standard = w;
    })
