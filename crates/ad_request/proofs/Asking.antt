-- Each line asks for something, or for nothing.
use Rattle.std.proofs.Common.{◌≡◌, inl, inr, ℕ, List, Option, None, Some, codes}
use Rattle.ad_request.specs.declared.request.Request.{Request}
use Rattle.ad_request.specs.declared.request.Request.TheVariants.{Load, Edit, Module, Genuine, Atoms, Atom, Export, Stat, Quit}
use Rattle.ad_request.specs.Requests.{Asks}
use Rattle.ad_request.proofs.Deciding.{same_text, NoNumber, numbered, NoKind, kinded, NoKindAndNumber, kind_numbered, NoNumbers, twice_numbered}

-- the line is that of no request
record Misses (line : List ℕ) : Type 0 where
  load : NoNumber (codes "LOAD ") line
  edit : NoNumber (codes "EDIT ") line
  edit_if : NoNumbers (codes "EDIT ") line
  of_module : NoKindAndNumber (codes "MODULE ") line
  genuine : NoKindAndNumber (codes "GENUINE ") line
  atoms : NoKind (codes "ATOMS ") line
  atom : NoKindAndNumber (codes "ATOM ") line
  export : line ≡ codes "EXPORT" → ⊥
  stat : line ≡ codes "STAT" → ⊥
  quit : line ≡ codes "QUIT" → ⊥

asks_nothing : (line : List ℕ) → Misses line → Asks line None
asks_nothing line m (Load n) small e = m.load n small e
asks_nothing line m (Edit n None) small e = m.edit n small e
asks_nothing line m (Edit n (Some i)) small e = m.edit_if n i small.0 small.1 e
asks_nothing line m (Module k n) small e = m.of_module k n small e
asks_nothing line m (Genuine k n) small e = m.genuine k n small e
asks_nothing line m (Atoms k) small e = m.atoms k e
asks_nothing line m (Atom k n) small e = m.atom k n small e
asks_nothing line m Export small e = m.export e
asks_nothing line m Stat small e = m.stat e
asks_nothing line m Quit small e = m.quit e

pub record Asking (line : List ℕ) : Type 0 where
  pub asked : Option Request
  pub asks : Asks line asked

pub asking : (line : List ℕ) → Asking line
asking line = elim (same_text line (codes "EXPORT")) [
  | inl e ↦ record { asked = Some Export; asks = (tt, e) }
  | inr export ↦
      elim (same_text line (codes "STAT")) [
        | inl e ↦ record { asked = Some Stat; asks = (tt, e) }
        | inr stat ↦
            elim (same_text line (codes "QUIT")) [
              | inl e ↦ record { asked = Some Quit; asks = (tt, e) }
              | inr quit ↦
                  elim (numbered (codes "LOAD ") line) [
                    | inl h ↦ record { asked = Some (Load h.0); asks = (h.1, h.2) }
                    | inr load ↦
                        elim (numbered (codes "EDIT ") line) [
                          | inl h ↦ record { asked = Some (Edit h.0 None); asks = (h.1, h.2) }
                          | inr edit ↦
                              elim (twice_numbered (codes "EDIT ") line) [
                                | inl h ↦ record { asked = Some (Edit h.0 (Some h.1)); asks = ((h.2, h.3), h.4) }
                                | inr edit_if ↦
                                    elim (kind_numbered (codes "MODULE ") line) [
                                      | inl h ↦ record { asked = Some (Module h.0 h.1); asks = (h.2, h.3) }
                                      | inr of_module ↦
                                          elim (kind_numbered (codes "GENUINE ") line) [
                                            | inl h ↦ record { asked = Some (Genuine h.0 h.1); asks = (h.2, h.3) }
                                            | inr genuine ↦
                                                elim (kinded (codes "ATOMS ") line) [
                                                  | inl h ↦ record { asked = Some (Atoms h.0); asks = (tt, h.1) }
                                                  | inr atoms ↦
                                                      elim (kind_numbered (codes "ATOM ") line) [
                                                        | inl h ↦ record { asked = Some (Atom h.0 h.1); asks = (h.2, h.3) }
                                                        | inr atom ↦
                                                            record { asked = None; asks = asks_nothing line (record { load = load; edit = edit; edit_if = edit_if; of_module = of_module; genuine = genuine; atoms = atoms; atom = atom; export = export; stat = stat; quit = quit }) }
                                                      ]
                                                ]
                                          ]
                                    ]
                              ]
                        ]
                  ]
            ]
      ]
]
