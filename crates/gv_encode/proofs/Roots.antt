-- Bits that give the root true, and assignments that make all clauses true.
use Rattle.std.proofs.Common.{◌≡◌, ◌↔◌, Bool, true, false, ◌||◌, List, [], ◌∷◌, length, subst, refl}
use Rattle.gv_logic.specs.Literals.{lit_true, AllTrue}
use Rattle.gv_logic.specs.Circuits.{Circuit, IsCircuit, at, values, value}
use Rattle.gv_logic.specs.Encoding.{clauses_from, all_clauses}
use Rattle.gv_encode.specs.Extends.{Extends}
use Rattle.gv_encode.proofs.Values.{one, all_both}
use Rattle.gv_encode.proofs.Forced.{only, right_true}

or_false : (b : Bool) → (b || false) ≡ true → b ≡ true
or_false true e = refl
or_false false e = e

pub root : (g : Circuit) (bits : List Bool) → IsCircuit g → length bits ≡ g.inputs → (value g bits ≡ true) ↔ ((all : List Bool) × Extends g bits all × AllTrue (at all) (all_clauses g))
root g bits w n = (there, back)
  where
    there : value g bits ≡ true → (all : List Bool) × Extends g bits all × AllTrue (at all) (all_clauses g)
    there e = let x = one g bits w n in (values g bits, x, all_both (at (values g bits)) (clauses_from g.inputs g.gates) ((g.root ∷ []) ∷ []) x.holds (rw e refl, tt))

    back : (all : List Bool) × Extends g bits all × AllTrue (at all) (all_clauses g) → value g bits ≡ true
    back m =
        let last = right_true (at m.0) (clauses_from g.inputs g.gates) ((g.root ∷ []) ∷ []) m.2 in
        subst (λ vs. lit_true (at vs) g.root ≡ true) (only g bits m.0 w m.1) (or_false (lit_true (at m.0) g.root) last.0)
