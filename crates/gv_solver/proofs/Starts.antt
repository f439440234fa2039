-- The step of a set that clashes follows.
-- It follows since the trail's reasons refute its start (`clash_follows`). So the steps of learned sets and those that
-- prove bits least are made by one function (`refute`).
use Rattle.std.proofs.Common.{◌≡◌, inl, inr, ℕ, zero, suc, ◌+◌, ◌*◌, ◌<◌, ◌≤◌, Bool, true, false, nat_lt, Some, List, [], ◌∷◌, length, get_or, refl, sym, ap, subst, ◌∙◌, arith}
use Rattle.std.specs.Prelude.{slice_set, replicate}
use Rattle.std.proofs.Math.ListN.{length-set}
use Rattle.std.proofs.lemmas.List.{length-replicate}
use Rattle.std.proofs.lemmas.Grind.{common_steps}
use Rattle.gv_logic.specs.Kept.{IsRising, AllOff}
use Rattle.gv_logic.specs.Logs.{started, follows, set_clause}
use Rattle.gv_logic.specs.Partial.{is_true, IsProper}
use Rattle.gv_solver.specs.Clash.{IsClash, Derived}
use Rattle.gv_solver.specs.Marks.{marked, Below}
use Rattle.gv_solver.specs.Replay.{replay, replay_by}
use Rattle.gv_solver.specs.Resting.{reasons}
use Rattle.gv_trail.specs.Entries.{State, assignment, lits_of}
use Rattle.gv_logic.specs.Opposites.{set_is, set_here, proper_set, proper_none, opposite_even, opposite_odd}
use Rattle.gv_solver.proofs.Core.{below_refl, below_trans, below_set, below_none}
use Rattle.gv_solver.proofs.Reasons.{replay_same}
use Rattle.gv_solver.proofs.Derive.{replay_refutes, among_true, has_off, Ends}

pub rising_le : (b t : ℕ) (set : List ℕ) → IsRising b t set → b ≤ t
rising_le b t [] h = h
rising_le b t (i ∷ is) h = let r = rising_le (i + 1) t is h.1 in omega (arith, h.0, r)

pub not_true : (b : Bool) → (b ≡ true → ⊥) → b ≡ false
not_true true f = absurd (f refl)
not_true false f = refl

no_ : (b : Bool) → b ≡ true → b ≡ false → ⊥
no_ b t f = cc

is_less : (a b : ℕ) → a < b → nat_lt a b ≡ true
is_less a b lt = grind (arith, common_steps)

-- no input is on, and those from b on aren't assigned
record IsClear (b : ℕ) (on : List Bool) : Type 0 where
  evens : (j : ℕ) → is_true on (2 * j) ≡ false
  odds : (j : ℕ) → b ≤ j → is_true on (2 * j + 1) ≡ false

clear_set : (b i : ℕ) (on : List Bool) → b ≤ i → IsClear b on → IsClear (i + 1) (slice_set on (2 * i + 1) true)
clear_set b i on le c = record {
  evens = λ j. not_true _ (λ t. elim (set_is on (2 * i + 1) (2 * j) t) [ inl s ↦ omega (arith, s) | inr h ↦ no_ _ h (c.evens j) ]);
  odds = λ j lt. not_true _ (λ t. elim (set_is on (2 * i + 1) (2 * j + 1) t) [ inl s ↦ omega (arith, s, lt) | inr h ↦ no_ _ h (c.odds j (omega (arith, le, lt))) ]);
}

clear_none : (n : ℕ) → IsClear 0 (replicate n false)
clear_none n = record { evens = λ j. not_true _ (λ t. (proper_none n).both (2 * j) t (absurd (none n (2 * j) t))); odds = λ j le. not_true _ (λ t. none n (2 * j + 1) t) }
  where
    none : (m k : ℕ) → get_or (replicate m false) k false ≡ true → ⊥
    none zero k e = cc
    none (suc m) zero e = cc
    none (suc m) (suc k) e = none m k e

started_from : (b t : ℕ) (on : List Bool) (set : List ℕ) → IsRising b t set → 2 * t ≤ length on → IsClear b on → started on (set_clause set) ≡ Some (marked on set)
started_from b t on [] r le c = refl
started_from b t on (i ∷ is) r le c =
    let top = rising_le (i + 1) t is r.1 in
    let lt : nat_lt (2 * i) (length on) ≡ true = is_less (2 * i) (length on) (omega (arith, top, le)) in
    rw (lt, c.evens i, opposite_even i, c.odds i r.0)
    (started_from (i + 1) t (slice_set on (2 * i + 1) true) is r.1 (omega (arith, le, length-set on (2 * i + 1) true)) (clear_set b i on r.0 c))

below_marked : (on : List Bool) (set : List ℕ) → Below on (marked on set)
below_marked on [] = below_refl on
below_marked on (i ∷ is) = below_trans on (slice_set on (2 * i + 1) true) (marked (slice_set on (2 * i + 1) true) is) (below_set on (2 * i + 1)) (below_marked (slice_set on (2 * i + 1) true) is)

pub all_off_marked : (b t : ℕ) (on : List Bool) (set : List ℕ) → IsRising b t set → 2 * t ≤ length on → AllOff (marked on set) set
all_off_marked b t on [] r le = tt
all_off_marked b t on (i ∷ is) r le =
    let top = rising_le (i + 1) t is r.1 in (
      (below_marked (slice_set on (2 * i + 1) true) is).at (2 * i + 1) (set_here on (2 * i + 1) (omega (arith, top, le))),
      all_off_marked (i + 1) t (slice_set on (2 * i + 1) true) is r.1 (omega (arith, le, length-set on (2 * i + 1) true)),
    )

proper_marked : (b t : ℕ) (on : List Bool) (set : List ℕ) → IsRising b t set → IsClear b on → IsProper on → IsProper (marked on set)
proper_marked b t on [] r c p = p
proper_marked b t on (i ∷ is) r c p =
    proper_marked (i + 1) t (slice_set on (2 * i + 1) true) is r.1 (clear_set b i on r.0 c) (proper_set on (2 * i + 1) p (rw (opposite_odd i) (c.evens i)))

length-marked : (on : List Bool) (set : List ℕ) → length (marked on set) ≡ length on
length-marked on [] = refl
length-marked on (i ∷ is) = length-marked (slice_set on (2 * i + 1) true) is ∙ length-set on (2 * i + 1) true

clash_replays : (cs : List (List ℕ)) (t : ℕ) (set : List ℕ) (s : State) (k : ℕ) → IsRising 0 t set → t ≤ s.variables → Derived cs s → IsClash cs set s k
    → follows (2 * s.variables) cs (set_clause set) (replay (marked (replicate (2 * s.variables) false) set) s.entries k) ≡ true
clash_replays cs t set s k r le d c =
    let none = replicate (2 * s.variables) false in
    let long : length (replicate (2 * s.variables) false) ≡ 2 * s.variables = length-replicate (2 * s.variables) false in
    let room : 2 * t ≤ length (replicate (2 * s.variables) false) = omega (arith, long, le) in
    let start = marked (replicate (2 * s.variables) false) set in
    let off = all_off_marked 0 t (replicate (2 * s.variables) false) set r room in
    let ends : Ends cs (assignment s) (marked (replicate (2 * s.variables) false) set) k = elim c.ends [
      | inl e ↦ inl e
      | inr m ↦ inr (2 * m.0, m.2, rw (opposite_even m.0) (has_off (marked (replicate (2 * s.variables) false) set) set m.0 off m.1))
    ] in
    rw (started_from 0 t none set r room (clear_none (2 * s.variables)))
    (replay_refutes cs none start s.entries k (sym (length-marked none set)) d (below_none (2 * s.variables) start)
    (proper_marked 0 t none set r (clear_none (2 * s.variables)) (proper_none (2 * s.variables))) (among_true start set s.entries off c.among) ends)

pub clash_follows : (cs : List (List ℕ)) (t n : ℕ) (set clause hints : List ℕ) (s : State) (k : ℕ) → IsRising 0 t set → t ≤ n → Derived cs s → IsClash cs set s k → s.variables ≡ n
    → clause ≡ set_clause set → hints ≡ replay_by (reasons s) (marked (replicate (2 * n) false) set) (lits_of s.entries) k → follows (2 * n) cs clause hints ≡ true
clash_follows cs t n set clause hints s k r le d c is e h =
    let hints_are : hints ≡ replay (marked (replicate (2 * s.variables) false) set) s.entries k =
    h ∙ ap (λ v. replay_by (reasons s) (marked (replicate (2 * v) false) set) (lits_of s.entries) k) (sym is) ∙ replay_same cs s (marked (replicate (2 * s.variables) false) set) k d in
    rw (e, hints_are) (subst (λ v. follows (2 * v) cs (set_clause set) (replay (marked (replicate (2 * s.variables) false) set) s.entries k) ≡ true) is
    (clash_replays cs t set s k r (rw is le) d c))
