-- The reasons that a look-up gives are those of the entries.
use Rattle.std.proofs.Common.{◌≡◌, ℕ, ◌*◌, Bool, true, false, nat_eq, Option, List, [], ◌∷◌, refl, sym, subst, arith}
use Rattle.std.specs.Prelude.{slice_get, slice_set, replicate}
use Rattle.std.specs.List.{AllByRecursion}
use Rattle.std.proofs.lemmas.Grind.{common_steps}
use Rattle.gv_logic.specs.Partial.{is_true}
use Rattle.gv_trail.specs.Entries.{Entry, State, lits_of, reason_of}
use Rattle.gv_trail.specs.Derived.{IsDerived}
use Rattle.gv_solver.specs.Clash.{Derived}
use Rattle.gv_solver.specs.Replay.{replay, replay_by}
use Rattle.gv_solver.specs.Resting.{needed, needed_by, rests, rests_by, against_clause, reasons, rests_on}
use Rattle.gv_logic.specs.Opposites.{set_here, set_keeps}

other : (a b : ℕ) → (a ≡ b → ⊥) → nat_eq a b ≡ false
other a b n = by (nat_eq a b) refl
  where
    same : nat_eq a b ≡ true → a ≡ b
    same e = grind (arith, common_steps)

    by : (v : Bool) → nat_eq a b ≡ v → nat_eq a b ≡ false
    by true e = absurd (n (same e))
    by false e = e

self_eq : (k : ℕ) → nat_eq k k ≡ true
self_eq k = grind (arith, common_steps)

no_ : (b : Bool) → b ≡ true → b ≡ false → ⊥
no_ b t f = cc

-- a literal that is true has no entry behind
pub apart : (cs : List (List ℕ)) (on : List Bool) (es : List Entry) (l : ℕ) → IsDerived cs on es → is_true on l ≡ true → AllByRecursion (λ e. l ≡ e.lit → ⊥) es
apart cs on [] l d t = tt
apart cs on (e ∷ es) l d t = (λ q. no_ (is_true on l) t (subst (λ z. is_true on z ≡ false) (sym q) d.0.free), apart cs (slice_set on e.lit true) es l d.1 (set_keeps on e.lit l t))

behind : (e : Entry) (es xs : List Entry) → AllByRecursion (λ x. e.lit ≡ x.lit → ⊥) xs → AllByRecursion (λ x. reason_of x.lit es ≡ x.reason) xs → AllByRecursion (λ x. reason_of x.lit (e ∷ es) ≡ x.reason) xs
behind e es [] a r = tt
behind e es (x ∷ xs) a r = (rw (other e.lit x.lit a.0) r.0, behind e es xs a.1 r.1)

pub reasons_are : (cs : List (List ℕ)) (on : List Bool) (es : List Entry) → IsDerived cs on es → AllByRecursion (λ e. reason_of e.lit es ≡ e.reason) es
reasons_are cs on [] d = tt
reasons_are cs on (e ∷ es) d = (
  rw (self_eq e.lit) refl,
  behind e es es (apart cs (slice_set on e.lit true) es e.lit d.1 (set_here on e.lit d.0.range)) (reasons_are cs (slice_set on e.lit true) es d.1),
)

replay_is : (reason : ℕ → Option ℕ) (on : List Bool) (es : List Entry) (last : ℕ) → AllByRecursion (λ e. reason e.lit ≡ e.reason) es → replay_by reason on (lits_of es) last ≡ replay on es last
replay_is reason on [] last a = refl
replay_is reason on (e ∷ es) last a = rw (a.0, replay_is reason on es last a.1, replay_is reason (slice_set on e.lit true) es last a.1) refl

needed_is : (cs : List (List ℕ)) (reason : ℕ → Option ℕ) (es : List Entry) (m : List Bool) → AllByRecursion (λ e. reason e.lit ≡ e.reason) es → needed_by cs reason (lits_of es) m ≡ needed cs es m
needed_is cs reason [] m a = refl
needed_is cs reason (e ∷ es) m a = rw (a.0, needed_is cs reason es m a.1) refl

rests_is : (m : List Bool) (reason : ℕ → Option ℕ) (es : List Entry) → AllByRecursion (λ e. reason e.lit ≡ e.reason) es → rests_by m reason (lits_of es) ≡ rests m es
rests_is m reason [] a = refl
rests_is m reason (e ∷ es) a = rw (a.0, rests_is m reason es a.1) refl

pub replay_same : (cs : List (List ℕ)) (s : State) (on : List Bool) (last : ℕ) → Derived cs s → replay_by (reasons s) on (lits_of s.entries) last ≡ replay on s.entries last
replay_same cs s on last d = replay_is (reasons s) on s.entries last (reasons_are cs (replicate (2 * s.variables) false) s.entries d)

pub rests_same : (cs : List (List ℕ)) (s : State) (k : ℕ) → Derived cs s
    → rests_on cs s k ≡ rests (needed cs s.entries (against_clause (replicate (2 * s.variables) false) (slice_get cs k))) s.entries
rests_same cs s k d =
    let a = reasons_are cs (replicate (2 * s.variables) false) s.entries d in
    rw (needed_is cs (reasons s) s.entries (against_clause (replicate (2 * s.variables) false) (slice_get cs k)) a) (rests_is (needed cs s.entries (against_clause (replicate (2 * s.variables) false) (slice_get cs k))) (reasons s) s.entries a)
