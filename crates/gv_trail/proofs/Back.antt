-- Assignments taken back from the last on.
use Rattle.std.proofs.Common.{◌≡◌, ℕ, ◌+◌, ◌-◌, ◌*◌, ◌/◌, ◌<◌, ◌≤◌, Bool, false, List, [], ◌∷◌, ◌++◌, length, take, get_or, refl, sym, ap, subst, ◌∙◌, arith}
use Rattle.std.specs.Prelude.{slice_set, replicate}
use Rattle.std.proofs.Math.Seq.{take-length}
use Rattle.std.proofs.lemmas.Grind.{get_or_default_zero}
use Rattle.gv_trail.specs.declared.cause.Cause.{Cause}
use Rattle.gv_trail.specs.Cause.{cause_at, entry_of, entries_of}
use Rattle.gv_trail.specs.Entries.{made_true, front_to, AreLevels}
use Rattle.gv_trail.specs.Marks.{AreFresh}
use Rattle.gv_trail.proofs.Entries.{entries_next}
use Rattle.gv_trail.proofs.Marks.{unmarked, fresh-less}
use Rattle.gv_trail.proofs.Levels.{levels-less, levels-last, front-less, front-all}

-- the first so many entries are left, and all behind them stand above the level
pub record IsLeft (causes : List Cause) (lits : List ℕ) (level : ℕ) (on : List Bool) (left : ℕ) : Type 0 where
  pub marked : on ≡ made_true (replicate (2 * length causes) false) (entries_of causes (take left lits))
  pub fresh : AreFresh (replicate (2 * length causes) false) (entries_of causes (take left lits))
  pub levels : (last : ℕ) × AreLevels 0 (entries_of causes (take left lits)) last
  pub front : front_to level (entries_of causes (take left lits)) ≡ front_to level (entries_of causes lits)
  pub few : left ≤ length lits

pub read_last : (lits : List ℕ) (left x : ℕ) → 0 < left → left ≤ length lits → x ≡ get_or lits (left - 1) x → x ≡ get_or lits (left - 1) 0
read_last lits left x some few is = is ∙ get_or_default_zero lits (left - 1) x (omega (arith, some, few))

pub left_all : (causes : List Cause) (lits : List ℕ) (level : ℕ) (on : List Bool) (n : ℕ) → n ≡ length lits → on ≡ made_true (replicate (2 * length causes) false) (entries_of causes lits)
    → AreFresh (replicate (2 * length causes) false) (entries_of causes lits) → ((last : ℕ) × AreLevels 0 (entries_of causes lits) last) → IsLeft causes lits level on n
left_all causes lits level on n is m f l =
    let all : take n lits ≡ lits = rw is (take-length lits) in
    record { marked = rw all m; fresh = rw all f; levels = rw all l; front = rw all refl; few = omega (arith, is) }

next : (causes : List Cause) (lits : List ℕ) (left : ℕ) → 0 < left → left ≤ length lits
    → entries_of causes (take left lits) ≡ entries_of causes (take (left - 1) lits) ++ entry_of causes (get_or lits (left - 1) 0) ∷ []
next causes lits left some few =
    let e : left - 1 + 1 ≡ left = omega (arith, some) in
    subst (λ k. entries_of causes (take k lits) ≡ entries_of causes (take (left - 1) lits) ++ entry_of causes (get_or lits (left - 1) 0) ∷ []) e
    (entries_next causes lits (left - 1) (omega (arith, some, few)))

pub left_less : (causes : List Cause) (lits : List ℕ) (level : ℕ) (on : List Bool) (left : ℕ) → 0 < left → level < (cause_at causes (get_or lits (left - 1) 0 / 2)).level
    → IsLeft causes lits level on left → IsLeft causes lits level (slice_set on (get_or lits (left - 1) 0) false) (left - 1)
left_less causes lits level on left some lt h =
    let e = next causes lits left some h.few in
    let es = entries_of causes (take (left - 1) lits) in
    let last = entry_of causes (get_or lits (left - 1) 0) in
    let fresh : AreFresh (replicate (2 * length causes) false) (entries_of causes (take (left - 1) lits) ++ entry_of causes (get_or lits (left - 1) 0) ∷ []) = rw e at h.fresh in
    let levels : AreLevels 0 (entries_of causes (take (left - 1) lits) ++ entry_of causes (get_or lits (left - 1) 0) ∷ []) h.levels.0 = rw e at h.levels.1 in
    record {
      marked = rw (h.marked, e) (unmarked (replicate (2 * length causes) false) es last fresh);
      fresh = (fresh-less (replicate (2 * length causes) false) es last fresh).0;
      levels = levels-less 0 h.levels.0 es last levels;
      front = sym (front-less level es last lt) ∙ ap (front_to level) (sym e) ∙ h.front;
      few = omega (arith, h.few);
    }

pub left_end : (causes : List Cause) (lits : List ℕ) (level : ℕ) (on : List Bool) (left : ℕ) → 0 < left → (cause_at causes (get_or lits (left - 1) 0 / 2)).level ≤ level
    → IsLeft causes lits level on left → entries_of causes (take left lits) ≡ front_to level (entries_of causes lits)
left_end causes lits level on left some le h =
    let e = next causes lits left some h.few in
    let es = entries_of causes (take (left - 1) lits) in
    let last = entry_of causes (get_or lits (left - 1) 0) in
    let levels : AreLevels 0 (entries_of causes (take (left - 1) lits) ++ entry_of causes (get_or lits (left - 1) 0) ∷ []) h.levels.0 = rw e at h.levels.1 in
    let top = levels-last 0 h.levels.0 es last levels in
    sym (front-all 0 h.levels.0 level (entries_of causes (take left lits)) h.levels.1 (omega (arith, top, le))) ∙ h.front
