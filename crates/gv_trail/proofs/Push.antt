-- One more literal in the fields of a trail.
use Rattle.std.proofs.Common.{◌≡◌, ℕ, ◌*◌, ◌/◌, ◌<◌, Bool, true, false, List, [], ◌∷◌, ◌++◌, length, sym, ap, ◌∙◌, arith}
use Rattle.std.specs.Prelude.{slice_set, replicate}
use Rattle.std.proofs.Math.ListN.{length-set}
use Rattle.gv_logic.specs.Literals.{opposite}
use Rattle.gv_logic.specs.Partial.{is_true}
use Rattle.gv_trail.specs.declared.cause.Cause.{Cause}
use Rattle.gv_trail.specs.Cause.{entries_of}
use Rattle.gv_trail.specs.Entries.{Entry, made_true, AreLevels, level_after}
use Rattle.gv_trail.specs.Marks.{AreFresh}
use Rattle.gv_trail.proofs.Entries.{entries_push, apart}
use Rattle.gv_trail.proofs.Marks.{made_true-append, fresh-append, long}
use Rattle.gv_trail.proofs.Levels.{levels-append}

pub pushed : (on : List Bool) (causes : List Cause) (lits : List ℕ) (lit : ℕ) (cause : Cause) → on ≡ made_true (replicate (2 * length causes) false) (entries_of causes lits)
    → AreFresh (replicate (2 * length causes) false) (entries_of causes lits) → lit < 2 * length causes → is_true on lit ≡ false → is_true on (opposite lit) ≡ false
    → entries_of (slice_set causes (lit / 2) cause) (lits ++ lit ∷ []) ≡ entries_of causes lits ++ (record { lit = lit; reason = cause.reason; level = cause.level }) ∷ []
pushed on causes lits lit cause m f lt free other =
    entries_push causes lits lit cause (omega (arith, lt)) (apart (replicate (2 * length causes) false) (entries_of causes lits) lit f (rw m at free) (rw m at other))

-- the fields as they are then
pub record ArePushed (on : List Bool) (causes : List Cause) (lits : List ℕ) (level : ℕ) : Type 0 where
  pub marked : on ≡ made_true (replicate (2 * length causes) false) (entries_of causes lits)
  pub fresh : AreFresh (replicate (2 * length causes) false) (entries_of causes lits)
  pub levels : AreLevels 0 (entries_of causes lits) level

pub push_keeps : (on : List Bool) (causes : List Cause) (lits : List ℕ) (lit : ℕ) (cause : Cause) (level : ℕ) → ArePushed on causes lits level → lit < 2 * length causes → is_true on lit ≡ false → is_true on (opposite lit) ≡ false
    → cause.level ≡ level_after cause.reason level → ArePushed (slice_set on lit true) (slice_set causes (lit / 2) cause) (lits ++ lit ∷ []) cause.level
push_keeps on causes lits lit cause level h lt free other q =
    let n : length (slice_set causes (lit / 2) cause) ≡ length causes = length-set causes (lit / 2) cause in
    let es : entries_of (slice_set causes (lit / 2) cause) (lits ++ lit ∷ []) ≡ entries_of causes lits ++ (record { lit = lit; reason = cause.reason; level = cause.level }) ∷ [] = pushed on causes lits lit cause h.marked h.fresh lt free other in
    let e : Entry = record { lit = lit; reason = cause.reason; level = cause.level } in
    record {
      marked = rw (n, es) (ap (λ b. slice_set b lit true) h.marked ∙ sym (made_true-append (replicate (2 * length causes) false) (entries_of causes lits) e));
      fresh = rw (n, es) (fresh-append (replicate (2 * length causes) false) (entries_of causes lits) e h.fresh (rw (length-rep (2 * length causes)) lt) (rw h.marked at free) (rw h.marked at other));
      levels = rw es (levels-append 0 level (entries_of causes lits) e h.levels q);
    }
  where
    length-rep : (k : ℕ) → length (replicate k false) ≡ k
    length-rep k = long k []
