-- What is known after a reading.
use Rattle.std.proofs.Common.{◌≡◌, ℕ, List, [], ◌∷◌, true, false, cond, Some, None, length, refl, sym, ap, subst, ◌∙◌}
use Rattle.std.specs.Prelude.{◌≤◌, Option, Result, Ok, Err, IfSome, IfOk, IfErr, OnOk, nat_lt}
use Rattle.std.specs.Option.{is_some}
use Rattle.std.specs.declared.cmp.Ordering.{Ordering}
use Rattle.std.specs.declared.cmp.Ordering.TheVariants.{Less, Equal, Greater}
use Rattle.std.specs.Ordering.{eq_by_cmp, is_eq}
use Rattle.std.specs.Cmp.Lexicographic.{nat_list_cmp_total}
use Rattle.std.specs.Cmp.{tied_itself}
use Rattle.std.specs.FinMap.{get, get-insert, get-empty}
use Rattle.std.proofs.lemmas.Bool.{lt-ltb}
use Rattle.std.proofs.lemmas.Option.{same_Some}
use Rattle.std.proofs.lemmas.Map.Lookups.{exact_bytes}
use Rattle.gv_base.specs.FileMap.{FileMap}
use Rattle.gv_base.specs.Outside.{found_at, found_as, most_file_bytes, IsLarge}
use Rattle.gv_base.specs.Listing.{is_folder, IsListing}
use Rattle.gv_base.specs.Order.{byte_cmp, in_order}
use Rattle.gv_base.specs.declared.tree.Found.{Found}
use Rattle.gv_base.specs.declared.tree.Found.TheVariants.{File}
use Rattle.gv_reading.specs.declared.faults.LoadFault.{LoadFault}
use Rattle.gv_reading.specs.declared.faults.LoadFault.TheVariants.{Limit}
use Rattle.gv_reading.specs.Causes.{Agrees, Cause, IsOfPath, Knows, Reads, View, IsTold, look_in}
use Rattle.gv_reading.specs.Reader.{Seen, nothing}
use Rattle.gv_reading.specs.Look.{Look}
use Rattle.gv_reading.specs.Reading.{list, with_found, after_list, after_new, most_path}
use Rattle.gv_reading.specs.Passing.{path_of_one, same_cause, same_view}

-- ---- what the tree tells
pub told_found : (told : Option FileMap) (path : List ℕ) (found : Found) → IfSome told (λ m. found ≡ found_at m path) → IsTold told → found ≡ (look_in told).found path
unfolding look_in
told_found None path found is told = cc
told_found (Some m) path found is told = is

pub told_names : (told : Option FileMap) (path : List ℕ) (parts names : List (List ℕ)) → IfSome told (λ m. IsListing m path parts) → names ≡ in_order parts → IsTold told → names ≡ (look_in told).names path
unfolding look_in
told_names None path parts names is order told = cc
told_names (Some m) path parts names is order told = order ∙ is.ordered

pub large_told : (told : Option FileMap) (seen : Seen) (path : List ℕ) → nat_lt most_path (length path) ≡ false → IfSome told (λ m. IsLarge most_file_bytes m path) →
    IsTold told → after_new (look_in told) seen path ≡ Err (Limit path most_file_bytes)
unfolding look_in
large_told None seen path short large told = cc
large_told (Some m) seen path short large told =
    let at : found_at m path ≡ File large.0 = ap (λ (o : Option (List ℕ)). found_as o (is_folder m path)) large.1 in
    let more : nat_lt most_file_bytes (length large.0) ≡ true = lt-ltb _ _ large.2 in
    rw (short, at, more) refl

-- ---- what was put there is known, and the rest stays
equal : (o : Ordering) → is_eq o ≡ true → o ≡ Equal
equal Less h = cc
equal Equal h = refl
equal Greater h = cc

itself : (q : List ℕ) → eq_by_cmp byte_cmp q q ≡ true
itself q = ap is_eq (tied_itself nat_list_cmp_total q)

known_here : (look : Look) (old : Seen) (path : List ℕ) (found : Found) (files : ℕ) → found ≡ look.found path → get (with_found old path found files).known path ≡ Some (look.found path)
known_here look old path found files is =
    let at = get-insert nat_list_cmp_total old.known path found path in
    let here = rw (itself path) at at in
    here ∙ ap Some is

agrees_here : (look : Look) (old : Seen) (path : List ℕ) (found : Found) (files : ℕ) → found ≡ look.found path → Agrees look old → Agrees look (with_found old path found files)
agrees_here look old path found files is agrees q there says =
    elim (eq_by_cmp byte_cmp q path) as (λ b. eq_by_cmp byte_cmp q path ≡ b → cond b (Some found) (get old.known q) ≡ Some there → there ≡ look.found q) [
      | true ↦ λ hit at.
          let same : q ≡ path = exact_bytes q path (equal _ hit) in
          sym (same_Some _ _ at) ∙ is ∙ ap look.found (sym same)
      | false ↦ λ miss at. agrees q there at
    ] refl (sym (get-insert nat_list_cmp_total old.known path found q) ∙ says)

pub known_put : (told : Option FileMap) (old new : Seen) (path : List ℕ) (found : Found) (files : ℕ) → (IsTold told → found ≡ (look_in told).found path) → new ≡ with_found old path found files →
    IsTold told → get new.known path ≡ Some ((look_in told).found path)
known_put told old new path found files is put t = rw put (known_here (look_in told) old path found files (is t))

pub knows_put : (told : Option FileMap) (old new : Seen) (path : List ℕ) (found : Found) (files : ℕ) → (IsTold told → found ≡ (look_in told).found path) → Knows told old → new ≡ with_found old path found files →
    Knows told new
unfolding Knows
knows_put told old new path found files is knows put = λ t. subst (λ (s : Seen). Agrees (look_in told) s) (sym put) (agrees_here (look_in told) old path found files (is t) (knows t))

-- nothing is known at first
pub knows_nothing : (told : Option FileMap) → Knows told nothing
unfolding Knows
knows_nothing told = λ t path found is. let none : get nothing.known path ≡ None = get-empty byte_cmp path in cc

-- a path that is known
pub known_before : (told : Option FileMap) (seen : Seen) (path : List ℕ) → Knows told seen → is_some (get seen.known path) ≡ true → IsTold told → get seen.known path ≡ Some ((look_in told).found path)
unfolding Knows
known_before told seen path knows there t = by (get seen.known path) refl there
  where
    by : (o : Option Found) → get seen.known path ≡ o → is_some o ≡ true → get seen.known path ≡ Some ((look_in told).found path)
    by None is there = cc
    by (Some found) is there = is ∙ ap Some (knows t path found is)

-- ---- names that were listed
pub listed : {T : Type 0} (failed_at : T → List ℕ → Type 0) (see : T → View) (before now : T) (seen : Seen) (path : List ℕ) (result : Result (List (List ℕ)) LoadFault) → Knows (see before).told seen →
    IfOk result (λ names. IsTold (see before).told → names ≡ (look_in (see before).told).names path) → OnOk result (after_list seen path ≡ Ok seen) →
    IfErr result (Cause (see before).told (see before).faults (see now).faults (after_list seen path)) → IfErr result (IsOfPath (λ p. path ≡ p)) → IfErr result (IsOfPath (failed_at now)) →
    (see now).told ≡ (see before).told → (see now).around ≡ (see before).around → (see before).faults ≤ (see now).faults → OnOk result ((see now).faults ≡ (see before).faults) →
    Reads failed_at see before now (λ look. list path ∷ []) (λ look names. names ≡ look.names path) seen seen result
listed failed_at see before now seen path (Ok names) knows is passed cause asked here told around later calm = record {
  same = same_view (see before) (see now) told calm around;
  knows = knows;
  passed = λ t. rw passed refl;
  value = is;
}
listed failed_at see before now seen path (Err fault) knows is passed cause asked here told around later calm = record {
  told = told;
  around = around;
  later = later;
  cause = same_cause (see before).told (see before).faults (see now).faults _ _ fault (λ t f at. rw at refl) cause;
  asked = path_of_one (see before).told seen (list path) fault asked;
  here = here;
}
