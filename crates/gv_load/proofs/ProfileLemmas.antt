-- What the lines come to, by the directories that were read.
use Rattle.std.proofs.Common.{◌≡◌, ℕ, List, [], ◌∷◌, ◌++◌, Bool, true, None, refl, sym, ap, ◌∙◌}
use Rattle.std.specs.Prelude.{Option, Err, filter_map, if◌then◌else◌}
use Rattle.std.specs.FinMap.{get}
use Rattle.std.specs.Str.{bytes_eq}
use Rattle.gv_base.specs.Order.{has_text}
use Rattle.gv_facts.specs.declared.profile.Profile.{Profile}
use Rattle.gv_profile.specs.declared.desc.DescLine.{DescLine}
use Rattle.gv_profile.specs.declared.files.DirFiles.{DirFiles}
use Rattle.gv_reading.specs.declared.files.NamedFile.{NamedFile}
use Rattle.gv_profile.specs.declared.notes.PlaceNote.{PlaceNote}
use Rattle.gv_reading.specs.declared.faults.LoadFault.{LoadFault}
use Rattle.gv_reading.specs.declared.faults.LoadFault.TheVariants.{Tree, NotARepository, Limit, NoMemory}
use Rattle.gv_load.specs.declared.line_profiles.Profiled.{Profiled}
use Rattle.gv_load.specs.declared.reaching.Reached.{Reached}
use Rattle.gv_load.specs.declared.stacks.Folds.{Folds}
use Rattle.gv_load.specs.Ahead.{KeepsDirs}
use Rattle.gv_load.specs.Directories.{steps_of, dir_at}
use Rattle.gv_reading.specs.Causes.{HasEnded, HasRead, View, look_in}
use Rattle.gv_load.specs.Closed.{HaveSameStacks}
use Rattle.gv_reading.specs.Reader.{Seen}
use Rattle.gv_reading.specs.Look.{Look}
use Rattle.gv_load.specs.Notes.{notes_at, notes_in}
use Rattle.gv_load.specs.Order.{profiles_steps, reached, stack_steps}
use Rattle.gv_load.specs.PartsRead.{HasReached, profiled_of}
use Rattle.gv_reading.specs.Reading.{Out}
use Rattle.gv_load.specs.Stacks.{error_at, profile_at}
use Rattle.gv_load.specs.StackLimits.{first_limit, LimitIs}
use Rattle.gv_reading.specs.Passing.{no_memory, passed-append}
use Rattle.gv_load.specs.StackSteps.{stacks_pass, stacks_refused}
use Rattle.gv_load.specs.ListLemmas.{itself, on_right}

-- ---- the notes of what was read are those of the tree
same_notes : (look : Look) (r : Reached) (xs : List (List ℕ)) → KeepsDirs look r → ((path : List ℕ) → has_text xs path ≡ true → has_text r.order path ≡ true) → notes_in (get r.dirs) xs ≡ notes_in (dir_at look) xs
same_notes look r [] keeps within = refl
same_notes look r (x ∷ xs) keeps within =
    let here : get r.dirs x ≡ dir_at look x = keeps x ∙ ap (λ (b : Bool). let o : Option DirFiles = if b then dir_at look x else None in o) (within x (itself x xs)) in
    ap (λ (o : Option DirFiles). notes_at x o ++ notes_in (get r.dirs) xs) here
    ∙ ap (λ (ns : List PlaceNote). notes_at x (dir_at look x) ++ ns) (same_notes look r xs keeps (λ path is. within path (on_right (bytes_eq path x) (has_text xs path) is)))

abbrev with_notes : Folds → List PlaceNote → List (List ℕ) → Profiled
with_notes folds notes directories = record { profiles = folds.profiles; errors = folds.errors; notes = notes; directories = directories }

abbrev of_four : List Profile → List PlaceNote → List PlaceNote → List (List ℕ) → Profiled
of_four profiles errors notes directories = record { profiles = profiles; errors = errors; notes = notes; directories = directories }

pub profiled_is : (look : Look) (r : Reached) (masks : List NamedFile) (lines : List DescLine) (folds : Folds) (p : Profiled) → KeepsDirs look r → HaveSameStacks (get r.dirs) (dir_at look) lines → r.order ≡ reached look lines →
    folds.profiles ≡ filter_map (profile_at (get r.dirs) masks) lines → folds.errors ≡ filter_map (error_at (get r.dirs)) lines → p ≡ with_notes folds (notes_in (get r.dirs) r.order) r.order → p ≡ profiled_of look masks lines
profiled_is look r masks lines folds p keeps stacks order profiles errors is =
    is ∙ ap (λ ps. of_four ps folds.errors (notes_in (get r.dirs) r.order) r.order) (profiles ∙ stacks.profiles masks)
    ∙ ap (λ es. of_four (filter_map (profile_at (dir_at look) masks) lines) es (notes_in (get r.dirs) r.order) r.order) (errors ∙ stacks.errors)
    ∙ ap (λ ns. of_four (filter_map (profile_at (dir_at look) masks) lines) (filter_map (error_at (dir_at look)) lines) ns r.order) (same_notes look r r.order keeps (λ path there. there))
    ∙ ap (λ ds. of_four (filter_map (profile_at (dir_at look) masks) lines) (filter_map (error_at (dir_at look)) lines) (notes_in (dir_at look) ds) ds) order

-- ---- the steps
module _ {before now : View} {old : Seen} {lines : List DescLine} {r : Reached} where
  pub stacks_read : {mid : Seen} {P : Look → Type 0} → HasRead before now (λ look. steps_of look (reached look lines)) (λ look. HasReached look lines r) old mid → first_limit (get r.dirs) lines ≡ None →
      ((look : Look) → HasReached look lines r → P look) → HasRead before now (λ look. profiles_steps look lines) P old mid
  stacks_read {mid = mid} one none says = record {
    same = one.same;
    knows = one.knows;
    passed = λ t. passed-append (look_in before.told) old (steps_of (look_in before.told) (reached (look_in before.told) lines)) (stack_steps (dir_at (look_in before.told)) lines)
        ∙ rw (one.passed t) (stacks_pass (look_in before.told) mid (dir_at (look_in before.told)) lines (sym (one.value t).stacks.limit ∙ none));
    value = λ t. says _ (one.value t);
  }

  pub stacks_ended : {At : List ℕ → Type 0} {mid : Seen} (fault : LoadFault) → HasRead before now (λ look. steps_of look (reached look lines)) (λ look. HasReached look lines r) old mid → LimitIs (first_limit (get r.dirs) lines) fault →
      HasEnded At before now (λ look. profiles_steps look lines) old fault
  stacks_ended NoMemory one limit = no_memory one.same
  stacks_ended (Tree path) one limit = absurd limit
  stacks_ended (NotARepository path) one limit = absurd limit
  stacks_ended {At = At} {mid = mid} (Limit place number) one limit =
      let ended = no_memory {before = before} {now = now} {old = old} {At = At} {steps = λ look. profiles_steps look lines} one.same in
      record {
        told = ended.told;
        around = ended.around;
        later = ended.later;
        asked = tt;
        here = tt;
        cause = (
          ap (λ (v : View). v.faults) one.same,
          λ t. passed-append (look_in before.told) old (steps_of (look_in before.told) (reached (look_in before.told) lines)) (stack_steps (dir_at (look_in before.told)) lines)
              ∙ rw (one.passed t) (stacks_refused (look_in before.told) mid (dir_at (look_in before.told)) lines place (sym (one.value t).stacks.limit ∙ limit.0) ∙ ap (λ (n : ℕ). let o : Out = Err (Limit place n) in o) (sym limit.1)),
        );
      }
