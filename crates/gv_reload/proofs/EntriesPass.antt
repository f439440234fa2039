-- A load of files with edited entries passes.
use Rattle.std.proofs.Common.{◌≡◌, ℕ, ◌+◌, ◌≤◌, true, List, refl, sym, ap, subst, ◌∙◌, arith}
use Rattle.std.specs.Prelude.{codes}
use Rattle.std.specs.List.{list_all, list_any}
use Rattle.gv_base.specs.Laws.{InOrderLaw}
use Rattle.gv_base.specs.Order.{has_text}
use Rattle.gv_version.specs.Laws.{IsDivided}
use Rattle.gv_reload.specs.Counting.{FitsFiles, most_more}
use Rattle.gv_reload.specs.EntriesPass.{EclassesFitLaw, EntriesPassLaw}
use Rattle.gv_reload.specs.EntryEdits.{is_entry, is_in_metadata}
use Rattle.gv_reading.specs.Look.{Look, look_of}
use Rattle.gv_load.specs.Order.{categories, desc_lines, reached}
use Rattle.gv_reading.specs.Reading.{most_files}
use Rattle.gv_load.specs.Repository.{folders_of}
use Rattle.gv_reload.proofs.EntryFiles.{edited_files_pass}
use Rattle.gv_reload.proofs.EntryPassing.{loads}
use Rattle.gv_reload.proofs.EntryProfiles.{front_same}
use Rattle.gv_reload.proofs.Fitting.{eclasses_fit}
use Rattle.gv_reload.proofs.ReachClosed.{loaded_closed}

folders_are : (look : Look) → ((folders_of look).categories ≡ categories look) × ((folders_of look).directories ≡ reached look (desc_lines look))
unfolding folders_of
folders_are look = (refl, refl)

more_room : (found count more : ℕ) → found ≤ count → count + more ≤ most_files → found + more ≤ most_files
more_room found count more less room = omega (arith, less, room)

pub entries_pass : InOrderLaw → ((bytes : List ℕ) → IsDivided bytes) → EntriesPassLaw
entries_pass order division paths files files' count are outside apart same before fits room =
    let known : (folders_of (look_of files)).categories ≡ categories (look_of files) = (folders_are (look_of files)).0 in
    let dirs : (folders_of (look_of files)).directories ≡ reached (look_of files) (desc_lines (look_of files)) = (folders_are (look_of files)).1 in
    let here : list_all (is_entry (categories (look_of files))) paths ≡ true = sym (ap (λ (cs : List (List ℕ)). list_all (is_entry cs) paths) known) ∙ are in
    let front = front_same order (categories (look_of files)) paths here files files' same (sym (ap (list_any is_in_metadata) dirs) ∙ outside) (loaded_closed (look_of files) before.seen before.passes) in
    let result = edited_files_pass order division files files' paths before.seen (sym (ap (λ (cs : List (List ℕ)). has_text cs (codes "metadata")) known) ∙ apart) here same
    (subst (λ (cs : List (List ℕ)). FitsFiles cs paths (look_of files) (look_of files')) known fits) front before.passes (more_room before.seen.found count (most_more (look_of files') paths) before.within room) in
    record {
      seen = result.0;
      passes = result.1;
      loads = loads (look_of files') result.0 result.1;
      within = let less = before.within in let most = result.2 in omega (arith, less, most);
    }

pub eclasses_fit_all : EclassesFitLaw
eclasses_fit_all files count before = eclasses_fit (look_of files) before.seen before.passes
