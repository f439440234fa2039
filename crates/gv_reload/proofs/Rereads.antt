-- A repository after edits of entries, of which these alone were read, and what it tells of the whole one.
use Rattle.std.proofs.Common.{◌≡◌, ℕ, ◌+◌, ◌≤◌, true, false, List, [], ◌++◌, Some, None, length, map, refl, sym, ap, subst, ◌∙◌, inl, inr}
use Rattle.std.specs.Prelude.{Option, Ok, Err, IfSome, codes, filter, filter_map, flat_map}
use Rattle.std.specs.List.{list_all, list_any}
use Rattle.std.proofs.lemmas.List.Elements.{filter-append}
use Rattle.gv_base.specs.FileMap.{FileMap}
use Rattle.gv_base.specs.Laws.{InOrderLaw}
use Rattle.gv_base.specs.Order.{has_text}
use Rattle.gv_report.specs.declared.keyword.Keyword.TheVariants as keywords
use Rattle.gv_report.specs.declared.report.Report.{Report}
use Rattle.gv_report.specs.declared.report.Subject.{Subject}
use Rattle.gv_version.specs.Laws.{IsDivided}
use Rattle.gv_version.specs.Names.{is_category}
use Rattle.gv_reading.specs.Causes.{Cause, HasRead, IsTold, View, look_in}
use Rattle.gv_reload.specs.Counting.{FitsFiles, most_more}
use Rattle.gv_load.specs.Directories.{dir_at}
use Rattle.gv_reading.specs.Look.{Look, look_of, text_at}
use Rattle.gv_load.specs.Loading.{PassesWithin, loading}
use Rattle.gv_reload.specs.EntryEdits.{AreAlikeBut, DifferIn, IsAllBut, is_about, is_edited, is_entry, is_in_metadata, members_of}
use Rattle.gv_load.specs.Freshness.{all_kept}
use Rattle.gv_load.specs.MemberOrder.{member_total}
use Rattle.gv_load.specs.Notes.{notes_in, own_notes, pf_notes, place_report}
use Rattle.gv_load.specs.Order.{categories, desc_lines, reached}
use Rattle.gv_load.specs.Paths.{categories_path}
use Rattle.gv_reading.specs.Reader.{Seen, nothing}
use Rattle.gv_reading.specs.Reading.{Out, most_files, passed}
use Rattle.gv_reload.specs.Replacing.{is_of_edited, replaced}
use Rattle.gv_load.specs.Repository.{AreClassless, AreInPackageOrder, folders_of, in_package_order, members, members_in, repository}
use Rattle.gv_reload.specs.Rereading.{HasRoom, IsPutTogether, IsReread, IsRereadOf, IsUnclear, IsUntold, TellsWhole, UnclearCause, UntoldCause, edited_kept, edited_steps, is_refused, read_of, small}
use Rattle.gv_load.specs.Stacks.{error_at}
use Rattle.gv_load.specs.declared.given.GivenRead.{GivenRead}
use Rattle.gv_reading.specs.declared.faults.LoadFault.{LoadFault}
use Rattle.gv_reading.specs.declared.faults.LoadFault.TheVariants.{Limit, NotARepository}
use Rattle.gv_load.specs.declared.loading.Folders.{Folders}
use Rattle.gv_load.specs.declared.loading.Loaded.{Loaded}
use Rattle.gv_load.specs.declared.loading.Repo.{Repo}
use Rattle.gv_reload.specs.declared.rereading.Reread.{Reread}
use Rattle.gv_reload.specs.declared.rereading.Reread.TheVariants.{Done, Unclear}
use Rattle.gv_reload.proofs.EditedKept.{edited_are_of, members_alike, notes_alike, places_out, told_alike}
use Rattle.gv_reload.proofs.EditedPfs.{fits_files, more_is, paths_are, paths_of, same_paths}
use Rattle.gv_reload.proofs.EntriesLaw.{entries, folders_are, notes_are, places, repo_parts}
use Rattle.gv_reload.proofs.EntriesPass.{entries_pass}
use Rattle.gv_reload.proofs.EntryMembers.{all_are_of, together_again}
use Rattle.gv_load.specs.MemberLemmas.{all_ascend, pkgs_ascend}
use Rattle.gv_reload.proofs.OnceLaw.{all_categories}
use Rattle.gv_reload.proofs.Replaces.{as_many, in_order, named, part_after, part_of_new, part_so, same_length}

-- ---- a repository of a look
new_order : (look : Look) → AreInPackageOrder (repository look).pkgs
unfolding repository
new_order look = pkgs_ascend (members look) (all_ascend member_total (members_in (all_kept look (categories look))))

new_bodies : (look : Look) → length (repository look).bodies ≡ length (repository look).pkgs
unfolding repository
new_bodies look = same_length (members look)

no_places : (paths : List (List ℕ)) (s : Subject) → is_edited paths s ≡ true → (look : Look) → filter (is_about s) (places look) ≡ []
no_places paths s edited look =
    let own = map (place_report keywords.ProfileNote) (own_notes look) in
    let dirs = map (place_report keywords.ProfileNote) (notes_in (dir_at look) (reached look (desc_lines look))) in
    let errors = map (place_report keywords.ProfileError) (filter_map (error_at (dir_at look)) (desc_lines look)) in
    filter-append (is_about s) own (dirs ++ errors)
    ∙ ap (λ (rs : List Report). rs ++ filter (is_about s) (dirs ++ errors)) (places_out paths s edited keywords.ProfileNote (own_notes look))
    ∙ filter-append (is_about s) dirs errors
    ∙ ap (λ (rs : List Report). rs ++ filter (is_about s) errors) (places_out paths s edited keywords.ProfileNote (notes_in (dir_at look) (reached look (desc_lines look))))
    ∙ places_out paths s edited keywords.ProfileError (filter_map (error_at (dir_at look)) (desc_lines look))

-- ---- what is read of edited entries is what the whole says of them
module _ (order : InOrderLaw) (division : (bytes : List ℕ) → IsDivided bytes) (cs paths : List (List ℕ)) (are : list_all (is_entry cs) paths ≡ true) (valid : list_all is_category cs ≡ true)
    (files : FileMap) (known : categories (look_of files) ≡ cs) where
  members_are : filter (is_of_edited paths) (members_of (small (read_of (look_of files) paths cs))) ≡ filter (is_of_edited paths) (members_of (repository (look_of files)))
  members_are =
      let ks = edited_kept (look_of files) paths cs in
      ap (filter (is_of_edited paths)) (together_again (in_package_order (members_in ks)))
      ∙ sym (members_alike paths (all_kept (look_of files) cs) ks (all_are_of (look_of files) cs valid) (edited_are_of (look_of files) paths cs valid) (told_alike order division cs paths are valid files))
      ∙ ap (λ (ds : List (List ℕ)). filter (is_of_edited paths) (in_package_order (members_in (all_kept (look_of files) ds)))) (sym known)
      ∙ sym (ap (filter (is_of_edited paths)) (repo_parts (look_of files)).0)

  noted_so : (s : Subject) → is_edited paths s ≡ true → filter (is_about s) (repository (look_of files)).notes ≡ filter (is_about s) (flat_map pf_notes (edited_kept (look_of files) paths cs))
  noted_so s edited =
      let kepts = flat_map pf_notes (all_kept (look_of files) (categories (look_of files))) in
      ap (filter (is_about s)) ((repo_parts (look_of files)).1.0 ∙ notes_are (look_of files))
      ∙ filter-append (is_about s) (places (look_of files)) kepts
      ∙ ap (λ (rs : List Report). rs ++ filter (is_about s) kepts) (no_places paths s edited (look_of files))
      ∙ ap (λ (ds : List (List ℕ)). filter (is_about s) (flat_map pf_notes (all_kept (look_of files) ds))) known
      ∙ notes_alike paths s edited (all_kept (look_of files) cs) (edited_kept (look_of files) paths cs) (told_alike order division cs paths are valid files)

-- ---- what is put together
abbrev put_to : Repo → Folders → ℕ → Loaded
put_to repo folders found = record { repo = repo; folders = folders; found = found }

made_of : (loaded : Loaded) (folders : Folders) (repo : Repo) → loaded.repo ≡ repo → loaded.folders ≡ folders → loaded ≡ put_to repo folders loaded.found
made_of loaded folders repo is same = ap (λ (r : Repo). put_to r loaded.folders loaded.found) is ∙ ap (λ (f : Folders). put_to repo f loaded.found) same

-- ---- the whole one
module _ (order : InOrderLaw) (division : (bytes : List ℕ) → IsDivided bytes) (paths : List (List ℕ)) (old : Loaded) (now : ℕ) (a : AreInPackageOrder old.repo.pkgs) (are : list_all (is_entry old.folders.categories) paths ≡ true)
    (files files' : FileMap) (before : Repo) (but : IsAllBut old.repo before) (loaded : loading (look_of files) ≡ Ok before) (folders : old.folders ≡ folders_of (look_of files))
    (within : PassesWithin files old.found) (outside : list_any is_in_metadata old.folders.directories ≡ false) (same : AreAlikeBut paths files files') (seen : Seen) (passes : passed (look_of files') nothing (edited_steps (look_of files') paths old.folders.categories) ≡ Ok seen)
    (room : HasRoom old (read_of (look_of files') paths old.folders.categories).more now) where
  were : folders_of (look_of files) ≡ old.folders
  were = sym folders

  valid : list_all is_category old.folders.categories ≡ true
  valid =
      let is : old.folders.categories ≡ categories (look_of files) = ap (λ (f : Folders). f.categories) (folders ∙ folders_are (look_of files)) in
      ap (list_all is_category) is ∙ all_categories order (text_at (look_of files) categories_path)

  still_outside : list_any is_in_metadata (folders_of (look_of files)).directories ≡ false
  still_outside = ap (λ (f : Folders). list_any is_in_metadata f.directories) were ∙ outside

  more : old.found + most_more (look_of files') (paths_of paths old.folders.categories) ≡ now
  more = ap (λ n. old.found + n) (more_is (look_of files') paths old.folders.categories valid) ∙ sym room.is

  whole_passes : PassesWithin files' now
  whole_passes =
      let ps = paths_of paths old.folders.categories in
      subst (PassesWithin files') more
      (entries_pass order division ps files files' old.found
      (ap (λ (f : Folders). list_all (is_entry f.categories) ps) were ∙ paths_are order old.folders.categories paths are valid)
      still_outside (ap (λ (f : Folders). has_text f.categories (codes "metadata")) were ∙ room.apart)
      (λ path other. same path (sym (same_paths order old.folders.categories paths are valid path) ∙ other)) within
      (subst (λ (f : Folders). FitsFiles f.categories ps (look_of files) (look_of files')) folders (fits_files order (look_of files') old.folders.categories paths are valid seen passes (look_of files)))
      (subst (λ n. n ≤ most_files) (sym more) room.room))

  whole_differs : DifferIn paths before (repository (look_of files')) × (folders_of (look_of files') ≡ folders_of (look_of files))
  whole_differs =
      entries order division paths files files' before (repository (look_of files')) (ap (λ (f : Folders). list_all (is_entry f.categories) paths) were ∙ are) still_outside same loaded whole_passes.loads

  stay : folders_of (look_of files') ≡ old.folders
  stay = whole_differs.1 ∙ were

  known : categories (look_of files') ≡ old.folders.categories
  known = ap (λ (f : Folders). f.categories) (sym (folders_are (look_of files')) ∙ stay)

  pub tells_whole : TellsWhole paths before (put_to (replaced paths old.repo (small (read_of (look_of files') paths old.folders.categories))) old.folders now) files'
  tells_whole = record {
    whole = repository (look_of files');
    loads = whole_passes.loads;
    part = part_so paths old.repo (repository (look_of files')) before but (small (read_of (look_of files') paths old.folders.categories))
        (members_are order division old.folders.categories paths are valid files' known) (noted_so order division old.folders.categories paths are valid files' known)
        (part_of_new paths old.repo (repository (look_of files')) before but a (new_order (look_of files')) (new_bodies (look_of files')) whole_differs.0);
    differ = whole_differs.0;
    folders = sym stay;
    passes = whole_passes;
  }

-- ---- what comes of the reading
module _ (order : InOrderLaw) (division : (bytes : List ℕ) → IsDivided bytes) (paths : List (List ℕ)) (old : Loaded) (a : AreInPackageOrder old.repo.pkgs) (are : list_all (is_entry old.folders.categories) paths ≡ true) where
  tells_told : (told : Option FileMap) (start seen : Seen) (read : GivenRead) (now : ℕ) → start ≡ nothing
      → (IsTold told → passed (look_in told) start (edited_steps (look_in told) paths old.folders.categories) ≡ Ok seen)
      → (IsTold told → read ≡ read_of (look_in told) paths old.folders.categories)
      → HasRoom old read.more now
      → (files files' : FileMap) (before : Repo) → told ≡ Some files' → IsAllBut old.repo before → loading (look_of files) ≡ Ok before
      → old.folders ≡ folders_of (look_of files) → PassesWithin files old.found → list_any is_in_metadata old.folders.directories ≡ false → AreAlikeBut paths files files'
      → TellsWhole paths before (put_to (replaced paths old.repo (small read)) old.folders now) files'
  unfolding look_in
  tells_told None start seen read now none passes is room files files' before e but loaded folders within outside same = cc
  tells_told (Some told) start seen read now none passes is room files files' before e but loaded folders within outside same =
      let this : told ≡ files' = cc in
      let read_is = is refl in
      let it =
      tells_whole order division paths old now a are files told before but loaded folders within outside (subst (AreAlikeBut paths files) (sym this) same) seen
      (sym (ap (λ (s : Seen). passed (look_of told) s (edited_steps (look_of told) paths old.folders.categories)) none) ∙ passes refl)
      (subst (λ (r : GivenRead). HasRoom old r.more now) read_is room) in
      subst (λ (m : FileMap). TellsWhole paths before (put_to (replaced paths old.repo (small read)) old.folders now) m) this
      (subst (λ (r : GivenRead). TellsWhole paths before (put_to (replaced paths old.repo (small r)) old.folders now) told) (sym read_is) it)

  pub reread_of : {before now : View} {start seen : Seen} (those : List (List ℕ)) (read : GivenRead) → those ≡ paths → start ≡ nothing → AreClassless read.notes
      → HasRead before now (λ look. edited_steps look those old.folders.categories) (λ look. read ≡ read_of look those old.folders.categories) start seen
      → (reread : Reread) → IsPutTogether paths old read reread → IsReread paths old before.told reread
  reread_of those read same none classless one (Unclear loaded) is = is
  reread_of {before = before} {now = now} {start = start} {seen = seen} those read same none classless one (Done loaded) is =
      let made = is.0 in
      let new = small read in
      let here = subst (λ (ps : List (List ℕ)). HasRead before now (λ look. edited_steps look ps old.folders.categories) (λ look. read ≡ read_of look ps old.folders.categories) start seen) same one in
      subst (λ (l : Loaded). IsRereadOf paths old before.told l) (sym (made_of loaded old.folders (replaced paths old.repo new) made.is is.1.0)) (record {
        order = in_order paths old.repo new;
        bodies = as_many paths old.repo new;
        folders = refl;
        some = λ whole but was. part_after paths old.repo new whole but a (named paths old.repo.pkgs made.old_names) (named paths new.pkgs made.new_names) was classless;
        tells = tells_told before.told start seen read loaded.found none here.passed here.value is.1.1;
      })

-- ---- why it isn't told
untold_at : (paths : List (List ℕ)) (old : Loaded) (read : GivenRead) (told : Option FileMap) → IsUntold paths old read → (IsTold told → read ≡ read_of (look_in told) paths old.folders.categories)
    → IfSome told (λ files. IsUnclear paths old (look_of files))
unfolding look_in
untold_at paths old read None why is = tt
untold_at paths old read (Some files) why is = inr (subst (λ (r : GivenRead). IsUntold paths old r) (is refl) why)

pub untold_of : (paths : List (List ℕ)) (old : Loaded) {before now : View} {start seen : Seen} (those : List (List ℕ)) (read : GivenRead) → those ≡ paths
    → HasRead before now (λ look. edited_steps look those old.folders.categories) (λ look. read ≡ read_of look those old.folders.categories) start seen
    → (reread : Reread) → UntoldCause paths old read reread → UnclearCause paths old before.told reread
untold_of paths old those read same one (Done loaded) why = tt
untold_of paths old {before = before} {now = now} {start = start} {seen = seen} those read same one (Unclear loaded) why =
    let here = subst (λ (ps : List (List ℕ)). HasRead before now (λ look. edited_steps look ps old.folders.categories) (λ look. read ≡ read_of look ps old.folders.categories) start seen) same one in
    untold_at paths old read before.told why here.value

refused_at : (paths : List (List ℕ)) (old : Loaded) (fault : LoadFault) (told : Option FileMap) → (IsTold told → passed (look_in told) nothing (edited_steps (look_in told) paths old.folders.categories) ≡ Err fault)
    → IfSome told (λ files. IsUnclear paths old (look_of files))
unfolding look_in
refused_at paths old fault None is = tt
refused_at paths old fault (Some files) is = inl (ap is_refused (is refl))

-- what refused is that of the files
pub no_file : (told : Option FileMap) (before now : ℕ) {out : Out} {fault : LoadFault} {path : List ℕ} → fault ≡ NotARepository path → Cause told before now out fault → IsTold told → out ≡ Err (NotARepository path)
no_file told before now {out = out} is cause = (subst (Cause told before now out) is cause).1

pub no_room : (told : Option FileMap) (before now : ℕ) {out : Out} {fault : LoadFault} {place : List ℕ} {number : ℕ} → fault ≡ Limit place number → Cause told before now out fault → IsTold told → out ≡ Err (Limit place number)
no_room told before now {out = out} is cause = (subst (Cause told before now out) is cause).1

pub refused_of : (paths : List (List ℕ)) (old : Loaded) (told : Option FileMap) {start : Seen} (those : List (List ℕ)) (fault : LoadFault) → those ≡ paths → start ≡ nothing
    → (IsTold told → passed (look_in told) start (edited_steps (look_in told) those old.folders.categories) ≡ Err fault)
    → IfSome told (λ files. IsUnclear paths old (look_of files))
refused_of paths old told {start = start} those fault same none refused =
    refused_at paths old fault told (λ t. sym (ap (λ (s : Seen). passed (look_in told) s (edited_steps (look_in told) paths old.folders.categories)) none)
    ∙ sym (ap (λ (ps : List (List ℕ)). passed (look_in told) start (edited_steps (look_in told) ps old.folders.categories)) same) ∙ refused t)
