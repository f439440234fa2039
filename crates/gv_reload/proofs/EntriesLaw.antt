-- What edits of entries change.
use Rattle.std.proofs.Common.{◌≡◌, ℕ, true, false, List, ◌++◌, map, refl, sym, ap, subst, ◌∙◌, append_assoc}
use Rattle.std.specs.Prelude.{Ok, Err, filter, filter_map, flat_map}
use Rattle.std.specs.List.{AllByRecursion, list_all, list_any}
use Rattle.std.specs.FinMap.{get}
use Rattle.std.proofs.lemmas.List.Elements.{filter-append}
use Rattle.gv_base.specs.FileMap.{FileMap}
use Rattle.gv_base.specs.Laws.{InOrderLaw}
use Rattle.gv_base.specs.Order.{has_text}
use Rattle.gv_reading.specs.declared.files.NamedFile.{NamedFile}
use Rattle.gv_profile.specs.declared.notes.PlaceNote.{PlaceNote}
use Rattle.gv_report.specs.declared.keyword.Keyword.TheVariants as keywords
use Rattle.gv_report.specs.declared.report.Report.{Report}
use Rattle.gv_report.specs.declared.report.Subject.{Subject}
use Rattle.gv_version.specs.Laws.{IsDivided}
use Rattle.gv_version.specs.Names.{is_category}
use Rattle.gv_load.specs.Closed.{IsClosed}
use Rattle.gv_load.specs.Directories.{dir_at}
use Rattle.gv_reading.specs.NamedFiles.{files_at}
use Rattle.gv_reading.specs.Look.{Look, look_of, text_at}
use Rattle.gv_load.specs.Repository.{AreClassless, folders_of, members, pkg_of, repository}
use Rattle.gv_reload.specs.EntryEdits.{DifferIn, EntriesLaw, HasEditedName, is_about, is_edited, is_entry, is_in_metadata, is_other, members_of}
use Rattle.gv_load.specs.Freshness.{all_kept}
use Rattle.gv_load.specs.Loading.{if_passed, loading}
use Rattle.gv_load.specs.Notes.{notes_in, own_notes, pf_notes, place_report, repository_notes}
use Rattle.gv_load.specs.Order.{categories, desc_lines, load_steps, reached}
use Rattle.gv_load.specs.Paths.{categories_path, mask_path}
use Rattle.gv_reading.specs.Reader.{Seen, nothing}
use Rattle.gv_reading.specs.Reading.{Out, passed}
use Rattle.gv_load.specs.Stacks.{error_at, profile_at}
use Rattle.gv_load.specs.declared.loading.Folders.{Folders}
use Rattle.gv_load.specs.declared.loading.Repo.{Repo}
use Rattle.gv_reload.proofs.EntryKept.{counts, told_same}
use Rattle.gv_reload.proofs.EntryMembers.{all_are_of, all_names, members_same, notes_same, together_again}
use Rattle.gv_reload.proofs.EntryProfiles.{categories_same, dir_notes_same, lines_same, masks_same, own_same, reached_same, stacks_are}
use Rattle.gv_load.specs.NoteClasses.{both, of_pfs, of_places}
use Rattle.gv_reload.proofs.OnceLaw.{all_categories}
use Rattle.gv_reload.proofs.ReachClosed.{loaded_closed}

-- ---- the repository of a look
-- its notes of places and of PFs
abbrev pub places : Look → List Report
places look =
    map (place_report keywords.ProfileNote) (own_notes look)
    ++ (map (place_report keywords.ProfileNote) (notes_in (dir_at look) (reached look (desc_lines look)))
    ++ map (place_report keywords.ProfileError) (filter_map (error_at (dir_at look)) (desc_lines look)))

pub passed_so : (look : Look) (repo : Repo) → loading look ≡ Ok repo → (repo ≡ repository look) × ((seen : Seen) × (passed look nothing (load_steps look) ≡ Ok seen))
unfolding loading
passed_so look repo is = by (passed look nothing (load_steps look)) refl is
  where
    by : (o : Out) → passed look nothing (load_steps look) ≡ o → if_passed o (repository look) ≡ Ok repo → (repo ≡ repository look) × ((seen : Seen) × (passed look nothing (load_steps look) ≡ Ok seen))
    by (Ok seen) at h = (cc, (seen, at))
    by (Err fault) at h = cc

three : {A : Type 0} (a b c d : List A) → a ++ (b ++ (c ++ d)) ≡ (a ++ (b ++ c)) ++ d
three a b c d = ap (λ xs. a ++ xs) (sym (append_assoc b c d)) ∙ sym (append_assoc a (b ++ c) d)

pub notes_are : (look : Look) → repository_notes look ≡ places look ++ flat_map pf_notes (all_kept look (categories look))
unfolding repository_notes
notes_are look = three (map (place_report keywords.ProfileNote) (own_notes look)) (map (place_report keywords.ProfileNote) (notes_in (dir_at look) (reached look (desc_lines look))))
    (map (place_report keywords.ProfileError) (filter_map (error_at (dir_at look)) (desc_lines look))) (flat_map pf_notes (all_kept look (categories look)))

all_classless : (look : Look) → AreClassless (repository_notes look)
all_classless look =
    subst AreClassless (sym (notes_are look)) (both _ _
    (both _ _ (of_places keywords.ProfileNote (own_notes look))
    (both _ _ (of_places keywords.ProfileNote (notes_in (dir_at look) (reached look (desc_lines look)))) (of_places keywords.ProfileError (filter_map (error_at (dir_at look)) (desc_lines look)))))
    (of_pfs (all_kept look (categories look))))

pub repo_parts : (look : Look) → (members_of (repository look) ≡ members look) × (((repository look).notes ≡ repository_notes look) × ((repository look).pkgs ≡ map pkg_of (members look)))
unfolding repository
repo_parts look = (together_again (members look), (refl, refl))

repo_rest : (look : Look) → ((repository look).lines ≡ desc_lines look) × ((repository look).profiles ≡ filter_map (profile_at (dir_at look) (files_at look mask_path)) (desc_lines look))
unfolding repository
repo_rest look = (refl, refl)

abbrev pub folders_with : List (List ℕ) → List (List ℕ) → Folders
folders_with categories directories = record { categories = categories; directories = directories }

pub folders_are : (look : Look) → folders_of look ≡ folders_with (categories look) (reached look (desc_lines look))
unfolding folders_of
folders_are look = refl

-- ---- the law
module _ (order : InOrderLaw) (division : (bytes : List ℕ) → IsDivided bytes) (paths : List (List ℕ)) (files files' : FileMap)
    (are : list_all (is_entry (categories (look_of files))) paths ≡ true) (outside : list_any is_in_metadata (reached (look_of files) (desc_lines (look_of files))) ≡ false)
    (same : (path : List ℕ) → has_text paths path ≡ false → get files' path ≡ get files path) (closed : IsClosed (dir_at (look_of files)) (reached (look_of files) (desc_lines (look_of files)))) where
  cs : List (List ℕ)
  cs = categories (look_of files)

  valid : list_all is_category (categories (look_of files)) ≡ true
  valid = all_categories order (text_at (look_of files) categories_path)

  kept_is : filter (counts paths) (all_kept (look_of files') (categories (look_of files'))) ≡ filter (counts paths) (all_kept (look_of files) (categories (look_of files)))
  kept_is =
      ap (λ (all : List (List ℕ)). filter (counts paths) (all_kept (look_of files') all)) (categories_same order (categories (look_of files)) paths are files files' same)
      ∙ told_same order division (categories (look_of files)) paths are valid files files' same

  valid' : list_all is_category (categories (look_of files')) ≡ true
  valid' = all_categories order (text_at (look_of files') categories_path)

  members_are : filter (is_other paths) (members (look_of files')) ≡ filter (is_other paths) (members (look_of files))
  members_are =
      members_same paths (all_kept (look_of files') (categories (look_of files'))) (all_kept (look_of files) (categories (look_of files)))
      (all_are_of (look_of files') (categories (look_of files')) valid') (all_are_of (look_of files) (categories (look_of files)) valid) kept_is

  profiles_are : filter_map (profile_at (dir_at (look_of files')) (files_at (look_of files') mask_path)) (desc_lines (look_of files')) ≡ filter_map (profile_at (dir_at (look_of files)) (files_at (look_of files) mask_path)) (desc_lines (look_of files))
  profiles_are =
      ap (filter_map (profile_at (dir_at (look_of files')) (files_at (look_of files') mask_path))) (lines_same order (categories (look_of files)) paths are files files' same)
      ∙ ap (λ (masks : List NamedFile). filter_map (profile_at (dir_at (look_of files')) masks) (desc_lines (look_of files))) (masks_same order (categories (look_of files)) paths are files files' same)
      ∙ (stacks_are order (categories (look_of files)) paths are files files' same outside closed).profiles (files_at (look_of files) mask_path)

  errors_are : filter_map (error_at (dir_at (look_of files'))) (desc_lines (look_of files')) ≡ filter_map (error_at (dir_at (look_of files))) (desc_lines (look_of files))
  errors_are =
      ap (filter_map (error_at (dir_at (look_of files')))) (lines_same order (categories (look_of files)) paths are files files' same)
      ∙ (stacks_are order (categories (look_of files)) paths are files files' same outside closed).errors

  of_three : List PlaceNote → List PlaceNote → List PlaceNote → List Report
  of_three own notes errors = map (place_report keywords.ProfileNote) own ++ (map (place_report keywords.ProfileNote) notes ++ map (place_report keywords.ProfileError) errors)

  places_are : places (look_of files') ≡ places (look_of files)
  places_are = λ i.
      map (place_report keywords.ProfileNote) (own_same order (categories (look_of files)) paths are files files' same i)
      ++ (map (place_report keywords.ProfileNote) (dir_notes_same order (categories (look_of files)) paths are files files' same outside i) ++ map (place_report keywords.ProfileError) (errors_are i))

  notes_kept : (s : Subject) → is_edited paths s ≡ false → filter (is_about s) (repository_notes (look_of files')) ≡ filter (is_about s) (repository_notes (look_of files))
  notes_kept s other =
      let ks = all_kept (look_of files') (categories (look_of files')) in
      let ls = all_kept (look_of files) (categories (look_of files)) in
      ap (filter (is_about s)) (notes_are (look_of files')) ∙ filter-append (is_about s) (places (look_of files')) (flat_map pf_notes ks)
      ∙ ap (λ (rs : List Report). filter (is_about s) rs ++ filter (is_about s) (flat_map pf_notes ks)) places_are
      ∙ ap (λ (rs : List Report). filter (is_about s) (places (look_of files)) ++ rs) (notes_same paths s other ks ls kept_is)
      ∙ sym (filter-append (is_about s) (places (look_of files)) (flat_map pf_notes ls)) ∙ sym (ap (filter (is_about s)) (notes_are (look_of files)))

  comes : DifferIn paths (repository (look_of files)) (repository (look_of files'))
  comes =
      let old = repo_parts (look_of files) in
      let new = repo_parts (look_of files') in
      let old_rest = repo_rest (look_of files) in
      let new_rest = repo_rest (look_of files') in
      record {
        lines = new_rest.0 ∙ lines_same order (categories (look_of files)) paths are files files' same ∙ sym old_rest.0;
        profiles = new_rest.1 ∙ profiles_are ∙ sym old_rest.1;
        members = ap (filter (is_other paths)) new.0 ∙ members_are ∙ sym (ap (filter (is_other paths)) old.0);
        notes = λ s other. ap (filter (is_about s)) new.1.0 ∙ notes_kept s other ∙ sym (ap (filter (is_about s)) old.1.0);
        old_names = subst (AllByRecursion (HasEditedName paths)) (sym old.1.1) (all_names paths (all_kept (look_of files) (categories (look_of files))) (all_are_of (look_of files) (categories (look_of files)) valid));
        new_names = subst (AllByRecursion (HasEditedName paths)) (sym new.1.1) (all_names paths (all_kept (look_of files') (categories (look_of files'))) (all_are_of (look_of files') (categories (look_of files')) valid'));
        classless = subst AreClassless (sym new.1.0) (all_classless (look_of files'));
      }

  same_folders : folders_of (look_of files') ≡ folders_of (look_of files)
  same_folders =
      folders_are (look_of files')
      ∙ ap (λ (all : List (List ℕ)). folders_with all (reached (look_of files') (desc_lines (look_of files')))) (categories_same order (categories (look_of files)) paths are files files' same)
      ∙ ap (folders_with (categories (look_of files))) (reached_same order (categories (look_of files)) paths are files files' same outside)
      ∙ sym (folders_are (look_of files))

pub entries : InOrderLaw → ((bytes : List ℕ) → IsDivided bytes) → EntriesLaw
entries order division paths files files' old new are outside same loads loads' =
    let was = passed_so (look_of files) old loads in
    let is = passed_so (look_of files') new loads' in
    let known = folders_are (look_of files) in
    let these : list_all (is_entry (categories (look_of files))) paths ≡ true = sym (ap (λ (f : Folders). list_all (is_entry f.categories) paths) known) ∙ are in
    let apart : list_any is_in_metadata (reached (look_of files) (desc_lines (look_of files))) ≡ false = sym (ap (λ (f : Folders). list_any is_in_metadata f.directories) known) ∙ outside in
    let closed = loaded_closed (look_of files) was.1.0 was.1.1 in
    let both = comes order division paths files files' these apart same closed in (
      subst (λ (r : Repo). DifferIn paths r new) (sym was.0) (subst (λ (r : Repo). DifferIn paths (repository (look_of files)) r) (sym is.0) both),
      same_folders order division paths files files' these apart same closed,
    )
