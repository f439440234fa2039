-- What lists, masks and profiles say, where files differ at paths of entries alone.
use Rattle.std.proofs.Common.{◌≡◌, ℕ, ◌-◌, zero, suc, Bool, true, false, List, [], ◌∷◌, ◌++◌, Some, None, refl, sym, ap, ◌∙◌, true≢false}
use Rattle.std.specs.Prelude.{Option, filter, fold, if◌then◌else◌, unwrap_or}
use Rattle.std.specs.List.{list_all, list_any}
use Rattle.std.specs.FinMap.{get}
use Rattle.gv_base.specs.FileMap.{FileMap}
use Rattle.gv_base.specs.Laws.{InOrderLaw}
use Rattle.gv_base.specs.Order.{has_text}
use Rattle.gv_base.specs.declared.tree.Found.{Found}
use Rattle.gv_base.specs.declared.tree.Found.TheVariants.{File, Dir, Absent}
use Rattle.gv_profile.specs.BadLines.{mask_notes}
use Rattle.gv_profile.specs.Desc.{desc_read}
use Rattle.gv_reading.specs.Paths.{within}
use Rattle.gv_profile.specs.Walking.{line_dir}
use Rattle.gv_profile.specs.declared.desc.DescLine.{DescLine}
use Rattle.gv_profile.specs.declared.files.DirFiles.{DirFiles}
use Rattle.gv_reading.specs.declared.files.NamedFile.{NamedFile}
use Rattle.gv_profile.specs.declared.notes.PlaceNote.{PlaceNote}
use Rattle.gv_load.specs.Categories.{categories_in}
use Rattle.gv_load.specs.Closed.{HaveSameStacks, IsClosed}
use Rattle.gv_reload.specs.Counting.{front_steps}
use Rattle.gv_reading.specs.Look.{bytes_at, look_of, text_at}
use Rattle.gv_reading.specs.NamedFiles.{counts, files_as, files_at, folder_files, folder_names, plain_file}
use Rattle.gv_load.specs.Directories.{dir_as, dir_at, dir_files}
use Rattle.gv_reload.specs.EntryEdits.{is_entry, is_in_metadata}
use Rattle.gv_load.specs.Layout.{layout}
use Rattle.gv_load.specs.Notes.{category_notes, notes_at, notes_in, own_notes}
use Rattle.gv_load.specs.Order.{categories, desc_lines, reached}
use Rattle.gv_profile.specs.Names.{desc_path}
use Rattle.gv_load.specs.Paths.{categories_path, mask_path}
use Rattle.gv_reading.specs.Reader.{nothing}
use Rattle.gv_reading.specs.Reading.{passed}
use Rattle.gv_load.specs.Reaching.{Dirs, from_line, most_depth, paths_of, reach, reach_below, reached_by, with_parents}
use Rattle.gv_reload.proofs.EntryMaps.{bytes_same, found_same, names_same}
use Rattle.gv_reload.proofs.EntryPaths.{IsOutside, not_in_metadata, outside_clear, outside_other, outside_within}
use Rattle.gv_reload.proofs.FrontPassing.{front_passes}
use Rattle.gv_load.specs.Reaches.{Begins, folded, lines_grow, parents_grow, reach_grows}
use Rattle.gv_load.specs.SameStacks.{stacks_over}
use Rattle.gv_load.specs.ListLemmas.{in_back, in_front, itself}
use Rattle.gv_base.specs.Folders.{in_found}

-- ---- the fixed paths stand outside
desc_outside : IsOutside desc_path
unfolding desc_path
desc_outside = refl

categories_outside : IsOutside categories_path
unfolding categories_path
categories_outside = refl

mask_outside : IsOutside mask_path
unfolding mask_path
mask_outside = refl

-- ---- directories that agree outside
abbrev AreOutside : List (List ℕ) → Type 0
AreOutside ds = (dir : List ℕ) → has_text ds dir ≡ true → IsOutside dir

pub all_outside : (ds : List (List ℕ)) → list_any is_in_metadata ds ≡ false → AreOutside ds
all_outside ds none dir there = not_in_metadata dir (by (is_in_metadata dir) refl)
  where
    by : (b : Bool) → is_in_metadata dir ≡ b → b ≡ false
    by true is = absurd (true≢false (sym (in_found is_in_metadata ds dir there is) ∙ none))
    by false is = refl

front_outside : (front whole : List (List ℕ)) → Begins front whole → AreOutside whole → AreOutside front
front_outside front whole begins out dir there = out dir (ap (λ ds. has_text ds dir) begins.1 ∙ in_front front begins.0 dir there)

module _ (here there : Dirs) (agree : (dir : List ℕ) → IsOutside dir → here dir ≡ there dir) where
  all_same : (go go' : List (List ℕ) → List ℕ → List (List ℕ)) → ((r : List (List ℕ)) (p : List ℕ) → Begins r (go r p)) → ((r : List (List ℕ)) (p : List ℕ) → AreOutside (go r p) → go' r p ≡ go r p) →
      (r ps : List (List ℕ)) → AreOutside (fold go r ps) → fold go' r ps ≡ fold go r ps
  all_same go go' grows same r [] out = refl
  all_same go go' grows same r (p ∷ ps) out =
      ap (λ (s : List (List ℕ)). fold go' s ps) (same r p (front_outside (go r p) (fold go (go r p) ps) (folded go grows (go r p) ps) out)) ∙ all_same go go' grows same (go r p) ps out

  parents_alike : (go go' : List (List ℕ) → List ℕ → List (List ℕ)) → ((r : List (List ℕ)) (p : List ℕ) → Begins r (go r p)) → ((r : List (List ℕ)) (p : List ℕ) → AreOutside (go r p) → go' r p ≡ go r p) →
      (r : List (List ℕ)) (dir : List ℕ) (o : Option DirFiles) → AreOutside (with_parents go r dir o) → with_parents go' r dir o ≡ with_parents go r dir o
  parents_alike go go' grows same r dir None out = refl
  parents_alike go go' grows same r dir (Some files) out = all_same go go' grows same r (paths_of dir files) out

  reach_alike : (depth : ℕ) (r : List (List ℕ)) (dir : List ℕ) → AreOutside (reach depth there r dir) → reach depth here r dir ≡ reach depth there r dir
  reach_alike zero r dir out = refl
  reach_alike (suc depth) r dir out = by (has_text r dir) out (reach_alike depth)
    where
      by : (b : Bool) → AreOutside (if b then r else with_parents (reach depth there) (r ++ dir ∷ []) dir (there dir)) → ((s : List (List ℕ)) (p : List ℕ) → AreOutside (reach depth there s p) → reach depth here s p ≡ reach depth there s p) →
          (if b then r else with_parents (reach depth here) (r ++ dir ∷ []) dir (here dir)) ≡ (if b then r else with_parents (reach depth there) (r ++ dir ∷ []) dir (there dir))
      by true o same = refl
      by false o same =
          let begins = parents_grow (reach depth there) (reach_grows depth there) (r ++ dir ∷ []) dir (there dir) in
          let out_here = front_outside (r ++ dir ∷ []) _ begins o dir (in_back r (dir ∷ []) dir (itself dir [])) in
          ap (with_parents (reach depth here) (r ++ dir ∷ []) dir) (agree dir out_here) ∙ parents_alike (reach depth there) (reach depth here) (reach_grows depth there) same (r ++ dir ∷ []) dir (there dir) o

  line_alike : (r : List (List ℕ)) (o : Option (List ℕ)) → AreOutside (from_line there r o) → from_line here r o ≡ from_line there r o
  unfolding reach_below
  line_alike r None out = refl
  line_alike r (Some dir) out = reach_alike (most_depth - 0) r dir out

  pub lines_alike : (r : List (List ℕ)) (lines : List DescLine) → AreOutside (reached_by there r lines) → reached_by here r lines ≡ reached_by there r lines
  lines_alike r [] out = refl
  lines_alike r (line ∷ lines) out =
      ap (λ (s : List (List ℕ)). reached_by here s lines) (line_alike r (line_dir line) (front_outside (from_line there r (line_dir line)) _ (lines_grow there (from_line there r (line_dir line)) lines) out))
      ∙ lines_alike (from_line there r (line_dir line)) lines out

  pub notes_alike : (ds : List (List ℕ)) → AreOutside ds → notes_in here ds ≡ notes_in there ds
  notes_alike [] out = refl
  notes_alike (d ∷ ds) out =
      ap (λ (o : Option DirFiles). notes_at d o ++ notes_in here ds) (agree d (out d (itself d ds)))
      ∙ ap (λ (ns : List PlaceNote). notes_at d (there d) ++ ns) (notes_alike ds (front_later d ds out))
    where
      front_later : (e : List ℕ) (es : List (List ℕ)) → AreOutside (e ∷ es) → AreOutside es
      front_later e es o dir is = o dir (in_back (e ∷ []) es dir is)

-- ---- files of two maps
module _ (order : InOrderLaw) (cs paths : List (List ℕ)) (are : list_all (is_entry cs) paths ≡ true) (files files' : FileMap) (same : (path : List ℕ) → has_text paths path ≡ false → get files' path ≡ get files path) where
  bytes_alike : (path : List ℕ) → IsOutside path → bytes_at (look_of files') path ≡ bytes_at (look_of files) path
  bytes_alike path out = bytes_same paths files files' same path (outside_other cs paths are path out)

  found_alike : (path : List ℕ) → IsOutside path → (look_of files').found path ≡ (look_of files).found path
  found_alike path out = found_same paths files files' same path (outside_other cs paths are path out) (outside_clear cs paths are path out)

  text_alike : (path : List ℕ) → IsOutside path → text_at (look_of files') path ≡ text_at (look_of files) path
  text_alike path out = ap (λ (o : Option (List ℕ)). unwrap_or o []) (bytes_alike path out)

  folder_alike : (path : List ℕ) (names : List (List ℕ)) → IsOutside path → folder_files (look_of files') path names ≡ folder_files (look_of files) path names
  folder_alike path [] out = refl
  folder_alike path (name ∷ names) out =
      ap (λ (f : Found). plain_file (within path name) f ++ folder_files (look_of files') path names) (found_alike (within path name) (outside_within path name out))
      ∙ ap (λ (fs : List NamedFile). plain_file (within path name) ((look_of files).found (within path name)) ++ fs) (folder_alike path names out)

  files_alike : (path : List ℕ) → IsOutside path → files_at (look_of files') path ≡ files_at (look_of files) path
  files_alike path out = ap (files_as (look_of files') path) (found_alike path out) ∙ by ((look_of files).found path)
    where
      by : (f : Found) → files_as (look_of files') path f ≡ files_as (look_of files) path f
      by (File bytes) = refl
      by Dir =
          ap (λ (names : List (List ℕ)). folder_files (look_of files') path (filter counts names)) (names_same paths files files' same order path (outside_clear cs paths are path out))
          ∙ folder_alike path (folder_names (look_of files) path) out
      by Absent = refl

  inside_alike : (dir : List ℕ) → IsOutside dir → dir_files (look_of files') dir ≡ dir_files (look_of files) dir
  inside_alike dir out = λ i. record {
    eapi = bytes_alike (within dir layout.eapi) (outside_within dir layout.eapi out) i;
    parent = bytes_alike (within dir layout.parent) (outside_within dir layout.parent out) i;
    defaults = bytes_alike (within dir layout.defaults) (outside_within dir layout.defaults out) i;
    use_mask = files_alike (within dir layout.use_mask) (outside_within dir layout.use_mask out) i;
    use_force = files_alike (within dir layout.use_force) (outside_within dir layout.use_force out) i;
    use_stable_mask = files_alike (within dir layout.use_stable_mask) (outside_within dir layout.use_stable_mask out) i;
    use_stable_force = files_alike (within dir layout.use_stable_force) (outside_within dir layout.use_stable_force out) i;
    package_mask = files_alike (within dir layout.package_mask) (outside_within dir layout.package_mask out) i;
    package_use_mask = files_alike (within dir layout.package_use_mask) (outside_within dir layout.package_use_mask out) i;
    package_use_force = files_alike (within dir layout.package_use_force) (outside_within dir layout.package_use_force out) i;
    package_use_stable_mask = files_alike (within dir layout.package_use_stable_mask) (outside_within dir layout.package_use_stable_mask out) i;
    package_use_stable_force = files_alike (within dir layout.package_use_stable_force) (outside_within dir layout.package_use_stable_force out) i;
  }

  pub dirs_agree : (dir : List ℕ) → IsOutside dir → dir_at (look_of files') dir ≡ dir_at (look_of files) dir
  unfolding dir_at
  dirs_agree dir out = ap (dir_as (look_of files') dir) (found_alike dir out) ∙ by ((look_of files).found dir)
    where
      by : (f : Found) → dir_as (look_of files') dir f ≡ dir_as (look_of files) dir f
      by (File bytes) = refl
      by Dir = ap Some (inside_alike dir out)
      by Absent = refl

  pub lines_same : desc_lines (look_of files') ≡ desc_lines (look_of files)
  lines_same = ap (λ (text : List ℕ). (desc_read text).lines) (text_alike desc_path desc_outside)

  pub categories_same : categories (look_of files') ≡ categories (look_of files)
  categories_same = ap categories_in (text_alike categories_path categories_outside)

  pub masks_same : files_at (look_of files') mask_path ≡ files_at (look_of files) mask_path
  masks_same = files_alike mask_path mask_outside

  pub own_same : own_notes (look_of files') ≡ own_notes (look_of files)
  own_same =
      ap (λ (text : List ℕ). (desc_read text).notes ++ (category_notes (text_at (look_of files') categories_path) ++ mask_notes (files_at (look_of files') mask_path))) (text_alike desc_path desc_outside)
      ∙ ap (λ (text : List ℕ). (desc_read (text_at (look_of files) desc_path)).notes ++ (category_notes text ++ mask_notes (files_at (look_of files') mask_path))) (text_alike categories_path categories_outside)
      ∙ ap (λ (masks : List NamedFile). (desc_read (text_at (look_of files) desc_path)).notes ++ (category_notes (text_at (look_of files) categories_path) ++ mask_notes masks)) masks_same

  -- what the lines reach, where none of it lies inside
  module _ (outside : list_any is_in_metadata (reached (look_of files) (desc_lines (look_of files))) ≡ false) where
    pub reached_same : reached (look_of files') (desc_lines (look_of files')) ≡ reached (look_of files) (desc_lines (look_of files))
    reached_same =
        ap (reached (look_of files')) lines_same ∙ lines_alike (dir_at (look_of files')) (dir_at (look_of files)) dirs_agree [] (desc_lines (look_of files)) (all_outside _ outside)

    pub dir_notes_same : notes_in (dir_at (look_of files')) (reached (look_of files') (desc_lines (look_of files'))) ≡ notes_in (dir_at (look_of files)) (reached (look_of files) (desc_lines (look_of files)))
    dir_notes_same =
        ap (notes_in (dir_at (look_of files'))) reached_same
        ∙ notes_alike (dir_at (look_of files')) (dir_at (look_of files)) dirs_agree (reached (look_of files) (desc_lines (look_of files))) (all_outside _ outside)

    pub stacks_are : IsClosed (dir_at (look_of files)) (reached (look_of files) (desc_lines (look_of files))) → HaveSameStacks (dir_at (look_of files')) (dir_at (look_of files)) (desc_lines (look_of files))
    stacks_are closed =
        stacks_over (dir_at (look_of files')) (dir_at (look_of files)) (reached (look_of files) (desc_lines (look_of files))) (desc_lines (look_of files))
        (λ dir there. dirs_agree dir (all_outside _ outside dir there)) closed refl

    -- what is read before the packages passes alike
    pub front_same : IsClosed (dir_at (look_of files)) (reached (look_of files) (desc_lines (look_of files))) → passed (look_of files') nothing (front_steps (look_of files')) ≡ passed (look_of files) nothing (front_steps (look_of files))
    front_same closed =
        front_passes (look_of files) (look_of files') IsOutside outside_within found_alike (λ path out. names_same paths files files' same order path (outside_clear cs paths are path out)) desc_outside categories_outside mask_outside
        (all_outside _ outside) reached_same (stacks_are closed).limit nothing
