-- No path stands twice among those that a load counts and lets go.
use Rattle.std.proofs.Common.{◌≡◌, ℕ, Bool, true, false, ◌||◌, List, [], ◌∷◌, ◌++◌, Some, None, refl, sym, ap, subst, ◌∙◌, map}
use Rattle.std.specs.Prelude.{not, if◌then◌else◌, filter_map, flat_map}
use Rattle.std.specs.List.{cons_option, list_all}
use Rattle.std.specs.Str.{bytes_eq}
use Rattle.std.proofs.lemmas.Bool.{and_parts}
use Rattle.std.proofs.lemmas.List.Elements.{filter_map-append}
use Rattle.std.proofs.lemmas.Slice.Eq.{bytes_eq-Decides}
use Rattle.gv_base.specs.Laws.{InOrderLaw}
use Rattle.gv_base.specs.Order.{has_text, in_order}
use Rattle.gv_base.specs.declared.tree.Found.{Found}
use Rattle.gv_base.specs.declared.tree.Found.TheVariants.{File, Dir, Absent}
use Rattle.gv_profile.specs.Lines.{file_lines, line_words}
use Rattle.gv_reading.specs.Paths.{within}
use Rattle.gv_profile.specs.declared.desc.DescLine.{DescLine}
use Rattle.gv_version.specs.Laws.{IsDivided}
use Rattle.gv_version.specs.Names.{is_category}
use Rattle.gv_load.specs.Directories.{steps_of, dir_at, dir_steps, flag_steps, inside_steps, package_steps, pair_steps, steps_as}
use Rattle.gv_reading.specs.Look.{Look, text_at}
use Rattle.gv_reading.specs.NamedFiles.{file_steps, folder_steps, folder_names, name_steps}
use Rattle.gv_load.specs.Categories.{categories_in, category_in, ebuilds_in, folders, is_pf, listed, name_of, pfs_of}
use Rattle.gv_load.specs.Entries.{all_reads, eclass_names, names_in}
use Rattle.gv_load.specs.Layout.{layout}
use Rattle.gv_reload.specs.Once.{AreDistinct, OnceLaw, once_path, once_paths}
use Rattle.gv_load.specs.Order.{categories, categories_steps, category_steps, desc_lines, eclass_steps, folder_lists, list_steps, listing_steps, load_steps, packages_steps, pf_steps, pfs_steps, profiles_steps, reached, stack_steps}
use Rattle.gv_load.specs.Paths.{categories_path, ebuild_path, eclass_path, entry_path, mask_path}
use Rattle.gv_load.specs.Reaching.{Dirs}
use Rattle.gv_reading.specs.Reading.{Step, once}
use Rattle.gv_reload.proofs.Apart.{all_groups, are_distinct, filter_distinct, groups_apart, map_distinct, two_apart}
use Rattle.gv_reload.proofs.OncePaths.{all_are_eclasses, all_of_category, all_of_pf, category_at, eclass_at, eclass_back, is_eclass, none_is_eclass, paths_by, pf_at, pf_distinct}
use Rattle.gv_reload.proofs.Slashes.{both, plain_category, plain_name, plain_pf}
use Rattle.gv_load.specs.ListLemmas.{all_pass, itself, on_right}

-- ---- the steps before the packages have none
no_more : (xs ys : List Step) → once_paths xs ≡ [] → once_paths ys ≡ [] → once_paths (xs ++ ys) ≡ []
no_more xs ys nx ny = filter_map-append once_path xs ys ∙ ap (λ ps. ps ++ once_paths ys) nx ∙ ny

no_names : (path : List ℕ) (names : List (List ℕ)) → once_paths (name_steps path names) ≡ []
no_names path [] = refl
no_names path (name ∷ names) = no_names path names

no_folder : (look : Look) (path : List ℕ) (found : Found) → once_paths (folder_steps look path found) ≡ []
no_folder look path (File bytes) = refl
no_folder look path Dir = no_names path (folder_names look path)
no_folder look path Absent = refl

no_files : (look : Look) (path : List ℕ) → once_paths (file_steps look path) ≡ []
no_files look path = no_folder look path (look.found path)

no_pair : (look : Look) (dir mask force : List ℕ) → once_paths (pair_steps look dir mask force) ≡ []
no_pair look dir mask force = no_more (file_steps look (within dir mask)) (file_steps look (within dir force)) (no_files look (within dir mask)) (no_files look (within dir force))

no_flags : (look : Look) (dir : List ℕ) → once_paths (flag_steps look dir) ≡ []
no_flags look dir =
    no_more (pair_steps look dir layout.use_mask layout.use_force) (pair_steps look dir layout.use_stable_mask layout.use_stable_force)
    (no_pair look dir layout.use_mask layout.use_force) (no_pair look dir layout.use_stable_mask layout.use_stable_force)

no_packages : (look : Look) (dir : List ℕ) → once_paths (package_steps look dir) ≡ []
no_packages look dir =
    no_more (file_steps look (within dir layout.package_mask)) _ (no_files look (within dir layout.package_mask))
    (no_more (pair_steps look dir layout.package_use_mask layout.package_use_force) (pair_steps look dir layout.package_use_stable_mask layout.package_use_stable_force)
    (no_pair look dir layout.package_use_mask layout.package_use_force) (no_pair look dir layout.package_use_stable_mask layout.package_use_stable_force))

no_inside : (look : Look) (dir : List ℕ) → once_paths (inside_steps look dir) ≡ []
no_inside look dir = no_more (flag_steps look dir) (package_steps look dir) (no_flags look dir) (no_packages look dir)

no_steps_as : (look : Look) (dir : List ℕ) (found : Found) → once_paths (steps_as look dir found) ≡ []
no_steps_as look dir (File bytes) = refl
no_steps_as look dir Dir = no_inside look dir
no_steps_as look dir Absent = refl

no_dir : (look : Look) (dir : List ℕ) → once_paths (dir_steps look dir) ≡ []
unfolding dir_steps
no_dir look dir = no_steps_as look dir (look.found dir)

no_dirs : (look : Look) (dirs : List (List ℕ)) → once_paths (steps_of look dirs) ≡ []
no_dirs look [] = refl
no_dirs look (dir ∷ dirs) = no_more (dir_steps look dir) (steps_of look dirs) (no_dir look dir) (no_dirs look dirs)

no_stacks : (dirs : Dirs) (lines : List DescLine) → once_paths (stack_steps dirs lines) ≡ []
no_stacks dirs [] = refl
no_stacks dirs (line ∷ lines) = no_stacks dirs lines

no_profiles : (look : Look) (lines : List DescLine) → once_paths (profiles_steps look lines) ≡ []
no_profiles look lines = no_more (steps_of look (reached look lines)) (stack_steps (dir_at look) lines) (no_dirs look (reached look lines)) (no_stacks (dir_at look) lines)

no_lists : (look : Look) → once_paths (list_steps look) ≡ []
no_lists look = no_files look mask_path

-- ---- those of the packages
no_listings : (category : List ℕ) (names : List (List ℕ)) → once_paths (folder_lists category names) ≡ []
no_listings category [] = refl
no_listings category (name ∷ names) = no_listings category names

of_pf : (listed : List (List ℕ)) (category pf : List ℕ) → once_paths (pf_steps listed category pf) ≡ paths_by (has_text listed pf) category pf
of_pf listed category pf = by (has_text listed pf)
  where
    by : (b : Bool) → once_paths ((if b then once (entry_path category pf) ∷ [] else []) ++ once (ebuild_path category (name_of pf) pf) ∷ []) ≡ paths_by b category pf
    by true = refl
    by false = refl

abbrev pub paths_in : Look → List ℕ → List (List ℕ)
paths_in look category = flat_map (λ pf. paths_by (has_text (listed look category) pf) category pf) (pfs_of look category)

pub of_pfs : (listed : List (List ℕ)) (category : List ℕ) (pfs : List (List ℕ)) → once_paths (pfs_steps listed category pfs) ≡ flat_map (λ pf. paths_by (has_text listed pf) category pf) pfs
of_pfs listed category [] = refl
of_pfs listed category (pf ∷ pfs) =
    filter_map-append once_path (pf_steps listed category pf) (pfs_steps listed category pfs)
    ∙ ap (λ ps. ps ++ once_paths (pfs_steps listed category pfs)) (of_pf listed category pf)
    ∙ ap (λ ps. paths_by (has_text listed pf) category pf ++ ps) (of_pfs listed category pfs)

of_category : (look : Look) (category : List ℕ) → once_paths (category_steps look category) ≡ paths_in look category
of_category look category =
    filter_map-append once_path (listing_steps look category) (pfs_steps (listed look category) category (pfs_of look category))
    ∙ ap (λ ps. ps ++ once_paths (pfs_steps (listed look category) category (pfs_of look category))) (no_listings category (folders look category))
    ∙ of_pfs (listed look category) category (pfs_of look category)

of_categories : (look : Look) (all : List (List ℕ)) → once_paths (categories_steps look all) ≡ flat_map (paths_in look) all
of_categories look [] = refl
of_categories look (category ∷ all) =
    filter_map-append once_path (category_steps look category) (categories_steps look all)
    ∙ ap (λ ps. ps ++ once_paths (categories_steps look all)) (of_category look category)
    ∙ ap (λ ps. paths_in look category ++ ps) (of_categories look all)

of_eclasses : (names : List (List ℕ)) → once_paths (eclass_steps names) ≡ map eclass_path names
of_eclasses [] = refl
of_eclasses (name ∷ names) = ap (λ ps. eclass_path name ∷ ps) (of_eclasses names)

pub of_packages : (look : Look) (all : List (List ℕ)) → once_paths (packages_steps look all) ≡ flat_map (paths_in look) all ++ map eclass_path (eclass_names (all_reads look all))
of_packages look all =
    filter_map-append once_path (categories_steps look all) (eclass_steps (eclass_names (all_reads look all)))
    ∙ ap (λ ps. ps ++ once_paths (eclass_steps (eclass_names (all_reads look all)))) (of_categories look all)
    ∙ ap (λ ps. flat_map (paths_in look) all ++ ps) (of_eclasses (eclass_names (all_reads look all)))

of_all : (look : Look) → once_paths (load_steps look) ≡ flat_map (paths_in look) (categories look) ++ map eclass_path (eclass_names (all_reads look (categories look)))
unfolding load_steps
of_all look =
    filter_map-append once_path (list_steps look) _ ∙ ap (λ ps. ps ++ once_paths (profiles_steps look (desc_lines look) ++ packages_steps look (categories look))) (no_lists look)
    ∙ filter_map-append once_path (profiles_steps look (desc_lines look)) (packages_steps look (categories look))
    ∙ ap (λ ps. ps ++ once_paths (packages_steps look (categories look))) (no_profiles look (desc_lines look)) ∙ of_packages look (categories look)

-- ---- categories are categories
all_by_members : (test : List ℕ → Bool) (xs : List (List ℕ)) → ((x : List ℕ) → has_text xs x ≡ true → test x ≡ true) → list_all test xs ≡ true
all_by_members test [] passes = refl
all_by_members test (x ∷ xs) passes =
    both (test x) (list_all test xs) (passes x (itself x xs)) (all_by_members test xs (λ y is. passes y (on_right (bytes_eq y x) (has_text xs y) is)))

pub member_passes : (test : List ℕ → Bool) (xs : List (List ℕ)) → list_all test xs ≡ true → (x : List ℕ) → has_text xs x ≡ true → test x ≡ true
member_passes test [] are x there = cc
member_passes test (y ∷ ys) are x there =
    let parts = and_parts (test y) (list_all test ys) are in
    by (bytes_eq x y) refl parts.0 (member_passes test ys parts.1 x) there
  where
    by : (e : Bool) → bytes_eq x y ≡ e → test y ≡ true → (has_text ys x ≡ true → test x ≡ true) → (e || has_text ys x) ≡ true → test x ≡ true
    by true is here later h = ap test ((bytes_eq-Decides x y).0 is) ∙ here
    by false is here later h = later h

good_word : (words : List (List ℕ)) (rest : List (List ℕ)) → list_all is_category rest ≡ true → list_all is_category (cons_option (category_in words) rest) ≡ true
good_word [] rest are = are
good_word (word ∷ []) rest are = by (is_category word) refl
  where
    by : (b : Bool) → is_category word ≡ b → list_all is_category (cons_option (if b then Some word else None) rest) ≡ true
    by true is = both (is_category word) (list_all is_category rest) is are
    by false is = are
good_word (word ∷ next ∷ words) rest are = are

good_lines : (lines : List (List ℕ)) → list_all is_category (filter_map (λ line. category_in (line_words line)) lines) ≡ true
good_lines [] = refl
good_lines (line ∷ lines) = good_word (line_words line) (filter_map (λ l. category_in (line_words l)) lines) (good_lines lines)

pub all_categories : InOrderLaw → (bytes : List ℕ) → list_all is_category (categories_in bytes) ≡ true
all_categories law bytes =
    let found = filter_map (λ line. category_in (line_words line)) (file_lines bytes) in
    all_by_members is_category (in_order found) (λ x there. member_passes is_category found (good_lines (file_lines bytes)) x (law.members found x ∙ there))

ordered_distinct : InOrderLaw → (xs : List (List ℕ)) → AreDistinct (in_order xs)
ordered_distinct law xs = are_distinct (in_order xs) (law.distinct (in_order xs) (law.ascends xs))

-- ---- the law
module _ (order : InOrderLaw) (division : (bytes : List ℕ) → IsDivided bytes) (look : Look) where
  pfs_are : (category : List ℕ) → list_all is_pf (pfs_of look category) ≡ true
  pfs_are category = all_pass is_pf (in_order (listed look category ++ flat_map (ebuilds_in look category) (folders look category)))

  of_one : (category : List ℕ) → is_category category ≡ true → list_all (λ x. bytes_eq (category_at x) category) (paths_in look category) ≡ true
  of_one category is =
      let pc = plain_category category is in
      all_groups (λ x. bytes_eq (category_at x) category) (λ pf. paths_by (has_text (listed look category) pf) category pf) is_pf
      (λ pf good. let pp = plain_pf division pf good in all_of_category (has_text (listed look category) pf) category pf pc pp (plain_name pf pp)) (pfs_of look category) (pfs_are category)

  one_distinct : (category : List ℕ) → is_category category ≡ true → AreDistinct (paths_in look category)
  one_distinct category is =
      let pc = plain_category category is in
      groups_apart pf_at (λ pf. paths_by (has_text (listed look category) pf) category pf) is_pf
      (λ pf good. let pp = plain_pf division pf good in all_of_pf (has_text (listed look category) pf) category pf pc pp (plain_name pf pp))
      (λ pf good. let pp = plain_pf division pf good in pf_distinct (has_text (listed look category) pf) category pf pc pp (plain_name pf pp))
      (pfs_of look category) (pfs_are category) (filter_distinct is_pf (in_order (listed look category ++ flat_map (ebuilds_in look category) (folders look category))) (ordered_distinct order (listed look category ++ flat_map (ebuilds_in look category) (folders look category))))

  no_eclass : (category : List ℕ) → is_category category ≡ true → list_all (λ x. not (is_eclass x)) (paths_in look category) ≡ true
  no_eclass category is =
      all_groups (λ x. not (is_eclass x)) (λ pf. paths_by (has_text (listed look category) pf) category pf) is_pf
      (λ pf good. none_is_eclass (has_text (listed look category) pf) category pf) (pfs_of look category) (pfs_are category)

  all_distinct : (cs names : List (List ℕ)) → list_all is_category cs ≡ true → AreDistinct cs → AreDistinct names → AreDistinct (flat_map (paths_in look) cs ++ map eclass_path names)
  all_distinct cs names are dc dn =
      two_apart (λ x. not (is_eclass x)) (flat_map (paths_in look) cs) (map eclass_path names) (all_groups (λ x. not (is_eclass x)) (paths_in look) is_category no_eclass cs are) (all_are_eclasses names)
      (groups_apart category_at (paths_in look) is_category of_one one_distinct cs are dc) (map_distinct eclass_path eclass_at eclass_back names dn)

paths_distinct : InOrderLaw → ((bytes : List ℕ) → IsDivided bytes) → (look : Look) → AreDistinct (flat_map (paths_in look) (categories look) ++ map eclass_path (eclass_names (all_reads look (categories look))))
paths_distinct order division look =
    all_distinct order division look (categories look) (eclass_names (all_reads look (categories look))) (all_categories order (text_at look categories_path))
    (ordered_distinct order (filter_map (λ line. category_in (line_words line)) (file_lines (text_at look categories_path)))) (ordered_distinct order (flat_map names_in (all_reads look (categories look))))

pub read_once : InOrderLaw → ((bytes : List ℕ) → IsDivided bytes) → OnceLaw
read_once order division look = subst AreDistinct (sym (of_all look)) (paths_distinct order division look)

-- of the packages alone
pub packages_once : InOrderLaw → ((bytes : List ℕ) → IsDivided bytes) → (look : Look) → AreDistinct (once_paths (packages_steps look (categories look)))
packages_once order division look = subst AreDistinct (sym (of_packages look (categories look))) (paths_distinct order division look)
