-- That a load of the same tree with other entries passes, where there is room for what these may name.
use Rattle.std.proofs.Common.{◌≡◌, ℕ, suc, ◌+◌, ◌≤◌, Bool, true, false, cond, List, [], ◌∷◌, ◌++◌, Some, None, length, take, drop, refl, sym, ap, subst, ◌∙◌, arith, true≢false, map, append_assoc, length-append}
use Rattle.std.specs.Prelude.{Option, Ok, Err, nat_eq, not, ◌&&◌, if◌then◌else◌, filter, flat_map, filter_map, codes, unwrap_or}
use Rattle.std.specs.List.{list_all, position_or_len}
use Rattle.std.specs.Option.{option_map, option_map_or}
use Rattle.std.specs.Str.{bytes_eq}
use Rattle.std.proofs.Math.Path.{fun_ext}
use Rattle.std.proofs.Math.Seq.{drop-append-add}
use Rattle.std.proofs.lemmas.Bool.{and_parts}
use Rattle.std.proofs.lemmas.Grind.{flat_map-append}
use Rattle.std.proofs.lemmas.List.{length-map, take-append-drop}
use Rattle.std.proofs.lemmas.List.Elements.{filter_map-append}
use Rattle.std.proofs.lemmas.List.Folds.{list_all-append}
use Rattle.std.proofs.lemmas.Slice.Eq.{bytes_eq-Decides}
use Rattle.md5.specs.Md5.{md5}
use Rattle.gv_base.specs.Cut.{up_to_first}
use Rattle.gv_base.specs.Laws.{InOrderLaw}
use Rattle.gv_base.specs.Order.{has_text, in_order}
use Rattle.gv_entry.specs.EntryRead.{entry_of}
use Rattle.gv_version.specs.Laws.{IsDivided}
use Rattle.gv_version.specs.Names.{is_category, is_package}
use Rattle.gv_reading.specs.declared.faults.LoadFault.{LoadFault}
use Rattle.gv_load.specs.Categories.{categories_in, ebuild_in, ebuilds_in, folders, is_pf, listed, name_of, pfs_of}
use Rattle.gv_reload.specs.Counting.{AlikeBut, FitsAt, FitsEdited, ebuild_by, front_steps, is_light, list_path, list_paths, most_more, names_at, names_by, names_written, new_files, paths_besides, with_more}
use Rattle.gv_reading.specs.Look.{Look, bytes_at, text_at}
use Rattle.gv_load.specs.Entries.{all_reads, digest_at, eclass_names, names_in, names_with, pf_read, reads_of}
use Rattle.gv_reload.specs.EntryEdits.{entry_parts, is_entry, parts_behind}
use Rattle.gv_load.specs.Loading.{if_passed, loading}
use Rattle.gv_reload.specs.Once.{AreDistinct, once_paths}
use Rattle.gv_load.specs.Order.{categories, categories_steps, category_steps, desc_lines, eclass_steps, folder_lists, list_steps, listing_steps, load_steps, packages_steps, pf_steps, pfs_steps, profiles_steps}
use Rattle.gv_load.specs.Paths.{cache_dir, categories_path, ebuild_path, eclass_path, entry_path}
use Rattle.gv_reading.specs.Reader.{Seen, nothing}
use Rattle.gv_reading.specs.Reading.{Out, Step, once, and_then, passed, most_files}
use Rattle.gv_load.specs.Repository.{repository}
use Rattle.gv_reload.proofs.Counting.{filtered, kept, more_pass}
use Rattle.gv_reload.proofs.OnceLaw.{all_categories, of_packages, packages_once, paths_in}
use Rattle.gv_reload.proofs.OncePaths.{ebuild_is, entry_is, paths_by}
use Rattle.gv_reload.proofs.OncePaths as paths_told
use Rattle.gv_reading.specs.Passing.{passed-append}
use Rattle.gv_reload.proofs.Slashes.{both, is_plain, plain_category, plain_name, plain_pf}
use Rattle.gv_load.specs.ListLemmas.{by_case, in_back, in_either, in_front, itself, on_right}

-- ---- texts in groups
pub no_text : {X : Type 0} → false ≡ true → X
no_text is = cc

pub same_text : (x y : List ℕ) → bytes_eq x y ≡ true → y ≡ x
same_text x y is = sym ((bytes_eq-Decides x y).0 is)

one_text : (x y : List ℕ) → has_text (y ∷ []) x ≡ true → y ≡ x
one_text x y there = by_case (bytes_eq x y) false there (same_text x y) (λ is. no_text is)

pub in_group : (f : List ℕ → List (List ℕ)) (ks : List (List ℕ)) (x : List ℕ) → has_text (flat_map f ks) x ≡ true → (k : List ℕ) × (has_text ks k ≡ true) × (has_text (f k) x ≡ true)
in_group f [] x there = no_text there
in_group f (k ∷ ks) x there =
    in_either (f k) (flat_map f ks) x there
    (λ here. (k, itself k ks, here))
    (λ later. let more = in_group f ks x later in (more.0, on_right (bytes_eq more.0 k) _ more.1, more.2))

pub of_group : (f : List ℕ → List (List ℕ)) (ks : List (List ℕ)) (k x : List ℕ) → has_text ks k ≡ true → has_text (f k) x ≡ true → has_text (flat_map f ks) x ≡ true
of_group f [] k x there has = there
of_group f (y ∷ ys) k x there has =
    by_case (bytes_eq k y) (has_text ys k) there
    (λ is. in_front (f y) (flat_map f ys) x (ap (λ z. has_text (f z) x) (same_text k y is) ∙ has))
    (λ later. in_back (f y) (flat_map f ys) x (of_group f ys k x later has))

pub in_map : (f : List ℕ → List ℕ) (ks : List (List ℕ)) (x : List ℕ) → has_text (map f ks) x ≡ true → (k : List ℕ) × (has_text ks k ≡ true) × (f k ≡ x)
in_map f [] x there = no_text there
in_map f (k ∷ ks) x there =
    by_case (bytes_eq x (f k)) (has_text (map f ks) x) there
    (λ is. (k, itself k ks, same_text x (f k) is))
    (λ later. let more = in_map f ks x later in (more.0, on_right (bytes_eq more.0 k) _ more.1, more.2))

pub of_map : (f : List ℕ → List ℕ) (ks : List (List ℕ)) (k : List ℕ) → has_text ks k ≡ true → has_text (map f ks) (f k) ≡ true
of_map f [] k there = there
of_map f (y ∷ ys) k there =
    by_case (bytes_eq k y) (has_text ys k) there
    (λ is. subst (λ (z : List ℕ). has_text (f y ∷ map f ys) (f z) ≡ true) (same_text k y is) (itself (f y) (map f ys)))
    (λ later. on_right (bytes_eq (f k) (f y)) _ (of_map f ys k later))

pub member_passes : (test : List ℕ → Bool) (xs : List (List ℕ)) (x : List ℕ) → list_all test xs ≡ true → has_text xs x ≡ true → test x ≡ true
member_passes test [] x are there = no_text there
member_passes test (y ∷ ys) x are there =
    let parts = and_parts (test y) (list_all test ys) are in
    by_case (bytes_eq x y) (has_text ys x) there (λ is. ap test (sym (same_text x y is)) ∙ parts.0) (member_passes test ys x parts.1)

-- ---- the steps of packages list and count alone
pub light_both : (xs ys : List Step) → list_all is_light xs ≡ true → list_all is_light ys ≡ true → list_all is_light (xs ++ ys) ≡ true
light_both xs ys lx ly = list_all-append is_light xs ys ∙ both _ _ lx ly

light_lists : (category : List ℕ) (names : List (List ℕ)) → list_all is_light (folder_lists category names) ≡ true
light_lists category [] = refl
light_lists category (name ∷ names) = light_lists category names

light_pf : (listed : List (List ℕ)) (category pf : List ℕ) → list_all is_light (pf_steps listed category pf) ≡ true
light_pf listed category pf = by (has_text listed pf)
  where
    by : (b : Bool) → list_all is_light ((if b then once (entry_path category pf) ∷ [] else []) ++ once (ebuild_path category (name_of pf) pf) ∷ []) ≡ true
    by true = refl
    by false = refl

pub light_pfs : (listed : List (List ℕ)) (category : List ℕ) (pfs : List (List ℕ)) → list_all is_light (pfs_steps listed category pfs) ≡ true
light_pfs listed category [] = refl
light_pfs listed category (pf ∷ pfs) = light_both (pf_steps listed category pf) (pfs_steps listed category pfs) (light_pf listed category pf) (light_pfs listed category pfs)

light_category : (look : Look) (category : List ℕ) → list_all is_light (category_steps look category) ≡ true
light_category look category =
    light_both (listing_steps look category) (pfs_steps (listed look category) category (pfs_of look category))
    (light_lists category (folders look category)) (light_pfs (listed look category) category (pfs_of look category))

light_categories : (look : Look) (all : List (List ℕ)) → list_all is_light (categories_steps look all) ≡ true
light_categories look [] = refl
light_categories look (category ∷ all) = light_both (category_steps look category) (categories_steps look all) (light_category look category) (light_categories look all)

pub light_eclasses : (names : List (List ℕ)) → list_all is_light (eclass_steps names) ≡ true
light_eclasses [] = refl
light_eclasses (name ∷ names) = light_eclasses names

pub light_packages : (look : Look) (all : List (List ℕ)) → list_all is_light (packages_steps look all) ≡ true
light_packages look all =
    light_both (categories_steps look all) (eclass_steps (eclass_names (all_reads look all))) (light_categories look all) (light_eclasses (eclass_names (all_reads look all)))

-- ---- what is listed
no_lists_of_pf : (listed : List (List ℕ)) (category pf : List ℕ) → list_paths (pf_steps listed category pf) ≡ []
no_lists_of_pf listed category pf = by (has_text listed pf)
  where
    by : (b : Bool) → list_paths ((if b then once (entry_path category pf) ∷ [] else []) ++ once (ebuild_path category (name_of pf) pf) ∷ []) ≡ []
    by true = refl
    by false = refl

no_lists_of_pfs : (listed : List (List ℕ)) (category : List ℕ) (pfs : List (List ℕ)) → list_paths (pfs_steps listed category pfs) ≡ []
no_lists_of_pfs listed category [] = refl
no_lists_of_pfs listed category (pf ∷ pfs) =
    filter_map-append list_path (pf_steps listed category pf) (pfs_steps listed category pfs)
    ∙ ap (λ ps. ps ++ list_paths (pfs_steps listed category pfs)) (no_lists_of_pf listed category pf) ∙ no_lists_of_pfs listed category pfs

no_lists_of_eclasses : (names : List (List ℕ)) → list_paths (eclass_steps names) ≡ []
no_lists_of_eclasses [] = refl
no_lists_of_eclasses (name ∷ names) = no_lists_of_eclasses names

abbrev lists_in : (category : List ℕ) → (names : List (List ℕ)) → List (List ℕ)
lists_in category names = cache_dir category ∷ category ∷ list_paths (folder_lists category names)

lists_of_category : (look : Look) (category : List ℕ) → list_paths (category_steps look category) ≡ lists_in category (folders look category) ++ []
lists_of_category look category =
    filter_map-append list_path (listing_steps look category) (pfs_steps (listed look category) category (pfs_of look category))
    ∙ ap (λ ps. list_paths (listing_steps look category) ++ ps) (no_lists_of_pfs (listed look category) category (pfs_of look category))

same_lists : (old new : Look) (all : List (List ℕ)) → ((category : List ℕ) → has_text all category ≡ true → folders new category ≡ folders old category) → list_paths (categories_steps new all) ≡ list_paths (categories_steps old all)
same_lists old new [] same = refl
same_lists old new (category ∷ all) same =
    let here : list_paths (category_steps new category) ≡ list_paths (category_steps old category) =
    lists_of_category new category ∙ ap (λ names. lists_in category names ++ []) (same category (itself category all)) ∙ sym (lists_of_category old category) in
    filter_map-append list_path (category_steps new category) (categories_steps new all)
    ∙ ap (λ ps. ps ++ list_paths (categories_steps new all)) here
    ∙ ap (λ ps. list_paths (category_steps old category) ++ ps) (same_lists old new all (λ c there. same c (on_right (bytes_eq c category) _ there)))
    ∙ sym (filter_map-append list_path (category_steps old category) (categories_steps old all))

lists_of_packages : (look : Look) (all : List (List ℕ)) → list_paths (packages_steps look all) ≡ list_paths (categories_steps look all) ++ []
lists_of_packages look all =
    filter_map-append list_path (categories_steps look all) (eclass_steps (eclass_names (all_reads look all)))
    ∙ ap (λ ps. list_paths (categories_steps look all) ++ ps) (no_lists_of_eclasses (eclass_names (all_reads look all)))

-- ---- the eclasses that are named
abbrev pf_names : Look → (category pf : List ℕ) → List (List ℕ)
pf_names look category pf = names_in (pf_read look (listed look category) category pf)

abbrev category_names : Look → List ℕ → List (List ℕ)
category_names look category = flat_map (pf_names look category) (pfs_of look category)

names_of_pfs : (look : Look) (category : List ℕ) (pfs : List (List ℕ)) → flat_map names_in (map (pf_read look (listed look category) category) pfs) ≡ flat_map (pf_names look category) pfs
names_of_pfs look category [] = refl
names_of_pfs look category (pf ∷ pfs) = ap (λ ns. pf_names look category pf ++ ns) (names_of_pfs look category pfs)

names_of_all : (look : Look) (all : List (List ℕ)) → flat_map names_in (all_reads look all) ≡ flat_map (category_names look) all
names_of_all look [] = refl
names_of_all look (category ∷ all) =
    flat_map-append names_in (reads_of look category) (all_reads look all)
    ∙ ap (λ ns. ns ++ flat_map names_in (all_reads look all)) (names_of_pfs look category (pfs_of look category))
    ∙ ap (λ ns. category_names look category ++ ns) (names_of_all look all)

has_name : InOrderLaw → (look : Look) (all : List (List ℕ)) (name : List ℕ) → has_text (eclass_names (all_reads look all)) name ≡ has_text (flat_map (category_names look) all) name
has_name order look all name = sym (order.members (flat_map names_in (all_reads look all)) name) ∙ ap (λ ns. has_text ns name) (names_of_all look all)

-- ---- the parts of an entry's path
pub up_step : (b : ℕ) (bs : List ℕ) → up_to_first 47 (b ∷ bs) ≡ cond (nat_eq b 47) [] (b ∷ up_to_first 47 bs)
up_step b bs = by (nat_eq b 47) refl
  where
    by : (t : Bool) → nat_eq b 47 ≡ t → up_to_first 47 (b ∷ bs) ≡ cond t [] (b ∷ up_to_first 47 bs)
    by true is = rw is refl
    by false is = rw is (let e : 1 + position_or_len (λ c. nat_eq c 47) bs ≡ suc (position_or_len (λ c. nat_eq c 47) bs) = omega arith in rw e refl)

pub up_to_slash : (text rest : List ℕ) → is_plain text ≡ true → up_to_first 47 (text ++ 47 ∷ rest) ≡ text
up_to_slash [] rest plain = up_step 47 rest
up_to_slash (b ∷ bs) rest plain =
    let parts = and_parts (not (nat_eq b 47)) (is_plain bs) plain in
    up_step b (bs ++ 47 ∷ rest) ∙ by (nat_eq b 47) parts.0 (up_to_slash bs rest parts.1)
  where
    by : (t : Bool) → not t ≡ true → up_to_first 47 (bs ++ 47 ∷ rest) ≡ bs → cond t [] (b ∷ up_to_first 47 (bs ++ 47 ∷ rest)) ≡ b ∷ bs
    by true isnt later = no_text isnt
    by false isnt later = ap (λ xs. b ∷ xs) later

pub parts_are : (category pf : List ℕ) → is_plain category ≡ true → entry_parts (entry_path category pf) ≡ Some (category, pf)
unfolding cache_dir
parts_are category pf plain =
    let first : up_to_first 47 (category ++ 47 ∷ pf) ≡ category = up_to_slash category pf plain in
    let rest : drop (length category + 1) (category ++ 47 ∷ pf) ≡ pf = drop-append-add category (47 ∷ pf) 1 in
    let both_parts : parts_behind (category ++ 47 ∷ pf) ≡ (category, pf) =
    ap (λ c. let p : List ℕ × List ℕ = (c, drop (length c + 1) (category ++ 47 ∷ pf)) in p) first ∙ ap (λ r. let p : List ℕ × List ℕ = (category, r) in p) rest in
    ap Some both_parts

rest_is : (rest : List ℕ) → is_pf (drop (length (up_to_first 47 rest) + 1) rest) ≡ true → rest ≡ up_to_first 47 rest ++ 47 ∷ drop (length (up_to_first 47 rest) + 1) rest
rest_is [] good = no_text good
rest_is (b ∷ bs) good = by (nat_eq b 47) refl (rest_is bs)
  where
    front : List ℕ
    front = up_to_first 47 bs

    by : (t : Bool) → nat_eq b 47 ≡ t → (is_pf (drop (length front + 1) bs) ≡ true → bs ≡ front ++ 47 ∷ drop (length front + 1) bs) →
        b ∷ bs ≡ up_to_first 47 (b ∷ bs) ++ 47 ∷ drop (length (up_to_first 47 (b ∷ bs)) + 1) (b ∷ bs)
    by true is later =
        let e : b ≡ 47 = grind arith in
        let none : up_to_first 47 (b ∷ bs) ≡ [] = up_step b bs ∙ rw is refl in
        rw none (ap (λ x. x ∷ bs) e)
    by false is later =
        let more : up_to_first 47 (b ∷ bs) ≡ b ∷ front = up_step b bs ∙ rw is refl in
        let count : suc (length front) + 1 ≡ suc (length front + 1) = omega arith in
        let there : drop (suc (length front) + 1) (b ∷ bs) ≡ drop (length front + 1) bs = rw count refl in
        let here : is_pf (drop (length front + 1) bs) ≡ true = sym (ap is_pf (ap (λ xs. drop (length xs + 1) (b ∷ bs)) more ∙ there)) ∙ good in
        ap (λ xs. b ∷ xs) (later here) ∙ sym (ap (λ xs. xs ++ 47 ∷ drop (length xs + 1) (b ∷ bs)) more ∙ ap (λ ys. (b ∷ front) ++ 47 ∷ ys) there)

pub record IsWritten (all : List (List ℕ)) (path : List ℕ) : Type 0 where
  pub category : List ℕ
  pub pf : List ℕ
  pub written : path ≡ entry_path category pf
  pub known : has_text all category ≡ true
  pub formed : is_pf pf ≡ true

prefix_is : (prefix path : List ℕ) → bytes_eq (take (length prefix) path) prefix ≡ true → path ≡ prefix ++ drop (length prefix) path
prefix_is prefix path is = sym (take-append-drop (length prefix) path) ∙ ap (λ xs. xs ++ drop (length prefix) path) ((bytes_eq-Decides _ _).0 is)

pub written_is : (all : List (List ℕ)) (path : List ℕ) → is_entry all path ≡ true → IsWritten all path
unfolding cache_dir
written_is all path is = by (bytes_eq (take (length (codes "metadata/md5-cache/")) path) (codes "metadata/md5-cache/")) refl is
  where
    rest : List ℕ
    rest = drop (length (codes "metadata/md5-cache/")) path

    by : (b : Bool) → bytes_eq (take (length (codes "metadata/md5-cache/")) path) (codes "metadata/md5-cache/") ≡ b →
        option_map_or (λ parts. has_text all parts.0 && is_pf parts.1) (option_map parts_behind (if b then Some rest else None)) false ≡ true → IsWritten all path
    by false at good = no_text good
    by true at good =
        let parts = and_parts (has_text all (parts_behind rest).0) (is_pf (parts_behind rest).1) good in
        record {
          category = (parts_behind rest).0;
          pf = (parts_behind rest).1;
          written = prefix_is (codes "metadata/md5-cache/") path at ∙ ap (λ xs. codes "metadata/md5-cache/" ++ xs) (rest_is rest parts.1);
          known = parts.0;
          formed = parts.1;
        }

three_slashes : ((bytes : List ℕ) → IsDivided bytes) → (all paths : List (List ℕ)) → list_all is_category all ≡ true → list_all (is_entry all) paths ≡ true → (path : List ℕ) → has_text paths path ≡ true → paths_told.is_entry path ≡ true
three_slashes division all paths are edited path there =
    let w = written_is all path (member_passes (is_entry all) paths path edited there) in
    ap paths_told.is_entry w.written ∙ entry_is w.category w.pf (plain_category w.category (member_passes is_category all w.category are w.known)) (plain_pf division w.pf w.formed)

-- an ebuild's path has one slash less
pub no_ebuild : ((bytes : List ℕ) → IsDivided bytes) → (all paths : List (List ℕ)) → list_all is_category all ≡ true → list_all (is_entry all) paths ≡ true →
    (category pf : List ℕ) → has_text all category ≡ true → is_pf pf ≡ true → has_text paths (ebuild_path category (name_of pf) pf) ≡ false
no_ebuild division all paths are edited category pf there good = by (has_text paths (ebuild_path category (name_of pf) pf)) refl
  where
    plain : is_plain pf ≡ true
    plain = plain_pf division pf good

    by : (b : Bool) → has_text paths (ebuild_path category (name_of pf) pf) ≡ b → b ≡ false
    by true is =
        absurd (true≢false (sym (three_slashes division all paths are edited (ebuild_path category (name_of pf) pf) is)
        ∙ ebuild_is category (name_of pf) pf (plain_category category (member_passes is_category all category are there)) (plain_name pf plain) plain))
    by false is = refl

-- ---- of one PF
pub ebuild_told : (all : List (List ℕ)) → list_all is_category all ≡ true → (category pf : List ℕ) → has_text all category ≡ true → ebuild_by (entry_path category pf) ≡ ebuild_path category (name_of pf) pf
ebuild_told all are category pf there =
    ap (λ (o : Option (List ℕ × List ℕ)). option_map_or (λ parts. ebuild_path parts.0 (name_of parts.1) parts.1) o []) (parts_are category pf (plain_category category (member_passes is_category all category are there)))

abbrev names_if : (category pf : List ℕ) → Bool → (bytes ebuild : Option (List ℕ)) → List (List ℕ)
names_if category pf b bytes ebuild = names_with (option_map (entry_of category pf) (if b then bytes else None)) ebuild

in_written : (category pf name : List ℕ) (b : Bool) (bytes ebuild : Option (List ℕ)) → has_text (names_if category pf b bytes ebuild) name ≡ true → has_text (names_written category pf bytes) name ≡ true
in_written category pf name false bytes ebuild there = no_text there
in_written category pf name true None ebuild there = no_text there
in_written category pf name true (Some text) None there = no_text there
in_written category pf name true (Some text) (Some digest) there = there

if_listed : (category pf name : List ℕ) (b : Bool) (bytes ebuild : Option (List ℕ)) → has_text (names_if category pf b bytes ebuild) name ≡ true → b ≡ true
if_listed category pf name false bytes ebuild there = no_text there
if_listed category pf name true bytes ebuild there = refl

pub ebuild_last : (b : Bool) (category pf : List ℕ) → has_text (paths_by b category pf) (ebuild_path category (name_of pf) pf) ≡ true
ebuild_last true category pf = on_right (bytes_eq (ebuild_path category (name_of pf) pf) (entry_path category pf)) _ (itself (ebuild_path category (name_of pf) pf) [])
ebuild_last false category pf = itself (ebuild_path category (name_of pf) pf) []

each_path : {X : Type 0} (b : Bool) (category pf path : List ℕ) → has_text (paths_by b category pf) path ≡ true → (b ≡ true → entry_path category pf ≡ path → X) → (ebuild_path category (name_of pf) pf ≡ path → X) → X
each_path true category pf path has entry ebuild =
    by_case (bytes_eq path (entry_path category pf)) (has_text (ebuild_path category (name_of pf) pf ∷ []) path) has
    (λ is. entry refl (same_text path (entry_path category pf) is))
    (λ one. ebuild (one_text path (ebuild_path category (name_of pf) pf) one))
each_path false category pf path has entry ebuild = ebuild (one_text path (ebuild_path category (name_of pf) pf) has)

-- ---- each path of the new packages is one of the old, or one of those besides
module _ (order : InOrderLaw) (division : (bytes : List ℕ) → IsDivided bytes) (all paths : List (List ℕ)) (old new : Look)
    (alike : AlikeBut all paths old new) (are : list_all is_category all ≡ true) (edited : list_all (is_entry all) paths ≡ true) where
  plain_of : (category : List ℕ) → has_text all category ≡ true → is_plain category ≡ true
  plain_of category there = plain_category category (member_passes is_category all category are there)

  same_folders : (category : List ℕ) → has_text all category ≡ true → folders new category ≡ folders old category
  same_folders category there = ap (filter is_package) (alike.folders category there)

  same_ebuilds : (category : List ℕ) → has_text all category ≡ true → flat_map (ebuilds_in new category) (folders new category) ≡ flat_map (ebuilds_in old category) (folders old category)
  same_ebuilds category there =
      ap (flat_map (ebuilds_in new category)) (same_folders category there)
      ∙ ap (λ f. flat_map f (folders old category)) (fun_ext (λ name. ap (filter_map (ebuild_in name)) (alike.files category name there)))

  abbrev names_of : Look → List ℕ → List (List ℕ)
  names_of look category = listed look category ++ flat_map (ebuilds_in look category) (folders look category)

  pf_in : (look : Look) (category pf : List ℕ) → has_text (pfs_of look category) pf ≡ true → (has_text (names_of look category) pf ≡ true) × (is_pf pf ≡ true)
  pf_in look category pf there =
      let more = filtered is_pf (in_order (names_of look category)) pf there in
      (order.members (names_of look category) pf ∙ more.0, more.1)

  pf_before : (category pf : List ℕ) → has_text all category ≡ true → has_text (pfs_of new category) pf ≡ true → has_text paths (entry_path category pf) ≡ false → has_text (pfs_of old category) pf ≡ true
  pf_before category pf there among unedited =
      let says = pf_in new category pf among in
      let before : has_text (names_of old category) pf ≡ true =
      in_either (listed new category) (flat_map (ebuilds_in new category) (folders new category)) pf says.0
      (λ one. in_front (listed old category) (flat_map (ebuilds_in old category) (folders old category)) pf (alike.entries category pf there one unedited))
      (λ one. in_back (listed old category) (flat_map (ebuilds_in old category) (folders old category)) pf (sym (ap (λ fs. has_text fs pf) (same_ebuilds category there)) ∙ one)) in
      kept is_pf (in_order (names_of old category)) pf (sym (order.members (names_of old category) pf) ∙ before) says.1

  ebuild_stays : (category pf : List ℕ) → has_text all category ≡ true → is_pf pf ≡ true → has_text paths (ebuild_path category (name_of pf) pf) ≡ false
  ebuild_stays = no_ebuild division all paths are edited

  abbrev Among : List ℕ → Type 0
  Among path = has_text (once_paths (packages_steps old all) ++ (paths ++ paths_besides new paths)) path ≡ true

  from_old : (path : List ℕ) → has_text (flat_map (paths_in old) all) path ≡ true → Among path
  from_old path there =
      in_front (once_paths (packages_steps old all)) (paths ++ paths_besides new paths) path
      (ap (λ ps. has_text ps path) (of_packages old all) ∙ in_front (flat_map (paths_in old) all) (map eclass_path (eclass_names (all_reads old all))) path there)

  old_eclass : (name : List ℕ) → has_text (eclass_names (all_reads old all)) name ≡ true → has_text (once_paths (packages_steps old all)) (eclass_path name) ≡ true
  old_eclass name there =
      ap (λ ps. has_text ps (eclass_path name)) (of_packages old all)
      ∙ in_back (flat_map (paths_in old) all) (map eclass_path (eclass_names (all_reads old all))) (eclass_path name) (of_map eclass_path (eclass_names (all_reads old all)) name there)

  besides : (path : List ℕ) → has_text (paths ++ paths_besides new paths) path ≡ true → Among path
  besides path there = in_back (once_paths (packages_steps old all)) (paths ++ paths_besides new paths) path there

  from_ebuilds : (path : List ℕ) → has_text paths path ≡ true → Among (ebuild_by path)
  from_ebuilds path there =
      besides (ebuild_by path) (in_back paths (paths_besides new paths) (ebuild_by path) (in_front (map ebuild_by paths) (map eclass_path (names_by new paths)) (ebuild_by path) (of_map ebuild_by paths path there)))

  from_names : (name : List ℕ) → has_text (names_by new paths) name ≡ true → Among (eclass_path name)
  from_names name there =
      besides (eclass_path name) (in_back paths (paths_besides new paths) (eclass_path name)
      (in_back (map ebuild_by paths) (map eclass_path (names_by new paths)) (eclass_path name) (of_map eclass_path (names_by new paths) name there)))

  of_pf : (category pf path : List ℕ) → has_text all category ≡ true → has_text (pfs_of new category) pf ≡ true → has_text (paths_by (has_text (listed new category) pf) category pf) path ≡ true → Among path
  of_pf category pf path there among has = by (has_text paths (entry_path category pf)) refl
    where
      by : (b : Bool) → has_text paths (entry_path category pf) ≡ b → Among path
      by true is =
          each_path (has_text (listed new category) pf) category pf path has
          (λ l e. subst Among e (besides (entry_path category pf) (in_front paths (paths_besides new paths) (entry_path category pf) is)))
          (λ e. subst Among (ebuild_told all are category pf there ∙ e) (from_ebuilds (entry_path category pf) is))
      by false is =
          let before = pf_before category pf there among is in
          let here : has_text (paths_by (has_text (listed old category) pf) category pf) path ≡ true =
          each_path (has_text (listed new category) pf) category pf path has
          (λ l e. ap (λ b. has_text (paths_by b category pf) path) (alike.entries category pf there l is)
          ∙ subst (λ (p : List ℕ). has_text (paths_by true category pf) p ≡ true) e (itself (entry_path category pf) (ebuild_path category (name_of pf) pf ∷ [])))
          (λ e. subst (λ (p : List ℕ). has_text (paths_by (has_text (listed old category) pf) category pf) p ≡ true) e (ebuild_last (has_text (listed old category) pf) category pf)) in
          from_old path (of_group (paths_in old) all category path there (of_group (λ p. paths_by (has_text (listed old category) p) category p) (pfs_of old category) pf path before here))

  of_name : (category pf name : List ℕ) → has_text all category ≡ true → has_text (pfs_of new category) pf ≡ true → has_text (pf_names new category pf) name ≡ true → Among (eclass_path name)
  of_name category pf name there among has = by (has_text paths entry) refl
    where
      entry : List ℕ
      entry = entry_path category pf

      ebuild : List ℕ
      ebuild = ebuild_path category (name_of pf) pf

      by : (b : Bool) → has_text paths entry ≡ b → Among (eclass_path name)
      by true is =
          from_names name (of_group (names_at new) paths entry name is
          (ap (λ (o : Option (List ℕ × List ℕ)). has_text (option_map_or (λ parts. names_written parts.0 parts.1 (bytes_at new entry)) o []) name) (parts_are category pf (plain_of category there))
          ∙ in_written category pf name (has_text (listed new category) pf) (bytes_at new entry) (digest_at new ebuild) has))
      by false is =
          let before = pf_before category pf there among is in
          let l = if_listed category pf name (has_text (listed new category) pf) (bytes_at new entry) (digest_at new ebuild) has in
          let good = (pf_in new category pf among).1 in
          let same : pf_names new category pf ≡ pf_names old category pf =
          ap (λ b. names_if category pf b (bytes_at new entry) (digest_at new ebuild)) (l ∙ sym (alike.entries category pf there l is))
          ∙ ap (λ (o : Option (List ℕ)). names_if category pf (has_text (listed old category) pf) o (digest_at new ebuild)) (alike.bytes entry is)
          ∙ ap (λ (o : Option (List ℕ)). names_if category pf (has_text (listed old category) pf) (bytes_at old entry) (option_map md5 o)) (alike.bytes ebuild (ebuild_stays category pf there good)) in
          in_front (once_paths (packages_steps old all)) (paths ++ paths_besides new paths) (eclass_path name)
          (old_eclass name (has_name order old all name ∙ of_group (category_names old) all category name there (of_group (pf_names old category) (pfs_of old category) pf name before (sym (ap (λ ns. has_text ns name) same) ∙ has))))

  among : (path : List ℕ) → has_text (once_paths (packages_steps new all)) path ≡ true → Among path
  among path there =
      in_either (flat_map (paths_in new) all) (map eclass_path (eclass_names (all_reads new all))) path (sym (ap (λ ps. has_text ps path) (of_packages new all)) ∙ there)
      (λ one.
      let c = in_group (paths_in new) all path one in
      let p = in_group (λ pf. paths_by (has_text (listed new c.0) pf) c.0 pf) (pfs_of new c.0) path c.2 in
      of_pf c.0 p.0 path c.1 p.1 p.2)
      (λ one.
      let n = in_map eclass_path (eclass_names (all_reads new all)) path one in
      let c = in_group (category_names new) all n.0 (sym (has_name order new all n.0) ∙ n.1) in
      let p = in_group (pf_names new c.0) (pfs_of new c.0) n.0 c.2 in
      subst Among n.2 (of_name c.0 p.0 n.0 c.1 p.1 p.2))

  lists_as_before : list_paths (packages_steps new all) ≡ list_paths (packages_steps old all)
  lists_as_before = lists_of_packages new all ∙ ap (λ ps. ps ++ []) (same_lists old new all same_folders) ∙ sym (lists_of_packages old all)

  fits_besides : FitsEdited all paths old new → (path : List ℕ) → has_text (paths ++ paths_besides new paths) path ≡ true → (has_text paths path ≡ false → has_text (once_paths (packages_steps old all)) path ≡ false) → FitsAt new path
  fits_besides fits path there unread = by (has_text paths path) refl
    where
      by : (b : Bool) → has_text paths path ≡ b → FitsAt new path
      by true is = fits.entries path is
      by false is =
          in_either paths (paths_besides new paths) path there
          (λ one. no_text (sym is ∙ one))
          (λ more. in_either (map ebuild_by paths) (map eclass_path (names_by new paths)) path more
          (λ one.
          let e = in_map ebuild_by paths path one in
          subst (FitsAt new) e.2 (fits.ebuilds e.0 e.1 (ap (has_text (once_paths (packages_steps old all))) e.2 ∙ unread is)))
          (λ one.
          let n = in_map eclass_path (names_by new paths) path one in
          let none = ap (has_text (once_paths (packages_steps old all))) n.2 ∙ unread is in
          subst (FitsAt new) n.2 (fits.eclasses n.0 n.1 (unnamed n.0 none))))
        where
          unnamed : (name : List ℕ) → has_text (once_paths (packages_steps old all)) (eclass_path name) ≡ false → has_text (eclass_names (all_reads old all)) name ≡ false
          unnamed name none = go (has_text (eclass_names (all_reads old all)) name) refl
            where
              go : (b : Bool) → has_text (eclass_names (all_reads old all)) name ≡ b → b ≡ false
              go true named = no_text (sym none ∙ old_eclass name named)
              go false named = refl

  pub packages_pass : (seen next : Seen) → AreDistinct (once_paths (packages_steps new all)) → FitsEdited all paths old new → passed old seen (packages_steps old all) ≡ Ok next → next.found + most_more new paths ≤ most_files →
      (passed new seen (packages_steps new all) ≡ Ok (with_more seen (new_files new seen (packages_steps new all)))) × (seen.found + new_files new seen (packages_steps new all) ≤ next.found + most_more new paths)
  packages_pass seen next distinct fits is room =
      more_pass old new seen next paths (paths_besides new paths) (packages_steps old all) (packages_steps new all) alike.bytes among (light_packages old all) (light_packages new all) distinct
      (λ path there. sym (ap (λ ps. has_text ps path) lists_as_before) ∙ there) (fits_besides fits) is room

-- ---- the whole load
in_two : (look : Look) → load_steps look ≡ front_steps look ++ packages_steps look (categories look)
unfolding load_steps
in_two look = sym (append_assoc (list_steps look) (profiles_steps look (desc_lines look)) (packages_steps look (categories look)))

pub load_is : (look : Look) → passed look nothing (load_steps look) ≡ and_then (passed look nothing (front_steps look)) (λ n. passed look n (packages_steps look (categories look)))
load_is look = ap (passed look nothing) (in_two look) ∙ passed-append look nothing (front_steps look) (packages_steps look (categories look))

no_seen : {X : Type 0} (fault : LoadFault) (b : Seen) → (let o : Out = Err fault in o) ≡ Ok b → X
no_seen fault b is = cc

-- the list of categories is no entry
no_entry : paths_told.is_entry categories_path ≡ false
unfolding categories_path
no_entry = refl

pub categories_stay : ((bytes : List ℕ) → IsDivided bytes) → (all paths : List (List ℕ)) (old new : Look) → ((path : List ℕ) → has_text paths path ≡ false → bytes_at new path ≡ bytes_at old path) →
    list_all is_category all ≡ true → list_all (is_entry all) paths ≡ true → categories new ≡ categories old
categories_stay division all paths old new same are edited = ap (λ (o : Option (List ℕ)). categories_in (unwrap_or o [])) (same categories_path (by (has_text paths categories_path) refl))
  where
    by : (b : Bool) → has_text paths categories_path ≡ b → b ≡ false
    by true is = absurd (true≢false (sym (three_slashes division all paths are edited categories_path is) ∙ no_entry))
    by false is = refl

pub edited_passes : InOrderLaw → ((bytes : List ℕ) → IsDivided bytes) → (old new : Look) (paths : List (List ℕ)) (seen : Seen) → AlikeBut (categories old) paths old new →
    list_all (is_entry (categories old)) paths ≡ true → FitsEdited (categories old) paths old new → passed new nothing (front_steps new) ≡ passed old nothing (front_steps old) →
    passed old nothing (load_steps old) ≡ Ok seen → seen.found + most_more new paths ≤ most_files →
    (now : Seen) × (passed new nothing (load_steps new) ≡ Ok now) × (now.found ≤ seen.found + most_more new paths)
edited_passes order division old new paths seen alike edited fits front is room = by (passed old nothing (front_steps old)) refl (sym (load_is old) ∙ is)
  where
    all : List (List ℕ)
    all = categories old

    are : list_all is_category all ≡ true
    are = all_categories order (text_at old categories_path)

    same : categories new ≡ categories old
    same = categories_stay division all paths old new alike.bytes are edited

    distinct : AreDistinct (once_paths (packages_steps new all))
    distinct = subst (λ (cs : List (List ℕ)). AreDistinct (once_paths (packages_steps new cs))) same (packages_once order division new)

    by : (o : Out) → passed old nothing (front_steps old) ≡ o → and_then o (λ n. passed old n (packages_steps old all)) ≡ Ok seen → (now : Seen) × (passed new nothing (load_steps new) ≡ Ok now) × (now.found ≤ seen.found + most_more new paths)
    by (Err fault) at there = no_seen fault seen there
    by (Ok mid) at there =
        let more = packages_pass order division all paths old new alike are edited mid seen distinct fits there room in
        let now : Seen = with_more mid (new_files new mid (packages_steps new all)) in
        (now, load_is new ∙ ap (λ (o : Out). and_then o (λ n. passed new n (packages_steps new (categories new)))) (front ∙ at) ∙ ap (λ (cs : List (List ℕ)). passed new mid (packages_steps new cs)) same ∙ more.0, more.1)

pub loads : (look : Look) (seen : Seen) → passed look nothing (load_steps look) ≡ Ok seen → loading look ≡ Ok (repository look)
unfolding loading
loads look seen is = ap (λ (o : Out). if_passed o (repository look)) is

-- in words of the entries: a path, an ebuild and the eclasses of each
pub most_more_is : (new : Look) (paths : List (List ℕ)) → most_more new paths ≡ length paths + (length paths + length (names_by new paths))
most_more_is new paths =
    ap (λ n. length paths + n) (length-append (map ebuild_by paths) (map eclass_path (names_by new paths)) ∙ ap (λ n. n + length (map eclass_path (names_by new paths))) (length-map paths ebuild_by)
    ∙ ap (λ n. length paths + n) (length-map (names_by new paths) eclass_path))
