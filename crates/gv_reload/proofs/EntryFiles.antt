-- Files that are others at the paths of some entries alone: such trees are alike but there.
use Rattle.std.proofs.Common.{◌≡◌, ℕ, ◌+◌, ◌-◌, ◌≤◌, Bool, true, false, cond, List, [], ◌∷◌, ◌++◌, Some, None, length, take, drop, refl, sym, ap, subst, ◌∙◌, true≢false, append_assoc, arith, length-append, map}
use Rattle.std.specs.Prelude.{Option, IfSome, Ok, nat_eq, not, ◌&&◌, if◌then◌else◌, filter_map, flat_map, codes, unwrap_or}
use Rattle.std.specs.Cmp.{both_ways}
use Rattle.std.specs.FinMap.{get, keys, contains_key-keys}
use Rattle.std.specs.List.{list_all, list_any, cons_option, ends_with}
use Rattle.std.specs.Option.{is_some, option_map, option_and_then}
use Rattle.std.specs.Ordering.{eq_by_cmp}
use Rattle.std.specs.Str.{byte, bytes_eq}
use Rattle.std.proofs.Math.Seq.{drop-append_seam, take-append_seam}
use Rattle.std.proofs.lemmas.Bool.{and_parts}
use Rattle.std.proofs.lemmas.List.{take-append-drop}
use Rattle.std.proofs.lemmas.Map.Text.{is_eq-slice_cmp}
use Rattle.std.proofs.lemmas.Slice.Eq.{bytes_eq-Decides}
use Rattle.gv_base.specs.Cut.{after_prefix, up_to_first}
use Rattle.gv_base.specs.FileMap.{FileMap}
use Rattle.gv_base.specs.Laws.{InOrderLaw}
use Rattle.gv_base.specs.Listing.{below, names_below, next_part}
use Rattle.gv_base.specs.Order.{byte_cmp, has_text, in_order}
use Rattle.gv_base.specs.Outside.{found_as, most_file_bytes}
use Rattle.gv_reading.specs.Paths.{within}
use Rattle.gv_version.specs.Laws.{IsDivided}
use Rattle.gv_version.specs.Names.{is_category, is_package, split_pf}
use Rattle.gv_load.specs.Categories.{ebuild_in, ebuilds_in, folders, front_of, is_pf, listed, name_of, pfs_of}
use Rattle.gv_reload.specs.Counting.{AlikeBut, FitsAt, FitsEdited, FitsFiles, IsShort, ebuild_by, front_steps, most_more}
use Rattle.gv_reading.specs.Look.{bytes_at, bytes_in, look_of, text_at}
use Rattle.gv_load.specs.Entries.{all_reads, eclass_names}
use Rattle.gv_reload.specs.EntryEdits.{entry_parts, is_entry}
use Rattle.gv_reload.specs.Once.{once_paths}
use Rattle.gv_load.specs.Order.{categories, load_steps, packages_steps}
use Rattle.gv_load.specs.Paths.{cache_dir, categories_path, ebuild_end, ebuild_path, eclass_path, entry_path}
use Rattle.gv_reading.specs.Reader.{Seen, nothing}
use Rattle.gv_reading.specs.Reading.{most_files, passed}
use Rattle.gv_reload.proofs.Counting.{kept}
use Rattle.gv_reload.proofs.EntryPassing.{IsWritten, ebuild_last, ebuild_told, edited_passes, member_passes, no_ebuild, no_text, of_group, parts_are, same_text, up_step, up_to_slash, written_is}
use Rattle.gv_reload.proofs.OnceLaw.{all_categories, of_packages, paths_in}
use Rattle.gv_reload.proofs.OncePaths.{paths_by, plain_file, without_end}
use Rattle.gv_reload.proofs.Slashes.{both, is_plain, plain_category, plain_name, plain_pf}
use Rattle.gv_load.specs.ListLemmas.{by_case, in_back, in_front, itself, on_right}

-- ---- keys
same_tests : (q : List ℕ) (ks : List (List ℕ)) → list_any (eq_by_cmp byte_cmp q) ks ≡ has_text ks q
same_tests q [] = refl
same_tests q (k ∷ ks) = rw (is_eq-slice_cmp q k, same_tests q ks) refl

has_key : (files : FileMap) (q : List ℕ) → is_some (get files q) ≡ has_text (keys files) q
has_key files q = contains_key-keys files q ∙ same_tests q (keys files)

-- ---- what is given of texts
pub given_by : (h : List ℕ → Option (List ℕ)) (ks : List (List ℕ)) (name : List ℕ) → has_text (filter_map h ks) name ≡ true → (k : List ℕ) × (has_text ks k ≡ true) × (h k ≡ Some name)
given_by h [] name there = no_text there
given_by h (k ∷ ks) name there = by (h k) refl there (given_by h ks name)
  where
    later : (k : List ℕ) × (has_text ks k ≡ true) × (h k ≡ Some name) → (j : List ℕ) × (has_text (k ∷ ks) j ≡ true) × (h j ≡ Some name)
    later more = (more.0, on_right (bytes_eq more.0 k) _ more.1, more.2)

    by : (o : Option (List ℕ)) → h k ≡ o → has_text (cons_option o (filter_map h ks)) name ≡ true → (has_text (filter_map h ks) name ≡ true → (j : List ℕ) × (has_text ks j ≡ true) × (h j ≡ Some name)) →
        (j : List ℕ) × (has_text (k ∷ ks) j ≡ true) × (h j ≡ Some name)
    by None is there rest = later (rest there)
    by (Some text) is there rest = by_case (bytes_eq name text) (has_text (filter_map h ks) name) there (λ at. (k, itself k ks, is ∙ ap Some (same_text name text at))) (λ more. later (rest more))

pub gives : (h : List ℕ → Option (List ℕ)) (ks : List (List ℕ)) (k name : List ℕ) → has_text ks k ≡ true → h k ≡ Some name → has_text (filter_map h ks) name ≡ true
gives h [] k name there is = there
gives h (j ∷ js) k name there is =
    by_case (bytes_eq k j) (has_text js k) there
    (λ at. ap (λ o. has_text (cons_option o (filter_map h js)) name) (ap h (same_text k j at) ∙ is) ∙ itself name (filter_map h js))
    (λ later. behind (h j) (gives h js k name later is))
  where
    behind : (o : Option (List ℕ)) → has_text (filter_map h js) name ≡ true → has_text (cons_option o (filter_map h js)) name ≡ true
    behind None rest = rest
    behind (Some text) rest = on_right (bytes_eq name text) _ rest

-- ---- the names below a path
slash_first : (text rest : List ℕ) → after_prefix (47 ∷ []) text ≡ Some rest → text ≡ 47 ∷ rest
slash_first [] rest is = cc
slash_first (b ∷ bs) rest is = by (nat_eq b 47) refl is
  where
    by : (t : Bool) → nat_eq b 47 ≡ t → cond (t && true) (Some bs) None ≡ Some rest → b ∷ bs ≡ 47 ∷ rest
    by true at given = let e : b ≡ 47 = grind arith in cc
    by false at given = cc

below_is : (path key rest : List ℕ) → below path key ≡ Some rest → key ≡ within path rest
below_is path key rest = by (bytes_eq (take (length path) key) path) refl
  where
    by : (t : Bool) → bytes_eq (take (length path) key) path ≡ t → option_and_then (after_prefix (47 ∷ [])) (cond t (Some (drop (length path) key)) None) ≡ Some rest → key ≡ within path rest
    by true at given =
        let front : take (length path) key ≡ path = (bytes_eq-Decides _ _).0 at in
        let back : drop (length path) key ≡ 47 ∷ rest = slash_first (drop (length path) key) rest given in
        sym (take-append-drop (length path) key) ∙ ap (λ x. x ++ drop (length path) key) front ∙ ap (λ y. path ++ y) back
    by false at given = cc

part_is : (path key name : List ℕ) → next_part path key ≡ Some name → (rest : List ℕ) × (key ≡ within path rest) × (up_to_first 47 rest ≡ name)
part_is path key name = by (below path key) refl
  where
    by : (o : Option (List ℕ)) → below path key ≡ o → option_map (up_to_first 47) o ≡ Some name → (rest : List ℕ) × (key ≡ within path rest) × (up_to_first 47 rest ≡ name)
    by None at given = none given
      where
        none : {X : Type 0} → (let o : Option (List ℕ) = None in o) ≡ Some name → X
        none is = cc
    by (Some rest) at given = (rest, below_is path key rest at, one (up_to_first 47 rest) given)
      where
        one : (x : List ℕ) → Some x ≡ Some name → x ≡ name
        one x is = cc

part_of : (path rest : List ℕ) → next_part path (within path rest) ≡ Some (up_to_first 47 rest)
part_of path rest = rw (take-append_seam path (47 ∷ rest), drop-append_seam path (47 ∷ rest), (bytes_eq-Decides path path).1 refl) refl

module _ (order : InOrderLaw) where
  name_from : (files : FileMap) (path name : List ℕ) → has_text (names_below files path) name ≡ true → (rest : List ℕ) × (is_some (get files (within path rest)) ≡ true) × (up_to_first 47 rest ≡ name)
  name_from files path name there =
      let key = given_by (next_part path) (keys files) name (order.members (filter_map (next_part path) (keys files)) name ∙ there) in
      let part = part_is path key.0 name key.2 in
      (part.0, subst (λ (q : List ℕ). is_some (get files q) ≡ true) part.1 (has_key files key.0 ∙ key.1), part.2)

  name_to : (files : FileMap) (path rest : List ℕ) → is_some (get files (within path rest)) ≡ true → has_text (names_below files path) (up_to_first 47 rest) ≡ true
  name_to files path rest there =
      sym (order.members (filter_map (next_part path) (keys files)) (up_to_first 47 rest))
      ∙ gives (next_part path) (keys files) (within path rest) (up_to_first 47 rest) (sym (has_key files (within path rest)) ∙ there) (part_of path rest)

  names_more : (old new : FileMap) (path : List ℕ) → ((rest : List ℕ) → get new (within path rest) ≡ get old (within path rest)) → (name : List ℕ) → has_text (names_below new path) name ≡ true → has_text (names_below old path) name ≡ true
  names_more old new path same name there =
      let from = name_from new path name there in
      subst (λ (n : List ℕ). has_text (names_below old path) n ≡ true) from.2 (name_to old path from.0 (sym (ap is_some (same from.0)) ∙ from.1))

  names_stay : (old new : FileMap) (path : List ℕ) → ((rest : List ℕ) → get new (within path rest) ≡ get old (within path rest)) → names_below new path ≡ names_below old path
  names_stay old new path same =
      order.unique (names_below new path) (names_below old path) (order.ascends (filter_map (next_part path) (keys new))) (order.ascends (filter_map (next_part path) (keys old)))
      (λ name. both_ways (has_text (names_below new path) name) (has_text (names_below old path) name) (names_more old new path same name) (names_more new old path (λ rest. sym (same rest)) name))

-- ---- entries are below the folder of entries
metadata_first : (category pf : List ℕ) → up_to_first 47 (entry_path category pf) ≡ codes "metadata"
unfolding cache_dir
metadata_first category pf = up_to_slash (codes "metadata") (codes "md5-cache/" ++ (category ++ 47 ∷ pf)) refl

up_to_end : (text : List ℕ) → is_plain text ≡ true → up_to_first 47 text ≡ text
up_to_end [] plain = refl
up_to_end (b ∷ bs) plain =
    let parts = and_parts (not (nat_eq b 47)) (is_plain bs) plain in
    up_step b bs ∙ by (nat_eq b 47) parts.0 (up_to_end bs parts.1)
  where
    by : (t : Bool) → not t ≡ true → up_to_first 47 bs ≡ bs → cond t [] (b ∷ up_to_first 47 bs) ≡ b ∷ bs
    by true isnt later = no_text isnt
    by false isnt later = ap (λ xs. b ∷ xs) later

pub same_pair : (a b : List ℕ × List ℕ) → Some a ≡ Some b → a ≡ b
same_pair a b is = cc

bytes_are : (o : Option (List ℕ)) (folder : Bool) → bytes_in (found_as o folder) ≡ o
bytes_are (Some bytes) folder = refl
bytes_are None true = refl
bytes_are None false = refl

module _ (order : InOrderLaw) (division : (bytes : List ℕ) → IsDivided bytes) (all paths : List (List ℕ)) (old new : FileMap) (are : list_all is_category all ≡ true) (apart : has_text all (codes "metadata") ≡ false)
    (edited : list_all (is_entry all) paths ≡ true) (same : (path : List ℕ) → has_text paths path ≡ false → get new path ≡ get old path) where
  written : (path : List ℕ) → has_text paths path ≡ true → IsWritten all path
  written path there = written_is all path (member_passes (is_entry all) paths path edited there)

  plain_in : (category : List ℕ) → has_text all category ≡ true → is_plain category ≡ true
  plain_in category there = plain_category category (member_passes is_category all category are there)

  unedited : (category rest : List ℕ) → has_text all category ≡ true → has_text paths (within category rest) ≡ false
  unedited category rest there = by (has_text paths (within category rest)) refl
    where
      by : (b : Bool) → has_text paths (within category rest) ≡ b → b ≡ false
      by true is =
          let w = written (within category rest) is in
          let metadata : category ≡ codes "metadata" = sym (up_to_slash category rest (plain_in category there)) ∙ ap (up_to_first 47) w.written ∙ metadata_first w.category w.pf in
          absurd (true≢false (sym there ∙ ap (has_text all) metadata ∙ apart))
      by false is = refl

  below_category : (category name rest : List ℕ) → has_text all category ≡ true → get new (within (within category name) rest) ≡ get old (within (within category name) rest)
  below_category category name rest there =
      let at : within (within category name) rest ≡ within category (within name rest) = append_assoc category (47 ∷ name) (47 ∷ rest) in
      ap (get new) at ∙ same (within category (within name rest)) (unedited category (within name rest) there) ∙ sym (ap (get old) at)

  entry_before : (category pf : List ℕ) → has_text all category ≡ true → has_text (names_below new (cache_dir category)) pf ≡ true → has_text paths (entry_path category pf) ≡ false → has_text (names_below old (cache_dir category)) pf ≡ true
  entry_before category pf there listed unlike = by (has_text paths (entry_path category from.0)) refl
    where
      from : (rest : List ℕ) × (is_some (get new (within (cache_dir category) rest)) ≡ true) × (up_to_first 47 rest ≡ pf)
      from = name_from order new (cache_dir category) pf listed

      by : (b : Bool) → has_text paths (entry_path category from.0) ≡ b → has_text (names_below old (cache_dir category)) pf ≡ true
      by true is =
          let w = written (entry_path category from.0) is in
          let pairs = same_pair (category, from.0) (w.category, w.pf) (sym (parts_are category from.0 (plain_in category there)) ∙ ap entry_parts w.written ∙ parts_are w.category w.pf (plain_in w.category w.known)) in
          let rest : from.0 ≡ w.pf = ap (λ (p : List ℕ × List ℕ). p.1) pairs in
          let whole : from.0 ≡ pf = rest ∙ sym (up_to_end w.pf (plain_pf division w.pf w.formed)) ∙ sym (ap (up_to_first 47) rest) ∙ from.2 in
          absurd (true≢false (sym is ∙ ap (λ r. has_text paths (entry_path category r)) whole ∙ unlike))
      by false is = subst (λ (n : List ℕ). has_text (names_below old (cache_dir category)) n ≡ true) from.2 (name_to order old (cache_dir category) from.0 (sym (ap is_some (same (entry_path category from.0) is)) ∙ from.1))

  pub alike_files : AlikeBut all paths (look_of old) (look_of new)
  alike_files = record {
    bytes = λ path other. bytes_are (get new path) _ ∙ same path other ∙ sym (bytes_are (get old path) _);
    folders = λ category there. names_stay order old new category (λ rest. same (within category rest) (unedited category rest there));
    files = λ category name there. names_stay order old new (within category name) (λ rest. below_category category name rest there);
    entries = entry_before;
  }

-- ---- an ebuild that stands there was read
name_formed : ((bytes : List ℕ) → IsDivided bytes) → (pf : List ℕ) → is_pf pf ≡ true → is_package (name_of pf) ≡ true
name_formed division pf good = by (split_pf pf) refl good
  where
    by : (o : Option ℕ) → split_pf pf ≡ o → is_some o ≡ true → is_package (name_of pf) ≡ true
    by None at there = no_text there
    by (Some at) is_at there =
        let d = ((division pf).there at is_at).0 in
        let name : name_of pf ≡ d.name =
        ap (λ (o : Option ℕ). take (unwrap_or o 0) pf) is_at ∙ ap (λ n. take n pf) (sym d.place) ∙ ap (take (length d.name)) (sym d.written) ∙ take-append_seam d.name (byte "-" ∷ d.version) in
        ap is_package name ∙ d.name_form

ends_so : (front end : List ℕ) → ends_with nat_eq (front ++ end) end ≡ true
ends_so front end =
    let count : length (front ++ end) - length end ≡ length front = ap (λ n. n - length end) (length-append front end) ∙ omega arith in
    let back : drop (length (front ++ end) - length end) (front ++ end) ≡ end = ap (λ n. drop n (front ++ end)) count ∙ drop-append_seam front end in
    ap (bytes_eq end) back ∙ (bytes_eq-Decides end end).1 refl

ebuild_of : (pf : List ℕ) → ebuild_in (name_of pf) (pf ++ ebuild_end) ≡ Some pf
ebuild_of pf =
    let front : front_of (pf ++ ebuild_end) ≡ pf = without_end pf ebuild_end in
    let same : bytes_eq (name_of (front_of (pf ++ ebuild_end))) (name_of pf) ≡ true = (bytes_eq-Decides _ _).1 (ap name_of front) in
    ap (λ b. let o : Option (List ℕ) = if b then Some (front_of (pf ++ ebuild_end)) else None in o) (both _ _ (ends_so pf ebuild_end) same) ∙ ap Some front

module _ (order : InOrderLaw) (division : (bytes : List ℕ) → IsDivided bytes) (files : FileMap) (all : List (List ℕ)) (are : list_all is_category all ≡ true)
    (category pf : List ℕ) (known : has_text all category ≡ true) (good : is_pf pf ≡ true) (there : is_some (get files (ebuild_path category (name_of pf) pf)) ≡ true) where
  plain : is_plain pf ≡ true
  plain = plain_pf division pf good

  abbrev name : List ℕ
  name = name_of pf

  abbrev file : List ℕ
  file = pf ++ ebuild_end

  name_listed : has_text (names_below files category) name ≡ true
  name_listed =
      sym (ap (has_text (names_below files category)) (up_to_slash name file (plain_name pf plain)))
      ∙ name_to order files category (within name file) (sym (ap (λ q. is_some (get files q)) (append_assoc category (47 ∷ name) (47 ∷ file))) ∙ there)

  file_listed : has_text (names_below files (within category name)) file ≡ true
  file_listed = sym (ap (has_text (names_below files (within category name))) (up_to_end file (plain_file pf plain))) ∙ name_to order files (within category name) file there

  pf_there : has_text (pfs_of (look_of files) category) pf ≡ true
  pf_there =
      let ebuilds = gives (ebuild_in name) (names_below files (within category name)) file pf file_listed (ebuild_of pf) in
      let folder = kept is_package (names_below files category) name name_listed (name_formed division pf good) in
      let among = in_back (listed (look_of files) category) (flat_map (ebuilds_in (look_of files) category) (folders (look_of files) category)) pf
      (of_group (ebuilds_in (look_of files) category) (folders (look_of files) category) name pf folder ebuilds) in
      kept is_pf (in_order (listed (look_of files) category ++ flat_map (ebuilds_in (look_of files) category) (folders (look_of files) category))) pf
      (sym (order.members (listed (look_of files) category ++ flat_map (ebuilds_in (look_of files) category) (folders (look_of files) category)) pf) ∙ among) good

  pub ebuild_read : has_text (once_paths (packages_steps (look_of files) all)) (ebuild_path category name pf) ≡ true
  ebuild_read =
      let ebuild = ebuild_path category name pf in
      let one = of_group (λ p. paths_by (has_text (listed (look_of files) category) p) category p) (pfs_of (look_of files) category) pf ebuild pf_there (ebuild_last (has_text (listed (look_of files) category) pf) category pf) in
      ap (λ ps. has_text ps ebuild) (of_packages (look_of files) all)
      ∙ in_front (flat_map (paths_in (look_of files)) all) (map eclass_path (eclass_names (all_reads (look_of files) all))) ebuild (of_group (paths_in (look_of files)) all category ebuild known one)

module _ (order : InOrderLaw) (division : (bytes : List ℕ) → IsDivided bytes) (all paths : List (List ℕ)) (old new : FileMap) (are : list_all is_category all ≡ true)
    (edited : list_all (is_entry all) paths ≡ true) (same : (path : List ℕ) → has_text paths path ≡ false → get new path ≡ get old path) (fits : FitsFiles all paths (look_of old) (look_of new)) where
  ebuild_fits : (category pf : List ℕ) → has_text all category ≡ true → is_pf pf ≡ true → has_text paths (ebuild_path category (name_of pf) pf) ≡ false →
      has_text (once_paths (packages_steps (look_of old) all)) (ebuild_path category (name_of pf) pf) ≡ false → IsShort (ebuild_path category (name_of pf) pf) → FitsAt (look_of new) (ebuild_path category (name_of pf) pf)
  ebuild_fits category pf known good other unread short = (short, by (get old ebuild) refl)
    where
      ebuild : List ℕ
      ebuild = ebuild_path category (name_of pf) pf

      by : (o : Option (List ℕ)) → get old ebuild ≡ o → IfSome (bytes_at (look_of new) ebuild) (λ bytes. length bytes ≤ most_file_bytes)
      by None none = subst (λ (o : Option (List ℕ)). IfSome o (λ bytes. length bytes ≤ most_file_bytes)) (sym (bytes_are (get new ebuild) _ ∙ same ebuild other ∙ none)) tt
      by (Some bytes) some = no_text (sym unread ∙ ebuild_read order division old all are category pf known good (ap is_some some))

  pub fits_edited : FitsEdited all paths (look_of old) (look_of new)
  fits_edited = record {
    entries = fits.entries;
    ebuilds = λ path there unread.
        let w = written_is all path (member_passes (is_entry all) paths path edited there) in
        let is : ebuild_by path ≡ ebuild_path w.category (name_of w.pf) w.pf = ap ebuild_by w.written ∙ ebuild_told all are w.category w.pf w.known in
        subst (FitsAt (look_of new)) (sym is)
        (ebuild_fits w.category w.pf w.known w.formed (no_ebuild division all paths are edited w.category w.pf w.known w.formed)
        (sym (ap (has_text (once_paths (packages_steps (look_of old) all))) is) ∙ unread) (subst IsShort is (fits.ebuilds path there)));
    eclasses = fits.eclasses;
  }

-- ---- the whole load, of files
pub edited_files_pass : InOrderLaw → ((bytes : List ℕ) → IsDivided bytes) → (old new : FileMap) (paths : List (List ℕ)) (seen : Seen) → has_text (categories (look_of old)) (codes "metadata") ≡ false →
    list_all (is_entry (categories (look_of old))) paths ≡ true → ((path : List ℕ) → has_text paths path ≡ false → get new path ≡ get old path) → FitsFiles (categories (look_of old)) paths (look_of old) (look_of new) →
    passed (look_of new) nothing (front_steps (look_of new)) ≡ passed (look_of old) nothing (front_steps (look_of old)) → passed (look_of old) nothing (load_steps (look_of old)) ≡ Ok seen →
    seen.found + most_more (look_of new) paths ≤ most_files →
    (now : Seen) × (passed (look_of new) nothing (load_steps (look_of new)) ≡ Ok now) × (now.found ≤ seen.found + most_more (look_of new) paths)
edited_files_pass order division old new paths seen apart edited same fits front is room =
    let are = all_categories order (text_at (look_of old) categories_path) in
    edited_passes order division (look_of old) (look_of new) paths seen (alike_files order division (categories (look_of old)) paths old new are apart edited same) edited
    (fits_edited order division (categories (look_of old)) paths old new are edited same fits) front is room
