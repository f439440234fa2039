-- Which PFs are edited, category by category; and what is read of them, where it passes, fits.
use Rattle.std.proofs.Common.{◌≡◌, ℕ, ◌+◌, Bool, true, false, List, [], ◌∷◌, ◌++◌, Some, None, length, map, refl, sym, ap, subst, ◌∙◌, length-append}
use Rattle.std.specs.Prelude.{Option, Ok, if◌then◌else◌, filter_map, flat_map}
use Rattle.std.specs.Cmp.{both_ways}
use Rattle.std.specs.FinMap.{get-empty}
use Rattle.std.specs.List.{list_all}
use Rattle.std.specs.Option.{option_map, option_map_or}
use Rattle.std.specs.Str.{bytes_eq}
use Rattle.std.proofs.lemmas.Bool.{and_parts}
use Rattle.std.proofs.lemmas.Grind.{flat_map-append}
use Rattle.std.proofs.lemmas.List.{length-map}
use Rattle.std.proofs.lemmas.List.Elements.{filter_map-append}
use Rattle.std.proofs.lemmas.Slice.Eq.{bytes_eq-Decides}
use Rattle.gv_base.specs.Laws.{InOrderLaw}
use Rattle.gv_base.specs.Order.{byte_cmp, has_text, in_order}
use Rattle.gv_entry.specs.EntryRead.{entry_of}
use Rattle.gv_version.specs.Names.{is_category}
use Rattle.gv_load.specs.Categories.{is_pf, name_of}
use Rattle.gv_reload.specs.Counting.{FitsAt, FitsFiles, IsShort, ebuild_by, is_light, most_more, names_at, names_by, names_written}
use Rattle.gv_reading.specs.Look.{Look, bytes_at}
use Rattle.gv_load.specs.Entries.{named_by, pf_read}
use Rattle.gv_reload.specs.EntryEdits.{is_entry}
use Rattle.gv_reload.specs.Once.{once_path, once_paths}
use Rattle.gv_load.specs.Order.{eclass_steps}
use Rattle.gv_load.specs.Paths.{ebuild_path, eclass_path, entry_path}
use Rattle.gv_reading.specs.Reader.{Seen, nothing}
use Rattle.gv_reading.specs.Reading.{passed}
use Rattle.gv_load.specs.Given.{all_said, names_said}
use Rattle.gv_reload.specs.Rereading.{edited_in, edited_reads, edited_steps, pf_edited_steps, pf_in, pfs_edited, read_of, steps_in}
use Rattle.gv_reload.proofs.Counting.{filtered, fits_in, kept, passed_is}
use Rattle.gv_reload.proofs.EntryFiles.{given_by, gives}
use Rattle.gv_reload.proofs.EntryPassing.{ebuild_last, ebuild_told, in_group, in_map, light_both, light_eclasses, light_pfs, member_passes, of_group, of_map, parts_are, written_is}
use Rattle.gv_reload.proofs.OnceLaw.{of_pfs}
use Rattle.gv_reload.proofs.OncePaths.{paths_by}
use Rattle.gv_reload.proofs.Slashes.{is_plain, plain_category}
use Rattle.gv_load.specs.ListLemmas.{in_back, in_front, itself, on_right}
use Rattle.gv_base.specs.Folders.{equal_bytes}

all_of : (test : List ℕ → Bool) (xs : List (List ℕ)) → ((x : List ℕ) → has_text xs x ≡ true → test x ≡ true) → list_all test xs ≡ true
all_of test [] each = refl
all_of test (x ∷ xs) each = rw (each x (itself x xs)) (all_of test xs (λ y there. each y (on_right (bytes_eq y x) _ there)))

-- ---- the PF of a path
abbrev pf_by : (category : List ℕ) → Option (List ℕ × List ℕ) → Option (List ℕ)
pf_by category parts = option_map_or (λ ps. if bytes_eq ps.0 category then Some ps.1 else None) parts None

pf_there : (category pf : List ℕ) → is_plain category ≡ true → pf_in category (entry_path category pf) ≡ Some pf
pf_there category pf plain = ap (pf_by category) (parts_are category pf plain) ∙ ap (λ b. let o : Option (List ℕ) = if b then Some pf else None in o) (equal_bytes category)

pf_is : (of part category pf : List ℕ) → pf_by category (Some (of, part)) ≡ Some pf → (of ≡ category) × (part ≡ pf)
pf_is of part category pf = by (bytes_eq of category) refl
  where
    by : (b : Bool) → bytes_eq of category ≡ b → (let o : Option (List ℕ) = if b then Some part else None in o) ≡ Some pf → (of ≡ category) × (part ≡ pf)
    by true is h = let e : part ≡ pf = cc in ((bytes_eq-Decides of category).0 is, e)
    by false is h = cc

-- ---- paths, category by category
abbrev pub paths_of : (paths categories : List (List ℕ)) → List (List ℕ)
paths_of paths categories = flat_map (λ c. map (entry_path c) (pfs_edited paths c)) categories

module _ (order : InOrderLaw) (cs paths : List (List ℕ)) (are : list_all (is_entry cs) paths ≡ true) (valid : list_all is_category cs ≡ true) where
  plain_in : (category : List ℕ) → has_text cs category ≡ true → is_plain category ≡ true
  plain_in category there = plain_category category (member_passes is_category cs category valid there)

  pub edited_has : (category pf : List ℕ) → is_plain category ≡ true → is_pf pf ≡ true → has_text paths (entry_path category pf) ≡ true → has_text (pfs_edited paths category) pf ≡ true
  edited_has category pf plain good there =
      let all = filter_map (pf_in category) paths in
      kept is_pf (in_order all) pf (sym (order.members all pf) ∙ gives (pf_in category) paths (entry_path category pf) pf there (pf_there category pf plain)) good

  pub edited_from : (category pf : List ℕ) → has_text (pfs_edited paths category) pf ≡ true → (has_text paths (entry_path category pf) ≡ true) × (is_pf pf ≡ true)
  edited_from category pf there =
      let all = filter_map (pf_in category) paths in
      let parts = filtered is_pf (in_order all) pf there in
      let from = given_by (pf_in category) paths pf (order.members all pf ∙ parts.0) in
      let w = written_is cs from.0 (member_passes (is_entry cs) paths from.0 are from.1) in
      let says = pf_is w.category w.pf category pf (sym (ap (pf_in category) w.written ∙ ap (pf_by category) (parts_are w.category w.pf (plain_in w.category w.known))) ∙ from.2) in
      let path : from.0 ≡ entry_path category pf = w.written ∙ ap (λ c. entry_path c w.pf) says.0 ∙ ap (entry_path category) says.1 in
      (sym (ap (has_text paths) path) ∙ from.1, parts.1)

  pub same_paths : (path : List ℕ) → has_text (paths_of paths cs) path ≡ has_text paths path
  same_paths path = both_ways (has_text (paths_of paths cs) path) (has_text paths path) to back
    where
      to : has_text (paths_of paths cs) path ≡ true → has_text paths path ≡ true
      to there =
          let group = in_group (λ c. map (entry_path c) (pfs_edited paths c)) cs path there in
          let one = in_map (entry_path group.0) (pfs_edited paths group.0) path group.2 in
          sym (ap (has_text paths) one.2) ∙ (edited_from group.0 one.0 one.1).0

      back : has_text paths path ≡ true → has_text (paths_of paths cs) path ≡ true
      back there =
          let w = written_is cs path (member_passes (is_entry cs) paths path are there) in
          let has = edited_has w.category w.pf (plain_in w.category w.known) w.formed (sym (ap (has_text paths) w.written) ∙ there) in
          ap (has_text (paths_of paths cs)) w.written
          ∙ of_group (λ c. map (entry_path c) (pfs_edited paths c)) cs w.category (entry_path w.category w.pf) w.known (of_map (entry_path w.category) (pfs_edited paths w.category) w.pf has)

  pub paths_are : list_all (is_entry cs) (paths_of paths cs) ≡ true
  paths_are = all_of (is_entry cs) (paths_of paths cs) (λ path there. member_passes (is_entry cs) paths path are (sym (same_paths path) ∙ there))

-- ---- the eclasses that are named, and how much is read
said_one : (look : Look) (pfs : List (List ℕ)) (category pf : List ℕ) → is_plain category ≡ true → has_text pfs pf ≡ true → names_at look (entry_path category pf) ≡ names_said (pf_read look pfs category pf)
said_one look pfs category pf plain there =
    ap (λ (o : Option (List ℕ × List ℕ)). option_map_or (λ parts. names_written parts.0 parts.1 (bytes_at look (entry_path category pf))) o []) (parts_are category pf plain)
    ∙ by (bytes_at look (entry_path category pf))
    ∙ sym (ap (λ (b : Bool). option_map_or (λ e. named_by e.eclasses) (option_map (entry_of category pf) (if b then bytes_at look (entry_path category pf) else None)) []) there)
  where
    by : (o : Option (List ℕ)) → names_written category pf o ≡ option_map_or (λ e. named_by e.eclasses) (option_map (entry_of category pf) o) []
    by None = refl
    by (Some text) = refl

said_in : (look : Look) (all : List (List ℕ)) (category : List ℕ) → is_plain category ≡ true → (pfs : List (List ℕ)) → ((pf : List ℕ) → has_text pfs pf ≡ true → has_text all pf ≡ true) →
    flat_map (names_at look) (map (entry_path category) pfs) ≡ flat_map names_said (map (pf_read look all category) pfs)
said_in look all category plain [] among = refl
said_in look all category plain (pf ∷ pfs) among =
    ap (λ ns. ns ++ flat_map (names_at look) (map (entry_path category) pfs)) (said_one look all category pf plain (among pf (itself pf pfs)))
    ∙ ap (λ ns. names_said (pf_read look all category pf) ++ ns) (said_in look all category plain pfs (λ p there. among p (on_right (bytes_eq p pf) _ there)))

pub said_are : (look : Look) (paths cs : List (List ℕ)) → list_all is_category cs ≡ true → names_by look (paths_of paths cs) ≡ all_said (edited_reads look paths cs)
said_are look paths [] valid = refl
said_are look paths (c ∷ cs) valid =
    let parts = and_parts (is_category c) (list_all is_category cs) valid in
    let pfs = pfs_edited paths c in
    flat_map-append (names_at look) (map (entry_path c) pfs) (paths_of paths cs)
    ∙ ap (λ ns. ns ++ names_by look (paths_of paths cs)) (said_in look pfs c (plain_category c parts.0) pfs (λ pf there. there))
    ∙ ap (λ ns. all_said (edited_in look paths c) ++ ns) (said_are look paths cs parts.1)
    ∙ sym (flat_map-append names_said (edited_in look paths c) (edited_reads look paths cs))

as_many : (look : Look) (paths cs : List (List ℕ)) → length (paths_of paths cs) ≡ length (edited_reads look paths cs)
as_many look paths [] = refl
as_many look paths (c ∷ cs) =
    length-append (map (entry_path c) (pfs_edited paths c)) (paths_of paths cs)
    ∙ ap (λ n. n + length (paths_of paths cs)) (length-map (pfs_edited paths c) (entry_path c) ∙ sym (length-map (pfs_edited paths c) (pf_read look (pfs_edited paths c) c)))
    ∙ ap (λ n. length (edited_in look paths c) + n) (as_many look paths cs)
    ∙ sym (length-append (edited_in look paths c) (edited_reads look paths cs))

pub more_is : (look : Look) (paths cs : List (List ℕ)) → list_all is_category cs ≡ true → most_more look (paths_of paths cs) ≡ (read_of look paths cs).more
more_is look paths cs valid =
    let names = names_by look (paths_of paths cs) in
    let besides : length (map ebuild_by (paths_of paths cs) ++ map eclass_path names) ≡ length (edited_reads look paths cs) + length (all_said (edited_reads look paths cs)) =
    length-append (map ebuild_by (paths_of paths cs)) (map eclass_path names)
    ∙ ap (λ n. n + length (map eclass_path names)) (length-map (paths_of paths cs) ebuild_by ∙ as_many look paths cs)
    ∙ ap (λ n. length (edited_reads look paths cs) + n) (length-map names eclass_path ∙ ap (λ (ns : List (List ℕ)). length ns) (said_are look paths cs valid)) in
    ap (λ n. n + length (map ebuild_by (paths_of paths cs) ++ map eclass_path names)) (as_many look paths cs) ∙ ap (λ n. length (edited_reads look paths cs) + n) besides

-- ---- what is read passes
light_edited : (paths cs : List (List ℕ)) → list_all is_light (pf_edited_steps paths cs) ≡ true
light_edited paths [] = refl
light_edited paths (c ∷ cs) = light_both (steps_in paths c) (pf_edited_steps paths cs) (light_pfs (pfs_edited paths c) c (pfs_edited paths c)) (light_edited paths cs)

abbrev read_in : (paths : List (List ℕ)) → List ℕ → List (List ℕ)
read_in paths category = flat_map (λ pf. paths_by (has_text (pfs_edited paths category) pf) category pf) (pfs_edited paths category)

once_edited : (paths cs : List (List ℕ)) → once_paths (pf_edited_steps paths cs) ≡ flat_map (read_in paths) cs
once_edited paths [] = refl
once_edited paths (c ∷ cs) =
    filter_map-append once_path (steps_in paths c) (pf_edited_steps paths cs)
    ∙ ap (λ ps. ps ++ once_paths (pf_edited_steps paths cs)) (of_pfs (pfs_edited paths c) c (pfs_edited paths c))
    ∙ ap (λ ps. read_in paths c ++ ps) (once_edited paths cs)

once_eclasses : (names : List (List ℕ)) → once_paths (eclass_steps names) ≡ map eclass_path names
once_eclasses [] = refl
once_eclasses (name ∷ names) = ap (λ ps. eclass_path name ∷ ps) (once_eclasses names)

first_of : (b : Bool) (category pf : List ℕ) → b ≡ true → has_text (paths_by b category pf) (entry_path category pf) ≡ true
first_of true category pf is = itself (entry_path category pf) (ebuild_path category (name_of pf) pf ∷ [])
first_of false category pf is = cc

module _ (order : InOrderLaw) (look : Look) (cs paths : List (List ℕ)) (are : list_all (is_entry cs) paths ≡ true) (valid : list_all is_category cs ≡ true)
    (seen : Seen) (passes : passed look nothing (edited_steps look paths cs) ≡ Ok seen) where
  all_once : once_paths (edited_steps look paths cs) ≡ flat_map (read_in paths) cs ++ map eclass_path (in_order (all_said (edited_reads look paths cs)))
  all_once =
      let names = in_order (all_said (edited_reads look paths cs)) in
      filter_map-append once_path (pf_edited_steps paths cs) (eclass_steps names)
      ∙ ap (λ ps. ps ++ once_paths (eclass_steps names)) (once_edited paths cs)
      ∙ ap (λ ps. flat_map (read_in paths) cs ++ ps) (once_eclasses names)

  fits : (path : List ℕ) → has_text (flat_map (read_in paths) cs ++ map eclass_path (in_order (all_said (edited_reads look paths cs)))) path ≡ true → FitsAt look path
  fits path there =
      let steps = edited_steps look paths cs in
      let light = light_both (pf_edited_steps paths cs) (eclass_steps (in_order (all_said (edited_reads look paths cs)))) (light_edited paths cs) (light_eclasses (in_order (all_said (edited_reads look paths cs)))) in
      fits_in look nothing.known steps (passed_is look nothing seen steps light passes).fine path (ap (λ ps. has_text ps path) all_once ∙ there) (get-empty byte_cmp path)

  of_pf : (category pf path : List ℕ) → has_text cs category ≡ true → has_text (pfs_edited paths category) pf ≡ true → has_text (paths_by (has_text (pfs_edited paths category) pf) category pf) path ≡ true → FitsAt look path
  of_pf category pf path known has there =
      fits path (in_front (flat_map (read_in paths) cs) (map eclass_path (in_order (all_said (edited_reads look paths cs)))) path
      (of_group (read_in paths) cs category path known (of_group (λ p. paths_by (has_text (pfs_edited paths category) p) category p) (pfs_edited paths category) pf path has there)))

  -- a path among them is that of an edited PF
  at_path : (X : List ℕ → Type 0) → ((category pf : List ℕ) → has_text cs category ≡ true → has_text (pfs_edited paths category) pf ≡ true → X (entry_path category pf)) → (path : List ℕ) → has_text (paths_of paths cs) path ≡ true → X path
  at_path X each path there =
      let group = in_group (λ c. map (entry_path c) (pfs_edited paths c)) cs path there in
      let one = in_map (entry_path group.0) (pfs_edited paths group.0) path group.2 in
      subst X one.2 (each group.0 one.0 group.1 one.1)

  pub fits_files : (old : Look) → FitsFiles cs (paths_of paths cs) old look
  fits_files old = record {
    entries = at_path (FitsAt look) (λ category pf known has. of_pf category pf (entry_path category pf) known has (first_of (has_text (pfs_edited paths category) pf) category pf has));
    ebuilds = at_path (λ path. IsShort (ebuild_by path)) (λ category pf known has.
        subst IsShort (sym (ebuild_told cs valid category pf known)) (of_pf category pf (ebuild_path category (name_of pf) pf) known has (ebuild_last (has_text (pfs_edited paths category) pf) category pf)).0);
    eclasses = λ name there unread.
        let said = all_said (edited_reads look paths cs) in
        let named : has_text (in_order said) name ≡ true = sym (order.members said name) ∙ sym (ap (λ ns. has_text ns name) (said_are look paths cs valid)) ∙ there in
        fits (eclass_path name) (in_back (flat_map (read_in paths) cs) (map eclass_path (in_order said)) (eclass_path name) (of_map eclass_path (in_order said) name named));
  }
