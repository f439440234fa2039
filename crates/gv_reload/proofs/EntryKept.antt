-- What each PF is, where files differ at paths of entries alone.
use Rattle.std.proofs.Common.{◌≡◌, ℕ, ◌-◌, Bool, true, false, ◌&&◌, ◌||◌, List, [], ◌∷◌, ◌++◌, Some, None, length, take, drop, map, refl, sym, ap, ◌∙◌, arith, length-append, true≢false}
use Rattle.std.specs.Prelude.{Option, not, filter, flat_map, if◌then◌else◌, unwrap_or}
use Rattle.std.specs.List.{list_all}
use Rattle.std.specs.Option.{is_some, option_map}
use Rattle.std.specs.Str.{byte, bytes_eq}
use Rattle.std.specs.FinMap.{get}
use Rattle.std.specs.Cmp.{both_ways}
use Rattle.std.proofs.lemmas.Bool.{and_parts}
use Rattle.std.proofs.lemmas.List.{map-append}
use Rattle.std.proofs.lemmas.List.Elements.{filter-append}
use Rattle.std.proofs.lemmas.List.Folds.{list_any-append}
use Rattle.std.proofs.lemmas.List.Kept.{IsStrictlySortedBy-filter}
use Rattle.md5.specs.Md5.{md5}
use Rattle.gv_base.specs.FileMap.{FileMap}
use Rattle.gv_base.specs.Laws.{InOrderLaw}
use Rattle.gv_base.specs.Order.{byte_cmp, has_text, in_order, IsAscending}
use Rattle.gv_entry.specs.EntryRead.{entry_of}
use Rattle.gv_entry.specs.declared.entry.Eclass.{Eclass}
use Rattle.gv_entry.specs.declared.entry.Entry.{Entry}
use Rattle.gv_reading.specs.Paths.{within}
use Rattle.gv_version.specs.Laws.{IsDivided}
use Rattle.gv_version.specs.Names.{is_category, is_package, split_pf}
use Rattle.gv_load.specs.Categories.{ebuild_in, ebuilds_in, ends_as_ebuild, folders, front_of, is_pf, listed, name_of, pf_subject, pfs_of}
use Rattle.gv_reading.specs.Look.{Look, bytes_at, look_of}
use Rattle.gv_reload.specs.EntryEdits.{is_edited, is_entry}
use Rattle.gv_load.specs.Entries.{all_reads, eclass_digest, entry_bytes, pf_read, reads_of}
use Rattle.gv_load.specs.Freshness.{Digests, all_kept, first_other, is_that, kept_as, kept_with, pf_kept, stale_eclasses}
use Rattle.gv_load.specs.Paths.{cache_dir, ebuild_end, ebuild_path, eclass_path, entry_path}
use Rattle.gv_load.specs.declared.entries.PfRead.{PfRead}
use Rattle.gv_load.specs.declared.freshness.Kept.{Kept}
use Rattle.gv_load.specs.declared.freshness.Kept.TheVariants.{Nothing, Missing, Orphan, Stale, Current}
use Rattle.gv_load.specs.declared.freshness.PfKept.{PfKept}
use Rattle.gv_load.specs.declared.freshness.Why.{Why}
use Rattle.gv_load.specs.declared.freshness.Why.TheVariants.{Ebuild, OneEclass}
use Rattle.gv_reload.proofs.EntryLists.{filter_mapped, has_filter, in_flat, map_same}
use Rattle.gv_reload.proofs.EntryMaps.{bytes_are, bytes_same, name_below}
use Rattle.gv_reload.proofs.EntryPaths.{ebuild_other, eclass_other, plain_one}
use Rattle.gv_reload.proofs.OncePaths.{front_is, plain_file, without_end}
use Rattle.gv_reload.proofs.Slashes.{is_plain, plain_name, plain_pf}
use Rattle.gv_load.specs.ListLemmas.{on_left, on_right}
use Rattle.gv_base.specs.Folders.{and_both, equal_bytes, folder_to, in_mapped, is_one, or_first, or_second, stands}

-- ---- what a PF of a category is
abbrev pub kept_of : Look → (category pf : List ℕ) → PfKept
kept_of look category pf = pf_kept (eclass_digest look) (pf_read look (listed look category) category pf)

abbrev pub is_nothing : Kept → Bool
is_nothing Nothing = true
is_nothing Missing = false
is_nothing Orphan = false
is_nothing (Stale why) = false
is_nothing (Current e) = false

-- something is told of it, and its entry isn't edited
abbrev pub counts : (paths : List (List ℕ)) → PfKept → Bool
counts paths k = not (is_edited paths k.subject) && not (is_nothing k.kept)

mapped_reads : (look : Look) (category : List ℕ) (pfs : List (List ℕ)) → map (pf_kept (eclass_digest look)) (map (pf_read look (listed look category) category) pfs) ≡ map (kept_of look category) pfs
mapped_reads look category [] = refl
mapped_reads look category (pf ∷ pfs) = ap (λ (ks : List PfKept). kept_of look category pf ∷ ks) (mapped_reads look category pfs)

pub all_kept_are : (look : Look) (categories : List (List ℕ)) → all_kept look categories ≡ flat_map (λ category. map (kept_of look category) (pfs_of look category)) categories
all_kept_are look [] = refl
all_kept_are look (category ∷ categories) =
    map-append (pf_kept (eclass_digest look)) (reads_of look category) (all_reads look categories)
    ∙ ap (λ (ks : List PfKept). ks ++ all_kept look categories) (mapped_reads look category (pfs_of look category))
    ∙ ap (λ (ks : List PfKept). map (kept_of look category) (pfs_of look category) ++ ks) (all_kept_are look categories)

-- by the bytes of its entry and of its ebuild
abbrev pub read_with : (category pf : List ℕ) → (entry ebuild : Option (List ℕ)) → PfRead
read_with category pf entry ebuild = record { subject = pf_subject category pf; entry = option_map (entry_of category pf) entry; ebuild = option_map md5 ebuild }

-- ---- digests that are the same
module _ (here there : Digests) (same : (name : List ℕ) → here name ≡ there name) where
  other_same : (es : List Eclass) → first_other here es ≡ first_other there es
  other_same [] = refl
  other_same (e ∷ es) =
      ap (λ (o : Option (List ℕ)). if is_that o e.digest then first_other here es else Some e.name) (same e.name)
      ∙ ap (λ (o : Option (List ℕ)). if is_that (there e.name) e.digest then o else Some e.name) (other_same es)

  eclasses_same : (es : Option (List Eclass)) → stale_eclasses here es ≡ stale_eclasses there es
  eclasses_same None = refl
  eclasses_same (Some es) = ap (option_map OneEclass) (other_same es)

  as_same : (entry : Option Entry) (ebuild : Option (List ℕ)) → kept_as here entry ebuild ≡ kept_as there entry ebuild
  as_same None None = refl
  as_same None (Some ebuild) = refl
  as_same (Some e) None = refl
  as_same (Some e) (Some ebuild) = ap (λ (why : Option Why). kept_with e (if is_that e.digest ebuild then why else Some Ebuild)) (eclasses_same e.eclasses)

  pub pf_same : (r : PfRead) → pf_kept here r ≡ pf_kept there r
  pf_same r = ap (λ (k : Kept). let kept : PfKept = record { subject = r.subject; kept = k } in kept) (as_same r.entry r.ebuild)

-- ---- the name of an ebuild
dropped_front : (front end : List ℕ) → drop (length front) (front ++ end) ≡ end
dropped_front [] end = refl
dropped_front (b ∷ bs) end = dropped_front bs end

end_is : bytes_eq ebuild_end ebuild_end ≡ true
unfolding ebuild_end
end_is = refl

ends_so : (pf : List ℕ) → ends_as_ebuild (pf ++ ebuild_end) ≡ true
ends_so pf =
    let less : length (pf ++ ebuild_end) - length ebuild_end ≡ length pf = simp length-append (omega arith) in
    ap (λ n. bytes_eq ebuild_end (drop n (pf ++ ebuild_end))) less ∙ ap (bytes_eq ebuild_end) (dropped_front pf ebuild_end) ∙ end_is

ebuild_is_in : (pf : List ℕ) → ebuild_in (name_of pf) (pf ++ ebuild_end) ≡ Some pf
ebuild_is_in pf =
    ap (λ (b : Bool). let o : Option (List ℕ) = if b && bytes_eq (name_of (front_of (pf ++ ebuild_end))) (name_of pf) then Some (front_of (pf ++ ebuild_end)) else None in o) (ends_so pf)
    ∙ ap (λ (front : List ℕ). let o : Option (List ℕ) = if bytes_eq (name_of front) (name_of pf) then Some front else None in o) (without_end pf ebuild_end)
    ∙ ap (λ (b : Bool). let o : Option (List ℕ) = if b then Some pf else None in o) (equal_bytes (name_of pf))

name_package : ((bytes : List ℕ) → IsDivided bytes) → (pf : List ℕ) → is_pf pf ≡ true → is_package (name_of pf) ≡ true
name_package division pf good = by (split_pf pf) refl good
  where
    by : (o : Option ℕ) → split_pf pf ≡ o → is_some o ≡ true → is_package (take (unwrap_or o 0) pf) ≡ true
    by None at there = cc
    by (Some at) is there =
        let d = ((division pf).there at is).0 in
        let front : take at pf ≡ d.name = ap (take at) (sym d.written) ∙ ap (λ n. take n (d.name ++ byte "-" ∷ d.version)) (sym d.place) ∙ front_is d.name (byte "-" ∷ d.version) in
        ap is_package front ∙ d.name_form

-- ---- one map
module _ (order : InOrderLaw) (division : (bytes : List ℕ) → IsDivided bytes) (m : FileMap) where
  listed_has : (category pf : List ℕ) → is_plain pf ≡ true → is_some (get m (entry_path category pf)) ≡ true → has_text (listed (look_of m) category) pf ≡ true
  listed_has category pf pp there = name_below order m (cache_dir category) pf ∙ and_both (is_one pf) (stands m (entry_path category pf)) (plain_one pf pp) (or_first (is_some (get m (entry_path category pf))) _ there)

  bytes_here : (category pf : List ℕ) → is_plain pf ≡ true → entry_bytes (look_of m) (listed (look_of m) category) category pf ≡ get m (entry_path category pf)
  bytes_here category pf pp = by (has_text (listed (look_of m) category) pf) refl (get m (entry_path category pf)) refl
    where
      by : (b : Bool) → has_text (listed (look_of m) category) pf ≡ b → (o : Option (List ℕ)) → get m (entry_path category pf) ≡ o → (if b then bytes_at (look_of m) (entry_path category pf) else None) ≡ o
      by true is o at = bytes_are m (entry_path category pf) ∙ at
      by false is None at = refl
      by false is (Some bytes) at = absurd (true≢false (sym (listed_has category pf pp (ap is_some at)) ∙ is))

  pub read_is : (category pf : List ℕ) → is_plain pf ≡ true → pf_read (look_of m) (listed (look_of m) category) category pf ≡ read_with category pf (get m (entry_path category pf)) (get m (ebuild_path category (name_of pf) pf))
  read_is category pf pp =
      ap (λ (o : Option (List ℕ)). read_with category pf o (bytes_at (look_of m) (ebuild_path category (name_of pf) pf))) (bytes_here category pf pp)
      ∙ ap (read_with category pf (get m (entry_path category pf))) (bytes_are m (ebuild_path category (name_of pf) pf))

  ebuild_has : (category pf : List ℕ) → is_pf pf ≡ true → is_some (get m (ebuild_path category (name_of pf) pf)) ≡ true → has_text (flat_map (ebuilds_in (look_of m) category) (folders (look_of m) category)) pf ≡ true
  ebuild_has category pf good there =
      let pp = plain_pf division pf good in
      let name = name_of pf in
      let one : is_one name ≡ true = plain_one name (plain_name pf pp) in
      let folder : has_text (folders (look_of m) category) name ≡ true =
      has_filter is_package ((look_of m).names category) name ∙ and_both (is_package name) _ (name_package division pf good)
      (name_below order m category name ∙ and_both (is_one name) (stands m (within category name)) one (or_second (is_some (get m (within category name))) _ (folder_to m (within category name) (pf ++ ebuild_end) there))) in
      let file : has_text ((look_of m).names (within category name)) (pf ++ ebuild_end) ≡ true =
      name_below order m (within category name) (pf ++ ebuild_end)
      ∙ and_both (is_one (pf ++ ebuild_end)) (stands m (ebuild_path category name pf)) (plain_one (pf ++ ebuild_end) (plain_file pf pp)) (or_first (is_some (get m (ebuild_path category name pf))) _ there) in
      in_flat (ebuilds_in (look_of m) category) (folders (look_of m) category) name pf folder (in_mapped (ebuild_in name) ((look_of m).names (within category name)) (pf ++ ebuild_end) pf file (ebuild_is_in pf))

  among : (category pf : List ℕ) → is_pf pf ≡ true → (has_text (listed (look_of m) category) pf || has_text (flat_map (ebuilds_in (look_of m) category) (folders (look_of m) category)) pf) ≡ true → has_text (pfs_of (look_of m) category) pf ≡ true
  among category pf good there =
      let entries = listed (look_of m) category in
      let ebuilds = flat_map (ebuilds_in (look_of m) category) (folders (look_of m) category) in
      has_filter is_pf (in_order (entries ++ ebuilds)) pf ∙ and_both (is_pf pf) _ good (sym (order.members (entries ++ ebuilds) pf) ∙ list_any-append (bytes_eq pf) entries ebuilds ∙ there)

  -- a PF of which something is told is one of the category's
  pub told_there : (category pf : List ℕ) → is_pf pf ≡ true → is_nothing (kept_of (look_of m) category pf).kept ≡ false → has_text (pfs_of (look_of m) category) pf ≡ true
  told_there category pf good told =
      let pp = plain_pf division pf good in
      by (get m (entry_path category pf)) refl (get m (ebuild_path category (name_of pf) pf)) refl
      (sym (ap (λ (r : PfRead). is_nothing (pf_kept (eclass_digest (look_of m)) r).kept) (read_is category pf pp)) ∙ told)
    where
      by : (e : Option (List ℕ)) → get m (entry_path category pf) ≡ e → (b : Option (List ℕ)) → get m (ebuild_path category (name_of pf) pf) ≡ b →
          is_nothing (kept_as (eclass_digest (look_of m)) (option_map (entry_of category pf) e) (option_map md5 b)) ≡ false → has_text (pfs_of (look_of m) category) pf ≡ true
      by (Some bytes) at b there h = among category pf good (on_left _ (has_text (flat_map (ebuilds_in (look_of m) category) (folders (look_of m) category)) pf) (listed_has category pf (plain_pf division pf good) (ap is_some at)))
      by None at (Some bytes) there h = among category pf good (on_right (has_text (listed (look_of m) category) pf) _ (ebuild_has category pf good (ap is_some there)))
      by None at None there h = cc

  pfs_ascend : (category : List ℕ) → IsAscending (pfs_of (look_of m) category)
  pfs_ascend category =
      let all = listed (look_of m) category ++ flat_map (ebuilds_in (look_of m) category) (folders (look_of m) category) in
      IsStrictlySortedBy-filter byte_cmp is_pf (in_order all) (order.ascends all)

  pub some_ascend : (category : List ℕ) (test : List ℕ → Bool) → IsAscending (filter test (pfs_of (look_of m) category))
  some_ascend category test = IsStrictlySortedBy-filter byte_cmp test (pfs_of (look_of m) category) (pfs_ascend category)

  pub all_good : (category pf : List ℕ) → has_text (pfs_of (look_of m) category) pf ≡ true → is_pf pf ≡ true
  all_good category pf there =
      let all = listed (look_of m) category ++ flat_map (ebuilds_in (look_of m) category) (folders (look_of m) category) in
      (and_parts (is_pf pf) (has_text (in_order all) pf) (sym (has_filter is_pf (in_order all) pf) ∙ there)).0

both_not : (a b : Bool) → (not a && not b) ≡ true → (a ≡ false) × (b ≡ false)
both_not false false is = (refl, refl)
both_not true b is = cc
both_not false true is = cc

-- ---- two maps
module _ (order : InOrderLaw) (division : (bytes : List ℕ) → IsDivided bytes) (categories paths : List (List ℕ)) (are : list_all (is_entry categories) paths ≡ true) (valid : list_all is_category categories ≡ true)
    (files files' : FileMap) (same : (path : List ℕ) → has_text paths path ≡ false → get files' path ≡ get files path) where
  kept_same : (category pf : List ℕ) → is_category category ≡ true → is_pf pf ≡ true → has_text paths (entry_path category pf) ≡ false → kept_of (look_of files') category pf ≡ kept_of (look_of files) category pf
  kept_same category pf is good other =
      let pp = plain_pf division pf good in
      let at = ebuild_path category (name_of pf) pf in
      ap (pf_kept (eclass_digest (look_of files'))) (read_is order division files' category pf pp)
      ∙ ap (λ (o : Option (List ℕ)). pf_kept (eclass_digest (look_of files')) (read_with category pf o (get files' at))) (same (entry_path category pf) other)
      ∙ ap (λ (o : Option (List ℕ)). pf_kept (eclass_digest (look_of files')) (read_with category pf (get files (entry_path category pf)) o)) (same at (ebuild_other categories paths are division valid category pf is good))
      ∙ pf_same (eclass_digest (look_of files')) (eclass_digest (look_of files)) (λ name. ap (option_map md5) (bytes_same paths files files' same (eclass_path name) (eclass_other categories paths are name)))
      (read_with category pf (get files (entry_path category pf)) (get files at))
      ∙ ap (pf_kept (eclass_digest (look_of files))) (sym (read_is order division files category pf pp))

  counted : FileMap → List ℕ → List ℕ → Bool
  counted m category pf = counts paths (kept_of (look_of m) category pf)

  some_of : FileMap → List ℕ → List (List ℕ)
  some_of m category = filter (λ pf. counts paths (kept_of (look_of m) category pf)) (pfs_of (look_of m) category)

  -- one direction, for any two such maps
  abbrev GoesOver : (from to : FileMap) → Type 0
  GoesOver from to = (category pf : List ℕ) → is_category category ≡ true → is_pf pf ≡ true → has_text paths (entry_path category pf) ≡ false → kept_of (look_of from) category pf ≡ kept_of (look_of to) category pf

  goes : (from to : FileMap) → GoesOver from to → (category : List ℕ) → is_category category ≡ true → (pf : List ℕ) →
      has_text (filter (λ p. counts paths (kept_of (look_of from) category p)) (pfs_of (look_of from) category)) pf ≡ true →
      has_text (filter (λ p. counts paths (kept_of (look_of to) category p)) (pfs_of (look_of to) category)) pf ≡ true
  goes from to over category is pf there =
      let test : List ℕ → Bool = λ p. counts paths (kept_of (look_of from) category p) in
      let parts = and_parts (test pf) (has_text (pfs_of (look_of from) category) pf) (sym (has_filter test (pfs_of (look_of from) category) pf) ∙ there) in
      let good = all_good order division from category pf parts.1 in
      let nots = both_not (has_text paths (entry_path category pf)) (is_nothing (kept_of (look_of from) category pf).kept) parts.0 in
      let k = over category pf is good nots.0 in
      let told : is_nothing (kept_of (look_of to) category pf).kept ≡ false = sym (ap (λ (x : PfKept). is_nothing x.kept) k) ∙ nots.1 in
      has_filter (λ p. counts paths (kept_of (look_of to) category p)) (pfs_of (look_of to) category) pf
      ∙ and_both _ (has_text (pfs_of (look_of to) category) pf) (sym (ap (counts paths) k) ∙ parts.0) (told_there order division to category pf good told)

  counted_same : (category : List ℕ) → is_category category ≡ true →
      filter (λ p. counts paths (kept_of (look_of files') category p)) (pfs_of (look_of files') category) ≡ filter (λ p. counts paths (kept_of (look_of files) category p)) (pfs_of (look_of files) category)
  counted_same category is =
      order.unique _ _ (some_ascend order division files' category (λ p. counts paths (kept_of (look_of files') category p))) (some_ascend order division files category (λ p. counts paths (kept_of (look_of files) category p)))
      (λ pf. both_ways _ _ (goes files' files kept_same category is pf) (goes files files' (λ c p i g o. sym (kept_same c p i g o)) category is pf))

  category_same : (category : List ℕ) → is_category category ≡ true →
      filter (counts paths) (map (kept_of (look_of files') category) (pfs_of (look_of files') category)) ≡ filter (counts paths) (map (kept_of (look_of files) category) (pfs_of (look_of files) category))
  category_same category is =
      let test : List ℕ → Bool = λ p. counts paths (kept_of (look_of files) category p) in
      filter_mapped (counts paths) (kept_of (look_of files') category) (pfs_of (look_of files') category)
      ∙ ap (map (kept_of (look_of files') category)) (counted_same category is)
      ∙ map_same (kept_of (look_of files') category) (kept_of (look_of files) category) (filter test (pfs_of (look_of files) category))
      (λ pf there.
      let parts = and_parts (test pf) (has_text (pfs_of (look_of files) category) pf) (sym (has_filter test (pfs_of (look_of files) category) pf) ∙ there) in
      kept_same category pf is (all_good order division files category pf parts.1) (both_not (has_text paths (entry_path category pf)) (is_nothing (kept_of (look_of files) category pf).kept) parts.0).0)
      ∙ sym (filter_mapped (counts paths) (kept_of (look_of files) category) (pfs_of (look_of files) category))

  each_same : (cs : List (List ℕ)) → list_all is_category cs ≡ true →
      filter (counts paths) (flat_map (λ c. map (kept_of (look_of files') c) (pfs_of (look_of files') c)) cs) ≡ filter (counts paths) (flat_map (λ c. map (kept_of (look_of files) c) (pfs_of (look_of files) c)) cs)
  each_same [] all = refl
  each_same (c ∷ cs) all =
      let parts = and_parts (is_category c) (list_all is_category cs) all in
      filter-append (counts paths) (map (kept_of (look_of files') c) (pfs_of (look_of files') c)) _
      ∙ ap (λ (ks : List PfKept). ks ++ filter (counts paths) (flat_map (λ d. map (kept_of (look_of files') d) (pfs_of (look_of files') d)) cs)) (category_same c parts.0)
      ∙ ap (λ (ks : List PfKept). filter (counts paths) (map (kept_of (look_of files) c) (pfs_of (look_of files) c)) ++ ks) (each_same cs parts.1)
      ∙ sym (filter-append (counts paths) (map (kept_of (look_of files) c) (pfs_of (look_of files) c)) _)

  -- what is told of PFs whose entries aren't edited is the same
  pub told_same : filter (counts paths) (all_kept (look_of files') categories) ≡ filter (counts paths) (all_kept (look_of files) categories)
  told_same = ap (filter (counts paths)) (all_kept_are (look_of files') categories) ∙ each_same categories valid ∙ sym (ap (filter (counts paths)) (all_kept_are (look_of files) categories))
