-- What is told of edited PFs: the same where they are read by themselves as where all are read.
use Rattle.std.proofs.Common.{◌≡◌, ℕ, Bool, true, false, ◌&&◌, List, [], ◌∷◌, ◌++◌, Some, None, map, refl, sym, ap, subst, ◌∙◌, true≢false}
use Rattle.std.specs.Prelude.{Option, not, filter, filter_map, flat_map, if◌then◌else◌}
use Rattle.std.specs.Cmp.{both_ways}
use Rattle.std.specs.FinMap.{get}
use Rattle.std.specs.List.{AllByRecursion, list_all}
use Rattle.std.specs.Ordering.{eq_by_cmp, is_eq}
use Rattle.std.specs.declared.cmp.Ordering.TheVariants.{Equal}
use Rattle.std.proofs.lemmas.Bool.{and_parts}
use Rattle.std.proofs.lemmas.List.{map-append}
use Rattle.std.proofs.lemmas.List.Elements.{filter-append}
use Rattle.std.proofs.lemmas.List.Kept.{IsStrictlySortedBy-filter}
use Rattle.gv_base.specs.FileMap.{FileMap}
use Rattle.gv_base.specs.Laws.{InOrderLaw}
use Rattle.gv_base.specs.Order.{IsAscending, byte_cmp, has_text, in_order}
use Rattle.gv_profile.specs.declared.notes.PlaceNote.{PlaceNote}
use Rattle.gv_report.specs.Order.{subject_cmp}
use Rattle.gv_report.specs.declared.keyword.Keyword.{Keyword}
use Rattle.gv_report.specs.declared.report.Subject.{Subject}
use Rattle.gv_report.specs.declared.report.Subject.TheVariants.{Place, Package}
use Rattle.gv_version.specs.Laws.{IsDivided}
use Rattle.gv_version.specs.Names.{is_category}
use Rattle.gv_load.specs.Categories.{is_pf, name_of, pfs_of}
use Rattle.gv_reading.specs.Look.{Look, bytes_at, look_of}
use Rattle.gv_reload.specs.EntryEdits.{is_about, is_edited, is_entry}
use Rattle.gv_load.specs.Entries.{eclass_digest, entry_bytes, pf_read}
use Rattle.gv_load.specs.Freshness.{all_kept, pf_kept}
use Rattle.gv_load.specs.MemberOrder.{member_total}
use Rattle.gv_load.specs.Notes.{pf_notes, place_report}
use Rattle.gv_load.specs.Paths.{ebuild_path, entry_path}
use Rattle.gv_reload.specs.Replacing.{is_of_edited}
use Rattle.gv_load.specs.Repository.{in_package_order, member_cmp, member_in, members_in}
use Rattle.gv_reload.specs.Rereading.{edited_in, edited_kept, edited_reads, pf_in, pfs_edited}
use Rattle.gv_load.specs.declared.freshness.PfKept.{PfKept}
use Rattle.gv_load.specs.declared.members.Member.{Member}
use Rattle.gv_reload.proofs.Counting.{filtered, kept}
use Rattle.gv_reload.proofs.EditedPfs.{edited_from, edited_has}
use Rattle.gv_reload.proofs.EntryKept.{all_good, all_kept_are, is_nothing, kept_of, read_is, read_with, some_ascend, told_there}
use Rattle.gv_reload.proofs.EntryLists.{filter_mapped, map_same, order_kept}
use Rattle.gv_reload.proofs.EntryMaps.{bytes_are}
use Rattle.gv_reload.proofs.EntryMembers.{IsOf, alike, all_both, edited_so, is_equal, member_named, no_notes, notes_out, notes_tested, of_tested, some_member}
use Rattle.gv_reload.proofs.Slashes.{is_plain, plain_category, plain_pf}

-- something is told of it, and its entry is edited
abbrev pub tells : (paths : List (List ℕ)) → PfKept → Bool
tells paths k = is_edited paths k.subject && not (is_nothing k.kept)

-- what an edited PF of a category is, where these are read
abbrev kept_by : Look → (pfs : List (List ℕ)) → (category pf : List ℕ) → PfKept
kept_by look pfs category pf = pf_kept (eclass_digest look) (pf_read look pfs category pf)

mapped : (look : Look) (all : List (List ℕ)) (category : List ℕ) (pfs : List (List ℕ)) → map (pf_kept (eclass_digest look)) (map (pf_read look all category) pfs) ≡ map (kept_by look all category) pfs
mapped look all category [] = refl
mapped look all category (pf ∷ pfs) = ap (λ (ks : List PfKept). kept_by look all category pf ∷ ks) (mapped look all category pfs)

edited_are : (look : Look) (paths cs : List (List ℕ)) → edited_kept look paths cs ≡ flat_map (λ c. map (kept_by look (pfs_edited paths c) c) (pfs_edited paths c)) cs
edited_are look paths [] = refl
edited_are look paths (c ∷ cs) =
    map-append (pf_kept (eclass_digest look)) (edited_in look paths c) (edited_reads look paths cs)
    ∙ ap (λ (ks : List PfKept). ks ++ edited_kept look paths cs) (mapped look (pfs_edited paths c) c (pfs_edited paths c))
    ∙ ap (λ (ks : List PfKept). map (kept_by look (pfs_edited paths c) c) (pfs_edited paths c) ++ ks) (edited_are look paths cs)

not_so : (a : Bool) → not a ≡ true → a ≡ false
not_so true is = sym is
not_so false is = refl

-- ---- PFs
module _ (order : InOrderLaw) (division : (bytes : List ℕ) → IsDivided bytes) (cs paths : List (List ℕ)) (are : list_all (is_entry cs) paths ≡ true) (valid : list_all is_category cs ≡ true) (m : FileMap) where
  kept_same : (all : List (List ℕ)) (category pf : List ℕ) → is_plain pf ≡ true → has_text all pf ≡ true → kept_by (look_of m) all category pf ≡ kept_of (look_of m) category pf
  kept_same all category pf plain there =
      let entry = entry_path category pf in
      let ebuild = ebuild_path category (name_of pf) pf in
      let read : pf_read (look_of m) all category pf ≡ read_with category pf (get m entry) (get m ebuild) =
      ap (λ (b : Bool). read_with category pf (if b then bytes_at (look_of m) entry else None) (bytes_at (look_of m) ebuild)) there
      ∙ ap (λ (o : Option (List ℕ)). read_with category pf o (bytes_at (look_of m) ebuild)) (bytes_are m entry)
      ∙ ap (read_with category pf (get m entry)) (bytes_are m ebuild) in
      ap (pf_kept (eclass_digest (look_of m))) (read ∙ sym (read_is order division m category pf plain))

  edited_ascend : (category : List ℕ) → IsAscending (pfs_edited paths category)
  edited_ascend category = IsStrictlySortedBy-filter byte_cmp is_pf (in_order (filter_map (pf_in category) paths)) (order.ascends (filter_map (pf_in category) paths))

  pfs_same : (category : List ℕ) → is_category category ≡ true →
      filter (λ p. tells paths (kept_of (look_of m) category p)) (pfs_of (look_of m) category) ≡ filter (λ p. tells paths (kept_by (look_of m) (pfs_edited paths category) category p)) (pfs_edited paths category)
  pfs_same category is =
      order.unique _ _ (some_ascend order division m category whole) (IsStrictlySortedBy-filter byte_cmp alone (pfs_edited paths category) (edited_ascend category)) (λ pf. both_ways _ _ (to pf) (back pf))
    where
      whole : List ℕ → Bool
      whole p = tells paths (kept_of (look_of m) category p)

      alone : List ℕ → Bool
      alone p = tells paths (kept_by (look_of m) (pfs_edited paths category) category p)

      to : (pf : List ℕ) → has_text (filter (λ p. tells paths (kept_of (look_of m) category p)) (pfs_of (look_of m) category)) pf ≡ true →
          has_text (filter (λ p. tells paths (kept_by (look_of m) (pfs_edited paths category) category p)) (pfs_edited paths category)) pf ≡ true
      to pf there =
          let parts = filtered (λ p. tells paths (kept_of (look_of m) category p)) (pfs_of (look_of m) category) pf there in
          let good = all_good order division m category pf parts.0 in
          let two = and_parts (has_text paths (entry_path category pf)) (not (is_nothing (kept_of (look_of m) category pf).kept)) parts.1 in
          let has = edited_has order cs paths are valid category pf (plain_category category is) good two.0 in
          kept (λ p. tells paths (kept_by (look_of m) (pfs_edited paths category) category p)) (pfs_edited paths category) pf has
          (ap (tells paths) (kept_same (pfs_edited paths category) category pf (plain_pf division pf good) has) ∙ parts.1)

      back : (pf : List ℕ) → has_text (filter (λ p. tells paths (kept_by (look_of m) (pfs_edited paths category) category p)) (pfs_edited paths category)) pf ≡ true →
          has_text (filter (λ p. tells paths (kept_of (look_of m) category p)) (pfs_of (look_of m) category)) pf ≡ true
      back pf there =
          let parts = filtered (λ p. tells paths (kept_by (look_of m) (pfs_edited paths category) category p)) (pfs_edited paths category) pf there in
          let from = edited_from order cs paths are valid category pf parts.0 in
          let here : tells paths (kept_of (look_of m) category pf) ≡ true = sym (ap (tells paths) (kept_same (pfs_edited paths category) category pf (plain_pf division pf from.1) parts.0)) ∙ parts.1 in
          let two = and_parts (has_text paths (entry_path category pf)) (not (is_nothing (kept_of (look_of m) category pf).kept)) here in
          kept (λ p. tells paths (kept_of (look_of m) category p)) (pfs_of (look_of m) category) pf (told_there order division m category pf from.1 (not_so _ two.1)) here

  category_same : (category : List ℕ) → is_category category ≡ true →
      filter (tells paths) (map (kept_of (look_of m) category) (pfs_of (look_of m) category)) ≡ filter (tells paths) (map (kept_by (look_of m) (pfs_edited paths category) category) (pfs_edited paths category))
  category_same category is =
      let alone : List ℕ → Bool = λ p. tells paths (kept_by (look_of m) (pfs_edited paths category) category p) in
      filter_mapped (tells paths) (kept_of (look_of m) category) (pfs_of (look_of m) category)
      ∙ ap (map (kept_of (look_of m) category)) (pfs_same category is)
      ∙ map_same (kept_of (look_of m) category) (kept_by (look_of m) (pfs_edited paths category) category) (filter alone (pfs_edited paths category))
      (λ pf there.
      let parts = filtered alone (pfs_edited paths category) pf there in
      sym (kept_same (pfs_edited paths category) category pf (plain_pf division pf (edited_from order cs paths are valid category pf parts.0).1) parts.0))
      ∙ sym (filter_mapped (tells paths) (kept_by (look_of m) (pfs_edited paths category) category) (pfs_edited paths category))

  each_same : (ds : List (List ℕ)) → list_all is_category ds ≡ true →
      filter (tells paths) (flat_map (λ c. map (kept_of (look_of m) c) (pfs_of (look_of m) c)) ds) ≡ filter (tells paths) (flat_map (λ c. map (kept_by (look_of m) (pfs_edited paths c) c) (pfs_edited paths c)) ds)
  each_same [] all = refl
  each_same (c ∷ ds) all =
      let parts = and_parts (is_category c) (list_all is_category ds) all in
      filter-append (tells paths) (map (kept_of (look_of m) c) (pfs_of (look_of m) c)) _
      ∙ ap (λ (ks : List PfKept). ks ++ filter (tells paths) (flat_map (λ d. map (kept_of (look_of m) d) (pfs_of (look_of m) d)) ds)) (category_same c parts.0)
      ∙ ap (λ (ks : List PfKept). filter (tells paths) (map (kept_by (look_of m) (pfs_edited paths c) c) (pfs_edited paths c)) ++ ks) (each_same ds parts.1)
      ∙ sym (filter-append (tells paths) (map (kept_by (look_of m) (pfs_edited paths c) c) (pfs_edited paths c)) _)

  pub told_alike : filter (tells paths) (all_kept (look_of m) cs) ≡ filter (tells paths) (edited_kept (look_of m) paths cs)
  told_alike = ap (filter (tells paths)) (all_kept_are (look_of m) cs) ∙ each_same cs valid ∙ sym (ap (filter (tells paths)) (edited_are (look_of m) paths cs))

-- ---- packages
edited_is_of : (look : Look) (all : List (List ℕ)) (category pf : List ℕ) → is_category category ≡ true → IsOf (kept_by look all category pf)
edited_is_of look all category pf is = record {
  category = category;
  pf = pf;
  valid = is;
  subject = refl;
  named = λ m at. member_named (eclass_digest look) category pf (entry_bytes look all category pf) _ m at;
}

in_category : (look : Look) (all : List (List ℕ)) (category : List ℕ) → is_category category ≡ true → (pfs : List (List ℕ)) → AllByRecursion IsOf (map (kept_by look all category) pfs)
in_category look all category is [] = tt
in_category look all category is (pf ∷ pfs) = (edited_is_of look all category pf is, in_category look all category is pfs)

pub edited_are_of : (look : Look) (paths cs : List (List ℕ)) → list_all is_category cs ≡ true → AllByRecursion IsOf (edited_kept look paths cs)
edited_are_of look paths cs valid = subst (AllByRecursion IsOf) (sym (edited_are look paths cs)) (each cs valid)
  where
    each : (cs : List (List ℕ)) → list_all is_category cs ≡ true → AllByRecursion IsOf (flat_map (λ c. map (kept_by look (pfs_edited paths c) c) (pfs_edited paths c)) cs)
    each [] all = tt
    each (c ∷ cs) all =
        let parts = and_parts (is_category c) (list_all is_category cs) all in
        all_both IsOf (map (kept_by look (pfs_edited paths c) c) (pfs_edited paths c)) _ (in_category look (pfs_edited paths c) c parts.0 (pfs_edited paths c)) (each cs parts.1)

edited_members : (paths : List (List ℕ)) (ks : List PfKept) → AllByRecursion IsOf ks → filter (is_of_edited paths) (members_in ks) ≡ members_in (filter (tells paths) ks)
edited_members paths = of_tested (is_of_edited paths) (tells paths) same
  where
    alone : (a b : Bool) → b ≡ false → a ≡ (a && not b)
    alone true b is = sym (ap not is)
    alone false b is = refl

    same : (k : PfKept) → IsOf k → (m : Member) → member_in k.kept ≡ Some m → is_of_edited paths m ≡ tells paths k
    same k of m is =
        edited_so paths of.category of.pf m.pkg (of.named m is)
        ∙ alone (has_text paths (entry_path of.category of.pf)) (is_nothing k.kept) (some_member k.kept m is)
        ∙ sym (ap (λ (s : Subject). is_edited paths s && not (is_nothing k.kept)) of.subject)

edited_alike : (paths : List (List ℕ)) (m n : Member) → member_cmp m n ≡ Equal → is_of_edited paths m ≡ is_of_edited paths n
edited_alike paths m n is =
    alike paths (Package m.pkg.category m.pkg.name m.pkg.version m.pkg.pf) (Package n.pkg.category n.pkg.name n.pkg.version n.pkg.pf) is

pub members_alike : (paths : List (List ℕ)) (ks ls : List PfKept) → AllByRecursion IsOf ks → AllByRecursion IsOf ls → filter (tells paths) ks ≡ filter (tells paths) ls →
    filter (is_of_edited paths) (in_package_order (members_in ks)) ≡ filter (is_of_edited paths) (in_package_order (members_in ls))
members_alike paths ks ls ak al same =
    order_kept member_total (is_of_edited paths) (edited_alike paths) (members_in ks)
    ∙ ap in_package_order (edited_members paths ks ak ∙ ap members_in same ∙ sym (edited_members paths ls al))
    ∙ sym (order_kept member_total (is_of_edited paths) (edited_alike paths) (members_in ls))

-- ---- notes
module _ (paths : List (List ℕ)) (s : Subject) (edited : is_edited paths s ≡ true) where
  -- a report of a package that isn't edited is about another subject
  none_about : (t : Subject) → is_edited paths t ≡ false → eq_by_cmp subject_cmp s t ≡ false
  none_about t other = by (is_eq (subject_cmp s t)) refl
    where
      by : (b : Bool) → is_eq (subject_cmp s t) ≡ b → b ≡ false
      by true is = absurd (true≢false (sym edited ∙ alike paths s t (is_equal (subject_cmp s t) is) ∙ other))
      by false is = refl

  one_out : (k : PfKept) → tells paths k ≡ false → filter (is_about s) (pf_notes k) ≡ []
  one_out k untold = by (is_edited paths k.subject) refl (is_nothing k.kept) refl untold
    where
      by : (a : Bool) → is_edited paths k.subject ≡ a → (b : Bool) → is_nothing k.kept ≡ b → (a && not b) ≡ false → filter (is_about s) (pf_notes k) ≡ []
      by false is b nothing h = notes_out s k.subject k.kept (none_about k.subject is)
      by true is true nothing h = ap (filter (is_about s)) (no_notes k.kept k.subject nothing)
      by true is false nothing h = cc

  pub notes_alike : (ks ls : List PfKept) → filter (tells paths) ks ≡ filter (tells paths) ls → filter (is_about s) (flat_map pf_notes ks) ≡ filter (is_about s) (flat_map pf_notes ls)
  notes_alike ks ls same =
      notes_tested s (tells paths) one_out ks ∙ ap (λ (us : List PfKept). filter (is_about s) (flat_map pf_notes us)) same ∙ sym (notes_tested s (tells paths) one_out ls)

  -- nor is that of a place
  pub places_out : (keyword : Keyword) (notes : List PlaceNote) → filter (is_about s) (map (place_report keyword) notes) ≡ []
  places_out keyword [] = refl
  places_out keyword (n ∷ ns) = rw (none_about (Place n.path n.line) refl) (places_out keyword ns)
