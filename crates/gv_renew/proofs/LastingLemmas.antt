-- Where nothing of a category is edited or touched none of its reports is stale, nor is one of a package of whose name none is.
use Rattle.std.proofs.Common.{◌≡◌, ℕ, Bool, true, false, ◌&&◌, ◌||◌, cond, List, [], ◌∷◌, map, filter, Option, None, Some, refl, sym, ap, ◌∙◌}
use Rattle.std.specs.Prelude.{slice_get}
use Rattle.std.specs.List.{AllByRecursion, list_any}
use Rattle.std.specs.Option.{option_map_or}
use Rattle.std.specs.Ordering.{eq_by_cmp, is_eq, ordering_then}
use Rattle.std.specs.Str.{bytes_eq}
use Rattle.std.proofs.lemmas.Bool.{false≢true, or_parts, true≢false}
use Rattle.std.proofs.lemmas.Map.Lookups.{exact_bytes}
use Rattle.gv_base.specs.Order.{byte_cmp, has_text}
use Rattle.gv_version.specs.Order.{compare}
use Rattle.gv_facts.specs.Places.{is_pkg_of, places_of}
use Rattle.gv_facts.specs.declared.kinds.Class.{Class}
use Rattle.gv_facts.specs.declared.kinds.Class.TheVariants.{Bdepend, Depend, Idepend, Pdepend, Rdepend, Required}
use Rattle.gv_facts.specs.declared.pkg.Pkg.{Pkg}
use Rattle.gv_report.specs.Order.{subject_cmp}
use Rattle.gv_report.specs.declared.report.Report.{Report}
use Rattle.gv_report.specs.declared.report.Subject.{Subject}
use Rattle.gv_report.specs.declared.report.Subject.TheVariants.{Package, Place}
use Rattle.gv_reload.specs.EntryEdits.{EditedInLaw, is_edited, is_edited_in}
use Rattle.gv_renew.specs.Lasting.{NoneStale, are_together, category_at, is_near, is_of_name, may_be_stale, touches_place}
use Rattle.gv_renew.specs.Renewal.{rests_on_atoms}
use Rattle.gv_plain.specs.PlainReports.{subject_of}
use Rattle.gv_renew.specs.Touched.{is_stale_among, is_stale_at, is_stale_by, mentions_at, pkg_at, touches}
use Rattle.gv_renew.specs.declared.touched.Touched.{Touched}
use Rattle.gv_plain.specs.Lists.{any_map, items_from}
use Rattle.gv_renew.proofs.RunLemmas.{is_equal, same}
use Rattle.gv_renew.proofs.StaleLemmas.{both_equal, of_name, place_stale, places_map}

-- ---- reports that stand together may all be stale, or none
pub near_same : (paths categories : List (List ℕ)) (s t : Subject) → are_together s t ≡ true → is_near paths categories t ≡ is_near paths categories s
near_same paths categories (Place p l) (Place q m) e = refl
near_same paths categories (Place p l) (Package d m w g) e = absurd (true≢false (sym e))
near_same paths categories (Package c n v f) (Place q m) e = absurd (true≢false (sym e))
near_same paths categories (Package c n v f) (Package d m w g) e = ap (λ x. is_near paths categories (Package x n v f)) (sym (same c d e))

equal_bytes : (a b : List ℕ) → is_eq (byte_cmp a b) ≡ true → b ≡ a
equal_bytes a b e = sym (exact_bytes a b (is_equal (byte_cmp a b) e))

pub may_same : (paths : List (List ℕ)) (ts : List Touched) (s t : Subject) → eq_by_cmp subject_cmp s t ≡ true → may_be_stale paths ts t ≡ may_be_stale paths ts s
may_same paths ts (Place p l) (Place q m) e = refl
may_same paths ts (Place p l) (Package d m w g) e = absurd (false≢true e)
may_same paths ts (Package c n v f) (Place q m) e = absurd (false≢true e)
may_same paths ts (Package c n v f) (Package d m w g) e =
    let first = both_equal (byte_cmp c d) (ordering_then (byte_cmp n m) (ordering_then (compare v w) (byte_cmp f g))) e in
    let second = both_equal (byte_cmp n m) (ordering_then (compare v w) (byte_cmp f g)) first.1 in
    let third = both_equal (compare v w) (byte_cmp f g) second.1 in
    ap (λ x. may_be_stale paths ts (Package x m w g)) (equal_bytes c d first.0)
    ∙ (ap (λ x. may_be_stale paths ts (Package c x w g)) (equal_bytes n m second.0)
    ∙ ap (λ x. may_be_stale paths ts (Package c n v x)) (equal_bytes f g third.1))

-- ---- what is of another name, or mentions nothing, makes no report of a package stale
mentions_none : (t : Touched) (class : Class) → touches t ≡ false → mentions_at t class ≡ false
mentions_none t class e =
    let all = or_parts t.edited (t.depend || (t.bdepend || (t.rdepend || (t.pdepend || t.idepend)))) e in
    let some = or_parts t.depend (t.bdepend || (t.rdepend || (t.pdepend || t.idepend))) all.1 in
    let more = or_parts t.bdepend (t.rdepend || (t.pdepend || t.idepend)) some.1 in
    let few = or_parts t.rdepend (t.pdepend || t.idepend) more.1 in
    let last = or_parts t.pdepend t.idepend few.1 in
    by some.0 more.0 few.0 last.0 last.1 class
  where
    by : t.depend ≡ false → t.bdepend ≡ false → t.rdepend ≡ false → t.pdepend ≡ false → t.idepend ≡ false → (class : Class) → mentions_at t class ≡ false
    by d b r p i Required = refl
    by d b r p i Depend = d
    by d b r p i Bdepend = b
    by d b r p i Rdepend = r
    by d b r p i Pdepend = p
    by d b r p i Idepend = i

module _ (c n v f : List ℕ) (class : Class) where
  apart : (t : Touched) → is_of_name c n t ≡ false → is_stale_at (Package c n v f) class t ≡ false
  apart t other = by (eq_by_cmp subject_cmp (subject_of t.pkg.now) (Package c n v f)) refl
    where
      by : (b : Bool) → eq_by_cmp subject_cmp (subject_of t.pkg.now) (Package c n v f) ≡ b → (b && mentions_at t class) ≡ false
      by true e = absurd (true≢false (sym (of_name t.pkg.now c n v f e) ∙ other))
      by false e = refl

  silent : (t : Touched) → touches t ≡ false → is_stale_at (Package c n v f) class t ≡ false
  silent t e = by (eq_by_cmp subject_cmp (subject_of t.pkg.now) (Package c n v f)) (mentions_none t class e)
    where
      by : (b : Bool) → mentions_at t class ≡ false → (b && mentions_at t class) ≡ false
      by true h = h
      by false h = refl

  -- none of its category is touched
  none_stale : (ts : List Touched) → has_text (map category_at (filter touches ts)) c ≡ false → is_stale_among ts (Package c n v f) class ≡ false
  none_stale [] e = refl
  none_stale (t ∷ ts) e = by (touches t) refl e (none_stale ts)
    where
      no_name : bytes_eq c (category_at t) ≡ false → is_of_name c n t ≡ false
      no_name h = ap (λ b. b && bytes_eq n t.pkg.now.name) h

      by : (b : Bool) → touches t ≡ b → has_text (map category_at (cond b (t ∷ filter touches ts) (filter touches ts))) c ≡ false
          → (has_text (map category_at (filter touches ts)) c ≡ false → is_stale_among ts (Package c n v f) class ≡ false)
          → is_stale_among (t ∷ ts) (Package c n v f) class ≡ false
      by true is h rest =
          let parts = or_parts (bytes_eq c (category_at t)) (has_text (map category_at (filter touches ts)) c) h in
          ap (λ b. b || is_stale_among ts (Package c n v f) class) (apart t (no_name parts.0)) ∙ rest parts.1
      by false is h rest = ap (λ b. b || is_stale_among ts (Package c n v f) class) (silent t is) ∙ rest h

  -- none of its name is touched
  none_of_name : (ts : List Touched) → list_any touches (filter (is_of_name c n) ts) ≡ false → is_stale_among ts (Package c n v f) class ≡ false
  none_of_name [] e = refl
  none_of_name (t ∷ ts) e = by (is_of_name c n t) refl e (none_of_name ts)
    where
      by : (b : Bool) → is_of_name c n t ≡ b → list_any touches (cond b (t ∷ filter (is_of_name c n) ts) (filter (is_of_name c n) ts)) ≡ false
          → (list_any touches (filter (is_of_name c n) ts) ≡ false → is_stale_among ts (Package c n v f) class ≡ false)
          → is_stale_among (t ∷ ts) (Package c n v f) class ≡ false
      by true is h rest =
          let parts = or_parts (touches t) (list_any touches (filter (is_of_name c n) ts)) h in
          ap (λ b. b || is_stale_among ts (Package c n v f) class) (silent t parts.0) ∙ rest parts.1
      by false is h rest = ap (λ b. b || is_stale_among ts (Package c n v f) class) (apart t is) ∙ rest h

-- ---- reports
module _ (paths : List (List ℕ)) (ts : List Touched) where
  not_stale : (r : Report) → is_edited paths r.subject ≡ false → ((class : Class) → is_stale_among ts r.subject class ≡ false) → is_stale_by paths ts r ≡ false
  not_stale r unedited unstale = rw (unedited, in_none r.class) (neither_holds (rests_on_atoms r.keyword))
    where
      in_none : (class : Option Class) → option_map_or (is_stale_among ts r.subject) class false ≡ false
      in_none None = refl
      in_none (Some class) = unstale class

      neither_holds : (b : Bool) → (false || (b && false)) ≡ false
      neither_holds true = refl
      neither_holds false = refl

  all_not_stale : (may : Subject → Bool) → ((s : Subject) → may s ≡ false → is_edited paths s ≡ false)
      → ((s : Subject) (class : Class) → may s ≡ false → is_stale_among ts s class ≡ false)
      → (rs : List Report) → AllByRecursion (λ (r : Report). may r.subject ≡ false) rs → NoneStale paths ts rs
  all_not_stale may unedited unstale [] all = tt
  all_not_stale may unedited unstale (r ∷ rs) all =
      (not_stale r (unedited r.subject all.0) (λ class. unstale r.subject class all.0), all_not_stale may unedited unstale rs all.1)

  -- of a category that isn't near
  module _ (law : EditedInLaw) (categories : List (List ℕ)) (are : categories ≡ map category_at (filter touches ts)) where
    unedited_far : (s : Subject) → is_near paths categories s ≡ false → is_edited paths s ≡ false
    unedited_far (Place path line) far = refl
    unedited_far (Package c n v f) far = law paths c n v f (or_parts (is_edited_in paths c) (has_text categories c) far).0

    unstale_far : (s : Subject) (class : Class) → is_near paths categories s ≡ false → is_stale_among ts s class ≡ false
    unstale_far (Place path line) class far = place_stale path line class ts
    unstale_far (Package c n v f) class far =
        none_stale c n v f class ts (ap (λ cs. has_text cs c) (sym are) ∙ (or_parts (is_edited_in paths c) (has_text categories c) far).1)

    pub far_not_stale : (rs : List Report) → AllByRecursion (λ (r : Report). is_near paths categories r.subject ≡ false) rs → NoneStale paths ts rs
    far_not_stale = all_not_stale (is_near paths categories) unedited_far unstale_far

  -- of a package whose reports can't be
  unedited_package : (s : Subject) → may_be_stale paths ts s ≡ false → is_edited paths s ≡ false
  unedited_package (Place path line) none = refl
  unedited_package (Package c n v f) none = (or_parts (is_edited paths (Package c n v f)) (list_any touches (filter (is_of_name c n) ts)) none).0

  unstale_package : (s : Subject) (class : Class) → may_be_stale paths ts s ≡ false → is_stale_among ts s class ≡ false
  unstale_package (Place path line) class none = place_stale path line class ts
  unstale_package (Package c n v f) class none =
      none_of_name c n v f class ts (or_parts (is_edited paths (Package c n v f)) (list_any touches (filter (is_of_name c n) ts)) none).1

  pub package_not_stale : (rs : List Report) → AllByRecursion (λ (r : Report). may_be_stale paths ts r.subject ≡ false) rs → NoneStale paths ts rs
  package_not_stale = all_not_stale (may_be_stale paths ts) unedited_package unstale_package

-- ---- the packages of a name are at its places
module _ (c n : List ℕ) (ts : List Touched) where
  at_places : (places : List ℕ) → map (slice_get ts) places ≡ map Some (filter (is_of_name c n) ts)
      → list_any (touches_place ts) places ≡ list_any touches (filter (is_of_name c n) ts)
  at_places places items =
      let found : Option Touched → Bool = λ o. option_map_or touches o false in
      sym (any_map found (slice_get ts) places) ∙ (ap (list_any found) items ∙ any_map found Some (filter (is_of_name c n) ts))

  pub touched_of_name : (pkgs : List Pkg) → pkgs ≡ map pkg_at ts
      → list_any (touches_place ts) (places_of (is_pkg_of c n) pkgs) ≡ list_any touches (filter (is_of_name c n) ts)
  touched_of_name pkgs e =
      ap (λ ps. list_any (touches_place ts) (places_of (is_pkg_of c n) ps)) e
      ∙ (ap (list_any (touches_place ts)) (places_map (is_pkg_of c n) pkg_at 0 ts)
      ∙ at_places (places_of (is_of_name c n) ts) (items_from (is_of_name c n) [] ts))
