-- The packages and the notes of PFs, where what is told of PFs whose entries aren't edited is the same.
use Rattle.std.proofs.Common.{◌≡◌, ◌+◌, ◌⊎◌, inl, inr, length, drop, ℕ, Bool, true, false, cond, ◌&&◌, ◌||◌, List, [], ◌∷◌, ◌++◌, Some, None, map, refl, sym, ap, subst, ◌∙◌, true≢false}
use Rattle.std.specs.Prelude.{Option, not, filter, flat_map}
use Rattle.std.specs.List.{AllByRecursion, list_all, cons_option}
use Rattle.std.specs.Option.{option_map}
use Rattle.std.specs.Ordering.{eq_by_cmp, is_eq, ordering_then}
use Rattle.std.specs.Str.{bytes_eq}
use Rattle.std.specs.declared.cmp.Ordering.{Ordering}
use Rattle.std.specs.declared.cmp.Ordering.TheVariants.{Less, Equal, Greater}
use Rattle.std.proofs.lemmas.Bool.{and_parts}
use Rattle.std.proofs.lemmas.List.Elements.{filter-append}
use Rattle.std.proofs.lemmas.Map.Lookups.{exact_bytes}
use Rattle.std.proofs.lemmas.Slice.Eq.{bytes_eq-Decides}
use Rattle.gv_base.specs.Order.{byte_cmp, has_text}
use Rattle.gv_entry.specs.EntryRead.{entry_of, head_of, head_with}
use Rattle.gv_entry.specs.declared.entry.Body.{Body}
use Rattle.gv_entry.specs.declared.entry.Entry.{Entry}
use Rattle.gv_entry.specs.declared.entry.EntryError.{EntryError}
use Rattle.gv_facts.specs.declared.kinds.Eapi.{Eapi}
use Rattle.gv_facts.specs.declared.pkg.Pkg.{Pkg}
use Rattle.gv_reading.specs.Paths.{within}
use Rattle.gv_report.specs.Order.{subject_cmp}
use Rattle.gv_report.specs.declared.report.Report.{Report}
use Rattle.gv_report.specs.declared.report.Subject.{Subject}
use Rattle.gv_report.specs.declared.report.Subject.TheVariants.{Place, Package}
use Rattle.gv_version.specs.Names.{is_category}
use Rattle.gv_version.specs.Order.{compare}
use Rattle.gv_load.specs.Categories.{listed, name_of, pf_subject, pfs_of}
use Rattle.gv_reload.specs.EntryEdits.{HasEditedName, entry_name, is_about, is_edited, is_edited_pkg, is_other, pkg_name, together}
use Rattle.gv_load.specs.Entries.{eclass_digest, entry_bytes}
use Rattle.gv_load.specs.Freshness.{Digests, all_kept, kept_as, kept_with, stale}
use Rattle.gv_reading.specs.Look.{Look}
use Rattle.gv_load.specs.MemberOrder.{member_total}
use Rattle.gv_load.specs.Notes.{error_report, kept_notes, pf_notes}
use Rattle.gv_load.specs.Paths.{cache_dir, entry_path}
use Rattle.gv_load.specs.Repository.{body_of, in_package_order, member_cmp, member_in, members_in, pkg_of, with_body}
use Rattle.gv_load.specs.declared.freshness.Kept.{Kept}
use Rattle.gv_load.specs.declared.freshness.Kept.TheVariants.{Nothing, Missing, Orphan, Stale, Current}
use Rattle.gv_load.specs.declared.freshness.PfKept.{PfKept}
use Rattle.gv_load.specs.declared.freshness.Why.{Why}
use Rattle.gv_load.specs.declared.members.Member.{Member}
use Rattle.gv_reload.proofs.EntryKept.{all_kept_are, counts, is_nothing, kept_of}
use Rattle.gv_reload.proofs.EntryLists.{have_all, order_kept}
use Rattle.gv_reload.proofs.EntryPaths.{behind_first, first_up}
use Rattle.gv_reload.proofs.Slashes.{is_plain, plain_category, up_to_front}
use Rattle.gv_load.specs.ListLemmas.{on_left, on_right}
use Rattle.gv_base.specs.Folders.{or_cases}

-- ---- the package that an entry says is that of its PF
pub record IsNamed (category pf : List ℕ) (p : Pkg) : Type 0 where
  pub in_category : p.category ≡ category
  pub named : p.name ≡ name_of pf
  pub of_pf : p.pf ≡ pf

head_named : (category pf : List ℕ) (eapi : Eapi) (slot : Option (List ℕ × List ℕ)) (bad_keyword bad_flag : Option ℕ) (keywords iuse properties : List (List ℕ)) (p : Pkg) →
    head_with category pf eapi slot bad_keyword bad_flag keywords iuse properties ≡ Some p → IsNamed category pf p
head_named category pf eapi (Some slot) None None keywords iuse properties p is = record { in_category = cc; named = cc; of_pf = cc }
head_named category pf eapi (Some slot) None (Some k) keywords iuse properties p is = cc
head_named category pf eapi (Some slot) (Some k) flag keywords iuse properties p is = cc
head_named category pf eapi None keyword flag keywords iuse properties p is = cc

entry_named : (category pf : List ℕ) (eapi : Option Eapi) (text : List ℕ) (p : Pkg) → head_of category pf eapi text ≡ Some p → IsNamed category pf p
entry_named category pf None text p is = cc
entry_named category pf (Some eapi) text p is = head_named category pf eapi _ _ _ _ _ _ p is

of_body : (body : Body) (head : Option Pkg) (m : Member) → option_map (with_body body) head ≡ Some m → head ≡ Some m.pkg
of_body body None m is = cc
of_body body (Some p) m is = cc

-- ---- what is told of a PF
pub record IsOf (k : PfKept) : Type 0 where
  pub category : List ℕ
  pub pf : List ℕ
  pub valid : is_category category ≡ true
  pub subject : k.subject ≡ pf_subject category pf
  pub named : (m : Member) → member_in k.kept ≡ Some m → IsNamed category pf m.pkg

member_when : (e : Entry) (why : Option Why) (m : Member) → member_in (kept_with e why) ≡ Some m → e.head ≡ Some m.pkg
member_when e None m is = of_body e.body e.head m is
member_when e (Some why) m is = cc

pub member_named : (digests : Digests) (category pf : List ℕ) (entry ebuild : Option (List ℕ)) (m : Member) → member_in (kept_as digests (option_map (entry_of category pf) entry) ebuild) ≡ Some m → IsNamed category pf m.pkg
member_named digests category pf None None m is = cc
member_named digests category pf None (Some ebuild) m is = cc
member_named digests category pf (Some text) None m is = cc
member_named digests category pf (Some text) (Some ebuild) m is =
    entry_named category pf _ text m.pkg (member_when (entry_of category pf text) (stale digests (entry_of category pf text) ebuild) m is)

kept_is_of : (look : Look) (category pf : List ℕ) → is_category category ≡ true → IsOf (kept_of look category pf)
kept_is_of look category pf is = record {
  category = category;
  pf = pf;
  valid = is;
  subject = refl;
  named = λ m at. member_named (eclass_digest look) category pf (entry_bytes look (listed look category) category pf) _ m at;
}

pub all_both : {A : Type 0} (P : A → Type 0) (xs ys : List A) → AllByRecursion P xs → AllByRecursion P ys → AllByRecursion P (xs ++ ys)
all_both P [] ys ax ay = ay
all_both P (x ∷ xs) ys ax ay = (ax.0, all_both P xs ys ax.1 ay)

of_category : (look : Look) (category : List ℕ) → is_category category ≡ true → (pfs : List (List ℕ)) → AllByRecursion IsOf (map (kept_of look category) pfs)
of_category look category is [] = tt
of_category look category is (pf ∷ pfs) = (kept_is_of look category pf is, of_category look category is pfs)

pub all_are_of : (look : Look) (categories : List (List ℕ)) → list_all is_category categories ≡ true → AllByRecursion IsOf (all_kept look categories)
all_are_of look categories valid = subst (AllByRecursion IsOf) (sym (all_kept_are look categories)) (each categories valid)
  where
    each : (cs : List (List ℕ)) → list_all is_category cs ≡ true → AllByRecursion IsOf (flat_map (λ c. map (kept_of look c) (pfs_of look c)) cs)
    each [] all = tt
    each (c ∷ cs) all =
        let parts = and_parts (is_category c) (list_all is_category cs) all in
        all_both IsOf (map (kept_of look c) (pfs_of look c)) _ (of_category look c parts.0 (pfs_of look c)) (each cs parts.1)

-- ---- subjects that are equal in their order are edited alike
then_equal : (r s : Ordering) → ordering_then r s ≡ Equal → (r ≡ Equal) × (s ≡ Equal)
then_equal Less s is = cc
then_equal Equal s is = (refl, is)
then_equal Greater s is = cc

pub is_equal : (r : Ordering) → is_eq r ≡ true → r ≡ Equal
is_equal Less is = cc
is_equal Equal is = refl
is_equal Greater is = cc

pub alike : (paths : List (List ℕ)) (s t : Subject) → subject_cmp s t ≡ Equal → is_edited paths s ≡ is_edited paths t
alike paths (Place p l) (Place q m) is = refl
alike paths (Place p l) (Package c n v f) is = cc
alike paths (Package c n v f) (Place q m) is = cc
alike paths (Package c n v f) (Package d o w g) is =
    let one = then_equal (byte_cmp c d) (ordering_then (byte_cmp n o) (ordering_then (compare v w) (byte_cmp f g))) is in
    let two = then_equal (byte_cmp n o) (ordering_then (compare v w) (byte_cmp f g)) one.1 in
    let three = then_equal (compare v w) (byte_cmp f g) two.1 in
    ap (λ (x : List ℕ). has_text paths (entry_path x f)) (exact_bytes c d one.0) ∙ ap (λ (x : List ℕ). has_text paths (entry_path d x)) (exact_bytes f g three.1)

member_alike : (paths : List (List ℕ)) (m n : Member) → member_cmp m n ≡ Equal → is_other paths m ≡ is_other paths n
member_alike paths m n is =
    ap not (alike paths (Package m.pkg.category m.pkg.name m.pkg.version m.pkg.pf) (Package n.pkg.category n.pkg.name n.pkg.version n.pkg.pf) is)

-- ---- packages
pub some_member : (k : Kept) (m : Member) → member_in k ≡ Some m → is_nothing k ≡ false
some_member Nothing m is = cc
some_member Missing m is = cc
some_member Orphan m is = cc
some_member (Stale why) m is = cc
some_member (Current e) m is = refl

pub edited_so : (paths : List (List ℕ)) (category pf : List ℕ) (p : Pkg) → IsNamed category pf p → is_edited_pkg paths p ≡ has_text paths (entry_path category pf)
edited_so paths category pf p n = ap (λ (x : List ℕ). has_text paths (entry_path x p.pf)) n.in_category ∙ ap (λ (x : List ℕ). has_text paths (entry_path category x)) n.of_pf

-- a test of packages, and one of PFs that gives the same where there is one
pub of_tested : (test : Member → Bool) (told : PfKept → Bool) → ((k : PfKept) → IsOf k → (m : Member) → member_in k.kept ≡ Some m → test m ≡ told k) →
    (ks : List PfKept) → AllByRecursion IsOf ks → filter test (members_in ks) ≡ members_in (filter told ks)
of_tested test told same [] all = refl
of_tested test told same (k ∷ ks) all = by (member_in k.kept) refl (told k) refl (of_tested test told same ks all.1)
  where
    by : (o : Option Member) → member_in k.kept ≡ o → (c : Bool) → told k ≡ c → filter test (members_in ks) ≡ members_in (filter told ks) →
        filter test (cons_option o (members_in ks)) ≡ members_in (cond c (k ∷ filter told ks) (filter told ks))
    by None none true c later = later ∙ sym (ap (λ (o : Option Member). cons_option o (members_in (filter told ks))) none)
    by None none false c later = later
    by (Some m) is true c later =
        ap (λ b. cond b (m ∷ filter test (members_in ks)) (filter test (members_in ks))) (same k all.0 m is ∙ c) ∙ ap (λ (ms : List Member). m ∷ ms) later
        ∙ sym (ap (λ (o : Option Member). cons_option o (members_in (filter told ks))) is)
    by (Some m) is false c later =
        ap (λ b. cond b (m ∷ filter test (members_in ks)) (filter test (members_in ks))) (same k all.0 m is ∙ c) ∙ later

others_are : (paths : List (List ℕ)) (ks : List PfKept) → AllByRecursion IsOf ks → filter (is_other paths) (members_in ks) ≡ members_in (filter (counts paths) ks)
others_are paths = of_tested (is_other paths) (counts paths) same
  where
    alone : (a b : Bool) → b ≡ false → not a ≡ (not a && not b)
    alone true b is = refl
    alone false b is = sym (ap not is)

    same : (k : PfKept) → IsOf k → (m : Member) → member_in k.kept ≡ Some m → is_other paths m ≡ counts paths k
    same k of m is =
        ap not (edited_so paths of.category of.pf m.pkg (of.named m is))
        ∙ alone (has_text paths (entry_path of.category of.pf)) (is_nothing k.kept) (some_member k.kept m is)
        ∙ sym (ap (λ (s : Subject). not (is_edited paths s) && not (is_nothing k.kept)) of.subject)

pub members_same : (paths : List (List ℕ)) (ks ls : List PfKept) → AllByRecursion IsOf ks → AllByRecursion IsOf ls → filter (counts paths) ks ≡ filter (counts paths) ls →
    filter (is_other paths) (in_package_order (members_in ks)) ≡ filter (is_other paths) (in_package_order (members_in ls))
members_same paths ks ls ak al same =
    order_kept member_total (is_other paths) (member_alike paths) (members_in ks)
    ∙ ap in_package_order (others_are paths ks ak ∙ ap members_in same ∙ sym (others_are paths ls al))
    ∙ sym (order_kept member_total (is_other paths) (member_alike paths) (members_in ls))

pub together_again : (ms : List Member) → together (map pkg_of ms) (map body_of ms) ≡ ms
together_again [] = refl
together_again (m ∷ ms) = ap (λ (ns : List Member). m ∷ ns) (together_again ms)

-- ---- names
entry_parts_are : (category pf : List ℕ) → is_plain category ≡ true → entry_name (entry_path category pf) ≡ within category (name_of pf)
unfolding cache_dir
entry_parts_are category pf pc =
    let rest = category ++ 47 ∷ pf in
    ap (λ (u : List ℕ). within u (name_of (drop (length u + 1) rest))) (first_up rest ∙ up_to_front category pf pc)
    ∙ ap (λ (p : List ℕ). within category (name_of p)) (behind_first category rest pf refl)

mapped : (f : List ℕ → List ℕ) (xs : List (List ℕ)) (x : List ℕ) → has_text xs x ≡ true → has_text (map f xs) (f x) ≡ true
mapped f [] x there = cc
mapped f (y ∷ ys) x there = by (or_cases (bytes_eq x y) (has_text ys x) there) (mapped f ys x)
  where
    by : (bytes_eq x y ≡ true) ⊎ (has_text ys x ≡ true) → (has_text ys x ≡ true → has_text (map f ys) (f x) ≡ true) → (bytes_eq (f x) (f y) || has_text (map f ys) (f x)) ≡ true
    by (inl is) later = on_left (bytes_eq (f x) (f y)) _ ((bytes_eq-Decides (f x) (f y)).1 (ap f ((bytes_eq-Decides x y).0 is)))
    by (inr is) later = on_right (bytes_eq (f x) (f y)) _ (later is)

named_so : (paths : List (List ℕ)) (category pf : List ℕ) (p : Pkg) → is_category category ≡ true → IsNamed category pf p → HasEditedName paths p
named_so paths category pf p valid n edited =
    let at : has_text paths (entry_path category pf) ≡ true = sym (edited_so paths category pf p n) ∙ edited in
    let name : entry_name (entry_path category pf) ≡ pkg_name p =
    entry_parts_are category pf (plain_category category valid) ∙ ap (λ (x : List ℕ). within category x) (sym n.named) ∙ ap (λ (x : List ℕ). within x p.name) (sym n.in_category) in
    sym (ap (has_text (map entry_name paths)) name) ∙ mapped entry_name paths (entry_path category pf) at

all_members : (paths : List (List ℕ)) (ks : List PfKept) → AllByRecursion IsOf ks → AllByRecursion (λ m. HasEditedName paths m.pkg) (members_in ks)
all_members paths [] all = tt
all_members paths (k ∷ ks) all = by (member_in k.kept) refl (all_members paths ks all.1)
  where
    by : (o : Option Member) → member_in k.kept ≡ o → AllByRecursion (λ (m : Member). HasEditedName paths m.pkg) (members_in ks) → AllByRecursion (λ (m : Member). HasEditedName paths m.pkg) (cons_option o (members_in ks))
    by None is later = later
    by (Some m) is later = (named_so paths all.0.category all.0.pf m.pkg all.0.valid (all.0.named m is), later)

of_pkgs : (paths : List (List ℕ)) (ms : List Member) → AllByRecursion (λ m. HasEditedName paths m.pkg) ms → AllByRecursion (HasEditedName paths) (map pkg_of ms)
of_pkgs paths [] all = tt
of_pkgs paths (m ∷ ms) all = (all.0, of_pkgs paths ms all.1)

pub all_names : (paths : List (List ℕ)) (ks : List PfKept) → AllByRecursion IsOf ks → AllByRecursion (HasEditedName paths) (map pkg_of (in_package_order (members_in ks)))
all_names paths ks all = of_pkgs paths (in_package_order (members_in ks)) (have_all member_cmp (λ m. HasEditedName paths m.pkg) (members_in ks) [] (all_members paths ks all) tt)

-- ---- notes
pub no_notes : (k : Kept) (t : Subject) → is_nothing k ≡ true → kept_notes t k ≡ []
no_notes Nothing t is = refl
no_notes Missing t is = cc
no_notes Orphan t is = cc
no_notes (Stale why) t is = cc
no_notes (Current e) t is = cc

module _ (s : Subject) where
  errors_out : (t : Subject) (es : List EntryError) → eq_by_cmp subject_cmp s t ≡ false → filter (is_about s) (map (error_report t) es) ≡ []
  errors_out t [] none = refl
  errors_out t (e ∷ es) none = ap (λ b. cond b (error_report t e ∷ filter (is_about s) (map (error_report t) es)) (filter (is_about s) (map (error_report t) es))) none ∙ errors_out t es none

  pub notes_out : (t : Subject) (k : Kept) → eq_by_cmp subject_cmp s t ≡ false → filter (is_about s) (kept_notes t k) ≡ []
  notes_out t Nothing none = refl
  notes_out t Missing none = rw none refl
  notes_out t Orphan none = rw none refl
  notes_out t (Stale why) none = rw none refl
  notes_out t (Current e) none = errors_out t e.errors none

  -- those of PFs that pass a test, where none of the others has one
  pub notes_tested : (told : PfKept → Bool) → ((k : PfKept) → told k ≡ false → filter (is_about s) (pf_notes k) ≡ []) → (ks : List PfKept) →
      filter (is_about s) (flat_map pf_notes ks) ≡ filter (is_about s) (flat_map pf_notes (filter told ks))
  notes_tested told out [] = refl
  notes_tested told out (k ∷ ks) = filter-append (is_about s) (pf_notes k) (flat_map pf_notes ks) ∙ by (told k) refl (notes_tested told out ks)
    where
      by : (b : Bool) → told k ≡ b → filter (is_about s) (flat_map pf_notes ks) ≡ filter (is_about s) (flat_map pf_notes (filter told ks)) →
          filter (is_about s) (pf_notes k) ++ filter (is_about s) (flat_map pf_notes ks) ≡ filter (is_about s) (flat_map pf_notes (cond b (k ∷ filter told ks) (filter told ks)))
      by true is later = ap (λ (rs : List Report). filter (is_about s) (pf_notes k) ++ rs) later ∙ sym (filter-append (is_about s) (pf_notes k) (flat_map pf_notes (filter told ks)))
      by false is later = ap (λ (rs : List Report). rs ++ filter (is_about s) (flat_map pf_notes ks)) (out k is) ∙ later

module _ (paths : List (List ℕ)) (s : Subject) (other : is_edited paths s ≡ false) where
  -- a report of an edited package isn't about this subject
  none_about : (t : Subject) → is_edited paths t ≡ true → eq_by_cmp subject_cmp s t ≡ false
  none_about t edited = by (is_eq (subject_cmp s t)) refl
    where
      by : (b : Bool) → is_eq (subject_cmp s t) ≡ b → b ≡ false
      by true is = absurd (true≢false (sym edited ∙ sym (alike paths s t (is_equal (subject_cmp s t) is)) ∙ other))
      by false is = refl

  one_out : (k : PfKept) → counts paths k ≡ false → filter (is_about s) (pf_notes k) ≡ []
  one_out k not_so = by (is_edited paths k.subject) refl (is_nothing k.kept) refl not_so
    where
      by : (a : Bool) → is_edited paths k.subject ≡ a → (b : Bool) → is_nothing k.kept ≡ b → (not a && not b) ≡ false → filter (is_about s) (pf_notes k) ≡ []
      by true is b nothing h = notes_out s k.subject k.kept (none_about k.subject is)
      by false is true nothing h = ap (filter (is_about s)) (no_notes k.kept k.subject nothing)
      by false is false nothing h = cc

  pub notes_same : (ks ls : List PfKept) → filter (counts paths) ks ≡ filter (counts paths) ls → filter (is_about s) (flat_map pf_notes ks) ≡ filter (is_about s) (flat_map pf_notes ls)
  notes_same ks ls same =
      notes_tested s (counts paths) one_out ks ∙ ap (λ (us : List PfKept). filter (is_about s) (flat_map pf_notes us)) same ∙ sym (notes_tested s (counts paths) one_out ls)
