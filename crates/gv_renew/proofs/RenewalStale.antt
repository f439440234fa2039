-- What is stale: the order of reports doesn't tell it apart from what isn't, and of a package it goes by the package and the class.
use Rattle.std.proofs.Common.{◌≡◌, ℕ, ◌+◌, Bool, true, false, ◌&&◌, ◌||◌, if◌then◌else◌, nat_le, ◌==◌, List, [], ◌∷◌, refl, sym, ap, ◌∙◌, Option, Some, None, nat_cmp, is_eq, Ordering, Less, Equal, Greater}
use Rattle.std.proofs.Math.Bool.{or-false}
use Rattle.std.proofs.Math.Path.{fun_ext}
use Rattle.std.proofs.lemmas.Bool.{false≢true}
use Rattle.std.proofs.lemmas.Cmp.{eq_by_cmp_equiv}
use Rattle.std.proofs.lemmas.Map.Lookups.{exact_bytes, exact_unsigned}
use Rattle.std.specs.Cmp.{Equal-is, IsTotalOrder}
use Rattle.std.specs.List.{AllByRecursion, list_any}
use Rattle.std.specs.List.Sorted.{IsStrictlySortedBy}
use Rattle.std.specs.Option.{option_cmp, option_map, option_map_or}
use Rattle.std.specs.Ordering.{eq_by_cmp, ordering_reverse, ordering_then}
use Rattle.gv_base.specs.Order.{byte_cmp, has_text}
use Rattle.gv_atom.specs.declared.atom.Atom.{Atom}
use Rattle.gv_entry.specs.declared.entry.Body.{Body}
use Rattle.gv_expr.specs.Dep.{Dep}
use Rattle.gv_facts.specs.declared.kinds.Class.{Class}
use Rattle.gv_facts.specs.declared.kinds.Class.TheVariants as classes
use Rattle.gv_facts.specs.declared.kinds.Status.{Status}
use Rattle.gv_facts.specs.declared.kinds.Status.TheVariants.{Dev, Exp, Stable}
use Rattle.gv_facts.specs.declared.pkg.Pkg.{Pkg}
use Rattle.gv_report.specs.Keyword.{keyword_number}
use Rattle.gv_report.specs.Order.{class_number, kind_cmp, of_package, subject_cmp}
use Rattle.gv_report.specs.declared.keyword.Keyword.{Keyword}
use Rattle.gv_report.specs.declared.keyword.Keyword.TheVariants as keywords
use Rattle.gv_report.specs.declared.report.Report.{Report}
use Rattle.gv_report.specs.declared.report.Subject.{Subject}
use Rattle.gv_report.specs.declared.report.Subject.TheVariants.{Package, Place}
use Rattle.gv_load.specs.Paths.{entry_path}
use Rattle.gv_load.specs.Repository.{AreInPackageOrder, pkg_cmp}
use Rattle.gv_plain.specs.Cases.{Case, Member, members_from}
use Rattle.gv_reload.specs.EntryEdits.{is_edited, is_edited_pkg}
use Rattle.gv_checks.specs.Queries.{Query, class_keyword, class_of, least_of}
use Rattle.gv_renew.specs.Renewal.{is_due, is_stale, is_stale_class, mentions, rests_on_atoms}
use Rattle.gv_renew.specs.Renewing.{FollowsOrder, is_tied}
use Rattle.gv_plain.specs.PlainReports.{live, nonexistent, subject_of, unstated}
use Rattle.gv_checks.specs.RepoReports.{nonsolvable, query_report, report_found, unsatisfiable}
use Rattle.std.proofs.lemmas.Option.{none-some, same_Some}

-- ---- what is tied is tied in each part

then_parts : (o p : Ordering) → is_eq (ordering_then o p) ≡ true → (is_eq o ≡ true) × (is_eq p ≡ true)
then_parts Less p h = absurd (false≢true h)
then_parts Equal p h = (refl, h)
then_parts Greater p h = absurd (false≢true h)

same_text : (x y : List ℕ) → is_eq (byte_cmp x y) ≡ true → x ≡ y
same_text x y h = exact_bytes x y ((Equal-is (byte_cmp x y)).0 h)

same_number : (x y : ℕ) → is_eq (nat_cmp x y) ≡ true → x ≡ y
same_number x y h = exact_unsigned x y ((Equal-is (nat_cmp x y)).0 h)

-- a class by its number
numbered : ℕ → Class
numbered n =
    if n == 1 then classes.Required else if n == 2 then classes.Depend else if n == 3 then classes.Bdepend else
    if n == 4 then classes.Rdepend else if n == 5 then classes.Pdepend else classes.Idepend

numbered_back : (c : Class) → numbered (class_number c) ≡ c
unfolding numbered
numbered_back classes.Required = refl
numbered_back classes.Depend = refl
numbered_back classes.Bdepend = refl
numbered_back classes.Rdepend = refl
numbered_back classes.Pdepend = refl
numbered_back classes.Idepend = refl

same_class : (c d : Option Class) → is_eq (option_cmp nat_cmp (option_map class_number c) (option_map class_number d)) ≡ true → c ≡ d
same_class None None h = refl
same_class None (Some d) h = absurd (false≢true h)
same_class (Some c) None h = absurd (false≢true h)
same_class (Some c) (Some d) h = ap Some (sym (numbered_back c) ∙ (ap numbered (same_number (class_number c) (class_number d) h) ∙ numbered_back d))

-- a keyword by its number
rests_by : (k : Keyword) → rests_on_atoms k ≡ (nat_le 7 (keyword_number k) && nat_le (keyword_number k) 10)
rests_by keywords.ProfileError = refl
rests_by keywords.ProfileNote = refl
rests_by keywords.MetadataError = refl
rests_by keywords.StaleCache = refl
rests_by keywords.OrphanCache = refl
rests_by keywords.MissingCache = refl
rests_by keywords.NonexistentDeps = refl
rests_by keywords.NonsolvableDepsInStable = refl
rests_by keywords.NonsolvableDepsInDev = refl
rests_by keywords.NonsolvableDepsInExp = refl
rests_by keywords.UnsatisfiableRequiredUse = refl
rests_by keywords.UnstatedIuse = refl
rests_by keywords.VisibleVcsPkg = refl
rests_by keywords.RequiredUseDefaults = refl
rests_by keywords.RedundantVersion = refl
rests_by keywords.UnknownProfilePackage = refl

same_rests : (k l : Keyword) → is_eq (nat_cmp (keyword_number k) (keyword_number l)) ≡ true → rests_on_atoms k ≡ rests_on_atoms l
same_rests k l h = rests_by k ∙ (ap (λ n. nat_le 7 n && nat_le n 10) (same_number (keyword_number k) (keyword_number l) h) ∙ sym (rests_by l))

-- ---- what is stale follows the order

and_false : (b : Bool) → (b && false) ≡ false
and_false true = refl
and_false false = refl

module _ (paths : List (List ℕ)) (ms : List Member) where
  abbrev stale_by : Subject → Keyword → Option Class → Bool
  stale_by s keyword class = is_edited paths s || (rests_on_atoms keyword && option_map_or (is_stale_class paths ms s) class false)

  no_place : (p : List ℕ) (l : ℕ) (ms : List Member) (k : Class) → is_stale_class paths ms (Place p l) k ≡ false
  no_place p l [] k = refl
  no_place p l (m ∷ ms) k = no_place p l ms k

  place_kept : (p : List ℕ) (l : ℕ) (keyword : Keyword) (class : Option Class) → stale_by (Place p l) keyword class ≡ false
  place_kept p l keyword None = and_false (rests_on_atoms keyword)
  place_kept p l keyword (Some k) = ap (λ b. rests_on_atoms keyword && b) (no_place p l ms k) ∙ and_false (rests_on_atoms keyword)

  pub edited_follows : (s t : Subject) → is_eq (subject_cmp s t) ≡ true → is_edited paths s ≡ is_edited paths t
  edited_follows (Place p l) (Place q m) h = refl
  edited_follows (Place p l) (Package c n v f) h = absurd (false≢true h)
  edited_follows (Package c n v f) (Place p l) h = absurd (false≢true h)
  edited_follows (Package c n v f) (Package d m w g) h =
      let one = then_parts (byte_cmp c d) _ h in
      let two = then_parts (byte_cmp n m) _ one.1 in
      let three = then_parts _ (byte_cmp f g) two.1 in
      ap (λ x. has_text paths (entry_path x f)) (same_text c d one.0) ∙ ap (λ x. has_text paths (entry_path d x)) (same_text f g three.1)

  module _ (total : IsTotalOrder subject_cmp) where
    pub tied_right : (x s t : Subject) → is_eq (subject_cmp s t) ≡ true → eq_by_cmp subject_cmp x s ≡ eq_by_cmp subject_cmp x t
    tied_right x s t h = (eq_by_cmp_equiv total).symm x s ∙ ((eq_by_cmp_equiv total).congr s t x h ∙ (eq_by_cmp_equiv total).symm t x)

    class_follows : (s t : Subject) → is_eq (subject_cmp s t) ≡ true → is_stale_class paths ms s ≡ is_stale_class paths ms t
    class_follows s t h =
        fun_ext (λ class. ap (λ test. list_any test ms) (fun_ext (λ m. ap (λ b. b && mentions paths m.body class) (tied_right (subject_of m.pkg) s t h))))

    parts_follow : (s t : Subject) (k l : Keyword) (c d : Option Class) → is_eq (subject_cmp s t) ≡ true → is_eq (nat_cmp (keyword_number k) (keyword_number l)) ≡ true
        → is_eq (option_cmp nat_cmp (of_package s (option_map class_number c)) (of_package t (option_map class_number d))) ≡ true → stale_by s k c ≡ stale_by t l d
    parts_follow (Place p i) (Place q j) k l c d subject keyword class = place_kept p i k c ∙ sym (place_kept q j l d)
    parts_follow (Place p i) (Package e m w g) k l c d subject keyword class = absurd (false≢true subject)
    parts_follow (Package e m w g) (Place p i) k l c d subject keyword class = absurd (false≢true subject)
    parts_follow (Package e n v f) (Package e' m w g) k l c d subject keyword class =
        ap (λ b. b || (rests_on_atoms k && option_map_or (is_stale_class paths ms (Package e n v f)) c false))
        (edited_follows (Package e n v f) (Package e' m w g) subject)
        ∙ (ap (λ b. is_edited paths (Package e' m w g) || (b && option_map_or (is_stale_class paths ms (Package e n v f)) c false)) (same_rests k l keyword)
        ∙ (ap (λ test. is_edited paths (Package e' m w g) || (rests_on_atoms l && option_map_or test c false)) (class_follows (Package e n v f) (Package e' m w g) subject)
        ∙ ap (λ class. is_edited paths (Package e' m w g) || (rests_on_atoms l && option_map_or (is_stale_class paths ms (Package e' m w g)) class false))
        (same_class c d class)))

    pub stale_follows : FollowsOrder (is_stale paths ms)
    stale_follows r s tied =
        let first = then_parts (subject_cmp r.subject s.subject) (kind_cmp r s) tied in
        let second = then_parts (nat_cmp (keyword_number r.keyword) (keyword_number s.keyword)) _ first.1 in
        let third = then_parts (option_cmp nat_cmp (of_package r.subject (option_map class_number r.class)) (of_package s.subject (option_map class_number s.class))) _ second.1 in
        parts_follow r.subject s.subject r.keyword s.keyword r.class s.class first.0 second.0 third.0

-- the subjects of tied reports are tied
pub subjects_tied : (r s : Report) → is_tied r s ≡ true → is_eq (subject_cmp r.subject s.subject) ≡ true
subjects_tied r s tied = (then_parts (subject_cmp r.subject s.subject) (kind_cmp r s) tied).0

-- ---- no other package of an ordered repository has the subject of a package

abbrev pub Known : List (List ℕ) → List Member → Pkg → Body → Type 0
Known paths ms p body = (k : Class) → is_stale_class paths ms (subject_of p) k ≡ mentions paths body k

module _ (paths : List (List ℕ)) (total : IsTotalOrder subject_cmp) where
  abbrev Below : Pkg → Member → Type 0
  Below p m = subject_cmp (subject_of p) (subject_of m.pkg) ≡ Less

  below_members : (p : Pkg) (n : ℕ) (ps : List Pkg) (bs : List Body) → AllByRecursion (λ q. pkg_cmp p q ≡ Less) ps → AllByRecursion (Below p) (members_from n ps bs)
  below_members p n [] bs h = tt
  below_members p n (q ∷ ps) [] h = tt
  below_members p n (q ∷ ps) (b ∷ bs) h = (h.0, below_members p (n + 1) ps bs h.1)

  none_tied : (p : Pkg) (k : Class) (ms : List Member) → AllByRecursion (Below p) ms → is_stale_class paths ms (subject_of p) k ≡ false
  none_tied p k [] h = refl
  none_tied p k (m ∷ ms) h =
      ap (λ o. (is_eq o && mentions paths m.body k) || is_stale_class paths ms (subject_of p) k)
      (total.antisymm (subject_of m.pkg) (subject_of p) ∙ ap ordering_reverse h.0)
      ∙ none_tied p k ms h.1

  known_behind : (p : Pkg) (x : Member) (ms all : List Member) → x.pkg ≡ p → AllByRecursion (Below p) all → AllByRecursion (λ m. Known paths ms m.pkg m.body) all
      → AllByRecursion (λ m. Known paths (x ∷ ms) m.pkg m.body) all
  known_behind p x ms [] e below h = tt
  known_behind p x ms (m ∷ all) e below h = (
    λ k. ap (λ q. (eq_by_cmp subject_cmp (subject_of q) (subject_of m.pkg) && mentions paths x.body k) || is_stale_class paths ms (subject_of m.pkg) k) e
        ∙ (ap (λ o. (is_eq o && mentions paths x.body k) || is_stale_class paths ms (subject_of m.pkg) k) below.0 ∙ h.0 k),
    known_behind p x ms all e below.1 h.1,
  )

  pub all_known : (n : ℕ) (ps : List Pkg) (bs : List Body) → AreInPackageOrder ps
      → AllByRecursion (λ m. Known paths (members_from n ps bs) m.pkg m.body) (members_from n ps bs)
  unfolding IsStrictlySortedBy
  all_known n [] bs order = tt
  all_known n (p ∷ ps) [] order = tt
  all_known n (p ∷ ps) (b ∷ bs) order = (
    λ k. ap (λ t. (t && mentions paths b k) || is_stale_class paths (members_from (n + 1) ps bs) (subject_of p) k) ((eq_by_cmp_equiv total).refl (subject_of p))
        ∙ (ap (λ t. mentions paths b k || t) (none_tied p k (members_from (n + 1) ps bs) below) ∙ or-false (mentions paths b k)),
    known_behind p (record { number = n; pkg = p; body = b }) (members_from (n + 1) ps bs) (members_from (n + 1) ps bs) refl below (all_known (n + 1) ps bs order.1),
  )
    where
      below : AllByRecursion (Below p) (members_from (n + 1) ps bs)
      below = below_members p (n + 1) ps bs order.0

-- ---- which reports of a package are stale

status_rests : (s : Status) → rests_on_atoms (class_keyword s) ≡ true
status_rests Stable = refl
status_rests Dev = refl
status_rests Exp = refl

module _ (paths : List (List ℕ)) (ms : List Member) (p : Pkg) (body : Body) where
  -- what is known where its entry isn't edited
  abbrev pub KnownIf : Type 0
  KnownIf = is_edited_pkg paths p ≡ false → Known paths ms p body

  abbrev pub due_in : Class → Bool
  due_in k = is_edited_pkg paths p || mentions paths body k

  of_class : KnownIf → (k : Class) → (is_edited_pkg paths p || is_stale_class paths ms (subject_of p) k) ≡ due_in k
  of_class known k = by (is_edited_pkg paths p) known
    where
      by : (b : Bool) → (b ≡ false → Known paths ms p body) → (b || is_stale_class paths ms (subject_of p) k) ≡ (b || mentions paths body k)
      by true known = refl
      by false known = known refl k

  pub nonexistent_stale : KnownIf → (k : Class) (a : Atom) → is_stale paths ms (nonexistent p k a) ≡ due_in k
  nonexistent_stale known k a = of_class known k

module _ (paths : List (List ℕ)) (ms : List Member) (c : Case) where
  pub unstated_stale : (k : Class) (flag : List ℕ) → is_stale paths ms (unstated c k flag) ≡ is_edited_pkg paths c.parent.pkg
  unstated_stale k flag = or-false (is_edited_pkg paths c.parent.pkg)

  pub live_stale : is_stale paths ms (live c) ≡ is_edited_pkg paths c.parent.pkg
  live_stale = or-false (is_edited_pkg paths c.parent.pkg)

module _ (paths : List (List ℕ)) (ms : List Member) (q : Query) (same : q.case.parent.pkg ≡ q.case.member.pkg)
    (known : KnownIf paths ms q.case.member.pkg q.case.member.body) where
  none_asked : class_of q ≡ None → is_due paths q ≡ is_edited_pkg paths q.case.member.pkg
  none_asked e = rw e (or-false (is_edited_pkg paths q.case.member.pkg))

  unsatisfiable_stale : class_of q ≡ None → is_stale paths ms (unsatisfiable q) ≡ is_due paths q
  unsatisfiable_stale e = or-false (is_edited_pkg paths q.case.parent.pkg) ∙ (ap (is_edited_pkg paths) same ∙ sym (none_asked e))

  nonsolvable_stale : (dep : List Dep) (bits : List Bool) → is_stale paths ms (nonsolvable q dep bits) ≡ is_due paths q
  nonsolvable_stale dep bits =
      ap (λ b. is_edited_pkg paths q.case.parent.pkg || (b && is_stale_class paths ms (subject_of q.case.parent.pkg) q.class)) (status_rests q.case.parent.profile.status)
      ∙ (ap (λ p. is_edited_pkg paths p || is_stale_class paths ms (subject_of p) q.class) same ∙ of_class paths ms q.case.member.pkg q.case.member.body known q.class)

  found_stale : (expr : Option (List Dep)) → class_of q ≡ expr → (found : Option (List Bool)) (r : Report) → report_found q expr found ≡ Some r
      → is_stale paths ms r ≡ is_due paths q
  found_stale None e None r is = ap (is_stale paths ms) (sym (same_Some (unsatisfiable q) r is)) ∙ unsatisfiable_stale e
  found_stale None e (Some bits) r is = absurd (none-some r is)
  found_stale (Some dep) e None r is = absurd (none-some r is)
  found_stale (Some dep) e (Some bits) r is = ap (is_stale paths ms) (sym (same_Some (nonsolvable q dep bits) r is)) ∙ nonsolvable_stale dep bits

  -- the report of a query is stale exactly where the query is due
  pub report_stale : (r : Report) → query_report q ≡ Some r → is_stale paths ms r ≡ is_due paths q
  report_stale r is = found_stale (class_of q) refl (least_of q) r is
