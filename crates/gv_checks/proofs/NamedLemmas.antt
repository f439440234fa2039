-- The query of a name, as it is found, and that there is no other.
-- It is found by going through the profiles for the line of the name.
use Rattle.std.proofs.Common.{◌≡◌, ℕ, ◌<◌, ◌≤◌, ◌⊎◌, inl, inr, Bool, true, false, List, [], ◌∷◌, ◌++◌, length, map, filter, ◌+◌, arith, get_or, refl, sym, ap, subst, ◌∙◌, append_assoc, Option, Some, None}
use Rattle.std.specs.Prelude.{slice_get, flat_map, filter_map, unwrap_or, Result, Ok, Err}
use Rattle.std.specs.List.{AllByRecursion}
use Rattle.std.proofs.lemmas.Bool.{and_parts}
use Rattle.std.proofs.lemmas.Option.{none-some, slice_get-get_or, slice_get_within}
use Rattle.std.proofs.Math.Nat.{eq-or-lt_of_le}
use Rattle.std.proofs.lemmas.Grind.{flat_map-append}
use Rattle.gv_cert.specs.Known.{KnownRecord}
use Rattle.gv_entry.specs.declared.entry.Body.{Body}
use Rattle.gv_facts.specs.declared.kinds.Class.{Class}
use Rattle.gv_facts.specs.declared.kinds.Level.{Level}
use Rattle.gv_facts.specs.declared.pkg.Pkg.{Pkg}
use Rattle.gv_facts.specs.declared.profile.Profile.{Profile}
use Rattle.gv_facts.specs.Visible.{judged}
use Rattle.gv_report.specs.declared.options.Options.{Options}
use Rattle.gv_checks.specs.Answered.{AnswersOne}
use Rattle.gv_plain.specs.Cases.{Case, Member, case_at, case_in, cases_of, members_from}
use Rattle.gv_plain.specs.Classes.{classes}
use Rattle.gv_checks.specs.Named.{AnswersNamed, HasNamed, IsNamed, IsNamedIn}
use Rattle.gv_checks.specs.Queries.{Query, case_queries, has_query, is_asked, is_selected, queries, query_name, query_of}
use Rattle.gv_checks.specs.declared.fault.JudgeFault.{JudgeFault}
use Rattle.gv_checks.specs.declared.fault.JudgeFault.TheVariants.{Limit, NoMemory, Spent}
use Rattle.gv_checks.specs.declared.names.QueryName.{QueryName}
use Rattle.gv_checks.specs.declared.one.Found1.{Found1}
use Rattle.gv_load.specs.OwnLines.{HaveOwnLines}
use Rattle.gv_load.specs.declared.loading.Repo.{Repo}

pub answers_named : (o : Options) (given : List KnownRecord) (repo : Repo) (name : QueryName) (q : Query) (r : Result Found1 JudgeFault) → IsNamed o repo name q → AnswersOne o.budget given q r → AnswersNamed o given repo name r
answers_named o given repo name q (Ok f) named a = record { query = q; named = named; found = a }
answers_named o given repo name q (Err (Spent n sets)) named a = record { query = q; named = named; cause = a }
answers_named o given repo name q (Err (Limit place number)) named a = record { query = q; named = named; cause = a }
answers_named o given repo name q (Err NoMemory) named a = tt

name_at : (name : QueryName) (number line : ℕ) (level : Level) → number ≡ name.«package» → line ≡ name.context.line → level ≡ name.context.level
    → name ≡ record { «package» = number; class = name.class; context = record { line = line; level = level } }
name_at name number line level n l k = rw (n, l, k) refl

pub has_asked : (o : Options) (c : Case) (class : Class) → is_asked o c class ≡ true → has_query c class ≡ true
has_asked o c class e = (and_parts (has_query c class) (is_selected o c class) e).0

pub named_here : (o : Options) (repo : Repo) (name : QueryName) (m : Member) (profiles : List Profile) (profile : Profile) (i : ℕ) (level : Level)
    → m.number ≡ name.«package» → slice_get repo.pkgs m.number ≡ Some m.pkg → slice_get repo.bodies m.number ≡ Some m.body → profiles ≡ repo.profiles → i < length profiles → profile ≡ get_or profiles i profile
    → IsNamedIn o repo.pkgs name m profile level → IsNamed o repo name (query_of (case_at repo.pkgs m profile level) name.class)
named_here o repo name m profiles profile i level n p b same lt here at = record {
  name_is = name_at name m.number profile.line level n at.line_is at.level_is;
  pkg = p;
  body = b;
  line = i;
  profile = subst (λ l. slice_get l i ≡ Some profile) same (slice_get-get_or profiles i profile lt ∙ ap Some (sym here));
  level = at.judged_is;
  case = refl;
  asked = at.asked;
}

-- Where there is a query of the name, it is found.
same_some : {X : Type 0} (a b : X) → Some a ≡ Some b → a ≡ b
same_some a b e = ap (λ o. unwrap_or o a) e

abbrev member_with : ℕ → Pkg → Body → Member
member_with n p b = record { number = n; pkg = p; body = b }

same_member : (m n : Member) → m.number ≡ n.number → m.pkg ≡ n.pkg → m.body ≡ n.body → m ≡ n
same_member m n a b c = ap (λ x. member_with x m.pkg m.body) a ∙ (ap (λ x. member_with n.number x m.body) b ∙ ap (λ x. member_with n.number n.pkg x) c)

pub pkg_there : (o : Options) (repo : Repo) (name : QueryName) → HasNamed o repo name → slice_get repo.pkgs name.«package» ≡ None → ⊥
pkg_there o repo name there none = none-some there.0.case.member.pkg (sym none ∙ (ap (λ (n : QueryName). slice_get repo.pkgs n.«package») there.1.name_is ∙ there.1.pkg))

pub body_there : (o : Options) (repo : Repo) (name : QueryName) → HasNamed o repo name → slice_get repo.bodies name.«package» ≡ None → ⊥
body_there o repo name there none = none-some there.0.case.member.body (sym none ∙ (ap (λ (n : QueryName). slice_get repo.bodies n.«package») there.1.name_is ∙ there.1.body))

module _ (o : Options) (repo : Repo) (name : QueryName) (m : Member) (n : m.number ≡ name.«package») (p : slice_get repo.pkgs m.number ≡ Some m.pkg) (b : slice_get repo.bodies m.number ≡ Some m.body) where
  module _ (q : Query) (named : IsNamed o repo name q) where
    number_is : m.number ≡ q.case.member.number
    number_is = n ∙ ap (λ (x : QueryName). x.«package») named.name_is

    pkg_is : m.pkg ≡ q.case.member.pkg
    pkg_is = same_some m.pkg q.case.member.pkg (sym p ∙ (ap (slice_get repo.pkgs) number_is ∙ named.pkg))

    body_is : m.body ≡ q.case.member.body
    body_is = same_some m.body q.case.member.body (sym b ∙ (ap (slice_get repo.bodies) number_is ∙ named.body))

    member_is : q.case.member ≡ m
    member_is = sym (same_member m q.case.member number_is pkg_is body_is)

    in_its_profile : IsNamedIn o repo.pkgs name m q.case.parent.profile q.case.parent.level
    in_its_profile = record {
      line_is = sym (ap (λ (x : QueryName). x.context.line) named.name_is);
      judged_is = subst (λ (x : Pkg). judged x q.case.parent.profile ≡ Some q.case.parent.level) (sym pkg_is) named.level;
      level_is = sym (ap (λ (x : QueryName). x.context.level) named.name_is);
      asked = subst (λ (k : Class). is_asked o (case_at repo.pkgs m q.case.parent.profile q.case.parent.level) k ≡ true) (sym (ap (λ (x : QueryName). x.class) named.name_is))
          (subst (λ (c : Case). is_asked o c q.class ≡ true) (named.case ∙ ap (λ (x : Member). case_at repo.pkgs x q.case.parent.profile q.case.parent.level) member_is) named.asked);
    }

  pub passed : (profiles : List Profile) (profile : Profile) (i : ℕ) → profiles ≡ repo.profiles → i < length profiles → profile ≡ get_or profiles i profile
      → ((level : Level) → IsNamedIn o repo.pkgs name m profile level → ⊥) → ((q : Query) (named : IsNamed o repo name q) → i ≤ named.line) → (q : Query) (named : IsNamed o repo name q) → i + 1 ≤ named.line
  passed profiles profile i same lt here not_here before q named = by (eq-or-lt_of_le (before q named))
    where
      there : slice_get repo.profiles i ≡ Some profile
      there = subst (λ l. slice_get l i ≡ Some profile) same (slice_get-get_or profiles i profile lt ∙ ap Some (sym here))

      by : (i ≡ named.line) ⊎ (i < named.line) → i + 1 ≤ named.line
      by (inl e) =
          let same_profile : profile ≡ q.case.parent.profile = same_some profile q.case.parent.profile (sym there ∙ (ap (slice_get repo.profiles) e ∙ named.profile)) in
          absurd (not_here q.case.parent.level (subst (λ (x : Profile). IsNamedIn o repo.pkgs name m x q.case.parent.level) (sym same_profile) (in_its_profile q named)))
      by (inr l) = omega (arith, l)

pub never_past : (o : Options) (repo : Repo) (name : QueryName) (profiles : List Profile) (i : ℕ) → HasNamed o repo name → profiles ≡ repo.profiles → length profiles ≤ i
    → ((q : Query) (named : IsNamed o repo name q) → i ≤ named.line) → ⊥
never_past o repo name profiles i there same end before =
    let within : there.1.line < length profiles = subst (λ l. there.1.line < length l) (sym same) (slice_get_within repo.profiles there.1.line there.0.case.parent.profile there.1.profile) in
    let least : i ≤ there.1.line = before there.0 there.1 in
    absurd (omega (arith, within, least, end))

-- Each query is that of its name.
all_both : {A : Type 0} (P : A → Type 0) (xs ys : List A) → AllByRecursion P xs → AllByRecursion P ys → AllByRecursion P (xs ++ ys)
all_both P [] ys all more = more
all_both P (x ∷ xs) ys all more = (all.0, all_both P xs ys all.1 more)

behind : {A : Type 0} (front : List A) (x : A) (xs : List A) → slice_get (front ++ x ∷ xs) (length front) ≡ Some x
behind [] x xs = refl
behind (f ∷ fs) x xs = behind fs x xs

long_more : {A : Type 0} (xs : List A) (x : A) → length (xs ++ x ∷ []) ≡ length xs + 1
long_more [] x = refl
long_more (y ∷ ys) x = let e = long_more ys x in omega (arith, e)

module _ (o : Options) (r : Repo) where
  abbrev IsOwn : Query → Type 0
  IsOwn q = IsNamed o r (query_name q) q

  of_classes : (c : Case) → ((class : Class) → is_asked o c class ≡ true → IsOwn (query_of c class)) → (ks : List Class) → AllByRecursion IsOwn (map (query_of c) (filter (is_asked o c) ks))
  of_classes c own [] = tt
  of_classes c own (k ∷ ks) = by (is_asked o c k) refl (of_classes c own ks)
    where
      by : (b : Bool) → is_asked o c k ≡ b → AllByRecursion IsOwn (map (query_of c) (filter (is_asked o c) ks)) → AllByRecursion IsOwn (map (query_of c) (filter (is_asked o c) (k ∷ ks)))
      by true e rest = rw e (own k e, rest)
      by false e rest = rw e rest

  module _ (m : Member) (pkg : slice_get r.pkgs m.number ≡ Some m.pkg) (body : slice_get r.bodies m.number ≡ Some m.body) where
    of_profiles : (front ps : List Profile) → r.profiles ≡ front ++ ps → AllByRecursion IsOwn (flat_map (case_queries o) (filter_map (case_in r.pkgs m) ps))
    of_profiles front [] e = tt
    of_profiles front (p ∷ ps) e = by (judged m.pkg p) refl (of_profiles (front ++ p ∷ []) ps (e ∙ sym (append_assoc front (p ∷ []) ps)))
      where
        here : (level : Level) → judged m.pkg p ≡ Some level → (class : Class) → is_asked o (case_at r.pkgs m p level) class ≡ true → IsOwn (query_of (case_at r.pkgs m p level) class)
        here level j class asked = record {
          name_is = refl;
          pkg = pkg;
          body = body;
          line = length front;
          profile = ap (λ l. slice_get l (length front)) e ∙ behind front p ps;
          level = j;
          case = refl;
          asked = asked;
        }

        by : (found : Option Level) → judged m.pkg p ≡ found → AllByRecursion IsOwn (flat_map (case_queries o) (filter_map (case_in r.pkgs m) ps))
            → AllByRecursion IsOwn (flat_map (case_queries o) (filter_map (case_in r.pkgs m) (p ∷ ps)))
        by None j rest = rw j rest
        by (Some level) j rest = rw j (all_both IsOwn (case_queries o (case_at r.pkgs m p level)) (flat_map (case_queries o) (filter_map (case_in r.pkgs m) ps)) (of_classes (case_at r.pkgs m p level) (here level j) classes) rest)

  of_members : (front ps : List Pkg) (before bs : List Body) → r.pkgs ≡ front ++ ps → r.bodies ≡ before ++ bs → length before ≡ length front
      → AllByRecursion IsOwn (flat_map (case_queries o) (flat_map (cases_of r) (members_from (length front) ps bs)))
  of_members front [] before bs p b same = tt
  of_members front (q ∷ ps) before [] p b same = tt
  of_members front (q ∷ ps) before (d ∷ bs) p b same =
      let m : Member = record { number = length front; pkg = q; body = d } in
      let pkg : slice_get r.pkgs (length front) ≡ Some q = ap (λ l. slice_get l (length front)) p ∙ behind front q ps in
      let body : slice_get r.bodies (length front) ≡ Some d = ap (λ n. slice_get r.bodies n) (sym same) ∙ (ap (λ l. slice_get l (length before)) b ∙ behind before d bs) in
      let rest = of_members (front ++ q ∷ []) ps (before ++ d ∷ []) bs (p ∙ sym (append_assoc front (q ∷ []) ps)) (b ∙ sym (append_assoc before (d ∷ []) bs))
      (long_more before d ∙ (ap (λ n. n + 1) same ∙ sym (long_more front q))) in
      subst (AllByRecursion IsOwn) (sym (flat_map-append (case_queries o) (cases_of r m) (flat_map (cases_of r) (members_from (length front + 1) ps bs))))
      (all_both IsOwn (flat_map (case_queries o) (cases_of r m)) (flat_map (case_queries o) (flat_map (cases_of r) (members_from (length front + 1) ps bs))) (of_profiles m pkg body [] r.profiles refl)
      (subst (λ n. AllByRecursion IsOwn (flat_map (case_queries o) (flat_map (cases_of r) (members_from n ps bs)))) (long_more front q) rest))

pub all_named : (o : Options) (r : Repo) → AllByRecursion (λ q. IsNamed o r (query_name q) q) (queries o r)
all_named o r = of_members o r [] r.pkgs [] r.bodies refl refl refl

pub names_named : (o : Options) (r : Repo) → AllByRecursion (HasNamed o r) (map query_name (queries o r))
names_named o r = of_names (queries o r) (all_named o r)
  where
    of_names : (qs : List Query) → AllByRecursion (λ q. IsNamed o r (query_name q) q) qs → AllByRecursion (HasNamed o r) (map query_name qs)
    of_names [] all = tt
    of_names (q ∷ qs) all = ((q, all.0), of_names qs all.1)

-- No other is.
module _ (o : Options) (r : Repo) (own : HaveOwnLines r.profiles) (name : QueryName) (p q : Query) (a : IsNamed o r name p) (b : IsNamed o r name q) where
  abbrev name_same : query_name p ≡ query_name q
  name_same = sym a.name_is ∙ b.name_is

  number_same : p.case.member.number ≡ q.case.member.number
  number_same = ap (λ (n : QueryName). n.«package») name_same

  pkg_same : p.case.member.pkg ≡ q.case.member.pkg
  pkg_same = same_some p.case.member.pkg q.case.member.pkg (sym a.pkg ∙ (ap (slice_get r.pkgs) number_same ∙ b.pkg))

  body_same : p.case.member.body ≡ q.case.member.body
  body_same = same_some p.case.member.body q.case.member.body (sym a.body ∙ (ap (slice_get r.bodies) number_same ∙ b.body))

  profile_same : p.case.parent.profile ≡ q.case.parent.profile
  profile_same = own a.line b.line p.case.parent.profile q.case.parent.profile a.profile b.profile (ap (λ (n : QueryName). n.context.line) name_same)

  level_same : p.case.parent.level ≡ q.case.parent.level
  level_same = ap (λ (n : QueryName). n.context.level) name_same

  member_same : p.case.member ≡ q.case.member
  member_same = same_member p.case.member q.case.member number_same pkg_same body_same

  case_same : p.case ≡ q.case
  case_same =
      a.case ∙ (ap (λ m. case_at r.pkgs m p.case.parent.profile p.case.parent.level) member_same
      ∙ (ap (λ x. case_at r.pkgs q.case.member x p.case.parent.level) profile_same
      ∙ (ap (λ l. case_at r.pkgs q.case.member q.case.parent.profile l) level_same ∙ sym b.case)))

  pub one_named : p ≡ q
  one_named = ap (λ c. query_of c p.class) case_same ∙ ap (λ k. query_of q.case k) (ap (λ (n : QueryName). n.class) name_same)
