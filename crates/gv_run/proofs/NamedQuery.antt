-- A query's name is that of just this query, where profiles have lines of their own.
use Rattle.std.proofs.Common.{◌≡◌, ℕ, zero, suc, ◌+◌, ◌==◌, Bool, true, false, if◌then◌else◌, List, [], ◌∷◌, ◌++◌, Option, Some, refl, sym, ap, subst, ◌∙◌, arith}
use Rattle.std.proofs.lemmas.Grind.{common_steps}
use Rattle.std.specs.Prelude.{codes, slice_get}
use Rattle.std.specs.List.{AllByRecursion, find}
use Rattle.std.specs.Option.{option_map_or}
use Rattle.gv_facts.specs.Classes.{class_text}
use Rattle.gv_facts.specs.declared.pkg.Pkg.{Pkg}
use Rattle.gv_facts.specs.declared.profile.Profile.{Profile}
use Rattle.gv_load.specs.OwnLines.{HaveOwnLines}
use Rattle.gv_load.specs.declared.loading.Repo.{Repo}
use Rattle.gv_report.specs.Line.{level_text}
use Rattle.gv_report.specs.declared.options.Options.{Options}
use Rattle.gv_checks.specs.Chosen.{chosen, chosen_from, is_chosen}
use Rattle.gv_checks.specs.Named.{IsNamed}
use Rattle.gv_checks.specs.Queries.{Query, queries, query_name}
use Rattle.gv_checks.specs.declared.chosen.Chosen.{Chosen}
use Rattle.gv_run.specs.Naming.{has_line, name_text, pkg_text, profile_text, query_text}

abbrev pub EachNamed : Type 0
EachNamed = (o : Options) (r : Repo) → AllByRecursion (λ q. IsNamed o r (query_name q) q) (queries o r)

-- the first profile of its line is the profile itself
equal : (a b : ℕ) → (a == b) ≡ true → a ≡ b
equal a b e = grind (arith, common_steps)

unequal : (a b : ℕ) → (a == b) ≡ false → a ≡ b → ⊥
unequal a b e same = grind (arith, common_steps)

find_own : (ps : List Profile) → HaveOwnLines ps → (i : ℕ) (p : Profile) → slice_get ps i ≡ Some p → find (has_line p.line) ps ≡ Some p
find_own [] own i p e = cc
find_own (q ∷ qs) own i p e = by (q.line == p.line) refl i e (λ k. find_own qs (λ m n one two f g. own (suc m) (suc n) one two f g) k p)
  where
    by : (b : Bool) → (q.line == p.line) ≡ b → (i : ℕ) → slice_get (q ∷ qs) i ≡ Some p → ((k : ℕ) → slice_get qs k ≡ Some p → find (has_line p.line) qs ≡ Some p) → find (has_line p.line) (q ∷ qs) ≡ Some p
    by true is i e later = rw is (ap (λ (r : Profile). let o : Option Profile = Some r in o) (own 0 i q p refl e (equal q.line p.line is)))
    by false is zero e later = let same : q ≡ p = cc in absurd (unequal q.line p.line is (ap (λ (r : Profile). r.line) same))
    by false is (suc i) e later = rw is (later i e)

abbrev named_as : List ℕ → List ℕ → Query → List ℕ
named_as pkg profile q = pkg ++ (codes " " ++ (class_text q.class ++ (codes " " ++ (profile ++ (codes " " ++ level_text q.case.parent.level)))))

named_text : (o : Options) (r : Repo) → HaveOwnLines r.profiles → (q : Query) → IsNamed o r (query_name q) q → name_text r (query_name q) ≡ query_text q
named_text o r own q is =
    ap (λ (p : Option Pkg). named_as (option_map_or pkg_text p []) (option_map_or profile_text (find (has_line q.case.parent.profile.line) r.profiles) []) q) is.pkg
    ∙ ap (λ (p : Option Profile). named_as (pkg_text q.case.member.pkg) (option_map_or profile_text p []) q) (find_own r.profiles own is.line q.case.parent.profile is.profile)

middle : {A : Type 0} (P : A → Type 0) (before behind : List A) (x : A) → AllByRecursion P (before ++ x ∷ behind) → P x
middle P [] behind x all = all.0
middle P (y ∷ ys) behind x all = middle P ys behind x all.1

-- one of some queries, which are named
pub text_in : (o : Options) (r : Repo) → HaveOwnLines r.profiles → (qs : List Query) → AllByRecursion (λ q. IsNamed o r (query_name q) q) qs → (before behind : List Query) (q : Query) → qs ≡ before ++ q ∷ behind
    → name_text r (query_name q) ≡ query_text q
text_in o r own qs all before behind q are =
    named_text o r own q (middle (λ (p : Query). IsNamed o r (query_name p) p) before behind q (subst (AllByRecursion (λ (p : Query). IsNamed o r (query_name p) p)) are all))

pub text_of : EachNamed → (o : Options) (r : Repo) → HaveOwnLines r.profiles → (before behind : List Query) (q : Query) → queries o r ≡ before ++ q ∷ behind → name_text r (query_name q) ≡ query_text q
text_of each o r own before behind q are = text_in o r own (queries o r) (each o r) before behind q are

-- the same of those that are chosen
chosen_all : (P : Query → Type 0) (c : Chosen) (n : ℕ) (qs : List Query) → AllByRecursion P qs → AllByRecursion P (chosen_from c n qs)
chosen_all P c n [] all = tt
chosen_all P c n (q ∷ qs) all = by (is_chosen c n q.case.member.number q.class) (chosen_all P c (n + 1) qs all.1)
  where
    by : (b : Bool) → AllByRecursion P (chosen_from c (n + 1) qs) → AllByRecursion P (if b then q ∷ chosen_from c (n + 1) qs else chosen_from c (n + 1) qs)
    by true rest = (all.0, rest)
    by false rest = rest

pub chosen_text : EachNamed → (c : Chosen) (o : Options) (r : Repo) → HaveOwnLines r.profiles → (before behind : List Query) (q : Query) → chosen c (queries o r) ≡ before ++ q ∷ behind
    → name_text r (query_name q) ≡ query_text q
chosen_text each c o r own before behind q are =
    named_text o r own q
    (middle (λ (p : Query). IsNamed o r (query_name p) p) before behind q
    (subst (AllByRecursion (λ (p : Query). IsNamed o r (query_name p) p)) are (chosen_all (λ (p : Query). IsNamed o r (query_name p) p) c 0 (queries o r) (each o r))))
