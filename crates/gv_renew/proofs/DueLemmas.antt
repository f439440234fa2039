-- What is due, and what judging it answers.
use Rattle.std.proofs.Common.{◌≡◌, ℕ, suc, ◌+◌, ◌≤◌, Bool, true, false, ◌||◌, List, [], ◌∷◌, ◌++◌, length, map, filter, refl, sym, ap, subst, ◌∙◌, append_assoc, length-append, Some, arith}
use Rattle.std.specs.Prelude.{flat_map, if◌then◌else◌, slice_get}
use Rattle.std.specs.Borrow.{Bor}
use Rattle.std.specs.List.{AllByRecursion}
use Rattle.std.proofs.lemmas.Grind.{flat_map-append}
use Rattle.gv_base.specs.Counts.{Counts}
use Rattle.gv_cert.specs.Known.{KnownRecord}
use Rattle.gv_entry.specs.declared.entry.Body.{Body}
use Rattle.gv_facts.specs.declared.kinds.Class.{Class}
use Rattle.gv_facts.specs.declared.kinds.Class.TheVariants.{Bdepend, Depend, Idepend, Pdepend, Rdepend, Required}
use Rattle.gv_facts.specs.declared.pkg.Pkg.{Pkg}
use Rattle.gv_report.specs.declared.options.Options.{Options}
use Rattle.gv_report.specs.declared.report.Report.{Report}
use Rattle.gv_load.specs.declared.loading.Repo.{Repo}
use Rattle.gv_checks.specs.Answers.{AreAnswers}
use Rattle.gv_plain.specs.Cases.{Case, Member, case_at, cases_of, members_from}
use Rattle.gv_checks.specs.Certs.{CountsAtMost}
use Rattle.gv_checks.specs.Chosen.{chosen, chosen_from, has, has_class, has_in}
use Rattle.gv_renew.specs.Due.{AreAnswered, due_set}
use Rattle.gv_checks.specs.Limits.{RefusesFirst}
use Rattle.gv_checks.specs.Queries.{Query, case_queries, queries, query_of}
use Rattle.gv_renew.specs.Renewal.{is_due}
use Rattle.gv_renew.specs.Touched.{AreTouched, IsTouched, member_at, mentions_at}
use Rattle.gv_checks.specs.Views.{Walk}
use Rattle.gv_checks.specs.declared.chosen.Chosen.TheVariants.{Classes}
use Rattle.gv_checks.specs.declared.fault.JudgeFault.{JudgeFault}
use Rattle.gv_checks.specs.declared.chosen.ClassSet.{ClassSet}
use Rattle.gv_renew.specs.declared.touched.Touched.{Touched}
use Rattle.gv_checks.specs.declared.walking.Answers.{Answers}
use Rattle.gv_renew.proofs.RenewalQueries.{cases_each}
use Rattle.gv_renew.proofs.RenewalTold.{all_join}

-- all that are due
pub answered_all : (budget : ℕ) (given : List KnownRecord) (qs : List Query) (start now : Counts) (a : Answers) → AreAnswers budget given qs start now a
    → now.lower ≤ start.lower + length qs → now.solve ≤ start.solve + length qs → AreAnswered qs start now a.reports
answered_all budget given qs start now a are lowered solved = record { within = are.within; reports_are = are.reports_are; lowered = lowered; solved = solved }

pub refused_due : (budget : ℕ) (given : List KnownRecord) (qs : List Query) (fault : JudgeFault) → given ≡ [] → RefusesFirst budget given qs fault → RefusesFirst budget [] qs fault
refused_due budget given qs fault none refused = subst (λ l. RefusesFirst budget l qs fault) none refused

-- the classes that are due are those of the queries that are due
pub set_has : (t : Touched) (class : Class) → has (due_set t) class ≡ (t.edited || mentions_at t class)
set_has t Required = by t.edited
  where
    by : (b : Bool) → b ≡ (b || false)
    by true = refl
    by false = refl
set_has t Depend = refl
set_has t Bdepend = refl
set_has t Rdepend = refl
set_has t Pdepend = refl
set_has t Idepend = refl

no_cons : {A : Type 0} {x : A} {xs : List A} → x ∷ xs ≡ [] → ⊥
no_cons {A} {x} {xs} e = subst (λ l. IsNone l) e tt
  where
    IsNone : List A → Type 0
    IsNone [] = ⊥
    IsNone (y ∷ ys) = Unit {0}

at_end : {A : Type 0} (front : List A) (x : A) (xs : List A) → slice_get (front ++ x ∷ xs) (length front) ≡ Some x
at_end [] x xs = refl
at_end (y ∷ front) x xs = at_end front x xs

filter_where : (p r : Query → Bool) (qs : List Query) → AllByRecursion (λ q. p q ≡ r q) qs → filter p qs ≡ filter r qs
filter_where p r [] all = refl
filter_where p r (q ∷ qs) all = rw all.0 (ap (λ l. if r q then q ∷ l else l) (filter_where p r qs all.1))

module _ (sets : Bor (List ClassSet)) where
  abbrev is_in : Query → Bool
  is_in q = has_class sets.now q.case.member.number q.class

  as_filter : (n : ℕ) (qs : List Query) → chosen_from (Classes sets) n qs ≡ filter is_in qs
  as_filter n [] = refl
  as_filter n (q ∷ qs) = ap (λ l. if is_in q then q ∷ l else l) (as_filter (n + 1) qs)

  module _ (o : Options) (paths : List (List ℕ)) (repo : Repo) where
    abbrev IsSame : Query → Type 0
    IsSame q = is_in q ≡ is_due paths q

    of_touched : (t : Touched) → IsTouched paths t → (front rest : List Touched) → sets.now ≡ map due_set (front ++ t ∷ rest) → t.number ≡ length front
        → (c : Case) → c.member ≡ member_at t → (class : Class) → IsSame (query_of c class)
    of_touched t is front rest all number c same class =
        ap (λ (m : Member). has_class sets.now m.number class) same
        ∙ (ap (λ n. has_class sets.now n class) number
        ∙ (ap (λ l. has_class l (length front) class) (all ∙ map_append front (t ∷ rest))
        ∙ (ap (λ n. has_in (slice_get (map due_set front ++ due_set t ∷ map due_set rest) n) class) (sym (length_map front))
        ∙ (ap (λ s. has_in s class) (at_end (map due_set front) (due_set t) (map due_set rest))
        ∙ (set_has t class ∙ sym (due_at c same))))))
      where
        map_append : (xs ys : List Touched) → map due_set (xs ++ ys) ≡ map due_set xs ++ map due_set ys
        map_append [] ys = refl
        map_append (x ∷ xs) ys = ap (λ l. due_set x ∷ l) (map_append xs ys)

        length_map : (xs : List Touched) → length (map due_set xs) ≡ length xs
        length_map [] = refl
        length_map (x ∷ xs) = ap suc (length_map xs)

        due_at : (c : Case) → c.member ≡ member_at t → is_due paths (query_of c class) ≡ (t.edited || mentions_at t class)
        due_at c e = rw (e, is.edited_is, is.mentions_are class) refl

    all_same : (front rest : List Touched) (n : ℕ) → n ≡ length front → sets.now ≡ map due_set (front ++ rest) → (ps : List Pkg) (bs : List Body) → map member_at rest ≡ members_from n ps bs
        → AllByRecursion (IsTouched paths) rest → AllByRecursion IsSame (flat_map (case_queries o) (flat_map (cases_of repo) (map member_at rest)))
    all_same front [] n at all ps bs same each = tt
    all_same front (t ∷ rest) n at all ps bs same each =
        let split = parts n ps bs same in
        subst (AllByRecursion IsSame) (sym (flat_map-append (case_queries o) (cases_of repo (member_at t)) (flat_map (cases_of repo) (map member_at rest))))
        (all_join IsSame (flat_map (case_queries o) (cases_of repo (member_at t))) (flat_map (case_queries o) (flat_map (cases_of repo) (map member_at rest)))
        (cases_each o IsSame repo.pkgs (member_at t) (λ profile level k. of_touched t each.0 front rest all (split.0 ∙ at) (case_at repo.pkgs (member_at t) profile level) refl k) repo.profiles)
        (all_same (front ++ t ∷ []) rest (n + 1) more (all ∙ ap (map due_set) (sym (append_assoc front (t ∷ []) rest))) split.1.0 split.1.1.0 split.1.1.1 each.1))
      where
        more : n + 1 ≡ length (front ++ t ∷ [])
        more = omega (arith, at, length-append front (t ∷ []))

        number_of : List Member → ℕ
        number_of [] = n
        number_of (m ∷ ms) = m.number

        behind : List Member → List Member
        behind [] = []
        behind (m ∷ ms) = ms

        parts : (k : ℕ) (ps : List Pkg) (bs : List Body) → member_at t ∷ map member_at rest ≡ members_from k ps bs → (t.number ≡ k) × ((qs : List Pkg) × ((cs : List Body) × (map member_at rest ≡ members_from (k + 1) qs cs)))
        parts k (p ∷ ps) (b ∷ bs) e = (ap number_of e, (ps, (bs, ap behind e)))
        parts k [] bs e = absurd (no_cons e)
        parts k (p ∷ ps) [] e = absurd (no_cons e)

    pub due_chosen : (ts : List Touched) → AreTouched paths repo.pkgs repo.bodies ts → sets.now ≡ map due_set ts → chosen (Classes sets) (queries o repo) ≡ filter (is_due paths) (queries o repo)
    due_chosen ts are all =
        as_filter 0 (queries o repo) ∙ filter_where is_in (is_due paths) (queries o repo)
        (subst (λ ms. AllByRecursion IsSame (flat_map (case_queries o) (flat_map (cases_of repo) ms))) are.members_are (all_same [] ts 0 refl all repo.pkgs repo.bodies are.members_are are.each))

    -- over a walk of the repository
    module _ (ts : List Touched) (are : AreTouched paths repo.pkgs repo.bodies ts) (all : sets.now ≡ map due_set ts) (w : Walk) (same : w ≡ record { repo = repo; options = o }) where
      walk_due : chosen (Classes sets) (queries w.options w.repo) ≡ filter (is_due paths) (queries o repo)
      walk_due = ap (λ (v : Walk). chosen (Classes sets) (queries v.options v.repo)) same ∙ due_chosen ts are all

      pub answered_due : (n0 n1 : Counts) (reports : List Report) → AreAnswered (chosen (Classes sets) (queries w.options w.repo)) n0 n1 reports → AreAnswered (filter (is_due paths) (queries o repo)) n0 n1 reports
      answered_due n0 n1 reports a = subst (λ qs. AreAnswered qs n0 n1 reports) walk_due a

      pub due_refused : (f : JudgeFault) → RefusesFirst w.options.budget [] (chosen (Classes sets) (queries w.options w.repo)) f → RefusesFirst o.budget [] (filter (is_due paths) (queries o repo)) f
      due_refused f r = subst (λ (v : Walk). RefusesFirst v.options.budget [] (filter (is_due paths) (queries o repo)) f) same (subst (λ qs. RefusesFirst w.options.budget [] qs f) walk_due r)

      pub due_counted : (n0 n1 : Counts) → CountsAtMost (length (chosen (Classes sets) (queries w.options w.repo))) n0 n1 → CountsAtMost (length (filter (is_due paths) (queries o repo))) n0 n1
      due_counted n0 n1 few = subst (λ qs. CountsAtMost (length qs) n0 n1) walk_due few
