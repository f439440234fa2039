-- From the walk over a part's queries to what judging it answers, and how parts make the whole.
use Rattle.std.proofs.Common.{◌≡◌, ℕ, ◌+◌, ◌-◌, ◌%◌, ◌<◌, ◌≤◌, Bool, true, false, List, [], ◌∷◌, length, refl, sym, ap, subst, ◌∙◌, arith}
use Rattle.std.specs.Prelude.{if◌then◌else◌, nat_eq, nat_lt}
use Rattle.std.specs.List.{AllByRecursion}
use Rattle.std.proofs.Math.Nat.{mod-lt}
use Rattle.std.proofs.lemmas.Bool.{and_from, and_parts, eq-eqb, eqb-true, lt-ltb}
use Rattle.gv_base.specs.Counts.{Counts}
use Rattle.gv_cert.specs.Known.{KnownRecord}
use Rattle.gv_load.specs.declared.loading.Repo.{Repo}
use Rattle.gv_report.specs.declared.options.Options.{Options}
use Rattle.gv_checks.specs.Answers.{AreAnswers}
use Rattle.gv_checks.specs.Certs.{CountsAtMost}
use Rattle.gv_checks.specs.Chosen.{chosen_from, is_in_part}
use Rattle.gv_checks.specs.Limits.{RefusesFirst}
use Rattle.gv_checks.specs.Queries.{Query, queries}
use Rattle.gv_checks.specs.Views.{Walk}
use Rattle.gv_checks.specs.declared.chosen.Chosen.TheVariants as choices
use Rattle.gv_checks.specs.declared.fault.JudgeFault.{JudgeFault}
use Rattle.gv_checks.specs.declared.walking.Answers.{Answers}
use Rattle.gv_merge.specs.declared.parts.Part.{Part}
use Rattle.gv_merge.specs.Parts.{IsInItsPart, IsOneOfParts, IsPart, part_of, part_of_all, part_queries}

-- ---- what judging a part answers

module _ (w : Walk) (o : Options) (repo : Repo) (same : w ≡ record { repo = repo; options = o }) (part parts : ℕ) (given : List KnownRecord) where
  here : part_of_all part parts (queries w.options w.repo) ≡ part_queries part parts o repo
  here = ap (λ (v : Walk). part_of_all part parts (queries v.options v.repo)) same

  pub is_part : (start now : Counts) (a : Answers) → AreAnswers o.budget given (part_of_all part parts (queries w.options w.repo)) start now a → (p : Part) → p.certs ≡ a.certs → p.queries ≡ a.queries
      → IsPart part parts o given repo start now p
  is_part start now a are p certs count =
      let those : AreAnswers o.budget given (part_queries part parts o repo) start now a = subst (λ qs. AreAnswers o.budget given qs start now a) here are in
      record {
        certs = those.certs;
        are = those.are;
        records_are = certs ∙ those.records_are;
        queries_are = count ∙ those.queries_are;
        within = those.within;
        formed = those.formed;
        lowered = those.lowered;
        few = those.few;
        counts_are = those.counts_are;
      }

  pub is_refused : (fault : JudgeFault) → RefusesFirst o.budget given (part_of_all part parts (queries w.options w.repo)) fault → RefusesFirst o.budget given (part_queries part parts o repo) fault
  is_refused fault refused = subst (λ qs. RefusesFirst o.budget given qs fault) here refused

pub part_counted : (w : Walk) (o : Options) (repo : Repo) → w ≡ record { repo = repo; options = o } → (part parts : ℕ) (start now : Counts)
    → CountsAtMost (length (part_of_all part parts (queries w.options w.repo))) start now → CountsAtMost (length (part_queries part parts o repo)) start now
part_counted w o repo same part parts start now few = subst (λ (v : Walk). CountsAtMost (length (part_of_all part parts (queries v.options v.repo))) start now) same few

-- ---- each query is of one part

pub one_of_parts : (parts number : ℕ) → 1 ≤ parts → IsOneOfParts parts number
one_of_parts parts number some = let below : (number - 1) % parts < parts = mod-lt (number - 1) (omega (arith, some)) in (omega arith, omega (arith, below))

module _ (parts place part : ℕ) (some : 1 ≤ parts) where
  its_part : part_of parts (place + 1) ≡ place % parts + 1
  its_part = let at : place + 1 - 1 ≡ place = omega arith in ap (λ n. n % parts + 1) at

  chosen_there : is_in_part part parts place ≡ true → part ≡ part_of parts (place + 1)
  chosen_there is = sym (eqb-true (place % parts + 1) part (and_parts (nat_lt 0 parts) (nat_eq (place % parts + 1) part) is).1) ∙ sym its_part

  chosen_so : part ≡ part_of parts (place + 1) → is_in_part part parts place ≡ true
  chosen_so is = and_from (nat_lt 0 parts) (nat_eq (place % parts + 1) part) (lt-ltb 0 parts (omega (arith, some))) (eq-eqb (place % parts + 1) part (sym (is ∙ its_part)))

pub in_its_part : (parts place : ℕ) → 1 ≤ parts → IsInItsPart parts place
in_its_part parts place some = λ part. (chosen_there parts place part some, chosen_so parts place part some)

-- ---- what is so of each part is so of all

module _ (P : Query → Type 0) (parts : ℕ) (some : 1 ≤ parts) where
  abbrev Each : (place : ℕ) → List Query → Type 0
  Each place qs = (part : ℕ) → 1 ≤ part → part ≤ parts → AllByRecursion P (chosen_from (choices.Part part parts) place qs)

  abbrev its : ℕ → ℕ
  its place = part_of parts (place + 1)

  is_its : (place : ℕ) → is_in_part (its place) parts place ≡ true
  is_its place = (in_its_part parts place some (its place)).1 refl

  first : (q : Query) (qs : List Query) (place : ℕ) → Each place (q ∷ qs) → P q
  first q qs place each =
      let here : AllByRecursion P (chosen_from (choices.Part (its place) parts) place (q ∷ qs)) = each (its place) (one_of_parts parts (place + 1) some).0 (one_of_parts parts (place + 1) some).1 in
      (subst (λ b. AllByRecursion P (if b then q ∷ chosen_from (choices.Part (its place) parts) (place + 1) qs else chosen_from (choices.Part (its place) parts) (place + 1) qs)) (is_its place) here).0

  rest : (q : Query) (qs : List Query) (place : ℕ) → Each place (q ∷ qs) → Each (place + 1) qs
  rest q qs place each = λ part from to. by (is_in_part part parts place) part (each part from to)
    where
      by : (b : Bool) (part : ℕ) → AllByRecursion P (if b then q ∷ chosen_from (choices.Part part parts) (place + 1) qs else chosen_from (choices.Part part parts) (place + 1) qs)
          → AllByRecursion P (chosen_from (choices.Part part parts) (place + 1) qs)
      by true part all = all.1
      by false part all = all

  have_from : (qs : List Query) (place : ℕ) → Each place qs → AllByRecursion P qs
  have_from [] place each = tt
  have_from (q ∷ qs) place each = (first q qs place each, have_from qs (place + 1) (rest q qs place each))

  pub have_all : (qs : List Query) → ((part : ℕ) → 1 ≤ part → part ≤ parts → AllByRecursion P (part_of_all part parts qs)) → AllByRecursion P qs
  have_all qs each = have_from qs 0 each
