-- The queries that aren't due are within the limits, since those of before were; so the first of those that are due that is refused is
-- the first of all.
use Rattle.std.proofs.Common.{◌≡◌, ℕ, ◌≤◌, Bool, true, false, not, List, [], ◌∷◌, ◌++◌, length, filter, refl, sym, ap, subst, arith}
use Rattle.std.specs.Prelude.{flat_map}
use Rattle.std.specs.List.{AllByRecursion}
use Rattle.gv_cert.specs.Known.{KnownRecord}
use Rattle.gv_entry.specs.declared.entry.Body.{Body}
use Rattle.gv_facts.specs.declared.kinds.Class.{Class}
use Rattle.gv_report.specs.declared.options.Options.{Options}
use Rattle.gv_load.specs.declared.loading.Repo.{Repo}
use Rattle.gv_reload.specs.EntryEdits.{DifferIn}
use Rattle.gv_checks.specs.Limits.{IsFirstRefused, IsRefused, IsWithin, Refuses, RefusesFirst}
use Rattle.gv_checks.specs.Queries.{Query, queries}
use Rattle.gv_renew.specs.Renewal.{is_due, mentions}
use Rattle.gv_plain.specs.PlainReports.{atoms_in}
use Rattle.gv_checks.specs.declared.fault.JudgeFault.{JudgeFault}
use Rattle.gv_checks.specs.declared.fault.JudgeFault.TheVariants.{Limit, NoMemory, Spent}
use Rattle.gv_renew.proofs.Locality.{Alike, limits_alike, limits_of}
use Rattle.gv_renew.proofs.RenewalQueries.{is_past, past_same}

-- ---- lists

abbrev first_or : {X : Type 0} → X → List X → X
first_or x [] = x
first_or x (y ∷ ys) = y

abbrev rest_of : {X : Type 0} → List X → List X
rest_of [] = []
rest_of (y ∷ ys) = ys

module _ {X : Type 0} (P : X → Type 0) (test : X → Bool) where
  pub all_of_both : (xs : List X) → AllByRecursion P (filter test xs) → AllByRecursion P (filter (λ x. not (test x)) xs) → AllByRecursion P xs
  all_of_both [] passing failing = tt
  all_of_both (x ∷ xs) passing failing = by (test x) refl passing failing (all_of_both xs)
    where
      by : (b : Bool) → test x ≡ b → AllByRecursion P (filter test (x ∷ xs)) → AllByRecursion P (filter (λ x. not (test x)) (x ∷ xs))
          → (AllByRecursion P (filter test xs) → AllByRecursion P (filter (λ x. not (test x)) xs) → AllByRecursion P xs) → AllByRecursion P (x ∷ xs)
      by true e passing failing rest =
          let some : AllByRecursion P (x ∷ filter test xs) = rw e at passing in
          let others : AllByRecursion P (filter (λ x. not (test x)) xs) = rw e at failing in
          (some.0, rest some.1 others)
      by false e passing failing rest =
          let some : AllByRecursion P (filter test xs) = rw e at passing in
          let others : AllByRecursion P (x ∷ filter (λ x. not (test x)) xs) = rw e at failing in
          (others.0, rest some others.1)

  -- what stands before it
  pub record Front (xs : List X) (x : X) : Type 0 where
    pub before : List X
    pub behind : List X
    pub are : xs ≡ before ++ x ∷ behind
    pub all : AllByRecursion P before

  abbrev Fronts : List X → Type 0
  Fronts xs = (before : List X) (x : X) (behind : List X) → filter test xs ≡ before ++ x ∷ behind → AllByRecursion P before
      → AllByRecursion P (filter (λ x. not (test x)) xs) → Front xs x

  front : (xs : List X) → Fronts xs
  front [] [] x behind e all failing = absurd (omega (arith, ap length e))
  front [] (b ∷ before) x behind e all failing = absurd (omega (arith, ap length e))
  front (y ∷ ys) before x behind e all failing = by (test y) refl before e all failing (front ys)
    where
      more : Front ys x → P y → Front (y ∷ ys) x
      more f is = record { before = y ∷ f.before; behind = f.behind; are = ap (λ l. y ∷ l) f.are; all = (is, f.all) }

      passed : (before : List X) → y ∷ filter test ys ≡ before ++ x ∷ behind → AllByRecursion P before → AllByRecursion P (filter (λ x. not (test x)) ys)
          → Fronts ys → Front (y ∷ ys) x
      passed [] e all failing rest = record { before = []; behind = ys; are = ap (λ h. h ∷ ys) (ap (first_or y) e); all = tt }
      passed (b ∷ before) e all failing rest = more (rest before x behind (ap rest_of e) all.1 failing) (subst P (sym (ap (first_or y) e)) all.0)

      by : (b : Bool) → test y ≡ b → (before : List X) → filter test (y ∷ ys) ≡ before ++ x ∷ behind → AllByRecursion P before
          → AllByRecursion P (filter (λ x. not (test x)) (y ∷ ys)) → Fronts ys → Front (y ∷ ys) x
      by true t before e all failing rest = passed before (rw t at e) all (rw t at failing) rest
      by false t before e all failing rest =
          let others : AllByRecursion P (y ∷ filter (λ x. not (test x)) ys) = rw t at failing in
          more (rest before x behind (rw t at e) all others.1) others.0

-- ---- limits

abbrev AreWithin : ℕ × ℕ → Type 0
AreWithin l = (l.0 ≤ 4096) × (l.1 ≤ 2000000)

abbrev listed_limits : Query → List (ℕ × ℕ)
listed_limits q = limits_of q ∷ []

to_limits : (test : Query → Bool) (qs : List Query) → AllByRecursion IsWithin qs → AllByRecursion AreWithin (flat_map listed_limits (filter test qs))
to_limits test [] all = tt
to_limits test (q ∷ qs) all = by (test q) refl (to_limits test qs all.1)
  where
    by : (b : Bool) → test q ≡ b → AllByRecursion AreWithin (flat_map listed_limits (filter test qs))
        → AllByRecursion AreWithin (flat_map listed_limits (filter test (q ∷ qs)))
    by true e rest = rw e ((all.0.flags, all.0.weight), rest)
    by false e rest = rw e rest

from_limits : (qs : List Query) → AllByRecursion AreWithin (flat_map listed_limits qs) → AllByRecursion IsWithin qs
from_limits [] all = tt
from_limits (q ∷ qs) all = (record { flags = all.0.0; weight = all.0.1 }, from_limits qs all.1)

module _ (o : Options) (paths : List (List ℕ)) (old whole : Repo) (differ : DifferIn paths old whole)
    (alike : (b : Body) (k : Class) → mentions paths b k ≡ false → AllByRecursion (Alike old.pkgs whole.pkgs) (atoms_in b k)) (were : AllByRecursion IsWithin (queries o old)) where
  -- those that aren't due are within the limits
  past_within : AllByRecursion IsWithin (filter (is_past o paths) (queries o whole))
  past_within = from_limits (filter (is_past o paths) (queries o whole))
      (subst (AllByRecursion AreWithin)
      (past_same o paths listed_limits (λ xs ys p profile level i j b k a. ap (λ l. l ∷ []) (limits_alike xs ys p profile level i j b k a)) old whole differ alike)
      (to_limits (is_past o paths) (queries o old) were))

  pub within_all : AllByRecursion IsWithin (filter (is_due paths) (queries o whole)) → AllByRecursion IsWithin (queries o whole)
  within_all due = all_of_both IsWithin (is_due paths) (queries o whole) due past_within

  module _ (budget : ℕ) (given : List KnownRecord) where
    among_all : (fault : JudgeFault) → IsFirstRefused budget given (filter (is_due paths) (queries o whole)) fault → IsRefused budget given (queries o whole) fault
    among_all fault refused = record { before = f.before; query = refused.query; behind = f.behind; queries_are = f.are; within = f.all; cause = refused.cause }
      where
        f : Front IsWithin (is_due paths) (queries o whole) refused.query
        f = front IsWithin (is_due paths) (queries o whole) refused.before refused.query refused.behind refused.queries_are refused.within past_within

    pub refuses_all : (fault : JudgeFault) → RefusesFirst budget given (filter (is_due paths) (queries o whole)) fault → Refuses budget given (queries o whole) fault
    refuses_all (Spent name sets) refused = among_all (Spent name sets) refused
    refuses_all (Limit place number) refused = among_all (Limit place number) refused
    refuses_all NoMemory refused = tt
