-- Each hint of a valid log names a clause or an earlier step, and logs whose numbers were read do.
use Rattle.std.proofs.Common.{◌≡◌, ℕ, zero, suc, ◌+◌, ◌<◌, Bool, true, false, List, [], ◌∷◌, ◌++◌, length, refl, subst, ap, length-append, arith}
use Rattle.std.specs.Prelude.{Option, None, Some, if◌then◌else◌, slice_get, replicate}
use Rattle.std.specs.List.{AllByRecursion}
use Rattle.std.proofs.lemmas.Bool.{false≢true}
use Rattle.gv_logic.specs.Circuits.{Circuit}
use Rattle.gv_logic.specs.Encoding.{all_clauses, clause_count, formula_of}
use Rattle.gv_logic.specs.Logs.{Step, and_then, started, last_is_false, unit_of, with_unit, refuted, follows, first_refused, IsValid}
use Rattle.gv_cert.specs.Backing.{Backs}
use Rattle.gv_cert.specs.Claim.{log_of, AreNamed, IsAnswer, IsSized, IsLog}
use Rattle.gv_cert.specs.Numbers.{IsHint, AllFrom}
use Rattle.gv_cert.specs.declared.claim.Claim.{Claim}
use Rattle.gv_cert.specs.declared.claim.Claim.TheVariants.{Refuted, Found}

-- what is there stands within

abbrev is_some : Option (List ℕ) → Bool
is_some None = false
is_some (Some clause) = true

abbrev is_none : Option ℕ → Bool
is_none None = true
is_none (Some n) = false

is_there : (names : List (List ℕ)) (hint : ℕ) (clause : List ℕ) → slice_get names hint ≡ Some clause → hint < length names
is_there [] hint clause e = absurd (false≢true (ap is_some e))
is_there (c ∷ cs) zero clause e = omega arith
is_there (c ∷ cs) (suc hint) clause e = let below = is_there cs hint clause e in omega (arith, below)

-- the hints by which a step follows

hints_named : (hints : List ℕ) (names : List (List ℕ)) (on : List Bool) → refuted hints names on ≡ true → AllByRecursion (λ hint. hint < length names) hints
hints_named [] names on e = tt
hints_named (hint ∷ []) names on e = (by (slice_get names hint) refl e, tt)
  where
    by : (o : Option (List ℕ)) → slice_get names hint ≡ o → last_is_false on o ≡ true → hint < length names
    by None is e = absurd (false≢true e)
    by (Some clause) is e = is_there names hint clause is
hints_named (hint ∷ next ∷ hints) names on e =
    by (slice_get names hint) refl e (λ on' e'. hints_named (next ∷ hints) names on' e')
  where
    by_unit : (u : Option (List Bool)) → and_then u (refuted (next ∷ hints) names) ≡ true → ((on' : List Bool) → refuted (next ∷ hints) names on' ≡ true → AllByRecursion (λ h. h < length names) (next ∷ hints))
        → AllByRecursion (λ h. h < length names) (next ∷ hints)
    by_unit None e later = absurd (false≢true e)
    by_unit (Some on') e later = later on' e

    by : (o : Option (List ℕ)) → slice_get names hint ≡ o → and_then (with_unit on (unit_of on o)) (refuted (next ∷ hints) names) ≡ true
        → ((on' : List Bool) → refuted (next ∷ hints) names on' ≡ true → AllByRecursion (λ h. h < length names) (next ∷ hints))
        → AllByRecursion (λ h. h < length names) (hint ∷ next ∷ hints)
    by None is e later = absurd (false≢true e)
    by (Some clause) is e later = (is_there names hint clause is, by_unit (with_unit on (unit_of on (Some clause))) e later)

step_named : (n : ℕ) (names : List (List ℕ)) (s : Step) → follows n names s.clause s.hints ≡ true → AllByRecursion (λ hint. hint < length names) s.hints
step_named n names s e = by (started (replicate n false) s.clause) e
  where
    by : (o : Option (List Bool)) → and_then o (refuted s.hints names) ≡ true → AllByRecursion (λ hint. hint < length names) s.hints
    by None e = absurd (false≢true e)
    by (Some on) e = hints_named s.hints names on e

steps_named : (n : ℕ) (names : List (List ℕ)) (log : List Step) (k : ℕ) → first_refused n names log k ≡ None → AreNamed (length names) log
steps_named n names [] k e = tt
steps_named n names (s ∷ ss) k e = by (follows n names s.clause s.hints) refl e (steps_named n (names ++ s.clause ∷ []) ss (k + 1))
  where
    more : length (names ++ s.clause ∷ []) ≡ length names + 1
    more = length-append names (s.clause ∷ [])

    by : (b : Bool) → follows n names s.clause s.hints ≡ b → (if b then first_refused n (names ++ s.clause ∷ []) ss (k + 1) else Some k) ≡ None
        → (first_refused n (names ++ s.clause ∷ []) ss (k + 1) ≡ None → AreNamed (length (names ++ s.clause ∷ [])) ss) → AreNamed (length names) (s ∷ ss)
    by true is e later = (step_named n names s is, subst (λ m. AreNamed m ss) more (later e))
    by false is e later = absurd (false≢true (ap is_none e))

pub log_named : (g : Circuit) (log : List Step) → IsValid (formula_of g) log → AreNamed (clause_count g) log
unfolding clause_count
log_named g log valid = steps_named _ (all_clauses g) log 0 valid

pub claim_named : (g : Circuit) (claim : Claim) → Backs g claim → AreNamed (clause_count g) (log_of claim)
claim_named g (Refuted log) b = log_named g log b.valid
claim_named g (Found bits log) b = log_named g log b.valid

-- what was read

hints_sized : (names : ℕ) (hints : List ℕ) → AllByRecursion (IsHint names) hints → AllByRecursion (λ hint. hint < names) hints
hints_sized names [] a = tt
hints_sized names (h ∷ hs) a = (a.0.0, hints_sized names hs a.1)

steps_sized : (names : ℕ) (log : List Step) → AllFrom IsSized names log → AreNamed names log
steps_sized names [] a = tt
steps_sized names (s ∷ ss) a = (hints_sized names s.hints a.0.hints.all, steps_sized (names + 1) ss a.1)

pub sized_named : (clauses : ℕ) (log : List Step) → IsLog clauses log → AreNamed clauses log
sized_named clauses log is = steps_sized clauses log is.steps

pub answer_named : (inputs clauses : ℕ) (claim : Claim) → IsAnswer inputs clauses claim → AreNamed clauses (log_of claim)
answer_named inputs clauses claim is = sized_named clauses (log_of claim) is.sized
