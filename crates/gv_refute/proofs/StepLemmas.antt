-- One step of a log.
use Rattle.std.proofs.Common.{◌≡◌, inl, inr, ℕ, zero, suc, ◌+◌, ◌<◌, Bool, true, false, List, [], ◌∷◌, ◌++◌, length, get_or, take, drop, Some, refl, sym, ap, ◌∙◌, append_assoc, add-one, drop-cons, arith}
use Rattle.std.proofs.lemmas.List.{take_more, map-append}
use Rattle.gv_logic.specs.Logs.{Step, follows, first_refused, step_clauses, HasList}

-- what is said of step i
abbrev Says : ℕ → List (List ℕ) → List Step → ℕ → Bool → Type 0
Says n names log i b = (s : Step) → b ≡ follows n names (get_or log i s).clause (get_or log i s).hints

module _ (n : ℕ) (cs : List (List ℕ)) (i : ℕ) where
  pub refused : (log : List Step) → i < length log → Says n (cs ++ step_clauses (take i log)) log i false → first_refused n (cs ++ step_clauses (take i log)) (drop i log) i ≡ Some i
  refused [] lt says = absurd (omega arith)
  refused (s ∷ ss) lt says = let no_ = sym (says s) in rw (drop-cons (s ∷ ss) i s, no_) refl

  pub passed : (log : List Step) → i < length log → Says n (cs ++ step_clauses (take i log)) log i true
      → first_refused n (cs ++ step_clauses (take (i + 1) log)) (drop (i + 1) log) (i + 1) ≡ first_refused n (cs ++ step_clauses (take i log)) (drop i log) i
  passed [] lt says = absurd (omega arith)
  passed (s ∷ ss) lt says =
      let it : Step = get_or (s ∷ ss) i s in
      let follow = sym (says s) in
      let more : cs ++ step_clauses (take (i + 1) (s ∷ ss)) ≡ cs ++ step_clauses (take i (s ∷ ss)) ++ it.clause ∷ [] =
      rw (take_more (s ∷ ss) i s lt, map-append, append_assoc) refl in
      let rest : drop i (s ∷ ss) ≡ it ∷ drop (i + 1) (s ∷ ss) = rw add-one (drop-cons (s ∷ ss) i s lt) in
      rw (more, rest, follow) refl

pub refused_at : (n m : ℕ) (cs ds : List (List ℕ)) (log steps : List Step) (i : ℕ) → m ≡ n → ds ≡ cs → steps ≡ log → i < length steps → Says m (ds ++ step_clauses (take i steps)) steps i false
    → first_refused n (cs ++ step_clauses (take i log)) (drop i log) i ≡ first_refused n cs log 0 → first_refused n cs log 0 ≡ Some i
refused_at n m cs ds log steps i p q r lt says e =
    let said : Says n (cs ++ step_clauses (take i log)) log i false = rw (← p, ← q, ← r) says in
    let le : i < length log = rw r at lt in
    sym e ∙ refused n cs i log le said

pub passed_at : (n m : ℕ) (cs ds : List (List ℕ)) (log steps : List Step) (i : ℕ) → m ≡ n → ds ≡ cs → steps ≡ log → i < length steps → Says m (ds ++ step_clauses (take i steps)) steps i true
    → first_refused n (cs ++ step_clauses (take i log)) (drop i log) i ≡ first_refused n cs log 0
    → first_refused n (cs ++ step_clauses (take (i + 1) log)) (drop (i + 1) log) (i + 1) ≡ first_refused n cs log 0
passed_at n m cs ds log steps i p q r lt says e =
    let said : Says n (cs ++ step_clauses (take i log)) log i true = rw (← p, ← q, ← r) says in
    let le : i < length log = rw r at lt in
    passed n cs i log le said ∙ e

-- the clause of a step is one of the steps' clauses
pub has_at : (c : List ℕ) (log : List Step) (i : ℕ) (s : Step) → i < length log → s ≡ get_or log i s → s.clause ≡ c → HasList c (step_clauses log)
has_at c [] i s lt e h = absurd (omega (arith, lt))
has_at c (x ∷ xs) zero s lt e h = inl (ap (λ (z : Step). z.clause) (sym e) ∙ h)
has_at c (x ∷ xs) (suc i) s lt e h = inr (has_at c xs i s (omega (arith, lt)) e h)

pub empty_is : (xs : List ℕ) → length xs ≡ 0 → xs ≡ []
empty_is [] e = refl
empty_is (x ∷ xs) e = absurd (omega (arith, e))
