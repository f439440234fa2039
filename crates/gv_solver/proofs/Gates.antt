-- From clauses to gates.
-- The laws of the encoding, of steps and of least bits from the crates below (`Laws` in `Backing`) say what a log is
-- worth for gates; so what was found of the clauses is an answer about the gates (`answers`).
use Rattle.std.proofs.Common.{◌≡◌, inl, inr, ℕ, ◌+◌, ◌*◌, ◌/◌, ◌%◌, ◌<◌, Bool, true, false, ◌||◌, List, [], ◌∷◌, ◌++◌, length, get_or, refl, sym, ap, ◌∙◌, arith}
use Rattle.std.specs.List.{AllByRecursion}
use Rattle.gv_logic.specs.Backed.{BacksNone, BacksBits}
use Rattle.gv_logic.specs.Circuits.{Circuit, value, IsCircuit}
use Rattle.gv_logic.specs.Encoding.{all_clauses, formula_of}
use Rattle.gv_logic.specs.Kept.{IsRising, AreKept, AreOff}
use Rattle.gv_logic.specs.Literals.{lit_true, clause_true, AllTrue}
use Rattle.gv_logic.specs.Logs.{Step, IsValid, step_clauses, set_clause, HasList}
use Rattle.gv_logic.specs.Partial.{Has}
use Rattle.gv_solver.specs.declared.answer.Answer.{Answer}
use Rattle.gv_solver.specs.declared.answer.Answer.TheVariants.{Refuted, Found, Spent}
use Rattle.gv_solver.specs.Answer.{RefutesGates, FindsLeast, SpendsBudget, Answers}
use Rattle.gv_solver.specs.Found.{IsAnswer, IsRefutation, IsLeastModel, IsSpent}
use Rattle.gv_solver.specs.Work.{AreNewSets}
use Rattle.gv_solver.proofs.Forced.{length-bits}
use Rattle.gv_solver.proofs.Model.{model_value}
use Rattle.gv_solver.proofs.Backing.{Laws, extends, backs_none, backs_bits}
use Rattle.gv_solver.proofs.Count.{kept_few}
use Rattle.gv_solver.proofs.Starts.{rising_le}

has_true : (v : ℕ → Bool) (c : List ℕ) (cs : List (List ℕ)) → AllTrue v cs → HasList c cs → clause_true v c ≡ true
has_true v c [] a h = absurd h
has_true v c (x ∷ xs) a h = elim h [ inl s ↦ rw (← s) a.0 | inr g ↦ has_true v c xs a.1 g ]

even_lit : (v : ℕ → Bool) (i : ℕ) → lit_true v (2 * i) ≡ v i
even_lit v i = let r : (2 * i) % 2 ≡ 0 = omega arith in let d : (2 * i) / 2 ≡ i = omega arith in rw (r, d) refl

-- a member of a set whose clause is true is on
member_on : (v : ℕ → Bool) (set : List ℕ) → clause_true v (set_clause set) ≡ true → (i : ℕ) × Has i set × (v i ≡ true)
member_on v [] e = cc
member_on v (i ∷ is) e = by (v i) refl (rw (even_lit v i) at e) (λ h. member_on v is h)
  where
    by : (b : Bool) → v i ≡ b → (b || clause_true v (set_clause is)) ≡ true → (clause_true v (set_clause is) ≡ true → (j : ℕ) × Has j is × (v j ≡ true)) → (j : ℕ) × Has j (i ∷ is) × (v j ≡ true)
    by true s e go = (i, inl refl, s)
    by false s e go = let r = go e in (r.0, inr r.1, r.2)

off_member : (bits : List Bool) (set : List ℕ) (i : ℕ) → AreOff bits set → Has i set → get_or bits i false ≡ false
off_member bits [] i a h = absurd h
off_member bits (x ∷ xs) i a h = elim h [ inl s ↦ rw (← s) a.0 | inr g ↦ off_member bits xs i a.1 g ]

no_ : (b : Bool) → b ≡ true → b ≡ false → ⊥
no_ b t f = cc

refutes : (l : Laws) (g : Circuit) (budget : ℕ) (log : List Step) → IsCircuit g → IsRefutation (formula_of g) g.inputs budget log → RefutesGates g budget log
refutes l g budget log w r =
    let b : BacksNone g log = record { valid = r.valid; proves = r.proves } in
    record { none = backs_none l g log w b; backed = b; short = r.short }

finds : (l : Laws) (g : Circuit) (budget : ℕ) (bits : List Bool) (log : List Step) → IsCircuit g → IsLeastModel (formula_of g) g.inputs budget bits log → FindsLeast g budget bits log
finds l g budget bits log w r =
    let b : BacksBits g bits log = record {
      size = ap length r.model.bits_are ∙ length-bits r.model.on g.inputs;
      valid = r.valid;
      holds = ap (value g) r.model.bits_are ∙ model_value g r.model.on w r.model.proper r.model.quiet r.model.assigned;
      proves = r.proves;
    } in
    record { least = backs_bits l g bits log w b; backed = b; short = r.short }

small : (b t : ℕ) (set : List ℕ) → IsRising b t set → (i : ℕ) → Has i set → i < t
small b t [] r i h = absurd h
small b t (x ∷ xs) r i h = elim h [ inl s ↦ let top = rising_le (x + 1) t xs r.1 in omega (arith, top, s) | inr g ↦ small (x + 1) t xs r.1 i g ]

kept_for : (l : Laws) (g : Circuit) (log : List Step) (earlier sets : List (List ℕ)) → IsCircuit g → IsValid (formula_of g) log → AllByRecursion (IsRising 0 g.inputs) sets
    → AllByRecursion (λ set. HasList (set_clause set) (step_clauses log)) sets → AreNewSets (all_clauses g) earlier sets → AreKept g earlier sets
kept_for l g log earlier [] w v r s k = tt
kept_for l g log earlier (x ∷ xs) w v r s k = (
  record { rising = r.0; some = k.0.some; apart = k.0.apart; needed = needed; tight = k.0.tight },
  kept_for l g log (earlier ++ x ∷ []) xs w v r.1 s.1 k.1,
)
  where
    needed : (bits : List Bool) → length bits ≡ g.inputs → value g bits ≡ true → AreOff bits x → ⊥
    needed bits n e off =
        let y = extends l g bits w n e in
        let m = member_on y.0 x (has_true y.0 (set_clause x) (step_clauses log) (l.steps (formula_of g) log y.0 v y.1) s.0) in
        no_ (get_or bits m.0 false) (sym (y.2 m.0 (small 0 g.inputs x r.0 m.0 m.1)) ∙ m.2) (off_member bits x m.0 off m.1)

spends : (l : Laws) (g : Circuit) (budget : ℕ) (log : List Step) (sets : List (List ℕ)) → IsCircuit g → IsSpent (formula_of g) g.inputs budget log sets → SpendsBudget g budget log sets
spends l g budget log sets w r =
    let few = kept_few g.inputs (all_clauses g) sets r.rising r.kept in
    record { kept = kept_for l g log [] sets w r.valid r.rising r.stand r.kept; count = r.count; wide = rw r.count at few; valid = r.valid; stand = r.stand; short = r.short }

pub answers : (l : Laws) (g : Circuit) (budget : ℕ) (a : Answer) → IsCircuit g → IsAnswer (formula_of g) g.inputs budget a → Answers g budget a
answers l g budget (Refuted log) w r = refutes l g budget log w r
answers l g budget (Found bits log) w r = finds l g budget bits log w r
answers l g budget (Spent log sets) w r = spends l g budget log sets w r
