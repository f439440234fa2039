-- From what a valid log says of the clauses to what is so of the gates.
use Rattle.std.proofs.Common.{◌≡◌, ◌≢◌, ◌⊎◌, ◌↔◌, inl, inr, ℕ, ◌<◌, Bool, true, false, List, [], ◌∷◌, length, get_or, refl, sym, ap, ◌∙◌, arith}
use Rattle.std.proofs.lemmas.List.{get_or-take}
use Rattle.gv_base.specs.Least.{Lesser, IsLeast, HasNone}
use Rattle.gv_encode.specs.Extends.{Extends}
use Rattle.gv_logic.specs.Backed.{BacksNone, BacksBits}
use Rattle.gv_logic.specs.Circuits.{Circuit, at, value, IsCircuit}
use Rattle.gv_logic.specs.Encoding.{all_clauses, formula_of}
use Rattle.gv_logic.specs.Formulas.{Formula}
use Rattle.gv_logic.specs.Literals.{AllTrue}
use Rattle.gv_logic.specs.Logs.{Step, IsValid, ProvesNone, ProvesLeast, step_clauses}
use Rattle.gv_solver.specs.Laws.{BackedLaw}

-- what the laws of the encoding and of logs say
pub record Laws : Type 0 where
  pub root : (g : Circuit) (bits : List Bool) → IsCircuit g → length bits ≡ g.inputs → (value g bits ≡ true) ↔ ((all : List Bool) × Extends g bits all × AllTrue (at all) (all_clauses g))
  pub steps : (f : Formula) (log : List Step) (v : ℕ → Bool) → IsValid f log → AllTrue v f.clauses → AllTrue v (step_clauses log)
  pub none : (f : Formula) (log : List Step) (v : ℕ → Bool) → IsValid f log → ProvesNone log → AllTrue v f.clauses → ⊥
  pub least : (f : Formula) (log : List Step) (bits other : List Bool) (v : ℕ → Bool) → IsValid f log → ProvesLeast log bits → AllTrue v f.clauses → length other ≡ length bits
      → ((i : ℕ) → i < length bits → v i ≡ get_or other i false) → Lesser other bits → ⊥

-- bits that give the root true extend to an assignment that makes all clauses true
pub extends : (l : Laws) (g : Circuit) (bits : List Bool) → IsCircuit g → length bits ≡ g.inputs → value g bits ≡ true
    → (v : ℕ → Bool) × AllTrue v (all_clauses g) × ((i : ℕ) → i < g.inputs → v i ≡ get_or bits i false)
extends l g bits w n e =
    let x = (l.root g bits w n).0 e in
    (at x.0, x.2, λ i lt. sym (get_or-take g.inputs x.0 i false lt) ∙ ap (λ b. get_or b i false) x.1.agrees)

-- of two different lists one is lesser
one_lesser : (bits other : List Bool) → length other ≡ length bits → (Lesser other bits → ⊥) → other ≢ bits → Lesser bits other
one_lesser [] [] n f d = absurd (d refl)
one_lesser [] (o ∷ os) n f d = absurd (omega (arith, n))
one_lesser (b ∷ bs) [] n f d = absurd (omega (arith, n))
one_lesser (b ∷ bs) (o ∷ os) n f d = by b o refl refl (λ s. one_lesser bs os (omega (arith, n)) (λ h. f (inr (sym s, h))) (λ q. d (rw (s, q) refl)))
  where
    by : (u v : Bool) → b ≡ u → o ≡ v → (b ≡ o → Lesser bs os) → ((b ≡ false) × (o ≡ true)) ⊎ ((b ≡ o) × Lesser bs os)
    by false true s t go = inl (s, t)
    by true false s t go = absurd (f (inl (t, s)))
    by true true s t go = inr (s ∙ sym t, go (s ∙ sym t))
    by false false s t go = inr (s ∙ sym t, go (s ∙ sym t))

pub backs_none : (l : Laws) (g : Circuit) (log : List Step) → IsCircuit g → BacksNone g log → HasNone (value g) g.inputs
backs_none l g log w b = λ bits n e. let x = extends l g bits w n e in l.none (formula_of g) log x.0 b.valid b.proves x.1

pub backs_bits : (l : Laws) (g : Circuit) (bits : List Bool) (log : List Step) → IsCircuit g → BacksBits g bits log → IsLeast (value g) g.inputs bits
backs_bits l g bits log w b = record {
  size = b.size;
  has = b.holds;
  lesser = λ other n e d.
      let x = extends l g other w n e in
      let same : length other ≡ length bits = n ∙ sym b.size in
      one_lesser bits other same (l.least (formula_of g) log bits other x.0 b.valid b.proves x.1 same (λ i lt. x.2 i (rw (sym b.size) lt))) d;
}

pub backed : Laws → BackedLaw
backed l = record { none = backs_none l; bits = backs_bits l }
