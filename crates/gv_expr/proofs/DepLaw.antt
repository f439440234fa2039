-- Bytes are read as a dependency exactly where they are that dependency, within the limits.
use Rattle.std.proofs.Common.{◌≡◌, ℕ, ◌+◌, true, List, refl, sym, ap, ◌∙◌, Some, None, Result, Ok, Err}
use Rattle.std.specs.Prelude.{IfOk, IfErr}
use Rattle.gv_expr.specs.Dep.{Dep, Deps, leaf, all, any, when, end, more, deps, listed, top}
use Rattle.gv_expr.specs.DepGrammar.{dep_tokens, AreDeps, IsDepOf}
use Rattle.gv_expr.specs.DepRead.{dep_groups, read_dep}
use Rattle.gv_expr.specs.Leaves.{are_atoms}
use Rattle.gv_expr.specs.Fault.{FaultIs, GivesDep}
use Rattle.gv_expr.specs.declared.fault.ExprFault.{ExprFault}
use Rattle.gv_expr.specs.declared.fault.ExprFault.TheVariants.{Bad, NoMemory}
use Rattle.gv_expr.specs.declared.fault.ExprKind.{ExprKind}
use Rattle.gv_expr.specs.TokenFaults.{dependency, first_fault}
use Rattle.gv_expr.specs.Token.{tokens_of}
use Rattle.gv_expr.proofs.Bools.{none_or_some, some_is}
use Rattle.gv_expr.proofs.DepReadAgain.{AtomsRead, read_again}
use Rattle.gv_expr.proofs.DepFaults.{AreWritten, no_fault, has_no_fault}

atoms_read : AreWritten → (ts : Deps) (depth : ℕ) → AreDeps depth ts → AtomsRead ts
atoms_read written end depth good = tt
atoms_read written (more (leaf atom) ts) depth good = ((written atom good.0).read, atoms_read written ts depth good.1)
atoms_read written (more (all items) ts) depth good = (atoms_read written items (depth + 1) good.1, atoms_read written ts depth good.2)
atoms_read written (more (any items) ts) depth good = (atoms_read written items (depth + 1) good.1, atoms_read written ts depth good.2)
atoms_read written (more (when flag negated items) ts) depth good = (atoms_read written items (depth + 1) good.2, atoms_read written ts depth good.3)

-- what a reader found no fault in is that dependency
pub is_of : (bytes : List ℕ) (ts : List Dep) → dep_tokens (deps ts) ≡ tokens_of bytes → are_atoms (deps ts) ≡ true → first_fault dependency (tokens_of bytes) ≡ None → IsDepOf bytes ts
is_of bytes ts same good none =
    let h = no_fault (deps ts) good (ap (first_fault dependency) same ∙ none) in
    record { good = h.0; few = h.1; written = same }

pub is_read : AreWritten → (bytes : List ℕ) (ts : List Dep) → IsDepOf bytes ts → read_dep bytes ≡ Some ts
is_read written bytes ts is =
    let none : first_fault dependency (tokens_of bytes) ≡ None = ap (first_fault dependency) (sym is.written) ∙ has_no_fault written (deps ts) is.good is.few in
    let trees : listed (top (dep_groups (tokens_of bytes))) ≡ ts = ap (λ x. listed (top (dep_groups x))) (sym is.written) ∙ read_again ts (atoms_read written (deps ts) 0 is.good) in
    rw (none, trees) refl

read_alone : AreWritten → (bytes : List ℕ) (as_ bs : List Dep) → IsDepOf bytes as_ → IsDepOf bytes bs → as_ ≡ bs
read_alone written bytes as_ bs a b = some_is as_ bs (read_dep bytes) (is_read written bytes as_ a) (is_read written bytes bs b)

never_refused : AreWritten → (bytes : List ℕ) (ts : List Dep) (fault : ℕ × ExprKind) → first_fault dependency (tokens_of bytes) ≡ Some fault → IsDepOf bytes ts → ⊥
never_refused written bytes ts fault e is = none_or_some fault (first_fault dependency (tokens_of bytes)) (ap (first_fault dependency) (sym is.written) ∙ has_no_fault written (deps ts) is.good is.few) e

-- What is known of a reader's answer.
pub record Reads (bytes : List ℕ) (result : Result (List Dep) ExprFault) : Type 0 where
  pub tokens : IfOk result (λ e. dep_tokens (deps e) ≡ tokens_of bytes)
  pub good : IfOk result (λ e. are_atoms (deps e) ≡ true)
  pub none : IfOk result (λ e. first_fault dependency (tokens_of bytes) ≡ None)
  pub bad : IfErr result (FaultIs (first_fault dependency (tokens_of bytes)))

pub reads_of : (bytes : List ℕ) (result : Result (List Dep) ExprFault) → Reads bytes result → IfOk result (λ e. IsDepOf bytes e)
reads_of bytes (Ok e) known = is_of bytes e known.tokens known.good known.none
reads_of bytes (Err fault) known = tt

pub reads_same : AreWritten → (bytes : List ℕ) (result : Result (List Dep) ExprFault) → Reads bytes result → IfOk result (λ e. read_dep bytes ≡ Some e)
reads_same written bytes (Ok e) known = is_read written bytes e (is_of bytes e known.tokens known.good known.none)
reads_same written bytes (Err fault) known = tt

pub reads_again : AreWritten → (bytes : List ℕ) (result : Result (List Dep) ExprFault) → Reads bytes result → (ts : List Dep) → IsDepOf bytes ts → GivesDep result ts
reads_again written bytes (Ok e) known ts is = read_alone written bytes e ts (is_of bytes e known.tokens known.good known.none) is
reads_again written bytes (Err (Bad token kind)) known ts is = never_refused written bytes ts (token, kind) known.bad is
reads_again written bytes (Err NoMemory) known ts is = tt
