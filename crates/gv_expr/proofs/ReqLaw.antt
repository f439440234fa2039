-- Bytes are read as a REQUIRED_USE exactly where they are that REQUIRED_USE, within the limits.
use Rattle.std.proofs.Common.{◌≡◌, ℕ, true, List, refl, sym, ap, ◌∙◌, Some, None, Result, Ok, Err}
use Rattle.std.specs.Prelude.{IfOk, IfErr}
use Rattle.gv_expr.specs.Required.{Req, reqs, listed, top}
use Rattle.gv_expr.specs.RequiredGrammar.{req_tokens, IsReqOf}
use Rattle.gv_expr.specs.RequiredRead.{req_groups, read_required}
use Rattle.gv_expr.specs.Leaves.{are_flags}
use Rattle.gv_expr.specs.Fault.{FaultIs, GivesReq}
use Rattle.gv_expr.specs.declared.fault.ExprFault.{ExprFault}
use Rattle.gv_expr.specs.declared.fault.ExprFault.TheVariants.{Bad, NoMemory}
use Rattle.gv_expr.specs.declared.fault.ExprKind.{ExprKind}
use Rattle.gv_expr.specs.TokenFaults.{required_use, first_fault}
use Rattle.gv_expr.specs.Token.{tokens_of}
use Rattle.gv_expr.proofs.Bools.{none_or_some, some_is}
use Rattle.gv_expr.proofs.ReqReadAgain.{read_again}
use Rattle.gv_expr.proofs.ReqFaults.{no_fault, has_no_fault}

-- what a reader found no fault in is that REQUIRED_USE
pub is_of : (bytes : List ℕ) (ts : List Req) → req_tokens (reqs ts) ≡ tokens_of bytes → are_flags (reqs ts) ≡ true → first_fault required_use (tokens_of bytes) ≡ None → IsReqOf bytes ts
is_of bytes ts same good none =
    let h = no_fault (reqs ts) good (ap (first_fault required_use) same ∙ none) in
    record { good = h.0; few = h.1; written = same }

pub is_read : (bytes : List ℕ) (ts : List Req) → IsReqOf bytes ts → read_required bytes ≡ Some ts
is_read bytes ts is =
    let none : first_fault required_use (tokens_of bytes) ≡ None = ap (first_fault required_use) (sym is.written) ∙ has_no_fault (reqs ts) is.good is.few in
    let trees : listed (top (req_groups (tokens_of bytes))) ≡ ts = ap (λ x. listed (top (req_groups x))) (sym is.written) ∙ read_again ts is.good in
    rw (none, trees) refl

read_alone : (bytes : List ℕ) (as_ bs : List Req) → IsReqOf bytes as_ → IsReqOf bytes bs → as_ ≡ bs
read_alone bytes as_ bs a b = some_is as_ bs (read_required bytes) (is_read bytes as_ a) (is_read bytes bs b)

never_refused : (bytes : List ℕ) (ts : List Req) (fault : ℕ × ExprKind) → first_fault required_use (tokens_of bytes) ≡ Some fault → IsReqOf bytes ts → ⊥
never_refused bytes ts fault e is = none_or_some fault (first_fault required_use (tokens_of bytes)) (ap (first_fault required_use) (sym is.written) ∙ has_no_fault (reqs ts) is.good is.few) e

-- What is known of a reader's answer.
pub record Reads (bytes : List ℕ) (result : Result (List Req) ExprFault) : Type 0 where
  pub tokens : IfOk result (λ e. req_tokens (reqs e) ≡ tokens_of bytes)
  pub good : IfOk result (λ e. are_flags (reqs e) ≡ true)
  pub none : IfOk result (λ e. first_fault required_use (tokens_of bytes) ≡ None)
  pub bad : IfErr result (FaultIs (first_fault required_use (tokens_of bytes)))

pub reads_of : (bytes : List ℕ) (result : Result (List Req) ExprFault) → Reads bytes result → IfOk result (λ e. IsReqOf bytes e)
reads_of bytes (Ok e) known = is_of bytes e known.tokens known.good known.none
reads_of bytes (Err fault) known = tt

pub reads_same : (bytes : List ℕ) (result : Result (List Req) ExprFault) → Reads bytes result → IfOk result (λ e. read_required bytes ≡ Some e)
reads_same bytes (Ok e) known = is_read bytes e (is_of bytes e known.tokens known.good known.none)
reads_same bytes (Err fault) known = tt

pub reads_again : (bytes : List ℕ) (result : Result (List Req) ExprFault) → Reads bytes result → (ts : List Req) → IsReqOf bytes ts → GivesReq result ts
reads_again bytes (Ok e) known ts is = read_alone bytes e ts (is_of bytes e known.tokens known.good known.none) is
reads_again bytes (Err (Bad token kind)) known ts is = never_refused bytes ts (token, kind) known.bad is
reads_again bytes (Err NoMemory) known ts is = tt
