-- What a reader of expressions answers.
use Rattle.std.specs.Prelude.{◌≡◌, ℕ, List, Option, Some, Result, Ok, Err}
use Rattle.gv_expr.specs.declared.fault.ExprFault.{ExprFault}
use Rattle.gv_expr.specs.declared.fault.ExprFault.TheVariants.{Bad, NoMemory}
use Rattle.gv_expr.specs.declared.fault.ExprKind.{ExprKind}
use Rattle.gv_expr.specs.Dep.{Dep}
use Rattle.gv_expr.specs.Required.{Req}

-- the fault is the defined one; want of memory says nothing
abbrev pub FaultIs : Option (ℕ × ExprKind) → ExprFault → Type 0
FaultIs defined (Bad token kind) = defined ≡ Some (token, kind)
FaultIs defined NoMemory = Unit {0}

-- this dependency was read, or memory ran out
abbrev pub GivesDep : Result (List Dep) ExprFault → List Dep → Type 0
GivesDep (Ok read) ts = read ≡ ts
GivesDep (Err (Bad token kind)) ts = ⊥
GivesDep (Err NoMemory) ts = Unit {0}

-- the same of a REQUIRED_USE
abbrev pub GivesReq : Result (List Req) ExprFault → List Req → Type 0
GivesReq (Ok read) ts = read ≡ ts
GivesReq (Err (Bad token kind)) ts = ⊥
GivesReq (Err NoMemory) ts = Unit {0}
