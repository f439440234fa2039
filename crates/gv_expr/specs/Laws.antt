-- What a reader may rely on of the definitions of expressions; over all texts and trees.
use Rattle.std.specs.Prelude.{ℕ, List}
use Rattle.gv_expr.specs.Dep.{Dep}
use Rattle.gv_expr.specs.DepGrammar.{IsDepOf}
use Rattle.gv_expr.specs.Required.{Req}
use Rattle.gv_expr.specs.RequiredGrammar.{IsReqOf}

-- the bytes are some dependency within the limits, or some REQUIRED_USE
abbrev pub IsDep : List ℕ → Type 0
IsDep bytes = (ts : List Dep) × IsDepOf bytes ts

abbrev pub IsReq : List ℕ → Type 0
IsReq bytes = (ts : List Req) × IsReqOf bytes ts
