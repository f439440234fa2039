-- The least bits of a query's flags, among all assignments of all flags.
use Rattle.std.proofs.Common.{List, Option, Some, None}
use Rattle.std.specs.Option.{MatchOption}
use Rattle.gv_expr.specs.Dep.{Dep}
use Rattle.gv_expr.specs.Required.{Req}
use Rattle.gv_entry.specs.Allowed.{Parent}
use Rattle.gv_entry.specs.Laws.{LeastAllowedLaw, LeastFailingLaw}
use Rattle.gv_checks.specs.Asked.{IsLeastAsked, NoneAsked, least_asked}

pub least_of_all : ((c : Parent) (required : List Req) → LeastAllowedLaw c required) → ((c : Parent) (required : List Req) (class : List Dep) → LeastFailingLaw c required class)
    → (c : Parent) (required : List Req) (class : Option (List Dep)) → MatchOption (least_asked c required class) (NoneAsked c required class) (IsLeastAsked c required class)
least_of_all allowed failing c required None = (allowed c required).found
least_of_all allowed failing c required (Some class) = (failing c required class).found
