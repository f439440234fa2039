use Rattle.std.proofs.Common.{subst}
use Rattle.gv_expr.specs.Fault.{FaultIs}
use Rattle.gv_expr.specs.Token.{tokens_of}
use Rattle.gv_expr.specs.TokenFaults.{first_fault, required_use}
use Rattle.gv_entry.proofs.ClassFaults.{required_broken, required_whole}
use Rattle.gv_entry.proofs.entry_read.required_in.Goals as goal

pub returns-in-Ok-clause-errors : goal.returns-in-Ok-clause-errors
returns-in-Ok-clause-errors c =
    required_whole c.args.eapi c.args.text.now c.of_class.result.now c.args.errors.now c.in-Ok.required c.of_class.ensures c.in-Ok.ensures.read

pub returns-in_ok-note_token-in-Err-Bad-clause-errors : goal.returns-in_ok-note_token-in-Err-Bad-clause-errors
returns-in_ok-note_token-in-Err-Bad-clause-errors c =
    required_broken c.args.eapi c.args.text.now c.of_class.result.now c.args.errors.now c.note_token.new.errors c.in-Err-Bad.token c.in-Err-Bad.kind c.of_class.ensures
    (subst (FaultIs (first_fault required_use (tokens_of c.of_class.result.now))) c.in-Err-Bad.field-0-is c.in-Err-Bad.ensures.bad) c.in_ok-note_token-in-Err-Bad.ensures
