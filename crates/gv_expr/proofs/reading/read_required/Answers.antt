use Rattle.gv_expr.proofs.ReqLaw.{reads_of, reads_same, reads_again}
use Rattle.gv_expr.proofs.reading.read_required.Goals as goal

pub returns-clause-required : goal.returns-clause-required
returns-clause-required c = reads_of c.args.bytes.now c.read_tokens.result
    record { tokens = c.read_tokens.ensures.tokens; good = c.read_tokens.ensures.good; none = c.read_tokens.ensures.none; bad = c.read_tokens.ensures.bad }

pub returns-clause-read : goal.returns-clause-read
returns-clause-read c = reads_same c.args.bytes.now c.read_tokens.result
    record { tokens = c.read_tokens.ensures.tokens; good = c.read_tokens.ensures.good; none = c.read_tokens.ensures.none; bad = c.read_tokens.ensures.bad }

pub returns-clause-again : goal.returns-clause-again
returns-clause-again c ts is = reads_again c.args.bytes.now c.read_tokens.result
    record { tokens = c.read_tokens.ensures.tokens; good = c.read_tokens.ensures.good; none = c.read_tokens.ensures.none; bad = c.read_tokens.ensures.bad } ts is
