use Rattle.gv_run.proofs.Linted.{cut, linted}
use Rattle.gv_run.proofs.linting.lint.Goals as goal

pub returns-in-Ok-clause-performs : goal.returns-in-Ok-clause-performs
returns-in-Ok-clause-performs g c = λ input kept store_faults counts.
    linted input c.args.linting.now _ _ _ _ kept store_faults counts c.made.ensures.files c.made.ensures.later _ _ c.in_ok-text.text c.in_ok-text.ensures.made c.in_ok-text.ensures.calm _ _
    c.write.ensures.later c.in-Ok.ensures.ok c.in-Ok.ensures.calm _ c.has_some.ensures

pub returns-clause-performs : goal.returns-clause-performs
returns-clause-performs g c = λ input kept store_faults counts.
    cut input c.args.linting.now _ _ _ _ kept store_faults counts c.made.ensures.files c.made.ensures.later _ _ c.in_ok-text.text c.in_ok-text.ensures.made c.in_ok-text.ensures.calm _ _
    c.write.ensures.later c.in-Err.ensures.err _ c.in-Err.ensures.cause
