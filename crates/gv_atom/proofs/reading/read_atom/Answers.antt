use Rattle.gv_atom.proofs.ReadAgain.{read_is, same_atom, never_refused}
use Rattle.gv_atom.proofs.reading.read_atom.Goals as goal

pub returns-in-Ok-clause-atom : goal.returns-in-Ok-clause-atom
returns-in-Ok-clause-atom c = read_is c.args.bytes.now c.in-Ok.atom c.split_pf_law.ensures c.in-Ok.ensures.read

pub returns-in-Ok-clause-again : goal.returns-in-Ok-clause-again
returns-in-Ok-clause-again c = λ a is. same_atom c.args.bytes.now c.in-Ok.atom a c.split_pf_law.ensures c.in-Ok.ensures.read is

pub returns-in-Err-clause-again : goal.returns-in-Err-clause-again
returns-in-Err-clause-again c = λ a is. never_refused c.args.bytes.now c.in-Err.fault a c.split_pf_law.ensures c.in-Err.ensures.bad is
