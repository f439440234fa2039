use Rattle.gv_edits.proofs.Commands.{whole_script}
use Rattle.gv_edits.proofs.script.ScriptReader.new.Goals as goal

pub returns-clause-whole : goal.returns-clause-whole
returns-clause-whole c = λ left. whole_script c.in_ok-pending.pending left c.in_ok-pending.ensures
