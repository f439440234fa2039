use Rattle.gv_checks.proofs.AllLemmas.{lowered_few, solved_few}
use Rattle.gv_checks.proofs.laws.walk_law.Goals as goal

pub returns-clause-lowered : goal.returns-clause-lowered
returns-clause-lowered c = λ budget given qs before now a are. lowered_few budget given qs before now a are

pub returns-clause-solved : goal.returns-clause-solved
returns-clause-solved c = λ budget given qs before now a are. solved_few budget given qs before now a are
