use Rattle.std.proofs.Common.{refl}
use Rattle.gv_expr.specs.Dep.{deps}
use Rattle.gv_expr.specs.DepGrammar.{dep_text}
use Rattle.gv_expr.proofs.DepFound.{read_both, fault_both}
use Rattle.gv_expr.proofs.TokensAgain.{dep_again}
use Rattle.gv_expr.proofs.laws.dep_law.Goals as goal

pub returns-clause-read : goal.returns-clause-read
returns-clause-read c = read_both c.atom_law.ensures.read c.atom_law.ensures.written

pub returns-clause-faults : goal.returns-clause-faults
returns-clause-faults c = fault_both c.atom_law.ensures.read c.atom_law.ensures.written

pub returns-clause-again : goal.returns-clause-again
returns-clause-again c bytes ts is = dep_again ts (dep_text (deps ts)) refl bytes is
