use Rattle.std.proofs.Common.{subst, sym}
use Rattle.gv_profile.specs.declared.desc.DescRead.{DescRead}
use Rattle.gv_load.specs.OwnLines.{AreNumbered}
use Rattle.gv_load.proofs.OwnLinesLaw.{are_numbered}
use Rattle.gv_load.proofs.lists.lists_with.Goals as goal

pub returns-clause-lines : goal.returns-clause-lines
returns-clause-lines c = subst (λ (r : DescRead). AreNumbered r.lines) (sym c.in_ok-lines.ensures) (are_numbered c.bytes.result.now)
