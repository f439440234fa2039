use Rattle.std.proofs.Common.{ap, ◌∙◌}
use Rattle.std.specs.FinMap.{insert}
use Rattle.gv_profile.proofs.dirs.Dirs.put.Goals as goal

pub returns-clause-ok : goal.returns-clause-ok
returns-clause-ok c = c.in_ok-put_at.ensures.ok ∙ ap (λ m. insert m c.args.dir.now c.args.files) c.self.view_is
