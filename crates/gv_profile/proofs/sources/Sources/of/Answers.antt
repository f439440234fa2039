use Rattle.gv_profile.proofs.SourceLemmas.{nothing_kept}
use Rattle.gv_profile.proofs.sources.Sources.of.Goals as goal

pub invariant_of-result : goal.invariant_of-result
invariant_of-result c = rw c.new.ensures.empty (nothing_kept c.args.dirs.now c.args.first.now)
