use Rattle.gv_merge.proofs.LeftLemmas.{may_merge}
use Rattle.gv_merge.proofs.laws.merged_law.Goals as goal

pub returns : goal.returns
returns c = λ parts o r given some left. may_merge c.certs_law.ensures.have c.certs_law.ensures.backed parts o r given some left
