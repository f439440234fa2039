use Rattle.std.proofs.Common.{arith}
use Rattle.gv_defaults.proofs.FoldLemmas.{passed}
use Rattle.gv_defaults.proofs.folding.look_back.Goals as goal

pub loop-i-preserved : goal.loop-i-preserved
loop-i-preserved c =
    let before = c.loop-i in
    (omega arith, passed c.args.words.now before.i c.index-words-i.result before.behind c.pass.new.behind (omega arith) before.invariant.0 c.index-words-i.is c.in_ok-pass.ensures.removed c.in_ok-pass.ensures.kept before.invariant.1)
