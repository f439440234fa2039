use Rattle.std.proofs.Common.{rules}
use Rattle.gv_renew.proofs.MarkLemmas.{same_here}
use Rattle.gv_renew.proofs.TouchedLemmas.{so_far_next}
use Rattle.gv_renew.proofs.touched.touched_among.Goals as goal

pub of-requires-clause-names : goal.of-requires-clause-names
of-requires-clause-names c = same_here c.args.bodies.now c.args.mentioned.now c.loop-i.i c.index-mentioned-i.result c.index-bodies-i.result c.requires.mentioned (search rules) c.index-mentioned-i.is c.index-bodies-i.is

pub loop-i-preserved : goal.loop-i-preserved
loop-i-preserved c = rw c.in_ok-push.ensures.items (so_far_next c.args.edits.now c.args.pkgs.now c.args.bodies.now c.loop-i.touched.items c.loop-i.i c.in-Ok.number c.index-pkgs-i.result c.index-bodies-i.result c.of.result
    c.loop-i-test.true (search rules) c.index-pkgs-i.is c.index-bodies-i.is c.in-Ok.ensures.1 c.of.ensures c.loop-i.invariant)
