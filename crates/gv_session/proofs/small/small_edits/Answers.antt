use Rattle.std.proofs.Common.{◌+◌, subst, sym, ◌∙◌}
use Rattle.gv_session.specs.Small.{AreUpTo}
use Rattle.gv_session.proofs.SmallLemmas.{one_more}
use Rattle.gv_session.proofs.small.small_edits.Goals as goal

pub loop-place-preserved : goal.loop-place-preserved
loop-place-preserved c = record {
  apart = c.loop-place.invariant.apart;
  up =
      subst (AreUpTo c.args.folders.now c.args.edits.now c.args.seen (c.loop-place.place + 1)) (sym c.in_ok-add.ensures.ok)
      (one_more c.args.folders.now c.args.edits.now c.args.seen c.loop-place.place c.loop-place.entries c.loop-place.invariant.up c.in-Some.path.now (sym c.in-Some.ensures)
      (sym c.in_ok-is_small.ensures ∙ c.if-not-branch.false));
  end = c.loop-place.invariant.end;
}
