use Rattle.std.proofs.Common.{arith, ◌∙◌}
use Rattle.gv_ending.proofs.Joined.{all_joined, joins_more, one_fails}
use Rattle.gv_ending.proofs.fetching.fetch_joined.Goals as goal

pub returns-in-Err-clause-cause : goal.returns-in-Err-clause-cause
returns-in-Err-clause-cause g c =
    one_fails c.args.paths.now c.loop-path.path-index c.path-item.result c.loop-path-test.true c.path-item.is (g.K.Store.faults c.args.store.now) (g.K.Store.faults c.loop-path.store)
    (g.K.Store.faults c.fetch_known.new.store) c.loop-path.invariant.calm c.in-Err.refusal c.in-Err.ensures.cause

pub returns-clause-known : goal.returns-clause-known
returns-clause-known g c =
    all_joined (g.K.Store.files c.args.store.now) c.args.paths.now c.loop-path.path-index c.loop-path.joined (omega (arith, c.loop-path-test.false)) c.loop-path.invariant.joins

pub loop-path-preserved : goal.loop-path-preserved
loop-path-preserved g c = record {
  joins = joins_more (g.K.Store.files c.args.store.now) (g.K.Store.files c.loop-path.store) c.args.paths.now c.loop-path.path-index c.path-item.result c.loop-path-test.true c.path-item.is c.loop-path.invariant.files
      c.loop-path.joined c.in-Ok.known c.append.new.self c.in-Ok.ensures.known c.in_ok-append.ensures c.loop-path.invariant.joins;
  files = c.fetch_known.ensures.files ∙ c.loop-path.invariant.files;
  calm = c.in-Ok.ensures.calm ∙ c.loop-path.invariant.calm;
}
