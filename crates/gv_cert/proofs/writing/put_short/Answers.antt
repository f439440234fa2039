use Rattle.std.proofs.Common.{◌+◌, ◌%◌, refl, arith}
use Rattle.std.proofs.lemmas.Result.{on_ok_weaker}
use Rattle.gv_cert.proofs.Shorts.{rests_first, rests_last, rests_next}
use Rattle.gv_cert.proofs.writing.put_short.Goals as goal

pub loop-rest-init : goal.loop-rest-init
loop-rest-init c = rests_first c.args.bytes.now c.args.n c.args.bytes.now c.args.n refl refl c.requires

pub loop-rest-preserved : goal.loop-rest-preserved
loop-rest-preserved c =
    rests_next c.args.bytes.now c.args.n c.loop-rest.bytes c.loop-rest.rest (128 + c.loop-rest.rest % 128) c.append.new.self c.loop-rest.invariant (omega (arith, c.loop-rest-test.true)) refl
    c.in_ok-append.ensures.ok

pub returns : goal.returns
returns c =
    on_ok_weaker c.append-2.result
    (rests_last c.args.bytes.now c.args.n c.loop-rest.bytes c.loop-rest.rest c.append-2.new.self c.loop-rest.invariant c.loop-rest-test.false)
    c.append-2.ensures.ok
