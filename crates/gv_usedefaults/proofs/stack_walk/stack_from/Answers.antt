use Rattle.std.proofs.Common.{◌≡◌, true, refl}
use Rattle.gv_usedefaults.specs.declared.stack_walk.Going.{Going}
use Rattle.gv_usedefaults.specs.Stacks.{is_long, parents_in, stack_from}
use Rattle.gv_usedefaults.proofs.GoingLemmas.{begun, popped, stopped, turned}
use Rattle.gv_usedefaults.proofs.stack_walk.stack_from.Goals as goal

pub loop-turns-init : goal.loop-turns-init
loop-turns-init c =
    begun (parents_in c.args.files.now) (stack_from c.args.files.now c.args.dir) c.in_ok-going.going c.args.dir
    c.in_ok-going.ensures.stack c.in_ok-going.ensures.ahead c.in_ok-going.ensures.visits c.in_ok-going.ensures.way refl

pub loop-turns-preserved : goal.loop-turns-preserved
loop-turns-preserved c =
    let rest : Going = record { stack = c.loop-turns.going.stack; ahead = c.pop.new.self; way = c.loop-turns.going.way; visits = c.loop-turns.going.visits } in
    turned (parents_in c.args.files.now) (stack_from c.args.files.now c.args.dir) c.loop-turns.going rest c.in-Some-2.on c.in-Some.next c.in_ok-on.field-0 c.in-Some-2.is refl refl (λ text. refl)
    (popped c.loop-turns.going.ahead.items c.pop.new.self.items c.in-Some.next c.in-Some.ensures.items)
    (c.in_ok-on.ensures.on (stack_from c.args.files.now c.args.dir)) c.loop-turns.invariant

pub returns-in-None : goal.returns-in-None
returns-in-None c =
    let rest : Going = record { stack = c.loop-turns.going.stack; ahead = c.pop.new.self; way = c.loop-turns.going.way; visits = c.loop-turns.going.visits } in
    let long : is_long (stack_from c.args.files.now c.args.dir) ≡ true =
    stopped (parents_in c.args.files.now) (stack_from c.args.files.now c.args.dir) c.loop-turns.going rest c.in-Some.next c.in_ok-on.field-0 c.in-None.is refl refl (λ text. refl)
    (popped c.loop-turns.going.ahead.items c.pop.new.self.items c.in-Some.next c.in-Some.ensures.items)
    (c.in_ok-on.ensures.on (stack_from c.args.files.now c.args.dir)) c.loop-turns.invariant in
    rw long refl
