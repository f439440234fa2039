use Rattle.std.proofs.Common.{◌≡◌, ◌≤◌, ◌<◌, false, arith, sym, ◌∙◌}
use Rattle.gv_base.specs.Order.{has_text}
use Rattle.gv_profile.specs.Walking.{most_visits}
use Rattle.gv_usedefaults.specs.Going.{ahead_of, way_of}
use Rattle.gv_usedefaults.specs.Stacks.{parents_in}
use Rattle.gv_usedefaults.proofs.GoingLemmas.{came, pushed, too_many}
use Rattle.gv_usedefaults.proofs.stack_walk.come.Goals as goal

pub returns-then-going-ge-MAX_VISITS : goal.returns-then-going-ge-MAX_VISITS
returns-then-going-ge-MAX_VISITS c = record {
  on = λ whole going.
      let over : most_visits ≤ c.args.going.visits = omega (arith, c.if-going-ge-MAX_VISITS.true) in
      too_many (parents_in c.args.files.now) whole c.args.going c.args.dir (ahead_of c.args.going) going
      (sym (going.way c.args.dir) ∙ sym c.has_key.ensures ∙ c.if-has_key.false) over;
}

pub returns : goal.returns
returns c = record {
  on = λ whole going.
      let low : c.args.going.visits < most_visits = omega (arith, c.if-going-ge-MAX_VISITS.false) in
      came (parents_in c.args.files.now) whole c.args.going c.in_ok-enter.field-0 c.args.dir (ahead_of c.args.going) going
      (sym (going.way c.args.dir) ∙ sym c.has_key.ensures ∙ c.if-has_key.false) low
      c.in_ok-enter.ensures.stack c.in_ok-enter.ensures.visits c.in_ok-enter.ensures.way
      (pushed c.args.going.ahead.items c.in_ok-enter.field-0.ahead.items c.args.dir (parents_in c.args.files.now c.args.dir) c.in_ok-enter.ensures.ahead);
}
