use Rattle.std.proofs.Common.{◌≡◌, true, false, rules, sym, ◌∙◌}
use Rattle.gv_base.specs.Order.{has_text}
use Rattle.gv_usedefaults.proofs.LineTurning.{ended_as, entered, entered_steps, stayed}
use Rattle.gv_reading.specs.Passing.{read_as}
use Rattle.gv_usedefaults.proofs.line_walk.turn.Goals as goal

pub returns-then-has_key-clause-reads : goal.returns-then-has_key-clause-reads
returns-then-has_key-clause-reads g c =
    let in_set : has_text c.args.turning.set.keys c.args.dir ≡ true = search rules in
    stayed c.args.turning c.args.dir c.requires.knows (sym (c.requires.indexed c.args.dir) ∙ in_set)

pub returns-in-Ok-clause-reads : goal.returns-in-Ok-clause-reads
returns-in-Ok-clause-reads g c =
    let in_set : has_text c.args.turning.set.keys c.args.dir ≡ false = search rules in
    let new : has_text c.args.turning.order c.args.dir ≡ false = sym (c.requires.indexed c.args.dir) ∙ in_set in
    read_as c.in-Ok.ensures.reads (λ look is. entered_steps look c.args.turning.order c.args.dir new) (λ look is. entered look c.args.turning c.in-Ok.turning c.args.dir new c.in-Ok.ensures.order is)

pub returns-in-Err-clause-reads : goal.returns-in-Err-clause-reads
returns-in-Err-clause-reads g c =
    let in_set : has_text c.args.turning.set.keys c.args.dir ≡ false = search rules in
    let new : has_text c.args.turning.order c.args.dir ≡ false = sym (c.requires.indexed c.args.dir) ∙ in_set in
    ended_as c.in-Err.ensures.reads (λ look. entered_steps look c.args.turning.order c.args.dir new)
