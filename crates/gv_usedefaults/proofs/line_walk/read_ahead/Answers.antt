use Rattle.std.proofs.Common.{◌≡◌, ◌<◌, ◌∷◌, [], ◌++◌, ℕ, ◌-◌, suc, List, refl, sym, ap, ◌∙◌, rules, arith}
use Rattle.std.specs.Prelude.{reverse}
use Rattle.gv_usedefaults.specs.LineTurns.{ahead_of}
use Rattle.gv_usedefaults.specs.declared.line_walk.Turning.{Turning}
use Rattle.gv_usedefaults.proofs.LineTurning.{amid_by, left_ends, left_files, left_steps, no_files, no_more, no_steps, popped_ahead, some_steps, steps_behind}
use Rattle.gv_reading.specs.Passing.{amid_end, amid_ended, faulted}
use Rattle.gv_usedefaults.proofs.line_walk.read_ahead.Goals as goal

pub returns-in_default : goal.returns-in_default
returns-in_default g c =
    let turns = c.loop-turns.turns in
    let start = c.loop-turns.now in
    let nothing : start.ahead.items ≡ [] = search rules in
    let none : ahead_of start ≡ [] = ap reverse nothing in
    amid_end c.loop-turns.invariant.amid (λ look. no_steps turns start none look) (λ look so_far. (no_files turns start none look _ so_far.0, sym so_far.1 ∙ no_more turns start none look))

pub returns-in_err-now : goal.returns-in_err-now
returns-in_err-now g c =
    let turns = c.loop-turns.turns in
    let start = c.loop-turns.now in
    let before : Turning = record { files = start.files; order = start.order; set = start.set; ahead = c.pop.new.self } in
    let dir = c.in-Some.dir in
    let is : start.ahead.items ≡ c.pop.new.self.items ++ dir ∷ [] = search rules in
    let ahead : ahead_of start ≡ dir ∷ ahead_of before = popped_ahead start.ahead.items c.pop.new.self.items dir is in
    let some : 0 < turns = search rules in
    let count : turns ≡ suc (turns - 1) = omega (arith, some) in
    rw (faulted c.from_residual.result c.from_residual.ensures.1)
    (amid_ended (steps_behind (turns - 1) before dir) c.loop-turns.invariant.amid c.in_err-now.ensures.reads (λ look. some_steps turns (turns - 1) start before before dir count refl refl ahead look))

pub loop-turns-preserved : goal.loop-turns-preserved
loop-turns-preserved g c =
    let turns = c.loop-turns.turns in
    let start = c.loop-turns.now in
    let before : Turning = record { files = start.files; order = start.order; set = start.set; ahead = c.pop.new.self } in
    let after = c.in_ok-now.now in
    let dir = c.in-Some.dir in
    let is : start.ahead.items ≡ c.pop.new.self.items ++ dir ∷ [] = search rules in
    let ahead : ahead_of start ≡ dir ∷ ahead_of before = popped_ahead start.ahead.items c.pop.new.self.items dir is in
    let some : 0 < turns = search rules in
    let count : turns ≡ suc (turns - 1) = omega (arith, some) in
    record {
      amid = amid_by c.loop-turns.invariant.amid c.in_ok-now.ensures.reads (λ look so_far turned. left_steps turns (turns - 1) start before after dir count refl refl ahead look turned)
          (λ look so_far turned. (left_files turns (turns - 1) start before after dir count refl refl ahead look _ turned so_far.0, left_ends turns (turns - 1) start before after dir count refl refl ahead look turned ∙ so_far.1));
      indexed = c.in_ok-now.ensures.indexed;
    }
