use Rattle.std.proofs.Common.{rules, ◌≡◌, ◌∙◌, List, [], ◌∷◌, ◌++◌, sym, ap}
use Rattle.std.specs.FinMap.{get}
use Rattle.std.proofs.lemmas.List.{append-nil}
use Rattle.gv_profile.specs.declared.frames.Frame.{Frame}
use Rattle.gv_profile.specs.declared.frames.Walk.{Walk}
use Rattle.gv_profile.specs.Frames.{left_below}
use Rattle.gv_profile.specs.Walking.{stack_of}
use Rattle.gv_profile.proofs.Walks.{taken_off}
use Rattle.gv_profile.proofs.walking.finish.Goals as goal

pub loop-frame-preserved : goal.loop-frame-preserved
loop-frame-preserved c =
    let w = c.loop-frame.walk in
    let old : Walk = record w { frames = c.pop.new.self } in
    let is : w.frames ≡ c.pop.new.self ++ c.in-Some.frame ∷ [] = search rules in
    let meets = taken_off (get c.args.dirs.now) w old c.in-Some.frame is in
    let leads = c.in-Ok.ensures.leads in
    let fault = rw meets at c.loop-frame.invariant.fault in
    let state = rw meets at c.loop-frame.invariant.state in
    record {
      fault = fault ∙ leads.fault;
      state = state ∙ leads.state;
      room = leads.room;
    }

pub returns-in-Err-clause-fault : goal.returns-in-Err-clause-fault
returns-in-Err-clause-fault c =
    let w = c.loop-frame.walk in
    let old : Walk = record w { frames = c.pop.new.self } in
    let is : w.frames ≡ c.pop.new.self ++ c.in-Some.frame ∷ [] = search rules in
    let meets = taken_off (get c.args.dirs.now) w old c.in-Some.frame is in
    rw (c.loop-frame.invariant.fault, meets) c.in-Err.ensures.fault

pub loop-frame-smaller : goal.loop-frame-smaller
loop-frame-smaller c =
    let w = c.loop-frame.walk in
    let old : Walk = record w { frames = c.pop.new.self } in
    let is : w.frames ≡ c.pop.new.self ++ c.in-Some.frame ∷ [] = search rules in
    let meets = taken_off (get c.args.dirs.now) w old c.in-Some.frame is in
    rw meets c.in-Ok.ensures.leads.less

pub returns-clause-state : goal.returns-clause-state
returns-clause-state c =
    let w = c.loop-frame.walk in
    let none : w.frames ≡ [] = search rules in
    sym (c.loop-frame.invariant.state ∙ ap (λ (fs : List Frame). w.done ++ stack_of (left_below (get c.args.dirs.now) [] fs)) none ∙ append-nil w.done)
