use Rattle.std.proofs.Common.{◌≡◌, ◌∷◌, [], ◌++◌, List, length, rules, subst}
use Rattle.gv_load.specs.Ahead.{reached_after}
use Rattle.gv_load.specs.Closed.{paths_left}
use Rattle.gv_load.specs.Going.{HasGone, HasStopped}
use Rattle.gv_load.specs.Reaching.{reach_below}
use Rattle.gv_load.specs.declared.reaching.Ahead.{Ahead}
use Rattle.gv_load.proofs.Going.{gone_then, stopped_then, wants_then}
use Rattle.gv_load.proofs.reaching.read_from.Goals as goal
use Rattle.gv_reading.specs.Causes.{view}

pub loop-init : goal.loop-init
loop-init g c =
    let see = view g.T.Tree.files g.T.Tree.faults g.T.Tree.entered g.T.Tree.lent in
    subst (λ (as_ : List Ahead). HasGone (see c.args.tree.now) (see c.arrive.new.tree) c.args.reached c.args.reader.now c.arrive.new.reader (c.args.dir ∷ paths_left as_) (λ dirs. reached_after dirs 0 as_ (reach_below dirs (length as_) c.args.reached.order c.args.dir)) c.arrive.new.ahead.items c.in-Ok.reached)
    c.new-ahead.ensures.items c.in-Ok.ensures

pub returns-in-Err : goal.returns-in-Err
returns-in-Err g c =
    let see = view g.T.Tree.files g.T.Tree.faults g.T.Tree.entered g.T.Tree.lent in
    subst (λ (as_ : List Ahead). HasStopped (g.T.Tree.failed_at c.arrive.new.tree) (see c.args.tree.now) (see c.arrive.new.tree) c.args.reached c.args.reader.now (λ dirs. reached_after dirs 0 as_ (reach_below dirs (length as_) c.args.reached.order c.args.dir)) c.in-Err.fault)
    c.new-ahead.ensures.items c.in-Err.ensures

pub loop-preserved : goal.loop-preserved
loop-preserved g c =
    let see = view g.T.Tree.files g.T.Tree.faults g.T.Tree.entered g.T.Tree.lent in
    let is : c.loop.ahead.items ≡ c.pop.new.self.items ++ c.in-Some.rest ∷ [] = search rules in
    gone_then (subst (λ (as_ : List Ahead). HasGone (see c.args.tree.now) (see c.loop.tree) c.args.reached c.args.reader.now c.loop.reader (c.args.dir ∷ []) (λ dirs. reach_below dirs 0 c.args.reached.order c.args.dir) as_ c.loop.now) is c.loop.invariant) c.in-Ok-go_on.ensures

pub returns-in-Err-go_on : goal.returns-in-Err-go_on
returns-in-Err-go_on g c =
    let see = view g.T.Tree.files g.T.Tree.faults g.T.Tree.entered g.T.Tree.lent in
    let is : c.loop.ahead.items ≡ c.pop.new.self.items ++ c.in-Some.rest ∷ [] = search rules in
    stopped_then (subst (λ (as_ : List Ahead). HasGone (see c.args.tree.now) (see c.loop.tree) c.args.reached c.args.reader.now c.loop.reader (c.args.dir ∷ []) (λ dirs. reach_below dirs 0 c.args.reached.order c.args.dir) as_ c.loop.now) is c.loop.invariant) c.in-Err-go_on.ensures

pub returns-in_default : goal.returns-in_default
returns-in_default g c =
    let see = view g.T.Tree.files g.T.Tree.faults g.T.Tree.entered g.T.Tree.lent in
    let none : c.loop.ahead.items ≡ [] = search rules in
    subst (λ (as_ : List Ahead). HasGone (see c.args.tree.now) (see c.loop.tree) c.args.reached c.args.reader.now c.loop.reader (c.args.dir ∷ []) (λ dirs. reach_below dirs 0 c.args.reached.order c.args.dir) as_ c.loop.now) none c.loop.invariant

pub returns : goal.returns
returns g c = wants_then c.loop.invariant
