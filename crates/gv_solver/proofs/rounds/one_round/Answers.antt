use Rattle.std.proofs.Common.{◌≡◌, ◌<◌, ◌-◌, ◌∙◌, sym, ap, arith, length}
use Rattle.gv_logic.specs.Partial.{Has}
use Rattle.gv_trail.specs.Entries.{assignment}
use Rattle.gv_solver.proofs.Late.{late_of}
use Rattle.gv_solver.proofs.Lessons.{not_zero}
use Rattle.gv_solver.proofs.Points.{at_zero}
use Rattle.gv_solver.proofs.Retreat.{last_has, has_few, opened, open_step, open_set, same_ready, search_more}
use Rattle.gv_solver.proofs.rounds.one_round.Goals as goal

pub point_of-requires-clause-late : goal.point_of-requires-clause-late
point_of-requires-clause-late c = λ some. late_of c.args.work.now.clauses.clauses c.descend.new.trail c.in-Conflict.clause (c.in-Conflict.ensures.began some) c.in-Conflict.ensures.arrives

pub retreat-requires-clause-decided : goal.retreat-requires-clause-decided
retreat-requires-clause-decided c =
    let set = c.in_ok-set-in-Conflict.set.items in
    let full = not_zero c.in_ok-set-in-Conflict.set.len (sym c.is_empty.ensures ∙ c.if-is_empty.false) in
    let some : 0 < length c.in_ok-set-in-Conflict.set.items = omega (arith, full, c.in_ok-set-in-Conflict.set.ok.0) in
    let long : c.len.result ≡ length c.in_ok-set-in-Conflict.set.items = omega (arith, c.len.ensures, c.in_ok-set-in-Conflict.set.ok.0) in
    let has : Has c.index-last.result.now c.in_ok-set-in-Conflict.set.items = last_has set c.len.result c.index-last.result.now some long (at_zero set (c.len.result - 1) c.index-last.result.now (omega (arith, some, long)) c.index-last.ensures) in
    c.in_ok-set-in-Conflict.ensures.decided c.index-last.result.now has

pub keep-requires-clause-open : goal.keep-requires-clause-open
keep-requires-clause-open c =
    let below = c.retreat.ensures.back.below in
    opened c.args.work.now.clauses.clauses c.index-last.result.now c.descend.new.trail c.retreat.new.trail (c.in-Conflict.ensures.began (omega (arith, below))) c.retreat.ensures.back
    (same_ready c.args.work.now.clauses c.args.inputs c.descend.new.trail c.retreat.new.trail c.descend.ensures.ready c.retreat.ensures.ready)

pub keep-requires-clause-open_point : goal.keep-requires-clause-open_point
keep-requires-clause-open_point c =
    open_step c.args.work.now.clauses.clauses c.index-last.result.now c.descend.new.trail c.retreat.new.trail c.in_ok-point-in-Conflict.point c.in_ok-point-in-Conflict.ensures.one c.retreat.ensures.back
    (same_ready c.args.work.now.clauses c.args.inputs c.descend.new.trail c.retreat.new.trail c.descend.ensures.ready c.retreat.ensures.ready)

pub keep-requires-clause-open_set : goal.keep-requires-clause-open_set
keep-requires-clause-open_set c =
    let set = c.in_ok-set-in-Conflict.set.items in
    let full = not_zero c.in_ok-set-in-Conflict.set.len (sym c.is_empty.ensures ∙ c.if-is_empty.false) in
    let some : 0 < length c.in_ok-set-in-Conflict.set.items = omega (arith, full, c.in_ok-set-in-Conflict.set.ok.0) in
    let long : c.len.result ≡ length c.in_ok-set-in-Conflict.set.items = omega (arith, c.len.ensures, c.in_ok-set-in-Conflict.set.ok.0) in
    let has : Has c.index-last.result.now c.in_ok-set-in-Conflict.set.items = last_has set c.len.result c.index-last.result.now some long (at_zero set (c.len.result - 1) c.index-last.result.now (omega (arith, some, long)) c.index-last.ensures) in
    open_set (assignment c.retreat.new.trail) set c.index-last.result.now has c.retreat.ensures.back.free

pub returns-in_ok-keep-in-Conflict-clause-resumes : goal.returns-in_ok-keep-in-Conflict-clause-resumes
returns-in_ok-keep-in-Conflict-clause-resumes c =
    let set = c.in_ok-set-in-Conflict.set.items in
    let full = not_zero c.in_ok-set-in-Conflict.set.len (sym c.is_empty.ensures ∙ c.if-is_empty.false) in
    let some : 0 < length c.in_ok-set-in-Conflict.set.items = omega (arith, full, c.in_ok-set-in-Conflict.set.ok.0) in
    let long : c.len.result ≡ length c.in_ok-set-in-Conflict.set.items = omega (arith, c.len.ensures, c.in_ok-set-in-Conflict.set.ok.0) in
    let has : Has c.index-last.result.now c.in_ok-set-in-Conflict.set.items = last_has set c.len.result c.index-last.result.now some long (at_zero set (c.len.result - 1) c.index-last.result.now (omega (arith, some, long)) c.index-last.ensures) in
    let few = has_few c.args.inputs set c.index-last.result.now c.in_ok-set-in-Conflict.ensures.found.rising has in (
      omega (arith, few),
      record {
        search = search_more c.args.work.now.clauses c.keep.new.self.clauses.clauses c.index-last.result.now c.retreat.new.trail c.keep.new.trail c.retreat.ensures.ready.over c.retreat.ensures.back.search
            c.in_ok-keep-in-Conflict.ensures.stays c.in_ok-keep-in-Conflict.ensures.open;
        open_ = λ _. c.in_ok-keep-in-Conflict.ensures.open;
      },
    )

pub returns-in_ok-keep-in-Conflict-clause-round : goal.returns-in_ok-keep-in-Conflict-clause-round
returns-in_ok-keep-in-Conflict-clause-round c = λ f w.
    let same = ap length c.items.ensures in
    record { more = c.in_ok-keep-in-Conflict.ensures.keeps f w; room = omega (arith, c.if-items-budget.false, same) }
