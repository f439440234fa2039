use Rattle.std.proofs.Common.{◌≡◌, ◌∷◌, [], ◌+◌, ℕ, drop, length, List, ◌≤◌, refl, sym, ap, subst, ◌∙◌, arith}
use Rattle.gv_base.specs.Order.{has_text}
use Rattle.gv_load.specs.Directories.{dir_at, steps_of}
use Rattle.gv_load.specs.Going.{HasGone}
use Rattle.gv_load.specs.Reaches.{asked_line, keeps_nothing, line_refused}
use Rattle.gv_load.specs.Reaching.{from_line, reached_by}
use Rattle.gv_load.specs.SameStacks.{same_stacks}
use Rattle.gv_load.proofs.Closing.{closed_end, closed_nothing}
use Rattle.gv_load.proofs.Going.{closed_all, stopped_here}
use Rattle.gv_load.proofs.reaching.read_dirs.Goals as goal
use Rattle.gv_profile.specs.Walking.{line_dir}
use Rattle.gv_reading.specs.Causes.{IsTold, Knows, View, look_in, view}
use Rattle.gv_reading.specs.Passing.{all_gone, faulted, next_item}
use Rattle.gv_reading.specs.Reading.{passed}

pub loop-line-init : goal.loop-line-init
loop-line-init g c =
    let look = look_in (g.T.Tree.files c.args.tree.now) in
    record {
      same = refl;
      knows = c.requires.knows;
      indexed = λ text. ap (λ keys. has_text keys text) c.new-2.ensures.empty ∙ sym (ap (λ order. has_text order text) c.new.ensures);
      order = λ t. rw c.new.ensures refl;
      passed = λ t. rw c.new.ensures refl;
      dirs = λ t. keeps_nothing look (record { order = c.new.result; set = c.new-2.result; dirs = c.new-3.result }) c.new.ensures c.new-3.ensures;
      closed = λ t. closed_all (dir_at look) _ (closed_nothing (dir_at look) _ c.new.ensures);
    }

pub loop-line-preserved : goal.loop-line-preserved
loop-line-preserved g c =
    let see = view g.T.Tree.files g.T.Tree.faults g.T.Tree.entered g.T.Tree.lent in
    let dirs = dir_at (look_in (g.T.Tree.files c.args.tree.now)) in
    let inv = c.loop-line.invariant in
    let old = c.loop-line.reached in
    let new = c.in_ok-reached.reached in
    let lines = c.args.lines.now in
    let i = c.loop-line.line-index in
    let line = c.line-item.result in
    let next : drop i lines ≡ line ∷ drop (i + 1) lines = rw c.items-line-items.ensures at (next_item c.items-line-items.result.now i line (omega arith) c.line-item.is) in
    let more = subst (λ (v : View). HasGone v (see c.read_line.new.tree) old c.loop-line.reader c.read_line.new.reader [] (λ ds. from_line ds old.order (line_dir line)) [] new) inv.same c.in_ok-reached.ensures in
    record {
      same = c.in_ok-reached.ensures.same ∙ inv.same;
      knows = more.knows;
      indexed = more.indexed;
      order = λ t. ap (λ order. reached_by dirs order (drop (i + 1) lines)) (more.value t).ends ∙ sym (ap (reached_by dirs old.order) next) ∙ inv.order t;
      passed = λ t. more.passed c.args.reader.now t (inv.passed t);
      dirs = λ t. more.dirs t (inv.dirs t);
      closed = λ t. (more.value t).closed (inv.closed t);
    }

pub returns-in_err-reached : goal.returns-in_err-reached
returns-in_err-reached g c =
    let inv = c.loop-line.invariant in
    let old = c.loop-line.reached in
    let lines = c.args.lines.now in
    let i = c.loop-line.line-index in
    let line = c.line-item.result in
    let next : drop i lines ≡ line ∷ drop (i + 1) lines = rw c.items-line-items.ensures at (next_item c.items-line-items.result.now i line (omega arith) c.line-item.is) in
    let told = g.T.Tree.files c.args.tree.now in
    let more = stopped_here inv.same c.in_err-reached.ensures in
    rw (faulted c.from_residual.result c.from_residual.ensures.1) (record {
      told = more.told;
      around = more.around;
      later = more.later;
      cause = line_refused told told refl _ _ _ refl c.args.reader.now old.order lines (drop i lines) (drop (i + 1) lines) line _ next inv.order (more.cause c.args.reader.now inv.passed);
      asked = asked_line told c.args.reader.now old.order lines (drop i lines) (drop (i + 1) lines) line _ next inv.order (more.asked c.args.reader.now inv.passed);
      here = more.here;
    })

pub returns : goal.returns
returns g c =
    let inv = c.loop-line.invariant in
    let lines = c.args.lines.now in
    let look = look_in (g.T.Tree.files c.args.tree.now) in
    let past : length c.items-line-items.result.now ≤ c.loop-line.line-index = omega arith in
    let gone : drop c.loop-line.line-index lines ≡ [] = all_gone c.items-line-items.result.now lines c.loop-line.line-index c.items-line-items.ensures past in
    let order = λ (t : IsTold (g.T.Tree.files c.args.tree.now)). sym (ap (reached_by (dir_at look) c.loop-line.reached.order) gone) ∙ inv.order t in
    record {
      same = inv.same;
      knows = inv.knows;
      passed = λ t. ap (λ (ds : List (List ℕ)). passed look c.args.reader.now (steps_of look ds)) (sym (order t)) ∙ inv.passed t;
      value = λ t. record {
        order = order t;
        dirs = inv.dirs t;
        stacks = same_stacks look c.loop-line.reached lines (inv.dirs t) (closed_end (dir_at look) c.loop-line.reached.order [] refl (inv.closed t)) (order t);
      };
    }
