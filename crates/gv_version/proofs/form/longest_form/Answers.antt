use Rattle.std.proofs.Common.{◌≡◌, ◌<◌, length, take, ◌+◌, arith, ap, sym, ◌∙◌}
use Rattle.gv_version.specs.FormReading.{run, is_whole}
use Rattle.gv_version.specs.declared.form.State.TheVariants.{Start}
use Rattle.gv_version.proofs.LongestForm.{state_more, longest_yes, longest_no, longest_over}
use Rattle.gv_version.proofs.form.longest_form.Goals as goal
use Rattle.gv_version.proofs.form.longest_form.Goals.{then-is_whole, else-is_whole}

pub returns-in-Nothing-clause-longest : goal.returns-in-Nothing-clause-longest
returns-in-Nothing-clause-longest c =
    let lt : c.loop-i.i < length c.args.bytes.now = omega arith in
    let state : c.next-state.result ≡ run Start (take (c.loop-i.i + 1) c.args.bytes.now) = state_more c.args.bytes.now c.loop-i.i 0 c.loop-i.state c.next-state.result lt c.loop-i.invariant.state c.next-state.ensures in
    c.loop-i.invariant.longest ∙ longest_over c.args.bytes.now c.loop-i.i lt (sym state ∙ c.in-Nothing.is)

pub loop-i-preserved : goal.loop-i-preserved
loop-i-preserved c =
    let lt : c.loop-i.i < length c.args.bytes.now = omega arith in
    let state : c.next-state.result ≡ run Start (take (c.loop-i.i + 1) c.args.bytes.now) = state_more c.args.bytes.now c.loop-i.i 0 c.loop-i.state c.next-state.result lt c.loop-i.invariant.state c.next-state.ensures in
    let whole = sym c.is_whole.ensures in
    elim c.if-is_whole.branch [
      | then-is_whole w ↦ record {
        state = state;
        longest = w.longest-is ∙ sym (longest_yes c.args.bytes.now c.loop-i.i (ap is_whole (sym state) ∙ whole ∙ w.if-is_whole.true));
        within = omega arith;
      }
      | else-is_whole w ↦ record {
        state = state;
        longest = w.longest-is ∙ c.loop-i.invariant.longest ∙ sym (longest_no c.args.bytes.now c.loop-i.i (ap is_whole (sym state) ∙ whole ∙ w.if-is_whole.false));
        within = omega arith;
      }
    ]
