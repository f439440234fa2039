use Rattle.std.proofs.Common.{◌≤◌, arith, ap, ◌∙◌}
use Rattle.std.proofs.lemmas.List.{take_rest}
use Rattle.std.specs.List.{prefix_len}
use Rattle.gv_version.specs.Bytes.{is_digit}
use Rattle.gv_version.proofs.LongRuns.{short_here}
use Rattle.gv_version.proofs.form.long_run.Goals as goal

pub loop-at-preserved : goal.loop-at-preserved
loop-at-preserved c =
    let short : c.run_length-run.result ≤ 18 = omega arith in
    let run = c.run_length-run.ensures.length ∙ ap (prefix_len is_digit) (take_rest c.args.bytes.now c.loop-at.at) in
    short_here c.args.bytes.now c.loop-at.at c.run_length-run.result run short ∙ c.loop-at.invariant
