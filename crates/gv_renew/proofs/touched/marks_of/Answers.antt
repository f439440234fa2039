use Rattle.std.proofs.Common.{true, ap, ◌∙◌, rules}
use Rattle.std.specs.Prelude.{slice_set}
use Rattle.gv_renew.proofs.MarkLemmas.{mark_more, marks_end, no_marks}
use Rattle.gv_renew.proofs.touched.marks_of.Goals as goal

pub loop-name-init : goal.loop-name-init
loop-name-init c = no_marks c.args.names.now c.in_ok-marks.marks.items

pub loop-name-preserved : goal.loop-name-preserved
loop-name-preserved c = mark_more c.args.names.now c.loop-name.marks.items c.mark.new.marks.items c.loop-name.name-index c.name-item.result c.loop-name-test.true c.name-item.is
    (c.mark.ensures ∙ ap (λ place. slice_set c.loop-name.marks.items place true) (c.from.ensures ∙ c.name_number.ensures)) c.loop-name.invariant

pub returns : goal.returns
returns c = marks_end c.args.names.now c.loop-name.marks.items c.loop-name.name-index (search rules) c.loop-name.invariant
