use Rattle.std.proofs.Common.{subst, sym, ◌∙◌}
use Rattle.gv_renew.specs.Mentioned.{AreMarked}
use Rattle.gv_renew.proofs.touched.all_touched.Goals as goal

pub touched_among-requires-clause-mentioned : goal.touched_among-requires-clause-mentioned
touched_among-requires-clause-mentioned c = c.packages.ensures ∙ (c.requires.mentioned ∙ sym c.items-2.ensures)

pub touched_among-requires-clause-marks : goal.touched_among-requires-clause-marks
touched_among-requires-clause-marks c =
    subst (λ names. AreMarked names c.deref.result.now) c.names.ensures (subst (λ marks. AreMarked c.names.result.now marks) (sym c.deref.ensures.value) c.in_ok-marks.ensures)
