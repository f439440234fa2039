use Rattle.std.proofs.Common.{length, ap, inl, sym, ◌∙◌}
use Rattle.std.proofs.Math.Seq.{take-length}
use Rattle.gv_base.specs.Outside.{gains}
use Rattle.gv_ending.specs.Endings.{refusal_line}
use Rattle.gv_ending.proofs.telling.tell_refusal.Goals as goal

pub returns-in-Ok-outcome-clause-told : goal.returns-in-Ok-outcome-clause-told
returns-in-Ok-outcome-clause-told g c =
    let old = g.E.Sink.held c.args.err.now in
    let text = refusal_line c.args.refusal.now in
    let gained = c.in-Ok-outcome.ensures.ok ∙ ap (gains old) (c.bytes.ensures ∙ c.in-Ok.ensures) in
    record {
      whole = inl (inl (gained, c.in-Ok-outcome.ensures.calm), c.status.ensures);
      front = (length text, gained ∙ ap (gains old) (sym (take-length text)));
    }
