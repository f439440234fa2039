use Rattle.std.proofs.Common.{sym, subst, ◌∙◌}
use Rattle.gv_verify.specs.Differing.{DifferAt}
use Rattle.gv_verify.proofs.VerifyLemmas.{accepted, other_text}
use Rattle.gv_verify.proofs.verifying.verify.Goals as goal

pub returns-in-None-clause-verifies : goal.returns-in-None-clause-verifies
returns-in-None-clause-verifies g c =
    accepted c.selected_law.ensures c.args.options.now c.args.certs.now c.args.repo.now c.in-Ok.recalled c.in-Ok.ensures.recalls c.in_ok-text.text c.args.report.now c.in_ok-text.ensures (sym c.bytes.ensures ∙ c.in-None.ensures)

pub returns-clause-verifies : goal.returns-clause-verifies
returns-clause-verifies g c =
    other_text c.selected_law.ensures c.args.options.now c.args.certs.now c.args.repo.now c.in-Ok.recalled c.in-Ok.ensures.recalls c.in_ok-text.text c.args.report.now c.in_ok-text.ensures c.in-Some.offset
    (subst (λ l. DifferAt l c.args.report.now c.in-Some.offset) c.bytes.ensures c.in-Some.ensures)
