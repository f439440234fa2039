use Rattle.std.proofs.Common.{◌∙◌, ap, length, subst}
use Rattle.gv_cert.specs.Claim.{claim_bytes, log_of, IsLog}
use Rattle.gv_checks.proofs.CertLemmas.{new_place, old_place}
use Rattle.gv_checks.proofs.used.Used.place.Goals as goal

pub returns-in-Some-clause-uses : goal.returns-in-Some-clause-uses
returns-in-Some-clause-uses g c =
    old_place c.circuit_law.ensures c.args.budget c.args.given.now c.args.gates.now c.inputs-inputs.ensures.formed c.args.self.now c.args.steps.now c.requires.used c.bytes.result.now (c.bytes.ensures ∙ c.requires.bytes)
    c.in-Some.number c.in-Some.ensures.finds

pub returns-clause-uses : goal.returns-clause-uses
returns-clause-uses g c =
    let claim = c.in_ok-claim.field-0.claim in
    let count = c.clause_count.ensures in
    new_place c.circuit_law.ensures c.args.budget c.args.given.now c.args.gates.now c.inputs-inputs.ensures.formed c.args.self.now c.args.steps.now c.requires.used c.bytes.result.now (c.bytes.ensures ∙ c.requires.bytes)
    c.keep.new.self c.answer.new.steps c.in_ok-claim.field-0.claim c.in_ok-claim.field-0.reused c.args.query.now c.in_ok-bytes.bytes (length c.as_slice-place.result.now) c.requires.bytes c.in_default.ensures.finds (subst (λ n. IsLog n (log_of claim)) count c.in_ok-bytes.ensures.sized)
    (c.in_ok-bytes.ensures.bytes ∙ ap (λ n. claim_bytes n claim) count) c.in_ok-claim.ensures.answered c.in_ok-keep.ensures.certs c.in_ok-keep.ensures.found c.in_ok-claim.ensures.counted c.in_ok-claim.ensures.reused (ap length c.as_slice-place.ensures.value)
