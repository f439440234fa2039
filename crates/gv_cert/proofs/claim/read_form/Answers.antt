use Rattle.std.proofs.Common.{◌∙◌, sym}
use Rattle.gv_cert.proofs.Claims.{whole_more, whole_is, same_claim}
use Rattle.gv_cert.proofs.claim.read_form.Goals as goal

pub returns-then-not-is_empty : goal.returns-then-not-is_empty
returns-then-not-is_empty c =
    let said = rw c.in-Some.is at c.in_ok-claim.ensures in
    whole_more c.args.version c.args.inputs c.args.clauses c.args.bytes.now c.next_claim.new.reader c.in-Some.claim said.0 (sym c.new-reader.ensures ∙ said.1) c.if-not-is_empty.ensures

pub returns : goal.returns
returns c =
    let said = rw c.in-Some.is at c.in_ok-claim.ensures in
    let whole = whole_is c.args.version c.args.inputs c.args.clauses c.args.bytes.now c.next_claim.new.reader c.in-Some.claim said.0 (sym c.new-reader.ensures ∙ said.1) c.if-not-is_empty.ensures in
    (said.0, whole, λ other is e. same_claim c.args.version c.args.inputs c.args.clauses c.in-Some.claim other said.0 is (e ∙ sym whole))
