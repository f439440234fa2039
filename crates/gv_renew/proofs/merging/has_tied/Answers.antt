use Rattle.std.proofs.Common.{◌≡◌, not, sym, ap, ◌∙◌}
use Rattle.std.specs.Ordering.{is_lt}
use Rattle.gv_report.specs.Distinct.{is_before}
use Rattle.gv_renew.proofs.Weaving.{first_none, first_some, first_tied, tied_left}
use Rattle.gv_renew.proofs.merging.has_tied.Goals as goal

pub returns-in-empty : goal.returns-in-empty
returns-in-empty c =
    let r = c.args.report.now in
    sym (tied_left r c.args.kept.now c.requires ∙ ap (first_tied r) (sym c.left.ensures) ∙ first_none r c.left.result.now c.in-empty.len_below)

pub returns-in-len1-up : goal.returns-in-len1-up
returns-in-len1-up c =
    let r = c.args.report.now in
    let k = c.next-item.result in
    let told : c.is_lt.result ≡ is_before r k = c.is_lt.ensures ∙ ap is_lt c.compare.ensures in
    ap not told
    ∙ sym (tied_left r c.args.kept.now c.requires ∙ ap (first_tied r) (sym c.left.ensures) ∙ first_some r k c.left.result.now c.in-len1-up.len_at_least c.next-item.is)
