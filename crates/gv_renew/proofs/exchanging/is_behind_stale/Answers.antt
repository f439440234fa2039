use Rattle.std.proofs.Common.{ap, is_lt, sym, ◌∙◌}
use Rattle.gv_renew.proofs.PlaceLemmas.{behind_mapped}
use Rattle.gv_renew.proofs.exchanging.is_behind_stale.Goals as goal

pub returns-in-len1-up : goal.returns-in-len1-up
returns-in-len1-up c =
    c.is_lt.ensures ∙ ap is_lt c.compare.ensures
    ∙ sym (behind_mapped (λ r. r.now) c.args.stale.now c.args.report.now c.last-item.result c.in-len1-up.len_at_least c.last-item.is)
