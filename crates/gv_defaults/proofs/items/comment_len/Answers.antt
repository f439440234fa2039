use Rattle.std.proofs.Common.{not, ap, ◌∙◌}
use Rattle.std.specs.Prelude.{◌==◌, length}
use Rattle.std.proofs.lemmas.List.Folds.{length-prefix_len}
use Rattle.gv_defaults.proofs.items.comment_len.Goals as goal

pub returns-clause-len : goal.returns-clause-len
returns-clause-len c = ap length c.until.ensures ∙ length-prefix_len (λ b. not (b == 10)) c.args.bytes.now
