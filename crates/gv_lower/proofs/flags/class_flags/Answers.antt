use Rattle.std.proofs.Common.{◌++◌, ap, ◌∙◌}
use Rattle.std.specs.Prelude.{filter}
use Rattle.gv_expr.specs.Dep.{deps}
use Rattle.gv_expr.specs.Mentions.{dep_mentions, req_mentions}
use Rattle.gv_expr.specs.Required.{reqs}
use Rattle.gv_facts.specs.States.{state}
use Rattle.gv_entry.specs.Allowed.{is_free}
use Rattle.gv_lower.proofs.MentionedFlags.{filtered_ascends}
use Rattle.gv_expr.specs.Mentions.{texts_of}
use Rattle.gv_lower.proofs.flags.class_flags.Goals as goal

pub returns-clause-flags : goal.returns-clause-flags
returns-clause-flags c = c.in_ok-flags.ensures ∙ ap (filter (λ flag. is_free (state c.args.pkg.now c.args.profile.now c.args.level flag))) (c.items.ensures ∙ c.in_ok-mentioned.ensures)

pub returns-clause-ascend : goal.returns-clause-ascend
returns-clause-ascend c =
    filtered_ascends c.in_order_law.ensures (λ flag. is_free (state c.args.pkg.now c.args.profile.now c.args.level flag)) (req_mentions (reqs c.args.required.now) ++ dep_mentions (deps c.args.class.now)) (texts_of c.items.result.now) c.in_ok-flags.flags
    (c.items.ensures ∙ c.in_ok-mentioned.ensures) c.in_ok-flags.ensures
