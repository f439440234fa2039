use Rattle.std.proofs.Common.{ap, sym, ◌∙◌}
use Rattle.gv_reload.specs.Replacing.{are_named}
use Rattle.gv_reload.proofs.Replaces.{new_other, old_other}
use Rattle.gv_reload.proofs.replacing.with_entries.Goals as goal

pub returns-then-not-are_named : goal.returns-then-not-are_named
returns-then-not-are_named c =
    old_other c.args.edits.now c.args.old c.args.new (sym (c.are_named.ensures ∙ ap (are_named c.args.edits.now) c.items.ensures) ∙ c.if-not-are_named.true)

pub returns-then-not-are_named-2 : goal.returns-then-not-are_named-2
returns-then-not-are_named-2 c =
    new_other c.args.edits.now c.args.old c.args.new (sym (c.are_named-2.ensures ∙ ap (are_named c.args.edits.now) c.items-2.ensures) ∙ c.if-not-are_named-2.true)
