use Rattle.std.proofs.Common.{List, [], ◌∷◌, ◌++◌, ap, ◌∙◌}
use Rattle.gv_edits.specs.declared.edit.Edit.TheVariants.{Cut}
use Rattle.gv_edits.specs.declared.edits.Done.{Done}
use Rattle.gv_edits.proofs.Dones.{kept, cut_kept, cut_comes}
use Rattle.gv_edits.proofs.edits.Edits.add_cut.Goals as goal

pub returns-clause-ok : goal.returns-clause-ok
returns-clause-ok c =
    cut_kept c.self.inside.list.items c.push_reserved.new.self.items (record { path = c.in_ok-text.text; puts = c.of-2.result }) c.self.inside.puts c.args.path.now
    (c.push_reserved.ensures.items ∙ ap (λ (xs : List Done). xs ++ record { path = c.in_ok-text.text; puts = c.of-2.result } ∷ []) c.reserve.ensures.items) c.in_ok-text.ensures (c.of-2.ensures ∙ c.cut.ensures)
    ∙ ap (λ es. es ++ Cut c.args.path.now ∷ []) c.self.view_is

pub invariant_of-self-2 : goal.invariant_of-self-2
invariant_of-self-2 c =
    let grown = cut_kept c.self.inside.list.items c.push_reserved.new.self.items (record { path = c.in_ok-text.text; puts = c.of-2.result }) c.self.inside.puts c.args.path.now
    (c.push_reserved.ensures.items ∙ ap (λ (xs : List Done). xs ++ record { path = c.in_ok-text.text; puts = c.of-2.result } ∷ []) c.reserve.ensures.items) c.in_ok-text.ensures (c.of-2.ensures ∙ c.cut.ensures) in
    cut_comes (kept c.self.inside.list.items) (kept c.push_reserved.new.self.items) c.self.inside.puts c.self.inside.cuts c.cut.new.self c.put.new.self c.args.path.now
    grown c.cut.ensures c.in_ok-put.ensures.ok c.self.invariant c.requires
