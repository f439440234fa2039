use Rattle.std.proofs.Common.{List, [], ◌∷◌, ◌++◌, ap, ◌∙◌}
use Rattle.gv_edits.specs.declared.edit.Edit.TheVariants.{Put}
use Rattle.gv_edits.specs.declared.edits.Done.{Done}
use Rattle.gv_edits.proofs.Dones.{kept, put_kept, put_comes}
use Rattle.gv_edits.proofs.edits.Edits.add_put.Goals as goal

pub returns-clause-ok : goal.returns-clause-ok
returns-clause-ok c =
    put_kept c.self.inside.list.items c.push_reserved.new.self.items (record { path = c.in_ok-text.text; puts = c.of-2.result }) c.self.inside.puts c.args.path.now c.args.bytes.now
    (c.push_reserved.ensures.items ∙ ap (λ (xs : List Done). xs ++ record { path = c.in_ok-text.text; puts = c.of-2.result } ∷ []) c.reserve.ensures.items) c.in_ok-text.ensures (c.of-2.ensures ∙ c.in_ok-put.ensures.ok)
    ∙ ap (λ es. es ++ Put c.args.path.now c.args.bytes.now ∷ []) c.self.view_is

pub invariant_of-self-2 : goal.invariant_of-self-2
invariant_of-self-2 c =
    let grown = put_kept c.self.inside.list.items c.push_reserved.new.self.items (record { path = c.in_ok-text.text; puts = c.of-2.result }) c.self.inside.puts c.args.path.now c.args.bytes.now
    (c.push_reserved.ensures.items ∙ ap (λ (xs : List Done). xs ++ record { path = c.in_ok-text.text; puts = c.of-2.result } ∷ []) c.reserve.ensures.items) c.in_ok-text.ensures (c.of-2.ensures ∙ c.in_ok-put.ensures.ok) in
    put_comes (kept c.self.inside.list.items) (kept c.push_reserved.new.self.items) c.self.inside.puts c.self.inside.cuts c.put.new.self c.cut.new.self c.args.path.now c.args.bytes.now
    grown c.in_ok-put.ensures.ok c.cut.ensures c.self.invariant c.requires.path c.requires.bytes
