use Rattle.std.proofs.Common.{◌∙◌}
use Rattle.gv_overlay.proofs.Loads.{own_lines, stepped_cause, stepped_overlay}
use Rattle.gv_overlay.proofs.loading.load_overlay.Goals as goal

pub returns-in-Err-load_own-clause-cause : goal.returns-in-Err-load_own-clause-cause
returns-in-Err-load_own-clause-cause g c =
    stepped_cause (g.T.Tree.files c.args.tree.now) (g.T.Tree.files c.read_masters.new.tree) (g.T.Tree.files c.add_masters.new.tree) c.read_masters.ensures.files
    (c.add_masters.ensures.files ∙ c.read_masters.ensures.files) c.args.name.now c.in-Ok.masters c.items.result.now c.items.ensures c.in_ok-layers.layers c.in_ok-layers.ensures c.in-Ok.ensures.masters _ _
    c.in-Ok-add_masters.ensures.added (g.T.Tree.faults c.args.tree.now) (g.T.Tree.faults c.add_masters.new.tree) (g.T.Tree.faults c.load_own.new.tree)
    (c.in-Ok-add_masters.ensures.calm ∙ c.in-Ok.ensures.calm) c.in-Err-load_own.fault c.in-Err-load_own.ensures.cause

pub returns-clause-overlay : goal.returns-clause-overlay
returns-clause-overlay g c =
    stepped_overlay (g.T.Tree.files c.args.tree.now) (g.T.Tree.files c.read_masters.new.tree) (g.T.Tree.files c.add_masters.new.tree) c.read_masters.ensures.files
    (c.add_masters.ensures.files ∙ c.read_masters.ensures.files) c.args.name.now c.in-Ok.masters c.items.result.now c.items.ensures c.in_ok-layers.layers c.in_ok-layers.ensures c.in-Ok.ensures.masters _ _
    c.in-Ok-add_masters.ensures.added c.in-Ok-load_own.own c.in_ok-combined.field-0 c.new-entries.ensures.items c.in-Ok-load_own.ensures.repo c.in_ok-combined.ensures

pub returns-clause-own : goal.returns-clause-own
returns-clause-own g c = own_lines c.add_masters.new.entries.items c.in-Ok-load_own.own c.in_ok-combined.field-0 c.in-Ok-load_own.ensures.own c.in_ok-combined.ensures
