use Rattle.std.proofs.Common.{◌≡◌, ℕ, List, Err, ap, subst}
use Rattle.gv_views.specs.Layout.{masters_in}
use Rattle.gv_overlay.specs.Overlays.{of_layout}
use Rattle.gv_overlay.specs.Refused.{Names}
use Rattle.gv_overlay.proofs.Layouts.{absent_named, dir_named, large_layout, named_by, refused_by}
use Rattle.gv_overlay.proofs.masters.read_layout.Goals as goal

pub returns-in-Ok-File-clause-masters : goal.returns-in-Ok-File-clause-masters
returns-in-Ok-File-clause-masters g c =
    named_by (g.T.Tree.files c.args.tree.now) c.args.name.now c.args.path c.in-Ok-File.bytes c.named.result (rw c.in-Ok-File.field-0-is at c.in-Ok-File.ensures.found)
    (rw c.in-Ok-File.field-0-is at c.in-Ok-File.ensures.small)
    (subst (λ (b : List ℕ). Names (of_layout c.args.path (masters_in c.args.name.now b)) c.named.result) c.bytes-in-Ok-File.ensures c.named.ensures)

pub returns-in-Ok-File-clause-cause : goal.returns-in-Ok-File-clause-cause
returns-in-Ok-File-clause-cause g c =
    refused_by (g.T.Tree.files c.args.tree.now) c.args.name.now c.args.path (g.T.Tree.faults c.args.tree.now) (g.T.Tree.faults c.read.new.self) c.in-Ok-File.bytes c.named.result c.in-Ok-File.ensures.calm
    (rw c.in-Ok-File.field-0-is at c.in-Ok-File.ensures.found)
    (rw c.in-Ok-File.field-0-is at c.in-Ok-File.ensures.small)
    (subst (λ (b : List ℕ). Names (of_layout c.args.path (masters_in c.args.name.now b)) c.named.result) c.bytes-in-Ok-File.ensures c.named.ensures)

pub returns-in-Ok-Dir-clause-cause : goal.returns-in-Ok-Dir-clause-cause
returns-in-Ok-Dir-clause-cause g c = dir_named (g.T.Tree.files c.args.tree.now) c.args.name.now c.args.path (g.T.Tree.faults c.args.tree.now) (g.T.Tree.faults c.read.new.self) c.in-Ok-Dir.ensures.calm (rw c.in-Ok-Dir.field-0-is at c.in-Ok-Dir.ensures.found)

pub returns-in-Ok-Absent-clause-cause : goal.returns-in-Ok-Absent-clause-cause
returns-in-Ok-Absent-clause-cause g c =
    absent_named (g.T.Tree.files c.args.tree.now) c.args.name.now c.args.path (g.T.Tree.faults c.args.tree.now) (g.T.Tree.faults c.read.new.self) c.in-Ok-Absent.ensures.calm (rw c.in-Ok-Absent.field-0-is at c.in-Ok-Absent.ensures.found)

pub returns-in-Err-TooLarge-clause-cause : goal.returns-in-Err-TooLarge-clause-cause
returns-in-Err-TooLarge-clause-cause g c =
    large_layout (g.T.Tree.files c.args.tree.now) c.args.name.now c.args.path (g.T.Tree.faults c.args.tree.now) (g.T.Tree.faults c.read.new.self) (c.in-Err-TooLarge.ensures.calm_large (ap Err c.in-Err-TooLarge.field-0-is)) (c.in-Err-TooLarge.ensures.large (ap Err c.in-Err-TooLarge.field-0-is))
