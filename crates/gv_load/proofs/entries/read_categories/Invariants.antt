use Rattle.std.proofs.Common.{◌≡◌, ◌++◌, drop}
use Rattle.gv_reading.specs.Causes.{view}
use Rattle.gv_load.specs.Entries.{all_reads}
use Rattle.gv_load.specs.Order.{categories_steps}
use Rattle.gv_reading.specs.Passing.{IsAmid}
use Rattle.gv_load.proofs.entries.read_categories.Given as goal

-- what was read so far and that of the other categories is all
abbrev pub invariant-loop-category : goal.invariant-loop-category
invariant-loop-category g l =
    let see = view g.T.Tree.files g.T.Tree.faults g.T.Tree.entered g.T.Tree.lent in
    IsAmid (see l.fn.tree) (see l.tree) l.fn.reader l.reader (λ look. categories_steps look (drop l.category-index l.categories)) (λ look. categories_steps look l.categories)
    (λ look. l.reads ++ all_reads look (drop l.category-index l.categories) ≡ all_reads look l.categories)
