use Rattle.std.proofs.Common.{◌≡◌, drop, []}
use Rattle.std.specs.Prelude.{Ok}
use Rattle.gv_load.specs.Ahead.{IsIndexed, KeepsDirs}
use Rattle.gv_load.specs.Closed.{IsClosedBut}
use Rattle.gv_load.specs.Directories.{dir_at, steps_of}
use Rattle.gv_load.specs.Reaching.{reached_by}
use Rattle.gv_load.proofs.reaching.read_dirs.Given as goal
use Rattle.gv_reading.specs.Causes.{IsTold, Knows, look_in, view}
use Rattle.gv_reading.specs.Reading.{passed}

abbrev pub invariant-loop-line : goal.invariant-loop-line
invariant-loop-line g l =
    let see = view g.T.Tree.files g.T.Tree.faults g.T.Tree.entered g.T.Tree.lent in
    record {
      same : see l.tree ≡ see l.fn.tree;
      knows : Knows (g.T.Tree.files l.fn.tree) l.reader;
      indexed : IsIndexed l.reached;
      order : IsTold (g.T.Tree.files l.fn.tree) → reached_by (dir_at (look_in (g.T.Tree.files l.fn.tree))) l.reached.order (drop l.line-index l.lines) ≡ reached_by (dir_at (look_in (g.T.Tree.files l.fn.tree))) [] l.lines;
      passed : IsTold (g.T.Tree.files l.fn.tree) → passed (look_in (g.T.Tree.files l.fn.tree)) l.fn.reader (steps_of (look_in (g.T.Tree.files l.fn.tree)) l.reached.order) ≡ Ok l.reader;
      dirs : IsTold (g.T.Tree.files l.fn.tree) → KeepsDirs (look_in (g.T.Tree.files l.fn.tree)) l.reached;
      closed : IsTold (g.T.Tree.files l.fn.tree) → IsClosedBut (dir_at (look_in (g.T.Tree.files l.fn.tree))) l.reached.order [];
    }
