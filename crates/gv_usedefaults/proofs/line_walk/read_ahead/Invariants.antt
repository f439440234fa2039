use Rattle.std.proofs.Common.{◌≡◌, ◌++◌}
use Rattle.gv_reading.specs.Causes.{view}
use Rattle.gv_usedefaults.specs.LineFiles.{most_turns}
use Rattle.gv_usedefaults.specs.LineTurns.{IsTurning}
use Rattle.gv_usedefaults.proofs.LineTurning.{ends_left, files_left, steps_left}
use Rattle.gv_reading.specs.Passing.{IsAmid}
use Rattle.gv_usedefaults.proofs.line_walk.read_ahead.Given as goal

-- the files so far and those of the directories that are still gone to are all, and the end is the same
abbrev pub invariant-loop-turns : goal.invariant-loop-turns
invariant-loop-turns g l =
    let see = view g.T.Tree.files g.T.Tree.faults g.T.Tree.entered g.T.Tree.lent in
    record {
      amid : IsAmid (see l.fn.tree) (see l.tree) l.fn.reader l.reader (steps_left l.turns l.now) (steps_left most_turns l.fn.turning)
          (λ look. (l.now.files.items ++ files_left l.turns l.now look ≡ l.fn.turning.files.items ++ files_left most_turns l.fn.turning look)
          × (ends_left l.turns l.now look ≡ ends_left most_turns l.fn.turning look));
      indexed : IsTurning l.now;
    }

abbrev pub decreases-loop-turns : goal.decreases-loop-turns
decreases-loop-turns g l = l.turns
