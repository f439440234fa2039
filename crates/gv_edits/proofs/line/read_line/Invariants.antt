use Rattle.std.proofs.Common.{◌≡◌, ◌==◌, false, length}
use Rattle.std.specs.List.{list_any}
use Rattle.gv_edits.specs.Pending.{whole}
use Rattle.gv_edits.specs.Reading.{Reads}
use Rattle.gv_edits.proofs.line.read_line.Given as goal

-- the line so far has no line feed, and is what was taken
abbrev pub invariant-loop-taken : goal.invariant-loop-taken
invariant-loop-taken g l = record {
  whole : whole l.fn.pending (g.I.Source.left l.fn.input) ≡ whole l.line (whole l.pending (g.I.Source.left l.input));
  reads : Reads l.fn.pending (g.I.Source.left l.fn.input) l.line l.pending (g.I.Source.left l.input);
  none : list_any (λ b. b == 10) l.line ≡ false;
  size : length l.line ≡ l.taken;
  calm : g.I.Source.faults l.input ≡ g.I.Source.faults l.fn.input;
}
