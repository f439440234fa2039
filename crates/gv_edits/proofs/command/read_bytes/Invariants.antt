use Rattle.std.proofs.Common.{◌≡◌, ◌≤◌, ◌-◌, length}
use Rattle.gv_edits.specs.Pending.{whole}
use Rattle.gv_edits.specs.Reading.{Reads}
use Rattle.gv_edits.proofs.command.read_bytes.Given as goal

-- the text so far is what was taken
abbrev pub invariant-loop-text : goal.invariant-loop-text
invariant-loop-text g l = record {
  whole : whole l.fn.pending (g.I.Source.left l.fn.input) ≡ whole l.text (whole l.pending (g.I.Source.left l.input));
  reads : Reads l.fn.pending (g.I.Source.left l.fn.input) l.text l.pending (g.I.Source.left l.input);
  few : length l.text ≤ l.most;
  calm : g.I.Source.faults l.input ≡ g.I.Source.faults l.fn.input;
}

abbrev pub decreases-loop-text : goal.decreases-loop-text
decreases-loop-text g l = l.most - length l.text
