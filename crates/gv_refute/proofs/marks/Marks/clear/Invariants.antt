use Rattle.std.proofs.Common.{◌≡◌, ◌≤◌, length}
use Rattle.std.specs.Prelude.{vec_capacity, vec_len}
use Rattle.gv_refute.proofs.NoteLemmas.{AreNoted}
use Rattle.gv_refute.proofs.marks.Marks.clear.Given as goal

abbrev pub invariant-loop-lit : goal.invariant-loop-lit
invariant-loop-lit l = record {
  noted : AreNoted l.self-inside.on.items l.self-inside.noted.items;
  count : length l.self-inside.on.items ≡ length l.initial.self-inside.on.items;
  room : length l.self-inside.on.items ≤ vec_capacity l.self-inside.noted;
}

abbrev pub decreases-loop-lit : goal.decreases-loop-lit
decreases-loop-lit l = vec_len l.self-inside.noted
