use Rattle.std.proofs.Common.{◌≡◌, ◌+◌, ◌≤◌, ◌++◌, drop, length}
use Rattle.std.specs.Vec.{vec_capacity, vec_len}
use Rattle.gv_facts.specs.States.{state}
use Rattle.gv_lower.specs.KeysAround.{own_keys}
use Rattle.gv_lower.proofs.keys.add_own.Given as goal

abbrev pub invariant-loop-known : goal.invariant-loop-known
invariant-loop-known l = record {
  added : l.key.items ++ own_keys (state l.pkg l.states l.fn.level) (drop l.known-index l.flags) ≡ l.initial.key.items ++ own_keys (state l.pkg l.states l.fn.level) l.flags;
  room : vec_len l.key + length (drop l.known-index l.flags) ≤ vec_capacity l.key;
  pkg : l.parent.pkg ≡ l.pkg;
  profile : l.parent.profile ≡ l.states;
  level : l.parent.level ≡ l.fn.level;
}
