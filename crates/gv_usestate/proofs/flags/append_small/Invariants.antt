use Rattle.std.proofs.Common.{◌≡◌, ◌++◌, drop}
use Rattle.std.specs.Str.{str_to_ascii_lowercase}
use Rattle.gv_usestate.proofs.flags.append_small.Given as goal

abbrev pub invariant-loop-letter : goal.invariant-loop-letter
invariant-loop-letter l = l.flag ++ str_to_ascii_lowercase (drop l.letter-index l.name) ≡ l.fn.flag ++ str_to_ascii_lowercase l.name
