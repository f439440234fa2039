use Rattle.std.proofs.Common.{◌≡◌, ◌++◌, drop, map}
use Rattle.gv_expr.specs.Mentions.{texts_of}
use Rattle.gv_lower.specs.Sites.{known_of}
use Rattle.gv_lower.proofs.known.known_flags.Given as goal

abbrev pub invariant-loop-flag : goal.invariant-loop-flag
invariant-loop-flag l = l.these.items ++ map (known_of l.ruled l.pkg) (texts_of (drop l.flag-index l.flags)) ≡ map (known_of l.ruled l.pkg) (texts_of l.flags)
