use Rattle.std.proofs.Common.{◌≡◌, ◌++◌, drop}
use Rattle.gv_expr.specs.Mentions.{texts_of}
use Rattle.gv_expr.proofs.mentions.Mentions.copied.Given as goal

abbrev pub invariant-loop-flag : goal.invariant-loop-flag
invariant-loop-flag l = l.flags ++ texts_of (drop l.flag-index l.flag-items) ≡ l.self
