use Rattle.std.proofs.Common.{◌≡◌, ◌++◌, take}
use Rattle.gv_cert.proofs.known.Known.append.Given as goal

abbrev pub invariant-loop-number : goal.invariant-loop-number
invariant-loop-number l = l.self ≡ l.fn.self ++ take l.number l.other
