use Rattle.std.proofs.Common.{◌≡◌, ◌+◌, drop}
use Rattle.std.specs.Option.{option_map}
use Rattle.gv_defaults.specs.Quotes.{value_len, len_in}
use Rattle.gv_defaults.proofs.quotes.value_len.Given as goal

abbrev pub invariant-loop-i : goal.invariant-loop-i
invariant-loop-i l = option_map (λ n. l.i + n) (len_in l.quotes l.taken (drop l.i l.bytes)) ≡ value_len l.bytes
