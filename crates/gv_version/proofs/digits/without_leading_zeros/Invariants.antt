use Rattle.std.proofs.Common.{◌≡◌, length}
use Rattle.gv_version.specs.Bytes.{behind}
use Rattle.gv_version.specs.Order.{is_zero}
use Rattle.gv_version.proofs.digits.without_leading_zeros.Given as goal

abbrev pub invariant-loop-rest : goal.invariant-loop-rest
invariant-loop-rest l = behind is_zero l.rest ≡ behind is_zero l.digits

abbrev pub decreases-loop-rest : goal.decreases-loop-rest
decreases-loop-rest l = length l.rest
