use Rattle.gv_logic.specs.Bytes.{number_bytes}
use Rattle.std.proofs.Common.{rules}
use Rattle.gv_logic.proofs.bytes.put_number.Goals as goal

pub returns : goal.returns
unfolding number_bytes
returns c = search rules
