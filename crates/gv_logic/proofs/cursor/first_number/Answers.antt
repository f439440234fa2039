use Rattle.gv_logic.proofs.Cancel.{number_read}
use Rattle.gv_logic.proofs.cursor.first_number.Goals as goal

pub returns : goal.returns
returns c = (c.if-bytes-lt4.false, number_read c.args.bytes.now _ c.if-bytes-lt4.false (λ i. (c.type_inv.bytes i).fits) c.from_be_bytes.ensures)
