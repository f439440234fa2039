use Rattle.std.proofs.Common.{◌<◌, length, ap, arith}
use Rattle.gv_cert.proofs.Cancel.{none_short}
use Rattle.gv_cert.proofs.reader.Reader.four_bytes.Goals as goal

pub returns-in_default : goal.returns-in_default
returns-in_default c =
    let few : length c.args.self.now < 4 = omega (arith, c.in_default.ensures, ap length c.self.view_is) in
    none_short c.args.self.now few
