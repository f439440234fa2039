use Rattle.std.proofs.Common.{arith}
use Rattle.gv_lower.specs.Around.{alone}
use Rattle.gv_lower.proofs.Finishing.{allowed_circuit}
use Rattle.gv_lower.proofs.lowering.lower_few.Goals as goal

pub allowed_query-requires : goal.allowed_query-requires
allowed_query-requires c =
    let le = c.in-Ok.ensures in
    allowed_circuit (alone c.args.pkg.now c.args.profile.now c.args.level) c.args.inputs c.args.required.now c.requires (omega (arith, le))
