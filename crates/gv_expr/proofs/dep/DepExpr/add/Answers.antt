use Rattle.std.proofs.Common.{◌≤◌, arith}
use Rattle.std.proofs.Math.Nat.{max-le}
use Rattle.gv_expr.proofs.Depths.{dep_kept}
use Rattle.gv_expr.proofs.dep.DepExpr.add.Goals as goal

pub invariant_of-self-2 : goal.invariant_of-self-2
invariant_of-self-2 c =
    let fits : c.depth-depth.result ≤ 64 = omega (arith, c.if-depth-gt-MOST_GROUPS.false) in (
      dep_kept c.self.inside.items.items c.push.new.self.items c.args.item c.self.inside.depth c.depth-depth.result c.larger-self-inside.result
          c.self.invariant.0 c.depth-depth.ensures c.in_ok-push.ensures.items c.larger-self-inside.ensures,
      rw c.larger-self-inside.ensures (max-le c.self.invariant.1 fits),
    )
