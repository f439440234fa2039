-- The items of a tree have fewer trees than the list that holds it: a proof that the model of `UseExpr` takes, and no rule.
use Rattle.std.specs.Prelude.{◌≤◌, List, [], ◌∷◌}
use Rattle.std.proofs.Common.{arith}
use denote.Param.Weighed.{most}
use Rattle.gv_expr.specs.RequiredStored.{size_of}
use Rattle.gv_expr.specs.RequiredView.{view_of}
use Rattle.gv_expr.specs.declared.required.UseTree.{UseTree}
use Rattle.gv_expr.specs.declared.required.UseTree.TheVariants.{Leaf, All, Any, One, Most, If}
use Rattle.gv_expr.specs.declared.required.UseExpr.TheInside.{Inside}
use Rattle.gv_expr.specs.declared.required.UseExpr.TheDeep.{deep-UseTree, deep-UseExpr}

most_falls : (ts : List UseTree) → most deep-UseTree ts ≤ size_of (view_of ts)
most_falls [] = omega arith
most_falls (Leaf f n ∷ ts) = omega (arith, most_falls ts)
most_falls (All items ∷ ts) = omega (arith, most_falls ts)
most_falls (Any items ∷ ts) = omega (arith, most_falls ts)
most_falls (One items ∷ ts) = omega (arith, most_falls ts)
most_falls (Most items ∷ ts) = omega (arith, most_falls ts)
most_falls (If f n items ∷ ts) = omega (arith, most_falls ts)

pub child_falls : (a : Inside) → deep-UseExpr a ≤ size_of (view_of a.items.items)
child_falls a = let h = most_falls a.items.items in omega arith
