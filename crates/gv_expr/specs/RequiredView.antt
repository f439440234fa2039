-- What the trees of the code are seen as.
use Rattle.std.specs.Prelude.{List, map}
use Rattle.gv_expr.specs.Required.{Req, leaf, all, any, one, most, when, reqs}
use Rattle.gv_expr.specs.declared.required.UseTree.{UseTree}
use Rattle.gv_expr.specs.declared.required.UseTree.TheVariants.{Leaf, All, Any, One, Most, If}

abbrev pub req_of : UseTree → Req
req_of (Leaf f n) = leaf f n
req_of (All items) = all (reqs items)
req_of (Any items) = any (reqs items)
req_of (One items) = one (reqs items)
req_of (Most items) = most (reqs items)
req_of (If f n items) = when f n (reqs items)

abbrev pub view_of : List UseTree → List Req
view_of ts = map req_of ts
