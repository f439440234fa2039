use Rattle.std.proofs.Common.{◌≡◌, ◌++◌, drop, filter, map}
use Rattle.gv_renew.specs.Lasting.{category_at}
use Rattle.gv_renew.specs.Touched.{touches}
use Rattle.gv_renew.proofs.lasting.touched_categories.Given as goal

abbrev pub invariant-loop-one : goal.invariant-loop-one
invariant-loop-one l = l.categories ++ map category_at (filter touches (drop l.one-index l.touched)) ≡ map category_at (filter touches l.touched)
