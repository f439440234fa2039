use Rattle.std.proofs.Common.{◌≡◌, ◌++◌, drop, map}
use Rattle.gv_reload.specs.Rereading.{given_in}
use Rattle.gv_reload.proofs.edited_reads.given_of.Given as goal

abbrev pub invariant-loop-category : goal.invariant-loop-category
invariant-loop-category l = l.given.items ++ map (given_in l.paths) (drop l.category-index l.categories) ≡ map (given_in l.paths) l.categories
