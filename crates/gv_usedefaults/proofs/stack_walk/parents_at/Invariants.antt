use Rattle.std.proofs.Common.{◌≡◌, ◌++◌, drop}
use Rattle.std.specs.Prelude.{flat_map}
use Rattle.gv_usedefaults.specs.PrivateWords.{added_at}
use Rattle.gv_usedefaults.specs.Stacks.{file_parents}
use Rattle.gv_usedefaults.proofs.stack_walk.parents_at.Given as goal

abbrev pub invariant-loop-place : goal.invariant-loop-place
invariant-loop-place l = l.paths.items ++ flat_map (added_at file_parents l.files) (drop l.place-index l.places) ≡ flat_map (added_at file_parents l.files) l.places
