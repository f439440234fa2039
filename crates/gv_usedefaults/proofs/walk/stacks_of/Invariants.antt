use Rattle.std.proofs.Common.{◌≡◌, ◌++◌, drop, map}
use Rattle.gv_usedefaults.specs.Walk.{first_long, stack_of}
use Rattle.gv_usedefaults.proofs.walk.stacks_of.Given as goal

abbrev pub invariant-loop-profile : goal.invariant-loop-profile
invariant-loop-profile l = record {
  stacks : l.stacks ++ map (stack_of l.files) (drop l.profile-index l.profiles) ≡ map (stack_of l.files) l.profiles;
  short : first_long l.files (drop l.profile-index l.profiles) ≡ first_long l.files l.profiles;
}
