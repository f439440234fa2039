use Rattle.std.proofs.Common.{◌≡◌, ◌++◌, drop}
use Rattle.std.specs.Prelude.{flat_map}
use Rattle.gv_facts.specs.Effective.{implicit, unprefixed_flags, values_of}
use Rattle.gv_usestate.proofs.flags.add_unprefixed.Given as goal

abbrev pub invariant-loop-name : goal.invariant-loop-name
invariant-loop-name l =
    l.flags ++ flat_map (values_of l.profile.values) (implicit l.profile (drop l.name-index l.profile.unprefixed))
    ≡ l.fn.flags ++ unprefixed_flags l.profile
