use Rattle.std.proofs.Common.{◌≡◌, drop}
use Rattle.std.specs.Prelude.{flat_map}
use Rattle.gv_base.specs.Order.{has_text}
use Rattle.gv_facts.specs.Effective.{implicit, unprefixed_flags, values_of}
use Rattle.gv_usestate.proofs.sources.has_unprefixed.Given as goal

abbrev pub invariant-loop-name : goal.invariant-loop-name
invariant-loop-name l =
    has_text (flat_map (values_of l.profile.values) (implicit l.profile (drop l.name-index l.profile.unprefixed))) l.flag
    ≡ has_text (unprefixed_flags l.profile) l.flag
