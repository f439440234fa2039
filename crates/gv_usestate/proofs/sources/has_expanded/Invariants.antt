use Rattle.std.proofs.Common.{◌≡◌, drop, map}
use Rattle.std.specs.Prelude.{flat_map}
use Rattle.gv_base.specs.Order.{has_text}
use Rattle.gv_facts.specs.Effective.{expand_flags, implicit, prefixed, values_of}
use Rattle.gv_usestate.proofs.sources.has_expanded.Given as goal

abbrev pub invariant-loop-name : goal.invariant-loop-name
invariant-loop-name l =
    has_text (flat_map (λ name. map (prefixed name) (values_of l.profile.values name)) (implicit l.profile (drop l.name-index l.profile.expand))) l.flag
    ≡ has_text (expand_flags l.profile) l.flag
