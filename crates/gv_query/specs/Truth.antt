-- What a claim says of gates.
use Rattle.std.specs.Prelude.{Option, None, Some}
use Rattle.gv_base.specs.Least.{IsLeast, HasNone}
use Rattle.gv_logic.specs.Circuits.{Circuit, value}
use Rattle.gv_cert.specs.declared.claim.Claim.{Claim}
use Rattle.gv_cert.specs.declared.claim.Claim.TheVariants.{Refuted, Found}

-- no bits give the root true, or these are the least that do
abbrev pub IsSo : Circuit → Claim → Type 0
IsSo g (Refuted log) = HasNone (value g) g.inputs
IsSo g (Found bits log) = IsLeast (value g) g.inputs bits

-- of a claim, if there is one
abbrev pub IsSoOf : Circuit → Option Claim → Type 0
IsSoOf g None = Unit {0}
IsSoOf g (Some claim) = IsSo g claim
