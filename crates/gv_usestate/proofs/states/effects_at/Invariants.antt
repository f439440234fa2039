use Rattle.std.proofs.Common.{◌≡◌, false, drop}
use Rattle.std.specs.Prelude.{fold}
use Rattle.gv_facts.specs.States.{is_restricted}
use Rattle.gv_facts.specs.declared.rules.Effect.TheVariants.{Force, Mask}
use Rattle.gv_usestate.specs.RulesInTurn.{behind_at}
use Rattle.gv_usestate.proofs.states.effects_at.Given as goal

abbrev pub invariant-loop-place : goal.invariant-loop-place
invariant-loop-place l = record {
  mask : fold (behind_at Mask l.initial.pkg.pkg (is_restricted l.initial.pkg.pkg l.initial.pkg.profile l.initial.pkg.level) l.rules) l.effects.mask (drop l.place-index l.places)
      ≡ fold (behind_at Mask l.initial.pkg.pkg (is_restricted l.initial.pkg.pkg l.initial.pkg.profile l.initial.pkg.level) l.rules) false l.places;
  force : fold (behind_at Force l.initial.pkg.pkg (is_restricted l.initial.pkg.pkg l.initial.pkg.profile l.initial.pkg.level) l.rules) l.effects.force (drop l.place-index l.places)
      ≡ fold (behind_at Force l.initial.pkg.pkg (is_restricted l.initial.pkg.pkg l.initial.pkg.profile l.initial.pkg.level) l.rules) false l.places;
  same : l.pkg ≡ l.initial.pkg;
}
