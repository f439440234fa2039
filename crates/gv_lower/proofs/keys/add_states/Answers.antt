use Rattle.std.proofs.Common.{ap, arith, sym, subst, ◌∙◌, ◌+◌, ◌++◌, map}
use Rattle.std.proofs.lemmas.List.{length-drop}
use Rattle.gv_facts.specs.declared.pkg.Pkg.{Pkg}
use Rattle.gv_usestate.specs.Kinds.{IsKind}
use Rattle.gv_facts.specs.States.{state}
use Rattle.gv_lower.specs.Sites.{KnownFlag}
use Rattle.gv_lower.specs.Keys.{other_key}
use Rattle.gv_lower.proofs.KeysMade.{known_here, states_end, states_next}
use Rattle.gv_lower.proofs.keys.add_states.Goals as goal

pub state_in-state-requires-clause-kind : goal.state_in-state-requires-clause-kind
state_in-state-requires-clause-kind c =
    subst (λ (p : Pkg). IsKind c.args.states.now p c.known.inside.flag.now c.known.inside.kind) (sym c.loop-known.invariant.pkg)
    (subst (λ (k : KnownFlag). IsKind c.args.states.now c.args.pkg.now k.flag k.kind) (sym c.known.view_is)
    (known_here (λ k. IsKind c.args.states.now c.args.pkg.now k.flag k.kind) c.args.flags.now c.loop-known.known-index c.known-item.result c.requires c.loop-known-test.true c.known-item.is))

pub loop-known-preserved : goal.loop-known-preserved
loop-known-preserved c = record {
  added = states_next other_key c.args.pkg.now c.loop-known.candidate.pkg c.args.states.now c.args.level c.loop-known.candidate.level c.args.flags.now c.loop-known.known-index c.known-item.result _
      c.loop-known.key.items c.push_reserved.new.self.items _ c.state_in-state.result c.other_key.result c.loop-known-test.true c.known-item.is c.known.view_is c.loop-known.invariant.pkg c.loop-known.invariant.level
      c.state_in-state.ensures.value c.other_key.ensures c.push_reserved.ensures.items c.loop-known.invariant.added;
  room = omega (arith, length-drop c.loop-known.known-index c.args.flags.now, length-drop (c.loop-known.known-index + 1) c.args.flags.now);
  pkg = ap (λ p. p.pkg) c.state_in-state.ensures.same ∙ c.loop-known.invariant.pkg;
  profile = ap (λ p. p.profile) c.state_in-state.ensures.same ∙ c.loop-known.invariant.profile;
  level = ap (λ p. p.level) c.state_in-state.ensures.same ∙ c.loop-known.invariant.level;
}

pub push_reserved-requires : goal.push_reserved-requires
push_reserved-requires c = omega (arith, length-drop c.loop-known.known-index c.args.flags.now)

pub returns-clause-ok : goal.returns-clause-ok
returns-clause-ok c =
    states_end (λ k. other_key (state c.args.pkg.now c.args.states.now c.args.level k.flag)) c.args.flags.now c.loop-known.known-index c.loop-known.key.items _ c.loop-known-test.false c.loop-known.invariant.added
    ∙ ap (λ ks. ks ++ map (λ k. other_key (state c.args.pkg.now c.args.states.now c.args.level k.flag)) c.args.flags.now) c.in_ok-reserve.ensures.items
