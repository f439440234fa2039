use Rattle.std.proofs.Common.{◌≡◌, ◌++◌, ◌∷◌, [], subst, sym}
use Rattle.std.specs.List.{AllByRecursion}
use Rattle.gv_lower.specs.KeysAround.{Begins, IsKnownAt, place_key, site_key}
use Rattle.gv_visible.specs.Candidates.{level_of, pkgs_of}
use Rattle.gv_lower.proofs.KeysMade.{begins_behind, begins_more, keys_closed, keys_next, known_here, no_ok, on_err}
use Rattle.gv_lower.proofs.keys.add_atom.Goals as goal

pub add_shown-requires-clause-known : goal.add_shown-requires-clause-known
add_shown-requires-clause-known g c =
    known_here (IsKnownAt c.args.states.now (pkgs_of c.args.candidates.now)) c.places-place-items.result.now c.loop-place.place-index c.place-item.result
    (subst (AllByRecursion (IsKnownAt c.args.states.now (pkgs_of c.args.candidates.now))) (sym c.places-place-items.ensures) c.requires.known) c.loop-place-test.true c.place-item.is

pub loop-place-preserved : goal.loop-place-preserved
loop-place-preserved g c =
    record {
      added = keys_next (place_key c.args.states.now (level_of c.args.candidates.now) (pkgs_of c.args.candidates.now)) c.args.site.now c.places-place-items.result.now c.loop-place.place-index c.places-place-items.ensures
          c.place-item.result c.loop-place.key.items c.add_shown.new.key.items _ c.loop-place-test.true c.place-item.is c.loop-place.invariant.added c.in_ok-add_shown.ensures.ok;
      begins = begins_more c.args.key.now.items c.loop-place.key.items c.add_shown.new.key.items _ c.loop-place.invariant.begins c.in_ok-add_shown.ensures.ok;
    }

pub returns-in_err-add_shown-clause-err : goal.returns-in_err-add_shown-clause-err
returns-in_err-add_shown-clause-err g c = begins_behind c.from_residual.result c.args.key.now.items c.loop-place.key.items c.add_shown.new.key.items c.loop-place.invariant.begins c.in_err-add_shown.ensures.err

pub returns-clause-ok : goal.returns-clause-ok
returns-clause-ok g c =
    keys_closed (place_key c.args.states.now (level_of c.args.candidates.now) (pkgs_of c.args.candidates.now)) c.args.site.now c.places-place-items.result.now c.loop-place.place-index c.places-place-items.ensures
    c.args.key.now.items c.loop-place.key.items c.push.new.self.items (0 ∷ []) c.loop-place-test.false c.loop-place.invariant.added c.in_ok-push.ensures.items

pub returns-in_err-push-clause-err : goal.returns-in_err-push-clause-err
returns-in_err-push-clause-err g c = on_err c.from_residual-in_err-push.result (subst (Begins c.args.key.now.items) (sym c.in_err-push.ensures.items) c.loop-place.invariant.begins)

pub returns-in_err-add_shown-clause-ok : goal.returns-in_err-add_shown-clause-ok
returns-in_err-add_shown-clause-ok g c = no_ok (c.add_shown.new.key.items ≡ c.args.key.now.items ++ site_key c.args.states.now (level_of c.args.candidates.now) (pkgs_of c.args.candidates.now) c.args.site.now) c.from_residual.result c.from_residual.ensures.0

pub returns-in_err-push-clause-ok : goal.returns-in_err-push-clause-ok
returns-in_err-push-clause-ok g c = no_ok (c.push.new.self.items ≡ c.args.key.now.items ++ site_key c.args.states.now (level_of c.args.candidates.now) (pkgs_of c.args.candidates.now) c.args.site.now) c.from_residual-in_err-push.result c.from_residual-in_err-push.ensures.0
