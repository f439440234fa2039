use Rattle.gv_visible.specs.Candidates.{level_of, pkgs_of}
use Rattle.std.specs.List.{AllByRecursion}
use Rattle.gv_lower.specs.KeysAround.{IsKnownAt, site_key}
use Rattle.gv_lower.proofs.KeysMade.{begins_behind, begins_more, keys_end, keys_next, known_here, no_ok}
use Rattle.gv_lower.proofs.keys.add_atoms.Goals as goal
use Rattle.std.proofs.Common.{◌≡◌, ◌++◌, refl}
use Rattle.std.specs.Prelude.{flat_map}

pub add_atom-requires-clause-known : goal.add_atom-requires-clause-known
add_atom-requires-clause-known g c =
    known_here (AllByRecursion (IsKnownAt c.args.states.now (pkgs_of c.args.candidates.now))) c.args.sites.now c.loop-site.site-index c.site-item.result c.requires.known c.loop-site-test.true c.site-item.is

pub loop-site-preserved : goal.loop-site-preserved
loop-site-preserved g c =
    record {
      added = keys_next (site_key c.args.states.now (level_of c.args.candidates.now) (pkgs_of c.args.candidates.now)) c.args.sites.now c.args.sites.now c.loop-site.site-index refl
          c.site-item.result c.loop-site.key.items c.add_atom.new.key.items _ c.loop-site-test.true c.site-item.is c.loop-site.invariant.added c.in_ok-add_atom.ensures.ok;
      begins = begins_more c.args.key.now.items c.loop-site.key.items c.add_atom.new.key.items _ c.loop-site.invariant.begins c.in_ok-add_atom.ensures.ok;
    }

pub returns-in_err-add_atom-clause-err : goal.returns-in_err-add_atom-clause-err
returns-in_err-add_atom-clause-err g c = begins_behind c.from_residual.result c.args.key.now.items c.loop-site.key.items c.add_atom.new.key.items c.loop-site.invariant.begins c.in_err-add_atom.ensures.err

pub returns-clause-ok : goal.returns-clause-ok
returns-clause-ok g c =
    keys_end (site_key c.args.states.now (level_of c.args.candidates.now) (pkgs_of c.args.candidates.now)) c.args.sites.now c.args.sites.now c.loop-site.site-index refl
    c.loop-site.key.items _ c.loop-site-test.false c.loop-site.invariant.added

pub returns-in_err-add_atom-clause-ok : goal.returns-in_err-add_atom-clause-ok
returns-in_err-add_atom-clause-ok g c = no_ok (c.add_atom.new.key.items ≡ c.args.key.now.items ++ flat_map (site_key c.args.states.now (level_of c.args.candidates.now) (pkgs_of c.args.candidates.now)) c.args.sites.now) c.from_residual.result c.from_residual.ensures.0
