use Rattle.std.proofs.Common.{refl, sym}
use Rattle.gv_expr.specs.Dep.{deps}
use Rattle.gv_expr.specs.Mentions.{dep_mentions, wanted_atoms}
use Rattle.gv_visible.specs.Candidates.{pkgs_of}
use Rattle.gv_lower.specs.Around.{parent_of}
use Rattle.gv_lower.proofs.KeysMade.{class_made, flags_are_known, sites_are_known}
use Rattle.gv_lower.proofs.keys.add_class_key.Goals as goal

pub add_own-requires : goal.add_own-requires
add_own-requires g c =
    flags_are_known c.kind_law.ensures c.args.sites.now.profiles c.args.states.now c.requires.one c.args.sites.now.of (dep_mentions (deps c.args.sites.now.class)) c.flags.result.now c.pkg.result.now c.flags.ensures c.pkg.ensures

pub add_atoms-requires-clause-known : goal.add_atoms-requires-clause-known
add_atoms-requires-clause-known g c =
    sites_are_known c.kind_law.ensures c.args.sites.now.profiles c.args.states.now c.requires.one c.args.sites.now.pkgs (wanted_atoms (deps c.args.sites.now.class)) c.atoms.result.now (pkgs_of c.args.candidates.now) c.atoms.ensures
    (sym c.requires.pkgs)

pub returns-in-Ok-clause-ok : goal.returns-in-Ok-clause-ok
returns-in-Ok-clause-ok g c =
    class_made (parent_of c.args.candidates.now c.args.sites.now.of) c.args.sites.now.profiles c.args.sites.now.class c.pkg.result.now c.args.states.now
    (pkgs_of c.args.candidates.now) c.flags.result.now c.atoms.result.now c.args.key.now.items c.add_own.new.key.items c.add_atoms.new.key.items c.flags.ensures
    (rw c.requires.pkgs at c.atoms.ensures) c.pkg.ensures c.requires.profile refl (rw c.level.ensures at c.in_ok-add_own.ensures.ok) c.in-Ok.ensures.ok
