use Rattle.std.proofs.Common.{◌≡◌, Some, rules}
use Rattle.gv_visible.specs.Candidates.{level_of, pkgs_of, profile_of}
use Rattle.gv_checks.specs.Keys.{sites_at}
use Rattle.gv_checks.proofs.KeyLemmas.{key_none, key_some, sites_among, sites_one}
use Rattle.gv_plain.specs.Lists.{on_ok}
use Rattle.gv_checks.proofs.keys.PkgSites.add_key.Goals as goal

pub returns-in-None : goal.returns-in-None
returns-in-None g c = key_none c.args.judged.now c.args.states.now c.args.self.now c.args.required.now c.requires.parts c.args.class c.args.key.now.items c.extend_from_slice.new.self.items (search rules) (search rules)

pub add_class_key-requires-clause-pkgs : goal.add_class_key-requires-clause-pkgs
add_class_key-requires-clause-pkgs g c =
    let some : Some c.in-Some.sites.now ≡ sites_at c.args.self.now c.args.class = search rules in
    sites_among c.args.judged.now c.args.states.now c.args.self.now c.args.required.now c.requires.parts c.args.class c.in-Some.sites.now some (pkgs_of c.args.candidates.now) c.requires.around.pkgs_are

pub add_class_key-requires-clause-one : goal.add_class_key-requires-clause-one
add_class_key-requires-clause-one g c =
    let some : Some c.in-Some.sites.now ≡ sites_at c.args.self.now c.args.class = search rules in
    sites_one c.args.judged.now c.args.states.now c.args.self.now c.args.required.now c.requires.parts c.args.class c.in-Some.sites.now some

pub returns-in-Some : goal.returns-in-Some
returns-in-Some g c =
    let some : Some c.in-Some.sites.now ≡ sites_at c.args.self.now c.args.class = search rules in
    on_ok c.add_class_key.result
    (key_some c.args.judged.now c.args.states.now c.args.self.now c.args.required.now c.requires.parts c.args.class c.in-Some.sites.now some c.args.key.now.items c.extend_from_slice.new.self.items c.add_class_key.new.key.items (search rules)
    (profile_of c.args.candidates.now) (level_of c.args.candidates.now) (pkgs_of c.args.candidates.now) c.requires.around.profile_is c.requires.around.level_is c.requires.around.pkgs_are)
    c.add_class_key.ensures.ok
