use Rattle.std.proofs.Common.{rules}
use Rattle.gv_checks.proofs.KeyLemmas.{required_one, required_some}
use Rattle.gv_plain.specs.Lists.{on_ok}
use Rattle.gv_checks.proofs.keys.make_required_key.Goals as goal

pub add_required_key-requires : goal.add_required_key-requires
add_required_key-requires c = required_one c.args.judged.now c.args.sites.now c.requires.sites c.in-Some.flags c.args.states.now (search rules) c.requires.states

pub returns-in-Some : goal.returns-in-Some
returns-in-Some c =
    on_ok c.add_required_key.result
    (required_some c.args.judged.now c.args.sites.now c.requires.sites c.in-Some.flags c.args.states.now c.clear.new.self.items c.add_required_key.new.key.items (search rules) c.requires.states (search rules))
    c.add_required_key.ensures.ok
