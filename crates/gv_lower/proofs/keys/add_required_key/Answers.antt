use Rattle.gv_expr.specs.Mentions.{req_mentions}
use Rattle.gv_expr.specs.Required.{reqs}
use Rattle.gv_lower.proofs.KeysMade.{flags_are_known, on_ok, required_made}
use Rattle.gv_lower.proofs.keys.add_required_key.Goals as goal

pub add_own-requires : goal.add_own-requires
add_own-requires c =
    flags_are_known c.kind_law.ensures c.args.flags.now.profiles c.args.states.now c.requires c.args.flags.now.of (req_mentions (reqs c.args.flags.now.required)) c.flags.result.now c.pkg.result.now c.flags.ensures c.pkg.ensures

pub returns : goal.returns
returns c = record {
  ok = on_ok c.add_own.result
      (required_made c.args.flags.now.profiles c.args.flags.now.of c.args.states.now c.args.level c.args.flags.now.required c.flags.result.now c.pkg.result.now c.args.key.now.items c.add_own.new.key.items c.flags.ensures c.pkg.ensures)
      c.add_own.ensures.ok;
  err = c.add_own.ensures.err;
}
