use Rattle.gv_probe.proofs.usestate.state_by_kind.Goals as goal

pub state_in-requires-clause-kind : goal.state_in-requires-clause-kind
state_in-requires-clause-kind c =
    rw (c.new-seen.ensures, c.kind-kind.ensures) (c.kind_law.ensures c.args.ruled.now c.args.states.now c.args.pkg.now c.args.flag.now c.requires)
