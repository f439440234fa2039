use Rattle.gv_encode.proofs.Ranges.{turned_named}
use Rattle.gv_encode.proofs.encoding.add_whole_of_opposites.Goals as goal

pub add-requires : goal.add-requires
add-requires c =
    turned_named c.args.clauses.now.variables c.args.first c.loop-lit.lit-index c.args.lits.now c.loop-lit.turned.items c.deref.result.now c.deref.ensures.value c.loop-lit.invariant c.requires.first c.requires.named
