-- The watches as their fields keep them: a word of private functions.
use Rattle.gv_trail.specs.declared.watches.Watches.{Watches}
use Rattle.gv_trail.specs.Links.{Links}

abbrev pub links_of : Watches → Links
links_of w = record { nodes = w.nodes.items; chains = w.chains.items; waiting = w.waiting }
