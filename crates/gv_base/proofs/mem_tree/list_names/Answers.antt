use Rattle.gv_base.proofs.Listings.{listing_of}
use Rattle.gv_base.proofs.mem_tree.list_names.Goals as goal

pub returns-clause-parts : goal.returns-clause-parts
returns-clause-parts c = listing_of c.args.files.now c.args.path.now c.in_ok-names.names c.in_ok-names.ensures
