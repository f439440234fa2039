use Rattle.std.proofs.Common.{◌++◌, List, refl, ap, ◌∙◌}
use Rattle.gv_load.specs.Categories.{listed, pfs_of}
use Rattle.gv_load.specs.Order.{listing_steps, pfs_steps}
use Rattle.gv_reading.specs.Reading.{Step}
use Rattle.gv_load.specs.declared.entries.PfRead.{PfRead}
use Rattle.gv_reading.specs.Passing.{ended_first, ended_then, faulted, read_then}
use Rattle.gv_load.proofs.PfLemmas.{steps_are, reads_are}
use Rattle.gv_load.proofs.entries.read_category.Goals as goal

pub returns-in_err-listing : goal.returns-in_err-listing
returns-in_err-listing g c =
    let category = c.args.category.now in
    rw (faulted c.from_residual.result c.from_residual.ensures.1) (ended_first (λ look. pfs_steps (listed look category) category (pfs_of look category)) c.in_err-listing.ensures.reads (λ look. refl))

pub returns-in_err-read_pfs : goal.returns-in_err-read_pfs
returns-in_err-read_pfs g c =
    let category = c.args.category.now in
    let listing = c.in_ok-listing.listing in
    rw (faulted c.from_residual-in_err-read_pfs.result c.from_residual-in_err-read_pfs.ensures.1) (ended_then c.in_ok-listing.ensures.reads c.in_err-read_pfs.ensures
    (λ look is. ap (λ (ss : List Step). listing_steps look category ++ ss) (steps_are look category listing.listed.keys listing.pfs is.names is.pfs)))

pub returns : goal.returns
returns g c =
    let category = c.args.category.now in
    let listing = c.in_ok-listing.listing in
    read_then c.in_ok-listing.ensures.reads c.in_ok-read_pfs.ensures (λ look is more. ap (λ (ss : List Step). listing_steps look category ++ ss) (steps_are look category listing.listed.keys listing.pfs is.names is.pfs))
    (λ look is more. more ∙ ap (λ (rs : List PfRead). c.args.reads.now ++ rs) (reads_are look category listing.listed.keys listing.pfs is.names is.pfs))
