use Rattle.std.proofs.Common.{ap, ◌∙◌}
use Rattle.std.specs.List.{filter_map}
use Rattle.gv_base.specs.Order.{in_order}
use Rattle.gv_base.specs.Listing.{next_part}
use Rattle.gv_base.proofs.Listings.{parts_below}
use Rattle.gv_base.proofs.file_map.Files.names_below.Goals as goal

pub loop-key-init : goal.loop-key-init
loop-key-init c =
    let part = next_part c.args.path.now in
    rw c.new-names.ensures.empty
    (ap (λ es. in_order (filter_map (λ e. part e.0.items) es)) c.into_iter-key-iterator.ensures.into_iter_gives
    ∙ ap in_order (parts_below c.args.self.now c.args.path.now c.in_ok-items.items c.in_ok-items.ensures))
