use Rattle.std.proofs.Common.{◌∙◌}
use Rattle.gv_base.proofs.Listings.{folder_next}
use Rattle.gv_base.proofs.file_map.Files.is_folder.Goals as goal

pub returns : goal.returns
returns c = c.is_some.ensures ∙ folder_next c.args.self.now c.args.path.now c.next.result (λ x. (x.0.now, x.1.now)) c.in_ok-below.field-0 c.next.new.self c.next.ensures.steps c.in_ok-below.ensures
