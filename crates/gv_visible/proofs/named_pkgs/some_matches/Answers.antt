use Rattle.std.proofs.Common.{refl}
use Rattle.gv_visible.proofs.Matched.{at_named}
use Rattle.gv_visible.proofs.named_pkgs.some_matches.Goals as goal

pub returns : goal.returns
returns c = rw (c.some_match.ensures, c.items.ensures, c.named.ensures.places, at_named c.args.atom.now c.args.pkgs.now) refl
