use Rattle.gv_plain.specs.Shown.{numbered_at}
use Rattle.gv_plain.proofs.plainly.add_members.Goals as goal

pub tell_member-requires : goal.tell_member-requires
tell_member-requires c = record {
  numbered = numbered_at c.args.viewed.now.repo c.index-pkgs-i.result c.in-Ok.number c.loop-i.i c.in-Ok.ensures.1 c.args.pkgs.now c.requires.pkgs c.loop-i-test.true c.index-pkgs-i.is;
}
