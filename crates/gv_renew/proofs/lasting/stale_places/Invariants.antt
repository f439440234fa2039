use Rattle.std.proofs.Common.{[], length}
use Rattle.gv_renew.specs.Lasting.{IsLeft}
use Rattle.gv_renew.specs.Touched.{is_stale_by}
use Rattle.gv_renew.proofs.lasting.stale_places.Given as goal

abbrev pub invariant-loop-run : goal.invariant-loop-run
invariant-loop-run l = IsLeft (is_stale_by l.edits l.touched) 0 l.before [] l.at l.rest l.places.items

abbrev pub decreases-loop-run : goal.decreases-loop-run
decreases-loop-run l = length l.rest
