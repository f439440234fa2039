use Rattle.std.proofs.Common.{◌≡◌, None, drop}
use Rattle.std.specs.Prelude.{fold}
use Rattle.gv_usedefaults.specs.FlagWords.{behind_at}
use Rattle.gv_usedefaults.proofs.flag_values.last_at.Given as goal

abbrev pub invariant-loop-place : goal.invariant-loop-place
invariant-loop-place l = fold (behind_at l.pkg l.rules) l.said (drop l.place-index l.places) ≡ fold (behind_at l.pkg l.rules) None l.places
