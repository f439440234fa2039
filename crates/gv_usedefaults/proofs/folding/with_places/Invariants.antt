use Rattle.std.proofs.Common.{◌≡◌, drop}
use Rattle.std.specs.Prelude.{fold}
use Rattle.gv_usedefaults.specs.PrivateWords.{vars_at}
use Rattle.gv_usedefaults.proofs.folding.with_places.Given as goal

abbrev pub invariant-loop-place : goal.invariant-loop-place
invariant-loop-place l = fold (vars_at l.files) l.vars (drop l.place-index l.places) ≡ fold (vars_at l.files) l.fn.vars l.places
