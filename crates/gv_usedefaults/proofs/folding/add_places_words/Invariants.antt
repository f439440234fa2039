use Rattle.std.proofs.Common.{◌≡◌, ◌++◌, drop}
use Rattle.std.specs.Prelude.{flat_map}
use Rattle.gv_usedefaults.specs.Defaults.{file_words}
use Rattle.gv_usedefaults.specs.PrivateWords.{added_at}
use Rattle.gv_usedefaults.proofs.folding.add_places_words.Given as goal

abbrev pub invariant-loop-place : goal.invariant-loop-place
invariant-loop-place l = l.rules ++ flat_map (added_at file_words l.files) (drop l.place-index l.places) ≡ l.fn.rules ++ flat_map (added_at file_words l.files) l.places
