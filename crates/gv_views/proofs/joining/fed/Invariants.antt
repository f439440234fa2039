use Rattle.std.proofs.Common.{◌≡◌, ◌++◌, drop}
use Rattle.gv_views.specs.Views.{fed}
use Rattle.gv_views.proofs.joining.fed.Given as goal

abbrev pub invariant-loop-file : goal.invariant-loop-file
invariant-loop-file l = l.text ++ fed (drop l.file-index l.files) ≡ fed l.files
