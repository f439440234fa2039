use Rattle.std.proofs.Common.{◌≡◌, ◌++◌, drop}
use Rattle.gv_profcheck.specs.Unknown.{unknown_reports}
use Rattle.gv_profcheck.proofs.names.unknown_in.Given as goal

abbrev pub invariant-loop-file : goal.invariant-loop-file
invariant-loop-file l = l.reports ++ unknown_reports l.pkgs (drop l.file-index l.files) ≡ unknown_reports l.pkgs l.files
