use Rattle.std.proofs.Common.{◌≡◌, ◌++◌, length}
use Rattle.std.specs.List.{enumerate_from, filter_map}
use Rattle.gv_base.specs.declared.pieces.Cut.TheVariants.{Lines}
use Rattle.gv_base.specs.Pieces.{left}
use Rattle.gv_profcheck.specs.Unknown.{file_reports, line_report}
use Rattle.gv_profcheck.proofs.names.add_file.Given as goal

abbrev pub invariant-loop-line : goal.invariant-loop-line
invariant-loop-line l = l.reports ++ filter_map (line_report l.pkgs l.file) (enumerate_from l.number (left Lines l.rest)) ≡ l.fn.reports ++ file_reports l.pkgs l.file

abbrev pub decreases-loop-line : goal.decreases-loop-line
decreases-loop-line l = length (left Lines l.rest)
