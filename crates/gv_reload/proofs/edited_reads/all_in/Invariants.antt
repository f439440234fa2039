use Rattle.std.proofs.Common.{◌≡◌, ◌++◌, drop}
use Rattle.std.specs.Prelude.{filter_map}
use Rattle.gv_reload.specs.Rereading.{pf_in}
use Rattle.gv_reload.proofs.edited_reads.all_in.Given as goal

abbrev pub invariant-loop-path : goal.invariant-loop-path
invariant-loop-path l = l.pfs ++ filter_map (pf_in l.category) (drop l.path-index l.paths) ≡ filter_map (pf_in l.category) l.paths
