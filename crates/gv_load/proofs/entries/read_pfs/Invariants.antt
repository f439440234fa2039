use Rattle.std.proofs.Common.{◌≡◌, ◌++◌, drop, map, true}
use Rattle.std.specs.List.{list_all}
use Rattle.gv_load.specs.Categories.{is_pf}
use Rattle.gv_reading.specs.Causes.{view}
use Rattle.gv_load.specs.Entries.{pf_read}
use Rattle.gv_load.specs.Order.{pfs_steps}
use Rattle.gv_reading.specs.Passing.{IsAmid}
use Rattle.gv_load.proofs.entries.read_pfs.Given as goal

-- what was read so far and that of the other PFs is all
abbrev pub invariant-loop-pf : goal.invariant-loop-pf
invariant-loop-pf g l =
    let see = view g.T.Tree.files g.T.Tree.faults g.T.Tree.entered g.T.Tree.lent in
    record {
      amid : IsAmid (see l.fn.tree) (see l.tree) l.fn.reader l.reader (λ look. pfs_steps l.listed.keys l.category (drop l.pf-index l.pfs)) (λ look. pfs_steps l.listed.keys l.category l.pfs)
          (λ look. l.reads ++ map (pf_read look l.listed.keys l.category) (drop l.pf-index l.pfs) ≡ l.fn.reads ++ map (pf_read look l.listed.keys l.category) l.pfs);
      pfs : list_all is_pf (drop l.pf-index l.pfs) ≡ true;
    }
