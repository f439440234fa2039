use Rattle.std.proofs.Common.{◌≡◌, List, ◌++◌, drop}
use Rattle.gv_cert.specs.Known.{KnownRecord}
use Rattle.gv_ending.specs.Fetching.{AreJoined}
use Rattle.gv_ending.proofs.fetching.fetch_joined.Given as goal

-- what is joined, and then the records of the paths behind, are those of all
abbrev pub invariant-loop-path : goal.invariant-loop-path
invariant-loop-path g l = record {
  joins : (rest : List KnownRecord) → AreJoined (g.K.Store.files l.fn.store) (drop l.path-index l.paths) rest → AreJoined (g.K.Store.files l.fn.store) l.paths (l.joined ++ rest);
  files : g.K.Store.files l.store ≡ g.K.Store.files l.fn.store;
  calm : g.K.Store.faults l.store ≡ g.K.Store.faults l.fn.store;
}
