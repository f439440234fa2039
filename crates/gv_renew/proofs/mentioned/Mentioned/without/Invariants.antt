use Rattle.std.proofs.Common.{◌≡◌, ◌++◌, drop, map, length}
use Rattle.std.specs.Prelude.{filter}
use Rattle.std.specs.Vec.Iter.{into_iter_items, into_iter_len}
use Rattle.gv_reload.specs.EntryEdits.{is_other, together}
use Rattle.gv_renew.specs.Mentioned.{member_body, other_bodies}
use Rattle.gv_renew.proofs.mentioned.Mentioned.without.Given as goal

-- those so far, with those of the rest, are all
abbrev pub invariant-loop-pkg : goal.invariant-loop-pkg
invariant-loop-pkg l = record {
  count : into_iter_len l.all ≡ length (into_iter_items l.all);
  rest : into_iter_items l.all ≡ drop l.pkg-index l.repo.bodies;
  kept : l.packages.items ++ map member_body (filter (is_other l.edits) (together (drop l.pkg-index l.pkg-items) (drop l.pkg-index l.repo.bodies))) ≡ other_bodies l.edits l.repo;
}
