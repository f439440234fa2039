use Rattle.std.proofs.Common.{◌≡◌, ◌++◌, drop, map, length}
use Rattle.std.specs.Prelude.{filter}
use Rattle.std.specs.Vec.Iter.{into_iter_items, into_iter_len}
use Rattle.gv_reload.specs.EntryEdits.{is_other, together}
use Rattle.gv_renew.specs.Mentioned.{member_body}
use Rattle.gv_renew.proofs.mentioned.Mentioned.with.Given as goal

-- those so far, with those of the rest, are all
abbrev pub invariant-loop-i : goal.invariant-loop-i
invariant-loop-i l = record {
  count : into_iter_len l.kept ≡ length (into_iter_items l.kept);
  rest : into_iter_items l.kept ≡ map member_body (filter (is_other l.edits) (together (drop l.i l.repo.pkgs) (drop l.i l.repo.bodies)));
  made : l.packages.items ++ drop l.i l.repo.bodies ≡ l.repo.bodies;
}
