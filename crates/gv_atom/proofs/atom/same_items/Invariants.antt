use Rattle.std.proofs.Common.{◌≡◌, drop}
use Rattle.gv_atom.proofs.atom.same_items.Given as goal

abbrev pub invariant-loop-item : goal.invariant-loop-item
invariant-loop-item l = record {
  yes : drop l.item-index l.a ≡ l.rest → l.a ≡ l.b;
  no : l.a ≡ l.b → drop l.item-index l.a ≡ l.rest;
}
