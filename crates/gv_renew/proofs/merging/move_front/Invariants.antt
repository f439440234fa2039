use Rattle.std.proofs.Common.{◌≡◌, ◌++◌, ◌-◌, take, drop}
use Rattle.gv_renew.proofs.merging.move_front.Given as goal

abbrev pub invariant-loop : goal.invariant-loop
invariant-loop l = record {
  woven : l.woven.items ++ take (l.count - l.counter) l.rest.items ≡ l.fn.woven.items ++ take l.count l.fn.rest.items;
  rest : drop (l.count - l.counter) l.rest.items ≡ drop l.count l.fn.rest.items;
}
