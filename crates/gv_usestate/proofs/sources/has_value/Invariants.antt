use Rattle.std.proofs.Common.{◌≡◌, drop}
use Rattle.gv_base.specs.Order.{has_text}
use Rattle.gv_facts.specs.Effective.{values_of}
use Rattle.gv_usestate.proofs.sources.has_value.Given as goal

abbrev pub invariant-loop-list : goal.invariant-loop-list
invariant-loop-list l = has_text (values_of (drop l.list-index l.values) l.name) l.word ≡ has_text (values_of l.values l.name) l.word
