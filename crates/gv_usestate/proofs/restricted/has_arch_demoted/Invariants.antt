use Rattle.std.proofs.Common.{◌≡◌, drop, map}
use Rattle.gv_base.specs.Order.{has_text}
use Rattle.gv_facts.specs.States.{as_testing}
use Rattle.gv_usestate.proofs.restricted.has_arch_demoted.Given as goal

abbrev pub invariant-loop-keyword : goal.invariant-loop-keyword
invariant-loop-keyword l = has_text (map as_testing (drop l.keyword-index l.keywords)) l.arch ≡ has_text (map as_testing l.keywords) l.arch
