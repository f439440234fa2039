use Rattle.std.proofs.Common.{◌≡◌, drop}
use Rattle.std.specs.List.{list_any}
use Rattle.gv_profcheck.specs.Redundant.{is_offer}
use Rattle.gv_profcheck.proofs.versions.has_some_offer.Given as goal

abbrev pub invariant-loop-keyword : goal.invariant-loop-keyword
invariant-loop-keyword l = list_any is_offer (drop l.keyword-index l.keywords) ≡ list_any is_offer l.keywords
