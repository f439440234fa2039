use Rattle.std.proofs.Common.{◌≡◌, ◌||◌, ℕ, List, drop}
use Rattle.std.specs.List.{list_any}
use Rattle.gv_usestate.specs.NamedPkgs.{has_key, names_pkg}
use Rattle.gv_usestate.proofs.named_pkgs.named_by.Given as goal

abbrev pub invariant-loop-rule : goal.invariant-loop-rule
invariant-loop-rule l = (category name : List ℕ) → (has_key l.keys.keys category name || list_any (names_pkg category name) (drop l.rule-index l.rules)) ≡ list_any (names_pkg category name) l.rules
