use Rattle.std.proofs.Common.{◌≡◌, drop}
use Rattle.std.specs.List.{list_all}
use Rattle.gv_base.specs.Paths.{is_part}
use Rattle.gv_views.proofs.layout.are_parts.Given as goal

abbrev pub invariant-loop-text : goal.invariant-loop-text
invariant-loop-text l = list_all is_part (drop l.text-index l.texts) ≡ list_all is_part l.texts
