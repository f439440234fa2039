use Rattle.std.proofs.Common.{◌≡◌, ◌+◌, drop}
use Rattle.std.specs.List.{prefix_len}
use Rattle.gv_version.specs.Form.{is_in_suffixes}
use Rattle.gv_version.proofs.order.without_revision.Given as goal

abbrev pub invariant-loop-i : goal.invariant-loop-i
invariant-loop-i l = l.i + prefix_len is_in_suffixes (drop l.i l.text) ≡ prefix_len is_in_suffixes l.text
