use Rattle.std.proofs.Common.{◌≡◌, ◌≤◌, take}
use Rattle.gv_version.specs.FormReading.{run}
use Rattle.gv_version.specs.Form.{longest_form_within}
use Rattle.gv_version.specs.declared.form.State.TheVariants.{Start}
use Rattle.gv_version.proofs.form.longest_form.Given as goal

abbrev pub invariant-loop-i : goal.invariant-loop-i
invariant-loop-i l = record {
  state : l.state ≡ run Start (take l.i l.bytes);
  longest : l.longest ≡ longest_form_within l.bytes l.i;
  within : l.longest ≤ l.i;
}
