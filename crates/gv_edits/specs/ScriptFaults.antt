-- Words of private contracts: why a script isn't read on.
use Rattle.gv_edits.specs.declared.pending.ReadFault.{ReadFault}
use Rattle.gv_edits.specs.declared.pending.ReadFault.TheVariants as read
use Rattle.gv_edits.specs.declared.script.ScriptFault.{ScriptFault}
use Rattle.gv_edits.specs.declared.script.ScriptFault.TheVariants as script

abbrev pub as_script_fault : ReadFault → ScriptFault
as_script_fault read.Failed = script.Failed
as_script_fault read.NoMemory = script.NoMemory
