-- What the program's parts and faults stand for, for the contracts of private functions.
use Rattle.std.specs.Prelude.{◌≡◌, ℕ, ◌+◌, length, Option, Some}
use Rattle.gv_atom.specs.Reading.{Division, Fault}
use Rattle.gv_atom.specs.declared.dividing.Division as code
use Rattle.gv_atom.specs.declared.fault.AtomFault.{AtomFault}
use Rattle.gv_atom.specs.declared.fault.AtomFault.TheVariants.{Bad, NoMemory}

abbrev pub shown : code.Division → Division
shown d = record {
  block = d.block;
  op = d.op;
  start = d.start;
  name_part = d.name_part.now;
  slot_part = d.slot_part.now;
  item_part = d.item_part.now;
}

-- where the bytes end
abbrev pub end_place : Division → ℕ
end_place d = d.start + length d.name_part + length d.slot_part + length d.item_part

-- the fault of a part
abbrev pub IsPartFault : Option Fault → AtomFault → Type 0
IsPartFault found (Bad kind at) = found ≡ Some (kind, at)
IsPartFault found NoMemory = Unit {0}
