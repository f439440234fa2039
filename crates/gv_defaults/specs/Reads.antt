-- What private contracts say of what was read of a file, item by item and in the end.
use Rattle.std.specs.Prelude.{◌≡◌, ℕ, List, Option, Some, None, zero, fold}
use Rattle.std.specs.FinMap.{get, insert}
use Rattle.gv_base.specs.ByteMap.{ByteMap}
use Rattle.gv_defaults.specs.declared.items.Item.{Item}
use Rattle.gv_defaults.specs.declared.items.Item.TheVariants.{Gap, Assignment as Assigns, Fault}
use Rattle.gv_defaults.specs.Assignments.{size, read_on, file_of}
use Rattle.gv_defaults.specs.Items.{seen}
use Rattle.gv_defaults.specs.LookUp.{text_before}
use Rattle.gv_defaults.specs.Meaning.{meaning_of}
use Rattle.gv_defaults.specs.Settings.{VarMap}
use Rattle.gv_defaults.specs.Values.{Values, value_in, with_value, values_of}
use Rattle.std.specs.Option.{unwrap_or}

-- the value earlier in the file, else the one before it
abbrev pub stands_for : ByteMap (List ℕ) → VarMap → List ℕ → List ℕ
stands_for values before name = unwrap_or (get values name) (text_before (get before) name)

-- how many bytes an item has; none of a fault
abbrev pub item_len : Item → Option ℕ
item_len (Gap len) = Some len
item_len (Assigns a) = Some (size (seen a))
item_len Fault = None

-- the values behind an item
abbrev pub with_item : VarMap → ByteMap (List ℕ) → Item → ByteMap (List ℕ)
with_item before values (Gap len) = values
with_item before values (Assigns a) = insert values a.name.now (meaning_of (stands_for values before) a.text.now)
with_item before values Fault = values

-- the map has the values
abbrev pub Keeps : ByteMap (List ℕ) → Values → Type 0
Keeps map values = (name : List ℕ) → get map name ≡ value_in values name

-- what is left of a file gives, with the values so far, what the whole file gives
pub record IsLeft (before : VarMap) (bytes : List ℕ) (values : ByteMap (List ℕ)) (line : ℕ) (rest : List ℕ) : Type 0 where
  pub so_far : Values
  pub keeps : Keeps values so_far
  pub gives : fold (with_value (text_before (get before))) so_far (read_on line zero rest).assignments ≡ values_of (text_before (get before)) (file_of bytes).assignments
  pub bad : (read_on line zero rest).bad ≡ (file_of bytes).bad

-- what was read of the whole file
pub record IsReading (before : VarMap) (bytes : List ℕ) (values : ByteMap (List ℕ)) (bad : Option ℕ) : Type 0 where
  pub keeps : Keeps values (values_of (text_before (get before)) (file_of bytes).assignments)
  pub fault : bad ≡ (file_of bytes).bad
