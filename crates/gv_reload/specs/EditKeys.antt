-- For private contracts: the texts by which edited entries are looked up.
use Rattle.std.specs.Prelude.{◌≡◌, ℕ, List, map}
use Rattle.gv_base.specs.Order.{has_text}
use Rattle.gv_reading.specs.Paths.{within}
use Rattle.gv_reload.specs.EntryEdits.{entry_name}
use Rattle.gv_load.specs.Paths.{entry_path}

-- what follows the folder of entries in the paths, and the names of their packages
pub record AreKeys (paths entries names : List (List ℕ)) : Type 0 where
  pub entries_are : (category pf : List ℕ) → has_text entries (within category pf) ≡ has_text paths (entry_path category pf)
  pub names_are : names ≡ map entry_name paths
