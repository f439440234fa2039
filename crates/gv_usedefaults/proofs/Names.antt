-- USE is incremental.
use Rattle.std.proofs.Common.{◌≡◌, true, ℕ, List}
use Rattle.std.specs.Prelude.{◌↔◌, codes}
use Rattle.gv_defaults.specs.Incremental.{is_incremental}
use Rattle.gv_defaults.specs.IncrementalNames.{IsIncremental}
use Rattle.gv_usedefaults.specs.Defaults.{use_name}

pub use_incremental : ((name : List ℕ) → (is_incremental name ≡ true) ↔ IsIncremental name) → is_incremental (codes "USE") ≡ true
use_incremental law = (law (codes "USE")).1 IsIncremental.use_flags
