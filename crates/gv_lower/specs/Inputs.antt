-- The flags of a query as inputs: in byte order, and not too many.
use Rattle.std.specs.Prelude.{ℕ, ◌≤◌, List, length}
use Rattle.gv_base.specs.Order.{IsAscending}

pub record AreInputs (flags : List (List ℕ)) : Type 0 where
  pub few : length flags ≤ 4096
  pub ascend : IsAscending flags
