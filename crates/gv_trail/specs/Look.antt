-- What a look at one clause finds: words of private functions.
use Rattle.std.specs.Prelude.{◌≡◌, ℕ, ◌+◌, nat_eq, Bool, if◌then◌else◌, Option, Some, None, List, [], ◌∷◌}
use Rattle.gv_logic.specs.Literals.{opposite}
use Rattle.gv_logic.specs.Partial.{is_true, is_other, Has}
use Rattle.gv_trail.specs.declared.look.Look.{Look}
use Rattle.gv_trail.specs.declared.look.Picked.{Picked}
use Rattle.gv_trail.specs.declared.look.Look.TheVariants.{Quiet, AllFalse, OneLeft}

abbrev pub look_end : Option ℕ → Look
look_end None = AllFalse
look_end (Some lit) = OneLeft lit

-- `left` is the literal that isn't assigned, among those before
abbrev pub look_after : List Bool → Option ℕ → List ℕ → Look
look_after on left [] = look_end left
look_after on left (lit ∷ lits) =
    if is_true on lit then Quiet
    else if is_true on (opposite lit) then look_after on left lits
    else if is_other left lit then Quiet
    else look_after on (Some lit) lits

-- the first literal but this one that isn't false
abbrev pub open_other : List Bool → ℕ → List ℕ → Option ℕ
open_other on but [] = None
open_other on but (lit ∷ lits) =
    if nat_eq lit but then open_other on but lits
    else if is_true on (opposite lit) then open_other on but lits
    else Some lit

-- a literal that isn't this one
pub record IsOther (but : ℕ) (lits : List ℕ) (l : ℕ) : Type 0 where
  pub has : Has l lits
  pub differ : l ≡ but → ⊥

-- two literals of a clause that differ
pub record IsPicked (lits : List ℕ) (p : Picked) : Type 0 where
  pub first : Has p.first lits
  pub second : Has p.second lits
  pub differ : p.first ≡ p.second → ⊥

-- how many of the literals that are true stand before the one that makes this one false
abbrev pub open_to : ℕ → List ℕ → ℕ
open_to lit [] = 0
open_to lit (x ∷ xs) = if nat_eq x (opposite lit) then 0 else open_to lit xs + 1
