-- What a look at a literal's value tells.
use Rattle.std.proofs.Common.{◌≡◌, inl, inr, ℕ, ◌+◌, ◌*◌, Bool, true, false, cond, Some, None, List, refl}
use Rattle.gv_logic.specs.Literals.{opposite}
use Rattle.gv_logic.specs.Partial.{is_true}
use Rattle.gv_trail.specs.Entries.{value_of}
use Rattle.gv_solver.specs.Search.{IsAssigned}
use Rattle.gv_logic.specs.Opposites.{opposite_odd}

look_is : (on : List Bool) (l : ℕ) (b : Bool) → value_of on l ≡ Some b → is_true on (cond b l (opposite l)) ≡ true
look_is on l b v = by (is_true on l) refl (is_true on (opposite l)) refl b v
  where
    by : (u : Bool) → is_true on l ≡ u → (w : Bool) → is_true on (opposite l) ≡ w → (c : Bool) → cond u (Some true) (cond w (Some false) None) ≡ Some c → is_true on (cond c l (opposite l)) ≡ true
    by true t w o true v = t
    by true t w o false v = cc
    by false t true o true v = cc
    by false t true o false v = o
    by false t false o c v = cc

pub look_on : (on : List Bool) (l : ℕ) → value_of on l ≡ Some true → is_true on l ≡ true
look_on on l v = look_is on l true v

-- of the literal that puts an input off
pub look_off : (on : List Bool) (i : ℕ) → value_of on (2 * i + 1) ≡ Some false → is_true on (2 * i) ≡ true
look_off on i v = let o : opposite (2 * i + 1) ≡ 2 * i = opposite_odd i in rw o at (look_is on (2 * i + 1) false v)

pub look_assigned : (on : List Bool) (i : ℕ) (b : Bool) → value_of on (2 * i + 1) ≡ Some b → IsAssigned on i
look_assigned on i true v = inr (look_on on (2 * i + 1) v)
look_assigned on i false v = inl (look_off on i v)

look_none : (on : List Bool) (l : ℕ) → value_of on l ≡ None → (is_true on l ≡ false) × (is_true on (opposite l) ≡ false)
look_none on l v = by (is_true on l) refl (is_true on (opposite l)) refl v
  where
    by : (u : Bool) → is_true on l ≡ u → (w : Bool) → is_true on (opposite l) ≡ w → cond u (Some true) (cond w (Some false) None) ≡ None → (is_true on l ≡ false) × (is_true on (opposite l) ≡ false)
    by true t w o v = cc
    by false t true o v = cc
    by false t false o v = (t, o)

pub look_free : (on : List Bool) (i : ℕ) → value_of on (2 * i + 1) ≡ None → (is_true on (2 * i + 1) ≡ false) × (is_true on (2 * i) ≡ false)
look_free on i v = let o : opposite (2 * i + 1) ≡ 2 * i = opposite_odd i in rw o at (look_none on (2 * i + 1) v)
