-- The first fault of a list of tokens (the kinds and places are a format of this project).
use Rattle.std.specs.Prelude.{ℕ, ◌+◌, ◌-◌, Bool, true, false, ◌||◌, not, is_none, nat_lt, nat_eq, if◌then◌else◌, List, [], ◌∷◌, Option, Some, None}
use Rattle.gv_version.specs.Names.{is_flag}
use Rattle.gv_atom.specs.Reading.{atom_fault}
use Rattle.gv_expr.specs.declared.token.Token.{Token}
use Rattle.gv_expr.specs.declared.token.Token.TheVariants.{Open, Close, Any, One, Most, If, Word}
use Rattle.gv_expr.specs.declared.fault.ExprKind.{ExprKind}
use Rattle.gv_expr.specs.declared.fault.ExprKind.TheVariants as kinds
use Rattle.gv_expr.specs.Token.{without_sign}

-- what a dependency and a REQUIRED_USE ask of a leaf, and of `^^` and `??`
pub record Language : Type 0 where
  pub leaf_fault : List ℕ → Option ExprKind
  pub count_fault : Option ExprKind

abbrev pub unless : Bool → ExprKind → Option ExprKind
unless good kind = if good then None else Some kind

abbrev pub dependency : Language
dependency = record { leaf_fault = λ text. unless (is_none (atom_fault text)) kinds.BadAtom; count_fault = Some kinds.NotHere }

abbrev pub required_use : Language
required_use = record { leaf_fault = λ text. unless (is_flag (without_sign text)) kinds.BadFlag; count_fault = None }

-- a token that needs `(` after it
abbrev pub is_head : Token → Bool
is_head Any = true
is_head One = true
is_head Most = true
is_head (If flag negated) = true
is_head token = false

-- the number of open groups after a token
abbrev pub depth_after : Token → ℕ → ℕ
depth_after Open depth = depth + 1
depth_after Close depth = depth - 1
depth_after token depth = depth

-- the fault of a token after a head or not, inside of so many open groups
abbrev pub fault_of : Language → Token → (head : Bool) → (depth : ℕ) → Option ExprKind
fault_of l Open head depth = unless (nat_lt depth 64) kinds.Depth
fault_of l Close head depth = unless (not (head || nat_eq depth 0)) kinds.Stray
fault_of l Any head depth = unless (not head) kinds.Stray
fault_of l One head depth = if head then Some kinds.Stray else l.count_fault
fault_of l Most head depth = if head then Some kinds.Stray else l.count_fault
fault_of l (If flag negated) head depth = if head then Some kinds.Stray else unless (is_flag flag) kinds.BadFlag
fault_of l (Word text) head depth = if head then Some kinds.Stray else l.leaf_fault text

abbrev pub fault_here : Language → ℕ → Token → Bool → ℕ → Option ExprKind
fault_here l number token head depth = if nat_lt 100000 number then Some kinds.TooMany else fault_of l token head depth

abbrev pub or_else : ℕ → Option ExprKind → Option (ℕ × ExprKind) → Option (ℕ × ExprKind)
or_else number None later = later
or_else number (Some kind) later = Some (number, kind)

-- the first fault, from the token with this number on
abbrev pub fault_from : Language → Bool → ℕ → ℕ → List Token → Option (ℕ × ExprKind)
fault_from l head depth number [] = if head || not (nat_eq depth 0) then Some (number, kinds.Unclosed) else None
fault_from l head depth number (t ∷ ts) =
    or_else number (fault_here l number t head depth) (fault_from l (is_head t) (depth_after t depth) (number + 1) ts)

abbrev pub first_fault : Language → List Token → Option (ℕ × ExprKind)
first_fault l tokens = fault_from l false 0 1 tokens
