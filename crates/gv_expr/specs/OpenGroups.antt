-- What a reader has read so far, and the tokens that its fields stand for: for the contracts of private functions.
use Rattle.std.specs.Prelude.{◌≡◌, ℕ, Bool, true, false, ◌&&◌, if◌then◌else◌, List, [], ◌∷◌, ◌++◌, length, Option, Some}
use Rattle.std.specs.List.{list_all}
use Rattle.gv_version.specs.Names.{is_flag}
use Rattle.gv_expr.specs.TokenFaults.{is_head, depth_after, unless}
use Rattle.gv_expr.specs.declared.fault.ExprKind.{ExprKind}
use Rattle.gv_expr.specs.declared.fault.ExprKind.TheVariants as kinds
use Rattle.gv_expr.specs.declared.open_groups.Group.{Group}
use Rattle.gv_expr.specs.declared.grammar.Head.{Head}
use Rattle.gv_expr.specs.declared.grammar.Head.TheVariants as heads
use Rattle.gv_expr.specs.declared.grammar.StepFault.{StepFault}
use Rattle.gv_expr.specs.declared.grammar.StepFault.TheVariants.{Fault, NoMemory}
use Rattle.gv_expr.specs.declared.token.Token.{Token}
use Rattle.gv_expr.specs.declared.token.Token.TheVariants as tokens

pub record State : Type 0 where
  pub text : List Token
  pub head : Bool
  pub depth : ℕ

abbrev pub after : State → Token → State
after s t = record { text = s.text ++ t ∷ []; head = is_head t; depth = depth_after t s.depth }

abbrev pub nothing : State
nothing = record { text = []; head = false; depth = 0 }

-- whether a head waits for its `(`
abbrev pub is_there : Head → Bool
is_there heads.Nothing = false
is_there heads.Any = true
is_there heads.One = true
is_there heads.Most = true
is_there (heads.If flag negated) = true

abbrev pub head_tokens : Head → List Token
head_tokens heads.Nothing = []
head_tokens heads.Any = tokens.Any ∷ []
head_tokens heads.One = tokens.One ∷ []
head_tokens heads.Most = tokens.Most ∷ []
head_tokens (heads.If flag negated) = tokens.If flag negated ∷ []

-- `^^` and `??` stand only where they have no fault
abbrev pub is_allowed : Option ExprKind → Head → Bool
is_allowed (Some kind) heads.One = false
is_allowed (Some kind) heads.Most = false
is_allowed fault head = true

-- the state behind a head
abbrev pub begun : State → Head → State
begun s head = record { text = s.text ++ head_tokens head; head = is_there head; depth = s.depth }

-- the fault of a head, after another or not
abbrev pub fault_of_head : Option ExprKind → Bool → Option ExprKind
fault_of_head fault head = if head then Some kinds.Stray else fault

abbrev pub flag_fault : List ℕ → Option ExprKind
flag_fault flag = unless (is_flag flag) kinds.BadFlag

-- the tokens of the open groups, where `written` has those of trees
abbrev pub stack_tokens : {E : Type 0} → (E → List Token) → List (Group E) → List Token
stack_tokens written [] = []
stack_tokens written (g ∷ gs) = written g.before ++ (head_tokens g.head ++ tokens.Open ∷ stack_tokens written gs)

abbrev pub state_of : {E : Type 0} → (E → List Token) → List (Group E) → E → Head → State
state_of written stack items head = record {
  text = stack_tokens written stack ++ (written items ++ head_tokens head);
  head = is_there head;
  depth = length stack;
}

-- each leaf is such, and each head is allowed
pub record IsKept {E : Type 0} (are_good : E → Bool) (count_fault : Option ExprKind) (stack : List (Group E)) (items : E) (head : Head) : Type 0 where
  pub leaves : (list_all (λ g. are_good g.before) stack && are_good items) ≡ true
  pub heads : list_all (λ g. is_allowed count_fault g.head) stack ≡ true
  pub waiting : is_allowed count_fault head ≡ true

-- the fault of a token is the defined one; want of memory says nothing
abbrev pub StepFails : Option ExprKind → StepFault → Type 0
StepFails defined (Fault kind) = defined ≡ Some kind
StepFails defined NoMemory = Unit {0}
