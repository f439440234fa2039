-- Words of private contracts alone, no rule: a stack that is made, with what is still ahead.
use Rattle.std.specs.Prelude.{◌≡◌, ◌≤◌, ℕ, ◌+◌, true, false, if◌then◌else◌, List, [], ◌∷◌, ◌++◌, Option, Some, None, reverse, length}
use Rattle.gv_base.specs.Order.{has_text}
use Rattle.gv_profile.specs.Walking.{most_visits}
use Rattle.gv_usedefaults.specs.declared.stack_walk.Ahead.{Ahead}
use Rattle.gv_usedefaults.specs.declared.stack_walk.Ahead.TheVariants.{Come, Done}
use Rattle.gv_usedefaults.specs.declared.stack_walk.Going.{Going}
use Rattle.gv_usedefaults.specs.Stacks.{is_long, stack_way}

-- the next one first
abbrev pub ahead_of : Going → List Ahead
ahead_of g = reverse g.ahead.items

-- the directories whose parents are being gone to, the last one first
abbrev pub way_of : List Ahead → List (List ℕ)
way_of [] = []
way_of (Come dir ∷ rest) = way_of rest
way_of (Done dir ∷ rest) = dir ∷ way_of rest

-- what the ones ahead add to the stack
abbrev pub coming : (List ℕ → List (List ℕ)) → (way : List (List ℕ)) → List ℕ → List (List ℕ)
coming parents way dir = if has_text way dir then [] else stack_way parents way dir

abbrev pub left : (List ℕ → List (List ℕ)) → List Ahead → List (List ℕ)
left parents [] = []
left parents (Come dir ∷ rest) = coming parents (way_of rest) dir ++ left parents rest
left parents (Done dir ∷ rest) = dir ∷ left parents rest

-- no directory is on the way twice
abbrev pub AreApart : List (List ℕ) → Type 0
AreApart [] = Unit {0}
AreApart (dir ∷ dirs) = (has_text dirs dir ≡ false) × AreApart dirs

-- in the middle of making a stack, with these ahead
pub record IsGoing (parents : List ℕ → List (List ℕ)) (whole : List (List ℕ)) (g : Going) (ahead : List Ahead) : Type 0 where
  pub gives : g.stack ++ left parents ahead ≡ whole
  pub visited : g.visits ≡ length g.stack + length (way_of ahead)
  pub few : g.visits ≤ most_visits
  pub way : (text : List ℕ) → has_text g.way.keys text ≡ has_text (way_of ahead) text
  pub apart : AreApart (way_of ahead)

-- behind what was next; with none there are too many visits
abbrev pub GoesOn : (List ℕ → List (List ℕ)) → (whole : List (List ℕ)) → Going → (next : Ahead) → Option Going → Type 0
GoesOn parents whole g next (Some on) = IsGoing parents whole g (next ∷ ahead_of g) → IsGoing parents whole on (ahead_of on)
GoesOn parents whole g next None = IsGoing parents whole g (next ∷ ahead_of g) → is_long whole ≡ true
