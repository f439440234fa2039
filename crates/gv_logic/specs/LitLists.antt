-- Words of private contracts alone, no rule: a list that is cut into lists, each up to its end.
use Rattle.std.specs.Prelude.{◌≡◌, ℕ, ◌+◌, ◌≤◌, ◌<◌, ◌^◌, List, [], ◌∷◌, length, slice_range, slice_index}

-- the first list begins at `from`, each other one at the end of the one ahead of it
abbrev pub cut_from : ℕ → List ℕ → List ℕ → List (List ℕ)
cut_from from [] lits = []
cut_from from (end ∷ ends) lits = slice_range lits from end ∷ cut_from end ends lits

abbrev pub cut_at : List ℕ → List ℕ → List (List ℕ)
cut_at ends lits = cut_from 0 ends lits

-- how many literals the lists have together
abbrev pub lit_count : List (List ℕ) → ℕ
lit_count [] = 0
lit_count (lits ∷ lists) = length lits + lit_count lists

-- where the n-th list begins
abbrev pub start_of : List ℕ → ℕ → ℕ
start_of ends n = slice_index (0 ∷ ends) n

-- no end stands before the one ahead of it, and the last is that of all the list
abbrev pub AreEnds : ℕ → List ℕ → ℕ → Type 0
AreEnds from [] all = from ≡ all
AreEnds from (end ∷ ends) all = (from ≤ end) × AreEnds end ends all

pub record IsCut (ends lits : List ℕ) : Type 0 where
  pub rising : AreEnds 0 ends (length lits)
  pub short : length lits < 2 ^ 32
  pub few : length ends < 2 ^ 32
