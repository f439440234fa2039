-- There is no place where there is no item.
use Rattle.std.proofs.Common.{◌≡◌, ℕ, ◌+◌, Bool, true, false, ◌||◌, not, nat_eq, List, [], ◌∷◌, length, arith, refl, ap, ◌∙◌}
use Rattle.std.specs.Prelude.{if◌then◌else◌}
use Rattle.std.specs.List.{list_any}
use Rattle.std.proofs.lemmas.Bool.{ne_eqb}
use Rattle.gv_facts.specs.Places.{places_from, places_of}

from : {A : Type 0} (test : A → Bool) (n : ℕ) (xs : List A) → nat_eq (length (places_from n test xs)) 0 ≡ not (list_any test xs)
from test n [] = refl
from test n (x ∷ xs) = by (test x) (from test (n + 1) xs)
  where
    by : (b : Bool) → nat_eq (length (places_from (n + 1) test xs)) 0 ≡ not (list_any test xs)
        → nat_eq (length (if b then n ∷ places_from (n + 1) test xs else places_from (n + 1) test xs)) 0 ≡ not (b || list_any test xs)
    by true h = ne_eqb (length (n ∷ places_from (n + 1) test xs)) 0 (λ e. omega arith)
    by false h = h

pub no_place : {A : Type 0} (test : A → Bool) (xs : List A) (places : List ℕ) → places ≡ places_of test xs → nat_eq (length places) 0 ≡ not (list_any test xs)
no_place test xs places is = ap (λ ps. nat_eq (length ps) 0) is ∙ from test 0 xs
