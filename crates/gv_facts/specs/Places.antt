-- The places of the items of a list that pass a test, and by what the long lists are looked up.
use Rattle.std.specs.Prelude.{ℕ, ◌+◌, Bool, ◌&&◌, if◌then◌else◌, List, [], ◌∷◌}
use Rattle.std.specs.Str.{bytes_eq}
use Rattle.gv_facts.specs.declared.masks.Mask.{Mask}
use Rattle.gv_facts.specs.declared.pkg.Pkg.{Pkg}
use Rattle.gv_facts.specs.declared.rules.Rule.{Rule}

-- where the first item has this place
abbrev pub places_from : {A : Type 0} → ℕ → (A → Bool) → List A → List ℕ
places_from n test [] = []
places_from n test (x ∷ xs) = if test x then n ∷ places_from (n + 1) test xs else places_from (n + 1) test xs

-- from 0
abbrev pub places_of : {A : Type 0} → (A → Bool) → List A → List ℕ
places_of test xs = places_from 0 test xs

abbrev pub names_flag : (flag : List ℕ) → Rule → Bool
names_flag flag r = bytes_eq r.flag flag

abbrev pub is_mask_of : (category name : List ℕ) → Mask → Bool
is_mask_of category name m = bytes_eq m.atom.category category && bytes_eq m.atom.name name

abbrev pub is_pkg_of : (category name : List ℕ) → Pkg → Bool
is_pkg_of category name p = bytes_eq category p.category && bytes_eq name p.name
