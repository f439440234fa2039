-- Words with a name in front, by what stands behind the name.
use Rattle.std.proofs.Common.{◌≡◌, ℕ, Bool, true, false, ◌&&◌, List, [], ◌∷◌, refl, map}
use Rattle.std.specs.Str.{bytes_eq}
use Rattle.gv_base.specs.Order.{has_text}
use Rattle.gv_facts.specs.Effective.{prefixed}

module _ (name flag : List ℕ) where
  pub behind_name : (rest : List ℕ) → ((word : List ℕ) → bytes_eq flag (prefixed name word) ≡ bytes_eq rest word)
      → (words : List (List ℕ)) → has_text (map (prefixed name) words) flag ≡ has_text words rest
  behind_name rest same [] = refl
  behind_name rest same (word ∷ words) = rw (same word, behind_name rest same words) refl

  pub not_behind : ((word : List ℕ) → bytes_eq flag (prefixed name word) ≡ false)
      → (words : List (List ℕ)) → has_text (map (prefixed name) words) flag ≡ false
  not_behind other [] = refl
  not_behind other (word ∷ words) = rw (other word, not_behind other words) refl

pub no_more : (b : Bool) → false ≡ (b && false)
no_more true = refl
no_more false = refl
