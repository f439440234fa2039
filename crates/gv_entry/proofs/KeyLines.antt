-- A line that begins with a key and `=`, cut off one after the other.
use Rattle.std.proofs.Common.{◌≡◌, ℕ, Bool, true, false, ◌&&◌, List, [], ◌∷◌, ◌++◌, length, take, drop, refl, sym, ap, ◌∙◌, Some, None}
use Rattle.std.specs.Prelude.{◌==◌, codes, if◌then◌else◌}
use Rattle.std.specs.Option.{option_map_or}
use Rattle.std.specs.Str.{bytes_eq}
use Rattle.gv_base.specs.Cut.{after_prefix}

after_both : (key tail line : List ℕ) → option_map_or (after_prefix tail) (after_prefix key line) None ≡ after_prefix (key ++ tail) line
after_both [] tail line = refl
after_both (k ∷ ks) tail [] = refl
after_both (k ∷ ks) tail (l ∷ ls) = by (l == k) (after_both ks tail ls)
  where
    by : (same : Bool) → option_map_or (after_prefix tail) (after_prefix ks ls) None ≡ after_prefix (ks ++ tail) ls
        → option_map_or (after_prefix tail) (if same && bytes_eq (take (length ks) ls) ks then Some (drop (length ks) ls) else None) None
        ≡ (if same && bytes_eq (take (length (ks ++ tail)) ls) (ks ++ tail) then Some (drop (length (ks ++ tail)) ls) else None)
    by true later = later
    by false later = refl

pub other_key : (key line : List ℕ) → after_prefix key line ≡ None → after_prefix (key ++ codes "=") line ≡ None
other_key key line none = sym (after_both key (codes "=") line) ∙ ap (λ o. option_map_or (after_prefix (codes "=")) o None) none

pub key_there : (key line rest : List ℕ) → after_prefix key line ≡ Some rest → after_prefix (key ++ codes "=") line ≡ after_prefix (codes "=") rest
key_there key line rest some = sym (after_both key (codes "=") line) ∙ ap (λ o. option_map_or (after_prefix (codes "=")) o None) some
