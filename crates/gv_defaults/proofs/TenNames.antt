-- The ten names of incremental variables.
use Rattle.std.proofs.Common.{◌≡◌, ℕ, Bool, true, false, List, [], ◌∷◌, refl, sym, subst, ◌⊎◌, inl, inr}
use Rattle.std.specs.Prelude.{◌||◌, ◌↔◌, codes}
use Rattle.std.specs.Str.{bytes_eq}
use Rattle.std.proofs.lemmas.Slice.Eq.{bytes_eq-Decides}
use Rattle.gv_base.specs.Order.{has_text}
use Rattle.gv_defaults.specs.Incremental.{incremental_names, is_incremental}
use Rattle.gv_defaults.specs.IncrementalNames.{IsIncremental, use_flags, use_expand, use_expand_hidden, config_protect, config_protect_mask, iuse_implicit, use_expand_implicit, use_expand_unprefixed, env_unset, accept_keywords}

abbrev IsAmong : List (List ℕ) → List ℕ → Type 0
IsAmong [] name = ⊥
IsAmong (x ∷ xs) name = (name ≡ x) ⊎ IsAmong xs name

among : (names : List (List ℕ)) (name : List ℕ) → has_text names name ≡ true → IsAmong names name
among [] name h = absurd (cc)
among (x ∷ xs) name h = by (bytes_eq name x) refl h (among xs name)
  where
    by : (p : Bool) → bytes_eq name x ≡ p → (p || has_text xs name) ≡ true → (has_text xs name ≡ true → IsAmong xs name) → (name ≡ x) ⊎ IsAmong xs name
    by true is h more = inl ((bytes_eq-Decides name x).0 is)
    by false is h more = inr (more h)

abbrev the_ten : List (List ℕ)
the_ten =
    codes "USE" ∷ codes "USE_EXPAND" ∷ codes "USE_EXPAND_HIDDEN" ∷ codes "CONFIG_PROTECT" ∷ codes "CONFIG_PROTECT_MASK"
    ∷ codes "IUSE_IMPLICIT" ∷ codes "USE_EXPAND_IMPLICIT" ∷ codes "USE_EXPAND_UNPREFIXED" ∷ codes "ENV_UNSET"
    ∷ codes "ACCEPT_KEYWORDS" ∷ []

named : (name : List ℕ) → IsAmong the_ten name → IsIncremental name
named name (inl e) = subst IsIncremental (sym e) use_flags
named name (inr (inl e)) = subst IsIncremental (sym e) use_expand
named name (inr (inr (inl e))) = subst IsIncremental (sym e) use_expand_hidden
named name (inr (inr (inr (inl e)))) = subst IsIncremental (sym e) config_protect
named name (inr (inr (inr (inr (inl e))))) = subst IsIncremental (sym e) config_protect_mask
named name (inr (inr (inr (inr (inr (inl e)))))) = subst IsIncremental (sym e) iuse_implicit
named name (inr (inr (inr (inr (inr (inr (inl e))))))) = subst IsIncremental (sym e) use_expand_implicit
named name (inr (inr (inr (inr (inr (inr (inr (inl e)))))))) = subst IsIncremental (sym e) use_expand_unprefixed
named name (inr (inr (inr (inr (inr (inr (inr (inr (inl e))))))))) = subst IsIncremental (sym e) env_unset
named name (inr (inr (inr (inr (inr (inr (inr (inr (inr (inl e)))))))))) = subst IsIncremental (sym e) accept_keywords
named name (inr (inr (inr (inr (inr (inr (inr (inr (inr (inr none)))))))))) = absurd none

one_of_ten : (name : List ℕ) → is_incremental name ≡ true → IsIncremental name
unfolding is_incremental incremental_names
one_of_ten name h = named name (among the_ten name h)

ten_are : (name : List ℕ) → IsIncremental name → is_incremental name ≡ true
unfolding is_incremental incremental_names
ten_are name use_flags = refl
ten_are name use_expand = refl
ten_are name use_expand_hidden = refl
ten_are name config_protect = refl
ten_are name config_protect_mask = refl
ten_are name iuse_implicit = refl
ten_are name use_expand_implicit = refl
ten_are name use_expand_unprefixed = refl
ten_are name env_unset = refl
ten_are name accept_keywords = refl

pub ten : (name : List ℕ) → (is_incremental name ≡ true) ↔ IsIncremental name
ten name = (one_of_ten name, ten_are name)
