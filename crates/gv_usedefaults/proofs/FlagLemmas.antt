-- The last word that names a flag, by the places of those that do.
use Rattle.std.proofs.Common.{◌≡◌, ℕ, ◌<◌, Bool, true, false, ◌&&◌, ◌||◌, List, [], ◌∷◌, map, filter, drop, drop-cons, length, Some, None, refl, sym, ap, ◌∙◌, cond, arith}
use Rattle.std.specs.Prelude.{if◌then◌else◌, fold, Option, slice_get}
use Rattle.std.specs.Option.{option_map_or}
use Rattle.std.specs.Str.{bytes_eq}
use Rattle.std.proofs.lemmas.List.Folds.{fold-map}
use Rattle.gv_facts.specs.Places.{names_flag}
use Rattle.gv_facts.specs.declared.pkg.Pkg.{Pkg}
use Rattle.gv_facts.specs.declared.rules.Rule.{Rule}
use Rattle.gv_usedefaults.specs.Defaults.{behind_word, either_says, last_word, value_says, values_say, word_behind}
use Rattle.gv_usedefaults.specs.FlagWords.{applies, behind, behind_at}

module _ (p : Pkg) (flag : List ℕ) where
  abbrev found : Option Bool → Option Rule → Option Bool
  found said rule = option_map_or (behind p said) rule said

  of_flag : (rules : List Rule) (said : Option Bool) → fold (behind p) said (filter (names_flag flag) rules) ≡ fold (behind_word p flag) said rules
  of_flag [] said = refl
  of_flag (r ∷ rules) said = by (bytes_eq r.flag flag) (of_flag rules)
    where
      by : (named : Bool) → ((now : Option Bool) → fold (behind p) now (filter (names_flag flag) rules) ≡ fold (behind_word p flag) now rules)
          → fold (behind p) said (cond named (r ∷ filter (names_flag flag) rules) (filter (names_flag flag) rules))
          ≡ fold (behind_word p flag) (if named && applies p r then Some r.on else said) rules
      by true h = h (behind p said r)
      by false h = h said

  pub last_at : (rules : List Rule) (places : List ℕ) → map (slice_get rules) places ≡ map Some (filter (names_flag flag) rules)
      → fold (behind_at p rules) None places ≡ last_word p rules flag
  last_at rules places items =
      sym (fold-map found (slice_get rules) None places)
      ∙ ap (fold found None) items
      ∙ fold-map found Some None (filter (names_flag flag) rules)
      ∙ of_flag rules None

-- ---- what variables say, one after another
pub either_apart : (a b c : Option Bool) → either_says (either_says a b) c ≡ either_says a (either_says b c)
either_apart None b c = refl
either_apart (Some x) None c = refl
either_apart (Some x) (Some y) None = refl
either_apart (Some x) (Some y) (Some z) = ap (λ o. let r : Option Bool = Some o in r) (apart x)
  where
    apart : (b : Bool) → ((b || y) || z) ≡ (b || (y || z))
    apart true = refl
    apart false = refl

pub either_none : (a : Option Bool) → either_says a None ≡ a
either_none None = refl
either_none (Some x) = refl

-- ---- a flag that ends within a name
pub ended_within : (name rest flag : List ℕ) (i : ℕ) → i < length name → length rest < 1 → word_behind (drop i name) rest ≡ word_behind name flag → None ≡ word_behind name flag
ended_within name [] flag i within short is = sym (ap (λ letters. word_behind letters []) (drop-cons name i 0 within)) ∙ is
ended_within name (b ∷ rest) flag i within short is = absurd (let no : ⊥ = omega (arith, short) in no)
