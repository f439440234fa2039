-- The rules at the places of those that name a flag do what all rules do.
use Rattle.std.proofs.Common.{◌≡◌, ℕ, ◌+◌, Bool, true, false, ◌&&◌, ◌||◌, not, nat_eq, List, [], ◌∷◌, length, arith, Some, refl, sym, ap, map, ◌∙◌, cond}
use Rattle.std.specs.Prelude.{Option, filter, fold, if◌then◌else◌, slice_get}
use Rattle.std.specs.List.{list_any}
use Rattle.std.specs.Option.{option_map_or}
use Rattle.std.specs.Str.{bytes_eq}
use Rattle.std.proofs.lemmas.Bool.{ne_eqb}
use Rattle.std.proofs.lemmas.List.Folds.{fold-map}
use Rattle.gv_facts.specs.declared.kinds.Level.{Level}
use Rattle.gv_facts.specs.declared.pkg.Pkg.{Pkg}
use Rattle.gv_facts.specs.declared.profile.Profile.{Profile}
use Rattle.gv_facts.specs.declared.rules.Effect.{Effect}
use Rattle.gv_facts.specs.declared.rules.Rule.{Rule}
use Rattle.gv_facts.specs.Places.{names_flag, places_from}
use Rattle.gv_facts.specs.States.{applies, is_restricted, is_same}
use Rattle.gv_usestate.specs.RulesInTurn.{behind, behind_at}

module _ (effect : Effect) (p : Pkg) (profile : Profile) (level : Level) (flag : List ℕ) where
  abbrev restricted : Bool
  restricted = is_restricted p profile level

  -- the rule at what was found
  abbrev found : Bool → Option Rule → Bool
  found on o = option_map_or (behind effect p restricted on) o on

  -- as the definition has it
  abbrev in_turn : Bool → Rule → Bool
  in_turn on r = if is_same effect r.effect && (bytes_eq r.flag flag && applies p profile level r) then r.on else on

  of_flag : (rules : List Rule) (on : Bool) → fold (behind effect p restricted) on (filter (names_flag flag) rules) ≡ fold in_turn on rules
  of_flag [] on = refl
  of_flag (r ∷ rules) on = by (bytes_eq r.flag flag) (of_flag rules)
    where
      unchanged : (same : Bool) → on ≡ (if same && false then r.on else on)
      unchanged true = refl
      unchanged false = refl

      by : (named : Bool) → ((now : Bool) → fold (behind effect p restricted) now (filter (names_flag flag) rules) ≡ fold in_turn now rules)
          → fold (behind effect p restricted) on (cond named (r ∷ filter (names_flag flag) rules) (filter (names_flag flag) rules))
          ≡ fold in_turn (if is_same effect r.effect && (named && applies p profile level r) then r.on else on) rules
      by true h = h (behind effect p restricted on r)
      by false h = h on ∙ ap (λ now. fold in_turn now rules) (unchanged (is_same effect r.effect))

  pub at_places : (rules : List Rule) (places : List ℕ) (on : Bool) → map (slice_get rules) places ≡ map Some (filter (names_flag flag) rules)
      → fold (behind_at effect p restricted rules) on places ≡ fold in_turn on rules
  at_places rules places on items =
      sym (fold-map found (slice_get rules) on places)
      ∙ ap (fold found on) items
      ∙ fold-map found Some on (filter (names_flag flag) rules)
      ∙ of_flag rules on

-- there is a place where there is an item
pub any_place : {A : Type 0} (test : A → Bool) (n : ℕ) (xs : List A) → not (nat_eq (length (places_from n test xs)) 0) ≡ list_any test xs
any_place test n [] = refl
any_place test n (x ∷ xs) = by (test x) (any_place test (n + 1) xs)
  where
    by : (b : Bool) → not (nat_eq (length (places_from (n + 1) test xs)) 0) ≡ list_any test xs
        → not (nat_eq (length (if b then n ∷ places_from (n + 1) test xs else places_from (n + 1) test xs)) 0) ≡ (b || list_any test xs)
    by true h = ap not (ne_eqb (length (n ∷ places_from (n + 1) test xs)) 0 (λ e. omega arith))
    by false h = h
