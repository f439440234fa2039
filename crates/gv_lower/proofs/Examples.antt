-- Values of the definitions on worked examples.
use Rattle.std.specs.Prelude.{◌≡◌, ℕ, Bool, true, false, List, [], ◌∷◌, ◌++◌, None, Some, Option, option_map, map, codes, refl}
use Rattle.gv_atom.specs.Reading.{read_atom}
use Rattle.gv_expr.specs.DepRead.{read_dep}
use Rattle.gv_expr.specs.RequiredRead.{read_required}
use Rattle.gv_facts.specs.declared.kinds.Eapi.{Eapi}
use Rattle.gv_facts.specs.declared.kinds.Eapi.TheVariants.{Six, Seven, Eight}
use Rattle.gv_facts.specs.declared.kinds.Level.TheVariants as levels
use Rattle.gv_facts.specs.declared.kinds.Status.TheVariants as statuses
use Rattle.gv_facts.specs.declared.pkg.Pkg.{Pkg}
use Rattle.gv_facts.specs.declared.profile.Profile.{Profile}
use Rattle.gv_facts.specs.declared.rules.Rule.{Rule}
use Rattle.gv_facts.specs.declared.rules.Effect.{Effect}
use Rattle.gv_facts.specs.declared.rules.Effect.TheVariants.{Force, Mask}
use Rattle.gv_entry.specs.Allowed.{Parent}
use Rattle.gv_logic.specs.Bytes.{number_bytes, circuit_bytes}
use Rattle.gv_logic.specs.Circuits.{at, value, values}
use Rattle.gv_logic.specs.Literals.{lit_true}
use Rattle.gv_entry.specs.Queries.{class_flags, required_flags}
use Rattle.gv_lower.specs.QueryGates.{allowed_gates, failing_gates, failing_items}

-- CATEGORY/NAME-1 with these flags
abbrev pkg_of : (category name : List ℕ) → Eapi → (iuse : List (List ℕ)) → Pkg
pkg_of category name eapi iuse = record {
  category = category;
  name = name;
  version = codes "1";
  pf = name ++ codes "-1";
  eapi = eapi;
  slot = codes "0";
  sub = codes "0";
  keywords = codes "amd64" ∷ [];
  iuse = iuse;
  iuse_plus = [];
  live = false;
}

abbrev profile_with : List Rule → Profile
profile_with rules = record {
  line = 1;
  arch = codes "amd64";
  path = codes "base";
  status = statuses.Stable;
  testing = false;
  iuse_implicit = [];
  expand = [];
  expand_implicit = [];
  unprefixed = [];
  values = [];
  masks = [];
  rules = rules;
}

-- app/p-1 among itself and others
abbrev parent_with : Eapi → (iuse : List (List ℕ)) → List Rule → List Pkg → Parent
parent_with eapi iuse rules others =
    let p = pkg_of (codes "app") (codes "p") eapi iuse in
    record { pkg = p; profile = profile_with rules; level = levels.Stable; among = p ∷ others }

abbrev class_bytes : Parent → List ℕ → Option (List ℕ)
class_bytes c text = option_map (λ class. circuit_bytes (failing_gates c [] class (class_flags c [] class))) (read_dep text)

abbrev class_value : Parent → List ℕ → List Bool → Option Bool
class_value c text bits = option_map (λ class. value (failing_gates c [] class (class_flags c [] class)) bits) (read_dep text)

abbrev item_values : Parent → List ℕ → List Bool → Option (List Bool)
item_values c text bits =
    option_map (λ class. map (lit_true (at (values (failing_gates c [] class (class_flags c [] class)) bits))) (failing_items c [] class (class_flags c [] class))) (read_dep text)

abbrev allowed_at : Parent → List ℕ → List Bool → Option Bool
allowed_at c text bits = option_map (λ required. value (allowed_gates c required (required_flags c required)) bits) (read_required text)

-- an atom that nothing matches, in a query without flags: six gates
no_match_bytes : class_bytes (parent_with Eight [] [] []) (codes "x/y") ≡ Some (
    0 ∷ 0 ∷ 0 ∷ 0 ∷ 0 ∷ 0 ∷ 0 ∷ 6 ∷ 0 ∷ 0 ∷ 0 ∷ 0 ∷ 0 ∷ 1 ∷ 0 ∷ 0 ∷ 0 ∷ 0 ∷ 0 ∷ 0 ∷ 0 ∷ 0 ∷ 0 ∷ 1 ∷ 0 ∷ 0 ∷ 0 ∷ 0 ∷ 0 ∷ 0 ∷ 0 ∷ 0 ∷ 1 ∷ 0 ∷ 0 ∷ 0 ∷ 6 ∷
    0 ∷ 0 ∷ 0 ∷ 0 ∷ 2 ∷ 0 ∷ 0 ∷ 0 ∷ 4 ∷ 0 ∷ 0 ∷ 0 ∷ 9 ∷ 0 ∷ 0 ∷ 0 ∷ 10 ∷ [])
unfolding number_bytes
no_match_bytes = refl

no_match_fails : class_value (parent_with Eight [] [] []) (codes "x/y") [] ≡ Some true
no_match_fails = refl

-- two items on one free flag are asked of one setting
abbrev with_y : Parent
with_y = parent_with Eight (codes "a" ∷ []) [] (pkg_of (codes "x") (codes "y") Eight (codes "a" ∷ []) ∷ [])

one_setting : (class_value with_y (codes "x/y[a?,-a]") (false ∷ []) ≡ Some false) × (class_value with_y (codes "x/y[a?,-a]") (true ∷ []) ≡ Some true)
one_setting = (refl, refl)

-- a `||` whose one member isn't enabled
abbrev alone_in : Eapi → Parent
alone_in eapi = parent_with eapi (codes "a" ∷ []) [] []

met_in_six : (class_value (alone_in Six) (codes "|| ( a? ( x/none ) )") (false ∷ []) ≡ Some false) × (class_value (alone_in Six) (codes "|| ( a? ( x/none ) )") (true ∷ []) ≡ Some true)
met_in_six = (refl, refl)

not_met_in_seven : (class_value (alone_in Seven) (codes "|| ( a? ( x/none ) )") (false ∷ []) ≡ Some true) × (class_value (alone_in Seven) (codes "|| ( a? ( x/none ) )") (true ∷ []) ≡ Some true)
not_met_in_seven = (refl, refl)

-- defaults of a missing flag, and a forced flag of the candidate
abbrev with_g : Parent
with_g = parent_with Eight (codes "g" ∷ []) (record { effect = Force; stable = false; atom = read_atom (codes "x/y"); flag = codes "g"; on = true } ∷ []) (pkg_of (codes "x") (codes "y") Eight (codes "g" ∷ []) ∷ [])

missing_flag : class_value with_g (codes "x/y[f]") [] ≡ Some true
missing_flag = refl

defaults_and_forced : (item_values with_g (codes "x/y[f(+)] x/y[-f(-)] x/y[g=]") (false ∷ []) ≡ Some (true ∷ true ∷ false ∷ []))
    × (item_values with_g (codes "x/y[f(+)] x/y[-f(-)] x/y[g=]") (true ∷ []) ≡ Some (true ∷ true ∷ true ∷ []))
    × (class_value with_g (codes "x/y[f(+)] x/y[-f(-)] x/y[g=]") (true ∷ []) ≡ Some false)
defaults_and_forced = (refl, refl, refl)

-- exactly one, and at most one
abbrev with_ab : Parent
with_ab = parent_with Eight (codes "a" ∷ codes "b" ∷ []) [] []

exactly_one_of_two : (allowed_at with_ab (codes "^^ ( a b )") (false ∷ false ∷ []) ≡ Some false) × (allowed_at with_ab (codes "^^ ( a b )") (false ∷ true ∷ []) ≡ Some true)
    × (allowed_at with_ab (codes "^^ ( a b )") (true ∷ true ∷ []) ≡ Some false)
exactly_one_of_two = (refl, refl, refl)

at_most_one_of_two : (allowed_at with_ab (codes "?? ( a !b )") (false ∷ true ∷ []) ≡ Some true) × (allowed_at with_ab (codes "?? ( a !b )") (true ∷ false ∷ []) ≡ Some false)
at_most_one_of_two = (refl, refl)

-- where a is preferred on, its input says that it is off
abbrev preferring : Parent
preferring = record with_ab { pkg = record (pkg_of (codes "app") (codes "p") Eight (codes "a" ∷ codes "b" ∷ [])) { iuse_plus = codes "a" ∷ [] } }

one_of_two_preferred : (allowed_at preferring (codes "^^ ( a b )") (false ∷ false ∷ []) ≡ Some true) × (allowed_at preferring (codes "^^ ( a b )") (true ∷ true ∷ []) ≡ Some true)
    × (allowed_at preferring (codes "^^ ( a b )") (true ∷ false ∷ []) ≡ Some false)
one_of_two_preferred = (refl, refl, refl)

-- Bytes of gates that a program written from the rules alone has, of app/p-1 beside x/y-1, x/y-2 and x/z-1, where f is forced and m masked.
abbrev next_of : Pkg → Pkg
next_of p = record p { version = codes "2"; pf = p.name ++ codes "-2" }

abbrev rule_for : Effect → List ℕ → Rule
rule_for effect flag = record { effect = effect; stable = false; atom = None; flag = flag; on = true }

abbrev small : (iuse : List (List ℕ)) → Parent
small iuse =
    let y = pkg_of (codes "x") (codes "y") Eight [] in
    parent_with Eight iuse (rule_for Force (codes "f") ∷ rule_for Mask (codes "m") ∷ []) (y ∷ next_of y ∷ pkg_of (codes "x") (codes "z") Eight (codes "a" ∷ codes "f" ∷ codes "m" ∷ []) ∷ [])

abbrev allowed_bytes : Parent → List ℕ → Option (List ℕ)
allowed_bytes c text = option_map (λ required. circuit_bytes (allowed_gates c required (required_flags c required))) (read_required text)

-- an atom with two visible matches
two_matches : class_bytes (small []) (codes "x/y") ≡ Some (
    0 ∷ 0 ∷ 0 ∷ 0 ∷ 0 ∷ 0 ∷ 0 ∷ 8 ∷ 0 ∷ 0 ∷ 0 ∷ 0 ∷ 0 ∷ 1 ∷ 0 ∷ 0 ∷ 0 ∷ 0 ∷ 0 ∷ 0 ∷ 0 ∷ 0 ∷ 0 ∷ 0 ∷ 0 ∷ 0 ∷ 0 ∷ 0 ∷ 0 ∷ 0 ∷ 0 ∷ 0 ∷ 0 ∷ 1 ∷ 0 ∷ 0 ∷ 0 ∷ 2 ∷ 0 ∷ 0 ∷ 0 ∷ 6 ∷ 0 ∷ 0 ∷ 0 ∷ 8 ∷ 0 ∷ 0 ∷
    0 ∷ 0 ∷ 1 ∷ 0 ∷ 0 ∷ 0 ∷ 10 ∷ 0 ∷ 0 ∷ 0 ∷ 0 ∷ 2 ∷ 0 ∷ 0 ∷ 0 ∷ 4 ∷ 0 ∷ 0 ∷ 0 ∷ 13 ∷ 0 ∷ 0 ∷ 0 ∷ 14 ∷ [])
unfolding number_bytes
two_matches = refl

-- a conditional on a free flag
free_conditional : class_bytes (small (codes "a" ∷ [])) (codes "a? ( x/none )") ≡ Some (
    0 ∷ 0 ∷ 0 ∷ 1 ∷ 0 ∷ 0 ∷ 0 ∷ 8 ∷ 0 ∷ 0 ∷ 0 ∷ 0 ∷ 0 ∷ 1 ∷ 0 ∷ 0 ∷ 0 ∷ 0 ∷ 0 ∷ 0 ∷ 0 ∷ 0 ∷ 0 ∷ 1 ∷ 0 ∷ 0 ∷ 0 ∷ 0 ∷ 0 ∷ 0 ∷ 0 ∷ 0 ∷ 1 ∷ 0 ∷ 0 ∷ 0 ∷ 8 ∷ 1 ∷ 0 ∷ 0 ∷ 0 ∷ 2 ∷ 0 ∷ 0 ∷ 0 ∷ 1 ∷ 0 ∷ 0 ∷
    0 ∷ 10 ∷ 0 ∷ 0 ∷ 0 ∷ 0 ∷ 1 ∷ 0 ∷ 0 ∷ 0 ∷ 12 ∷ 0 ∷ 0 ∷ 0 ∷ 0 ∷ 2 ∷ 0 ∷ 0 ∷ 0 ∷ 6 ∷ 0 ∷ 0 ∷ 0 ∷ 15 ∷ 0 ∷ 0 ∷ 0 ∷ 16 ∷ [])
unfolding number_bytes
free_conditional = refl

-- one of two
any_of_two : class_bytes (small []) (codes "|| ( x/y x/none )") ≡ Some (
    0 ∷ 0 ∷ 0 ∷ 0 ∷ 0 ∷ 0 ∷ 0 ∷ 10 ∷ 0 ∷ 0 ∷ 0 ∷ 0 ∷ 0 ∷ 1 ∷ 0 ∷ 0 ∷ 0 ∷ 0 ∷ 0 ∷ 0 ∷ 0 ∷ 0 ∷ 0 ∷ 0 ∷ 0 ∷ 0 ∷ 0 ∷ 0 ∷ 0 ∷ 0 ∷ 0 ∷ 0 ∷ 0 ∷ 1 ∷ 0 ∷ 0 ∷ 0 ∷ 2 ∷ 0 ∷ 0 ∷ 0 ∷ 6 ∷ 0 ∷ 0 ∷ 0 ∷ 8 ∷ 1 ∷
    0 ∷ 0 ∷ 0 ∷ 0 ∷ 1 ∷ 0 ∷ 0 ∷ 0 ∷ 2 ∷ 0 ∷ 0 ∷ 0 ∷ 10 ∷ 0 ∷ 0 ∷ 0 ∷ 12 ∷ 0 ∷ 0 ∷ 0 ∷ 0 ∷ 1 ∷ 0 ∷ 0 ∷ 0 ∷ 14 ∷ 0 ∷ 0 ∷ 0 ∷ 0 ∷ 2 ∷ 0 ∷ 0 ∷ 0 ∷ 4 ∷ 0 ∷ 0 ∷ 0 ∷ 17 ∷ 0 ∷ 0 ∷ 0 ∷ 18 ∷ [])
unfolding number_bytes
any_of_two = refl

-- exactly one of three flags
one_of_three : allowed_bytes (small (codes "a" ∷ codes "b" ∷ codes "c" ∷ [])) (codes "^^ ( a b c )") ≡ Some (
    0 ∷ 0 ∷ 0 ∷ 3 ∷ 0 ∷ 0 ∷ 0 ∷ 11 ∷ 0 ∷ 0 ∷ 0 ∷ 0 ∷ 0 ∷ 1 ∷ 0 ∷ 0 ∷ 0 ∷ 0 ∷ 0 ∷ 0 ∷ 0 ∷ 0 ∷ 2 ∷ 0 ∷ 0 ∷ 0 ∷ 0 ∷ 0 ∷ 0 ∷ 0 ∷ 8 ∷ 1 ∷ 0 ∷ 0 ∷ 0 ∷ 2 ∷ 0 ∷ 0 ∷ 0 ∷ 8 ∷ 0 ∷ 0 ∷ 0 ∷ 0 ∷ 0 ∷ 0 ∷ 0 ∷
    0 ∷ 2 ∷ 0 ∷ 0 ∷ 0 ∷ 2 ∷ 0 ∷ 0 ∷ 0 ∷ 12 ∷ 1 ∷ 0 ∷ 0 ∷ 0 ∷ 2 ∷ 0 ∷ 0 ∷ 0 ∷ 12 ∷ 0 ∷ 0 ∷ 0 ∷ 2 ∷ 0 ∷ 0 ∷ 0 ∷ 0 ∷ 2 ∷ 0 ∷ 0 ∷ 0 ∷ 4 ∷ 0 ∷ 0 ∷ 0 ∷ 16 ∷ 1 ∷ 0 ∷ 0 ∷ 0 ∷ 2 ∷ 0 ∷ 0 ∷ 0 ∷ 16 ∷ 0 ∷ 0 ∷
    0 ∷ 4 ∷ 1 ∷ 0 ∷ 0 ∷ 0 ∷ 3 ∷ 0 ∷ 0 ∷ 0 ∷ 10 ∷ 0 ∷ 0 ∷ 0 ∷ 14 ∷ 0 ∷ 0 ∷ 0 ∷ 18 ∷ 0 ∷ 0 ∷ 0 ∷ 0 ∷ 2 ∷ 0 ∷ 0 ∷ 0 ∷ 20 ∷ 0 ∷ 0 ∷ 0 ∷ 23 ∷ 0 ∷ 0 ∷ 0 ∷ 0 ∷ 1 ∷ 0 ∷ 0 ∷ 0 ∷ 24 ∷ 0 ∷ 0 ∷ 0 ∷ 26 ∷ [])
unfolding number_bytes
one_of_three = refl

-- two items on one free flag
items_of_a_free_flag : class_bytes (small (codes "a" ∷ [])) (codes "=x/z-1[a?,-a]") ≡ Some (
    0 ∷ 0 ∷ 0 ∷ 1 ∷ 0 ∷ 0 ∷ 0 ∷ 10 ∷ 0 ∷ 0 ∷ 0 ∷ 0 ∷ 0 ∷ 1 ∷ 0 ∷ 0 ∷ 0 ∷ 0 ∷ 0 ∷ 0 ∷ 0 ∷ 0 ∷ 0 ∷ 1 ∷ 0 ∷ 0 ∷ 0 ∷ 1 ∷ 0 ∷ 0 ∷ 0 ∷ 0 ∷ 1 ∷ 0 ∷ 0 ∷ 0 ∷ 1 ∷ 0 ∷ 0 ∷ 0 ∷ 2 ∷ 1 ∷ 0 ∷ 0 ∷ 0 ∷ 2 ∷ 0 ∷
    0 ∷ 0 ∷ 9 ∷ 0 ∷ 0 ∷ 0 ∷ 11 ∷ 0 ∷ 0 ∷ 0 ∷ 0 ∷ 1 ∷ 0 ∷ 0 ∷ 0 ∷ 12 ∷ 1 ∷ 0 ∷ 0 ∷ 0 ∷ 1 ∷ 0 ∷ 0 ∷ 0 ∷ 14 ∷ 0 ∷ 0 ∷ 0 ∷ 0 ∷ 1 ∷ 0 ∷ 0 ∷ 0 ∷ 16 ∷ 0 ∷ 0 ∷ 0 ∷ 0 ∷ 2 ∷ 0 ∷ 0 ∷ 0 ∷ 6 ∷ 0 ∷ 0 ∷ 0 ∷
    19 ∷ 0 ∷ 0 ∷ 0 ∷ 20 ∷ [])
unfolding number_bytes
items_of_a_free_flag = refl
