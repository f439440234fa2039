-- Words of private contracts: packages that atoms of rules name, and rules for every package.
use Rattle.std.specs.Prelude.{◌≡◌, ℕ, Bool, true, false, ◌&&◌, List}
use Rattle.std.specs.Borrow.{Bor}
use Rattle.std.specs.List.{list_any}
use Rattle.std.specs.Option.{option_map_or}
use Rattle.std.specs.Str.{bytes_eq}
use Rattle.gv_facts.specs.declared.pkg.Pkg.{Pkg}
use Rattle.gv_facts.specs.declared.rules.Rule.{Rule}

-- the rule is for packages of this category and name
abbrev pub names_pkg : (category name : List ℕ) → Rule → Bool
names_pkg category name r = option_map_or (λ a. bytes_eq category a.category && bytes_eq name a.name) r.atom false

-- a rule is for packages of this category and name
abbrev pub is_named : List Rule → Pkg → Bool
is_named rules p = list_any (names_pkg p.category p.name) rules

-- the rule is for every package
abbrev pub is_general : Rule → Bool
is_general r = option_map_or (λ a. false) r.atom true

-- For an invariant: what a hash set of categories and names holds.
abbrev pub Key : Type 0
Key = Bor (List ℕ) × Bor (List ℕ)

abbrev pub is_key : (category name : List ℕ) → Key → Bool
is_key category name key = bytes_eq category key.0.now && bytes_eq name key.1.now

abbrev pub has_key : List Key → (category name : List ℕ) → Bool
has_key keys category name = list_any (is_key category name) keys

abbrev pub AreNamed : List Key → List Rule → Type 0
AreNamed keys rules = (category name : List ℕ) → has_key keys category name ≡ list_any (names_pkg category name) rules
