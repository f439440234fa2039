-- Values of the definitions on worked examples.
use Rattle.std.specs.Prelude.{◌≡◌, ℕ, Bool, true, false, List, [], ◌∷◌, Option, None, Some, map, codes, refl}
use Rattle.gv_facts.specs.declared.kinds.Eapi.TheVariants.{Eight}
use Rattle.gv_facts.specs.declared.pkg.Pkg.{Pkg}
use Rattle.gv_facts.specs.declared.rules.Rule.{Rule}
use Rattle.gv_facts.specs.declared.value_lists.ValueList.{ValueList}
use Rattle.gv_profile.specs.FlagRules.{forces, rules_among}
use Rattle.gv_profile.specs.Lines.{file_lines}
use Rattle.gv_profile.specs.MaskLines.{file_atom}
use Rattle.gv_base.specs.Order.{has_text}
use Rattle.gv_usedefaults.specs.declared.defaults.UseDefaults.{UseDefaults}
use Rattle.gv_usedefaults.specs.Defaults.{free_default, last_word, values_say, word_behind}
use Rattle.gv_usedefaults.specs.Reports.{witness_of}

-- app/p-1 with the flags a and b, of which these are written with `+`
abbrev p_with : List (List ℕ) → Pkg
p_with plus = record {
  category = codes "app";
  name = codes "p";
  version = codes "1";
  pf = codes "p-1";
  eapi = Eight;
  slot = codes "0";
  sub = codes "0";
  keywords = codes "amd64" ∷ [];
  iuse = codes "a" ∷ codes "b" ∷ [];
  iuse_plus = plus;
  live = false;
}

abbrev says : (on kept : List (List ℕ)) → List ValueList → List Rule → UseDefaults
says on kept expand rules = record { on = on; kept = kept; expand = expand; rules = rules }

abbrev both : List (List ℕ)
both = codes "a" ∷ codes "b" ∷ []

abbrev defaults_by : List (List ℕ) → UseDefaults → List Bool
defaults_by plus d = map (free_default (p_with plus) d) both

-- `package.use` with these lines
abbrev use_lines : List ℕ → List Rule
use_lines bytes = rules_among (forces false true) (file_lines bytes)

-- nothing is said; a is written with `+`, and nothing took it away; `-*` did; b is in USE
plain : (defaults_by [] (says [] both [] []) ≡ false ∷ false ∷ []) × (defaults_by (codes "a" ∷ []) (says [] both [] []) ≡ true ∷ false ∷ [])
    × (defaults_by (codes "a" ∷ []) (says [] [] [] []) ≡ false ∷ false ∷ []) × (defaults_by [] (says (codes "b" ∷ []) both [] []) ≡ false ∷ true ∷ [])
plain = (refl, refl, refl, refl)

-- the last word of the lines that match decides, before IUSE
words : (defaults_by [] (says [] both [] (use_lines (codes "app/p b"))) ≡ false ∷ true ∷ []) × (defaults_by (codes "a" ∷ []) (says [] both [] (use_lines (codes "app/p -a\n>app/p-1 a"))) ≡ false ∷ false ∷ [])
    × (last_word (p_with []) (use_lines (codes "app/q a\napp/p")) (codes "a") ≡ None)
unfolding file_atom
words = (refl, refl, refl)

-- the flags of a variable
behind : (word_behind (codes "ELIBC") (codes "elibc_musl") ≡ Some (codes "musl")) × (word_behind (codes "ELIBC") (codes "elibc") ≡ None) × (word_behind (codes "A") (codes "a_b_c") ≡ Some (codes "b_c"))
behind = (refl, refl, refl)

abbrev lists : List ValueList
lists = record { name = codes "A"; words = codes "x" ∷ [] } ∷ record { name = codes "A_B"; words = codes "y" ∷ [] } ∷ record { name = codes "C"; words = [] } ∷ []

values : (values_say lists (codes "a_x") ≡ Some true) × (values_say lists (codes "a_b_y") ≡ Some true) × (values_say lists (codes "a_b_x") ≡ Some false) × (values_say lists (codes "c_x") ≡ None)
values = (refl, refl, refl, refl)

witness : witness_of (has_text (codes "b" ∷ [])) both ≡ codes "-a b"
witness = refl
