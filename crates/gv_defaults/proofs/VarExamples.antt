-- What files make of variables. Before them USE is b, and P is the text "p  q".
use Rattle.std.specs.Prelude.{◌≡◌, ℕ, true, false, List, [], ◌∷◌, Option, Some, None, length, refl, codes, if◌then◌else◌}
use Rattle.std.specs.Str.{bytes_eq}
use Rattle.gv_defaults.specs.declared.vars.Setting.{Setting}
use Rattle.gv_defaults.specs.declared.vars.Setting.TheVariants.{Words, Plain}
use Rattle.gv_defaults.specs.Assignments.{file_of}
use Rattle.gv_defaults.specs.Incremental.{incremental_names, is_incremental, with_words}
use Rattle.gv_defaults.specs.Settings.{words_of}
use Rattle.gv_defaults.specs.Defaults.{setting_after}

abbrev before : List ℕ → Option Setting
before name =
    if bytes_eq name (codes "USE") then Some (Words (codes "b" ∷ codes "c" ∷ []))
    else (if bytes_eq name (codes "P") then Some (Plain (codes "p  q")) else None)

-- A="x y", USE="a ${A}", USE="$USE -b", each on a line, where USE was b
abbrev use_b : List ℕ → Option Setting
use_b name = if bytes_eq name (codes "USE") then Some (Words (codes "b" ∷ [])) else None

abbrev three_lines : List ℕ
three_lines = codes "A=\"x y\"\nUSE=\"a ${A}\"\nUSE=\"$USE -b\"\n"

use_folded : setting_after use_b three_lines (codes "USE") ≡ Some (Words (codes "a" ∷ codes "x" ∷ codes "y" ∷ []))
unfolding is_incremental incremental_names
use_folded = refl

no_fault : (file_of three_lines).bad ≡ None
no_fault = refl

-- B="x
nothing_changed : setting_after use_b (codes "B=\"x") (codes "USE") ≡ use_b (codes "USE")
nothing_changed = refl

not_set : setting_after use_b (codes "B=\"x") (codes "B") ≡ None
not_set = refl

-- ---- values of names
earlier_in_the_file : setting_after before (codes "A=1 B=$A A=2 C=$A") (codes "B") ≡ Some (Plain (codes "1"))
unfolding is_incremental incremental_names
earlier_in_the_file = refl

last_one_stays : setting_after before (codes "A=1 B=$A A=2 C=$A") (codes "A") ≡ Some (Plain (codes "2"))
unfolding is_incremental incremental_names
last_one_stays = refl

before_the_file : setting_after before (codes "A=\"$P\"") (codes "A") ≡ Some (Plain (codes "p  q"))
unfolding is_incremental incremental_names
before_the_file = refl

words_before_the_file : setting_after before (codes "A=\"$USE\"") (codes "A") ≡ Some (Plain (codes "b c"))
unfolding is_incremental incremental_names
words_before_the_file = refl

later_in_the_file : setting_after before (codes "A=${B}x B=1") (codes "A") ≡ Some (Plain (codes "x"))
unfolding is_incremental incremental_names
later_in_the_file = refl

itself_in_the_file : setting_after before (codes "A=x A=$A$A A=$A$A") (codes "A") ≡ Some (Plain (codes "xxxx"))
unfolding is_incremental incremental_names
itself_in_the_file = refl

-- while a file is read an incremental name stands for its value there, and not for what is folded
value_before_the_fold : setting_after before (codes "USE=\"-b d\" A=\"$USE\"") (codes "A") ≡ Some (Plain (codes "-b d"))
unfolding is_incremental incremental_names
value_before_the_fold = refl

-- ---- incremental and other names
added : setting_after before (codes "USE=\"a b -c\"") (codes "USE") ≡ Some (Words (codes "b" ∷ codes "a" ∷ []))
unfolding is_incremental incremental_names
added = refl

-- of two assignments the last alone is folded
last_one_folded : setting_after before (codes "USE=a USE=d") (codes "USE") ≡ Some (Words (codes "b" ∷ codes "c" ∷ codes "d" ∷ []))
unfolding is_incremental incremental_names
last_one_folded = refl

empty_value_folded : setting_after before (codes "USE=") (codes "USE") ≡ before (codes "USE")
unfolding is_incremental incremental_names
empty_value_folded = refl

replaced : setting_after before (codes "P=-q") (codes "P") ≡ Some (Plain (codes "-q"))
unfolding is_incremental incremental_names
replaced = refl

not_assigned : setting_after before (codes "A=1") (codes "P") ≡ before (codes "P")
not_assigned = refl

before_the_fault : setting_after before (codes "P=1 ! P=2") (codes "P") ≡ Some (Plain (codes "1"))
unfolding is_incremental incremental_names
before_the_fault = refl

-- space, tab, carriage return and line feed
parts_of_a_text : words_of (Some (Plain (codes "x  y\t\r\nz "))) ≡ codes "x" ∷ codes "y" ∷ codes "z" ∷ []
parts_of_a_text = refl

use_flags_incremental : is_incremental (codes "USE") ≡ true
unfolding is_incremental incremental_names
use_flags_incremental = refl

use_expand_incremental : is_incremental (codes "USE_EXPAND") ≡ true
unfolding is_incremental incremental_names
use_expand_incremental = refl

use_expand_hidden_incremental : is_incremental (codes "USE_EXPAND_HIDDEN") ≡ true
unfolding is_incremental incremental_names
use_expand_hidden_incremental = refl

config_protect_incremental : is_incremental (codes "CONFIG_PROTECT") ≡ true
unfolding is_incremental incremental_names
config_protect_incremental = refl

config_protect_mask_incremental : is_incremental (codes "CONFIG_PROTECT_MASK") ≡ true
unfolding is_incremental incremental_names
config_protect_mask_incremental = refl

iuse_implicit_incremental : is_incremental (codes "IUSE_IMPLICIT") ≡ true
unfolding is_incremental incremental_names
iuse_implicit_incremental = refl

use_expand_implicit_incremental : is_incremental (codes "USE_EXPAND_IMPLICIT") ≡ true
unfolding is_incremental incremental_names
use_expand_implicit_incremental = refl

use_expand_unprefixed_incremental : is_incremental (codes "USE_EXPAND_UNPREFIXED") ≡ true
unfolding is_incremental incremental_names
use_expand_unprefixed_incremental = refl

env_unset_incremental : is_incremental (codes "ENV_UNSET") ≡ true
unfolding is_incremental incremental_names
env_unset_incremental = refl

accept_keywords_incremental : is_incremental (codes "ACCEPT_KEYWORDS") ≡ true
unfolding is_incremental incremental_names
accept_keywords_incremental = refl

-- and no eleventh: that the ten are all is the law of the names
ten_names : length incremental_names ≡ 10
unfolding incremental_names
ten_names = refl

other_name : is_incremental (codes "KEYWORDS") ≡ false
unfolding is_incremental incremental_names
other_name = refl

front_of_a_name : is_incremental (codes "US") ≡ false
unfolding is_incremental incremental_names
front_of_a_name = refl

-- ---- words taken in order
all_removed : with_words (codes "a" ∷ codes "b" ∷ []) (codes "c" ∷ codes "-*" ∷ codes "d" ∷ []) ≡ codes "d" ∷ []
all_removed = refl

added_again : with_words (codes "a" ∷ codes "b" ∷ []) (codes "-a" ∷ codes "c" ∷ codes "a" ∷ []) ≡ codes "b" ∷ codes "c" ∷ codes "a" ∷ []
added_again = refl

there_already : with_words (codes "a" ∷ codes "b" ∷ []) (codes "b" ∷ codes "c" ∷ codes "c" ∷ codes "a" ∷ []) ≡ codes "a" ∷ codes "b" ∷ codes "c" ∷ []
there_already = refl

hyphen_alone : with_words (codes "a" ∷ []) (codes "-" ∷ []) ≡ codes "a" ∷ []
hyphen_alone = refl

not_there : with_words (codes "a" ∷ []) (codes "-b" ∷ codes "*" ∷ []) ≡ codes "a" ∷ codes "*" ∷ []
not_there = refl
