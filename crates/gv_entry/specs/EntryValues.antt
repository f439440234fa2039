-- The values and words of a cache entry (PMS chapter 14, md5-dict).
use Rattle.std.specs.Prelude.{ℕ, Bool, ◌&&◌, ◌||◌, not, if◌then◌else◌, List, [], ◌∷◌, ◌++◌, drop, Option, None, Some, unwrap_or, codes}
use Rattle.std.specs.List.{position_from}
use Rattle.std.specs.Str.{bytes_eq}
use Rattle.gv_base.specs.declared.pieces.Cut.TheVariants.{Parts}
use Rattle.gv_base.specs.Pieces.{pieces}
use Rattle.gv_base.specs.Cut.{after_prefix}
use Rattle.gv_base.specs.Words.{lines_of, tokens_of}
use Rattle.gv_version.specs.Bytes.{begins_with, is_one_of}
use Rattle.gv_version.specs.Names.{is_slot, is_flag, is_keyword}
use Rattle.gv_facts.specs.declared.kinds.Eapi.{Eapi}
use Rattle.gv_facts.specs.declared.kinds.Eapi.TheVariants.{Five, Six, Seven, Eight}

-- the rest of the first line that begins with the prefix, and nothing where there is none
abbrev pub value_behind : (prefix : List ℕ) → List (List ℕ) → List ℕ
value_behind prefix [] = []
value_behind prefix (line ∷ lines) = unwrap_or (after_prefix prefix line) (value_behind prefix lines)

-- a line of a key is the key, `=` and the value
abbrev pub value_of : (key text : List ℕ) → List ℕ
value_of key text = value_behind (key ++ codes "=") (lines_of text)

abbrev pub eapi_of : List ℕ → Option Eapi
eapi_of value =
    if bytes_eq value (codes "5") then Some Five else
    if bytes_eq value (codes "6") then Some Six else
    if bytes_eq value (codes "7") then Some Seven else
    if bytes_eq value (codes "8") then Some Eight else None

-- slot and sub-slot; without a sub-slot the slot is that too
abbrev pub slot_in : List (List ℕ) → Option (List ℕ × List ℕ)
slot_in (slot ∷ []) = if is_slot slot then Some (slot, slot) else None
slot_in (slot ∷ sub ∷ []) = if is_slot slot && is_slot sub then Some (slot, sub) else None
slot_in parts = None

abbrev pub slot_of : List ℕ → Option (List ℕ × List ℕ)
slot_of value = slot_in (pieces Parts value)

-- a word without one of the marks in front
abbrev pub unmarked : (marks : List ℕ) → List ℕ → List ℕ
unmarked marks word = if begins_with (is_one_of marks) word then drop 1 word else word

abbrev pub is_keyword_word : List ℕ → Bool
is_keyword_word word = bytes_eq word (codes "-*") || is_keyword (unmarked (codes "~-") word)

abbrev pub is_iuse_word : List ℕ → Bool
is_iuse_word word = is_flag (unmarked (codes "+-") word)

-- the number of the first word that doesn't pass, from 1
abbrev pub bad_word : (List ℕ → Bool) → List ℕ → Option ℕ
bad_word test value = position_from (λ w. not (test w)) 1 (tokens_of value)
