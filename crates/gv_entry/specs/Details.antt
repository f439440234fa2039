-- What is wrong with a cache entry: the details of its errors (a format of this project).
use Rattle.std.specs.Prelude.{ℕ, Bool, is_some, if◌then◌else◌, List, [], ◌∷◌, ◌++◌, Option, None, Some, option_map, option_to_list, map, codes, decimal}
use Rattle.gv_expr.specs.declared.fault.ExprKind.{ExprKind}
use Rattle.gv_expr.specs.declared.fault.ExprKind.TheVariants.{TooMany, Depth, Stray, NotHere, BadFlag, BadAtom, Unclosed}
use Rattle.gv_expr.specs.Token.{tokens_of}
use Rattle.gv_expr.specs.TokenFaults.{Language, dependency, required_use, first_fault}
use Rattle.gv_facts.specs.declared.kinds.Eapi.{Eapi}
use Rattle.gv_facts.specs.declared.kinds.Class.{Class}
use Rattle.gv_facts.specs.declared.kinds.Class.TheVariants.{Required, Depend, Bdepend, Rdepend, Pdepend, Idepend}
use Rattle.gv_facts.specs.Classes.{class_text, has_class}
use Rattle.gv_entry.specs.declared.entry.EntryError.{EntryError}
use Rattle.gv_entry.specs.EntryValues.{value_of, slot_of, is_keyword_word, is_iuse_word, bad_word}

abbrev pub kind_text : ExprKind → List ℕ
kind_text TooMany = codes "too many tokens"
kind_text Depth = codes "depth"
kind_text Stray = codes "stray token"
kind_text NotHere = codes "not allowed here"
kind_text BadFlag = codes "bad flag"
kind_text BadAtom = codes "bad atom"
kind_text Unclosed = codes "unclosed group"

abbrev pub token_detail : Class → ℕ × ExprKind → List ℕ
token_detail class fault = class_text class ++ (codes ": token " ++ (decimal fault.0 ++ (codes ": " ++ kind_text fault.1)))

abbrev pub word_detail : (key : List ℕ) → ℕ → List ℕ
word_detail key number = key ++ (codes ": word " ++ decimal number)

abbrev pub language_of : Class → Language
language_of Required = required_use
language_of class = dependency

-- the error of a class of the EAPI, if it is broken
abbrev pub class_details : Eapi → (text : List ℕ) → Class → List (List ℕ)
class_details eapi text class =
    if has_class eapi class then option_to_list (option_map (token_detail class) (first_fault (language_of class) (tokens_of (value_of (class_text class) text)))) else []

-- of SLOT, KEYWORDS and IUSE, and of the classes
abbrev pub slot_details : (has_slot : Bool) → List (List ℕ)
slot_details has_slot = if has_slot then [] else codes "SLOT: bad" ∷ []

abbrev pub word_details : (key : List ℕ) → (bad : Option ℕ) → List (List ℕ)
word_details key bad = option_to_list (option_map (word_detail key) bad)

abbrev pub head_details_with : (has_slot : Bool) → (bad_keyword bad_flag : Option ℕ) → List (List ℕ)
head_details_with has_slot bad_keyword bad_flag = slot_details has_slot ++ (word_details (codes "KEYWORDS") bad_keyword ++ word_details (codes "IUSE") bad_flag)

abbrev pub head_details : (text : List ℕ) → List (List ℕ)
head_details text =
    head_details_with (is_some (slot_of (value_of (codes "SLOT") text)))
    (bad_word is_keyword_word (value_of (codes "KEYWORDS") text))
    (bad_word is_iuse_word (value_of (codes "IUSE") text))

abbrev pub body_details : Eapi → (text : List ℕ) → List (List ℕ)
body_details eapi text = class_details eapi text Required ++ (class_details eapi text Depend ++ (class_details eapi text Bdepend
    ++ (class_details eapi text Rdepend ++ (class_details eapi text Pdepend ++ class_details eapi text Idepend))))

-- an EAPI that isn't known stands alone
abbrev pub details_of : Option Eapi → (text : List ℕ) → List (List ℕ)
details_of None text = codes "EAPI: unsupported" ∷ []
details_of (Some eapi) text = head_details text ++ body_details eapi text

abbrev pub error_of : List ℕ → EntryError
error_of detail = record { detail = detail }

abbrev pub errors_of : List (List ℕ) → List EntryError
errors_of details = map error_of details
