-- What private contracts say of the words of an incremental value: those last that no later word removes.
use Rattle.std.specs.Prelude.{ℕ, ◌==◌, Bool, false, not, ◌&&◌, ◌||◌, if◌then◌else◌, List, [], ◌∷◌, ◌++◌, codes}
use Rattle.std.specs.List.{list_any}
use Rattle.std.specs.Str.{byte, bytes_eq}
use Rattle.gv_base.specs.Order.{has_text}

-- whether the word is `-*`, or `-` and the text
abbrev pub removes : List ℕ → List ℕ → Bool
removes text [] = false
removes text (b ∷ bs) = b == byte "-" && (bytes_eq bs (codes "*") || bytes_eq text bs)

abbrev pub removed_by : List (List ℕ) → List ℕ → Bool
removed_by words text = list_any (removes text) words

-- whether the word adds itself
abbrev pub adds : List ℕ → Bool
adds [] = false
adds (b ∷ bs) = not (b == byte "-")

-- the words that add themselves and that no later one removes, the last first
abbrev pub lasting : List (List ℕ) → List (List ℕ)
lasting [] = []
lasting (word ∷ words) = if adds word && not (removed_by words word) then lasting words ++ word ∷ [] else lasting words

-- a word is added at the end where it isn't there
abbrev pub with_once : List (List ℕ) → List ℕ → List (List ℕ)
with_once words word = if has_text words word then words else words ++ word ∷ []

-- words are added from the last of them on
abbrev pub from_last : List (List ℕ) → List (List ℕ) → List (List ℕ)
from_last words [] = words
from_last words (word ∷ more) = with_once (from_last words more) word
