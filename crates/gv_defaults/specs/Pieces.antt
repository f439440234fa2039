-- The value of an assignment in a make.defaults: pieces side by side, each in double quotes, in single quotes or bare.
use Rattle.std.specs.Prelude.{ℕ, ◌==◌, nat_lt, Bool, true, false, not, ◌&&◌, ◌||◌, if◌then◌else◌, List, [], ◌∷◌, ◌++◌, length, is_none, codes}
use Rattle.std.specs.Str.{byte}
use Rattle.std.specs.List.{flat_map, list_all}
use Rattle.gv_base.specs.Words.{is_empty}
use Rattle.gv_defaults.specs.Quotes.{is_space}
use Rattle.gv_defaults.specs.Names.{is_name_byte, name_len, name_behind}

-- what stands in double quotes, or bare: a byte that stands for itself, a backslash with the byte behind it, `$NAME` and `${NAME}`
pub data Mark : Type 0 where
  itself : (b : ℕ) → Mark
  escape : (b : ℕ) → Mark
  dollar : (name : List ℕ) → Mark
  braces : (name : List ℕ) → Mark

pub data Piece : Type 0 where
  double : (marks : List Mark) → Piece
  single : (bytes : List ℕ) → Piece
  bare : (marks : List Mark) → Piece

-- ---- the text
abbrev pub mark_text : Mark → List ℕ
mark_text (itself b) = b ∷ []
mark_text (escape b) = byte "\\" ∷ b ∷ []
mark_text (dollar name) = byte "$" ∷ name
mark_text (braces name) = codes "${" ++ name ++ codes "}"

abbrev pub marks_text : List Mark → List ℕ
marks_text marks = flat_map mark_text marks

abbrev pub piece_text : Piece → List ℕ
piece_text (double marks) = byte "\"" ∷ (marks_text marks ++ codes "\"")
piece_text (single bytes) = byte "'" ∷ (bytes ++ codes "'")
piece_text (bare marks) = marks_text marks

abbrev pub value_text : List Piece → List ℕ
value_text pieces = flat_map piece_text pieces

-- ---- what it stands for, where `look` gives the values of names
-- a backslash before a line feed goes with it; in double quotes it stays before a byte other than `"`, `\` and `$`
abbrev pub escaped_in_double : ℕ → List ℕ
escaped_in_double b =
    if b == byte "\n" then [] else (if b == byte "\"" || (b == byte "\\" || b == byte "$") then b ∷ [] else byte "\\" ∷ b ∷ [])

abbrev pub escaped_bare : ℕ → List ℕ
escaped_bare b = if b == byte "\n" then [] else b ∷ []

abbrev pub mark_means : (List ℕ → List ℕ) → (ℕ → List ℕ) → Mark → List ℕ
mark_means look escaped (itself b) = b ∷ []
mark_means look escaped (escape b) = escaped b
mark_means look escaped (dollar name) = look name
mark_means look escaped (braces name) = look name

abbrev pub marks_mean : (List ℕ → List ℕ) → (ℕ → List ℕ) → List Mark → List ℕ
marks_mean look escaped marks = flat_map (mark_means look escaped) marks

abbrev pub piece_means : (List ℕ → List ℕ) → Piece → List ℕ
piece_means look (double marks) = marks_mean look escaped_in_double marks
piece_means look (single bytes) = bytes
piece_means look (bare marks) = marks_mean look escaped_bare marks

abbrev pub value_means : (List ℕ → List ℕ) → List Piece → List ℕ
value_means look pieces = flat_map (piece_means look) pieces

-- ---- where it may stand: before what follows in the file
-- a name of at least one byte
abbrev pub is_name : List ℕ → Bool
is_name name = nat_lt 0 (length name) && name_len name == length name

-- the longest name is taken
abbrev pub goes_on : List ℕ → Bool
goes_on [] = false
goes_on (b ∷ bs) = is_name_byte b

-- a dollar sign stands for itself only where no name follows
abbrev pub stays : ℕ → List ℕ → Bool
stays b following = not (b == byte "$") || is_none (name_behind following)

abbrev pub itself_in_double : ℕ → List ℕ → Bool
itself_in_double b following = not (b == byte "\"" || b == byte "\\") && stays b following

-- a backslash stands for itself only at the end of the file
abbrev pub itself_bare : ℕ → List ℕ → Bool
itself_bare b following =
    if b == byte "\\" then is_empty following else not (is_space b || (b == byte "\"" || b == byte "'")) && stays b following

abbrev pub mark_fits : (ℕ → List ℕ → Bool) → Mark → List ℕ → Bool
mark_fits fits (itself b) following = fits b following
mark_fits fits (escape b) following = true
mark_fits fits (dollar name) following = is_name name && not (goes_on following)
mark_fits fits (braces name) following = is_name name

abbrev pub marks_fit : (ℕ → List ℕ → Bool) → List Mark → List ℕ → Bool
marks_fit fits [] following = true
marks_fit fits (m ∷ ms) following = mark_fits fits m (marks_text ms ++ following) && marks_fit fits ms following

abbrev pub piece_fits : Piece → List ℕ → Bool
piece_fits (double marks) following = marks_fit itself_in_double marks (byte "\"" ∷ following)
piece_fits (single bytes) following = list_all (λ b. not (b == byte "'")) bytes
piece_fits (bare marks) following = marks_fit itself_bare marks following

abbrev pub pieces_fit : List Piece → List ℕ → Bool
pieces_fit [] following = true
pieces_fit (p ∷ ps) following = piece_fits p (value_text ps ++ following) && pieces_fit ps following

-- a value ends before a space, tab, carriage return or line feed, and at the end of the file
abbrev pub ends_value : List ℕ → Bool
ends_value [] = true
ends_value (b ∷ bs) = is_space b

abbrev pub value_fits : List Piece → List ℕ → Bool
value_fits pieces following = pieces_fit pieces following && ends_value following
