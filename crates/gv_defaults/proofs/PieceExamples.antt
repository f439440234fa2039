-- Values as pieces, and files as parts: texts, meanings, and where they may stand. A is 1.
use Rattle.std.specs.Prelude.{◌≡◌, ℕ, true, false, List, [], ◌∷◌, refl, codes, if◌then◌else◌}
use Rattle.std.specs.Str.{byte, bytes_eq}
use Rattle.gv_defaults.specs.Pieces.{itself, escape, dollar, braces, Piece, double, single, bare, value_text, value_means, value_fits}
use Rattle.gv_defaults.specs.Layout.{Part, blank, comment, assigns, parts_text, parts_fit}

abbrev vars : List ℕ → List ℕ
vars name = if bytes_eq name (codes "A") then codes "1" else []

-- "a\$ ${A}"'$A'\x$A
abbrev three : List Piece
three =
    double (itself (byte "a") ∷ escape (byte "$") ∷ itself (byte " ") ∷ braces (codes "A") ∷ [])
    ∷ single (codes "$A")
    ∷ bare (escape (byte "x") ∷ dollar (codes "A") ∷ [])
    ∷ []

three_text : value_text three ≡ codes "\"a\\$ ${A}\"'$A'\\x$A"
three_text = refl

three_mean : value_means vars three ≡ codes "a$ 1$Ax1"
three_mean = refl

three_fit : value_fits three (codes " ") ≡ true
three_fit = refl

-- in double quotes a backslash stays before x, and goes before a line feed
backslashes : value_means vars (double (escape (byte "x") ∷ escape (byte "\n") ∷ []) ∷ bare (escape (byte "x") ∷ escape (byte "\n") ∷ []) ∷ []) ≡ codes "\\xx"
backslashes = refl

-- `$A` before B would be `$AB`
longest_name : value_fits (bare (dollar (codes "A") ∷ itself (byte "B") ∷ []) ∷ []) [] ≡ false
longest_name = refl

quotes_end_a_name : value_fits (double (dollar (codes "A") ∷ []) ∷ bare (itself (byte "B") ∷ []) ∷ []) [] ≡ true
quotes_end_a_name = refl

lone_dollar : value_fits (bare (itself (byte "$") ∷ itself (byte "-") ∷ []) ∷ []) [] ≡ true
lone_dollar = refl

no_lone_dollar : value_fits (bare (itself (byte "$") ∷ itself (byte "A") ∷ []) ∷ []) [] ≡ false
no_lone_dollar = refl

-- a backslash is itself at the end of the file alone
last_backslash : value_fits (bare (itself (byte "\\") ∷ []) ∷ []) [] ≡ true
last_backslash = refl

no_last_backslash : value_fits (bare (itself (byte "\\") ∷ []) ∷ []) (codes " ") ≡ false
no_last_backslash = refl

no_blank_bare : value_fits (bare (itself (byte " ") ∷ []) ∷ []) [] ≡ false
no_blank_bare = refl

no_quote_in_single : value_fits (single (codes "'") ∷ []) [] ≡ false
no_quote_in_single = refl

-- a comment begins where an assignment could
abbrev two_lines : List Part
two_lines = comment (codes " c") ∷ blank (byte "\n") ∷ assigns (codes "B") (bare (itself (byte "#") ∷ []) ∷ []) ∷ blank (byte " ") ∷ comment [] ∷ []

two_lines_text : parts_text two_lines ≡ codes "# c\nB=# #"
two_lines_text = refl

two_lines_fit : parts_fit two_lines [] ≡ true
two_lines_fit = refl

-- nothing but a line feed or the end follows a comment
comment_to_the_end : parts_fit (comment (codes "c") ∷ []) (codes "x") ≡ false
comment_to_the_end = refl

digit_first : parts_fit (assigns (codes "1B") [] ∷ []) [] ≡ false
digit_first = refl
