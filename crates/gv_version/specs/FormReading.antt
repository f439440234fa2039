-- How the program reads the form of a version byte by byte, for the contracts of private functions:
-- the state between two bytes. `has_form` is that the state behind the last byte is whole.
use Rattle.std.specs.Prelude.{ℕ, ◌==◌, Bool, true, false, if◌then◌else◌, List, [], ◌∷◌}
use Rattle.std.specs.Str.{byte}
use Rattle.gv_version.specs.Bytes.{is_digit, is_small}
use Rattle.gv_version.specs.declared.form.State.{State}
use Rattle.gv_version.specs.declared.form.State.TheVariants.{Start, Number, Dot, Letter, Underscore, A, Al, Alp, Alph, B, Be, Bet, P, Pr, R, Suffix, SuffixNumber, Hyphen, HyphenR, Revision, Nothing}

abbrev pub only : ℕ → State → ℕ → State
only wanted s b = if b == wanted then s else Nothing

abbrev pub digit_only : State → ℕ → State
digit_only s b = if is_digit b then s else Nothing

abbrev pub after_part : ℕ → State
after_part b = if b == byte "_" then Underscore else if b == byte "-" then Hyphen else Nothing

abbrev pub after_number : ℕ → State
after_number b = if is_digit b then Number else if b == byte "." then Dot else if is_small b then Letter else after_part b

abbrev pub after_underscore : ℕ → State
after_underscore b =
    if b == byte "a" then A else
    if b == byte "b" then B else
    if b == byte "p" then P else
    if b == byte "r" then R else Nothing

abbrev pub after_suffix : ℕ → State
after_suffix b = if is_digit b then SuffixNumber else after_part b

abbrev pub next : State → ℕ → State
next Start b = digit_only Number b
next Number b = after_number b
next Dot b = digit_only Number b
next Letter b = after_part b
next Underscore b = after_underscore b
next A b = only (byte "l") Al b
next Al b = only (byte "p") Alp b
next Alp b = only (byte "h") Alph b
next Alph b = only (byte "a") Suffix b
next B b = only (byte "e") Be b
next Be b = only (byte "t") Bet b
next Bet b = only (byte "a") Suffix b
next P b = if b == byte "r" then Pr else after_suffix b
next Pr b = only (byte "e") Suffix b
next R b = only (byte "c") Suffix b
next Suffix b = after_suffix b
next SuffixNumber b = after_suffix b
next Hyphen b = only (byte "r") HyphenR b
next HyphenR b = digit_only Revision b
next Revision b = digit_only Revision b
next Nothing b = Nothing

abbrev pub is_whole : State → Bool
is_whole Start = false
is_whole Number = true
is_whole Dot = false
is_whole Letter = true
is_whole Underscore = false
is_whole A = false
is_whole Al = false
is_whole Alp = false
is_whole Alph = false
is_whole B = false
is_whole Be = false
is_whole Bet = false
is_whole P = true
is_whole Pr = false
is_whole R = false
is_whole Suffix = true
is_whole SuffixNumber = true
is_whole Hyphen = false
is_whole HyphenR = false
is_whole Revision = true
is_whole Nothing = false

abbrev pub run : State → List ℕ → State
run s [] = s
run s (b ∷ bs) = run (next s b) bs
