-- Values of make.defaults: where they end, and what they stand for. A is 1 and AB is 2.
use Rattle.std.specs.Prelude.{◌≡◌, ℕ, List, [], Some, None, refl, codes, if◌then◌else◌}
use Rattle.std.specs.Str.{bytes_eq}
use Rattle.gv_defaults.specs.Quotes.{value_len}
use Rattle.gv_defaults.specs.Meaning.{meaning_of}

-- ---- where a value ends
before_space : value_len (codes "ab c") ≡ Some 2
before_space = refl

before_tab : value_len (codes "a\t") ≡ Some 1
before_tab = refl

before_return : value_len (codes "a\r\n") ≡ Some 1
before_return = refl

before_feed : value_len (codes "a\n") ≡ Some 1
before_feed = refl

at_end : value_len (codes "ab#c") ≡ Some 4
at_end = refl

empty_value : value_len (codes " ab") ≡ Some 0
empty_value = refl

-- "a b"c'd e' f
not_in_quotes : value_len (codes "\"a b\"c'd e' f") ≡ Some 11
not_in_quotes = refl

-- "a\" b" c
escaped_quote_closes_nothing : value_len (codes "\"a\\\" b\" c") ≡ Some 7
escaped_quote_closes_nothing = refl

-- 'a\' b
backslash_in_single_quotes : value_len (codes "'a\\' b") ≡ Some 4
backslash_in_single_quotes = refl

-- a\ b c
escaped_space_ends_nothing : value_len (codes "a\\ b c") ≡ Some 4
escaped_space_ends_nothing = refl

-- a\'b c
escaped_quote_opens_nothing : value_len (codes "a\\'b c") ≡ Some 4
escaped_quote_opens_nothing = refl

backslash_at_end : value_len (codes "a\\") ≡ Some 2
backslash_at_end = refl

open_double : value_len (codes "\"x") ≡ None
open_double = refl

open_single : value_len (codes "'x") ≡ None
open_single = refl

-- "x\
open_behind_backslash : value_len (codes "\"x\\") ≡ None
open_behind_backslash = refl

-- ---- what it stands for
abbrev vars : List ℕ → List ℕ
vars name = if bytes_eq name (codes "A") then codes "1" else (if bytes_eq name (codes "AB") then codes "2" else [])

-- "a b"'c d'e
side_by_side : meaning_of vars (codes "\"a b\"'c d'e") ≡ codes "a bc de"
side_by_side = refl

-- 'a"b'"c'd"
other_quotes : meaning_of vars (codes "'a\"b'\"c'd\"") ≡ codes "a\"bc'd"
other_quotes = refl

-- "\"\\\$\x", and a backslash before a line feed
escapes_in_double : meaning_of vars (codes "\"\\\"\\\\\\$\\x\\\n\"") ≡ codes "\"\\$\\x"
escapes_in_double = refl

-- \"\'\\\$\ \x, and a backslash before a line feed
escapes_in_bare : meaning_of vars (codes "\\\"\\'\\\\\\$\\ \\x\\\ny") ≡ codes "\"'\\$ xy"
escapes_in_bare = refl

-- 'a\$A\'
escapes_in_single : meaning_of vars (codes "'a\\$A\\'") ≡ codes "a\\$A\\"
escapes_in_single = refl

backslash_at_end_is_itself : meaning_of vars (codes "a\\") ≡ codes "a\\"
backslash_at_end_is_itself = refl

feeds_in_quotes : meaning_of vars (codes "\"a\n\"'\nb'") ≡ codes "a\n\nb"
feeds_in_quotes = refl

-- x$A-"$A"${A}
names_in_bare_and_double : meaning_of vars (codes "x$A-\"$A\"${A}") ≡ codes "x1-11"
names_in_bare_and_double = refl

longest_name : meaning_of vars (codes "$AB${A}B$A-B") ≡ codes "21B1-B"
longest_name = refl

never_set : meaning_of vars (codes "x${C}y$C") ≡ codes "xy"
never_set = refl

not_in_single : meaning_of vars (codes "'$A${A}'") ≡ codes "$A${A}"
not_in_single = refl

-- $, "$", $1, $-
dollar_alone : meaning_of vars (codes "$\"$\"$1$-") ≡ codes "$$$1$-"
dollar_alone = refl

-- ${A, ${A-}, ${}, ${1}
braces_without_name : meaning_of vars (codes "${A${A-}${}${1}") ≡ codes "${A${A-}${}${1}"
braces_without_name = refl

-- a name goes no further than its quotes: "$A"B
name_in_quotes : meaning_of vars (codes "\"$A\"B") ≡ codes "1B"
name_in_quotes = refl

-- a value isn't read again: \$A with a backslash before the dollar sign
dollar_escaped : meaning_of vars (codes "\\$A\"\\${A}\"") ≡ codes "$A${A}"
dollar_escaped = refl
