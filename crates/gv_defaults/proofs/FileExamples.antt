-- Files of assignments: what counts, and the line of the fault.
use Rattle.std.specs.Prelude.{◌≡◌, ℕ, List, [], ◌∷◌, Some, None, refl, codes}
use Rattle.gv_defaults.specs.Assignments.{Assignment, File, file_of}

abbrev good : List Assignment → File
good assignments = record { assignments = assignments; bad = None }

abbrev until : ℕ → List Assignment → File
until line assignments = record { assignments = assignments; bad = Some line }

abbrev sets : List ℕ → List ℕ → Assignment
sets name text = record { name = name; text = text }

nothing : file_of [] ≡ good []
nothing = refl

-- spaces, tabs, carriage returns, line feeds and a comment
gaps : file_of (codes " \t\r\n# A=1 \"\n") ≡ good []
gaps = refl

comment_to_the_end : file_of (codes "#A=1") ≡ good []
comment_to_the_end = refl

two_on_a_line : file_of (codes "A=1 _b2=\"x y\" # c") ≡ good (sets (codes "A") (codes "1") ∷ sets (codes "_b2") (codes "\"x y\"") ∷ [])
two_on_a_line = refl

no_comment_in_a_word : file_of (codes "A=1#x #y") ≡ good (sets (codes "A") (codes "1#x") ∷ [])
no_comment_in_a_word = refl

no_value : file_of (codes "A= B=") ≡ good (sets (codes "A") [] ∷ sets (codes "B") [] ∷ [])
no_value = refl

equals_in_a_value : file_of (codes "A=b=c") ≡ good (sets (codes "A") (codes "b=c") ∷ [])
equals_in_a_value = refl

-- ---- faults
with_export : file_of (codes "export A=1") ≡ until 1 []
with_export = refl

plus_equals : file_of (codes "A=1\nA+=1") ≡ until 2 (sets (codes "A") (codes "1") ∷ [])
plus_equals = refl

-- a backslash before a line feed, between assignments
backslash_between : file_of (codes "A=1 \\\nB=2") ≡ until 1 (sets (codes "A") (codes "1") ∷ [])
backslash_between = refl

digit_first : file_of (codes "1A=x") ≡ until 1 []
digit_first = refl

no_name : file_of (codes "=x") ≡ until 1 []
no_name = refl

space_before_equals : file_of (codes "A =1") ≡ until 1 []
space_before_equals = refl

name_alone : file_of (codes "A") ≡ until 1 []
name_alone = refl

open_quote : file_of (codes "B=\"x") ≡ until 1 []
open_quote = refl

-- the line on which the assignment begins, and not that of the end
open_quote_over_lines : file_of (codes "\nA='x\ny\n") ≡ until 2 []
open_quote_over_lines = refl

-- line feeds in comments, in quotes and behind a backslash count, and nothing behind the fault does
lines_count : file_of (codes "# c\nA=\"x\n\"y\\\nz\n! B=1\nC=2")
    ≡ until 5 (sets (codes "A") (codes "\"x\n\"y\\\nz") ∷ [])
lines_count = refl
