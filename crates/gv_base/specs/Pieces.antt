-- A text cut into pieces.
use Rattle.std.specs.Prelude.{ℕ, ◌==◌, Bool, ◌||◌, List, [], Option, Some, None}
use Rattle.std.specs.List.{slice_split}
use Rattle.std.specs.Borrow.{Bor}
use Rattle.gv_base.specs.declared.pieces.Cut.{Cut}
use Rattle.gv_base.specs.declared.pieces.Cut.TheVariants.{Lines, Words, Tokens, Parts}

-- space, tab and carriage return
abbrev pub is_blank : ℕ → Bool
is_blank b = b == 32 || (b == 9 || b == 13)

-- a line feed; a blank; a blank or a line feed; a slash
abbrev pub separates : Cut → ℕ → Bool
separates Lines b = b == 10
separates Words b = is_blank b
separates Tokens b = is_blank b || b == 10
separates Parts b = b == 47

-- the pieces between the separators, one more than there are separators
abbrev pub pieces : Cut → List ℕ → List (List ℕ)
pieces cut bytes = slice_split (separates cut) bytes

-- the pieces of what is left, if anything is
abbrev pub left : Cut → Option (Bor (List ℕ)) → List (List ℕ)
left cut None = []
left cut (Some bytes) = pieces cut bytes.now
