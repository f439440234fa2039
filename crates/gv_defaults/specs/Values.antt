-- The values that a file's assignments give, in the order of the file.
use Rattle.std.specs.Prelude.{ℕ, if◌then◌else◌, List, [], ◌∷◌, Option, Some, None, fold, map}
use Rattle.std.specs.Option.{unwrap_or}
use Rattle.std.specs.Str.{bytes_eq}
use Rattle.gv_defaults.specs.Assignments.{Assignment}
use Rattle.gv_defaults.specs.Meaning.{meaning_of}

-- a name and its value, the last assignment first
abbrev pub Values : Type 0
Values = List (List ℕ × List ℕ)

-- of a name that is assigned twice the last value
abbrev pub value_in : Values → List ℕ → Option (List ℕ)
value_in [] name = None
value_in (v ∷ vs) name = if bytes_eq name v.0 then Some v.1 else value_in vs name

-- the value earlier in the file, else the one before the file
abbrev pub looked_up : (List ℕ → List ℕ) → Values → List ℕ → List ℕ
looked_up before values name = unwrap_or (value_in values name) (before name)

abbrev pub with_value : (List ℕ → List ℕ) → Values → Assignment → Values
with_value before values a = (a.name, meaning_of (looked_up before values) a.text) ∷ values

abbrev pub values_of : (List ℕ → List ℕ) → List Assignment → Values
values_of before assignments = fold (with_value before) [] assignments

abbrev pub names_in : Values → List (List ℕ)
names_in values = map (λ v. v.0) values
