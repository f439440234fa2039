-- What private contracts say of a value that is read step by step: a byte with those that belong to it.
use Rattle.std.specs.Prelude.{◌≡◌, ℕ, ◌+◌, ◌-◌, ◌<◌, ◌≤◌, zero, List, [], ◌∷◌, ◌++◌, drop, length}
use Rattle.std.specs.Str.{byte}
use Rattle.gv_defaults.specs.declared.quotes.Quotes.{Quotes}
use Rattle.gv_defaults.specs.declared.steps.Meant.{Meant}
use Rattle.gv_defaults.specs.declared.steps.Meant.TheVariants.{Nothing, Byte, Backslash, Value}
use Rattle.gv_defaults.specs.declared.steps.Step.{Step}
use Rattle.gv_defaults.specs.Meaning.{meaning, with_name}
use Rattle.gv_defaults.specs.Names.{name_behind}

abbrev pub meant_by : (List ℕ → List ℕ) → Meant → List ℕ
meant_by look Nothing = []
meant_by look (Byte b) = b ∷ []
meant_by look (Backslash b) = byte "\\" ∷ b ∷ []
meant_by look (Value name) = look name.now

-- the step takes a front of the bytes, and the meaning of the bytes is that of the front and of what is behind it, whatever the values of names
pub record IsStep (quotes : Quotes) (bytes : List ℕ) (step : Step) : Type 0 where
  pub means : (look : List ℕ → List ℕ) → meaning look quotes zero bytes ≡ meant_by look step.meant ++ meaning look step.quotes zero (drop step.len bytes)
  pub some : 0 < step.len
  pub within : step.len ≤ length bytes

-- the step is a dollar sign with what belongs to it, where this is behind the dollar sign
pub record IsDollar (quotes : Quotes) (behind : List ℕ) (step : Step) : Type 0 where
  pub means : (look : List ℕ → List ℕ) → with_name look (λ n. meaning look quotes n behind) (name_behind behind) ≡ meant_by look step.meant ++ meaning look step.quotes zero (drop (step.len - 1) behind)
  pub some : 0 < step.len
  pub within : step.len ≤ length behind + 1
