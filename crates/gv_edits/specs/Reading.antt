-- Words of private contracts: what was read, and the bytes behind it.
use Rattle.std.specs.Prelude.{◌≡◌, ℕ, List, [], ◌∷◌, ◌++◌, Option, Some, None}
use Rattle.std.specs.Borrow.{Bor}
use Rattle.std.specs.Option.{option_map}
use Rattle.gv_edits.specs.Line.{words_of_line}
use Rattle.gv_edits.specs.Pending.{whole}

-- what was read, if anything was, and the bytes behind it
abbrev pub and_rest : {X : Type 0} → Option X → List ℕ → Option (X × List ℕ)
and_rest read rest = option_map (λ x. (x, rest)) read

-- this byte, if there is one, and then those
abbrev pub led_by : Option ℕ → Option (List ℕ) → Option (List ℕ)
led_by None told = told
led_by (Some byte) told = option_map (λ bytes. byte ∷ bytes) told

abbrev pub led : Option ℕ → List ℕ → List ℕ
led None bytes = bytes
led (Some byte) bytes = byte ∷ bytes

-- the words of what is left of a line, if anything is
abbrev pub words_left : Option (Bor (List ℕ)) → List (List ℕ)
words_left None = []
words_left (Some bytes) = words_of_line bytes.now

-- from bytes that were taken before and more that were taken of what was left, these were read, and those not yet
pub record Reads (taken : List ℕ) (left : Option (List ℕ)) (read taken' : List ℕ) (left' : Option (List ℕ)) : Type 0 where
  pub more : List ℕ
  pub took : left ≡ whole more left'
  pub are : taken ++ more ≡ read ++ taken'

-- what was read is what stands first in bytes, whatever comes behind it
pub record Finds (X : Type 0) (first : List ℕ → Option (X × List ℕ)) (taken : List ℕ) (left : Option (List ℕ)) (taken' : List ℕ) (left' : Option (List ℕ)) (x : X) : Type 0 where
  pub read : List ℕ
  pub reads : Reads taken left read taken' left'
  pub finds : (rest : List ℕ) → first (read ++ rest) ≡ Some (x, rest)

-- nothing stands first in all that was taken
pub record FindsNone (X : Type 0) (first : List ℕ → Option (X × List ℕ)) (taken : List ℕ) (left left' : Option (List ℕ)) : Type 0 where
  pub more : List ℕ
  pub took : left ≡ whole more left'
  pub none : first (taken ++ more) ≡ None
