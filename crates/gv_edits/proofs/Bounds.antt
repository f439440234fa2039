-- The path and the bytes of a command are as short as those of an edit.
use Rattle.std.proofs.Common.{◌≡◌, ◌≤◌, ◌==◌, ℕ, List, [], ◌∷◌, Bool, true, false, ◌&&◌, if◌then◌else◌, length, take, drop, codes, Some, None, refl, sym, ap, subst, ◌∙◌, arith, length-take}
use Rattle.std.specs.Prelude.{Option, option_map, nat_le}
use Rattle.std.specs.Option.{option_and_then}
use Rattle.std.specs.Str.{bytes_eq}
use Rattle.std.proofs.lemmas.Bool.{false≢true}
use Rattle.gv_edits.specs.declared.begun.Begun.{Begun}
use Rattle.gv_edits.specs.declared.begun.Begun.TheVariants as begun
use Rattle.gv_edits.specs.declared.command.Command.{Command}
use Rattle.gv_edits.specs.declared.command.Command.TheVariants.{Put, Cut, Report, End}
use Rattle.gv_edits.specs.Line.{first_line, words_of_line}
use Rattle.gv_edits.specs.Length.{digits_behind, is_decimal, length_of}
use Rattle.gv_edits.specs.Command.{IsBounded, before_feed, behind_line, begun_by, completed, first_command, first_content, is_edit_path}

abbrev Led : Type 0
Led = Option (Command × List ℕ)

abbrev is_some : {A : Type 0} → Option A → Bool
is_some None = false
is_some (Some x) = true

abbrev command_in : Command → Led → Command
command_in other None = other
command_in other (Some both) = both.0

abbrev led_as : Command → List ℕ → Led
led_as command rest = let both : Command × List ℕ = (command, rest) in Some both

is_so : (command found : Command) (rest rest' : List ℕ) → IsBounded found → led_as found rest' ≡ led_as command rest → IsBounded command
is_so command found rest rest' bounded is = subst IsBounded (ap (command_in command) is) bounded

abbrev number_in : ℕ → Option ℕ → ℕ
number_in other None = other
number_in other (Some n) = n

-- the number that a word is
small : (word : List ℕ) (n : ℕ) → length_of word ≡ Some n → n ≤ 16777216
small word n is = by (is_decimal word) (nat_le (digits_behind 0 word) 16777216) refl is
  where
    by : (d l : Bool) → nat_le (digits_behind 0 word) 16777216 ≡ l → (if d && l then Some (digits_behind 0 word) else None) ≡ Some n → n ≤ 16777216
    by true true below some = subst (λ k. k ≤ 16777216) (ap (λ (o : Option ℕ). number_in n o) some) (grind (arith, below))
    by true false below some = absurd (false≢true (ap is_some some))
    by false l below some = absurd (false≢true (ap is_some some))

-- what is before the line feed
abbrev Parted : Type 0
Parted = Option (List ℕ × List ℕ)

abbrev content_in : List ℕ → Parted → List ℕ
content_in other None = other
content_in other (Some both) = both.0

fed_is : (content bytes : List ℕ) (r : List ℕ × List ℕ) → before_feed content bytes ≡ Some r → content ≡ r.0
fed_is content [] r is = absurd (false≢true (ap is_some is))
fed_is content (b ∷ rest) r is = by (b == 10) is
  where
    by : (t : Bool) → (if t then Some (content, rest) else None) ≡ Some r → content ≡ r.0
    by true some = ap (content_in content) some
    by false some = absurd (false≢true (ap is_some some))

module _ (command : Command) (rest behind : List ℕ) where
  put_bounded : (path : List ℕ) (n : ℕ) → is_edit_path path ≡ true → n ≤ 16777216 → completed (begun.Put path n) behind ≡ Some (command, rest) → IsBounded command
  put_bounded path n good few is = by (first_content n behind) refl is
    where
      by : (o : Parted) → first_content n behind ≡ o → option_map {U = Command × List ℕ} (λ r. (Put path r.0, r.1)) o ≡ led_as command rest → IsBounded command
      by None at some = absurd (false≢true (ap is_some some))
      by (Some r) at some =
          let content : take n behind ≡ r.0 = fed_is (take n behind) (drop n behind) r at in
          let few_bytes : length r.0 ≤ 16777216 = subst (λ (xs : List ℕ). length xs ≤ 16777216) content (grind (arith, few, length-take n behind)) in
          is_so command (Put path r.0) rest r.1 (good, few_bytes) some

  words_bounded : (words : List (List ℕ)) → option_and_then (λ b. completed b behind) (begun_by words) ≡ Some (command, rest) → IsBounded command
  words_bounded [] is = absurd (false≢true (ap is_some is))
  words_bounded (name ∷ []) is = by (bytes_eq name (codes "report")) (bytes_eq name (codes "end")) is
    where
      by : (r e : Bool) → option_and_then (λ b. completed b behind) (if r then Some begun.Report else (if e then Some begun.End else None)) ≡ Some (command, rest) → IsBounded command
      by true e some = is_so command Report rest behind tt some
      by false true some = is_so command End rest behind tt some
      by false false some = absurd (false≢true (ap is_some some))
  words_bounded (name ∷ (path ∷ [])) is = by (bytes_eq name (codes "cut")) (is_edit_path path) refl is
    where
      by : (c p : Bool) → is_edit_path path ≡ p → option_and_then (λ b. completed b behind) (if c && p then Some (begun.Cut path) else None) ≡ Some (command, rest) → IsBounded command
      by true true good some = is_so command (Cut path) rest behind good some
      by true false good some = absurd (false≢true (ap is_some some))
      by false p good some = absurd (false≢true (ap is_some some))
  words_bounded (name ∷ (path ∷ (size ∷ []))) is = by (bytes_eq name (codes "put")) (is_edit_path path) refl (length_of size) refl is
    where
      by : (c p : Bool) → is_edit_path path ≡ p → (n : Option ℕ) → length_of size ≡ n → option_and_then (λ b. completed b behind) (if c && p then option_map (begun.Put path) n else None) ≡ Some (command, rest) → IsBounded command
      by true true good (Some n) few some = put_bounded path n good (small size n few) some
      by true true good None few some = absurd (false≢true (ap is_some some))
      by true false good n few some = absurd (false≢true (ap is_some some))
      by false p good n few some = absurd (false≢true (ap is_some some))
  words_bounded (name ∷ (path ∷ (size ∷ (more ∷ words)))) is = absurd (false≢true (ap is_some is))

pub bounded : (bytes : List ℕ) (command : Command) (rest : List ℕ) → first_command bytes ≡ Some (command, rest) → IsBounded command
bounded bytes command rest is = by (first_line bytes) is
  where
    by : (l : Option (List ℕ × List ℕ)) → option_and_then (λ l. behind_line l.0 l.1) l ≡ Some (command, rest) → IsBounded command
    by None some = absurd (false≢true (ap is_some some))
    by (Some l) some = words_bounded command rest l.1 (words_of_line l.0) some
