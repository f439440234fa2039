-- The value of a key is that of the first line of the key, or empty where there is none.
use Rattle.std.proofs.Common.{◌≡◌, ℕ, Bool, true, false, List, [], ◌∷◌, ◌++◌, length, take, drop, Some, None, refl, sym, ap, ◌∙◌, inl, inr}
use Rattle.std.specs.Prelude.{codes, if◌then◌else◌, unwrap_or}
use Rattle.std.proofs.lemmas.List.{take-append-drop}
use Rattle.std.specs.Cmp.Lexicographic.{same_text}
use Rattle.std.specs.Str.{bytes_eq}
use Rattle.gv_base.specs.Words.{lines_of}
use Rattle.gv_entry.specs.EntryValues.{value_behind, value_of}
use Rattle.gv_entry.specs.Laws.{IsValue, is_line_of}

-- one more line before
module _ (key line : List ℕ) where
  abbrev prefix : List ℕ
  prefix = key ++ codes "="

  written : bytes_eq (take (length prefix) line) prefix ≡ true → line ≡ prefix ++ drop (length prefix) line
  written h = sym (take-append-drop (length prefix) line) ∙ ap (λ front. front ++ drop (length prefix) line) (same_text (take (length prefix) line) prefix (sym h))

  later : (value : List ℕ) (lines : List (List ℕ)) → is_line_of key line ≡ false → IsValue key value lines → IsValue key value (line ∷ lines)
  later value lines other (inl first) = inl (record {
    before = line ∷ first.before;
    after = first.after;
    lines_are = ap (λ ls. line ∷ ls) first.lines_are;
    none_before = rw other first.none_before;
  })
  later value lines other (inr none) = inr (rw other none.0, none.1)

  step : (lines : List (List ℕ)) → IsValue key (value_behind prefix lines) lines → IsValue key (value_behind prefix (line ∷ lines)) (line ∷ lines)
  step lines rest = by (bytes_eq (take (length prefix) line) prefix) refl
    where
      by : (b : Bool) → bytes_eq (take (length prefix) line) prefix ≡ b
          → IsValue key (unwrap_or (if b then Some (drop (length prefix) line) else None) (value_behind prefix lines)) (line ∷ lines)
      by true e = inl (record { before = []; after = lines; lines_are = ap (λ l. l ∷ lines) (written e); none_before = refl })
      by false e = later (value_behind prefix lines) lines (rw e refl) rest

in_lines : (key : List ℕ) (lines : List (List ℕ)) → IsValue key (value_behind (key ++ codes "=") lines) lines
in_lines key [] = inr (refl, refl)
in_lines key (line ∷ lines) = step key line lines (in_lines key lines)

pub value_is : (key text : List ℕ) → IsValue key (value_of key text) (lines_of text)
value_is key text = in_lines key (lines_of text)
