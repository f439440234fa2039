-- A command that is read is written in the bytes.
use Rattle.std.proofs.Common.{◌≡◌, ◌+◌, ◌==◌, ℕ, suc, List, [], ◌∷◌, ◌++◌, Bool, true, false, ◌&&◌, ◌||◌, cond, length, take, drop, Some, None, refl, sym, ap, subst, ◌∙◌, arith, length-drop, length-take}
use Rattle.std.specs.Prelude.{Option, option_map, unwrap_or, codes, nat_le}
use Rattle.std.specs.Option.{option_and_then}
use Rattle.std.specs.List.{list_any, join_with_byte}
use Rattle.std.specs.Str.{bytes_eq}
use Rattle.std.proofs.lemmas.List.{append_assoc, take-append-drop}
use Rattle.std.proofs.lemmas.List.Splits.{join_with_byte-slice_split}
use Rattle.std.proofs.lemmas.Slice.Eq.{bytes_eq-Decides}
use Rattle.gv_base.specs.Cut.{up_to_first}
use Rattle.gv_edits.specs.declared.begun.Begun.TheVariants as begun
use Rattle.gv_edits.specs.declared.command.Command.{Command}
use Rattle.gv_edits.specs.declared.command.Command.TheVariants.{Put, Cut, Report, End}
use Rattle.gv_edits.specs.Line.{first_line, words_of_line}
use Rattle.gv_edits.specs.Length.{length_of}
use Rattle.gv_edits.specs.Command.{is_edit_path, begun_by, before_feed, first_content, completed, behind_line}
use Rattle.gv_edits.specs.Written.{Writes, ReadAreWritten}
use Rattle.gv_edits.proofs.Bytes.{up_step}

-- equal pairs have equal parts
parts : {X : Type 0} (a c : X) (b d : List ℕ) → ◌≡◌ {A = Option (X × List ℕ)} (Some (a, b)) (Some (c, d)) → (a ≡ c) × (b ≡ d)
parts {X} a c b d e = (
  ap (λ (o : Option (X × List ℕ)). unwrap_or (option_map (λ (p : X × List ℕ). p.0) o) a) e,
  ap (λ (o : Option (X × List ℕ)). unwrap_or (option_map (λ (p : X × List ℕ). p.1) o) b) e,
)

-- ---- a line
fed_split : (bytes : List ℕ) → list_any (λ b. b == 10) bytes ≡ true → bytes ≡ up_to_first 10 bytes ++ 10 ∷ drop (length (up_to_first 10 bytes) + 1) bytes
fed_split [] h = cc
fed_split (b ∷ bs) h = rw (up_step b bs) (by (b == 10) refl h (fed_split bs))
  where
    by : (t : Bool) → (b == 10) ≡ t → (t || list_any (λ c. c == 10) bs) ≡ true → (list_any (λ c. c == 10) bs ≡ true → bs ≡ up_to_first 10 bs ++ 10 ∷ drop (length (up_to_first 10 bs) + 1) bs)
        → b ∷ bs ≡ cond t [] (b ∷ up_to_first 10 bs) ++ 10 ∷ drop (length (cond t [] (b ∷ up_to_first 10 bs)) + 1) (b ∷ bs)
    by true is h' later = let e : b ≡ 10 = grind arith in ap (λ x. x ∷ bs) e
    by false is h' later = let over : suc (length (up_to_first 10 bs)) + 1 ≡ suc (length (up_to_first 10 bs) + 1) = omega arith in rw over (ap (λ xs. b ∷ xs) (later h'))

line_written : (bytes line rest : List ℕ) → first_line bytes ≡ Some (line, rest) → bytes ≡ line ++ 10 ∷ rest
line_written bytes line rest = by (list_any (λ b. b == 10) bytes) refl (nat_le (length (up_to_first 10 bytes)) 4200)
  where
    by : (t : Bool) → list_any (λ b. b == 10) bytes ≡ t → (u : Bool) → cond {A = Option (List ℕ × List ℕ)} (t && u) (Some (up_to_first 10 bytes, drop (length (up_to_first 10 bytes) + 1) bytes)) None ≡ Some (line, rest) → bytes ≡ line ++ 10 ∷ rest
    by false is u h = cc
    by true is false h = cc
    by true is true h =
        let both = parts (up_to_first 10 bytes) line (drop (length (up_to_first 10 bytes) + 1) bytes) rest h in
        let front : up_to_first 10 bytes ≡ line = both.0 in
        let back : drop (length (up_to_first 10 bytes) + 1) bytes ≡ rest = both.1 in
        fed_split bytes is ∙ ap (λ xs. up_to_first 10 bytes ++ 10 ∷ xs) back ∙ ap (λ xs. xs ++ 10 ∷ rest) front

-- ---- a command by its words
abbrev IsWritten : List ℕ → Command → List ℕ → Type 0
IsWritten bytes command rest = (text : List ℕ) × Writes text command × (bytes ≡ text ++ rest)

written : (c command : Command) (behind rest text bytes : List ℕ) → ◌≡◌ {A = Option (Command × List ℕ)} (Some (c, behind)) (Some (command, rest)) → Writes text c → bytes ≡ text ++ behind → IsWritten bytes command rest
written c command behind rest text bytes e w at =
    let both = parts c command behind rest e in
    let same : c ≡ command = both.0 in
    let left : behind ≡ rest = both.1 in
    subst (λ (d : Command). IsWritten bytes d rest) same (text, w, at ∙ ap (λ xs. text ++ xs) left)

is_name : (name : List ℕ) (word : List ℕ) → bytes_eq name word ≡ true → name ≡ word
is_name name word h = (bytes_eq-Decides name word).0 h

one_word : (name behind rest : List ℕ) (command : Command) → option_and_then (λ b. completed b behind) (begun_by (name ∷ [])) ≡ Some (command, rest) → IsWritten (name ++ 10 ∷ behind) command rest
one_word name behind rest command = by (bytes_eq name (codes "report")) refl (bytes_eq name (codes "end")) refl
  where
    by : (t : Bool) → bytes_eq name (codes "report") ≡ t → (u : Bool) → bytes_eq name (codes "end") ≡ u
        → option_and_then (λ b. completed b behind) (cond t (Some begun.Report) (cond u (Some begun.End) None)) ≡ Some (command, rest) → IsWritten (name ++ 10 ∷ behind) command rest
    by true is u ending h = written Report command behind rest (codes "report\n") (name ++ 10 ∷ behind) h refl (ap (λ n. n ++ 10 ∷ behind) (is_name name (codes "report") is))
    by false is true ending h = written End command behind rest (codes "end\n") (name ++ 10 ∷ behind) h refl (ap (λ n. n ++ 10 ∷ behind) (is_name name (codes "end") ending))
    by false is false ending h = cc

two_words : (name path behind rest : List ℕ) (command : Command) → option_and_then (λ b. completed b behind) (begun_by (name ∷ (path ∷ []))) ≡ Some (command, rest) → IsWritten ((name ++ 32 ∷ path) ++ 10 ∷ behind) command rest
two_words name path behind rest command = by (bytes_eq name (codes "cut")) refl (is_edit_path path) refl
  where
    by : (t : Bool) → bytes_eq name (codes "cut") ≡ t → (u : Bool) → is_edit_path path ≡ u
        → option_and_then (λ b. completed b behind) (cond (t && u) (Some (begun.Cut path)) None) ≡ Some (command, rest) → IsWritten ((name ++ 32 ∷ path) ++ 10 ∷ behind) command rest
    by false is u good h = cc
    by true is false good h = cc
    by true is true good h =
        written (Cut path) command behind rest (codes "cut " ++ (path ++ 10 ∷ [])) ((name ++ 32 ∷ path) ++ 10 ∷ behind) h (good, refl)
        (ap (λ n. (n ++ 32 ∷ path) ++ 10 ∷ behind) (is_name name (codes "cut") is) ∙ ap (λ xs. codes "cut " ++ xs) (sym (append_assoc path (10 ∷ []) behind)))

-- the bytes of a put
content_written : (size : ℕ) (behind content rest : List ℕ) → first_content size behind ≡ Some (content, rest) → (length content ≡ size) × (behind ≡ content ++ 10 ∷ rest)
content_written size behind content rest = by (drop size behind) refl
  where
    by : (more : List ℕ) → drop size behind ≡ more → before_feed (take size behind) more ≡ Some (content, rest) → (length content ≡ size) × (behind ≡ content ++ 10 ∷ rest)
    by [] is h = cc
    by (b ∷ more) is h = feed (b == 10) refl h
      where
        feed : (t : Bool) → (b == 10) ≡ t → cond {A = Option (List ℕ × List ℕ)} t (Some (take size behind, more)) None ≡ Some (content, rest) → (length content ≡ size) × (behind ≡ content ++ 10 ∷ rest)
        feed false ten h = cc
        feed true ten h =
            let both = parts (take size behind) content more rest h in
            let front : take size behind ≡ content = both.0 in
            let back : more ≡ rest = both.1 in
            let ten' : b ≡ 10 = grind arith in
            let left : length (drop size behind) ≡ length (b ∷ more) = ap length is in
            let len : length (take size behind) ≡ size = omega (arith, left, length-drop size behind, length-take size behind) in (
              ap length (sym front) ∙ len,
              sym (take-append-drop size behind) ∙ ap (λ xs. take size behind ++ xs) (is ∙ ap (λ x. x ∷ more) ten' ∙ ap (λ xs. 10 ∷ xs) back) ∙ ap (λ xs. xs ++ 10 ∷ rest) front,
            )

three_words : (name path size behind rest : List ℕ) (command : Command) → option_and_then (λ b. completed b behind) (begun_by (name ∷ (path ∷ (size ∷ [])))) ≡ Some (command, rest)
    → IsWritten ((name ++ 32 ∷ (path ++ 32 ∷ size)) ++ 10 ∷ behind) command rest
three_words name path size behind rest command = by (bytes_eq name (codes "put")) refl (is_edit_path path) refl (length_of size) refl
  where
    by : (t : Bool) → bytes_eq name (codes "put") ≡ t → (u : Bool) → is_edit_path path ≡ u → (n : Option ℕ) → length_of size ≡ n
        → option_and_then (λ b. completed b behind) (cond (t && u) (option_map (begun.Put path) n) None) ≡ Some (command, rest) → IsWritten ((name ++ 32 ∷ (path ++ 32 ∷ size)) ++ 10 ∷ behind) command rest
    by false is u good n len h = cc
    by true is false good n len h = cc
    by true is true good None len h = cc
    by true is true good (Some n) len h = put (first_content n behind) refl h
      where
        put : (r : Option (List ℕ × List ℕ)) → first_content n behind ≡ r → ◌≡◌ {A = Option (Command × List ℕ)} (option_map (λ r. (Put path r.0, r.1)) r) (Some (command, rest)) → IsWritten ((name ++ 32 ∷ (path ++ 32 ∷ size)) ++ 10 ∷ behind) command rest
        put None read h = cc
        put (Some (content, more)) read h =
            let read_is = content_written n behind content more read in
            let size_is : length_of size ≡ Some (length content) = len ∙ ap Some (sym read_is.0) in
            let whole : codes "put" ++ 32 ∷ (path ++ 32 ∷ (size ++ 10 ∷ (content ++ 10 ∷ more))) ≡ (codes "put " ++ (path ++ 32 ∷ (size ++ 10 ∷ (content ++ 10 ∷ [])))) ++ more =
            ap (λ xs. codes "put " ++ xs) (ap (λ xs. path ++ 32 ∷ xs) (ap (λ xs. size ++ 10 ∷ xs) (sym (append_assoc content (10 ∷ []) more)) ∙ sym (append_assoc size (10 ∷ (content ++ 10 ∷ [])) more)) ∙ sym (append_assoc path (32 ∷ (size ++ 10 ∷ (content ++ 10 ∷ []))) more)) in
            written (Put path content) command more rest (codes "put " ++ (path ++ 32 ∷ (size ++ 10 ∷ (content ++ 10 ∷ [])))) ((name ++ 32 ∷ (path ++ 32 ∷ size)) ++ 10 ∷ behind) h (size, size_is, good, refl)
            (ap (λ n. (n ++ 32 ∷ (path ++ 32 ∷ size)) ++ 10 ∷ behind) (is_name name (codes "put") is)
            ∙ ap (λ xs. codes "put " ++ xs) (append_assoc path (32 ∷ size) (10 ∷ behind))
            ∙ ap (λ xs. codes "put " ++ (path ++ 32 ∷ (size ++ 10 ∷ xs))) read_is.1
            ∙ whole)

words_written : (words : List (List ℕ)) (behind rest : List ℕ) (command : Command) → option_and_then (λ b. completed b behind) (begun_by words) ≡ Some (command, rest) → IsWritten (join_with_byte 32 words ++ 10 ∷ behind) command rest
words_written [] behind rest command h = cc
words_written (name ∷ []) behind rest command h = one_word name behind rest command h
words_written (name ∷ (path ∷ [])) behind rest command h = two_words name path behind rest command h
words_written (name ∷ (path ∷ (size ∷ []))) behind rest command h = three_words name path size behind rest command h
words_written (name ∷ (path ∷ (size ∷ (more ∷ words)))) behind rest command h = cc

pub read_are_written : ReadAreWritten
read_are_written bytes rest command = by (first_line bytes) refl
  where
    by : (line : Option (List ℕ × List ℕ)) → first_line bytes ≡ line → option_and_then (λ l. behind_line l.0 l.1) line ≡ Some (command, rest) → IsWritten bytes command rest
    by None is h = cc
    by (Some (line, behind)) is h =
        let front : join_with_byte 32 (words_of_line line) ++ 10 ∷ behind ≡ bytes = ap (λ xs. xs ++ 10 ∷ behind) (join_with_byte-slice_split 32 line) ∙ sym (line_written bytes line behind is) in
        subst (λ (xs : List ℕ). IsWritten xs command rest) front (words_written (words_of_line line) behind rest command h)
