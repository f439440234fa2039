-- A slot part is read of its text.
use Rattle.std.proofs.Common.{◌≡◌, ℕ, ◌+◌, true, false, not, List, [], ◌∷◌, ◌++◌, refl, ap, ◌∙◌, Some, None, append_assoc, append-nil, ◌⊎◌, inl, inr}
use Rattle.std.proofs.lemmas.Bool.{false≢true, and_parts}
use Rattle.std.specs.Prelude.{◌==◌, codes}
use Rattle.std.specs.List.{list_all, slice_split}
use Rattle.std.specs.Str.{byte}
use Rattle.gv_version.specs.Bytes.{begins_with}
use Rattle.gv_version.specs.Names.{is_slot, is_category_byte}
use Rattle.gv_atom.specs.declared.atom.SlotNeed.{SlotNeed}
use Rattle.gv_atom.specs.declared.atom.SlotNeed.TheVariants.{Any, Slot, Both}
use Rattle.gv_atom.specs.declared.atom.SlotMark.{SlotMark}
use Rattle.gv_atom.specs.declared.atom.SlotMark.TheVariants.{Plain, Star, Equals}
use Rattle.gv_atom.specs.Reading.{need_of, slot_of, double_colon}
use Rattle.gv_atom.specs.Grammar.{slot_text, is_slotted}
use Rattle.gv_atom.proofs.Lacks.{lacks, lacks_failing, lacks_both, other, not_true, split_none, split_there}
use Rattle.gv_atom.proofs.LastByte.{ends_added, last_off, no_end}
use Rattle.gv_atom.proofs.Splitting.{slot_bytes, with_sub}

-- a text behind the colon that begins as a slot does, and its need
record IsNeed (first : ℕ) (more : List ℕ) (need : SlotNeed) : Type 0 where
  good : is_category_byte first ≡ true
  no_equals : lacks (byte "=") (first ∷ more) ≡ true
  no_colon : lacks (byte ":") (first ∷ more) ≡ true
  no_bracket : lacks (byte "[") (first ∷ more) ≡ true
  read : need_of (slice_split (λ b. b == byte "/") (first ∷ more)) ≡ Some need

plain_again : (b : ℕ) (bs : List ℕ) (need : SlotNeed) → is_category_byte b ≡ true → lacks (byte "=") (b ∷ bs) ≡ true
    → need_of (slice_split (λ x. x == byte "/") (b ∷ bs)) ≡ Some need → slot_of (byte ":" ∷ b ∷ bs) ≡ Some (need, Plain)
plain_again b bs need good lack read =
    let star : (b == byte "*") ≡ false = not_true (b == byte "*") (other is_category_byte (byte "*") b refl good) in
    let equals : (b == byte "=") ≡ false = not_true (b == byte "=") (other is_category_byte (byte "=") b refl good) in
    rw (star, equals, no_end (byte "=") (b ∷ bs) lack, read) refl

equals_again : (b : ℕ) (bs : List ℕ) (need : SlotNeed) → is_category_byte b ≡ true
    → need_of (slice_split (λ x. x == byte "/") (b ∷ bs)) ≡ Some need → slot_of (byte ":" ∷ b ∷ (bs ++ codes "=")) ≡ Some (need, Equals)
equals_again b bs need good read =
    let star : (b == byte "*") ≡ false = not_true (b == byte "*") (other is_category_byte (byte "*") b refl good) in
    let equals : (b == byte "=") ≡ false = not_true (b == byte "=") (other is_category_byte (byte "=") b refl good) in
    rw (star, equals, ends_added (byte "=") (byte "=") (b ∷ bs), last_off (byte "=") (b ∷ bs), read) refl

-- no second colon
no_double : (at : ℕ) (text : List ℕ) → lacks (byte ":") text ≡ true → double_colon at text ≡ None
no_double at [] h = refl
no_double at (b ∷ bs) h =
    let parts = and_parts (not (b == byte ":")) (lacks (byte ":") bs) h in
    rw (not_true (b == byte ":") parts.0) (no_double (at + 1) bs parts.1)

no_first : (text : List ℕ) → lacks (byte ":") text ≡ true → begins_with (λ c. c == byte ":") text ≡ false
no_first [] h = refl
no_first (b ∷ bs) h = not_true (b == byte ":") (and_parts (not (b == byte ":")) (lacks (byte ":") bs) h).0

no_repository : (at : ℕ) (text : List ℕ) → lacks (byte ":") text ≡ true → double_colon at (byte ":" ∷ text) ≡ None
no_repository at text h = rw (no_first text h) (no_double (at + 1) text h)

pub record SlotAgain (part : List ℕ) (need : SlotNeed) (mark : SlotMark) : Type 0 where
  pub read : slot_of part ≡ Some (need, mark)
  pub none : (at : ℕ) → double_colon at part ≡ None
  pub no_bracket : lacks (byte "[") part ≡ true
  pub begins : (part ≡ []) ⊎ ((text : List ℕ) × (part ≡ byte ":" ∷ text))

plain_part : (b : ℕ) (bs : List ℕ) (need : SlotNeed) → IsNeed b bs need → SlotAgain (byte ":" ∷ b ∷ bs) need Plain
plain_part b bs need is = record {
  read = plain_again b bs need is.good is.no_equals is.read;
  none = λ at. no_repository at (b ∷ bs) is.no_colon;
  no_bracket = is.no_bracket;
  begins = inr (b ∷ bs, refl);
}

equals_part : (b : ℕ) (bs : List ℕ) (need : SlotNeed) → IsNeed b bs need → SlotAgain (byte ":" ∷ b ∷ (bs ++ codes "=")) need Equals
equals_part b bs need is = record {
  read = equals_again b bs need is.good is.read;
  none = λ at. no_repository at ((b ∷ bs) ++ codes "=") (lacks_both (byte ":") (b ∷ bs) (codes "=") is.no_colon refl);
  no_bracket = lacks_both (byte "[") (b ∷ bs) (codes "=") is.no_bracket refl;
  begins = inr ((b ∷ bs) ++ codes "=", refl);
}

slot_lacks : (c : ℕ) (slot : List ℕ) → is_category_byte c ≡ false → is_slot slot ≡ true → lacks c slot ≡ true
slot_lacks c slot h good = lacks_failing is_category_byte c slot h (slot_bytes slot good)

need_one : (b : ℕ) (bs : List ℕ) → is_slot (b ∷ bs) ≡ true → IsNeed b bs (Slot (b ∷ bs))
need_one b bs h = record {
  good = (and_parts (is_category_byte b) (list_all is_category_byte bs) (slot_bytes (b ∷ bs) h)).0;
  no_equals = slot_lacks (byte "=") (b ∷ bs) refl h;
  no_colon = slot_lacks (byte ":") (b ∷ bs) refl h;
  no_bracket = slot_lacks (byte "[") (b ∷ bs) refl h;
  read = rw (split_none (byte "/") (b ∷ bs) (slot_lacks (byte "/") (b ∷ bs) refl h), h) refl;
}

need_two : (b : ℕ) (bs sub : List ℕ) → is_slot (b ∷ bs) ≡ true → is_slot sub ≡ true → IsNeed b (bs ++ byte "/" ∷ sub) (Both (b ∷ bs) sub)
need_two b bs sub h k = record {
  good = (and_parts (is_category_byte b) (list_all is_category_byte bs) (slot_bytes (b ∷ bs) h)).0;
  no_equals = lacks_both (byte "=") (b ∷ bs) (byte "/" ∷ sub) (slot_lacks (byte "=") (b ∷ bs) refl h) (slot_lacks (byte "=") sub refl k);
  no_colon = lacks_both (byte ":") (b ∷ bs) (byte "/" ∷ sub) (slot_lacks (byte ":") (b ∷ bs) refl h) (slot_lacks (byte ":") sub refl k);
  no_bracket = lacks_both (byte "[") (b ∷ bs) (byte "/" ∷ sub) (slot_lacks (byte "[") (b ∷ bs) refl h) (slot_lacks (byte "[") sub refl k);
  read = ap need_of (split_there (byte "/") (b ∷ bs) sub (slot_lacks (byte "/") (b ∷ bs) refl h)) ∙ with_sub (b ∷ bs) sub h k;
}

any_again : (mark : SlotMark) → SlotAgain (slot_text Any mark) Any mark
any_again Plain = record { read = refl; none = λ at. refl; no_bracket = refl; begins = inl refl }
any_again Star = record { read = refl; none = λ at. refl; no_bracket = refl; begins = inr (codes "*", refl) }
any_again Equals = record { read = refl; none = λ at. refl; no_bracket = refl; begins = inr (codes "=", refl) }

pub slot_again : (need : SlotNeed) (mark : SlotMark) → is_slotted need mark ≡ true → SlotAgain (slot_text need mark) need mark
slot_again Any mark h = any_again mark
slot_again (Slot slot) Star h = absurd (false≢true h)
slot_again (Slot []) Plain h = absurd (false≢true h)
slot_again (Slot (b ∷ bs)) Plain h = rw (append-nil bs) (plain_part b bs (Slot (b ∷ bs)) (need_one b bs h))
slot_again (Slot []) Equals h = absurd (false≢true h)
slot_again (Slot (b ∷ bs)) Equals h = equals_part b bs (Slot (b ∷ bs)) (need_one b bs h)
slot_again (Both slot sub) Star h = absurd (false≢true h)
slot_again (Both [] sub) Plain h = absurd (false≢true h)
slot_again (Both (b ∷ bs) sub) Plain h =
    let parts = and_parts (is_slot (b ∷ bs)) (is_slot sub) h in
    rw (append-nil sub) (plain_part b (bs ++ byte "/" ∷ sub) (Both (b ∷ bs) sub) (need_two b bs sub parts.0 parts.1))
slot_again (Both [] sub) Equals h = absurd (false≢true h)
slot_again (Both (b ∷ bs) sub) Equals h =
    let parts = and_parts (is_slot (b ∷ bs)) (is_slot sub) h in
    rw (← append_assoc bs (byte "/" ∷ sub) (codes "=")) (equals_part b (bs ++ byte "/" ∷ sub) (Both (b ∷ bs) sub) (need_two b bs sub parts.0 parts.1))
