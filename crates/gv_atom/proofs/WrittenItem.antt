-- An item is read of its text.
use Rattle.std.proofs.Common.{◌≡◌, ℕ, Bool, true, false, List, [], ◌∷◌, ◌++◌, refl, ◌∙◌, Option, Some, None, append-nil}
use Rattle.std.proofs.lemmas.Bool.{false≢true, and_parts}
use Rattle.std.specs.Prelude.{◌==◌, codes}
use Rattle.std.specs.List.{list_all}
use Rattle.std.specs.Str.{byte}
use Rattle.gv_base.specs.Cut.{ends_in}
use Rattle.gv_version.specs.Bytes.{is_letter_or_digit, begins_with}
use Rattle.gv_version.specs.Names.{is_flag, is_flag_byte}
use Rattle.gv_atom.specs.declared.items.UseItem.{UseItem}
use Rattle.gv_atom.specs.declared.items.Ask.{Ask}
use Rattle.gv_atom.specs.declared.items.Ask.TheVariants.{On, Off, Same, Opposite, OnIf, OffIfNot}
use Rattle.gv_atom.specs.Printing.{sign_text, end_text}
use Rattle.gv_atom.specs.Reading.{named, item_of}
use Rattle.gv_atom.specs.Grammar.{default_text, asked_text, item_text}
use Rattle.gv_atom.proofs.Lacks.{lacks, lacks_failing, lacks_both, other, not_true, front_none, rest_none, front_there, rest_there}
use Rattle.gv_atom.proofs.LastByte.{ends_added, last_off, no_end}
use Rattle.gv_atom.proofs.PrintedItems.{asked_parts}

pub flag_bytes : (flag : List ℕ) → is_flag flag ≡ true → list_all is_flag_byte flag ≡ true
flag_bytes [] h = refl
flag_bytes (b ∷ bs) h = (and_parts (list_all is_flag_byte (b ∷ bs)) (is_letter_or_digit b) h).0

pub defaults_lack : (c : ℕ) → lacks c (codes "(+)") ≡ true → lacks c (codes "(-)") ≡ true → (m : Option Bool) → lacks c (default_text m) ≡ true
defaults_lack c h k None = refl
defaults_lack c h k (Some true) = h
defaults_lack c h k (Some false) = k

named_again : (ask : Ask) (flag : List ℕ) (missing : Option Bool) → is_flag flag ≡ true
    → named ask (flag ++ default_text missing) ≡ Some (record { flag = flag; ask = ask; missing = missing })
named_again ask flag None h =
    let lacking = lacks_failing is_flag_byte (byte "(") flag refl (flag_bytes flag h) in
    rw (append-nil flag, front_none (byte "(") flag lacking, rest_none (byte "(") flag lacking, h) refl
named_again ask flag (Some true) h =
    let lacking = lacks_failing is_flag_byte (byte "(") flag refl (flag_bytes flag h) in
    rw (front_there (byte "(") flag (codes "+)") lacking, rest_there (byte "(") flag (codes "+)") lacking, h) refl
named_again ask flag (Some false) h =
    let lacking = lacks_failing is_flag_byte (byte "(") flag refl (flag_bytes flag h) in
    rw (front_there (byte "(") flag (codes "-)") lacking, rest_there (byte "(") flag (codes "-)") lacking, h) refl

-- Which sign and which mark a text has.
reads_on : (text : List ℕ) → begins_with (λ b. b == byte "-") text ≡ false → begins_with (λ b. b == byte "!") text ≡ false
    → ends_in (byte "=") text ≡ false → ends_in (byte "?") text ≡ false → item_of text ≡ named On text
reads_on text a b c d = rw (a, b, c, d) refl

reads_same : (text : List ℕ) → begins_with (λ b. b == byte "-") (text ++ codes "=") ≡ false → begins_with (λ b. b == byte "!") (text ++ codes "=") ≡ false
    → item_of (text ++ codes "=") ≡ named Same text
reads_same text a b = rw (a, b, ends_added (byte "=") (byte "=") text, last_off (byte "=") text) refl

reads_on_if : (text : List ℕ) → begins_with (λ b. b == byte "-") (text ++ codes "?") ≡ false → begins_with (λ b. b == byte "!") (text ++ codes "?") ≡ false
    → item_of (text ++ codes "?") ≡ named OnIf text
reads_on_if text a b = rw (a, b, ends_added (byte "=") (byte "?") text, ends_added (byte "?") (byte "?") text, last_off (byte "?") text) refl

reads_opposite : (text : List ℕ) → item_of (byte "!" ∷ (text ++ codes "=")) ≡ named Opposite text
reads_opposite text = rw (ends_added (byte "=") (byte "=") (byte "!" ∷ text), last_off (byte "=") text) refl

reads_off_if_not : (text : List ℕ) → item_of (byte "!" ∷ (text ++ codes "?")) ≡ named OffIfNot text
reads_off_if_not text = rw (ends_added (byte "=") (byte "?") (byte "!" ∷ text), ends_added (byte "?") (byte "?") (byte "!" ∷ text), last_off (byte "?") text) refl

module _ (b : ℕ) (bs : List ℕ) (missing : Option Bool) (good : is_flag (b ∷ bs) ≡ true) where
  abbrev core : List ℕ
  core = (b ∷ bs) ++ default_text missing

  first : is_letter_or_digit b ≡ true
  first = (and_parts (list_all is_flag_byte (b ∷ bs)) (is_letter_or_digit b) good).1

  no_minus : (b == byte "-") ≡ false
  no_minus = not_true (b == byte "-") (other is_letter_or_digit (byte "-") b refl first)

  no_bang : (b == byte "!") ≡ false
  no_bang = not_true (b == byte "!") (other is_letter_or_digit (byte "!") b refl first)

  no_mark : (c : ℕ) → is_flag_byte c ≡ false → lacks c (codes "(+)") ≡ true → lacks c (codes "(-)") ≡ true → ends_in c core ≡ false
  no_mark c h k l = no_end c core (lacks_both c (b ∷ bs) (default_text missing) (lacks_failing is_flag_byte c (b ∷ bs) h (flag_bytes (b ∷ bs) good)) (defaults_lack c k l missing))

  asked_again : (ask : Ask) → item_of (asked_text ask core) ≡ named ask core
  asked_again On = reads_on core no_minus no_bang (no_mark (byte "=") refl refl refl) (no_mark (byte "?") refl refl refl)
  asked_again Off = refl
  asked_again Same = reads_same core no_minus no_bang
  asked_again Opposite = reads_opposite core
  asked_again OnIf = reads_on_if core no_minus no_bang
  asked_again OffIfNot = reads_off_if_not core

pub item_again : (i : UseItem) → is_flag i.flag ≡ true → item_of (item_text i) ≡ Some i
item_again i h = by i.flag h
  where
    by : (flag : List ℕ) → is_flag flag ≡ true → item_of (asked_text i.ask (flag ++ default_text i.missing)) ≡ Some (record { flag = flag; ask = i.ask; missing = i.missing })
    by [] k = absurd (false≢true k)
    by (b ∷ bs) k = asked_again b bs i.missing k i.ask ∙ named_again i.ask (b ∷ bs) i.missing k

-- what an item's text lacks
pub item_lacks : (c : ℕ) → is_flag_byte c ≡ false → lacks c (codes "(+)") ≡ true → lacks c (codes "(-)") ≡ true
    → ((ask : Ask) → lacks c (sign_text ask) ≡ true) → ((ask : Ask) → lacks c (end_text ask) ≡ true) → (i : UseItem) → is_flag i.flag ≡ true → lacks c (item_text i) ≡ true
item_lacks c no_flag plus minus signs ends i h =
    let core : lacks c (i.flag ++ default_text i.missing) ≡ true = lacks_both c i.flag (default_text i.missing) (lacks_failing is_flag_byte c i.flag no_flag (flag_bytes i.flag h)) (defaults_lack c plus minus i.missing) in
    rw (asked_parts i.ask (i.flag ++ default_text i.missing))
    (lacks_both c (sign_text i.ask) ((i.flag ++ default_text i.missing) ++ end_text i.ask) (signs i.ask) (lacks_both c (i.flag ++ default_text i.missing) (end_text i.ask) core (ends i.ask)))
