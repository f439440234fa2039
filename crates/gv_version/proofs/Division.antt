-- At most one hyphen divides a text into a name and a text of version form, and `split_pf` finds it.
use Rattle.std.proofs.Common.{◌≡◌, ℕ, suc, ◌+◌, Bool, true, false, ◌&&◌, List, [], ◌∷◌, ◌++◌, length, drop, refl, ap, sym, ◌∙◌, if◌then◌else◌, Option, Some, None, append-nil, append_assoc}
use Rattle.std.proofs.lemmas.Bool.{and_parts, and_from, false≢true, eqb-true}
use Rattle.std.proofs.Math.Seq.{drop-append-add}
use Rattle.std.specs.Prelude.{◌==◌, is_none, unwrap_or, option_and_then}
use Rattle.std.specs.Bool.{then_some}
use Rattle.std.specs.Str.{byte}
use Rattle.gv_version.specs.FormReading.{next, is_whole, run}
use Rattle.gv_version.specs.Laws.{Divides, IsDivided}
use Rattle.gv_version.specs.Names.{is_package, hyphen_from, split_pf}
use Rattle.gv_version.specs.Form.{has_form, long_run}
use Rattle.gv_version.specs.declared.form.State.{State}
use Rattle.gv_version.specs.declared.form.State.TheVariants.{Start, Number, Dot, Letter, Underscore, A, Al, Alp, Alph, B, Be, Bet, P, Pr, R, Suffix, SuffixNumber, Hyphen, HyphenR, Revision, Nothing}
use Rattle.gv_version.proofs.FormLaw.{form_says, says_form}
use Rattle.gv_version.proofs.StatesOfParts.{run-append}
use Rattle.gv_version.proofs.PartsOfStates.{form_is, nothing_read}

-- Behind a hyphen in a version stands `r`, and a version begins with a digit.
no_version : (bytes : List ℕ) → is_whole (run Hyphen bytes) ≡ true → has_form bytes ≡ true → ⊥
no_version [] h k = false≢true h
no_version (b ∷ bs) h k = by (b == 114) refl h (sym (form_is (b ∷ bs)) ∙ k)
  where
    by : (u : Bool) → (b == 114) ≡ u → is_whole (run (if u then HyphenR else Nothing) bs) ≡ true → is_whole (run (next Start b) bs) ≡ true → ⊥
    by true e f g = nothing_read bs (ap (λ x. is_whole (run (next Start x) bs)) (sym (eqb-true b 114 e)) ∙ g)
    by false e f g = nothing_read bs f

after_hyphen : (s : State) (bytes : List ℕ) → is_whole (run (next s 45) bytes) ≡ true → is_whole (run Hyphen bytes) ≡ true
after_hyphen Start bytes h = absurd (nothing_read bytes h)
after_hyphen Number bytes h = h
after_hyphen Dot bytes h = absurd (nothing_read bytes h)
after_hyphen Letter bytes h = h
after_hyphen Underscore bytes h = absurd (nothing_read bytes h)
after_hyphen A bytes h = absurd (nothing_read bytes h)
after_hyphen Al bytes h = absurd (nothing_read bytes h)
after_hyphen Alp bytes h = absurd (nothing_read bytes h)
after_hyphen Alph bytes h = absurd (nothing_read bytes h)
after_hyphen B bytes h = absurd (nothing_read bytes h)
after_hyphen Be bytes h = absurd (nothing_read bytes h)
after_hyphen Bet bytes h = absurd (nothing_read bytes h)
after_hyphen P bytes h = h
after_hyphen Pr bytes h = absurd (nothing_read bytes h)
after_hyphen R bytes h = absurd (nothing_read bytes h)
after_hyphen Suffix bytes h = h
after_hyphen SuffixNumber bytes h = h
after_hyphen Hyphen bytes h = absurd (nothing_read bytes h)
after_hyphen HyphenR bytes h = absurd (nothing_read bytes h)
after_hyphen Revision bytes h = absurd (nothing_read bytes h)
after_hyphen Nothing bytes h = absurd (nothing_read bytes h)

-- of two texts of version form none stands behind a hyphen of the other
apart : (front rest : List ℕ) → has_form (front ++ 45 ∷ rest) ≡ true → has_form rest ≡ true → ⊥
apart front rest h k =
    no_version rest (after_hyphen (run Start front) rest (ap is_whole (sym (run-append Start front (45 ∷ rest))) ∙ sym (form_is (front ++ 45 ∷ rest)) ∙ h)) k

same_place : (n m v w : List ℕ) → n ++ 45 ∷ v ≡ m ++ 45 ∷ w → has_form v ≡ true → has_form w ≡ true → length n ≡ length m
same_place [] [] v w e hv hw = refl
same_place [] (b ∷ m) v w e hv hw = absurd (apart m w (ap has_form (sym (ap (drop 1) e)) ∙ hv) hw)
same_place (b ∷ n) [] v w e hv hw = absurd (apart n v (ap has_form (ap (drop 1) e) ∙ hw) hv)
same_place (b ∷ n) (c ∷ m) v w e hv hw = ap suc (same_place n m v w (ap (drop 1) e) hv hw)

one_place : (bytes : List ℕ) (i j : ℕ) → Divides bytes i → Divides bytes j → i ≡ j
one_place bytes i j d e =
    sym d.place ∙ same_place d.name e.name d.version e.version (d.written ∙ sym e.written) (says_form d.version d.version_form) (says_form e.version e.version_form) ∙ e.place

-- The hyphen that is found divides the bytes.
some_is : (n m : ℕ) → Some n ≡ Some m → n ≡ m
some_is n m e = ap (λ o. unwrap_or o 0) e

not_none : (n : ℕ) → None ≡ Some n → ⊥
not_none n e = cc

hyphen_divides : (name bytes : List ℕ) (at : ℕ) → hyphen_from name bytes ≡ Some at → Divides (name ++ bytes) at
hyphen_divides name [] at h = absurd (not_none at h)
hyphen_divides name (b ∷ bs) at h = by (b == byte "-" && (is_package name && has_form bs)) refl h (hyphen_divides (name ++ b ∷ []) bs at)
  where
    by : (here : Bool) → (b == byte "-" && (is_package name && has_form bs)) ≡ here → (if here then Some (length name) else hyphen_from (name ++ b ∷ []) bs) ≡ Some at
        → (hyphen_from (name ++ b ∷ []) bs ≡ Some at → Divides ((name ++ b ∷ []) ++ bs) at) → Divides (name ++ b ∷ bs) at
    by true e k later =
        let parts = and_parts (b == byte "-") (is_package name && has_form bs) e in
        let good = and_parts (is_package name) (has_form bs) parts.1 in
        record { name = name; version = bs; written = ap (λ x. name ++ x ∷ bs) (sym (eqb-true b 45 parts.0)); place = some_is (length name) at k; name_form = good.0; version_form = form_says bs good.1 }
    by false e k later = rw (← append_assoc name (b ∷ []) bs) (later k)

-- A hyphen that divides the bytes is found, or one before it.
record IsFound (o : Option ℕ) : Type 0 where
  at : ℕ
  is : o ≡ Some at

finds : (front name version : List ℕ) → is_package (front ++ name) ≡ true → has_form version ≡ true → IsFound (hyphen_from front (name ++ 45 ∷ version))
finds front [] version hn hv =
    let good : is_package front ≡ true = ap is_package (sym (append-nil front)) ∙ hn in
    let both : (is_package front && has_form version) ≡ true = and_from (is_package front) (has_form version) good hv in
    record { at = length front; is = rw both refl }
finds front (b ∷ name) version hn hv =
    by (b == 45 && (is_package front && has_form (name ++ 45 ∷ version))) (finds (front ++ b ∷ []) name version (ap is_package (append_assoc front (b ∷ []) name) ∙ hn) hv)
  where
    by : (here : Bool) → IsFound (hyphen_from (front ++ b ∷ []) (name ++ 45 ∷ version)) → IsFound (if here then Some (length front) else hyphen_from (front ++ b ∷ []) (name ++ 45 ∷ version))
    by true later = record { at = length front; is = refl }
    by false later = later

hyphen_is : (bytes : List ℕ) (at : ℕ) → Divides bytes at → hyphen_from [] bytes ≡ Some at
hyphen_is bytes at d =
    let f : IsFound (hyphen_from [] (d.name ++ 45 ∷ d.version)) = finds [] d.name d.version d.name_form (says_form d.version d.version_form) in
    let found : hyphen_from [] bytes ≡ Some f.at = ap (hyphen_from []) (sym d.written) ∙ f.is in
    found ∙ ap Some (one_place bytes f.at at (hyphen_divides [] bytes f.at found) d)

behind : (bytes : List ℕ) (at : ℕ) (d : Divides bytes at) → drop (at + 1) bytes ≡ d.version
behind bytes at d = rw (← d.place, ← d.written) (drop-append-add d.name (45 ∷ d.version) 1)

record IsThere (bytes : List ℕ) (at : ℕ) : Type 0 where
  hyphen : hyphen_from [] bytes ≡ Some at
  short : is_none (long_run (drop (at + 1) bytes)) ≡ true

is_there : (bytes : List ℕ) (at : ℕ) → split_pf bytes ≡ Some at → IsThere bytes at
is_there bytes at h = by_hyphen (hyphen_from [] bytes) refl h
  where
    by_run : (m : ℕ) (short : Bool) → hyphen_from [] bytes ≡ Some m → is_none (long_run (drop (m + 1) bytes)) ≡ short → then_some short m ≡ Some at → IsThere bytes at
    by_run m false e f k = absurd (not_none at k)
    by_run m true e f k = rw (← some_is m at k) (record { hyphen = e; short = f })

    by_hyphen : (o : Option ℕ) → hyphen_from [] bytes ≡ o → option_and_then (λ m. then_some (is_none (long_run (drop (m + 1) bytes))) m) o ≡ Some at → IsThere bytes at
    by_hyphen None e k = absurd (not_none at k)
    by_hyphen (Some m) e k = by_run m (is_none (long_run (drop (m + 1) bytes))) e refl k

pub is_divided : (bytes : List ℕ) → IsDivided bytes
is_divided bytes = record {
  one = one_place bytes;
  there = λ at h.
      let t : IsThere bytes at = is_there bytes at h in
      let d : Divides bytes at = hyphen_divides [] bytes at t.hyphen in
      (d, and_from (has_form (drop (at + 1) bytes)) (is_none (long_run (drop (at + 1) bytes))) (ap has_form (behind bytes at d) ∙ says_form d.version d.version_form) t.short);
  found = λ at d h. rw (hyphen_is bytes at d, h) refl;
}
