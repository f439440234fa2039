-- The longest front that has the form is the last one behind which the state is whole.
use Rattle.std.proofs.Common.{◌≡◌, ℕ, suc, zero, ◌+◌, ◌<◌, ◌≤◌, Bool, true, false, List, [], ◌∷◌, ◌++◌, length, take, drop, get_or, refl, ap, sym, ◌∙◌, arith, if◌then◌else◌, ◌⊎◌, inl, inr, add-one}
use Rattle.std.proofs.lemmas.Bool.{false≢true, eq-eqb, ne_eqb, cases_lt}
use Rattle.std.proofs.lemmas.List.{take_more, take-take, take-append-drop, take_all}
use Rattle.std.specs.Prelude.{◌==◌}
use Rattle.gv_version.specs.FormReading.{next, is_whole, run}
use Rattle.gv_version.specs.Form.{has_form, longest_form_within, longest_form}
use Rattle.gv_version.specs.declared.form.State.{State}
use Rattle.gv_version.specs.declared.form.State.TheVariants.{Start, Nothing}
use Rattle.gv_version.proofs.StatesOfParts.{run-append}
use Rattle.gv_version.proofs.PartsOfStates.{form_is, nothing_stays}

one_more : (s : State) (bytes : List ℕ) (b : ℕ) → run s (bytes ++ b ∷ []) ≡ next (run s bytes) b
one_more s bytes b = run-append s bytes (b ∷ [])

pub state_more : (bytes : List ℕ) (i d : ℕ) (s t : State) → i < length bytes → s ≡ run Start (take i bytes) → t ≡ next s (get_or bytes i d) → t ≡ run Start (take (i + 1) bytes)
state_more bytes i d s t lt e f = f ∙ ap (λ x. next x (get_or bytes i d)) e ∙ sym (one_more Start (take i bytes) (get_or bytes i d)) ∙ ap (run Start) (sym (take_more bytes i d lt))

pub longest_yes : (bytes : List ℕ) (i : ℕ) → is_whole (run Start (take (i + 1) bytes)) ≡ true → longest_form_within bytes (i + 1) ≡ i + 1
longest_yes bytes i h = rw add-one (by (has_form (take (suc i) bytes)) (form_is (take (suc i) bytes) ∙ rw add-one at h))
  where
    by : (u : Bool) → u ≡ true → (if u then suc i else longest_form_within bytes i) ≡ suc i
    by true e = refl
    by false e = absurd (false≢true e)

no_form : (bytes : List ℕ) (i : ℕ) → is_whole (run Start (take (suc i) bytes)) ≡ false → longest_form_within bytes (suc i) ≡ longest_form_within bytes i
no_form bytes i h = by (has_form (take (suc i) bytes)) (form_is (take (suc i) bytes) ∙ h)
  where
    by : (u : Bool) → u ≡ false → (if u then suc i else longest_form_within bytes i) ≡ longest_form_within bytes i
    by true e = absurd (false≢true (sym e))
    by false e = refl

pub longest_no : (bytes : List ℕ) (i : ℕ) → is_whole (run Start (take (i + 1) bytes)) ≡ false → longest_form_within bytes (i + 1) ≡ longest_form_within bytes i
longest_no bytes i h = rw add-one (no_form bytes i (rw add-one at h))

-- what begins with bytes that no version begins with is no version
stuck : (bytes : List ℕ) (i n : ℕ) → i ≤ n → run Start (take i bytes) ≡ Nothing → is_whole (run Start (take n bytes)) ≡ false
stuck bytes i n le e =
    let front : take i (take n bytes) ≡ take i bytes = take-take i n bytes le in
    let whole : run Start (take n bytes) ≡ run (run Start (take i bytes)) (drop i (take n bytes)) =
    ap (run Start) (sym (take-append-drop i (take n bytes))) ∙ run-append Start (take i (take n bytes)) (drop i (take n bytes)) ∙ ap (λ x. run (run Start x) (drop i (take n bytes))) front in
    ap is_whole (whole ∙ ap (λ x. run x (drop i (take n bytes))) e ∙ nothing_stays (drop i (take n bytes)))

stays : (bytes : List ℕ) (i n : ℕ) → i ≤ n → run Start (take (suc i) bytes) ≡ Nothing → longest_form_within bytes n ≡ longest_form_within bytes i
stays bytes i zero le e = let zero_is : i ≡ 0 = omega arith in ap (longest_form_within bytes) (sym zero_is)
stays bytes i (suc n) le e = by (cases_lt n i) (λ within. stays bytes i n within e)
  where
    by : (n < i) ⊎ (i ≤ n) → (i ≤ n → longest_form_within bytes n ≡ longest_form_within bytes i) → longest_form_within bytes (suc n) ≡ longest_form_within bytes i
    by (inl lt) before = let same : suc n ≡ i = omega arith in ap (longest_form_within bytes) same
    by (inr within) before = no_form bytes n (stuck bytes (suc i) (suc n) (omega arith) e) ∙ before within

pub longest_over : (bytes : List ℕ) (i : ℕ) → i < length bytes → run Start (take (i + 1) bytes) ≡ Nothing → longest_form_within bytes i ≡ longest_form bytes
longest_over bytes i lt e = sym (stays bytes i (length bytes) (omega arith) (rw add-one at e))

-- The whole bytes have the form where they are their longest front that has it.
longest_within : (bytes : List ℕ) (n : ℕ) → longest_form_within bytes n ≤ n
longest_within bytes zero = omega arith
longest_within bytes (suc n) = by (has_form (take (suc n) bytes)) (longest_within bytes n)
  where
    by : (u : Bool) → longest_form_within bytes n ≤ n → (if u then suc n else longest_form_within bytes n) ≤ suc n
    by true less = omega arith
    by false less = omega arith

whole_at : (bytes : List ℕ) (n : ℕ) → (longest_form_within bytes (suc n) == suc n) ≡ has_form (take (suc n) bytes)
whole_at bytes n = by (has_form (take (suc n) bytes))
  where
    by : (u : Bool) → ((if u then suc n else longest_form_within bytes n) == suc n) ≡ u
    by true = eq-eqb (suc n) (suc n) refl
    by false = let less = longest_within bytes n in ne_eqb (longest_form_within bytes n) (suc n) (λ e. omega (arith, less, e))

pub form_whole : (bytes : List ℕ) (n : ℕ) → n ≡ longest_form bytes → 0 < length bytes → (n == length bytes) ≡ has_form bytes
form_whole [] n e h = absurd (omega arith)
form_whole (b ∷ bs) n e h = ap (λ x. x == length (b ∷ bs)) e ∙ whole_at (b ∷ bs) (length bs) ∙ ap has_form (take_all (suc (length bs)) (b ∷ bs) (omega arith))
