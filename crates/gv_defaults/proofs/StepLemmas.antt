-- One step in a value.
use Rattle.std.proofs.Common.{◌≡◌, ℕ, ◌+◌, ◌-◌, ◌<◌, ◌≤◌, zero, suc, true, false, List, [], ◌∷◌, length, drop, refl, ◌∙◌, Some, append-nil, arith}
use Rattle.gv_defaults.specs.declared.quotes.Quotes.{Quotes}
use Rattle.gv_defaults.specs.declared.steps.Step.{Step}
use Rattle.gv_defaults.specs.declared.steps.Meant.{Meant}
use Rattle.gv_defaults.specs.Quotes.{quotes_after, escapes}
use Rattle.gv_defaults.specs.Names.{Named, name_behind}
use Rattle.gv_defaults.specs.Meaning.{meaning, escaped, itself, is_dollar, with_name}
use Rattle.gv_defaults.specs.Steps.{meant_by, IsStep, IsDollar}

one_less : (b : ℕ) (bs : List ℕ) (n : ℕ) → 0 < n → drop n (b ∷ bs) ≡ drop (n - 1) bs
one_less b bs zero some = absurd (omega arith)
one_less b bs (suc n) some = let e : suc n - 1 ≡ n = omega arith in rw e refl

-- bytes that were read with a name are passed over
pub passed_over : (look : List ℕ → List ℕ) (quotes : Quotes) (n : ℕ) (bytes : List ℕ) → meaning look quotes n bytes ≡ meaning look quotes zero (drop n bytes)
passed_over look quotes zero bytes = refl
passed_over look quotes (suc n) [] = refl
passed_over look quotes (suc n) (b ∷ bs) = passed_over look quotes n bs

-- a byte at the end
pub last_byte : (quotes : Quotes) (b : ℕ) (step : Step) → ((look : List ℕ → List ℕ) → meant_by look step.meant ≡ itself quotes b) → step.len ≡ 1 → IsStep quotes (b ∷ []) step
last_byte quotes b step is one = record {
  means = λ look. rw (one, append-nil, is look) refl;
  some = omega arith;
  within = omega arith;
}

-- a byte that neither takes the next along nor is a dollar sign
pub one_byte : (quotes : Quotes) (b c : ℕ) (bs bytes : List ℕ) (step : Step) → bytes ≡ c ∷ bs → escapes quotes b ≡ false → is_dollar quotes b ≡ false →
    ((look : List ℕ → List ℕ) → meant_by look step.meant ≡ itself quotes b) → step.len ≡ 1 → step.quotes ≡ quotes_after quotes b → IsStep quotes (b ∷ bytes) step
one_byte quotes b c bs bytes step there stays plain is one after = record {
  means = λ look. rw (one, there, stays, plain, is look, after) refl;
  some = omega arith;
  within = omega arith;
}

-- a backslash and the byte that it takes along
pub escape : (quotes : Quotes) (b c : ℕ) (bs bytes : List ℕ) (meant : Meant) → bytes ≡ c ∷ bs → escapes quotes b ≡ true →
    ((look : List ℕ → List ℕ) → meant_by look meant ≡ escaped quotes c) → IsStep quotes (b ∷ bytes) (record { meant = meant; len = 2; quotes = quotes })
escape quotes b c bs bytes meant there takes is = record {
  means = λ look. rw (there, takes, is look) refl;
  some = omega arith;
  within = rw there (omega arith);
}

-- a dollar sign
pub dollar : (quotes : Quotes) (b c : ℕ) (bs bytes : List ℕ) (step : Step) → bytes ≡ c ∷ bs → escapes quotes b ≡ false → is_dollar quotes b ≡ true →
    IsDollar quotes bytes step → IsStep quotes (b ∷ bytes) step
dollar quotes b c bs bytes step there stays is so = record {
  means = λ look.
      let behind : drop step.len (b ∷ bytes) ≡ drop (step.len - 1) bytes = one_less b bytes step.len so.some in
      let means = so.means look in
      rw behind (opened look ∙ means);
  some = so.some;
  within = omega (arith, so.within);
}
  where
    opened : (look : List ℕ → List ℕ) → meaning look quotes zero (b ∷ bytes) ≡ with_name look (λ n. meaning look quotes n bytes) (name_behind bytes)
    opened look = rw (there, stays, is) refl

-- a name that is there
pub found : (quotes : Quotes) (behind : List ℕ) (step : Step) (name : Named) → name_behind behind ≡ Some name → name.len ≤ length behind →
    ((look : List ℕ → List ℕ) → meant_by look step.meant ≡ look name.name) → step.len ≡ name.len + 1 → step.quotes ≡ quotes → IsDollar quotes behind step
found quotes behind step name is within meant len same = record {
  means = λ look.
      let less : step.len - 1 ≡ name.len = omega arith in
      rw (is, meant look, same, less, passed_over look quotes name.len behind) refl;
  some = omega arith;
  within = omega arith;
}
