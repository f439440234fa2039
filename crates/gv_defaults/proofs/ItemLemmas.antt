-- The items of a file.
use Rattle.std.proofs.Common.{◌≡◌, ℕ, ◌+◌, ◌-◌, ◌<◌, ◌≤◌, zero, suc, true, false, List, [], ◌∷◌, length, take, drop, refl, sym, ap, ◌∙◌, None, add-one, arith}
use Rattle.std.specs.Prelude.{◌==◌}
use Rattle.gv_defaults.specs.declared.items.Assigned.{Assigned}
use Rattle.gv_defaults.specs.declared.items.Item.TheVariants.{Gap, Assignment as Assigns, Fault}
use Rattle.gv_defaults.specs.Quotes.{is_space}
use Rattle.gv_defaults.specs.Assignments.{size, assignment_at, line_after, comment_len, with_first, read_on}
use Rattle.gv_defaults.specs.Items.{lines_after, seen, IsAssigned, IsItem}

-- bytes that belong to what was read are passed over, line feeds counted
pub passed_over : (line n : ℕ) (bytes : List ℕ) → read_on line n bytes ≡ read_on (lines_after line (take n bytes)) zero (drop n bytes)
passed_over line zero bytes = refl
passed_over line (suc n) [] = refl
passed_over line (suc n) (b ∷ bs) = passed_over (line_after line b) n bs

pub space : (bytes : List ℕ) (b : ℕ) (behind : List ℕ) → bytes ≡ b ∷ behind → is_space b ≡ true → IsItem bytes (Gap 1)
space bytes b behind there is = record {
  reads = λ line. rw (there, is) refl;
  some = omega arith;
  within = rw there (omega arith);
}

pub comment : (bytes : List ℕ) (b : ℕ) (behind : List ℕ) (n : ℕ) → bytes ≡ b ∷ behind → is_space b ≡ false → b ≡ 35 → n ≡ comment_len behind → n ≤ length behind → IsItem bytes (Gap (n + 1))
comment bytes b behind n there not_space is len within = record {
  reads = λ line. rw (there, add-one n, is, ← len) (passed_over line n behind);
  some = omega arith;
  within = rw there (omega arith);
}

pub no_feed : (line b : ℕ) → is_space b ≡ false → line_after line b ≡ line
no_feed line b h = grind arith

pub fault : (bytes : List ℕ) (b : ℕ) (behind : List ℕ) → bytes ≡ b ∷ behind → is_space b ≡ false → (b == 35) ≡ false → assignment_at bytes ≡ None → IsItem bytes Fault
fault bytes b behind there not_space plain none line =
    let none' = rw there at none in
    rw (there, not_space, plain, none') refl

pub less : (n : ℕ) (bs : List ℕ) (b line : ℕ) → 0 < n → line_after line b ≡ line → read_on line (n - 1) bs ≡ read_on (lines_after line (take n (b ∷ bs))) zero (drop n (b ∷ bs))
less zero bs b line some same = absurd (omega arith)
less (suc n) bs b line some same =
    let e : suc n - 1 ≡ n = omega arith in
    rw e (passed_over line n bs ∙ ap (λ (from : ℕ). read_on (lines_after from (take n bs)) zero (drop n bs)) (sym same))

pub assignment : (bytes : List ℕ) (b : ℕ) (behind : List ℕ) (a : Assigned) → bytes ≡ b ∷ behind → is_space b ≡ false → (b == 35) ≡ false → IsAssigned bytes a → IsItem bytes (Assigns a)
assignment bytes b behind a there not_space plain is =
    let found = rw there at is.0 in
    record {
      reads = λ line. rw (there, not_space, plain, found) (ap (with_first (seen a)) (less (size (seen a)) behind b line (omega arith) (no_feed line b not_space)));
      some = omega arith;
      within = is.1;
    }
