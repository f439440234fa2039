-- Bytes that come in.
use Rattle.std.proofs.Common.{◌≡◌, ◌≤◌, ◌<◌, ◌+◌, ◌==◌, ℕ, suc, List, [], ◌∷◌, ◌++◌, Bool, true, false, ◌||◌, cond, length, take, drop, Some, None, refl, sym, ap, ◌∙◌, arith, length-append, length-take, length-drop, ◌-◌}
use Rattle.std.specs.Prelude.{Option, IfSome, option_map, nat_le, min}
use Rattle.std.specs.List.{list_any, position_or_len}
use Rattle.std.proofs.lemmas.List.{append_assoc, append-nil, take-append-drop}
use Rattle.std.proofs.lemmas.List.Folds.{list_any-append}
use Rattle.std.proofs.Math.Seq.{drop-append-add}
use Rattle.std.proofs.Math.Bool.{or-true, and-false}
use Rattle.gv_base.specs.Cut.{up_to_first}
use Rattle.gv_base.specs.Outside.{loses, Takes}
use Rattle.gv_edits.specs.Pending.{whole}
use Rattle.gv_edits.specs.Reading.{and_rest, led_by}
use Rattle.gv_edits.specs.Line.{first_line}

no_length : {A : Type 0} (xs : List A) → length xs ≡ 0 → xs ≡ []
no_length [] e = refl
no_length (x ∷ xs) e = absurd (omega arith)

pub none_taken : (n k : ℕ) (new rest : List ℕ) → n ≤ length new → n ≤ k → take n (take k (new ++ rest)) ≡ [] → n ≡ 0
none_taken n k new rest a b h = let e : length (take n (take k (new ++ rest))) ≡ 0 = ap length h in omega (arith, e, length-take n (take k (new ++ rest)), length-take k (new ++ rest), length-append new rest)

pub at_end : (told : Option (List ℕ)) (room : List ℕ) (n : ℕ) → n ≡ 0 → 0 < length room → IfSome told (λ bytes. Takes bytes room n) → IfSome (loses told n) (λ bytes. bytes ≡ [])
at_end None room n none more t = tt
at_end (Some bytes) room n none more t = rw (none, no_length bytes (t.end none more)) refl

-- bytes that were taken are there
pub some_taken : (room : List ℕ) (from to : ℕ) → from ≤ to → to ≤ length room → (from == to) ≡ false → drop from (take to room) ≡ [] → ⊥
some_taken room from to a b other none =
    let e : length (drop from (take to room)) ≡ 0 = ap length none in
    let len : length (drop from (take to room)) ≡ to - from = omega (arith, length-drop from (take to room), length-take to room) in
    let same : from ≡ to = omega arith in
    let there : (from == to) ≡ true = grind arith in
    cc

-- what is moved to a text is neither lost nor changed
pub moved : (text taken : List ℕ) (n : ℕ) (left : Option (List ℕ)) → whole text (whole taken left) ≡ whole (text ++ take n taken) (whole (drop n taken) left)
moved text taken n None = refl
moved text taken n (Some bytes) =
    ap Some (ap (λ xs. text ++ xs) (ap (λ xs. xs ++ bytes) (sym (take-append-drop n taken)) ∙ append_assoc (take n taken) (drop n taken) bytes) ∙ sym (append_assoc text (take n taken) (drop n taken ++ bytes)))

pub nothing_moved : (taken more : List ℕ) (n most : ℕ) (left : Option (List ℕ)) → n ≡ min most (length taken) → 0 < most → more ≡ drop n taken
    → (taken ≡ [] → IfSome left (λ bytes. bytes ≡ [])) → n ≡ 0 → IfSome (whole more left) (λ bytes. bytes ≡ [])
nothing_moved taken more n most None is some behind end none = tt
nothing_moved taken more n most (Some bytes) is some behind end none =
    let empty : taken ≡ [] = no_length taken (grind arith) in
    rw (behind, none, empty, end empty) refl

-- ---- a line
pub up_step : (b : ℕ) (bs : List ℕ) → up_to_first 10 (b ∷ bs) ≡ cond (b == 10) [] (b ∷ up_to_first 10 bs)
up_step b bs = by (b == 10) refl
  where
    by : (t : Bool) → (b == 10) ≡ t → up_to_first 10 (b ∷ bs) ≡ cond t [] (b ∷ up_to_first 10 bs)
    by true is = rw is refl
    by false is = rw is (let e : 1 + position_or_len (λ c. c == 10) bs ≡ suc (position_or_len (λ c. c == 10) bs) = omega arith in rw e refl)

up_behind : (line rest : List ℕ) → list_any (λ b. b == 10) line ≡ false → up_to_first 10 (line ++ rest) ≡ line ++ up_to_first 10 rest
up_behind [] rest none = refl
up_behind (b ∷ bs) rest none = up_step b (bs ++ rest) ∙ by (b == 10) none (up_behind bs rest)
  where
    by : (t : Bool) → (t || list_any (λ c. c == 10) bs) ≡ false → (list_any (λ c. c == 10) bs ≡ false → up_to_first 10 (bs ++ rest) ≡ bs ++ up_to_first 10 rest) → cond t [] (b ∷ up_to_first 10 (bs ++ rest)) ≡ b ∷ (bs ++ up_to_first 10 rest)
    by true none' later = cc
    by false none' later = ap (λ xs. b ∷ xs) (later none')

feed_there : (line rest : List ℕ) → list_any (λ b. b == 10) (line ++ 10 ∷ rest) ≡ true
feed_there line rest = list_any-append (λ b. b == 10) line (10 ∷ rest) ∙ or-true (list_any (λ b. b == 10) line)

drop_one_more : (line rest : List ℕ) → drop (length line + 1) (line ++ 10 ∷ rest) ≡ rest
drop_one_more line rest = drop-append-add line (10 ∷ rest) 1

pub feed_line : (line rest : List ℕ) → list_any (λ b. b == 10) line ≡ false → length line ≤ 4200 → first_line (line ++ 10 ∷ rest) ≡ Some (line, rest)
feed_line line rest none few =
    let up : up_to_first 10 (line ++ 10 ∷ rest) ≡ line = up_behind line (10 ∷ rest) none ∙ ap (λ xs. line ++ xs) (up_step 10 rest) ∙ append-nil line in
    let small : nat_le (length line) 4200 ≡ true = grind arith in
    rw (feed_there line rest, up, small, drop_one_more line rest) refl

pub no_feed : (bytes : List ℕ) → list_any (λ b. b == 10) bytes ≡ false → first_line bytes ≡ None
no_feed bytes none = rw none refl

long_line : (line rest : List ℕ) → list_any (λ b. b == 10) line ≡ false → 4200 < length line → first_line (line ++ rest) ≡ None
long_line line rest none long =
    let big : nat_le (length (line ++ up_to_first 10 rest)) 4200 ≡ false = grind (arith, length-append) in
    rw (up_behind line rest none, big, and-false (list_any (λ b. b == 10) (line ++ rest))) refl

pub line_at_feed : (told t : Option (List ℕ)) (line : List ℕ) → told ≡ whole line (led_by (Some 10) t) → list_any (λ b. b == 10) line ≡ false → length line ≤ 4200
    → option_map first_line told ≡ option_map (and_rest (Some line)) t
line_at_feed told None line is none few = rw is refl
line_at_feed told (Some rest) line is none few = rw is (ap Some (feed_line line rest none few))

pub line_at_end : (told t : Option (List ℕ)) (line : List ℕ) → told ≡ whole line t → IfSome t (λ bytes. bytes ≡ []) → list_any (λ b. b == 10) line ≡ false → option_map first_line told ≡ option_map (and_rest {X = List ℕ} None) t
line_at_end told None line is end none = rw is refl
line_at_end told (Some rest) line is end none = rw (is, end, append-nil line) (ap Some (no_feed line none))

pub line_too_long : (told t : Option (List ℕ)) (line : List ℕ) → told ≡ whole line t → list_any (λ b. b == 10) line ≡ false → 4200 < length line → option_map first_line told ≡ option_map (and_rest {X = List ℕ} None) t
line_too_long told None line is none long = rw is refl
line_too_long told (Some rest) line is none long = rw is (ap Some (long_line line rest none long))

-- one more byte
pub whole_one_more : (line : List ℕ) (byte : ℕ) (t : Option (List ℕ)) → whole line (led_by (Some byte) t) ≡ whole (line ++ byte ∷ []) t
whole_one_more line byte None = refl
whole_one_more line byte (Some rest) = ap Some (sym (append_assoc line (byte ∷ []) rest))

pub none_one_more : (line : List ℕ) (byte : ℕ) → list_any (λ b. b == 10) line ≡ false → (byte == 10) ≡ false → list_any (λ b. b == 10) (line ++ byte ∷ []) ≡ false
none_one_more line byte none other = list_any-append (λ b. b == 10) line (byte ∷ []) ∙ rw (none, other) refl
