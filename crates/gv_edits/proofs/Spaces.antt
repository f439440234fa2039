-- A line and its first word.
use Rattle.std.proofs.Common.{◌≡◌, ℕ, true, false, not, cond, ◌+◌, ◌-◌, ◌==◌, ◌<◌, ◌≤◌, suc, List, [], ◌∷◌, length, take, drop, refl, sym, ap, ◌∙◌, arith, length-drop, length-take}
use Rattle.std.proofs.lemmas.List.{take_all}
use Rattle.std.specs.List.{position_or_len, onto_first}
use Rattle.gv_base.specs.Cut.{up_to_first}
use Rattle.gv_edits.specs.Line.{words_of_line}

abbrev front_len : List ℕ → ℕ
front_len bytes = position_or_len (λ b. b == 32) bytes

front_within : (bytes : List ℕ) → front_len bytes ≤ length bytes
front_within [] = omega arith
front_within (b ∷ bs) =
    let rest = front_within bs in
    elim (b == 32) as (λ t. cond (not t) (1 + front_len bs) 0 ≤ length (b ∷ bs)) [
      | true ↦ omega arith
      | false ↦ omega arith
    ]

up_len : (bytes : List ℕ) → length (up_to_first 32 bytes) ≡ front_len bytes
up_len bytes = let within = front_within bytes in omega (arith, within, length-take (front_len bytes) bytes)

cut_off : (bytes : List ℕ) (n : ℕ) → n ≡ front_len bytes → n < length bytes → words_of_line bytes ≡ take n bytes ∷ words_of_line (drop (n + 1) bytes)
cut_off [] n is lt = absurd (omega arith)
cut_off (b ∷ bs) n is lt =
    elim (b == 32) as (λ t. n ≡ cond (not t) (1 + front_len bs) 0 → cond t ([] ∷ words_of_line bs) (onto_first b (words_of_line bs)) ≡ take n (b ∷ bs) ∷ words_of_line (drop (n + 1) (b ∷ bs))) [
      | true ↦ λ e. rw e refl
      | false ↦ λ e.
          let m = front_len bs in
          let next : n ≡ suc m = omega arith in
          let over : suc m + 1 ≡ suc (m + 1) = omega arith in
          rw (next, over, cut_off bs m refl (omega arith)) refl
    ] is

uncut : (bytes : List ℕ) (n : ℕ) → n ≡ front_len bytes → length bytes ≤ n → words_of_line bytes ≡ take n bytes ∷ []
uncut [] n is le = rw is refl
uncut (b ∷ bs) n is le =
    elim (b == 32) as (λ t. n ≡ cond (not t) (1 + front_len bs) 0 → cond t ([] ∷ words_of_line bs) (onto_first b (words_of_line bs)) ≡ take n (b ∷ bs) ∷ []) [
      | true ↦ λ e. absurd (omega arith)
      | false ↦ λ e.
          let m = front_len bs in
          let next : n ≡ suc m = omega arith in
          rw (next, uncut bs m refl (omega arith)) refl
    ] is

-- a space follows
pub space_there : (bytes word : List ℕ) → word ≡ up_to_first 32 bytes → length word < length bytes
    → words_of_line bytes ≡ word ∷ words_of_line (take (length bytes - (length word + 1)) (drop (length word + 1) bytes))
space_there bytes word is lt =
    let n : length word ≡ front_len bytes = ap length is ∙ up_len bytes in
    let same : take (length word) bytes ≡ word = ap (λ k. take k bytes) n ∙ sym is in
    cut_off bytes (length word) n lt
    ∙ ap (λ w. w ∷ words_of_line (drop (length word + 1) bytes)) same
    ∙ ap (λ r. word ∷ words_of_line r) (sym (take_all (length bytes - (length word + 1)) (drop (length word + 1) bytes) (omega (arith, length-drop (length word + 1) bytes))))

-- none follows
pub all_one : (bytes word : List ℕ) → word ≡ up_to_first 32 bytes → length bytes ≤ length word → words_of_line bytes ≡ word ∷ []
all_one bytes word is le =
    let n : length word ≡ front_len bytes = ap length is ∙ up_len bytes in
    let same : take (length word) bytes ≡ word = ap (λ k. take k bytes) n ∙ sym is in
    uncut bytes (length word) n le ∙ ap (λ w. w ∷ []) same
