-- Pieces are read from the front, one by one.
use Rattle.std.proofs.Common.{◌≡◌, ℕ, suc, zero, ◌<◌, ◌≤◌, Bool, true, false, List, [], ◌∷◌, length, refl, ap, sym, ◌∙◌, subst, arith, if◌then◌else◌, Option, Some, None, IfSome}
use Rattle.std.proofs.lemmas.List.{length-drop}
use Rattle.std.specs.Prelude.{◌==◌, option_map}
use Rattle.std.specs.Borrow.{Bor}
use Rattle.std.specs.List.{prefix_len}
use Rattle.gv_version.specs.Bytes.{is_digit, is_small, front, behind}
use Rattle.gv_version.specs.TotalDigits.{front_passes}
use Rattle.gv_version.specs.Form.{kind_named}
use Rattle.gv_version.specs.Pieces.{Piece, first, later, letter, suffix, agrees, is_front}
use Rattle.gv_version.specs.PieceReading.{shown_piece, shown, are_digits, next_suffix, next_revision, next_piece, pieces_within, pieces_in, cmp_piece, cmp_pieces}
use Rattle.std.specs.declared.cmp.Ordering.{Ordering}
use Rattle.std.specs.declared.cmp.Ordering.TheVariants.{Equal}
use Rattle.gv_version.specs.declared.pieces.Kind.{Kind}
use Rattle.gv_version.specs.declared.pieces.Piece as code
use Rattle.gv_version.proofs.Integers.{behind_yes}

behind_within : (test : ℕ → Bool) (xs : List ℕ) → length (behind test xs) ≤ length xs
behind_within test xs = let cut = length-drop (prefix_len test xs) xs in omega (arith, cut)

-- what is known of a piece that was read and of what follows it
abbrev IsRead : List ℕ → Piece × List ℕ → Type 0
IsRead bytes p = (are_digits p.0 ≡ true) × (length p.1 < length bytes)

suffix_read : (b : ℕ) (bs : List ℕ) (kind : Option Kind)
    → IfSome (option_map (λ k. (suffix k (front is_digit (behind is_small bs)), behind is_digit (behind is_small bs))) kind) (IsRead (b ∷ bs))
suffix_read b bs None = tt
suffix_read b bs (Some k) =
    let word = behind_within is_small bs in
    let number = behind_within is_digit (behind is_small bs) in
    (front_passes is_digit (behind is_small bs), omega (arith, word, number))

revision_read : (b : ℕ) (bs : List ℕ) → IfSome (next_revision bs) (IsRead (b ∷ bs))
revision_read b [] = tt
revision_read b (r ∷ ds) = let number = behind_within is_digit ds in (front_passes is_digit ds, omega (arith, number))

is_read : (bytes : List ℕ) → IfSome (next_piece bytes) (IsRead bytes)
is_read [] = tt
is_read (b ∷ bs) = by (is_digit b) (b == 46) (is_small b) (b == 95) (b == 45) refl
  where
    by : (u v w x y : Bool) → is_digit b ≡ u
        → IfSome (if u then Some (first (front is_digit (b ∷ bs)), behind is_digit (b ∷ bs)) else
        if v then Some (later (front is_digit bs), behind is_digit bs) else
        if w then Some (letter b, bs) else
        if x then next_suffix bs else
        if y then next_revision bs else None) (IsRead (b ∷ bs))
    by true v w x y e =
        let cut = behind_yes is_digit b bs e in
        let number = behind_within is_digit bs in
        (front_passes is_digit (b ∷ bs), omega (arith, ap length cut, number))
    by false true w x y e = let number = behind_within is_digit bs in (front_passes is_digit bs, omega (arith, number))
    by false false true x y e = (refl, omega arith)
    by false false false true y e = suffix_read b bs (kind_named (front is_small bs))
    by false false false false true e = revision_read b bs
    by false false false false false e = tt

read_at : (bytes : List ℕ) (p : Piece × List ℕ) → next_piece bytes ≡ Some p → IsRead bytes p
read_at bytes p e = subst (λ o. IfSome o (IsRead bytes)) e (is_read bytes)

pub piece_digits : (bytes : List ℕ) (r : Option (code.Piece × Bor (List ℕ))) → option_map shown r ≡ next_piece bytes → IfSome r (λ p. are_digits (shown_piece p.0) ≡ true)
piece_digits bytes None e = tt
piece_digits bytes (Some p) e = (read_at bytes (shown p) (sym e)).0

pub piece_shorter : (bytes : List ℕ) (r : Option (code.Piece × Bor (List ℕ))) → option_map shown r ≡ next_piece bytes → IfSome r (λ p. length p.1.now < length bytes)
piece_shorter bytes None e = tt
piece_shorter bytes (Some p) e = (read_at bytes (shown p) (sym e)).1

-- Any bound that is long enough gives the same pieces.
none_in : (n : ℕ) → pieces_within n [] ≡ []
none_in zero = refl
none_in (suc n) = refl

enough : (n m : ℕ) (bytes : List ℕ) → length bytes ≤ n → length bytes ≤ m → pieces_within n bytes ≡ pieces_within m bytes
enough n m [] hn hm = none_in n ∙ sym (none_in m)
enough zero m (b ∷ bs) hn hm = absurd (omega arith)
enough (suc n) zero (b ∷ bs) hn hm = absurd (omega arith)
enough (suc n) (suc m) (b ∷ bs) hn hm = by (next_piece (b ∷ bs)) (is_read (b ∷ bs)) (enough n m)
  where
    by : (o : Option (Piece × List ℕ)) → IfSome o (IsRead (b ∷ bs)) → ((rest : List ℕ) → length rest ≤ n → length rest ≤ m → pieces_within n rest ≡ pieces_within m rest)
        → elim o as (λ _. List Piece) [ None ↦ [] | Some p ↦ p.0 ∷ pieces_within n p.1 ] ≡ elim o as (λ _. List Piece) [ None ↦ [] | Some p ↦ p.0 ∷ pieces_within m p.1 ]
    by None good same = refl
    by (Some p) good same = let less = good.1 in ap (λ ps. p.0 ∷ ps) (same p.1 (omega (arith, less)) (omega (arith, less)))

pub pieces_more : (bytes : List ℕ) (p : Piece × List ℕ) → next_piece bytes ≡ Some p → pieces_in bytes ≡ p.0 ∷ pieces_in p.1
pieces_more [] p e = absurd (cc)
pieces_more (b ∷ bs) p e =
    let less = (read_at (b ∷ bs) p e).1 in
    by (next_piece (b ∷ bs)) e ∙ ap (λ ps. p.0 ∷ ps) (enough (length bs) (length p.1) p.1 (omega (arith, less)) (omega arith))
  where
    by : (o : Option (Piece × List ℕ)) → o ≡ Some p → elim o as (λ _. List Piece) [ None ↦ [] | Some q ↦ q.0 ∷ pieces_within (length bs) q.1 ] ≡ p.0 ∷ pieces_within (length bs) p.1
    by o f = rw f refl

pub pieces_none : (bytes : List ℕ) → next_piece bytes ≡ None → pieces_in bytes ≡ []
pieces_none [] e = refl
pieces_none (b ∷ bs) e = by (next_piece (b ∷ bs)) e
  where
    by : (o : Option (Piece × List ℕ)) → o ≡ None → elim o as (λ _. List Piece) [ None ↦ [] | Some q ↦ q.0 ∷ pieces_within (length bs) q.1 ] ≡ []
    by o f = rw f refl

-- One step of reading two texts side by side.
pub compare_step : (a b : List ℕ) (p q : Piece × List ℕ) (o : Ordering) → Some p ≡ next_piece a → Some q ≡ next_piece b → o ≡ cmp_piece p.0 q.0 → o ≡ Equal
    → cmp_pieces (pieces_in p.1) (pieces_in q.1) ≡ cmp_pieces (pieces_in a) (pieces_in b)
compare_step a b p q o ea eb e equal =
    let same : cmp_piece p.0 q.0 ≡ Equal = sym e ∙ equal in
    rw (pieces_more a p (sym ea), pieces_more b q (sym eb), same) refl

pub begins_step : (v w : List ℕ) (p q : Piece × List ℕ) (u : Bool) → Some p ≡ next_piece v → Some q ≡ next_piece w → u ≡ agrees p.0 q.0 → u ≡ true
    → is_front (pieces_in p.1) (pieces_in q.1) ≡ is_front (pieces_in v) (pieces_in w)
begins_step v w p q u ev ew e agreed =
    let same : agrees p.0 q.0 ≡ true = sym e ∙ agreed in
    rw (pieces_more v p (sym ev), pieces_more w q (sym ew), same) refl
