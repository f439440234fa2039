-- A text and its first piece.
use Rattle.std.proofs.Common.{◌≡◌, ℕ, Bool, true, false, not, cond, ◌+◌, ◌-◌, ◌<◌, ◌≤◌, suc, List, [], ◌∷◌, ◌++◌, length, take, drop, refl, sym, ap, ◌∙◌, append-nil, arith, length-drop}
use Rattle.std.proofs.lemmas.List.{take_all}
use Rattle.std.specs.List.{prefix_len, onto_first, join_with_byte, list_any, list_all}
use Rattle.gv_base.specs.declared.pieces.Cut.{Cut}
use Rattle.gv_base.specs.Pieces.{separates, pieces}
use Rattle.gv_base.specs.PrivateWords.{each_behind}

abbrev pub front_len : Cut → List ℕ → ℕ
front_len cut bytes = prefix_len (λ b. not (separates cut b)) bytes

-- a separator follows
pub cut_off : (cut : Cut) (bytes : List ℕ) (n : ℕ) → n ≡ front_len cut bytes → n < length bytes → pieces cut bytes ≡ take n bytes ∷ pieces cut (drop (n + 1) bytes)
cut_off cut [] n is lt = absurd (omega arith)
cut_off cut (b ∷ bs) n is lt =
    elim (separates cut b) as (λ t. n ≡ cond (not t) (1 + front_len cut bs) 0 → cond t ([] ∷ pieces cut bs) (onto_first b (pieces cut bs)) ≡ take n (b ∷ bs) ∷ pieces cut (drop (n + 1) (b ∷ bs))) [
      | true ↦ λ e. rw e refl
      | false ↦ λ e.
          let m = front_len cut bs in
          let next : n ≡ suc m = omega arith in
          let over : suc m + 1 ≡ suc (m + 1) = omega arith in
          rw (next, over, cut_off cut bs m refl (omega arith)) refl
    ] is

-- the same, as a slice `bytes[n + 1..]` is seen
pub cut_there : (cut : Cut) (bytes : List ℕ) (n : ℕ) → n ≡ front_len cut bytes → n < length bytes →
    pieces cut bytes ≡ take n bytes ∷ pieces cut (take (length bytes - (n + 1)) (drop (n + 1) bytes))
cut_there cut bytes n is lt = cut_off cut bytes n is lt ∙ ap (λ r. take n bytes ∷ pieces cut r) (sym (take_all (length bytes - (n + 1)) (drop (n + 1) bytes) (omega (arith, length-drop (n + 1) bytes))))

-- none follows
pub all_one : (cut : Cut) (bytes : List ℕ) (n : ℕ) → n ≡ front_len cut bytes → length bytes ≤ n → pieces cut bytes ≡ take n bytes ∷ []
all_one cut [] n is le = rw is refl
all_one cut (b ∷ bs) n is le =
    elim (separates cut b) as (λ t. n ≡ cond (not t) (1 + front_len cut bs) 0 → cond t ([] ∷ pieces cut bs) (onto_first b (pieces cut bs)) ≡ take n (b ∷ bs) ∷ []) [
      | true ↦ λ e. absurd (omega arith)
      | false ↦ λ e.
          let m = front_len cut bs in
          let next : n ≡ suc m = omega arith in
          rw (next, all_one cut bs m refl (omega arith)) refl
    ] is

-- no more pieces than bytes and one
pub few_pieces : (cut : Cut) (bytes : List ℕ) → length (pieces cut bytes) ≤ length bytes + 1
few_pieces cut [] = omega arith
few_pieces cut (b ∷ bs) =
    let rest = few_pieces cut bs in
    elim (separates cut b) as (λ t. length (cond t ([] ∷ pieces cut bs) (onto_first b (pieces cut bs))) ≤ length (b ∷ bs) + 1) [
      | true ↦ omega arith
      | false ↦ put_few (pieces cut bs) rest
    ]
  where
    put_few : (ps : List (List ℕ)) → length ps ≤ length bs + 1 → length (onto_first b ps) ≤ length (b ∷ bs) + 1
    put_few [] h = omega arith
    put_few (p ∷ ps) h = omega arith

-- a first text and the others behind the byte are all, joined
pub join_first : (byte : ℕ) (first : List ℕ) (rest : List (List ℕ)) → first ++ each_behind byte rest ≡ join_with_byte byte (first ∷ rest)
join_first byte first [] = append-nil first
join_first byte first (text ∷ texts) = ap (λ bytes. first ++ byte ∷ bytes) (join_first byte text texts)

-- there is at least one piece
pub some_piece : (cut : Cut) (bytes : List ℕ) → 0 < length (pieces cut bytes)
some_piece cut [] = omega arith
some_piece cut (b ∷ bs) = by (separates cut b) (pieces cut bs)
  where
    by : (t : Bool) (ps : List (List ℕ)) → 0 < length (cond t ([] ∷ ps) (onto_first b ps))
    by true ps = omega arith
    by false [] = omega arith
    by false (p ∷ ps) = omega arith

-- no separator is left in a piece
pub pieces-clean : (cut : Cut) (bytes : List ℕ) → list_all (λ piece. not (list_any (separates cut) piece)) (pieces cut bytes) ≡ true
pieces-clean cut [] = refl
pieces-clean cut (b ∷ bs) = by (separates cut b) refl (pieces cut bs) (pieces-clean cut bs)
  where
    by : (t : Bool) → separates cut b ≡ t → (ps : List (List ℕ)) → list_all (λ piece. not (list_any (separates cut) piece)) ps ≡ true
        → list_all (λ piece. not (list_any (separates cut) piece)) (cond t ([] ∷ ps) (onto_first b ps)) ≡ true
    by true is ps h = h
    by false is [] h = rw is refl
    by false is (p ∷ ps) h = rw is h

-- the pieces between line feeds, or between slashes, give the text again when they are joined by that byte
pub pieces-joined : (cut : Cut) (byte : ℕ) → ((b : ℕ) → separates cut b ≡ true → b ≡ byte) → (bytes : List ℕ) → join_with_byte byte (pieces cut bytes) ≡ bytes
pieces-joined cut byte one [] = refl
pieces-joined cut byte one (b ∷ bs) = by (separates cut b) (one b) (pieces cut bs) (some_piece cut bs) (pieces-joined cut byte one bs)
  where
    by : (t : Bool) → (t ≡ true → b ≡ byte) → (ps : List (List ℕ)) → 0 < length ps → join_with_byte byte ps ≡ bs → join_with_byte byte (cond t ([] ∷ ps) (onto_first b ps)) ≡ b ∷ bs
    by t is [] some h = absurd (omega arith)
    by true is (p ∷ ps) some h = rw (is refl, h) refl
    by false is (p ∷ []) some h = ap (λ rest. b ∷ rest) h
    by false is (p ∷ q ∷ ps) some h = ap (λ rest. b ∷ rest) h
