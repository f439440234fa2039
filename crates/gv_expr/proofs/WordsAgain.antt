-- The words of a text, joined by one space, are the words of that text.
use Rattle.std.proofs.Common.{◌≡◌, ℕ, Bool, true, false, not, cond, List, [], ◌∷◌, ◌++◌, refl, ap, ◌∙◌}
use Rattle.std.specs.List.{AllByRecursion, filter, onto_first, slice_split}
use Rattle.gv_base.specs.Words.{is_empty, joined}

-- no byte of it separates
abbrev pub IsWhole : (ℕ → Bool) → List ℕ → Type 0
IsWhole separates bytes = AllByRecursion (λ b. separates b ≡ false) bytes

abbrev pub IsWord : (ℕ → Bool) → List ℕ → Type 0
IsWord separates bytes = (is_empty bytes ≡ false) × IsWhole separates bytes

split_front : (separates : ℕ → Bool) (word rest : List ℕ) (b : ℕ) → IsWhole separates word → separates b ≡ true → slice_split separates (word ++ b ∷ rest) ≡ word ∷ slice_split separates rest
split_front separates [] rest b whole ends = rw ends refl
split_front separates (x ∷ xs) rest b whole ends = let inside = whole.0 in rw inside (ap (onto_first x) (split_front separates xs rest b whole.1 ends))

split_whole : (separates : ℕ → Bool) (word : List ℕ) → IsWhole separates word → slice_split separates word ≡ word ∷ []
split_whole separates [] whole = refl
split_whole separates (x ∷ xs) whole = let inside = whole.0 in rw inside (ap (onto_first x) (split_whole separates xs whole.1))

next_whole : (separates : ℕ → Bool) (x : ℕ) (parts : List (List ℕ)) (b : Bool) → separates x ≡ b → AllByRecursion (IsWhole separates) parts → AllByRecursion (IsWhole separates) (cond b ([] ∷ parts) (onto_first x parts))
next_whole separates x parts true e all = (tt, all)
next_whole separates x [] false e all = ((e, tt), tt)
next_whole separates x (part ∷ parts) false e all = ((e, all.0), all.1)

parts_whole : (separates : ℕ → Bool) (bytes : List ℕ) → AllByRecursion (IsWhole separates) (slice_split separates bytes)
parts_whole separates [] = (tt, tt)
parts_whole separates (x ∷ xs) = next_whole separates x (slice_split separates xs) (separates x) refl (parts_whole separates xs)

words_of_parts : (separates : ℕ → Bool) (parts : List (List ℕ)) → AllByRecursion (IsWhole separates) parts → AllByRecursion (IsWord separates) (filter (λ part. not (is_empty part)) parts)
words_of_parts separates [] all = tt
words_of_parts separates ([] ∷ parts) all = words_of_parts separates parts all.1
words_of_parts separates ((b ∷ bs) ∷ parts) all = ((refl, all.0), words_of_parts separates parts all.1)

abbrev words_in : (ℕ → Bool) → List ℕ → List (List ℕ)
words_in separates bytes = filter (λ part. not (is_empty part)) (slice_split separates bytes)

words_joined : (separates : ℕ → Bool) → separates 32 ≡ true → (words : List (List ℕ)) → AllByRecursion (IsWord separates) words → words_in separates (joined words) ≡ words
words_joined separates blank [] all = refl
words_joined separates blank ([] ∷ []) all = let none = all.0.0 in cc
words_joined separates blank ((b ∷ bs) ∷ []) all =
    ap (λ parts. filter (λ part. not (is_empty part)) parts) (split_whole separates (b ∷ bs) all.0.1)
words_joined separates blank ([] ∷ word ∷ words) all = let none = all.0.0 in cc
words_joined separates blank ((b ∷ bs) ∷ word ∷ words) all =
    ap (λ parts. filter (λ part. not (is_empty part)) parts) (split_front separates (b ∷ bs) (joined (word ∷ words)) 32 all.0.1 blank)
    ∙ ap (λ rest. (b ∷ bs) ∷ rest) (words_joined separates blank (word ∷ words) all.1)

pub words_again : (separates : ℕ → Bool) → separates 32 ≡ true → (bytes : List ℕ) → words_in separates (joined (words_in separates bytes)) ≡ words_in separates bytes
words_again separates blank bytes =
    words_joined separates blank (words_in separates bytes) (words_of_parts separates (slice_split separates bytes) (parts_whole separates bytes))
