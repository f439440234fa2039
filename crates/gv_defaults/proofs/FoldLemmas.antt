-- Words taken in order, and those of them that last.
use Rattle.std.proofs.Common.{◌≡◌, ℕ, ◌-◌, ◌<◌, ◌≤◌, suc, Bool, true, false, not, ◌&&◌, ◌||◌, List, [], ◌∷◌, ◌++◌, length, get_or, drop, drop-cons, filter, append-nil, refl, sym, ap, subst, ◌∙◌, arith}
use Rattle.std.specs.Prelude.{if◌then◌else◌, ◌==◌}
use Rattle.std.specs.List.{list_any}
use Rattle.std.specs.Str.{bytes_eq}
use Rattle.std.specs.BTreeMap.{is_at}
use Rattle.std.proofs.lemmas.Map.Text.{is_eq-slice_cmp}
use Rattle.std.proofs.lemmas.List.Elements.{filter-append}
use Rattle.std.proofs.lemmas.Bool.{both_ways, eqb-true}
use Rattle.std.proofs.lemmas.Slice.Eq.{bytes_eq-Decides}
use Rattle.gv_base.specs.Order.{byte_cmp, has_text}
use Rattle.gv_defaults.specs.declared.folding.Behind.{Behind}
use Rattle.gv_defaults.specs.Incremental.{with_word, with_words}
use Rattle.gv_defaults.specs.Lasting.{removes, removed_by, adds, lasting, with_once, from_last}
use Rattle.gv_defaults.specs.Passed.{takes, HasPassed}

pub swapped : (a b c : Bool) → (a || (b || c)) ≡ (b || (a || c))
swapped true true c = refl
swapped true false c = refl
swapped false b c = refl

-- a word in front of those that were passed
pub passed : (words : List (List ℕ)) (i : ℕ) (word : List ℕ) (behind more : Behind) → 0 < i → i ≤ length words → word ≡ get_or words (i - 1) word →
    ((text : List ℕ) → takes more text ≡ (removes text word || takes behind text)) →
    more.kept.items ≡ (if adds word && not (takes behind word) then behind.kept.items ++ word ∷ [] else behind.kept.items) →
    HasPassed (drop i words) behind → HasPassed (drop (i - 1) words) more
passed words i word behind more some within at removed kept so_far =
    let next : drop (i - 1) words ≡ word ∷ drop i words = front in
    rw next (record {
      removed = λ text. removed text ∙ ap (λ (b : Bool). removes text word || b) (so_far.removed text);
      kept = kept ∙ rw (so_far.removed word, so_far.kept) refl;
    })
  where
    front : drop (i - 1) words ≡ word ∷ drop i words
    front =
        let e : suc (i - 1) ≡ i = omega arith in
        drop-cons words (i - 1) word (omega arith) ∙ ap (λ (w : List ℕ). w ∷ drop (suc (i - 1)) words) (sym at) ∙ ap (λ (n : ℕ). word ∷ drop n words) e

-- the words that none of those behind removes
abbrev pub left_by : List (List ℕ) → List (List ℕ) → List (List ℕ)
left_by words before = filter (λ word. not (removed_by words word)) before

-- words are added from the last of them on
pub from_last_push : (words more : List (List ℕ)) (word : List ℕ) → from_last words (more ++ word ∷ []) ≡ from_last (with_once words word) more
from_last_push words [] word = refl
from_last_push words (m ∷ more) word = ap (λ (ws : List (List ℕ)). with_once ws m) (from_last_push words more word)

all_stay : (xs : List (List ℕ)) → left_by [] xs ≡ xs
all_stay [] = refl
all_stay (x ∷ xs) = ap (λ (ws : List (List ℕ)). x ∷ ws) (all_stay xs)

none_stays : (bs : List ℕ) (words xs : List (List ℕ)) → bytes_eq bs (42 ∷ []) ≡ true → left_by ((45 ∷ bs) ∷ words) xs ≡ []
none_stays bs words [] is = refl
none_stays bs words (x ∷ xs) is = rw (is, none_stays bs words xs is) refl

-- the words that `-x` and then others remove
left_twice : (bs : List ℕ) (words xs : List (List ℕ)) → bytes_eq bs (42 ∷ []) ≡ false → left_by ((45 ∷ bs) ∷ words) xs ≡ left_by words (filter (λ w. not (bytes_eq w bs)) xs)
left_twice bs words [] is = refl
left_twice bs words (x ∷ xs) is = by (bytes_eq bs (42 ∷ [])) (bytes_eq x bs) is (left_twice bs words xs is)
  where
    by : (a b : Bool) → a ≡ false → left_by ((45 ∷ bs) ∷ words) xs ≡ left_by words (filter (λ w. not (bytes_eq w bs)) xs) →
        (if not ((a || b) || removed_by words x) then x ∷ left_by ((45 ∷ bs) ∷ words) xs else left_by ((45 ∷ bs) ∷ words) xs)
        ≡ left_by words (if not b then x ∷ filter (λ w. not (bytes_eq w bs)) xs else filter (λ w. not (bytes_eq w bs)) xs)
    by true b e h = absurd (cc)
    by false true e h = h
    by false false e h = ap (λ (ws : List (List ℕ)). if not (removed_by words x) then x ∷ ws else ws) h

-- a word that isn't removed is there afterwards where it was before
still_there : (words before : List (List ℕ)) (word : List ℕ) → removed_by words word ≡ false → has_text (left_by words before) word ≡ has_text before word
still_there words [] word stays = refl
still_there words (x ∷ xs) word stays = by (removed_by words x) (bytes_eq word x) refl refl (still_there words xs word stays)
  where
    by : (a b : Bool) → removed_by words x ≡ a → bytes_eq word x ≡ b → has_text (left_by words xs) word ≡ has_text xs word →
        has_text (if not a then x ∷ left_by words xs else left_by words xs) word ≡ (b || has_text xs word)
    by true true gone is h =
        let same : word ≡ x = (bytes_eq-Decides word x).0 is in
        absurd (both_ways (removed_by words x) (subst (λ (w : List ℕ). removed_by words w ≡ false) same stays) gone)
    by true false gone is h = h
    by false b gone is h = rw (is, h) refl

-- a word that adds itself
added : (words before : List (List ℕ)) (word : List ℕ) →
    from_last (left_by words before) (if not (removed_by words word) then lasting words ++ word ∷ [] else lasting words) ≡ from_last (left_by words (with_once before word)) (lasting words)
added words before word = by (removed_by words word) (has_text before word) refl refl
  where
    once : (a b : Bool) → removed_by words word ≡ a → left_by words (if b then before else before ++ word ∷ []) ≡ (if b then left_by words before else left_by words before ++ (if not a then word ∷ [] else []))
    once a true e = refl
    once a false e = filter-append (λ w. not (removed_by words w)) before (word ∷ []) ∙ ap (λ (r : Bool). left_by words before ++ (if not r then word ∷ [] else [])) e

    by : (a b : Bool) → removed_by words word ≡ a → has_text before word ≡ b →
        from_last (left_by words before) (if not a then lasting words ++ word ∷ [] else lasting words) ≡ from_last (left_by words (if b then before else before ++ word ∷ [])) (lasting words)
    by true true gone there = refl
    by true false gone there = ap (λ (ws : List (List ℕ)). from_last ws (lasting words)) (sym (once true false gone ∙ append-nil (left_by words before)))
    by false b gone there =
        from_last_push (left_by words before) (lasting words) word
        ∙ ap (λ (ws : List (List ℕ)). from_last ws (lasting words)) (ap (λ (t : Bool). if t then left_by words before else left_by words before ++ word ∷ []) (still_there words before word gone ∙ there) ∙ sym (once false b gone))

-- a word that removes
removed : (words before : List (List ℕ)) (bs : List ℕ) →
    from_last (left_by ((45 ∷ bs) ∷ words) before) (lasting words) ≡ from_last (left_by words (if bytes_eq bs (42 ∷ []) then [] else filter (λ w. not (bytes_eq w bs)) before)) (lasting words)
removed words before bs = ap (λ (ws : List (List ℕ)). from_last ws (lasting words)) (by (bytes_eq bs (42 ∷ [])) refl)
  where
    by : (a : Bool) → bytes_eq bs (42 ∷ []) ≡ a → left_by ((45 ∷ bs) ∷ words) before ≡ left_by words (if a then [] else filter (λ w. not (bytes_eq w bs)) before)
    by true is = none_stays bs words before is
    by false is = left_twice bs words before is

-- one word more, in front
one_more : (words before : List (List ℕ)) (word : List ℕ) → from_last (left_by (word ∷ words) before) (lasting (word ∷ words)) ≡ from_last (left_by words (with_word before word)) (lasting words)
one_more words before [] = refl
one_more words before (b ∷ bs) = by (b == 45) refl
  where
    by : (a : Bool) → (b == 45) ≡ a → from_last (left_by ((b ∷ bs) ∷ words) before) (lasting ((b ∷ bs) ∷ words)) ≡ from_last (left_by words (with_word before (b ∷ bs))) (lasting words)
    by true is = rw (eqb-true b 45 is) (removed words before bs)
    by false is = rw is (added words before (b ∷ bs))

pub by_lasting : (before words : List (List ℕ)) → from_last (left_by words before) (lasting words) ≡ with_words before words
by_lasting before [] = all_stay before
by_lasting before (word ∷ words) = one_more words before word ∙ by_lasting (with_word before word) words

-- what is known of all words says which of those before are left
left_same : (words xs : List (List ℕ)) (behind : Behind) → ((text : List ℕ) → takes behind text ≡ removed_by words text) → filter (λ word. not (takes behind word)) xs ≡ left_by words xs
left_same words [] behind same = refl
left_same words (x ∷ xs) behind same = rw (same x, left_same words xs behind same) refl

pub by_passing : (before words left texts : List (List ℕ)) (behind : Behind) → HasPassed words behind → left ≡ filter (λ word. not (takes behind word)) before → texts ≡ from_last left behind.kept.items →
    texts ≡ with_words before words
by_passing before words left texts behind all is last =
    last
    ∙ ap (λ (ws : List (List ℕ)). from_last ws behind.kept.items) (is ∙ left_same words before behind all.removed)
    ∙ ap (from_last (left_by words before)) all.kept
    ∙ by_lasting before words
