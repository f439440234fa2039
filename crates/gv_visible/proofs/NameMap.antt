-- The places of the items of each category and name, as items come one by one.
use Rattle.std.proofs.Common.{◌≡◌, ℕ, ◌+◌, ◌<◌, Bool, true, false, ◌&&◌, ◌||◌, cond, List, [], ◌∷◌, length, get_or, take, Some, refl, sym, ap, ◌∙◌}
use Rattle.std.specs.Prelude.{if◌then◌else◌}
use Rattle.std.specs.Borrow.{Bor}
use Rattle.std.specs.Cmp.Lexicographic.{same_text}
use Rattle.std.specs.List.{list_any}
use Rattle.std.specs.Map.{lookup}
use Rattle.std.specs.Option.{option_map_or}
use Rattle.std.specs.Str.{bytes_eq}
use Rattle.std.proofs.lemmas.Bool.{false≢true}
use Rattle.std.proofs.lemmas.List.Folds.{list_any_more}
use Rattle.std.proofs.lemmas.Slice.Eq.{bytes_eq-Decides}
use Rattle.indexmap.specs.IndexMap.{insert_entry}
use Rattle.gv_facts.specs.declared.masks.Mask.{Mask}
use Rattle.gv_facts.specs.Places.{is_mask_of, places_from, places_of}
use Rattle.gv_visible.specs.ByName.{HasPlaces, Key, is_key, places_at}

abbrev pub key_eq : Key → Key → Bool
key_eq a b = bytes_eq a.0.now b.0.now && bytes_eq a.1.now b.1.now

both : (a b : Bool) → (a && b) ≡ true → (a ≡ true) × (b ≡ true)
both true b h = (refl, h)
both false b h = absurd (false≢true h)

same : (text : List ℕ) → bytes_eq text text ≡ true
same text = (bytes_eq-Decides text text).1 refl

alike : (a b c d : List ℕ) → (bytes_eq a b && bytes_eq c d) ≡ true → (a ≡ b) × (c ≡ d)
alike a b c d h = let each = both (bytes_eq a b) (bytes_eq c d) h in (same_text a b (sym each.0), same_text c d (sym each.1))

module _ (category name : List ℕ) where
  equal_keys : (k e : Key) → key_eq k e ≡ true → is_key category name k ≡ is_key category name e
  equal_keys k e h = let each = alike k.0.now e.0.now k.1.now e.1.now h in rw (each.0, each.1) refl

  one_key : (k e : Key) → is_key category name k ≡ true → is_key category name e ≡ true → key_eq k e ≡ true
  one_key k e h i =
      let first = alike category k.0.now name k.1.now h in
      let second = alike category e.0.now name e.1.now i in
      rw (sym first.0, sym first.1, sym second.0, sym second.1, same category, same name) refl

  inserted : (es : List (Key × Bor (List ℕ))) (key : Key) (places : Bor (List ℕ))
      → lookup (is_key category name) (insert_entry key_eq es key places) ≡ (if is_key category name key then Some places else lookup (is_key category name) es)
  inserted [] key places = refl
  inserted (e ∷ es) key places = by (key_eq key e.0) refl (inserted es key places)
    where
      by : (b : Bool) → key_eq key e.0 ≡ b → lookup (is_key category name) (insert_entry key_eq es key places) ≡ (if is_key category name key then Some places else lookup (is_key category name) es)
          → lookup (is_key category name) (if b then (e.0, places) ∷ es else e ∷ insert_entry key_eq es key places)
          ≡ (if is_key category name key then Some places else cond (is_key category name e.0) (Some e.1) (lookup (is_key category name) es))
      by true h later = rw (equal_keys key e.0 h) (here (is_key category name e.0))
        where
          here : (s : Bool) → cond s (Some places) (lookup (is_key category name) es) ≡ (if s then Some places else cond s (Some e.1) (lookup (is_key category name) es))
          here true = refl
          here false = refl
      by false h later = ap (cond (is_key category name e.0) (Some e.1)) later ∙ apart (is_key category name key) (is_key category name e.0) (λ i j. false≢true (sym h ∙ one_key key e.0 i j))
        where
          apart : (s t : Bool) → (s ≡ true → t ≡ true → ⊥)
              → cond t (Some e.1) (if s then Some places else lookup (is_key category name) es) ≡ (if s then Some places else cond t (Some e.1) (lookup (is_key category name) es))
          apart true true not_both = absurd (not_both refl refl)
          apart true false not_both = refl
          apart false t not_both = refl

none_at : {X : Type 0} (test : X → Bool) (xs : List X) (n : ℕ) → list_any test xs ≡ false → places_from n test xs ≡ []
none_at test [] n h = refl
none_at test (x ∷ xs) n h = by (test x) h (none_at test xs (n + 1))
  where
    by : (b : Bool) → (b || list_any test xs) ≡ false → (list_any test xs ≡ false → places_from (n + 1) test xs ≡ [])
        → (if b then n ∷ places_from (n + 1) test xs else places_from (n + 1) test xs) ≡ []
    by true i later = absurd (false≢true (sym i))
    by false i later = later i

module _ {X : Type 0} (is_of : (category name : List ℕ) → X → Bool) where
  -- the map has the places of each category and name of which an item came
  abbrev pub Holds : List (Key × Bor (List ℕ)) → (came items : List X) → Type 0
  Holds entries came items =
      (category name : List ℕ) → places_at entries category name ≡ (if list_any (is_of category name) came then places_of (is_of category name) items else [])

  pub one_more : (first second : List ℕ) (es fs : List (Key × Bor (List ℕ))) (items : List X) (i : ℕ) (x : X) (key : Key) (places : Bor (List ℕ))
      → ((category name : List ℕ) → (bytes_eq category first && bytes_eq name second) ≡ is_of category name x)
      → i < length items → x ≡ get_or items i x → key.0.now ≡ first → key.1.now ≡ second → places.now ≡ places_of (is_of first second) items
      → fs ≡ insert_entry key_eq es key places → Holds es (take i items) items → Holds fs (take (i + 1) items) items
  one_more first second es fs items i x key places keyed lt is at_first at_second all more holds category name =
      rw (more, inserted category name es key places, at_first, at_second, keyed category name, list_any_more (is_of category name) items i x lt, sym is)
      (by (is_of category name x) (keyed category name) (list_any (is_of category name) (take i items)) (holds category name))
    where
      by : (b : Bool) → (bytes_eq category first && bytes_eq name second) ≡ b → (came : Bool) → places_at es category name ≡ (if came then places_of (is_of category name) items else [])
          → option_map_or (λ (ps : Bor (List ℕ)). ps.now) (if b then Some places else lookup (is_key category name) es) [] ≡ (if came || b then places_of (is_of category name) items else [])
      by true h came before = all ∙ rw (sym each.0, sym each.1) (either came)
        where
          each : (category ≡ first) × (name ≡ second)
          each = alike category first name second h

          either : (s : Bool) → places_of (is_of category name) items ≡ (if s || true then places_of (is_of category name) items else [])
          either true = refl
          either false = refl
      by false h true before = before
      by false h false before = before

  pub all_came : (es : List (Key × Bor (List ℕ))) (items : List X) → Holds es items items → HasPlaces is_of es items
  all_came es items holds category name = holds category name ∙ by (list_any (is_of category name) items) refl
    where
      by : (b : Bool) → list_any (is_of category name) items ≡ b → (if b then places_of (is_of category name) items else []) ≡ places_of (is_of category name) items
      by true h = refl
      by false h = sym (none_at (is_of category name) items 0 h)

flipped : (a b : List ℕ) → bytes_eq a b ≡ bytes_eq b a
flipped a b = two (bytes_eq a b) (bytes_eq b a) (turned a b) (turned b a)
  where
    turned : (c d : List ℕ) → bytes_eq c d ≡ true → bytes_eq d c ≡ true
    turned c d h = (bytes_eq-Decides d c).1 (sym (same_text c d (sym h)))

    two : (s t : Bool) → (s ≡ true → t ≡ true) → (t ≡ true → s ≡ true) → s ≡ t
    two true t f g = sym (f refl)
    two false true f g = absurd (false≢true (g refl))
    two false false f g = refl

pub mask_keyed : (m : Mask) (category name : List ℕ) → (bytes_eq category m.atom.category && bytes_eq name m.atom.name) ≡ is_mask_of category name m
mask_keyed m category name = rw (flipped category m.atom.category, flipped name m.atom.name) refl
