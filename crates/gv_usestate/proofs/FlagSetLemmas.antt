-- Flags in a hash set, as they come one by one.
use Rattle.std.proofs.Common.{◌≡◌, ℕ, ◌+◌, ◌<◌, Bool, true, false, ◌||◌, List, [], ◌∷◌, ◌++◌, length, get_or, drop, drop-cons, add-one, refl, sym, ap, ◌∙◌}
use Rattle.std.specs.Prelude.{if◌then◌else◌}
use Rattle.std.specs.Borrow.{Bor}
use Rattle.std.specs.Cmp.Lexicographic.{same_text}
use Rattle.std.specs.List.{list_any}
use Rattle.std.specs.Str.{bytes_eq}
use Rattle.std.proofs.lemmas.Bool.{false≢true}
use Rattle.std.proofs.lemmas.Slice.Eq.{bytes_eq-Decides}
use Rattle.indexmap.specs.IndexSet.{insert_key}
use Rattle.gv_base.specs.ByteMap.{Bytes}
use Rattle.gv_base.specs.Order.{has_text}
use Rattle.gv_facts.specs.Places.{names_flag}
use Rattle.gv_facts.specs.declared.rules.Rule.{Rule}
use Rattle.gv_usestate.specs.FlagSets.{has_flag, has_owned}

abbrev pub key_eq : Bor (List ℕ) → Bor (List ℕ) → Bool
key_eq a b = bytes_eq a.now b.now

pub flipped : (a b : List ℕ) → bytes_eq a b ≡ bytes_eq b a
flipped a b = two (bytes_eq a b) (bytes_eq b a) (turned a b) (turned b a)
  where
    turned : (c d : List ℕ) → bytes_eq c d ≡ true → bytes_eq d c ≡ true
    turned c d h = (bytes_eq-Decides d c).1 (sym (same_text c d (sym h)))

    two : (s t : Bool) → (s ≡ true → t ≡ true) → (t ≡ true → s ≡ true) → s ≡ t
    two true t f g = sym (f refl)
    two false true f g = absurd (false≢true (g refl))
    two false false f g = refl

any_last : {A : Type 0} (test : A → Bool) (xs : List A) (x : A) → list_any test (xs ++ x ∷ []) ≡ (list_any test xs || test x)
any_last test [] x = by (test x)
  where
    by : (b : Bool) → (b || false) ≡ b
    by true = refl
    by false = refl
any_last test (y ∷ ys) x = by (test y) (any_last test ys x)
  where
    by : (b : Bool) → list_any test (ys ++ x ∷ []) ≡ (list_any test ys || test x) → (b || list_any test (ys ++ x ∷ [])) ≡ ((b || list_any test ys) || test x)
    by true h = refl
    by false h = h

drop_here : {A : Type 0} (xs : List A) (x : A) (i : ℕ) → i < length xs → x ≡ get_or xs i x → drop i xs ≡ x ∷ drop (i + 1) xs
drop_here xs x i lt here = rw add-one (drop-cons xs i x lt) ∙ ap (λ y. y ∷ drop (i + 1) xs) (sym here)

or_assoc : (a b c : Bool) → ((a || b) || c) ≡ (a || (b || c))
or_assoc true b c = refl
or_assoc false b c = refl

-- Keys of any type, and what is asked of them; keys that are the same answer alike.
module _ {K Q : Type 0} (is : Q → K → Bool) (same_key : K → K → Bool) (alike : (q : Q) (a b : K) → same_key a b ≡ true → is q a ≡ is q b) where
  abbrev has : List K → Q → Bool
  has keys q = list_any (is q) keys

  -- where a key is there already, what it stands for is there
  module _ (q : Q) (key : K) where
    already : (ks : List K) → list_any (same_key key) ks ≡ true → is q key ≡ true → has ks q ≡ true
    already [] h i = absurd (false≢true h)
    already (k ∷ ks) h i = by (same_key key k) refl h (already ks)
      where
        by : (b : Bool) → same_key key k ≡ b → (b || list_any (same_key key) ks) ≡ true → (list_any (same_key key) ks ≡ true → is q key ≡ true → has ks q ≡ true) → (is q k || has ks q) ≡ true
        by true e j later = rw (sym (alike q key k e) ∙ i) refl
        by false e j later = or_true (is q k) (later j i)
          where
            or_true : (b : Bool) {c : Bool} → c ≡ true → (b || c) ≡ true
            or_true true e = refl
            or_true false e = e

    pub one_more_key : (ks : List K) → has (insert_key same_key ks key) q ≡ (has ks q || is q key)
    one_more_key ks = by (list_any (same_key key) ks) refl (is q key) refl (already ks)
      where
        by : (b : Bool) → list_any (same_key key) ks ≡ b → (c : Bool) → is q key ≡ c → (list_any (same_key key) ks ≡ true → is q key ≡ true → has ks q ≡ true)
            → has (if b then ks else ks ++ key ∷ []) q ≡ (has ks q || is q key)
        by true e true f there = rw (f, there e f) refl
        by true e false f there = rw f (sym (or_false (has ks q)))
          where
            or_false : (b : Bool) → (b || false) ≡ b
            or_false true = refl
            or_false false = refl
        by false e c f there = any_last (is q) ks key

    -- one more item of a list, whose key it is
    one_more : {X : Type 0} (test : X → Bool) (es fs : List K) (xs : List X) (i : ℕ) (x : X) → i < length xs → x ≡ get_or xs i x → is q key ≡ test x → fs ≡ insert_key same_key es key
        → (whole : Bool) → (has es q || list_any test (drop i xs)) ≡ whole → (has fs q || list_any test (drop (i + 1) xs)) ≡ whole
    one_more test es fs xs i x lt here tells more whole on =
        ap (λ ks. has ks q || list_any test (drop (i + 1) xs)) more
        ∙ (ap (λ b. b || list_any test (drop (i + 1) xs)) (one_more_key es ∙ ap (λ b. has es q || b) tells)
        ∙ (or_assoc (has es q) (test x) (list_any test (drop (i + 1) xs))
        ∙ (sym (ap (λ l. has es q || list_any test l) (drop_here xs x i lt here)) ∙ on)))

-- an item further, where what is held is told with it
pub any_further : {X : Type 0} (test : X → Bool) (before now : Bool) (xs : List X) (i : ℕ) (x : X) → i < length xs → x ≡ get_or xs i x → now ≡ (before || test x)
    → (whole : Bool) → (before || list_any test (drop i xs)) ≡ whole → (now || list_any test (drop (i + 1) xs)) ≡ whole
any_further test before now xs i x lt here more whole on =
    ap (λ b. b || list_any test (drop (i + 1) xs)) more
    ∙ (or_assoc before (test x) (list_any test (drop (i + 1) xs))
    ∙ (sym (ap (λ l. before || list_any test l) (drop_here xs x i lt here)) ∙ on))

-- texts are asked for byte by byte
text_alike : {K : Type 0} (bytes : K → List ℕ) (q : List ℕ) (a b : K) → bytes_eq (bytes a) (bytes b) ≡ true → bytes_eq q (bytes a) ≡ bytes_eq q (bytes b)
text_alike bytes q a b e = ap (bytes_eq q) (same_text (bytes a) (bytes b) (sym e))

-- one more rule
pub one_more_rule : (es fs : List (Bor (List ℕ))) (rules : List Rule) (i : ℕ) (r : Rule) (key : Bor (List ℕ)) → i < length rules → r ≡ get_or rules i r → key.now ≡ r.flag → fs ≡ insert_key key_eq es key
    → (flag : List ℕ) (whole : Bool) → (has_flag es flag || list_any (names_flag flag) (drop i rules)) ≡ whole → (has_flag fs flag || list_any (names_flag flag) (drop (i + 1) rules)) ≡ whole
one_more_rule es fs rules i r key lt is named more flag =
    one_more (λ q (k : Bor (List ℕ)). bytes_eq q k.now) key_eq (text_alike (λ (k : Bor (List ℕ)). k.now)) flag key (names_flag flag) es fs rules i r lt is (ap (bytes_eq flag) named ∙ flipped flag r.flag) more

abbrev owned_eq : Bytes → Bytes → Bool
owned_eq a b = bytes_eq a.items b.items

-- one more flag of a list
pub one_more_flag : (es fs : List Bytes) (flags : List (List ℕ)) (i : ℕ) (f : List ℕ) (key : Bytes) → i < length flags → f ≡ get_or flags i f → key.items ≡ f → fs ≡ insert_key owned_eq es key
    → (flag : List ℕ) (whole : Bool) → (has_owned es flag || has_text (drop i flags) flag) ≡ whole → (has_owned fs flag || has_text (drop (i + 1) flags) flag) ≡ whole
one_more_flag es fs flags i f key lt is named more flag =
    one_more (λ q (k : Bytes). bytes_eq q k.items) owned_eq (text_alike (λ (k : Bytes). k.items)) flag key (bytes_eq flag) es fs flags i f lt is (ap (bytes_eq flag) named) more
