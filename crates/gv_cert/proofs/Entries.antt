-- What an entry that is written, or comes, does to the numbers of an index; and the numbers of records with one more.
use Rattle.std.proofs.Common.{◌≡◌, ℕ, ◌+◌, Bool, true, false, cond, List, [], ◌∷◌, ◌++◌, length, Some, None, refl, sym, ap, subst, ◌∙◌, arith}
use Rattle.std.specs.Prelude.{Option, Result, Ok, Err, OnErr, unwrap_or, if◌then◌else◌}
use Rattle.std.proofs.lemmas.Bool.{eqb-true, false≢true}
use Rattle.std.proofs.lemmas.Map.Text.{is_eq-slice_cmp}
use Rattle.std.proofs.lemmas.Slice.Eq.{bytes_eq-Decides}
use Rattle.std.specs.BTreeMap.{insert_entry, is_at}
use Rattle.std.specs.Cmp.{nat_cmp_is, unsigned_tied}
use Rattle.std.specs.Cmp.Lexicographic.{same_text}
use Rattle.std.specs.declared.cmp.Ordering.{Ordering}
use Rattle.std.specs.declared.cmp.Ordering.TheVariants.{Less, Equal, Greater}
use Rattle.std.specs.Map.{lookup, set_value}
use Rattle.std.specs.Option.{option_map_or}
use Rattle.std.specs.Ordering.{is_eq, match_ordering, nat_cmp}
use Rattle.std.specs.Str.{bytes_eq}
use Rattle.gv_base.specs.ByteMap.{Bytes, key_cmp, has_bytes}
use Rattle.gv_base.specs.Order.{byte_cmp}
use Rattle.gv_cert.specs.Index.{hash_of, numbers_among, numbers_from, numbers_of}
use Rattle.gv_cert.specs.declared.index.Alike.{Alike}
use Rattle.gv_cert.specs.Known.{KnownRecord}

has_bytes_eq : (q : List ℕ) (k : Bytes) → has_bytes q k ≡ bytes_eq q k.items
has_bytes_eq q k = is_eq-slice_cmp q k.items

-- a key that equals one text equals another where the texts are equal
other_key : (q key : List ℕ) (k : Bytes) → has_bytes key k ≡ true → has_bytes q k ≡ bytes_eq q key
other_key q key k hit =
    has_bytes_eq q k ∙ ap (bytes_eq q) (sym (same_text key k.items (sym hit ∙ has_bytes_eq key k)))

module _ {X : Type 0} where
  -- one key has a value now, and the others have theirs
  abbrev pub Sets : (es fs : List (Bytes × X)) → (key : List ℕ) → X → Type 0
  Sets es fs key w = (q : List ℕ) → lookup (has_bytes q) fs ≡ (if bytes_eq q key then Some w else lookup (has_bytes q) es)

  set_sets : (es : List (Bytes × X)) (key : List ℕ) (w old : X) → lookup (has_bytes key) es ≡ Some old → Sets es (set_value (has_bytes key) es w) key w
  set_sets [] key w old there q = absurd cc
  set_sets (e ∷ es) key w old there q = by (has_bytes key e.0) refl (λ h. set_sets es key w old h q)
    where
      by : (b : Bool) → has_bytes key e.0 ≡ b → (lookup (has_bytes key) es ≡ Some old → lookup (has_bytes q) (set_value (has_bytes key) es w) ≡ (if bytes_eq q key then Some w else lookup (has_bytes q) es))
          → lookup (has_bytes q) (cond b ((e.0, w) ∷ es) (e ∷ set_value (has_bytes key) es w)) ≡ (if bytes_eq q key then Some w else lookup (has_bytes q) (e ∷ es))
      by true hit later = rw (other_key q key e.0 hit) (here (bytes_eq q key))
        where
          here : (s : Bool) → cond s (Some w) (lookup (has_bytes q) es) ≡ (if s then Some w else cond s (Some e.1) (lookup (has_bytes q) es))
          here true = refl
          here false = refl
      by false miss later = there_or (has_bytes q e.0) refl (later (rw miss at there))
        where
          there_or : (s : Bool) → has_bytes q e.0 ≡ s → lookup (has_bytes q) (set_value (has_bytes key) es w) ≡ (if bytes_eq q key then Some w else lookup (has_bytes q) es)
              → cond s (Some e.1) (lookup (has_bytes q) (set_value (has_bytes key) es w)) ≡ (if bytes_eq q key then Some w else cond s (Some e.1) (lookup (has_bytes q) es))
          there_or true h l = rw (apart (bytes_eq q key) refl) refl
            where
              apart : (s : Bool) → bytes_eq q key ≡ s → s ≡ false
              apart true f = absurd (false≢true (sym miss ∙ (ap (λ z. has_bytes z e.0) (sym (same_text q key (sym f))) ∙ h)))
              apart false f = refl
          there_or false h l = l

  insert_sets : (es : List (Bytes × X)) (k : Bytes) (w : X) → Sets es (insert_entry key_cmp es k w) k.items w
  insert_sets [] k w q = rw (has_bytes_eq q k) (here (bytes_eq q k.items))
    where
      here : (s : Bool) → cond s (Some w) None ≡ (if s then Some w else None)
      here true = refl
      here false = refl
  insert_sets (e ∷ es) k w q = by (byte_cmp k.items e.0.items) refl (insert_sets es k w q)
    where
      at_front : (s : Bool) (o : Option X) → cond s (Some w) o ≡ (if s then Some w else o)
      at_front true o = refl
      at_front false o = refl

      by : (o : Ordering) → byte_cmp k.items e.0.items ≡ o → lookup (has_bytes q) (insert_entry key_cmp es k w) ≡ (if bytes_eq q k.items then Some w else lookup (has_bytes q) es)
          → lookup (has_bytes q) (match_ordering o ((k, w) ∷ e ∷ es) ((e.0, w) ∷ es) (e ∷ insert_entry key_cmp es k w)) ≡ (if bytes_eq q k.items then Some w else lookup (has_bytes q) (e ∷ es))
      by Less is later = rw (has_bytes_eq q k) (at_front (bytes_eq q k.items) (lookup (has_bytes q) (e ∷ es)))
      by Equal is later = rw (other_key q k.items e.0 (ap is_eq is)) (here (bytes_eq q k.items))
        where
          here : (s : Bool) → cond s (Some w) (lookup (has_bytes q) es) ≡ (if s then Some w else cond s (Some e.1) (lookup (has_bytes q) es))
          here true = refl
          here false = refl
      by Greater is later = there_or (has_bytes q e.0) refl later
        where
          there_or : (s : Bool) → has_bytes q e.0 ≡ s → lookup (has_bytes q) (insert_entry key_cmp es k w) ≡ (if bytes_eq q k.items then Some w else lookup (has_bytes q) es)
              → cond s (Some e.1) (lookup (has_bytes q) (insert_entry key_cmp es k w)) ≡ (if bytes_eq q k.items then Some w else cond s (Some e.1) (lookup (has_bytes q) es))
          there_or true h l = rw (apart (bytes_eq q k.items) refl) refl
            where
              apart : (s : Bool) → bytes_eq q k.items ≡ s → s ≡ false
              apart true f = absurd (false≢true (sym (ap is_eq is) ∙ (ap (λ z. has_bytes z e.0) (sym (same_text q k.items (sym f))) ∙ h)))
              apart false f = refl
          there_or false h l = l

  -- what an entry was written through
  pub set_entry : (es fs : List (Bytes × X)) (key : List ℕ) (w old : X) → lookup (has_bytes key) es ≡ Some old → fs ≡ set_value (has_bytes key) es w → Sets es fs key w
  set_entry es fs key w old there is = subst (λ xs. Sets es xs key w) (sym is) (set_sets es key w old there)

  -- what an entry came to
  pub new_entry : (es fs : List (Bytes × X)) (key : List ℕ) (k : Bytes) (w : X) → fs ≡ insert_entry key_cmp es k w → k.items ≡ key → Sets es fs key w
  new_entry es fs key k w is same =
      subst (λ bytes. Sets es fs bytes w) same (subst (λ xs. Sets es xs k.items w) (sym is) (insert_sets es k w))

  -- at the key itself
  at_key : (es : List (Bytes × X)) (q key : List ℕ) → bytes_eq q key ≡ true → lookup (has_bytes q) es ≡ lookup (has_bytes key) es
  at_key es q key same = ap (λ z. lookup (has_bytes z) es) (same_text q key (sym same))

pub number_added : (es fs : List (Bytes × List ℕ)) (key numbers : List ℕ) (n : ℕ) → unwrap_or (lookup (has_bytes key) es) [] ≡ numbers → Sets es fs key (numbers ++ n ∷ [])
    → (q : List ℕ) → unwrap_or (lookup (has_bytes q) fs) [] ≡ (if bytes_eq q key then unwrap_or (lookup (has_bytes q) es) [] ++ n ∷ [] else unwrap_or (lookup (has_bytes q) es) [])
number_added es fs key numbers n were sets q = ap (λ o. unwrap_or o []) (sets q) ∙ by (bytes_eq q key) refl
  where
    by : (s : Bool) → bytes_eq q key ≡ s → unwrap_or (if s then Some (numbers ++ n ∷ []) else lookup (has_bytes q) es) [] ≡ (if s then unwrap_or (lookup (has_bytes q) es) [] ++ n ∷ [] else unwrap_or (lookup (has_bytes q) es) [])
    by true same = ap (λ ps. ps ++ n ∷ []) (sym were ∙ ap (λ o. unwrap_or o []) (sym (at_key es q key same)))
    by false same = refl

pub numbers_kept : (es fs : List (Bytes × List ℕ)) (key numbers : List ℕ) → unwrap_or (lookup (has_bytes key) es) [] ≡ numbers → Sets es fs key numbers
    → (q : List ℕ) → unwrap_or (lookup (has_bytes q) fs) [] ≡ unwrap_or (lookup (has_bytes q) es) []
numbers_kept es fs key numbers were sets q = ap (λ o. unwrap_or o []) (sets q) ∙ by (bytes_eq q key) refl
  where
    by : (s : Bool) → bytes_eq q key ≡ s → unwrap_or (if s then Some numbers else lookup (has_bytes q) es) [] ≡ unwrap_or (lookup (has_bytes q) es) []
    by true same = sym were ∙ ap (λ o. unwrap_or o []) (sym (at_key es q key same))
    by false same = refl

-- The queries of a hash.
abbrev pub numbers_kept_in : Option Alike → List ℕ → List ℕ
numbers_kept_in alike query = option_map_or (λ (a : Alike). numbers_among a query) alike []

equal_bytes : (x : List ℕ) → bytes_eq x x ≡ true
equal_bytes x = (bytes_eq-Decides x x).1 refl

abbrev pub At : List (ℕ × Alike) → ℕ → Option Alike
At es n = lookup (is_at (nat_cmp n)) es

module _ (es fs : List (ℕ × Alike)) (query : List ℕ) (alike : Alike) (sets : (n : ℕ) → At fs n ≡ cond (is_at (nat_cmp (hash_of query)) n) (Some alike) (At es n)) where
  -- a query of another hash is another query
  of_hash : (q : List ℕ) → is_at (nat_cmp (hash_of query)) (hash_of q) ≡ false → bytes_eq q query ≡ false
  of_hash q other = by (bytes_eq q query) refl
    where
      by : (s : Bool) → bytes_eq q query ≡ s → s ≡ false
      by true same = absurd (false≢true (sym other ∙ (ap (λ z. is_at (nat_cmp (hash_of query)) (hash_of z)) (same_text q query (sym same)) ∙ ap is_eq (sym (nat_cmp_is (hash_of query) (hash_of query) Equal refl)))))
      by false is = refl

  same_hash : (q : List ℕ) → is_at (nat_cmp (hash_of query)) (hash_of q) ≡ true → hash_of query ≡ hash_of q
  same_hash q same = eqb-true (hash_of query) (hash_of q) (sym (unsigned_tied (hash_of query) (hash_of q)) ∙ same)

  pub hash_added : (number : ℕ)
      → ((q : List ℕ) → numbers_among alike q ≡ (if bytes_eq q query then numbers_kept_in (At es (hash_of query)) q ++ number ∷ [] else numbers_kept_in (At es (hash_of query)) q))
      → (q : List ℕ) → numbers_kept_in (At fs (hash_of q)) q
      ≡ (if bytes_eq q query then numbers_kept_in (At es (hash_of q)) q ++ number ∷ [] else numbers_kept_in (At es (hash_of q)) q)
  hash_added number added q = ap (λ o. numbers_kept_in o q) (sets (hash_of q)) ∙ by (is_at (nat_cmp (hash_of query)) (hash_of q)) refl
    where
      by : (s : Bool) → is_at (nat_cmp (hash_of query)) (hash_of q) ≡ s → numbers_kept_in (cond s (Some alike) (At es (hash_of q))) q
          ≡ (if bytes_eq q query then numbers_kept_in (At es (hash_of q)) q ++ number ∷ [] else numbers_kept_in (At es (hash_of q)) q)
      by true same = added q ∙ ap (λ h. if bytes_eq q query then numbers_kept_in (At es h) q ++ number ∷ [] else numbers_kept_in (At es h) q) (same_hash q same)
      by false other = rw (of_hash q other) refl

pub on_err : {T E P : Type 0} (r : Result T E) → P → OnErr r P
on_err (Ok x) p = tt
on_err (Err e) p = p

-- One more record.

from_more : (query : List ℕ) (r : KnownRecord) (rs : List KnownRecord) (n : ℕ)
    → numbers_from n query (rs ++ r ∷ []) ≡ (if bytes_eq query r.query then numbers_from n query rs ++ (n + length rs) ∷ [] else numbers_from n query rs)
from_more query r [] n = by (bytes_eq query r.query)
  where
    zero_more : n ≡ n + 0
    zero_more = omega arith

    by : (b : Bool) → (if b then n ∷ [] else []) ≡ (if b then (n + 0) ∷ [] else [])
    by true = ap (λ k. k ∷ []) zero_more
    by false = refl
from_more query r (x ∷ xs) n = by (bytes_eq query x.query) (bytes_eq query r.query) (from_more query r xs (n + 1))
  where
    one_more : n + 1 + length xs ≡ n + length (x ∷ xs)
    one_more = omega arith

    by : (b s : Bool) → numbers_from (n + 1) query (xs ++ r ∷ []) ≡ (if s then numbers_from (n + 1) query xs ++ (n + 1 + length xs) ∷ [] else numbers_from (n + 1) query xs)
        → (if b then n ∷ numbers_from (n + 1) query (xs ++ r ∷ []) else numbers_from (n + 1) query (xs ++ r ∷ []))
        ≡ (if s then (if b then n ∷ numbers_from (n + 1) query xs else numbers_from (n + 1) query xs) ++ (n + length (x ∷ xs)) ∷ [] else (if b then n ∷ numbers_from (n + 1) query xs else numbers_from (n + 1) query xs))
    by true true h = ap (λ ns. n ∷ ns) (h ∙ ap (λ k. numbers_from (n + 1) query xs ++ k ∷ []) one_more)
    by true false h = ap (λ ns. n ∷ ns) h
    by false true h = h ∙ ap (λ k. numbers_from (n + 1) query xs ++ k ∷ []) one_more
    by false false h = h

pub numbers_more : (query : List ℕ) (r : KnownRecord) (rs : List KnownRecord) (old new : List ℕ) (n : ℕ) → n ≡ length rs → old ≡ numbers_of query rs
    → new ≡ (if bytes_eq query r.query then old ++ n ∷ [] else old) → new ≡ numbers_of query (rs ++ r ∷ [])
numbers_more query r rs old new n many were is =
    is ∙ rw (were, many, zero_less) (sym (from_more query r rs 0))
  where
    zero_less : length rs ≡ 0 + length rs
    zero_less = omega arith
