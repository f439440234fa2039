-- An ordered tree whose keys are bytes, seen as a finite map, at any type of values: what a look-up, an insertion and a
-- removal of the tree do to the map, and which keys and entries it has.
use Rattle.std.proofs.Common.{◌≡◌, ℕ, List, [], ◌∷◌, Bool, true, false, cond, ◌&&◌, T, length, arith, map, Some, None, refl, sym, ap, subst, ◌∙◌}
use Rattle.std.specs.declared.cmp.Ordering.{Ordering}
use Rattle.std.specs.declared.cmp.Ordering.TheVariants.{Less, Equal, Greater}
use Rattle.std.specs.Map.{lookup, remove_entry, keys_of}
use Rattle.std.specs.List.{AllByRecursion}
use Rattle.std.specs.List.Sorted.{IsStrictlySortedBy}
use Rattle.std.proofs.lemmas.Map.Keys.{sorted_head, sorted_tail}
use Rattle.std.specs.BTreeMap.{insert_entry}
use Rattle.std.specs.Ordering.{eq_by_cmp, is_eq, is_lt, match_ordering}
use Rattle.std.specs.Cmp.Lexicographic.{nat_list_cmp_total}
use Rattle.std.specs.Prelude.{Option}
use Rattle.std.specs.FinMap.{get-empty, get, insert, remove, from_entries, entries, entries-insert, keys, empty, get-from_entries, get-insert, get-remove, len-empty, len-entries, same_map}
use Rattle.std.specs.FinMap.Entries.{find, put, by_order, find-put, below_all, is_sorted}
use Rattle.std.proofs.lemmas.Map.Lookups.{exact_bytes}
use Rattle.gv_base.specs.Order.{byte_cmp}
use Rattle.gv_base.specs.Laws.{MapLaw}
pub use Rattle.gv_base.specs.ByteMap.{ByteMap, Bytes, key_cmp, has_bytes, seen_entry, map_of, put_each}

both : (a b : Bool) → T a → T b → T (a && b)
both true b p q = q
both false b p q = p

first : (a b : Bool) → T (a && b) → T a
first true b p = tt
first false b p = p

second : (a b : Bool) → T (a && b) → T b
second true b p = p
second false b p = absurd p

less : (o : Ordering) → T (is_lt o) → o ≡ Less
less Less p = refl
less Equal p = absurd p
less Greater p = absurd p

equal : (o : Ordering) → is_eq o ≡ true → o ≡ Equal
equal Less h = cc
equal Equal h = refl
equal Greater h = cc

no_length : {A : Type 0} (es : List A) → length es ≡ 0 → es ≡ []
no_length [] e = refl
no_length (x ∷ es) e = absurd (omega arith)

module _ {X : Type 0} where
  find_seen : (es : List (Bytes × X)) (q : List ℕ) → find byte_cmp q (map seen_entry es) ≡ lookup (has_bytes q) es
  find_seen [] q = refl
  find_seen (e ∷ es) q =
      elim (eq_by_cmp byte_cmp q e.0.items) as (λ b. cond b (Some e.1) (find byte_cmp q (map seen_entry es)) ≡ cond b (Some e.1) (lookup (has_bytes q) es)) [ true ↦ refl | false ↦ find_seen es q ]

  -- what the map has at a key
  pub get-map_of : (es : List (Bytes × X)) (q : List ℕ) → get (map_of es) q ≡ lookup (has_bytes q) es
  get-map_of es q = get-from_entries nat_list_cmp_total (map seen_entry es) q ∙ find_seen es q

  put_seen : (es : List (Bytes × X)) (k : Bytes) (v : X) → map seen_entry (insert_entry key_cmp es k v) ≡ put byte_cmp k.items v (map seen_entry es)
  put_seen [] k v = refl
  put_seen (e ∷ es) k v =
      elim (byte_cmp k.items e.0.items) as (λ o. map seen_entry (match_ordering o ((k, v) ∷ e ∷ es) ((e.0, v) ∷ es) (e ∷ insert_entry key_cmp es k v)) ≡ by_order o ((k.items, v) ∷ map seen_entry (e ∷ es)) ((e.0.items, v) ∷ map seen_entry es) (seen_entry e ∷ put byte_cmp k.items v (map seen_entry es))) [
        | Less ↦ refl
        | Equal ↦ refl
        | Greater ↦ ap (λ xs. seen_entry e ∷ xs) (put_seen es k v)
      ]

  -- an insertion sets one key
  pub map_of-insert_entry : (es : List (Bytes × X)) (k : Bytes) (v : X) → map_of (insert_entry key_cmp es k v) ≡ insert (map_of es) k.items v
  map_of-insert_entry es k v = same_map nat_list_cmp_total exact_bytes _ _ (λ q.
      get-from_entries nat_list_cmp_total _ q ∙ ap (find byte_cmp q) (put_seen es k v) ∙ find-put byte_cmp nat_list_cmp_total q k.items v (map seen_entry es)
      ∙ sym (get-insert nat_list_cmp_total (map_of es) k.items v q ∙ ap (cond (eq_by_cmp byte_cmp q k.items) (Some v)) (get-from_entries nat_list_cmp_total (map seen_entry es) q)))

  -- a test of other bytes finds what it found
  lookup_other : (es : List (Bytes × X)) (p q : List ℕ) → eq_by_cmp byte_cmp q p ≡ false → lookup (has_bytes q) (remove_entry (has_bytes p) es) ≡ lookup (has_bytes q) es
  lookup_other [] p q h = refl
  lookup_other (e ∷ es) p q h =
      elim (eq_by_cmp byte_cmp p e.0.items) as (λ b. eq_by_cmp byte_cmp p e.0.items ≡ b → lookup (has_bytes q) (cond b es (e ∷ remove_entry (has_bytes p) es)) ≡ cond (has_bytes q e.0) (Some e.1) (lookup (has_bytes q) es)) [
        | true ↦ λ hit.
            let same : p ≡ e.0.items = exact_bytes p e.0.items (equal _ hit) in
            rw (subst (λ (x : List ℕ). eq_by_cmp byte_cmp q x ≡ false) same h) refl
        | false ↦ λ _. ap (cond (has_bytes q e.0) (Some e.1)) (lookup_other es p q h)
      ] refl

  -- a removal takes one key away
  pub map_of-remove_entry : (es fs : List (Bytes × X)) (p : List ℕ) → fs ≡ remove_entry (has_bytes p) es → lookup (has_bytes p) fs ≡ None → map_of fs ≡ remove (map_of es) p
  map_of-remove_entry es fs p is none = same_map nat_list_cmp_total exact_bytes _ _ (λ q.
      get-map_of fs q
      ∙ (elim (eq_by_cmp byte_cmp q p) as (λ b. eq_by_cmp byte_cmp q p ≡ b → lookup (has_bytes q) fs ≡ cond b None (get (map_of es) q)) [
        | true ↦ λ hit. let same : q ≡ p = exact_bytes q p (equal _ hit) in ap (λ x. lookup (has_bytes x) fs) same ∙ none
        | false ↦ λ miss. ap (lookup (has_bytes q)) is ∙ lookup_other es p q miss ∙ sym (get-map_of es q)
      ] refl)
      ∙ sym (get-remove nat_list_cmp_total (map_of es) p q))

  pub no_entries : entries (empty {X = X} {R = byte_cmp}) ≡ []
  no_entries = no_length _ (sym (len-entries _) ∙ len-empty byte_cmp X)

  keys_seen : (es : List (Bytes × X)) → map (λ (e : List ℕ × X). e.0) (map seen_entry es) ≡ map (λ (k : Bytes). k.items) (keys_of es)
  keys_seen [] = refl
  keys_seen (e ∷ es) = ap (λ xs. e.0.items ∷ xs) (keys_seen es)

  below_all_seen : (x : Bytes) (es : List (Bytes × X)) → AllByRecursion (λ y. key_cmp x y ≡ Less) (keys_of es) → T (below_all byte_cmp x.items (map seen_entry es))
  below_all_seen x [] h = tt
  below_all_seen x (e ∷ es) h = rw h.0 (below_all_seen x es h.1)

  is_sorted_seen : (es : List (Bytes × X)) → IsStrictlySortedBy key_cmp (keys_of es) → T (is_sorted byte_cmp (map seen_entry es))
  is_sorted_seen [] h = tt
  is_sorted_seen (e ∷ es) h =
      both _ _ (below_all_seen e.0 es (sorted_head key_cmp e.0 (keys_of es) h)) (is_sorted_seen es (sorted_tail key_cmp e.0 (keys_of es) h))

  first_put : (k : List ℕ) (v : X) (es : List (List ℕ × X)) → T (below_all byte_cmp k es) → put byte_cmp k v es ≡ (k, v) ∷ es
  first_put k v [] h = refl
  first_put k v (e ∷ es) h = rw (less (byte_cmp k e.0) (first _ _ h)) refl

  entries_sorted : (es : List (List ℕ × X)) → T (is_sorted byte_cmp es) → entries (from_entries {R = byte_cmp} es) ≡ es
  entries_sorted [] h = no_entries
  entries_sorted (e ∷ es) h =
      entries-insert nat_list_cmp_total (from_entries es) e.0 e.1
      ∙ ap (put byte_cmp e.0 e.1) (entries_sorted es (second _ _ h))
      ∙ first_put e.0 e.1 es (first _ _ h)

  -- the entries of the map are those of the tree, in its order
  pub entries-map_of : (es : List (Bytes × X)) → IsStrictlySortedBy key_cmp (keys_of es) → entries (map_of es) ≡ map seen_entry es
  entries-map_of es h = entries_sorted (map seen_entry es) (is_sorted_seen es h)

  -- and so are its keys
  pub keys-map_of : (es : List (Bytes × X)) → IsStrictlySortedBy key_cmp (keys_of es) → keys (map_of es) ≡ map (λ (k : Bytes). k.items) (keys_of es)
  keys-map_of es h = ap (map (λ (e : List ℕ × X). e.0)) (entries-map_of es h) ∙ keys_seen es

  abbrev or_else : Option X → Option X → Option X
  or_else (Some x) o = Some x
  or_else None o = o

  find_none : (k : List ℕ) (es : List (List ℕ × X)) → T (below_all byte_cmp k es) → find byte_cmp k es ≡ None
  find_none k [] h = refl
  find_none k (e ∷ es) h = rw (less (byte_cmp k e.0) (first _ _ h)) (find_none k es (second _ _ h))

  get-put_each : (m : ByteMap X) (es : List (List ℕ × X)) (q : List ℕ) → T (is_sorted byte_cmp es) → get (put_each m es) q ≡ or_else (find byte_cmp q es) (get m q)
  get-put_each m [] q h = refl
  get-put_each m (e ∷ es) q h =
      get-put_each (insert m e.0 e.1) es q (second _ _ h)
      ∙ ap (or_else (find byte_cmp q es)) (get-insert nat_list_cmp_total m e.0 e.1 q)
      ∙ (elim (eq_by_cmp byte_cmp q e.0) as (λ b. eq_by_cmp byte_cmp q e.0 ≡ b → or_else (find byte_cmp q es) (cond b (Some e.1) (get m q)) ≡ or_else (cond b (Some e.1) (find byte_cmp q es)) (get m q)) [
        | true ↦ λ hit. let same : q ≡ e.0 = exact_bytes q e.0 (equal _ hit) in ap (λ o. or_else o (Some e.1)) (ap (λ k. find byte_cmp k es) same ∙ find_none e.0 es (first _ _ h))
        | false ↦ λ miss. refl
      ] refl)

  or_nothing : (o : Option X) → or_else o None ≡ o
  or_nothing (Some x) = refl
  or_nothing None = refl

  -- the entries of a tree, put one after another, give its map again
  pub put_each-map_of : (es : List (Bytes × X)) → IsStrictlySortedBy key_cmp (keys_of es) → put_each empty (map seen_entry es) ≡ map_of es
  put_each-map_of es h = same_map nat_list_cmp_total exact_bytes _ _ (λ q.
      get-put_each empty (map seen_entry es) q (is_sorted_seen es h)
      ∙ ap (or_else (find byte_cmp q (map seen_entry es))) (get-empty byte_cmp q)
      ∙ or_nothing _
      ∙ sym (get-from_entries nat_list_cmp_total (map seen_entry es) q))

  pub map_law : MapLaw X
  map_law =
      record {
        get = get-map_of;
        insert = map_of-insert_entry;
        remove = map_of-remove_entry;
        entries = entries-map_of;
        keys = keys-map_of;
        again = put_each-map_of;
      }
