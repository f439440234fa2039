-- Laws of texts in byte order and of maps whose keys are bytes, which public functions that do nothing state.
use Rattle.std.specs.Prelude.{◌≡◌, ℕ, List, ◌||◌, map, None}
use Rattle.std.specs.Cmp.{IsTotalOrder}
use Rattle.std.specs.declared.cmp.Ordering.TheVariants.{Equal}
use Rattle.std.specs.BTreeMap.{insert_entry}
use Rattle.std.specs.BTreeSet.{insert_key}
use Rattle.std.specs.FinMap as finite
use Rattle.std.specs.List.{IsDistinct}
use Rattle.std.specs.List.Sorted.{IsStrictlySortedBy}
use Rattle.std.specs.Map.{lookup, remove_entry, keys_of}
use Rattle.std.specs.Ordering.{is_eq}
use Rattle.std.specs.Str.{bytes_eq}
use Rattle.gv_base.specs.ByteMap.{Bytes, key_cmp, has_bytes, seen_entry, map_of, put_each}
use Rattle.gv_base.specs.Order.{byte_cmp, has_text, HaveSameTexts, IsAscending, in_order}

-- byte order is total, and texts that compare as equal are one text
pub record ByteOrderLaw : Type 0 where
  pub total : IsTotalOrder byte_cmp
  pub exact : (x y : List ℕ) → byte_cmp x y ≡ Equal → x ≡ y
  pub equal : (x y : List ℕ) → is_eq (byte_cmp x y) ≡ bytes_eq x y

-- Texts in order ascend, are those that were there, and depend on these alone; of two lists that ascend and have the
-- same texts there is one, in which no text stands twice. A text that is put into a set is in it besides those that were.
pub record InOrderLaw : Type 0 where
  pub ascends : (texts : List (List ℕ)) → IsAscending (in_order texts)
  pub members : (texts : List (List ℕ)) → HaveSameTexts texts (in_order texts)
  pub same : (xs ys : List (List ℕ)) → HaveSameTexts xs ys → in_order xs ≡ in_order ys
  pub unique : (xs ys : List (List ℕ)) → IsAscending xs → IsAscending ys → HaveSameTexts xs ys → xs ≡ ys
  pub in_order_already : (texts : List (List ℕ)) → IsAscending texts → in_order texts ≡ texts
  pub distinct : (texts : List (List ℕ)) → IsAscending texts → IsDistinct bytes_eq texts
  pub put_ascends : (keys : List (List ℕ)) (key : List ℕ) → IsAscending keys → IsAscending (insert_key byte_cmp keys key)
  pub put_members : (keys : List (List ℕ)) (key text : List ℕ) → has_text (insert_key byte_cmp keys key) text ≡ (bytes_eq text key || has_text keys text)

-- What a look-up, an insertion and a removal of an ordered tree with values X do to its map; which entries and keys the
-- map has; and that its entries, put one after another, make it again.
pub record MapLaw (X : Type 0) : Type 0 where
  pub get : (es : List (Bytes × X)) (bytes : List ℕ) → finite.get (map_of es) bytes ≡ lookup (has_bytes bytes) es
  pub insert : (es : List (Bytes × X)) (key : Bytes) (value : X) → map_of (insert_entry key_cmp es key value) ≡ finite.insert (map_of es) key.items value
  pub remove : (es rest : List (Bytes × X)) (bytes : List ℕ) → rest ≡ remove_entry (has_bytes bytes) es → lookup (has_bytes bytes) rest ≡ None → map_of rest ≡ finite.remove (map_of es) bytes
  pub entries : (es : List (Bytes × X)) → IsStrictlySortedBy key_cmp (keys_of es) → finite.entries (map_of es) ≡ map seen_entry es
  pub keys : (es : List (Bytes × X)) → IsStrictlySortedBy key_cmp (keys_of es) → finite.keys (map_of es) ≡ map (λ (key : Bytes). key.items) (keys_of es)
  pub again : (es : List (Bytes × X)) → IsStrictlySortedBy key_cmp (keys_of es) → put_each finite.empty (map seen_entry es) ≡ map_of es
