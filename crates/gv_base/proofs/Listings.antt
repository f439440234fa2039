-- What lies below a path, from the files below it alone.
use Rattle.std.proofs.Common.{◌≡◌, ℕ, List, [], ◌∷◌, Bool, true, false, ◌||◌, cond, map, Some, None, refl, sym, ap, ◌∙◌}
use Rattle.std.specs.Prelude.{Option, MatchOption, filter}
use Rattle.std.specs.List.{list_any, filter_map, cons_option}
use Rattle.std.specs.Option.{is_some, option_map}
use Rattle.std.specs.FinMap.{entries, keys}
use Rattle.gv_base.specs.ByteMap.{seen_entry}
use Rattle.gv_base.specs.Cut.{up_to_first}
use Rattle.gv_base.specs.FileMap.{FileMap}
use Rattle.gv_base.specs.Listing.{below, next_part, is_folder, names_below, IsListing}
use Rattle.gv_base.specs.PrivateWords.{files_below}
use Rattle.gv_base.specs.Order.{in_order}
use Rattle.gv_base.proofs.ByteMaps.{Bytes}
use Rattle.gv_base.proofs.TextOrder.{ascending-distinct, in_order-ascends, in_order-ascending}

abbrev is_filled : {A : Type 0} → List A → Bool
is_filled [] = false
is_filled (x ∷ xs) = true

any_filled : {A B : Type 0} (p : B → Bool) (f : A → B) (es : List A) → is_filled (filter (λ e. p (f e)) es) ≡ list_any p (map f es)
any_filled p f [] = refl
any_filled p f (e ∷ es) = elim (p (f e)) as (λ b. is_filled (cond b (e ∷ filter (λ d. p (f d)) es) (filter (λ d. p (f d)) es)) ≡ (b || list_any p (map f es))) [ true ↦ refl | false ↦ any_filled p f es ]

filled_seen : (es : List (Bytes × List ℕ)) → is_filled es ≡ is_filled (map seen_entry es)
filled_seen [] = refl
filled_seen (e ∷ es) = refl

-- a path is a folder where there is a first file below it
pub folder_next : {R : Type 0} (files : FileMap) (path : List ℕ) (o : Option R) (shown : R → Bytes × List ℕ) (es rest : List (Bytes × List ℕ))
    → MatchOption o ((es ≡ []) × (rest ≡ [])) (λ x. es ≡ shown x ∷ rest) → map seen_entry es ≡ files_below files path → is_some o ≡ is_folder files path
folder_next files path None shown es rest next is =
    sym (ap is_filled next.0) ∙ filled_seen es ∙ ap is_filled is ∙ any_filled (λ key. is_some (below path key)) (λ (e : List ℕ × List ℕ). e.0) (entries files)
folder_next files path (Some x) shown es rest next is =
    sym (ap is_filled next) ∙ filled_seen es ∙ ap is_filled is ∙ any_filled (λ key. is_some (below path key)) (λ (e : List ℕ × List ℕ). e.0) (entries files)

no_part : (path key : List ℕ) → is_some (below path key) ≡ false → next_part path key ≡ None
no_part path key none = by (below path key) none
  where
    by : (o : Option (List ℕ)) → is_some o ≡ false → option_map (up_to_first 47) o ≡ None
    by None h = refl
    by (Some rest) h = cc

parts_kept : (path : List ℕ) (es : List (List ℕ × List ℕ)) → filter_map (λ e. next_part path e.0) (filter (λ e. is_some (below path e.0)) es) ≡ filter_map (next_part path) (map (λ e. e.0) es)
parts_kept path [] = refl
parts_kept path (e ∷ es) = by (is_some (below path e.0)) refl (parts_kept path es)
  where
    by : (b : Bool) → is_some (below path e.0) ≡ b → filter_map (λ d. next_part path d.0) (filter (λ d. is_some (below path d.0)) es) ≡ filter_map (next_part path) (map (λ d. d.0) es)
        → filter_map (λ d. next_part path d.0) (cond b (e ∷ filter (λ d. is_some (below path d.0)) es) (filter (λ d. is_some (below path d.0)) es)) ≡ cons_option (next_part path e.0) (filter_map (next_part path) (map (λ d. d.0) es))
    by true is rest = ap (cons_option (next_part path e.0)) rest
    by false is rest = rw (no_part path e.0 is) rest

filter_map-map : {A B C : Type 0} (h : B → Option C) (f : A → B) (xs : List A) → filter_map (λ x. h (f x)) xs ≡ filter_map h (map f xs)
filter_map-map h f [] = refl
filter_map-map h f (x ∷ xs) = ap (cons_option (h (f x))) (filter_map-map h f xs)

-- the next parts of the files below the path are those of all files
pub parts_below : (files : FileMap) (path : List ℕ) (es : List (Bytes × List ℕ)) → map seen_entry es ≡ files_below files path
    → filter_map (λ e. next_part path e.0.items) es ≡ filter_map (next_part path) (keys files)
parts_below files path es is =
    filter_map-map (λ (e : List ℕ × List ℕ). next_part path e.0) seen_entry es ∙ ap (filter_map (λ e. next_part path e.0)) is ∙ parts_kept path (entries files)

pub listing_names : (files : FileMap) (path : List ℕ) → IsListing files path (names_below files path)
listing_names files path =
    let parts = filter_map (next_part path) (keys files) in
    let ascends = in_order-ascends parts in
    record {
      distinct = ascending-distinct (in_order parts) ascends;
      ordered = in_order-ascending (in_order parts) ascends;
    }

pub listing_of : (files : FileMap) (path : List ℕ) (names : List (List ℕ)) → names ≡ names_below files path → IsListing files path names
listing_of files path names is = rw is (listing_names files path)
