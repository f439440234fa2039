-- Files that are joined, and when they are too large.
use Rattle.std.proofs.Common.{◌≡◌, ◌<◌, ◌≤◌, ◌+◌, ℕ, List, [], ◌∷◌, ◌++◌, Bool, true, false, ◌||◌, length, Some, None, Err, refl, sym, ap, subst, ◌∙◌, inl, inr, ◌⊎◌, arith, length-append, append_assoc}
use Rattle.std.specs.Prelude.{Option, nat_lt, option_to_list, flat_map}
use Rattle.std.specs.List.{list_any, cons_option}
use Rattle.std.specs.FinMap.{get}
use Rattle.gv_base.specs.FileMap.{FileMap}
use Rattle.gv_base.specs.Listing.{is_folder}
use Rattle.gv_base.specs.Outside.{found_as, found_at, IsLarge}
use Rattle.gv_base.specs.declared.tree.Found.{Found}
use Rattle.gv_views.specs.Told.{IsTold, told_files, files_found, is_large, is_large_file, IsLargeFile}
use Rattle.gv_views.specs.Views.{all_files, fed, file_in, inside, joined_file}

found_list : (o : Option (List ℕ)) (b : Bool) → files_found (found_as o b) ≡ option_to_list o
found_list (Some x) b = refl
found_list None true = refl
found_list None false = refl

pub added : (told : Option FileMap) (folder path : List ℕ) (found : Found) (old new : List (List ℕ)) → (IsTold told → found ≡ found_at (told_files told) (inside folder path)) → new ≡ old ++ files_found found
    → IsTold told → new ≡ old ++ option_to_list (file_in (told_files told) folder path)
added told folder path found old new is e t =
    e ∙ ap (λ xs. old ++ xs) (ap files_found (is t) ∙ found_list (get (told_files told) (inside folder path)) (is_folder (told_files told) (inside folder path)))

pub too_large : (told : Option FileMap) (folder path : List ℕ) → (IsTold told → IsLarge 16777216 (told_files told) (inside folder path)) → IsTold told → IsLargeFile (file_in (told_files told) folder path)
too_large told folder path large t = large t

cons_list : {X : Type 0} (o : Option X) (xs : List X) → cons_option o xs ≡ option_to_list o ++ xs
cons_list None xs = refl
cons_list (Some x) xs = refl

pub one_more : (m : FileMap) (folder path : List ℕ) (folders files new all : List (List ℕ)) → new ≡ files ++ option_to_list (file_in m folder path) → files ++ all_files m (folder ∷ folders) path ≡ all → new ++ all_files m folders path ≡ all
one_more m folder path folders files new all e on =
    ap (λ xs. xs ++ all_files m folders path) e ∙ (append_assoc files (option_to_list (file_in m folder path)) (all_files m folders path)
    ∙ (ap (λ xs. files ++ xs) (sym (cons_list (file_in m folder path) (all_files m folders path))) ∙ on))

any_behind : (xs ys : List (List ℕ)) → list_any is_large ys ≡ true → list_any is_large (xs ++ ys) ≡ true
any_behind [] ys h = h
any_behind (x ∷ xs) ys h = by (is_large x) (any_behind xs ys h)
  where
    by : (t : Bool) → list_any is_large (xs ++ ys) ≡ true → (t || list_any is_large (xs ++ ys)) ≡ true
    by true r = refl
    by false r = r

large_is : (bytes : List ℕ) → 16777216 < length bytes → is_large bytes ≡ true
large_is bytes lt = grind (arith, lt)

pub one_large : (m : FileMap) (folder path : List ℕ) (folders files all : List (List ℕ)) → IsLargeFile (file_in m folder path) → files ++ all_files m (folder ∷ folders) path ≡ all → list_any is_large all ≡ true
one_large m folder path folders files all large on =
    let e : all_files m (folder ∷ folders) path ≡ large.0 ∷ all_files m folders path = ap (λ o. cons_option o (all_files m folders path)) large.1 in
    let here : list_any is_large (large.0 ∷ all_files m folders path) ≡ true = rw (large_is large.0 large.2) refl in
    subst (λ (xs : List (List ℕ)). list_any is_large xs ≡ true) on (any_behind files (all_files m (folder ∷ folders) path) (rw e here))

-- what a list of files comes to where one of them is too large
fed_long : (xs : List (List ℕ)) → list_any is_large xs ≡ true → 16777216 < length (fed xs)
fed_long [] h = cc
fed_long (x ∷ xs) h = by (nat_lt 16777216 (length x)) refl h (fed_long xs)
  where
    len : length (fed (x ∷ xs)) ≡ (length x + 1) + length (fed xs)
    len = length-append (x ++ 10 ∷ []) (fed xs) ∙ ap (λ n. n + length (fed xs)) (length-append x (10 ∷ []))

    by : (t : Bool) → nat_lt 16777216 (length x) ≡ t → (t || list_any is_large xs) ≡ true → (list_any is_large xs ≡ true → 16777216 < length (fed xs)) → 16777216 < length (fed (x ∷ xs))
    by true is h' later = let lt : 16777216 < length x = grind (arith, is) in omega (arith, lt, len)
    by false is h' later = let more = later h' in omega (arith, more, len)

joined_large : (xs : List (List ℕ)) → list_any is_large xs ≡ true → IsLargeFile (joined_file xs)
joined_large [] h = cc
joined_large (x ∷ xs) h = (fed (x ∷ xs), refl, fed_long (x ∷ xs) h)

pub some_large : (told : Option FileMap) (first path : List ℕ) (others : List (List ℕ)) → (IsTold told → list_any is_large (all_files (told_files told) (first ∷ others) path) ≡ true) → IsTold told
    → IsLargeFile (joined_file (all_files (told_files told) (first ∷ others) path))
some_large told first path others h t = joined_large (all_files (told_files told) (first ∷ others) path) (h t)

large_file : (o : Option (List ℕ)) → is_large_file o ≡ true → IsLargeFile o
large_file None h = cc
large_file (Some x) h = (x, refl, (grind (arith, h)))

pub large_joined : (told : Option FileMap) (first path : List ℕ) (others these : List (List ℕ)) (joined : Option (List ℕ)) → (IsTold told → these ≡ all_files (told_files told) (first ∷ others) path) → joined ≡ joined_file these
    → is_large_file joined ≡ true → IsTold told → IsLargeFile (joined_file (all_files (told_files told) (first ∷ others) path))
large_joined told first path others these joined are is large t = subst IsLargeFile (is ∙ ap joined_file (are t)) (large_file joined large)

pub small_file : (o : Option (List ℕ)) → is_large_file o ≡ false → (bytes : List ℕ) → o ≡ Some bytes → length bytes ≤ 16777216
small_file None h bytes e = cc
small_file (Some x) h bytes e = let same : x ≡ bytes = cc in subst (λ (xs : List ℕ). length xs ≤ 16777216) same (grind (arith, h))
