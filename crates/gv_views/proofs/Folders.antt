-- What stands at a path of a map of files, by the files below it; and the files that a look-up has.
use Rattle.std.proofs.Common.{◌≡◌, ℕ, List, [], ◌∷◌, ◌++◌, Bool, true, false, ◌&&◌, ◌||◌, cond, length, take, drop, Some, None, refl, sym, ap, subst, ◌∙◌, inl, inr, ◌⊎◌, arith}
use Rattle.std.specs.Prelude.{Option, nat_eq}
use Rattle.std.specs.List.{list_any, filter_map, cons_option}
use Rattle.std.specs.Option.{is_some, option_map, option_and_then}
use Rattle.std.specs.Str.{bytes_eq}
use Rattle.std.specs.FinMap.{find, from_entries, get, get-from_entries, keys, contains_key-keys}
use Rattle.std.specs.Ordering.{eq_by_cmp}
use Rattle.std.specs.Cmp.{both_ways}
use Rattle.std.specs.Cmp.Lexicographic.{nat_list_cmp_total}
use Rattle.std.proofs.lemmas.List.{append_assoc, take-append-drop}
use Rattle.std.proofs.lemmas.Slice.Eq.{bytes_eq-Decides}
use Rattle.std.proofs.lemmas.Map.Text.{is_eq-slice_cmp}
use Rattle.std.proofs.Math.Seq.{take-append_seam, drop-append_seam}
use Rattle.std.proofs.Math.Bool.{or-true}
use Rattle.gv_base.specs.FileMap.{FileMap, byte_cmp}
use Rattle.gv_base.specs.Cut.{after_prefix, up_to_first}
use Rattle.gv_base.specs.Listing.{below, next_part, is_folder}
use Rattle.gv_base.specs.Order.{has_text}
use Rattle.gv_views.specs.Told.{parts_below}
use Rattle.gv_views.specs.Views.{entry_at, files_by, inside}

-- ---- truth values
pub or_first : (a b : Bool) → a ≡ true → (a || b) ≡ true
or_first a b h = rw h refl

pub or_second : (a b : Bool) → b ≡ true → (a || b) ≡ true
or_second a b h = rw h (or-true a)

pub or_cases : (a b : Bool) → (a || b) ≡ true → (a ≡ true) ⊎ (b ≡ true)
or_cases true b h = inl refl
or_cases false b h = inr h

-- ---- texts
pub equal_bytes : (x : List ℕ) → bytes_eq x x ≡ true
equal_bytes x = (bytes_eq-Decides x x).1 refl

pub below_inside : (path rest : List ℕ) → below path (inside path rest) ≡ Some rest
below_inside path rest = rw (take-append_seam path (47 ∷ rest), drop-append_seam path (47 ∷ rest), equal_bytes path) refl

slash : (s rest : List ℕ) → after_prefix (47 ∷ []) s ≡ Some rest → s ≡ 47 ∷ rest
slash [] rest h = cc
slash (b ∷ s) rest h = by (nat_eq b 47) refl h
  where
    by : (t : Bool) → nat_eq b 47 ≡ t → cond (t && true) (Some s) None ≡ Some rest → b ∷ s ≡ 47 ∷ rest
    by true is h' = let e : b ≡ 47 = grind arith in cc
    by false is h' = cc

pub below_is : (path key rest : List ℕ) → below path key ≡ Some rest → key ≡ inside path rest
below_is path key rest = by (bytes_eq (take (length path) key) path) refl
  where
    by : (t : Bool) → bytes_eq (take (length path) key) path ≡ t → option_and_then (after_prefix (47 ∷ [])) (cond t (Some (drop (length path) key)) None) ≡ Some rest → key ≡ inside path rest
    by true is h =
        let front : take (length path) key ≡ path = (bytes_eq-Decides _ _).0 is in
        let back : drop (length path) key ≡ 47 ∷ rest = slash (drop (length path) key) rest h in
        sym (take-append-drop (length path) key) ∙ ap (λ x. x ++ drop (length path) key) front ∙ ap (λ y. path ++ y) back
    by false is h = cc

pub inside_inside : (folder path rest : List ℕ) → inside folder (inside path rest) ≡ inside (inside folder path) rest
inside_inside folder path rest = sym (append_assoc folder (47 ∷ path) (47 ∷ rest))

-- ---- a list of texts
pub found_in : (f : List ℕ → Bool) (xs : List (List ℕ)) → list_any f xs ≡ true → (x : List ℕ) × (has_text xs x ≡ true) × (f x ≡ true)
found_in f [] h = cc
found_in f (y ∷ ys) h = by (f y) refl h (found_in f ys)
  where
    by : (t : Bool) → f y ≡ t → (t || list_any f ys) ≡ true → (list_any f ys ≡ true → (x : List ℕ) × (has_text ys x ≡ true) × (f x ≡ true)) → (x : List ℕ) × (has_text (y ∷ ys) x ≡ true) × (f x ≡ true)
    by true is h' later = (y, or_first (bytes_eq y y) (has_text ys y) (equal_bytes y), is)
    by false is h' later = let r = later h' in (r.0, or_second (bytes_eq r.0 y) (has_text ys r.0) r.1, r.2)

pub in_found : (f : List ℕ → Bool) (xs : List (List ℕ)) (x : List ℕ) → has_text xs x ≡ true → f x ≡ true → list_any f xs ≡ true
in_found f [] x h p = cc
in_found f (y ∷ ys) x h p = by (or_cases (bytes_eq x y) (has_text ys x) h) (in_found f ys x)
  where
    by : (bytes_eq x y ≡ true) ⊎ (has_text ys x ≡ true) → (has_text ys x ≡ true → f x ≡ true → list_any f ys ≡ true) → (f y || list_any f ys) ≡ true
    by (inl e) later = let same : x ≡ y = (bytes_eq-Decides x y).0 e in or_first (f y) (list_any f ys) (subst (λ (z : List ℕ). f z ≡ true) same p)
    by (inr e) later = or_second (f y) (list_any f ys) (later e p)

mapped_in : (h : List ℕ → Option (List ℕ)) (ks : List (List ℕ)) (name : List ℕ) → has_text (filter_map h ks) name ≡ true → (k : List ℕ) × (has_text ks k ≡ true) × (h k ≡ Some name)
mapped_in h [] name e = cc
mapped_in h (k ∷ ks) name e = by (h k) refl e (mapped_in h ks name)
  where
    by : (o : Option (List ℕ)) → h k ≡ o → has_text (cons_option o (filter_map h ks)) name ≡ true → (has_text (filter_map h ks) name ≡ true → (j : List ℕ) × (has_text ks j ≡ true) × (h j ≡ Some name)) → (j : List ℕ) × (has_text (k ∷ ks) j ≡ true) × (h j ≡ Some name)
    by None is e' later = let r = later e' in (r.0, or_second (bytes_eq r.0 k) (has_text ks r.0) r.1, r.2)
    by (Some x) is e' later = here (or_cases (bytes_eq name x) (has_text (filter_map h ks) name) e') is later
      where
        here : (bytes_eq name x ≡ true) ⊎ (has_text (filter_map h ks) name ≡ true) → h k ≡ Some x → (has_text (filter_map h ks) name ≡ true → (j : List ℕ) × (has_text ks j ≡ true) × (h j ≡ Some name)) → (j : List ℕ) × (has_text (k ∷ ks) j ≡ true) × (h j ≡ Some name)
        here (inl same) at more = let e2 : name ≡ x = (bytes_eq-Decides name x).0 same in (k, or_first (bytes_eq k k) (has_text ks k) (equal_bytes k), at ∙ ap Some (sym e2))
        here (inr there) at more = let r = more there in (r.0, or_second (bytes_eq r.0 k) (has_text ks r.0) r.1, r.2)

pub in_mapped : (h : List ℕ → Option (List ℕ)) (ks : List (List ℕ)) (k name : List ℕ) → has_text ks k ≡ true → h k ≡ Some name → has_text (filter_map h ks) name ≡ true
in_mapped h [] k name e at = cc
in_mapped h (j ∷ ks) k name e at = by (or_cases (bytes_eq k j) (has_text ks k) e) (h j) refl (in_mapped h ks k name)
  where
    by : (bytes_eq k j ≡ true) ⊎ (has_text ks k ≡ true) → (o : Option (List ℕ)) → h j ≡ o → (has_text ks k ≡ true → h k ≡ Some name → has_text (filter_map h ks) name ≡ true) → has_text (cons_option o (filter_map h ks)) name ≡ true
    by (inl same) None is later = let e2 : k ≡ j = (bytes_eq-Decides k j).0 same in cc
    by (inl same) (Some x) is later =
        let e2 : k ≡ j = (bytes_eq-Decides k j).0 same in
        let e3 : name ≡ x = cc in
        or_first (bytes_eq name x) (has_text (filter_map h ks) name) ((bytes_eq-Decides name x).1 e3)
    by (inr there) None is later = later there at
    by (inr there) (Some x) is later = or_second (bytes_eq name x) (has_text (filter_map h ks) name) (later there at)

-- ---- keys
key_tests : (q : List ℕ) (ks : List (List ℕ)) → list_any (eq_by_cmp byte_cmp q) ks ≡ has_text ks q
key_tests q [] = refl
key_tests q (k ∷ ks) = rw (is_eq-slice_cmp q k, key_tests q ks) refl

pub has_key : (m : FileMap) (q : List ℕ) → is_some (get m q) ≡ has_text (keys m) q
has_key m q = contains_key-keys m q ∙ key_tests q (keys m)

pub some_is : {X : Type 0} (o : Option X) → is_some o ≡ true → (x : X) × (o ≡ Some x)
some_is None h = cc
some_is (Some x) h = (x, refl)

-- ---- the files that a look-up has
find_by : (look : List ℕ → Option (List ℕ)) (paths : List (List ℕ)) (q : List ℕ) → find byte_cmp q (filter_map (entry_at look) paths) ≡ cond (has_text paths q) (look q) None
find_by look [] q = refl
find_by look (p ∷ ps) q = by (look p) refl (bytes_eq q p) refl (find_by look ps q)
  where
    by : (o : Option (List ℕ)) → look p ≡ o → (t : Bool) → bytes_eq q p ≡ t → find byte_cmp q (filter_map (entry_at look) ps) ≡ cond (has_text ps q) (look q) None
        → find byte_cmp q (cons_option (option_map (λ bytes. (p, bytes)) o) (filter_map (entry_at look) ps)) ≡ cond (t || has_text ps q) (look q) None
    by None at true is later = let same : q ≡ p = (bytes_eq-Decides q p).0 is in later ∙ nothing (has_text ps q) (ap look same ∙ at)
      where
        nothing : (t : Bool) → look q ≡ None → cond t (look q) None ≡ look q
        nothing true none = refl
        nothing false none = sym none
    by None at false is later = later
    by (Some x) at true is later = let same : q ≡ p = (bytes_eq-Decides q p).0 is in rw (is_eq-slice_cmp q p, is) (sym (ap look same ∙ at))
    by (Some x) at false is later = rw (is_eq-slice_cmp q p, is) later

pub get-files_by : (look : List ℕ → Option (List ℕ)) (paths : List (List ℕ)) → ((q : List ℕ) → is_some (look q) ≡ true → has_text paths q ≡ true) → (q : List ℕ) → get (files_by look paths) q ≡ look q
unfolding files_by
get-files_by look paths all q = get-from_entries nat_list_cmp_total (filter_map (entry_at look) paths) q ∙ (find_by look paths q ∙ by (look q) refl (has_text paths q) refl)
  where
    by : (o : Option (List ℕ)) → look q ≡ o → (t : Bool) → has_text paths q ≡ t → cond t o None ≡ o
    by o at true there = refl
    by None at false there = refl
    by (Some x) at false there = let has : has_text paths q ≡ true = all q (ap is_some at) in cc

-- ---- a folder has a file below it
pub folder_from : (m : FileMap) (path : List ℕ) → is_folder m path ≡ true → (rest : List ℕ) × (is_some (get m (inside path rest)) ≡ true)
folder_from m path h =
    let k = found_in (λ key. is_some (below path key)) (keys m) h in
    let r = some_is (below path k.0) k.2 in
    (r.0, subst (λ (q : List ℕ). is_some (get m q) ≡ true) (below_is path k.0 r.0 r.1) (has_key m k.0 ∙ k.1))

pub folder_to : (m : FileMap) (path rest : List ℕ) → is_some (get m (inside path rest)) ≡ true → is_folder m path ≡ true
folder_to m path rest h = in_found (λ key. is_some (below path key)) (keys m) (inside path rest) (sym (has_key m (inside path rest)) ∙ h) (ap is_some (below_inside path rest))

-- ---- a name stands below a path where a file does whose path goes on with it
part_is : (path key name : List ℕ) → next_part path key ≡ Some name → (rest : List ℕ) × (key ≡ inside path rest) × (up_to_first 47 rest ≡ name)
part_is path key name = by (below path key) refl
  where
    by : (o : Option (List ℕ)) → below path key ≡ o → option_map (up_to_first 47) o ≡ Some name → (rest : List ℕ) × (key ≡ inside path rest) × (up_to_first 47 rest ≡ name)
    by None is h = cc
    by (Some rest) is h = (rest, below_is path key rest is, cc)

part_inside : (path rest : List ℕ) → next_part path (inside path rest) ≡ Some (up_to_first 47 rest)
part_inside path rest = ap (option_map (up_to_first 47)) (below_inside path rest)

pub name_from : (m : FileMap) (path name : List ℕ) → has_text (parts_below m path) name ≡ true → (rest : List ℕ) × (is_some (get m (inside path rest)) ≡ true) × (up_to_first 47 rest ≡ name)
name_from m path name h =
    let k = mapped_in (next_part path) (keys m) name h in
    let r = part_is path k.0 name k.2 in
    (r.0, subst (λ (q : List ℕ). is_some (get m q) ≡ true) r.1 (has_key m k.0 ∙ k.1), r.2)

pub name_to : (m : FileMap) (path rest name : List ℕ) → is_some (get m (inside path rest)) ≡ true → up_to_first 47 rest ≡ name → has_text (parts_below m path) name ≡ true
name_to m path rest name there is = in_mapped (next_part path) (keys m) (inside path rest) name (sym (has_key m (inside path rest)) ∙ there) (part_inside path rest ∙ ap Some is)

-- ---- two maps with the same files below two paths
module _ (v m : FileMap) (path other : List ℕ) (same : (rest : List ℕ) → is_some (get v (inside path rest)) ≡ is_some (get m (inside other rest))) where
  pub same_folder : is_folder v path ≡ is_folder m other
  same_folder = both_ways (is_folder v path) (is_folder m other)
      (λ h. let r = folder_from v path h in folder_to m other r.0 (sym (same r.0) ∙ r.1))
      (λ h. let r = folder_from m other h in folder_to v path r.0 (same r.0 ∙ r.1))

  pub same_parts : (name : List ℕ) → has_text (parts_below m other) name ≡ has_text (parts_below v path) name
  same_parts name = both_ways (has_text (parts_below m other) name) (has_text (parts_below v path) name)
      (λ h. let r = name_from m other name h in name_to v path r.0 name (same r.0 ∙ r.1) r.2)
      (λ h. let r = name_from v path name h in name_to m other r.0 name (sym (same r.0) ∙ r.1) r.2)
