-- Facts of maps of files, and no rule: what stands at a path, by the files at and below it. Proofs of the crates above cite them.
use Rattle.std.proofs.Common.{◌≡◌, ℕ, List, [], ◌∷◌, ◌++◌, Bool, true, false, ◌&&◌, ◌||◌, cond, length, take, drop, Some, None, refl, sym, ap, subst, ◌∙◌, inl, inr, ◌⊎◌, ◌+◌, suc, arith}
use Rattle.std.specs.Prelude.{Option, nat_eq}
use Rattle.std.specs.List.{list_any, filter_map, cons_option, position_or_len}
use Rattle.std.specs.Option.{is_some, option_map, option_and_then}
use Rattle.std.specs.Str.{bytes_eq}
use Rattle.std.specs.FinMap.{get, keys, contains_key-keys}
use Rattle.std.specs.Ordering.{eq_by_cmp}
use Rattle.std.specs.Cmp.{both_ways}
use Rattle.std.proofs.lemmas.List.{append_assoc, take-append-drop}
use Rattle.std.proofs.lemmas.Slice.Eq.{bytes_eq-Decides}
use Rattle.std.proofs.lemmas.Map.Text.{is_eq-slice_cmp}
use Rattle.std.proofs.Math.Seq.{take-append_seam, drop-append_seam}
use Rattle.std.proofs.Math.Bool.{or-true}
use Rattle.gv_base.specs.FileMap.{FileMap, byte_cmp}
use Rattle.gv_base.specs.Cut.{after_prefix, up_to_first}
use Rattle.gv_base.specs.Listing.{below, next_part, is_folder}
use Rattle.gv_base.specs.Order.{has_text}

-- a path below a path; and whether something is at a path: a file, or a folder
abbrev pub within : List ℕ → List ℕ → List ℕ
within path name = path ++ 47 ∷ name

abbrev pub stands : FileMap → List ℕ → Bool
stands m path = is_some (get m path) || is_folder m path

-- ---- truth values
pub or_first : (a b : Bool) → a ≡ true → (a || b) ≡ true
or_first a b h = rw h refl

pub or_second : (a b : Bool) → b ≡ true → (a || b) ≡ true
or_second a b h = rw h (or-true a)

pub and_both : (a b : Bool) → a ≡ true → b ≡ true → (a && b) ≡ true
and_both a b p q = rw (p, q) refl

pub and_first : (a b : Bool) → (a && b) ≡ true → a ≡ true
and_first true b h = refl
and_first false b h = h

pub and_second : (a b : Bool) → (a && b) ≡ true → b ≡ true
and_second true b h = h
and_second false b h = cc

pub or_cases : (a b : Bool) → (a || b) ≡ true → (a ≡ true) ⊎ (b ≡ true)
or_cases true b h = inl refl
or_cases false b h = inr h

-- ---- texts
pub equal_bytes : (x : List ℕ) → bytes_eq x x ≡ true
equal_bytes x = (bytes_eq-Decides x x).1 refl

pub below_within : (path rest : List ℕ) → below path (within path rest) ≡ Some rest
below_within path rest = rw (take-append_seam path (47 ∷ rest), drop-append_seam path (47 ∷ rest), equal_bytes path) refl

slash : (s rest : List ℕ) → after_prefix (47 ∷ []) s ≡ Some rest → s ≡ 47 ∷ rest
slash [] rest h = cc
slash (b ∷ s) rest h = by (nat_eq b 47) refl h
  where
    by : (t : Bool) → nat_eq b 47 ≡ t → cond (t && true) (Some s) None ≡ Some rest → b ∷ s ≡ 47 ∷ rest
    by true is h' = let e : b ≡ 47 = grind arith in cc
    by false is h' = cc

pub below_is : (path key rest : List ℕ) → below path key ≡ Some rest → key ≡ within path rest
below_is path key rest = by (bytes_eq (take (length path) key) path) refl
  where
    by : (t : Bool) → bytes_eq (take (length path) key) path ≡ t → option_and_then (after_prefix (47 ∷ [])) (cond t (Some (drop (length path) key)) None) ≡ Some rest → key ≡ within path rest
    by true is h =
        let front : take (length path) key ≡ path = (bytes_eq-Decides _ _).0 is in
        let back : drop (length path) key ≡ 47 ∷ rest = slash (drop (length path) key) rest h in
        sym (take-append-drop (length path) key) ∙ ap (λ x. x ++ drop (length path) key) front ∙ ap (λ y. path ++ y) back
    by false is h = cc

pub within_within : (path name rest : List ℕ) → within path (name ++ 47 ∷ rest) ≡ within (within path name) rest
within_within path name rest = sym (append_assoc path (47 ∷ name) (47 ∷ rest))

pub up_step : (b : ℕ) (bs : List ℕ) → up_to_first 47 (b ∷ bs) ≡ cond (nat_eq b 47) [] (b ∷ up_to_first 47 bs)
up_step b bs = by (nat_eq b 47) refl
  where
    by : (t : Bool) → nat_eq b 47 ≡ t → up_to_first 47 (b ∷ bs) ≡ cond t [] (b ∷ up_to_first 47 bs)
    by true is = rw is refl
    by false is = rw is (let e : 1 + position_or_len (λ c. nat_eq c 47) bs ≡ suc (position_or_len (λ c. nat_eq c 47) bs) = omega arith in rw e refl)

-- what follows a slash is one part, or a part, a slash and more
abbrev pub Split : List ℕ → Type 0
Split rest = (rest ≡ up_to_first 47 rest) ⊎ ((more : List ℕ) × (rest ≡ up_to_first 47 rest ++ 47 ∷ more))

pub split_part : (rest : List ℕ) → Split rest
split_part [] = inl refl
split_part (b ∷ bs) = rw (up_step b bs) (by (nat_eq b 47) refl (split_part bs))
  where
    by : (t : Bool) → nat_eq b 47 ≡ t → Split bs → ((b ∷ bs) ≡ cond t [] (b ∷ up_to_first 47 bs)) ⊎ ((more : List ℕ) × ((b ∷ bs) ≡ cond t [] (b ∷ up_to_first 47 bs) ++ 47 ∷ more))
    by true is s = let e : b ≡ 47 = grind arith in inr (bs, ap (λ x. x ∷ bs) e)
    by false is (inl e) = inl (ap (λ xs. b ∷ xs) e)
    by false is (inr m) = inr (m.0, ap (λ xs. b ∷ xs) m.1)

pub up_up : (rest : List ℕ) → up_to_first 47 (up_to_first 47 rest) ≡ up_to_first 47 rest
up_up [] = refl
up_up (b ∷ bs) = rw (up_step b bs) (by (nat_eq b 47) refl (up_up bs))
  where
    by : (t : Bool) → nat_eq b 47 ≡ t → up_to_first 47 (up_to_first 47 bs) ≡ up_to_first 47 bs → up_to_first 47 (cond t [] (b ∷ up_to_first 47 bs)) ≡ cond t [] (b ∷ up_to_first 47 bs)
    by true is h = refl
    by false is h = up_step b (up_to_first 47 bs) ∙ rw is (ap (λ xs. b ∷ xs) h)

pub up_slash : (name more : List ℕ) → up_to_first 47 name ≡ name → up_to_first 47 (name ++ 47 ∷ more) ≡ name
up_slash [] more h = up_step 47 more
up_slash (b ∷ bs) more h = up_step b (bs ++ 47 ∷ more) ∙ by (nat_eq b 47) refl (sym (up_step b bs) ∙ h) (up_slash bs more)
  where
    by : (t : Bool) → nat_eq b 47 ≡ t → cond t [] (b ∷ up_to_first 47 bs) ≡ b ∷ bs → (up_to_first 47 bs ≡ bs → up_to_first 47 (bs ++ 47 ∷ more) ≡ bs) → cond t [] (b ∷ up_to_first 47 (bs ++ 47 ∷ more)) ≡ b ∷ bs
    by true is e later = cc
    by false is e later = let same : up_to_first 47 bs ≡ bs = cc in ap (λ xs. b ∷ xs) (later same)

-- ---- a list of texts
pub found_in : (f : List ℕ → Bool) (xs : List (List ℕ)) → list_any f xs ≡ true → (x : List ℕ) × (has_text xs x ≡ true) × (f x ≡ true)
found_in f [] h = cc
found_in f (y ∷ ys) h = by (f y) refl h (found_in f ys)
  where
    by : (t : Bool) → f y ≡ t → (t || list_any f ys) ≡ true → (list_any f ys ≡ true → (x : List ℕ) × (has_text ys x ≡ true) × (f x ≡ true)) → (x : List ℕ) × (has_text (y ∷ ys) x ≡ true) × (f x ≡ true)
    by true is h' later = (y, or_first (bytes_eq y y) (has_text ys y) (equal_bytes y), is)
    by false is h' later = let r = later h' in (r.0, or_second (bytes_eq r.0 y) (has_text ys r.0) r.1, r.2)

pub in_found : (f : List ℕ → Bool) (xs : List (List ℕ)) (x : List ℕ) → has_text xs x ≡ true → f x ≡ true → list_any f xs ≡ true
in_found f [] x h p = cc
in_found f (y ∷ ys) x h p = by (or_cases (bytes_eq x y) (has_text ys x) h) (in_found f ys x)
  where
    by : (bytes_eq x y ≡ true) ⊎ (has_text ys x ≡ true) → (has_text ys x ≡ true → f x ≡ true → list_any f ys ≡ true) → (f y || list_any f ys) ≡ true
    by (inl e) later = let same : x ≡ y = (bytes_eq-Decides x y).0 e in or_first (f y) (list_any f ys) (subst (λ (z : List ℕ). f z ≡ true) same p)
    by (inr e) later = or_second (f y) (list_any f ys) (later e p)

key_tests : (q : List ℕ) (ks : List (List ℕ)) → list_any (eq_by_cmp byte_cmp q) ks ≡ has_text ks q
key_tests q [] = refl
key_tests q (k ∷ ks) = rw (is_eq-slice_cmp q k, key_tests q ks) refl

pub has_key : (m : FileMap) (q : List ℕ) → is_some (get m q) ≡ has_text (keys m) q
has_key m q = contains_key-keys m q ∙ key_tests q (keys m)

some_is : {X : Type 0} (o : Option X) → is_some o ≡ true → (x : X) × (o ≡ Some x)
some_is None h = cc
some_is (Some x) h = (x, refl)

-- ---- a folder has a file below it
pub folder_from : (m : FileMap) (path : List ℕ) → is_folder m path ≡ true → (rest : List ℕ) × (is_some (get m (within path rest)) ≡ true)
folder_from m path h =
    let k = found_in (λ key. is_some (below path key)) (keys m) h in
    let r = some_is (below path k.0) k.2 in
    (r.0, subst (λ (q : List ℕ). is_some (get m q) ≡ true) (below_is path k.0 r.0 r.1) (has_key m k.0 ∙ k.1))

pub folder_to : (m : FileMap) (path rest : List ℕ) → is_some (get m (within path rest)) ≡ true → is_folder m path ≡ true
folder_to m path rest h = in_found (λ key. is_some (below path key)) (keys m) (within path rest) (sym (has_key m (within path rest)) ∙ h) (ap is_some (below_within path rest))

-- two maps with the same files have the same folders; one that has the files of the others has their folders
pub folder_either : (m a b : FileMap) → ((q : List ℕ) → is_some (get m q) ≡ (is_some (get a q) || is_some (get b q))) → (path : List ℕ) → is_folder m path ≡ (is_folder a path || is_folder b path)
folder_either m a b same path = both_ways (is_folder m path) (is_folder a path || is_folder b path)
    (λ h. let r = folder_from m path h in by r.0 (or_cases (is_some (get a (within path r.0))) (is_some (get b (within path r.0))) (sym (same (within path r.0)) ∙ r.1)))
    (λ h. back (or_cases (is_folder a path) (is_folder b path) h))
  where
    by : (rest : List ℕ) → (is_some (get a (within path rest)) ≡ true) ⊎ (is_some (get b (within path rest)) ≡ true) → (is_folder a path || is_folder b path) ≡ true
    by rest (inl h) = or_first (is_folder a path) (is_folder b path) (folder_to a path rest h)
    by rest (inr h) = or_second (is_folder a path) (is_folder b path) (folder_to b path rest h)

    back : (is_folder a path ≡ true) ⊎ (is_folder b path ≡ true) → is_folder m path ≡ true
    back (inl h) = let r = folder_from a path h in folder_to m path r.0 (same (within path r.0) ∙ or_first _ (is_some (get b (within path r.0))) r.1)
    back (inr h) = let r = folder_from b path h in folder_to m path r.0 (same (within path r.0) ∙ or_second (is_some (get a (within path r.0))) _ r.1)

pub folder_more : (u m : FileMap) → ((q : List ℕ) → is_some (get u q) ≡ true → is_some (get m q) ≡ true) → (path : List ℕ) → is_folder u path ≡ true → is_folder m path ≡ true
folder_more u m more path h = let r = folder_from u path h in folder_to m path r.0 (more (within path r.0) r.1)

pub stands_more : (u m : FileMap) → ((q : List ℕ) → is_some (get u q) ≡ true → is_some (get m q) ≡ true) → (path : List ℕ) → stands u path ≡ true → stands m path ≡ true
stands_more u m more path h = by (or_cases (is_some (get u path)) (is_folder u path) h)
  where
    by : (is_some (get u path) ≡ true) ⊎ (is_folder u path ≡ true) → stands m path ≡ true
    by (inl at) = or_first (is_some (get m path)) (is_folder m path) (more path at)
    by (inr f) = or_second (is_some (get m path)) (is_folder m path) (folder_more u m more path f)

-- ---- the names below a path
abbrev pub is_one : List ℕ → Bool
is_one name = bytes_eq (up_to_first 47 name) name

mapped_in : (h : List ℕ → Option (List ℕ)) (ks : List (List ℕ)) (name : List ℕ) → has_text (filter_map h ks) name ≡ true → (k : List ℕ) × (has_text ks k ≡ true) × (h k ≡ Some name)
mapped_in h [] name e = cc
mapped_in h (k ∷ ks) name e = by (h k) refl e (mapped_in h ks name)
  where
    by : (o : Option (List ℕ)) → h k ≡ o → has_text (cons_option o (filter_map h ks)) name ≡ true → (has_text (filter_map h ks) name ≡ true → (j : List ℕ) × (has_text ks j ≡ true) × (h j ≡ Some name)) → (j : List ℕ) × (has_text (k ∷ ks) j ≡ true) × (h j ≡ Some name)
    by None is e' later = let r = later e' in (r.0, or_second (bytes_eq r.0 k) (has_text ks r.0) r.1, r.2)
    by (Some x) is e' later = here (or_cases (bytes_eq name x) (has_text (filter_map h ks) name) e') is later
      where
        here : (bytes_eq name x ≡ true) ⊎ (has_text (filter_map h ks) name ≡ true) → h k ≡ Some x → (has_text (filter_map h ks) name ≡ true → (j : List ℕ) × (has_text ks j ≡ true) × (h j ≡ Some name)) → (j : List ℕ) × (has_text (k ∷ ks) j ≡ true) × (h j ≡ Some name)
        here (inl same) at more = let e2 : name ≡ x = (bytes_eq-Decides name x).0 same in (k, or_first (bytes_eq k k) (has_text ks k) (equal_bytes k), at ∙ ap Some (sym e2))
        here (inr there) at more = let r = more there in (r.0, or_second (bytes_eq r.0 k) (has_text ks r.0) r.1, r.2)

pub in_mapped : (h : List ℕ → Option (List ℕ)) (ks : List (List ℕ)) (k name : List ℕ) → has_text ks k ≡ true → h k ≡ Some name → has_text (filter_map h ks) name ≡ true
in_mapped h [] k name e at = cc
in_mapped h (j ∷ ks) k name e at = by (or_cases (bytes_eq k j) (has_text ks k) e) (h j) refl (in_mapped h ks k name)
  where
    by : (bytes_eq k j ≡ true) ⊎ (has_text ks k ≡ true) → (o : Option (List ℕ)) → h j ≡ o → (has_text ks k ≡ true → h k ≡ Some name → has_text (filter_map h ks) name ≡ true) → has_text (cons_option o (filter_map h ks)) name ≡ true
    by (inl same) None is later = let e2 : k ≡ j = (bytes_eq-Decides k j).0 same in cc
    by (inl same) (Some x) is later =
        let e2 : k ≡ j = (bytes_eq-Decides k j).0 same in
        let e3 : name ≡ x = cc in
        or_first (bytes_eq name x) (has_text (filter_map h ks) name) ((bytes_eq-Decides name x).1 e3)
    by (inr there) None is later = later there at
    by (inr there) (Some x) is later = or_second (bytes_eq name x) (has_text (filter_map h ks) name) (later there at)

part_is : (path key name : List ℕ) → next_part path key ≡ Some name → (rest : List ℕ) × (key ≡ within path rest) × (up_to_first 47 rest ≡ name)
part_is path key name = by (below path key) refl
  where
    by : (o : Option (List ℕ)) → below path key ≡ o → option_map (up_to_first 47) o ≡ Some name → (rest : List ℕ) × (key ≡ within path rest) × (up_to_first 47 rest ≡ name)
    by None is h = cc
    by (Some rest) is h = (rest, below_is path key rest is, cc)

part_within : (path rest : List ℕ) → next_part path (within path rest) ≡ Some (up_to_first 47 rest)
part_within path rest = ap (option_map (up_to_first 47)) (below_within path rest)

-- a name lies below the path exactly where it is one part, and something stands at its path
pub name_stands : (m : FileMap) (path name : List ℕ) → has_text (filter_map (next_part path) (keys m)) name ≡ (is_one name && stands m (within path name))
name_stands m path name = both_ways _ _
    (λ h. let k = mapped_in (next_part path) (keys m) name h in let r = part_is path k.0 name k.2 in
    let there : is_some (get m (within path r.0)) ≡ true = subst (λ (q : List ℕ). is_some (get m q) ≡ true) r.1 (has_key m k.0 ∙ k.1) in
    let one : is_one name ≡ true = subst (λ (n : List ℕ). is_one n ≡ true) r.2 ((bytes_eq-Decides _ _).1 (up_up r.0)) in
    and_both (is_one name) (stands m (within path name)) one (forth r.0 (split_part r.0) r.2 there))
    (λ h. back ((bytes_eq-Decides _ _).0 (and_first (is_one name) (stands m (within path name)) h)) (or_cases _ _ (and_second (is_one name) (stands m (within path name)) h)))
  where
    forth : (rest : List ℕ) → Split rest → up_to_first 47 rest ≡ name → is_some (get m (within path rest)) ≡ true → stands m (within path name) ≡ true
    forth rest (inl e) is there = or_first (is_some (get m (within path name))) (is_folder m (within path name)) (subst (λ (n : List ℕ). is_some (get m (within path n)) ≡ true) (e ∙ is) there)
    forth rest (inr s) is there =
        let e : within path rest ≡ within (within path name) s.0 = ap (within path) (s.1 ∙ ap (λ n. n ++ 47 ∷ s.0) is) ∙ within_within path name s.0 in
        or_second (is_some (get m (within path name))) (is_folder m (within path name)) (folder_to m (within path name) s.0 (subst (λ (q : List ℕ). is_some (get m q) ≡ true) e there))

    back : up_to_first 47 name ≡ name → (is_some (get m (within path name)) ≡ true) ⊎ (is_folder m (within path name) ≡ true) → has_text (filter_map (next_part path) (keys m)) name ≡ true
    back one (inl at) = in_mapped (next_part path) (keys m) (within path name) name (sym (has_key m (within path name)) ∙ at) (part_within path name ∙ ap Some one)
    back one (inr f) =
        let r = folder_from m (within path name) f in
        let e : within (within path name) r.0 ≡ within path (name ++ 47 ∷ r.0) = sym (within_within path name r.0) in
        let at : is_some (get m (within path (name ++ 47 ∷ r.0))) ≡ true = subst (λ (q : List ℕ). is_some (get m q) ≡ true) e r.1 in
        in_mapped (next_part path) (keys m) (within path (name ++ 47 ∷ r.0)) name (sym (has_key m (within path (name ++ 47 ∷ r.0))) ∙ at) (part_within path (name ++ 47 ∷ r.0) ∙ ap Some (up_slash name r.0 one))
