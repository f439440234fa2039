-- The files of an overlay over its masters.
use Rattle.std.proofs.Common.{◌≡◌, ℕ, List, [], ◌∷◌, ◌++◌, Bool, true, false, not, ◌||◌, length, Some, None, refl, sym, ap, subst, ◌∙◌, inl, inr, ◌⊎◌, arith}
use Rattle.std.specs.Prelude.{Option, IfSome, flat_map, codes, ◌==◌}
use Rattle.std.specs.List.{list_any, cons_option}
use Rattle.std.specs.Option.{is_some}
use Rattle.std.specs.Cmp.{both_ways}
use Rattle.std.specs.FinMap.{get}
use Rattle.std.specs.Str.{bytes_eq}
use Rattle.std.proofs.lemmas.Bool.{ne_eqb}
use Rattle.std.proofs.lemmas.List.Folds.{list_any-append}
use Rattle.std.proofs.lemmas.Slice.Eq.{bytes_eq-Decides}
use Rattle.gv_base.specs.Cut.{up_to_first}
use Rattle.gv_base.specs.FileMap.{FileMap}
use Rattle.gv_base.specs.Laws.{InOrderLaw}
use Rattle.gv_base.specs.Listing.{is_folder, IsListing}
use Rattle.gv_base.specs.Order.{has_text}
use Rattle.gv_base.specs.Outside.{found_as, found_at, IsLarge}
use Rattle.gv_base.specs.declared.tree.Found.{Found}
use Rattle.gv_base.specs.declared.tree.Found.TheVariants.{File, Dir, Absent}
use Rattle.gv_views.specs.Areas.{area_of, categories_path, profiles_path}
use Rattle.gv_views.specs.declared.areas.Area.{Area}
use Rattle.gv_views.specs.declared.areas.Area.TheVariants.{Categories, Eclasses, InEclasses, InProfiles, Other, Profiles}
use Rattle.gv_views.specs.declared.layers.Layers.{Layers}
use Rattle.gv_views.specs.Told.{IsTold, told_files, any_folder, all_parts, has_any, is_own, list_names, AreInOrderOf, IsLargeFile, parts_below, parts_in}
use Rattle.gv_views.specs.Views.{all_files, file_in, first_file, inside, joined_file, layered_at, layered_files, layered_in, layered_paths, layered_told, or_else, paths_in}
use Rattle.gv_views.proofs.Below.{area_below, Below, list_area, list_is, list_path_is, of_list, profiles_is}
use Rattle.gv_views.proofs.Folders.{equal_bytes, folder_from, folder_to, get-files_by, inside_inside, name_from, name_to, or_cases, or_first, or_second, same_folder}
use Rattle.gv_views.proofs.FolderViews.{listing_same, path_there}
use Rattle.gv_views.proofs.Unions.{found_absent, found_dir, found_file, listed_parts, union_folder, union_parts}

module _ (m : FileMap) (layers : Layers) where
  abbrev v : FileMap
  v = layered_files m layers

  -- ---- the look-up's files are all among the paths
  in_front : (xs ys : List (List ℕ)) (q : List ℕ) → has_text xs q ≡ true → has_text (xs ++ ys) q ≡ true
  in_front xs ys q h = list_any-append (bytes_eq q) xs ys ∙ or_first (has_text xs q) (has_text ys q) h

  in_back : (xs ys : List (List ℕ)) (q : List ℕ) → has_text ys q ≡ true → has_text (xs ++ ys) q ≡ true
  in_back xs ys q h = list_any-append (bytes_eq q) xs ys ∙ or_second (has_text xs q) (has_text ys q) h

  first_there : (folders : List (List ℕ)) (q : List ℕ) → is_some (first_file m folders q) ≡ true → has_text (flat_map (paths_in m) folders) q ≡ true
  first_there [] q h = cc
  first_there (folder ∷ folders) q h = by (file_in m folder q) refl h (first_there folders q)
    where
      by : (o : Option (List ℕ)) → file_in m folder q ≡ o → is_some (or_else o (first_file m folders q)) ≡ true → (is_some (first_file m folders q) ≡ true → has_text (flat_map (paths_in m) folders) q ≡ true)
          → has_text (flat_map (paths_in m) (folder ∷ folders)) q ≡ true
      by (Some x) at h' later = in_front (paths_in m folder) (flat_map (paths_in m) folders) q (path_there m folder q (ap is_some at))
      by None at h' later = in_back (paths_in m folder) (flat_map (paths_in m) folders) q (later h')

  all_there : (q : List ℕ) → is_some (layered_at m layers q) ≡ true → has_text (layered_paths m layers) q ≡ true
  all_there q = by (area_of q) refl
    where
      own : is_some (file_in m layers.own q) ≡ true → has_text (layered_paths m layers) q ≡ true
      own h = or_second (bytes_eq q categories_path) _ (in_front (paths_in m layers.own) (flat_map (paths_in m) (layers.profiles ∷ layers.eclasses)) q (path_there m layers.own q h))

      profiles : is_some (file_in m layers.profiles q) ≡ true → has_text (layered_paths m layers) q ≡ true
      profiles h = or_second (bytes_eq q categories_path) _ (in_back (paths_in m layers.own) (flat_map (paths_in m) (layers.profiles ∷ layers.eclasses)) q
          (in_front (paths_in m layers.profiles) (flat_map (paths_in m) layers.eclasses) q (path_there m layers.profiles q h)))

      by : (a : Area) → area_of q ≡ a → is_some (layered_in m layers q a) ≡ true → has_text (layered_paths m layers) q ≡ true
      by Categories is h = let e : q ≡ categories_path = list_is q is in or_first (bytes_eq q categories_path) _ (subst (λ (p : List ℕ). bytes_eq q p ≡ true) e (equal_bytes q))
      by InProfiles is h = profiles h
      by InEclasses is h = or_second (bytes_eq q categories_path) _ (in_back (paths_in m layers.own) (flat_map (paths_in m) (layers.profiles ∷ layers.eclasses)) q
          (in_back (paths_in m layers.profiles) (flat_map (paths_in m) layers.eclasses) q (first_there layers.eclasses q h)))
      by Profiles is h = own h
      by Eclasses is h = own h
      by Other is h = own h

  get-layered : (q : List ℕ) → get v q ≡ layered_at m layers q
  get-layered q = get-files_by (layered_at m layers) (layered_paths m layers) all_there q

  at_area : (q : List ℕ) (a : Area) → area_of q ≡ a → get v q ≡ layered_in m layers q a
  at_area q a is = get-layered q ∙ ap (layered_in m layers q) is

  -- ---- below a path
  below_area : (path rest : List ℕ) (a : Area) → area_of path ≡ a → Below a (area_of (inside path rest))
  below_area path rest a is = subst (λ (b : Area). Below b (area_of (inside path rest))) is (area_below path rest)

  in_one : (folder path rest : List ℕ) → get v (inside path rest) ≡ file_in m folder (inside path rest) → is_some (get v (inside path rest)) ≡ is_some (get m (inside (inside folder path) rest))
  in_one folder path rest e = ap is_some (e ∙ ap (get m) (inside_inside folder path rest))

  below_list : (path : List ℕ) → area_of path ≡ Categories → (rest : List ℕ) → is_some (get v (inside path rest)) ≡ is_some (get m (inside (inside layers.profiles path) rest))
  below_list path is rest = in_one layers.profiles path rest (at_area (inside path rest) InProfiles (below_area path rest Categories is))

  below_profiles : (path : List ℕ) → area_of path ≡ InProfiles → (rest : List ℕ) → is_some (get v (inside path rest)) ≡ is_some (get m (inside (inside layers.profiles path) rest))
  below_profiles path is rest = in_one layers.profiles path rest (at_area (inside path rest) InProfiles (below_area path rest InProfiles is))

  below_other : (path : List ℕ) → area_of path ≡ Other → (rest : List ℕ) → is_some (get v (inside path rest)) ≡ is_some (get m (inside (inside layers.own path) rest))
  below_other path is rest = in_one layers.own path rest (at_area (inside path rest) Other (below_area path rest Other is))

  below_eclass : (path : List ℕ) → area_of path ≡ InEclasses → (rest : List ℕ) → is_some (get v (inside path rest)) ≡ is_some (first_file m layers.eclasses (inside path rest))
  below_eclass path is rest = ap is_some (at_area (inside path rest) InEclasses (below_area path rest InEclasses is))

  below_eclasses : (path : List ℕ) → area_of path ≡ Eclasses → (rest : List ℕ) → is_some (get v (inside path rest)) ≡ is_some (first_file m layers.eclasses (inside path rest))
  below_eclasses path is rest = ap is_some (at_area (inside path rest) InEclasses (below_area path rest Eclasses is))

  -- ---- what is found
  found_by : (path : List ℕ) (a : Area) (b : Bool) → area_of path ≡ a → is_folder v path ≡ b → found_at v path ≡ found_as (layered_in m layers path a) b
  found_by path a b is folder = ap (λ o. found_as o (is_folder v path)) (at_area path a is) ∙ ap (found_as (layered_in m layers path a)) folder

  found_in_profiles : (path : List ℕ) → area_of path ≡ InProfiles → found_at m (inside layers.profiles path) ≡ found_at v path
  found_in_profiles path is = sym (found_by path InProfiles (is_folder m (inside layers.profiles path)) is (same_folder v m path (inside layers.profiles path) (below_profiles path is)))

  found_other : (path : List ℕ) → area_of path ≡ Other → found_at m (inside layers.own path) ≡ found_at v path
  found_other path is = sym (found_by path Other (is_folder m (inside layers.own path)) is (same_folder v m path (inside layers.own path) (below_other path is)))

  found_eclass : (path : List ℕ) → area_of path ≡ InEclasses → found_as (first_file m layers.eclasses path) (any_folder m layers.eclasses path) ≡ found_at v path
  found_eclass path is = sym (found_by path InEclasses (any_folder m layers.eclasses path) is (union_folder v m path layers.eclasses (below_eclass path is)))

  -- ---- the names below `profiles`
  list_some : (folder : List ℕ) (folders : List (List ℕ)) (path : List ℕ) → is_some (file_in m folder path) ≡ true → is_some (joined_file (all_files m (folder ∷ folders) path)) ≡ true
  list_some folder folders path = by (file_in m folder path)
    where
      by : (o : Option (List ℕ)) → is_some o ≡ true → is_some (joined_file (cons_option o (all_files m folders path))) ≡ true
      by (Some x) h = refl
      by None h = cc

  joined_any : (xs : List (List ℕ)) → is_some (joined_file xs) ≡ has_any xs
  joined_any [] = refl
  joined_any (x ∷ xs) = refl

  abbrev lists : List (List ℕ)
  lists = all_files m (layers.profiles ∷ layers.lists) categories_path

  list_name : (xs : List (List ℕ)) (name : List ℕ) → has_any xs ≡ true → codes "categories" ≡ name → has_text (list_names xs) name ≡ true
  list_name xs name any e = rw any (or_first (bytes_eq name (codes "categories")) false (subst (λ (n : List ℕ). bytes_eq n (codes "categories") ≡ true) e refl))

  name_list : (xs : List (List ℕ)) (name : List ℕ) → has_text (list_names xs) name ≡ true → (has_any xs ≡ true) × (bytes_eq name (codes "categories") ≡ true)
  name_list [] name h = cc
  name_list (x ∷ xs) name h = (refl, by (or_cases (bytes_eq name (codes "categories")) false h))
    where
      by : (bytes_eq name (codes "categories") ≡ true) ⊎ (false ≡ true) → bytes_eq name (codes "categories") ≡ true
      by (inl e) = e
      by (inr e) = cc

  profiles_parts : (path : List ℕ) → area_of path ≡ Profiles → (name : List ℕ) → has_text (parts_below m (inside layers.profiles path) ++ list_names lists) name ≡ has_text (parts_below v path) name
  profiles_parts path is name = both_ways (has_text (parts_below m (inside layers.profiles path) ++ list_names lists) name) (has_text (parts_below v path) name)
      (λ h. forth (or_cases (has_text (parts_below m (inside layers.profiles path)) name) (has_text (list_names lists) name) (sym (list_any-append (bytes_eq name) (parts_below m (inside layers.profiles path)) (list_names lists)) ∙ h)))
      (λ h. let r = name_from v path name h in back r.0 (below_area path r.0 Profiles is) r.1 r.2)
    where
      some_list : (rest : List ℕ) → area_of (inside path rest) ≡ Categories → is_some (file_in m layers.profiles (inside path rest)) ≡ true → is_some (get v (inside path rest)) ≡ true
      some_list rest at h = ap is_some (at_area (inside path rest) Categories at) ∙ list_some layers.profiles layers.lists (inside path rest) h

      in_profiles : (rest : List ℕ) → Below Profiles (area_of (inside path rest)) → is_some (file_in m layers.profiles (inside path rest)) ≡ true → is_some (get v (inside path rest)) ≡ true
      in_profiles rest (inl at) h = some_list rest at h
      in_profiles rest (inr at) h = ap is_some (at_area (inside path rest) InProfiles at) ∙ h

      forth : (has_text (parts_below m (inside layers.profiles path)) name ≡ true) ⊎ (has_text (list_names lists) name ≡ true) → has_text (parts_below v path) name ≡ true
      forth (inl e) =
          let r = name_from m (inside layers.profiles path) name e in
          name_to v path r.0 name (in_profiles r.0 (below_area path r.0 Profiles is) (ap (λ p. is_some (get m p)) (inside_inside layers.profiles path r.0) ∙ r.1)) r.2
      forth (inr e) =
          let l = name_list lists name e in
          let n : name ≡ codes "categories" = (bytes_eq-Decides name (codes "categories")).0 l.1 in
          let p : path ≡ profiles_path = profiles_is path is in
          let at : inside path (codes "categories") ≡ categories_path = ap (λ q. inside q (codes "categories")) p ∙ list_path_is in
          let there : is_some (get v (inside path (codes "categories"))) ≡ true = ap (λ q. is_some (get v q)) at ∙ (ap is_some (at_area categories_path Categories list_area) ∙ (joined_any lists ∙ l.0)) in
          name_to v path (codes "categories") name there (sym n)

      back : (rest : List ℕ) → Below Profiles (area_of (inside path rest)) → is_some (get v (inside path rest)) ≡ true → up_to_first 47 rest ≡ name
          → has_text (parts_below m (inside layers.profiles path) ++ list_names lists) name ≡ true
      back rest (inl at) there e =
          let whole : inside path rest ≡ categories_path = list_is (inside path rest) at in
          let r : rest ≡ codes "categories" = (of_list path rest whole).1 in
          let any : has_any lists ≡ true = sym (joined_any lists) ∙ (sym (ap is_some (at_area categories_path Categories list_area)) ∙ (ap (λ q. is_some (get v q)) (sym whole) ∙ there)) in
          let n : codes "categories" ≡ name = sym (ap (up_to_first 47) r) ∙ e in
          in_back (parts_below m (inside layers.profiles path)) (list_names lists) name (list_name lists name any n)
      back rest (inr at) there e =
          in_front (parts_below m (inside layers.profiles path)) (list_names lists) name
          (name_to m (inside layers.profiles path) rest name (sym (in_one layers.profiles path rest (at_area (inside path rest) InProfiles at)) ∙ there) e)

  listing_of : (law : InOrderLaw) (path : List ℕ) (given names : List (List ℕ)) → ((name : List ℕ) → has_text given name ≡ has_text (parts_below v path) name) → AreInOrderOf given names → IsListing v path names
  listing_of law path given names same is = record { distinct = is.distinct; ordered = is.ordered ∙ law.same given (parts_below v path) same }

-- ---- what the calls tell, where files are told
module _ (told : Option FileMap) (layers : Layers) (path : List ℕ) where
  abbrev all : FileMap
  all = told_files told

  pub list_named : (law : InOrderLaw) (names : List (List ℕ)) → area_of path ≡ Categories → (IsTold told → IsListing all (inside layers.profiles path) names) → IsTold told → IsListing (layered_files all layers) path names
  list_named law names is h t = listing_same law (layered_files all layers) all path (inside layers.profiles path) names (below_list all layers path is) (h t)

  pub profiles_named : (law : InOrderLaw) (names : List (List ℕ)) → area_of path ≡ InProfiles → (IsTold told → IsListing all (inside layers.profiles path) names) → IsTold told → IsListing (layered_files all layers) path names
  profiles_named law names is h t = listing_same law (layered_files all layers) all path (inside layers.profiles path) names (below_profiles all layers path is) (h t)

  pub other_named : (law : InOrderLaw) (names : List (List ℕ)) → area_of path ≡ Other → (IsTold told → IsListing all (inside layers.own path) names) → IsTold told → IsListing (layered_files all layers) path names
  other_named law names is h t = listing_same law (layered_files all layers) all path (inside layers.own path) names (below_other all layers path is) (h t)

  pub top_named : (law : InOrderLaw) (names : List (List ℕ)) → area_of path ≡ Profiles → (IsTold told → AreInOrderOf (parts_below all (inside layers.profiles path) ++ list_names (all_files all (layers.profiles ∷ layers.lists) categories_path)) names)
      → IsTold told → IsListing (layered_files all layers) path names
  top_named law names is h t = listing_of all layers law path _ names (profiles_parts all layers path is) (h t)

  pub eclass_named : (law : InOrderLaw) (names : List (List ℕ)) → area_of path ≡ InEclasses → (IsTold told → AreInOrderOf (all_parts all layers.eclasses path) names) → IsTold told → IsListing (layered_files all layers) path names
  eclass_named law names is h t = listing_of all layers law path _ names (union_parts (layered_files all layers) all path layers.eclasses (below_eclass all layers path is)) (h t)

  pub eclasses_named : (law : InOrderLaw) (names : List (List ℕ)) → area_of path ≡ Eclasses → (IsTold told → AreInOrderOf (all_parts all layers.eclasses path) names) → IsTold told → IsListing (layered_files all layers) path names
  eclasses_named law names is h t = listing_of all layers law path _ names (union_parts (layered_files all layers) all path layers.eclasses (below_eclasses all layers path is)) (h t)

  -- what is found
  pub profiles_found : (found : Found) → area_of path ≡ InProfiles → (IsTold told → found ≡ found_at all (inside layers.profiles path)) → IsTold told → found ≡ found_at (layered_files all layers) path
  profiles_found found is h t = h t ∙ found_in_profiles all layers path is

  pub other_found : (found : Found) → area_of path ≡ Other → (IsTold told → found ≡ found_at all (inside layers.own path)) → IsTold told → found ≡ found_at (layered_files all layers) path
  other_found found is h t = h t ∙ found_other all layers path is

  pub eclass_found : (found : Found) → area_of path ≡ InEclasses → (IsTold told → found ≡ found_as (first_file all layers.eclasses path) (any_folder all layers.eclasses path)) → IsTold told → found ≡ found_at (layered_files all layers) path
  eclass_found found is h t = h t ∙ found_eclass all layers path is

  pub list_found : (bytes : List ℕ) (joined : Option (List ℕ)) → area_of path ≡ Categories → joined ≡ Some bytes → (IsTold told → joined ≡ joined_file (all_files all (layers.profiles ∷ layers.lists) path)) → IsTold told → File bytes ≡ found_at (layered_files all layers) path
  list_found bytes joined is e h t = sym (ap (λ o. found_as o (is_folder (layered_files all layers) path)) (at_area all layers path Categories is ∙ (sym (h t) ∙ e)))

  pub list_none : (joined : Option (List ℕ)) → area_of path ≡ Categories → joined ≡ None → (IsTold told → joined ≡ joined_file (all_files all (layers.profiles ∷ layers.lists) path)) → IsTold told → layered_at all layers path ≡ None
  list_none joined is e h t = ap (layered_in all layers path) is ∙ (sym (h t) ∙ e)

  own_area : (a : Area) → area_of path ≡ a → is_own a ≡ true → layered_at all layers path ≡ file_in all layers.own path
  own_area Categories is h = cc
  own_area InProfiles is h = cc
  own_area InEclasses is h = cc
  own_area Profiles is h = ap (layered_in all layers path) is
  own_area Eclasses is h = ap (layered_in all layers path) is
  own_area Other is h = ap (layered_in all layers path) is

  own_file : is_own (area_of path) ≡ true → layered_at all layers path ≡ file_in all layers.own path
  own_file h = own_area (area_of path) refl h

  pub own_found : (bytes : List ℕ) → is_own (area_of path) ≡ true → (IsTold told → File bytes ≡ found_at all (inside layers.own path)) → IsTold told → File bytes ≡ found_at (layered_files all layers) path
  own_found bytes is h t = sym (ap (λ o. found_as o (is_folder (layered_files all layers) path)) (get-layered all layers path ∙ (own_file is ∙ found_file (file_in all layers.own path) (is_folder all (inside layers.own path)) bytes (h t))))

  pub own_dir : is_own (area_of path) ≡ true → (IsTold told → Dir ≡ found_at all (inside layers.own path)) → IsTold told → layered_at all layers path ≡ None
  own_dir is h t = own_file is ∙ (found_dir (file_in all layers.own path) (is_folder all (inside layers.own path)) (h t)).0

  pub own_absent : is_own (area_of path) ≡ true → (IsTold told → Absent ≡ found_at all (inside layers.own path)) → IsTold told → layered_at all layers path ≡ None
  own_absent is h t = own_file is ∙ (found_absent (file_in all layers.own path) (is_folder all (inside layers.own path)) (h t)).0

  -- a folder, where names are below the path
  no_folder : (law : InOrderLaw) (names : List (List ℕ)) → IsListing (layered_files all layers) path names → not (length names == 0) ≡ is_folder (layered_files all layers) path
  no_folder law [] is = by (is_folder (layered_files all layers) path) refl
    where
      by : (b : Bool) → is_folder (layered_files all layers) path ≡ b → false ≡ b
      by false e = refl
      by true e =
          let r = folder_from (layered_files all layers) path e in
          let there : has_text (parts_below (layered_files all layers) path) (up_to_first 47 r.0) ≡ true = name_to (layered_files all layers) path r.0 (up_to_first 47 r.0) r.1 refl in
          let none : has_text [] (up_to_first 47 r.0) ≡ true = listed_parts law (layered_files all layers) path [] is (up_to_first 47 r.0) ∙ there in
          cc
  no_folder law (name ∷ names) is =
      let filled : (length (name ∷ names) == 0) ≡ false = ne_eqb (length (name ∷ names)) 0 (λ e. omega arith) in
      let there : has_text (parts_below (layered_files all layers) path) name ≡ true = sym (listed_parts law (layered_files all layers) path (name ∷ names) is name) ∙ or_first (bytes_eq name name) (has_text names name) (equal_bytes name) in
      let r = name_from (layered_files all layers) path name there in
      rw filled (sym (folder_to (layered_files all layers) path r.0 r.1))

  pub below_found : (law : InOrderLaw) (names : List (List ℕ)) (found : Found) → (IsTold told → IsListing (layered_files all layers) path names) → found ≡ found_as None (not (length names == 0)) → (IsTold told → layered_at all layers path ≡ None)
      → IsTold told → found ≡ found_at (layered_files all layers) path
  below_found law names found is e none t = e ∙ (ap (found_as None) (no_folder law names (is t)) ∙ sym (ap (λ o. found_as o (is_folder (layered_files all layers) path)) (get-layered all layers path ∙ none t)))

  -- too large
  pub profiles_large : area_of path ≡ InProfiles → (IsTold told → IsLarge 16777216 all (inside layers.profiles path)) → IsTold told → IsLarge 16777216 (layered_files all layers) path
  profiles_large is h t = let l = h t in (l.0, at_area all layers path InProfiles is ∙ l.1, l.2)

  pub other_large : area_of path ≡ Other → (IsTold told → IsLarge 16777216 all (inside layers.own path)) → IsTold told → IsLarge 16777216 (layered_files all layers) path
  other_large is h t = let l = h t in (l.0, at_area all layers path Other is ∙ l.1, l.2)

  pub eclass_large : area_of path ≡ InEclasses → (IsTold told → IsLargeFile (first_file all layers.eclasses path)) → IsTold told → IsLarge 16777216 (layered_files all layers) path
  eclass_large is h t = let l = h t in (l.0, at_area all layers path InEclasses is ∙ l.1, l.2)

  pub list_large : area_of path ≡ Categories → (IsTold told → IsLargeFile (joined_file (all_files all (layers.profiles ∷ layers.lists) path))) → IsTold told → IsLarge 16777216 (layered_files all layers) path
  list_large is h t = let l = h t in (l.0, at_area all layers path Categories is ∙ l.1, l.2)

  pub own_large : is_own (area_of path) ≡ true → (IsTold told → IsLarge 16777216 all (inside layers.own path)) → IsTold told → IsLarge 16777216 (layered_files all layers) path
  own_large is h t = let l = h t in (l.0, get-layered all layers path ∙ (own_file is ∙ l.1), l.2)

-- ---- as the trait has it
pub found_layered : (told : Option FileMap) (layers : Layers) (path : List ℕ) (found : Found) → (IsTold told → found ≡ found_at (layered_files (told_files told) layers) path) → IfSome (layered_told told layers) (λ v. found ≡ found_at v path)
unfolding told_files
found_layered None layers path found is = tt
found_layered (Some m) layers path found is = is refl

pub large_layered : (told : Option FileMap) (layers : Layers) (path : List ℕ) → (IsTold told → IsLarge 16777216 (layered_files (told_files told) layers) path) → IfSome (layered_told told layers) (λ v. IsLarge 16777216 v path)
unfolding told_files
large_layered None layers path is = tt
large_layered (Some m) layers path is = is refl

pub names_overlay : (told : Option FileMap) (layers : Layers) (path : List ℕ) (names : List (List ℕ)) → (IsTold told → IsListing (layered_files (told_files told) layers) path names) → IfSome (layered_told told layers) (λ v. IsListing v path names)
unfolding told_files
names_overlay None layers path names is = tt
names_overlay (Some m) layers path names is = is refl
