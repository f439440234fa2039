-- Files at the places of a directory's files.
use Rattle.std.proofs.Common.{◌≡◌, ℕ, ◌+◌, Bool, true, false, List, [], ◌∷◌, ◌++◌, length, arith, map, filter, Some, refl, append_assoc, length-append, sym, ap, ◌∙◌}
use Rattle.std.specs.Prelude.{if◌then◌else◌, flat_map, fold, Option, slice_get}
use Rattle.std.specs.Option.{option_map_or}
use Rattle.std.proofs.lemmas.List.Folds.{fold-map}
use Rattle.gv_defaults.specs.Settings.{VarMap}
use Rattle.gv_facts.specs.Places.{places_from, places_of}
use Rattle.gv_usedefaults.specs.declared.file_kinds.LineFile.{LineFile}
use Rattle.gv_usedefaults.specs.Defaults.{with_dir, with_file}
use Rattle.gv_usedefaults.specs.PrivateWords.{added_at, vars_at}
use Rattle.gv_usedefaults.specs.Stacks.{in_dir}

-- at the places of the items that pass stand these items, in their order
module _ {A : Type 0} (test : A → Bool) where
  at_length : (front : List A) (x : A) (xs : List A) → slice_get (front ++ x ∷ xs) (length front) ≡ Some x
  at_length [] x xs = refl
  at_length (y ∷ front) x xs = at_length front x xs

  at_from : (front xs : List A) → map (slice_get (front ++ xs)) (places_from (length front) test xs) ≡ map Some (filter test xs)
  at_from front [] = refl
  at_from front (x ∷ xs) = by (test x) (shifted (at_from (front ++ x ∷ []) xs))
    where
      shifted : map (slice_get ((front ++ x ∷ []) ++ xs)) (places_from (length (front ++ x ∷ [])) test xs) ≡ map Some (filter test xs)
          → map (slice_get (front ++ x ∷ xs)) (places_from (length front + 1) test xs) ≡ map Some (filter test xs)
      shifted h =
          let whole : (front ++ x ∷ []) ++ xs ≡ front ++ x ∷ xs = append_assoc front (x ∷ []) xs in
          let one_more : length (front ++ x ∷ []) ≡ length front + 1 = omega (arith, length-append front (x ∷ [])) in
          rw (whole, one_more) at h

      by : (b : Bool) → map (slice_get (front ++ x ∷ xs)) (places_from (length front + 1) test xs) ≡ map Some (filter test xs)
          → map (slice_get (front ++ x ∷ xs)) (if b then length front ∷ places_from (length front + 1) test xs else places_from (length front + 1) test xs)
          ≡ map Some (if b then x ∷ filter test xs else filter test xs)
      by true h = ap (λ os. slice_get (front ++ x ∷ xs) (length front) ∷ os) h ∙ ap (λ o. o ∷ map Some (filter test xs)) (at_length front x xs)
      by false h = h

  pub at_places : (xs : List A) → map (slice_get xs) (places_of test xs) ≡ map Some (filter test xs)
  at_places xs = at_from [] xs

-- what is added place by place is what is added file by file
abbrev given : {A : Type 0} → (LineFile → List A) → Option LineFile → List A
given of file = option_map_or of file []

through : {A : Type 0} → (of : LineFile → List A) (files : List LineFile) (places : List ℕ) → flat_map (added_at of files) places ≡ flat_map (given of) (map (slice_get files) places)
through of files [] = refl
through of files (n ∷ ns) = ap (λ xs. added_at of files n ++ xs) (through of files ns)

there : {A : Type 0} → (of : LineFile → List A) (found : List LineFile) → flat_map (given of) (map Some found) ≡ flat_map of found
there of [] = refl
there of (f ∷ fs) = ap (λ xs. of f ++ xs) (there of fs)

pub added_all : {A : Type 0} → (of : LineFile → List A) (files : List LineFile) (dir : List ℕ) (places : List ℕ) → map (slice_get files) places ≡ map Some (filter (in_dir dir) files) →
    flat_map (added_at of files) places ≡ flat_map of (filter (in_dir dir) files)
added_all of files dir places is = through of files places ∙ ap (flat_map (given of)) is ∙ there of (filter (in_dir dir) files)

-- and so with variables
abbrev set_by : VarMap → Option LineFile → VarMap
set_by vars file = option_map_or (with_file vars) file vars

pub vars_all : (files : List LineFile) (vars : VarMap) (dir : List ℕ) (places : List ℕ) → map (slice_get files) places ≡ map Some (filter (in_dir dir) files) →
    fold (vars_at files) vars places ≡ with_dir files vars dir
vars_all files vars dir places is =
    sym (fold-map set_by (slice_get files) vars places)
    ∙ ap (fold set_by vars) is
    ∙ fold-map set_by Some vars (filter (in_dir dir) files)
