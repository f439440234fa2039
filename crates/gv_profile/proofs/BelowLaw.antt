-- The stack of a walk that meets no fault, by the paths of parents alone.
use Rattle.std.proofs.Common.{◌≡◌, ℕ, ◌+◌, ◌-◌, ◌≤◌, zero, suc, List, [], ◌∷◌, ◌++◌, Bool, true, false, ◌||◌, cond, Some, None, length, refl, sym, ap, ◌∙◌, append_assoc, length-append, nat_lt, arith}
use Rattle.std.specs.Prelude.{Option, flat_map, filter_map, if◌then◌else◌}
use Rattle.std.specs.List.{cons_option, list_any}
use Rattle.std.specs.Str.{bytes_eq}
use Rattle.std.proofs.lemmas.List.Folds.{list_any-append}
use Rattle.std.proofs.lemmas.Slice.Eq.{bytes_eq-Decides}
use Rattle.gv_base.specs.Order.{has_text}
use Rattle.gv_profile.specs.declared.desc.DescLine.{DescLine}
use Rattle.gv_profile.specs.declared.faults.ProfileFault.TheVariants.{BadEapi, TooMany}
use Rattle.gv_profile.specs.declared.files.DirFiles.{DirFiles}
use Rattle.gv_profile.specs.declared.parent_files.ParentLine.{ParentLine}
use Rattle.gv_profile.specs.Eapi.{has_bad_eapi}
use Rattle.gv_profile.specs.Names.{eapi_path}
use Rattle.gv_profile.specs.ParentFiles.{parents_of}
use Rattle.gv_profile.specs.Stacks.{AreParents, paths_of, stack_below}
use Rattle.gv_profile.specs.Walking.{Look, Met, at_parent, at_path, eapi_fault, first_fault, found, from_dir, from_files, leave, line_dir, line_walk, most_visits, stack_fault, stack_of, there, visit, walk, walk_below}
use Rattle.gv_profile.proofs.StackLaw.{IsGood, no_fault, not_below, parted, stack-append}

abbrev path_of : ParentLine → Option (List ℕ)
path_of p = p.path

itself : (path : List ℕ) → bytes_eq path path ≡ true
itself path = (bytes_eq-Decides path path).1 refl

behind_first : (o : Option (List ℕ)) (qs : List (List ℕ)) (q : List ℕ) → has_text qs q ≡ true → has_text (cons_option o qs) q ≡ true
behind_first None qs q is = is
behind_first (Some path) qs q is = rw is (or_true (bytes_eq q path))
  where
    or_true : (b : Bool) → (b || true) ≡ true
    or_true true = refl
    or_true false = refl

module _ (look : Look) (known : List ℕ → Bool) (parents : List ℕ → List (List ℕ)) (are : AreParents look known parents) where
  abbrev followed : ℕ → List (List ℕ) → List ℕ → List (List ℕ)
  followed depth way path = if has_text way path then [] else stack_below depth parents way path

  abbrev Below : ℕ → (family way : List (List ℕ)) → Type 0
  Below depth family way = (path : List ℕ) (files : DirFiles) (visits : ℕ) → look path ≡ Some files → known path ≡ true → length family ≤ visits → IsGood visits (walk depth look family path files) →
      stack_of (walk depth look family path files) ≡ stack_below depth parents way path

  module _ (depth : ℕ) (family way : List (List ℕ)) (dir : List ℕ) (same : (text : List ℕ) → has_text way text ≡ has_text family text) (below : Below depth family way) where
    abbrev go : ParentLine → List Met
    go = at_parent (walk depth look family) look family dir

    one : (line : ℕ) (o : Option (List ℕ)) (visits : ℕ) → length family ≤ visits → IsGood visits (at_path (walk depth look family) look family dir line o) → (qs : List (List ℕ)) →
        ((q : List ℕ) → has_text (cons_option o qs) q ≡ true → known q ≡ true) →
        stack_of (at_path (walk depth look family) look family dir line o) ++ flat_map (followed depth way) qs ≡ flat_map (followed depth way) (cons_option o qs)
    one line None visits many good qs leads = cc
    one line (Some path) visits many good qs leads = by_files (look path) refl good
      where
        by_files : (files : Option DirFiles) → look path ≡ files → IsGood visits (found (walk depth look family path) (list_any (bytes_eq path) family) dir line files) →
            stack_of (found (walk depth look family path) (list_any (bytes_eq path) family) dir line files) ++ flat_map (followed depth way) qs ≡ flat_map (followed depth way) (path ∷ qs)
        by_files None at bad = cc
        by_files (Some files) at fine = by_family (list_any (bytes_eq path) family) refl fine
          where
            by_family : (b : Bool) → list_any (bytes_eq path) family ≡ b → IsGood visits (there (walk depth look family path) b dir line files) →
                stack_of (there (walk depth look family path) b dir line files) ++ flat_map (followed depth way) qs ≡ flat_map (followed depth way) (path ∷ qs)
            by_family true is bad = cc
            by_family false is right =
                let new : has_text way path ≡ false = same path ∙ is in
                let here : followed depth way path ≡ stack_below depth parents way path = rw new refl in
                let led : known path ≡ true = leads path (rw (itself path) refl) in
                ap (λ ds. ds ++ flat_map (followed depth way) qs) (below path files visits at led many right ∙ sym here)

    all : (ps : List ParentLine) (visits : ℕ) → length family ≤ visits → IsGood visits (flat_map go ps) → ((q : List ℕ) → has_text (filter_map path_of ps) q ≡ true → known q ≡ true) →
        stack_of (flat_map go ps) ≡ flat_map (followed depth way) (filter_map path_of ps)
    all [] visits many good leads = refl
    all (p ∷ ps) visits many good leads =
        let split = parted visits (go p) (flat_map go ps) good in
        stack-append (go p) (flat_map go ps)
        ∙ ap (λ ds. stack_of (go p) ++ ds) (all ps split.after (let risen = split.risen in omega arith) split.back (λ q is. leads q (behind_first p.path (filter_map path_of ps) q is)))
        ∙ one p.line p.path visits many split.front (filter_map path_of ps) leads

  in_family : (way family : List (List ℕ)) (dir : List ℕ) → ((text : List ℕ) → has_text way text ≡ has_text family text) → (text : List ℕ) → has_text (dir ∷ way) text ≡ has_text (family ++ dir ∷ []) text
  in_family way family dir same text =
      ap (λ b. bytes_eq text dir || b) (same text) ∙ turned (bytes_eq text dir) (has_text family text) ∙ sym (list_any-append (bytes_eq text) family (dir ∷ []))
    where
      turned : (a b : Bool) → (a || b) ≡ (b || (a || false))
      turned true true = refl
      turned true false = refl
      turned false true = refl
      turned false false = refl

  abbrev next : ℕ → List (List ℕ) → List ℕ → ParentLine → List Met
  next depth family dir = at_parent (walk depth look family) look family dir

  abbrev IsWhole : ℕ → (family way : List (List ℕ)) → List ℕ → DirFiles → Type 0
  IsWhole depth family way dir files =
      stack_of (visit dir ∷ (eapi_fault dir files ++ (flat_map (next depth family dir) (parents_of dir files) ++ leave dir ∷ []))) ≡ flat_map (followed depth (dir ∷ way)) (parents dir) ++ dir ∷ []

  walks_below : (depth : ℕ) (above way : List (List ℕ)) (dir : List ℕ) (files : DirFiles) (visits : ℕ) → ((text : List ℕ) → has_text way text ≡ has_text above text) → look dir ≡ Some files → known dir ≡ true →
      most_visits ≤ depth + length above → length above ≤ visits → IsGood visits (walk depth look above dir files) → stack_of (walk depth look above dir files) ≡ stack_below depth parents way dir
  walks_below zero above way dir files visits same at led deep many good =
      let past : nat_lt visits most_visits ≡ false = not_below visits most_visits (omega arith) in
      no_fault TooMany (rw past at good)
  walks_below (suc depth) above way dir files visits same at led deep many good =
      by_visit (nat_lt visits most_visits) refl
      (λ path more v is l m g. walks_below depth (above ++ dir ∷ []) (dir ∷ way) path more v (in_family way above dir same) is l (simp length-append (omega arith)) m g)
    where
      behind : Below depth (above ++ dir ∷ []) (dir ∷ way) → has_bad_eapi files ≡ false → IsGood (visits + 1) (flat_map (next depth (above ++ dir ∷ []) dir) (parents_of dir files) ++ leave dir ∷ []) → IsWhole depth (above ++ dir ∷ []) way dir files
      behind below fine ok =
          let split = parted (visits + 1) (flat_map (next depth (above ++ dir ∷ []) dir) (parents_of dir files)) (leave dir ∷ []) ok in
          let paths : parents dir ≡ paths_of dir files = are.agree dir files at led in
          let leads = λ (q : List ℕ) (is : has_text (paths_of dir files) q ≡ true). are.closed dir q led (ap (λ ds. has_text ds q) paths ∙ is) in
          rw fine (stack-append (flat_map (next depth (above ++ dir ∷ []) dir) (parents_of dir files)) (leave dir ∷ [])
          ∙ ap (λ ds. ds ++ dir ∷ []) (all depth (above ++ dir ∷ []) (dir ∷ way) dir (in_family way above dir same) below (parents_of dir files) (visits + 1) (simp length-append (omega arith)) split.front leads
          ∙ ap (flat_map (followed depth (dir ∷ way))) (sym paths)))

      by_eapi : Below depth (above ++ dir ∷ []) (dir ∷ way) → (b : Bool) → has_bad_eapi files ≡ b → IsGood (visits + 1) (eapi_fault dir files ++ (flat_map (next depth (above ++ dir ∷ []) dir) (parents_of dir files) ++ leave dir ∷ [])) → IsWhole depth (above ++ dir ∷ []) way dir files
      by_eapi below true is bad = no_fault (BadEapi (eapi_path dir)) (rw is at bad)
      by_eapi below false is ok = behind below is (rw is at ok)

      by_visit : (b : Bool) → nat_lt visits most_visits ≡ b → Below depth (above ++ dir ∷ []) (dir ∷ way) → IsWhole depth (above ++ dir ∷ []) way dir files
      by_visit true is below = by_eapi below (has_bad_eapi files) refl (rw is at good)
      by_visit false is below = no_fault TooMany (rw is at good)

pub line_below : (look : Look) (known : List ℕ → Bool) (parents : List ℕ → List (List ℕ)) (line : DescLine) (dir : List ℕ) → AreParents look known parents → known dir ≡ true →
    stack_fault look line ≡ None → line_dir line ≡ Some dir → stack_of (line_walk look line) ≡ stack_below most_visits parents [] dir
unfolding walk_below
line_below look known parents line dir are led good is = by (line_dir line) is good
  where
    by : (o : Option (List ℕ)) → o ≡ Some dir → first_fault 0 (from_dir look line o) ≡ None → stack_of (from_dir look line o) ≡ stack_below most_visits parents [] dir
    by None none ok = cc
    by (Some d) same ok = by_files d (let e : d ≡ dir = cc in e) (look d) refl ok
      where
        by_files : (d : List ℕ) → d ≡ dir → (files : Option DirFiles) → look d ≡ files → first_fault 0 (from_files look line d files) ≡ None →
            stack_of (from_files look line d files) ≡ stack_below most_visits parents [] dir
        by_files d e None at bad = cc
        by_files d e (Some files) at fine =
            walks_below look known parents are (most_visits - 0) [] [] d files 0 (λ text. refl) at (ap known e ∙ led) (omega arith) (omega arith) fine ∙ ap (stack_below most_visits parents []) e
