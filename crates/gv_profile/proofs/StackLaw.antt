-- A walk that meets no fault has the stacks of the parents, then the directory.
use Rattle.std.proofs.Common.{◌≡◌, ℕ, ◌+◌, ◌≤◌, zero, suc, List, [], ◌∷◌, ◌++◌, Bool, true, false, Some, None, length, refl, sym, ap, ◌∙◌, subst, append_assoc, length-append, nat_lt, arith, ◌-◌}
use Rattle.std.specs.Prelude.{Option, flat_map}
use Rattle.std.specs.List.{list_any}
use Rattle.std.specs.Str.{bytes_eq}
use Rattle.std.proofs.lemmas.Bool.Decides.{nat_tests}
use Rattle.gv_profile.specs.declared.desc.DescLine.{DescLine}
use Rattle.gv_profile.specs.declared.faults.ProfileFault.{ProfileFault}
use Rattle.gv_profile.specs.declared.faults.ProfileFault.TheVariants.{BadEapi, TooMany}
use Rattle.gv_profile.specs.declared.files.DirFiles.{DirFiles}
use Rattle.gv_profile.specs.declared.parent_files.ParentLine.{ParentLine}
use Rattle.gv_profile.specs.Eapi.{has_bad_eapi}
use Rattle.gv_profile.specs.Names.{eapi_path}
use Rattle.gv_profile.specs.ParentFiles.{parents_of}
use Rattle.gv_profile.specs.Stacks.{AreStacks, IsLineStack, none, next}
use Rattle.gv_profile.specs.Walking.{Look, Met, at_parent, at_path, eapi_fault, fault, first_fault, found, from_dir, from_files, leave, line_dir, line_walk, most_visits, stack_fault, stack_of, there, visit, walk, walk_below}

pub stack-append : (ms ns : List Met) → stack_of (ms ++ ns) ≡ stack_of ms ++ stack_of ns
stack-append [] ns = refl
stack-append (visit dir ∷ ms) ns = stack-append ms ns
stack-append (fault what ∷ ms) ns = stack-append ms ns
stack-append (leave dir ∷ ms) ns = ap (λ ds. dir ∷ ds) (stack-append ms ns)

-- ---- walks without a fault, in parts
abbrev pub IsGood : ℕ → List Met → Type 0
IsGood visits met = first_fault visits met ≡ None

pub no_fault : {X : Type 0} (what : ProfileFault) → Some what ≡ None → X
no_fault what e = cc

-- a front without a fault, and what follows after the visits of the front
pub record Parted (visits : ℕ) (ms ns : List Met) : Type 0 where
  pub after : ℕ
  pub risen : visits ≤ after
  pub front : IsGood visits ms
  pub back : IsGood after ns

pub parted : (visits : ℕ) (ms ns : List Met) → IsGood visits (ms ++ ns) → Parted visits ms ns
parted visits [] ns good = record { after = visits; risen = omega arith; front = refl; back = good }
parted visits (visit dir ∷ ms) ns good = by (nat_lt visits most_visits) refl (parted (visits + 1) ms ns)
  where
    by : (b : Bool) → nat_lt visits most_visits ≡ b → (IsGood (visits + 1) (ms ++ ns) → Parted (visits + 1) ms ns) → Parted visits (visit dir ∷ ms) ns
    by true is rest =
        let p = rest (rw is at good) in
        let risen = p.risen in
        record { after = p.after; risen = omega arith; front = rw is p.front; back = p.back }
    by false is rest = cc
parted visits (fault what ∷ ms) ns good = cc
parted visits (leave dir ∷ ms) ns good =
    let p = parted visits ms ns good in
    record { after = p.after; risen = p.risen; front = p.front; back = p.back }

-- ---- the stack that a walk has
record Has (look : Look) (path : List ℕ) (files : DirFiles) (met : List Met) : Type 0 where
  above : List (List ℕ)
  parents : AreStacks look (parents_of path files) above
  whole : stack_of met ≡ above ++ path ∷ []

record HaveAll (look : Look) (parents : List ParentLine) (met : List Met) : Type 0 where
  stacks : List (List ℕ)
  are : AreStacks look parents stacks
  whole : stack_of met ≡ stacks

abbrev WalksGood : ℕ → Look → List (List ℕ) → Type 0
WalksGood depth look family =
    (path : List ℕ) (files : DirFiles) (visits : ℕ) → length family ≤ visits → IsGood visits (walk depth look family path files) → Has look path files (walk depth look family path files)

record ParentHas (look : Look) (parent : ParentLine) (met : List Met) : Type 0 where
  path : List ℕ
  files : DirFiles
  named : parent.path ≡ Some path
  known : look path ≡ Some files
  has : Has look path files met

one_parent : (depth : ℕ) (look : Look) (family : List (List ℕ)) (dir : List ℕ) (parent : ParentLine) (visits : ℕ) → WalksGood depth look family → length family ≤ visits →
    IsGood visits (at_parent (walk depth look family) look family dir parent) → ParentHas look parent (at_parent (walk depth look family) look family dir parent)
one_parent depth look family dir parent visits walks many good = by parent.path refl good
  where
    by : (path : Option (List ℕ)) → parent.path ≡ path → IsGood visits (at_path (walk depth look family) look family dir parent.line path) →
        ParentHas look parent (at_path (walk depth look family) look family dir parent.line path)
    by None is bad = cc
    by (Some path) is ok = by_files (look path) refl ok
      where
        again : Bool
        again = list_any (bytes_eq path) family

        by_files : (files : Option DirFiles) → look path ≡ files → IsGood visits (found (walk depth look family path) again dir parent.line files) →
            ParentHas look parent (found (walk depth look family path) again dir parent.line files)
        by_files None at bad = cc
        by_files (Some files) at fine = by_family again fine
          where
            by_family : (b : Bool) → IsGood visits (there (walk depth look family path) b dir parent.line files) →
                ParentHas look parent (there (walk depth look family path) b dir parent.line files)
            by_family true bad = cc
            by_family false right = record { path = path; files = files; named = is; known = at; has = walks path files visits many right }

all_parents : (depth : ℕ) (look : Look) (family : List (List ℕ)) (dir : List ℕ) (parents : List ParentLine) (visits : ℕ) → WalksGood depth look family → length family ≤ visits →
    IsGood visits (flat_map (at_parent (walk depth look family) look family dir) parents) →
    HaveAll look parents (flat_map (at_parent (walk depth look family) look family dir) parents)
all_parents depth look family dir [] visits walks many good = record { stacks = []; are = none; whole = refl }
all_parents depth look family dir (p ∷ ps) visits walks many good = joined (all_parents depth look family dir ps split.after walks (let risen = split.risen in omega arith) split.back)
  where
    go : ParentLine → List Met
    go = at_parent (walk depth look family) look family dir

    split : Parted visits (go p) (flat_map go ps)
    split = parted visits (go p) (flat_map go ps) good

    one : ParentHas look p (go p)
    one = one_parent depth look family dir p visits walks many split.front

    joined : HaveAll look ps (flat_map go ps) → HaveAll look (p ∷ ps) (flat_map go (p ∷ ps))
    joined rest = record {
      stacks = one.has.above ++ one.path ∷ rest.stacks;
      are = first_is;
      whole = stack-append (go p) (flat_map go ps)
          ∙ ap (λ ds. ds ++ stack_of (flat_map go ps)) one.has.whole
          ∙ ap (λ ds. (one.has.above ++ one.path ∷ []) ++ ds) rest.whole
          ∙ append_assoc one.has.above (one.path ∷ []) rest.stacks;
    }
      where
        first_is : AreStacks look (p ∷ ps) (one.has.above ++ one.path ∷ rest.stacks)
        first_is = subst (λ path. AreStacks look (record { path = path; line = p.line } ∷ ps) (one.has.above ++ one.path ∷ rest.stacks)) (sym one.named)
            (next one.path p.line one.files one.has.above rest.stacks ps one.known one.has.parents rest.are)

pub not_below : (m n : ℕ) → n ≤ m → nat_lt m n ≡ false
not_below m n h = grind (arith, nat_tests)

walks_good : (depth : ℕ) (look : Look) (above : List (List ℕ)) (dir : List ℕ) (files : DirFiles) (visits : ℕ) → most_visits ≤ depth + length above → length above ≤ visits →
    IsGood visits (walk depth look above dir files) → Has look dir files (walk depth look above dir files)
walks_good zero look above dir files visits deep many good =
    let past : nat_lt visits most_visits ≡ false = not_below visits most_visits (omega arith) in
    no_fault TooMany (rw past at good)
walks_good (suc depth) look above dir files visits deep many good =
    by_visit (nat_lt visits most_visits) refl (λ path more v m g. walks_good depth look (above ++ dir ∷ []) path more v (simp length-append (omega arith)) m g)
  where
    go : ParentLine → List Met
    go = at_parent (walk depth look (above ++ dir ∷ [])) look (above ++ dir ∷ []) dir

    behind : WalksGood depth look (above ++ dir ∷ []) → has_bad_eapi files ≡ false → IsGood (visits + 1) (flat_map go (parents_of dir files) ++ leave dir ∷ []) →
        Has look dir files (visit dir ∷ (eapi_fault dir files ++ (flat_map go (parents_of dir files) ++ leave dir ∷ [])))
    behind walks fine ok =
        let split = parted (visits + 1) (flat_map go (parents_of dir files)) (leave dir ∷ []) ok in
        let all = all_parents depth look (above ++ dir ∷ []) dir (parents_of dir files) (visits + 1) walks (simp length-append (omega arith)) split.front in
        record {
          above = all.stacks;
          parents = all.are;
          whole = rw fine (stack-append (flat_map go (parents_of dir files)) (leave dir ∷ []) ∙ ap (λ ds. ds ++ dir ∷ []) all.whole);
        }

    by_eapi : WalksGood depth look (above ++ dir ∷ []) → (b : Bool) → has_bad_eapi files ≡ b → IsGood (visits + 1) (eapi_fault dir files ++ (flat_map go (parents_of dir files) ++ leave dir ∷ [])) →
        Has look dir files (visit dir ∷ (eapi_fault dir files ++ (flat_map go (parents_of dir files) ++ leave dir ∷ [])))
    by_eapi walks true is bad = no_fault (BadEapi (eapi_path dir)) (rw is at bad)
    by_eapi walks false is ok = behind walks is (rw is at ok)

    by_visit : (b : Bool) → nat_lt visits most_visits ≡ b → WalksGood depth look (above ++ dir ∷ []) → Has look dir files (visit dir ∷ (eapi_fault dir files ++ (flat_map go (parents_of dir files) ++ leave dir ∷ [])))
    by_visit true is walks = by_eapi walks (has_bad_eapi files) refl (rw is at good)
    by_visit false is walks = no_fault TooMany (rw is at good)

pub line_stack : (look : Look) (line : DescLine) → stack_fault look line ≡ None → IsLineStack look line (stack_of (line_walk look line))
unfolding walk_below
line_stack look line good = by (line_dir line) refl good
  where
    by : (dir : Option (List ℕ)) → line_dir line ≡ dir → IsGood 0 (from_dir look line dir) → IsLineStack look line (stack_of (from_dir look line dir))
    by None is bad = cc
    by (Some dir) is ok = by_files (look dir) refl ok
      where
        by_files : (files : Option DirFiles) → look dir ≡ files → IsGood 0 (from_files look line dir files) → IsLineStack look line (stack_of (from_files look line dir files))
        by_files None at bad = cc
        by_files (Some files) at fine =
            let has = walks_good (most_visits - 0) look [] dir files 0 (omega arith) (omega arith) fine in
            record { dir = dir; at = is; is = record { files = files; above = has.above; there = at; parents = has.parents; whole = has.whole } }
