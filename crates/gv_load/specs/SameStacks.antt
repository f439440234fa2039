-- Lemmas, no rule, for this crate and those above: a stack asks only for directories that were reached.
use Rattle.std.proofs.Common.{◌≡◌, ℕ, ◌-◌, zero, suc, List, [], ◌∷◌, ◌++◌, Bool, true, false, Some, None, length, refl, sym, ap, subst, ◌∙◌, arith}
use Rattle.std.specs.Option.{option_or}
use Rattle.std.specs.Prelude.{Option, option_to_list, fold, filter_map, flat_map, if◌then◌else◌}
use Rattle.std.specs.List.{list_any}
use Rattle.std.specs.Str.{bytes_eq}
use Rattle.std.specs.FinMap.{get}
use Rattle.std.proofs.lemmas.Slice.Eq.{bytes_eq-Decides}
use Rattle.gv_base.specs.Order.{has_text}
use Rattle.gv_profile.specs.Eapi.{has_bad_eapi}
use Rattle.gv_profile.specs.Folding.{with_dir, with_files, start, profile_with, profile_of}
use Rattle.gv_profile.specs.Names.{eapi_path}
use Rattle.gv_profile.specs.ParentFiles.{parents_of}
use Rattle.gv_profile.specs.Walking.{Look, Met, visit, fault, leave, eapi_fault, there, found, at_path, at_parent, walk, walk_below, most_visits, line_dir, from_files, from_dir, line_walk, first_fault, stack_of, stack_fault}
use Rattle.gv_profile.specs.declared.desc.DescLine.{DescLine}
use Rattle.gv_profile.specs.declared.faults.ProfileFault.{ProfileFault}
use Rattle.gv_profile.specs.declared.faults.ProfileFault.TheVariants.{BadEapi}
use Rattle.gv_profile.specs.declared.files.DirFiles.{DirFiles}
use Rattle.gv_reading.specs.declared.files.NamedFile.{NamedFile}
use Rattle.gv_profile.specs.declared.parent_files.ParentLine.{ParentLine}
use Rattle.gv_load.specs.declared.reaching.Reached.{Reached}
use Rattle.gv_load.specs.Ahead.{KeepsDirs}
use Rattle.gv_load.specs.Closed.{parent_paths, IsClosed, HaveSameStacks}
use Rattle.gv_load.specs.Directories.{dir_at}
use Rattle.gv_reading.specs.Look as looks
use Rattle.gv_load.specs.Reaching.{Dirs, reach_below, from_line, reached_by}
use Rattle.gv_load.specs.Stacks.{error_in, error_at, unless, profile_at}
use Rattle.gv_load.specs.StackLimits.{limit_of, limit_at, first_limit}
use Rattle.gv_load.specs.Reaches.{known, new_begins, lines_grow}
use Rattle.gv_load.specs.ListLemmas.{in_back, in_front, on_left, on_right}

-- the two say the same of what was reached
abbrev pub AgreeOn : List (List ℕ) → (here there : Look) → Type 0
AgreeOn reached here there = (path : List ℕ) → has_text reached path ≡ true → here path ≡ there path

-- what is left was reached
abbrev Leaves : List (List ℕ) → List Met → Type 0
Leaves reached [] = Unit {0}
Leaves reached (visit dir ∷ ms) = Leaves reached ms
Leaves reached (fault what ∷ ms) = Leaves reached ms
Leaves reached (leave dir ∷ ms) = (has_text reached dir ≡ true) × Leaves reached ms

-- the same is met, and what is left was reached
record Same (reached : List (List ℕ)) (these those : List Met) : Type 0 where
  pub is : these ≡ those
  pub leaves : Leaves reached those

leaves_both : (reached : List (List ℕ)) (xs ys : List Met) → Leaves reached xs → Leaves reached ys → Leaves reached (xs ++ ys)
leaves_both reached [] ys lx ly = ly
leaves_both reached (visit dir ∷ xs) ys lx ly = leaves_both reached xs ys lx ly
leaves_both reached (fault what ∷ xs) ys lx ly = leaves_both reached xs ys lx ly
leaves_both reached (leave dir ∷ xs) ys lx ly = (lx.0, leaves_both reached xs ys lx.1 ly)

both : (reached : List (List ℕ)) (xs xs' ys ys' : List Met) → Same reached xs xs' → Same reached ys ys' → Same reached (xs ++ ys) (xs' ++ ys')
both reached xs xs' ys ys' sx sy = record {
  is = ap (λ ms. ms ++ ys) sx.is ∙ ap (λ ms. xs' ++ ms) sy.is;
  leaves = leaves_both reached xs' ys' sx.leaves sy.leaves;
}

leaves_eapi : (reached : List (List ℕ)) (dir : List ℕ) (files : DirFiles) → Leaves reached (eapi_fault dir files)
leaves_eapi reached dir files = elim (has_bad_eapi files) as (λ b. Leaves reached (if b then fault (BadEapi (eapi_path dir)) ∷ [] else [])) [
  | true ↦ tt
  | false ↦ tt
]

-- ---- one parent, where the walk goes on in the same way
abbrev Go : Type 0
Go = List ℕ → DirFiles → List Met

abbrev GoSame : List (List ℕ) → Look → (g h : Go) → Type 0
GoSame reached look g h = (path : List ℕ) (files : DirFiles) → has_text reached path ≡ true → look path ≡ Some files → Same reached (g path files) (h path files)

there_same : (reached : List (List ℕ)) (go go' : DirFiles → List Met) (again : Bool) (dir : List ℕ) (line : ℕ) (files : DirFiles) → Same reached (go files) (go' files) →
    Same reached (there go again dir line files) (there go' again dir line files)
there_same reached go go' true dir line files same = record { is = refl; leaves = tt }
there_same reached go go' false dir line files same = same

found_same : (reached : List (List ℕ)) (go go' : DirFiles → List Met) (again : Bool) (dir : List ℕ) (line : ℕ) (o : Option DirFiles) → ((files : DirFiles) → o ≡ Some files → Same reached (go files) (go' files)) →
    Same reached (found go again dir line o) (found go' again dir line o)
found_same reached go go' again dir line None same = record { is = refl; leaves = tt }
found_same reached go go' again dir line (Some files) same = there_same reached go go' again dir line files (same files refl)

path_same : (reached : List (List ℕ)) (here there : Look) (go go' : Go) → AgreeOn reached here there → GoSame reached there go go' →
    (family : List (List ℕ)) (dir : List ℕ) (line : ℕ) (o : Option (List ℕ)) → ((path : List ℕ) → o ≡ Some path → has_text reached path ≡ true) →
    Same reached (at_path go here family dir line o) (at_path go' there family dir line o)
path_same reached here there go go' agree same family dir line None in_ = record { is = refl; leaves = tt }
path_same reached here there go go' agree same family dir line (Some path) in_ =
    subst (λ (o : Option DirFiles). Same reached (found (go path) (list_any (bytes_eq path) family) dir line o) (found (go' path) (list_any (bytes_eq path) family) dir line (there path))) (sym (agree path (in_ path refl)))
    (found_same reached (go path) (go' path) (list_any (bytes_eq path) family) dir line (there path) (λ files at. same path files (in_ path refl) at))

equal_bytes : (x : List ℕ) → bytes_eq x x ≡ true
equal_bytes x = (bytes_eq-Decides x x).1 refl

parents_same : (reached : List (List ℕ)) (here there : Look) (go go' : Go) → AgreeOn reached here there → GoSame reached there go go' →
    (family : List (List ℕ)) (dir : List ℕ) (ps : List ParentLine) → ((path : List ℕ) → has_text (filter_map (λ p. p.path) ps) path ≡ true → has_text reached path ≡ true) →
    Same reached (flat_map (at_parent go here family dir) ps) (flat_map (at_parent go' there family dir) ps)
parents_same reached here there go go' agree same family dir [] in_ = record { is = refl; leaves = tt }
parents_same reached here there go go' agree same family dir (p ∷ ps) in_ =
    both reached (at_parent go here family dir p) (at_parent go' there family dir p) (flat_map (at_parent go here family dir) ps) (flat_map (at_parent go' there family dir) ps)
    (path_same reached here there go go' agree same family dir p.line p.path (λ path is. in_ path (first p.path path is)))
    (parents_same reached here there go go' agree same family dir ps (λ path has. in_ path (later p.path path has)))
  where
    first : (o : Option (List ℕ)) (path : List ℕ) → o ≡ Some path → has_text (filter_map (λ (q : ParentLine). q.path) (record { path = o; line = 0 } ∷ ps)) path ≡ true
    first o path is = subst (λ (a : Option (List ℕ)). has_text (filter_map (λ (q : ParentLine). q.path) (record { path = a; line = 0 } ∷ ps)) path ≡ true) (sym is)
        (on_left (bytes_eq path path) (has_text (filter_map (λ q. q.path) ps) path) (equal_bytes path))

    later : (o : Option (List ℕ)) (path : List ℕ) → has_text (filter_map (λ q. q.path) ps) path ≡ true → has_text (filter_map (λ (q : ParentLine). q.path) (record { path = o; line = 0 } ∷ ps)) path ≡ true
    later None path has = has
    later (Some q) path has = on_right (bytes_eq path q) (has_text (filter_map (λ q. q.path) ps) path) has

-- ---- the walk
walk_same : (n : ℕ) (reached : List (List ℕ)) (here there : Look) → AgreeOn reached here there → IsClosed there reached →
    (above : List (List ℕ)) (dir : List ℕ) (files : DirFiles) → has_text reached dir ≡ true → there dir ≡ Some files → Same reached (walk n here above dir files) (walk n there above dir files)
walk_same zero reached here there agree closed above dir files in_ at = record { is = refl; leaves = tt }
walk_same (suc n) reached here there agree closed above dir files in_ at =
    let family = above ++ dir ∷ [] in
    let parents = parents_same reached here there (walk n here family) (walk n there family) agree (λ path fs i a. walk_same n reached here there agree closed family path fs i a) family dir (parents_of dir files)
    (λ path has. closed dir path in_ (ap (λ o. has_text (parent_paths dir o) path) at ∙ has)) in
    let ends : Same reached (leave dir ∷ []) (leave dir ∷ []) = record { is = refl; leaves = (in_, tt) } in
    let heads : Same reached (visit dir ∷ eapi_fault dir files) (visit dir ∷ eapi_fault dir files) = record { is = refl; leaves = leaves_eapi reached dir files } in
    both reached (visit dir ∷ eapi_fault dir files) (visit dir ∷ eapi_fault dir files) _ _ heads (both reached _ _ (leave dir ∷ []) (leave dir ∷ []) parents ends)

below_same : (reached : List (List ℕ)) (here there : Look) → AgreeOn reached here there → IsClosed there reached →
    (above : List (List ℕ)) (dir : List ℕ) (files : DirFiles) → has_text reached dir ≡ true → there dir ≡ Some files → Same reached (walk_below here above dir files) (walk_below there above dir files)
unfolding walk_below
below_same reached here there agree closed above dir files in_ at = walk_same (most_visits - length above) reached here there agree closed above dir files in_ at

line_same : (reached : List (List ℕ)) (here there : Look) → AgreeOn reached here there → IsClosed there reached →
    (line : DescLine) → ((dir : List ℕ) → line_dir line ≡ Some dir → has_text reached dir ≡ true) → Same reached (line_walk here line) (line_walk there line)
line_same reached here there agree closed line in_ = from (line_dir line) in_
  where
    files : (dir : List ℕ) → has_text reached dir ≡ true → (o : Option DirFiles) → there dir ≡ o → Same reached (from_files here line dir o) (from_files there line dir o)
    files dir here_ None at = record { is = refl; leaves = tt }
    files dir here_ (Some fs) at = below_same reached here there agree closed [] dir fs here_ at

    from : (o : Option (List ℕ)) → ((dir : List ℕ) → o ≡ Some dir → has_text reached dir ≡ true) → Same reached (from_dir here line o) (from_dir there line o)
    from None starts = record { is = refl; leaves = tt }
    from (Some dir) starts =
        subst (λ (o : Option DirFiles). Same reached (from_files here line dir o) (from_files there line dir (there dir))) (sym (agree dir (starts dir refl)))
        (files dir (starts dir refl) (there dir) refl)

-- ---- what it comes to
fold_same : {S : Type 0} (step : S → Option DirFiles → S) (reached : List (List ℕ)) (here there : Look) → AgreeOn reached here there → (ms : List Met) → Leaves reached ms → (so_far : S) →
    fold (λ s dir. step s (here dir)) so_far (stack_of ms) ≡ fold (λ s dir. step s (there dir)) so_far (stack_of ms)
fold_same step reached here there agree [] leaves so_far = refl
fold_same step reached here there agree (visit dir ∷ ms) leaves so_far = fold_same step reached here there agree ms leaves so_far
fold_same step reached here there agree (fault what ∷ ms) leaves so_far = fold_same step reached here there agree ms leaves so_far
fold_same step reached here there agree (leave dir ∷ ms) leaves so_far =
    ap (λ (o : Option DirFiles). fold (λ s d. step s (here d)) (step so_far o) (stack_of ms)) (agree dir leaves.0)
    ∙ fold_same step reached here there agree ms leaves.1 (step so_far (there dir))

fault_same : (reached : List (List ℕ)) (here there : Look) (line : DescLine) → Same reached (line_walk here line) (line_walk there line) → stack_fault here line ≡ stack_fault there line
fault_same reached here there line same = ap (first_fault 0) same.is

profile_same : (reached : List (List ℕ)) (here there : Look) → AgreeOn reached here there → (line : DescLine) → Same reached (line_walk here line) (line_walk there line) →
    (first : List NamedFile) → profile_of here first line ≡ profile_of there first line
profile_same reached here there agree line same first =
    ap (λ (ms : List Met). profile_with line (fold (with_dir here) (start first) (stack_of ms))) same.is
    ∙ ap (profile_with line) (fold_same with_files reached here there agree (line_walk there line) same.leaves (start first))

-- ---- of all lines
abbrev Starts : List (List ℕ) → List DescLine → Type 0
Starts reached [] = Unit {0}
Starts reached (line ∷ lines) = ((dir : List ℕ) → line_dir line ≡ Some dir → has_text reached dir ≡ true) × Starts reached lines

-- the stack of each line has the same fault and the same profile over either
abbrev AllSame : (here there : Look) → List DescLine → Type 0
AllSame here there [] = Unit {0}
AllSame here there (line ∷ lines) =
    ((stack_fault here line ≡ stack_fault there line) × ((first : List NamedFile) → profile_of here first line ≡ profile_of there first line))
    × AllSame here there lines

stacks_same : (reached : List (List ℕ)) (here there : Look) → AgreeOn reached here there → IsClosed there reached → (lines : List DescLine) → Starts reached lines → AllSame here there lines
stacks_same reached here there agree closed [] starts = tt
stacks_same reached here there agree closed (line ∷ lines) starts =
    let same = line_same reached here there agree closed line starts.0 in
    ((fault_same reached here there line same, profile_same reached here there agree line same), stacks_same reached here there agree closed lines starts.1)

-- the directory of a line is reached
reaches_it : (dirs : Dirs) (reached : List (List ℕ)) (dir : List ℕ) → has_text (reach_below dirs 0 reached dir) dir ≡ true
reaches_it dirs reached dir = by (has_text reached dir) refl
  where
    by : (b : Bool) → has_text reached dir ≡ b → has_text (reach_below dirs 0 reached dir) dir ≡ true
    by true is = ap (λ ds. has_text ds dir) (known dirs 0 reached dir (omega arith) is) ∙ is
    by false is =
        let more = new_begins dirs [] reached dir (omega arith) is in
        ap (λ ds. has_text ds dir) more.1 ∙ in_front (reached ++ dir ∷ []) more.0 dir (in_back reached (dir ∷ []) dir (on_left _ false (equal_bytes dir)))

from_it : (dirs : Dirs) (reached : List (List ℕ)) (o : Option (List ℕ)) (dir : List ℕ) → o ≡ Some dir → has_text (from_line dirs reached o) dir ≡ true
from_it dirs reached o dir is = subst (λ (a : Option (List ℕ)). has_text (from_line dirs reached a) dir ≡ true) (sym is) (reaches_it dirs reached dir)

lines_start : (dirs : Dirs) (reached : List (List ℕ)) (lines : List DescLine) → Starts (reached_by dirs reached lines) lines
lines_start dirs reached [] = tt
lines_start dirs reached (line ∷ lines) =
    let now = from_line dirs reached (line_dir line) in
    let more = lines_grow dirs now lines in
    (λ dir is. ap (λ ds. has_text ds dir) more.1 ∙ in_front now more.0 dir (from_it dirs reached (line_dir line) dir is), lines_start dirs now lines)

-- what was kept of the directories serves as well as the tree
kept_agree : (look : looks.Look) (reached : Reached) → KeepsDirs look reached → AgreeOn reached.order (get reached.dirs) (dir_at look)
kept_agree look reached keeps path in_ = keeps path ∙ ap (λ (b : Bool). let o : Option DirFiles = if b then dir_at look path else None in o) in_

-- ---- so is what is made of them
each : {X : Type 0} (a b : Option X) (xs ys : List X) → a ≡ b → xs ≡ ys → option_to_list a ++ xs ≡ option_to_list b ++ ys
each a b xs ys same rest = ap (λ o. option_to_list o ++ xs) same ∙ ap (λ zs. option_to_list b ++ zs) rest

met : {X Y : Type 0} (f : X → Option Y) (x : X) (xs : List X) → filter_map f (x ∷ xs) ≡ option_to_list (f x) ++ filter_map f xs
met {Y = Y} f x xs = by (f x) refl
  where
    by : (o : Option Y) → f x ≡ o → filter_map f (x ∷ xs) ≡ option_to_list (f x) ++ filter_map f xs
    by None is = rw is refl
    by (Some y) is = rw is refl

same_profiles : (here there : Look) (first : List NamedFile) (lines : List DescLine) → AllSame here there lines → filter_map (profile_at here first) lines ≡ filter_map (profile_at there first) lines
same_profiles here there first [] same = refl
same_profiles here there first (line ∷ lines) same =
    met (profile_at here first) line lines
    ∙ each (profile_at here first line) (profile_at there first line) (filter_map (profile_at here first) lines) (filter_map (profile_at there first) lines)
    (ap (λ (f : Option ProfileFault). unless f (profile_of here first line)) same.0.0 ∙ ap (unless (stack_fault there line)) (same.0.1 first))
    (same_profiles here there first lines same.1)
    ∙ sym (met (profile_at there first) line lines)

same_errors : (here there : Look) (lines : List DescLine) → AllSame here there lines → filter_map (error_at here) lines ≡ filter_map (error_at there) lines
same_errors here there [] same = refl
same_errors here there (line ∷ lines) same =
    met (error_at here) line lines
    ∙ each (error_at here line) (error_at there line) (filter_map (error_at here) lines) (filter_map (error_at there) lines) (ap error_in same.0.0) (same_errors here there lines same.1)
    ∙ sym (met (error_at there) line lines)

same_limit : (here there : Look) (lines : List DescLine) → AllSame here there lines → first_limit here lines ≡ first_limit there lines
same_limit here there [] same = refl
same_limit here there (line ∷ lines) same =
    ap (λ (f : Option ProfileFault). option_or (limit_of line f) (first_limit here lines)) same.0.0
    ∙ ap (option_or (limit_at there line)) (same_limit here there lines same.1)

pub stacks_over : (here there : Look) (reached : List (List ℕ)) (lines : List DescLine) → AgreeOn reached here there → IsClosed there reached → reached ≡ reached_by there [] lines → HaveSameStacks here there lines
stacks_over here there reached lines agree closed is =
    let same = stacks_same reached here there agree closed lines (subst (λ (ds : List (List ℕ)). Starts ds lines) (sym is) (lines_start there [] lines)) in
    record {
      profiles = λ first. same_profiles here there first lines same;
      errors = same_errors here there lines same;
      limit = same_limit here there lines same;
    }

pub same_stacks : (look : looks.Look) (reached : Reached) (lines : List DescLine) → KeepsDirs look reached → IsClosed (dir_at look) reached.order → reached.order ≡ reached_by (dir_at look) [] lines →
    HaveSameStacks (get reached.dirs) (dir_at look) lines
same_stacks look reached lines keeps closed is = stacks_over (get reached.dirs) (dir_at look) reached.order lines (kept_agree look reached keeps) closed is
