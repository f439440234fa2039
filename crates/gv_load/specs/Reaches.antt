-- Lemmas, no rule, for this crate and those above: what is ahead, as directories are reached and read.
use Rattle.std.proofs.Common.{◌≡◌, ℕ, ◌+◌, ◌-◌, ◌<◌, zero, suc, List, [], ◌∷◌, ◌++◌, Bool, true, false, cond, ◌||◌, Some, None, length, drop, refl, sym, ap, subst, ◌∙◌, length-append, append_assoc, append-nil, arith}
use Rattle.std.specs.Prelude.{fold, Option, slice_get, if◌then◌else◌, Ok}
use Rattle.std.specs.List.{list_any}
use Rattle.std.specs.Str.{bytes_eq}
use Rattle.std.specs.BTreeMap.{is_at}
use Rattle.std.specs.FinMap.{get, insert, get-insert, empty, get-empty}
use Rattle.std.specs.Cmp.Lexicographic.{nat_list_cmp_total}
use Rattle.std.proofs.lemmas.Map.Text.{is_eq-slice_cmp}
use Rattle.gv_base.specs.FileMap.{FileMap}
use Rattle.gv_base.specs.Order.{byte_cmp, has_text}
use Rattle.gv_profile.specs.Dirs.{DirMap}
use Rattle.gv_profile.specs.declared.files.DirFiles.{DirFiles}
use Rattle.gv_reading.specs.declared.faults.LoadFault.{LoadFault}
use Rattle.gv_load.specs.declared.reaching.Ahead.{Ahead}
use Rattle.gv_load.specs.declared.reaching.Reached.{Reached}
use Rattle.gv_load.specs.Ahead.{reached_after, ahead_of, dirs_with, KeepsDirs}
use Rattle.gv_load.specs.Directories.{steps_of, dir_at, dir_steps}
use Rattle.gv_reading.specs.Causes.{Cause, HasRead, IsOfPath, View, IsTold, look_in}
use Rattle.gv_reading.specs.Reader.{Seen}
use Rattle.gv_reading.specs.Look.{Look}
use Rattle.gv_load.specs.Reaching.{Dirs, reach, reach_below, most_depth, paths_of, with_parents, from_line, reached_by}
use Rattle.gv_profile.specs.Walking.{line_dir}
use Rattle.gv_profile.specs.declared.desc.DescLine.{DescLine}
use Rattle.gv_reading.specs.Reading.{IsAsked, Out, passed, and_then}
use Rattle.gv_reading.specs.Passing.{asked_as, asked_behind, asked_first, passed-append, same_cause, same_path}
use Rattle.gv_load.specs.ListLemmas.{dropped, has_last, nothing_dropped, same_bytes}

-- ---- the last ones are gone to first
pub after_pushed : (dirs : Dirs) (height : ℕ) (as_ : List Ahead) (a : Ahead) (reached : List (List ℕ)) →
    reached_after dirs height (as_ ++ a ∷ []) reached ≡ reached_after dirs height as_ (fold (reach_below dirs (height + length as_ + 1)) reached (drop a.next a.paths))
after_pushed dirs height [] a reached = let e : suc height ≡ height + 0 + 1 = omega arith in ap (λ h. fold (reach_below dirs h) reached (drop a.next a.paths)) e
after_pushed dirs height (b ∷ bs) a reached =
    let e : suc height + length bs + 1 ≡ height + suc (length bs) + 1 = omega arith in
    ap (λ r. fold (reach_below dirs (suc height)) r (drop b.next b.paths)) (after_pushed dirs (suc height) bs a reached ∙ ap (λ h. reached_after dirs (suc height) bs (fold (reach_below dirs h) reached (drop a.next a.paths))) e)

-- one level of it
reached_now : (dirs : Dirs) (height : ℕ) (reached : List (List ℕ)) (dir : List ℕ) → height < most_depth →
    reach_below dirs height reached dir ≡ (if has_text reached dir then reached else with_parents (reach_below dirs (height + 1)) (reached ++ dir ∷ []) dir (dirs dir))
unfolding reach_below
reached_now dirs height reached dir low =
    let one : most_depth - height ≡ suc (most_depth - (height + 1)) = omega arith in
    rw one refl

-- reached before
pub known : (dirs : Dirs) (height : ℕ) (reached : List (List ℕ)) (dir : List ℕ) → height < most_depth → has_text reached dir ≡ true → reach_below dirs height reached dir ≡ reached
known dirs height reached dir low before = reached_now dirs height reached dir low ∙ (rw before refl)

-- a new one
pub new_dir : (dirs : Dirs) (ahead now : List Ahead) (reached : List (List ℕ)) (dir : List ℕ) → length ahead < most_depth → has_text reached dir ≡ false → now ≡ ahead ++ ahead_of dir (dirs dir) →
    reached_after dirs 0 now (reached ++ dir ∷ []) ≡ reached_after dirs 0 ahead (reach_below dirs (length ahead) reached dir)
new_dir dirs ahead now reached dir low new is = ap (λ ns. reached_after dirs 0 ns (reached ++ dir ∷ [])) is ∙ by (dirs dir) refl
  where
    by : (o : Option DirFiles) → dirs dir ≡ o → reached_after dirs 0 (ahead ++ ahead_of dir o) (reached ++ dir ∷ []) ≡ reached_after dirs 0 ahead (reach_below dirs (length ahead) reached dir)
    by None none =
        let here : reach_below dirs (length ahead) reached dir ≡ reached ++ dir ∷ [] = reached_now dirs (length ahead) reached dir low ∙ (rw (new, none) refl) in
        ap (λ ns. reached_after dirs 0 ns (reached ++ dir ∷ [])) (append-nil ahead) ∙ ap (reached_after dirs 0 ahead) (sym here)
    by (Some files) some =
        let here : reach_below dirs (length ahead) reached dir ≡ fold (reach_below dirs (length ahead + 1)) (reached ++ dir ∷ []) (paths_of dir files) = reached_now dirs (length ahead) reached dir low ∙ (rw (new, some) refl) in
        let e : 0 + length ahead + 1 ≡ length ahead + 1 = omega arith in
        after_pushed dirs 0 ahead (record { paths = paths_of dir files; next = 0 }) (reached ++ dir ∷ [])
        ∙ ap (λ h. reached_after dirs 0 ahead (fold (reach_below dirs h) (reached ++ dir ∷ []) (paths_of dir files))) e
        ∙ ap (reached_after dirs 0 ahead) (sym here)

-- the next parent
pub next_path : (dirs : Dirs) (ahead now : List Ahead) (rest : Ahead) (reached : List (List ℕ)) (path : List ℕ) → slice_get rest.paths rest.next ≡ Some path →
    now ≡ ahead ++ record { paths = rest.paths; next = rest.next + 1 } ∷ [] →
    reached_after dirs 0 now (reach_below dirs (length now) reached path) ≡ reached_after dirs 0 (ahead ++ rest ∷ []) reached
next_path dirs ahead now rest reached path there is =
    let longer : length (ahead ++ record { paths = rest.paths; next = rest.next + 1 } ∷ []) ≡ 0 + length ahead + 1 = length-append ahead (record { paths = rest.paths; next = rest.next + 1 } ∷ []) ∙ omega arith in
    rw (is, longer, after_pushed dirs 0 ahead rest reached, dropped rest.paths rest.next path there) (after_pushed dirs 0 ahead (record { paths = rest.paths; next = rest.next + 1 }) (reach_below dirs (0 + length ahead + 1) reached path))

-- no more parents
pub no_path : (dirs : Dirs) (ahead : List Ahead) (rest : Ahead) (reached : List (List ℕ)) → slice_get rest.paths rest.next ≡ None → reached_after dirs 0 ahead reached ≡ reached_after dirs 0 (ahead ++ rest ∷ []) reached
no_path dirs ahead rest reached none = sym (after_pushed dirs 0 ahead rest reached ∙ (rw (nothing_dropped rest.paths rest.next none) refl))

-- ---- what is reached is added at the end
abbrev pub Begins : List (List ℕ) → List (List ℕ) → Type 0
Begins front whole = (more : List (List ℕ)) × (whole ≡ front ++ more)

same : (r : List (List ℕ)) → Begins r r
same r = ([], sym (append-nil r))

through : (a b c : List (List ℕ)) → Begins a b → Begins b c → Begins a c
through a b c ab bc = (ab.0 ++ bc.0, bc.1 ∙ ap (λ x. x ++ bc.0) ab.1 ∙ append_assoc a ab.0 bc.0)

pub folded : (go : List (List ℕ) → List ℕ → List (List ℕ)) → ((r : List (List ℕ)) (p : List ℕ) → Begins r (go r p)) → (r ps : List (List ℕ)) → Begins r (fold go r ps)
folded go grows r [] = same r
folded go grows r (p ∷ ps) = through r (go r p) (fold go (go r p) ps) (grows r p) (folded go grows (go r p) ps)

pub parents_grow : (go : List (List ℕ) → List ℕ → List (List ℕ)) → ((s : List (List ℕ)) (p : List ℕ) → Begins s (go s p)) → (r : List (List ℕ)) (dir : List ℕ) (o : Option DirFiles) → Begins r (with_parents go r dir o)
parents_grow go grows r dir None = same r
parents_grow go grows r dir (Some files) = folded go grows r (paths_of dir files)

pub reach_grows : (depth : ℕ) (dirs : Dirs) (r : List (List ℕ)) (dir : List ℕ) → Begins r (reach depth dirs r dir)
reach_grows zero dirs r dir = same r
reach_grows (suc depth) dirs r dir =
    elim (has_text r dir) as (λ b. Begins r (if b then r else with_parents (reach depth dirs) (r ++ dir ∷ []) dir (dirs dir))) [
      | true ↦ same r
      | false ↦ through r (r ++ dir ∷ []) (with_parents (reach depth dirs) (r ++ dir ∷ []) dir (dirs dir)) (dir ∷ [], refl) (parents_grow (reach depth dirs) (reach_grows depth dirs) (r ++ dir ∷ []) dir (dirs dir))
    ]

pub below_grows : (dirs : Dirs) (height : ℕ) (r : List (List ℕ)) (dir : List ℕ) → Begins r (reach_below dirs height r dir)
unfolding reach_below
below_grows dirs height r dir = reach_grows (most_depth - height) dirs r dir

after_grows : (dirs : Dirs) (height : ℕ) (ahead : List Ahead) (r : List (List ℕ)) → Begins r (reached_after dirs height ahead r)
after_grows dirs height [] r = same r
after_grows dirs height (a ∷ as_) r =
    through r (reached_after dirs (suc height) as_ r) _ (after_grows dirs (suc height) as_ r) (folded (reach_below dirs (suc height)) (below_grows dirs (suc height)) (reached_after dirs (suc height) as_ r) (drop a.next a.paths))

pub new_begins : (dirs : Dirs) (ahead : List Ahead) (reached : List (List ℕ)) (dir : List ℕ) → length ahead < most_depth → has_text reached dir ≡ false →
    Begins (reached ++ dir ∷ []) (reached_after dirs 0 ahead (reach_below dirs (length ahead) reached dir))
new_begins dirs ahead reached dir low new =
    let here : reach_below dirs (length ahead) reached dir ≡ with_parents (reach_below dirs (length ahead + 1)) (reached ++ dir ∷ []) dir (dirs dir) = reached_now dirs (length ahead) reached dir low ∙ rw new refl in
    through (reached ++ dir ∷ []) (reach_below dirs (length ahead) reached dir) _
    (subst (λ (r : List (List ℕ)). Begins (reached ++ dir ∷ []) r) (sym here) (parents_grow (reach_below dirs (length ahead + 1)) (below_grows dirs (length ahead + 1)) (reached ++ dir ∷ []) dir (dirs dir)))
    (after_grows dirs 0 ahead (reach_below dirs (length ahead) reached dir))

-- ---- reading what is reached
steps-append : (look : Look) (xs ys : List (List ℕ)) → steps_of look (xs ++ ys) ≡ steps_of look xs ++ steps_of look ys
steps-append look [] ys = refl
steps-append look (x ∷ xs) ys = ap (λ s. dir_steps look x ++ s) (steps-append look xs ys) ∙ sym (append_assoc (dir_steps look x) (steps_of look xs) (steps_of look ys))

one_dir : (look : Look) (dir : List ℕ) → steps_of look (dir ∷ []) ≡ dir_steps look dir
one_dir look dir = append-nil (dir_steps look dir)

pub read_more : {before now : View} {old new : Seen} {P : Look → Type 0} (start : Seen) (order after : List (List ℕ)) (dir : List ℕ) → after ≡ order ++ dir ∷ [] → HasRead before now (λ look. dir_steps look dir) P old new →
    IsTold before.told → passed (look_in before.told) start (steps_of (look_in before.told) order) ≡ Ok old → passed (look_in before.told) start (steps_of (look_in before.told) after) ≡ Ok new
read_more {before = before} {old = old} start order after dir is one t so_far =
    let look = look_in before.told in
    ap (λ ds. passed look start (steps_of look ds)) is
    ∙ ap (passed look start) (steps-append look order (dir ∷ []))
    ∙ passed-append look start (steps_of look order) (steps_of look (dir ∷ []))
    ∙ ap (λ (o : Out). and_then o (λ n. passed look n (steps_of look (dir ∷ [])))) so_far
    ∙ ap (passed look old) (one_dir look dir)
    ∙ one.passed t

pub refused_there : (told : Option FileMap) (before now : ℕ) (start old : Seen) (order whole : List (List ℕ)) (dir : List ℕ) (fault : LoadFault) → Begins (order ++ dir ∷ []) whole →
    (IsTold told → passed (look_in told) start (steps_of (look_in told) order) ≡ Ok old) → Cause told before now (passed (look_in told) old (dir_steps (look_in told) dir)) fault →
    Cause told before now (passed (look_in told) start (steps_of (look_in told) whole)) fault
refused_there told before now start old order whole dir fault begins so_far cause =
    same_cause told before now _ _ fault (λ t f is.
    let look = look_in told in
    ap (λ ds. passed look start (steps_of look ds)) (begins.1 ∙ append_assoc order (dir ∷ []) begins.0)
    ∙ ap (passed look start) (steps-append look order (dir ∷ begins.0))
    ∙ passed-append look start (steps_of look order) (steps_of look (dir ∷ begins.0))
    ∙ ap (λ (o : Out). and_then o (λ n. passed look n (steps_of look (dir ∷ begins.0)))) (so_far t)
    ∙ passed-append look old (dir_steps look dir) (steps_of look begins.0)
    ∙ ap (λ (o : Out). and_then o (λ n. passed look n (steps_of look begins.0))) is) cause

pub same_whole : (told : Option FileMap) (before now : ℕ) (start : Seen) (a b : List (List ℕ)) (fault : LoadFault) → (IsTold told → b ≡ a) →
    Cause told before now (passed (look_in told) start (steps_of (look_in told) a)) fault → Cause told before now (passed (look_in told) start (steps_of (look_in told) b)) fault
same_whole told before now start a b fault same cause = same_cause told before now _ _ fault (λ t f is. ap (λ ds. passed (look_in told) start (steps_of (look_in told) ds)) (same t) ∙ is) cause

pub whole_begins : (told : Option FileMap) (before now : ℕ) (start : Seen) (part whole : List (List ℕ)) (fault : LoadFault) → Begins part whole →
    Cause told before now (passed (look_in told) start (steps_of (look_in told) part)) fault → Cause told before now (passed (look_in told) start (steps_of (look_in told) whole)) fault
whole_begins told before now start part whole fault begins cause =
    same_cause told before now _ _ fault (λ t f is.
    let look = look_in told in
    ap (λ ds. passed look start (steps_of look ds)) begins.1
    ∙ ap (passed look start) (steps-append look part begins.0)
    ∙ passed-append look start (steps_of look part) (steps_of look begins.0)
    ∙ ap (λ (o : Out). and_then o (λ n. passed look n (steps_of look begins.0))) is) cause

line_grows : (dirs : Dirs) (r : List (List ℕ)) (dir : Option (List ℕ)) → Begins r (from_line dirs r dir)
line_grows dirs r None = same r
line_grows dirs r (Some dir) = below_grows dirs 0 r dir

pub lines_grow : (dirs : Dirs) (r : List (List ℕ)) (lines : List DescLine) → Begins r (reached_by dirs r lines)
lines_grow dirs r [] = same r
lines_grow dirs r (line ∷ lines) = through r (from_line dirs r (line_dir line)) _ (line_grows dirs r (line_dir line)) (lines_grow dirs (from_line dirs r (line_dir line)) lines)

-- ---- the path of a fault
module _ (told : Option FileMap) (start : Seen) where
  pub asked_there : (old : Seen) (order whole : List (List ℕ)) (dir : List ℕ) (fault : LoadFault) → Begins (order ++ dir ∷ []) whole →
      (IsTold told → passed (look_in told) start (steps_of (look_in told) order) ≡ Ok old) → IsOfPath (λ path. IsTold told → IsAsked (look_in told) old (dir_steps (look_in told) dir) path) fault →
      IsOfPath (λ path. IsTold told → IsAsked (look_in told) start (steps_of (look_in told) whole) path) fault
  asked_there old order whole dir fault begins so_far =
      same_path fault (λ path asked t.
      let look = look_in told in
      asked_as look start _ _ path (ap (steps_of look) (begins.1 ∙ append_assoc order (dir ∷ []) begins.0) ∙ steps-append look order (dir ∷ begins.0))
      (asked_behind look start old (steps_of look order) (steps_of look (dir ∷ begins.0)) path (so_far t) (asked_first look old (dir_steps look dir) (steps_of look begins.0) path (asked t))))

  pub asked_whole : (a b : List (List ℕ)) (fault : LoadFault) → (IsTold told → b ≡ a) → IsOfPath (λ path. IsTold told → IsAsked (look_in told) start (steps_of (look_in told) a) path) fault →
      IsOfPath (λ path. IsTold told → IsAsked (look_in told) start (steps_of (look_in told) b) path) fault
  asked_whole a b fault same = same_path fault (λ path asked t. asked_as (look_in told) start _ _ path (ap (steps_of (look_in told)) (same t)) (asked t))

  asked_begins : (part whole : List (List ℕ)) (fault : LoadFault) → Begins part whole → IsOfPath (λ path. IsTold told → IsAsked (look_in told) start (steps_of (look_in told) part) path) fault →
      IsOfPath (λ path. IsTold told → IsAsked (look_in told) start (steps_of (look_in told) whole) path) fault
  asked_begins part whole fault begins =
      same_path fault (λ path asked t.
      let look = look_in told in
      asked_as look start _ _ path (ap (steps_of look) begins.1 ∙ steps-append look part begins.0) (asked_first look start (steps_of look part) (steps_of look begins.0) path (asked t)))

  pub asked_line : (order : List (List ℕ)) (lines left behind : List DescLine) (line : DescLine) (fault : LoadFault) →
      left ≡ line ∷ behind → (IsTold told → reached_by (dir_at (look_in told)) order left ≡ reached_by (dir_at (look_in told)) [] lines) →
      IsOfPath (λ path. IsTold told → IsAsked (look_in told) start (steps_of (look_in told) (from_line (dir_at (look_in told)) order (line_dir line))) path) fault →
      IsOfPath (λ path. IsTold told → IsAsked (look_in told) start (steps_of (look_in told) (reached_by (dir_at (look_in told)) [] lines)) path) fault
  asked_line order lines left behind line fault next so_far asked =
      let dirs = dir_at (look_in told) in
      asked_whole (reached_by dirs order (line ∷ behind)) _ fault (λ t. sym (so_far t) ∙ ap (reached_by dirs order) next)
      (asked_begins (from_line dirs order (line_dir line)) (reached_by dirs order (line ∷ behind)) fault (lines_grow dirs (from_line dirs order (line_dir line)) behind) asked)

-- ---- what is kept is what the tree holds
got : (dirs : DirMap) (dir path : List ℕ) (files : DirFiles) → get (insert dirs dir files) path ≡ cond (bytes_eq path dir) (Some files) (get dirs path)
got dirs dir path files = get-insert nat_list_cmp_total dirs dir files path ∙ ap (λ b. cond b (Some files) (get dirs path)) (is_eq-slice_cmp path dir)

if_none : (b : Bool) → (let o : Option DirFiles = if b then None else None in o) ≡ None
if_none true = refl
if_none false = refl

pub keeps_more : (look : Look) (reached after : Reached) (dir : List ℕ) → after.order ≡ reached.order ++ dir ∷ [] → after.dirs ≡ dirs_with reached.dirs dir (dir_at look dir) →
    KeepsDirs look reached → KeepsDirs look after
keeps_more look reached after dir is dirs keeps path =
    ap (λ (m : DirMap). get m path) dirs ∙ by (dir_at look dir) refl (bytes_eq path dir) refl
    ∙ ap (λ b. if b then dir_at look path else None) (sym (ap (λ ds. has_text ds path) is ∙ has_last reached.order dir path))
  where
    other : (b : Bool) → bytes_eq path dir ≡ b → (if bytes_eq path dir || has_text reached.order path then dir_at look path else None) ≡ (if b || has_text reached.order path then dir_at look path else None)
    other b is = ap (λ (c : Bool). let o : Option DirFiles = if c || has_text reached.order path then dir_at look path else None in o) is

    here : (o : Option DirFiles) → dir_at look dir ≡ o → bytes_eq path dir ≡ true → dir_at look path ≡ o
    here o at hit = ap (dir_at look) (same_bytes path dir hit) ∙ at

    by : (o : Option DirFiles) → dir_at look dir ≡ o → (b : Bool) → bytes_eq path dir ≡ b → get (dirs_with reached.dirs dir o) path ≡ (if bytes_eq path dir || has_text reached.order path then dir_at look path else None)
    by None none true hit = keeps path ∙ ap (λ (o : Option DirFiles). let p : Option DirFiles = if has_text reached.order path then o else None in p) (here None none hit) ∙ if_none (has_text reached.order path) ∙ sym (other true hit ∙ here None none hit)
    by None none false miss = keeps path ∙ sym (other false miss)
    by (Some files) some true hit = got reached.dirs dir path files ∙ ap (λ (b : Bool). cond b (Some files) (get reached.dirs path)) hit ∙ sym (other true hit ∙ here (Some files) some hit)
    by (Some files) some false miss = got reached.dirs dir path files ∙ ap (λ (b : Bool). cond b (Some files) (get reached.dirs path)) miss ∙ keeps path ∙ sym (other false miss)

pub keeps_nothing : (look : Look) (reached : Reached) → reached.order ≡ [] → reached.dirs ≡ empty → KeepsDirs look reached
keeps_nothing look reached order dirs path = rw (order, dirs) (get-empty byte_cmp path)

-- ---- the loops, where a later tree has the same files
pub loop_refused : (there told : Option FileMap) → there ≡ told → (before mid now : ℕ) → mid ≡ before → (start : Seen) (part whole : Look → List (List ℕ)) (fault : LoadFault) →
    (IsTold told → whole (look_in told) ≡ part (look_in told)) →
    Cause there mid now (passed (look_in there) start (steps_of (look_in there) (part (look_in there)))) fault →
    Cause told before now (passed (look_in told) start (steps_of (look_in told) (whole (look_in told)))) fault
loop_refused there told is before mid now calm start part whole fault same cause =
    same_whole told before now start (part (look_in told)) (whole (look_in told)) fault same
    (subst (λ (n : ℕ). Cause told n now (passed (look_in told) start (steps_of (look_in told) (part (look_in told)))) fault) calm
    (subst (λ (o : Option FileMap). Cause o mid now (passed (look_in o) start (steps_of (look_in o) (part (look_in o)))) fault) is cause))

pub line_refused : (there told : Option FileMap) → there ≡ told → (before mid now : ℕ) → mid ≡ before → (start : Seen) (order : List (List ℕ)) (lines left behind : List DescLine) (line : DescLine) (fault : LoadFault) →
    left ≡ line ∷ behind → (IsTold told → reached_by (dir_at (look_in told)) order left ≡ reached_by (dir_at (look_in told)) [] lines) →
    Cause there mid now (passed (look_in there) start (steps_of (look_in there) (from_line (dir_at (look_in there)) order (line_dir line)))) fault →
    Cause told before now (passed (look_in told) start (steps_of (look_in told) (reached_by (dir_at (look_in told)) [] lines))) fault
line_refused there told is before mid now calm start order lines left behind line fault next so_far cause =
    let here = loop_refused there told is before mid now calm start (λ look. from_line (dir_at look) order (line_dir line)) (λ look. from_line (dir_at look) order (line_dir line)) fault (λ t. refl) cause in
    same_whole told before now start (reached_by (dir_at (look_in told)) order (line ∷ behind)) _ fault (λ t. sym (so_far t) ∙ ap (reached_by (dir_at (look_in told)) order) next)
    (whole_begins told before now start (from_line (dir_at (look_in told)) order (line_dir line)) (reached_by (dir_at (look_in told)) order (line ∷ behind)) fault (lines_grow (dir_at (look_in told)) (from_line (dir_at (look_in told)) order (line_dir line)) behind) here)
