-- What the lines of a repository that is loaded reach is closed: each directory with parents has a file, no more files are
-- found than a load takes, and so no chain of parents is cut short.
use Rattle.std.proofs.Common.{◌≡◌, ℕ, ◌+◌, ◌-◌, ◌≤◌, ◌<◌, zero, suc, Bool, true, false, cond, ◌&&◌, ◌||◌, ◌⊎◌, inl, inr, List, [], ◌∷◌, ◌++◌, Some, None, length, take, map, refl, sym, ap, subst, ◌∙◌, append-nil, arith, length-append, true≢false}
use Rattle.std.specs.Prelude.{Option, Ok, Err, codes, filter, filter_map, fold, if◌then◌else◌, nat_lt, not, unwrap_or}
use Rattle.std.specs.List.{list_any}
use Rattle.std.specs.Option.{is_some}
use Rattle.std.specs.Str.{bytes_eq}
use Rattle.std.specs.FinMap.{get, insert, get-insert, get-empty}
use Rattle.std.specs.Cmp.Lexicographic.{nat_list_cmp_total}
use Rattle.std.proofs.lemmas.Bool.{and_parts, ltb-true}
use Rattle.std.proofs.lemmas.List.Elements.{filter-append}
use Rattle.std.proofs.lemmas.List.Folds.{list_any-append}
use Rattle.std.proofs.lemmas.Map.Text.{is_eq-slice_cmp}
use Rattle.std.proofs.lemmas.Slice.Eq.{bytes_eq-Decides}
use Rattle.gv_base.specs.ByteMap.{ByteMap}
use Rattle.gv_base.specs.Order.{byte_cmp, has_text}
use Rattle.gv_base.specs.Outside.{most_file_bytes}
use Rattle.gv_base.specs.declared.tree.Found.{Found}
use Rattle.gv_base.specs.declared.tree.Found.TheVariants.{File, Dir, Absent}
use Rattle.gv_profile.specs.ParentFiles.{parent_lines}
use Rattle.gv_reading.specs.Paths.{within}
use Rattle.gv_profile.specs.Walking.{line_dir}
use Rattle.gv_profile.specs.declared.desc.DescLine.{DescLine}
use Rattle.gv_profile.specs.declared.files.DirFiles.{DirFiles}
use Rattle.gv_reading.specs.declared.faults.LoadFault.{LoadFault}
use Rattle.gv_reading.specs.declared.faults.LoadFault.TheVariants.{Limit, NotARepository}
use Rattle.gv_load.specs.Closed.{IsClosed, parent_paths}
use Rattle.gv_reading.specs.Look.{Look, bytes_in}
use Rattle.gv_load.specs.Directories.{dir_as, dir_at, dir_steps, steps_as, steps_of}
use Rattle.gv_load.specs.Layout.{layout}
use Rattle.gv_reload.specs.Once.{AreDistinct}
use Rattle.gv_load.specs.Order.{desc_lines, list_steps, load_steps, packages_steps, profiles_steps, reached, stack_steps, categories}
use Rattle.gv_reading.specs.Reader.{Seen, nothing}
use Rattle.gv_load.specs.Reaching.{Dirs, from_line, most_depth, paths_of, reach, reach_below, reached_by, with_parents}
use Rattle.gv_reading.specs.Reading.{Out, Step, after, after_new, after_read, and_then, bound, if_file, let_go, list, most_files, most_path, need, once, passed, read, with_found, with_new}
use Rattle.gv_reload.proofs.Apart.{filter_distinct, map_distinct}
use Rattle.gv_reload.proofs.EntryLists.{has_filter}
use Rattle.gv_reload.proofs.OncePaths.{without_end}
use Rattle.gv_reading.specs.Passing.{passed-append}
use Rattle.gv_load.specs.Reaches.{Begins, folded, lines_grow, reach_grows}
use Rattle.gv_load.specs.ListLemmas.{by_case, has_last, in_back, in_front, itself, on_left, on_right}
use Rattle.gv_base.specs.Folders.{or_cases}

-- ---- how many of the files of a list that no text stands in twice were found
abbrev is_file : Found → Bool
is_file (File bytes) = true
is_file Dir = false
is_file Absent = false

abbrev is_known : Seen → List ℕ → Bool
is_known seen path = is_some (get seen.known path)

abbrev AreFound : Look → Seen → List (List ℕ) → Type 0
AreFound look seen paths = (path : List ℕ) → has_text paths path ≡ true → (is_known seen path ≡ true) × (is_file (look.found path) ≡ true)

record IsCounted (look : Look) (seen : Seen) : Type 0 where
  pub most : seen.found ≤ most_files
  pub all : (paths : List (List ℕ)) → AreDistinct paths → AreFound look seen paths → length paths ≤ seen.found

kept_all : (path : List ℕ) (xs : List (List ℕ)) → has_text xs path ≡ false → filter (λ x. not (bytes_eq path x)) xs ≡ xs
kept_all path [] none = refl
kept_all path (x ∷ xs) none = by (bytes_eq path x) none (kept_all path xs)
  where
    by : (b : Bool) → (b || has_text xs path) ≡ false → (has_text xs path ≡ false → filter (λ y. not (bytes_eq path y)) xs ≡ xs) → cond (not b) (x ∷ filter (λ y. not (bytes_eq path y)) xs) (filter (λ y. not (bytes_eq path y)) xs) ≡ x ∷ xs
    by true h later = cc
    by false h later = ap (λ ys. x ∷ ys) (later h)

one_less : (path : List ℕ) (xs : List (List ℕ)) → AreDistinct xs → length xs ≤ length (filter (λ x. not (bytes_eq path x)) xs) + 1
one_less path [] d = omega arith
one_less path (x ∷ xs) d = by (bytes_eq path x) refl (one_less path xs d.1)
  where
    by : (b : Bool) → bytes_eq path x ≡ b → length xs ≤ length (filter (λ y. not (bytes_eq path y)) xs) + 1 →
        suc (length xs) ≤ length (cond (not b) (x ∷ filter (λ y. not (bytes_eq path y)) xs) (filter (λ y. not (bytes_eq path y)) xs)) + 1
    by true is h =
        let none : has_text xs path ≡ false = ap (has_text xs) ((bytes_eq-Decides path x).0 is) ∙ d.0 in
        let same : length (filter (λ y. not (bytes_eq path y)) xs) ≡ length xs = ap length (kept_all path xs none) in
        omega (arith, same)
    by false is h = omega (arith, h)

-- ---- one step
abbrev GrowsBy : Seen → List ℕ → Found → Seen → Type 0
GrowsBy seen path found next =
    (next.known ≡ insert seen.known path found) × (((is_file found ≡ true) × ((next.found ≡ seen.found + 1) × (seen.found < most_files))) ⊎ ((is_file found ≡ false) × (next.found ≡ seen.found)))

ok_is : (x y : Seen) → (let o : Out = Ok x in o) ≡ Ok y → x ≡ y
ok_is x y is = cc

not_ok : {X : Type 0} (fault : LoadFault) (y : Seen) → (let o : Out = Err fault in o) ≡ Ok y → X
not_ok fault y is = cc

abbrev file_if : (large few : Bool) → Seen → List ℕ → List ℕ → Out
file_if large few seen path bytes =
    if large then Err (Limit path most_file_bytes) else (if few then Ok (with_found seen path (File bytes) (seen.found + 1)) else Err (Limit path most_files))

new_grows : (seen : Seen) (path : List ℕ) (found : Found) (next : Seen) → with_new seen path found ≡ Ok next → GrowsBy seen path found next
new_grows seen path (File bytes) next is = by (nat_lt most_file_bytes (length bytes)) (nat_lt seen.found most_files) refl is
  where
    by : (a b : Bool) → nat_lt seen.found most_files ≡ b → file_if a b seen path bytes ≡ Ok next → GrowsBy seen path (File bytes) next
    by true b less h = not_ok (Limit path most_file_bytes) next h
    by false true less h =
        let e = ok_is (with_found seen path (File bytes) (seen.found + 1)) next h in
        (sym (ap (λ (s : Seen). s.known) e), inl (refl, (sym (ap (λ (s : Seen). s.found) e), ltb-true seen.found most_files less)))
    by false false less h = not_ok (Limit path most_files) next h
new_grows seen path Dir next is =
    let e = ok_is (with_found seen path Dir seen.found) next is in
    (sym (ap (λ (s : Seen). s.known) e), inr (refl, sym (ap (λ (s : Seen). s.found) e)))
new_grows seen path Absent next is =
    let e = ok_is (with_found seen path Absent seen.found) next is in
    (sym (ap (λ (s : Seen). s.known) e), inr (refl, sym (ap (λ (s : Seen). s.found) e)))

known_by : (seen : Seen) (path : List ℕ) (found : Found) (next : Seen) → next.known ≡ insert seen.known path found → (q : List ℕ) → is_known next q ≡ (bytes_eq q path || is_known seen q)
known_by seen path found next is q =
    ap (λ (m : ByteMap Found). is_some (get m q)) is ∙ ap is_some (get-insert nat_list_cmp_total seen.known path found q ∙ ap (λ b. cond b (Some found) (get seen.known q)) (is_eq-slice_cmp q path)) ∙ by (bytes_eq q path)
  where
    by : (b : Bool) → is_some (cond b (Some found) (get seen.known q)) ≡ (b || is_known seen q)
    by true = refl
    by false = refl

-- what a step does to what was seen
record Grows (look : Look) (seen next : Seen) : Type 0 where
  pub stays : (q : List ℕ) → is_known seen q ≡ true → is_known next q ≡ true
  pub counted : IsCounted look seen → IsCounted look next

grows_not : (look : Look) (seen : Seen) → Grows look seen seen
grows_not look seen = record { stays = λ q is. is; counted = λ c. c }

grows_through : (look : Look) (a b c : Seen) → Grows look a b → Grows look b c → Grows look a c
grows_through look a b c ab bc = record { stays = λ q is. bc.stays q (ab.stays q is); counted = λ k. bc.counted (ab.counted k) }

known_before : (seen : Seen) (path q : List ℕ) (next : Seen) (found : Found) → next.known ≡ insert seen.known path found → is_known next q ≡ true → bytes_eq q path ≡ false → is_known seen q ≡ true
known_before seen path q next found is there other = sym (known_by seen path found next is q ∙ ap (λ b. b || is_known seen q) other) ∙ there

turned : (x y : List ℕ) → bytes_eq x y ≡ false → bytes_eq y x ≡ false
turned x y differ = by (bytes_eq y x) refl
  where
    by : (b : Bool) → bytes_eq y x ≡ b → b ≡ false
    by true is = absurd (true≢false (sym ((bytes_eq-Decides x y).1 (sym ((bytes_eq-Decides y x).0 is))) ∙ differ))
    by false is = refl

not_true : (b : Bool) → not b ≡ true → b ≡ false
not_true true is = cc
not_true false is = refl

new_counted : (look : Look) (seen : Seen) (path : List ℕ) (next : Seen) → GrowsBy seen path (look.found path) next → IsCounted look seen → IsCounted look next
new_counted look seen path next (known, inl file) c = record {
  most = let e = file.1.0 in let l = file.1.1 in omega (arith, e, l);
  all = λ paths distinct are.
      let others = filter (λ x. not (bytes_eq path x)) paths in
      let few = c.all others (filter_distinct (λ x. not (bytes_eq path x)) paths distinct) (λ q there.
      let parts = and_parts (not (bytes_eq path q)) (has_text paths q) (sym (has_filter (λ x. not (bytes_eq path x)) paths q) ∙ there) in
      let at = are q parts.1 in
      (known_before seen path q next (look.found path) known at.0 (turned path q (not_true (bytes_eq path q) parts.0)), at.1)) in
      let less = one_less path paths distinct in
      let e = file.1.0 in
      omega (arith, few, less, e);
}
new_counted look seen path next (known, inr other) c = record {
  most = let e = other.1 in let m = c.most in omega (arith, e, m);
  all = λ paths distinct are.
      let few = c.all paths distinct (λ q there. (known_before seen path q next (look.found path) known (are q there).0 (differs q (are q there).1), (are q there).1)) in
      let e = other.1 in
      omega (arith, few, e);
}
  where
    differs : (q : List ℕ) → is_file (look.found q) ≡ true → bytes_eq q path ≡ false
    differs q file = by (bytes_eq q path) refl
      where
        by : (b : Bool) → bytes_eq q path ≡ b → b ≡ false
        by true is = absurd (true≢false (sym file ∙ ap (λ p. is_file (look.found p)) ((bytes_eq-Decides q path).0 is) ∙ other.0))
        by false is = refl

new_all : (look : Look) (seen : Seen) (path : List ℕ) (next : Seen) → after_new look seen path ≡ Ok next → Grows look seen next × (is_known next path ≡ true)
new_all look seen path next = by (nat_lt most_path (length path))
  where
    by : (b : Bool) → (let o : Out = if b then Err (Limit path most_path) else with_new seen path (look.found path) in o) ≡ Ok next → Grows look seen next × (is_known next path ≡ true)
    by true is = not_ok (Limit path most_path) next is
    by false is =
        let g = new_grows seen path (look.found path) next is in (
          record { stays = λ q before. known_by seen path (look.found path) next g.0 q ∙ on_right (bytes_eq q path) (is_known seen q) before; counted = new_counted look seen path next g },
          known_by seen path (look.found path) next g.0 path ∙ on_left (bytes_eq path path) (is_known seen path) ((bytes_eq-Decides path path).1 refl),
        )

read_all : (look : Look) (seen : Seen) (path : List ℕ) (next : Seen) → after_read look seen path ≡ Ok next → Grows look seen next × (is_known next path ≡ true)
read_all look seen path next = by (is_known seen path) refl
  where
    by : (b : Bool) → is_known seen path ≡ b → (if b then Ok seen else after_new look seen path) ≡ Ok next → Grows look seen next × (is_known next path ≡ true)
    by true before is =
        let e = ok_is seen next is in
        (subst (Grows look seen) e (grows_not look seen), sym (ap (λ (s : Seen). is_known s path) e) ∙ before)
    by false before is = new_all look seen path next is

if_file_same : (path : List ℕ) (found : Found) (seen next : Seen) → if_file path found seen ≡ Ok next → seen ≡ next
if_file_same path (File bytes) seen next is = ok_is seen next is
if_file_same path Dir seen next is = not_ok (NotARepository path) next is
if_file_same path Absent seen next is = not_ok (NotARepository path) next is

then_is : (o : Out) (go : Seen → Out) (next : Seen) → and_then o go ≡ Ok next → (mid : Seen) × ((o ≡ Ok mid) × (go mid ≡ Ok next))
then_is (Ok mid) go next is = (mid, (refl, is))
then_is (Err fault) go next is = not_ok fault next is

abbrev reads : List ℕ → Step → Bool
reads path (read at) = bytes_eq path at
reads path (list at) = false
reads path (need at) = false
reads path (bound place most passes) = false
reads path (once at) = false

step_all : (look : Look) (seen : Seen) (step : Step) (next : Seen) → after look seen step ≡ Ok next → Grows look seen next × ((path : List ℕ) → reads path step ≡ true → is_known next path ≡ true)
step_all look seen (read at) next is =
    let r = read_all look seen at next is in
    (r.0, λ path here. ap (is_known next) ((bytes_eq-Decides path at).0 here) ∙ r.1)
step_all look seen (list at) next is = by (nat_lt most_path (length at)) is
  where
    by : (b : Bool) → (let o : Out = if b then Err (Limit at most_path) else Ok seen in o) ≡ Ok next → Grows look seen next × ((path : List ℕ) → false ≡ true → is_known next path ≡ true)
    by true h = not_ok (Limit at most_path) next h
    by false h = (subst (Grows look seen) (ok_is seen next h) (grows_not look seen), λ path here. cc)
step_all look seen (need at) next is =
    let t = then_is (after_read look seen at) (if_file at (look.found at)) next is in
    (subst (Grows look seen) (if_file_same at (look.found at) t.0 next t.1.1) (read_all look seen at t.0 t.1.0).0, λ path here. cc)
step_all look seen (bound place most passes) next is = by passes is
  where
    by : (b : Bool) → (let o : Out = if b then Err (Limit place most) else Ok seen in o) ≡ Ok next → Grows look seen next × ((path : List ℕ) → false ≡ true → is_known next path ≡ true)
    by true h = not_ok (Limit place most) next h
    by false h = (subst (Grows look seen) (ok_is seen next h) (grows_not look seen), λ path here. cc)
step_all look seen (once at) next is = by (is_known seen at) is
  where
    gone : (mid : Seen) → after_new look seen at ≡ Ok mid → Grows look seen (record { known = seen.known; found = mid.found })
    gone mid new =
        let g = (new_all look seen at mid new).0 in
        record {
          stays = λ q known. known;
          counted = λ c. record { most = (g.counted c).most; all = λ paths distinct are. (g.counted c).all paths distinct (λ q there. (g.stays q (are q there).0, (are q there).1)) };
        }

    by : (b : Bool) → (if b then Ok seen else and_then (after_new look seen at) (let_go seen)) ≡ Ok next → Grows look seen next × ((path : List ℕ) → false ≡ true → is_known next path ≡ true)
    by true h = (subst (Grows look seen) (ok_is seen next h) (grows_not look seen), λ path here. cc)
    by false h =
        let t = then_is (after_new look seen at) (let_go seen) next h in
        (subst (Grows look seen) (ok_is (record { known = seen.known; found = t.0.found }) next t.1.1) (gone t.0 t.1.0), λ path here. cc)

steps_all : (look : Look) (seen : Seen) (steps : List Step) (next : Seen) → passed look seen steps ≡ Ok next → Grows look seen next × ((path : List ℕ) → list_any (reads path) steps ≡ true → is_known next path ≡ true)
steps_all look seen [] next is = (subst (Grows look seen) (ok_is seen next is) (grows_not look seen), λ path here. cc)
steps_all look seen (step ∷ steps) next is =
    let t = then_is (after look seen step) (λ n. passed look n steps) next is in
    let one = step_all look seen step t.0 t.1.0 in
    let rest = steps_all look t.0 steps next t.1.1 in
    (grows_through look seen t.0 next one.0 rest.0, λ path here. by_case (reads path step) (list_any (reads path) steps) here (λ h. rest.0.stays path (one.1 path h)) (λ h. rest.1 path h))

-- ---- directories with parents
abbrev is_dir : Found → Bool
is_dir (File bytes) = false
is_dir Dir = true
is_dir Absent = false

abbrev heavy : Look → List ℕ → Bool
heavy look dir = is_dir (look.found dir) && is_file (look.found (within dir layout.parent))

no_lines : (dir : List ℕ) → parent_lines dir [] ≡ []
no_lines dir = refl

file_of : (f : Found) → is_file f ≡ false → bytes_in f ≡ None
file_of (File bytes) is = cc
file_of Dir is = refl
file_of Absent is = refl

light : (look : Look) (dir : List ℕ) → heavy look dir ≡ false → parent_paths dir (dir_at look dir) ≡ []
unfolding dir_at
light look dir = by (look.found dir)
  where
    by : (f : Found) → (is_dir f && is_file (look.found (within dir layout.parent))) ≡ false → parent_paths dir (dir_as look dir f) ≡ []
    by (File bytes) is = refl
    by Dir is = ap (λ (o : Option (List ℕ)). filter_map (λ p. p.path) (parent_lines dir (unwrap_or o []))) (file_of (look.found (within dir layout.parent)) is)
    by Absent is = refl

dir_reads : (look : Look) (dir : List ℕ) → heavy look dir ≡ true → list_any (reads (within dir layout.parent)) (dir_steps look dir) ≡ true
unfolding dir_steps
dir_reads look dir is = by (look.found dir) (and_parts (is_dir (look.found dir)) (is_file (look.found (within dir layout.parent))) is).0
  where
    at : List ℕ
    at = within dir layout.parent

    by : (f : Found) → is_dir f ≡ true → list_any (reads (within dir layout.parent)) (read dir ∷ steps_as look dir f) ≡ true
    by (File bytes) h = cc
    by Dir h =
        on_right (bytes_eq at dir) _ (on_right (bytes_eq at (within dir layout.eapi)) _ (on_left (bytes_eq at at) _ ((bytes_eq-Decides at at).1 refl)))
    by Absent h = cc

dirs_read : (look : Look) (dirs : List (List ℕ)) (dir : List ℕ) → has_text dirs dir ≡ true → heavy look dir ≡ true → list_any (reads (within dir layout.parent)) (steps_of look dirs) ≡ true
dirs_read look [] dir there is = cc
dirs_read look (d ∷ ds) dir there is =
    list_any-append (reads (within dir layout.parent)) (dir_steps look d) (steps_of look ds) ∙ by (or_cases (bytes_eq dir d) (has_text ds dir) there) (λ h. dirs_read look ds dir h is)
  where
    by : (bytes_eq dir d ≡ true) ⊎ (has_text ds dir ≡ true) → (has_text ds dir ≡ true → list_any (reads (within dir layout.parent)) (steps_of look ds) ≡ true) →
        (list_any (reads (within dir layout.parent)) (dir_steps look d) || list_any (reads (within dir layout.parent)) (steps_of look ds)) ≡ true
    by (inl h) later = on_left _ _ (ap (λ e. list_any (reads (within dir layout.parent)) (dir_steps look e)) (sym ((bytes_eq-Decides dir d).0 h)) ∙ dir_reads look dir is)
    by (inr h) later = on_right (list_any (reads (within dir layout.parent)) (dir_steps look d)) _ (later h)

-- ---- what is reached is distinct
last_distinct : (r : List (List ℕ)) (dir : List ℕ) → AreDistinct r → has_text r dir ≡ false → AreDistinct (r ++ dir ∷ [])
last_distinct [] dir d none = (refl, tt)
last_distinct (x ∷ xs) dir d none = by (bytes_eq dir x) refl none (last_distinct xs dir d.1)
  where
    by : (b : Bool) → bytes_eq dir x ≡ b → (b || has_text xs dir) ≡ false → (has_text xs dir ≡ false → AreDistinct (xs ++ dir ∷ [])) → (has_text (xs ++ dir ∷ []) x ≡ false) × AreDistinct (xs ++ dir ∷ [])
    by true is h later = cc
    by false is h later = (has_last xs dir x ∙ ap (λ b. b || has_text xs x) (turned dir x is) ∙ d.0, later h)

module _ (dirs : Dirs) where
  all_distinct : (go : List (List ℕ) → List ℕ → List (List ℕ)) → ((r : List (List ℕ)) (p : List ℕ) → AreDistinct r → AreDistinct (go r p)) → (r ps : List (List ℕ)) → AreDistinct r → AreDistinct (fold go r ps)
  all_distinct go each r [] d = d
  all_distinct go each r (p ∷ ps) d = all_distinct go each (go r p) ps (each r p d)

  parents_distinct : (go : List (List ℕ) → List ℕ → List (List ℕ)) → ((r : List (List ℕ)) (p : List ℕ) → AreDistinct r → AreDistinct (go r p)) → (r : List (List ℕ)) (dir : List ℕ) (o : Option DirFiles) → AreDistinct r → AreDistinct (with_parents go r dir o)
  parents_distinct go each r dir None d = d
  parents_distinct go each r dir (Some files) d = all_distinct go each r (paths_of dir files) d

  reach_distinct : (depth : ℕ) (r : List (List ℕ)) (dir : List ℕ) → AreDistinct r → AreDistinct (reach depth dirs r dir)
  reach_distinct zero r dir d = d
  reach_distinct (suc depth) r dir d = by (has_text r dir) refl (reach_distinct depth)
    where
      by : (b : Bool) → has_text r dir ≡ b → ((s : List (List ℕ)) (p : List ℕ) → AreDistinct s → AreDistinct (reach depth dirs s p)) → AreDistinct (if b then r else with_parents (reach depth dirs) (r ++ dir ∷ []) dir (dirs dir))
      by true is each = d
      by false is each = parents_distinct (reach depth dirs) each (r ++ dir ∷ []) dir (dirs dir) (last_distinct r dir d is)

  line_distinct : (r : List (List ℕ)) (o : Option (List ℕ)) → AreDistinct r → AreDistinct (from_line dirs r o)
  unfolding reach_below
  line_distinct r None d = d
  line_distinct r (Some dir) d = reach_distinct (most_depth - 0) r dir d

  lines_distinct : (r : List (List ℕ)) (lines : List DescLine) → AreDistinct r → AreDistinct (reached_by dirs r lines)
  lines_distinct r [] d = d
  lines_distinct r (line ∷ lines) d = lines_distinct (from_line dirs r (line_dir line)) lines (line_distinct r (line_dir line) d)

-- ---- no chain is cut short while less is reached than the depth
module _ (dirs : Dirs) (top : ℕ) (weighs : List ℕ → Bool) (light_ones : (dir : List ℕ) → weighs dir ≡ false → parent_paths dir (dirs dir) ≡ []) where
  abbrev weight : List (List ℕ) → ℕ
  weight r = length (filter weighs r)

  -- what is new is closed
  abbrev Closes : List (List ℕ) → List (List ℕ) → Type 0
  Closes before now = (dir parent : List ℕ) → has_text now dir ≡ true → has_text before dir ≡ false → has_text (parent_paths dir (dirs dir)) parent ≡ true → has_text now parent ≡ true

  begins_weigh : (a b : List (List ℕ)) → Begins a b → weight a ≤ weight b
  begins_weigh a b begins =
      let e : weight b ≡ weight a + weight begins.0 = ap weight begins.1 ∙ ap length (filter-append weighs a begins.0) ∙ length-append (filter weighs a) (filter weighs begins.0) in
      omega (arith, e)

  closes_not : (r : List (List ℕ)) → Closes r r
  closes_not r dir parent there new is = absurd (true≢false (sym there ∙ new))

  stays_in : (a b : List (List ℕ)) → Begins a b → (p : List ℕ) → has_text a p ≡ true → has_text b p ≡ true
  stays_in a b begins p is = ap (λ ds. has_text ds p) begins.1 ∙ in_front a begins.0 p is

  closes_through : (a b c : List (List ℕ)) → Begins b c → Closes a b → Closes b c → Closes a c
  closes_through a b c begins ab bc dir parent there new is = by (has_text b dir) refl
    where
      by : (t : Bool) → has_text b dir ≡ t → has_text c parent ≡ true
      by true h = stays_in b c begins parent (ab dir parent h new is)
      by false h = bc dir parent there h is

  abbrev Reaches : (r : List (List ℕ)) → List ℕ → (now : List (List ℕ)) → Type 0
  Reaches r dir now = Closes r now × (has_text now dir ≡ true)

  abbrev AllIn : List (List ℕ) → List (List ℕ) → Type 0
  AllIn ps now = (p : List ℕ) → has_text ps p ≡ true → has_text now p ≡ true

  all_close : (n : ℕ) (go : List (List ℕ) → List ℕ → List (List ℕ)) → ((r : List (List ℕ)) (p : List ℕ) → Begins r (go r p)) →
      ((r : List (List ℕ)) (p : List ℕ) → top ≤ n + weight r → weight (go r p) < top → Reaches r p (go r p)) →
      (r ps : List (List ℕ)) → top ≤ n + weight r → weight (fold go r ps) < top → Closes r (fold go r ps) × AllIn ps (fold go r ps)
  all_close n go grows each r [] deep few = (closes_not r, λ p there. cc)
  all_close n go grows each r (p ∷ ps) deep few =
      let begins = folded go grows (go r p) ps in
      let lighter = begins_weigh (go r p) (fold go (go r p) ps) begins in
      let heavier = begins_weigh r (go r p) (grows r p) in
      let one = each r p deep (omega (arith, lighter, few)) in
      let rest = all_close n go grows each (go r p) ps (omega (arith, heavier, deep)) few in (
        closes_through r (go r p) (fold go (go r p) ps) begins one.0 rest.0,
        λ q there. by_case (bytes_eq q p) (has_text ps q) there (λ h. ap (has_text (fold go (go r p) ps)) ((bytes_eq-Decides q p).0 h) ∙ stays_in (go r p) (fold go (go r p) ps) begins p one.1) (λ h. rest.1 q h),
      )

  -- a directory that was not reached, and its parents
  one_closes : (r now : List (List ℕ)) (dir : List ℕ) → Begins (r ++ dir ∷ []) now → Closes (r ++ dir ∷ []) now → AllIn (parent_paths dir (dirs dir)) now → Reaches r dir now
  one_closes r now dir begins closes parents =
      ((λ d p there new is. by d p there new is (has_text (r ++ dir ∷ []) d) refl), stays_in (r ++ dir ∷ []) now begins dir (in_back r (dir ∷ []) dir (itself dir [])))
    where
      by : (d p : List ℕ) → has_text now d ≡ true → has_text r d ≡ false → has_text (parent_paths d (dirs d)) p ≡ true → (t : Bool) → has_text (r ++ dir ∷ []) d ≡ t → has_text now p ≡ true
      by d p there new is true h =
          let same : d ≡ dir = (bytes_eq-Decides d dir).0 (by_case (bytes_eq d dir) (has_text r d) (sym (has_last r dir d) ∙ h) (λ e. e) (λ old. absurd (true≢false (sym old ∙ new)))) in
          parents p (sym (ap (λ x. has_text (parent_paths x (dirs x)) p) same) ∙ is)
      by d p there new is false h = closes d p there h is

  heavier_by : (r : List (List ℕ)) (dir : List ℕ) → weighs dir ≡ true → weight (r ++ dir ∷ []) ≡ weight r + 1
  heavier_by r dir is =
      ap length (filter-append weighs r (dir ∷ [])) ∙ length-append (filter weighs r) (filter weighs (dir ∷ [])) ∙ ap (λ (b : Bool). weight r + length (cond b (dir ∷ []) [])) is

  parents_close : (n : ℕ) → ((r : List (List ℕ)) (p : List ℕ) → top ≤ n + weight r → weight (reach n dirs r p) < top → Reaches r p (reach n dirs r p)) →
      (r : List (List ℕ)) (dir : List ℕ) → top ≤ suc n + weight r → (o : Option DirFiles) → dirs dir ≡ o → weight (with_parents (reach n dirs) (r ++ dir ∷ []) dir o) < top → Reaches r dir (with_parents (reach n dirs) (r ++ dir ∷ []) dir o)
  parents_close n each r dir deep None at few =
      one_closes r (r ++ dir ∷ []) dir ([], sym (append-nil (r ++ dir ∷ []))) (closes_not (r ++ dir ∷ [])) (λ p there. nothing (sym (ap (λ (o : Option DirFiles). has_text (parent_paths dir o) p) at) ∙ there))
    where
      nothing : {X : Type 0} → false ≡ true → X
      nothing is = cc
  parents_close n each r dir deep (Some files) at few = by (weighs dir) refl
    where
      begins : Begins (r ++ dir ∷ []) (fold (reach n dirs) (r ++ dir ∷ []) (paths_of dir files))
      begins = folded (reach n dirs) (reach_grows n dirs) (r ++ dir ∷ []) (paths_of dir files)

      closes : Closes (r ++ dir ∷ []) (fold (reach n dirs) (r ++ dir ∷ []) (paths_of dir files)) × AllIn (paths_of dir files) (fold (reach n dirs) (r ++ dir ∷ []) (paths_of dir files)) → Reaches r dir (fold (reach n dirs) (r ++ dir ∷ []) (paths_of dir files))
      closes all = one_closes r (fold (reach n dirs) (r ++ dir ∷ []) (paths_of dir files)) dir begins all.0 (λ p there. all.1 p (sym (ap (λ (o : Option DirFiles). has_text (parent_paths dir o) p) at) ∙ there))

      by : (b : Bool) → weighs dir ≡ b → Reaches r dir (fold (reach n dirs) (r ++ dir ∷ []) (paths_of dir files))
      by true is =
          let e = heavier_by r dir is in
          closes (all_close n (reach n dirs) (reach_grows n dirs) each (r ++ dir ∷ []) (paths_of dir files) (omega (arith, e, deep)) few)
      by false is =
          let none : paths_of dir files ≡ [] = sym (ap (parent_paths dir) at) ∙ light_ones dir is in
          closes (subst (λ (ps : List (List ℕ)). Closes (r ++ dir ∷ []) (fold (reach n dirs) (r ++ dir ∷ []) ps) × AllIn ps (fold (reach n dirs) (r ++ dir ∷ []) ps)) (sym none) (closes_not (r ++ dir ∷ []), λ p there. cc))

  reach_closes : (n : ℕ) (r : List (List ℕ)) (dir : List ℕ) → top ≤ n + weight r → weight (reach n dirs r dir) < top → Reaches r dir (reach n dirs r dir)
  reach_closes zero r dir deep few = absurd (omega (arith, deep, few))
  reach_closes (suc n) r dir deep few = by (has_text r dir) refl few (reach_closes n)
    where
      by : (b : Bool) → has_text r dir ≡ b → weight (if b then r else with_parents (reach n dirs) (r ++ dir ∷ []) dir (dirs dir)) < top →
          ((s : List (List ℕ)) (p : List ℕ) → top ≤ n + weight s → weight (reach n dirs s p) < top → Reaches s p (reach n dirs s p)) → Reaches r dir (if b then r else with_parents (reach n dirs) (r ++ dir ∷ []) dir (dirs dir))
      by true is less each = (closes_not r, is)
      by false is less each = parents_close n each r dir deep (dirs dir) refl less

module _ (dirs : Dirs) (weighs : List ℕ → Bool) (light_ones : (dir : List ℕ) → weighs dir ≡ false → parent_paths dir (dirs dir) ≡ []) where
  line_closes : (r : List (List ℕ)) (o : Option (List ℕ)) → length (filter weighs (from_line dirs r o)) < most_depth → Closes dirs most_depth weighs light_ones r (from_line dirs r o)
  unfolding reach_below
  line_closes r None few = closes_not dirs most_depth weighs light_ones r
  line_closes r (Some dir) few = (reach_closes dirs most_depth weighs light_ones (most_depth - 0) r dir (omega arith) few).0

  lines_close : (r : List (List ℕ)) (lines : List DescLine) → length (filter weighs (reached_by dirs r lines)) < most_depth → Closes dirs most_depth weighs light_ones r (reached_by dirs r lines)
  lines_close r [] few = closes_not dirs most_depth weighs light_ones r
  lines_close r (line ∷ lines) few =
      let now = from_line dirs r (line_dir line) in
      let begins = lines_grow dirs now lines in
      let lighter = begins_weigh dirs most_depth weighs light_ones now (reached_by dirs now lines) begins in
      closes_through dirs most_depth weighs light_ones r now (reached_by dirs now lines) begins (line_closes r (line_dir line) (omega (arith, lighter, few))) (lines_close now lines few)

-- ---- of a load
nothing_counted : (look : Look) → IsCounted look nothing
nothing_counted look = record { most = omega arith; all = λ paths distinct are. none paths are }
  where
    none : (paths : List (List ℕ)) → AreFound look nothing paths → length paths ≤ 0
    none [] are = omega arith
    none (p ∷ ps) are = absurd (true≢false (sym (are p (itself p ps)).0 ∙ ap is_some (get-empty byte_cmp p)))

few_heavy : (look : Look) (start seen : Seen) (dirs : List (List ℕ)) → IsCounted look start → AreDistinct dirs → passed look start (steps_of look dirs) ≡ Ok seen → length (filter (heavy look) dirs) < most_depth
few_heavy look start seen dirs counted distinct is =
    let all = steps_all look start (steps_of look dirs) seen is in
    let c = all.0.counted counted in
    let ones = filter (heavy look) dirs in
    let paths = map (λ dir. within dir layout.parent) ones in
    let apart = map_distinct (λ dir. within dir layout.parent) (λ path. take (length path - length (codes "/" ++ layout.parent)) path) (λ dir. without_end dir (codes "/" ++ layout.parent)) ones (filter_distinct (heavy look) dirs distinct) in
    let few = c.all paths apart (λ path there. found path (mapped_of ones path there)) in
    let most = c.most in
    let same : length paths ≡ length ones = mapped_length ones in
    omega (arith, few, most, same)
  where
    mapped_length : (xs : List (List ℕ)) → length (map (λ dir. within dir layout.parent) xs) ≡ length xs
    mapped_length [] = refl
    mapped_length (x ∷ xs) = ap suc (mapped_length xs)

    mapped_of : (xs : List (List ℕ)) (path : List ℕ) → has_text (map (λ dir. within dir layout.parent) xs) path ≡ true → (dir : List ℕ) × ((has_text xs dir ≡ true) × (path ≡ within dir layout.parent))
    mapped_of [] path there = cc
    mapped_of (x ∷ xs) path there = by_case (bytes_eq path (within x layout.parent)) (has_text (map (λ dir. within dir layout.parent) xs) path) there
        (λ h. (x, (itself x xs, (bytes_eq-Decides path (within x layout.parent)).0 h)))
        (λ h. let r = mapped_of xs path h in (r.0, (on_right (bytes_eq r.0 x) _ r.1.0, r.1.1)))

    found : (path : List ℕ) → (dir : List ℕ) × ((has_text (filter (heavy look) dirs) dir ≡ true) × (path ≡ within dir layout.parent)) → (is_known seen path ≡ true) × (is_file (look.found path) ≡ true)
    found path one =
        let parts = and_parts (heavy look one.0) (has_text dirs one.0) (sym (has_filter (heavy look) dirs one.0) ∙ one.1.0) in
        let read_ = (steps_all look start (steps_of look dirs) seen is).1 (within one.0 layout.parent) (dirs_read look dirs one.0 parts.1 parts.0) in
        (ap (is_known seen) one.1.1 ∙ read_, ap (λ p. is_file (look.found p)) one.1.1 ∙ (and_parts (is_dir (look.found one.0)) (is_file (look.found (within one.0 layout.parent))) parts.0).1)

first_part : (look : Look) (start : Seen) (xs ys : List Step) (seen : Seen) → passed look start (xs ++ ys) ≡ Ok seen → (mid : Seen) × ((passed look start xs ≡ Ok mid) × (passed look mid ys ≡ Ok seen))
first_part look start xs ys seen is = then_is (passed look start xs) (λ n. passed look n ys) seen (sym (passed-append look start xs ys) ∙ is)

pub loaded_closed : (look : Look) (seen : Seen) → passed look nothing (load_steps look) ≡ Ok seen → IsClosed (dir_at look) (reached look (desc_lines look))
unfolding load_steps
loaded_closed look seen is dir parent there at =
    let lists = first_part look nothing (list_steps look) (profiles_steps look (desc_lines look) ++ packages_steps look (categories look)) seen is in
    let profiles = first_part look lists.0 (profiles_steps look (desc_lines look)) (packages_steps look (categories look)) seen lists.1.1 in
    let dirs = first_part look lists.0 (steps_of look (reached look (desc_lines look))) (stack_steps (dir_at look) (desc_lines look)) profiles.0 profiles.1.0 in
    let counted = (steps_all look nothing (list_steps look) lists.0 lists.1.0).0.counted (nothing_counted look) in
    let few = few_heavy look lists.0 dirs.0 (reached look (desc_lines look)) counted (lines_distinct (dir_at look) [] (desc_lines look) tt) dirs.1.0 in
    lines_close (dir_at look) (heavy look) (light look) [] (desc_lines look) few dir parent there refl at
