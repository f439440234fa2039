-- Steps that list a path, or count what stands at one and let it go: where they pass, and what they come to.
use Rattle.std.proofs.Common.{◌≡◌, ℕ, suc, ◌+◌, ◌≤◌, Bool, true, false, cond, ◌||◌, List, [], ◌∷◌, ◌++◌, Some, None, length, refl, sym, ap, subst, ◌∙◌, arith, true≢false, length-append}
use Rattle.std.specs.Prelude.{Option, IfSome, Ok, Err, nat_lt, not, ◌&&◌, if◌then◌else◌, filter}
use Rattle.std.specs.FinMap.{get}
use Rattle.std.specs.List.{AllByRecursion, list_all}
use Rattle.std.specs.Option.{is_some}
use Rattle.std.specs.Str.{bytes_eq}
use Rattle.std.proofs.lemmas.Bool.{le-ltb, lt-ltb, ltb-false, ltb-true}
use Rattle.std.proofs.lemmas.Slice.Eq.{bytes_eq-Decides}
use Rattle.gv_base.specs.Order.{has_text}
use Rattle.gv_base.specs.Outside.{most_file_bytes}
use Rattle.gv_base.specs.declared.tree.Found.{Found}
use Rattle.gv_base.specs.declared.tree.Found.TheVariants.{File, Dir, Absent}
use Rattle.gv_reading.specs.declared.faults.LoadFault.{LoadFault}
use Rattle.gv_reading.specs.declared.faults.LoadFault.TheVariants.{Limit}
use Rattle.gv_reload.specs.Counting.{FitsAt, IsFine, IsShort, Known, is_light, is_new, list_paths, new_files, with_more}
use Rattle.gv_reading.specs.Look.{Look, bytes_at, bytes_in}
use Rattle.gv_reload.specs.Once.{AreDistinct, once_paths}
use Rattle.gv_reading.specs.Reader.{Seen}
use Rattle.gv_reading.specs.Reading.{Out, Step, read, list, need, bound, once, after_new, after_once, and_then, let_go, passed, most_files, most_path}
use Rattle.gv_reload.proofs.Apart.{filter_distinct}
use Rattle.gv_load.specs.ListLemmas.{by_case, in_back, in_either, in_front, itself, on_right}

-- ---- one more or none
abbrev one_if : Bool → ℕ
one_if b = if b then 1 else 0

counted : (test : List ℕ → Bool) (x : List ℕ) (xs : List (List ℕ)) → length (filter test (x ∷ xs)) ≡ one_if (test x) + length (filter test xs)
counted test x xs = by (test x)
  where
    by : (b : Bool) → length (cond b (x ∷ filter test xs) (filter test xs)) ≡ one_if b + length (filter test xs)
    by true = omega arith
    by false = omega arith

nothing_more : (seen : Seen) → (let o : Out = Ok seen in o) ≡ Ok (with_more seen 0)
nothing_more seen = ap (λ n. let o : Out = Ok (record { known = seen.known; found = n }) in o) (let e : seen.found ≡ seen.found + 0 = omega arith in e)

-- ---- a path that is counted passes
new_passes : (look : Look) (seen : Seen) (path : List ℕ) (found : Found) → get seen.known path ≡ None → look.found path ≡ found → nat_lt most_path (length path) ≡ false → IfSome (bytes_in found) (λ bytes. length bytes ≤ most_file_bytes) →
    seen.found + one_if (is_some (bytes_in found)) ≤ most_files → after_once look seen path ≡ Ok (with_more seen (one_if (is_some (bytes_in found))))
new_passes look seen path (File bytes) none is short small room =
    let small_is : nat_lt most_file_bytes (length bytes) ≡ false = le-ltb _ _ small in
    let room_is : nat_lt seen.found most_files ≡ true = lt-ltb _ _ (omega (arith, room)) in
    rw (none, short, is, small_is, room_is) refl
new_passes look seen path Dir none is short small room = rw (none, short, is) (nothing_more seen)
new_passes look seen path Absent none is short small room = rw (none, short, is) (nothing_more seen)

once_passes : (look : Look) (seen : Seen) (path : List ℕ) → IsFine look seen.known (once path) → seen.found + one_if (is_new look seen.known path) ≤ most_files →
    after_once look seen path ≡ Ok (with_more seen (one_if (is_new look seen.known path)))
once_passes look seen path fine room = by (get seen.known path) refl
  where
    by : (o : Option Found) → get seen.known path ≡ o → after_once look seen path ≡ Ok (with_more seen (one_if (is_new look seen.known path)))
    by (Some found) known = rw known (nothing_more seen)
    by None none =
        let new : is_new look seen.known path ≡ is_some (bytes_at look path) = rw none refl in
        let here : after_once look seen path ≡ Ok (with_more seen (one_if (is_some (bytes_at look path)))) =
        new_passes look seen path (look.found path) none refl (le-ltb _ _ (fine none).0) (fine none).1 (subst (λ (b : Bool). seen.found + one_if b ≤ most_files) new room) in
        here ∙ ap (λ b. let o : Out = Ok (with_more seen (one_if b)) in o) (sym new)

-- ---- fine steps pass where there is room
pub passes : (look : Look) (seen : Seen) (steps : List Step) → AllByRecursion (IsFine look seen.known) steps → seen.found + new_files look seen steps ≤ most_files →
    passed look seen steps ≡ Ok (with_more seen (new_files look seen steps))
passes look seen [] fine room = nothing_more seen
passes look seen (read path ∷ steps) fine room = absurd fine.0
passes look seen (need path ∷ steps) fine room = absurd fine.0
passes look seen (bound place most is ∷ steps) fine room = absurd fine.0
passes look seen (list path ∷ steps) fine room =
    let short : nat_lt most_path (length path) ≡ false = le-ltb _ _ fine.0 in
    rw short (passes look seen steps fine.1 room)
passes look seen (once path ∷ steps) fine room =
    let all = counted (is_new look seen.known) path (once_paths steps) in
    let here = once_passes look seen path fine.0 (omega (arith, room, all)) in
    let rest = passes look (with_more seen (one_if (is_new look seen.known path))) steps fine.1 (omega (arith, room, all)) in
    ap (λ (o : Out). and_then o (λ n. passed look n steps)) here ∙ rest ∙ ap (λ n. let o : Out = Ok (record { known = seen.known; found = n }) in o) (omega (arith, all))

-- ---- what passed is fine
-- from one step to the next
pub record IsStep (look : Look) (seen next : Seen) (step : Step) (more : ℕ) : Type 0 where
  pub fine : IsFine look seen.known step
  pub comes_to : next ≡ with_more seen more
  pub within : seen.found ≤ most_files → next.found ≤ most_files

pub same_seen : (a b : Seen) → (let o : Out = Ok a in o) ≡ Ok b → a ≡ b
same_seen a b is = cc

pub no_seen : {X : Type 0} (fault : LoadFault) (b : Seen) → (let o : Out = Err fault in o) ≡ Ok b → X
no_seen fault b is = cc

not_some : {X : Type 0} (found : Found) → (let o : Option Found = Some found in o) ≡ None → X
not_some found is = cc

not_known : {X : Type 0} (o : Option Found) (found : Found) → o ≡ Some found → o ≡ None → X
not_known o found some none = not_some found (sym some ∙ none)

as_before : (seen next : Seen) → seen ≡ next → next ≡ with_more seen 0
as_before seen next is = sym is ∙ same_seen seen (with_more seen 0) (nothing_more seen)

-- of a new path, by the tests of the reading
new_is : (look : Look) (seen next : Seen) (path : List ℕ) (found : Found) (long large room : Bool) →
    look.found path ≡ found → nat_lt most_path (length path) ≡ long → ((bytes : List ℕ) → found ≡ File bytes → nat_lt most_file_bytes (length bytes) ≡ large) → nat_lt seen.found most_files ≡ room →
    and_then (after_new look seen path) (let_go seen) ≡ Ok next →
    FitsAt look path × ((next ≡ with_more seen (one_if (is_some (bytes_in found)))) × (seen.found ≤ most_files → next.found ≤ most_files))
new_is look seen next path found true large room is long_is large_is room_is is_next = no_seen (Limit path most_path) next (sym (rw long_is refl) ∙ is_next)
new_is look seen next path (File bytes) false true room is long_is large_is room_is is_next =
    let large : nat_lt most_file_bytes (length bytes) ≡ true = large_is bytes refl in
    no_seen (Limit path most_file_bytes) next (sym (rw (long_is, is, large) refl) ∙ is_next)
new_is look seen next path (File bytes) false false false is long_is large_is room_is is_next =
    let small : nat_lt most_file_bytes (length bytes) ≡ false = large_is bytes refl in
    no_seen (Limit path most_files) next (sym (rw (long_is, is, small, room_is) refl) ∙ is_next)
new_is look seen next path (File bytes) false false true is long_is large_is room_is is_next =
    let small : nat_lt most_file_bytes (length bytes) ≡ false = large_is bytes refl in
    let more : with_more seen 1 ≡ next = same_seen (with_more seen 1) next (sym (rw (long_is, is, small, room_is) refl) ∙ is_next) in
    let count : seen.found + 1 ≡ next.found = ap (λ (s : Seen). s.found) more in
    let there = ltb-true _ _ room_is in
    ((ltb-false _ _ long_is, subst (λ (f : Found). IfSome (bytes_in f) (λ bytes. length bytes ≤ most_file_bytes)) (sym is) (ltb-false _ _ small)), (sym more, λ before. omega (arith, there, count)))
new_is look seen next path Dir false large room is long_is large_is room_is is_next =
    let more : seen ≡ next = same_seen seen next (sym (rw (long_is, is) refl) ∙ is_next) in
    let count : seen.found ≡ next.found = ap (λ (s : Seen). s.found) more in
    ((ltb-false _ _ long_is, subst (λ (f : Found). IfSome (bytes_in f) (λ bytes. length bytes ≤ most_file_bytes)) (sym is) tt), (as_before seen next more, λ before. omega (arith, before, count)))
new_is look seen next path Absent false large room is long_is large_is room_is is_next =
    let more : seen ≡ next = same_seen seen next (sym (rw (long_is, is) refl) ∙ is_next) in
    let count : seen.found ≡ next.found = ap (λ (s : Seen). s.found) more in
    ((ltb-false _ _ long_is, subst (λ (f : Found). IfSome (bytes_in f) (λ bytes. length bytes ≤ most_file_bytes)) (sym is) tt), (as_before seen next more, λ before. omega (arith, before, count)))

abbrev large_by : Found → Bool
large_by (File bytes) = nat_lt most_file_bytes (length bytes)
large_by Dir = false
large_by Absent = false

pub once_is : (look : Look) (seen next : Seen) (path : List ℕ) → after_once look seen path ≡ Ok next → IsStep look seen next (once path) (one_if (is_new look seen.known path))
once_is look seen next path is_next = by (get seen.known path) refl
  where
    by : (o : Option Found) → get seen.known path ≡ o → IsStep look seen next (once path) (one_if (is_new look seen.known path))
    by (Some found) known =
        let more : seen ≡ next = same_seen seen next (sym (rw known refl) ∙ is_next) in
        let count : seen.found ≡ next.found = ap (λ (s : Seen). s.found) more in
        record {
          fine = λ none. not_known (get seen.known path) found known none;
          comes_to = rw known (as_before seen next more);
          within = λ before. omega (arith, before, count);
        }
    by None none =
        let new : and_then (after_new look seen path) (let_go seen) ≡ Ok next = sym (rw none refl) ∙ is_next in
        let says = new_is look seen next path (look.found path) _ (large_by (look.found path)) _ refl refl (λ bytes is. ap large_by (sym is)) refl new in
        record {
          fine = λ fresh. says.0;
          comes_to = rw none says.1.0;
          within = says.1.1;
        }

-- what was read anew fits
pub fits_new : (look : Look) (seen next : Seen) (path : List ℕ) → after_new look seen path ≡ Ok next → FitsAt look path
fits_new look seen next path comes =
    (new_is look seen (record { known = seen.known; found = next.found }) path (look.found path) _ (large_by (look.found path)) _ refl refl (λ bytes is. ap large_by (sym is)) refl (ap (λ (o : Out). and_then o (let_go seen)) comes)).0

-- ---- of all steps
pub record IsPassed (look : Look) (seen next : Seen) (steps : List Step) : Type 0 where
  pub fine : AllByRecursion (IsFine look seen.known) steps
  pub comes_to : next ≡ with_more seen (new_files look seen steps)
  pub within : seen.found ≤ most_files → next.found ≤ most_files

pub passed_is : (look : Look) (seen next : Seen) (steps : List Step) → list_all is_light steps ≡ true → passed look seen steps ≡ Ok next → IsPassed look seen next steps
passed_is look seen next [] light is =
    let same : seen ≡ next = same_seen seen next is in
    let count : seen.found ≡ next.found = ap (λ (s : Seen). s.found) same in
    record { fine = tt; comes_to = as_before seen next same; within = λ before. omega (arith, before, count) }
passed_is look seen next (read path ∷ steps) light is = absurd (true≢false (sym light))
passed_is look seen next (need path ∷ steps) light is = absurd (true≢false (sym light))
passed_is look seen next (bound place most passes ∷ steps) light is = absurd (true≢false (sym light))
passed_is look seen next (list path ∷ steps) light is = by (nat_lt most_path (length path)) refl (λ rest. passed_is look seen next steps light rest)
  where
    by : (b : Bool) → nat_lt most_path (length path) ≡ b → (passed look seen steps ≡ Ok next → IsPassed look seen next steps) → IsPassed look seen next (list path ∷ steps)
    by true long go = no_seen (Limit path most_path) next (sym (rw long refl) ∙ is)
    by false short go =
        let rest = go (sym (rw short refl) ∙ is) in
        record { fine = (ltb-false _ _ short, rest.fine); comes_to = rest.comes_to; within = rest.within }
passed_is look seen next (once path ∷ steps) light is = by (after_once look seen path) refl is (λ mid rest. passed_is look mid next steps light rest)
  where
    by : (o : Out) → after_once look seen path ≡ o → and_then o (λ n. passed look n steps) ≡ Ok next → ((mid : Seen) → passed look mid steps ≡ Ok next → IsPassed look mid next steps) → IsPassed look seen next (once path ∷ steps)
    by (Err fault) at whole go = no_seen fault next whole
    by (Ok mid) at whole go =
        let step = once_is look seen mid path at in
        let rest = go mid whole in
        let more = subst (λ (m : Seen). IsPassed look m next steps) step.comes_to rest in
        let all = counted (is_new look seen.known) path (once_paths steps) in
        record {
          fine = (step.fine, more.fine);
          comes_to = more.comes_to ∙ ap (λ n. let s : Seen = record { known = seen.known; found = n } in s) (omega (arith, all));
          within = λ before. rest.within (step.within before);
        }

-- ---- fine steps by their paths
pub fine_of : (look : Look) (known : Known) (steps : List Step) → list_all is_light steps ≡ true → ((path : List ℕ) → has_text (list_paths steps) path ≡ true → IsShort path) →
    ((path : List ℕ) → has_text (once_paths steps) path ≡ true → IsFine look known (once path)) → AllByRecursion (IsFine look known) steps
fine_of look known [] light lists onces = tt
fine_of look known (read path ∷ steps) light lists onces = absurd (true≢false (sym light))
fine_of look known (need path ∷ steps) light lists onces = absurd (true≢false (sym light))
fine_of look known (bound place most passes ∷ steps) light lists onces = absurd (true≢false (sym light))
fine_of look known (list path ∷ steps) light lists onces = (lists path (itself path (list_paths steps)), fine_of look known steps light (λ p there. lists p (on_right (bytes_eq p path) _ there)) onces)
fine_of look known (once path ∷ steps) light lists onces = (onces path (itself path (once_paths steps)), fine_of look known steps light lists (λ p there. onces p (on_right (bytes_eq p path) _ there)))

same_text : (x y : List ℕ) → bytes_eq x y ≡ true → y ≡ x
same_text x y is = sym ((bytes_eq-Decides x y).0 is)

no_text : {X : Type 0} → false ≡ true → X
no_text is = cc

pub short_in : (look : Look) (known : Known) (steps : List Step) → AllByRecursion (IsFine look known) steps → (path : List ℕ) → has_text (list_paths steps) path ≡ true → IsShort path
short_in look known [] fine path there = no_text there
short_in look known (read other ∷ steps) fine path there = absurd fine.0
short_in look known (need other ∷ steps) fine path there = absurd fine.0
short_in look known (bound place most passes ∷ steps) fine path there = absurd fine.0
short_in look known (list other ∷ steps) fine path there =
    by_case (bytes_eq path other) (has_text (list_paths steps) path) there (λ is. subst IsShort (same_text path other is) fine.0) (short_in look known steps fine.1 path)
short_in look known (once other ∷ steps) fine path there = short_in look known steps fine.1 path there

pub fits_in : (look : Look) (known : Known) (steps : List Step) → AllByRecursion (IsFine look known) steps → (path : List ℕ) → has_text (once_paths steps) path ≡ true → IsFine look known (once path)
fits_in look known [] fine path there = no_text there
fits_in look known (read other ∷ steps) fine path there = absurd fine.0
fits_in look known (need other ∷ steps) fine path there = absurd fine.0
fits_in look known (bound place most passes ∷ steps) fine path there = absurd fine.0
fits_in look known (list other ∷ steps) fine path there = fits_in look known steps fine.1 path there
fits_in look known (once other ∷ steps) fine path there =
    by_case (bytes_eq path other) (has_text (once_paths steps) path) there (λ is. subst (λ (p : List ℕ). IsFine look known (once p)) (same_text path other is) fine.0) (fits_in look known steps fine.1 path)

-- ---- texts of which none stands twice are no more than those that they are among
abbrev without : List ℕ → List (List ℕ) → List (List ℕ)
without x [] = []
without x (y ∷ ys) = if bytes_eq x y then ys else y ∷ without x ys

one_less : (x : List ℕ) (ys : List (List ℕ)) → has_text ys x ≡ true → suc (length (without x ys)) ≡ length ys
one_less x [] there = no_text there
one_less x (y ∷ ys) there = by (bytes_eq x y) there (one_less x ys)
  where
    by : (b : Bool) → (b || has_text ys x) ≡ true → (has_text ys x ≡ true → suc (length (without x ys)) ≡ length ys) → suc (length (if b then ys else y ∷ without x ys)) ≡ suc (length ys)
    by true there rest = refl
    by false there rest = ap suc (rest there)

others_stay : (x z : List ℕ) (ys : List (List ℕ)) → bytes_eq z x ≡ false → has_text ys z ≡ true → has_text (without x ys) z ≡ true
others_stay x z [] other there = there
others_stay x z (y ∷ ys) other there = by (bytes_eq x y) refl (others_stay x z ys other)
  where
    by : (b : Bool) → bytes_eq x y ≡ b → (has_text ys z ≡ true → has_text (without x ys) z ≡ true) → has_text (if b then ys else y ∷ without x ys) z ≡ true
    by true is rest = by_case (bytes_eq z y) (has_text ys z) there (λ at. absurd (true≢false (sym at ∙ ap (bytes_eq z) (same_text x y is) ∙ other))) (λ later. later)
    by false is rest = by_case (bytes_eq z y) (has_text ys z) there (λ at. ap (λ b. b || has_text (without x ys) z) at) (λ later. on_right (bytes_eq z y) _ (rest later))

pub no_more : (xs ys : List (List ℕ)) → AreDistinct xs → ((z : List ℕ) → has_text xs z ≡ true → has_text ys z ≡ true) → length xs ≤ length ys
no_more [] ys distinct among = omega arith
no_more (x ∷ xs) ys distinct among =
    let less = one_less x ys (among x (itself x xs)) in
    let rest = no_more xs (without x ys) distinct.1 (λ z there. others_stay x z ys (apart z there (bytes_eq z x) refl) (among z (on_right (bytes_eq z x) _ there))) in
    omega (arith, less, rest)
  where
    apart : (z : List ℕ) → has_text xs z ≡ true → (b : Bool) → bytes_eq z x ≡ b → b ≡ false
    apart z there true is = absurd (true≢false (sym there ∙ ap (has_text xs) (sym (same_text z x is)) ∙ distinct.0))
    apart z there false is = refl

-- ---- what passes a test among texts
pub filtered : (test : List ℕ → Bool) (xs : List (List ℕ)) (z : List ℕ) → has_text (filter test xs) z ≡ true → (has_text xs z ≡ true) × (test z ≡ true)
filtered test [] z there = no_text there
filtered test (x ∷ xs) z there = by (test x) refl there (filtered test xs z)
  where
    by : (b : Bool) → test x ≡ b → has_text (cond b (x ∷ filter test xs) (filter test xs)) z ≡ true → (has_text (filter test xs) z ≡ true → (has_text xs z ≡ true) × (test z ≡ true)) →
        ((bytes_eq z x || has_text xs z) ≡ true) × (test z ≡ true)
    by false fails there rest = let more = rest there in (on_right (bytes_eq z x) _ more.0, more.1)
    by true good there rest =
        by_case (bytes_eq z x) (has_text (filter test xs) z) there
        (λ is. (ap (λ b. b || has_text xs z) is, ap test (sym (same_text z x is)) ∙ good))
        (λ later. let more = rest later in (on_right (bytes_eq z x) _ more.0, more.1))

pub kept : (test : List ℕ → Bool) (xs : List (List ℕ)) (z : List ℕ) → has_text xs z ≡ true → test z ≡ true → has_text (filter test xs) z ≡ true
kept test [] z there good = there
kept test (x ∷ xs) z there good = by (test x) refl (λ later. kept test xs z later good)
  where
    by : (b : Bool) → test x ≡ b → (has_text xs z ≡ true → has_text (filter test xs) z ≡ true) → has_text (cond b (x ∷ filter test xs) (filter test xs)) z ≡ true
    by true is rest = by_case (bytes_eq z x) (has_text xs z) there (λ at. ap (λ b. b || has_text (filter test xs) z) at) (λ later. on_right (bytes_eq z x) _ (rest later))
    by false is rest = by_case (bytes_eq z x) (has_text xs z) there (λ at. absurd (true≢false (sym good ∙ ap test (sym (same_text z x at)) ∙ is))) rest

-- ---- other steps over another tree, whose bytes differ at some paths: each path is one of these, one of before, or one more
module _ (old new : Look) (seen next : Seen) (edited more : List (List ℕ)) (xs ys : List Step)
    (same : (path : List ℕ) → has_text edited path ≡ false → bytes_at new path ≡ bytes_at old path)
    (among : (path : List ℕ) → has_text (once_paths ys) path ≡ true → has_text (once_paths xs ++ (edited ++ more)) path ≡ true) where
  fits_as_before : (path : List ℕ) → bytes_at new path ≡ bytes_at old path → IsFine old seen.known (once path) → IsFine new seen.known (once path)
  fits_as_before path is fits none = ((fits none).0, subst (λ (o : Option (List ℕ)). IfSome o (λ bytes. length bytes ≤ most_file_bytes)) (sym is) (fits none).1)

  -- what is read besides fits, if it wasn't read before
  abbrev pub Besides : Type 0
  Besides = (path : List ℕ) → has_text (edited ++ more) path ≡ true → (has_text edited path ≡ false → has_text (once_paths xs) path ≡ false) → FitsAt new path

  fits_now : AllByRecursion (IsFine old seen.known) xs → Besides → (path : List ℕ) → has_text (once_paths ys) path ≡ true → IsFine new seen.known (once path)
  fits_now fine besides path there = by (has_text edited path) refl (has_text (once_paths xs) path) refl
    where
      by : (b : Bool) → has_text edited path ≡ b → (c : Bool) → has_text (once_paths xs) path ≡ c → IsFine new seen.known (once path)
      by true is c was = λ none. besides path (in_front edited more path is) (λ isnt. no_text (sym isnt ∙ is))
      by false is true was = fits_as_before path (same path is) (fits_in old seen.known xs fine path was)
      by false is false was =
          in_either (once_paths xs) (edited ++ more) path (among path there)
          (λ before. no_text (sym was ∙ before))
          (λ one. λ none. besides path one (λ isnt. was))

  counted_before : (path : List ℕ) → has_text (filter (is_new new seen.known) (once_paths ys)) path ≡ true → has_text (filter (is_new old seen.known) (once_paths xs) ++ (edited ++ more)) path ≡ true
  counted_before path there = by (has_text edited path) refl (filtered (is_new new seen.known) (once_paths ys) path there)
    where
      before : List (List ℕ)
      before = filter (is_new old seen.known) (once_paths xs)

      by : (b : Bool) → has_text edited path ≡ b → (has_text (once_paths ys) path ≡ true) × (is_new new seen.known path ≡ true) → has_text (before ++ (edited ++ more)) path ≡ true
      by true is both_are = in_back before (edited ++ more) path (in_front edited more path is)
      by false is both_are =
          in_either (once_paths xs) (edited ++ more) path (among path both_are.0)
          (λ one. in_front before (edited ++ more) path (kept (is_new old seen.known) (once_paths xs) path one (ap (λ o. not (is_some (get seen.known path)) && is_some o) (sym (same path is)) ∙ both_are.1)))
          (λ one. in_back before (edited ++ more) path one)

  pub more_pass : list_all is_light xs ≡ true → list_all is_light ys ≡ true → AreDistinct (once_paths ys) → ((path : List ℕ) → has_text (list_paths ys) path ≡ true → has_text (list_paths xs) path ≡ true) →
      Besides → passed old seen xs ≡ Ok next → next.found + (length edited + length more) ≤ most_files →
      (passed new seen ys ≡ Ok (with_more seen (new_files new seen ys))) × (seen.found + new_files new seen ys ≤ next.found + (length edited + length more))
  more_pass light_xs light_ys distinct lists besides is room =
      let before = passed_is old seen next xs light_xs is in
      let count : next.found ≡ seen.found + new_files old seen xs = ap (λ (s : Seen). s.found) before.comes_to in
      let at_most = no_more (filter (is_new new seen.known) (once_paths ys)) (filter (is_new old seen.known) (once_paths xs) ++ (edited ++ more)) (filter_distinct (is_new new seen.known) (once_paths ys) distinct) counted_before in
      let all : length (filter (is_new old seen.known) (once_paths xs) ++ (edited ++ more)) ≡ new_files old seen xs + (length edited + length more) =
      length-append (filter (is_new old seen.known) (once_paths xs)) (edited ++ more) ∙ ap (λ n. new_files old seen xs + n) (length-append edited more) in
      let fine = fine_of new seen.known ys light_ys (λ path there. short_in old seen.known xs before.fine path (lists path there)) (fits_now before.fine besides) in
      (passes new seen ys fine (omega (arith, count, at_most, all, room)), omega (arith, count, at_most, all))
