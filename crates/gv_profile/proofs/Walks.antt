-- What the walk has left to meet, as directories are entered and left.
use Rattle.std.proofs.Common.{◌≡◌, ℕ, ◌+◌, ◌-◌, ◌<◌, ◌≤◌, zero, suc, List, [], ◌∷◌, ◌++◌, true, false, Some, None, length, drop, refl, sym, ap, ◌∙◌, subst, append_assoc, length-append, arith, nat_lt}
use Rattle.std.proofs.lemmas.Bool.{lt-ltb}
use Rattle.std.proofs.lemmas.Bool.Decides.{nat_tests}
use Rattle.std.specs.Prelude.{slice_get, IfOk, Result, Ok, Err}
use Rattle.std.specs.List.{flat_map}
use Rattle.std.proofs.lemmas.List.{append-nil}
use Rattle.gv_profile.specs.declared.files.DirFiles.{DirFiles}
use Rattle.gv_profile.specs.declared.parent_files.ParentLine.{ParentLine}
use Rattle.gv_profile.specs.declared.frames.Frame.{Frame}
use Rattle.gv_profile.specs.declared.frames.Walk.{Walk}
use Rattle.gv_profile.specs.declared.faults.ProfileFault.{ProfileFault}
use Rattle.gv_profile.specs.declared.faults.ProfileFault.TheVariants.{TooMany, BadEapi}
use Rattle.gv_profile.specs.Eapi.{has_bad_eapi}
use Rattle.gv_profile.specs.Names.{eapi_path}
use Rattle.gv_profile.specs.ParentFiles.{parents_of}
use Rattle.gv_profile.specs.Walking.{Look, Met, visit, leave, eapi_fault, at_parent, walk, walk_below, most_visits, first_fault, stack_of}
use Rattle.gv_profile.specs.Frames.{left_of, left_below, left, Leads}
use Rattle.gv_profile.specs.FrameIndex.{family_of}
use Rattle.gv_profile.specs.Slices.{dropped, nothing_dropped}

-- a directory that is not too deep
entered : (look : Look) (above : List (List ℕ)) (dir : List ℕ) (files : DirFiles) → length above < most_visits →
    walk_below look above dir files ≡ visit dir ∷ (eapi_fault dir files ++ left_of look (above ++ dir ∷ []) (record { dir = dir; parents = parents_of dir files; next = 0 }))
unfolding walk_below
entered look above dir files few =
    let one : most_visits - length above ≡ suc (most_visits - length (above ++ dir ∷ [])) = simp length-append (omega arith) in
    rw one refl

-- the last frame is met first
pub left_pushed : (look : Look) (above : List (List ℕ)) (fs : List Frame) (f : Frame) →
    left_below look above (fs ++ f ∷ []) ≡ left_of look (above ++ family_of (fs ++ f ∷ [])) f ++ left_below look above fs
left_pushed look above [] f = sym (append-nil _)
left_pushed look above (g ∷ gs) f =
    let now = above ++ g.dir ∷ [] in
    ap (λ ms. ms ++ left_of look now g) (left_pushed look now gs f)
    ∙ append_assoc (left_of look (now ++ family_of (gs ++ f ∷ [])) f) (left_below look now gs) (left_of look now g)
    ∙ ap (λ family. left_of look family f ++ (left_below look now gs ++ left_of look now g)) (append_assoc above (g.dir ∷ []) (family_of (gs ++ f ∷ [])))

family_pushed : (fs : List Frame) (f : Frame) → family_of (fs ++ f ∷ []) ≡ family_of fs ++ f.dir ∷ []
family_pushed [] f = refl
family_pushed (g ∷ gs) f = ap (λ ds. g.dir ∷ ds) (family_pushed gs f)

length_family : (fs : List Frame) → length (family_of fs) ≡ length fs
length_family [] = refl
length_family (g ∷ gs) = ap suc (length_family gs)

length_pushed : (fs gs : List Frame) (f : Frame) → gs ≡ fs ++ f ∷ [] → length gs ≡ length fs + 1
length_pushed fs gs f is = rw is (length-append fs (f ∷ []))

grouped : (a b c d : List Met) → ((a ++ b) ++ c) ++ d ≡ a ++ ((b ++ c) ++ d)
grouped a b c d = simp append_assoc

-- what is left behind a frame that was put there
pub left_with : (look : Look) (old w : Walk) (f : Frame) → w.frames ≡ old.frames ++ f ∷ [] →
    left look w ≡ left_of look (family_of w.frames) f ++ left look old
left_with look old w f is = rw is (left_pushed look [] old.frames f)

-- a directory is entered
pub came_to : (look : Look) (old w : Walk) (dir : List ℕ) (files : DirFiles) →
    has_bad_eapi files ≡ false → old.visits < most_visits → length old.frames ≤ old.visits →
    w ≡ record { frames = w.frames; visits = old.visits + 1; done = old.done } →
    w.frames ≡ old.frames ++ record { dir = dir; parents = parents_of dir files; next = 0 } ∷ [] →
    Leads look (walk_below look (family_of old.frames) dir files ++ left look old) old.visits old.done w
came_to look old w dir files good few within new is =
    let one : w.visits ≡ old.visits + 1 = ap (λ (v : Walk). v.visits) new in
    let same : w.done ≡ old.done = ap (λ (v : Walk). v.done) new in
    let fam : family_of w.frames ≡ family_of old.frames ++ dir ∷ [] = ap family_of is ∙ family_pushed old.frames _ in
    let shallow : length (family_of old.frames) < most_visits = rw length_family (omega arith) in
    let meets : walk_below look (family_of old.frames) dir files ++ left look old ≡ visit dir ∷ left look w =
    rw (entered look (family_of old.frames) dir files shallow, good, left_with look old w _ is, fam) refl in
    let tested : nat_lt old.visits most_visits ≡ true = lt-ltb _ _ few in
    let size = length_pushed old.frames w.frames _ is in
    record {
      fault = rw (meets, tested, one) refl;
      state = rw (meets, same) refl;
      room = omega arith;
      less = rw meets (omega arith);
    }

not_below : (m n : ℕ) → n ≤ m → nat_lt m n ≡ false
not_below m n h = grind (arith, nat_tests)

too_deep : (n : ℕ) (look : Look) (above : List (List ℕ)) (dir : List ℕ) (files : DirFiles) (rest : List Met) (visits : ℕ) → most_visits ≤ visits →
    first_fault visits (walk n look above dir files ++ rest) ≡ Some TooMany
too_deep zero look above dir files rest visits many = rw (not_below visits most_visits many) refl
too_deep (suc n) look above dir files rest visits many = rw (not_below visits most_visits many) refl

-- one visit too many
pub too_many : (look : Look) (above : List (List ℕ)) (dir : List ℕ) (files : DirFiles) (rest : List Met) (visits : ℕ) → most_visits ≤ visits →
    first_fault visits (walk_below look above dir files ++ rest) ≡ Some TooMany
unfolding walk_below
too_many look above dir files rest visits many = too_deep _ look above dir files rest visits many

-- a directory whose eapi is bad
pub bad_eapi : (look : Look) (old : Walk) (dir : List ℕ) (files : DirFiles) (rest : List Met) →
    has_bad_eapi files ≡ true → old.visits < most_visits → length old.frames ≤ old.visits →
    first_fault old.visits (walk_below look (family_of old.frames) dir files ++ rest) ≡ Some (BadEapi (eapi_path dir))
bad_eapi look old dir files rest bad few within =
    let shallow : length (family_of old.frames) < most_visits = rw length_family (omega arith) in
    let tested : nat_lt old.visits most_visits ≡ true = lt-ltb _ _ few in
    rw (entered look (family_of old.frames) dir files shallow, bad, tested) refl

-- the next parent of a frame
pub next_parent : (look : Look) (old w : Walk) (f : Frame) (parent : ParentLine) →
    slice_get f.parents f.next ≡ Some parent →
    w.frames ≡ old.frames ++ record { dir = f.dir; parents = f.parents; next = f.next + 1 } ∷ [] →
    left_of look (family_of (old.frames ++ f ∷ [])) f ++ left look old
    ≡ at_parent (walk_below look (family_of w.frames)) look (family_of w.frames) f.dir parent ++ left look w
next_parent look old w f parent there is =
    let fam : family_of w.frames ≡ family_of (old.frames ++ f ∷ []) = ap family_of is ∙ family_pushed old.frames _ ∙ sym (family_pushed old.frames f) in
    rw (left_with look old w _ is, fam, dropped f.parents f.next parent there) (grouped
    (at_parent (walk_below look (family_of (old.frames ++ f ∷ []))) look (family_of (old.frames ++ f ∷ [])) f.dir parent)
    (flat_map (at_parent (walk_below look (family_of (old.frames ++ f ∷ []))) look (family_of (old.frames ++ f ∷ [])) f.dir) (drop (f.next + 1) f.parents))
    (leave f.dir ∷ [])
    (left look old))

-- a walk that goes on with what it had to meet
pub went_on : (look : Look) (met more : List Met) (visits : ℕ) (done : List (List ℕ)) (w : Walk) → met ≡ more → Leads look more visits done w → Leads look met visits done w
went_on look met more visits done w is leads = subst (λ ms. Leads look ms visits done w) (sym is) leads

-- a directory is left
pub left_dir : (look : Look) (old w : Walk) (f : Frame) →
    slice_get f.parents f.next ≡ None → length old.frames < old.visits →
    w ≡ record { frames = old.frames; visits = old.visits; done = old.done ++ f.dir ∷ [] } →
    Leads look (left_of look (family_of (old.frames ++ f ∷ [])) f ++ left look old) old.visits old.done w
left_dir look old w f done within is =
    let meets : left_of look (family_of (old.frames ++ f ∷ [])) f ++ left look old ≡ leave f.dir ∷ left look w = rw (is, nothing_dropped f.parents f.next done) refl in
    let left_now : w.done ≡ old.done ++ f.dir ∷ [] = ap (λ (v : Walk). v.done) is in
    record {
      fault = rw (meets, is) refl;
      state = ap (λ ms. old.done ++ stack_of ms) meets ∙ sym (append_assoc old.done (f.dir ∷ []) (stack_of (left look w))) ∙ ap (λ ds. ds ++ stack_of (left look w)) (sym left_now);
      room = rw is (omega arith);
      less = rw meets (omega arith);
    }

pub left_ok : (look : Look) (old : Walk) (f : Frame) (result : Result Walk ProfileFault) → slice_get f.parents f.next ≡ None → length old.frames < old.visits →
    IfOk result (λ w. w ≡ record { frames = old.frames; visits = old.visits; done = old.done ++ f.dir ∷ [] }) →
    IfOk result (Leads look (left_of look (family_of (old.frames ++ f ∷ [])) f ++ left look old) old.visits old.done)
left_ok look old f (Ok w) done within is = left_dir look old w f done within is
left_ok look old f (Err fault) done within is = tt

-- ---- the loop, where the last frame of `w` was taken off and left `old`
pub taken_off : (look : Look) (w old : Walk) (f : Frame) → w.frames ≡ old.frames ++ f ∷ [] →
    left look w ≡ left_of look (family_of (old.frames ++ f ∷ [])) f ++ left look old
taken_off look w old f is = rw is (left_pushed look [] old.frames f)
