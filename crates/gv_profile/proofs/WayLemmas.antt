-- The index of the directories on the way finds each of them, as directories are entered and left.
use Rattle.std.proofs.Common.{◌≡◌, ℕ, ◌+◌, ◌⊎◌, inl, inr, zero, suc, List, [], ◌∷◌, ◌++◌, Bool, true, false, cond, ◌||◌, if◌then◌else◌, Option, Some, None, length, refl, sym, ap, ◌∙◌, append_assoc, length-append, arith}
use Rattle.std.proofs.lemmas.List.{append-nil}
use Rattle.std.proofs.lemmas.List.Folds.{list_any-append}
use Rattle.std.proofs.lemmas.Map.Text.{is_eq-slice_cmp}
use Rattle.std.proofs.lemmas.Option.{slice_get_past}
use Rattle.std.proofs.lemmas.Slice.Eq.{bytes_eq-Decides}
use Rattle.std.specs.Cmp.Lexicographic.{nat_list_cmp_total}
use Rattle.std.specs.FinMap.{get, insert, get-insert}
use Rattle.std.specs.List.{list_any}
use Rattle.std.specs.Prelude.{slice_get}
use Rattle.std.specs.Str.{bytes_eq}
use Rattle.gv_base.specs.ByteMap.{ByteMap}
use Rattle.gv_profile.specs.declared.frames.Frame.{Frame}
use Rattle.gv_profile.specs.FrameIndex.{family_of}
use Rattle.gv_profile.specs.FrameIndex.{is_among, stands_at, FindsAll}
use Rattle.gv_profile.specs.PrivateWords.{with_place}

or_none : (b : Bool) → (b || (false || false)) ≡ b
or_none true = refl
or_none false = refl

or_true : (b : Bool) → (b || (true || false)) ≡ true
or_true true = refl
or_true false = refl

left_false : (a b : Bool) → (a || b) ≡ false → a ≡ false
left_false true b is = cc
left_false false b is = refl

nowhere : (place : Option ℕ) (dir : List ℕ) → stands_at [] place dir ≡ false
nowhere None dir = refl
nowhere (Some zero) dir = refl
nowhere (Some (suc n)) dir = refl

pub nothing : (places : ByteMap ℕ) → FindsAll [] places
nothing places [] back is dir = sym (nowhere (get places dir) dir)
nothing places (f ∷ fs) back is dir = cc

pub popped : (fs : List Frame) (f : Frame) (places : ByteMap ℕ) → FindsAll (fs ++ f ∷ []) places → FindsAll fs places
popped fs f places all front back is dir = all front (back ++ f ∷ []) (ap (λ l. l ++ f ∷ []) is ∙ append_assoc front back (f ∷ [])) dir

-- a front of a list with one more item is the whole, or a front of the list
cut : (fs front back : List Frame) (f : Frame) → fs ++ f ∷ [] ≡ front ++ back → (front ≡ fs ++ f ∷ []) ⊎ ((rest : List Frame) × (fs ≡ front ++ rest))
cut fs [] back f is = inr (fs, refl)
cut [] (g ∷ []) back f is = inl (cc)
cut [] (g ∷ h ∷ gs) back f is = cc
cut (e ∷ fs) (g ∷ gs) back f is =
    let same : e ≡ g = cc in
    let rest : fs ++ f ∷ [] ≡ gs ++ back = cc in
    elim (cut fs gs back f rest) [
      | inl whole ↦ inl (rw (same, whole) refl)
      | inr part ↦ inr (part.0, rw same (ap (λ l. g ∷ l) part.1))
    ]

-- a look-up behind an insertion
got : (places : ByteMap ℕ) (key : List ℕ) (place : ℕ) (dir : List ℕ) → get (insert places key place) dir ≡ cond (bytes_eq dir key) (Some place) (get places dir)
got places key place dir = get-insert nat_list_cmp_total places key place dir ∙ ap (λ (b : Bool). cond b (Some place) (get places dir)) (is_eq-slice_cmp dir key)

at_end : (fs : List Frame) (f : Frame) → slice_get (fs ++ f ∷ []) (length fs) ≡ Some f
at_end [] f = refl
at_end (g ∷ gs) f = at_end gs f

-- a directory of another path at the end is found nowhere
other : (fs : List Frame) (f : Frame) (place : Option ℕ) (dir : List ℕ) → bytes_eq dir f.dir ≡ false → stands_at (fs ++ f ∷ []) place dir ≡ stands_at fs place dir
other fs f None dir differs = refl
other [] f (Some zero) dir differs = differs
other [] f (Some (suc zero)) dir differs = refl
other [] f (Some (suc (suc n))) dir differs = refl
other (g ∷ gs) f (Some zero) dir differs = refl
other (g ∷ gs) f (Some (suc n)) dir differs = other gs f (Some n) dir differs

-- what is found is found behind one more
still : (fs : List Frame) (f : Frame) (place : Option ℕ) (dir : List ℕ) → stands_at fs place dir ≡ true → stands_at (fs ++ f ∷ []) place dir ≡ true
still fs f None dir found = found
still [] f (Some zero) dir found = cc
still [] f (Some (suc n)) dir found = cc
still (g ∷ gs) f (Some zero) dir found = found
still (g ∷ gs) f (Some (suc n)) dir found = still gs f (Some n) dir found

family_with : (fs gs : List Frame) → family_of (fs ++ gs) ≡ family_of fs ++ family_of gs
family_with [] gs = refl
family_with (f ∷ fs) gs = ap (λ ds. f.dir ∷ ds) (family_with fs gs)

among_with : (fs gs : List Frame) (dir : List ℕ) → is_among (fs ++ gs) dir ≡ (is_among fs dir || is_among gs dir)
among_with fs gs dir = ap (list_any (bytes_eq dir)) (family_with fs gs) ∙ list_any-append (bytes_eq dir) (family_of fs) (family_of gs)

-- ---- one more directory

-- the whole way, where the path is found already
whole_known : (fs : List Frame) (f : Frame) (places : ByteMap ℕ) → FindsAll fs places → stands_at fs (get places f.dir) f.dir ≡ true →
    (dir : List ℕ) → is_among (fs ++ f ∷ []) dir ≡ stands_at (fs ++ f ∷ []) (get places dir) dir
whole_known fs f places all known dir =
    let among = all fs [] (sym (append-nil fs)) dir in
    elim (bytes_eq dir f.dir) as (λ b. bytes_eq dir f.dir ≡ b → is_among (fs ++ f ∷ []) dir ≡ stands_at (fs ++ f ∷ []) (get places dir) dir) [
      | true ↦ λ equal.
          let is : dir ≡ f.dir = (bytes_eq-Decides dir f.dir).0 equal in
          let found : stands_at fs (get places dir) dir ≡ true = rw is known in
          rw (among_with fs (f ∷ []) dir, among, found, still fs f (get places dir) dir found) refl
      | false ↦ λ differs. rw (among_with fs (f ∷ []) dir, among, differs, other fs f (get places dir) dir differs) (or_none _)
    ] refl

-- the whole way, where it is new
whole_new : (fs : List Frame) (f : Frame) (places : ByteMap ℕ) → FindsAll fs places →
    (dir : List ℕ) → is_among (fs ++ f ∷ []) dir ≡ stands_at (fs ++ f ∷ []) (get (insert places f.dir (length fs)) dir) dir
whole_new fs f places all dir =
    let among = all fs [] (sym (append-nil fs)) dir in
    elim (bytes_eq dir f.dir) as (λ b. bytes_eq dir f.dir ≡ b → is_among (fs ++ f ∷ []) dir ≡ stands_at (fs ++ f ∷ []) (get (insert places f.dir (length fs)) dir) dir) [
      | true ↦ λ equal. rw (among_with fs (f ∷ []) dir, got places f.dir (length fs) dir, equal, at_end fs f, equal) (or_true _)
      | false ↦ λ differs. rw (among_with fs (f ∷ []) dir, got places f.dir (length fs) dir, differs, among, other fs f (get places dir) dir differs) (or_none _)
    ] refl

-- a front of the way, where it is new
front_new : (fs front rest : List Frame) (f : Frame) (places : ByteMap ℕ) → FindsAll fs places → stands_at fs (get places f.dir) f.dir ≡ false → fs ≡ front ++ rest →
    (dir : List ℕ) → is_among front dir ≡ stands_at front (get (insert places f.dir (length fs)) dir) dir
front_new fs front rest f places all new is dir =
    elim (bytes_eq dir f.dir) as (λ b. bytes_eq dir f.dir ≡ b → is_among front dir ≡ stands_at front (get (insert places f.dir (length fs)) dir) dir) [
      | true ↦ λ equal.
          let same : dir ≡ f.dir = (bytes_eq-Decides dir f.dir).0 equal in
          let size : length fs ≡ length front + length rest = ap length is ∙ length-append front rest in
          let past = slice_get_past front (length fs) (omega arith) in
          let none : is_among fs f.dir ≡ false = all fs [] (sym (append-nil fs)) f.dir ∙ new in
          let split : (is_among front f.dir || is_among rest f.dir) ≡ false = sym (among_with front rest f.dir) ∙ ap (λ l. is_among l f.dir) (sym is) ∙ none in
          let absent : is_among front dir ≡ false = rw same (left_false _ _ split) in
          rw (got places f.dir (length fs) dir, equal, past, absent) refl
      | false ↦ λ differs. rw (got places f.dir (length fs) dir, differs) (all front rest is dir)
    ] refl

found_known : (fs : List Frame) (f : Frame) (places : ByteMap ℕ) → FindsAll fs places → stands_at fs (get places f.dir) f.dir ≡ true → FindsAll (fs ++ f ∷ []) places
found_known fs f places all known front back is dir =
    elim (cut fs front back f is) [
      | inl whole ↦ rw whole (whole_known fs f places all known dir)
      | inr part ↦ all front part.0 part.1 dir
    ]

found_new : (fs : List Frame) (f : Frame) (places : ByteMap ℕ) → FindsAll fs places → stands_at fs (get places f.dir) f.dir ≡ false → FindsAll (fs ++ f ∷ []) (insert places f.dir (length fs))
found_new fs f places all new front back is dir =
    elim (cut fs front back f is) [
      | inl whole ↦ rw whole (whole_new fs f places all dir)
      | inr part ↦ front_new fs front part.0 f places all new part.1 dir
    ]

pub pushed : (fs : List Frame) (f : Frame) (places : ByteMap ℕ) → FindsAll fs places → FindsAll (fs ++ f ∷ []) (with_place fs places f.dir)
pushed fs f places all =
    elim (stands_at fs (get places f.dir) f.dir) as (λ b. stands_at fs (get places f.dir) f.dir ≡ b → FindsAll (fs ++ f ∷ []) (if b then places else insert places f.dir (length fs))) [
      | true ↦ λ known. found_known fs f places all known
      | false ↦ λ new. found_new fs f places all new
    ] refl
