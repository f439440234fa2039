-- The directories that a reading comes to, each once, and where each parent of one of them is one of them.
use Rattle.std.proofs.Common.{◌≡◌, ℕ, zero, suc, Bool, true, false, ◌||◌, List, [], ◌∷◌, ◌++◌, refl, sym, ap, subst, ◌∙◌}
use Rattle.std.specs.Prelude.{if◌then◌else◌}
use Rattle.std.specs.List.{list_any}
use Rattle.std.specs.Str.{bytes_eq}
use Rattle.std.proofs.lemmas.Bool.{false≢true}
use Rattle.std.proofs.lemmas.List.Folds.{list_any-append}
use Rattle.std.proofs.lemmas.Slice.Eq.{bytes_eq-Decides}
use Rattle.gv_base.specs.Order.{has_text}
use Rattle.gv_usedefaults.specs.LineFiles.{comes_to_end, to_come}

pub same_bytes : (x y : List ℕ) → bytes_eq x y ≡ true → x ≡ y
same_bytes x y is = (bytes_eq-Decides x y).0 is

pub itself : (x : List ℕ) → bytes_eq x x ≡ true
itself x = (bytes_eq-Decides x x).1 refl

pub or_left : (a b : Bool) → a ≡ true → (a || b) ≡ true
or_left true b is = refl
or_left false b is = cc

pub or_right : (a b : Bool) → b ≡ true → (a || b) ≡ true
or_right true b is = refl
or_right false b is = is

or_parts : {X : Type 0} (a b : Bool) → (a || b) ≡ true → (a ≡ true → X) → (b ≡ true → X) → X
or_parts true b is left right = left refl
or_parts false b is left right = right is

left_false : (a b : Bool) → (a || b) ≡ false → a ≡ false
left_false true b is = cc
left_false false b is = refl

has_last : (before : List (List ℕ)) (dir text : List ℕ) → has_text (before ++ dir ∷ []) text ≡ (has_text before text || (bytes_eq text dir || false))
has_last before dir text = list_any-append (bytes_eq text) before (dir ∷ [])

has_both : (xs ys : List (List ℕ)) (text : List ℕ) → has_text (xs ++ ys) text ≡ (has_text xs text || has_text ys text)
has_both xs ys text = list_any-append (bytes_eq text) xs ys

-- among those before, with the last, or behind
moved : (a b c : Bool) → ((a || (b || false)) || c) ≡ true → (a || (b || c)) ≡ true
moved true b c is = refl
moved false true c is = refl
moved false false c is = is

module _ (parents : List ℕ → List (List ℕ)) where
  abbrev come : ℕ → (before ahead : List (List ℕ)) → List (List ℕ)
  come turns before ahead = to_come turns parents before ahead

  -- ---- what was ahead is reached
  pub all_ahead : (turns : ℕ) (before ahead : List (List ℕ)) → comes_to_end turns parents before ahead ≡ true → (d : List ℕ) → has_text ahead d ≡ true → (has_text before d || has_text (come turns before ahead) d) ≡ true
  all_ahead zero before [] end d is = cc
  all_ahead zero before (dir ∷ ahead) end d is = cc
  all_ahead (suc turns) before [] end d is = cc
  all_ahead (suc turns) before (dir ∷ ahead) end d is = by (has_text before dir) refl end (λ b a e x h. all_ahead turns b a e x h)
    where
      by : (b : Bool) → has_text before dir ≡ b → (if b then comes_to_end turns parents before ahead else comes_to_end turns parents (before ++ dir ∷ []) (parents dir ++ ahead)) ≡ true →
          ((bf ah : List (List ℕ)) → comes_to_end turns parents bf ah ≡ true → (x : List ℕ) → has_text ah x ≡ true → (has_text bf x || has_text (come turns bf ah) x) ≡ true) →
          (has_text before d || has_text (if b then come turns before ahead else dir ∷ come turns (before ++ dir ∷ []) (parents dir ++ ahead)) d) ≡ true
      by true was end later_on = or_parts (bytes_eq d dir) (has_text ahead d) is
          (λ same. or_left (has_text before d) _ (subst (λ x. has_text before x ≡ true) (sym (same_bytes d dir same)) was))
          (λ later. later_on before ahead end d later)
      by false new end later_on = or_parts (bytes_eq d dir) (has_text ahead d) is
          (λ same. or_right (has_text before d) _ (or_left (bytes_eq d dir) _ same))
          (λ later. moved (has_text before d) (bytes_eq d dir) (has_text (come turns (before ++ dir ∷ []) (parents dir ++ ahead)) d)
          (ap (λ b. b || has_text (come turns (before ++ dir ∷ []) (parents dir ++ ahead)) d) (sym (has_last before dir d))
          ∙ later_on (before ++ dir ∷ []) (parents dir ++ ahead) end d (has_both (parents dir) ahead d ∙ or_right (has_text (parents dir) d) (has_text ahead d) later)))

  -- ---- and so are parents of what is reached
  pub all_parents : (turns : ℕ) (before ahead : List (List ℕ)) → comes_to_end turns parents before ahead ≡ true → (d p : List ℕ) → has_text (come turns before ahead) d ≡ true → has_text (parents d) p ≡ true →
      (has_text before p || has_text (come turns before ahead) p) ≡ true
  all_parents zero before [] end d p is named = cc
  all_parents zero before (dir ∷ ahead) end d p is named = cc
  all_parents (suc turns) before [] end d p is named = cc
  all_parents (suc turns) before (dir ∷ ahead) end d p is named = by (has_text before dir) end is (λ b a e h. all_parents turns b a e d p h named)
    where
      by : (b : Bool) → (if b then comes_to_end turns parents before ahead else comes_to_end turns parents (before ++ dir ∷ []) (parents dir ++ ahead)) ≡ true →
          has_text (if b then come turns before ahead else dir ∷ come turns (before ++ dir ∷ []) (parents dir ++ ahead)) d ≡ true →
          ((bf ah : List (List ℕ)) → comes_to_end turns parents bf ah ≡ true → has_text (come turns bf ah) d ≡ true → (has_text bf p || has_text (come turns bf ah) p) ≡ true) →
          (has_text before p || has_text (if b then come turns before ahead else dir ∷ come turns (before ++ dir ∷ []) (parents dir ++ ahead)) p) ≡ true
      by true end is later_on = later_on before ahead end is
      by false end is later_on =
          let rest = come turns (before ++ dir ∷ []) (parents dir ++ ahead) in
          let back : ((has_text (before ++ dir ∷ []) p || has_text rest p) ≡ true) = or_parts (bytes_eq d dir) (has_text rest d) is
          (λ same. all_ahead turns (before ++ dir ∷ []) (parents dir ++ ahead) end p
          (has_both (parents dir) ahead p ∙ or_left (has_text (parents dir) p) (has_text ahead p) (subst (λ x. has_text (parents x) p ≡ true) (same_bytes d dir same) named)))
          (λ later. later_on (before ++ dir ∷ []) (parents dir ++ ahead) end later) in
          moved (has_text before p) (bytes_eq p dir) (has_text rest p) (ap (λ b. b || has_text rest p) (sym (has_last before dir p)) ∙ back)

  -- ---- each once
  abbrev pub AreOnce : List (List ℕ) → Type 0
  AreOnce [] = Unit {0}
  AreOnce (d ∷ ds) = (has_text ds d ≡ false) × AreOnce ds

  not_before : (turns : ℕ) (before ahead : List (List ℕ)) (d : List ℕ) → has_text before d ≡ true → has_text (come turns before ahead) d ≡ false
  not_before zero before ahead d was = refl
  not_before (suc turns) before [] d was = refl
  not_before (suc turns) before (dir ∷ ahead) d was = by (has_text before dir) refl (λ b a h. not_before turns b a d h)
    where
      other : (b : Bool) → bytes_eq d dir ≡ b → has_text before dir ≡ false → bytes_eq d dir ≡ false
      other true same new = absurd (false≢true (sym new ∙ subst (λ x. has_text before x ≡ true) (same_bytes d dir same) was))
      other false not new = not

      by : (b : Bool) → has_text before dir ≡ b → ((bf ah : List (List ℕ)) → has_text bf d ≡ true → has_text (come turns bf ah) d ≡ false) →
          has_text (if b then come turns before ahead else dir ∷ come turns (before ++ dir ∷ []) (parents dir ++ ahead)) d ≡ false
      by true old later_on = later_on before ahead was
      by false new later_on =
          let apart : bytes_eq d dir ≡ false = other (bytes_eq d dir) refl new in
          let later : has_text (come turns (before ++ dir ∷ []) (parents dir ++ ahead)) d ≡ false = later_on (before ++ dir ∷ []) (parents dir ++ ahead) (has_last before dir d ∙ or_left (has_text before d) _ was) in
          rw (apart, later) refl

  pub each_once : (turns : ℕ) (before ahead : List (List ℕ)) → AreOnce (come turns before ahead)
  each_once zero before ahead = tt
  each_once (suc turns) before [] = tt
  each_once (suc turns) before (dir ∷ ahead) = by (has_text before dir) (λ b a. each_once turns b a)
    where
      by : (b : Bool) → ((bf ah : List (List ℕ)) → AreOnce (come turns bf ah)) → AreOnce (if b then come turns before ahead else dir ∷ come turns (before ++ dir ∷ []) (parents dir ++ ahead))
      by true later_on = later_on before ahead
      by false later_on = (
        not_before turns (before ++ dir ∷ []) (parents dir ++ ahead) dir (has_last before dir dir ∙ or_right (has_text before dir) _ (or_left (bytes_eq dir dir) false (itself dir))),
        later_on (before ++ dir ∷ []) (parents dir ++ ahead),
      )
