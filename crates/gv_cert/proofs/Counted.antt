-- Things behind their number, and numbered things one after another.
use Rattle.std.proofs.Common.{◌≡◌, ℕ, zero, suc, ◌+◌, ◌<◌, ◌≤◌, List, [], ◌∷◌, ◌++◌, length, drop, refl, sym, subst, ◌∙◌, ap, append_assoc, append-nil, length-append, arith}
use Rattle.std.specs.List.{flat_map}
use Rattle.std.proofs.lemmas.List.{drop_all}
use Rattle.gv_cert.specs.Numbers.{number_form, counted_form, flat_from, IsNumber, AreCounted, AllFrom}
use Rattle.gv_cert.specs.declared.version.FileVersion.{FileVersion}
use Rattle.gv_cert.proofs.Cancel.{Cancels, Taken, cons_same, items_same, none_next}
use Rattle.gv_cert.proofs.Shorts.{form_cancels}

-- no number begins the bytes
abbrev pub NoNumber : FileVersion → List ℕ → Type 0
NoNumber version before = (n : ℕ) (rest : List ℕ) → IsNumber n → before ≡ number_form version n ++ rest → ⊥

-- Behind their number.

module _ {X : Type 0} (version : FileVersion) (Is : X → Type 0) (written : X → List ℕ) (cancels : Cancels Is written) where
  module _ (before first : List ℕ) (count : ℕ) (read : IsNumber count × (before ≡ number_form version count ++ first)) where
    counted : (xs : List X) (after : List ℕ) → AreCounted Is xs → before ≡ counted_form version written xs ++ after → (length xs ≡ count) × (first ≡ flat_map written xs ++ after)
    counted xs after c e =
        let s = form_cancels version (length xs) count (flat_map written xs ++ after) first c.few read.0
        (sym (append_assoc (number_form version (length xs)) (flat_map written xs) after) ∙ sym e ∙ read.1) in
        (s.0, sym s.1)

    pub counted_none : (n : ℕ) (done : List X) (rest : List ℕ) → n < count → Taken Is written first done rest n
        → ((x : X) (tail : List ℕ) → Is x → rest ≡ written x ++ tail → ⊥)
        → (xs : List X) (after : List ℕ) → AreCounted Is xs → before ≡ counted_form version written xs ++ after → ⊥
    counted_none n done rest short t no_ xs after c e =
        let s = counted xs after c e in
        none_next Is written cancels count n first done rest short t no_ xs after s.0 c.all s.1

    pub counted_read : (n : ℕ) (done : List X) (rest : List ℕ) → n ≡ count → Taken Is written first done rest n
        → AreCounted Is done × (before ≡ counted_form version written done ++ rest)
    counted_read n done rest same t =
        let many : length done ≡ count = t.count ∙ same in (
          record { few = subst IsNumber (sym many) read.0; all = t.all },
          read.1 ∙ ap (λ bs. number_form version count ++ bs) t.bytes ∙ sym (append_assoc (number_form version count) (flat_map written done) rest)
              ∙ ap (λ k. (number_form version k ++ flat_map written done) ++ rest) (sym many),
        )

  pub counted_short : (before : List ℕ) → NoNumber version before → (xs : List X) (after : List ℕ) → AreCounted Is xs → before ≡ counted_form version written xs ++ after → ⊥
  counted_short before no_ xs after c e =
      no_ (length xs) (flat_map written xs ++ after) c.few (e ∙ append_assoc (number_form version (length xs)) (flat_map written xs) after)

  pub counted_cancels : Cancels (AreCounted Is) (counted_form version written)
  counted_cancels xs ys us vs p q e =
      let s = form_cancels version (length xs) (length ys) (flat_map written xs ++ us) (flat_map written ys ++ vs) p.few q.few
      (sym (append_assoc (number_form version (length xs)) (flat_map written xs) us) ∙ e ∙ append_assoc (number_form version (length ys)) (flat_map written ys) vs) in
      items_same Is written cancels xs ys us vs p.all q.all s.0 s.1

-- Numbered things.

all_end : {X : Type 0} (Is : ℕ → X → Type 0) (start n : ℕ) (xs : List X) (x : X) → start + length xs ≡ n → AllFrom Is start xs → Is n x → AllFrom Is start (xs ++ x ∷ [])
all_end Is start n [] x k a i = (let same : n ≡ start = omega (arith, k) in subst (λ m. Is m x) same i, tt)
all_end Is start n (y ∷ ys) x k a i = (a.0, all_end Is (start + 1) n ys x (omega (arith, k)) a.1 i)

module _ {X : Type 0} (Is : ℕ → X → Type 0) (written : ℕ → X → List ℕ) where
  -- those that were read so far
  pub record TakenFrom (start : ℕ) (before : List ℕ) (done : List X) (rest : List ℕ) (n : ℕ) : Type 0 where
    pub count : length done ≡ n
    pub all : AllFrom Is start done
    pub bytes : before ≡ flat_from written start done ++ rest

  written_end : (start n : ℕ) (xs : List X) (x : X) (rest : List ℕ) → start + length xs ≡ n → flat_from written start (xs ++ x ∷ []) ++ rest ≡ flat_from written start xs ++ (written n x ++ rest)
  written_end start n [] x rest k = let same : start ≡ n = omega (arith, k) in ap (λ bs. bs ++ rest) (append-nil (written start x)) ∙ ap (λ m. written m x ++ rest) same
  written_end start n (y ∷ ys) x rest k =
      append_assoc (written start y) (flat_from written (start + 1) (ys ++ x ∷ [])) rest
      ∙ ap (λ bs. written start y ++ bs) (written_end (start + 1) n ys x rest (omega (arith, k)))
      ∙ sym (append_assoc (written start y) (flat_from written (start + 1) ys) (written n x ++ rest))

  pub none_taken : (start : ℕ) (before : List ℕ) → TakenFrom start before [] before 0
  none_taken start before = record { count = refl; all = tt; bytes = refl }

  pub one_taken : (start : ℕ) (before : List ℕ) (done more : List X) (rest after : List ℕ) (x : X) (n at : ℕ)
      → TakenFrom start before done rest n → more ≡ done ++ x ∷ [] → at ≡ start + n → Is at x × (rest ≡ written at x ++ after) → TakenFrom start before more after (n + 1)
  one_taken start before done more rest after x n at t e k r = subst (λ xs. TakenFrom start before xs after (n + 1)) (sym e) (record {
    count = omega (arith, length-append done (x ∷ []), t.count);
    all = all_end Is start at done x (omega (arith, k, t.count)) t.all r.0;
    bytes = t.bytes ∙ ap (λ bs. flat_from written start done ++ bs) r.1 ∙ sym (written_end start at done x after (omega (arith, k, t.count)));
  })

  module _ (cancels : (n : ℕ) → Cancels (Is n) (written n)) where
    pub numbered_same : (start : ℕ) (xs ys : List X) (us vs : List ℕ) → AllFrom Is start xs → AllFrom Is start ys → length xs ≡ length ys
        → flat_from written start xs ++ us ≡ flat_from written start ys ++ vs → (xs ≡ ys) × (us ≡ vs)
    numbered_same start [] [] us vs p q l e = (refl, e)
    numbered_same start [] (y ∷ ys) us vs p q l e = absurd (omega (arith, l))
    numbered_same start (x ∷ xs) [] us vs p q l e = absurd (omega (arith, l))
    numbered_same start (x ∷ xs) (y ∷ ys) us vs p q l e =
        let s = cancels start x y (flat_from written (start + 1) xs ++ us) (flat_from written (start + 1) ys ++ vs) p.0 q.0
        (sym (append_assoc (written start x) (flat_from written (start + 1) xs) us) ∙ e ∙ append_assoc (written start y) (flat_from written (start + 1) ys) vs) in
        let t = numbered_same (start + 1) xs ys us vs p.1 q.1 (omega (arith, l)) s.1 in
        (cons_same x y xs ys s.0 t.0, t.1)

    -- none, where fewer were read and the next isn't there
    none_behind : (start at : ℕ) (done xs : List X) (rest after : List ℕ) → at ≡ start + length done → AllFrom Is start done → AllFrom Is start xs → length done < length xs
        → flat_from written start done ++ rest ≡ flat_from written start xs ++ after → ((x : X) (tail : List ℕ) → Is at x → rest ≡ written at x ++ tail → ⊥) → ⊥
    none_behind start at [] [] rest after k p q l e no_ = absurd (omega (arith, l))
    none_behind start at [] (x ∷ xs) rest after k p q l e no_ =
        let same : start ≡ at = omega (arith, k) in
        no_ x (flat_from written (start + 1) xs ++ after) (subst (λ m. Is m x) same q.0)
        (e ∙ append_assoc (written start x) (flat_from written (start + 1) xs) after ∙ ap (λ m. written m x ++ (flat_from written (start + 1) xs ++ after)) same)
    none_behind start at (d ∷ ds) [] rest after k p q l e no_ = absurd (omega (arith, l))
    none_behind start at (d ∷ ds) (x ∷ xs) rest after k p q l e no_ =
        let s = cancels start d x (flat_from written (start + 1) ds ++ rest) (flat_from written (start + 1) xs ++ after) p.0 q.0
        (sym (append_assoc (written start d) (flat_from written (start + 1) ds) rest) ∙ e ∙ append_assoc (written start x) (flat_from written (start + 1) xs) after) in
        none_behind (start + 1) at ds xs rest after (omega (arith, k)) p.1 q.1 (omega (arith, l)) s.1 no_

    pub none_numbered : (start count n at : ℕ) (before : List ℕ) (done : List X) (rest : List ℕ) → n < count → at ≡ start + n → TakenFrom start before done rest n
        → ((x : X) (tail : List ℕ) → Is at x → rest ≡ written at x ++ tail → ⊥)
        → (xs : List X) (after : List ℕ) → length xs ≡ count → AllFrom Is start xs → before ≡ flat_from written start xs ++ after → ⊥
    none_numbered start count n at before done rest short k t no_ xs after l a e =
        none_behind start at done xs rest after (omega (arith, k, t.count)) t.all a (omega (arith, short, t.count, l)) (sym t.bytes ∙ e) no_

-- Numbered things as they are written.

module _ {X : Type 0} (written : ℕ → X → List ℕ) where
  -- those that are still to be written
  pub record Writes (start : ℕ) (xs : List X) (whole bytes : List ℕ) (i : ℕ) : Type 0 where
    pub bytes_are : bytes ++ flat_from written (start + i) (drop i xs) ≡ whole

  pub writes_first : (start : ℕ) (xs : List X) (bytes : List ℕ) → Writes start xs (bytes ++ flat_from written start xs) bytes 0
  writes_first start xs bytes = record { bytes_are = let same : start + 0 ≡ start = omega arith in ap (λ n. bytes ++ flat_from written n xs) same }

  pub writes_next : (start : ℕ) (xs : List X) (whole bytes longer : List ℕ) (i at : ℕ) (x : X) → Writes start xs whole bytes i → at ≡ start + i → drop i xs ≡ x ∷ drop (i + 1) xs
      → longer ≡ bytes ++ written at x → Writes start xs whole longer (i + 1)
  writes_next start xs whole bytes longer i at x w k d is = record {
    bytes_are =
        let next : start + (i + 1) ≡ start + i + 1 = omega arith in
        ap (λ bs. bs ++ flat_from written (start + (i + 1)) (drop (i + 1) xs)) (is ∙ ap (λ n. bytes ++ written n x) k)
        ∙ append_assoc bytes (written (start + i) x) (flat_from written (start + (i + 1)) (drop (i + 1) xs))
        ∙ ap (λ n. bytes ++ (written (start + i) x ++ flat_from written n (drop (i + 1) xs))) next
        ∙ ap (λ ys. bytes ++ flat_from written (start + i) ys) (sym d)
        ∙ w.bytes_are;
  }

  pub writes_last : (start : ℕ) (xs : List X) (whole bytes : List ℕ) (i : ℕ) → Writes start xs whole bytes i → length xs ≤ i → bytes ≡ whole
  writes_last start xs whole bytes i w end_ =
      sym (append-nil bytes) ∙ ap (λ ys. bytes ++ flat_from written (start + i) ys) (sym (drop_all i xs end_)) ∙ w.bytes_are

-- each at its number, of those from one on, and of the first ones
pub all_at : {X : Type 0} (Is : ℕ → X → Type 0) (start at i : ℕ) (xs : List X) (x : X) → at ≡ start + i → drop i xs ≡ x ∷ drop (i + 1) xs → AllFrom Is start xs → Is at x
all_at Is start at zero xs x k d a = (let same : start ≡ at = omega (arith, k) in subst (λ n. Is n x) same (subst (AllFrom Is start) d a).0)
all_at Is start at (suc i) [] x k d a = absurd (omega (arith, ap length d))
all_at Is start at (suc i) (y ∷ ys) x k d a =
    let next : suc i + 1 ≡ suc (i + 1) = omega arith in
    all_at Is (start + 1) at i ys x (omega (arith, k)) (d ∙ ap (λ n. x ∷ drop n (y ∷ ys)) next) a.1

pub all_next : {X : Type 0} (Is : ℕ → X → Type 0) (start at : ℕ) (xs more : List X) (x : X) → at ≡ start + length xs → more ≡ xs ++ x ∷ [] → AllFrom Is start xs → Is at x → AllFrom Is start more
all_next Is start at xs more x k e a i = subst (AllFrom Is start) (sym e) (all_end Is start at xs x (sym k) a i)
