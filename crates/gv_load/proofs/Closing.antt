-- What is closed stays so, as directories are reached.
use Rattle.std.proofs.Common.{◌≡◌, ℕ, ◌+◌, List, [], ◌∷◌, ◌++◌, Bool, true, false, ◌||◌, Some, None, drop, refl, sym, ap, ◌∙◌, append-nil, append_assoc}
use Rattle.std.specs.Prelude.{Option, slice_get}
use Rattle.std.specs.Str.{bytes_eq}
use Rattle.gv_base.specs.Order.{has_text}
use Rattle.gv_profile.specs.declared.files.DirFiles.{DirFiles}
use Rattle.gv_load.specs.declared.reaching.Ahead.{Ahead}
use Rattle.gv_load.specs.Ahead.{ahead_of}
use Rattle.gv_load.specs.Closed.{parent_paths, IsClosedBut, IsClosed, paths_left}
use Rattle.gv_load.specs.Reaching.{Dirs, paths_of}
use Rattle.gv_load.specs.ListLemmas.{by_case, dropped, has_last, in_back, in_either, in_front, nothing_dropped, on_left, on_right, same_bytes}

same_here : (texts : List (List ℕ)) (p dir : List ℕ) → bytes_eq p dir ≡ true → has_text texts dir ≡ true → has_text texts p ≡ true
same_here texts p dir same is = ap (has_text texts) (same_bytes p dir same) ∙ is

-- ---- of what is ahead
pub left_append : (as_ bs : List Ahead) → paths_left (as_ ++ bs) ≡ paths_left as_ ++ paths_left bs
left_append [] bs = refl
left_append (a ∷ as_) bs = simp (left_append as_ bs, append_assoc)

-- a path that was reached before
pub closed_known : (dirs : Dirs) (reached ahead : List (List ℕ)) (dir : List ℕ) → has_text reached dir ≡ true → IsClosedBut dirs reached (dir ∷ ahead) → IsClosedBut dirs reached ahead
closed_known dirs reached ahead dir there closed d p in_ parent =
    by_case (has_text reached p) (bytes_eq p dir || has_text ahead p) (closed d p in_ parent)
    (λ is. on_left _ (has_text ahead p) is)
    (λ next. by_case (bytes_eq p dir) (has_text ahead p) next
    (λ same. on_left _ (has_text ahead p) (same_here reached p dir same there))
    (λ is. on_right (has_text reached p) _ is))

-- more may be ahead
pub closed_more : (dirs : Dirs) (reached xs ys : List (List ℕ)) → ((p : List ℕ) → has_text xs p ≡ true → has_text ys p ≡ true) → IsClosedBut dirs reached xs → IsClosedBut dirs reached ys
closed_more dirs reached xs ys more closed d p in_ parent =
    by_case (has_text reached p) (has_text xs p) (closed d p in_ parent)
    (λ is. on_left _ (has_text ys p) is)
    (λ is. on_right (has_text reached p) _ (more p is))

-- what a new directory leads to is ahead
leads : (as_ : List Ahead) (dir : List ℕ) (o : Option DirFiles) (p : List ℕ) → has_text (parent_paths dir o) p ≡ true → has_text (paths_left (ahead_of dir o)) p ≡ true
leads as_ dir None p is = cc
leads as_ dir (Some files) p is = in_front (paths_of dir files) [] p is

-- a path that was not reached before
pub closed_new : (dirs : Dirs) (reached after : List (List ℕ)) (ahead now : List Ahead) (dir : List ℕ) → after ≡ reached ++ dir ∷ [] → now ≡ ahead ++ ahead_of dir (dirs dir) →
    IsClosedBut dirs reached (dir ∷ paths_left ahead) → IsClosedBut dirs after (paths_left now)
closed_new dirs reached after ahead now dir is ahead_is closed d p in_ parent =
    by_case (bytes_eq d dir) (has_text reached d) (sym (has_after d) ∙ in_)
    (λ same. on_right (has_text after p) _ (now_has p (in_back (paths_left ahead) (paths_left (ahead_of dir (dirs dir))) p
    (leads ahead dir (dirs dir) p (sym (ap (λ x. has_text (parent_paths x (dirs x)) p) (same_bytes d dir same)) ∙ parent)))))
    (λ before. by_case (has_text reached p) (bytes_eq p dir || has_text (paths_left ahead) p) (closed d p before parent)
    (λ old. on_left _ (has_text (paths_left now) p) (has_after p ∙ on_right (bytes_eq p dir) _ old))
    (λ next. by_case (bytes_eq p dir) (has_text (paths_left ahead) p) next
    (λ same. on_left _ (has_text (paths_left now) p) (has_after p ∙ on_left _ (has_text reached p) same))
    (λ later. on_right (has_text after p) _ (now_has p (in_front (paths_left ahead) (paths_left (ahead_of dir (dirs dir))) p later)))))
  where
    has_after : (x : List ℕ) → has_text after x ≡ (bytes_eq x dir || has_text reached x)
    has_after x = ap (λ ds. has_text ds x) is ∙ has_last reached dir x

    now_has : (x : List ℕ) → has_text (paths_left ahead ++ paths_left (ahead_of dir (dirs dir))) x ≡ true → has_text (paths_left now) x ≡ true
    now_has x has = ap (λ as_. has_text (paths_left as_) x) ahead_is ∙ ap (λ ps. has_text ps x) (left_append ahead (ahead_of dir (dirs dir))) ∙ has

-- the next parent is gone to
pub closed_next : (dirs : Dirs) (reached : List (List ℕ)) (ahead now : List Ahead) (rest : Ahead) (path : List ℕ) → slice_get rest.paths rest.next ≡ Some path →
    now ≡ ahead ++ record { paths = rest.paths; next = rest.next + 1 } ∷ [] → IsClosedBut dirs reached (paths_left (ahead ++ rest ∷ [])) → IsClosedBut dirs reached (path ∷ paths_left now)
closed_next dirs reached ahead now rest path there is = closed_more dirs reached (paths_left (ahead ++ rest ∷ [])) (path ∷ paths_left now) more
  where
    behind : List (List ℕ)
    behind = drop (rest.next + 1) rest.paths

    now_is : paths_left now ≡ paths_left ahead ++ (behind ++ [])
    now_is = ap paths_left is ∙ left_append ahead (record { paths = rest.paths; next = rest.next + 1 } ∷ [])

    before_is : paths_left (ahead ++ rest ∷ []) ≡ paths_left ahead ++ ((path ∷ behind) ++ [])
    before_is = left_append ahead (rest ∷ []) ∙ ap (λ ps. paths_left ahead ++ (ps ++ [])) (dropped rest.paths rest.next path there)

    more : (p : List ℕ) → has_text (paths_left (ahead ++ rest ∷ [])) p ≡ true → has_text (path ∷ paths_left now) p ≡ true
    more p has =
        in_either (paths_left ahead) ((path ∷ behind) ++ []) p (sym (ap (λ ps. has_text ps p) before_is) ∙ has)
        (λ one. on_right (bytes_eq p path) _ (ap (λ ps. has_text ps p) now_is ∙ in_front (paths_left ahead) (behind ++ []) p one))
        (λ two. by_case (bytes_eq p path) (has_text (behind ++ []) p) two
        (λ same. on_left _ (has_text (paths_left now) p) same)
        (λ three. on_right (bytes_eq p path) _ (ap (λ ps. has_text ps p) now_is ∙ in_back (paths_left ahead) (behind ++ []) p three)))

-- no parent is left
pub closed_done : (dirs : Dirs) (reached : List (List ℕ)) (ahead : List Ahead) (rest : Ahead) → slice_get rest.paths rest.next ≡ None →
    IsClosedBut dirs reached (paths_left (ahead ++ rest ∷ [])) → IsClosedBut dirs reached (paths_left ahead)
closed_done dirs reached ahead rest none = closed_more dirs reached (paths_left (ahead ++ rest ∷ [])) (paths_left ahead) (λ p has. sym (ap (λ ps. has_text ps p) is) ∙ has)
  where
    is : paths_left (ahead ++ rest ∷ []) ≡ paths_left ahead
    is = left_append ahead (rest ∷ []) ∙ ap (λ ps. paths_left ahead ++ (ps ++ [])) (nothing_dropped rest.paths rest.next none) ∙ append-nil (paths_left ahead)

-- ---- the ends
pub closed_start : (dirs : Dirs) (reached : List (List ℕ)) (dir : List ℕ) → IsClosed dirs reached → IsClosedBut dirs reached (dir ∷ [])
closed_start dirs reached dir closed d p in_ parent = on_left _ (has_text (dir ∷ []) p) (closed d p in_ parent)

pub closed_end : (dirs : Dirs) (reached : List (List ℕ)) (ahead : List Ahead) → ahead ≡ [] → IsClosedBut dirs reached (paths_left ahead) → IsClosed dirs reached
closed_end dirs reached ahead none closed d p in_ parent =
    by_case (has_text reached p) (has_text (paths_left ahead) p) (closed d p in_ parent)
    (λ is. is)
    (λ is. nothing (sym (ap (λ as_. has_text (paths_left as_) p) none) ∙ is))
  where
    nothing : {X : Type 0} → false ≡ true → X
    nothing is = cc

pub closed_nothing : (dirs : Dirs) (reached : List (List ℕ)) → reached ≡ [] → IsClosed dirs reached
closed_nothing dirs reached none d p in_ parent = nothing (sym (ap (λ ds. has_text ds d) none) ∙ in_)
  where
    nothing : {X : Type 0} → false ≡ true → X
    nothing is = cc
