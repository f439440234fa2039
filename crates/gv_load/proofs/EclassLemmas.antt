-- The digests of the eclasses that were read.
use Rattle.std.proofs.Common.{◌≡◌, ℕ, ◌<◌, ◌+◌, List, [], ◌∷◌, ◌++◌, Bool, true, false, cond, ◌||◌, Some, None, length, take, get_or, refl, sym, ap, ◌∙◌, add-one}
use Rattle.std.specs.Prelude.{Option, if◌then◌else◌}
use Rattle.std.specs.Str.{bytes_eq}
use Rattle.std.specs.FinMap.{get, insert, get-insert, empty, get-empty}
use Rattle.std.specs.Cmp.Lexicographic.{nat_list_cmp_total}
use Rattle.std.proofs.Math.Seq.{take-suc}
use Rattle.std.proofs.lemmas.Map.Text.{is_eq-slice_cmp}
use Rattle.std.proofs.lemmas.Slice.Eq.{bytes_eq-Decides}
use Rattle.gv_base.specs.Order.{byte_cmp, has_text}
use Rattle.gv_load.specs.DigestWords.{digests_with, KeepsDigests}
use Rattle.gv_load.specs.EclassDigests.{DigestMap}
use Rattle.gv_load.specs.Entries.{eclass_digest}
use Rattle.gv_reading.specs.Look.{Look}
use Rattle.gv_load.specs.ListLemmas.{has_last}

-- one item more
pub taken : (xs : List (List ℕ)) (i : ℕ) (x : List ℕ) → i < length xs → x ≡ get_or xs i x → take (i + 1) xs ≡ take i xs ++ x ∷ []
taken xs i x within is = ap (λ n. take n xs) (add-one i) ∙ take-suc xs i x within ∙ ap (λ y. take i xs ++ y ∷ []) (sym is)

got : (digests : DigestMap) (name other digest : List ℕ) → get (insert digests name digest) other ≡ cond (bytes_eq other name) (Some digest) (get digests other)
got digests name other digest = get-insert nat_list_cmp_total digests name digest other ∙ ap (λ b. cond b (Some digest) (get digests other)) (is_eq-slice_cmp other name)

same_bytes : (x y : List ℕ) → bytes_eq x y ≡ true → x ≡ y
same_bytes x y is = (bytes_eq-Decides x y).0 is

if_none : (b : Bool) → (let o : Option (List ℕ) = if b then None else None in o) ≡ None
if_none true = refl
if_none false = refl

pub keeps_more : (look : Look) (names more : List (List ℕ)) (digests after : DigestMap) (name : List ℕ) → more ≡ names ++ name ∷ [] → after ≡ digests_with digests name (eclass_digest look name) →
    KeepsDigests look names digests → KeepsDigests look more after
keeps_more look names more digests after name is put keeps other =
    ap (λ (m : DigestMap). get m other) put ∙ by (eclass_digest look name) refl (bytes_eq other name) refl
    ∙ ap (λ b. if b then eclass_digest look other else None) (sym (ap (λ ns. has_text ns other) is ∙ has_last names name other))
  where
    as_said : (b : Bool) → bytes_eq other name ≡ b → (if bytes_eq other name || has_text names other then eclass_digest look other else None) ≡ (if b || has_text names other then eclass_digest look other else None)
    as_said b is = ap (λ (c : Bool). let o : Option (List ℕ) = if c || has_text names other then eclass_digest look other else None in o) is

    here : (o : Option (List ℕ)) → eclass_digest look name ≡ o → bytes_eq other name ≡ true → eclass_digest look other ≡ o
    here o at hit = ap (eclass_digest look) (same_bytes other name hit) ∙ at

    by : (o : Option (List ℕ)) → eclass_digest look name ≡ o → (b : Bool) → bytes_eq other name ≡ b → get (digests_with digests name o) other ≡ (if bytes_eq other name || has_text names other then eclass_digest look other else None)
    by None none true hit = keeps other ∙ ap (λ (o : Option (List ℕ)). let p : Option (List ℕ) = if has_text names other then o else None in p) (here None none hit) ∙ if_none (has_text names other) ∙ sym (as_said true hit ∙ here None none hit)
    by None none false miss = keeps other ∙ sym (as_said false miss)
    by (Some digest) some true hit = got digests name other digest ∙ ap (λ (b : Bool). cond b (Some digest) (get digests other)) hit ∙ sym (as_said true hit ∙ here (Some digest) some hit)
    by (Some digest) some false miss = got digests name other digest ∙ ap (λ (b : Bool). cond b (Some digest) (get digests other)) miss ∙ keeps other ∙ sym (as_said false miss)

pub keeps_nothing : (look : Look) (digests : DigestMap) → digests ≡ empty → KeepsDigests look [] digests
keeps_nothing look digests is name = ap (λ (m : DigestMap). get m name) is ∙ get-empty byte_cmp name
