-- Facts of what profiles show of packages, and no rule: what proofs of this crate and of the one above it cite.
use Rattle.std.proofs.Common.{◌≡◌, ℕ, ◌<◌, ◌≤◌, List, length, map, get_or, refl, sym, ap, subst, ◌∙◌, Some}
use Rattle.std.specs.Prelude.{slice_get}
use Rattle.std.proofs.lemmas.List.{get_or-map, length-map}
use Rattle.std.proofs.lemmas.Option.{slice_get-get_or}
use Rattle.gv_facts.specs.declared.pkg.Pkg.{Pkg}
use Rattle.gv_facts.specs.declared.profile.Profile.{Profile}
use Rattle.gv_visible.specs.Candidates.{VisiblePkgs}
use Rattle.gv_load.specs.declared.loading.Repo.{Repo}
use Rattle.gv_plain.specs.Seen.{seen}

-- a profile with its packages, at its place among all profiles
pub record IsSeenAt (pkgs : List Pkg) (profiles : List Profile) (i : ℕ) (x : VisiblePkgs) : Type 0 where
  pub lt : i < length profiles
  pub here : x.profile ≡ get_or profiles i x.profile
  pub pkgs_are : x.pkgs ≡ pkgs

pub seen_at : (pkgs : List Pkg) (profiles : List Profile) (shown : List VisiblePkgs) (i : ℕ) (x : VisiblePkgs) → shown ≡ map (seen pkgs) profiles → i < length shown → x ≡ get_or shown i x → IsSeenAt pkgs profiles i x
seen_at pkgs profiles shown i x all below here = record {
  lt = lt;
  here = ap (λ v. v.profile) is;
  pkgs_are = ap (λ v. v.pkgs) is;
}
  where
    lt : i < length profiles
    lt = subst (λ n. i < n) (ap length all ∙ length-map profiles (seen pkgs)) below

    is : x ≡ seen pkgs (get_or profiles i x.profile)
    is = here ∙ (ap (λ l. get_or l i x) all ∙ get_or-map (seen pkgs) profiles i x.profile x lt)

pub all_seen : (pkgs : List Pkg) (profiles : List Profile) (shown : List VisiblePkgs) (i : ℕ) → shown ≡ map (seen pkgs) profiles → length shown ≤ i → length profiles ≤ i
all_seen pkgs profiles shown i all = subst (λ n. n ≤ i) (ap length all ∙ length-map profiles (seen pkgs))

-- as the code has them
pub as_seen : (pkgs : List Pkg) (profile : Profile) (x : VisiblePkgs) → x.pkgs ≡ pkgs → profile ≡ x.profile → x ≡ seen pkgs profile
as_seen pkgs profile x p q = rw (sym p, q) refl

pub numbered_at : (repo : Repo) (pkg : Pkg) (n i : ℕ) → n ≡ i → (ps : List Pkg) → ps ≡ repo.pkgs → i < length ps → pkg ≡ get_or ps i pkg → slice_get repo.pkgs n ≡ Some pkg
numbered_at repo pkg n i e ps same lt here = ap (slice_get repo.pkgs) e ∙ (ap (λ l. slice_get l i) (sym same) ∙ (slice_get-get_or ps i pkg lt ∙ ap Some (sym here)))
