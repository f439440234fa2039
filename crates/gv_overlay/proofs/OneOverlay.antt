-- The files have one overlay of a name at most.
use Rattle.std.proofs.Common.{◌≡◌, ℕ, true, List, [], ◌∷◌, ◌++◌, map, refl, sym, ap, subst, ◌∙◌}
use Rattle.std.specs.Prelude.{Result, Ok, Err}
use Rattle.std.specs.Cmp.{IsStrictWeakOrder}
use Rattle.std.proofs.lemmas.List.Sorted.{ranks_by}
use Rattle.gv_base.specs.FileMap.{FileMap}
use Rattle.gv_load.specs.MemberOrder.{member_total}
use Rattle.gv_reading.specs.declared.faults.LoadFault.{LoadFault}
use Rattle.gv_load.specs.declared.loading.Repo.{Repo}
use Rattle.gv_overlay.specs.declared.combining.Entry.{Entry}
use Rattle.gv_overlay.specs.declared.overlay.Overlay.{Overlay}
use Rattle.gv_overlay.specs.Combined.{AreCombined, body_of, comes_before, master_entries, own_of, pkg_of, repo_entries}
use Rattle.gv_overlay.specs.Overlays.{IsCombined, IsOverlay, is_of_entry, master_loading, own_loading}
use Rattle.gv_overlay.proofs.OneOrder.{sorted_one}

-- what is answered, or this
abbrev or_this : {A E : Type 0} → A → Result A E → A
or_this d (Ok x) = x
or_this d (Err e) = d

same_ok : {A E : Type 0} (r : Result A E) (x y : A) → r ≡ Ok x → r ≡ Ok y → x ≡ y
same_ok r x y p q = ap (or_this x) (sym p ∙ q)

abbrev oks : {A E : Type 0} → List (Result A E) → List A
oks [] = []
oks (Ok x ∷ rs) = x ∷ oks rs
oks (Err e ∷ rs) = oks rs

all_oks : {A : Type 0} (E : Type 0) (xs : List A) → oks {A = A} {E = E} (map Ok xs) ≡ xs
all_oks E [] = refl
all_oks E (x ∷ xs) = ap (λ l. x ∷ l) (all_oks E xs)

oks_of : {A : Type 0} (E : Type 0) (xs : List A) (rs : List (Result A E)) → rs ≡ map Ok xs → oks rs ≡ xs
oks_of E xs rs e = ap oks e ∙ all_oks E xs

ranks : IsStrictWeakOrder comes_before
ranks = ranks_by member_total (λ (e : Entry). e.member)

combined_one : (given a b : List Entry) → AreCombined given a → AreCombined given b → a ≡ b
combined_one given a b p q = sorted_one comes_before ranks given a b p.ascending p.stable q.ascending q.stable

put_one : (masters : List Repo) (own : Repo) (a b : Overlay) → IsCombined masters own a → IsCombined masters own b → a ≡ b
put_one masters own a b p q = λ i. record {
  repo = record {
    pkgs = (p.pkgs_are ∙ (ap (map pkg_of) same ∙ sym q.pkgs_are)) i;
    bodies = (p.bodies_are ∙ (ap (map body_of) same ∙ sym q.bodies_are)) i;
    profiles = (p.profiles_are ∙ sym q.profiles_are) i;
    lines = (p.lines_are ∙ sym q.lines_are) i;
    notes = (p.no_notes ∙ sym q.no_notes) i;
  };
  own = (p.own_are ∙ (ap (map own_of) same ∙ sym q.own_are)) i;
  notes = (p.notes_are ∙ sym q.notes_are) i;
}
  where
    same : p.entries ≡ q.entries
    same = combined_one (master_entries masters ++ repo_entries true own) p.entries q.entries p.combined q.combined

pub only_one : (files : FileMap) (name : List ℕ) (a b : Overlay) → IsOverlay files name a → IsOverlay files name b → a ≡ b
only_one files name a b p q =
    put_one p.repos p.own a b p.combined
    (subst (λ (o : Repo). IsCombined p.repos o b) own (subst (λ (rs : List Repo). IsCombined rs q.own b) repos q.combined))
  where
    masters : q.masters ≡ p.masters
    masters = same_ok _ q.masters p.masters q.named p.named

    repos : q.repos ≡ p.repos
    repos = sym (oks_of LoadFault q.repos (map (master_loading files) q.masters) q.loaded) ∙ (ap (λ ms. oks (map (master_loading files) ms)) masters ∙ oks_of LoadFault p.repos (map (master_loading files) p.masters) p.loaded)

    own : q.own ≡ p.own
    own = same_ok (own_loading files name p.masters) q.own p.own (ap (own_loading files name) (sym masters) ∙ q.own_loaded) p.own_loaded
