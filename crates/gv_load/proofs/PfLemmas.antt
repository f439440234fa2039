-- PFs of a category, where what is listed is kept as a set.
use Rattle.std.proofs.Common.{◌≡◌, ℕ, List, [], ◌∷◌, ◌++◌, Bool, true, false, refl, sym, ap, ◌∙◌, map}
use Rattle.std.specs.Prelude.{None, if◌then◌else◌, ◌&&◌}
use Rattle.std.specs.List.{list_all}
use Rattle.std.specs.Option.{option_map}
use Rattle.gv_base.specs.Order.{has_text}
use Rattle.gv_entry.specs.EntryRead.{entry_of}
use Rattle.gv_load.specs.declared.entries.PfRead.{PfRead}
use Rattle.gv_load.specs.Categories.{listed, name_of, pf_subject, pfs_of}
use Rattle.gv_reading.specs.Look.{Look, bytes_at}
use Rattle.gv_load.specs.Entries.{digest_at, pf_read, reads_of}
use Rattle.gv_load.specs.Order.{pf_steps, pfs_steps}
use Rattle.gv_load.specs.Paths.{entry_path, ebuild_path}
use Rattle.gv_reading.specs.Reading.{Step, once}

pub later : {A : Type 0} → (test : A → Bool) (x : A) (xs : List A) → list_all test (x ∷ xs) ≡ true → list_all test xs ≡ true
later test x xs = by (test x)
  where
    by : (b : Bool) → (b && list_all test xs) ≡ true → list_all test xs ≡ true
    by true is = is
    by false is = cc

abbrev steps_if : Bool → (category pf : List ℕ) → List Step
steps_if b category pf = (if b then once (entry_path category pf) ∷ [] else []) ++ once (ebuild_path category (name_of pf) pf) ∷ []

abbrev read_if : Look → Bool → (category pf : List ℕ) → PfRead
read_if look b category pf = record {
  subject = pf_subject category pf;
  entry = option_map (entry_of category pf) (if b then bytes_at look (entry_path category pf) else None);
  ebuild = digest_at look (ebuild_path category (name_of pf) pf);
}

pub same_steps : (xs ys : List (List ℕ)) (category : List ℕ) (pfs : List (List ℕ)) → ((text : List ℕ) → has_text xs text ≡ has_text ys text) → pfs_steps xs category pfs ≡ pfs_steps ys category pfs
same_steps xs ys category [] same = refl
same_steps xs ys category (p ∷ ps) same =
    ap (λ b. steps_if b category p ++ pfs_steps xs category ps) (same p) ∙ ap (λ (ss : List Step). pf_steps ys category p ++ ss) (same_steps xs ys category ps same)

pub same_reads : (look : Look) (xs ys : List (List ℕ)) (category : List ℕ) (pfs : List (List ℕ)) → ((text : List ℕ) → has_text xs text ≡ has_text ys text) → map (pf_read look xs category) pfs ≡ map (pf_read look ys category) pfs
same_reads look xs ys category [] same = refl
same_reads look xs ys category (p ∷ ps) same =
    ap (λ b. read_if look b category p ∷ map (pf_read look xs category) ps) (same p) ∙ ap (λ (rs : List PfRead). pf_read look ys category p ∷ rs) (same_reads look xs ys category ps same)

pub steps_are : (look : Look) (category : List ℕ) (keys pfs : List (List ℕ)) → ((text : List ℕ) → has_text keys text ≡ has_text (listed look category) text) → pfs ≡ pfs_of look category →
    pfs_steps (listed look category) category (pfs_of look category) ≡ pfs_steps keys category pfs
steps_are look category keys pfs same are = sym (same_steps keys (listed look category) category pfs same ∙ ap (pfs_steps (listed look category) category) are)

pub reads_are : (look : Look) (category : List ℕ) (keys pfs : List (List ℕ)) → ((text : List ℕ) → has_text keys text ≡ has_text (listed look category) text) → pfs ≡ pfs_of look category →
    map (pf_read look keys category) pfs ≡ reads_of look category
reads_are look category keys pfs same are = same_reads look keys (listed look category) category pfs same ∙ ap (map (pf_read look (listed look category) category)) are
