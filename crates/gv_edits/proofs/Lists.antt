-- Which names lie below a path of the edited files.
-- A listed name is kept unless something at it or below it was cut and `read` of the edited files finds nothing there:
-- a name lies below a path where something stands at its own path (`name_stands` in `Folders`).
use Rattle.std.proofs.Common.{◌≡◌, ℕ, List, ◌++◌, Bool, true, false, ◌&&◌, ◌||◌, Some, None, refl, sym, ap, ◌∙◌}
use Rattle.std.specs.Prelude.{Option, IfSome, filter}
use Rattle.std.specs.List.{filter_map}
use Rattle.std.specs.Option.{is_some, option_copied}
use Rattle.std.specs.Borrow.{Bor}
use Rattle.std.specs.Str.{bytes_eq}
use Rattle.std.specs.FinMap.{get, keys, contains_key}
use Rattle.std.proofs.Math.Bool.{or-true}
use Rattle.std.proofs.lemmas.List.Folds.{list_any-append}
use Rattle.std.proofs.lemmas.Map.Views.{any-filter_same}
use Rattle.std.proofs.lemmas.Slice.Eq.{bytes_eq-Decides}
use Rattle.gv_base.specs.FileMap.{FileMap}
use Rattle.gv_base.specs.Outside.{found_as, found_at, IsLarge}
use Rattle.gv_base.specs.Listing.{is_folder, next_part, names_below, IsListing}
use Rattle.gv_base.specs.Order.{has_text, HaveSameTexts, IsAscending}
use Rattle.gv_base.specs.Laws.{InOrderLaw}
use Rattle.gv_base.specs.declared.tree.Found.{Found}
use Rattle.gv_edits.specs.declared.edit.Edit.{Edit}
use Rattle.gv_edits.specs.Inner.{IsTold, told_files}
use Rattle.gv_edits.specs.Edits.{edited, edited_told}
use Rattle.gv_edits.specs.Kept.{put_files, cut_paths}
use Rattle.gv_edits.specs.Edited.{within, stands, uncut, is_anything}
use Rattle.gv_base.specs.Folders.{or_first, or_second, is_one, name_stands, stands_more}
use Rattle.gv_edits.proofs.Overlays.{uncut_same, uncut_more, no_cut_below, stands-edited}
use Rattle.gv_edits.proofs.Lefts.{listed_name}

-- ---- one name
pub put_stays : (m : FileMap) (es : List Edit) (path : List ℕ) → is_some (get (put_files es) path) ≡ true → true ≡ stands (edited m es) path
put_stays m es path put = sym (stands-edited m es path ∙ or_first (stands (put_files es) path) (stands (uncut m es) path) (or_first (is_some (get (put_files es) path)) (is_folder (put_files es) path) put))

pub uncut_stays : (m : FileMap) (es : List Edit) (path : List ℕ) → contains_key (cut_paths es) path ≡ false → is_folder (cut_paths es) path ≡ false → stands m path ≡ true → true ≡ stands (edited m es) path
uncut_stays m es path at below h =
    let left : stands (uncut m es) path ≡ true = rw (uncut_same m es path at, no_cut_below m es path below) h in
    sym (stands-edited m es path ∙ or_second (stands (put_files es) path) (stands (uncut m es) path) left)

anything_as : (o : Option (List ℕ)) (b : Bool) → is_anything (found_as o b) ≡ (is_some o || b)
anything_as (Some x) b = refl
anything_as None true = refl
anything_as None false = refl

pub anything_stands : (told : Option FileMap) (es : List Edit) (path : List ℕ) (found : Found) → IfSome (edited_told told es) (λ m. found ≡ found_at m path) → IsTold told → is_anything found ≡ stands (edited (told_files told) es) path
unfolding told_files
anything_stands None es path found is t = cc
anything_stands (Some m) es path found is t = ap is_anything is ∙ anything_as (get (edited m es) path) (is_folder (edited m es) path)

pub large_stands : (told : Option FileMap) (es : List Edit) (path : List ℕ) → IfSome (edited_told told es) (λ m. IsLarge 16777216 m path) → IsTold told → true ≡ stands (edited (told_files told) es) path
unfolding told_files
large_stands None es path is t = cc
large_stands (Some m) es path is t = sym (or_first (is_some (get (edited m es) path)) (is_folder (edited m es) path) (ap is_some is.1))

-- ---- all names
mixed : (one sm sp su : Bool) → (su ≡ true → sm ≡ true) → (((sp || su) && (one && sm)) || (one && sp)) ≡ (one && (sp || su))
mixed false sm true su h = refl
mixed false sm false true h = refl
mixed false sm false false h = refl
mixed true sm true su h = or-true sm
mixed true sm false true h = rw (h refl) refl
mixed true sm false false h = refl

has_filter : (f : List ℕ → Bool) (xs : List (List ℕ)) (name : List ℕ) → has_text (filter f xs) name ≡ (f name && has_text xs name)
has_filter f xs name = any-filter_same (bytes_eq name) f (f name) (λ k h. ap f (sym ((bytes_eq-Decides name k).0 h))) xs

pub edited_listing : (law : InOrderLaw) (m : FileMap) (es : List Edit) (path : List ℕ) (listed kept put names : List (List ℕ)) → IsListing m path listed
    → kept ≡ filter (λ name. stands (edited m es) (within path name)) listed → put ≡ names_below (put_files es) path
    → IsAscending names → HaveSameTexts (kept ++ put) names → IsListing (edited m es) path names
edited_listing law m es path listed kept put names is kept_is put_is ascends same = record {
  distinct = law.distinct names ascends;
  ordered = law.same names (filter_map (next_part path) (keys (edited m es))) (λ name. sym (same name) ∙ all name);
}
  where
    f : List ℕ → Bool
    f name = stands (edited m es) (within path name)

    all : (name : List ℕ) → has_text (kept ++ put) name ≡ has_text (filter_map (next_part path) (keys (edited m es))) name
    all name =
        let at = within path name in
        let e : has_text kept name ≡ ((stands (put_files es) at || stands (uncut m es) at) && (is_one name && stands m at)) =
        ap (λ ns. has_text ns name) kept_is ∙ has_filter (λ n. stands (edited m es) (within path n)) listed name ∙ rw (stands-edited m es at, listed_name law m path listed is name) refl in
        let p : has_text put name ≡ (is_one name && stands (put_files es) at) =
        ap (λ ns. has_text ns name) put_is ∙ sym (law.members (filter_map (next_part path) (keys (put_files es))) name) ∙ name_stands (put_files es) path name in
        list_any-append (bytes_eq name) kept put ∙ rw (e, p) (mixed (is_one name) (stands m at) (stands (put_files es) at) (stands (uncut m es) at) (stands_more (uncut m es) m (uncut_more m es) at))
        ∙ sym (name_stands (edited m es) path name ∙ ap (λ b. is_one name && b) (stands-edited m es at))

pub is_some_copied : {X : Type 0} (o : Option (Bor X)) → is_some (option_copied o) ≡ is_some o
is_some_copied None = refl
is_some_copied (Some x) = refl
