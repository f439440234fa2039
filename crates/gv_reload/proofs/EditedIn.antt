-- Categories of which no entry is edited.
use Rattle.std.proofs.Common.{◌≡◌, ℕ, Bool, true, false, cond, ◌&&◌, ◌||◌, List, [], ◌∷◌, ◌++◌, length, take, drop, refl, sym, ap, ◌∙◌, append_assoc, Option, Some, None, true≢false}
use Rattle.std.specs.Prelude.{◌==◌, codes}
use Rattle.std.specs.Option.{is_some, option_map_or}
use Rattle.std.specs.Str.{bytes_eq}
use Rattle.std.proofs.Math.Seq.{take-append_seam}
use Rattle.std.proofs.lemmas.Slice.Eq.{bytes_eq-Decides}
use Rattle.gv_base.specs.Cut.{after_prefix}
use Rattle.gv_base.specs.Order.{has_text}
use Rattle.gv_reload.specs.EntryEdits.{EditedInLaw, is_edited_in}
use Rattle.gv_load.specs.Paths.{cache_dir, entry_path}

-- ---- one prefix and another one behind it
after_both : (front next text : List ℕ) → option_map_or (after_prefix next) (after_prefix front text) None ≡ after_prefix (front ++ next) text
after_both [] next text = refl
after_both (b ∷ bs) next [] = refl
after_both (b ∷ bs) next (t ∷ ts) = by (t == b) (after_both bs next ts)
  where
    by : (same : Bool) → option_map_or (after_prefix next) (after_prefix bs ts) None ≡ after_prefix (bs ++ next) ts
        → option_map_or (after_prefix next) (cond (same && bytes_eq (take (length bs) ts) bs) (Some (drop (length bs) ts)) None) None
        ≡ cond (same && bytes_eq (take (length (bs ++ next)) ts) (bs ++ next)) (Some (drop (length (bs ++ next)) ts)) None
    by true later = later
    by false later = refl

pub behind_both : (front next text rest : List ℕ) → after_prefix front text ≡ Some rest → is_some (after_prefix next rest) ≡ is_some (after_prefix (front ++ next) text)
behind_both front next text rest some = ap is_some (sym (ap (λ o. option_map_or (after_prefix next) o None) some) ∙ after_both front next text)

pub behind_none : (front next text : List ℕ) → after_prefix front text ≡ None → false ≡ is_some (after_prefix (front ++ next) text)
behind_none front next text none = ap is_some (sym (ap (λ o. option_map_or (after_prefix next) o None) none) ∙ after_both front next text)

-- ---- the folder of a category's entries
pub folder_is : (category : List ℕ) → codes "metadata/md5-cache/" ++ (category ++ 47 ∷ []) ≡ entry_path category []
unfolding cache_dir
folder_is category = refl

path_is : (category pf : List ℕ) → entry_path category [] ++ pf ≡ entry_path category pf
path_is category pf = append_assoc (cache_dir category) (47 ∷ []) pf

begins : (front rest : List ℕ) → is_some (after_prefix front (front ++ rest)) ≡ true
begins front rest =
    ap (λ t. is_some (cond t (Some (drop (length front) (front ++ rest))) None))
    ((bytes_eq-Decides (take (length front) (front ++ rest)) front).1 (take-append_seam front rest))

-- ---- no path of its entries is among the paths
none_of : (category pf : List ℕ) (paths : List (List ℕ)) → is_edited_in paths category ≡ false → has_text paths (entry_path category pf) ≡ false
none_of category pf [] e = refl
none_of category pf (path ∷ paths) e =
    by (bytes_eq (entry_path category pf) path) refl (is_some (after_prefix (entry_path category []) path)) refl e (none_of category pf paths)
  where
    by : (same : Bool) → bytes_eq (entry_path category pf) path ≡ same → (below : Bool) → is_some (after_prefix (entry_path category []) path) ≡ below
        → (below || is_edited_in paths category) ≡ false → (is_edited_in paths category ≡ false → has_text paths (entry_path category pf) ≡ false)
        → (same || has_text paths (entry_path category pf)) ≡ false
    by same is true it e later = absurd (true≢false e)
    by false is false it e later = later e
    by true is false it e later =
        let path_ : entry_path category [] ++ pf ≡ path = path_is category pf ∙ (bytes_eq-Decides (entry_path category pf) path).0 is in
        absurd (true≢false (sym (begins (entry_path category []) pf) ∙ ap (λ text. is_some (after_prefix (entry_path category []) text)) path_ ∙ it))

pub none_edited : EditedInLaw
none_edited paths category name version pf none = none_of category pf paths none
