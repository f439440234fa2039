-- The files of an edited map are those that were put and those that the cuts left.
-- A file of the edited map is one that was put, or one of the map's that wasn't cut (`get-edited`), so its folders are
-- those of the one or the other (`folder-edited`).
use Rattle.std.proofs.Common.{◌≡◌, ◌<◌, ◌≤◌, ℕ, List, [], ◌∷◌, Bool, true, false, not, ◌||◌, cond, length, Some, None, refl, sym, ap, subst, ◌∙◌, arith, length-append}
use Rattle.std.specs.Prelude.{Option, fold, nat_le}
use Rattle.std.specs.Option.{is_some}
use Rattle.std.specs.FinMap.{get, contains_key, empty, get-empty, get-insert, get-remove, get-retain_keys}
use Rattle.std.specs.declared.cmp.Ordering.{Ordering}
use Rattle.std.specs.declared.cmp.Ordering.TheVariants.{Less, Equal, Greater}
use Rattle.std.specs.Ordering.{eq_by_cmp, is_eq}
use Rattle.std.specs.Cmp.{both_ways}
use Rattle.std.specs.Cmp.Lexicographic.{nat_list_cmp_total}
use Rattle.std.proofs.lemmas.Map.Lookups.{exact_bytes}
use Rattle.gv_base.specs.FileMap.{FileMap, byte_cmp}
use Rattle.gv_base.specs.Listing.{is_folder}
use Rattle.gv_edits.specs.declared.edit.Edit.{Edit}
use Rattle.gv_edits.specs.declared.edit.Edit.TheVariants.{Put, Cut}
use Rattle.gv_edits.specs.Edits.{after_edit, edited}
use Rattle.gv_edits.specs.Kept.{put_files, after_cut, cut_paths, is_short, are_short}
use Rattle.gv_edits.specs.Edited.{within, stands, uncut}
use Rattle.gv_base.specs.Folders.{and_first, and_second, folder_from, folder_to, folder_either, folder_more}

abbrev or_else : {X : Type 0} → Option X → Option X → Option X
or_else (Some x) o = Some x
or_else None o = o

equal : (o : Ordering) → is_eq o ≡ true → o ≡ Equal
equal Less h = cc
equal Equal h = refl
equal Greater h = cc

-- ---- what the cuts left
pub get-uncut : (m : FileMap) (es : List Edit) (q : List ℕ) → get (uncut m es) q ≡ cond (not (contains_key (cut_paths es) q)) (get m q) None
get-uncut m es q = get-retain_keys m (λ key. not (contains_key (cut_paths es) key)) q (λ x e. ap (λ k. not (contains_key (cut_paths es) k)) (sym (exact_bytes q x e)))

pub uncut_more : (m : FileMap) (es : List Edit) (q : List ℕ) → is_some (get (uncut m es) q) ≡ true → is_some (get m q) ≡ true
uncut_more m es q = by (contains_key (cut_paths es) q) (get-uncut m es q)
  where
    by : (t : Bool) → get (uncut m es) q ≡ cond (not t) (get m q) None → is_some (get (uncut m es) q) ≡ true → is_some (get m q) ≡ true
    by true e h = cc
    by false e h = rw (← e) h

pub uncut_same : (m : FileMap) (es : List Edit) (q : List ℕ) → contains_key (cut_paths es) q ≡ false → get (uncut m es) q ≡ get m q
uncut_same m es q h = get-uncut m es q ∙ rw h refl

pub uncut_none : (m : FileMap) (es : List Edit) (q : List ℕ) → contains_key (cut_paths es) q ≡ true → get (uncut m es) q ≡ None
uncut_none m es q h = get-uncut m es q ∙ rw h refl

pub no_cut_below : (m : FileMap) (es : List Edit) (path : List ℕ) → is_folder (cut_paths es) path ≡ false → is_folder (uncut m es) path ≡ is_folder m path
no_cut_below m es path none = both_ways (is_folder (uncut m es) path) (is_folder m path)
    (folder_more (uncut m es) m (uncut_more m es) path)
    (λ h. let r = folder_from m path h in folder_to (uncut m es) path r.0 (by r.0 (contains_key (cut_paths es) (within path r.0)) refl r.1))
  where
    by : (rest : List ℕ) (t : Bool) → contains_key (cut_paths es) (within path rest) ≡ t → is_some (get m (within path rest)) ≡ true → is_some (get (uncut m es) (within path rest)) ≡ true
    by rest true is h = let there : is_folder (cut_paths es) path ≡ true = folder_to (cut_paths es) path rest is in cc
    by rest false is h = rw (uncut_same m es (within path rest) is) h

-- ---- what was put, and what the cuts left
-- m after some edits is n, p and c are what these edits put and cut
abbrev Relates : FileMap → FileMap → FileMap → FileMap → Type 0
Relates m n p c = (q : List ℕ) → get n q ≡ or_else (get p q) (cond (contains_key c q) None (get m q))

relates_none : (m : FileMap) → Relates m m empty empty
relates_none m q = rw (get-empty {X = List ℕ} byte_cmp q) refl

relates_more : (m n p c : FileMap) (e : Edit) → Relates m n p c → Relates m (after_edit n e) (after_edit p e) (after_cut c e)
relates_more m n p c (Put path bytes) h q =
    rw (get-insert nat_list_cmp_total n path bytes q, get-insert nat_list_cmp_total p path bytes q, get-remove nat_list_cmp_total c path q) (by (eq_by_cmp byte_cmp q path) (h q))
  where
    by : (t : Bool) → get n q ≡ or_else (get p q) (cond (is_some (get c q)) None (get m q)) → cond t (Some bytes) (get n q) ≡ or_else (cond t (Some bytes) (get p q)) (cond (is_some (cond t None (get c q))) None (get m q))
    by true e = refl
    by false e = e
relates_more m n p c (Cut path) h q =
    rw (get-remove nat_list_cmp_total n path q, get-remove nat_list_cmp_total p path q, get-insert nat_list_cmp_total c path [] q) (by (eq_by_cmp byte_cmp q path) (h q))
  where
    by : (t : Bool) → get n q ≡ or_else (get p q) (cond (is_some (get c q)) None (get m q)) → cond t None (get n q) ≡ or_else (cond t None (get p q)) (cond (is_some (cond t (Some []) (get c q))) None (get m q))
    by true e = refl
    by false e = e

relates_all : (m n p c : FileMap) (es : List Edit) → Relates m n p c → Relates m (fold after_edit n es) (fold after_edit p es) (fold after_cut c es)
relates_all m n p c [] h = h
relates_all m n p c (e ∷ es) h = relates_all m (after_edit n e) (after_edit p e) (after_cut c e) es (relates_more m n p c e h)

turned : {X : Type 0} (t : Bool) (o : Option X) → cond t None o ≡ cond (not t) o None
turned true o = refl
turned false o = refl

pub get-edited : (m : FileMap) (es : List Edit) (q : List ℕ) → get (edited m es) q ≡ or_else (get (put_files es) q) (get (uncut m es) q)
get-edited m es q = relates_all m m empty empty es (relates_none m) q ∙ ap (or_else (get (put_files es) q)) (turned (contains_key (cut_paths es) q) (get m q) ∙ sym (get-uncut m es q))

either_some : {X : Type 0} (a b : Option X) → is_some (or_else a b) ≡ (is_some a || is_some b)
either_some (Some x) b = refl
either_some None b = refl

pub has-edited : (m : FileMap) (es : List Edit) (q : List ℕ) → is_some (get (edited m es) q) ≡ (is_some (get (put_files es) q) || is_some (get (uncut m es) q))
has-edited m es q = ap is_some (get-edited m es q) ∙ either_some (get (put_files es) q) (get (uncut m es) q)

pub folder-edited : (m : FileMap) (es : List Edit) (path : List ℕ) → is_folder (edited m es) path ≡ (is_folder (put_files es) path || is_folder (uncut m es) path)
folder-edited m es path = folder_either (edited m es) (put_files es) (uncut m es) (has-edited m es) path

shuffled : (a b c d : Bool) → ((a || b) || (c || d)) ≡ ((a || c) || (b || d))
shuffled true b c d = refl
shuffled false true true d = refl
shuffled false true false d = refl
shuffled false false c d = refl

pub stands-edited : (m : FileMap) (es : List Edit) (path : List ℕ) → stands (edited m es) path ≡ (stands (put_files es) path || stands (uncut m es) path)
stands-edited m es path = rw (has-edited m es path, folder-edited m es path) (shuffled (is_some (get (put_files es) path)) (is_some (get (uncut m es) path)) (is_folder (put_files es) path) (is_folder (uncut m es) path))

pub put-edited : (m : FileMap) (es : List Edit) (path bytes : List ℕ) → get (put_files es) path ≡ Some bytes → get (edited m es) path ≡ Some bytes
put-edited m es path bytes h = get-edited m es path ∙ rw h refl

pub uncut-edited : (m : FileMap) (es : List Edit) (path : List ℕ) → get (put_files es) path ≡ None → get (edited m es) path ≡ get (uncut m es) path
uncut-edited m es path h = get-edited m es path ∙ rw h refl

-- ---- no edit names a path that is too long
no_cut_more : (c : FileMap) (e : Edit) (q : List ℕ) → is_short e ≡ true → 4096 < length q → contains_key c q ≡ false → contains_key (after_cut c e) q ≡ false
no_cut_more c (Put path bytes) q short long h = ap is_some (get-remove nat_list_cmp_total c path q) ∙ by (eq_by_cmp byte_cmp q path) h
  where
    by : (t : Bool) → is_some (get c q) ≡ false → is_some (cond t None (get c q)) ≡ false
    by true h' = refl
    by false h' = h'
no_cut_more c (Cut path) q short long h = ap is_some (get-insert nat_list_cmp_total c path [] q) ∙ by (eq_by_cmp byte_cmp q path) refl h
  where
    by : (t : Bool) → eq_by_cmp byte_cmp q path ≡ t → is_some (get c q) ≡ false → is_some (cond t (Some []) (get c q)) ≡ false
    by true is h' =
        let same : q ≡ path = exact_bytes q path (equal (byte_cmp q path) is) in
        let few : nat_le (length q) 4096 ≡ true = subst (λ (p : List ℕ). nat_le (length p) 4096 ≡ true) (sym same) short in
        absurd (grind arith)
    by false is h' = h'

no_cut_all : (c : FileMap) (es : List Edit) (q : List ℕ) → are_short es ≡ true → 4096 < length q → contains_key c q ≡ false → contains_key (fold after_cut c es) q ≡ false
no_cut_all c [] q short long h = h
no_cut_all c (e ∷ es) q short long h = no_cut_all (after_cut c e) es q (and_second (is_short e) (are_short es) short) long (no_cut_more c e q (and_first (is_short e) (are_short es) short) long h)

pub long_uncut : (es : List Edit) (q : List ℕ) → are_short es ≡ true → 4096 < length q → contains_key (cut_paths es) q ≡ false
long_uncut es q short long = no_cut_all empty es q short long (ap is_some (get-empty {X = List ℕ} byte_cmp q))

longer : (path rest : List ℕ) → 4096 < length path → 4096 < length (within path rest)
longer path rest h = omega (arith, length-append path (47 ∷ rest))

pub long_left : (m : FileMap) (es : List Edit) (path : List ℕ) → are_short es ≡ true → 4096 < length path → stands m path ≡ true → stands (uncut m es) path ≡ true
long_left m es path short long h =
    let none : is_folder (cut_paths es) path ≡ false = by (is_folder (cut_paths es) path) refl in
    rw (uncut_same m es path (long_uncut es path short long), no_cut_below m es path none) h
  where
    by : (t : Bool) → is_folder (cut_paths es) path ≡ t → t ≡ false
    by true is =
        let r = folder_from (cut_paths es) path is in
        let no : contains_key (cut_paths es) (within path r.0) ≡ false = long_uncut es (within path r.0) short (longer path r.0 long) in
        let yes : contains_key (cut_paths es) (within path r.0) ≡ true = r.1 in
        cc
    by false is = refl

-- no file that was put is too large
AreSmall : FileMap → Type 0
AreSmall files = (q bytes : List ℕ) → get files q ≡ Some bytes → length bytes ≤ 16777216

small_more : (p : FileMap) (e : Edit) → is_short e ≡ true → AreSmall p → AreSmall (after_edit p e)
unfolding AreSmall
small_more p (Put path bytes) short h q found at = by (eq_by_cmp byte_cmp q path) (sym (get-insert nat_list_cmp_total p path bytes q) ∙ at)
  where
    by : (t : Bool) → cond t (Some bytes) (get p q) ≡ Some found → length found ≤ 16777216
    by true is =
        let few : nat_le (length bytes) 16777216 ≡ true = and_second (nat_le (length path) 4096) (nat_le (length bytes) 16777216) short in
        let same : bytes ≡ found = cc in
        subst (λ (b : List ℕ). length b ≤ 16777216) same (grind arith)
    by false is = h q found is
small_more p (Cut path) short h q found at = by (eq_by_cmp byte_cmp q path) (sym (get-remove nat_list_cmp_total p path q) ∙ at)
  where
    by : (t : Bool) → cond t None (get p q) ≡ Some found → length found ≤ 16777216
    by true is = cc
    by false is = h q found is

small_all : (p : FileMap) (es : List Edit) → are_short es ≡ true → AreSmall p → AreSmall (fold after_edit p es)
small_all p [] short h = h
small_all p (e ∷ es) short h = small_all (after_edit p e) es (and_second (is_short e) (are_short es) short) (small_more p e (and_first (is_short e) (are_short es) short) h)

pub small_put : (es : List Edit) (path bytes : List ℕ) → are_short es ≡ true → get (put_files es) path ≡ Some bytes → length bytes ≤ 16777216
unfolding AreSmall
small_put es path bytes short = small_all empty es short (λ q found at. let none = get-empty {X = List ℕ} byte_cmp q in cc) path bytes
