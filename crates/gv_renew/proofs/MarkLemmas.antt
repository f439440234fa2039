-- What the marks of edited names tell of a package.
use Rattle.std.proofs.Common.{◌≡◌, ℕ, ◌+◌, ◌<◌, ◌≤◌, Bool, true, false, ◌||◌, List, [], ◌∷◌, length, map, get_or, drop, zero, suc, refl, sym, ap, ◌∙◌, arith}
use Rattle.std.proofs.Math.ListN.{drop_of_length-le}
use Rattle.std.proofs.lemmas.Bool.{true≢false}
use Rattle.std.proofs.lemmas.List.Folds.{list_any-append}
use Rattle.std.proofs.lemmas.Slice.Eq.{bytes_eq-Decides}
use Rattle.std.specs.Prelude.{flat_map, slice_set}
use Rattle.std.specs.List.{list_any}
use Rattle.std.specs.Str.{bytes_eq}
use Rattle.gv_base.specs.Order.{has_text}
use Rattle.gv_atom.specs.declared.atom.Atom.{Atom}
use Rattle.gv_entry.specs.declared.entry.Body.{Body}
use Rattle.gv_facts.specs.declared.kinds.Class.{Class}
use Rattle.gv_facts.specs.declared.kinds.Class.TheVariants.{Bdepend, Depend, Idepend, Pdepend, Rdepend, Required}
use Rattle.gv_reading.specs.Paths.{within}
use Rattle.gv_reload.specs.EntryEdits.{entry_name}
use Rattle.gv_plain.specs.Classes.{classes}
use Rattle.gv_renew.specs.Mentioned.{AreMarked, atom_number, class_numbers, is_marked, name_number, numbers_of}
use Rattle.gv_renew.specs.Renewal.{is_wanted, mentions}
use Rattle.gv_plain.specs.PlainReports.{atoms_in}
use Rattle.gv_plain.specs.Lists.{drop_here}

-- ---- one mark more
set_here : (marks : List Bool) (place : ℕ) → is_marked (slice_set marks place true) place ≡ true
set_here [] place = refl
set_here (m ∷ ms) zero = refl
set_here (m ∷ ms) (suc place) = set_here ms place

set_still : (marks : List Bool) (place number : ℕ) → is_marked marks number ≡ true → is_marked (slice_set marks place true) number ≡ true
set_still [] place number e = refl
set_still (m ∷ ms) zero zero e = refl
set_still (m ∷ ms) zero (suc number) e = e
set_still (m ∷ ms) (suc place) zero e = e
set_still (m ∷ ms) (suc place) (suc number) e = set_still ms place number e

same : (x y : List ℕ) → bytes_eq x y ≡ true → x ≡ y
same x y e = (bytes_eq-Decides x y).0 e

-- those of these names, but for those that are left
abbrev pub AreMarkedBut : (left names : List (List ℕ)) (marks : List Bool) → Type 0
AreMarkedBut left names marks = (name : List ℕ) → has_text names name ≡ true → (is_marked marks (name_number name) || has_text left name) ≡ true

any_right : (a b : Bool) → b ≡ true → (a || b) ≡ true
any_right true b e = refl
any_right false b e = e

any_left : (a b : Bool) → a ≡ true → (a || b) ≡ true
any_left true b e = refl
any_left false b e = absurd (true≢false (sym e))

pub no_marks : (names : List (List ℕ)) (marks : List Bool) → AreMarkedBut names names marks
no_marks names marks name e = any_right (is_marked marks (name_number name)) (has_text names name) e

pub mark_more : (names : List (List ℕ)) (marks new : List Bool) (i : ℕ) (this : List ℕ) → i < length names → this ≡ get_or names i this → new ≡ slice_set marks (name_number this) true
    → AreMarkedBut (drop i names) names marks → AreMarkedBut (drop (i + 1) names) names new
mark_more names marks new i this lt here is far name e = by (is_marked marks (name_number name)) refl (bytes_eq name this) refl (ap (λ l. is_marked marks (name_number name) || has_text l name) (sym (drop_here names this i lt here)) ∙ far name e)
  where
    by : (a : Bool) → is_marked marks (name_number name) ≡ a → (b : Bool) → bytes_eq name this ≡ b → (is_marked marks (name_number name) || (bytes_eq name this || has_text (drop (i + 1) names) name)) ≡ true
        → (is_marked new (name_number name) || has_text (drop (i + 1) names) name) ≡ true
    by true f b g h = any_left (is_marked new (name_number name)) (has_text (drop (i + 1) names) name) (rw is (set_still marks (name_number this) (name_number name) f))
    by false f true g h = any_left (is_marked new (name_number name)) (has_text (drop (i + 1) names) name) (rw (is, same name this g) (set_here marks (name_number this)))
    by false f false g h = any_right (is_marked new (name_number name)) (has_text (drop (i + 1) names) name) (ap (λ b. b || has_text (drop (i + 1) names) name) (sym g) ∙ (ap (λ a. a || (bytes_eq name this || has_text (drop (i + 1) names) name)) (sym f) ∙ h))

any_none : (a b : Bool) → b ≡ false → (a || b) ≡ a
any_none true b e = refl
any_none false b e = e

pub marks_end : (names : List (List ℕ)) (marks : List Bool) (i : ℕ) → length names ≤ i → AreMarkedBut (drop i names) names marks → AreMarked names marks
marks_end names marks i le far name e = sym (any_none (is_marked marks (name_number name)) (has_text (drop i names) name) (ap (λ l. has_text l name) (drop_of_length-le names le))) ∙ far name e

-- ---- without one of the marked numbers no class mentions a name
either_false : (a b : Bool) → (a || b) ≡ false → (a ≡ false) × (b ≡ false)
either_false true b e = (e, absurd (true≢false e))
either_false false b e = (refl, e)

module _ (paths : List (List ℕ)) (marks : List Bool) (marked : AreMarked (map entry_name paths) marks) where
  unwanted : (atom : Atom) → is_marked marks (atom_number atom) ≡ false → is_wanted paths atom ≡ false
  unwanted atom e = by (is_wanted paths atom) refl
    where
      by : (b : Bool) → is_wanted paths atom ≡ b → is_wanted paths atom ≡ false
      by true f = absurd (true≢false (sym (marked (within atom.category atom.name) f) ∙ e))
      by false f = f

  all_unwanted : (atoms : List Atom) → list_any (is_marked marks) (map atom_number atoms) ≡ false → list_any (is_wanted paths) atoms ≡ false
  all_unwanted [] e = refl
  all_unwanted (a ∷ atoms) e = rw (unwanted a parts.0) (all_unwanted atoms parts.1)
    where
      parts : (is_marked marks (atom_number a) ≡ false) × (list_any (is_marked marks) (map atom_number atoms) ≡ false)
      parts = either_false (is_marked marks (atom_number a)) (list_any (is_marked marks) (map atom_number atoms)) e

  module _ (body : Body) where
    abbrev some : List Class → Bool
    some cs = list_any (is_marked marks) (flat_map (class_numbers body) cs)

    first : (c : Class) (cs : List Class) → some (c ∷ cs) ≡ false → (mentions paths body c ≡ false) × (some cs ≡ false)
    first c cs e = (all_unwanted (atoms_in body c) parts.0, parts.1)
      where
        parts : (list_any (is_marked marks) (class_numbers body c) ≡ false) × (some cs ≡ false)
        parts = either_false (list_any (is_marked marks) (class_numbers body c)) (some cs) (sym (list_any-append (is_marked marks) (class_numbers body c) (flat_map (class_numbers body) cs)) ∙ e)

    none : some classes ≡ false → (class : Class) → mentions paths body class ≡ false
    none e class = by class
      where
        one : some (Depend ∷ Bdepend ∷ Rdepend ∷ Pdepend ∷ Idepend ∷ []) ≡ false
        one = (first Required (Depend ∷ Bdepend ∷ Rdepend ∷ Pdepend ∷ Idepend ∷ []) e).1

        two : some (Bdepend ∷ Rdepend ∷ Pdepend ∷ Idepend ∷ []) ≡ false
        two = (first Depend (Bdepend ∷ Rdepend ∷ Pdepend ∷ Idepend ∷ []) one).1

        three : some (Rdepend ∷ Pdepend ∷ Idepend ∷ []) ≡ false
        three = (first Bdepend (Rdepend ∷ Pdepend ∷ Idepend ∷ []) two).1

        four : some (Pdepend ∷ Idepend ∷ []) ≡ false
        four = (first Rdepend (Pdepend ∷ Idepend ∷ []) three).1

        five : some (Idepend ∷ []) ≡ false
        five = (first Pdepend (Idepend ∷ []) four).1

        by : (class : Class) → mentions paths body class ≡ false
        by Required = (first Required (Depend ∷ Bdepend ∷ Rdepend ∷ Pdepend ∷ Idepend ∷ []) e).0
        by Depend = (first Depend (Bdepend ∷ Rdepend ∷ Pdepend ∷ Idepend ∷ []) one).0
        by Bdepend = (first Bdepend (Rdepend ∷ Pdepend ∷ Idepend ∷ []) two).0
        by Rdepend = (first Rdepend (Pdepend ∷ Idepend ∷ []) three).0
        by Pdepend = (first Pdepend (Idepend ∷ []) four).0
        by Idepend = (first Idepend [] five).0

    pub unmarked : (numbers : List ℕ) (near : Bool) → near ≡ list_any (is_marked marks) numbers → numbers ≡ numbers_of body → (class : Class) → near ≡ false → mentions paths body class ≡ false
    unfolding numbers_of
    unmarked numbers near is these class e = none (ap (list_any (is_marked marks)) (sym these) ∙ (sym is ∙ e)) class

-- what stands at a place of one list stands there in another that is the same
pub same_here : (bodies all : List Body) (i : ℕ) (one body : Body) → all ≡ bodies → i < length bodies → one ≡ get_or all i one → body ≡ get_or bodies i body → one ≡ body
same_here bodies all i one body e lt here there = here ∙ (ap (λ l. get_or l i one) e ∙ (same_default bodies i one body lt ∙ sym there))
  where
    same_default : (xs : List Body) (k : ℕ) (a b : Body) → k < length xs → get_or xs k a ≡ get_or xs k b
    same_default [] k a b lt = absurd (omega (arith, lt))
    same_default (x ∷ xs) zero a b lt = refl
    same_default (x ∷ xs) (suc k) a b lt = same_default xs k a b (omega (arith, lt))
