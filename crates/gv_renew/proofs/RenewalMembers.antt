-- Lists that are made package by package: for two repositories that differ in edited entries alone they are the same where an
-- edited package has nothing in them, and any other has the same.
use Rattle.std.proofs.Common.{◌≡◌, ℕ, ◌+◌, Bool, true, false, ◌||◌, not, cond, List, [], ◌∷◌, ◌++◌, length, map, filter, refl, sym, ap, subst, ◌∙◌, Option, Some, None, arith}
use Rattle.std.specs.Prelude.{flat_map, filter_map}
use Rattle.std.proofs.lemmas.Bool.{false≢true, and_parts}
use Rattle.std.proofs.lemmas.Slice.Eq.{bytes_eq-Decides}
use Rattle.std.specs.List.{AllByRecursion, list_any}
use Rattle.std.specs.Str.{bytes_eq}
use Rattle.gv_base.specs.Order.{has_text}
use Rattle.gv_atom.specs.declared.atom.Atom.{Atom}
use Rattle.gv_entry.specs.declared.entry.Body.{Body}
use Rattle.gv_facts.specs.Places.{is_pkg_of}
use Rattle.gv_facts.specs.Visible.{judged}
use Rattle.gv_facts.specs.declared.kinds.Class.{Class}
use Rattle.gv_facts.specs.declared.kinds.Level.{Level}
use Rattle.gv_facts.specs.declared.pkg.Pkg.{Pkg}
use Rattle.gv_facts.specs.declared.profile.Profile.{Profile}
use Rattle.gv_reading.specs.Paths.{within}
use Rattle.gv_load.specs.declared.loading.Repo.{Repo}
use Rattle.gv_load.specs.declared.members.Member as loaded
use Rattle.gv_plain.specs.Cases.{Case, Member, case_at, case_in, members, members_from}
use Rattle.gv_reload.specs.EntryEdits.{DifferIn, HasEditedName, entry_name, is_edited_pkg, is_other, together}
use Rattle.gv_renew.specs.Renewal.{is_wanted, mentions}
use Rattle.gv_plain.specs.PlainReports.{atoms_in}
use Rattle.gv_renew.proofs.Locality.{Alike}

-- ---- cases

module _ {X : Type 0} (h : Case → List X) (xs ys : List Pkg) (i j : ℕ) (p : Pkg) (b : Body) where
  abbrev here : ℕ → Member
  here n = record { number = n; pkg = p; body = b }

  pub cases_alike : ((profile : Profile) (level : Level) → h (case_at xs (here i) profile level) ≡ h (case_at ys (here j) profile level))
      → (profiles : List Profile) → flat_map h (filter_map (case_in xs (here i)) profiles) ≡ flat_map h (filter_map (case_in ys (here j)) profiles)
  cases_alike same [] = refl
  cases_alike same (profile ∷ profiles) = by (judged p profile) refl (cases_alike same profiles)
    where
      by : (l : Option Level) → judged p profile ≡ l → flat_map h (filter_map (case_in xs (here i)) profiles) ≡ flat_map h (filter_map (case_in ys (here j)) profiles)
          → flat_map h (filter_map (case_in xs (here i)) (profile ∷ profiles)) ≡ flat_map h (filter_map (case_in ys (here j)) (profile ∷ profiles))
      by None e rest = rw e rest
      by (Some level) e rest =
          rw e (ap (λ rs. rs ++ flat_map h (filter_map (case_in xs (here i)) profiles)) (same profile level) ∙ ap (λ rs. h (case_at ys (here j) profile level) ++ rs) rest)

-- ---- members

abbrev pub at_first : loaded.Member → Member
at_first s = record { number = 0; pkg = s.pkg; body = s.body }

module _ (paths : List (List ℕ)) {X : Type 0} where
  -- the number of a package plays no part
  abbrev pub NumberFree : (Member → List X) → Type 0
  NumberFree h = (i j : ℕ) (p : Pkg) (b : Body) → h (record { number = i; pkg = p; body = b }) ≡ h (record { number = j; pkg = p; body = b })

  -- an edited package has nothing
  abbrev pub NoneEdited : (Member → List X) → Type 0
  NoneEdited h = (m : Member) → is_edited_pkg paths m.pkg ≡ true → h m ≡ []

  packed_flat : (h : Member → List X) → NumberFree h → (n : ℕ) (ps : List Pkg) (bs : List Body)
      → flat_map h (members_from n ps bs) ≡ flat_map (λ s. h (at_first s)) (together ps bs)
  packed_flat h free n [] bs = refl
  packed_flat h free n (p ∷ ps) [] = refl
  packed_flat h free n (p ∷ ps) (b ∷ bs) =
      ap (λ rs. rs ++ flat_map h (members_from (n + 1) ps bs)) (free n 0 p b)
      ∙ ap (λ rs. h (record { number = 0; pkg = p; body = b }) ++ rs) (packed_flat h free (n + 1) ps bs)

  others_flat : (h : Member → List X) → NoneEdited h → (ss : List loaded.Member)
      → flat_map (λ s. h (at_first s)) ss ≡ flat_map (λ s. h (at_first s)) (filter (is_other paths) ss)
  others_flat h none [] = refl
  others_flat h none (s ∷ ss) = by (is_edited_pkg paths s.pkg) refl (others_flat h none ss)
    where
      by : (b : Bool) → is_edited_pkg paths s.pkg ≡ b → flat_map (λ s. h (at_first s)) ss ≡ flat_map (λ s. h (at_first s)) (filter (is_other paths) ss)
          → flat_map (λ s. h (at_first s)) (s ∷ ss) ≡ flat_map (λ s. h (at_first s)) (filter (is_other paths) (s ∷ ss))
      by true e rest = ap (λ rs. rs ++ flat_map (λ s. h (at_first s)) ss) (none (at_first s) e) ∙ (rw e rest)
      by false e rest = rw e (ap (λ rs. h (at_first s) ++ rs) rest)

  module _ (Holds : Pkg → Body → Type 0) (h k : Member → List X)
      (same : (p : Pkg) (b : Body) → is_edited_pkg paths p ≡ false → Holds p b → h (record { number = 0; pkg = p; body = b }) ≡ k (record { number = 0; pkg = p; body = b })) where
    these_same : (ss : List loaded.Member) → AllByRecursion (λ (s : loaded.Member). Holds s.pkg s.body) ss
        → flat_map (λ s. h (at_first s)) (filter (is_other paths) ss) ≡ flat_map (λ s. k (at_first s)) (filter (is_other paths) ss)
    these_same [] all = refl
    these_same (s ∷ ss) all = by (is_edited_pkg paths s.pkg) refl (these_same ss all.1)
      where
        by : (b : Bool) → is_edited_pkg paths s.pkg ≡ b
            → flat_map (λ s. h (at_first s)) (filter (is_other paths) ss) ≡ flat_map (λ s. k (at_first s)) (filter (is_other paths) ss)
            → flat_map (λ s. h (at_first s)) (filter (is_other paths) (s ∷ ss)) ≡ flat_map (λ s. k (at_first s)) (filter (is_other paths) (s ∷ ss))
        by true e rest = rw e rest
        by false e rest =
            rw e (ap (λ rs. rs ++ flat_map (λ s. h (at_first s)) (filter (is_other paths) ss)) (same s.pkg s.body e all.0) ∙ ap (λ rs. k (at_first s) ++ rs) rest)

    packed_all : (n : ℕ) (ps : List Pkg) (bs : List Body) → AllByRecursion (λ (m : Member). Holds m.pkg m.body) (members_from n ps bs)
        → AllByRecursion (λ (s : loaded.Member). Holds s.pkg s.body) (together ps bs)
    packed_all n [] bs all = tt
    packed_all n (p ∷ ps) [] all = tt
    packed_all n (p ∷ ps) (b ∷ bs) all = (all.0, packed_all (n + 1) ps bs all.1)

    pub members_same : (old whole : Repo) → DifferIn paths old whole → NumberFree h → NumberFree k → NoneEdited h → NoneEdited k
        → AllByRecursion (λ (m : Member). Holds m.pkg m.body) (members whole)
        → flat_map h (members old) ≡ flat_map k (members whole)
    members_same old whole differ free_h free_k none_h none_k all =
        packed_flat h free_h 0 old.pkgs old.bodies
        ∙ (others_flat h none_h (together old.pkgs old.bodies)
        ∙ (ap (flat_map (λ s. h (at_first s))) (sym differ.members)
        ∙ (these_same (together whole.pkgs whole.bodies) (packed_all 0 whole.pkgs whole.bodies all)
        ∙ (sym (others_flat k none_k (together whole.pkgs whole.bodies)) ∙ sym (packed_flat k free_k 0 whole.pkgs whole.bodies)))))

-- what holds of each edited package, and of those of one repository, holds of those of the other
module _ (paths : List (List ℕ)) (Holds : Pkg → Body → Type 0) (edited : (p : Pkg) (b : Body) → is_edited_pkg paths p ≡ true → Holds p b) where
  abbrev Each : List loaded.Member → Type 0
  Each ss = AllByRecursion (λ (s : loaded.Member). Holds s.pkg s.body) ss

  each_packed : (n : ℕ) (ps : List Pkg) (bs : List Body) → AllByRecursion (λ (m : Member). Holds m.pkg m.body) (members_from n ps bs) → Each (together ps bs)
  each_packed n [] bs all = tt
  each_packed n (p ∷ ps) [] all = tt
  each_packed n (p ∷ ps) (b ∷ bs) all = (all.0, each_packed (n + 1) ps bs all.1)

  each_member : (n : ℕ) (ps : List Pkg) (bs : List Body) → Each (together ps bs) → AllByRecursion (λ (m : Member). Holds m.pkg m.body) (members_from n ps bs)
  each_member n [] bs all = tt
  each_member n (p ∷ ps) [] all = tt
  each_member n (p ∷ ps) (b ∷ bs) all = (all.0, each_member (n + 1) ps bs all.1)

  each_other : (ss : List loaded.Member) → Each ss → Each (filter (is_other paths) ss)
  each_other [] all = tt
  each_other (s ∷ ss) all = by (is_edited_pkg paths s.pkg) refl (each_other ss all.1)
    where
      by : (b : Bool) → is_edited_pkg paths s.pkg ≡ b → Each (filter (is_other paths) ss) → Each (filter (is_other paths) (s ∷ ss))
      by true e rest = rw e rest
      by false e rest = rw e (all.0, rest)

  from_others : (ss : List loaded.Member) → Each (filter (is_other paths) ss) → Each ss
  from_others [] all = tt
  from_others (s ∷ ss) all = by (is_edited_pkg paths s.pkg) refl all (from_others ss)
    where
      by : (b : Bool) → is_edited_pkg paths s.pkg ≡ b → Each (filter (is_other paths) (s ∷ ss)) → (Each (filter (is_other paths) ss) → Each ss) → Each (s ∷ ss)
      by true e all rest = (edited s.pkg s.body e, rest (rw e at all))
      by false e all rest = let both : Each (s ∷ filter (is_other paths) ss) = rw e at all in (both.0, rest both.1)

  pub each_of_old : (old whole : Repo) → DifferIn paths old whole → AllByRecursion (λ (m : Member). Holds m.pkg m.body) (members whole)
      → AllByRecursion (λ (m : Member). Holds m.pkg m.body) (members old)
  each_of_old old whole differ all =
      each_member 0 old.pkgs old.bodies (from_others (together old.pkgs old.bodies)
      (subst Each differ.members (each_other (together whole.pkgs whole.bodies) (each_packed 0 whole.pkgs whole.bodies all))))

-- ---- packages of a name that no edited entry has

module _ (paths : List (List ℕ)) where
  abbrev is_kept : Pkg → Bool
  is_kept p = not (is_edited_pkg paths p)

  kept_pkgs : (ps : List Pkg) (bs : List Body) → length bs ≡ length ps → filter is_kept ps ≡ map (λ (s : loaded.Member). s.pkg) (filter (is_other paths) (together ps bs))
  kept_pkgs [] bs long = refl
  kept_pkgs (p ∷ ps) [] long = absurd (omega (arith, long))
  kept_pkgs (p ∷ ps) (b ∷ bs) long = by (is_kept p) refl (kept_pkgs ps bs (omega (arith, long)))
    where
      by : (t : Bool) → is_kept p ≡ t → filter is_kept ps ≡ map (λ (s : loaded.Member). s.pkg) (filter (is_other paths) (together ps bs))
          → filter is_kept (p ∷ ps) ≡ map (λ (s : loaded.Member). s.pkg) (filter (is_other paths) (together (p ∷ ps) (b ∷ bs)))
      by true e rest = rw e (ap (λ qs. p ∷ qs) rest)
      by false e rest = rw e rest

  module _ (category name : List ℕ) (unnamed : has_text (map entry_name paths) (within category name) ≡ false) where
    other_name : (p : Pkg) → HasEditedName paths p → is_edited_pkg paths p ≡ true → is_pkg_of category name p ≡ true → ⊥
    other_name p has e is =
        let both = and_parts (bytes_eq category p.category) (bytes_eq name p.name) is in
        let same_category : category ≡ p.category = (bytes_eq-Decides category p.category).0 both.0 in
        let same_name : name ≡ p.name = (bytes_eq-Decides name p.name).0 both.1 in
        false≢true (sym unnamed ∙ (ap (λ c. has_text (map entry_name paths) (within c name)) same_category
        ∙ (ap (λ n. has_text (map entry_name paths) (within p.category n)) same_name ∙ has e)))

    named_kept : (ps : List Pkg) → AllByRecursion (HasEditedName paths) ps → filter (is_pkg_of category name) ps ≡ filter (is_pkg_of category name) (filter is_kept ps)
    named_kept [] have = refl
    named_kept (p ∷ ps) have = by (is_edited_pkg paths p) refl (is_pkg_of category name p) refl (named_kept ps have.1)
      where
        by : (b : Bool) → is_edited_pkg paths p ≡ b → (c : Bool) → is_pkg_of category name p ≡ c
            → filter (is_pkg_of category name) ps ≡ filter (is_pkg_of category name) (filter is_kept ps)
            → filter (is_pkg_of category name) (p ∷ ps) ≡ filter (is_pkg_of category name) (filter is_kept (p ∷ ps))
        by true e true is rest = absurd (other_name p have.0 e is)
        by true e false is rest = rw (e, is) rest
        by false e c is rest = rw e (ap (λ qs. cond (is_pkg_of category name p) (p ∷ qs) qs) rest)

  module _ (old whole : Repo) (old_bodies : length old.bodies ≡ length old.pkgs) (bodies : length whole.bodies ≡ length whole.pkgs)
      (differ : DifferIn paths old whole) where
    same_kept : filter is_kept old.pkgs ≡ filter is_kept whole.pkgs
    same_kept = kept_pkgs old.pkgs old.bodies old_bodies ∙ (ap (map (λ (s : loaded.Member). s.pkg)) (sym differ.members) ∙ sym (kept_pkgs whole.pkgs whole.bodies bodies))

    name_alike : (a : Atom) → is_wanted paths a ≡ false → Alike old.pkgs whole.pkgs a
    name_alike a unnamed =
        named_kept a.category a.name unnamed old.pkgs differ.old_names
        ∙ (ap (filter (is_pkg_of a.category a.name)) same_kept ∙ sym (named_kept a.category a.name unnamed whole.pkgs differ.new_names))

    atoms_alike : (atoms : List Atom) → list_any (is_wanted paths) atoms ≡ false → AllByRecursion (Alike old.pkgs whole.pkgs) atoms
    atoms_alike [] none = tt
    atoms_alike (a ∷ atoms) none = by (is_wanted paths a) refl none (atoms_alike atoms)
      where
        by : (b : Bool) → is_wanted paths a ≡ b → (b || list_any (is_wanted paths) atoms) ≡ false
            → (list_any (is_wanted paths) atoms ≡ false → AllByRecursion (Alike old.pkgs whole.pkgs) atoms)
            → AllByRecursion (Alike old.pkgs whole.pkgs) (a ∷ atoms)
        by true e none rest = absurd (false≢true (sym none))
        by false e none rest = (name_alike a e, rest none)

    -- an unmentioned class names packages that are the same in both
    pub unmentioned_alike : (body : Body) (class : Class) → mentions paths body class ≡ false → AllByRecursion (Alike old.pkgs whole.pkgs) (atoms_in body class)
    unmentioned_alike body class none = atoms_alike (atoms_in body class) none
