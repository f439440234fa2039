-- A query of a class rests, of the packages, on those alone that have the category and name of one of its atoms.
-- So where none of these is edited, the reports of the class are as before, and so are the limits of its queries.
use Rattle.std.proofs.Common.{◌≡◌, ℕ, ◌+◌, Bool, true, false, ◌&&◌, ◌||◌, not, cond, if◌then◌else◌, List, [], ◌∷◌, ◌++◌, length, map, filter, fold, sum_by, refl, sym, ap, ◌∙◌, Option, Some, None, unwrap_or}
use Rattle.std.proofs.Math.Path.{fun_ext}
use Rattle.std.proofs.lemmas.Bool.{false≢true, and_parts}
use Rattle.std.specs.List.{AllByRecursion, list_any}
use Rattle.std.specs.Str.{bytes_eq}
use Rattle.gv_atom.specs.Items.{is_blocker}
use Rattle.gv_atom.specs.declared.atom.Atom.{Atom}
use Rattle.gv_atom.specs.declared.atom.Block.{Block}
use Rattle.gv_atom.specs.declared.atom.Block.TheVariants.{No, Strong, Weak}
use Rattle.gv_entry.specs.Allowed.{Parent, assignment, class_holds, first_failing, is_allowed, item_holds}
use Rattle.gv_entry.specs.Holds.{any_of, dep_holds, dep_members, deps_hold, is_dep_member, is_met}
use Rattle.gv_entry.specs.Least.{least}
use Rattle.gv_entry.specs.Queries.{class_flags, class_in}
use Rattle.gv_entry.specs.Weight.{atom_weight}
use Rattle.gv_entry.specs.declared.entry.Body.{Body}
use Rattle.gv_expr.specs.Dep as dep
use Rattle.gv_expr.specs.Dep.{Dep, Deps, deps}
use Rattle.gv_expr.specs.DepGrammar.{dep_tokens}
use Rattle.gv_expr.specs.Mentions.{wanted_atoms, with_atom}
use Rattle.gv_expr.specs.Required.{Req, reqs}
use Rattle.gv_expr.specs.RequiredGrammar.{req_tokens}
use Rattle.gv_facts.specs.AtomMet.{atom_met, items_met, meets}
use Rattle.gv_facts.specs.Places.{is_pkg_of}
use Rattle.gv_facts.specs.States.{state}
use Rattle.gv_facts.specs.Visible.{matches_pkg, visible}
use Rattle.gv_facts.specs.declared.kinds.Class.{Class}
use Rattle.gv_facts.specs.declared.kinds.Level.{Level}
use Rattle.gv_facts.specs.declared.pkg.Pkg.{Pkg}
use Rattle.gv_facts.specs.declared.profile.Profile.{Profile}
use Rattle.gv_checks.specs.Asked.{asked_flags, asked_weight, asks, least_asked}
use Rattle.gv_plain.specs.Cases.{case_at}
use Rattle.gv_checks.specs.Queries.{Query, flags_of, query_of, weight_of}
use Rattle.gv_plain.specs.PlainReports.{atoms_in, is_nowhere, nonexistent, nonexistent_in}
use Rattle.gv_checks.specs.RepoReports.{query_report, report_found}
use Rattle.gv_plain.specs.Lists.{any_among, front_two}

-- ---- lists

pub all_front : {X : Type 0} (P : X → Type 0) (xs ys : List X) → AllByRecursion P (xs ++ ys) → AllByRecursion P xs
all_front P [] ys h = tt
all_front P (x ∷ xs) ys h = (h.0, all_front P xs ys h.1)

pub all_behind : {X : Type 0} (P : X → Type 0) (xs ys : List X) → AllByRecursion P (xs ++ ys) → AllByRecursion P ys
all_behind P [] ys h = h
all_behind P (x ∷ xs) ys h = all_behind P xs ys h.1

pub all_weaker : {X : Type 0} (P Q : X → Type 0) → ((x : X) → P x → Q x) → (xs : List X) → AllByRecursion P xs → AllByRecursion Q xs
all_weaker P Q to [] h = tt
all_weaker P Q to (x ∷ xs) h = (to x h.0, all_weaker P Q to xs h.1)

pub filter_among : {X : Type 0} (test other : X → Bool) → ((x : X) → test x ≡ true → other x ≡ true) → (xs : List X) → filter test (filter other xs) ≡ filter test xs
filter_among test other only [] = refl
filter_among test other only (x ∷ xs) = by (other x) refl (test x) refl (filter_among test other only xs)
  where
    by : (b : Bool) → other x ≡ b → (c : Bool) → test x ≡ c → filter test (filter other xs) ≡ filter test xs → filter test (filter other (x ∷ xs)) ≡ filter test (x ∷ xs)
    by true e c f rest = rw e (ap (λ ys. cond (test x) (x ∷ ys) ys) rest)
    by false e true f rest = absurd (false≢true (sym e ∙ only x f))
    by false e false f rest = rw (e, f) rest

filter_alike : {X : Type 0} (test other : X → Bool) → (xs : List X) → AllByRecursion (λ x. test x ≡ other x) xs → filter test xs ≡ filter other xs
filter_alike test other [] h = refl
filter_alike test other (x ∷ xs) h = ap (λ b. cond b (x ∷ filter test xs) (filter test xs)) h.0 ∙ ap (λ ys. cond (other x) (x ∷ ys) ys) (filter_alike test other xs h.1)

sums_alike : {X : Type 0} (f g : X → ℕ) (xs : List X) (n : ℕ) → AllByRecursion (λ x. f x ≡ g x) xs → fold (λ a x. a + f x) n xs ≡ fold (λ a x. a + g x) n xs
sums_alike f g [] n h = refl
sums_alike f g (x ∷ xs) n h = sums_alike f g xs (n + f x) h.1 ∙ ap (λ k. fold (λ a x. a + g x) (n + k) xs) h.0

-- the numbers that have limits
abbrev pub limits_of : Query → ℕ × ℕ
limits_of q = (length (flags_of q), weight_of q)

-- ---- an expression holds alike where the atoms are met alike

module _ (met other : Atom → Bool) (on : List ℕ → Bool) (empty : Bool) (blockers : (a : Atom) → is_blocker a.block ≡ true → met a ≡ other a) where
  abbrev Same : List Atom → Type 0
  Same atoms = AllByRecursion (λ a. met a ≡ other a) atoms

  leaf_same : (a : Atom) (b : Block) → a.block ≡ b → (atoms : List Atom) → Same (with_atom a b atoms) → met a ≡ other a
  leaf_same a No e atoms h = h.0
  leaf_same a Weak e atoms h = blockers a (ap is_blocker e)
  leaf_same a Strong e atoms h = blockers a (ap is_blocker e)

  past_atom : (a : Atom) (b : Block) (atoms : List Atom) → Same (with_atom a b atoms) → Same atoms
  past_atom a No atoms h = h.1
  past_atom a Weak atoms h = h
  past_atom a Strong atoms h = h

  past : (t : Dep) (ts : Deps) → Same (wanted_atoms (dep.more t ts)) → Same (wanted_atoms ts)
  past (dep.leaf a) ts h = past_atom a a.block (wanted_atoms ts) h
  past (dep.all items) ts h = all_behind (λ a. met a ≡ other a) (wanted_atoms items) (wanted_atoms ts) h
  past (dep.any items) ts h = all_behind (λ a. met a ≡ other a) (wanted_atoms items) (wanted_atoms ts) h
  past (dep.when flag negated items) ts h = all_behind (λ a. met a ≡ other a) (wanted_atoms items) (wanted_atoms ts) h

  mutual
    pub dep_same : (t : Dep) (ts : Deps) → Same (wanted_atoms (dep.more t ts)) → dep_holds t met on empty ≡ dep_holds t other on empty
    dep_same (dep.leaf a) ts h = leaf_same a a.block refl (wanted_atoms ts) h
    dep_same (dep.all items) ts h = deps_same items (all_front (λ a. met a ≡ other a) (wanted_atoms items) (wanted_atoms ts) h)
    dep_same (dep.any items) ts h = ap (any_of empty) (members_same items (all_front (λ a. met a ≡ other a) (wanted_atoms items) (wanted_atoms ts) h))
    dep_same (dep.when flag negated items) ts h =
        ap (λ b. not (is_met negated (on flag)) || b) (deps_same items (all_front (λ a. met a ≡ other a) (wanted_atoms items) (wanted_atoms ts) h))

    pub deps_same : (ts : Deps) → Same (wanted_atoms ts) → deps_hold ts met on empty ≡ deps_hold ts other on empty
    deps_same dep.end h = refl
    deps_same (dep.more t ts) h = ap (λ b. b && deps_hold ts met on empty) (dep_same t ts h) ∙ ap (λ b. dep_holds t other on empty && b) (deps_same ts (past t ts h))

    members_same : (ts : Deps) → Same (wanted_atoms ts) → dep_members ts met on empty ≡ dep_members ts other on empty
    members_same dep.end h = refl
    members_same (dep.more t ts) h =
        ap (λ b. if is_dep_member t on then b ∷ dep_members ts met on empty else dep_members ts met on empty) (dep_same t ts h)
        ∙ ap (λ bs. if is_dep_member t on then dep_holds t other on empty ∷ bs else bs) (members_same ts (past t ts h))

-- ---- among packages of which those of an atom's category and name are the same

of_name : (a : Atom) (p : Pkg) → matches_pkg a p ≡ true → is_pkg_of a.category a.name p ≡ true
of_name a p = front_two (bytes_eq a.category p.category) (bytes_eq a.name p.name) _

module _ (xs ys : List Pkg) where
  abbrev pub Alike : Atom → Type 0
  Alike a = filter (is_pkg_of a.category a.name) xs ≡ filter (is_pkg_of a.category a.name) ys

  any_alike : (a : Atom) (test : Pkg → Bool) → ((p : Pkg) → test p ≡ true → matches_pkg a p ≡ true) → Alike a → list_any test xs ≡ list_any test ys
  any_alike a test only alike =
      sym (any_among test (is_pkg_of a.category a.name) (λ p h. of_name a p (only p h)) xs)
      ∙ (ap (list_any test) alike ∙ any_among test (is_pkg_of a.category a.name) (λ p h. of_name a p (only p h)) ys)

  these_alike : (a : Atom) (test : Pkg → Bool) → ((p : Pkg) → test p ≡ true → matches_pkg a p ≡ true) → Alike a → filter test xs ≡ filter test ys
  these_alike a test only alike =
      sym (filter_among test (is_pkg_of a.category a.name) (λ p h. of_name a p (only p h)) xs)
      ∙ (ap (filter test) alike ∙ filter_among test (is_pkg_of a.category a.name) (λ p h. of_name a p (only p h)) ys)

  nowhere_alike : (a : Atom) → Alike a → is_nowhere xs a ≡ is_nowhere ys a
  nowhere_alike a alike = ap not (any_alike a (matches_pkg a) (λ p h. h) alike)

  pub nonexistent_alike : (p : Pkg) (body : Body) (class : Class) → AllByRecursion Alike (atoms_in body class)
      → nonexistent_in xs p body class ≡ nonexistent_in ys p body class
  nonexistent_alike p body class alike =
      ap (λ atoms. map (nonexistent p class) atoms)
      (filter_alike (is_nowhere xs) (is_nowhere ys) (atoms_in body class)
      (all_weaker Alike (λ a. is_nowhere xs a ≡ is_nowhere ys a) nowhere_alike (atoms_in body class) alike))

  module _ (pkg : Pkg) (profile : Profile) (level : Level) where
    abbrev among : List Pkg → Parent
    among ps = record { pkg = pkg; profile = profile; level = level; among = ps }

    met_alike : (on : List ℕ → Bool) (a : Atom) → Alike a → atom_met xs profile level on a ≡ atom_met ys profile level on a
    met_alike on a alike = ap (λ b. is_blocker a.block || b) (any_alike a (meets profile level on a) only alike)
      where
        only : (p : Pkg) → meets profile level on a p ≡ true → matches_pkg a p ≡ true
        only p h =
            (and_parts (visible p profile level) (matches_pkg a p)
            (and_parts (visible p profile level && matches_pkg a p) (items_met (state p profile level) on a.items) h).0).1

    blocked : (on : List ℕ → Bool) (a : Atom) → is_blocker a.block ≡ true → atom_met xs profile level on a ≡ atom_met ys profile level on a
    blocked on a h = rw h refl

    all_met : (on : List ℕ → Bool) (atoms : List Atom) → AllByRecursion Alike atoms
        → AllByRecursion (λ a. atom_met xs profile level on a ≡ atom_met ys profile level on a) atoms
    all_met on = all_weaker Alike (λ a. atom_met xs profile level on a ≡ atom_met ys profile level on a) (met_alike on)

    holds_alike : (class : List Dep) → AllByRecursion Alike (wanted_atoms (deps class)) → (on : List ℕ → Bool)
        → class_holds (among xs) class on ≡ class_holds (among ys) class on
    holds_alike class alike on =
        deps_same (atom_met xs profile level on) (atom_met ys profile level on) on _ (blocked on) (deps class) (all_met on (wanted_atoms (deps class)) alike)

    first_alike : (class : List Dep) → AllByRecursion Alike (wanted_atoms (deps class)) → (on : List ℕ → Bool)
        → first_failing (among xs) class on ≡ first_failing (among ys) class on
    first_alike [] alike on = refl
    first_alike (t ∷ ts) alike on =
        ap (λ b. if b then first_failing (among xs) ts on else Some t)
        (dep_same (atom_met xs profile level on) (atom_met ys profile level on) on _ (blocked on) t (deps ts) (all_met on (wanted_atoms (deps (t ∷ ts))) alike))
        ∙ ap (λ first. if item_holds (among ys) on t then first else Some t) (first_alike ts (past_alike t (deps ts) alike) on)
      where
        past_alike : (t : Dep) (ts : Deps) → AllByRecursion Alike (wanted_atoms (dep.more t ts)) → AllByRecursion Alike (wanted_atoms ts)
        past_alike (dep.leaf a) ts h = by a.block h
          where
            by : (b : Block) → AllByRecursion Alike (with_atom a b (wanted_atoms ts)) → AllByRecursion Alike (wanted_atoms ts)
            by No h = h.1
            by Weak h = h
            by Strong h = h
        past_alike (dep.all items) ts h = all_behind Alike (wanted_atoms items) (wanted_atoms ts) h
        past_alike (dep.any items) ts h = all_behind Alike (wanted_atoms items) (wanted_atoms ts) h
        past_alike (dep.when flag negated items) ts h = all_behind Alike (wanted_atoms items) (wanted_atoms ts) h

    abbrev pub atoms_of : Option (List Dep) → List Atom
    atoms_of class = wanted_atoms (deps (unwrap_or class []))

    asks_alike : (required : List Req) (class : Option (List Dep)) → AllByRecursion Alike (atoms_of class) → (bits : List Bool)
        → asks (among xs) required class bits ≡ asks (among ys) required class bits
    asks_alike required None alike bits = refl
    asks_alike required (Some class) alike bits =
        ap (λ b. is_allowed (among ys) required (class_flags (among ys) required class) bits && not b)
        (holds_alike class alike (assignment (among ys) (class_flags (among ys) required class) bits))

    least_alike : (required : List Req) (class : Option (List Dep)) → AllByRecursion Alike (atoms_of class)
        → least_asked (among xs) required class ≡ least_asked (among ys) required class
    least_alike required class alike = by class (fun_ext (asks_alike required class alike))
      where
        by : (class : Option (List Dep)) → asks (among xs) required class ≡ asks (among ys) required class
            → least_asked (among xs) required class ≡ least_asked (among ys) required class
        by None e = refl
        by (Some class) e = ap (λ test. least test (length (class_flags (among ys) required class))) e

    weight_alike : (required : List Req) (class : Option (List Dep)) → AllByRecursion Alike (atoms_of class)
        → asked_weight (among xs) required class ≡ asked_weight (among ys) required class
    weight_alike required None alike = refl
    weight_alike required (Some class) alike =
        ap (λ n. length (req_tokens (reqs required)) + length (dep_tokens (deps class)) + n)
        (sums_alike (atom_weight (among xs)) (atom_weight (among ys)) (wanted_atoms (deps class)) 0
        (all_weaker Alike (λ a. atom_weight (among xs) a ≡ atom_weight (among ys) a) one (wanted_atoms (deps class)) alike))
      where
        one : (a : Atom) → Alike a → atom_weight (among xs) a ≡ atom_weight (among ys) a
        one a alike =
            ap (λ ps. sum_by (λ p. 1 + length a.items) ps)
            (these_alike a (λ p. visible p profile level && matches_pkg a p) (λ p h. (and_parts (visible p profile level) (matches_pkg a p) h).1) alike)

    module _ (i j : ℕ) (body : Body) (class : Class) where
      abbrev query_in : List Pkg → ℕ → Query
      query_in ps n = query_of (case_at ps (record { number = n; pkg = pkg; body = body }) profile level) class

      found_alike : (expr : Option (List Dep)) → class_in body class ≡ expr → AllByRecursion Alike (atoms_of expr) → (found : Option (List Bool))
          → report_found (query_in xs i) expr found ≡ report_found (query_in ys j) expr found
      found_alike None e alike None = refl
      found_alike None e alike (Some bits) = refl
      found_alike (Some dep) e alike None = refl
      found_alike (Some dep) e alike (Some bits) =
          rw (first_alike dep alike (assignment (among xs) (asked_flags (among xs) (unwrap_or body.required []) (class_in body class)) bits)) refl

      pub report_alike : AllByRecursion Alike (atoms_in body class) → query_report (query_in xs i) ≡ query_report (query_in ys j)
      report_alike alike =
          found_alike (class_in body class) refl alike (least_asked (among xs) (unwrap_or body.required []) (class_in body class))
          ∙ ap (report_found (query_in ys j) (class_in body class)) (least_alike (unwrap_or body.required []) (class_in body class) alike)

      pub limits_alike : AllByRecursion Alike (atoms_in body class) → limits_of (query_in xs i) ≡ limits_of (query_in ys j)
      limits_alike alike = ap (λ w. (length (flags_of (query_in ys j)), w)) (weight_alike (unwrap_or body.required []) (class_in body class) alike)
