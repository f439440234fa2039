-- What is shown of an atom weighs at most as much as all packages of its name, and these at most as much as all packages.
use Rattle.std.proofs.Common.{◌≡◌, ℕ, ◌+◌, ◌*◌, ◌≤◌, Bool, true, false, cond, ◌&&◌, List, [], ◌∷◌, length, filter, map, refl, sym, ap, ◌∙◌, arith}
use Rattle.std.specs.Prelude.{slice_get, sum_by, Some}
use Rattle.std.proofs.Math.Nat.{mul-suc, mul-zero}
use Rattle.std.proofs.lemmas.List.{length-map}
use Rattle.std.proofs.lemmas.List.Sums.{sum_by-cons}
use Rattle.std.specs.Str.{bytes_eq}
use Rattle.gv_atom.specs.Matching.{slot_holds, version_holds}
use Rattle.gv_atom.specs.declared.atom.Atom.{Atom}
use Rattle.gv_expr.specs.Dep.{Deps}
use Rattle.gv_expr.specs.Mentions.{wanted_atoms}
use Rattle.gv_entry.specs.Allowed.{Parent}
use Rattle.gv_facts.specs.Places.{is_pkg_of}
use Rattle.gv_facts.specs.Visible.{matches_pkg, visible}
use Rattle.gv_facts.specs.declared.pkg.Pkg.{Pkg}
use Rattle.gv_lower.specs.Weigh.{capped, class_weight, packages_weight}
use Rattle.gv_lower.specs.declared.weigh.Counted.TheVariants.{Every, Named, Shown}

module _ {X : Type 0} (k : ℕ) (some more : X → Bool) (within : (x : X) → some x ≡ true → more x ≡ true) where
  fewer : (xs : List X) → sum_by (λ (x : X). k) (filter some xs) ≤ sum_by (λ (x : X). k) (filter more xs)
  fewer [] = omega arith
  fewer (x ∷ xs) = by (some x) (more x) refl refl (fewer xs)
    where
      by : (p q : Bool) → some x ≡ p → more x ≡ q → sum_by (λ (x : X). k) (filter some xs) ≤ sum_by (λ (x : X). k) (filter more xs)
          → sum_by (λ (x : X). k) (cond p (x ∷ filter some xs) (filter some xs)) ≤ sum_by (λ (x : X). k) (cond q (x ∷ filter more xs) (filter more xs))
      by true true s m left = omega (arith, left, sum_by-cons (λ (x : X). k) x (filter some xs), sum_by-cons (λ (x : X). k) x (filter more xs))
      by true false s m left = let there : more x ≡ true = within x s in cc
      by false true s m left = omega (arith, left, sum_by-cons (λ (x : X). k) x (filter more xs))
      by false false s m left = left

front : (v a b r : Bool) → v && (a && (b && r)) ≡ true → a && b ≡ true
front true true true r h = refl
front true true false r h = h
front true false b r h = h
front false a b r h = cc

pub atom_less : (c : Parent) (atom : Atom) → packages_weight Shown c atom ≤ packages_weight Named c atom
atom_less c atom = fewer (1 + length atom.items) (λ p. visible p c.profile c.level && matches_pkg atom p) (is_pkg_of atom.category atom.name) (λ p h.
    front (visible p c.profile c.level) (bytes_eq atom.category p.category) (bytes_eq atom.name p.name) (version_holds atom.op atom.version atom.star p.version && slot_holds atom.slot p.slot p.sub) h) c.among

atoms_less : (c : Parent) (atoms : List Atom) → sum_by (packages_weight Shown c) atoms ≤ sum_by (packages_weight Named c) atoms
atoms_less c [] = omega arith
atoms_less c (a ∷ atoms) =
    omega (arith, atom_less c a, atoms_less c atoms, sum_by-cons (packages_weight Shown c) a atoms, sum_by-cons (packages_weight Named c) a atoms)

pub class_less : (c : Parent) (ts : Deps) → class_weight Shown c ts ≤ class_weight Named c ts
class_less c ts = omega (arith, atoms_less c (wanted_atoms ts))

some_of_all : {X : Type 0} (k : ℕ) (some : X → Bool) (xs : List X) → sum_by (λ (x : X). k) (filter some xs) ≤ sum_by (λ (x : X). k) xs
some_of_all k some [] = omega arith
some_of_all {X} k some (x ∷ xs) = by (some x) (some_of_all k some xs)
  where
    by : (p : Bool) → sum_by (λ (x : X). k) (filter some xs) ≤ sum_by (λ (x : X). k) xs
        → sum_by (λ (x : X). k) (cond p (x ∷ filter some xs) (filter some xs)) ≤ sum_by (λ (x : X). k) (x ∷ xs)
    by true left = omega (arith, left, sum_by-cons (λ (x : X). k) x (filter some xs), sum_by-cons (λ (x : X). k) x xs)
    by false left = omega (arith, left, sum_by-cons (λ (x : X). k) x xs)

atoms_named : (c : Parent) (atoms : List Atom) → sum_by (packages_weight Named c) atoms ≤ sum_by (packages_weight Every c) atoms
atoms_named c [] = omega arith
atoms_named c (a ∷ atoms) =
    omega (arith, some_of_all (1 + length a.items) (is_pkg_of a.category a.name) c.among, atoms_named c atoms, sum_by-cons (packages_weight Named c) a atoms, sum_by-cons (packages_weight Every c) a atoms)

pub class_named : (c : Parent) (ts : Deps) → class_weight Named c ts ≤ class_weight Every c ts
class_named c ts = omega (arith, atoms_named c (wanted_atoms ts))

-- the same for each
all_same : (k : ℕ) (xs : List Pkg) → sum_by (λ (p : Pkg). k) xs ≡ k * length xs
all_same k [] = sym (mul-zero k)
all_same k (x ∷ xs) =
    let more : k * length (x ∷ xs) ≡ k * length xs + k = mul-suc k (length xs) in
    sum_by-cons (λ (p : Pkg). k) x xs ∙ (ap (λ n. k + n) (all_same k xs) ∙ omega (arith, more))

pub named_times : (k w : ℕ) (pkgs : List Pkg) (category name c n : List ℕ) (places : List ℕ) → c ≡ category → n ≡ name
    → map (slice_get pkgs) places ≡ map Some (filter (is_pkg_of c n) pkgs) → w ≡ capped (k * length places) → w ≡ capped (sum_by (λ (p : Pkg). k) (filter (is_pkg_of category name) pkgs))
named_times k w pkgs category name c n places is named at told =
    let many : length places ≡ length (filter (is_pkg_of c n) pkgs) = sym (length-map places (slice_get pkgs)) ∙ (ap (λ os. length os) at ∙ length-map (filter (is_pkg_of c n) pkgs) Some) in
    let same : filter (is_pkg_of c n) pkgs ≡ filter (is_pkg_of category name) pkgs = ap (λ x. filter (is_pkg_of x n) pkgs) is ∙ ap (λ x. filter (is_pkg_of category x) pkgs) named in
    told ∙ ap capped (ap (λ m. k * m) (many ∙ ap (λ xs. length xs) same) ∙ sym (all_same k (filter (is_pkg_of category name) pkgs)))

pub every_times : (k w : ℕ) (pkgs : List Pkg) → w ≡ capped (k * length pkgs) → w ≡ capped (sum_by (λ (p : Pkg). k) pkgs)
every_times k w pkgs told = told ∙ ap capped (sym (all_same k pkgs))
