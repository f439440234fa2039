-- What is found of each package, one after another.
use Rattle.std.proofs.Common.{◌≡◌, ℕ, ◌+◌, ◌<◌, ◌≤◌, List, [], ◌∷◌, ◌++◌, length, map, get_or, drop, refl, sym, ap, ◌∙◌, Some, append_assoc, append-nil, arith}
use Rattle.std.proofs.Math.ListN.{drop_of_length-le}
use Rattle.std.proofs.lemmas.Option.{slice_get-get_or}
use Rattle.std.specs.Prelude.{flat_map, slice_get}
use Rattle.std.specs.List.{AllByRecursion}
use Rattle.gv_entry.specs.declared.entry.Body.{Body}
use Rattle.gv_facts.specs.declared.kinds.Class.{Class}
use Rattle.gv_facts.specs.declared.kinds.Class.TheVariants.{Bdepend, Depend, Idepend, Pdepend, Rdepend, Required}
use Rattle.gv_facts.specs.declared.pkg.Pkg.{Pkg}
use Rattle.gv_plain.specs.Cases.{Member, members_from}
use Rattle.gv_renew.specs.Renewal.{mentions}
use Rattle.gv_renew.specs.Touched.{AreTouched, IsFound, IsIn, IsSoFar, IsTouched, member_at, mentions_at, pkg_at}
use Rattle.gv_renew.specs.declared.touched.Touched.{Touched}
use Rattle.gv_plain.specs.Lists.{drop_here}

-- of one package
class_found : (paths : List (List ℕ)) (m : Member) (t : Touched) → IsFound paths m t → (class : Class) → mentions_at t class ≡ mentions paths m.body class
class_found paths m t f Required = refl
class_found paths m t f Depend = f.depend_is
class_found paths m t f Bdepend = f.bdepend_is
class_found paths m t f Rdepend = f.rdepend_is
class_found paths m t f Pdepend = f.pdepend_is
class_found paths m t f Idepend = f.idepend_is

touched_is : (paths : List (List ℕ)) (m : Member) (t : Touched) → IsFound paths m t → IsTouched paths t
touched_is paths m t f = record {
  edited_is = rw f.pkg_is f.edited_is;
  mentions_are = λ class. rw f.body_is (class_found paths m t f class);
}

member_is : (paths : List (List ℕ)) (m : Member) (t : Touched) → IsFound paths m t → member_at t ≡ m
member_is paths m t f = rw (f.number_is, f.pkg_is, f.body_is) refl

in_is : (pkgs : List Pkg) (bodies : List Body) (paths : List (List ℕ)) (m : Member) (t : Touched) → IsFound paths m t → slice_get pkgs m.number ≡ Some m.pkg → slice_get bodies m.number ≡ Some m.body → IsIn pkgs bodies t
in_is pkgs bodies paths m t f p b = record { pkg_is = rw (f.number_is, f.pkg_is) p; body_is = rw (f.number_is, f.body_is) b }

-- one more
all_end : {X : Type 0} (P : X → Type 0) (xs : List X) (x : X) → AllByRecursion P xs → P x → AllByRecursion P (xs ++ x ∷ [])
all_end P [] x all p = (p, tt)
all_end P (y ∷ ys) x all p = (all.0, all_end P ys x all.1 p)

map_end : {A B : Type 0} (f : A → B) (xs : List A) (x : A) → map f (xs ++ x ∷ []) ≡ map f xs ++ f x ∷ []
map_end f [] x = refl
map_end f (y ∷ ys) x = ap (λ l. f y ∷ l) (map_end f ys x)

none_from : (n : ℕ) (pkgs : List Pkg) → members_from n pkgs [] ≡ []
none_from n [] = refl
none_from n (p ∷ ps) = refl

module _ (paths : List (List ℕ)) (pkgs : List Pkg) (bodies : List Body) where
  pub so_far_next : (ts : List Touched) (i n : ℕ) (pkg : Pkg) (body : Body) (t : Touched) → i < length pkgs → i < length bodies → pkg ≡ get_or pkgs i pkg → body ≡ get_or bodies i body → n ≡ i
      → IsFound paths (record { number = n; pkg = pkg; body = body }) t
      → IsSoFar paths pkgs bodies (members_from i (drop i pkgs) (drop i bodies)) ts
      → IsSoFar paths pkgs bodies (members_from (i + 1) (drop (i + 1) pkgs) (drop (i + 1) bodies)) (ts ++ t ∷ [])
  so_far_next ts i n pkg body t lp lb here body_here e f far = record {
    members_are = ap (λ l. l ++ rest) (map_end member_at ts t)
        ∙ (append_assoc (map member_at ts) (member_at t ∷ []) rest
        ∙ (ap (λ m. map member_at ts ++ m ∷ rest) (member_is paths (record { number = n; pkg = pkg; body = body }) t f ∙ ap (λ k. record { number = k; pkg = pkg; body = body }) e)
        ∙ (ap (λ l. map member_at ts ++ l) (sym unfolded) ∙ far.members_are)));
    numbered = all_end (IsIn pkgs bodies) ts t far.numbered (in_is pkgs bodies paths (record { number = n; pkg = pkg; body = body }) t f
        (ap (slice_get pkgs) e ∙ (slice_get-get_or pkgs i pkg lp ∙ ap Some (sym here))) (ap (slice_get bodies) e ∙ (slice_get-get_or bodies i body lb ∙ ap Some (sym body_here))));
    each = all_end (IsTouched paths) ts t far.each (touched_is paths (record { number = n; pkg = pkg; body = body }) t f);
  }
    where
      rest : List Member
      rest = members_from (i + 1) (drop (i + 1) pkgs) (drop (i + 1) bodies)

      unfolded : members_from i (drop i pkgs) (drop i bodies) ≡ record { number = i; pkg = pkg; body = body } ∷ rest
      unfolded = ap (λ ps. members_from i ps (drop i bodies)) (drop_here pkgs pkg i lp here) ∙ ap (λ bs. members_from i (pkg ∷ drop (i + 1) pkgs) bs) (drop_here bodies body i lb body_here)

  so_far_all : (ts : List Touched) (i : ℕ) → members_from i (drop i pkgs) (drop i bodies) ≡ []
      → IsSoFar paths pkgs bodies (members_from i (drop i pkgs) (drop i bodies)) ts → AreTouched paths pkgs bodies ts
  so_far_all ts i none far = record {
    members_are = sym (append-nil (map member_at ts)) ∙ (ap (λ l. map member_at ts ++ l) (sym none) ∙ far.members_are);
    numbered = far.numbered;
    each = far.each;
  }

  pub so_far_end : (ts : List Touched) (i : ℕ) → length pkgs ≤ i
      → IsSoFar paths pkgs bodies (members_from i (drop i pkgs) (drop i bodies)) ts → AreTouched paths pkgs bodies ts
  so_far_end ts i le far = so_far_all ts i (ap (λ ps. members_from i ps (drop i bodies)) (drop_of_length-le pkgs le)) far

  pub so_far_bodies_end : (ts : List Touched) (i : ℕ) → length bodies ≤ i
      → IsSoFar paths pkgs bodies (members_from i (drop i pkgs) (drop i bodies)) ts → AreTouched paths pkgs bodies ts
  so_far_bodies_end ts i le far = so_far_all ts i (ap (λ bs. members_from i (drop i pkgs) bs) (drop_of_length-le bodies le) ∙ none_from i (drop i pkgs)) far

-- what is made of each item, one after another
module _ {A B : Type 0} (f : A → List B) (xs : List A) (i : ℕ) (old whole : List B) (on : old ++ flat_map f (drop i xs) ≡ whole) where
  pub flat_next : (x : A) → i < length xs → x ≡ get_or xs i x → (new : List B) → new ≡ old ++ f x → new ++ flat_map f (drop (i + 1) xs) ≡ whole
  flat_next x lt here new e =
      ap (λ l. l ++ flat_map f (drop (i + 1) xs)) e
      ∙ (append_assoc old (f x) (flat_map f (drop (i + 1) xs))
      ∙ (ap (λ l. old ++ flat_map f l) (sym (drop_here xs x i lt here)) ∙ on))

  pub flat_end : length xs ≤ i → old ≡ whole
  flat_end le = sym (append-nil old) ∙ (ap (λ l. old ++ flat_map f l) (sym (drop_of_length-le xs le)) ∙ on)

-- with a body each they are the packages
all_pkgs : (n : ℕ) (pkgs : List Pkg) (bodies : List Body) → length bodies ≡ length pkgs → map (λ (m : Member). m.pkg) (members_from n pkgs bodies) ≡ pkgs
all_pkgs n [] bodies e = refl
all_pkgs n (p ∷ ps) [] e = absurd (omega (arith, e))
all_pkgs n (p ∷ ps) (b ∷ bs) e = ap (λ l. p ∷ l) (all_pkgs (n + 1) ps bs (omega (arith, e)))

pkgs_at : (ts : List Touched) → map pkg_at ts ≡ map (λ (m : Member). m.pkg) (map member_at ts)
pkgs_at [] = refl
pkgs_at (t ∷ ts) = ap (λ l. t.pkg.now ∷ l) (pkgs_at ts)

pub pkgs_are : (paths : List (List ℕ)) (pkgs : List Pkg) (bodies : List Body) (ts : List Touched) → length bodies ≡ length pkgs → AreTouched paths pkgs bodies ts → pkgs ≡ map pkg_at ts
pkgs_are paths pkgs bodies ts e are = sym (pkgs_at ts ∙ (ap (map (λ (m : Member). m.pkg)) are.members_are ∙ all_pkgs 0 pkgs bodies e))
