-- Keys as the code makes them are those of the definition.
use Rattle.std.proofs.Common.{◌≡◌, ℕ, zero, suc, ◌+◌, ◌<◌, ◌≤◌, Bool, true, false, ◌&&◌, cond, List, [], ◌∷◌, ◌++◌, length, filter, map, drop, drop-cons, get_or, add-one, append-nil, refl, sym, ap, subst, ◌∙◌, None, Some, append_assoc, length-append, arith}
use Rattle.std.specs.Prelude.{Option, Result, Ok, Err, OnErr, OnOk, flat_map, if◌then◌else◌, slice_get}
use Rattle.std.specs.List.{AllByRecursion}
use Rattle.std.specs.Option.{option_map_or}
use Rattle.std.specs.Result.{IsErr}
use Rattle.std.specs.Str.{bytes_eq}
use Rattle.std.proofs.Math.ListN.{drop_of_length-le}
use Rattle.std.proofs.Math.Path.{fun_ext}
use Rattle.std.proofs.lemmas.Bool.{false≢true}
use Rattle.gv_atom.specs.declared.atom.Atom.{Atom}
use Rattle.gv_atom.specs.declared.items.UseItem.{UseItem}
use Rattle.gv_expr.specs.Dep.{Dep, deps}
use Rattle.gv_expr.specs.Mentions.{dep_mentions, req_mentions, wanted_atoms}
use Rattle.gv_expr.specs.Required.{Req, reqs}
use Rattle.gv_facts.specs.Places.{is_pkg_of, places_from, places_of}
use Rattle.gv_facts.specs.States.{state}
use Rattle.gv_facts.specs.Visible.{matches_pkg, visible}
use Rattle.gv_facts.specs.declared.kinds.FlagState.{FlagState}
use Rattle.gv_facts.specs.declared.kinds.Level.{Level}
use Rattle.gv_facts.specs.declared.pkg.Pkg.{Pkg}
use Rattle.gv_facts.specs.declared.profile.Profile.{Profile}
use Rattle.gv_entry.specs.Allowed.{Parent}
use Rattle.gv_usestate.specs.Kinds.{IsKind, IsOneOf, flag_kind}
use Rattle.gv_lower.specs.Around.{alone}
use Rattle.gv_lower.specs.Keys.{atom_key, candidate_key, class_key, flags_key, other_key, own_key, required_key}
use Rattle.gv_lower.specs.KeysAround.{Begins, AreKnown, IsKnownAt, found_key, own_keys, place_key, site_key}
use Rattle.gv_lower.specs.Sites.{KnownFlag, PlaceSite, known_at, known_of, place_site, site_of}
use Rattle.gv_visible.specs.NamedPkgs.{matches_at}
use Rattle.gv_lower.proofs.SameAtoms.{append_more}

map-map : {A B C : Type 0} (g : B → C) (f : A → B) (xs : List A) → map g (map f xs) ≡ map (λ x. g (f x)) xs
map-map g f [] = refl
map-map g f (x ∷ xs) = ap (λ ys. g (f x) ∷ ys) (map-map g f xs)

-- What stands at the places of the items that pass a test.
module _ {X : Type 0} (test : X → Bool) where
  at_length : (front : List X) (x : X) (xs : List X) → slice_get (front ++ x ∷ xs) (length front) ≡ Some x
  at_length [] x xs = refl
  at_length (y ∷ front) x xs = at_length front x xs

  items_from : (front xs : List X) → map (slice_get (front ++ xs)) (places_from (length front) test xs) ≡ map Some (filter test xs)
  items_from front [] = refl
  items_from front (x ∷ xs) = by (test x) (at_length front x xs) (shifted (items_from (front ++ x ∷ []) xs))
    where
      shifted : map (slice_get ((front ++ x ∷ []) ++ xs)) (places_from (length (front ++ x ∷ [])) test xs) ≡ map Some (filter test xs)
          → map (slice_get (front ++ x ∷ xs)) (places_from (length front + 1) test xs) ≡ map Some (filter test xs)
      shifted h =
          let whole : (front ++ x ∷ []) ++ xs ≡ front ++ x ∷ xs = append_assoc front (x ∷ []) xs in
          let one_more : length (front ++ x ∷ []) ≡ length front + 1 = omega (arith, length-append front (x ∷ [])) in
          rw (whole, one_more) at h

      by : (b : Bool) → slice_get (front ++ x ∷ xs) (length front) ≡ Some x
          → map (slice_get (front ++ x ∷ xs)) (places_from (length front + 1) test xs) ≡ map Some (filter test xs)
          → map (slice_get (front ++ x ∷ xs)) (if b then length front ∷ places_from (length front + 1) test xs else places_from (length front + 1) test xs)
          ≡ map Some (cond b (x ∷ filter test xs) (filter test xs))
      by true here h = rw (here, h) refl
      by false here h = h

-- numbers that are found at places, of those at which a test holds
flat_map-map : {A B : Type 0} (k : B → List ℕ) (f : A → B) (xs : List A) → flat_map k (map f xs) ≡ flat_map (λ x. k (f x)) xs
flat_map-map k f [] = refl
flat_map-map k f (x ∷ xs) = ap (λ ks. k (f x) ++ ks) (flat_map-map k f xs)

filter-map : {A B : Type 0} (test : B → Bool) (f : A → B) (xs : List A) → filter test (map f xs) ≡ map f (filter (λ x. test (f x)) xs)
filter-map test f [] = refl
filter-map test f (x ∷ xs) = by (test (f x)) (filter-map test f xs)
  where
    by : (b : Bool) → filter test (map f xs) ≡ map f (filter (λ x. test (f x)) xs)
        → cond b (f x ∷ filter test (map f xs)) (filter test (map f xs)) ≡ map f (cond b (x ∷ filter (λ x. test (f x)) xs) (filter (λ x. test (f x)) xs))
    by true h = ap (λ ys. f x ∷ ys) h
    by false h = h

-- the packages that match are among those of the atom's name, and those that are visible count
module _ (c : Parent) (a : Atom) where
  named : (p : Pkg) → matches_pkg a p ≡ true → is_pkg_of a.category a.name p ≡ true
  named p = front_two (bytes_eq a.category p.category) (bytes_eq a.name p.name) _
    where
      front_two : (x y z : Bool) → (x && (y && z)) ≡ true → (x && y) ≡ true
      front_two true true z h = refl
      front_two true false z h = h
      front_two false y z h = h

  -- of a package that the atom matches, where it is visible
  abbrev pkg_key : Profile → Level → List UseItem → Pkg → List ℕ
  pkg_key profile level items p = if visible p profile level then candidate_key (state p profile level) items else []

  abbrev item_key : Profile → Level → List UseItem → Option Pkg → List ℕ
  item_key profile level items None = []
  item_key profile level items (Some p) = pkg_key profile level items p

  abbrev key : Pkg → List ℕ
  key p = candidate_key (state p c.profile c.level) a.items

  shown : (ps : List Pkg) → flat_map (pkg_key c.profile c.level a.items) (filter (matches_pkg a) (filter (is_pkg_of a.category a.name) ps))
      ≡ flat_map key (filter (λ p. visible p c.profile c.level && matches_pkg a p) ps)
  shown [] = refl
  shown (p ∷ ps) = by (is_pkg_of a.category a.name p) (matches_pkg a p) refl (named p) (visible p c.profile c.level) refl (shown ps)
    where
      rest : List Pkg
      rest = filter (is_pkg_of a.category a.name) ps

      others : List Pkg
      others = filter (λ p. visible p c.profile c.level && matches_pkg a p) ps

      by : (n m : Bool) → matches_pkg a p ≡ m → (m ≡ true → n ≡ true) → (v : Bool) → visible p c.profile c.level ≡ v
          → flat_map (pkg_key c.profile c.level a.items) (filter (matches_pkg a) rest) ≡ flat_map key others
          → flat_map (pkg_key c.profile c.level a.items) (filter (matches_pkg a) (cond n (p ∷ rest) rest)) ≡ flat_map key (cond (v && m) (p ∷ others) others)
      by true true is i true seen h = rw (is, seen) (ap (λ ks. key p ++ ks) h)
      by true true is i false seen h = rw (is, seen) h
      by true false is i true seen h = rw is h
      by true false is i false seen h = rw is h
      by false true is i v seen h = absurd (false≢true (i refl))
      by false false is i true seen h = h
      by false false is i false seen h = h

  abbrev found : Option Pkg → Bool
  found o = option_map_or (matches_pkg a) o false

  abbrev placed : List ℕ
  placed = filter (matches_at a c.among) (places_of (is_pkg_of a.category a.name) c.among)

  matched : map (slice_get c.among) placed ≡ map Some (filter (matches_pkg a) (filter (is_pkg_of a.category a.name) c.among))
  matched =
      sym (filter-map found (slice_get c.among) (places_of (is_pkg_of a.category a.name) c.among))
      ∙ (ap (filter found) (items_from (is_pkg_of a.category a.name) [] c.among)
      ∙ filter-map found Some (filter (is_pkg_of a.category a.name) c.among))

  -- what is known of flags makes no difference to their key
  found_same : (profiles : List Profile) (o : Option Pkg) → found_key c.profile c.level (known_at profiles a.items o) o ≡ item_key c.profile c.level a.items o
  found_same profiles None = refl
  found_same profiles (Some p) = ap (λ ks. if visible p c.profile c.level then 1 ∷ ks else []) (map-map (λ (k : KnownFlag). other_key (state p c.profile c.level k.flag)) (λ (i : UseItem). known_of profiles p i.flag) a.items)

  site_same : (profiles : List Profile) → site_key c.profile c.level c.among (site_of profiles c.among a) ≡ atom_key c a
  site_same profiles =
      ap (λ ks. ks ++ 0 ∷ []) (flat_map-map (place_key c.profile c.level c.among) (place_site profiles c.among a.items) placed
      ∙ (ap (λ k. flat_map (λ place. k (slice_get c.among place)) placed) (fun_ext (found_same profiles))
      ∙ (sym (flat_map-map (item_key c.profile c.level a.items) (slice_get c.among) placed)
      ∙ (ap (flat_map (item_key c.profile c.level a.items)) matched
      ∙ (flat_map-map (item_key c.profile c.level a.items) Some (filter (matches_pkg a) (filter (is_pkg_of a.category a.name) c.among))
      ∙ shown c.among)))))

-- What is known of flags holds in each of the profiles.
abbrev KindLaw : Type 0
KindLaw = (profiles : List Profile) (profile : Profile) (p : Pkg) (flag : List ℕ) → IsOneOf profiles profile → IsKind profile p flag (flag_kind profiles p flag)

all_made : {A B : Type 0} (P : B → Type 0) (f : A → B) → ((x : A) → P (f x)) → (xs : List A) → AllByRecursion P (map f xs)
all_made P f each [] = tt
all_made P f each (x ∷ xs) = (each x, all_made P f each xs)

module _ (law : KindLaw) (profiles : List Profile) (profile : Profile) (one : IsOneOf profiles profile) where
  own_known : (p : Pkg) (flags : List (List ℕ)) → AreKnown profile p (map (known_of profiles p) flags)
  own_known p flags = all_made (λ k. IsKind profile p k.flag k.kind) (known_of profiles p) (λ flag. law profiles profile p flag one) flags

  place_known : (pkgs : List Pkg) (items : List UseItem) (place : ℕ) → IsKnownAt profile pkgs (place_site profiles pkgs items place)
  place_known pkgs items place p there =
      subst (λ o. AreKnown profile p (known_at profiles items o)) (sym there) (all_made (λ k. IsKind profile p k.flag k.kind) (λ (i : UseItem). known_of profiles p i.flag) (λ i. law profiles profile p i.flag one) items)

  sites_known : (pkgs : List Pkg) (atoms : List Atom) → AllByRecursion (AllByRecursion (IsKnownAt profile pkgs)) (map (site_of profiles pkgs) atoms)
  sites_known pkgs atoms = all_made (AllByRecursion (IsKnownAt profile pkgs)) (site_of profiles pkgs)
      (λ atom. all_made (IsKnownAt profile pkgs) (place_site profiles pkgs atom.items) (place_known pkgs atom.items) (filter (matches_at atom pkgs) (places_of (is_pkg_of atom.category atom.name) pkgs))) atoms

  pub flags_are_known : (p : Pkg) (names : List (List ℕ)) (flags : List KnownFlag) (q : Pkg) → flags ≡ map (known_of profiles p) names → q ≡ p → AreKnown profile q flags
  flags_are_known p names flags q made same = rw (made, same) (own_known p names)

  pub sites_are_known : (pkgs : List Pkg) (atoms : List Atom) (sites : List (List PlaceSite)) (among : List Pkg) → sites ≡ map (site_of profiles pkgs) atoms → among ≡ pkgs → AllByRecursion (AllByRecursion (IsKnownAt profile among)) sites
  sites_are_known pkgs atoms sites among made same = rw (made, same) (sites_known pkgs atoms)

pub on_ok : {T E P Q : Type 0} (r : Result T E) → (P → Q) → OnOk r P → OnOk r Q
on_ok (Ok x) f h = f h
on_ok (Err x) f h = tt

-- what stands at a place of a list of which all are so
pub known_here : {A : Type 0} (P : A → Type 0) (xs : List A) (i : ℕ) (x : A) → AllByRecursion P xs → i < length xs → x ≡ get_or xs i x → P x
known_here P [] i x all lt is = absurd (nothing_less i lt)
  where
    nothing_less : (n : ℕ) → n < 0 → ⊥
    nothing_less n h = omega (arith, h)
known_here P (y ∷ ys) zero x all lt is = subst P (sym is) all.0
known_here P (y ∷ ys) (suc i) x all lt is = known_here P ys i x all.1 (omega (arith, lt)) is

own_same : (profiles : List Profile) (c : Parent) (names : List (List ℕ)) → own_keys (state c.pkg c.profile c.level) (map (known_of profiles c.pkg) names) ≡ flags_key c names
own_same profiles c names = map-map (λ (k : KnownFlag). own_key (state c.pkg c.profile c.level k.flag)) (known_of profiles c.pkg) names

pub required_made : (profiles : List Profile) (p : Pkg) (profile : Profile) (level : Level) (required : List Req) (flags : List KnownFlag) (q : Pkg) (old new : List ℕ)
    → flags ≡ map (known_of profiles p) (req_mentions (reqs required)) → q ≡ p → new ≡ old ++ own_keys (state q profile level) flags → new ≡ old ++ required_key (alone p profile level) required
required_made profiles p profile level required flags q old new made same more =
    more ∙ (ap (λ x. old ++ own_keys (state x profile level) flags) same
    ∙ (ap (λ ks. old ++ own_keys (state p profile level) ks) made ∙ ap (λ ks. old ++ ks) (own_same profiles (alone p profile level) (req_mentions (reqs required)))))

pub class_made : (c : Parent) (profiles : List Profile) (class : List Dep) (q : Pkg) (profile : Profile) (pkgs : List Pkg) (flags : List KnownFlag) (sites : List (List PlaceSite)) (old mid new : List ℕ)
    → flags ≡ map (known_of profiles c.pkg) (dep_mentions (deps class)) → sites ≡ map (site_of profiles c.among) (wanted_atoms (deps class)) → q ≡ c.pkg → profile ≡ c.profile → pkgs ≡ c.among
    → mid ≡ old ++ own_keys (state q profile c.level) flags → new ≡ mid ++ flat_map (site_key profile c.level pkgs) sites → new ≡ old ++ class_key c class
class_made c profiles class q profile pkgs flags sites old mid new own others same at among front back =
    back
    ∙ (ap (λ m. m ++ flat_map (site_key profile c.level pkgs) sites) front
    ∙ (append_more old (own_keys (state q profile c.level) flags) (flat_map (site_key profile c.level pkgs) sites)
    ∙ (ap (λ x. old ++ (own_keys (state x profile c.level) flags ++ flat_map (site_key profile c.level pkgs) sites)) same
    ∙ (ap (λ x. old ++ (own_keys (state c.pkg x c.level) flags ++ flat_map (site_key x c.level pkgs) sites)) at
    ∙ (ap (λ x. old ++ (own_keys (state c.pkg c.profile c.level) flags ++ flat_map (site_key c.profile c.level x) sites)) among
    ∙ (ap (λ x. old ++ (own_keys (state c.pkg c.profile c.level) x ++ flat_map (site_key c.profile c.level c.among) sites)) own
    ∙ (ap (λ x. old ++ (own_keys (state c.pkg c.profile c.level) (map (known_of profiles c.pkg) (dep_mentions (deps class))) ++ flat_map (site_key c.profile c.level c.among) x)) others
    ∙ (ap (λ x. old ++ (x ++ flat_map (site_key c.profile c.level c.among) (map (site_of profiles c.among) (wanted_atoms (deps class))))) (own_same profiles c (dep_mentions (deps class)))
    ∙ ap (λ x. old ++ (flags_key c (dep_mentions (deps class)) ++ x))
    (flat_map-map (site_key c.profile c.level c.among) (site_of profiles c.among) (wanted_atoms (deps class))
    ∙ ap (λ k. flat_map k (wanted_atoms (deps class))) (fun_ext (λ a. site_same c a profiles)))))))))))

-- bytes that begin with those that begin with others
pub begins_behind : {T E : Type 0} (r : Result T E) (a b c : List ℕ) → Begins a b → Begins b c → OnErr r (Begins a c)
begins_behind (Ok x) a b c first second = tt
begins_behind (Err e) a b c first second = (first.0 ++ second.0, second.1 ∙ ap (λ k. k ++ second.0) first.1 ∙ append_assoc a first.0 second.0)

pub begins_more : (a b c d : List ℕ) → Begins a b → c ≡ b ++ d → Begins a c
begins_more a b c d first is = (first.0 ++ d, is ∙ ap (λ k. k ++ d) first.1 ∙ append_assoc a first.0 d)

-- Keys of a list so far, and of what is left: one more, and none left.
module _ {A : Type 0} (key : A → List ℕ) (xs ys : List A) (i : ℕ) (same : ys ≡ xs) where
  pub keys_next : (x : A) (now next end : List ℕ) → i < length ys → x ≡ get_or ys i x → now ++ flat_map key (drop i xs) ≡ end → next ≡ now ++ key x → next ++ flat_map key (drop (i + 1) xs) ≡ end
  keys_next x now next end lt here left is =
      let at : drop i xs ≡ x ∷ drop (i + 1) xs = ap (drop i) (sym same) ∙ (rw add-one (drop-cons ys i x lt ∙ ap (λ y. y ∷ drop (suc i) ys) (sym here)) ∙ ap (λ zs. x ∷ drop (i + 1) zs) same) in
      ap (λ ks. ks ++ flat_map key (drop (i + 1) xs)) is ∙ (append_assoc now (key x) (flat_map key (drop (i + 1) xs)) ∙ (ap (λ zs. now ++ flat_map key zs) (sym at) ∙ left))

  pub keys_end : (now end : List ℕ) → length ys ≤ i → now ++ flat_map key (drop i xs) ≡ end → now ≡ end
  keys_end now end le left = sym (append-nil now) ∙ (ap (λ zs. now ++ flat_map key zs) (sym (ap (drop i) (sym same) ∙ drop_of_length-le ys le)) ∙ left)

  pub keys_closed : (start now next mark : List ℕ) → length ys ≤ i → now ++ flat_map key (drop i xs) ≡ start ++ flat_map key xs → next ≡ now ++ mark → next ≡ start ++ (flat_map key xs ++ mark)
  keys_closed start now next mark le left is = is ∙ (ap (λ k. k ++ mark) (keys_end now (start ++ flat_map key xs) le left) ∙ append_assoc start (flat_map key xs) mark)

-- one more of a package's states
pub states_next : (code : FlagState → ℕ) (p q : Pkg) (profile : Profile) (level l : Level) (flags : List KnownFlag) (i : ℕ) (k m : KnownFlag) (now next end : List ℕ) (found : FlagState) (byte : ℕ)
    → i < length flags → k ≡ get_or flags i k → m ≡ k → q ≡ p → l ≡ level → found ≡ state q profile l m.flag → byte ≡ code found → next ≡ now ++ byte ∷ []
    → now ++ map (λ f. code (state p profile level f.flag)) (drop i flags) ≡ end → next ++ map (λ f. code (state p profile level f.flag)) (drop (i + 1) flags) ≡ end
states_next code p q profile level l flags i k m now next end found byte lt here seen pkg at state_is byte_is is left =
    let split : drop i flags ≡ k ∷ drop (i + 1) flags = rw add-one (drop-cons flags i k lt ∙ ap (λ y. y ∷ drop (suc i) flags) (sym here)) in
    let code_is : byte ≡ code (state p profile level k.flag) = byte_is ∙ ap code (state_is ∙ (ap (λ x. state x profile l m.flag) pkg ∙ (ap (λ x. state p profile x m.flag) at ∙ ap (λ f. state p profile level f.flag) seen))) in
    ap (λ ks. ks ++ map (λ f. code (state p profile level f.flag)) (drop (i + 1) flags)) (is ∙ ap (λ b. now ++ b ∷ []) code_is)
    ∙ (append_assoc now (code (state p profile level k.flag) ∷ []) (map (λ f. code (state p profile level f.flag)) (drop (i + 1) flags)) ∙ (ap (λ fs. now ++ map (λ f. code (state p profile level f.flag)) fs) (sym split) ∙ left))

pub no_ok : {T E : Type 0} (P : Type 0) (r : Result T E) → IsErr r → OnOk r P
no_ok P (Ok x) is = absurd (false≢true is)
no_ok P (Err e) is = tt

pub on_err : {T E P : Type 0} (r : Result T E) → P → OnErr r P
on_err (Ok x) p = tt
on_err (Err e) p = p

-- and none left
pub states_end : {A : Type 0} (key : A → ℕ) (flags : List A) (i : ℕ) (now end : List ℕ) → length flags ≤ i → now ++ map key (drop i flags) ≡ end → now ≡ end
states_end key flags i now end le left = sym (append-nil now) ∙ (ap (λ fs. now ++ map key fs) (sym (drop_of_length-le flags le)) ∙ left)
