-- Queries that are kept are those of every context with their keys.
use Rattle.std.proofs.Common.{◌≡◌, ◌⊎◌, inl, inr, ℕ, zero, suc, ◌<◌, ◌≤◌, List, [], ◌∷◌, ◌++◌, length, refl, sym, ap, subst, ◌∙◌, Option, Some, None, get_or, arith}
use Rattle.std.specs.Prelude.{slice_get, slice_set, Result, Ok, Err, OnOk, unwrap_or}
use Rattle.std.specs.List.{AllByRecursion}
use Rattle.std.proofs.lemmas.Option.{slice_get-get_or}
use Rattle.gv_cert.specs.Known.{HasQuery, KnownRecord}
use Rattle.gv_entry.specs.Allowed.{Parent}
use Rattle.gv_entry.specs.Queries.{class_in}
use Rattle.gv_entry.specs.declared.entry.Body.{Body}
use Rattle.gv_expr.specs.Dep.{Dep}
use Rattle.gv_expr.specs.Required.{Req}
use Rattle.gv_facts.specs.declared.kinds.Class.{Class}
use Rattle.gv_facts.specs.declared.pkg.Pkg.{Pkg}
use Rattle.gv_facts.specs.declared.profile.Profile.{Profile}
use Rattle.gv_logic.specs.Bytes.{circuit_bytes}
use Rattle.gv_lower.specs.Keys.{HaveSameAllowed, HaveSameFailing, query_key, required_key}
use Rattle.gv_lower.specs.Lowering.{IsQuery}
use Rattle.gv_lower.specs.declared.query.Query as lowered
use Rattle.gv_checks.specs.Asked.{asked_flags, asked_gates, asked_items, asked_preferred, asked_weight}
use Rattle.gv_checks.specs.Alike.{first_at}
use Rattle.gv_plain.specs.Cases.{Case}
use Rattle.gv_plain.specs.Context.{case_of}
use Rattle.gv_checks.specs.Keys.{ArePartsOf}
use Rattle.gv_checks.specs.Limits.{IsWithin}
use Rattle.gv_checks.specs.Progress.{Grows}
use Rattle.gv_checks.specs.Queries.{Query, class_of, flags_of, gates_bytes, gates_of, items_of, preferred_of, query_of, required_of, weight_of}
use Rattle.gv_checks.specs.Shared.{AreHere, AreKept, AreNoted, ArePlaced, AreReady, AreShared, IsAnsweredAt, IsKeptAs, IsLoweredAs, IsNoted, IsShared, IsSharedAt, Keeps, asked_key, key_of}
use Rattle.gv_plain.specs.declared.context.JudgedPkg.{JudgedPkg}
use Rattle.gv_checks.specs.declared.keys.PkgSites.{PkgSites}
use Rattle.gv_checks.specs.declared.shared.Placed.{Placed}
use Rattle.gv_checks.specs.declared.shared.Shared.{Shared}
use Rattle.gv_checks.specs.declared.shared.SharedQuery.{SharedQuery}

-- What equal keys tell.
pub record KeyLaws : Type 0 where
  pub allowed : (c d : Parent) (required : List Req) → c.pkg.eapi ≡ d.pkg.eapi → c.pkg.iuse_plus ≡ d.pkg.iuse_plus → required_key c required ≡ required_key d required → HaveSameAllowed c d required
  pub failing : (c d : Parent) (required : List Req) (class : List Dep) → c.pkg.eapi ≡ d.pkg.eapi → c.pkg.iuse_plus ≡ d.pkg.iuse_plus → query_key c required class ≡ query_key d required class → HaveSameFailing c d required class

record HaveSame (c d : Parent) (required : List Req) (class : Option (List Dep)) : Type 0 where
  pub flags : asked_flags c required class ≡ asked_flags d required class
  pub gates : asked_gates c required class ≡ asked_gates d required class
  pub items : asked_items c required class ≡ asked_items d required class
  pub values : asked_preferred c required class ≡ asked_preferred d required class
  pub weight : asked_weight c required class ≡ asked_weight d required class

have_same : KeyLaws → (c d : Parent) (required : List Req) (class : Option (List Dep)) → c.pkg.eapi ≡ d.pkg.eapi → c.pkg.iuse_plus ≡ d.pkg.iuse_plus → asked_key c required class ≡ asked_key d required class → HaveSame c d required class
have_same laws c d required None eapi plus e =
    let same = laws.allowed c d required eapi plus e in
    record { flags = same.flags; gates = same.gates; items = refl; values = same.values; weight = same.weight }
have_same laws c d required (Some class) eapi plus e =
    let same = laws.failing c d required class eapi plus e in
    record { flags = same.flags; gates = same.gates; items = same.items; values = same.values; weight = same.weight }

-- a kept query is that of a context with its key
as_lowered : KeyLaws → (q : Query) (e : SharedQuery) → IsShared q.case.parent.pkg q.case.member.body e → class_in q.case.member.body e.class ≡ class_of q → e.key ≡ key_of q → IsLoweredAs q e
as_lowered laws q e s is key = record {
  within = record { flags = subst (λ n. n ≤ 4096) (ap length flags) s.few; weight = subst (λ n. n ≤ 2000000) weight s.light };
  query_is = record { gates = s.query_is.gates ∙ gates; flags = s.query_is.flags ∙ flags; items = s.query_is.items ∙ items; preferred = s.query_is.preferred ∙ values };
  bytes_are = s.bytes_are ∙ ap circuit_bytes gates;
}
  where
    same : HaveSame s.parent q.case.parent (required_of q) (class_of q)
    same = have_same laws s.parent q.case.parent (required_of q) (class_of q) (ap (λ p. p.eapi) s.pkg_is) (ap (λ p. p.iuse_plus) s.pkg_is) (ap (asked_key s.parent (required_of q)) (sym is) ∙ (sym s.key_is ∙ key))

    flags : asked_flags s.parent (required_of q) (class_in q.case.member.body e.class) ≡ flags_of q
    flags = ap (asked_flags s.parent (required_of q)) is ∙ same.flags

    gates : asked_gates s.parent (required_of q) (class_in q.case.member.body e.class) ≡ gates_of q
    gates = ap (asked_gates s.parent (required_of q)) is ∙ same.gates

    items : asked_items s.parent (required_of q) (class_in q.case.member.body e.class) ≡ items_of q
    items = ap (asked_items s.parent (required_of q)) is ∙ same.items

    values : asked_preferred s.parent (required_of q) (class_in q.case.member.body e.class) ≡ preferred_of q
    values = ap (asked_preferred s.parent (required_of q)) is ∙ same.values

    weight : asked_weight s.parent (required_of q) (class_in q.case.member.body e.class) ≡ weight_of q
    weight = ap (asked_weight s.parent (required_of q)) is ∙ same.weight

-- what stands at a place of the list
pub kept_at : (es : List SharedQuery) (class : Class) (key : List ℕ) (i : ℕ) (kept : SharedQuery) → i < length es → kept ≡ get_or es i kept → kept.class ≡ class → kept.key ≡ key → IsKeptAs class key es i
kept_at es class key i kept lt here c k =
    (lt, λ e there. let same = it e there in (ap (λ (x : SharedQuery). x.class) same ∙ c, ap (λ (x : SharedQuery). x.key) same ∙ k))
  where
    it : (e : SharedQuery) → slice_get es i ≡ Some e → e ≡ kept
    it e there = one e kept (sym there ∙ (slice_get-get_or es i kept lt ∙ ap Some (sym here)))
      where
        one : (a b : SharedQuery) → Some a ≡ Some b → a ≡ b
        one a b h = cc

all_at : {X : Type 0} (P : X → Type 0) (xs : List X) (n : ℕ) (x : X) → AllByRecursion P xs → slice_get xs n ≡ Some x → P x
all_at P [] n x all there = cc
all_at P (y ∷ ys) zero x all there = subst P (the_same y x there) all.0
  where
    the_same : {X : Type 0} (a b : X) → Some a ≡ Some b → a ≡ b
    the_same a b h = cc
all_at P (y ∷ ys) (suc n) x all there = all_at P ys n x all.1 there

-- one that was found by its key, of a class with the same expression
pub found_at : KeyLaws → (q : Query) (first : Class) (es : List SharedQuery) (key : List ℕ) (n : ℕ) → class_in q.case.member.body first ≡ class_of q → AreShared q.case.parent.pkg q.case.member.body es → key ≡ key_of q
    → IsKeptAs first key es n → IsSharedAt q es n
found_at laws q first es key n same all is kept =
    (kept.0, λ e there. as_lowered laws q e (all_at (IsShared q.case.parent.pkg q.case.member.body) es n e all there) (ap (class_in q.case.member.body) (kept.1 e there).0 ∙ same) ((kept.1 e there).1 ∙ is))

-- the queries of classes with the same expression are one in a context
as_class : (c : Case) (a b : Class) (e : SharedQuery) → class_in c.member.body a ≡ class_in c.member.body b → IsLoweredAs (query_of c a) e → IsLoweredAs (query_of c b) e
as_class c a b e same lowered = record {
  within = record {
    flags = subst (λ d. length (asked_flags c.parent required d) ≤ 4096) same lowered.within.flags;
    weight = subst (λ d. asked_weight c.parent required d ≤ 2000000) same lowered.within.weight;
  };
  query_is = subst (λ d. IsQuery (asked_gates c.parent required d) (asked_flags c.parent required d) (asked_items c.parent required d) (asked_preferred c.parent required d) e.query) same lowered.query_is;
  bytes_are = lowered.bytes_are ∙ ap (λ d. circuit_bytes (asked_gates c.parent required d)) same;
}
  where
    required : List Req
    required = unwrap_or c.member.body.required []

pub as_place : (c : Case) (a b : Class) (es : List SharedQuery) (n : ℕ) → class_in c.member.body a ≡ class_in c.member.body b → IsSharedAt (query_of c a) es n → IsSharedAt (query_of c b) es n
as_place c a b es n same at = (at.0, λ e there. as_class c a b e same (at.1 e there))

-- what is noted of a class in a context
pub placed_at : (c : Case) (es : List SharedQuery) (ps qs : List Placed) (class : Class) (i : ℕ) (d : Placed) → qs ≡ ps → i < length qs → (get_or qs i d).class ≡ class → ArePlaced c es ps → IsSharedAt (query_of c class) es (get_or qs i d).at
placed_at c es ps qs class i d same lt is all =
    subst (λ k. IsSharedAt (query_of c k) es (get_or qs i d).at) is (all_at (λ (p : Placed). IsSharedAt (query_of c p.class) es p.at) qs i (get_or qs i d) (subst (ArePlaced c es) (sym same) all) (slice_get-get_or qs i d lt))

all_last : {X : Type 0} (P : X → Type 0) (xs : List X) (x : X) → AllByRecursion P xs → P x → AllByRecursion P (xs ++ x ∷ [])
all_last P [] x all p = (p, tt)
all_last P (y ∷ ys) x all p = (all.0, all_last P ys x all.1 p)

last_there : {X : Type 0} (xs : List X) (x e : X) → slice_get (xs ++ x ∷ []) (length xs) ≡ Some e → e ≡ x
last_there [] x e h = cc
last_there (y ∷ ys) x e h = last_there ys x e h

long_last : {X : Type 0} (xs : List X) (x : X) → length xs < length (xs ++ x ∷ [])
long_last [] x = omega arith
long_last (y ∷ ys) x = let h = long_last ys x in omega (arith, h)

-- a query that was lowered for a context is one that may be kept
module _ (q : Query) (first : Class) (query : lowered.Query) (old new : List SharedQuery) (key : List ℕ) (n : ℕ) (same : class_in q.case.member.body first ≡ class_of q) (is : key ≡ key_of q) (within : IsWithin q)
    (right : IsQuery (gates_of q) (flags_of q) (items_of q) (preferred_of q) query) (keeps : Keeps first key query old new n) where
  entry_shared : IsShared q.case.parent.pkg q.case.member.body keeps.entry
  entry_shared = record {
    parent = q.case.parent;
    pkg_is = refl;
    key_is = keeps.key_is ∙ (is ∙ ap (asked_key q.case.parent (required_of q)) class);
    few = subst (λ d. length (asked_flags q.case.parent (required_of q) d) ≤ 4096) class within.flags;
    light = subst (λ d. asked_weight q.case.parent (required_of q) d ≤ 2000000) class within.weight;
    query_is = subst (λ d. IsQuery (asked_gates q.case.parent (required_of q) d) (asked_flags q.case.parent (required_of q) d) (asked_items q.case.parent (required_of q) d) (asked_preferred q.case.parent (required_of q) d) keeps.entry.query) class
        (subst (λ l. IsQuery (gates_of q) (flags_of q) (items_of q) (preferred_of q) l) (sym keeps.query_is) right);
    bytes_are = keeps.bytes_are ∙ (ap circuit_bytes right.gates ∙ ap (λ d. circuit_bytes (asked_gates q.case.parent (required_of q) d)) class);
  }
    where
      class : class_of q ≡ class_in q.case.member.body keeps.entry.class
      class = sym (ap (class_in q.case.member.body) keeps.class_is ∙ same)

  pub keeps_shared : AreShared q.case.parent.pkg q.case.member.body old → AreShared q.case.parent.pkg q.case.member.body new
  keeps_shared all = subst (AreShared q.case.parent.pkg q.case.member.body) (sym keeps.new_is) (all_last (IsShared q.case.parent.pkg q.case.member.body) keeps.before keeps.entry (front keeps.some) entry_shared)
    where
      front : (keeps.before ≡ old) ⊎ (keeps.before ≡ []) → AreShared q.case.parent.pkg q.case.member.body keeps.before
      front (inl e) = subst (AreShared q.case.parent.pkg q.case.member.body) (sym e) all
      front (inr e) = subst (AreShared q.case.parent.pkg q.case.member.body) (sym e) tt

  pub keeps_at : IsSharedAt q new n
  keeps_at = (
    subst (λ l. n < length l) (sym keeps.new_is) (subst (λ m. m < length (keeps.before ++ keeps.entry ∷ [])) (sym keeps.place) (long_last keeps.before keeps.entry)),
    λ e there. as_it (last_there keeps.before keeps.entry e (sym (ap (λ m. slice_get (keeps.before ++ keeps.entry ∷ []) m) keeps.place) ∙ (ap (λ l. slice_get l n) (sym keeps.new_is) ∙ there))),
  )
    where
      as_it : {e : SharedQuery} → e ≡ keeps.entry → IsLoweredAs q e
      as_it here = subst (IsLoweredAs q) (sym here) (record {
        within = within;
        query_is = subst (λ l. IsQuery (gates_of q) (flags_of q) (items_of q) (preferred_of q) l) (sym keeps.query_is) right;
        bytes_are = keeps.bytes_are ∙ ap circuit_bytes right.gates;
      })

  pub keeps_noted : (certs : List KnownRecord) → AreNoted certs old → AreNoted certs new
  keeps_noted certs all = subst (AreNoted certs) (sym keeps.new_is) (all_last (IsNoted certs) keeps.before keeps.entry (front keeps.some) (λ m here. absurd (apart (sym keeps.unanswered ∙ here))))
    where
      apart : {X : Type 0} {y : X} → None ≡ Some y → ⊥
      apart h = cc

      front : (keeps.before ≡ old) ⊎ (keeps.before ≡ []) → AreNoted certs keeps.before
      front (inl e) = subst (AreNoted certs) (sym e) all
      front (inr e) = subst (AreNoted certs) (sym e) tt

-- what stands at the place of a query is what lowering it gives
pub at_kept : (q : Query) (es : List SharedQuery) (n : ℕ) (x : SharedQuery) → IsSharedAt q es n → x ≡ get_or es n x → IsLoweredAs q x
at_kept q es n x at is = at.1 x (slice_get-get_or es n x at.0 ∙ ap Some (sym is))

-- Records that are added change nothing of what is noted.
noted_grow : (old new : List KnownRecord) (es : List SharedQuery) → Grows old new → AreNoted old es → AreNoted new es
noted_grow old new [] grows all = tt
noted_grow old new (e ∷ es) grows all = (λ n here. grows e.bytes n (all.0 n here), noted_grow old new es grows all.1)

pub ready_grow : (j : JudgedPkg) (old new : List KnownRecord) (s : Shared) → Grows old new → AreHere j s → AreNoted old s.queries.items → AreReady j new s
ready_grow j old new s grows here noted = record { here = here; noted = noted_grow old new s.queries.items grows noted }

-- what is known of the one at a place
pub noted_at : (certs : List KnownRecord) (es : List SharedQuery) (n : ℕ) (x : SharedQuery) → n < length es → x ≡ get_or es n x → AreNoted certs es → IsNoted certs x
noted_at certs es n x lt is all = all_at (IsNoted certs) es n x all (slice_get-get_or es n x lt ∙ ap Some (sym is))

pub answered_at : (q : Query) (certs : List KnownRecord) (es : List SharedQuery) (n number : ℕ) → IsSharedAt q es n → HasQuery (gates_bytes q) certs number → IsAnsweredAt certs es n number
answered_at q certs es n number at has e there = subst (λ b. HasQuery b certs number) (sym (at.1 e there).bytes_are) has

-- From one context of a package to the next.
pub none_kept : (pkg : Pkg) (body : Body) (certs : List KnownRecord) (es : List SharedQuery) → es ≡ [] → AreKept pkg body certs es
none_kept pkg body certs es none = subst (AreKept pkg body certs) (sym none) (record { shared = tt; noted = tt })

pub begun : (j : JudgedPkg) (certs : List KnownRecord) (old new : Shared) → new.queries.items ≡ old.queries.items → new.here.items ≡ [] → AreKept j.pkg.now j.body.now certs old.queries.items → AreReady j certs new
begun j certs old new same none kept = record {
  here = record {
    shared = subst (AreShared j.pkg.now j.body.now) (sym same) kept.shared;
    placed = subst (ArePlaced (case_of j) new.queries.items) (sym none) tt;
  };
  noted = subst (AreNoted certs) (sym same) kept.noted;
}

pub ended : (j : JudgedPkg) (certs : List KnownRecord) (s : Shared) → AreReady j certs s → AreKept j.pkg.now j.body.now certs s.queries.items
ended j certs s ready = record { shared = ready.here.shared; noted = ready.noted }

-- One more class in a context.
pub first_same : (j : JudgedPkg) (states : Profile) (s : PkgSites) (required : List ℕ) → ArePartsOf j states s required → (class first : Class) → first ≡ first_at s.firsts class → class_in j.body.now first ≡ class_in j.body.now class
first_same j states s required parts class first is = ap (class_in j.body.now) is ∙ parts.sites_are.are.firsts class

pub here_more : (j : JudgedPkg) (old new : Shared) (class first : Class) (n : ℕ) → new.queries.items ≡ old.queries.items → new.here.items ≡ old.here.items ++ record { class = first; at = n } ∷ []
    → class_in j.body.now first ≡ class_in j.body.now class → IsSharedAt (query_of (case_of j) class) old.queries.items n → AreHere j old → AreHere j new
here_more j old new class first n same more alike at here = record {
  shared = subst (AreShared j.pkg.now j.body.now) (sym same) here.shared;
  placed = subst (λ es. ArePlaced (case_of j) es new.here.items) (sym same) (subst (ArePlaced (case_of j) old.queries.items) (sym more)
      (all_last (λ (p : Placed). IsSharedAt (query_of (case_of j) p.class) old.queries.items p.at) old.here.items (record { class = first; at = n }) here.placed
      (as_place (case_of j) class first old.queries.items n (sym alike) at)));
}

-- The number of an answer that is noted at a place.
abbrev noted : SharedQuery → ℕ → SharedQuery
noted e number = record { class = e.class; key = e.key; query = e.query; bytes = e.bytes; place = Some number }

all_set : {X : Type 0} (P : X → Type 0) (xs : List X) (n : ℕ) (x y : X) → slice_get xs n ≡ Some x → (P x → P y) → AllByRecursion P xs → AllByRecursion P (slice_set xs n y)
all_set P [] n x y there f all = tt
all_set P (z ∷ zs) zero x y there f all = (f (subst P (the_same z x there) all.0), all.1)
  where
    the_same : {X : Type 0} (a b : X) → Some a ≡ Some b → a ≡ b
    the_same a b h = cc
all_set P (z ∷ zs) (suc n) x y there f all = (all.0, all_set P zs n x y there f all.1)

at_set : (q : Query) (es : List SharedQuery) (n m : ℕ) (x y : SharedQuery) → slice_get es n ≡ Some x → (IsLoweredAs q x → IsLoweredAs q y) → IsSharedAt q es m → IsSharedAt q (slice_set es n y) m
at_set q [] n m x y there f at = absurd (omega (arith, at.0))
at_set q (e ∷ es) zero zero x y there f at = (omega arith, λ z here. subst (IsLoweredAs q) (the_same y z here) (f (at.1 x there)))
  where
    the_same : {X : Type 0} (a b : X) → Some a ≡ Some b → a ≡ b
    the_same a b h = cc
at_set q (e ∷ es) zero (suc m) x y there f at = (at.0, at.1)
at_set q (e ∷ es) (suc n) zero x y there f at = (omega arith, at.1)
at_set q (e ∷ es) (suc n) (suc m) x y there f at = let rest = at_set q es n m x y there f (omega (arith, at.0), at.1) in (omega (arith, rest.0), rest.1)

lowered_noted : (q : Query) (e : SharedQuery) (number : ℕ) → IsLoweredAs q e → IsLoweredAs q (noted e number)
lowered_noted q e number l = record { within = l.within; query_is = l.query_is; bytes_are = l.bytes_are }

shared_noted : (pkg : Pkg) (body : Body) (e : SharedQuery) (number : ℕ) → IsShared pkg body e → IsShared pkg body (noted e number)
shared_noted pkg body e number s = record { parent = s.parent; pkg_is = s.pkg_is; key_is = s.key_is; few = s.few; light = s.light; query_is = s.query_is; bytes_are = s.bytes_are }

placed_noted : (c : Case) (es : List SharedQuery) (ps : List Placed) (n number : ℕ) (e : SharedQuery) → slice_get es n ≡ Some e → ArePlaced c es ps → ArePlaced c (slice_set es n (noted e number)) ps
placed_noted c es [] n number e there all = tt
placed_noted c es (p ∷ ps) n number e there all =
    (at_set (query_of c p.class) es n p.at e (noted e number) there (lowered_noted (query_of c p.class) e number) all.0, placed_noted c es ps n number e there all.1)

pub there_at : (es : List SharedQuery) (n : ℕ) (x : SharedQuery) → n < length es → x ≡ get_or es n x → slice_get es n ≡ Some x
there_at es n x lt is = slice_get-get_or es n x lt ∙ ap Some (sym is)

pub ready_noted : (j : JudgedPkg) (certs : List KnownRecord) (old new : Shared) (n number : ℕ) (e : SharedQuery) → slice_get old.queries.items n ≡ Some e → new.queries.items ≡ slice_set old.queries.items n (noted e number)
    → new.here.items ≡ old.here.items → AreReady j certs old → IsAnsweredAt certs old.queries.items n number → AreReady j certs new
ready_noted j certs old new n number e there is same ready answered = record {
  here = record {
    shared = subst (AreShared j.pkg.now j.body.now) (sym is)
        (all_set (IsShared j.pkg.now j.body.now) old.queries.items n e (noted e number) there (shared_noted j.pkg.now j.body.now e number) ready.here.shared);
    placed = subst (ArePlaced (case_of j) new.queries.items) (sym same)
        (subst (λ es. ArePlaced (case_of j) es old.here.items) (sym is) (placed_noted (case_of j) old.queries.items old.here.items n number e there ready.here.placed));
  };
  noted = subst (AreNoted certs) (sym is)
      (all_set (IsNoted certs) old.queries.items n e (noted e number) there (λ was m here. subst (HasQuery e.bytes certs) (one number m here) (answered e there)) ready.noted);
}
  where
    one : (a b : ℕ) → Some a ≡ Some b → a ≡ b
    one a b h = cc
