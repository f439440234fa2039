-- Which queries are chosen: of two lists, of all, and of a package of which none is.
use Rattle.std.proofs.Common.{append_assoc, ◌≡◌, ℕ, ◌+◌, Bool, true, false, cond, not, ◌||◌, List, [], ◌∷◌, ◌++◌, length, map, filter, arith, refl, sym, ap, subst, ◌∙◌, Option, None, Some}
use Rattle.std.specs.Prelude.{flat_map, filter_map, if◌then◌else◌, option_map, slice_get}
use Rattle.std.specs.List.{AllByRecursion, cons_option}
use Rattle.std.proofs.lemmas.Bool.{false≢true}
use Rattle.gv_facts.specs.declared.kinds.Class.{Class}
use Rattle.gv_facts.specs.declared.kinds.Class.TheVariants.{Bdepend, Depend, Idepend, Pdepend, Rdepend, Required}
use Rattle.gv_facts.specs.declared.kinds.Level.{Level}
use Rattle.gv_facts.specs.Visible.{judged}
use Rattle.gv_facts.specs.declared.pkg.Pkg.{Pkg}
use Rattle.gv_facts.specs.declared.profile.Profile.{Profile}
use Rattle.gv_report.specs.declared.options.Options.{Options}
use Rattle.gv_load.specs.declared.loading.Repo.{Repo}
use Rattle.gv_plain.specs.Cases.{Case, Member, case_at, case_in, members}
use Rattle.gv_checks.specs.Chosen.{chosen_from, has, has_class, has_in, is_chosen, is_none, is_none_in, is_own, is_passed, told_chosen, told_of}
use Rattle.gv_plain.specs.Classes.{classes}
use Rattle.gv_plain.specs.Plain.{told_member}
use Rattle.gv_checks.specs.Queries.{Query, case_queries, class_queries, is_asked, query_of}
use Rattle.gv_checks.specs.Walks.{Parts}
use Rattle.gv_checks.specs.declared.chosen.Chosen.{Chosen}
use Rattle.gv_checks.specs.declared.chosen.Chosen.TheVariants.{All, Classes, Packages, Part}
use Rattle.gv_checks.specs.declared.chosen.ClassSet.{ClassSet}

-- ---- of two lists

if_append : {A : Type 0} (b : Bool) (x : A) (xs ys : List A) → (if b then x ∷ (xs ++ ys) else xs ++ ys) ≡ (if b then x ∷ xs else xs) ++ ys
if_append true x xs ys = refl
if_append false x xs ys = refl

pub chosen_append : (c : Chosen) (n : ℕ) (xs ys : List Query) → chosen_from c n (xs ++ ys) ≡ chosen_from c n xs ++ chosen_from c (n + length xs) ys
chosen_append c n [] ys = let e : n + 0 ≡ n = omega arith in rw e refl
chosen_append c n (x ∷ xs) ys =
    let more : n + 1 + length xs ≡ n + length (x ∷ xs) = omega arith in
    let rest : chosen_from c (n + 1) (xs ++ ys) ≡ chosen_from c (n + 1) xs ++ chosen_from c (n + length (x ∷ xs)) ys =
    subst (λ m. chosen_from c (n + 1) (xs ++ ys) ≡ chosen_from c (n + 1) xs ++ chosen_from c m ys) more (chosen_append c (n + 1) xs ys) in
    ap (λ l. if is_chosen c n x.case.member.number x.class then x ∷ l else l) rest
    ∙ if_append (is_chosen c n x.case.member.number x.class) x (chosen_from c (n + 1) xs) (chosen_from c (n + length (x ∷ xs)) ys)

pub parts_none : (c : Chosen) (n : ℕ) → Parts c [] n n
parts_none c n = λ rest. refl

pub parts_one : (c : Chosen) (q : Query) (n : ℕ) → Parts c (q ∷ []) n (n + 1)
parts_one c q n = λ rest. by (is_chosen c n q.case.member.number q.class) (chosen_from c (n + 1) rest)
  where
    by : (b : Bool) (l : List Query) → (if b then q ∷ l else l) ≡ (if b then q ∷ [] else []) ++ l
    by true l = refl
    by false l = refl

pub parts_join : (c : Chosen) (xs ys : List Query) (n m k : ℕ) → Parts c xs n m → Parts c ys m k → Parts c (xs ++ ys) n k
parts_join c xs ys n m k p q = λ rest.
    ap (chosen_from c n) (append_assoc xs ys rest) ∙ (p (ys ++ rest) ∙ (ap (λ l. chosen_from c n xs ++ l) (q rest)
    ∙ (sym (append_assoc (chosen_from c n xs) (chosen_from c m ys) (chosen_from c k rest)) ∙ ap (λ l. l ++ chosen_from c k rest) (sym (p ys)))))

-- ---- of all

pub all_chosen : (n : ℕ) (qs : List Query) → chosen_from All n qs ≡ qs
all_chosen n [] = refl
all_chosen n (q ∷ qs) = ap (λ l. q ∷ l) (all_chosen (n + 1) qs)

flat_same : {A B : Type 0} (f g : A → List B) → ((x : A) → f x ≡ g x) → (xs : List A) → flat_map f xs ≡ flat_map g xs
flat_same f g e [] = refl
flat_same f g e (x ∷ xs) = ap (λ l. l ++ flat_map f xs) (e x) ∙ ap (λ l. g x ++ l) (flat_same f g e xs)

pub all_told_of : (o : Options) (repo : Repo) → told_chosen All o repo ≡ flat_map (told_member o repo) (members repo)
all_told_of o repo = flat_same (told_of All o repo) (told_member o repo) (λ m. refl) (members repo)

-- ---- what holds of each query of a package

pub all_join : {A : Type 0} (P : A → Type 0) (xs ys : List A) → AllByRecursion P xs → AllByRecursion P ys → AllByRecursion P (xs ++ ys)
all_join P [] ys a b = b
all_join P (x ∷ xs) ys a b = (a.0, all_join P xs ys a.1 b)

module _ (o : Options) (m : Member) (P : Query → Type 0) (each : (c : Case) → c.member ≡ m → (class : Class) → P (query_of c class)) where
  each_class : (c : Case) → c.member ≡ m → (ks : List Class) → AllByRecursion P (class_queries o ks c)
  each_class c e [] = tt
  each_class c e (k ∷ ks) = by (is_asked o c k) (each_class c e ks)
    where
      by : (b : Bool) → AllByRecursion P (class_queries o ks c) → AllByRecursion P (map (query_of c) (cond b (k ∷ filter (is_asked o c) ks) (filter (is_asked o c) ks)))
      by true all = (each c e k, all)
      by false all = all

  pub each_query : (among : List Pkg) (ps : List Profile) → AllByRecursion P (flat_map (case_queries o) (filter_map (case_in among m) ps))
  each_query among [] = tt
  each_query among (p ∷ ps) = by (judged m.pkg p) (each_query among ps)
    where
      by : (l : Option Level) → AllByRecursion P (flat_map (case_queries o) (filter_map (case_in among m) ps))
          → AllByRecursion P (flat_map (case_queries o) (cons_option (option_map (case_at among m p) l) (filter_map (case_in among m) ps)))
      by None all = all
      by (Some level) all = all_join P (case_queries o (case_at among m p level)) (flat_map (case_queries o) (filter_map (case_in among m) ps)) (each_class (case_at among m p level) refl classes) all

-- ---- of a package of which none is

abbrev IsAside : Chosen → Query → Type 0
IsAside c q = (place : ℕ) → is_chosen c place q.case.member.number q.class ≡ false

none_aside : (c : Chosen) (n : ℕ) (qs : List Query) → AllByRecursion (IsAside c) qs → chosen_from c n qs ≡ []
none_aside c n [] all = refl
none_aside c n (q ∷ qs) all = rw (all.0 n) (none_aside c (n + 1) qs all.1)

false_or : (a b : Bool) → not (a || b) ≡ true → (a ≡ false) × (not b ≡ true)
false_or true b e = absurd (false≢true e)
false_or false b e = (refl, e)

was_off : (b : Bool) → not b ≡ true → b ≡ false
was_off true e = absurd (false≢true e)
was_off false e = refl

none_has : (s : ClassSet) → is_none s ≡ true → (class : Class) → has s class ≡ false
none_has s e class =
    let at0 = false_or s.required (s.depend || (s.bdepend || (s.rdepend || (s.pdepend || s.idepend)))) e in
    let at1 = false_or s.depend (s.bdepend || (s.rdepend || (s.pdepend || s.idepend))) at0.1 in
    let at2 = false_or s.bdepend (s.rdepend || (s.pdepend || s.idepend)) at1.1 in
    let at3 = false_or s.rdepend (s.pdepend || s.idepend) at2.1 in
    let at4 = false_or s.pdepend s.idepend at3.1 in
    by class at0.0 at1.0 at2.0 at3.0 at4.0 (was_off s.idepend at4.1)
  where
    by : (k : Class) → s.required ≡ false → s.depend ≡ false → s.bdepend ≡ false → s.rdepend ≡ false → s.pdepend ≡ false → s.idepend ≡ false → has s k ≡ false
    by Required e0 e1 e2 e3 e4 e5 = e0
    by Depend e0 e1 e2 e3 e4 e5 = e1
    by Bdepend e0 e1 e2 e3 e4 e5 = e2
    by Rdepend e0 e1 e2 e3 e4 e5 = e3
    by Pdepend e0 e1 e2 e3 e4 e5 = e4
    by Idepend e0 e1 e2 e3 e4 e5 = e5

none_has_in : (s : Option ClassSet) → is_none_in s ≡ true → (class : Class) → has_in s class ≡ false
none_has_in None e class = refl
none_has_in (Some s) e class = none_has s e class

passed_aside : (c : Chosen) (number : ℕ) → is_passed c number ≡ true → (place : ℕ) (class : Class) → is_chosen c place number class ≡ false
passed_aside All number e place class = absurd (false≢true e)
passed_aside (Packages own) number e place class = was_off (is_own own.now number) e
passed_aside (Classes sets) number e place class = none_has_in (slice_get sets.now number) e class
passed_aside (Part part parts) number e place class = absurd (false≢true e)

-- and then it is no matter from which place on the others are counted
placeless : (c : Chosen) (number : ℕ) → is_passed c number ≡ true → (n m : ℕ) (qs : List Query) → chosen_from c n qs ≡ chosen_from c m qs
placeless c number e n m [] = refl
placeless All number e n m (q ∷ qs) = absurd (false≢true e)
placeless (Packages own) number e n m (q ∷ qs) =
    ap (λ l. if is_own own.now q.case.member.number then q ∷ l else l) (placeless (Packages own) number e (n + 1) (m + 1) qs)
placeless (Classes sets) number e n m (q ∷ qs) =
    ap (λ l. if has_class sets.now q.case.member.number q.class then q ∷ l else l) (placeless (Classes sets) number e (n + 1) (m + 1) qs)
placeless (Part part parts) number e n m (q ∷ qs) = absurd (false≢true e)

module _ (o : Options) (m : Member) (c : Chosen) (e : is_passed c m.number ≡ true) (among : List Pkg) (ps : List Profile) where
  abbrev its : List Query
  its = flat_map (case_queries o) (filter_map (case_in among m) ps)

  aside : AllByRecursion (IsAside c) its
  aside = each_query o m (IsAside c) (λ k same class place. subst (λ x. is_chosen c place x.number class ≡ false) (sym same) (passed_aside c m.number e place class)) among ps

  pub none_chosen : (n : ℕ) → chosen_from c n its ≡ []
  none_chosen n = none_aside c n its aside

  pub parts_passed : (n : ℕ) → Parts c its n n
  parts_passed n = λ rest.
      chosen_append c n its rest ∙ ap (λ l. chosen_from c n its ++ l) (placeless c m.number e (n + length its) n rest)
