-- What is told anew of a package, by its number.
use Rattle.std.proofs.Common.{◌≡◌, Bool, true, false, ◌&&◌, if◌then◌else◌, List, [], ◌∷◌, ◌++◌, filter, refl, sym, ap, ◌∙◌, Some}
use Rattle.std.specs.Prelude.{flat_map, slice_get}
use Rattle.gv_facts.specs.declared.kinds.Class.{Class}
use Rattle.gv_report.specs.Keyword.{has_keyword}
use Rattle.gv_report.specs.declared.keyword.Keyword.TheVariants as keywords
use Rattle.gv_report.specs.declared.options.Options.{Options}
use Rattle.gv_report.specs.declared.report.Report.{Report}
use Rattle.gv_load.specs.declared.loading.Repo.{Repo}
use Rattle.gv_plain.specs.Plain.{told_member}
use Rattle.gv_plain.specs.PlainReports.{is_readable, nonexistent_in}
use Rattle.gv_plain.specs.Classes.{classes}
use Rattle.gv_plain.specs.Lists.{flat_same}
use Rattle.gv_plain.specs.Telling.{member_with, numbered, told_at, told_if, told_of_class_if}
use Rattle.gv_renew.specs.Touched.{IsIn, anew_at, anew_in, anew_of, member_at, mentions_at}
use Rattle.gv_renew.specs.declared.touched.Touched.{Touched}

pub filter_same : {X : Type 0} (p q : X → Bool) → ((x : X) → p x ≡ q x) → (xs : List X) → filter p xs ≡ filter q xs
filter_same p q e [] = refl
filter_same p q e (x ∷ xs) = rw (e x) (ap (λ l. if q x then x ∷ l else l) (filter_same p q e xs))

pub picked : {X Y : Type 0} (p : X → Bool) (f : X → List Y) (xs : List X) → flat_map (λ x. if p x then f x else []) xs ≡ flat_map f (filter p xs)
picked p f [] = refl
picked p f (x ∷ xs) = by (p x) refl (picked p f xs)
  where
    by : (b : Bool) → p x ≡ b → flat_map (λ x. if p x then f x else []) xs ≡ flat_map f (filter p xs) → flat_map (λ x. if p x then f x else []) (x ∷ xs) ≡ flat_map f (filter p (x ∷ xs))
    by true e rest = rw e (ap (λ l. f x ++ l) rest)
    by false e rest = rw e rest

turned : {X : Type 0} (p q : X → Bool) (xs : List X) → filter p (filter q xs) ≡ filter q (filter p xs)
turned p q [] = refl
turned p q (x ∷ xs) = by (p x) refl (q x) refl (turned p q xs)
  where
    by : (b : Bool) → p x ≡ b → (c : Bool) → q x ≡ c → filter p (filter q xs) ≡ filter q (filter p xs) → filter p (filter q (x ∷ xs)) ≡ filter q (filter p (x ∷ xs))
    by true e true f rest = rw (e, f) (rw e (ap (λ l. x ∷ l) rest))
    by true e false f rest = rw (e, f) rest
    by false e true f rest = rw (e, f) (rw e rest)
    by false e false f rest = rw (e, f) rest

none : {X Y : Type 0} (xs : List X) → flat_map (λ (x : X). let l : List Y = [] in l) xs ≡ []
none [] = refl
none (x ∷ xs) = none xs

module _ (o : Options) (repo : Repo) (t : Touched) (is : IsIn repo.pkgs repo.bodies t) where
  is_numbered : numbered repo t.number ≡ Some (member_at t)
  is_numbered = ap (λ p. member_with t.number p (slice_get repo.bodies t.number)) is.pkg_is ∙ ap (λ b. member_with t.number (Some t.pkg.now) b) is.body_is

  pub anew_edited : t.edited ≡ true → told_at o repo t.number ≡ anew_at o repo t
  anew_edited e = ap (told_if o repo) is_numbered ∙ sym (ap (λ b. if b then told_member o repo (member_at t) else anew_in o repo.pkgs t) e)

  -- of a package that isn't edited, class by class
  abbrev readable : Class → Bool
  readable class = is_readable t.pkg.now t.body.now class

  abbrev nowhere : Class → List Report
  nowhere class = nonexistent_in repo.pkgs t.pkg.now t.body.now class

  abbrev is_selected : Bool
  is_selected = has_keyword o.keywords keywords.NonexistentDeps

  of_class : (class : Class) → anew_of o repo t class ≡ (if mentions_at t class then (if is_selected && readable class then nowhere class else []) else [])
  of_class class = ap (λ m. if mentions_at t class then told_of_class_if class o repo m else []) is_numbered

  pub anew_other : t.edited ≡ false → flat_map (anew_of o repo t) classes ≡ anew_at o repo t
  anew_other e =
      flat_same (anew_of o repo t) (λ class. if mentions_at t class then (if is_selected && readable class then nowhere class else []) else []) of_class classes
      ∙ (picked (mentions_at t) (λ class. if is_selected && readable class then nowhere class else []) classes
      ∙ (by is_selected refl ∙ sym (ap (λ b. if b then told_member o repo (member_at t) else anew_in o repo.pkgs t) e)))
    where
      by : (b : Bool) → is_selected ≡ b → flat_map (λ class. if b && readable class then nowhere class else []) (filter (mentions_at t) classes)
          ≡ (if b then flat_map nowhere (filter (mentions_at t) (filter readable classes)) else [])
      by true h = picked readable nowhere (filter (mentions_at t) classes) ∙ ap (flat_map nowhere) (turned readable (mentions_at t) classes)
      by false h = none (filter (mentions_at t) classes)
