-- A proof and no rule. Reports that are alike in all parts are equal.
use Rattle.std.proofs.Common.{◌≡◌, ℕ, List, true, Option, None, Some, refl, sym, ap, ◌∙◌}
use Rattle.std.specs.Prelude.{nat_eq, if◌then◌else◌, option_map}
use Rattle.std.specs.declared.cmp.Ordering.{Ordering}
use Rattle.std.specs.declared.cmp.Ordering.TheVariants.{Less, Equal, Greater}
use Rattle.std.specs.Cmp.{tied_then}
use Rattle.std.specs.FinMap.{nat_cmp-IsAntisymmetric}
use Rattle.std.specs.Cmp.Lexicographic.{same_text}
use Rattle.std.specs.Option.{option_cmp}
use Rattle.std.specs.Ordering.{is_eq, nat_cmp, ordering_then}
use Rattle.std.proofs.lemmas.Bool.{and_parts}
use Rattle.std.proofs.lemmas.Map.Text.{is_eq-slice_cmp}
use Rattle.gv_base.specs.Order.{byte_cmp}
use Rattle.gv_version.specs.Order.{compare}
use Rattle.gv_facts.specs.declared.kinds.Class.{Class}
use Rattle.gv_facts.specs.declared.kinds.Class.TheVariants as classes
use Rattle.gv_facts.specs.declared.kinds.Level.{Level}
use Rattle.gv_facts.specs.declared.kinds.Level.TheVariants as levels
use Rattle.gv_report.specs.declared.keyword.Keyword.{Keyword}
use Rattle.gv_report.specs.declared.keyword.Keyword.TheVariants as keywords
use Rattle.gv_report.specs.declared.report.ContextName.{ContextName}
use Rattle.gv_report.specs.declared.report.Report.{Report}
use Rattle.gv_report.specs.declared.report.Subject.{Subject}
use Rattle.gv_report.specs.declared.report.Subject.TheVariants.{Place, Package}
use Rattle.gv_report.specs.Keyword.{keyword_number}
use Rattle.gv_report.specs.Distinct.{is_same}
use Rattle.gv_report.specs.Order.{class_number, class_part, line_part, level_number, version_text, subject_cmp, context_cmp, kind_cmp, report_cmp, rest_cmp}

-- Ties.
then_tied : (a b : Ordering) → is_eq (ordering_then a b) ≡ true → (is_eq a ≡ true) × (is_eq b ≡ true)
then_tied a b h = and_parts (is_eq a) (is_eq b) (tied_then a b ∙ h)

tied_texts : (a b : List ℕ) → is_eq (byte_cmp a b) ≡ true → a ≡ b
tied_texts a b h = same_text a b (sym (sym (is_eq-slice_cmp a b) ∙ h))

equal : (r : Ordering) → is_eq r ≡ true → r ≡ Equal
equal Less h = cc
equal Equal h = refl
equal Greater h = cc

tied_numbers : (a b : ℕ) → is_eq (nat_cmp a b) ≡ true → a ≡ b
tied_numbers a b h = nat_cmp-IsAntisymmetric a b (equal (nat_cmp a b) h)

tied_options : {X : Type 0} (R : X → X → Ordering) → ((x y : X) → is_eq (R x y) ≡ true → x ≡ y) → (p q : Option X) → is_eq (option_cmp R p q) ≡ true → p ≡ q
tied_options R exact None None h = refl
tied_options R exact None (Some y) h = cc
tied_options R exact (Some x) None h = cc
tied_options R exact (Some x) (Some y) h = ap Some (exact x y h)

-- Keywords, classes and levels have numbers of their own.
keyword_of : ℕ → Keyword
keyword_of n =
    if nat_eq n 1 then keywords.ProfileError else if nat_eq n 2 then keywords.ProfileNote else if nat_eq n 3 then keywords.MetadataError else
    if nat_eq n 4 then keywords.StaleCache else if nat_eq n 5 then keywords.OrphanCache else if nat_eq n 6 then keywords.MissingCache else
    if nat_eq n 7 then keywords.NonexistentDeps else if nat_eq n 8 then keywords.NonsolvableDepsInStable else if nat_eq n 9 then keywords.NonsolvableDepsInDev else
    if nat_eq n 10 then keywords.NonsolvableDepsInExp else if nat_eq n 11 then keywords.UnsatisfiableRequiredUse else if nat_eq n 12 then keywords.UnstatedIuse else
    if nat_eq n 13 then keywords.VisibleVcsPkg else if nat_eq n 14 then keywords.RequiredUseDefaults else if nat_eq n 15 then keywords.RedundantVersion else
    keywords.UnknownProfilePackage

keyword_back : (k : Keyword) → keyword_of (keyword_number k) ≡ k
unfolding keyword_of
keyword_back keywords.ProfileError = refl
keyword_back keywords.ProfileNote = refl
keyword_back keywords.MetadataError = refl
keyword_back keywords.StaleCache = refl
keyword_back keywords.OrphanCache = refl
keyword_back keywords.MissingCache = refl
keyword_back keywords.NonexistentDeps = refl
keyword_back keywords.NonsolvableDepsInStable = refl
keyword_back keywords.NonsolvableDepsInDev = refl
keyword_back keywords.NonsolvableDepsInExp = refl
keyword_back keywords.UnsatisfiableRequiredUse = refl
keyword_back keywords.UnstatedIuse = refl
keyword_back keywords.VisibleVcsPkg = refl
keyword_back keywords.RequiredUseDefaults = refl
keyword_back keywords.RedundantVersion = refl
keyword_back keywords.UnknownProfilePackage = refl

class_of : ℕ → Class
class_of n = if nat_eq n 1 then classes.Required else if nat_eq n 2 then classes.Depend else if nat_eq n 3 then classes.Bdepend else
    if nat_eq n 4 then classes.Rdepend else if nat_eq n 5 then classes.Pdepend else classes.Idepend

class_back : (c : Class) → class_of (class_number c) ≡ c
unfolding class_of
class_back classes.Required = refl
class_back classes.Depend = refl
class_back classes.Bdepend = refl
class_back classes.Rdepend = refl
class_back classes.Pdepend = refl
class_back classes.Idepend = refl

level_of : ℕ → Level
level_of n = if nat_eq n 0 then levels.Stable else levels.Testing

level_back : (l : Level) → level_of (level_number l) ≡ l
unfolding level_of
level_back levels.Stable = refl
level_back levels.Testing = refl

pub same_keyword : (a b : Keyword) → keyword_number a ≡ keyword_number b → a ≡ b
same_keyword a b e = sym (keyword_back a) ∙ ap keyword_of e ∙ keyword_back b

same_class : (a b : Class) → class_number a ≡ class_number b → a ≡ b
same_class a b e = sym (class_back a) ∙ ap class_of e ∙ class_back b

same_classes : (p q : Option Class) → option_map class_number p ≡ option_map class_number q → p ≡ q
same_classes None None h = refl
same_classes None (Some y) h = cc
same_classes (Some x) None h = cc
same_classes (Some x) (Some y) h = ap Some (same_class x y (inside (class_number x) (class_number y) h))
  where
    inside : (m n : ℕ) → Some m ≡ Some n → m ≡ n
    inside m n e = cc

same_level : (a b : Level) → level_number a ≡ level_number b → a ≡ b
same_level a b e = sym (level_back a) ∙ ap level_of e ∙ level_back b

-- Subjects and contexts.
same_subject : (s t : Subject) → is_eq (subject_cmp s t) ≡ true → version_text s ≡ version_text t → s ≡ t
same_subject (Place p l) (Place q m) h v =
    let a = then_tied (byte_cmp p q) _ h in
    parts p q l m (tied_texts p q a.0) (tied_numbers l m a.1)
  where
    parts : (p q : List ℕ) (l m : ℕ) → p ≡ q → l ≡ m → ◌≡◌ {A = Subject} (Place p l) (Place q m)
    parts p q l m e f = cc
same_subject (Place p l) (Package d m w g) h v = cc
same_subject (Package c n v f) (Place q m) h e = cc
same_subject (Package c n v f) (Package d m w g) h e =
    let a = then_tied (byte_cmp c d) _ h in
    let b = then_tied (byte_cmp n m) _ a.1 in
    let k = then_tied (compare v w) _ b.1 in
    parts c d n m v w f g (tied_texts c d a.0) (tied_texts n m b.0) e (tied_texts f g k.1)
  where
    parts : (c d n m v w f g : List ℕ) → c ≡ d → n ≡ m → v ≡ w → f ≡ g → ◌≡◌ {A = Subject} (Package c n v f) (Package d m w g)
    parts c d n m v w f g e h i j = cc

context_parts : (l k : ℕ) (a b p q : List ℕ) (u v : Level) → l ≡ k → a ≡ b → p ≡ q → u ≡ v
    → ◌≡◌ {A = ContextName} (record { line = l; arch = a; path = p; level = u }) (record { line = k; arch = b; path = q; level = v })
context_parts l k a b p q u v e f g h = cc

same_context : (c d : ContextName) → is_eq (context_cmp c d) ≡ true → c ≡ d
same_context c d h =
    let a = then_tied (nat_cmp c.line d.line) _ h in
    let b = then_tied (byte_cmp c.arch d.arch) _ a.1 in
    let k = then_tied (byte_cmp c.path d.path) _ b.1 in
    context_parts c.line d.line c.arch d.arch c.path d.path c.level d.level
    (tied_numbers c.line d.line a.0) (tied_texts c.arch d.arch b.0) (tied_texts c.path d.path k.0) (same_level c.level d.level (tied_numbers (level_number c.level) (level_number d.level) k.1))

report_parts : (s t : Subject) (k l : Keyword) (c d : Option Class) (x y : Option ContextName) (w v a b : Option (List ℕ)) → s ≡ t → k ≡ l → c ≡ d → x ≡ y → w ≡ v → a ≡ b
    → ◌≡◌ {A = Report} (record { subject = s; keyword = k; class = c; context = x; witness = w; detail = a }) (record { subject = t; keyword = l; class = d; context = y; witness = v; detail = b })
report_parts s t k l c d x y w v a b e f g h i j = cc

pub same_report : (r s : Report) → is_same r s ≡ true → r ≡ s
same_report r s h =
    let whole = then_tied (report_cmp r s) (rest_cmp r s) h in
    let order = then_tied (subject_cmp r.subject s.subject) (kind_cmp r s) whole.0 in
    let keyword = then_tied (nat_cmp (keyword_number r.keyword) (keyword_number s.keyword)) _ order.1 in
    let class = then_tied (option_cmp nat_cmp (class_part r) (class_part s)) _ keyword.1 in
    let line = then_tied (option_cmp nat_cmp (line_part r) (line_part s)) _ class.1 in
    let version = then_tied (byte_cmp (version_text r.subject) (version_text s.subject)) _ whole.1 in
    let all_classes = then_tied (option_cmp nat_cmp (option_map class_number r.class) (option_map class_number s.class)) _ version.1 in
    let context = then_tied (option_cmp context_cmp r.context s.context) _ all_classes.1 in
    report_parts r.subject s.subject r.keyword s.keyword r.class s.class r.context s.context r.witness s.witness r.detail s.detail
    (same_subject r.subject s.subject order.0 (tied_texts (version_text r.subject) (version_text s.subject) version.0))
    (same_keyword r.keyword s.keyword (tied_numbers (keyword_number r.keyword) (keyword_number s.keyword) keyword.0))
    (same_classes r.class s.class (tied_options nat_cmp tied_numbers (option_map class_number r.class) (option_map class_number s.class) all_classes.0))
    (tied_options context_cmp same_context r.context s.context context.0)
    (tied_options byte_cmp tied_texts r.witness s.witness context.1)
    (tied_options byte_cmp tied_texts r.detail s.detail line.1)
