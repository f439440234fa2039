-- What a scan in which nothing outside fails says of the files.
use Rattle.std.proofs.Common.{◌≡◌, ℕ, ◌<◌, ◌^◌, List, [], ◌∷◌, ◌++◌, length, Some, None, refl, sym, ap, subst, ◌∙◌, inl, inr, arith}
use Rattle.std.specs.Prelude.{Option, IfSome, IfOk, IfErr, Ok, Err, ◌⊎◌}
use Rattle.std.specs.List.{AllByRecursion}
use Rattle.gv_base.specs.Causes.{Rose}
use Rattle.gv_base.specs.FileMap.{FileMap}
use Rattle.gv_cert.specs.Known.{KnownRecord}
use Rattle.gv_expr.specs.Dep.{Dep}
use Rattle.gv_expr.specs.Required.{Req}
use Rattle.gv_entry.specs.Allowed.{Parent}
use Rattle.gv_reading.specs.declared.faults.LoadFault.{LoadFault}
use Rattle.gv_load.specs.declared.loading.Repo.{Repo}
use Rattle.gv_load.specs.Loading.{loading}
use Rattle.gv_reading.specs.Look.{look_of}
use Rattle.gv_query.specs.Asking.{IsSpent}
use Rattle.gv_report.specs.declared.options.Options.{Options}
use Rattle.gv_words.specs.Command.{IsCommand, IsOneCommand}
use Rattle.gv_words.specs.declared.command.Asked.{Asked}
use Rattle.gv_words.specs.declared.command.Command.TheVariants as commands
use Rattle.gv_checks.specs.Asked.{asked_flags, asked_gates}
use Rattle.gv_checks.specs.Limits.{IsFirstRefused, IsPast, IsRefused, IsWithin}
use Rattle.gv_checks.specs.Queries.{Query, class_of, gates_of, queries, required_of}
use Rattle.gv_checks.specs.RepoReports.{scan_text}
use Rattle.gv_checks.specs.declared.fault.JudgeFault.{JudgeFault}
use Rattle.gv_checks.specs.declared.fault.JudgeFault.TheVariants as judges
use Rattle.gv_checks.specs.declared.names.QueryName.{QueryName}
use Rattle.gv_ending.specs.declared.refusal.Refusal.{Refusal}
use Rattle.gv_ending.specs.declared.refusal.Refusal.TheVariants.{TreeFailed, StoreFailed, OutputFailed, Spent, NoMemory, NotARepository, Limit, Lacks}
use Rattle.gv_ending.specs.Causes.{Why}
use Rattle.gv_ending.specs.Endings.{Ending, SaysNothing, TellsRefusal, Told, well_status}
use Rattle.gv_ending.specs.Fetching.{IsGiven}
use Rattle.gv_run.specs.Performs.{Runs}
use Rattle.gv_run.specs.Scan.{AllFit, Fits, IsCovered, IsLoaded, IsPastOne, IsUnloaded, OneIsPast, Says, SaysOf, said_by, unloaded_status}
use Rattle.gv_run.specs.Scanning.{scan_causes}
use Rattle.gv_ending.specs.World.{Fed, Roots, World}
use Rattle.gv_run.proofs.Performed.{Ends, ends, five_only, or_five, or_unbegun}

pub one_of : {A : Type 0} (P : A → Type 0) (xs : List A) (y : A) (ys : List A) → AllByRecursion P (xs ++ y ∷ ys) → P y
one_of P [] y ys all = all.0
one_of P (x ∷ xs) y ys all = one_of P xs y ys all.1

inputs_are : (c : Parent) (required : List Req) (class : Option (List Dep)) → (asked_gates c required class).inputs ≡ length (asked_flags c required class)
inputs_are c required None = refl
inputs_are c required (Some class) = refl

pub within_not_past : (X : Type 0) (q : Query) (number : ℕ) → IsWithin q → IsPast q number → X
within_not_past X q number within (inl past) = absurd (omega (arith, within.flags, past.0))
within_not_past X q number within (inr past) = absurd (omega (arith, within.weight, past.1))

pub covered_not_spent : (X : Type 0) (budget : ℕ) (given : List KnownRecord) (q : Query) (sets : List (List ℕ)) → IsCovered budget given q → IsSpent (gates_of q) budget given sets → X
covered_not_spent X budget given q sets (inl few) spent =
    let over = subst (λ n. budget < 2 ^ n) (inputs_are q.case.parent (required_of q) (class_of q)) spent.wide in
    absurd (omega (arith, few, over))
covered_not_spent X budget given q sets (inr backed) spent = absurd (spent.none backed.0 backed.1)

-- each before it has its certificate, and so it is within the limits
pub first_is : (budget : ℕ) (given : List KnownRecord) (qs : List Query) (fault : JudgeFault) → IsFirstRefused budget given qs fault → IsRefused budget given qs fault
first_is budget given qs fault is = record { before = is.before; query = is.query; behind = is.behind; queries_are = is.queries_are; within = is.within; cause = is.cause }

-- where each query fits, none is refused
module _ (X : Type 0) (budget : ℕ) (given : List KnownRecord) (asked : List Query) (fits : AllFit budget given asked) where
  none_past : (place : List ℕ) (number : ℕ) → IsRefused budget given asked (judges.Limit place number) → X
  none_past place number refused =
      within_not_past X refused.query number (one_of IsWithin refused.before refused.query refused.behind (subst (AllByRecursion IsWithin) refused.queries_are fits.within)) refused.cause.1

  none_spent : (name : QueryName) (sets : List (List ℕ)) → IsRefused budget given asked (judges.Spent name sets) → X
  none_spent name sets refused =
      let covered = one_of (IsCovered budget given) refused.before refused.query refused.behind (subst (AllByRecursion (IsCovered budget given)) refused.queries_are fits.covered) in
      covered_not_spent X budget given refused.query sets covered refused.cause.2

pub not_past : (X : Type 0) (options : Options) (given : List KnownRecord) (repo : Repo) (place : List ℕ) (number : ℕ) → Fits options given repo
    → IsRefused options.budget given (queries options repo) (judges.Limit place number) → X
not_past X options given repo place number fits = none_past X options.budget given (queries options repo) fits place number

pub not_spent : (X : Type 0) (options : Options) (given : List KnownRecord) (repo : Repo) (name : QueryName) (sets : List (List ℕ)) → Fits options given repo
    → IsRefused options.budget given (queries options repo) (judges.Spent name sets) → X
not_spent X options given repo name sets fits = none_spent X options.budget given (queries options repo) fits name sets

-- where one is past a limit and those before it are covered, all aren't within the limits, and none is spent
abbrev first : {A : Type 0} → A → List A → A
first d [] = d
first d (x ∷ xs) = x

abbrev others : {A : Type 0} → List A → List A
others [] = []
others (x ∷ xs) = xs

-- two places in a list are one, or one of them is before the other
pub meets : {A : Type 0} (P W : A → Type 0) (xs ys : List A) (x y : A) (xs' ys' : List A) → xs ++ x ∷ xs' ≡ ys ++ y ∷ ys' → AllByRecursion P xs → AllByRecursion W ys → P y ⊎ ((x ≡ y) ⊎ W x)
meets P W [] [] x y xs' ys' e p w = inr (inl (ap (first x) e))
meets P W [] (z ∷ ys) x y xs' ys' e p w = inr (inr (subst W (sym (ap (first x) e)) w.0))
meets P W (z ∷ xs) [] x y xs' ys' e p w = inl (subst P (ap (first z) e) p.0)
meets P W (z ∷ xs) (u ∷ ys) x y xs' ys' e p w = meets P W xs ys x y xs' ys' (ap others e) p.1 w.1

module _ (X : Type 0) (budget : ℕ) (given : List KnownRecord) (asked : List Query) (one : OneIsPast budget given asked) where
  past_not_within : AllByRecursion IsWithin asked → X
  past_not_within within = within_not_past X one.query one.number (one_of IsWithin one.before one.query one.behind (subst (AllByRecursion IsWithin) one.queries_are within)) one.past

  past_not_spent : (name : QueryName) (sets : List (List ℕ)) → IsRefused budget given asked (judges.Spent name sets) → X
  past_not_spent name sets refused =
      by (meets (IsCovered budget given) IsWithin one.before refused.before one.query refused.query one.behind refused.behind (sym one.queries_are ∙ refused.queries_are) one.covered refused.within)
    where
      by : IsCovered budget given refused.query ⊎ ((one.query ≡ refused.query) ⊎ IsWithin one.query) → X
      by (inl covered) = covered_not_spent X budget given refused.query sets covered refused.cause.2
      by (inr (inl same)) = within_not_past X one.query one.number (subst IsWithin (sym same) refused.cause.1) one.past
      by (inr (inr within)) = within_not_past X one.query one.number within one.past

pub one_not_within : (X : Type 0) (options : Options) (given : List KnownRecord) (repo : Repo) → AllByRecursion IsWithin (queries options repo) → IsPastOne options given repo → X
one_not_within X options given repo within one = past_not_within X options.budget given (queries options repo) one within

pub one_not_spent : (X : Type 0) (options : Options) (given : List KnownRecord) (repo : Repo) (name : QueryName) (sets : List (List ℕ)) → IsPastOne options given repo
    → IsRefused options.budget given (queries options repo) (judges.Spent name sets) → X
one_not_spent X options given repo name sets one = past_not_spent X options.budget given (queries options repo) one name sets

-- ---- of queries that were asked what is so

module _ (budget : ℕ) (given : List KnownRecord) (asked : List Query) (text : List ℕ) (status : ℕ) where
  pub says_done : AllByRecursion IsWithin asked → status ≡ said_by text → SaysOf budget given asked text status
  says_done within is = ((λ fits. inl is), (λ one. past_not_within _ budget given asked one within))

  pub says_limit : (place : List ℕ) (number : ℕ) → IsFirstRefused budget given asked (judges.Limit place number) → (status ≡ 7) ⊎ (status ≡ 5) → SaysOf budget given asked text status
  says_limit place number first is = ((λ fits. none_past _ budget given asked fits place number (first_is budget given asked (judges.Limit place number) first)), (λ one. is))

  pub says_spent : (name : QueryName) (sets : List (List ℕ)) → IsFirstRefused budget given asked (judges.Spent name sets) → SaysOf budget given asked text status
  says_spent name sets first =
      let refused = first_is budget given asked (judges.Spent name sets) first in
      ((λ fits. none_spent _ budget given asked fits name sets refused), (λ one. past_not_spent _ budget given asked one name sets refused))

-- what is told, or memory was wanted
abbrev pub IsSaid : Asked → (told kept : Option FileMap) → ℕ → Type 0
IsSaid a told kept status =
    (status ≡ 5) ⊎ ((given : List KnownRecord) × IsGiven a.fresh kept a.certs given × IfSome told (λ files. Says a.options given (loading (look_of files)) status))

says_loaded : (told : Option FileMap) (options : Options) (given : List KnownRecord) (repo : Repo) (status : ℕ) → IsLoaded told repo → Says options given (Ok repo) status
    → IfSome told (λ files. Says options given (loading (look_of files)) status)
says_loaded None options given repo status loaded says = tt
says_loaded (Some m) options given repo status loaded says = subst (λ r. Says options given r status) (sym loaded) says

says_unloaded : (told : Option FileMap) (options : Options) (given : List KnownRecord) (fault : LoadFault) (status : ℕ) → IsUnloaded told fault → (status ≡ unloaded_status fault) ⊎ (status ≡ 5)
    → IfSome told (λ files. Says options given (loading (look_of files)) status)
says_unloaded None options given fault status unloaded says = tt
says_unloaded (Some m) options given fault status unloaded says = subst (λ r. Says options given r status) (sym unloaded) says

module _ (law : IsOneCommand) (words : List (List ℕ)) (entry : Roots) (old new : World) (a : Asked) (is : IsCommand words (commands.Scan a)) (status : ℕ) where
  said : (given : List KnownRecord) → IsGiven a.fresh old.kept a.certs given → IfSome old.files (λ files. Says a.options given (loading (look_of files)) status) → IsSaid a old.files old.kept status
  said given given_are says = inr (given, given_are, says)

  module _ (tree : Rose old.tree_faults new.tree_faults → ⊥) (store : Rose old.store_faults new.store_faults → ⊥) (out : Rose old.out_faults new.out_faults → ⊥) (err : Told) where
    refused_says : (refusal : Refusal) → Why (scan_causes a old new) refusal → TellsRefusal err refusal status → IsSaid a old.files old.kept status
    refused_says (TreeFailed path) why tells = absurd (tree why.why.0)
    refused_says (StoreFailed path) why tells = absurd (store why.0)
    refused_says OutputFailed why tells = absurd (out why.0)
    refused_says (NotARepository path) why tells = said why.given why.given_are (says_unloaded old.files a.options why.given _ status why.why.1.1 (or_five err (NotARepository path) status tells))
    refused_says (Limit place number) (inl why) tells = said why.given why.given_are (says_unloaded old.files a.options why.given _ status why.why.1.1 (or_five err (Limit place number) status tells))
    refused_says (Limit place number) (inr (inl why)) tells =
        let at = why.why.1 in
        said why.given why.given_are
        (says_loaded old.files a.options why.given at.0 status at.1
        (says_limit a.options.budget why.given (queries a.options at.0) (scan_text a.options at.0) status place number at.2 (or_five err (Limit place number) status tells)))
    refused_says (Limit place number) (inr (inr why)) tells = absurd why
    refused_says (Spent text) why tells =
        let at = why.why.1 in
        let spent = at.2 in
        said why.given why.given_are
        (says_loaded old.files a.options why.given at.0 status at.1
        (says_spent a.options.budget why.given (queries a.options at.0) (scan_text a.options at.0) status spent.0 spent.1 spent.3))
    refused_says (Lacks part parts query) why tells = absurd why.why.1.2
    refused_says NoMemory why tells = inl (five_only status (or_five err NoMemory status tells))
    refused_says other why tells = absurd why

    by_ends : (input : Fed) (ending : Ending) → Ends (commands.Scan a) entry old new input ending → IfOk ending (λ some. (status ≡ well_status some) × SaysNothing err)
        → IfErr ending (λ refusal. TellsRefusal err refusal status) → IsSaid a old.files old.kept status
    by_ends input (Ok some) ends well refused =
        let r = ends.done in
        let w = r.answered in
        said w.given w.given_are
        (says_loaded old.files a.options w.given w.of status w.loaded
        (says_done a.options.budget w.given (queries a.options w.of) (scan_text a.options w.of) status w.are.within (well.0 ∙ r.status_is)))
    by_ends input (Err refusal) ends well refused =
        or_unbegun entry old new err (scan_causes a old new) refusal status (IsSaid a old.files old.kept status) (λ five. inl five) (λ why. refused_says refusal why refused) refused ends.refusal

    pub complete : (input : Fed) (ending : Ending) → Runs words entry old new input ending → IfOk ending (λ some. (status ≡ well_status some) × SaysNothing err)
        → IfErr ending (λ refusal. TellsRefusal err refusal status) → IsSaid a old.files old.kept status
    complete input ending runs well refused = by_ends input ending (ends law words entry old new input (commands.Scan a) is ending runs) well refused
