-- What a scan leaves is accepted.
use Rattle.std.proofs.Common.{◌≡◌, ℕ, List, [], ◌∷◌, ◌++◌, length, refl, sym, ap, subst, ◌∙◌, inl, inr, arith}
use Rattle.std.specs.Prelude.{Result, Ok, Err}
use Rattle.std.specs.List.{AllByRecursion}
use Rattle.gv_base.specs.Counts.{Counts}
use Rattle.gv_cert.specs.Known.{KnownRecord}
use Rattle.gv_load.specs.declared.loading.Repo.{Repo}
use Rattle.gv_logic.specs.Circuits.{Circuit}
use Rattle.gv_report.specs.declared.options.Options.{Options}
use Rattle.gv_report.specs.declared.report.Report.{Report}
use Rattle.gv_checks.specs.Answered.{AreJudged, IsJudged}
use Rattle.gv_checks.specs.Certs.{HasBacked, HasRecord}
use Rattle.gv_checks.specs.Limits.{IsPast, IsWithin}
use Rattle.gv_checks.specs.Queries.{Query, gates_of, queries}
use Rattle.gv_checks.specs.RepoReports.{scan_reports, scan_text}
use Rattle.gv_checks.specs.declared.whole.Judged.{Judged}
use Rattle.gv_verify.specs.Differing.{AreApart}
use Rattle.gv_verify.specs.Verifying.{MayAccept, Verifies}
use Rattle.gv_verify.specs.declared.verifying.VerifyFault.{VerifyFault}
use Rattle.gv_verify.specs.declared.verifying.VerifyFault.TheVariants.{NotBacked, NoSuchText, Limit, NoMemory}

-- one of several
middle : {A : Type 0} (P : A → Type 0) (before behind : List A) (x : A) → AllByRecursion P (before ++ x ∷ behind) → P x
middle P [] behind x all = all.0
middle P (y ∷ ys) behind x all = middle P ys behind x all.1

not_past : (q : Query) (n : ℕ) → IsWithin q → IsPast q n → ⊥
not_past q n within (inl past) = omega (arith, within.flags, past.0)
not_past q n within (inr past) = omega (arith, within.weight, past.1)

cancel : (front xs ys : List ℕ) → front ++ xs ≡ front ++ ys → xs ≡ ys
cancel [] xs ys e = e
cancel (f ∷ fs) xs ys e = cancel fs xs ys (ap tail e)
  where
    tail : List ℕ → List ℕ
    tail [] = []
    tail (z ∷ zs) = zs

not_apart : (xs : List ℕ) → AreApart xs xs → ⊥
not_apart [] h = h
not_apart (x ∷ xs) h = h refl

abbrev pub RecordsLaw : Type 0
RecordsLaw = (budget : ℕ) (given : List KnownRecord) (asked : List Query) (told : List Report) (before now : Counts) (j : Judged) → AreJudged budget given asked told before now j → AllByRecursion (λ q. HasRecord j.certs (gates_of q)) asked

abbrev pub BackedLaw : Type 0
BackedLaw = (records : List KnownRecord) (g : Circuit) → HasRecord records g → HasBacked records g

pub is_accepted : RecordsLaw → BackedLaw → (o : Options) (r : Repo) (given : List KnownRecord) (before now : Counts) (j : Judged) → IsJudged o given r before now j
    → (answer : Result ℕ VerifyFault) → Verifies o j.certs r (scan_text o r) answer → MayAccept (length (queries o r)) answer
is_accepted law backed_by o r given before now j is (Ok n) v = v.queries_are
is_accepted law backed_by o r given before now j is (Err (NotBacked query)) v =
    let have : AllByRecursion (λ (q : Query). HasRecord j.certs (gates_of q)) (v.before ++ v.query ∷ v.behind) = subst (AllByRecursion (λ (q : Query). HasRecord j.certs (gates_of q))) v.queries_are (law o.budget given (queries o r) (scan_reports o r) before now j is) in
    let backed : HasBacked j.certs (gates_of v.query) = backed_by j.certs (gates_of v.query) (middle (λ (q : Query). HasRecord j.certs (gates_of q)) v.before v.behind v.query have) in
    v.cause.2 backed.0 backed.1
is_accepted law backed_by o r given before now j is (Err (NoSuchText offset)) v =
    not_apart v.differs.one_rest (subst (AreApart v.differs.one_rest) (cancel v.differs.front v.differs.two_rest v.differs.one_rest (sym v.differs.two_is ∙ v.differs.one_is)) v.differs.apart)
is_accepted law backed_by o r given before now j is (Err (Limit place number)) v =
    not_past v.query number (middle IsWithin v.before v.behind v.query (subst (AllByRecursion IsWithin) v.queries_are is.within)) v.cause.1
is_accepted law backed_by o r given before now j is (Err NoMemory) v = tt
