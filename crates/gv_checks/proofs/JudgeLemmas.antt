-- One more query judged.
use Rattle.std.proofs.Common.{◌≡◌, inl, inr, ℕ, ◌+◌, ◌≤◌, Bool, List, [], ◌∷◌, ◌++◌, length, map, refl, sym, ap, subst, ◌∙◌, Option, Some, None, append_assoc, get_or, arith}
use Rattle.std.specs.Prelude.{filter_map, option_to_list}
use Rattle.std.proofs.lemmas.List.Elements.{filter_map-append}
use Rattle.std.proofs.lemmas.Option.{get_or_from_slice_get}
use Rattle.gv_base.specs.Counts.{Counts}
use Rattle.gv_base.specs.Steps.{after}
use Rattle.gv_base.specs.declared.steps.Kind.TheVariants.{Lower}
use Rattle.gv_cert.specs.Known.{KnownRecord}
use Rattle.gv_cert.specs.declared.claim.Claim.{Claim}
use Rattle.gv_expr.specs.Dep.{Dep}
use Rattle.gv_expr.specs.Required.{Req}
use Rattle.gv_entry.specs.Allowed.{Parent}
use Rattle.gv_logic.specs.Circuits.{Circuit, IsCircuit}
use Rattle.gv_query.specs.Truth.{IsSo}
use Rattle.gv_report.specs.declared.report.Report.{Report}
use Rattle.gv_checks.specs.Asked.{asked_gates, found_bits, least_asked}
use Rattle.gv_checks.specs.Certs.{Cert, HasBacked, counts_after}
use Rattle.gv_checks.specs.Limits.{Cause, IsWithin}
use Rattle.gv_checks.specs.Progress.{AreSome, AreUsed, IsAt, IsFoundAt, IsSomewhere, Outset, Stops}
use Rattle.gv_checks.specs.Queries.{Query, class_of, gates_of, least_of, required_of}
use Rattle.gv_checks.specs.RepoReports.{query_report}
use Rattle.gv_checks.specs.Shared.{MayLower}
use Rattle.gv_checks.specs.declared.fault.JudgeFault.{JudgeFault}
use Rattle.gv_checks.specs.declared.fault.JudgeFault.TheVariants.{Spent, Limit, NoMemory}
use Rattle.gv_checks.specs.declared.judging.Progress.{Progress}
use Rattle.gv_checks.specs.declared.used.Used.{Used}
use Rattle.gv_checks.proofs.CertLemmas.{all_more, long_more, map_more}

abbrev pub GatesLaw : Type 0
GatesLaw = (c : Parent) (required : List Req) (class : Option (List Dep)) (claim : Claim) → IsSo (asked_gates c required class) claim → least_asked c required class ≡ found_bits claim

-- one more is lowered
lowered_counts : (start : Counts) (lowered : ℕ) (certs : List Cert) (now : Counts) → now ≡ counts_after start lowered certs → after Lower now ≡ counts_after start (lowered + 1) certs
lowered_counts start lowered certs now e =
    let k : start.lower + lowered + 1 ≡ start.lower + (lowered + 1) = omega arith in
    ap (after Lower) e ∙ (rw k refl)

pub lowered_more : (budget : ℕ) (given : List KnownRecord) (start : Counts) (gates : List Circuit) (used : Used) (lowered : ℕ) (now : Counts)
    → AreUsed budget given start gates used lowered now → AreUsed budget given start gates used (lowered + 1) (after Lower now)
lowered_more budget given start gates used lowered now are = record {
  certs = are.certs;
  are = are.are;
  formed = are.formed;
  reused = are.reused;
  records_are = are.records_are;
  found_are = are.found_are;
  counts_are = lowered_counts start lowered are.certs now are.counts_are;
}

-- the answers so far, behind one more that is lowered
may_lower : (budget : ℕ) (given : List KnownRecord) (start : Counts) (gates : List Circuit) (used : Used) (lowered most : ℕ) (before now : Counts) → MayLower before now → lowered ≤ most
    → AreUsed budget given start gates used lowered before → (m : ℕ) × (m ≤ most + 1) × AreUsed budget given start gates used m now
may_lower budget given start gates used lowered most before now (inl e) few are = (lowered, omega (arith, few), subst (AreUsed budget given start gates used lowered) (sym e) are)
may_lower budget given start gates used lowered most before now (inr e) few are =
    (lowered + 1, omega (arith, few), subst (AreUsed budget given start gates used (lowered + 1)) (sym e) (lowered_more budget given start gates used lowered before are))

pub some_used : (budget : ℕ) (given : List KnownRecord) (p : Progress) (before now : Counts) → IsSomewhere budget given p before → MayLower before now → AreSome budget given p.used now
some_used budget given p before now somewhere may =
    let step = may_lower budget given somewhere.start.counts (map gates_of somewhere.done) p.used somewhere.at.lowered (length somewhere.done) before now may somewhere.at.few somewhere.at.used in
    record { start = somewhere.start.counts; gates = map gates_of somewhere.done; lowered = step.0; are = step.2 }

-- what stands at the place is the least that is asked for
pub found_least : GatesLaw → (q : Query) (g : Circuit) (used : Used) (n : ℕ) (found other : Option (List Bool)) → g ≡ gates_of q → IsFoundAt g used n → found ≡ get_or used.found.items n other → found ≡ least_of q
found_least law q g used n found other e at is =
    is ∙ (get_or_from_slice_get used.found.items n (found_bits at.claim) other at.is ∙ sym (law q.case.parent (required_of q) (class_of q) at.claim (subst (λ h. IsSo h at.claim) e at.so)))

reported : (done : List Query) (q : Query) (first reports : List Report) → reports ≡ first ++ filter_map query_report done
    → reports ++ option_to_list (query_report q) ≡ first ++ filter_map query_report (done ++ q ∷ [])
reported done q first reports e =
    ap (λ rs. rs ++ option_to_list (query_report q)) e
    ∙ (append_assoc first (filter_map query_report done) (option_to_list (query_report q))
    ∙ ap (λ rs. first ++ rs) (one (query_report q) refl ∙ sym (filter_map-append query_report done (q ∷ []))))
  where
    one : (r : Option Report) → query_report q ≡ r → filter_map query_report done ++ option_to_list (query_report q) ≡ filter_map query_report done ++ filter_map query_report (q ∷ [])
    one None k = rw k refl
    one (Some r) k = rw k refl

-- it is judged
pub query_judged : (budget : ℕ) (given : List KnownRecord) (q : Query) (g : Circuit) (old new : Progress) (before lowered now : Counts)
    → g ≡ gates_of q → IsCircuit g → IsWithin q → MayLower before lowered
    → ((start : Counts) (gates : List Circuit) (count : ℕ) → AreUsed budget given start gates old.used count lowered → AreUsed budget given start (gates ++ g ∷ []) new.used count now)
    → (budget ≡ 0 → HasBacked given g) → new.reports ≡ old.reports ++ option_to_list (query_report q) → new.queries ≡ old.queries + 1
    → (start : Outset) (done : List Query) → IsAt budget given start done old before → IsAt budget given start (done ++ q ∷ []) new now
query_judged budget given q g old new before lowered now e formed within ticked uses backed reports queries start done at =
    let step = may_lower budget given start.counts (map gates_of done) old.used at.lowered (length done) before lowered ticked at.few at.used in
    let used = uses start.counts (map gates_of done) step.0 step.2 in
    let gates : map gates_of done ++ g ∷ [] ≡ map gates_of (done ++ q ∷ []) = ap (λ h. map gates_of done ++ h ∷ []) e ∙ sym (map_more gates_of done q) in
    record {
      lowered = step.0;
      few = subst (λ n. step.0 ≤ n) (sym (long_more done q)) step.1;
      used = subst (λ gs. AreUsed budget given start.counts gs new.used step.0 now) gates used;
      reports_are = reports ∙ reported done q start.reports old.reports at.reports_are;
      queries_are = queries ∙ (ap (λ n. n + 1) at.queries_are ∙ sym (long_more done q));
      within = all_more IsWithin done q at.within within;
      formed = all_more (λ (q : Query). IsCircuit (gates_of q)) done q at.formed (subst IsCircuit e formed);
      backed = λ none. all_more (λ (q : Query). HasBacked given (gates_of q)) done q (at.backed none) (subst (HasBacked given) e (backed none));
    }

-- it is refused
pub query_refused : (budget : ℕ) (given : List KnownRecord) (q : Query) (old : Progress) (before : Counts) (fault : JudgeFault) → Cause budget given q fault
    → (start : Outset) (done rest : List Query) → IsAt budget given start done old before → Stops budget given (done ++ (q ∷ [] ++ rest)) old.queries fault
query_refused budget given q old before (Spent name sets) cause start done rest at = record { before = done; query = q; behind = rest; queries_are = refl; within = at.within; certs = at.used.certs; are = at.used.are; backed = at.backed; count_is = at.queries_are; cause = cause }
query_refused budget given q old before (Limit place number) cause start done rest at = record { before = done; query = q; behind = rest; queries_are = refl; within = at.within; certs = at.used.certs; are = at.used.are; backed = at.backed; count_is = at.queries_are; cause = cause }
query_refused budget given q old before NoMemory cause start done rest at = tt
