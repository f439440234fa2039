use Rattle.std.proofs.Common.{◌≡◌, Bool, List, [], ◌∷◌, ◌++◌, Bor, map, take, drop, get_or, sym, ap, ◌∙◌, append_assoc, ◌<◌, length, arith, ◌+◌, suc, ℕ}
use Rattle.std.specs.Prelude.{not}
use Rattle.std.proofs.Math.Seq.{drop-cons}
use Rattle.std.proofs.lemmas.List.{take_more}
use Rattle.gv_report.specs.declared.report.Report.{Report}
use Rattle.gv_report.specs.Marks.{are_new}
use Rattle.gv_report.specs.Distinct.{has_report}
use Rattle.gv_report.specs.FirstReports.{found, sees}
use Rattle.gv_report.proofs.distinct.are_new.Goals as goal

taken : (rs : List Report) (i : ℕ) (r : Report) → i < length rs → r ≡ get_or rs i r → take (i + 1) rs ≡ take i rs ++ r ∷ []
taken rs i r low is = take_more rs i r low ∙ ap (λ x. take i rs ++ x ∷ []) (sym is)

left : (rs : List Report) (i : ℕ) (r : Report) → i < length rs → r ≡ get_or rs i r → drop i rs ≡ r ∷ drop (i + 1) rs
left rs i r low is = drop-cons rs i r low ∙ ap (λ x. x ∷ drop (suc i) rs) (sym is) ∙ ap (λ n. r ∷ drop n rs) (next i)
  where
    next : (i : ℕ) → suc i ≡ i + 1
    next i = omega arith

more : (rs : List Report) (i : ℕ) (r : Report) (marks : List Bool) (b : Bool) → i < length rs → r ≡ get_or rs i r → b ≡ not (has_report (take i rs) r)
    → marks ++ are_new (take i rs) (drop i rs) ≡ are_new [] rs → (marks ++ b ∷ []) ++ are_new (take (i + 1) rs) (drop (i + 1) rs) ≡ are_new [] rs
more rs i r marks b low is new h =
    append_assoc marks (b ∷ []) _ ∙ ap (λ x. marks ++ x ∷ are_new (take (i + 1) rs) (drop (i + 1) rs)) new
    ∙ ap (λ f. marks ++ not (has_report (take i rs) r) ∷ are_new f (drop (i + 1) rs)) (taken rs i r low is)
    ∙ sym (ap (λ l. marks ++ are_new (take i rs) l) (left rs i r low is)) ∙ h

pub loop-report-preserved : goal.loop-report-preserved
loop-report-preserved c =
    let rs = c.args.reports.now in
    let i = c.loop-report.report-index in
    let r = c.report-item.result in
    let low : i < length rs = c.loop-report-test.true in
    let is : r ≡ get_or rs i r = c.report-item.is in
    let seen = c.loop-report.invariant.seen in
    let new : c.in_ok-is_new.is_new ≡ not (has_report (take i rs) r) =
    c.in_ok-is_new.ensures.added ∙ ap not (found c.loop-report.seen.keys r ∙ seen r) in
    record {
      marks = ap (λ l. l ++ are_new (take (i + 1) rs) (drop (i + 1) rs)) c.in_ok-push.ensures.items
          ∙ more rs i r c.loop-report.marks.items c.in_ok-is_new.is_new low is new c.loop-report.invariant.marks;
      seen = λ q. ap (λ keys. has_report (map (λ (k : Bor Report). k.now) keys) q) c.in_ok-is_new.ensures.keys
          ∙ sees c.loop-report.seen.keys (take i rs) _ seen q ∙ ap (λ l. has_report l q) (sym (taken rs i r low is));
    }
