-- From what judging answers to the text of a scan.
use Rattle.std.proofs.Common.{◌≡◌, ℕ, ◌+◌, ◌≤◌, Bool, true, false, if◌then◌else◌, List, [], ◌∷◌, ◌++◌, filter, length, length-append, refl, sym, ap, subst, ◌∙◌, arith}
use Rattle.std.specs.Prelude.{Option, None, Some, IfSome, take}
use Rattle.std.proofs.lemmas.List.{take-append-le}
use Rattle.gv_base.specs.Counts.{Counts}
use Rattle.gv_base.specs.FileMap.{FileMap}
use Rattle.gv_edits.specs.Edits.{edited}
use Rattle.gv_edits.specs.declared.edit.Edit.{Edit}
use Rattle.gv_checks.specs.RepoReports.{reports as all_reports, scan_reports, scan_text}
use Rattle.gv_reload.specs.EntryEdits.{IsAllBut}
use Rattle.gv_load.specs.Repository.{AreInPackageOrder, folders_of}
use Rattle.gv_load.specs.declared.loading.Folders.{Folders}
use Rattle.gv_load.specs.declared.loading.Repo.{Repo}
use Rattle.gv_reading.specs.Look.{look_of}
use Rattle.gv_report.specs.Emitted.{emitted, reports_text}
use Rattle.gv_report.specs.Distinct.{ordered}
use Rattle.gv_report.specs.Selecting.{selected}
use Rattle.gv_report.specs.declared.options.Options.{Options}
use Rattle.gv_report.specs.declared.report.Report.{Report}
use Rattle.gv_session.specs.Due.{due}
use Rattle.gv_session.specs.Judging.{IsJudgedFor, IsRefusedFor, Outset, outset, seen_by}
use Rattle.gv_session.specs.Session.{Agrees, IsFound, IsLast, IsLoaded, IsReport, ReportCause, State, seen_in, with_edit}
use Rattle.gv_session.specs.declared.fault.SessionFault.{SessionFault}
use Rattle.gv_session.specs.declared.last.Last.{Last}
use Rattle.gv_session.proofs.EditLemmas.{found_at, take_all}

abbrev pub PickedLaw : Type 0
PickedLaw = (p : Report → Bool) (rs : List Report) → filter p (ordered rs) ≡ ordered (filter p rs)

-- what is picked out is picked out again
twice : {A : Type 0} (p : A → Bool) (xs : List A) → filter p (filter p xs) ≡ filter p xs
twice p [] = refl
twice p (x ∷ xs) = by (p x) refl (twice p xs)
  where
    by : (b : Bool) → p x ≡ b → filter p (filter p xs) ≡ filter p xs → filter p (if b then x ∷ filter p xs else filter p xs) ≡ (if b then x ∷ filter p xs else filter p xs)
    by true e rest = rw e (ap (λ ys. x ∷ ys) rest)
    by false e rest = rest

-- the text of reports that are judged is that of the scan
text_is : PickedLaw → (options : Options) (repo : Repo) (reports : List Report) (text : List ℕ) → reports ≡ scan_reports options repo → text ≡ emitted options reports → text ≡ scan_text options repo
text_is law options repo reports text is made =
    made ∙ (ap (emitted options) is ∙ ap (reports_text options.json) (law (selected options) (filter (selected options) (all_reports repo)) ∙ ap ordered (twice (selected options) (all_reports repo))))

from_part : (whole repo : Repo) → IsAllBut repo whole → length repo.bodies ≡ length repo.pkgs → length whole.bodies ≡ length whole.pkgs
from_part whole repo but is = ap length but.bodies ∙ is ∙ sym (ap length but.pkgs)

-- the folders are those of the edited files
few_in : (s : State) (told : Option FileMap) (before now : Counts) (l : Last) → (j : IsJudgedFor (outset s.options s.edits told (seen_in s) before) now l)
    → IfSome told (λ files. now.lower ≤ before.lower + due s.options j.repo (folders_of (look_of (edited files s.edits))) s.edits (seen_in s))
few_in s told before now l j = by told j.found j.few
  where
    by : (told : Option FileMap) → IsFound s.edits told l.loaded → IfSome told (λ files. now.lower ≤ before.lower + due s.options j.repo l.loaded.folders s.edits (seen_in s))
        → IfSome told (λ files. now.lower ≤ before.lower + due s.options j.repo (folders_of (look_of (edited files s.edits))) s.edits (seen_in s))
    by None found few = tt
    by (Some files) found few = subst (λ (f : Folders). now.lower ≤ before.lower + due s.options j.repo f s.edits (seen_in s)) (found_at s.edits files l.loaded found).1 few

pub is_report : PickedLaw → (s : State) (told : Option FileMap) (before now : Counts) (l : Last) (text : List ℕ) → IsJudgedFor (outset s.options s.edits told (seen_in s) before) now l
    → text ≡ emitted s.options l.reports → IsReport s told before now text
is_report law s told before now l text j made = record {
  repo = j.repo;
  loaded = j.loaded;
  bodies = from_part j.repo l.loaded.repo j.but j.bodies;
  order = subst AreInPackageOrder (sym j.but.pkgs) j.order;
  judged = record { within = j.within; text_is = text_is law s.options j.repo l.reports text j.reports made; lowered = j.lowered };
  few = few_in s told before now l j;
}

pub agrees_after : (options : Options) (edits : List Edit) (told : Option FileMap) (seen : Option ℕ) (before now : Counts) (l : Last) → IsJudgedFor (outset options edits told seen before) now l
    → IsLast options edits told l
agrees_after options edits told seen before now l j = record {
  repo = j.repo;
  but = j.but;
  bodies = j.bodies;
  order = j.order;
  classless = j.classless;
  few = subst (λ n. n ≤ length edits) (sym j.seen) (omega (arith));
  loaded = subst (λ es. IsLoaded es told j.repo) (sym (ap (λ n. take n edits) j.seen ∙ take_all edits)) j.loaded;
  found = subst (λ es. IsFound es told l.loaded) (sym (ap (λ n. take n edits) j.seen ∙ take_all edits)) j.found;
  within = j.within;
  reports = j.reports;
  mentioned = j.mentioned;
}

-- ---- one more edit: what was kept is of the edits before it
pub agrees_with : (s : State) (edit : Edit) (told : Option FileMap) → Agrees told s → Agrees told (with_edit s edit)
agrees_with s edit told agrees = by s.last agrees
  where
    by : (last : Option Last) → IfSome last (IsLast s.options s.edits told) → IfSome last (IsLast s.options (s.edits ++ edit ∷ []) told)
    by None kept = tt
    by (Some l) kept = record {
      repo = kept.repo;
      but = kept.but;
      bodies = kept.bodies;
      order = kept.order;
      classless = kept.classless;
      few = at_most (length s.edits) (length (s.edits ++ edit ∷ [])) l.seen kept.few (length-append s.edits (edit ∷ []));
      loaded = subst (λ es. IsLoaded es told kept.repo) (sym (take-append-le l.seen s.edits (edit ∷ []) kept.few)) kept.loaded;
      found = subst (λ es. IsFound es told l.loaded) (sym (take-append-le l.seen s.edits (edit ∷ []) kept.few)) kept.found;
      within = kept.within;
      reports = kept.reports;
      mentioned = kept.mentioned;
    }
      where
        at_most : (n m seen : ℕ) → seen ≤ n → m ≡ n + 1 → seen ≤ m
        at_most n m seen few more = omega (arith, few, more)

-- ---- a session as it is seen, from which what the last report left was taken

module _ (s seen_as : State) (is : seen_as ≡ s) (told : Option FileMap) (last : Option Last) (taken : last ≡ seen_as.last) (before : Counts) where
  abbrev o : Outset
  o = outset seen_as.options seen_as.edits told (seen_by last) before

  -- what was taken is so of these files
  pub kept : Agrees told s → IfSome last (IsLast seen_as.options seen_as.edits told)
  kept agrees = subst (λ (l : Option Last). IfSome l (IsLast seen_as.options seen_as.edits told)) (sym taken) (subst (Agrees told) (sym is) agrees)

  module _ (now : Counts) (l : Last) (judged : IsJudgedFor o now l) where
    pub reported : PickedLaw → (text : List ℕ) → text ≡ emitted seen_as.options l.reports → IsReport s told before now text
    reported law text made =
        subst (λ t. IsReport t told before now text) is
        (is_report law seen_as told before now l text (subst (λ (k : Option Last). IsJudgedFor (outset seen_as.options seen_as.edits told (seen_by k) before) now l) taken judged) made)

    pub left : IsLast seen_as.options seen_as.edits told l
    left = agrees_after seen_as.options seen_as.edits told o.seen before now l judged

    pub all_seen : l.seen ≡ length s.edits
    all_seen = judged.seen ∙ ap (λ (t : State). length t.edits) is

  pub unreported : (now : Counts) (fault : SessionFault) (tree_before tree_now : ℕ) → IsRefusedFor o tree_before tree_now now fault → ReportCause s told tree_before tree_now before now fault
  unreported now fault tree_before tree_now refused = subst (λ t. ReportCause t told tree_before tree_now before now fault) is refused
