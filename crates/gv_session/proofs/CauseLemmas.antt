-- Why there is no report: faults that are handed on.
use Rattle.std.proofs.Common.{◌≡◌, ℕ, List, [], refl, sym, subst, Option}
use Rattle.std.specs.Prelude.{Result, Ok, Err, IfErr}
use Rattle.gv_base.specs.Counts.{Counts}
use Rattle.gv_base.specs.FileMap.{FileMap}
use Rattle.gv_checks.specs.Limits.{Refuses}
use Rattle.gv_checks.specs.Queries.{queries}
use Rattle.gv_checks.specs.declared.fault.JudgeFault.{JudgeFault}
use Rattle.gv_checks.specs.declared.fault.JudgeFault.TheVariants as judges
use Rattle.gv_edits.specs.Edits.{edited_told}
use Rattle.gv_edits.specs.declared.edit.Edit.{Edit}
use Rattle.gv_reload.specs.EntryEdits.{IsAllBut}
use Rattle.gv_load.specs.Loading.{LoadCause}
use Rattle.gv_reload.specs.Rereading.{RereadCause}
use Rattle.gv_reading.specs.declared.faults.LoadFault.{LoadFault}
use Rattle.gv_reading.specs.declared.faults.LoadFault.TheVariants as loads
use Rattle.gv_load.specs.declared.loading.Repo.{Repo}
use Rattle.gv_report.specs.declared.options.Options.{Options}
use Rattle.gv_session.specs.Handing.{EditedCause, HandsJudge, HandsLoad, failed_at}
use Rattle.gv_session.specs.Session.{CauseFor, IsLoaded, JudgeCause}
use Rattle.gv_session.specs.declared.fault.SessionFault.{SessionFault}
use Rattle.gv_session.specs.declared.fault.SessionFault.TheVariants.{Load, Judge, NoMemory}
use Rattle.gv_session.specs.declared.last.Last.{Last}

pub itself : (repo : Repo) → IsAllBut repo repo
itself repo = record { pkgs = refl; bodies = refl; profiles = refl; lines = refl }

-- what is told of the queries of a whole repository is told with the part that was judged
pub unjudged : (options : Options) (part whole : Repo) (fault : JudgeFault) (out : SessionFault) → IsAllBut part whole → Refuses options.budget [] (queries options whole) fault → HandsJudge part fault out
    → JudgeCause options whole out
unjudged options part whole (judges.Spent name sets) out but refuses is = subst (JudgeCause options whole) (sym is) (but, refuses)
unjudged options part whole (judges.Limit place number) out but refuses is = subst (JudgeCause options whole) (sym is) (but, refuses)
unjudged options part whole judges.NoMemory out but refuses is = subst (JudgeCause options whole) (sym is) tt

pub judge_cause : (options : Options) (repo : Repo) (fault : JudgeFault) (out : SessionFault) → Refuses options.budget [] (queries options repo) fault → HandsJudge repo fault out
    → JudgeCause options repo out
judge_cause options repo fault out = unjudged options repo repo fault out (itself repo)

-- a fault that is told where a call of the tree below failed
pub edited_cause : (told : Option FileMap) (before now : ℕ) (failed : Option (List ℕ)) (fault : LoadFault) → LoadCause told before now fault → EditedCause told before now (failed_at failed fault)
edited_cause told before now failed (loads.Tree path) cause = cause.0
edited_cause told before now failed (loads.NotARepository path) cause = cause
edited_cause told before now failed (loads.Limit place number) cause = cause
edited_cause told before now failed loads.NoMemory cause = tt

pub reread_still : (before now : ℕ) (failed : Option (List ℕ)) (fault : LoadFault) → RereadCause before now fault → RereadCause before now (failed_at failed fault)
reread_still before now failed (loads.Tree path) cause = cause
reread_still before now failed (loads.NotARepository path) cause = cause
reread_still before now failed (loads.Limit place number) cause = cause
reread_still before now failed loads.NoMemory cause = tt

module _ (options : Options) (edits : List Edit) (told : Option FileMap) (tree_before tree_now : ℕ) where
  pub load_cause : (counts : Counts) (fault : LoadFault) (out : SessionFault) → EditedCause (edited_told told edits) tree_before tree_now fault → HandsLoad fault out
      → CauseFor options edits told tree_before tree_now counts counts out
  load_cause counts (loads.Tree path) out cause is = subst (CauseFor options edits told tree_before tree_now counts counts) (sym is) (cause, refl)
  load_cause counts (loads.NotARepository path) out cause is = subst (CauseFor options edits told tree_before tree_now counts counts) (sym is) (cause.0, (refl, cause.1))
  load_cause counts (loads.Limit place number) out cause is = subst (CauseFor options edits told tree_before tree_now counts counts) (sym is) (cause.0, (refl, cause.1))
  load_cause counts loads.NoMemory out cause is = subst (CauseFor options edits told tree_before tree_now counts counts) (sym is) tt

  pub reread_cause : (counts : Counts) (fault : LoadFault) (out : SessionFault) → RereadCause tree_before tree_now fault → HandsLoad fault out
      → CauseFor options edits told tree_before tree_now counts counts out
  reread_cause counts (loads.Tree path) out cause is = subst (CauseFor options edits told tree_before tree_now counts counts) (sym is) (cause, refl)
  reread_cause counts (loads.NotARepository path) out cause is = absurd cause
  reread_cause counts (loads.Limit place number) out cause is = absurd cause
  reread_cause counts loads.NoMemory out cause is = subst (CauseFor options edits told tree_before tree_now counts counts) (sym is) tt

  -- the repository was loaded, and not judged
  pub refused : (before now : Counts) (repo : Repo) (fault : SessionFault) → IsLoaded edits told repo → JudgeCause options repo fault → tree_now ≡ tree_before
      → CauseFor options edits told tree_before tree_now before now fault
  refused before now repo (Load fault) loaded cause same = absurd cause
  refused before now repo (Judge (judges.Spent name sets) named) loaded cause same = (same, (repo, (loaded, cause)))
  refused before now repo (Judge (judges.Limit place number) named) loaded cause same = (same, (repo, (loaded, cause)))
  refused before now repo (Judge judges.NoMemory named) loaded cause same = absurd cause
  refused before now repo NoMemory loaded cause same = tt

  pub refused_all : (before now : Counts) (repo : Repo) (result : Result Last SessionFault) → IsLoaded edits told repo → IfErr result (JudgeCause options repo) → tree_now ≡ tree_before
      → IfErr result (CauseFor options edits told tree_before tree_now before now)
  refused_all before now repo (Ok l) loaded cause same = tt
  refused_all before now repo (Err fault) loaded cause same = refused before now repo fault loaded cause same
