-- What a session keeps is so of the same files behind one more edit.
use Rattle.std.proofs.Common.{◌≡◌, List, [], ◌∷◌, ◌++◌, Some, None, sym, subst, length-append, arith}
use Rattle.std.specs.Prelude.{Option, IfSome}
use Rattle.std.proofs.lemmas.List.{take-append-le}
use Rattle.gv_base.specs.FileMap.{FileMap}
use Rattle.gv_edits.specs.declared.edit.Edit.{Edit}
use Rattle.gv_report.specs.declared.options.Options.{Options}
use Rattle.gv_session.specs.Session.{Agrees, IsFound, IsLast, IsLoaded, State, with_edit}
use Rattle.gv_session.specs.declared.last.Last.{Last}

kept_on : (options : Options) (edits : List Edit) (edit : Edit) (told : Option FileMap) (l : Last) → IsLast options edits told l → IsLast options (edits ++ edit ∷ []) told l
kept_on options edits edit told l is = record {
  repo = is.repo;
  but = is.but;
  bodies = is.bodies;
  order = is.order;
  classless = is.classless;
  few = omega (arith, is.few, length-append edits (edit ∷ []));
  loaded = subst (λ (es : List Edit). IsLoaded es told is.repo) (sym (take-append-le l.seen edits (edit ∷ []) is.few)) is.loaded;
  found = subst (λ (es : List Edit). IsFound es told l.loaded) (sym (take-append-le l.seen edits (edit ∷ []) is.few)) is.found;
  within = is.within;
  reports = is.reports;
  mentioned = is.mentioned;
}

pub agrees_on : (told : Option FileMap) (s s' : State) (edit : Edit) → s' ≡ with_edit s edit → Agrees told s → Agrees told s'
agrees_on told s s' edit is agrees = subst (Agrees told) (sym is) (by s.last agrees)
  where
    by : (last : Option Last) → IfSome last (IsLast s.options s.edits told) → IfSome last (IsLast s.options (s.edits ++ edit ∷ []) told)
    by None kept = tt
    by (Some l) kept = kept_on s.options s.edits edit told l kept
