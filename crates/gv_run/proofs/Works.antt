-- What a session keeps through its commands, and what they lower.
use Rattle.std.proofs.Common.{◌≡◌, ℕ, ◌+◌, ◌≤◌, List, [], ◌∷◌, ◌++◌, length, Some, None, sym, ap, subst, ◌∙◌, append_assoc, length-append, arith}
use Rattle.std.specs.Prelude.{Option, IfSome}
use Rattle.std.proofs.lemmas.List.{take-append-le}
use Rattle.gv_base.specs.FileMap.{FileMap}
use Rattle.gv_edits.specs.declared.command.Command.{Command}
use Rattle.gv_edits.specs.declared.command.Command.TheVariants.{Report}
use Rattle.gv_edits.specs.declared.edit.Edit.{Edit}
use Rattle.gv_report.specs.declared.options.Options.{Options}
use Rattle.gv_session.specs.Session.{Agrees, IsFound, IsLast, IsLoaded, State, seen_in, with_edit}
use Rattle.gv_session.specs.declared.last.Last.{Last}
use Rattle.gv_run.specs.Session.{due_in, work}
use Rattle.gv_run.specs.SessionSteps.{At, Lowers, LowersAll, Sees, work_from}

-- ---- what is kept

-- what the last report left is so behind one more edit
kept_on : (options : Options) (edits : List Edit) (edit : Edit) (told : Option FileMap) (l : Last) → IsLast options edits told l → IsLast options (edits ++ edit ∷ []) told l
kept_on options edits edit told l is = record {
  repo = is.repo;
  but = is.but;
  bodies = is.bodies;
  order = is.order;
  classless = is.classless;
  few = omega (arith, is.few, length-append edits (edit ∷ []));
  loaded = subst (λ (es : List Edit). IsLoaded es told is.repo) (sym (take-append-le l.seen edits (edit ∷ []) is.few)) is.loaded;
  found = subst (λ (es : List Edit). IsFound es told l.loaded) (sym (take-append-le l.seen edits (edit ∷ []) is.few)) is.found;
  within = is.within;
  reports = is.reports;
  mentioned = is.mentioned;
}

pub agrees_on : (told : Option FileMap) (s s' : State) (edit : Edit) → s' ≡ with_edit s edit → Agrees told s → Agrees told s'
agrees_on told s s' edit is agrees = subst (Agrees told) (sym is) (by s.last agrees)
  where
    by : (last : Option Last) → IfSome last (IsLast s.options s.edits told) → IfSome last (IsLast s.options (s.edits ++ edit ∷ []) told)
    by None kept = tt
    by (Some l) kept = kept_on s.options s.edits edit told l kept

-- of the same files it is so too
pub agrees_still : (told told' : Option FileMap) (s : State) → told' ≡ told → Agrees told s → Agrees told' s
agrees_still told told' s same agrees = subst (λ (x : Option FileMap). Agrees x s) (sym same) agrees

-- before the first report nothing is kept
pub agrees_first : (told : Option FileMap) (s : State) → s.last ≡ None → Agrees told s
agrees_first told s none = subst (λ (last : Option Last). IfSome last (IsLast s.options s.edits told)) (sym none) tt

-- ---- what is lowered

-- of numbers alone, so that no work is unfolded
as_much : (n : ℕ) → n ≤ n
as_much n = omega arith

no_more : (now before : ℕ) → now ≡ before → now ≤ before + 0
no_more now before same = omega (arith, same)

same_more : (now before here there : ℕ) → now ≡ before → here ≡ there → now + here ≤ before + there
same_more now before here there same is = omega (arith, same, is)

due_more : (now before due here there : ℕ) → now ≤ before + due → here ≡ there → now + here ≤ before + (due + there)
due_more now before due here there few is = omega (arith, few, is)

within_both : (now between before here there : ℕ) → now ≤ between + here → between + here ≤ before + there → now ≤ before + there
within_both now between before here there first second = omega (arith, first, second)

module _ (told : Option FileMap) (p : At) where
  pub lowers_nothing : Lowers told p p []
  lowers_nothing = by told
    where
      by : (told : Option FileMap) → Lowers told p p []
      by None = tt
      by (Some files) = λ more. as_much (p.lower + work_from p files more)

  pub lowers_none : (lower : ℕ) → lower ≡ p.lower → LowersAll told p [] lower
  lowers_none lower same = by told
    where
      by : (told : Option FileMap) → LowersAll told p [] lower
      by None = tt
      by (Some files) = no_more lower p.lower same

  module _ (q : At) where
    -- an edit lowers nothing
    pub lowers_edit : (command : Command) (edit : Edit) → ((files : FileMap) (more : List Command) → work_from p files (command ∷ more) ≡ work p.state.options files (p.state.edits ++ edit ∷ []) (seen_in p.state) more)
        → q.state ≡ with_edit p.state edit → q.lower ≡ p.lower → Lowers told p q (command ∷ [])
    lowers_edit command edit is state same = by told
      where
        by : (told : Option FileMap) → Lowers told p q (command ∷ [])
        by None = tt
        by (Some files) = λ more.
            let here : work_from q files more ≡ work p.state.options files (p.state.edits ++ edit ∷ []) (seen_in p.state) more = ap (λ (s : State). work s.options files s.edits (seen_in s) more) state in
            same_more q.lower p.lower (work_from q files more) (work_from p files (command ∷ more)) same (here ∙ sym (is files more))

    -- a report lowers what is due
    pub lowers_report : Sees told p.state q.state p.lower q.lower → Lowers told p q (Report ∷ [])
    lowers_report sees = by told sees.few
      where
        by : (told : Option FileMap) → IfSome told (λ files. q.lower ≤ p.lower + due_in p.state.options files p.state.edits (seen_in p.state)) → Lowers told p q (Report ∷ [])
        by None few = tt
        by (Some files) few = λ more.
            let here : work_from q files more ≡ work p.state.options files p.state.edits (Some (length p.state.edits)) more =
            ap (λ (o : Options). work o files q.state.edits (seen_in q.state) more) sees.options
            ∙ (ap (λ (es : List Edit). work p.state.options files es (seen_in q.state) more) sees.edits ∙ ap (λ (n : Option ℕ). work p.state.options files p.state.edits n more) sees.seen) in
            due_more q.lower p.lower (due_in p.state.options files p.state.edits (seen_in p.state)) (work_from q files more) _ few here

    module _ (done : List Command) (lowers : Lowers told p q done) (more : List Command) where
      -- and on
      pub lowers_on : (r : At) → Lowers told q r more → Lowers told p r (done ++ more)
      lowers_on r then_lowers = by told lowers then_lowers
        where
          by : (told : Option FileMap) → Lowers told p q done → Lowers told q r more → Lowers told p r (done ++ more)
          by None first second = tt
          by (Some files) first second = λ rest.
              subst (λ (cs : List Command). r.lower + work_from r files rest ≤ p.lower + work_from p files cs) (sym (append_assoc done more rest))
              (within_both (r.lower + work_from r files rest) q.lower p.lower (work_from q files (more ++ rest)) (work_from p files (done ++ (more ++ rest))) (second rest) (first (more ++ rest)))

      pub lowers_to_end : (lower : ℕ) → LowersAll told q more lower → LowersAll told p (done ++ more) lower
      lowers_to_end lower all = by told lowers all
        where
          by : (told : Option FileMap) → Lowers told p q done → LowersAll told q more lower → LowersAll told p (done ++ more) lower
          by None first second = tt
          by (Some files) first second = within_both lower q.lower p.lower (work_from q files more) (work_from p files (done ++ more)) second (first more)
