-- What the answers carry.
use Rattle.std.proofs.Common.{◌≡◌, inl, ℕ, ◌*◌, ◌≤◌, Bool, Option, Some, None, List, [], ◌∷◌, ◌++◌, length, refl, sym, ap, subst, ◌∙◌, append-nil, arith}
use Rattle.gv_logic.specs.Formulas.{Formula}
use Rattle.gv_logic.specs.Logs.{Step, step_clauses}
use Rattle.gv_logic.specs.Partial.{AllQuiet}
use Rattle.gv_trail.specs.Entries.{Entry, State, assignment, level_after, AreLevels}
use Rattle.gv_trail.specs.Propagation.{IsFalseAt}
use Rattle.gv_solver.specs.Clash.{AreAmong, Clashes}
use Rattle.gv_trail.specs.Derived.{IsTrail}
use Rattle.gv_solver.specs.Work.{IsWork, Lesson}
use Rattle.gv_solver.specs.Rounds.{IsModel, IsRefuted}
use Rattle.gv_solver.specs.Found.{IsRefutation, IsLeastModel, IsSpent, bits_to}
use Rattle.gv_solver.specs.Proving.{AreOnByForce, AreLeastBits}
use Rattle.gv_solver.specs.declared.rounds.Work.{Work}
use Rattle.gv_solver.proofs.Derive.{clash_closed}
use Rattle.gv_solver.proofs.Forced.{least_clash, length-bits}
use Rattle.gv_solver.proofs.Lessons.{learns_none, work_ends}
use Rattle.gv_solver.proofs.Retreat.{levels_least}

pub work_start : (f : Formula) (inputs : ℕ) (w : Work) → w.clauses ≡ f → w.log ≡ [] → w.sets ≡ [] → IsWork f inputs w
work_start f inputs w c l s = record {
  variables = ap (λ (x : Formula). x.variables) c;
  names = ap (λ (x : Formula). x.clauses) c ∙ sym (append-nil f.clauses) ∙ ap (λ x. f.clauses ++ step_clauses x) (sym l);
  valid = rw l refl;
  stand = rw s tt;
  kept = rw s tt;
  rising = rw s tt;
}

pub forced_from : (f : Formula) (inputs : ℕ) (s : State) (bits : List Bool) → IsTrail f s → IsModel f.clauses inputs s → bits ≡ bits_to (assignment s) inputs → AreOnByForce f.clauses bits inputs
forced_from f inputs s bits t m is = subst (λ b. AreOnByForce f.clauses b inputs) (sym is) (λ i lt on. least_clash f.clauses inputs s i t.derived m.searched.ordered lt on)

quiet_front : (on : List Bool) (a b : List (List ℕ)) → AllQuiet on (a ++ b) → AllQuiet on a
quiet_front on [] b q = tt
quiet_front on (x ∷ xs) b q = (q.0, quiet_front on xs b q.1)

pub least_model : (f : Formula) (inputs budget : ℕ) (w : Work) (s : State) (bits : List Bool) (log : List Step) → IsWork f inputs w → length w.log ≤ 2 * length w.sets → length w.sets ≤ budget
    → IsTrail w.clauses s → IsModel w.clauses.clauses inputs s → AreLeastBits w.clauses inputs s bits w.log log → IsLeastModel f inputs budget bits log
least_model f inputs budget w s bits log h long le t m least =
    let is = least.are in
    let q = least.proves f (sym h.variables) h.valid h.names in
    let size : length bits ≡ inputs = ap length is ∙ length-bits (assignment s) inputs in
    record {
      model = record {
        on = assignment s;
        proper = t.proper;
        quiet = quiet_front (assignment s) f.clauses (step_clauses w.log) (subst (AllQuiet (assignment s)) h.names m.quiet);
        assigned = m.assigned;
        bits_are = is;
      };
      valid = q.valid;
      proves = λ i l on. q.least i (rw size at l) on;
      short = omega (arith, q.count, long, le);
    }

pub spent : (f : Formula) (inputs budget : ℕ) (w : Work) → IsWork f inputs w → length w.log ≤ 2 * length w.sets → length w.sets ≤ budget → budget ≤ length w.sets → IsSpent f inputs budget w.log w.sets
spent f inputs budget w h long le ge = record {
  valid = h.valid;
  kept = h.kept;
  rising = h.rising;
  count = omega (arith, le, ge);
  stand = h.stand;
  short = omega (arith, long, le);
}

pub refuted : (f : Formula) (inputs budget : ℕ) (old new : Work) → IsWork f inputs old → length old.log ≤ 2 * length old.sets → length old.sets ≤ budget → IsRefuted f old new → IsRefutation f inputs budget new.log
refuted f inputs budget old new h long le r = record { valid = r.valid; proves = r.proves; short = omega (arith, r.count, long, le) }

-- before anything was learned
abbrev start : Formula → Work
start f = record { clauses = f; log = []; sets = [] }

pub model_at_once : (f : Formula) (inputs budget : ℕ) (s : State) (bits : List Bool) (log : List Step) → IsTrail f s → IsModel f.clauses inputs s → AreLeastBits f inputs s bits [] log → IsLeastModel f inputs budget bits log
model_at_once f inputs budget s bits log t m least = least_model f inputs budget (start f) s bits log (work_start f inputs (start f) refl refl refl) (omega arith) (omega arith) t m least

pub refuted_at_once : (f : Formula) (inputs budget : ℕ) (step : Step) (log : List Step) → step.clause ≡ [] → Lesson f step → log ≡ [] ++ step ∷ [] → IsRefutation f inputs budget log
refuted_at_once f inputs budget step log empty l is =
    let after : Work = record { clauses = f; log = log; sets = [] } in
    let begun = work_start f inputs (start f) refl refl refl in
    refuted f inputs budget (start f) after begun (omega arith) (omega arith) (work_ends f inputs (start f) (start f) after step begun (learns_none (start f)) empty l is)

-- no decision stands at level 0
pub no_decision : (set : List ℕ) (last : ℕ) (es : List Entry) → AreLevels 0 es last → last ≡ 0 → AreAmong set es
no_decision set last [] a z = tt
no_decision set last (e ∷ es) a z = (λ r. absurd (none e.reason r a.1), rest e.reason a.1 (λ b. no_decision set last es b z))
  where
    none : (r : Option ℕ) → r ≡ None → AreLevels (level_after r 0) es last → ⊥
    none None q b = let h = levels_least 1 last es b in omega (arith, h, z)
    none (Some k) q b = cc

    rest : (r : Option ℕ) → AreLevels (level_after r 0) es last → (AreLevels 0 es last → AreAmong set es) → AreAmong set es
    rest None b go = let h = levels_least 1 last es b in absurd (omega (arith, h, z))
    rest (Some k) b go = go b

pub clash_at_once : (f : Formula) (s : State) (k : ℕ) → IsTrail f s → s.level ≡ 0 → IsFalseAt f.clauses (assignment s) k → Clashes [] f.clauses
clash_at_once f s k t z told = clash_closed f.clauses [] s k t.derived (record { among = no_decision [] s.level s.entries t.levels z; ends = inl told })
