-- From how a command ends and how that is told to what a run leaves, and back to the command's own part of it.
use Rattle.std.proofs.Common.{◌≡◌, ℕ, ◌≤◌, ◌<◌, Bool, true, false, List, None, refl, sym, ap, subst, ◌∙◌, inl, inr, arith}
use Rattle.std.specs.Prelude.{Option, Some, IfOk, IfErr, Ok, Err, ◌⊎◌, option_map}
use Rattle.std.proofs.lemmas.Bool.{false≢true}
use Rattle.gv_base.specs.Counts.{Counts}
use Rattle.gv_base.specs.FileMap.{FileMap}
use Rattle.gv_words.specs.Command.{IsCommand, IsOneCommand, Meaning, command_of, meaning}
use Rattle.gv_words.specs.declared.command.Command.{Command}
use Rattle.gv_ending.specs.declared.refusal.Refusal.{Refusal}
use Rattle.gv_ending.specs.declared.refusal.Refusal.TheVariants.{BadWords, NoMemory}
use Rattle.gv_ending.specs.Causes.{Causes, Why}
use Rattle.gv_ending.specs.Endings.{Ending, SaysLine, SaysNothing, TellsRefusal, Told, is_status, refusal_line, refusal_status, well_status}
use Rattle.gv_run.specs.Performs.{BeginsNone, Done, IsDone, Leaves, Performs, Refuses, Runs, Spares, Unbegun, causes_of, root_of}
use Rattle.gv_ending.specs.World.{Fed, Lasts, Roots, World, entered, roots, world}

-- ---- a run

-- words that aren't read, or are no command, or whose root isn't entered
module _ (words : List (List ℕ)) (input : Fed) (r r' : Option (List ℕ)) (f f' : Option FileMap) (t t' : ℕ) (k k' : Option FileMap) (kb kn : ℕ) (o o' : Option (List ℕ)) (ob on : ℕ) (c c' : Counts)
    (root : r' ≡ r) (files : f' ≡ f) (tree : t' ≡ t) (kept : k' ≡ k) (store : kn ≡ kb) (held : o' ≡ o) (out : on ≡ ob) (steps : c' ≡ c) where
  abbrev start : World
  start = world f t k kb o ob c

  abbrev end : World
  end = world f' t' k' kn o' on c'

  is_unbegun : Unbegun (roots r r') start end
  is_unbegun = record { root = root; tree = tree; untouched = record { store = (kept, store); out = (held, out) }; steps = steps }

  lasts : Lasts start end
  lasts = record { files = files; tree = omega (arith, tree); store = omega (arith, store); out = omega (arith, out) }

  pub unbegun : Runs words (roots r r') start end input (Err NoMemory)
  unbegun = record { done = tt; refusal = inl (tt, is_unbegun); lasts = lasts }

  pub bad_words : option_map meaning None ≡ command_of words → Runs words (roots r r') start end input (Err BadWords)
  bad_words none = record { done = tt; refusal = inl (sym none, is_unbegun); lasts = lasts }

-- a command that the words are, and what it leaves
pub begun : (words : List (List ℕ)) (command : Command) → option_map meaning (Some command) ≡ command_of words → (r r' : Option (List ℕ)) → r' ≡ entered (root_of command) r → (old new : World) (input : Fed) (ending : Ending)
    → Performs command old new input ending → Runs words (roots r r') old new input ending
begun words command is r r' root old new input (Ok some) performs = record {
  done = record { command = command; begins = record { is = sym is; root = root; spares = performs.spares }; done = performs.done };
  refusal = tt;
  lasts = performs.lasts;
}
begun words command is r r' root old new input (Err refusal) performs = record {
  done = tt;
  refusal = inr (record { command = command; begins = record { is = sym is; root = root; spares = performs.spares }; why = performs.refusal });
  lasts = performs.lasts;
}

-- ---- by the status

-- that of a refusal
pub refused_status : (refusal : Refusal) → (is_status (refusal_status refusal) ≡ true) × (2 ≤ refusal_status refusal)
refused_status BadWords = (refl, omega arith)
refused_status other = (refl, omega arith)

pub leaves : (words : List (List ℕ)) (entry : Roots) (old new : World) (input : Fed) (err : Told) (ending : Ending) (status : ℕ) → Runs words entry old new input ending →
    IfOk ending (λ some. (status ≡ well_status some) × SaysNothing err) → IfErr ending (λ refusal. TellsRefusal err refusal status) → input.before ≤ input.now → err.before ≤ err.now → Leaves words entry old new input err status
leaves words entry old new input err (Ok some) status runs well refused fed_later later = subst (Leaves words entry old new input err) (sym well.0) (by some runs.done)
  where
    by : (some : Bool) → IsDone words entry old new input (well_status some) → Leaves words entry old new input err (well_status some)
    by false done = record { statuses = refl; done = λ few. (done, well.1); refused = λ many. absurd (omega (arith, many)); lasts = runs.lasts; input_later = fed_later; err_later = later }
    by true done = record { statuses = refl; done = λ few. (done, well.1); refused = λ many. absurd (omega (arith, many)); lasts = runs.lasts; input_later = fed_later; err_later = later }
leaves words entry old new input err (Err refusal) status runs well refused fed_later later = by refused.whole
  where
    told : (n : ℕ) → status ≡ n → (is_status n ≡ true) × (2 ≤ n) → Leaves words entry old new input err status
    told n is good = record {
      statuses = ap is_status is ∙ good.0;
      done = λ few. absurd (omega (arith, few, is, good.1));
      refused = λ many. (refusal, runs.refusal, refused);
      lasts = runs.lasts;
      input_later = fed_later;
      err_later = later;
    }

    by : (SaysLine err (refusal_line refusal) × (status ≡ refusal_status refusal)) ⊎ (status ≡ 5) → Leaves words entry old new input err status
    by (inl both) = told (refusal_status refusal) both.1 (refused_status refusal)
    by (inr five) = told 5 five (refl, omega arith)

-- by the refusal, or memory was wanted
pub or_five : (err : Told) (refusal : Refusal) (status : ℕ) → TellsRefusal err refusal status → (status ≡ refusal_status refusal) ⊎ (status ≡ 5)
or_five err refusal status tells = elim tells.whole [
  | inl both ↦ inl both.1
  | inr five ↦ inr five
]

pub five_only : (status : ℕ) → (status ≡ 5) ⊎ (status ≡ 5) → status ≡ 5
five_only status (inl e) = e
five_only status (inr e) = e

-- ---- a command's own part of it

abbrev is_some : Option Meaning → Bool
is_some None = false
is_some (Some m) = true

pub not_none : (X : Type 0) (words : List (List ℕ)) (command : Command) → IsCommand words command → command_of words ≡ None → X
not_none X words command is none = absurd (false≢true (ap is_some (sym none ∙ is)))

-- no memory before it was begun, or its own refusal
abbrev pub EndsSo : Roots → World → World → Causes → Refusal → Type 0
EndsSo entry old new causes refusal = (Unbegun entry old new × (refusal ≡ NoMemory)) ⊎ Why causes refusal

pub record Ends (command : Command) (entry : Roots) (old new : World) (input : Fed) (ending : Ending) : Type 0 where
  pub done : IfOk ending (λ some. Done command old new input (well_status some))
  pub refusal : IfErr ending (EndsSo entry old new (causes_of command old new input))
  pub spares : Unbegun entry old new ⊎ Spares command old new

module _ (law : IsOneCommand) (words : List (List ℕ)) (entry : Roots) (old new : World) (input : Fed) (command : Command) (is : IsCommand words command) where
  none_begun : (refusal : Refusal) → BeginsNone words refusal → refusal ≡ NoMemory
  none_begun BadWords none = not_none _ words command is none
  none_begun NoMemory none = refl
  none_begun other none = absurd none

  pub ends : (ending : Ending) → Runs words entry old new input ending → Ends command entry old new input ending
  ends (Ok some) runs =
      let same : runs.done.command ≡ command = law words runs.done.command command runs.done.begins.is is in
      record {
        done = subst (λ (x : Command). Done x old new input (well_status some)) same runs.done.done;
        refusal = tt;
        spares = inr (subst (λ (x : Command). Spares x old new) same runs.done.begins.spares);
      }
  ends (Err refusal) runs = by runs.refusal
    where
      by : Refuses words entry old new input refusal → Ends command entry old new input (Err refusal)
      by (inl none) = record { done = tt; refusal = inl (none.1, none_begun refusal none.0); spares = inl none.1 }
      by (inr it) =
          let same : it.command ≡ command = law words it.command command it.begins.is is in
          record {
            done = tt;
            refusal = inr (subst (λ (x : Command). Why (causes_of x old new input) refusal) same it.why);
            spares = inr (subst (λ (x : Command). Spares x old new) same it.begins.spares);
          }

-- by its own refusal, or memory was wanted
pub or_unbegun : (entry : Roots) (old new : World) (err : Told) (causes : Causes) (refusal : Refusal) (status : ℕ) (X : Type 0) → (status ≡ 5 → X) → (Why causes refusal → X) → TellsRefusal err refusal status
    → EndsSo entry old new causes refusal → X
or_unbegun entry old new err causes refusal status X five own tells (inl none) = five (five_only status (or_five err NoMemory status (subst (λ r. TellsRefusal err r status) none.1 tells)))
or_unbegun entry old new err causes refusal status X five own tells (inr why) = own why

-- ---- words of no command

module _ (words : List (List ℕ)) (entry : Roots) (old new : World) (input : Fed) (none : command_of words ≡ None) where
  bad_refusal : (err : Told) (refusal : Refusal) (status : ℕ) → BeginsNone words refusal → TellsRefusal err refusal status → (status ≡ 2) ⊎ (status ≡ 5)
  bad_refusal err BadWords status is tells = or_five err BadWords status tells
  bad_refusal err NoMemory status is tells = inr (five_only status (or_five err NoMemory status tells))
  bad_refusal err other status is tells = absurd is

  pub bad_only : (err : Told) (ending : Ending) (status : ℕ) → Runs words entry old new input ending → IfErr ending (λ refusal. TellsRefusal err refusal status) → (status ≡ 2) ⊎ (status ≡ 5)
  bad_only err (Ok some) status runs refused = not_none _ words runs.done.command runs.done.begins.is none
  bad_only err (Err refusal) status runs refused = by runs.refusal
    where
      by : Refuses words entry old new input refusal → (status ≡ 2) ⊎ (status ≡ 5)
      by (inl is) = bad_refusal err refusal status is.0 refused
      by (inr it) = not_none _ words it.command it.begins.is none
