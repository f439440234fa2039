-- What is read of the input while commands are performed.
use Rattle.std.proofs.Common.{◌≡◌, ℕ, suc, ◌+◌, ◌-◌, ◌≤◌, ◌<◌, ◌==◌, Bool, true, false, List, [], ◌∷◌, ◌++◌, length, Some, None, refl, sym, ap, ◌∙◌, append_assoc, append-nil, length-append, arith}
use Rattle.std.specs.Prelude.{Option}
use Rattle.gv_edits.specs.Pending.{whole}
use Rattle.gv_edits.specs.Script.{Lacks, Leads, Reading, Script, led_script, one_more, script_of, script_within, Ended, Broken, Passed}
use Rattle.gv_edits.specs.declared.command.Command.{Command}
use Rattle.gv_edits.specs.declared.command.Command.TheVariants.{End}
use Rattle.gv_run.specs.SessionSteps.{Ahead, IsLost, Passes, Spells, SpellsToEnd, ahead, behind}

whole_nothing : (left : Option (List ℕ)) → left ≡ whole [] left
whole_nothing None = refl
whole_nothing (Some bytes) = refl

whole_both : (xs ys : List ℕ) (left : Option (List ℕ)) → whole xs (whole ys left) ≡ whole (xs ++ ys) left
whole_both xs ys None = refl
whole_both xs ys (Some bytes) = ap Some (sym (append_assoc xs ys bytes))

behind_both : (cs ds : List Command) (s : Script) → behind cs (behind ds s) ≡ behind (cs ++ ds) s
behind_both cs ds s = ap (λ (all : List Command). record { commands = all; ending = s.ending }) (sym (append_assoc cs ds s.commands))

-- in any number of commands
within_so : (bytes : List ℕ) (n m : ℕ) → n ≡ m → script_within n bytes ≡ script_within m bytes
within_so bytes n m is = ap (λ k. script_within k bytes) is

more_both : (cs ds : List Command) (n : ℕ) → length (cs ++ ds) + n ≡ length cs + (length ds + n)
more_both cs ds n = omega (arith, length-append cs ds)

-- ---- one command

pub reads_nothing : (r s : Reading) (left left' : Option (List ℕ)) → s ≡ r → left' ≡ left → length s.taken ≤ 4096 → Passes (ahead r.taken left) (ahead s.taken left') (λ used. Spells used [])
reads_nothing r s left left' same kept few = record {
  used = [];
  more = [];
  took = sym kept ∙ whole_nothing left';
  used_are = append-nil r.taken ∙ ap (λ (x : Reading). x.taken) (sym same);
  are = λ most rest. within_so rest (0 + most) most (omega arith);
  few = few;
}

module _ (r s : Reading) (left left' : Option (List ℕ)) (command : Command) (leads : Leads r s left left' command) (few : length s.taken ≤ 4096) where
  pub reads_one : ((x : Script) → led_script command x ≡ one_more command x) → Passes (ahead r.taken left) (ahead s.taken left') (λ used. Spells used (command ∷ []))
  reads_one one = record {
    used = leads.bytes;
    more = leads.more;
    took = leads.took;
    used_are = leads.are;
    are = λ most rest. within_so (leads.bytes ++ rest) (length (command ∷ []) + most) (suc most) (omega arith) ∙ (leads.spell most rest ∙ one (script_within most rest));
    few = few;
  }

  pub reads_end : command ≡ End → Passes (ahead r.taken left) (ahead s.taken left') (λ used. SpellsToEnd used [])
  reads_end is = record {
    used = leads.bytes;
    more = leads.more;
    took = leads.took;
    used_are = leads.are;
    are = λ most rest. within_so (leads.bytes ++ rest) (0 + suc most) (suc most) (omega arith) ∙ (leads.spell most rest ∙ ap (λ (c : Command). led_script c (script_within most rest)) is);
    few = few;
  }

under : (n : ℕ) → n ≤ 1000000 → (n ≡ 1000000 → ⊥) → n + 0 < 1000000
under n within below = by (n == 1000000) refl
  where
    by : (t : Bool) → (n == 1000000) ≡ t → n + 0 < 1000000
    by true same = absurd (below (grind (arith, same)))
    by false other = grind (arith, within, other)

pub loses_all : (r : Reading) (left left' : Option (List ℕ)) → r.read ≤ 1000000 → (r.read ≡ 1000000 → ⊥) → Lacks r left left' → IsLost (ahead r.taken left) left' r.read []
loses_all r left left' within below lacks = record {
  more = lacks.more;
  took = lacks.took;
  few = under r.read within below;
  are = λ most. within_so (r.taken ++ lacks.more) (0 + suc most) (suc most) (omega arith) ∙ lacks.none most;
}

-- ---- one behind the other

-- what was taken
taken_both : (a b : Ahead) (used more next : List ℕ) → a.taken ++ more ≡ used ++ b.taken → a.taken ++ (more ++ next) ≡ used ++ (b.taken ++ next)
taken_both a b used more next are = sym (append_assoc a.taken more next) ∙ (ap (λ (xs : List ℕ). xs ++ next) are ∙ append_assoc used b.taken next)

took_both : (a b : Ahead) (left : Option (List ℕ)) (more next : List ℕ) → a.left ≡ whole more b.left → b.left ≡ whole next left → a.left ≡ whole (more ++ next) left
took_both a b left more next first second = first ∙ (ap (whole more) second ∙ whole_both more next left)

module _ (a b : Ahead) (cs : List Command) (p : Passes a b (λ used. Spells used cs)) where
  pub passes_on : (c : Ahead) (ds : List Command) → Passes b c (λ used. Spells used ds) → Passes a c (λ used. Spells used (cs ++ ds))
  passes_on c ds q = record {
    used = p.used ++ q.used;
    more = p.more ++ q.more;
    took = took_both a b c.left p.more q.more p.took q.took;
    used_are = taken_both a b p.used p.more q.more p.used_are ∙ (ap (λ (xs : List ℕ). p.used ++ xs) q.used_are ∙ sym (append_assoc p.used q.used c.taken));
    are = λ most rest.
        within_so ((p.used ++ q.used) ++ rest) (length (cs ++ ds) + most) (length cs + (length ds + most)) (more_both cs ds most)
        ∙ (ap (script_within (length cs + (length ds + most))) (append_assoc p.used q.used rest)
        ∙ (p.are (length ds + most) (q.used ++ rest) ∙ (ap (behind cs) (q.are most rest) ∙ behind_both cs ds (script_within most rest))));
    few = q.few;
  }

  pub passes_to_end : (c : Ahead) (ds : List Command) → Passes b c (λ used. SpellsToEnd used ds) → Passes a c (λ used. SpellsToEnd used (cs ++ ds))
  passes_to_end c ds q = record {
    used = p.used ++ q.used;
    more = p.more ++ q.more;
    took = took_both a b c.left p.more q.more p.took q.took;
    used_are = taken_both a b p.used p.more q.more p.used_are ∙ (ap (λ (xs : List ℕ). p.used ++ xs) q.used_are ∙ sym (append_assoc p.used q.used c.taken));
    are = λ most rest.
        within_so ((p.used ++ q.used) ++ rest) (length (cs ++ ds) + suc most) (length cs + (length ds + suc most)) (more_both cs ds (suc most))
        ∙ (ap (script_within (length cs + (length ds + suc most))) (append_assoc p.used q.used rest)
        ∙ (p.are (length ds + suc most) (q.used ++ rest)
        ∙ (ap (behind cs) (q.are most rest) ∙ ap (λ (all : List Command). record { commands = all; ending = Ended }) (sym (append_assoc cs ds (End ∷ []))))));
    few = q.few;
  }

  pub loses_on : (left : Option (List ℕ)) (read read' : ℕ) (ds : List Command) → read' ≡ read + length cs → IsLost b left read' ds → IsLost a left read (cs ++ ds)
  loses_on left read read' ds counted l = record {
    more = p.more ++ l.more;
    took = took_both a b left p.more l.more p.took l.took;
    few = omega (arith, counted, l.few, length-append cs ds);
    are = λ most.
        within_so (a.taken ++ (p.more ++ l.more)) (length (cs ++ ds) + suc most) (length cs + (length ds + suc most)) (more_both cs ds (suc most))
        ∙ (ap (script_within (length cs + (length ds + suc most))) (taken_both a b p.used p.more l.more p.used_are)
        ∙ (p.are (length ds + suc most) (b.taken ++ l.more) ∙ ap (behind cs) (l.are most)));
  }

pub passes_nowhere : (a : Ahead) → length a.taken ≤ 4096 → Passes a a (λ used. Spells used [])
passes_nowhere a few = record {
  used = [];
  more = [];
  took = whole_nothing a.left;
  used_are = append-nil a.taken;
  are = λ most rest. within_so rest (0 + most) most (omega arith);
  few = few;
}

-- ---- the whole script

of_all : (n : ℕ) (bytes : List ℕ) → n ≡ 1000000 → script_within n bytes ≡ script_of bytes
unfolding script_of
of_all n bytes is = ap (λ k. script_within k bytes) is

left_over : (n : ℕ) → 0 + n < 1000000 → n + suc (999999 - n) ≡ 1000000
left_over n few = omega (arith, few)

pub to_end : (used : List ℕ) (cs : List Command) → SpellsToEnd used cs → 0 + length cs < 1000000 → script_of used ≡ record { commands = cs ++ End ∷ []; ending = Ended }
to_end used cs are few =
    let n : ℕ = length cs + suc (999999 - length cs) in
    sym (of_all n used (left_over (length cs) few)) ∙ (ap (script_within n) (sym (append-nil used)) ∙ are (999999 - length cs) [])

pub to_limit : (used : List ℕ) (cs : List Command) → Spells used cs → 0 + length cs ≡ 1000000 → script_of used ≡ record { commands = cs; ending = Passed }
to_limit used cs are full =
    sym (of_all (length cs + 0) used (omega (arith, full)))
    ∙ (ap (script_within (length cs + 0)) (sym (append-nil used)) ∙ (are 0 [] ∙ ap (λ (all : List Command). record { commands = all; ending = Passed }) (append-nil cs)))

pub to_failure : (taken : List ℕ) (cs : List Command) → ((most : ℕ) → script_within (length cs + suc most) taken ≡ record { commands = cs; ending = Broken }) → 0 + length cs < 1000000
    → script_of taken ≡ record { commands = cs; ending = Broken }
to_failure taken cs are few = sym (of_all (length cs + suc (999999 - length cs)) taken (left_over (length cs) few)) ∙ are (999999 - length cs)
