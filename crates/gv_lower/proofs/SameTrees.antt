-- Trees whose flags have the same literals, and whose atoms the same plans, are drawn alike.
use Rattle.std.proofs.Common.{◌≡◌, ℕ, Bool, true, false, List, [], ◌∷◌, ◌++◌, Option, refl, ap, ◌∙◌}
use Rattle.std.specs.Prelude.{option_map}
use Rattle.std.specs.List.{AllByRecursion}
use Rattle.gv_atom.specs.declared.atom.Atom.{Atom}
use Rattle.gv_atom.specs.declared.atom.Block.{Block}
use Rattle.gv_atom.specs.declared.atom.Block.TheVariants.{No, Weak, Strong}
use Rattle.gv_atom.specs.Items.{is_blocker}
use Rattle.gv_expr.specs.Dep as dep
use Rattle.gv_expr.specs.Dep.{Dep, Deps}
use Rattle.gv_expr.specs.Mentions.{dep_mentions, item_mentions, req_mentions, wanted_atoms, with_atom}
use Rattle.gv_expr.specs.Required as req
use Rattle.gv_expr.specs.Required.{Req, Reqs}
use Rattle.gv_logic.specs.Literals.{opposite}
use Rattle.gv_lower.specs.Plans.{Plan, built_on, given}
use Rattle.gv_lower.specs.Groups.{all_of, conditional, most_of, one_of, some_of}
use Rattle.gv_lower.specs.TreeGates.{Base, dep_plans, dep_unmet, if_met, req_plans, req_unmet, signed}
use Rattle.gv_lower.proofs.SameStates.{all_back, all_front}

both : {X : Type 0} {x y : X} {xs ys : List X} → x ≡ y → xs ≡ ys → x ∷ xs ≡ y ∷ ys
both e es = rw (e, es) refl

module _ (f g : List ℕ → ℕ) (on off : ℕ) where
  abbrev pub base : Base
  base = record { flag = f; on = on; off = off }

  abbrev pub other : Base
  other = record { flag = g; on = on; off = off }

  abbrev pub Agree : List ℕ → Type 0
  Agree flag = f flag ≡ g flag

  one_unmet : (negated : Bool) (flag : List ℕ) (rest next : Option (List ℕ)) → Agree flag → rest ≡ next
      → option_map (λ us. opposite (signed negated (f flag)) ∷ us) rest ≡ option_map (λ us. opposite (signed negated (g flag)) ∷ us) next
  one_unmet negated flag rest next e later =
      ap (λ l. option_map (λ us. opposite (signed negated l) ∷ us) rest) e ∙ ap (λ r. option_map (λ us. opposite (signed negated (g flag)) ∷ us) r) later

  reqs_unmet : (ts : Reqs) → AllByRecursion Agree (req_mentions ts) → req_unmet ts base ≡ req_unmet ts other
  reqs_unmet req.end agree = refl
  reqs_unmet (req.more (req.leaf flag negated) ts) agree = refl
  reqs_unmet (req.more (req.all items) ts) agree = refl
  reqs_unmet (req.more (req.any items) ts) agree = refl
  reqs_unmet (req.more (req.one items) ts) agree = refl
  reqs_unmet (req.more (req.most items) ts) agree = refl
  reqs_unmet (req.more (req.when flag negated items) ts) agree =
      one_unmet negated flag (req_unmet ts base) (req_unmet ts other) agree.0 (reqs_unmet ts (all_back Agree (req_mentions items) (req_mentions ts) agree.1))

  condition : (member negated : Bool) (flag : List ℕ) (plans others : List Plan) → Agree flag → plans ≡ others
      → built_on (conditional member (signed negated (f flag))) (built_on all_of plans ∷ []) ≡ built_on (conditional member (signed negated (g flag))) (built_on all_of others ∷ [])
  condition member negated flag plans others e same =
      ap (λ l. built_on (conditional member (signed negated l)) (built_on all_of plans ∷ [])) e ∙ ap (λ ps. built_on (conditional member (signed negated (g flag))) (built_on all_of ps ∷ [])) same

  over_unmet : (over : Option (List ℕ) → List ℕ → Plan) (unmet next : Option (List ℕ)) (plans others : List Plan) → unmet ≡ next → plans ≡ others
      → built_on (over unmet) plans ≡ built_on (over next) others
  over_unmet over unmet next plans others e same = ap (λ u. built_on (over u) plans) e ∙ ap (built_on (over next)) same

  pub reqs_same : (ts : Reqs) (empty members : Bool) → AllByRecursion Agree (req_mentions ts) → req_plans ts base empty members ≡ req_plans ts other empty members
  reqs_same req.end empty members agree = refl
  reqs_same (req.more (req.leaf flag negated) ts) empty members agree = both (ap (λ l. given (signed negated l)) agree.0) (reqs_same ts empty members agree.1)
  reqs_same (req.more (req.all items) ts) empty members agree =
      both (ap (built_on all_of) (reqs_same items empty false (all_front Agree (req_mentions items) (req_mentions ts) agree)))
      (reqs_same ts empty members (all_back Agree (req_mentions items) (req_mentions ts) agree))
  reqs_same (req.more (req.any items) ts) empty members agree =
      let inside = all_front Agree (req_mentions items) (req_mentions ts) agree in
      both (over_unmet (λ u. some_of (if_met empty u)) (req_unmet items base) (req_unmet items other) (req_plans items base empty true) (req_plans items other empty true) (reqs_unmet items inside) (reqs_same items empty true inside))
      (reqs_same ts empty members (all_back Agree (req_mentions items) (req_mentions ts) agree))
  reqs_same (req.more (req.one items) ts) empty members agree =
      let inside = all_front Agree (req_mentions items) (req_mentions ts) agree in
      both (over_unmet (λ u. one_of off (if_met empty u)) (req_unmet items base) (req_unmet items other) (req_plans items base empty true) (req_plans items other empty true) (reqs_unmet items inside) (reqs_same items empty true inside))
      (reqs_same ts empty members (all_back Agree (req_mentions items) (req_mentions ts) agree))
  reqs_same (req.more (req.most items) ts) empty members agree =
      both (ap (built_on (most_of off)) (reqs_same items empty true (all_front Agree (req_mentions items) (req_mentions ts) agree)))
      (reqs_same ts empty members (all_back Agree (req_mentions items) (req_mentions ts) agree))
  reqs_same (req.more (req.when flag negated items) ts) empty members agree =
      both (condition members negated flag (req_plans items base empty false) (req_plans items other empty false) agree.0 (reqs_same items empty false (all_front Agree (req_mentions items) (req_mentions ts) agree.1)))
      (reqs_same ts empty members (all_back Agree (req_mentions items) (req_mentions ts) agree.1))

  deps_unmet : (ts : Deps) → AllByRecursion Agree (dep_mentions ts) → dep_unmet ts base ≡ dep_unmet ts other
  deps_unmet dep.end agree = refl
  deps_unmet (dep.more (dep.leaf atom) ts) agree = refl
  deps_unmet (dep.more (dep.all items) ts) agree = refl
  deps_unmet (dep.more (dep.any items) ts) agree = refl
  deps_unmet (dep.more (dep.when flag negated items) ts) agree =
      one_unmet negated flag (dep_unmet ts base) (dep_unmet ts other) agree.0 (deps_unmet ts (all_back Agree (dep_mentions items) (dep_mentions ts) agree.1))

  -- The plans of atoms are the same where what is known of them (P) holds and the flags agree that their items mention.
  module _ (atoms others : Atom → Plan) (P : Atom → Type 0) (blocked : (a : Atom) → is_blocker a.block ≡ true → atoms a ≡ others a)
      (wanted : (a : Atom) → P a → AllByRecursion Agree (item_mentions No a.items) → atoms a ≡ others a) where
    leaf_same : (atom : Atom) (block : Block) (flags : List (List ℕ)) (rest : List Atom) → atom.block ≡ block → AllByRecursion Agree (item_mentions block atom.items ++ flags)
        → AllByRecursion P (with_atom atom block rest) → (atoms atom ≡ others atom) × (AllByRecursion Agree flags × AllByRecursion P rest)
    leaf_same atom No flags rest is agree known =
        (wanted atom known.0 (all_front Agree (item_mentions No atom.items) flags agree), (all_back Agree (item_mentions No atom.items) flags agree, known.1))
    leaf_same atom Weak flags rest is agree known = (blocked atom (ap is_blocker is), (agree, known))
    leaf_same atom Strong flags rest is agree known = (blocked atom (ap is_blocker is), (agree, known))

    pub deps_same : (ts : Deps) (empty members : Bool) → AllByRecursion Agree (dep_mentions ts) → AllByRecursion P (wanted_atoms ts) → dep_plans ts atoms base empty members ≡ dep_plans ts others other empty members
    deps_same dep.end empty members agree known = refl
    deps_same (dep.more (dep.leaf atom) ts) empty members agree known =
        let leaf = leaf_same atom atom.block (dep_mentions ts) (wanted_atoms ts) refl agree known in
        both leaf.0 (deps_same ts empty members leaf.1.0 leaf.1.1)
    deps_same (dep.more (dep.all items) ts) empty members agree known =
        both (ap (built_on all_of) (deps_same items empty false (all_front Agree (dep_mentions items) (dep_mentions ts) agree) (all_front P (wanted_atoms items) (wanted_atoms ts) known)))
        (deps_same ts empty members (all_back Agree (dep_mentions items) (dep_mentions ts) agree) (all_back P (wanted_atoms items) (wanted_atoms ts) known))
    deps_same (dep.more (dep.any items) ts) empty members agree known =
        let inside = all_front Agree (dep_mentions items) (dep_mentions ts) agree in
        both (over_unmet (λ u. some_of (if_met empty u)) (dep_unmet items base) (dep_unmet items other) (dep_plans items atoms base empty true) (dep_plans items others other empty true) (deps_unmet items inside)
        (deps_same items empty true inside (all_front P (wanted_atoms items) (wanted_atoms ts) known)))
        (deps_same ts empty members (all_back Agree (dep_mentions items) (dep_mentions ts) agree) (all_back P (wanted_atoms items) (wanted_atoms ts) known))
    deps_same (dep.more (dep.when flag negated items) ts) empty members agree known =
        both (condition members negated flag (dep_plans items atoms base empty false) (dep_plans items others other empty false) agree.0
        (deps_same items empty false (all_front Agree (dep_mentions items) (dep_mentions ts) agree.1) (all_front P (wanted_atoms items) (wanted_atoms ts) known)))
        (deps_same ts empty members (all_back Agree (dep_mentions items) (dep_mentions ts) agree.1) (all_back P (wanted_atoms items) (wanted_atoms ts) known))
