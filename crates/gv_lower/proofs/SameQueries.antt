-- Queries with the same keys are one and the same.
use Rattle.std.proofs.Common.{◌≡◌, ℕ, ◌+◌, false, if◌then◌else◌, List, [], ◌∷◌, ◌++◌, length, map, refl, sym, ap, ◌∙◌}
use Rattle.std.specs.Prelude.{flat_map, sum_by}
use Rattle.std.specs.List.{AllByRecursion}
use Rattle.std.proofs.lemmas.List.{length-map, map-append}
use Rattle.std.proofs.lemmas.List.Sums.{sum_by-cons}
use Rattle.gv_base.specs.Order.{has_text}
use Rattle.gv_expr.specs.Dep.{Dep, deps}
use Rattle.gv_expr.specs.DepGrammar.{dep_tokens}
use Rattle.gv_expr.specs.Mentions.{dep_mentions, req_mentions, wanted_atoms}
use Rattle.gv_expr.specs.Required.{Req, reqs}
use Rattle.gv_expr.specs.RequiredGrammar.{req_tokens}
use Rattle.gv_facts.specs.Preferred.{preferred, preferred_on}
use Rattle.gv_entry.specs.Allowed.{Parent, is_forced, parent_state}
use Rattle.gv_entry.specs.Holds.{empty_holds}
use Rattle.gv_entry.specs.Queries.{class_flags, required_flags}
use Rattle.gv_entry.specs.Weight.{atom_weight, weight}
use Rattle.gv_logic.specs.Circuits.{Circuit}
use Rattle.gv_lower.specs.AtomGates.{atom_plan}
use Rattle.gv_lower.specs.Groups.{all_of}
use Rattle.gv_lower.specs.Keys.{HaveSameAllowed, HaveSameFailing, atom_key, class_key, flags_key, own_key, query_key, required_key}
use Rattle.gv_lower.specs.Plans.{Plan, built_on, in_turn}
use Rattle.gv_lower.specs.QueryGates.{ClassParts, allowed_gates, base_of, failing_gates, failing_items, failing_of, false_at, first_gates, input_or, true_at}
use Rattle.gv_lower.specs.TreeGates.{dep_plans, req_plans}
use Rattle.gv_lower.proofs.SameAtoms.{PairedAt, atom_same, atoms_paired, blocked_same, parts_same, weight_same}
use Rattle.gv_lower.proofs.SameStates.{all_same, all_weaker, same_flags, same_forced}
use Rattle.gv_lower.proofs.SameTrees.{Agree, deps_same, reqs_same}

sum_same : {X : Type 0} (f g : X → ℕ) (xs : List X) → AllByRecursion (λ x. f x ≡ g x) xs → sum_by f xs ≡ sum_by g xs
sum_same f g [] all = refl
sum_same f g (x ∷ xs) all = sum_by-cons f x xs ∙ (ap (λ n. n + sum_by f xs) all.0 ∙ (ap (λ n. g x + n) (sum_same f g xs all.1) ∙ sym (sum_by-cons g x xs)))

-- the gates, from the plans of REQUIRED_USE and of the class, behind k inputs
abbrev allowed_by : (k : ℕ) → List Plan → Circuit
allowed_by k rs = record { inputs = k; gates = first_gates ++ (built_on all_of rs (k + 2)).gates; root = (built_on all_of rs (k + 2)).lit }

abbrev parts_by : (k : ℕ) → List Plan → List Plan → ClassParts
parts_by k rs ds = record {
  required = built_on all_of rs (k + 2);
  class = in_turn ds (k + 2 + length (built_on all_of rs (k + 2)).gates);
  behind = k + 2 + length (built_on all_of rs (k + 2)).gates;
}

abbrev failing_by : (k : ℕ) → ClassParts → Circuit
failing_by k x = failing_of k (x.behind + length x.class.gates) x

module _ (c d : Parent) (eapi : c.pkg.eapi ≡ d.pkg.eapi) (plus : c.pkg.iuse_plus ≡ d.pkg.iuse_plus) where
  same_preferred : (flag : List ℕ) → preferred_on c.pkg flag ≡ preferred_on d.pkg flag
  same_preferred flag = ap (λ fs. has_text fs flag) plus

  same_values : (fs gs : List (List ℕ)) → fs ≡ gs → preferred c.pkg fs ≡ preferred d.pkg gs
  same_values fs gs e = ap (λ (ps : List (List ℕ)). map (λ flag. has_text ps flag) fs) plus ∙ ap (preferred d.pkg) e

  base_agrees : (fs mentions : List (List ℕ)) → flags_key c mentions ≡ flags_key d mentions
      → AllByRecursion (Agree (base_of c fs).flag (base_of d fs).flag (true_at (length fs)) (false_at (length fs))) mentions
  base_agrees fs mentions e =
      all_weaker (λ flag. own_key (parent_state c flag) ≡ own_key (parent_state d flag)) (Agree (base_of c fs).flag (base_of d fs).flag (true_at (length fs)) (false_at (length fs)))
      (λ flag same. ap (λ p. input_or 0 fs flag p (if is_forced (parent_state c flag) then true_at (length fs) else false_at (length fs))) (same_preferred flag)
      ∙ ap (λ b. input_or 0 fs flag (preferred_on d.pkg flag) (if b then true_at (length fs) else false_at (length fs))) (same_forced (parent_state c flag) (parent_state d flag) same)) mentions
      (all_same (λ flag. own_key (parent_state c flag)) (λ flag. own_key (parent_state d flag)) mentions e)

  required_plans : (fs : List (List ℕ)) (required : List Req) → required_key c required ≡ required_key d required
      → req_plans (reqs required) (base_of c fs) (empty_holds c.pkg.eapi) false ≡ req_plans (reqs required) (base_of d fs) (empty_holds d.pkg.eapi) false
  required_plans fs required e =
      reqs_same (base_of c fs).flag (base_of d fs).flag (true_at (length fs)) (false_at (length fs)) (reqs required) (empty_holds c.pkg.eapi) false (base_agrees fs (req_mentions (reqs required)) e)
      ∙ ap (λ h. req_plans (reqs required) (base_of d fs) (empty_holds h) false) eapi

  class_plans : (fs : List (List ℕ)) (class : List Dep) → flags_key c (dep_mentions (deps class)) ≡ flags_key d (dep_mentions (deps class)) → AllByRecursion (PairedAt c d) (wanted_atoms (deps class))
      → dep_plans (deps class) (atom_plan c (base_of c fs)) (base_of c fs) (empty_holds c.pkg.eapi) false ≡ dep_plans (deps class) (atom_plan d (base_of d fs)) (base_of d fs) (empty_holds d.pkg.eapi) false
  class_plans fs class e paired =
      deps_same (base_of c fs).flag (base_of d fs).flag (true_at (length fs)) (false_at (length fs)) (atom_plan c (base_of c fs)) (atom_plan d (base_of d fs)) (PairedAt c d)
      (blocked_same c d (base_of c fs).flag (base_of d fs).flag (true_at (length fs)) (false_at (length fs)))
      (atom_same c d (base_of c fs).flag (base_of d fs).flag (true_at (length fs)) (false_at (length fs)))
      (deps class) (empty_holds c.pkg.eapi) false (base_agrees fs (dep_mentions (deps class)) e) paired
      ∙ ap (λ h. dep_plans (deps class) (atom_plan d (base_of d fs)) (base_of d fs) (empty_holds h) false) eapi

  weights : (required : List Req) (class : List Dep) → AllByRecursion (PairedAt c d) (wanted_atoms (deps class)) → weight c required class ≡ weight d required class
  weights required class paired =
      ap (λ n. length (req_tokens (reqs required)) + length (dep_tokens (deps class)) + n)
      (sum_same (atom_weight c) (atom_weight d) (wanted_atoms (deps class)) (all_weaker (PairedAt c d) (λ a. atom_weight c a ≡ atom_weight d a) (λ a p. weight_same c d (λ f. 0) (λ f. 0) 0 0 a p) (wanted_atoms (deps class)) paired))

  pub same_allowed : (required : List Req) → required_key c required ≡ required_key d required → HaveSameAllowed c d required
  same_allowed required e = record {
    flags = flags;
    values = same_values (required_flags c required) (required_flags d required) flags;
    gates = ap (λ rs. allowed_by (length (required_flags c required)) rs) (required_plans (required_flags c required) required e) ∙ ap (allowed_gates d required) flags;
    weight = weights required [] tt;
  }
    where
      flags : required_flags c required ≡ required_flags d required
      flags = same_flags c d (req_mentions (reqs required)) e

  pub same_failing : (required : List Req) (class : List Dep) → query_key c required class ≡ query_key d required class → HaveSameFailing c d required class
  same_failing required class e = record {
    flags = flags;
    values = same_values (class_flags c required class) (class_flags d required class) flags;
    gates = ap (failing_by (length fs)) parts ∙ ap (failing_gates d required class) flags;
    items = ap (λ x. x.class.lits) parts ∙ ap (failing_items d required class) flags;
    weight = weights required class paired;
  }
    where
      fs : List (List ℕ)
      fs = class_flags c required class

      halves : (required_key c required ≡ required_key d required) × (class_key c class ≡ class_key d class)
      halves = parts_same (required_key c required) (required_key d required) (class_key c class) (class_key d class)
          (length-map (req_mentions (reqs required)) _ ∙ sym (length-map (req_mentions (reqs required)) _)) e

      quarters : (flags_key c (dep_mentions (deps class)) ≡ flags_key d (dep_mentions (deps class))) × (flat_map (atom_key c) (wanted_atoms (deps class)) ≡ flat_map (atom_key d) (wanted_atoms (deps class)))
      quarters = parts_same (flags_key c (dep_mentions (deps class))) (flags_key d (dep_mentions (deps class))) (flat_map (atom_key c) (wanted_atoms (deps class))) (flat_map (atom_key d) (wanted_atoms (deps class)))
          (length-map (dep_mentions (deps class)) _ ∙ sym (length-map (dep_mentions (deps class)) _)) halves.1

      paired : AllByRecursion (PairedAt c d) (wanted_atoms (deps class))
      paired = atoms_paired c d (λ f. 0) (λ f. 0) 0 0 (wanted_atoms (deps class)) quarters.1

      flags : class_flags c required class ≡ class_flags d required class
      flags = same_flags c d (req_mentions (reqs required) ++ dep_mentions (deps class))
          (map-append (λ flag. own_key (parent_state c flag)) (req_mentions (reqs required)) (dep_mentions (deps class))
          ∙ (ap (λ k. k ++ flags_key c (dep_mentions (deps class))) halves.0
          ∙ (ap (λ k. required_key d required ++ k) quarters.0
          ∙ sym (map-append (λ flag. own_key (parent_state d flag)) (req_mentions (reqs required)) (dep_mentions (deps class))))))

      parts : parts_by (length fs) (req_plans (reqs required) (base_of c fs) (empty_holds c.pkg.eapi) false) (dep_plans (deps class) (atom_plan c (base_of c fs)) (base_of c fs) (empty_holds c.pkg.eapi) false)
          ≡ parts_by (length fs) (req_plans (reqs required) (base_of d fs) (empty_holds d.pkg.eapi) false) (dep_plans (deps class) (atom_plan d (base_of d fs)) (base_of d fs) (empty_holds d.pkg.eapi) false)
      parts =
          ap (λ rs. parts_by (length fs) rs (dep_plans (deps class) (atom_plan c (base_of c fs)) (base_of c fs) (empty_holds c.pkg.eapi) false)) (required_plans fs required halves.0)
          ∙ ap (λ ds. parts_by (length fs) (req_plans (reqs required) (base_of d fs) (empty_holds d.pkg.eapi) false) ds) (class_plans fs class quarters.0 paired)
