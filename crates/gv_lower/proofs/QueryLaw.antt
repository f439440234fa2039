-- The gates of a query are true at the bits of an assignment exactly where it is allowed, or failing.
use Rattle.std.proofs.Common.{◌≡◌, ℕ, suc, ◌+◌, ◌*◌, ◌<◌, ◌≤◌, Bool, true, false, if◌then◌else◌, not, ◌&&◌, List, [], ◌∷◌, ◌++◌, length, map, refl, sym, subst, ap, ◌∙◌, arith}
use Rattle.std.proofs.Math.Path.{fun_ext}
use Rattle.std.specs.Str.{bytes_eq}
use Rattle.gv_expr.specs.Dep.{Dep, deps}
use Rattle.gv_expr.specs.Required.{Req, reqs}
use Rattle.gv_facts.specs.AtomMet.{atom_met}
use Rattle.gv_facts.specs.Preferred.{preferred_on}
use Rattle.gv_entry.specs.Allowed.{Parent, assignment, class_holds, is_allowed, is_failing, is_forced, parent_state, required_holds, turned, value_or}
use Rattle.gv_entry.specs.Holds.{deps_hold, empty_holds, is_met, reqs_hold}
use Rattle.gv_logic.specs.declared.gates.Op.TheVariants.{And}
use Rattle.gv_logic.specs.Literals.{lit_true}
use Rattle.gv_logic.specs.Circuits.{AreEarlier, Gate, at, value, values, values_from}
use Rattle.gv_lower.specs.Plans.{Part, Parts}
use Rattle.gv_lower.specs.Groups.{all_of}
use Rattle.gv_lower.specs.TreeGates.{Base, req_plans, signed}
use Rattle.gv_lower.specs.AtomGates.{atom_plan}
use Rattle.gv_lower.specs.QueryGates.{allowed_gates, base_of, class_parts, failing_gates, failing_items, false_at, first_gates, input_or, required_part, true_at}
use Rattle.gv_entry.specs.Allowed.{item_holds}
use Rattle.gv_logic.specs.Opposites.{even_lit, odd_lit}
use Rattle.gv_lower.proofs.Truth.{all_lits, all_on, and_on, signed_true}
use Rattle.gv_lower.proofs.Meaning.{Solves, solves_split}
use Rattle.gv_lower.proofs.TreeMeaning.{dep_values, deps_all, deps_mean, required_means}
use Rattle.gv_lower.proofs.AtomMeaning.{atom_means}
use Rattle.gv_lower.proofs.Placing.{BaseBelow, Below, atom_placed_at, deps_placed, earlier_both, placed_built, placed_gate, reqs_placed, signed_below}
use Rattle.gv_lower.proofs.Solved.{solved, values_front}

-- A flag's literal among the inputs.
turned_met : (preferred value : Bool) → is_met preferred value ≡ turned preferred value
turned_met true value = refl
turned_met false value = refl

input_true : (v : ℕ → Bool) (n : ℕ) (flags : List (List ℕ)) (bits : List Bool) (flag : List ℕ) (preferred : Bool) (other : ℕ) → length bits ≡ length flags
    → ((i : ℕ) → i < length bits → v (n + i) ≡ at bits i) → lit_true v (input_or n flags flag preferred other) ≡ value_or flags bits flag preferred (lit_true v other)
input_true v n [] bits flag preferred other long is = refl
input_true v n (f ∷ fs) [] flag preferred other long is = absurd (omega (arith, long))
input_true v n (f ∷ fs) (b ∷ bs) flag preferred other long is = by (bytes_eq f flag) (input_true v (n + 1) fs bs flag preferred other (omega (arith, long)) later)
  where
    later : (i : ℕ) → i < length bs → v (n + 1 + i) ≡ at bs i
    later i lt = let e : n + 1 + i ≡ n + suc i = omega arith in ap v e ∙ is (suc i) (omega (arith, lt))

    first : v n ≡ b
    first = let e : n ≡ n + 0 = omega arith in ap v e ∙ is 0 (omega arith)

    by : (same : Bool) → lit_true v (input_or (n + 1) fs flag preferred other) ≡ value_or fs bs flag preferred (lit_true v other)
        → lit_true v (if same then signed preferred (2 * n) else input_or (n + 1) fs flag preferred other) ≡ (if same then turned preferred b else value_or fs bs flag preferred (lit_true v other))
    by true rest = signed_true v preferred (2 * n) ∙ (turned_met preferred (lit_true v (2 * n)) ∙ ap (turned preferred) (even_lit v n ∙ first))
    by false rest = rest

input_below : (n : ℕ) (flags : List (List ℕ)) (flag : List ℕ) (preferred : Bool) (other low : ℕ) → n + length flags ≤ low → other < 2 * low → input_or n flags flag preferred other < 2 * low
input_below n [] flag preferred other low le lt = lt
input_below n (f ∷ fs) flag preferred other low le lt = by (bytes_eq f flag) (input_below (n + 1) fs flag preferred other low (omega (arith, le)) lt)
  where
    by : (same : Bool) → input_or (n + 1) fs flag preferred other < 2 * low → (if same then signed preferred (2 * n) else input_or (n + 1) fs flag preferred other) < 2 * low
    by true rest = signed_below low preferred (2 * n) (omega (arith, le))
    by false rest = rest

module _ (c : Parent) (flags : List (List ℕ)) where
  abbrev k : ℕ
  k = length flags

  abbrev base : Base
  base = base_of c flags

  abbrev empty : Bool
  empty = empty_holds c.pkg.eapi

  pub base_below : BaseBelow (k + 2) base
  base_below = record {
    flag = λ f. input_below 0 flags f (preferred_on c.pkg f) (if is_forced (parent_state c f) then true_at k else false_at k) (k + 2) (omega arith) (by (is_forced (parent_state c f)));
    on = omega arith;
    off = omega arith;
  }
    where
      by : (forced : Bool) → (if forced then true_at k else false_at k) < 2 * (k + 2)
      by true = omega arith
      by false = omega arith

  -- with the values of all places, from bits of the inputs
  module _ (bits : List Bool) (long : length bits ≡ k) (gs : List Gate) (earlier : AreEarlier k (first_gates ++ gs)) where
    abbrev v : ℕ → Bool
    v = at (values_from bits (first_gates ++ gs))

    all_solved : Solves v k (first_gates ++ gs)
    all_solved = subst (λ n. Solves v n (first_gates ++ gs)) long (solved bits (first_gates ++ gs) (subst (λ n. AreEarlier n (first_gates ++ gs)) (sym long) earlier))

    both : Solves v k first_gates × Solves v (k + 2) gs
    both = solves_split v k first_gates gs all_solved

    pub rest_solved : Solves v (k + 2) gs
    rest_solved = both.1

    pub true_is : lit_true v base.on ≡ true
    true_is = even_lit v k ∙ both.0.0

    pub false_is : lit_true v base.off ≡ false
    false_is = even_lit v (k + 1) ∙ both.0.1.0

    pub flags_are : (λ flag. lit_true v (base.flag flag)) ≡ assignment c flags bits
    flags_are = fun_ext each
      where
        input : (i : ℕ) → i < length bits → v (0 + i) ≡ at bits i
        input i lt = let e : 0 + i ≡ i = omega arith in ap v e ∙ values_front bits (first_gates ++ gs) i lt

        other : (forced : Bool) → lit_true v (if forced then true_at k else false_at k) ≡ forced
        other true = true_is
        other false = false_is

        each : (flag : List ℕ) → lit_true v (base.flag flag) ≡ assignment c flags bits flag
        each flag = input_true v 0 flags bits flag (preferred_on c.pkg flag) (if is_forced (parent_state c flag) then true_at k else false_at k) long input
            ∙ ap (value_or flags bits flag (preferred_on c.pkg flag)) (other (is_forced (parent_state c flag)))

  -- REQUIRED_USE alone
  module _ (required : List Req) where
    abbrev r : Part
    r = required_part c base required (k + 2)

    pub required_placed : AreEarlier (k + 2) r.gates × (r.lit < 2 * (k + 2 + length r.gates))
    required_placed = placed_built (k + 2) all_of (req_plans (reqs required) base empty false) (placed_gate (k + 2) And) (reqs_placed (k + 2) base base_below empty (reqs required) false) (k + 2) (omega arith)

    pub allowed_earlier : AreEarlier k (allowed_gates c required flags).gates
    allowed_earlier = earlier_both k first_gates r.gates (tt, (tt, tt)) required_placed.0

    pub allowed_value : (bits : List Bool) → length bits ≡ k → value (allowed_gates c required flags) bits ≡ is_allowed c required flags bits
    allowed_value bits long =
        let v = at (values_from bits (first_gates ++ r.gates)) in
        required_means (at (values_from bits (first_gates ++ r.gates))) base empty (false_is bits long r.gates allowed_earlier) (reqs required) (k + 2) (rest_solved bits long r.gates allowed_earlier)
        ∙ ap (λ on. reqs_hold (reqs required) on empty) (flags_are bits long r.gates allowed_earlier)

    -- and a class
    module _ (class : List Dep) where
      abbrev xs : Parts
      xs = class_parts c base class (k + 2 + length r.gates)

      abbrev q : ℕ
      q = k + 2 + length r.gates + length xs.gates

      abbrev last : List Gate
      last = record { op = And; operands = xs.lits } ∷ record { op = And; operands = r.lit ∷ (2 * q + 1) ∷ [] } ∷ []

      class_placed : AreEarlier (k + 2 + length r.gates) xs.gates × Below q xs.lits
      class_placed = deps_placed (k + 2) base base_below empty (atom_plan c base) (atom_placed_at (k + 2) base base_below empty c) (deps class) false (k + 2 + length r.gates) (omega arith)

      last_placed : AreEarlier q last
      last_placed = (class_placed.1, ((omega (arith, required_placed.1), (omega arith, tt)), tt))

      pub failing_earlier : AreEarlier k (failing_gates c required class flags).gates
      failing_earlier =
          earlier_both k first_gates (r.gates ++ (xs.gates ++ last)) (tt, (tt, tt))
          (earlier_both (k + 2) r.gates (xs.gates ++ last) required_placed.0 (earlier_both (k + 2 + length r.gates) xs.gates last class_placed.0 last_placed))

      module _ (bits : List Bool) (long : length bits ≡ k) where
        abbrev w : ℕ → Bool
        w = at (values_from bits (first_gates ++ (r.gates ++ (xs.gates ++ last))))

        abbrev on : List ℕ → Bool
        on flag = lit_true w (base.flag flag)

        abbrev bits_on : List ℕ → Bool
        bits_on = assignment c flags bits

        on_is : on ≡ bits_on
        on_is = flags_are bits long (r.gates ++ (xs.gates ++ last)) failing_earlier

        solved_r : Solves w (k + 2) r.gates × Solves w (k + 2 + length r.gates) (xs.gates ++ last)
        solved_r = solves_split w (k + 2) r.gates (xs.gates ++ last) (rest_solved bits long (r.gates ++ (xs.gates ++ last)) failing_earlier)

        solved_xs : Solves w (k + 2 + length r.gates) xs.gates × Solves w q last
        solved_xs = solves_split w (k + 2 + length r.gates) xs.gates last solved_r.1

        required_is : lit_true w r.lit ≡ required_holds c required bits_on
        required_is =
            required_means w base empty (false_is bits long (r.gates ++ (xs.gates ++ last)) failing_earlier) (reqs required) (k + 2) solved_r.0
            ∙ ap (λ o. reqs_hold (reqs required) o empty) on_is

        items_are : map (lit_true w) xs.lits ≡ dep_values w base empty (atom_plan c base) (atom_met c.among c.profile c.level on)
            (atom_means w base (true_is bits long (r.gates ++ (xs.gates ++ last)) failing_earlier) c) false (deps class)
        items_are = deps_mean w base empty (atom_plan c base) (atom_met c.among c.profile c.level on)
            (atom_means w base (true_is bits long (r.gates ++ (xs.gates ++ last)) failing_earlier) c) (deps class) false (k + 2 + length r.gates) solved_xs.0

        class_is : w q ≡ class_holds c class bits_on
        class_is =
            solved_xs.1.0 ∙ (all_lits w xs.lits ∙ (ap all_on items_are
            ∙ (deps_all w base empty (atom_plan c base) (atom_met c.among c.profile c.level on)
            (atom_means w base (true_is bits long (r.gates ++ (xs.gates ++ last)) failing_earlier) c) (deps class)
            ∙ ap (λ o. deps_hold (deps class) (atom_met c.among c.profile c.level o) o empty) on_is)))

        pub failing_value : value (failing_gates c required class flags) bits ≡ is_failing c required class flags bits
        failing_value =
            even_lit w (q + 1) ∙ (solved_xs.1.1.0 ∙ (ap (λ b. b && (lit_true w (2 * q + 1) && true)) required_is
            ∙ ap (λ b. required_holds c required bits_on && b) (and_on (lit_true w (2 * q + 1)) ∙ (odd_lit w q ∙ ap not class_is))))

        pub items_value : map (lit_true (at (values (failing_gates c required class flags) bits))) (failing_items c required class flags) ≡ map (item_holds c bits_on) class
        items_value = items_are ∙ (each class ∙ ap (λ o. map (item_holds c o) class) on_is)
          where
            each : (ts : List Dep) → dep_values w base empty (atom_plan c base) (atom_met c.among c.profile c.level on)
                (atom_means w base (true_is bits long (r.gates ++ (xs.gates ++ last)) failing_earlier) c) false (deps ts) ≡ map (item_holds c on) ts
            each [] = refl
            each (t ∷ ts) = ap (λ bs. item_holds c on t ∷ bs) (each ts)
