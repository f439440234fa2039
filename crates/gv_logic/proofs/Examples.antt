-- Values of the definitions on worked examples.
use Rattle.std.specs.Prelude.{◌≡◌, ℕ, true, false, List, [], ◌∷◌, None, Some, refl}
use Rattle.gv_logic.specs.declared.gates.Op.TheVariants.{And, Or}
use Rattle.gv_logic.specs.Bytes.{number_bytes, circuit_bytes}
use Rattle.gv_logic.specs.Circuits.{Circuit, at, op_value, values, value}
use Rattle.gv_logic.specs.Encoding.{op_clauses, all_clauses, clause_count}
use Rattle.gv_logic.specs.Literals.{opposite}
use Rattle.gv_logic.specs.Logs.{follows, first_refused, set_clause, least_set}
use Rattle.gv_logic.specs.Partial.{unit_after}

opposites : (opposite 4 ∷ opposite 5 ∷ []) ≡ 5 ∷ 4 ∷ []
opposites = refl

-- the first input and not the second
abbrev both : Circuit
both = record { inputs = 2; gates = (record { op = And; operands = 0 ∷ 3 ∷ [] }) ∷ []; root = 4 }

places : values both (true ∷ false ∷ []) ≡ true ∷ false ∷ true ∷ []
places = refl

root_off : value both (true ∷ true ∷ []) ≡ false
root_off = refl

and_of_nothing : op_value (at []) And [] ≡ true
and_of_nothing = refl

or_of_nothing : op_value (at []) Or [] ≡ false
or_of_nothing = refl

clauses_of_and : all_clauses both ≡ (5 ∷ 0 ∷ []) ∷ (5 ∷ 3 ∷ []) ∷ (4 ∷ 1 ∷ 2 ∷ []) ∷ (4 ∷ []) ∷ []
clauses_of_and = refl

clauses_counted : clause_count both ≡ 4
unfolding clause_count
clauses_counted = refl

clauses_of_or : op_clauses 2 Or (0 ∷ 3 ∷ []) ≡ (4 ∷ 1 ∷ []) ∷ (4 ∷ 2 ∷ []) ∷ (5 ∷ 0 ∷ 3 ∷ []) ∷ []
clauses_of_or = refl

-- a clause with a literal twice is unit; one with a literal and its opposite isn't
twice_is_unit : unit_after (false ∷ false ∷ []) None (0 ∷ 0 ∷ []) ≡ Some 0
twice_is_unit = refl

both_signs_are_not_unit : unit_after (false ∷ false ∷ []) None (0 ∷ 1 ∷ []) ≡ None
both_signs_are_not_unit = refl

-- over one variable, that it is off and that it is on
abbrev clash : List (List ℕ)
clash = (1 ∷ []) ∷ (0 ∷ []) ∷ []

empty_clause : follows 2 clash [] (1 ∷ 0 ∷ []) ≡ true
empty_clause = refl

last_hint_not_false : follows 2 clash [] (1 ∷ []) ≡ false
last_hint_not_false = refl

hint_true_already : follows 2 clash [] (1 ∷ 1 ∷ 0 ∷ []) ≡ false
hint_true_already = refl

hint_behind_the_false_one : follows 2 clash [] (1 ∷ 0 ∷ 0 ∷ []) ≡ false
hint_behind_the_false_one = refl

no_hints : follows 2 clash [] [] ≡ false
no_hints = refl

literal_twice_in_a_step : follows 2 clash (0 ∷ 0 ∷ []) (1 ∷ []) ≡ false
literal_twice_in_a_step = refl

literal_of_no_variable : follows 2 clash (2 ∷ []) (1 ∷ 0 ∷ []) ≡ false
literal_of_no_variable = refl

-- a step that doesn't follow behind the empty clause; one that names the step before it
refused_behind_the_empty_clause : first_refused 2 clash ((record { clause = []; hints = 1 ∷ 0 ∷ [] }) ∷ (record { clause = []; hints = 0 ∷ [] }) ∷ []) 0 ≡ Some 1
refused_behind_the_empty_clause = refl

earlier_step_named : first_refused 2 clash ((record { clause = []; hints = 1 ∷ 0 ∷ [] }) ∷ (record { clause = []; hints = 2 ∷ [] }) ∷ []) 0 ≡ None
earlier_step_named = refl

-- the third input, and the lower one that is off
least_of_three : least_set (true ∷ false ∷ true ∷ []) 2 ≡ 1 ∷ 2 ∷ []
least_of_three = refl

clause_of_a_set : set_clause (1 ∷ 2 ∷ []) ≡ 2 ∷ 4 ∷ []
clause_of_a_set = refl

bytes_of_an_input : circuit_bytes (record { inputs = 1; gates = []; root = 0 }) ≡ 0 ∷ 0 ∷ 0 ∷ 1 ∷ 0 ∷ 0 ∷ 0 ∷ 0 ∷ 0 ∷ 0 ∷ 0 ∷ 0 ∷ []
unfolding number_bytes
bytes_of_an_input = refl
