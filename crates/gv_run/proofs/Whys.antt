-- From the causes of a step to those of what it is a step of.
use Rattle.std.proofs.Common.{ℕ, List, inl, inr}
use Rattle.std.specs.Prelude.{◌⊎◌}
use Rattle.gv_reading.specs.declared.faults.LoadFault.{LoadFault}
use Rattle.gv_reading.specs.declared.faults.LoadFault.TheVariants as loads
use Rattle.gv_ending.specs.declared.refusal.Refusal.{Refusal}
use Rattle.gv_ending.specs.declared.refusal.Refusal.TheVariants.{BadWords, TreeFailed, StoreFailed, OutputFailed, Spent, NoMemory, NotARepository, Limit, InputFailed, BadCommand, Lacks}
use Rattle.gv_ending.specs.Causes.{Causes, Why, of_input, of_output, of_queries, of_store}

-- the cause of each object is a cause of the other's
pub record Becomes (c d : Causes) : Type 0 where
  pub tree : c.tree → d.tree
  pub store : (path : List ℕ) → c.store path → d.store path
  pub input : (refusal : Refusal) → c.input refusal → d.input refusal
  pub output : c.output → d.output
  pub files : (fault : LoadFault) → c.files fault → d.files fault
  pub queries : (refusal : Refusal) → c.queries refusal → d.queries refusal
  pub memory : c.memory → d.memory

pub why_on : (c d : Causes) → Becomes c d → (refusal : Refusal) → Why c refusal → Why d refusal
why_on c d b (TreeFailed path) why = b.tree why
why_on c d b (StoreFailed path) why = b.store path why
why_on c d b OutputFailed why = b.output why
why_on c d b InputFailed why = b.input InputFailed why
why_on c d b (BadCommand number) why = b.input (BadCommand number) why
why_on c d b (NotARepository path) why = b.files (loads.NotARepository path) why
why_on c d b (Spent name) why = b.queries (Spent name) why
why_on c d b (Lacks part parts query) why = b.queries (Lacks part parts query) why
why_on c d b (Limit place number) (inl why) = inl (b.files (loads.Limit place number) why)
why_on c d b (Limit place number) (inr (inl why)) = inr (inl (b.queries (Limit place number) why))
why_on c d b (Limit place number) (inr (inr why)) = inr (inr (b.input (Limit place number) why))
why_on c d b NoMemory why = b.memory why
why_on c d b BadWords why = absurd why

pub from_store : (Store : List ℕ → Type 0) (d : Causes) → ((path : List ℕ) → Store path → d.store path) → d.memory → (refusal : Refusal) → Why (of_store Store) refusal → Why d refusal
from_store Store d store memory =
    why_on (of_store Store) d
    (record {
      tree = λ none. absurd none;
      store = store;
      input = λ refusal none. absurd none;
      output = λ none. absurd none;
      files = λ fault none. absurd none;
      queries = λ refusal none. absurd none;
      memory = λ any. memory;
    })

pub from_input : (Input : Refusal → Type 0) (d : Causes) → ((refusal : Refusal) → Input refusal → d.input refusal) → d.memory → (refusal : Refusal) → Why (of_input Input) refusal → Why d refusal
from_input Input d input memory =
    why_on (of_input Input) d
    (record {
      tree = λ none. absurd none;
      store = λ path none. absurd none;
      input = input;
      output = λ none. absurd none;
      files = λ fault none. absurd none;
      queries = λ refusal none. absurd none;
      memory = λ any. memory;
    })

pub from_output : (Output : Type 0) (d : Causes) → (Output → d.output) → d.memory → (refusal : Refusal) → Why (of_output Output) refusal → Why d refusal
from_output Output d output memory =
    why_on (of_output Output) d
    (record {
      tree = λ none. absurd none;
      store = λ path none. absurd none;
      input = λ refusal none. absurd none;
      output = output;
      files = λ fault none. absurd none;
      queries = λ refusal none. absurd none;
      memory = λ any. memory;
    })

pub from_queries : (Queries : Refusal → Type 0) (d : Causes) → ((refusal : Refusal) → Queries refusal → d.queries refusal) → d.memory → (refusal : Refusal) → Why (of_queries Queries) refusal → Why d refusal
from_queries Queries d queries memory =
    why_on (of_queries Queries) d
    (record {
      tree = λ none. absurd none;
      store = λ path none. absurd none;
      input = λ refusal none. absurd none;
      output = λ none. absurd none;
      files = λ fault none. absurd none;
      queries = queries;
      memory = λ any. memory;
    })
