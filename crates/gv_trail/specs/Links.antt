-- Watches that are linked in lists, one for each literal and one of those that wait: a part of the
-- trail's state that callers never open.
use Rattle.std.specs.Prelude.{◌≡◌, ℕ, zero, suc, ◌+◌, ◌-◌, ◌<◌, List, [], ◌∷◌, ◌++◌, length, slice_index_or, slice_set}
use Rattle.gv_logic.specs.Partial.{Has}
use Rattle.gv_trail.specs.declared.watches.Watch.{Watch}
use Rattle.gv_trail.specs.declared.watches.Chain.{Chain}

pub record Links : Type 0 where
  pub nodes : List Watch
  pub chains : List Chain
  pub waiting : Chain

abbrev pub no_chain : Chain
no_chain = record { first = 0; count = 0 }

abbrev pub watch_at : List Watch → ℕ → Watch
watch_at nodes n = slice_index_or nodes n (record { lit = 0; next = 0 })

abbrev pub chain_at : List Chain → ℕ → Chain
chain_at chains lit = slice_index_or chains lit (record { first = 0; count = 0 })

-- so many watches, each but the first being the next of the one before
abbrev pub linked : List Watch → ℕ → ℕ → List ℕ
linked nodes first zero = []
linked nodes first (suc count) = first ∷ linked nodes (watch_at nodes first).next count

-- the watches on a literal, but those that wait
abbrev pub list_of : Links → ℕ → List ℕ
list_of links lit = linked links.nodes (chain_at links.chains lit).first (chain_at links.chains lit).count

abbrev pub waiting_of : Links → List ℕ
waiting_of links = linked links.nodes links.waiting.first links.waiting.count

-- the first that waits put on a literal
abbrev pub requeued : Links → ℕ → Links
requeued links to = record {
  nodes = slice_set links.nodes links.waiting.first (record { lit = to; next = (chain_at links.chains to).first });
  chains = slice_set links.chains to (record { first = links.waiting.first; count = (chain_at links.chains to).count + 1 });
  waiting = record { first = (watch_at links.nodes links.waiting.first).next; count = links.waiting.count - 1 };
}

-- the watches on a literal wait
abbrev pub taken : Links → ℕ → Links
taken links lit = record { nodes = links.nodes; chains = slice_set links.chains lit no_chain; waiting = chain_at links.chains lit }

-- one more watch on a literal
abbrev pub added : Links → ℕ → Links
added links lit = record {
  nodes = links.nodes ++ (record { lit = lit; next = (chain_at links.chains lit).first }) ∷ [];
  chains = slice_set links.chains lit (record { first = length links.nodes; count = (chain_at links.chains lit).count + 1 });
  waiting = links.waiting;
}

-- one more watch that is in no list
abbrev pub idle : Links → Links
idle links = record { nodes = links.nodes ++ (record { lit = 0; next = 0 }) ∷ []; chains = links.chains; waiting = links.waiting }

-- no number stands twice
abbrev pub Once : List ℕ → Type 0
Once [] = Unit {0}
Once (x ∷ xs) = (Has x xs → ⊥) × Once xs

-- each watch is in one list at most, and that is its literal's or that of those that wait
pub record IsLinked (links : Links) : Type 0 where
  pub homes : (lit n : ℕ) → Has n (list_of links lit) → (watch_at links.nodes n).lit ≡ lit
  pub within : (lit n : ℕ) → Has n (list_of links lit) → n < length links.nodes
  pub once : (lit : ℕ) → Once (list_of links lit)
  pub waiting_within : (n : ℕ) → Has n (waiting_of links) → n < length links.nodes
  pub waiting_once : Once (waiting_of links)
  pub waiting_alone : (lit n : ℕ) → Has n (waiting_of links) → Has n (list_of links lit) → ⊥

-- The watches, and the numbers of the clauses without any. The first `seen` entries were followed:
-- each watch of a literal that one of them makes false was looked at. The first `sure` of these were
-- followed at their own level.
pub record Watched : Type 0 where
  pub links : Links
  pub apart : List ℕ
  pub seen : ℕ
  pub sure : ℕ
  pub lasting : ℕ
