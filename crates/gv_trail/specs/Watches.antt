-- How the watches of a trail belong to the clauses and to what is assigned: a part of what a trail is
-- over clauses that callers never open.
-- Watches `2k` and `2k + 1` are those of clause k, on two of its literals that differ. Each is in the list of its
-- literal or in that of the watches that wait. Of the entries the first `seen` were followed, and of these the first
-- `sure` at their own level. Where a watched literal is false by an entry that was followed, the other literal is true;
-- where that entry is among the first `sure`, it is true at no higher level. So the invariant holds in every state, and
-- `back_to` keeps it by making both numbers the lesser of `sure` and the number of entries that are left. Clauses
-- without two literals that differ are held apart. Of these the first `lasting` have a literal that is true at level 0,
-- which no call takes back, so that they are passed over.
use Rattle.std.specs.Prelude.{◌≡◌, ◌⊎◌, ℕ, ◌*◌, ◌/◌, ◌<◌, ◌≤◌, ◌^◌, Bool, true, List, [], ◌∷◌, length, take, get_or, slice_index_or}
use Rattle.gv_logic.specs.Literals.{opposite}
use Rattle.gv_logic.specs.Partial.{is_true, Has}
use Rattle.gv_trail.specs.Links.{Links, watch_at, list_of, waiting_of, IsLinked}
use Rattle.gv_trail.specs.Entries.{Entry, State, assignment}

abbrev pub IsIn : Entry → List Entry → Type 0
IsIn e [] = ⊥
IsIn e (x ∷ xs) = (x ≡ e) ⊎ IsIn e xs

-- Where a literal is false by an entry that was followed, the other is true; where that was followed
-- at its own level, the other is true at no higher one. So this stays when levels are taken back.
pub record IsGuarded (on : List Bool) (es : List Entry) (seen sure lit other : ℕ) : Type 0 where
  pub now : (e : Entry) → IsIn e (take seen es) → e.lit ≡ opposite lit → is_true on other ≡ true
  pub later : (e : Entry) → IsIn e (take sure es) → e.lit ≡ opposite lit → (d : Entry) × IsIn d es × (d.lit ≡ other) × (d.level ≤ e.level)

abbrev pub lit_at : Links → ℕ → ℕ
lit_at links n = (watch_at links.nodes n).lit

abbrev pub clause_at : List (List ℕ) → ℕ → List ℕ
clause_at cs k = slice_index_or cs k []

-- the two watches of a clause are on literals of it that differ, and each is in its list or waits
pub record IsWatch (cs : List (List ℕ)) (s : State) (n : ℕ) : Type 0 where
  pub has : Has (lit_at s.watched.links n) (clause_at cs (n / 2))
  pub other : Has (lit_at s.watched.links (opposite n)) (clause_at cs (n / 2))
  pub differ : lit_at s.watched.links n ≡ lit_at s.watched.links (opposite n) → ⊥
  pub listed : Has n (list_of s.watched.links (lit_at s.watched.links n)) ⊎ Has n (waiting_of s.watched.links)
  pub guarded : IsGuarded (assignment s) s.entries s.watched.seen s.watched.sure (lit_at s.watched.links n) (lit_at s.watched.links (opposite n))

-- the clause is among those that are held apart, and the watch is in no list
pub record IsApart (s : State) (n : ℕ) : Type 0 where
  pub among : Has (n / 2) s.watched.apart
  pub unlisted : (lit : ℕ) → Has n (list_of s.watched.links lit) → ⊥
  pub idle : Has n (waiting_of s.watched.links) → ⊥

-- a clause has a literal that is true at level 0; and that of a number
pub record HasLasting (es : List Entry) (c : List ℕ) : Type 0 where
  pub entry : Entry
  pub there : IsIn entry es
  pub level : entry.level ≡ 0
  pub has : Has entry.lit c

pub record Lasts (cs : List (List ℕ)) (es : List Entry) (number : ℕ) : Type 0 where
  pub clause : number < length cs
  pub true_ : HasLasting es (clause_at cs number)

pub record IsWatching (cs : List (List ℕ)) (s : State) : Type 0 where
  pub literals : length s.watched.links.chains ≡ 2 * s.variables
  pub watches : length s.watched.links.nodes ≡ 2 * length cs
  pub few : length s.watched.links.nodes < 2 ^ 32
  pub links : IsLinked s.watched.links
  pub order : s.watched.sure ≤ s.watched.seen
  pub reached : s.watched.seen ≤ length s.entries
  pub within : s.watched.lasting ≤ length s.watched.apart
  pub lasts : (i : ℕ) → i < s.watched.lasting → Lasts cs s.entries (get_or s.watched.apart i 0)
  pub held : (n : ℕ) → n < 2 * length cs → IsWatch cs s n ⊎ IsApart s n
