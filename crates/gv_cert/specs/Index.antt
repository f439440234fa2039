-- What private contracts say of the index of records: the numbers of all records at each query.
use Rattle.std.specs.Prelude.{◌≡◌, ℕ, ◌+◌, ◌<◌, ◌^◌, nat_lt, Bool, not, if◌then◌else◌, List, [], ◌∷◌, length, unwrap_or}
use Rattle.std.specs.BTreeMap.{is_at}
use Rattle.std.specs.Hash.FoldHasher.{initial, write, finish}
use Rattle.std.specs.Map.{lookup}
use Rattle.std.specs.Option.{option_map_or}
use Rattle.std.specs.Ordering.{nat_cmp}
use Rattle.std.specs.Rc.{rc_slice_items}
use Rattle.std.specs.Str.{bytes_eq}
use Rattle.gv_base.specs.ByteMap.{has_bytes}
use Rattle.gv_cert.specs.declared.index.Alike.{Alike}
use Rattle.gv_cert.specs.declared.index.Index.{Index}
use Rattle.gv_cert.specs.declared.index.Queries.{Queries}
use Rattle.gv_cert.specs.Known.{KnownRecord}

-- the numbers of the records with this query, where the first has number n
abbrev pub numbers_from : ℕ → List ℕ → List KnownRecord → List ℕ
numbers_from n query [] = []
numbers_from n query (r ∷ rs) = if bytes_eq query r.query then n ∷ numbers_from (n + 1) query rs else numbers_from (n + 1) query rs

abbrev pub numbers_of : List ℕ → List KnownRecord → List ℕ
numbers_of query known = numbers_from 0 query known

-- the numbers that are kept at a query, among those in one tree
abbrev pub numbers_in : Queries → List ℕ → List ℕ
numbers_in queries query = unwrap_or (lookup (has_bytes query) queries.map.entries) []

-- the same, among those of one hash
abbrev pub numbers_among : Alike → List ℕ → List ℕ
numbers_among alike query = if bytes_eq query (rc_slice_items alike.query) then alike.numbers else numbers_in alike.others query

-- queries are kept by what std's hasher makes of their bytes; any number that depends on these alone would do
unfoldable pub hash_of : List ℕ → ℕ
hash_of query = finish (write initial query)

-- the numbers that the index has at a query
abbrev pub numbers_at : Index → List ℕ → List ℕ
numbers_at index query = option_map_or (λ (alike : Alike). numbers_among alike query) (lookup (is_at (nat_cmp (hash_of query))) index.by_hash.entries) []

-- the index has the numbers of all records at each query
abbrev pub HasAll : Index → List KnownRecord → Type 0
HasAll index known = (query : List ℕ) → numbers_at index query ≡ numbers_of query known

abbrev pub is_from : (from : ℕ) → ℕ → Bool
is_from from n = not (nat_lt n from)

-- records in order, fewer than 2^32, and their index
pub record IsIndexed (index : Index) (known : List KnownRecord) : Type 0 where
  pub numbers : HasAll index known
  pub few : length known < 2 ^ 32
