-- The certificate file: a header, then records.
use Rattle.std.specs.Prelude.{◌≡◌, ℕ, ◌<◌, ◌^◌, List, [], ◌++◌, length, Option, None, Some, codes}
use Rattle.std.specs.List.{AllByRecursion, flat_map}
use Rattle.gv_base.specs.Cut.{after_prefix}
use Rattle.gv_cert.specs.Numbers.{length_bytes}
use Rattle.gv_cert.specs.Known.{KnownRecord}
use Rattle.gv_cert.specs.Migration.{AreTurned}

-- `gviscert2` and a line feed
unfoldable pub header : List ℕ
header = codes "gviscert2\n"

-- `gviscert1` and a line feed: a file of the first version, which is read and never written
unfoldable pub first_header : List ℕ
first_header = codes "gviscert1\n"

-- bytes behind their length
abbrev pub run_bytes : List ℕ → List ℕ
run_bytes bytes = length_bytes (length bytes) ++ bytes

-- the query and the answer, each behind its length
abbrev pub record_bytes : KnownRecord → List ℕ
record_bytes r = run_bytes r.query ++ run_bytes r.answer

abbrev pub records_bytes : List KnownRecord → List ℕ
records_bytes known = flat_map record_bytes known

abbrev pub file_bytes : List KnownRecord → List ℕ
file_bytes known = header ++ records_bytes known

-- the length has eight bytes
abbrev pub IsRun : List ℕ → Type 0
IsRun bytes = length bytes < 2 ^ 64

pub record IsRecord (r : KnownRecord) : Type 0 where
  pub query : IsRun r.query
  pub answer : IsRun r.answer

-- the records with which the bytes begin, as many as there are: none begins the rest
pub record ReadsRecords (bytes : List ℕ) (known : List KnownRecord) : Type 0 where
  pub rest : List ℕ
  pub taken : bytes ≡ records_bytes known ++ rest
  pub formed : AllByRecursion IsRecord known
  pub ended : (r : KnownRecord) (after : List ℕ) → IsRecord r → rest ≡ record_bytes r ++ after → ⊥

-- of records of the first version, those that can be turned into the second, in order
pub record ReadsFirst (bytes : List ℕ) (known : List KnownRecord) : Type 0 where
  pub old : List KnownRecord
  pub read : ReadsRecords bytes old
  pub turned : AreTurned old known

-- what follows the header, or else what follows that of the first version; with neither, no records
abbrev pub ReadsBehind : (second first : Option (List ℕ)) → List KnownRecord → Type 0
ReadsBehind (Some bytes) first known = ReadsRecords bytes known
ReadsBehind None (Some bytes) known = ReadsFirst bytes known
ReadsBehind None None known = known ≡ []

-- the records that a file of these bytes has
abbrev pub ReadsFile : List ℕ → List KnownRecord → Type 0
ReadsFile bytes known = ReadsBehind (after_prefix header bytes) (after_prefix first_header bytes) known
