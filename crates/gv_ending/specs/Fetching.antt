-- Files that are taken from the store, and the records of certificates in them.
use Rattle.std.specs.Prelude.{◌≡◌, ℕ, Bool, true, false, List, [], ◌∷◌, ◌++◌, Option, IfSome, unwrap_or}
use Rattle.std.specs.FinMap as map
use Rattle.gv_base.specs.FileMap.{FileMap}
use Rattle.gv_cert.specs.File.{ReadsFile}
use Rattle.gv_cert.specs.Known.{KnownRecord}

-- the bytes of the file at a path; where none is there, no bytes
abbrev pub file_at : FileMap → (path : List ℕ) → List ℕ
file_at files path = unwrap_or (map.get files path) []

-- these are its bytes, where the store tells its files
abbrev pub IsFileAt : (kept : Option FileMap) → (path bytes : List ℕ) → Type 0
IsFileAt kept path bytes = IfSome kept (λ files. bytes ≡ file_at files path)

-- these are the records that it has
abbrev pub AreRecordsAt : (kept : Option FileMap) → (path : List ℕ) → List KnownRecord → Type 0
AreRecordsAt kept path known = IfSome kept (λ files. ReadsFile (file_at files path) known)

-- the records that are given by what the store held: none where those of before are passed over, else those of the file
abbrev pub IsGiven : (fresh : Bool) → (kept : Option FileMap) → (path : List ℕ) → (given : List KnownRecord) → Type 0
IsGiven true kept path given = given ≡ []
IsGiven false kept path given = AreRecordsAt kept path given

-- the records of these files, those of one behind those of another
abbrev pub AreJoined : (kept : Option FileMap) → (paths : List (List ℕ)) → (given : List KnownRecord) → Type 0
AreJoined kept [] given = given ≡ []
AreJoined kept (path ∷ paths) given = (first : List KnownRecord) × (rest : List KnownRecord) × AreRecordsAt kept path first × AreJoined kept paths rest × (given ≡ first ++ rest)
