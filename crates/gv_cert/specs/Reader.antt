-- Words of private contracts: what a reader takes from the front of bytes, and what becomes of a record of the first version.
-- Each step of the reader says of its answer: a thing of its kind, whose bytes come first, and then the rest; or that
-- nothing of its kind begins the bytes (`Reads`). No decoder is defined.
use Rattle.std.specs.Prelude.{◌≡◌, ◌⊎◌, ℕ, ◌*◌, ◌<◌, ◌^◌, Bool, List, [], ◌∷◌, ◌++◌, length, Option, None, Some}
use Rattle.std.specs.Borrow.{Bor}
use Rattle.gv_cert.specs.File.{IsRun, run_bytes, IsRecord, record_bytes}
use Rattle.gv_cert.specs.Known.{KnownRecord}
use Rattle.gv_cert.specs.Migration.{IsTurned, IsLeftOut}

-- a thing of this kind, written so, with which the bytes before begin, and then the bytes after; none where none begins them
abbrev pub Reads : {X : Type 0} → (X → Type 0) → (X → List ℕ) → List ℕ → List ℕ → Option X → Type 0
Reads {X} Is written before after None = (x : X) (rest : List ℕ) → Is x → before ≡ written x ++ rest → ⊥
Reads {X} Is written before after (Some x) = Is x × (before ≡ written x ++ after)

abbrev pub ReadsRun : List ℕ → List ℕ → Option (Bor (List ℕ)) → Type 0
ReadsRun before after None = Reads IsRun run_bytes before after None
ReadsRun before after (Some run) = Reads IsRun run_bytes before after (Some run.now)

abbrev pub ReadsRecord : List ℕ → List ℕ → Option (Bor (List ℕ) × Bor (List ℕ)) → Type 0
ReadsRecord before after None = Reads IsRecord record_bytes before after None
ReadsRecord before after (Some p) = let r : KnownRecord = record { query = p.0.now; answer = p.1.now } in Reads IsRecord record_bytes before after (Some r)

-- it has seven bits for the one byte and for each of the others
abbrev pub IsShort : (more : ℕ) → ℕ → Type 0
IsShort more n = n < 128 * 128 ^ more

-- so many bits
abbrev pub AreBits : ℕ → List Bool → Type 0
AreBits count bits = length bits ≡ count

-- the answer of the record that it is turned into, or none where it is left out
abbrev pub Turns : (query answer : List ℕ) → Option (List ℕ) → Type 0
Turns query answer None = IsLeftOut (record { query = query; answer = answer })
Turns query answer (Some new) = IsTurned (record { query = query; answer = answer }) (record { query = query; answer = new })

-- one record more where it is turned, and the same where it is left out
abbrev pub TakesTurned : (r : KnownRecord) → (before after : List KnownRecord) → Type 0
TakesTurned r before after = (IsLeftOut r × (after ≡ before)) ⊎ ((new : KnownRecord) × IsTurned r new × (after ≡ before ++ new ∷ []))
