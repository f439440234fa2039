-- Words of private contracts: the digests of eclasses, by name.
use Rattle.std.specs.Prelude.{◌≡◌, ℕ, true, List, [], ◌∷◌, Option, Some, None, if◌then◌else◌}
use Rattle.std.specs.FinMap.{get, insert}
use Rattle.gv_base.specs.Order.{has_text}
use Rattle.gv_load.specs.Entries.{eclass_digest, names_in}
use Rattle.gv_load.specs.declared.entries.PfRead.{PfRead}
use Rattle.gv_reading.specs.Look.{Look}
use Rattle.gv_load.specs.EclassDigests.{DigestMap}

abbrev pub digests_with : DigestMap → List ℕ → Option (List ℕ) → DigestMap
digests_with digests name None = digests
digests_with digests name (Some digest) = insert digests name digest

-- the eclasses that were named are kept by their digests, and no other
abbrev pub KeepsDigests : Look → List (List ℕ) → DigestMap → Type 0
KeepsDigests look names digests = (name : List ℕ) → get digests name ≡ (if has_text names name then eclass_digest look name else None)

-- each of these names was named
abbrev pub AreNamed : List (List ℕ) → List (List ℕ) → Type 0
AreNamed names these = (name : List ℕ) → has_text these name ≡ true → has_text names name ≡ true

-- all that entries with an ebuild name was named
abbrev pub AllNamed : List (List ℕ) → List PfRead → Type 0
AllNamed names [] = Unit {0}
AllNamed names (r ∷ rs) = AreNamed names (names_in r) × AllNamed names rs
