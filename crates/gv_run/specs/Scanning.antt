-- What a scan leaves, of whichever queries it is.
use Rattle.std.specs.Prelude.{◌≡◌, ℕ, ◌+◌, ◌≤◌, List, [], ◌∷◌, true, false, Option, length, map, ◌⊎◌}
use Rattle.std.specs.FinMap as map
use Rattle.std.specs.List.{AllByRecursion}
use Rattle.std.specs.Option.{option_map}
use Rattle.gv_base.specs.Causes.{Rose}
use Rattle.gv_base.specs.Counts.{Counts}
use Rattle.gv_base.specs.FileMap.{FileMap}
use Rattle.gv_base.specs.Order.{has_text}
use Rattle.gv_base.specs.Outside.{gains}
use Rattle.gv_cert.specs.Backing.{NoneBacked}
use Rattle.gv_cert.specs.File.{ReadsFile, file_bytes}
use Rattle.gv_cert.specs.Known.{KnownRecord}
use Rattle.gv_reading.specs.declared.faults.LoadFault.{LoadFault}
use Rattle.gv_load.specs.declared.loading.Repo.{Repo}
use Rattle.gv_words.specs.declared.command.Asked.{Asked}
use Rattle.gv_words.specs.declared.merging.Merging.{Merging}
use Rattle.gv_words.specs.declared.values.Share.{Share}
use Rattle.gv_checks.specs.Certs.{AreCerts, Cert, HasBacked, cert_record, first_uses}
use Rattle.gv_checks.specs.Limits.{IsWithin}
use Rattle.gv_checks.specs.Queries.{Query, gates_of, queries}
use Rattle.gv_checks.specs.RepoReports.{scan_text}
use Rattle.gv_logic.specs.Circuits.{Circuit, IsCircuit}
use Rattle.gv_ending.specs.declared.refusal.Refusal.{Refusal}
use Rattle.gv_ending.specs.Causes.{Causes, no_refusal}
use Rattle.gv_ending.specs.Endings.{GainsFront}
use Rattle.gv_merge.specs.Parts.{part_queries}
use Rattle.gv_ending.specs.Fetching.{AreJoined, IsGiven}
use Rattle.gv_run.specs.Naming.{TellsFirst, TellsLacking}
use Rattle.gv_run.specs.Scan.{IsLoaded, IsUnloaded, said_by}
use Rattle.gv_run.specs.Silences.{IsRefutedIfSilent}
use Rattle.gv_ending.specs.World.{SameOut, SameSteps, SameTree, Untouched, World}

-- What is scanned: where its certificates are kept; whether records are taken from files before, from which, and which records are given by
-- what the store holds; how many sets a query may keep; what is loaded, or why it isn't; and of what was loaded the queries that are
-- asked, how one of them is refused, and the text that is printed
pub record Scanning : Type 1 where
  pub certs : List ℕ
  pub Fetching : Type 0
  pub Fetches : (path : List ℕ) → Type 0
  pub Given : (kept : Option FileMap) → List KnownRecord → Type 0
  pub budget : ℕ
  pub Of : Type 0
  pub Loads : Of → Type 0
  pub Unloads : LoadFault → Type 0
  pub asks : Of → List Query
  pub Unasked : (given : List KnownRecord) → Of → Refusal → Type 0
  pub prints : Of → List ℕ

-- that of a `scan`, where the files are told: all queries of the repository that they load to
abbrev pub scan_of : Asked → Option FileMap → Scanning
scan_of a told = record {
  certs = a.certs;
  Fetching = a.fresh ≡ false;
  Fetches = λ path. path ≡ a.certs;
  Given = λ kept. IsGiven a.fresh kept a.certs;
  budget = a.options.budget;
  Of = Repo;
  Loads = IsLoaded told;
  Unloads = IsUnloaded told;
  asks = queries a.options;
  Unasked = λ given repo. TellsFirst a.options.budget given (queries a.options repo) repo;
  prints = scan_text a.options;
}

-- that of a `scan` of a part: its queries alone, and no text
abbrev pub part_scan_of : Asked → Share → Option FileMap → Scanning
part_scan_of a share told = record {
  certs = a.certs;
  Fetching = a.fresh ≡ false;
  Fetches = λ path. path ≡ a.certs;
  Given = λ kept. IsGiven a.fresh kept a.certs;
  budget = a.options.budget;
  Of = Repo;
  Loads = IsLoaded told;
  Unloads = IsUnloaded told;
  asks = part_queries share.part share.parts a.options;
  Unasked = λ given repo. TellsFirst a.options.budget given (part_queries share.part share.parts a.options repo) repo;
  prints = λ repo. [];
}

-- that of a `merge`: all queries, and a record among those of the files for each, since no set may be kept
abbrev pub merge_of : Merging → Option FileMap → Scanning
merge_of m told = record {
  certs = m.certs;
  Fetching = Unit {0};
  Fetches = λ path. has_text m.from path ≡ true;
  Given = λ kept. AreJoined kept m.from;
  budget = 0;
  Of = Repo;
  Loads = IsLoaded told;
  Unloads = IsUnloaded told;
  asks = queries m.options;
  Unasked = λ given repo. TellsLacking given (queries m.options repo) m.parts;
  prints = scan_text m.options;
}

-- ---- the certificates of queries

-- of so many of these gates no given record is backed
abbrev pub AreUnbacked : (given : List KnownRecord) → List Circuit → (count : ℕ) → Type 0
AreUnbacked given [] count = count ≡ 0
AreUnbacked given (g ∷ gs) count = (HasBacked given g × AreUnbacked given gs count) ⊎ (NoneBacked g given × (less : ℕ) × (count ≡ less + 1) × AreUnbacked given gs less)

-- Each distinct query of which no given record is backed is solved once, and so each one where none are given; and at most
-- one lowering is counted for each query.
pub record AreCounted (given : List KnownRecord) (queries : List Query) (before now : Counts) : Type 0 where
  pub count : ℕ
  pub unbacked : AreUnbacked given (first_uses (map gates_of queries)) count
  pub all : given ≡ [] → count ≡ length (first_uses (map gates_of queries))
  pub solved : now.solve ≡ before.solve + count
  pub lowered : now.lower ≤ before.lower + length queries

-- the file of the certificates
abbrev pub certs_file : List Cert → List ℕ
certs_file certs = file_bytes (map cert_record certs)

-- The certificates of these queries, where these records are given: each query is within the limits, and its gates are a circuit;
-- there is one record for each distinct query, by the bytes of its gates, in order of first use, with a backed answer, which is
-- that of the first given record that is backed, byte for byte, where there is one; the file of these records has no others; each
-- silence has a refutation there; and what was counted.
pub record AreAnswered (budget : ℕ) (given : List KnownRecord) (queries : List Query) (before now : Counts) (certs : List Cert) : Type 0 where
  pub within : AllByRecursion IsWithin queries
  pub formed : AllByRecursion (λ q. IsCircuit (gates_of q)) queries
  pub certs_are : AreCerts budget given (map gates_of queries) certs
  pub read_back : (other : List KnownRecord) → ReadsFile (certs_file certs) other → other ≡ map cert_record certs
  pub silences : AllByRecursion (IsRefutedIfSilent (map cert_record certs)) queries
  pub steps : AreCounted given queries before now

-- these records were given, this was loaded, the tree didn't fail, and these are the certificates of all that is asked
pub record Answered (s : Scanning) (old new : World) : Type 0 where
  pub given : List KnownRecord
  pub given_are : s.Given old.kept given
  pub of : s.Of
  pub loaded : s.Loads of
  pub tree : SameTree old new
  pub certs : List Cert
  pub are : AreAnswered s.budget given (s.asks of) old.counts new.counts certs

-- ---- where they are kept

-- at the path the store holds their file, elsewhere what it held; it didn't fail
pub record Keeps (path : List ℕ) (certs : List Cert) (old new : World) : Type 0 where
  pub kept : new.kept ≡ option_map (λ files. map.insert files path (certs_file certs)) old.kept
  pub calm : new.store_faults ≡ old.store_faults

-- elsewhere than at the path the store holds what it held
abbrev pub KeepsOthers : (path : List ℕ) → World → World → Type 0
KeepsOthers path old new = option_map (λ files. map.remove files path) new.kept ≡ option_map (λ files. map.remove files path) old.kept

-- the store was not replaced, and whatever became of that path, nothing was written
abbrev pub UnkeptBy : (path : List ℕ) → World → World → Type 0
UnkeptBy path old new = KeepsOthers path old new × SameOut old new

-- the store was replaced, and the output gained some first bytes of the text
abbrev pub WroteFront : (path : List ℕ) → List Cert → (text : List ℕ) → World → World → Type 0
WroteFront path certs text old new = Keeps path certs old new × GainsFront old.out new.out text

-- ---- where a scan has an answer

-- All queries were answered, the store holds exactly their certificates, and the output gained exactly the text, whatever records
-- were given.
pub record Scans (s : Scanning) (old new : World) (status : ℕ) : Type 0 where
  pub answered : Answered s old new
  pub store : Keeps s.certs answered.certs old new
  pub out : new.out ≡ gains old.out (s.prints answered.of)
  pub calm : new.out_faults ≡ old.out_faults
  pub status_is : status ≡ said_by (s.prints answered.of)

-- that of a `scan`
abbrev pub Reports : Asked → World → World → ℕ → Type 0
Reports a old new status = Scans (scan_of a old.files) old new status

-- ---- where it has none

-- a file of certificates could not be taken: the tree was not read, the files of the store are as before, nothing was written, and no query
-- was asked
pub record Unfetched (s : Scanning) (old new : World) : Type 0 where
  pub fetching : s.Fetching
  pub tree : SameTree old new
  pub kept : new.kept ≡ old.kept
  pub out : SameOut old new
  pub steps : SameSteps old new

-- before all queries were answered neither the store's files nor the output is touched
pub record Stopped (s : Scanning) (old new : World) (Why : (given : List KnownRecord) → Type 0) : Type 0 where
  pub given : List KnownRecord
  pub given_are : s.Given old.kept given
  pub untouched : Untouched old new
  pub why : Why given

-- behind that
pub record StoppedBehind (s : Scanning) (old new : World) (Why : (text : List ℕ) → List Cert → Type 0) : Type 0 where
  pub answered : Answered s old new
  pub why : Why (s.prints answered.of) answered.certs

-- a query of what was loaded is refused so: each before it has its certificate
abbrev pub IsUnasked : Scanning → (given : List KnownRecord) → Refusal → Type 0
IsUnasked s given refusal = (of : s.Of) × s.Loads of × s.Unasked given of refusal

-- why a scan has none, and what it leaves then
abbrev pub scanning_causes : Scanning → World → World → Causes
scanning_causes s old new = record {
  tree = Stopped s old new (λ given. Rose old.tree_faults new.tree_faults × SameSteps old new);
  store = λ path. Rose old.store_faults new.store_faults × ((s.Fetches path × Unfetched s old new) ⊎ ((path ≡ s.certs) × StoppedBehind s old new (λ text certs. UnkeptBy s.certs old new)));
  input = no_refusal;
  output = Rose old.out_faults new.out_faults × StoppedBehind s old new (λ text certs. WroteFront s.certs certs text old new);
  files = λ fault. Stopped s old new (λ given. SameTree old new × (SameSteps old new × s.Unloads fault));
  queries = λ refusal. Stopped s old new (λ given. SameTree old new × IsUnasked s given refusal);
  memory = Unfetched s old new
      ⊎ (Stopped s old new (λ given. Unit {0}) ⊎ StoppedBehind s old new (λ text certs. UnkeptBy s.certs old new ⊎ WroteFront s.certs certs text old new));
}

-- that of a `scan`
abbrev pub scan_causes : Asked → World → World → Causes
scan_causes a old new = scanning_causes (scan_of a old.files) old new

-- ---- a `scan` of a part, and a `merge`

-- those of a part leave its certificates
abbrev pub Parts : Asked → Share → World → World → ℕ → Type 0
Parts a share old new status = Scans (part_scan_of a share old.files) old new status

abbrev pub part_causes : Asked → Share → World → World → Causes
part_causes a share old new = scanning_causes (part_scan_of a share old.files) old new

-- those of a merge the certificates and the text of the whole
abbrev pub Merges : Merging → World → World → ℕ → Type 0
Merges m old new status = Scans (merge_of m old.files) old new status

abbrev pub merge_causes : Merging → World → World → Causes
merge_causes m old new = scanning_causes (merge_of m old.files) old new
