-- The expressions that what is known of mentioned names is of: those of all packages, and of those whose entries aren't edited.
-- The words behind them are of private contracts: the numbers of the names that a package's classes mention. Names may share a number,
-- so what lacks it lacks the name, and no more. They have 16 bits, and a session keeps those of each package as long as the package
-- isn't edited.
use Rattle.std.specs.Prelude.{◌≡◌, ℕ, ◌+◌, ◌*◌, ◌%◌, Bool, true, List, map, filter, flat_map, fold, get_or}
use Rattle.gv_base.specs.Order.{has_text}
use Rattle.gv_atom.specs.declared.atom.Atom.{Atom}
use Rattle.gv_entry.specs.declared.entry.Body.{Body}
use Rattle.gv_facts.specs.declared.kinds.Class.{Class}
use Rattle.gv_reading.specs.Paths.{within}
use Rattle.gv_reload.specs.EntryEdits.{is_other, members_of}
use Rattle.gv_load.specs.declared.loading.Repo.{Repo}
use Rattle.gv_load.specs.declared.members.Member.{Member}
use Rattle.gv_plain.specs.Classes.{classes}
use Rattle.gv_plain.specs.PlainReports.{atoms_in}

abbrev pub member_body : Member → Body
member_body m = m.body

-- of each package whose entry isn't edited
abbrev pub other_bodies : (paths : List (List ℕ)) → Repo → List Body
other_bodies paths repo = map member_body (filter (is_other paths) (members_of repo))

-- Words of private contracts. With one more byte, in 16 bits:
unfoldable pub number_with : (number byte : ℕ) → ℕ
number_with number byte = (number * 31 % 65536 + byte) % 65536

-- the number of a text CATEGORY/NAME, below 2^16
abbrev pub name_number : List ℕ → ℕ
name_number name = fold number_with 0 name

abbrev pub atom_number : Atom → ℕ
atom_number atom = name_number (within atom.category atom.name)

-- of the atoms of a class that are no blockers
abbrev pub class_numbers : Body → Class → List ℕ
class_numbers body class = map atom_number (atoms_in body class)

-- of all classes
unfoldable pub numbers_of : Body → List ℕ
numbers_of body = flat_map (class_numbers body) classes

-- A mark for each number; what is beyond them counts as marked.
abbrev pub is_marked : (marks : List Bool) → (number : ℕ) → Bool
is_marked marks number = get_or marks number true

-- the numbers of all these names are marked
abbrev pub AreMarked : (names : List (List ℕ)) → (marks : List Bool) → Type 0
AreMarked names marks = (name : List ℕ) → has_text names name ≡ true → is_marked marks (name_number name) ≡ true
