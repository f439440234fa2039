-- The packages of several repositories together.
use Rattle.std.specs.Prelude.{Bool, true, false, List, [], ◌∷◌, ◌++◌}
use Rattle.std.specs.List.Sorted.{IsSortedBy, IsStableBy}
use Rattle.std.specs.Ordering.{is_lt}
use Rattle.gv_entry.specs.declared.entry.Body.{Body}
use Rattle.gv_facts.specs.declared.pkg.Pkg.{Pkg}
use Rattle.gv_load.specs.Repository.{member_cmp}
use Rattle.gv_load.specs.declared.loading.Repo.{Repo}
use Rattle.gv_load.specs.declared.members.Member.{Member}
use Rattle.gv_overlay.specs.declared.combining.Entry.{Entry}

-- packages with their expressions, and whether they are the overlay's own
abbrev pub entries_of : (own : Bool) → List Pkg → List Body → List Entry
entries_of own [] bodies = []
entries_of own (p ∷ ps) [] = []
entries_of own (p ∷ ps) (b ∷ bs) = record { member = record { pkg = p; body = b }; own = own } ∷ entries_of own ps bs

abbrev pub repo_entries : (own : Bool) → Repo → List Entry
repo_entries own repo = entries_of own repo.pkgs repo.bodies

-- those of the masters, in their order
abbrev pub master_entries : (masters : List Repo) → List Entry
master_entries [] = []
master_entries (master ∷ masters) = repo_entries false master ++ master_entries masters

abbrev pub comes_before : Entry → Entry → Bool
comes_before one two = is_lt (member_cmp one.member two.member)

-- in package order, where those that are equal in it stay in the order in which they were given
pub record AreCombined (given entries : List Entry) : Type 0 where
  pub ascending : IsSortedBy comes_before entries
  pub stable : IsStableBy comes_before given entries

abbrev pub pkg_of : Entry → Pkg
pkg_of e = e.member.pkg

abbrev pub body_of : Entry → Body
body_of e = e.member.body

abbrev pub own_of : Entry → Bool
own_of e = e.own
