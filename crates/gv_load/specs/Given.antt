-- Names of entries that are given, read whatever is listed: in which order, and what comes of it.
use Rattle.std.specs.Prelude.{ℕ, ◌+◌, List, [], ◌++◌, length, map, filter, flat_map}
use Rattle.std.specs.Option.{option_map_or}
use Rattle.gv_base.specs.Order.{in_order}
use Rattle.gv_load.specs.Categories.{is_pf}
use Rattle.gv_load.specs.Entries.{eclass_digest, named_by, pf_read}
use Rattle.gv_load.specs.Freshness.{pf_kept}
use Rattle.gv_load.specs.Notes.{pf_notes}
use Rattle.gv_load.specs.Order.{eclass_steps, pfs_steps}
use Rattle.gv_load.specs.Repository.{body_of, in_package_order, members_in, pkg_of}
use Rattle.gv_load.specs.declared.entries.PfRead.{PfRead}
use Rattle.gv_load.specs.declared.freshness.PfKept.{PfKept}
use Rattle.gv_load.specs.declared.given.Given.{Given}
use Rattle.gv_load.specs.declared.given.GivenRead.{GivenRead}
use Rattle.gv_reading.specs.Look.{Look}
use Rattle.gv_reading.specs.Reading.{Step}

-- the PFs among the names; other names are passed over
abbrev pub pfs_in : Given → List (List ℕ)
pfs_in g = filter is_pf g.names

-- all of them count as listed
abbrev pub given_in : Look → Given → List PfRead
given_in look g = map (pf_read look (pfs_in g) g.category) (pfs_in g)

abbrev pub given_reads : Look → List Given → List PfRead
given_reads look given = flat_map (given_in look) given

abbrev pub steps_in : Given → List Step
steps_in g = pfs_steps (pfs_in g) g.category (pfs_in g)

abbrev pub pf_steps : List Given → List Step
pf_steps given = flat_map steps_in given

-- ---- the eclasses that they name, with an ebuild or without

abbrev pub names_said : PfRead → List (List ℕ)
names_said r = option_map_or (λ e. named_by e.eclasses) r.entry []

abbrev pub all_said : List PfRead → List (List ℕ)
all_said reads = flat_map names_said reads

-- ---- all that is read, and what comes of it

abbrev pub given_steps : Look → List Given → List Step
given_steps look given = pf_steps given ++ eclass_steps (in_order (all_said (given_reads look given)))

-- so many paths at most were read
abbrev pub read_paths : List PfRead → ℕ
read_paths reads = length reads + (length reads + length (all_said reads))

abbrev pub given_with : (kepts : List PfKept) → (more : ℕ) → GivenRead
given_with kepts more = record {
  pkgs = map pkg_of (in_package_order (members_in kepts));
  bodies = map body_of (in_package_order (members_in kepts));
  notes = flat_map pf_notes kepts;
  more = more;
}

abbrev pub read_with : Look → List PfRead → GivenRead
read_with look reads = given_with (map (pf_kept (eclass_digest look)) reads) (read_paths reads)

abbrev pub given_read : Look → List Given → GivenRead
given_read look given = read_with look (given_reads look given)
