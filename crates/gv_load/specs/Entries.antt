-- What is read of each PF: its entry and the digest of its ebuild, and then the eclasses that entries name (PMS chapter 14).
use Rattle.std.specs.Prelude.{ℕ, if◌then◌else◌, List, [], map, flat_map, Option, Some, None}
use Rattle.std.specs.Option.{option_map}
use Rattle.md5.specs.Md5.{md5}
use Rattle.gv_base.specs.Order.{in_order, has_text}
use Rattle.gv_entry.specs.EntryRead.{entry_of}
use Rattle.gv_entry.specs.declared.entry.Eclass.{Eclass}
use Rattle.gv_entry.specs.declared.entry.Entry.{Entry}
use Rattle.gv_load.specs.declared.entries.PfRead.{PfRead}
use Rattle.gv_load.specs.Categories.{listed, name_of, pf_subject, pfs_of}
use Rattle.gv_reading.specs.Look.{Look, bytes_at}
use Rattle.gv_load.specs.Paths.{entry_path, ebuild_path, eclass_path}

-- the bytes of an entry that was listed; one that is no file counts as not there
abbrev pub entry_bytes : Look → (listed : List (List ℕ)) → (category pf : List ℕ) → Option (List ℕ)
entry_bytes look listed category pf = if has_text listed pf then bytes_at look (entry_path category pf) else None

abbrev pub entry_at : Look → (listed : List (List ℕ)) → (category pf : List ℕ) → Option Entry
entry_at look listed category pf = option_map (entry_of category pf) (entry_bytes look listed category pf)

-- the digest of a file; what is no file has none
abbrev pub digest_at : Look → List ℕ → Option (List ℕ)
digest_at look path = option_map md5 (bytes_at look path)

abbrev pub pf_read : Look → (listed : List (List ℕ)) → (category pf : List ℕ) → PfRead
pf_read look listed category pf = record {
  subject = pf_subject category pf;
  entry = entry_at look listed category pf;
  ebuild = digest_at look (ebuild_path category (name_of pf) pf);
}

-- of a category, and of all of them
abbrev pub reads_of : Look → List ℕ → List PfRead
reads_of look category = map (pf_read look (listed look category) category) (pfs_of look category)

abbrev pub all_reads : Look → List (List ℕ) → List PfRead
all_reads look categories = flat_map (reads_of look) categories

-- ---- the eclasses that are read: those of each entry with an ebuild whose list can be read, also where it is stale

abbrev pub eclass_name : Eclass → List ℕ
eclass_name e = e.name

abbrev pub named_by : Option (List Eclass) → List (List ℕ)
named_by None = []
named_by (Some es) = map eclass_name es

abbrev pub names_with : Option Entry → (ebuild : Option (List ℕ)) → List (List ℕ)
names_with (Some e) (Some digest) = named_by e.eclasses
names_with (Some e) None = []
names_with None ebuild = []

abbrev pub names_in : PfRead → List (List ℕ)
names_in r = names_with r.entry r.ebuild

-- in byte order, each once
abbrev pub eclass_names : List PfRead → List (List ℕ)
eclass_names reads = in_order (flat_map names_in reads)

abbrev pub eclass_digest : Look → List ℕ → Option (List ℕ)
eclass_digest look name = digest_at look (eclass_path name)
