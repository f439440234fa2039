-- What stacks are folded from: the directories by path, and the repository's own mask files.
use Rattle.std.specs.Prelude.{◌≡◌, ℕ, List, Option, Some, refl}
use Rattle.std.specs.Coded.{Coded, code_by, coded×, coded_list}
use Rattle.std.specs.FinMap.{get}
use Rattle.gv_base.specs.ByteMap.{ByteMap}
use Rattle.gv_profile.specs.declared.files.DirFiles.{DirFiles}
use Rattle.gv_profile.specs.declared.mask_lines.MaskLine.{MaskLine}
use Rattle.gv_profile.specs.declared.sources.DirLines.{DirLines}
use Rattle.gv_profile.specs.Dirs.{DirMap, coded_dirs}
use Rattle.gv_profile.specs.FlagRules.{dir_rules}
use Rattle.gv_profile.specs.MaskLines.{mask_lines}
use Rattle.gv_reading.specs.contracts.files.NamedFile as named
use Rattle.gv_reading.specs.declared.files.NamedFile.{NamedFile}

pub record Sources : Type 0 where
  pub dirs : DirMap
  pub first : List NamedFile

abbrev pub coded_sources : Coded Sources
coded_sources = code_by (DirMap × List NamedFile) (coded× coded_dirs (coded_list named.the_row.coded))
    (λ s. (s.dirs, s.first)) (λ p. record { dirs = p.0; first = p.1 }) (λ _. refl)

-- ---- for private contracts: what was parsed of them

-- what the files of a directory say
abbrev pub lines_of : DirFiles → DirLines
lines_of files = record { masks = mask_lines files.package_mask; rules = dir_rules files }

-- what is kept is what the files say
pub record AreParsed (dirs : DirMap) (lines : ByteMap DirLines) (first : List NamedFile) (first_lines : Option (List MaskLine)) : Type 0 where
  pub at : (path : List ℕ) (files : DirFiles) (said : DirLines) → get dirs path ≡ Some files → get lines path ≡ Some said → said ≡ lines_of files
  pub before : (said : List MaskLine) → first_lines ≡ Some said → said ≡ mask_lines first
