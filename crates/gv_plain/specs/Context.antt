-- The case that the code's references to a package, a profile and a level stand for.
use Rattle.std.specs.Prelude.{◌≡◌, Some, slice_get}
use Rattle.gv_plain.specs.Cases.{Case, Member, case_at}
use Rattle.gv_plain.specs.declared.context.JudgedPkg.{JudgedPkg}
use Rattle.gv_plain.specs.declared.context.ListedPkg.{ListedPkg}

abbrev pub listed : ListedPkg → Member
listed one = record { number = one.number; pkg = one.pkg.now; body = one.body.now }

abbrev pub member_of : JudgedPkg → Member
member_of j = record { number = j.number; pkg = j.pkg.now; body = j.body.now }

abbrev pub case_of : JudgedPkg → Case
case_of j = case_at j.pkgs.now (member_of j) j.profile.now j.level

-- it has its number among the packages
abbrev pub IsNumbered : JudgedPkg → Type 0
IsNumbered j = slice_get j.pkgs.now j.number ≡ Some j.pkg.now
