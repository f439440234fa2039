-- Packages put in order, one after another: words of private contracts.
use Rattle.std.specs.Prelude.{List, fold, Option, Some, None}
use Rattle.std.specs.BTreeSet.{insert_key}
use Rattle.gv_load.specs.declared.freshness.PfKept.{PfKept}
use Rattle.gv_load.specs.declared.members.Member.{Member}
use Rattle.gv_load.specs.Repository.{member_cmp, member_in}

abbrev pub with_member : List Member → Option Member → List Member
with_member members None = members
with_member members (Some m) = insert_key member_cmp members m

abbrev pub with_all : List Member → List PfKept → List Member
with_all members kepts = fold (λ ms k. with_member ms (member_in k.kept)) members kepts
