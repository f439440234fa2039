-- What the program reads of an atom's name part, for the contracts of private functions.
use Rattle.std.specs.Prelude.{◌≡◌, ℕ, ◌+◌, ◌||◌, Bool, not, is_none, List, [], take, drop, Option, None, Some, option_map}
use Rattle.std.specs.Option.{option_map_or}
use Rattle.std.specs.Str.{bytes_eq, byte}
use Rattle.gv_base.specs.Cut.{from_first}
use Rattle.gv_version.specs.Names.{is_category, is_package, split_pf}
use Rattle.gv_atom.specs.declared.atom.CompareOp.{CompareOp}
use Rattle.gv_atom.specs.declared.fault.AtomKind.TheVariants as kinds
use Rattle.gv_atom.specs.declared.naming.Names.{Names}
use Rattle.gv_atom.specs.declared.naming.Tail.{Tail}
use Rattle.gv_atom.specs.Reading.{Division, Fault, when, category_of, after_slash, pf_part, hyphen_of, is_starred, name_fault}

-- whether there is no slash, or no good category before it
abbrev pub has_no_category : List ℕ → Bool
has_no_category part = bytes_eq (from_first (byte "/") part) [] || not (is_category (category_of part))

-- the fault of what stands behind the slash, where that begins at the place
abbrev pub tail_fault : Option CompareOp → ℕ → List ℕ → Option Fault
tail_fault op at text = option_map_or (λ o. when (is_none (split_pf (pf_part (Some o) text))) kinds.Version at) op (when (not (is_package text)) kinds.Package at)

-- the name and the version, where the hyphen stands between them
abbrev pub name_in : Option ℕ → List ℕ → List ℕ
name_in hyphen pf = option_map_or (λ at. take at pf) hyphen pf

abbrev pub version_in : Option ℕ → List ℕ → Option (List ℕ)
version_in hyphen pf = option_map (λ at. drop (at + 1) pf) hyphen

-- a name, a hyphen and a version, which begin at the place
abbrev pub pf_fault : ℕ → List ℕ → Option Fault
pf_fault at pf = when (is_none (split_pf pf)) kinds.Version at

pub record IsPf (at : ℕ) (pf : List ℕ) (tail : Tail) : Type 0 where
  pub fault : pf_fault at pf ≡ None
  pub name : tail.name ≡ name_in (split_pf pf) pf
  pub version : tail.version ≡ version_in (split_pf pf) pf

pub record IsTail (op : Option CompareOp) (at : ℕ) (text : List ℕ) (tail : Tail) : Type 0 where
  pub fault : tail_fault op at text ≡ None
  pub name : tail.name ≡ name_in (hyphen_of op (pf_part op text)) (pf_part op text)
  pub version : tail.version ≡ version_in (hyphen_of op (pf_part op text)) (pf_part op text)

pub record AreNames (d : Division) (names : Names) : Type 0 where
  pub fault : name_fault d ≡ None
  pub category : names.category ≡ category_of d.name_part
  pub name : names.name ≡ name_in (hyphen_of d.op (pf_part d.op (after_slash d.name_part))) (pf_part d.op (after_slash d.name_part))
  pub version : names.version ≡ version_in (hyphen_of d.op (pf_part d.op (after_slash d.name_part))) (pf_part d.op (after_slash d.name_part))
  pub star : names.star ≡ is_starred d.op (after_slash d.name_part)
