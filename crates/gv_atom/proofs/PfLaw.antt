-- Where a PF is divided: a name before the hyphen, a version behind it.
use Rattle.std.proofs.Common.{◌≡◌, ℕ, ◌+◌, ◌<◌, true, List, ◌∷◌, ◌++◌, length, take, drop, ap, Some, arith, length-append}
use Rattle.std.proofs.Math.Seq.{take-append_seam, drop-append-add}
use Rattle.std.specs.Str.{byte}
use Rattle.gv_version.specs.Laws.{Divides, IsDivided}
use Rattle.gv_version.specs.Names.{is_package, split_pf}
use Rattle.gv_version.specs.Form.{is_version}

pub record PfParts (text : List ℕ) (at : ℕ) : Type 0 where
  pub written : take at text ++ byte "-" ∷ drop (at + 1) text ≡ text
  pub name : is_package (take at text) ≡ true
  pub version : is_version (drop (at + 1) text) ≡ true

take_is : (whole : List ℕ) (at : ℕ) (d : Divides whole at) → take at whole ≡ d.name
take_is whole at d = rw (← d.place, ← d.written) (take-append_seam d.name (byte "-" ∷ d.version))

drop_is : (whole : List ℕ) (at : ℕ) (d : Divides whole at) → drop (at + 1) whole ≡ d.version
drop_is whole at d = rw (← d.place, ← d.written) (drop-append-add d.name (byte "-" ∷ d.version) 1)

pub pf_parts : (text : List ℕ) (at : ℕ) → IsDivided text → split_pf text ≡ Some at → PfParts text at
pf_parts text at law h =
    let found = law.there at h in
    record {
      written = rw (take_is text at found.0, drop_is text at found.0) found.0.written;
      name = rw (take_is text at found.0) found.0.name_form;
      version = found.1;
    }

within : (text : List ℕ) (at : ℕ) → Divides text at → at < length text
within text at d = omega (arith, d.place, ap length d.written, length-append d.name (byte "-" ∷ d.version))

-- the hyphen lies within the text
pub hyphen_within : (text : List ℕ) (at : ℕ) → IsDivided text → split_pf text ≡ Some at → at < length text
hyphen_within text at law h = within text at (law.there at h).0
