-- The version in a PF.
use Rattle.std.proofs.Common.{◌≡◌, ℕ, ◌+◌, ◌≤◌, true, List, [], Some, None, length, drop, refl, sym, subst, ◌∙◌, arith}
use Rattle.std.specs.Prelude.{Option, unwrap_or}
use Rattle.std.specs.Option.{is_some}
use Rattle.std.proofs.Math.ListN.{drop_of_length-le}
use Rattle.gv_version.specs.Laws.{IsDivided}
use Rattle.gv_version.specs.Names.{split_pf}
use Rattle.gv_version.specs.Form.{is_version}
use Rattle.gv_load.specs.Categories.{is_pf, version_of}

pub version_is : ((bytes : List ℕ) → IsDivided bytes) → (pf : List ℕ) → is_pf pf ≡ true → is_version (version_of pf) ≡ true
version_is law pf is = by (split_pf pf) refl is
  where
    by : (o : Option ℕ) → split_pf pf ≡ o → is_some o ≡ true → is_version (version_of pf) ≡ true
    by None at there = cc
    by (Some at) is_at there = subst (λ (o : Option ℕ). is_version (drop (unwrap_or o 0 + 1) pf) ≡ true) (sym is_at) ((law pf).there at is_at).1

-- nothing stands behind the end
pub behind_end : (bytes : List ℕ) (at : ℕ) → length bytes ≤ at → drop (length bytes) bytes ≡ drop (at + 1) bytes
behind_end bytes at past =
    let here : drop (length bytes) bytes ≡ [] = drop_of_length-le bytes (omega arith) in
    let there : drop (at + 1) bytes ≡ [] = drop_of_length-le bytes (omega (arith, past)) in
    here ∙ sym there
