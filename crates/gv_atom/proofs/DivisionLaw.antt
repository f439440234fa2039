-- The parts of a division make the bytes.
use Rattle.std.proofs.Common.{◌≡◌, ℕ, ◌+◌, Bool, true, false, List, [], ◌∷◌, ◌++◌, take, drop, refl, ap, sym, ◌∙◌, Option, Some, None, if◌then◌else◌, append_assoc, append-nil, ◌⊎◌, inl, inr}
use Rattle.std.proofs.lemmas.Bool.{false≢true}
use Rattle.std.proofs.lemmas.List.{take-append-drop}
use Rattle.std.specs.Prelude.{◌==◌, codes, option_map}
use Rattle.std.specs.Option.{option_map_or}
use Rattle.std.specs.Str.{bytes_eq, byte}
use Rattle.gv_base.specs.Cut.{from_first, ends_in, without_last}
use Rattle.gv_version.specs.Bytes.{begins_with}
use Rattle.gv_version.specs.Laws.{IsDivided}
use Rattle.gv_version.specs.Form.{is_version}
use Rattle.gv_version.specs.Names.{is_package, split_pf}
use Rattle.gv_atom.specs.declared.atom.Block.TheVariants.{No, Weak, Strong}
use Rattle.gv_atom.specs.declared.atom.CompareOp.{CompareOp}
use Rattle.gv_atom.specs.declared.atom.CompareOp.TheVariants as ops
use Rattle.gv_atom.specs.Reading.{block_of, block_length, op_of, op_length, category_of, after_slash, is_starred, pf_part}
use Rattle.gv_atom.specs.Grammar.{block_text, op_text, version_part, is_versioned}
use Rattle.gv_atom.proofs.Pieces.{same, last_byte, first_byte, cut, begins_there}
use Rattle.gv_atom.proofs.PfLaw.{pf_parts}

front_is : (n : ℕ) (word bytes : List ℕ) → bytes_eq (take n bytes) word ≡ true → word ++ drop n bytes ≡ bytes
front_is n word bytes h = ap (λ x. x ++ drop n bytes) (sym (same (take n bytes) word h)) ∙ take-append-drop n bytes

pub block_written : (bytes : List ℕ) → block_text (block_of bytes) ++ drop (block_length (block_of bytes)) bytes ≡ bytes
block_written bytes = by (bytes_eq (take 2 bytes) (codes "!!")) (bytes_eq (take 1 bytes) (codes "!")) refl refl
  where
    by : (a b : Bool) → bytes_eq (take 2 bytes) (codes "!!") ≡ a → bytes_eq (take 1 bytes) (codes "!") ≡ b
        → block_text (if a then Strong else (if b then Weak else No)) ++ drop (block_length (if a then Strong else (if b then Weak else No))) bytes ≡ bytes
    by true b e f = front_is 2 (codes "!!") bytes e
    by false true e f = front_is 1 (codes "!") bytes f
    by false false e f = refl

abbrev op_if : (a b c d e f : Bool) → Option CompareOp
op_if a b c d e f = if a then Some ops.LessEqual else (if b then Some ops.GreaterEqual else (if c then Some ops.Less else (if d then Some ops.Equal else (if e then Some ops.Same else (if f then Some ops.Greater else None)))))

pub op_written : (bytes : List ℕ) → op_text (op_of bytes) ++ drop (op_length (op_of bytes)) bytes ≡ bytes
op_written bytes = by (bytes_eq (take 2 bytes) (codes "<=")) (bytes_eq (take 2 bytes) (codes ">=")) (bytes_eq (take 1 bytes) (codes "<"))
    (bytes_eq (take 1 bytes) (codes "=")) (bytes_eq (take 1 bytes) (codes "~")) (bytes_eq (take 1 bytes) (codes ">")) refl refl refl refl refl refl
  where
    by : (a b c d e f : Bool) → bytes_eq (take 2 bytes) (codes "<=") ≡ a → bytes_eq (take 2 bytes) (codes ">=") ≡ b → bytes_eq (take 1 bytes) (codes "<") ≡ c
        → bytes_eq (take 1 bytes) (codes "=") ≡ d → bytes_eq (take 1 bytes) (codes "~") ≡ e → bytes_eq (take 1 bytes) (codes ">") ≡ f
        → op_text (op_if a b c d e f) ++ drop (op_length (op_if a b c d e f)) bytes ≡ bytes
    by true b c d e f h i j k l m = front_is 2 (codes "<=") bytes h
    by false true c d e f h i j k l m = front_is 2 (codes ">=") bytes i
    by false false true d e f h i j k l m = front_is 1 (codes "<") bytes j
    by false false false true e f h i j k l m = front_is 1 (codes "=") bytes k
    by false false false false true f h i j k l m = front_is 1 (codes "~") bytes l
    by false false false false false true h i j k l m = front_is 1 (codes ">") bytes m
    by false false false false false false h i j k l m = refl

-- a name part with a slash
pub slash_written : (part : List ℕ) → bytes_eq (from_first (byte "/") part) [] ≡ false → category_of part ++ byte "/" ∷ after_slash part ≡ part
slash_written part h = by (begins_there (byte "/") part)
  where
    by : (from_first (byte "/") part ≡ []) ⊎ (begins_with (λ b. b == byte "/") (from_first (byte "/") part) ≡ true) → category_of part ++ byte "/" ∷ after_slash part ≡ part
    by (inl e) = absurd (false≢true (sym h ∙ ap (λ x. bytes_eq x []) e))
    by (inr first) = ap (λ x. category_of part ++ x) (first_byte (byte "/") (from_first (byte "/") part) first) ∙ cut (byte "/") part

-- What stands behind the slash: a name, or a PF and a star.
abbrev pub name_in : Option ℕ → List ℕ → List ℕ
name_in hyphen text = option_map_or (λ at. take at text) hyphen text

abbrev pub version_in : Option ℕ → List ℕ → Option (List ℕ)
version_in hyphen text = option_map (λ at. drop (at + 1) text) hyphen

pub record TailWritten (op : Option CompareOp) (text : List ℕ) (hyphen : Option ℕ) : Type 0 where
  pub text_is : name_in hyphen (pf_part op text) ++ version_part (version_in hyphen (pf_part op text)) (is_starred op text) ≡ text
  pub name_good : is_package (name_in hyphen (pf_part op text)) ≡ true
  pub versioned : is_versioned op (version_in hyphen (pf_part op text)) (is_starred op text) ≡ true

pub name_tail : (text : List ℕ) → is_package text ≡ true → TailWritten None text None
name_tail text h = record { text_is = append-nil text; name_good = h; versioned = refl }

star_written : (star : Bool) (text pf name version : List ℕ) → pf ≡ (if star then without_last text else text) → (star ≡ true → ends_in (byte "*") text ≡ true)
    → name ++ byte "-" ∷ version ≡ pf → name ++ version_part (Some version) star ≡ text
star_written false text pf name version e ends w = w ∙ e
star_written true text pf name version e ends w =
    sym (append_assoc name (byte "-" ∷ version) (codes "*")) ∙ (ap (λ x. x ++ codes "*") (w ∙ e) ∙ last_byte (byte "*") text (ends refl))

starred_ends : (op : CompareOp) (text : List ℕ) → is_starred (Some op) text ≡ true → ends_in (byte "*") text ≡ true
starred_ends ops.Equal text h = h
starred_ends ops.Less text h = absurd (false≢true h)
starred_ends ops.LessEqual text h = absurd (false≢true h)
starred_ends ops.Same text h = absurd (false≢true h)
starred_ends ops.GreaterEqual text h = absurd (false≢true h)
starred_ends ops.Greater text h = absurd (false≢true h)

is_versioned_by : (op : CompareOp) (text version : List ℕ) → is_version version ≡ true → is_versioned (Some op) (Some version) (is_starred (Some op) text) ≡ true
is_versioned_by ops.Equal text version h = h
is_versioned_by ops.Less text version h = h
is_versioned_by ops.LessEqual text version h = h
is_versioned_by ops.Same text version h = h
is_versioned_by ops.GreaterEqual text version h = h
is_versioned_by ops.Greater text version h = h

pub pf_tail : (op : CompareOp) (text : List ℕ) (at : ℕ) → IsDivided (pf_part (Some op) text) → split_pf (pf_part (Some op) text) ≡ Some at → TailWritten (Some op) text (Some at)
pf_tail op text at law h =
    let pf : List ℕ = pf_part (Some op) text in
    let p = pf_parts pf at law h in
    record {
      text_is = star_written (is_starred (Some op) text) text pf (take at pf) (drop (at + 1) pf) refl (starred_ends op text) p.written;
      name_good = p.name;
      versioned = is_versioned_by op text (drop (at + 1) pf) p.version;
    }
