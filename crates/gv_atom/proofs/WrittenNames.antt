-- A name and a version are read of their text.
use Rattle.std.proofs.Common.{◌≡◌, ℕ, ◌+◌, Bool, true, false, List, ◌∷◌, ◌++◌, length, drop, refl, ap, ◌∙◌, Option, Some, None, append_assoc, append-nil}
use Rattle.std.proofs.Math.Seq.{take-append_seam, drop-append-add}
use Rattle.std.proofs.lemmas.Bool.{false≢true, and_parts}
use Rattle.std.specs.Prelude.{codes, is_none}
use Rattle.std.specs.Str.{byte}
use Rattle.gv_base.specs.Cut.{ends_in}
use Rattle.gv_version.specs.Laws.{Divides, IsDivided}
use Rattle.gv_version.specs.Names.{is_package, is_package_byte, split_pf}
use Rattle.gv_version.specs.Form.{has_form, long_run, is_version}
use Rattle.gv_atom.specs.declared.atom.CompareOp.{CompareOp}
use Rattle.gv_atom.specs.declared.atom.CompareOp.TheVariants as ops
use Rattle.gv_atom.specs.Naming.{tail_fault, name_in, version_in}
use Rattle.gv_atom.specs.Reading.{is_starred, pf_part, hyphen_of}
use Rattle.gv_atom.specs.Grammar.{version_part, is_versioned}
use Rattle.gv_atom.proofs.Lacks.{lacks, lacks_failing, lacks_both}
use Rattle.gv_atom.proofs.LastByte.{ends_added, last_off, no_end}
use Rattle.gv_atom.proofs.VersionBytes.{package_bytes, is_version_byte, version_bytes, form_of}

none_is : (o : Option ℕ) → is_none o ≡ true → o ≡ None
none_is None h = refl
none_is (Some x) h = absurd (false≢true h)

pf_divides : (name version : List ℕ) → is_package name ≡ true → is_version version ≡ true → Divides (name ++ byte "-" ∷ version) (length name)
pf_divides name version h k = record { name = name; version = version; written = refl; place = refl; name_form = h; version_form = form_of version k }

behind_hyphen : (name version : List ℕ) → drop (length name + 1) (name ++ byte "-" ∷ version) ≡ version
behind_hyphen name version = drop-append-add name (byte "-" ∷ version) 1

pf_split : (name version : List ℕ) → IsDivided (name ++ byte "-" ∷ version) → is_package name ≡ true → is_version version ≡ true → split_pf (name ++ byte "-" ∷ version) ≡ Some (length name)
pf_split name version law h k =
    let short = and_parts (has_form version) (is_none (long_run version)) k in
    law.found (length name) (pf_divides name version h k) (ap long_run (behind_hyphen name version) ∙ none_is (long_run version) short.1)

-- what stands behind the slash
pub record TailAgain (op : Option CompareOp) (name : List ℕ) (version : Option (List ℕ)) (star : Bool) : Type 0 where
  pub fault : (at : ℕ) → tail_fault op at (name ++ version_part version star) ≡ None
  pub starred : is_starred op (name ++ version_part version star) ≡ star
  pub name_again : name_in (hyphen_of op (pf_part op (name ++ version_part version star))) (pf_part op (name ++ version_part version star)) ≡ name
  pub version_again : version_in (hyphen_of op (pf_part op (name ++ version_part version star))) (pf_part op (name ++ version_part version star)) ≡ version

name_tail : (name : List ℕ) → is_package name ≡ true → TailAgain None name None false
name_tail name h = record {
  fault = λ at. rw (append-nil name, h) refl;
  starred = refl;
  name_again = append-nil name;
  version_again = refl;
}

-- a version with a star only with `=`
record Versioned (op : CompareOp) (version : Option (List ℕ)) (star : Bool) : Type 0 where
  text : List ℕ
  text_is : version ≡ Some text
  good : is_version text ≡ true
  starred : (whole : List ℕ) → ends_in (byte "*") whole ≡ star → is_starred (Some op) whole ≡ star

versioned : (op : CompareOp) (version : Option (List ℕ)) (star : Bool) → is_versioned (Some op) version star ≡ true → Versioned op version star
versioned ops.Equal (Some v) star h = record { text = v; text_is = refl; good = h; starred = λ whole e. e }
versioned ops.Equal None star h = absurd (false≢true h)
versioned ops.Less (Some v) false h = record { text = v; text_is = refl; good = h; starred = λ whole e. refl }
versioned ops.Less (Some v) true h = absurd (false≢true h)
versioned ops.Less None star h = absurd (false≢true h)
versioned ops.LessEqual (Some v) false h = record { text = v; text_is = refl; good = h; starred = λ whole e. refl }
versioned ops.LessEqual (Some v) true h = absurd (false≢true h)
versioned ops.LessEqual None star h = absurd (false≢true h)
versioned ops.Same (Some v) false h = record { text = v; text_is = refl; good = h; starred = λ whole e. refl }
versioned ops.Same (Some v) true h = absurd (false≢true h)
versioned ops.Same None star h = absurd (false≢true h)
versioned ops.GreaterEqual (Some v) false h = record { text = v; text_is = refl; good = h; starred = λ whole e. refl }
versioned ops.GreaterEqual (Some v) true h = absurd (false≢true h)
versioned ops.GreaterEqual None star h = absurd (false≢true h)
versioned ops.Greater (Some v) false h = record { text = v; text_is = refl; good = h; starred = λ whole e. refl }
versioned ops.Greater (Some v) true h = absurd (false≢true h)
versioned ops.Greater None star h = absurd (false≢true h)

pub pf_lacks : (c : ℕ) (name version : List ℕ) → is_package_byte c ≡ false → is_version_byte c ≡ false → lacks c (codes "-") ≡ true → is_package name ≡ true → is_version version ≡ true
    → lacks c (name ++ byte "-" ∷ version) ≡ true
pf_lacks c name version no_name no_version hyphen h k =
    lacks_both c name (byte "-" ∷ version) (lacks_failing is_package_byte c name no_name (package_bytes name h))
    (lacks_both c (codes "-") version hyphen (lacks_failing is_version_byte c version no_version (version_bytes version k)))

star_end : (star : Bool) (name version : List ℕ) → is_package name ≡ true → is_version version ≡ true → ends_in (byte "*") (name ++ version_part (Some version) star) ≡ star
star_end false name version h k = no_end (byte "*") (name ++ byte "-" ∷ version) (pf_lacks (byte "*") name version refl refl refl h k)
star_end true name version h k = rw (← append_assoc name (byte "-" ∷ version) (codes "*")) (ends_added (byte "*") (byte "*") (name ++ byte "-" ∷ version))

without_star : (op : CompareOp) (star : Bool) (name version : List ℕ) → is_starred (Some op) (name ++ version_part (Some version) star) ≡ star
    → pf_part (Some op) (name ++ version_part (Some version) star) ≡ name ++ byte "-" ∷ version
without_star op false name version h = rw h refl
without_star op true name version h = rw h (rw (← append_assoc name (byte "-" ∷ version) (codes "*")) (last_off (byte "*") (name ++ byte "-" ∷ version)))

version_tail : (op : CompareOp) (name version : List ℕ) (star : Bool) → ((bytes : List ℕ) → IsDivided bytes) → is_package name ≡ true → is_version version ≡ true
    → is_starred (Some op) (name ++ version_part (Some version) star) ≡ star → TailAgain (Some op) name (Some version) star
version_tail op name version star law h k starred =
    let pf = without_star op star name version starred in
    let split = pf_split name version (law (name ++ byte "-" ∷ version)) h k in
    record {
      fault = λ at. rw (pf, split) refl;
      starred = starred;
      name_again = rw (pf, split) (take-append_seam name (byte "-" ∷ version));
      version_again = rw (pf, split) (ap Some (behind_hyphen name version));
    }

pub tail_again : (op : Option CompareOp) (name : List ℕ) (version : Option (List ℕ)) (star : Bool) → ((bytes : List ℕ) → IsDivided bytes)
    → is_package name ≡ true → is_versioned op version star ≡ true → TailAgain op name version star
tail_again None name None false law h k = name_tail name h
tail_again None name None true law h k = absurd (false≢true k)
tail_again None name (Some v) false law h k = absurd (false≢true k)
tail_again None name (Some v) true law h k = absurd (false≢true k)
tail_again (Some op) name version star law h k =
    let v = versioned op version star k in
    rw v.text_is (version_tail op name v.text star law h v.good (v.starred (name ++ version_part (Some v.text) star) (star_end star name v.text h v.good)))

-- what the text lacks
pub tail_lacks : (c : ℕ) (op : Option CompareOp) (name : List ℕ) (version : Option (List ℕ)) (star : Bool) → is_package_byte c ≡ false → is_version_byte c ≡ false → lacks c (codes "-") ≡ true
    → lacks c (codes "*") ≡ true → is_package name ≡ true → is_versioned op version star ≡ true → lacks c (name ++ version_part version star) ≡ true
tail_lacks c None name None star no_name no_version hyphen asterisk h k = rw (append-nil name) (lacks_failing is_package_byte c name no_name (package_bytes name h))
tail_lacks c None name (Some v) false no_name no_version hyphen asterisk h k = absurd (false≢true k)
tail_lacks c None name (Some v) true no_name no_version hyphen asterisk h k = absurd (false≢true k)
tail_lacks c (Some op) name version star no_name no_version hyphen asterisk h k =
    let v = versioned op version star k in
    rw v.text_is (by v.text star (pf_lacks c name v.text no_name no_version hyphen h v.good))
  where
    by : (v : List ℕ) (s : Bool) → lacks c (name ++ byte "-" ∷ v) ≡ true → lacks c (name ++ version_part (Some v) s) ≡ true
    by v false e = e
    by v true e = rw (← append_assoc name (byte "-" ∷ v) (codes "*")) (lacks_both c (name ++ byte "-" ∷ v) (codes "*") e asterisk)
