-- One more use of gates: a certificate that is there, or a new one.
use Rattle.std.proofs.Common.{◌≡◌, ℕ, zero, suc, ◌+◌, ◌<◌, Bool, true, false, not, ◌||◌, if◌then◌else◌, List, [], ◌∷◌, ◌++◌, length, map, filter, refl, sym, ap, subst, ◌∙◌, Option, Some, None, length-append, arith}
use Rattle.std.specs.Prelude.{slice_get, Ok}
use Rattle.std.specs.List.{AllByRecursion}
use Rattle.std.specs.Str.{bytes_eq}
use Rattle.std.specs.Cmp.Lexicographic.{same_text}
use Rattle.std.proofs.lemmas.Bool.{false≢true}
use Rattle.std.proofs.lemmas.Cmp.{nat_list_eq_equiv}
use Rattle.std.proofs.lemmas.List.{length-map}
use Rattle.std.proofs.lemmas.Grind.{fold-append}
use Rattle.std.proofs.lemmas.List.Elements.{filter-append}
use Rattle.gv_base.specs.Counts.{Counts}
use Rattle.gv_base.specs.Order.{has_text}
use Rattle.gv_base.specs.Steps.{after}
use Rattle.gv_base.specs.declared.steps.Kind.TheVariants.{Solve}
use Rattle.gv_cert.specs.Claim.{HasInputs, IsAnswerTo, IsLog, answer_bytes, log_of}
use Rattle.gv_logic.specs.Encoding.{clause_count}
use Rattle.gv_cert.specs.Backing.{IsFirstBacked}
use Rattle.gv_cert.specs.Known.{Finds, HasQuery, IsNext, KnownRecord}
use Rattle.gv_cert.specs.declared.claim.Claim.{Claim}
use Rattle.gv_cert.specs.declared.claim.Claim.TheVariants.{Refuted, Found}
use Rattle.gv_logic.specs.Bytes.{circuit_bytes}
use Rattle.gv_logic.specs.Circuits.{Circuit, IsCircuit}
use Rattle.gv_logic.specs.Laws.{CircuitLaw}
use Rattle.gv_query.specs.Asking.{Comes, IsAnswered}
use Rattle.gv_query.specs.Truth.{IsSo}
use Rattle.gv_checks.specs.Asked.{found_bits}
use Rattle.gv_checks.specs.Certs.{Cert, HasBacked, IsCert, cert_record, counts_after, first_uses, has_gates, new_count, with_use}
use Rattle.gv_checks.specs.Progress.{AreSome, AreUsed, IsFoundAt, Uses}
use Rattle.gv_checks.specs.declared.used.Used.{Used}

bytes_of : Cert → List ℕ
bytes_of c = circuit_bytes c.gates

abbrev found_of : Cert → Option (List Bool)
found_of c = found_bits c.claim

abbrev gates_in : List Cert → List Circuit
gates_in certs = map (λ (c : Cert). c.gates) certs

-- what stands at a number
pub record AtCert (budget : ℕ) (given : List KnownRecord) (b : List ℕ) (certs : List Cert) (n : ℕ) : Type 0 where
  pub cert : Cert
  pub same : circuit_bytes cert.gates ≡ b
  pub found : slice_get (map found_of certs) n ≡ Some (found_bits cert.claim)
  pub formed : AllByRecursion (λ (c : Cert). IsCircuit c.gates) certs → IsCircuit cert.gates
  pub backed : AllByRecursion (IsCert budget given) certs → IsCert budget given cert
  pub reused : AllByRecursion (λ (c : Cert). c.reused ≡ true) certs → cert.reused ≡ true
  pub has : has_text (map circuit_bytes (gates_in certs)) b ≡ true

or_true : (a b : Bool) → b ≡ true → (a || b) ≡ true
or_true true b h = refl
or_true false b h = h

bytes_here : (a b : List ℕ) (rest : Bool) → a ≡ b → (bytes_eq b a || rest) ≡ true
bytes_here a b rest e = subst (λ x. (bytes_eq b x || rest) ≡ true) (sym e) (ap (λ s. s || rest) (nat_list_eq_equiv.refl b))

pub at_cert : (budget : ℕ) (given : List KnownRecord) (b : List ℕ) (certs : List Cert) (n : ℕ) → HasQuery b (map cert_record certs) n → AtCert budget given b certs n
at_cert budget given b [] n has = absurd (omega (arith, has.there))
at_cert budget given b (c ∷ cs) zero has = record {
  cert = c;
  same = has.same;
  found = refl;
  formed = λ all. all.0;
  backed = λ all. all.0;
  reused = λ all. all.0;
  has = bytes_here (circuit_bytes c.gates) b (has_text (map circuit_bytes (gates_in cs)) b) has.same;
}
at_cert budget given b (c ∷ cs) (suc n) has =
    let rest = at_cert budget given b cs n (record { there = omega (arith, has.there); same = has.same }) in
    record {
      cert = rest.cert;
      same = rest.same;
      found = rest.found;
      formed = λ all. rest.formed all.1;
      backed = λ all. rest.backed all.1;
      reused = λ all. rest.reused all.1;
      has = or_true (bytes_eq b (circuit_bytes c.gates)) (has_text (map circuit_bytes (gates_in cs)) b) rest.has;
    }

-- gates that are among them have a number
there : (b : List ℕ) (certs : List Cert) → has_text (map circuit_bytes (gates_in certs)) b ≡ true → (n : ℕ) × HasQuery b (map cert_record certs) n
there b [] h = absurd (false≢true h)
there b (c ∷ cs) h = by (bytes_eq b (circuit_bytes c.gates)) refl (there b cs)
  where
    by : (same : Bool) → bytes_eq b (circuit_bytes c.gates) ≡ same → (has_text (map circuit_bytes (gates_in cs)) b ≡ true → (n : ℕ) × HasQuery b (map cert_record cs) n)
        → (n : ℕ) × HasQuery b (map cert_record (c ∷ cs)) n
    by true e later = (0, record { there = omega arith; same = sym (same_text b (circuit_bytes c.gates) (sym e)) })
    by false e later =
        let next = later (ap (λ x. x || has_text (map circuit_bytes (gates_in cs)) b) (sym e) ∙ h) in
        (suc next.0, record { there = omega (arith, next.1.there); same = next.1.same })

-- One more behind the others.
with_old : (gs : List Circuit) (g : Circuit) → has_gates gs g ≡ true → with_use gs g ≡ gs
with_old gs g h = rw h refl

with_new : (gs : List Circuit) (g : Circuit) → has_gates gs g ≡ false → with_use gs g ≡ gs ++ g ∷ []
with_new gs g h = rw h refl

uses_more : (gs : List Circuit) (g : Circuit) → first_uses (gs ++ g ∷ []) ≡ with_use (first_uses gs) g
uses_more gs g = fold-append with_use [] gs (g ∷ [])

pub map_more : {A B : Type 0} (f : A → B) (xs : List A) (x : A) → map f (xs ++ x ∷ []) ≡ map f xs ++ f x ∷ []
map_more f [] x = refl
map_more f (y ∷ ys) x = ap (λ bs. f y ∷ bs) (map_more f ys x)

pub all_more : {A : Type 0} (P : A → Type 0) (xs : List A) (x : A) → AllByRecursion P xs → P x → AllByRecursion P (xs ++ x ∷ [])
all_more P [] x all p = (p, tt)
all_more P (y ∷ ys) x all p = (all.0, all_more P ys x all.1 p)

last_is : {A : Type 0} (xs : List A) (x : A) → slice_get (xs ++ x ∷ []) (length xs) ≡ Some x
last_is [] x = refl
last_is (y ∷ ys) x = last_is ys x

-- one more record
grows_more : (known : List KnownRecord) (r : KnownRecord) (b : List ℕ) (n : ℕ) → HasQuery b known n → HasQuery b (known ++ r ∷ []) n
grows_more [] r b n has = absurd (omega (arith, has.there))
grows_more (k ∷ ks) r b zero has = record { there = omega arith; same = has.same }
grows_more (k ∷ ks) r b (suc n) has =
    let rest = grows_more ks r b n (record { there = omega (arith, has.there); same = has.same }) in
    record { there = omega (arith, rest.there); same = rest.same }

last_has : (known : List KnownRecord) (r : KnownRecord) → HasQuery r.query (known ++ r ∷ []) (length known)
last_has [] r = record { there = omega arith; same = refl }
last_has (k ∷ ks) r = let rest = last_has ks r in record { there = omega (arith, rest.there); same = rest.same }

pub long_more : {A : Type 0} (xs : List A) (x : A) → length (xs ++ x ∷ []) ≡ length xs + 1
long_more [] x = refl
long_more (y ∷ ys) x = let e = long_more ys x in omega (arith, e)

abbrev is_new : Cert → Bool
is_new c = not c.reused

one_new : (c : Cert) → length (filter is_new (c ∷ [])) ≡ (if c.reused then 0 else 1)
one_new c = by c.reused refl
  where
    by : (b : Bool) → c.reused ≡ b → length (filter is_new (c ∷ [])) ≡ (if c.reused then 0 else 1)
    by true e = rw e refl
    by false e = rw e refl

new_more : (certs : List Cert) (c : Cert) → new_count (certs ++ c ∷ []) ≡ new_count certs + (if c.reused then 0 else 1)
new_more certs c = ap length (filter-append is_new certs (c ∷ [])) ∙ (length-append (filter is_new certs) (filter is_new (c ∷ [])) ∙ ap (λ n. new_count certs + n) (one_new c))

solved : Counts → (lowered : ℕ) → (n m : ℕ) → n ≡ m → let a : Counts = record { solve = n; lower = lowered } in a ≡ record { solve = m; lower = lowered }
solved c lowered n m e = rw e refl

counts_more : (start : Counts) (lowered : ℕ) (certs : List Cert) (c : Cert) (before now : Counts) → before ≡ counts_after start lowered certs
    → now ≡ (if c.reused then before else after Solve before) → now ≡ counts_after start lowered (certs ++ c ∷ [])
counts_more start lowered certs c before now old new = by c.reused refl
  where
    by : (b : Bool) → c.reused ≡ b → now ≡ counts_after start lowered (certs ++ c ∷ [])
    by true e =
        let k : new_count (certs ++ c ∷ []) ≡ new_count certs + 0 = subst (λ b. new_count (certs ++ c ∷ []) ≡ new_count certs + (if b then 0 else 1)) e (new_more certs c) in
        let n : now ≡ before = subst (λ b. now ≡ (if b then before else after Solve before)) e new in
        n ∙ (old ∙ solved start (start.lower + lowered) (start.solve + new_count certs) (start.solve + new_count (certs ++ c ∷ [])) (omega (arith, k)))
    by false e =
        let k : new_count (certs ++ c ∷ []) ≡ new_count certs + 1 = subst (λ b. new_count (certs ++ c ∷ []) ≡ new_count certs + (if b then 0 else 1)) e (new_more certs c) in
        let n : now ≡ after Solve before = subst (λ b. now ≡ (if b then before else after Solve before)) e new in
        n ∙ (ap (after Solve) old ∙ solved start (start.lower + lowered) (start.solve + new_count certs + 1) (start.solve + new_count (certs ++ c ∷ [])) (omega (arith, k)))

-- the claim of a record that is reused is backed there
pub first_is : (g : Circuit) (budget : ℕ) (given : List KnownRecord) (claim : Claim) (reused : Bool) → reused ≡ true → IsAnswered g budget given claim reused → HasBacked given g
first_is g budget given claim reused e answered =
    let first : IsFirstBacked g given claim = subst (λ r. Comes r g budget given claim) e answered.comes in
    (first.number, record { has = first.has; backed = record { claim = claim; formed = first.formed; written = first.written; backs = first.backs } })

module _ (law : CircuitLaw) (budget : ℕ) (given : List KnownRecord) (start : Counts) (gates : List Circuit) (used : Used) (lowered : ℕ) (before : Counts) (g : Circuit) (w : IsCircuit g) (are : AreUsed budget given start gates used lowered before) where
  module _ (n : ℕ) (has : HasQuery (circuit_bytes g) used.certs n) where
    at : AtCert budget given (circuit_bytes g) are.certs n
    at = at_cert budget given (circuit_bytes g) are.certs n (subst (λ (k : List KnownRecord). HasQuery (circuit_bytes g) k n) are.records_are has)

    pub old_use : AreUsed budget given start (gates ++ g ∷ []) used lowered before
    old_use = record {
      certs = are.certs;
      are = record {
        gates_are = are.are.gates_are ∙ (sym (with_old (first_uses gates) g (ap (λ gs. has_gates gs g) (sym are.are.gates_are) ∙ at.has)) ∙ sym (uses_more gates g));
        backed = are.are.backed;
      };
      formed = are.formed;
      reused = are.reused;
      records_are = are.records_are;
      found_are = are.found_are;
      counts_are = are.counts_are;
    }

    pub old_found : IsFoundAt g used n
    old_found =
        let same : at.cert.gates ≡ g = law at.cert.gates g (at.formed are.formed) w at.same in
        let is : slice_get used.found.items n ≡ Some (found_bits at.cert.claim) = ap (λ xs. slice_get xs n) are.found_are ∙ at.found in
        let so : IsSo at.cert.gates at.cert.claim = (at.backed are.are.backed).answered.so in
        record {
          claim = at.cert.claim;
          so = subst (λ h. IsSo h at.cert.claim) same so;
          there = subst (λ k. n < length k) (sym are.found_are) (omega (arith, length-map are.certs found_of, length-map are.certs cert_record, ap length are.records_are, has.there));
          is = is;
        }

    pub old_backed : budget ≡ 0 → HasBacked given g
    old_backed none =
        let cert : IsCert budget given at.cert = at.backed are.are.backed in
        subst (HasBacked given) (law at.cert.gates g (at.formed are.formed) w at.same) (first_is at.cert.gates budget given at.cert.claim at.cert.reused (at.reused (are.reused none)) cert.answered)

  module _ (new : Used) (now : Counts) (claim : Claim) (reused : Bool) (none : Finds (circuit_bytes g) 0 used.certs None) (formed : IsAnswerTo g claim) (answered : IsAnswered g budget given claim reused)
      (kept : new.certs ≡ used.certs ++ record { query = circuit_bytes g; answer = answer_bytes g claim } ∷ []) (found : new.found.items ≡ used.found.items ++ found_bits claim ∷ [])
      (counted : now ≡ (if reused then before else after Solve before)) (known : budget ≡ 0 → reused ≡ true) where
    abbrev cert : Cert
    cert = record { gates = g; claim = claim; reused = reused }

    lacks : has_gates (gates_in are.certs) g ≡ false
    lacks = by (has_gates (gates_in are.certs) g) refl
      where
        by : (b : Bool) → has_gates (gates_in are.certs) g ≡ b → b ≡ false
        by false e = refl
        by true e =
            let h = there (circuit_bytes g) are.certs e in
            absurd (none h.0 (omega arith) (subst (λ (k : List KnownRecord). HasQuery (circuit_bytes g) k h.0) (sym are.records_are) h.1))

    pub new_use : AreUsed budget given start (gates ++ g ∷ []) new lowered now
    new_use = record {
      certs = are.certs ++ cert ∷ [];
      are = record {
        gates_are = map_more (λ (c : Cert). c.gates) are.certs cert
            ∙ (ap (λ gs. gs ++ g ∷ []) are.are.gates_are ∙ (sym (with_new (first_uses gates) g (ap (λ gs. has_gates gs g) (sym are.are.gates_are) ∙ lacks)) ∙ sym (uses_more gates g)));
        backed = all_more (IsCert budget given) are.certs cert are.are.backed (record { formed = formed; answered = answered });
      };
      formed = all_more (λ (c : Cert). IsCircuit c.gates) are.certs cert are.formed w;
      reused = λ zero_is. all_more (λ (c : Cert). c.reused ≡ true) are.certs cert (are.reused zero_is) (known zero_is);
      records_are = kept ∙ (ap (λ (k : List KnownRecord). k ++ cert_record cert ∷ []) are.records_are ∙ sym (map_more cert_record are.certs cert));
      found_are = found ∙ (ap (λ k. k ++ found_bits claim ∷ []) are.found_are ∙ sym (map_more found_of are.certs cert));
      counts_are = counts_more start lowered are.certs cert before now are.counts_are counted;
    }

    pub new_found : IsFoundAt g new (length used.found.items)
    new_found = record {
      claim = claim;
      so = answered.so;
      there = subst (λ k. length used.found.items < length k) (sym found) (omega (arith, long_more used.found.items (found_bits claim)));
      is = ap (λ xs. slice_get xs (length used.found.items)) found ∙ last_is used.found.items (found_bits claim);
    }

-- The same as the code has it.
has_inputs : (g : Circuit) (claim : Claim) → IsSo g claim → HasInputs g.inputs claim
has_inputs g (Refuted log) so = tt
has_inputs g (Found bits log) so = so.size

pub formed_by : (g : Circuit) (claim : Claim) → IsSo g claim → IsLog (clause_count g) (log_of claim) → IsAnswerTo g claim
formed_by g claim so sized = record { inputs_are = has_inputs g claim so; sized = sized }

module _ (law : CircuitLaw) (budget : ℕ) (given : List KnownRecord) (g : Circuit) (w : IsCircuit g) (used : Used) (before : Counts) (some : AreSome budget given used before) (b : List ℕ) (bytes : b ≡ circuit_bytes g) where
  pub old_place : (n : ℕ) → IsNext b 0 used.certs n → Uses budget given g used used before before (Ok n)
  old_place n next =
      let has : HasQuery (circuit_bytes g) used.certs n = subst (λ x. HasQuery x used.certs n) bytes next.has in (
        λ start gates lowered are. old_use law budget given start gates used lowered before g w are n has,
        old_found law budget given some.start some.gates used some.lowered before g w some.are n has,
        old_backed law budget given some.start some.gates used some.lowered before g w some.are n has,
        λ query m there. there,
        has,
      )

  -- the record of this number has the bytes
  pub near_place : (n : ℕ) → HasQuery b used.certs n → Uses budget given g used used before before (Ok n)
  near_place n at =
      let has : HasQuery (circuit_bytes g) used.certs n = subst (λ x. HasQuery x used.certs n) bytes at in (
        λ start gates lowered are. old_use law budget given start gates used lowered before g w are n has,
        old_found law budget given some.start some.gates used some.lowered before g w some.are n has,
        old_backed law budget given some.start some.gates used some.lowered before g w some.are n has,
        λ query m there. there,
        has,
      )

  pub new_place : (new : Used) (now : Counts) (claim : Claim) (reused : Bool) (q a : List ℕ) (place : ℕ) → q ≡ circuit_bytes g → Finds b 0 used.certs None → IsLog (clause_count g) (log_of claim) → a ≡ answer_bytes g claim
      → IsAnswered g budget given claim reused → new.certs ≡ used.certs ++ record { query = q; answer = a } ∷ [] → new.found.items ≡ used.found.items ++ found_bits claim ∷ []
      → now ≡ (if reused then before else after Solve before) → (budget ≡ 0 → reused ≡ true) → place ≡ length used.found.items → Uses budget given g used new before now (Ok place)
  new_place new now claim reused q a place written none sized is answered kept found counted known here =
      let free : Finds (circuit_bytes g) 0 used.certs None = subst (λ x. Finds x 0 used.certs None) bytes none in
      let formed : IsAnswerTo g claim = formed_by g claim answered.so sized in
      let all : new.certs ≡ used.certs ++ record { query = circuit_bytes g; answer = answer_bytes g claim } ∷ [] = kept ∙ (rw (written, is) refl) in (
        λ start gates lowered are. new_use law budget given start gates used lowered before g w are new now claim reused free formed answered all found counted known,
        subst (IsFoundAt g new) (sym here) (new_found law budget given some.start some.gates used some.lowered before g w some.are new now claim reused free formed answered all found counted known),
        λ zero_is. first_is g budget given claim reused (known zero_is) answered,
        λ query m there. subst (λ (k : List KnownRecord). HasQuery query k m) (sym all) (grows_more used.certs (record { query = circuit_bytes g; answer = answer_bytes g claim }) query m there),
        subst (λ (k : List KnownRecord). HasQuery (circuit_bytes g) k place) (sym all)
            (subst (λ m. HasQuery (circuit_bytes g) (used.certs ++ record { query = circuit_bytes g; answer = answer_bytes g claim } ∷ []) m) number (last_has used.certs (record { query = circuit_bytes g; answer = answer_bytes g claim }))),
      )
    where
      number : length used.certs ≡ place
      number = omega (arith, here, length-map some.are.certs found_of, length-map some.are.certs cert_record, ap length some.are.records_are, ap length some.are.found_are)
