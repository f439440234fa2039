-- Each query that was judged has its record among those that are left: its gates were used, so a certificate has their
-- bytes, and circuits with equal bytes are equal.
use Rattle.std.proofs.Common.{◌≡◌, ℕ, zero, suc, ◌<◌, Bool, true, false, ◌||◌, if◌then◌else◌, List, [], ◌∷◌, ◌++◌, length, map, Some, Option, refl, sym, ap, subst, ◌∙◌, arith}
use Rattle.std.specs.Prelude.{fold, slice_get}
use Rattle.std.specs.List.{AllByRecursion}
use Rattle.std.specs.Str.{bytes_eq}
use Rattle.std.specs.Cmp.Lexicographic.{same_text}
use Rattle.std.proofs.lemmas.Bool.{false≢true}
use Rattle.std.proofs.lemmas.Cmp.{nat_list_eq_equiv}
use Rattle.gv_base.specs.Counts.{Counts}
use Rattle.gv_base.specs.Order.{has_text}
use Rattle.gv_cert.specs.Claim.{IsAnswerTo, answer_bytes}
use Rattle.gv_cert.specs.Backing.{Backs}
use Rattle.gv_cert.specs.Known.{KnownRecord, record_at}
use Rattle.gv_logic.specs.Bytes.{circuit_bytes}
use Rattle.gv_logic.specs.Circuits.{Circuit, IsCircuit}
use Rattle.gv_logic.specs.Laws.{CircuitLaw}
use Rattle.gv_query.specs.Truth.{IsSo}
use Rattle.gv_report.specs.declared.report.Report.{Report}
use Rattle.gv_checks.specs.Answered.{AreJudged}
use Rattle.gv_checks.specs.Certs.{AreCerts, Cert, HasBacked, HasRecord, IsCert, cert_record, has_gates, with_use}
use Rattle.gv_checks.specs.Queries.{Query, gates_of}
use Rattle.gv_checks.specs.declared.whole.Judged.{Judged}

-- ---- each query's gates are among those that were used

or_true : (a b : Bool) → b ≡ true → (a || b) ≡ true
or_true true b h = refl
or_true false b h = h

grow : (xs : List Circuit) (h g : Circuit) → has_gates xs g ≡ true → has_gates (xs ++ h ∷ []) g ≡ true
grow [] h g has = absurd (false≢true has)
grow (x ∷ xs) h g has = by (bytes_eq (circuit_bytes g) (circuit_bytes x)) has (grow xs h g)
  where
    by : (b : Bool) → (b || has_gates xs g) ≡ true → (has_gates xs g ≡ true → has_gates (xs ++ h ∷ []) g ≡ true) → (b || has_gates (xs ++ h ∷ []) g) ≡ true
    by true is later = refl
    by false is later = later is

last : (xs : List Circuit) (h : Circuit) → has_gates (xs ++ h ∷ []) h ≡ true
last [] h = ap (λ b. b || false) (nat_list_eq_equiv.refl (circuit_bytes h))
last (x ∷ xs) h = or_true (bytes_eq (circuit_bytes h) (circuit_bytes x)) (has_gates (xs ++ h ∷ []) h) (last xs h)

used_now : (acc : List Circuit) (h : Circuit) → has_gates (with_use acc h) h ≡ true
used_now acc h = by (has_gates acc h) refl
  where
    by : (b : Bool) → has_gates acc h ≡ b → has_gates (if b then acc else acc ++ h ∷ []) h ≡ true
    by true e = e
    by false e = last acc h

used_still : (acc : List Circuit) (h g : Circuit) → has_gates acc g ≡ true → has_gates (with_use acc h) g ≡ true
used_still acc h g has = by (has_gates acc h)
  where
    by : (b : Bool) → has_gates (if b then acc else acc ++ h ∷ []) g ≡ true
    by true = has
    by false = grow acc h g has

used_behind : (gs acc : List Circuit) (g : Circuit) → has_gates acc g ≡ true → has_gates (fold with_use acc gs) g ≡ true
used_behind [] acc g has = has
used_behind (h ∷ gs) acc g has = used_behind gs (with_use acc h) g (used_still acc h g has)

-- ---- and they are circuits

all_more : {A : Type 0} (P : A → Type 0) (xs : List A) (x : A) → AllByRecursion P xs → P x → AllByRecursion P (xs ++ x ∷ [])
all_more P [] x all p = (p, tt)
all_more P (y ∷ ys) x all p = (all.0, all_more P ys x all.1 p)

kept_circuit : (acc : List Circuit) (h : Circuit) → AllByRecursion IsCircuit acc → IsCircuit h → AllByRecursion IsCircuit (with_use acc h)
kept_circuit acc h all is = by (has_gates acc h)
  where
    by : (b : Bool) → AllByRecursion IsCircuit (if b then acc else acc ++ h ∷ [])
    by true = all
    by false = all_more IsCircuit acc h all is

circuits : (qs : List Query) (acc : List Circuit) → AllByRecursion IsCircuit acc → AllByRecursion (λ q. IsCircuit (gates_of q)) qs → AllByRecursion IsCircuit (fold with_use acc (map gates_of qs))
circuits [] acc all are = all
circuits (q ∷ qs) acc all are = circuits qs (with_use acc (gates_of q)) (kept_circuit acc (gates_of q) all are.0) are.1

-- ---- a certificate of gates that were used

abbrev gates_in : List Cert → List Circuit
gates_in certs = map (λ (c : Cert). c.gates) certs

record At (budget : ℕ) (given : List KnownRecord) (b : List ℕ) (certs : List Cert) : Type 0 where
  pub number : ℕ
  pub cert : Cert
  pub is : slice_get (map cert_record certs) number ≡ Some (cert_record cert)
  pub same : circuit_bytes cert.gates ≡ b
  pub formed : AllByRecursion IsCircuit (gates_in certs) → IsCircuit cert.gates
  pub backed : AllByRecursion (IsCert budget given) certs → IsCert budget given cert

at : (budget : ℕ) (given : List KnownRecord) (b : List ℕ) (certs : List Cert) → has_text (map circuit_bytes (gates_in certs)) b ≡ true → At budget given b certs
at budget given b [] has = absurd (false≢true has)
at budget given b (c ∷ cs) has = by (bytes_eq b (circuit_bytes c.gates)) refl (at budget given b cs)
  where
    by : (same : Bool) → bytes_eq b (circuit_bytes c.gates) ≡ same → (has_text (map circuit_bytes (gates_in cs)) b ≡ true → At budget given b cs) → At budget given b (c ∷ cs)
    by true e later = record {
      number = 0;
      cert = c;
      is = refl;
      same = sym (same_text b (circuit_bytes c.gates) (sym e));
      formed = λ all. all.0;
      backed = λ all. all.0;
    }
    by false e later =
        let next = later (ap (λ x. x || has_text (map circuit_bytes (gates_in cs)) b) (sym e) ∙ has) in
        record {
          number = suc next.number;
          cert = next.cert;
          is = next.is;
          same = next.same;
          formed = λ all. next.formed all.1;
          backed = λ all. next.backed all.1;
        }

-- ---- the record of one query, and those of all

abbrev made : List ℕ → List ℕ → Option KnownRecord
made query answer = Some (record { query = query; answer = answer })

module _ (law : CircuitLaw) (budget : ℕ) (given : List KnownRecord) (certs : List Cert) (backed : AllByRecursion (IsCert budget given) certs) (formed : AllByRecursion IsCircuit (gates_in certs)) where
  one : (g : Circuit) → IsCircuit g → has_gates (gates_in certs) g ≡ true → HasRecord (map cert_record certs) g
  one g w has =
      let it = at budget given (circuit_bytes g) certs has in
      let is = it.backed backed in
      let same : it.cert.gates ≡ g = law it.cert.gates g (it.formed formed) w it.same in
      record {
        number = it.number;
        claim = it.cert.claim;
        there = it.is ∙ ap (λ (h : Circuit). made (circuit_bytes h) (answer_bytes h it.cert.claim)) same;
        so = subst (λ h. IsSo h it.cert.claim) same is.answered.so;
        formed = subst (λ (h : Circuit). IsAnswerTo h it.cert.claim) same is.formed;
        backed = subst (λ h. Backs h it.cert.claim) same is.answered.backed;
      }

  all : (qs : List Query) (acc : List Circuit) → gates_in certs ≡ fold with_use acc (map gates_of qs) → AllByRecursion (λ q. IsCircuit (gates_of q)) qs → AllByRecursion (λ q. HasRecord (map cert_record certs) (gates_of q)) qs
  all [] acc are w = tt
  all (q ∷ qs) acc are w = (
    one (gates_of q) w.0 (subst (λ gs. has_gates gs (gates_of q) ≡ true) (sym are) (used_behind (map gates_of qs) (with_use acc (gates_of q)) (gates_of q) (used_now acc (gates_of q)))),
    all qs (with_use acc (gates_of q)) are w.1,
  )

pub all_have : CircuitLaw → (budget : ℕ) (given : List KnownRecord) (qs : List Query) (certs : List Cert) → AreCerts budget given (map gates_of qs) certs → AllByRecursion (λ q. IsCircuit (gates_of q)) qs
    → AllByRecursion (λ q. HasRecord (map cert_record certs) (gates_of q)) qs
all_have law budget given qs certs are formed =
    let circuits_are : AllByRecursion IsCircuit (gates_in certs) = subst (AllByRecursion IsCircuit) (sym are.gates_are) (circuits qs [] tt formed) in
    all law budget given certs are.backed circuits_are qs [] are.gates_are formed

pub each_has : CircuitLaw → (budget : ℕ) (given : List KnownRecord) (asked : List Query) (told : List Report) (before now : Counts) (j : Judged) → AreJudged budget given asked told before now j → AllByRecursion (λ q. HasRecord j.certs (gates_of q)) asked
each_has law budget given asked told before now j is =
    subst (λ records. AllByRecursion (λ q. HasRecord records (gates_of q)) asked) (sym is.records_are)
    (all_have law budget given asked is.certs is.are is.formed)

-- ---- and a record backs its answer

-- a record that stands at a number
at_number : (records : List KnownRecord) (n : ℕ) (r : KnownRecord) → slice_get records n ≡ Some r → (n < length records) × (record_at records n ≡ r)
at_number [] n r e = cc
at_number (x ∷ xs) zero r e = let same : x ≡ r = cc in (omega arith, same)
at_number (x ∷ xs) (suc n) r e = let rest = at_number xs n r e in (omega (arith, rest.0), rest.1)

pub is_backed : (records : List KnownRecord) (g : Circuit) → HasRecord records g → HasBacked records g
is_backed records g has =
    let here = at_number records has.number (record { query = circuit_bytes g; answer = answer_bytes g has.claim }) has.there in (
      has.number,
      record {
        has = record { there = here.0; same = ap (λ (r : KnownRecord). r.query) here.1 };
        backed = record { claim = has.claim; formed = has.formed; written = sym (ap (λ (r : KnownRecord). r.answer) here.1); backs = has.backed };
      },
    )
