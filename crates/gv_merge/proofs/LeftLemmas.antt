-- Records among which stand those of each part back an answer to each query.
use Rattle.std.proofs.Common.{◌≡◌, ℕ, zero, suc, ◌+◌, ◌≤◌, List, [], ◌∷◌, ◌++◌, length, map, Some, sym, ap, subst, inl, inr, arith}
use Rattle.std.specs.Prelude.{Result, Ok, Err, slice_get}
use Rattle.std.specs.List.{AllByRecursion}
use Rattle.gv_cert.specs.Known.{KnownRecord}
use Rattle.gv_load.specs.declared.loading.Repo.{Repo}
use Rattle.gv_logic.specs.Circuits.{Circuit, IsCircuit}
use Rattle.gv_report.specs.declared.options.Options.{Options}
use Rattle.gv_checks.specs.Certs.{AreCerts, Cert, HasBacked, HasRecord, cert_record}
use Rattle.gv_checks.specs.Limits.{IsPast, IsWithin}
use Rattle.gv_checks.specs.Queries.{Query, gates_of, queries}
use Rattle.gv_merge.specs.declared.merging.MergeFault.{MergeFault}
use Rattle.gv_merge.specs.declared.merging.MergeFault.TheVariants.{NotBacked, Limit, NoMemory}
use Rattle.gv_merge.specs.declared.merging.Merged.{Merged}
use Rattle.gv_merge.specs.Left.{AreLeftByParts, IsLeftByPart, MayMerge}
use Rattle.gv_merge.specs.Merging.{Merges}
use Rattle.gv_merge.specs.Parts.{part_of_all, part_queries}
use Rattle.gv_merge.proofs.PartLemmas.{have_all}

abbrev pub HaveLaw : Type 0
HaveLaw = (budget : ℕ) (given : List KnownRecord) (qs : List Query) (certs : List Cert) → AreCerts budget given (map gates_of qs) certs → AllByRecursion (λ q. IsCircuit (gates_of q)) qs
    → AllByRecursion (λ q. HasRecord (map cert_record certs) (gates_of q)) qs

abbrev pub BackedLaw : Type 0
BackedLaw = (records : List KnownRecord) (g : Circuit) → HasRecord records g → HasBacked records g

-- ---- a record that stands among some stands among more

before_it : (xs ys : List KnownRecord) (n : ℕ) (r : KnownRecord) → slice_get ys n ≡ Some r → slice_get (xs ++ ys) (length xs + n) ≡ Some r
before_it [] ys n r e = let at : n ≡ 0 + n = omega arith in subst (λ k. slice_get ys k ≡ Some r) at e
before_it (x ∷ xs) ys n r e =
    let at : suc (length xs + n) ≡ length (x ∷ xs) + n = omega arith in
    subst (λ k. slice_get (x ∷ (xs ++ ys)) k ≡ Some r) at (before_it xs ys n r e)

behind_it : (xs ys : List KnownRecord) (n : ℕ) (r : KnownRecord) → slice_get xs n ≡ Some r → slice_get (xs ++ ys) n ≡ Some r
behind_it [] ys n r e = cc
behind_it (x ∷ xs) ys zero r e = e
behind_it (x ∷ xs) ys (suc n) r e = behind_it xs ys n r e

among : (before these behind : List KnownRecord) (g : Circuit) → HasRecord these g → HasRecord (before ++ (these ++ behind)) g
among before these behind g has = record {
  number = length before + has.number;
  claim = has.claim;
  there = before_it before (these ++ behind) has.number _ (behind_it these behind has.number _ has.there);
  so = has.so;
  formed = has.formed;
  backed = has.backed;
}

-- ---- keywords and profiles say which queries there are

same_queries : (o p : Options) (r : Repo) → o.keywords ≡ p.keywords → o.profiles ≡ p.profiles → queries o r ≡ queries p r
same_queries o p r keywords profiles = λ i. queries (record { keywords = keywords i; profiles = profiles i; json = p.json; budget = p.budget; in_range = p.in_range }) r

all_map : {A : Type 0} (P Q : A → Type 0) → ((x : A) → P x → Q x) → (xs : List A) → AllByRecursion P xs → AllByRecursion Q xs
all_map P Q f [] all = tt
all_map P Q f (x ∷ xs) all = (f x all.0, all_map P Q f xs all.1)

middle : {A : Type 0} (P : A → Type 0) (before behind : List A) (x : A) → AllByRecursion P (before ++ x ∷ behind) → P x
middle P [] behind x all = all.0
middle P (y ∷ ys) behind x all = middle P ys behind x all.1

not_past : (q : Query) (n : ℕ) → IsWithin q → IsPast q n → ⊥
not_past q n within (inl past) = omega (arith, within.flags, past.0)
not_past q n within (inr past) = omega (arith, within.weight, past.1)

module _ (have : HaveLaw) (backed : BackedLaw) (parts : ℕ) (o : Options) (r : Repo) (given : List KnownRecord) (some : 1 ≤ parts) (left : AreLeftByParts parts o r given) where
  -- of one part
  module _ (part : ℕ) (l : IsLeftByPart part parts o r given) where
    same : part_queries part parts l.options r ≡ part_of_all part parts (queries o r)
    same = ap (part_of_all part parts) (sym (same_queries o l.options r l.keywords l.profiles))

    part_backed : AllByRecursion (λ q. HasBacked given (gates_of q)) (part_of_all part parts (queries o r))
    part_backed =
        subst (AllByRecursion (λ (q : Query). HasBacked given (gates_of q))) same
        (all_map (λ (q : Query). HasRecord (map cert_record l.is.certs) (gates_of q)) (λ (q : Query). HasBacked given (gates_of q))
        (λ q has.
        backed given (gates_of q)
        (subst (λ rs. HasRecord rs (gates_of q)) (sym l.among)
        (among l.before l.answer.certs l.behind (gates_of q) (subst (λ rs. HasRecord rs (gates_of q)) (sym l.is.records_are) has))))
        (part_queries part parts l.options r)
        (have l.options.budget l.known (part_queries part parts l.options r) l.is.certs l.is.are l.is.formed))

    part_within : AllByRecursion IsWithin (part_of_all part parts (queries o r))
    part_within = subst (AllByRecursion IsWithin) same l.is.within

  all_backed : AllByRecursion (λ q. HasBacked given (gates_of q)) (queries o r)
  all_backed = have_all (λ (q : Query). HasBacked given (gates_of q)) parts some (queries o r) (λ part from to. part_backed part (left part from to))

  all_within : AllByRecursion IsWithin (queries o r)
  all_within = have_all IsWithin parts some (queries o r) (λ part from to. part_within part (left part from to))

  pub may_merge : (answer : Result Merged MergeFault) → Merges parts o given r answer → MayMerge answer
  may_merge (Ok m) is = tt
  may_merge (Err (NotBacked query part)) is =
      let it = is.0 in
      let has : HasBacked given (gates_of it.query) =
      middle (λ (q : Query). HasBacked given (gates_of q)) it.before it.behind it.query (subst (AllByRecursion (λ (q : Query). HasBacked given (gates_of q))) it.queries_are all_backed) in
      it.cause.2 has.0 has.1
  may_merge (Err (Limit place number)) is = not_past is.query number (middle IsWithin is.before is.behind is.query (subst (AllByRecursion IsWithin) is.queries_are all_within)) is.cause.1
  may_merge (Err NoMemory) is = tt
