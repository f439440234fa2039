-- Records of the first version that are turned into the second.
use Rattle.std.proofs.Common.{◌≡◌, ◌⊎◌, inl, inr, ℕ, zero, suc, ◌<◌, List, [], ◌∷◌, ◌++◌, refl, sym, subst, ap, ◌∙◌, arith}
use Rattle.std.specs.Prelude.{Option, None, Some}
use Rattle.gv_logic.specs.Bytes.{circuit_bytes}
use Rattle.gv_logic.specs.Circuits.{Circuit, IsCircuit}
use Rattle.gv_logic.specs.Encoding.{clause_count}
use Rattle.gv_logic.specs.Laws.{CircuitLaw}
use Rattle.gv_cert.specs.Backing.{Backs, IsBackedAtIn, NoneBackedIn, IsFirstBackedIn, FindsBackedIn}
use Rattle.gv_cert.specs.Claim.{claim_bytes, claim_form, IsAnswer, IsAnswerTo, answer_bytes}
use Rattle.gv_cert.specs.Known.{KnownRecord, HasQuery, answer_at}
use Rattle.gv_cert.specs.Migration.{IsTurned, IsLeftOut, AreTurned}
use Rattle.gv_cert.specs.Reader.{TakesTurned}
use Rattle.gv_cert.specs.declared.claim.Claim.{Claim}
use Rattle.gv_cert.specs.declared.version.FileVersion.{FileVersion}
use Rattle.gv_cert.specs.declared.version.FileVersion.TheVariants.{First, Second}
use Rattle.gv_cert.proofs.Cancel.{cons_same}
use Rattle.gv_cert.proofs.Claims.{same_claim}

abbrev made : List ℕ → List ℕ → KnownRecord
made query answer = record { query = query; answer = answer }

-- A record is turned into one record.

turned_same : CircuitLaw → (r new other : KnownRecord) → IsTurned r new → IsTurned r other → other ≡ new
turned_same law r new other a b =
    let gates : a.gates ≡ b.gates = law a.gates b.gates a.circuit b.circuit (a.query ∙ sym b.query) in
    let formed : IsAnswerTo a.gates b.claim = subst (λ h. IsAnswerTo h b.claim) (sym gates) b.formed in
    let written : claim_form First (clause_count a.gates) b.claim ≡ r.answer = subst (λ h. claim_form First (clause_count h) b.claim ≡ r.answer) (sym gates) b.written in
    let claim : b.claim ≡ a.claim = same_claim First a.gates.inputs (clause_count a.gates) a.claim b.claim a.formed formed (written ∙ sym a.written) in
    b.turned ∙ ap (λ h. made r.query (answer_bytes h b.claim)) (sym gates) ∙ ap (λ k. made r.query (answer_bytes a.gates k)) claim ∙ sym a.turned

pub turned_one : CircuitLaw → (old new other : List KnownRecord) → AreTurned old new → AreTurned old other → other ≡ new
turned_one law [] new other a b = b ∙ sym a
turned_one law (r ∷ rs) new other (inl a) (inl b) = turned_one law rs new other a.1 b.1
turned_one law (r ∷ rs) new other (inl a) (inr b) = absurd (a.0 b.0 b.2)
turned_one law (r ∷ rs) new other (inr a) (inl b) = absurd (b.0 a.0 a.2)
turned_one law (r ∷ rs) new other (inr a) (inr b) =
    b.3 ∙ cons_same b.0 a.0 b.1 a.1 (turned_same law r a.0 b.0 a.2 b.2) (turned_one law rs a.1 b.1 a.4 b.4) ∙ sym a.3

-- One more record.

left_more : (old : List KnownRecord) (r : KnownRecord) (new : List KnownRecord) → AreTurned old new → IsLeftOut r → AreTurned (old ++ r ∷ []) new
left_more [] r new a out = inl (out, a)
left_more (x ∷ xs) r new (inl a) out = inl (a.0, left_more xs r new a.1 out)
left_more (x ∷ xs) r new (inr a) out = inr (a.0, a.1, a.2, a.3, left_more xs r a.1 a.4 out)

turn_more : (old : List KnownRecord) (r : KnownRecord) (new : List KnownRecord) (it : KnownRecord) → AreTurned old new → IsTurned r it → AreTurned (old ++ r ∷ []) (new ++ it ∷ [])
turn_more [] r new it a is = inr (it, [], is, ap (λ (k : List KnownRecord). k ++ it ∷ []) a, refl)
turn_more (x ∷ xs) r new it (inl a) is = inl (a.0, turn_more xs r new it a.1 is)
turn_more (x ∷ xs) r new it (inr a) is = inr (a.0, a.1 ++ it ∷ [], a.2, ap (λ (k : List KnownRecord). k ++ it ∷ []) a.3, turn_more xs r a.1 it a.4 is)

pub more_turned : (old : List KnownRecord) (r : KnownRecord) (new after : List KnownRecord) → AreTurned old new → TakesTurned r new after → AreTurned (old ++ r ∷ []) after
more_turned old r new after a (inl t) = subst (AreTurned (old ++ r ∷ [])) (sym t.1) (left_more old r new a t.0)
more_turned old r new after a (inr t) = subst (AreTurned (old ++ r ∷ [])) (sym t.2) (turn_more old r new t.0 a t.1)

-- Records that are backed.

-- the first record is one of the gates, and its answer is this claim, which is backed
record IsHere (version : FileVersion) (g : Circuit) (r : KnownRecord) (claim : Claim) : Type 0 where
  pub query : r.query ≡ circuit_bytes g
  pub formed : IsAnswerTo g claim
  pub written : claim_form version (clause_count g) claim ≡ r.answer
  pub backs : Backs g claim

module _ (version : FileVersion) (g : Circuit) (r : KnownRecord) (rs : List KnownRecord) where
  at_less : (n : ℕ) → IsBackedAtIn version g (r ∷ rs) (suc n) → IsBackedAtIn version g rs n
  at_less n b = record { has = record { there = omega (arith, b.has.there); same = b.has.same }; backed = b.backed }

  at_more : (n : ℕ) → IsBackedAtIn version g rs n → IsBackedAtIn version g (r ∷ rs) (suc n)
  at_more n b = record { has = record { there = omega (arith, b.has.there); same = b.has.same }; backed = b.backed }

  at_here : (claim : Claim) → IsHere version g r claim → IsBackedAtIn version g (r ∷ rs) 0
  at_here claim h = record { has = record { there = omega arith; same = h.query }; backed = record { claim = claim; formed = h.formed; written = h.written; backs = h.backs } }

  here_at : (b : IsBackedAtIn version g (r ∷ rs) 0) → IsHere version g r b.backed.claim
  here_at b = record { query = b.has.same; formed = b.backed.formed; written = b.backed.written; backs = b.backed.backs }

  none_more : (IsBackedAtIn version g (r ∷ rs) 0 → ⊥) → NoneBackedIn version g rs → NoneBackedIn version g (r ∷ rs)
  none_more here later zero b = here b
  none_more here later (suc n) b = later n (at_less n b)

  none_less : NoneBackedIn version g (r ∷ rs) → NoneBackedIn version g rs
  none_less none n b = none (suc n) (at_more n b)

  first_here : (claim : Claim) → IsHere version g r claim → IsFirstBackedIn version g (r ∷ rs) claim
  first_here claim h = record { number = 0; has = record { there = omega arith; same = h.query }; formed = h.formed; written = h.written; backs = h.backs; first = λ m below b. absurd (omega (arith, below)) }

  first_more : (claim : Claim) → (IsBackedAtIn version g (r ∷ rs) 0 → ⊥) → IsFirstBackedIn version g rs claim → IsFirstBackedIn version g (r ∷ rs) claim
  first_more claim here f = record {
    number = suc f.number;
    has = record { there = omega (arith, f.has.there); same = f.has.same };
    formed = f.formed;
    written = f.written;
    backs = f.backs;
    first = by;
  }
    where
      by : (m : ℕ) → m < suc f.number → IsBackedAtIn version g (r ∷ rs) m → ⊥
      by zero below b = here b
      by (suc m) below b = f.first m (omega (arith, below)) (at_less m b)

  -- it is the first record's, or that isn't backed
  abbrev Cases : Claim → Type 0
  Cases claim = IsHere version g r claim ⊎ ((IsBackedAtIn version g (r ∷ rs) 0 → ⊥) × IsFirstBackedIn version g rs claim)

  first_cases : (claim : Claim) → IsFirstBackedIn version g (r ∷ rs) claim → Cases claim
  first_cases claim f = by f.number f.has f.written f.first
    where
      by : (n : ℕ) → HasQuery (circuit_bytes g) (r ∷ rs) n → claim_form version (clause_count g) claim ≡ answer_at (r ∷ rs) n → ((m : ℕ) → m < n → IsBackedAtIn version g (r ∷ rs) m → ⊥) → Cases claim
      by zero has written first = inl (record { query = has.same; formed = f.formed; written = written; backs = f.backs })
      by (suc n) has written first = inr (
        first 0 (omega arith),
        record {
          number = n;
          has = record { there = omega (arith, has.there); same = has.same };
          formed = f.formed;
          written = written;
          backs = f.backs;
          first = λ m below b. first (suc m) (omega (arith, below)) (at_more m b);
        },
      )

-- none of no records
nothing_first : (version : FileVersion) (g : Circuit) (claim : Claim) → IsFirstBackedIn version g [] claim → ⊥
nothing_first version g claim f = absurd (omega (arith, f.has.there))

nothing_backed : (version : FileVersion) (g : Circuit) → NoneBackedIn version g []
nothing_backed version g n b = absurd (omega (arith, b.has.there))

-- What is backed stays so, and nothing else becomes so.

module _ (law : CircuitLaw) (g : Circuit) (w : IsCircuit g) where
  -- a backed record isn't left out
  not_left : (r : KnownRecord) (claim : Claim) → IsLeftOut r → IsHere First g r claim → ⊥
  not_left r claim out h = out (made r.query (answer_bytes g claim)) (record { gates = g; circuit = w; query = sym h.query; claim = claim; formed = h.formed; written = h.written; turned = refl })

  module _ (r new : KnownRecord) (t : IsTurned r new) where
    -- its gates are these
    record Told : Type 0 where
      pub formed : IsAnswerTo g t.claim
      pub written : claim_form First (clause_count g) t.claim ≡ r.answer
      pub turned : new ≡ made r.query (answer_bytes g t.claim)

    told : r.query ≡ circuit_bytes g → Told
    told query =
        let gates : t.gates ≡ g = law t.gates g t.circuit w (t.query ∙ query) in
        record {
          formed = subst (λ h. IsAnswerTo h t.claim) gates t.formed;
          written = subst (λ h. claim_form First (clause_count h) t.claim ≡ r.answer) gates t.written;
          turned = t.turned ∙ ap (λ h. made r.query (answer_bytes h t.claim)) gates;
        }

    here_new : (claim : Claim) → IsHere First g r claim → IsHere Second g new claim
    here_new claim h =
        let it = told h.query in
        let same : t.claim ≡ claim = same_claim First g.inputs (clause_count g) claim t.claim h.formed it.formed (it.written ∙ sym h.written) in
        record {
          query = ap (λ (k : KnownRecord). k.query) it.turned ∙ h.query;
          formed = h.formed;
          written = sym (ap (λ (k : KnownRecord). k.answer) it.turned ∙ ap (λ k. answer_bytes g k) same);
          backs = h.backs;
        }

    here_old : (claim : Claim) → IsHere Second g new claim → IsHere First g r claim
    here_old claim h =
        let query : r.query ≡ circuit_bytes g = sym (ap (λ (k : KnownRecord). k.query) t.turned) ∙ h.query in
        let it = told query in
        let same : t.claim ≡ claim = same_claim Second g.inputs (clause_count g) claim t.claim h.formed it.formed (sym (ap (λ (k : KnownRecord). k.answer) it.turned) ∙ sym h.written) in
        record {
          query = query;
          formed = h.formed;
          written = ap (λ k. claim_form First (clause_count g) k) (sym same) ∙ it.written;
          backs = h.backs;
        }

    module _ (rs rest : List KnownRecord) where
      back_new : IsBackedAtIn First g (r ∷ rs) 0 → IsBackedAtIn Second g (new ∷ rest) 0
      back_new b = at_here Second g new rest b.backed.claim (here_new b.backed.claim (here_at First g r rs b))

      back_old : IsBackedAtIn Second g (new ∷ rest) 0 → IsBackedAtIn First g (r ∷ rs) 0
      back_old b = at_here First g r rs b.backed.claim (here_old b.backed.claim (here_at Second g new rest b))

  first_new : (claim : Claim) (old new : List KnownRecord) → AreTurned old new → IsFirstBackedIn First g old claim → IsFirstBackedIn Second g new claim
  first_new claim [] new a f = absurd (nothing_first First g claim f)
  first_new claim (r ∷ rs) new (inl a) f =
      elim (first_cases First g r rs claim f) [ inl h ↦ absurd (not_left r claim a.0 h) | inr p ↦ first_new claim rs new a.1 p.1 ]
  first_new claim (r ∷ rs) new (inr a) f = subst (λ k. IsFirstBackedIn Second g k claim) (sym a.3) (
      elim (first_cases First g r rs claim f) [
        | inl h ↦ first_here Second g a.0 a.1 claim (here_new r a.0 a.2 claim h)
        | inr p ↦ first_more Second g a.0 a.1 claim (λ b. p.0 (back_old r a.0 a.2 rs a.1 b)) (first_new claim rs a.1 a.4 p.1)
      ])

  first_old : (claim : Claim) (old new : List KnownRecord) → AreTurned old new → IsFirstBackedIn Second g new claim → IsFirstBackedIn First g old claim
  first_old claim [] new a f = absurd (nothing_first Second g claim (subst (λ k. IsFirstBackedIn Second g k claim) a f))
  first_old claim (r ∷ rs) new (inl a) f = first_more First g r rs claim (λ b. not_left r b.backed.claim a.0 (here_at First g r rs b)) (first_old claim rs new a.1 f)
  first_old claim (r ∷ rs) new (inr a) f =
      elim (first_cases Second g a.0 a.1 claim (subst (λ k. IsFirstBackedIn Second g k claim) a.3 f)) [
        | inl h ↦ first_here First g r rs claim (here_old r a.0 a.2 claim h)
        | inr p ↦ first_more First g r rs claim (λ b. p.0 (back_new r a.0 a.2 rs a.1 b)) (first_old claim rs a.1 a.4 p.1)
      ]

  none_new : (old new : List KnownRecord) → AreTurned old new → NoneBackedIn First g old → NoneBackedIn Second g new
  none_new [] new a none = subst (λ k. NoneBackedIn Second g k) (sym a) (nothing_backed Second g)
  none_new (r ∷ rs) new (inl a) none = none_new rs new a.1 (none_less First g r rs none)
  none_new (r ∷ rs) new (inr a) none = subst (λ k. NoneBackedIn Second g k) (sym a.3)
      (none_more Second g a.0 a.1 (λ b. none 0 (back_old r a.0 a.2 rs a.1 b)) (none_new rs a.1 a.4 (none_less First g r rs none)))

  none_old : (old new : List KnownRecord) → AreTurned old new → NoneBackedIn Second g new → NoneBackedIn First g old
  none_old [] new a none = nothing_backed First g
  none_old (r ∷ rs) new (inl a) none = none_more First g r rs (λ b. not_left r b.backed.claim a.0 (here_at First g r rs b)) (none_old rs new a.1 none)
  none_old (r ∷ rs) new (inr a) none =
      let here : NoneBackedIn Second g (a.0 ∷ a.1) = subst (λ k. NoneBackedIn Second g k) a.3 none in
      none_more First g r rs (λ b. here 0 (back_new r a.0 a.2 rs a.1 b)) (none_old rs a.1 a.4 (none_less Second g a.0 a.1 here))

  pub kept : (old new : List KnownRecord) (claim : Option Claim) → AreTurned old new → (FindsBackedIn Second g new claim → FindsBackedIn First g old claim) × (FindsBackedIn First g old claim → FindsBackedIn Second g new claim)
  kept old new None a = (none_old old new a, none_new old new a)
  kept old new (Some claim) a = (first_old claim old new a, first_new claim old new a)

-- What the code finds of a record.

module _ (query answer : List ℕ) where
  pub left_gates : ((g : Circuit) → IsCircuit g → circuit_bytes g ≡ query → ⊥) → IsLeftOut (made query answer)
  left_gates none new t = none t.gates t.circuit t.query

  module _ (g : Circuit) (inputs clauses : ℕ) (i : inputs ≡ g.inputs) (k : clauses ≡ clause_count g) where
    pub left_answer : ((h : Circuit) → IsCircuit h → circuit_bytes h ≡ query → h ≡ g) → ((claim : Claim) → IsAnswer inputs clauses claim → claim_form First clauses claim ≡ answer → ⊥)
        → IsLeftOut (made query answer)
    left_answer only none new t =
        let same : t.gates ≡ g = only t.gates t.circuit t.query in
        let formed : IsAnswer g.inputs (clause_count g) t.claim = subst (λ h. IsAnswerTo h t.claim) same t.formed in
        let written : claim_form First (clause_count g) t.claim ≡ answer = subst (λ h. claim_form First (clause_count h) t.claim ≡ answer) same t.written in
        none t.claim (rw (i, k) formed) (rw k written)

    pub is_turned : IsCircuit g → circuit_bytes g ≡ query → (claim : Claim) (text : List ℕ) → IsAnswer inputs clauses claim → claim_form First clauses claim ≡ answer → text ≡ claim_bytes clauses claim
        → IsTurned (made query answer) (made query text)
    is_turned w q claim text formed written is = record {
      gates = g;
      circuit = w;
      query = q;
      claim = claim;
      formed = subst (λ n. IsAnswer g.inputs n claim) k (subst (λ n. IsAnswer n clauses claim) i formed);
      written = subst (λ n. claim_form First n claim ≡ answer) k written;
      turned = ap (made query) (is ∙ ap (λ n. claim_bytes n claim) k);
    }
