-- Lemmas, no rule, for the proofs of this crate and of those above: readings one behind the other.
use Rattle.std.proofs.Common.{◌≡◌, ℕ, ◌≤◌, List, [], ◌∷◌, ◌++◌, refl, sym, ap, subst, ◌∙◌, ◌+◌, ◌<◌, suc, length, drop, get_or, drop-cons, add-one, append_assoc, append-nil, arith}
use Rattle.std.proofs.Math.ListN.{drop_of_length-le}
use Rattle.std.specs.Prelude.{Option, Result, Ok, Err}
use Rattle.std.specs.Result.{IsErrAnd}
use Rattle.gv_base.specs.FileMap.{FileMap}
use Rattle.gv_reading.specs.declared.faults.LoadFault.{LoadFault}
use Rattle.gv_reading.specs.declared.faults.LoadFault.TheVariants.{Tree, NotARepository, Limit, NoMemory}
use Rattle.gv_reading.specs.Causes.{Around, Cause, HasEnded, HasRead, IsOfPath, IsTold, Knows, Reads, View, look_in}
use Rattle.gv_reading.specs.Reader.{Seen}
use Rattle.gv_reading.specs.Look.{Look}
use Rattle.gv_reading.specs.Reading.{Asks, IsAsked, Out, Step, after, after_read, and_then, need, passed, read}

pub passed-append : (look : Look) (old : Seen) (xs ys : List Step) → passed look old (xs ++ ys) ≡ and_then (passed look old xs) (λ next. passed look next ys)
passed-append look old [] ys = refl
passed-append look old (x ∷ xs) ys = by (after look old x) (λ next. passed-append look next xs ys)
  where
    by : (o : Out) → ((next : Seen) → passed look next (xs ++ ys) ≡ and_then (passed look next xs) (λ n. passed look n ys)) →
        and_then o (λ next. passed look next (xs ++ ys)) ≡ and_then (and_then o (λ next. passed look next xs)) (λ n. passed look n ys)
    by (Ok next) rest = rest next
    by (Err fault) rest = refl

-- a refusal of a part is one of the whole
pub same_cause : (told : Option FileMap) (before now : ℕ) (part whole : Out) (fault : LoadFault) →
    (IsTold told → (f : LoadFault) → part ≡ Err f → whole ≡ Err f) → Cause told before now part fault → Cause told before now whole fault
same_cause told before now part whole NoMemory through cause = tt
same_cause told before now part whole (Tree path) through cause = cause
same_cause told before now part whole (NotARepository path) through cause = (cause.0, λ t. through t (NotARepository path) (cause.1 t))
same_cause told before now part whole (Limit place number) through cause = (cause.0, λ t. through t (Limit place number) (cause.1 t))

-- ---- the path of a fault
pub same_path : {P Q : List ℕ → Type 0} (fault : LoadFault) → ((path : List ℕ) → P path → Q path) → IsOfPath P fault → IsOfPath Q fault
same_path NoMemory through is = tt
same_path (Tree path) through is = through path is
same_path (NotARepository path) through is = tt
same_path (Limit place number) through is = tt

-- the first of more steps ask there, or those behind them
pub asked_first : (look : Look) (old : Seen) (xs ys : List Step) (path : List ℕ) → IsAsked look old xs path → IsAsked look old (xs ++ ys) path
asked_first look old xs ys path a = record {
  front = a.front;
  step = a.step;
  behind = a.behind ++ ys;
  seen = a.seen;
  are = ap (λ ss. ss ++ ys) a.are ∙ append_assoc a.front (a.step ∷ a.behind) ys;
  passes = a.passes;
  asks = a.asks;
}

pub asked_behind : (look : Look) (old mid : Seen) (xs ys : List Step) (path : List ℕ) → passed look old xs ≡ Ok mid → IsAsked look mid ys path → IsAsked look old (xs ++ ys) path
asked_behind look old mid xs ys path went a = record {
  front = xs ++ a.front;
  step = a.step;
  behind = a.behind;
  seen = a.seen;
  are = ap (λ ss. xs ++ ss) a.are ∙ sym (append_assoc xs a.front (a.step ∷ a.behind));
  passes = passed-append look old xs a.front ∙ rw went a.passes;
  asks = a.asks;
}

pub asked_as : (look : Look) (old : Seen) (xs ys : List Step) (path : List ℕ) → ys ≡ xs → IsAsked look old xs path → IsAsked look old ys path
asked_as look old xs ys path is a = subst (λ (ss : List Step). IsAsked look old ss path) (sym is) a

-- the only step asks there
pub asked_one : (look : Look) (old : Seen) (step : Step) (path : List ℕ) → Asks old step path → IsAsked look old (step ∷ []) path
asked_one look old step path asks = record { front = []; step = step; behind = []; seen = old; are = refl; passes = refl; asks = asks }

asked_of_one : (look : Look) (old : Seen) (step : Step) (path : List ℕ) → IsAsked look old (step ∷ []) path → Asks old step path
asked_of_one look old step path a = by a.front a.are a.passes
  where
    by : (front : List Step) → step ∷ [] ≡ front ++ a.step ∷ a.behind → passed look old front ≡ Ok a.seen → Asks old step path
    by [] are passes =
        let same : a.step ≡ step = cc in
        let seen : a.seen ≡ old = cc in
        subst (λ (s : Step). Asks old s path) same (subst (λ (s : Seen). Asks s a.step path) seen a.asks)
    by (x ∷ []) are passes = let none : ⊥ = cc in absurd none
    by (x ∷ y ∷ zs) are passes = let none : ⊥ = cc in absurd none

-- another step asks there too
pub asked_alike : (look : Look) (old : Seen) (one two : Step) (path : List ℕ) → (Asks old one path → Asks old two path) → IsAsked look old (one ∷ []) path → IsAsked look old (two ∷ []) path
asked_alike look old one two path alike a = asked_one look old two path (alike (asked_of_one look old one path a))

-- the path of a fault of one step
pub path_of_one : (told : Option FileMap) (old : Seen) (step : Step) (fault : LoadFault) → IsOfPath (λ path. Asks old step path) fault →
    IsOfPath (λ path. IsTold told → IsAsked (look_in told) old (step ∷ []) path) fault
path_of_one told old step fault is = same_path fault (λ path asks t. asked_one (look_in told) old step path asks) is

abbrev passed-none : Seen → Out
passed-none seen = Ok seen

abbrev of_three : Option FileMap → ℕ → Around → View
of_three told faults around = record { told = told; faults = faults; around = around }

-- the tree is as before
pub same_view : (before now : View) → now.told ≡ before.told → now.faults ≡ before.faults → now.around ≡ before.around → now ≡ before
same_view before now told faults around =
    ap (λ x. of_three x now.faults now.around) told ∙ ap (λ x. of_three before.told x now.around) faults ∙ ap (of_three before.told before.faults) around

-- ---- one reading
module _ {before now : View} {old : Seen} where
  -- the same steps and the same value, said otherwise
  pub read_as : {new : Seen} {xs ys : Look → List Step} {P Q : Look → Type 0} → HasRead before now xs P old new →
      ((look : Look) → P look → ys look ≡ xs look) → ((look : Look) → P look → Q look) → HasRead before now ys Q old new
  read_as one steps says = record {
    same = one.same;
    knows = one.knows;
    passed = λ t. ap (passed (look_in before.told) old) (steps _ (one.value t)) ∙ one.passed t;
    value = λ t. says _ (one.value t);
  }

  -- the first of more steps were refused
  pub ended_first : {At : List ℕ → Type 0} {xs zs : Look → List Step} {fault : LoadFault} (ys : Look → List Step) → HasEnded At before now xs old fault → ((look : Look) → zs look ≡ xs look ++ ys look) → HasEnded At before now zs old fault
  ended_first {xs = xs} {fault = fault} ys one steps = record {
    told = one.told;
    around = one.around;
    later = one.later;
    cause = same_cause before.told before.faults now.faults _ _ fault
        (λ t f is. ap (passed (look_in before.told) old) (steps _) ∙ passed-append (look_in before.told) old (xs (look_in before.told)) (ys (look_in before.told)) ∙ rw is refl) one.cause;
    asked = same_path fault (λ path asked t. asked_as (look_in before.told) old _ _ path (steps _) (asked_first (look_in before.told) old (xs (look_in before.told)) (ys (look_in before.told)) path (asked t))) one.asked;
    here = one.here;
  }

  pub ended_front : {At : List ℕ → Type 0} {xs : Look → List Step} {fault : LoadFault} (ys : Look → List Step) → HasEnded At before now xs old fault → HasEnded At before now (λ look. xs look ++ ys look) old fault
  ended_front ys one = ended_first ys one (λ look. refl)

  -- memory was wanted
  pub no_memory : {At : List ℕ → Type 0} {steps : Look → List Step} → now ≡ before → HasEnded At before now steps old NoMemory
  no_memory is = record {
    told = ap (λ (v : View). v.told) is;
    around = ap (λ (v : View). v.around) is;
    later = let e : now.faults ≡ before.faults = ap (λ (v : View). v.faults) is in omega arith;
    cause = tt;
    asked = tt;
    here = tt;
  }

-- the same steps, said otherwise
pub ended_as : {At : List ℕ → Type 0} {before now : View} {old : Seen} {xs ys : Look → List Step} {fault : LoadFault} → HasEnded At before now xs old fault → ((look : Look) → ys look ≡ xs look) → HasEnded At before now ys old fault
ended_as {before = before} {now = now} {old = old} {fault = fault} one steps = record {
  told = one.told;
  around = one.around;
  later = one.later;
  cause = same_cause before.told before.faults now.faults _ _ fault (λ t f is. ap (passed (look_in before.told) old) (steps _) ∙ is) one.cause;
  asked = same_path fault (λ path asked t. asked_as (look_in before.told) old _ _ path (steps _) (asked t)) one.asked;
  here = one.here;
}

-- a path that has to be a file couldn't be read
refused_read : (o : Out) (fault : LoadFault) → and_then o (λ next. passed-none next) ≡ Err fault → o ≡ Err fault
refused_read (Ok seen) fault is = cc
refused_read (Err f) fault is = is

pub ended_need : {At : List ℕ → Type 0} {before now : View} {old : Seen} {path : List ℕ} {fault : LoadFault} → HasEnded At before now (λ look. read path ∷ []) old fault → HasEnded At before now (λ look. need path ∷ []) old fault
ended_need {before = before} {now = now} {old = old} {path = path} {fault = fault} one = record {
  told = one.told;
  around = one.around;
  later = one.later;
  cause = same_cause before.told before.faults now.faults _ _ fault (λ t f is. rw (refused_read (after_read (look_in before.told) old path) f is) refl) one.cause;
  asked = same_path fault (λ p asked t. asked_alike (look_in before.told) old (read path) (need path) p (λ asks. asks) (asked t)) one.asked;
  here = one.here;
}

-- what `?` hands on
pub faulted : {V : Type 0} {fault : LoadFault} (result : Result V LoadFault) → IsErrAnd result (λ f. f ≡ fault) → result ≡ Err fault
faulted (Ok v) is = absurd is
faulted {V = V} (Err f) is = ap (λ (g : LoadFault). let r : Result V LoadFault = Err g in r) is

-- ---- two readings
module _ {before mid now : View} {old m : Seen} where
  pub read_then : {new : Seen} {xs ys zs : Look → List Step} {P Q R : Look → Type 0} → HasRead before mid xs P old m → HasRead mid now ys Q m new →
      ((look : Look) → P look → Q look → zs look ≡ xs look ++ ys look) → ((look : Look) → P look → Q look → R look) → HasRead before now zs R old new
  read_then {new = new} {xs = xs} {ys = ys} {Q = Q} one two steps says =
      let more = subst (λ (v : View). HasRead v now ys Q m new) one.same two in
      record {
        same = two.same ∙ one.same;
        knows = more.knows;
        passed = λ t. ap (passed (look_in before.told) old) (steps _ (one.value t) (more.value t)) ∙ passed-append (look_in before.told) old (xs (look_in before.told)) (ys (look_in before.told)) ∙ rw (one.passed t) (more.passed t);
        value = λ t. says _ (one.value t) (more.value t);
      }

  pub ended_then : {At : List ℕ → Type 0} {xs ys zs : Look → List Step} {P : Look → Type 0} {fault : LoadFault} → HasRead before mid xs P old m → HasEnded At mid now ys m fault →
      ((look : Look) → P look → zs look ≡ xs look ++ ys look) → HasEnded At before now zs old fault
  ended_then {At = At} {xs = xs} {ys = ys} {fault = fault} one two steps =
      let more = subst (λ (v : View). HasEnded At v now ys m fault) one.same two in
      record {
        told = more.told;
        around = more.around;
        later = more.later;
        cause = same_cause before.told before.faults now.faults _ _ fault
            (λ t f is. ap (passed (look_in before.told) old) (steps _ (one.value t)) ∙ passed-append (look_in before.told) old (xs (look_in before.told)) (ys (look_in before.told)) ∙ rw (one.passed t) is) more.cause;
        asked = same_path fault (λ path asked t. asked_as (look_in before.told) old _ _ path (steps _ (one.value t))
            (asked_behind (look_in before.told) old m (xs (look_in before.told)) (ys (look_in before.told)) path (one.passed t) (asked t))) more.asked;
        here = more.here;
      }

  pub read_both : {new : Seen} {xs ys : Look → List Step} {P Q : Look → Type 0} → HasRead before mid xs P old m → HasRead mid now ys Q m new → HasRead before now (λ look. xs look ++ ys look) (λ look. P look × Q look) old new
  read_both one two = read_then one two (λ look p q. refl) (λ look p q. (p, q))

  pub ended_behind : {At : List ℕ → Type 0} {xs ys : Look → List Step} {P : Look → Type 0} {fault : LoadFault} → HasRead before mid xs P old m → HasEnded At mid now ys m fault → HasEnded At before now (λ look. xs look ++ ys look) old fault
  ended_behind one two = ended_then one two (λ look p. refl)

-- what the second one comes to, whatever that is
pub reads_then : {T V : Type 0} (failed_at : T → List ℕ → Type 0) (see : T → View) (ys zs : Look → List Step) (Value End : Look → V → Type 0) {before mid : T} (now : T) {old m : Seen} (new : Seen) {xs : Look → List Step} {P : Look → Type 0} (result : Result V LoadFault)
    → HasRead (see before) (see mid) xs P old m → Reads failed_at see mid now ys Value m new result → ((look : Look) → P look → zs look ≡ xs look ++ ys look) → ((look : Look) (v : V) → P look → Value look v → End look v)
    → Reads failed_at see before now zs End old new result
reads_then failed_at see ys zs Value End now new (Ok v) one two steps says = read_then one two (λ look p q. steps look p) (λ look p q. says look v p q)
reads_then failed_at see ys zs Value End now new (Err fault) one two steps says = ended_then one two steps

-- ---- over a list
module _ {X : Type 0} where
  pub next_item : (xs : List X) (i : ℕ) (x : X) → i < length xs → x ≡ get_or xs i x → drop i xs ≡ x ∷ drop (i + 1) xs
  next_item xs i x within is = drop-cons xs i x within ∙ ap (λ y. y ∷ drop (suc i) xs) (sym is) ∙ ap (λ n. x ∷ drop n xs) (sym (add-one i))

  -- behind the last item
  pub all_gone : (xs ys : List X) (i : ℕ) → xs ≡ ys → length xs ≤ i → drop i ys ≡ []
  all_gone xs ys i same past = ap (λ (zs : List X). drop i zs) (sym same) ∙ drop_of_length-le xs past

-- the values so far and those that are left are all
pub more_values : {X Y : Type 0} → (one : X → List Y) (all : List X → List Y) (before new end : List Y) (rest behind : List X) (x : X) →
    ((y : X) (ys : List X) → all (y ∷ ys) ≡ one y ++ all ys) → rest ≡ x ∷ behind → before ++ all rest ≡ end → new ≡ before ++ one x → new ++ all behind ≡ end
more_values one all before new end rest behind x law next so_far is =
    ap (λ ys. ys ++ all behind) is ∙ append_assoc before (one x) (all behind) ∙ sym (ap (λ r. before ++ all r) next ∙ ap (λ ys. before ++ ys) (law x behind)) ∙ so_far

pub last_values : {X Y : Type 0} → (all : List X → List Y) (values end : List Y) (rest : List X) → all [] ≡ [] → rest ≡ [] → values ++ all rest ≡ end → values ≡ end
last_values all values end rest none gone so_far = sym (ap (λ r. values ++ all r) gone ∙ ap (λ ys. values ++ ys) none ∙ append-nil values) ∙ so_far

-- in the middle of a reading: the steps that are left lead to where all steps lead from the start
pub record IsAmid (before now : View) (start old : Seen) (left all : Look → List Step) (Value : Look → Type 0) : Type 0 where
  pub same : now ≡ before
  pub knows : Knows before.told old
  pub rest : IsTold before.told → passed (look_in before.told) old (left (look_in before.told)) ≡ passed (look_in before.told) start (all (look_in before.told))
  pub asked : IsTold before.told → (path : List ℕ) → IsAsked (look_in before.told) old (left (look_in before.told)) path → IsAsked (look_in before.told) start (all (look_in before.told)) path
  pub value : IsTold before.told → Value (look_in before.told)

pub amid_start : {at : View} {start : Seen} {all : Look → List Step} {P : Look → Type 0} → Knows at.told start → ((look : Look) → P look) → IsAmid at at start start all all P
amid_start knows says = record { same = refl; knows = knows; rest = λ t. refl; asked = λ t path is. is; value = λ t. says _ }

module _ {before mid now : View} {start old : Seen} {left one all : Look → List Step} {P : Look → Type 0} where
  pub amid_next : {new : Seen} {behind : Look → List Step} {Q R : Look → Type 0} → IsAmid before mid start old left all P → HasRead mid now one Q old new → ((look : Look) → left look ≡ one look ++ behind look) →
      ((look : Look) → P look → Q look → R look) → IsAmid before now start new behind all R
  amid_next {new = new} {behind = behind} {Q = Q} amid here steps says =
      let more = subst (λ (v : View). HasRead v now one Q old new) amid.same here in
      record {
        same = here.same ∙ amid.same;
        knows = more.knows;
        rest = λ t. sym (ap (passed (look_in before.told) old) (steps _) ∙ passed-append (look_in before.told) old (one (look_in before.told)) (behind (look_in before.told))
            ∙ ap (λ (o : Out). and_then o (λ n. passed (look_in before.told) n (behind (look_in before.told)))) (more.passed t)) ∙ amid.rest t;
        asked = λ t path is. amid.asked t path (asked_as (look_in before.told) old _ _ path (steps _)
            (asked_behind (look_in before.told) old new (one (look_in before.told)) (behind (look_in before.told)) path (more.passed t) is));
        value = λ t. says _ (amid.value t) (more.value t);
      }

  pub amid_ended : {At : List ℕ → Type 0} {fault : LoadFault} (behind : Look → List Step) → IsAmid before mid start old left all P → HasEnded At mid now one old fault → ((look : Look) → left look ≡ one look ++ behind look) → HasEnded At before now all start fault
  amid_ended {At = At} {fault = fault} behind amid here steps =
      let more = subst (λ (v : View). HasEnded At v now one old fault) amid.same here in
      record {
        told = more.told;
        around = more.around;
        later = more.later;
        cause = same_cause before.told before.faults now.faults _ _ fault
            (λ t f is. sym (amid.rest t) ∙ ap (passed (look_in before.told) old) (steps _) ∙ passed-append (look_in before.told) old (one (look_in before.told)) (behind (look_in before.told))
            ∙ ap (λ (o : Out). and_then o (λ n. passed (look_in before.told) n (behind (look_in before.told)))) is) more.cause;
        asked = same_path fault (λ path is t. amid.asked t path (asked_as (look_in before.told) old _ _ path (steps _)
            (asked_first (look_in before.told) old (one (look_in before.told)) (behind (look_in before.told)) path (is t)))) more.asked;
        here = more.here;
      }

pub amid_end : {before now : View} {start old : Seen} {left all : Look → List Step} {P Q : Look → Type 0} → IsAmid before now start old left all P → ((look : Look) → left look ≡ []) →
    ((look : Look) → P look → Q look) → HasRead before now all Q start old
amid_end {before = before} {old = old} amid none says = record {
  same = amid.same;
  knows = amid.knows;
  passed = λ t. sym (amid.rest t) ∙ ap (passed (look_in before.told) old) (none _);
  value = λ t. says _ (amid.value t);
}
