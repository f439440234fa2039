-- Tokens without a fault are those of the dependency that is read of them.
use Rattle.std.proofs.Common.{◌≡◌, ℕ, ◌+◌, ◌-◌, ◌<◌, Bool, true, false, List, [], ◌∷◌, ◌++◌, length, Option, Some, None, refl, ap, ◌∙◌, append_assoc, subst, arith}
use Rattle.std.specs.Prelude.{◌&&◌, ◌↔◌, is_none, if◌then◌else◌}
use Rattle.std.specs.List.{list_all}
use Rattle.std.proofs.lemmas.Bool.{and_parts}
use Rattle.gv_atom.specs.declared.atom.Atom.{Atom}
use Rattle.gv_atom.specs.Reading.{Fault, atom_fault, read_atom}
use Rattle.gv_atom.specs.Grammar.{atom_text, is_atom}
use Rattle.gv_atom.specs.Laws.{IsRead}
use Rattle.gv_expr.specs.declared.token.Token.{Token}
use Rattle.gv_expr.specs.declared.token.Token.TheVariants as tokens
use Rattle.gv_expr.specs.declared.fault.ExprKind.{ExprKind}
use Rattle.gv_expr.specs.declared.fault.ExprKind.TheVariants.{BadAtom, NotHere}
use Rattle.gv_expr.specs.Dep.{Dep, Deps, all, any, when, end, more, deps, listed, top}
use Rattle.gv_expr.specs.DepGrammar.{dep_tokens, IsDepOf}
use Rattle.gv_expr.specs.DepRead.{dep_groups, with_leaf, with_group, read_dep}
use Rattle.gv_expr.specs.Laws.{IsDep}
use Rattle.gv_expr.specs.Leaves.{are_atoms}
use Rattle.gv_expr.specs.TokenFaults.{dependency, fault_from, first_fault}
use Rattle.gv_expr.specs.Token.{tokens_of}
use Rattle.gv_expr.proofs.Bools.{some_is}
use Rattle.gv_expr.proofs.DepFaults.{AreWritten}
use Rattle.gv_expr.proofs.DepLaw.{is_of, is_read}
use Rattle.gv_expr.proofs.Faults.{passes, unless_none}
use Rattle.gv_expr.proofs.Groups.{none_behind, only_open, at_end, at_close}

-- the tokens of lists of trees, each but the first inside of the next
abbrev written : List Deps → List Token
written [] = []
written (g ∷ []) = dep_tokens g
written (g ∷ h ∷ gs) = dep_tokens g ++ tokens.Close ∷ written (h ∷ gs)

-- lists of trees with these tokens, one more than groups are open
record IsFound (groups : List Deps) (ts : List Token) (depth : ℕ) : Type 0 where
  many : length groups ≡ depth + 1
  text : written groups ≡ ts
  good : list_all are_atoms groups ≡ true

closed : (groups : List Deps) (ts : List Token) (depth : ℕ) → 0 < depth → IsFound groups ts (depth - 1) → IsFound (end ∷ groups) (tokens.Close ∷ ts) depth
closed [] ts depth some f = let n = f.many in absurd (omega arith)
closed (g ∷ gs) ts depth some f = let n = f.many in record { many = omega arith; text = ap (λ x. tokens.Close ∷ x) f.text; good = f.good }

-- a group before the trees that follow it, behind what stands before its `(`
record IsGroup (make : Deps → Dep) (front : List Token) : Type 0 where
  tokens_are : (items rest : Deps) → dep_tokens (more (make items) rest) ≡ front ++ (dep_tokens items ++ tokens.Close ∷ dep_tokens rest)
  atoms_are : (items rest : Deps) → are_atoms (more (make items) rest) ≡ (are_atoms items && are_atoms rest)

is_all : IsGroup all (tokens.Open ∷ [])
is_all = record { tokens_are = λ items rest. refl; atoms_are = λ items rest. refl }

is_any : IsGroup any (tokens.Any ∷ tokens.Open ∷ [])
is_any = record { tokens_are = λ items rest. refl; atoms_are = λ items rest. refl }

is_when : (flag : List ℕ) (negated : Bool) → IsGroup (when flag negated) (tokens.If flag negated ∷ tokens.Open ∷ [])
is_when flag negated = record { tokens_are = λ items rest. refl; atoms_are = λ items rest. refl }

all_good : (a b c : Bool) → (a && (b && c)) ≡ true → ((a && b) && c) ≡ true
all_good true b c h = h
all_good false b c h = h

grouped : (make : Deps → Dep) (front : List Token) → IsGroup make front → (groups : List Deps) (ts : List Token) (depth : ℕ) → IsFound groups ts (depth + 1)
    → IsFound (with_group make groups) (front ++ ts) depth
grouped make front is [] ts depth f = let n = f.many in absurd (omega arith)
grouped make front is (g ∷ []) ts depth f = let n = f.many in absurd (omega arith)
grouped make front is (items ∷ rest ∷ []) ts depth f =
    let n = f.many in
    record {
      many = omega arith;
      text = is.tokens_are items rest ∙ ap (λ x. front ++ x) f.text;
      good = ap (λ x. x && true) (is.atoms_are items rest) ∙ all_good (are_atoms items) (are_atoms rest) true f.good;
    }
grouped make front is (items ∷ rest ∷ o ∷ os) ts depth f =
    let n = f.many in
    record {
      many = omega arith;
      text = ap (λ x. x ++ tokens.Close ∷ written (o ∷ os)) (is.tokens_are items rest)
          ∙ append_assoc front (dep_tokens items ++ tokens.Close ∷ dep_tokens rest) (tokens.Close ∷ written (o ∷ os))
          ∙ ap (λ x. front ++ x) (append_assoc (dep_tokens items) (tokens.Close ∷ dep_tokens rest) (tokens.Close ∷ written (o ∷ os)))
          ∙ ap (λ x. front ++ x) f.text;
      good = ap (λ x. x && list_all are_atoms (o ∷ os)) (is.atoms_are items rest) ∙ all_good (are_atoms items) (are_atoms rest) (list_all are_atoms (o ∷ os)) f.good;
    }

-- a leaf before the trees that follow it
leafed : (text : List ℕ) (atom : Atom) (groups : List Deps) (ts : List Token) (depth : ℕ) → read_atom text ≡ Some atom → atom_text atom ≡ text → is_atom atom ≡ true
    → IsFound groups ts depth → IsFound (with_leaf (read_atom text) groups) (tokens.Word text ∷ ts) depth
leafed text atom [] ts depth read same is f = let n = f.many in absurd (omega arith)
leafed text atom (rest ∷ []) ts depth read same is f =
    let n = f.many in
    rw read (record { many = n; text = ap (λ x. tokens.Word x ∷ dep_tokens rest) same ∙ ap (λ x. tokens.Word text ∷ x) f.text; good = rw is f.good })
leafed text atom (rest ∷ o ∷ os) ts depth read same is f =
    let n = f.many in
    rw read (record { many = n; text = ap (λ x. tokens.Word x ∷ (dep_tokens rest ++ tokens.Close ∷ written (o ∷ os))) same ∙ ap (λ x. tokens.Word text ∷ x) f.text; good = rw is f.good })

-- each text without a fault is read as an atom whose text it is
abbrev pub AreRead : Type 0
AreRead = (bytes : List ℕ) → atom_fault bytes ≡ None → IsRead bytes

no_fault_of : (o : Option Fault) → is_none o ≡ true → o ≡ None
no_fault_of None e = refl
no_fault_of (Some f) e = cc

found : AreRead → (ts : List Token) (depth k : ℕ) → fault_from dependency false depth k ts ≡ None → IsFound (dep_groups ts) ts depth
found law [] depth k e = let n = at_end dependency depth k e in record { many = omega arith; text = refl; good = refl }
found law (tokens.Close ∷ ts) depth k e =
    let p = passes dependency tokens.Close false depth k ts e in
    closed (dep_groups ts) ts depth (at_close dependency depth p.good) (found law ts (depth - 1) (k + 1) p.later)
found law (tokens.Open ∷ ts) depth k e =
    let p = passes dependency tokens.Open false depth k ts e in
    grouped all (tokens.Open ∷ []) is_all (dep_groups ts) ts depth (found law ts (depth + 1) (k + 1) p.later)
found law (tokens.Any ∷ []) depth k e = absurd (none_behind dependency depth (k + 1) (passes dependency tokens.Any false depth k [] e).later)
found law (tokens.Any ∷ tokens.Open ∷ ts) depth k e =
    let p = passes dependency tokens.Any false depth k (tokens.Open ∷ ts) e in
    let q = passes dependency tokens.Open true depth (k + 1) ts p.later in
    grouped any (tokens.Any ∷ tokens.Open ∷ []) is_any (dep_groups ts) ts depth (found law ts (depth + 1) (k + 1 + 1) q.later)
found law (tokens.Any ∷ tokens.Close ∷ ts) depth k e = absurd (only_open dependency tokens.Close depth (k + 1) ts refl (passes dependency tokens.Any false depth k (tokens.Close ∷ ts) e).later)
found law (tokens.Any ∷ tokens.Any ∷ ts) depth k e = absurd (only_open dependency tokens.Any depth (k + 1) ts refl (passes dependency tokens.Any false depth k (tokens.Any ∷ ts) e).later)
found law (tokens.Any ∷ tokens.One ∷ ts) depth k e = absurd (only_open dependency tokens.One depth (k + 1) ts refl (passes dependency tokens.Any false depth k (tokens.One ∷ ts) e).later)
found law (tokens.Any ∷ tokens.Most ∷ ts) depth k e = absurd (only_open dependency tokens.Most depth (k + 1) ts refl (passes dependency tokens.Any false depth k (tokens.Most ∷ ts) e).later)
found law (tokens.Any ∷ tokens.If f n ∷ ts) depth k e = absurd (only_open dependency (tokens.If f n) depth (k + 1) ts refl (passes dependency tokens.Any false depth k (tokens.If f n ∷ ts) e).later)
found law (tokens.Any ∷ tokens.Word w ∷ ts) depth k e = absurd (only_open dependency (tokens.Word w) depth (k + 1) ts refl (passes dependency tokens.Any false depth k (tokens.Word w ∷ ts) e).later)
found law (tokens.One ∷ ts) depth k e = absurd (not_here (passes dependency tokens.One false depth k ts e).good)
  where
    not_here : Some NotHere ≡ None → ⊥
    not_here h = cc
found law (tokens.Most ∷ ts) depth k e = absurd (not_here (passes dependency tokens.Most false depth k ts e).good)
  where
    not_here : Some NotHere ≡ None → ⊥
    not_here h = cc
found law (tokens.If flag negated ∷ []) depth k e = absurd (none_behind dependency depth (k + 1) (passes dependency (tokens.If flag negated) false depth k [] e).later)
found law (tokens.If flag negated ∷ tokens.Open ∷ ts) depth k e =
    let p = passes dependency (tokens.If flag negated) false depth k (tokens.Open ∷ ts) e in
    let q = passes dependency tokens.Open true depth (k + 1) ts p.later in
    grouped (when flag negated) (tokens.If flag negated ∷ tokens.Open ∷ []) (is_when flag negated) (dep_groups ts) ts depth (found law ts (depth + 1) (k + 1 + 1) q.later)
found law (tokens.If flag negated ∷ tokens.Close ∷ ts) depth k e =
    absurd (only_open dependency tokens.Close depth (k + 1) ts refl (passes dependency (tokens.If flag negated) false depth k (tokens.Close ∷ ts) e).later)
found law (tokens.If flag negated ∷ tokens.Any ∷ ts) depth k e =
    absurd (only_open dependency tokens.Any depth (k + 1) ts refl (passes dependency (tokens.If flag negated) false depth k (tokens.Any ∷ ts) e).later)
found law (tokens.If flag negated ∷ tokens.One ∷ ts) depth k e =
    absurd (only_open dependency tokens.One depth (k + 1) ts refl (passes dependency (tokens.If flag negated) false depth k (tokens.One ∷ ts) e).later)
found law (tokens.If flag negated ∷ tokens.Most ∷ ts) depth k e =
    absurd (only_open dependency tokens.Most depth (k + 1) ts refl (passes dependency (tokens.If flag negated) false depth k (tokens.Most ∷ ts) e).later)
found law (tokens.If flag negated ∷ tokens.If f n ∷ ts) depth k e =
    absurd (only_open dependency (tokens.If f n) depth (k + 1) ts refl (passes dependency (tokens.If flag negated) false depth k (tokens.If f n ∷ ts) e).later)
found law (tokens.If flag negated ∷ tokens.Word w ∷ ts) depth k e =
    absurd (only_open dependency (tokens.Word w) depth (k + 1) ts refl (passes dependency (tokens.If flag negated) false depth k (tokens.Word w ∷ ts) e).later)
found law (tokens.Word text ∷ ts) depth k e =
    let p = passes dependency (tokens.Word text) false depth k ts e in
    let r = law text (no_fault_of (atom_fault text) (unless_none (is_none (atom_fault text)) BadAtom p.good)) in
    leafed text r.atom (dep_groups ts) ts depth r.read r.of.written r.of.good (found law ts depth (k + 1) p.later)

-- The trees of one list are listed.
deps-listed : (ts : Deps) → deps (listed ts) ≡ ts
deps-listed end = refl
deps-listed (more t ts) = ap (more t) (deps-listed ts)

one_list : (groups : List Deps) (ts : List Token) → IsFound groups ts 0 → (dep_tokens (deps (listed (top groups))) ≡ ts) × (are_atoms (deps (listed (top groups))) ≡ true)
one_list [] ts f = let n = f.many in absurd (omega arith)
one_list (g ∷ []) ts f = (ap dep_tokens (deps-listed g) ∙ f.text, ap are_atoms (deps-listed g) ∙ (and_parts (are_atoms g) true f.good).0)
one_list (g ∷ h ∷ gs) ts f = let n = f.many in absurd (omega arith)

no_fault_is : AreRead → (bytes : List ℕ) → first_fault dependency (tokens_of bytes) ≡ None → IsDepOf bytes (listed (top (dep_groups (tokens_of bytes))))
no_fault_is law bytes e =
    let h = one_list (dep_groups (tokens_of bytes)) (tokens_of bytes) (found law (tokens_of bytes) 0 1 e) in
    is_of bytes (listed (top (dep_groups (tokens_of bytes)))) h.0 h.1 e

-- The law, both ways.
fault_none : (bytes : List ℕ) (ts : List Dep) (o : Option (ℕ × ExprKind)) → (if is_none o then Some (listed (top (dep_groups (tokens_of bytes)))) else None) ≡ Some ts → o ≡ None
fault_none bytes ts None e = refl
fault_none bytes ts (Some f) e = cc

is_of_read : AreRead → (bytes : List ℕ) (ts : List Dep) → read_dep bytes ≡ Some ts → IsDepOf bytes ts
is_of_read law bytes ts e =
    let none = fault_none bytes ts (first_fault dependency (tokens_of bytes)) e in
    let same : listed (top (dep_groups (tokens_of bytes))) ≡ ts =
    some_is (listed (top (dep_groups (tokens_of bytes)))) ts (read_dep bytes) (rw none refl) e in
    subst (IsDepOf bytes) same (no_fault_is law bytes none)

pub read_both : AreRead → AreWritten → (bytes : List ℕ) (ts : List Dep) → (read_dep bytes ≡ Some ts) ↔ IsDepOf bytes ts
read_both law written bytes ts = (is_of_read law bytes ts, is_read written bytes ts)

pub fault_both : AreRead → AreWritten → (bytes : List ℕ) → (first_fault dependency (tokens_of bytes) ≡ None) ↔ IsDep bytes
fault_both law written bytes = (λ e. (listed (top (dep_groups (tokens_of bytes))), no_fault_is law bytes e), λ is. fault_none bytes is.0 (first_fault dependency (tokens_of bytes)) (is_read written bytes is.0 is.1))
