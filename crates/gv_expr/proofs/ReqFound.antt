-- Tokens without a fault are those of the REQUIRED_USE that is read of them.
use Rattle.std.proofs.Common.{◌≡◌, ℕ, ◌+◌, ◌-◌, ◌<◌, Bool, true, false, List, [], ◌∷◌, ◌++◌, length, Option, Some, None, refl, ap, ◌∙◌, append_assoc, subst, arith}
use Rattle.std.specs.Prelude.{◌&&◌, ◌↔◌, is_none, if◌then◌else◌}
use Rattle.std.specs.List.{list_all}
use Rattle.std.proofs.lemmas.Bool.{and_parts}
use Rattle.gv_version.specs.Names.{is_flag}
use Rattle.gv_expr.specs.declared.token.Token.{Token}
use Rattle.gv_expr.specs.declared.token.Token.TheVariants as tokens
use Rattle.gv_expr.specs.declared.fault.ExprKind.{ExprKind}
use Rattle.gv_expr.specs.declared.fault.ExprKind.TheVariants.{BadFlag}
use Rattle.gv_expr.specs.Laws.{IsReq}
use Rattle.gv_expr.specs.Leaves.{are_flags}
use Rattle.gv_expr.specs.Required.{Req, Reqs, leaf, all, any, one, most, when, end, more, reqs, listed, top}
use Rattle.gv_expr.specs.RequiredGrammar.{req_tokens, IsReqOf}
use Rattle.gv_expr.specs.RequiredRead.{req_groups, with_leaf, with_group, read_required}
use Rattle.gv_expr.specs.TokenFaults.{required_use, fault_from, first_fault}
use Rattle.gv_expr.specs.Token.{is_negated, without_sign, tokens_of}
use Rattle.gv_expr.proofs.Bools.{some_is}
use Rattle.gv_expr.proofs.Faults.{passes, unless_none}
use Rattle.gv_expr.proofs.Groups.{none_behind, only_open, at_end, at_close}
use Rattle.gv_expr.proofs.ReqLaw.{is_of, is_read}
use Rattle.gv_expr.proofs.Signs.{signed_again}

-- the tokens of lists of trees, each but the first inside of the next
abbrev written : List Reqs → List Token
written [] = []
written (g ∷ []) = req_tokens g
written (g ∷ h ∷ gs) = req_tokens g ++ tokens.Close ∷ written (h ∷ gs)

-- lists of trees with these tokens, one more than groups are open
record IsFound (groups : List Reqs) (ts : List Token) (depth : ℕ) : Type 0 where
  many : length groups ≡ depth + 1
  text : written groups ≡ ts
  good : list_all are_flags groups ≡ true

closed : (groups : List Reqs) (ts : List Token) (depth : ℕ) → 0 < depth → IsFound groups ts (depth - 1) → IsFound (end ∷ groups) (tokens.Close ∷ ts) depth
closed [] ts depth some f = let n = f.many in absurd (omega arith)
closed (g ∷ gs) ts depth some f = let n = f.many in record { many = omega arith; text = ap (λ x. tokens.Close ∷ x) f.text; good = f.good }

-- a group before the trees that follow it, behind what stands before its `(`
record IsGroup (make : Reqs → Req) (front : List Token) : Type 0 where
  tokens_are : (items rest : Reqs) → req_tokens (more (make items) rest) ≡ front ++ (req_tokens items ++ tokens.Close ∷ req_tokens rest)
  flags_are : (items rest : Reqs) → are_flags (more (make items) rest) ≡ (are_flags items && are_flags rest)

is_all : IsGroup all (tokens.Open ∷ [])
is_all = record { tokens_are = λ items rest. refl; flags_are = λ items rest. refl }

is_any : IsGroup any (tokens.Any ∷ tokens.Open ∷ [])
is_any = record { tokens_are = λ items rest. refl; flags_are = λ items rest. refl }

is_one : IsGroup one (tokens.One ∷ tokens.Open ∷ [])
is_one = record { tokens_are = λ items rest. refl; flags_are = λ items rest. refl }

is_most : IsGroup most (tokens.Most ∷ tokens.Open ∷ [])
is_most = record { tokens_are = λ items rest. refl; flags_are = λ items rest. refl }

is_when : (flag : List ℕ) (negated : Bool) → IsGroup (when flag negated) (tokens.If flag negated ∷ tokens.Open ∷ [])
is_when flag negated = record { tokens_are = λ items rest. refl; flags_are = λ items rest. refl }

all_good : (a b c : Bool) → (a && (b && c)) ≡ true → ((a && b) && c) ≡ true
all_good true b c h = h
all_good false b c h = h

grouped : (make : Reqs → Req) (front : List Token) → IsGroup make front → (groups : List Reqs) (ts : List Token) (depth : ℕ) → IsFound groups ts (depth + 1)
    → IsFound (with_group make groups) (front ++ ts) depth
grouped make front is [] ts depth f = let n = f.many in absurd (omega arith)
grouped make front is (g ∷ []) ts depth f = let n = f.many in absurd (omega arith)
grouped make front is (items ∷ rest ∷ []) ts depth f =
    let n = f.many in
    record {
      many = omega arith;
      text = is.tokens_are items rest ∙ ap (λ x. front ++ x) f.text;
      good = ap (λ x. x && true) (is.flags_are items rest) ∙ all_good (are_flags items) (are_flags rest) true f.good;
    }
grouped make front is (items ∷ rest ∷ o ∷ os) ts depth f =
    let n = f.many in
    record {
      many = omega arith;
      text = ap (λ x. x ++ tokens.Close ∷ written (o ∷ os)) (is.tokens_are items rest)
          ∙ append_assoc front (req_tokens items ++ tokens.Close ∷ req_tokens rest) (tokens.Close ∷ written (o ∷ os))
          ∙ ap (λ x. front ++ x) (append_assoc (req_tokens items) (tokens.Close ∷ req_tokens rest) (tokens.Close ∷ written (o ∷ os)))
          ∙ ap (λ x. front ++ x) f.text;
      good = ap (λ x. x && list_all are_flags (o ∷ os)) (is.flags_are items rest) ∙ all_good (are_flags items) (are_flags rest) (list_all are_flags (o ∷ os)) f.good;
    }

-- a leaf before the trees that follow it
abbrev leaf_of : List ℕ → Req
leaf_of text = leaf (without_sign text) (is_negated text)

leafed : (text : List ℕ) (groups : List Reqs) (ts : List Token) (depth : ℕ) → is_flag (without_sign text) ≡ true → IsFound groups ts depth
    → IsFound (with_leaf (leaf_of text) groups) (tokens.Word text ∷ ts) depth
leafed text [] ts depth is f = let n = f.many in absurd (omega arith)
leafed text (rest ∷ []) ts depth is f =
    let n = f.many in
    record { many = n; text = ap (λ x. tokens.Word x ∷ req_tokens rest) (signed_again text) ∙ ap (λ x. tokens.Word text ∷ x) f.text; good = rw is f.good }
leafed text (rest ∷ o ∷ os) ts depth is f =
    let n = f.many in
    record {
      many = n;
      text = ap (λ x. tokens.Word x ∷ (req_tokens rest ++ tokens.Close ∷ written (o ∷ os))) (signed_again text) ∙ ap (λ x. tokens.Word text ∷ x) f.text;
      good = rw is f.good;
    }

found : (ts : List Token) (depth k : ℕ) → fault_from required_use false depth k ts ≡ None → IsFound (req_groups ts) ts depth
found [] depth k e = let n = at_end required_use depth k e in record { many = omega arith; text = refl; good = refl }
found (tokens.Close ∷ ts) depth k e =
    let p = passes required_use tokens.Close false depth k ts e in
    closed (req_groups ts) ts depth (at_close required_use depth p.good) (found ts (depth - 1) (k + 1) p.later)
found (tokens.Open ∷ ts) depth k e =
    let p = passes required_use tokens.Open false depth k ts e in
    grouped all (tokens.Open ∷ []) is_all (req_groups ts) ts depth (found ts (depth + 1) (k + 1) p.later)
found (tokens.Any ∷ []) depth k e = absurd (none_behind required_use depth (k + 1) (passes required_use tokens.Any false depth k [] e).later)
found (tokens.Any ∷ tokens.Open ∷ ts) depth k e =
    let p = passes required_use tokens.Any false depth k (tokens.Open ∷ ts) e in
    let q = passes required_use tokens.Open true depth (k + 1) ts p.later in
    grouped any (tokens.Any ∷ tokens.Open ∷ []) is_any (req_groups ts) ts depth (found ts (depth + 1) (k + 1 + 1) q.later)
found (tokens.Any ∷ tokens.Close ∷ ts) depth k e =
    absurd (only_open required_use tokens.Close depth (k + 1) ts refl (passes required_use tokens.Any false depth k (tokens.Close ∷ ts) e).later)
found (tokens.Any ∷ tokens.Any ∷ ts) depth k e =
    absurd (only_open required_use tokens.Any depth (k + 1) ts refl (passes required_use tokens.Any false depth k (tokens.Any ∷ ts) e).later)
found (tokens.Any ∷ tokens.One ∷ ts) depth k e =
    absurd (only_open required_use tokens.One depth (k + 1) ts refl (passes required_use tokens.Any false depth k (tokens.One ∷ ts) e).later)
found (tokens.Any ∷ tokens.Most ∷ ts) depth k e =
    absurd (only_open required_use tokens.Most depth (k + 1) ts refl (passes required_use tokens.Any false depth k (tokens.Most ∷ ts) e).later)
found (tokens.Any ∷ tokens.If f n ∷ ts) depth k e =
    absurd (only_open required_use (tokens.If f n) depth (k + 1) ts refl (passes required_use tokens.Any false depth k (tokens.If f n ∷ ts) e).later)
found (tokens.Any ∷ tokens.Word w ∷ ts) depth k e =
    absurd (only_open required_use (tokens.Word w) depth (k + 1) ts refl (passes required_use tokens.Any false depth k (tokens.Word w ∷ ts) e).later)
found (tokens.One ∷ []) depth k e = absurd (none_behind required_use depth (k + 1) (passes required_use tokens.One false depth k [] e).later)
found (tokens.One ∷ tokens.Open ∷ ts) depth k e =
    let p = passes required_use tokens.One false depth k (tokens.Open ∷ ts) e in
    let q = passes required_use tokens.Open true depth (k + 1) ts p.later in
    grouped one (tokens.One ∷ tokens.Open ∷ []) is_one (req_groups ts) ts depth (found ts (depth + 1) (k + 1 + 1) q.later)
found (tokens.One ∷ tokens.Close ∷ ts) depth k e =
    absurd (only_open required_use tokens.Close depth (k + 1) ts refl (passes required_use tokens.One false depth k (tokens.Close ∷ ts) e).later)
found (tokens.One ∷ tokens.Any ∷ ts) depth k e =
    absurd (only_open required_use tokens.Any depth (k + 1) ts refl (passes required_use tokens.One false depth k (tokens.Any ∷ ts) e).later)
found (tokens.One ∷ tokens.One ∷ ts) depth k e =
    absurd (only_open required_use tokens.One depth (k + 1) ts refl (passes required_use tokens.One false depth k (tokens.One ∷ ts) e).later)
found (tokens.One ∷ tokens.Most ∷ ts) depth k e =
    absurd (only_open required_use tokens.Most depth (k + 1) ts refl (passes required_use tokens.One false depth k (tokens.Most ∷ ts) e).later)
found (tokens.One ∷ tokens.If f n ∷ ts) depth k e =
    absurd (only_open required_use (tokens.If f n) depth (k + 1) ts refl (passes required_use tokens.One false depth k (tokens.If f n ∷ ts) e).later)
found (tokens.One ∷ tokens.Word w ∷ ts) depth k e =
    absurd (only_open required_use (tokens.Word w) depth (k + 1) ts refl (passes required_use tokens.One false depth k (tokens.Word w ∷ ts) e).later)
found (tokens.Most ∷ []) depth k e = absurd (none_behind required_use depth (k + 1) (passes required_use tokens.Most false depth k [] e).later)
found (tokens.Most ∷ tokens.Open ∷ ts) depth k e =
    let p = passes required_use tokens.Most false depth k (tokens.Open ∷ ts) e in
    let q = passes required_use tokens.Open true depth (k + 1) ts p.later in
    grouped most (tokens.Most ∷ tokens.Open ∷ []) is_most (req_groups ts) ts depth (found ts (depth + 1) (k + 1 + 1) q.later)
found (tokens.Most ∷ tokens.Close ∷ ts) depth k e =
    absurd (only_open required_use tokens.Close depth (k + 1) ts refl (passes required_use tokens.Most false depth k (tokens.Close ∷ ts) e).later)
found (tokens.Most ∷ tokens.Any ∷ ts) depth k e =
    absurd (only_open required_use tokens.Any depth (k + 1) ts refl (passes required_use tokens.Most false depth k (tokens.Any ∷ ts) e).later)
found (tokens.Most ∷ tokens.One ∷ ts) depth k e =
    absurd (only_open required_use tokens.One depth (k + 1) ts refl (passes required_use tokens.Most false depth k (tokens.One ∷ ts) e).later)
found (tokens.Most ∷ tokens.Most ∷ ts) depth k e =
    absurd (only_open required_use tokens.Most depth (k + 1) ts refl (passes required_use tokens.Most false depth k (tokens.Most ∷ ts) e).later)
found (tokens.Most ∷ tokens.If f n ∷ ts) depth k e =
    absurd (only_open required_use (tokens.If f n) depth (k + 1) ts refl (passes required_use tokens.Most false depth k (tokens.If f n ∷ ts) e).later)
found (tokens.Most ∷ tokens.Word w ∷ ts) depth k e =
    absurd (only_open required_use (tokens.Word w) depth (k + 1) ts refl (passes required_use tokens.Most false depth k (tokens.Word w ∷ ts) e).later)
found (tokens.If flag negated ∷ []) depth k e = absurd (none_behind required_use depth (k + 1) (passes required_use (tokens.If flag negated) false depth k [] e).later)
found (tokens.If flag negated ∷ tokens.Open ∷ ts) depth k e =
    let p = passes required_use (tokens.If flag negated) false depth k (tokens.Open ∷ ts) e in
    let q = passes required_use tokens.Open true depth (k + 1) ts p.later in
    grouped (when flag negated) (tokens.If flag negated ∷ tokens.Open ∷ []) (is_when flag negated) (req_groups ts) ts depth (found ts (depth + 1) (k + 1 + 1) q.later)
found (tokens.If flag negated ∷ tokens.Close ∷ ts) depth k e =
    absurd (only_open required_use tokens.Close depth (k + 1) ts refl (passes required_use (tokens.If flag negated) false depth k (tokens.Close ∷ ts) e).later)
found (tokens.If flag negated ∷ tokens.Any ∷ ts) depth k e =
    absurd (only_open required_use tokens.Any depth (k + 1) ts refl (passes required_use (tokens.If flag negated) false depth k (tokens.Any ∷ ts) e).later)
found (tokens.If flag negated ∷ tokens.One ∷ ts) depth k e =
    absurd (only_open required_use tokens.One depth (k + 1) ts refl (passes required_use (tokens.If flag negated) false depth k (tokens.One ∷ ts) e).later)
found (tokens.If flag negated ∷ tokens.Most ∷ ts) depth k e =
    absurd (only_open required_use tokens.Most depth (k + 1) ts refl (passes required_use (tokens.If flag negated) false depth k (tokens.Most ∷ ts) e).later)
found (tokens.If flag negated ∷ tokens.If f n ∷ ts) depth k e =
    absurd (only_open required_use (tokens.If f n) depth (k + 1) ts refl (passes required_use (tokens.If flag negated) false depth k (tokens.If f n ∷ ts) e).later)
found (tokens.If flag negated ∷ tokens.Word w ∷ ts) depth k e =
    absurd (only_open required_use (tokens.Word w) depth (k + 1) ts refl (passes required_use (tokens.If flag negated) false depth k (tokens.Word w ∷ ts) e).later)
found (tokens.Word text ∷ ts) depth k e =
    let p = passes required_use (tokens.Word text) false depth k ts e in
    leafed text (req_groups ts) ts depth (unless_none (is_flag (without_sign text)) BadFlag p.good) (found ts depth (k + 1) p.later)

-- The trees of one list are listed.
reqs-listed : (ts : Reqs) → reqs (listed ts) ≡ ts
reqs-listed end = refl
reqs-listed (more t ts) = ap (more t) (reqs-listed ts)

one_list : (groups : List Reqs) (ts : List Token) → IsFound groups ts 0 → (req_tokens (reqs (listed (top groups))) ≡ ts) × (are_flags (reqs (listed (top groups))) ≡ true)
one_list [] ts f = let n = f.many in absurd (omega arith)
one_list (g ∷ []) ts f = (ap req_tokens (reqs-listed g) ∙ f.text, ap are_flags (reqs-listed g) ∙ (and_parts (are_flags g) true f.good).0)
one_list (g ∷ h ∷ gs) ts f = let n = f.many in absurd (omega arith)

no_fault_is : (bytes : List ℕ) → first_fault required_use (tokens_of bytes) ≡ None → IsReqOf bytes (listed (top (req_groups (tokens_of bytes))))
no_fault_is bytes e =
    let h = one_list (req_groups (tokens_of bytes)) (tokens_of bytes) (found (tokens_of bytes) 0 1 e) in
    is_of bytes (listed (top (req_groups (tokens_of bytes)))) h.0 h.1 e

-- The law, both ways.
fault_none : (bytes : List ℕ) (ts : List Req) (o : Option (ℕ × ExprKind)) → (if is_none o then Some (listed (top (req_groups (tokens_of bytes)))) else None) ≡ Some ts → o ≡ None
fault_none bytes ts None e = refl
fault_none bytes ts (Some f) e = cc

is_of_read : (bytes : List ℕ) (ts : List Req) → read_required bytes ≡ Some ts → IsReqOf bytes ts
is_of_read bytes ts e =
    let none = fault_none bytes ts (first_fault required_use (tokens_of bytes)) e in
    let same : listed (top (req_groups (tokens_of bytes))) ≡ ts =
    some_is (listed (top (req_groups (tokens_of bytes)))) ts (read_required bytes) (rw none refl) e in
    subst (IsReqOf bytes) same (no_fault_is bytes none)

pub read_both : (bytes : List ℕ) (ts : List Req) → (read_required bytes ≡ Some ts) ↔ IsReqOf bytes ts
read_both bytes ts = (is_of_read bytes ts, is_read bytes ts)

pub fault_both : (bytes : List ℕ) → (first_fault required_use (tokens_of bytes) ≡ None) ↔ IsReq bytes
fault_both bytes = (λ e. (listed (top (req_groups (tokens_of bytes))), no_fault_is bytes e), λ is. fault_none bytes is.0 (first_fault required_use (tokens_of bytes)) (is_read bytes is.0 is.1))
