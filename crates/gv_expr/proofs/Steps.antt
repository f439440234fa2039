-- What each step of the reader does to the tokens that its fields stand for, where `written` has those of trees.
use Rattle.std.proofs.Common.{◌≡◌, ℕ, Bool, false, List, [], ◌∷◌, ◌++◌, refl, append_assoc, append-nil, length-append, arith}
use Rattle.gv_expr.specs.declared.token.Token.{Token}
use Rattle.gv_expr.specs.declared.token.Token.TheVariants.{Open, Close}
use Rattle.gv_expr.specs.declared.grammar.Head.{Head}
use Rattle.gv_expr.specs.declared.grammar.Head.TheVariants as heads
use Rattle.gv_expr.specs.declared.open_groups.Group.{Group}
use Rattle.gv_expr.specs.OpenGroups.{State, after, is_there, head_tokens, stack_tokens, state_of}

stack_tokens-append : {E : Type 0} (written : E → List Token) (a b : List (Group E)) → stack_tokens written (a ++ b) ≡ stack_tokens written a ++ stack_tokens written b
stack_tokens-append written [] b = refl
stack_tokens-append written (g ∷ gs) b = let h = stack_tokens-append written gs b in simp (h, append_assoc)

same_state : {t t' : List Token} {h h' : Bool} {d d' : ℕ} → t ≡ t' → h ≡ h' → d ≡ d' → ◌≡◌ {A = State} (record { text = t; head = h; depth = d }) (record { text = t'; head = h'; depth = d' })
same_state t h d = cc

pub opened : {E : Type 0} (written : E → List Token) (stack stack' : List (Group E)) (items none : E) (head : Head)
    → stack' ≡ stack ++ record { before = items; head = head } ∷ [] → written none ≡ []
    → state_of written stack' none heads.Nothing ≡ after (state_of written stack items head) Open
opened written stack stack' items none head e n = rw (e, n) (same_state (simp (stack_tokens-append, append_assoc, append-nil)) refl (simp (length-append)))

pub shut : {E : Type 0} (written : E → List Token) (stack stack' : List (Group E)) (items items' : E) (head : Head) (g : Group E)
    → is_there head ≡ false → stack ≡ stack' ++ g ∷ [] → written items' ≡ written g.before ++ (head_tokens g.head ++ Open ∷ (written items ++ Close ∷ []))
    → state_of written stack' items' head ≡ after (state_of written stack items head) Close
shut written stack stack' items items' heads.Nothing g h s e = rw (s, e) (same_state (simp (stack_tokens-append, append_assoc, append-nil)) refl (simp length-append (omega arith)))
shut written stack stack' items items' heads.Any g h s e = cc
shut written stack stack' items items' heads.One g h s e = cc
shut written stack stack' items items' heads.Most g h s e = cc
shut written stack stack' items items' (heads.If f n) g h s e = cc
