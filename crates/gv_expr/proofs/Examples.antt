-- Values of the definitions, worked by hand.
use Rattle.std.specs.Prelude.{◌≡◌, ℕ, List, [], ◌∷◌, ◌++◌, Option, None, Some, option_map, codes, refl}
use Rattle.std.specs.List.{repeat}
use Rattle.gv_expr.specs.declared.fault.ExprKind.{ExprKind}
use Rattle.gv_expr.specs.declared.fault.ExprKind.TheVariants.{Depth, Stray, NotHere, BadFlag, BadAtom, Unclosed}
use Rattle.gv_expr.specs.Dep.{deps}
use Rattle.gv_expr.specs.Required.{reqs}
use Rattle.gv_expr.specs.Token.{tokens_of}
use Rattle.gv_expr.specs.TokenFaults.{dependency, required_use, first_fault}
use Rattle.gv_expr.specs.DepGrammar.{dep_text}
use Rattle.gv_expr.specs.RequiredGrammar.{req_text}
use Rattle.gv_expr.specs.DepRead.{read_dep}
use Rattle.gv_expr.specs.RequiredRead.{read_required}
use Rattle.gv_expr.specs.Mentions.{mentioned_dep, mentioned_required}

abbrev dep_fault : List ℕ → Option (ℕ × ExprKind)
dep_fault bytes = first_fault dependency (tokens_of bytes)

abbrev req_fault : List ℕ → Option (ℕ × ExprKind)
req_fault bytes = first_fault required_use (tokens_of bytes)

unclosed : dep_fault (codes "( x/y") ≡ Some (3, Unclosed)
unclosed = refl

stray_close : dep_fault (codes "x/y )") ≡ Some (2, Stray)
stray_close = refl

stray_word : dep_fault (codes "|| x/y") ≡ Some (2, Stray)
stray_word = refl

not_here : dep_fault (codes "^^ ( a )") ≡ Some (1, NotHere)
not_here = refl

bad_atom : dep_fault (codes "a? ( x )") ≡ Some (3, BadAtom)
bad_atom = refl

upper_row : dep_fault (codes "|| ^^ (") ≡ Some (2, Stray)
upper_row = refl

bad_flag : dep_fault (codes "x/y[a?") ≡ Some (1, BadFlag)
bad_flag = refl

head_at_end : req_fault (codes "a ??") ≡ Some (3, Unclosed)
head_at_end = refl

bad_leaf : req_fault (codes "!a !!b") ≡ Some (2, BadFlag)
bad_leaf = refl

no_fault : req_fault (codes "^^ ( a !b ) c? ( ?? ( d ) )") ≡ None
no_fault = refl

-- an atom inside of n groups
abbrev nested : ℕ → List ℕ
nested n = repeat n (codes "( ") ++ (codes "x/y" ++ repeat n (codes " )"))

deep : dep_fault (nested 64) ≡ None
deep = refl

too_deep : dep_fault (nested 65) ≡ Some (65, Depth)
too_deep = refl

-- what is read is written again, with one space between the tokens
abbrev dep_again : List ℕ → Option (List ℕ)
dep_again bytes = option_map (λ ts. dep_text (deps ts)) (read_dep bytes)

abbrev req_again : List ℕ → Option (List ℕ)
req_again bytes = option_map (λ ts. req_text (reqs ts)) (read_required bytes)

one_space : dep_again (codes "x/y  a? ( )") ≡ Some (codes "x/y a? ( )")
one_space = refl

nested_groups : dep_again (codes "|| ( ( x/y !a? ( ) ) >=x/z-1 ) ( ) b? ( !x/w )") ≡ Some (codes "|| ( ( x/y !a? ( ) ) >=x/z-1 ) ( ) b? ( !x/w )")
nested_groups = refl

all_groups : req_again (codes "^^ ( a !b ) || ( ) ?? ( ( c ) d? ( e !f? ( g ) ) )") ≡ Some (codes "^^ ( a !b ) || ( ) ?? ( ( c ) d? ( e !f? ( g ) ) )")
all_groups = refl

not_read : read_dep (codes "( x/y") ≡ None
not_read = refl

mentioned_once : option_map (λ ts. mentioned_dep (deps ts)) (read_dep (codes "b? ( x/y[c?,a(-)?,-d,e] ) a? ( !x/z[f?] )"))
    ≡ Some (codes "a" ∷ codes "b" ∷ codes "c" ∷ [])
mentioned_once = refl

mentioned_leaves : option_map (λ ts. mentioned_required (reqs ts)) (read_required (codes "^^ ( b !a ) c? ( b )"))
    ≡ Some (codes "a" ∷ codes "b" ∷ codes "c" ∷ [])
mentioned_leaves = refl
