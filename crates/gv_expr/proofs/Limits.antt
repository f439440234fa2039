-- What is written of good trees within the limits has no fault, in any language.
use Rattle.std.proofs.Common.{◌≡◌, ℕ, ◌+◌, ◌-◌, ◌<◌, ◌≤◌, Bool, true, false, nat_lt, nat_eq, List, [], ◌∷◌, ◌++◌, length, None, refl, ap, sym, ◌∙◌, append_assoc, add-zero, append-nil, length-append, arith}
use Rattle.std.proofs.lemmas.Grind.{common_steps}
use Rattle.gv_expr.specs.declared.token.Token.{Token}
use Rattle.gv_expr.specs.declared.token.Token.TheVariants.{Open, Close}
use Rattle.gv_expr.specs.TokenFaults.{Language, is_head, depth_after, fault_of, fault_from, first_fault}
use Rattle.gv_expr.proofs.Faults.{behind_token, group, IsGroup}

few_number : (k : ℕ) → k ≤ 100000 → nat_lt 100000 k ≡ false
few_number k h = grind (arith, common_steps)

shallow_depth : (d : ℕ) → d < 64 → nat_lt d 64 ≡ true
shallow_depth d h = grind (arith, common_steps)

not_zero : (d : ℕ) → nat_eq (d + 1) 0 ≡ false
not_zero d = grind (arith, common_steps)

one_more : (l : Language) (t : Token) (head : Bool) (depth k : ℕ) (ts : List Token) → k ≤ 100000 → fault_of l t head depth ≡ None → fault_from l head depth k (t ∷ ts) ≡ fault_from l (is_head t) (depth_after t depth) (k + 1) ts
one_more l t head depth k ts few good = let h = few_number k few in rw (h, good) refl

unfoldable pub Fits : Language → List Token → (ℕ → Type 0) → Type 0
Fits l ts good = (rest : List Token) (depth k : ℕ) → good depth → k + length ts ≤ 100001 → fault_from l false depth k (ts ++ rest) ≡ fault_from l false depth (k + length ts) rest

pub none_fits : (l : Language) → Fits l [] (λ depth. Unit {0})
unfolding Fits
none_fits l rest depth k good few = rw add-zero refl

pub leaf_fits : (l : Language) (t : Token) (ts : List Token) (one : Type 0) (more : ℕ → Type 0) → is_head t ≡ false → ((n : ℕ) → depth_after t n ≡ n)
    → ((depth : ℕ) → one → fault_of l t false depth ≡ None) → Fits l ts more → Fits l (t ∷ ts) (λ depth. one × more depth)
unfolding Fits
leaf_fits l t ts one more h d good of_ts rest depth k is few =
    let n : k + 1 + length ts ≡ k + length (t ∷ ts) = omega arith in
    one_more l t false depth k (ts ++ rest) (omega arith) (good depth is.0)
    ∙ behind_token l t false depth (k + 1) (ts ++ rest) h (d depth)
    ∙ of_ts rest depth (k + 1) is.1 (omega arith)
    ∙ ap (λ x. fault_from l false depth x rest) n

grouped_fits : (l : Language) (items ts : List Token) (inside behind : ℕ → Type 0) → Fits l items inside → Fits l ts behind → (head : Bool) (rest : List Token) (depth k : ℕ)
    → IsGroup inside behind depth → k + length (group items ts) ≤ 100001 → fault_from l head depth k (group items ts ++ rest) ≡ fault_from l false depth (k + length (group items ts)) rest
unfolding Fits
grouped_fits l items ts inside behind of_items of_ts head rest depth k is few =
    let m : length (items ++ Close ∷ ts) ≡ length items + length (Close ∷ ts) = length-append items (Close ∷ ts) in
    let n : k + 1 + length items + 1 + length ts ≡ k + length (group items ts) = omega arith in
    let back : depth + 1 - 1 ≡ depth = omega arith in
    let good : fault_of l Open head depth ≡ None = let h = shallow_depth depth is.0 in rw h refl in
    let good' : fault_of l Close false (depth + 1) ≡ None = let h = not_zero depth in rw h refl in
    one_more l Open head depth k _ (omega arith) good
    ∙ ap (λ x. fault_from l false (depth + 1) (k + 1) x) (append_assoc items (Close ∷ ts) rest)
    ∙ of_items (Close ∷ (ts ++ rest)) (depth + 1) (k + 1) is.1 (omega arith)
    ∙ one_more l Close false (depth + 1) (k + 1 + length items) _ (omega arith) good'
    ∙ ap (λ x. fault_from l false x (k + 1 + length items + 1) (ts ++ rest)) back
    ∙ of_ts rest depth (k + 1 + length items + 1) is.2 (omega arith)
    ∙ ap (λ x. fault_from l false depth x rest) n

pub group_fits : (l : Language) (items ts : List Token) (inside behind : ℕ → Type 0) → Fits l items inside → Fits l ts behind → Fits l (group items ts) (IsGroup inside behind)
unfolding Fits
group_fits l items ts inside behind of_items of_ts rest depth k is few = grouped_fits l items ts inside behind of_items of_ts false rest depth k is few

pub head_fits : (l : Language) (t : Token) (items ts : List Token) (inside behind whole : ℕ → Type 0) → is_head t ≡ true → ((n : ℕ) → depth_after t n ≡ n)
    → ((depth : ℕ) → whole depth → fault_of l t false depth ≡ None) → ((depth : ℕ) → whole depth → IsGroup inside behind depth)
    → Fits l items inside → Fits l ts behind → Fits l (t ∷ group items ts) whole
unfolding Fits
head_fits l t items ts inside behind whole h d good parts of_items of_ts rest depth k is few =
    let n : k + 1 + length (group items ts) ≡ k + length (t ∷ group items ts) = omega arith in
    one_more l t false depth k (group items ts ++ rest) (omega arith) (good depth is)
    ∙ behind_token l t true depth (k + 1) (group items ts ++ rest) h (d depth)
    ∙ grouped_fits l items ts inside behind of_items of_ts true rest depth (k + 1) (parts depth is) (omega arith)
    ∙ ap (λ x. fault_from l false depth x rest) n

pub has_no_fault : (l : Language) (ts : List Token) (good : ℕ → Type 0) → Fits l ts good → good 0 → length ts ≤ 100000 → first_fault l ts ≡ None
unfolding Fits
has_no_fault l ts good of_ts is few = ap (first_fault l) (sym (append-nil ts)) ∙ of_ts [] 0 1 is (omega arith)
