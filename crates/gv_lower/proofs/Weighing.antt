-- Sums that are told up to the last number.
use Rattle.std.proofs.Common.{◌≡◌, ℕ, suc, ◌+◌, ◌<◌, Bool, ◌&&◌, List, [], ◌∷◌, ◌++◌, length, drop, filter, drop-cons, get_or, add-one, refl, sym, ap, ◌∙◌, length-append, arith}
use Rattle.std.specs.Prelude.{sum_by}
use Rattle.std.proofs.lemmas.List.Sums.{sum_by-append, sum_by-cons}
use Rattle.gv_atom.specs.declared.atom.Atom.{Atom}
use Rattle.gv_atom.specs.declared.atom.Block.{Block}
use Rattle.gv_atom.specs.declared.atom.Block.TheVariants.{No, Weak, Strong}
use Rattle.gv_expr.specs.Dep as dep
use Rattle.gv_expr.specs.Dep.{Dep, Deps, deps}
use Rattle.gv_expr.specs.DepGrammar.{dep_tokens}
use Rattle.gv_expr.specs.DepView as dep_view
use Rattle.gv_expr.specs.DepView.{dep_of}
use Rattle.gv_expr.specs.declared.dep.DepTree.{DepTree}
use Rattle.gv_expr.specs.Mentions.{wanted_atoms, with_atom}
use Rattle.gv_expr.specs.Required as req
use Rattle.gv_expr.specs.Required.{Req, Reqs, reqs}
use Rattle.gv_expr.specs.RequiredGrammar.{req_tokens}
use Rattle.gv_expr.specs.RequiredView as req_view
use Rattle.gv_expr.specs.RequiredView.{req_of}
use Rattle.gv_expr.specs.declared.required.UseTree.{UseTree}
use Rattle.gv_expr.specs.declared.token.Token.TheVariants as tokens
use Rattle.gv_entry.specs.Allowed.{Parent}
use Rattle.std.proofs.Math.Bool.{and_comm}
use Rattle.std.proofs.Math.Path.{fun_ext}
use Rattle.gv_facts.specs.declared.kinds.Level.{Level}
use Rattle.gv_facts.specs.declared.pkg.Pkg.{Pkg}
use Rattle.gv_facts.specs.declared.profile.Profile.{Profile}
use Rattle.gv_facts.specs.Visible.{matches_pkg, visible}
use Rattle.gv_visible.specs.VisiblePkgs.{shows}
use Rattle.gv_visible.specs.Candidates.{Candidates, level_of, pkgs_of, profile_of}
use Rattle.gv_lower.specs.Around.{parent_of}
use Rattle.gv_lower.specs.Weigh.{capped, class_weight, packages_weight}
use Rattle.gv_lower.specs.declared.weigh.Counted.{Counted}
use Rattle.gv_lower.specs.declared.weigh.Counted.TheVariants.{Shown}

-- what is left leads to the same end
pub record SumsOn (total left whole : ℕ) : Type 0 where
  pub so_far : ℕ
  pub is : total ≡ capped so_far
  pub sum : so_far + left ≡ whole

pub sums_first : (whole : ℕ) → SumsOn 0 whole whole
sums_first whole = record { so_far = 0; is = refl; sum = omega arith }

pub sums_next : (total one after x left rest whole : ℕ) → SumsOn total left whole → one ≡ capped x → left ≡ x + rest
    → ((a b : ℕ) → total ≡ capped a → one ≡ capped b → after ≡ capped (a + b)) → SumsOn after rest whole
sums_next total one after x left rest whole on is split plus = record { so_far = on.so_far + x; is = plus on.so_far x on.is is; sum = omega (arith, on.sum, split) }

pub sums_last : (total left whole : ℕ) → left ≡ 0 → SumsOn total left whole → total ≡ capped whole
sums_last total left whole none on = let e : on.so_far ≡ whole = omega (arith, on.sum, none) in on.is ∙ ap capped e

-- A tree before others.
pub req_split : (t : Req) (rest : Reqs) → length (req_tokens (req.more t rest)) ≡ length (req_tokens (req.more t req.end)) + length (req_tokens rest)
req_split (req.leaf flag negated) rest = omega arith
req_split (req.all items) rest = omega (arith, length-append (req_tokens items) (tokens.Close ∷ req_tokens rest), length-append (req_tokens items) (tokens.Close ∷ []))
req_split (req.any items) rest = omega (arith, length-append (req_tokens items) (tokens.Close ∷ req_tokens rest), length-append (req_tokens items) (tokens.Close ∷ []))
req_split (req.one items) rest = omega (arith, length-append (req_tokens items) (tokens.Close ∷ req_tokens rest), length-append (req_tokens items) (tokens.Close ∷ []))
req_split (req.most items) rest = omega (arith, length-append (req_tokens items) (tokens.Close ∷ req_tokens rest), length-append (req_tokens items) (tokens.Close ∷ []))
req_split (req.when flag negated items) rest = omega (arith, length-append (req_tokens items) (tokens.Close ∷ req_tokens rest), length-append (req_tokens items) (tokens.Close ∷ []))

pub req_next : (ts : List UseTree) (i : ℕ) (t : UseTree) → i < length ts → t ≡ get_or ts i t
    → length (req_tokens (reqs (req_view.view_of (drop i ts)))) ≡ length (req_tokens (req.more (req_of t) req.end)) + length (req_tokens (reqs (req_view.view_of (drop (i + 1) ts))))
req_next ts i t lt here =
    let at : drop i ts ≡ t ∷ drop (i + 1) ts = rw add-one (drop-cons ts i t lt ∙ ap (λ x. x ∷ drop (suc i) ts) (sym here)) in
    ap (λ xs. length (req_tokens (reqs (req_view.view_of xs)))) at ∙ req_split (req_of t) (reqs (req_view.view_of (drop (i + 1) ts)))

pub req_group : (items : Reqs) → length (req_tokens items ++ tokens.Close ∷ []) ≡ length (req_tokens items) + 1
req_group items = length-append (req_tokens items) (tokens.Close ∷ []) ∙ omega arith

module _ (counted : Counted) (c : Parent) where
  with_weight : (a : Atom) (block : Block) (xs rest : List Atom) → sum_by (packages_weight counted c) (with_atom a block (xs ++ rest)) ≡ sum_by (packages_weight counted c) (with_atom a block xs) + sum_by (packages_weight counted c) rest
  with_weight a No xs rest = sum_by-append (packages_weight counted c) (a ∷ xs) rest
  with_weight a Weak xs rest = sum_by-append (packages_weight counted c) xs rest
  with_weight a Strong xs rest = sum_by-append (packages_weight counted c) xs rest

  pub dep_split : (t : Dep) (rest : Deps) → class_weight counted c (dep.more t rest) ≡ class_weight counted c (dep.more t dep.end) + class_weight counted c rest
  dep_split (dep.leaf atom) rest = omega (arith, with_weight atom atom.block [] (wanted_atoms rest))
  dep_split (dep.all items) rest =
      omega (
        arith,
        length-append (dep_tokens items) (tokens.Close ∷ dep_tokens rest),
        length-append (dep_tokens items) (tokens.Close ∷ []),
        sum_by-append (packages_weight counted c) (wanted_atoms items) (wanted_atoms rest),
        sum_by-append (packages_weight counted c) (wanted_atoms items) [],
      )
  dep_split (dep.any items) rest =
      omega (
        arith,
        length-append (dep_tokens items) (tokens.Close ∷ dep_tokens rest),
        length-append (dep_tokens items) (tokens.Close ∷ []),
        sum_by-append (packages_weight counted c) (wanted_atoms items) (wanted_atoms rest),
        sum_by-append (packages_weight counted c) (wanted_atoms items) [],
      )
  dep_split (dep.when flag negated items) rest =
      omega (
        arith,
        length-append (dep_tokens items) (tokens.Close ∷ dep_tokens rest),
        length-append (dep_tokens items) (tokens.Close ∷ []),
        sum_by-append (packages_weight counted c) (wanted_atoms items) (wanted_atoms rest),
        sum_by-append (packages_weight counted c) (wanted_atoms items) [],
      )

  pub dep_next : (ts : List DepTree) (i : ℕ) (t : DepTree) → i < length ts → t ≡ get_or ts i t
      → class_weight counted c (deps (dep_view.view_of (drop i ts))) ≡ class_weight counted c (dep.more (dep_of t) dep.end) + class_weight counted c (deps (dep_view.view_of (drop (i + 1) ts)))
  dep_next ts i t lt here =
      let at : drop i ts ≡ t ∷ drop (i + 1) ts = rw add-one (drop-cons ts i t lt ∙ ap (λ x. x ∷ drop (suc i) ts) (sym here)) in
      ap (λ xs. class_weight counted c (deps (dep_view.view_of xs))) at ∙ dep_split (dep_of t) (deps (dep_view.view_of (drop (i + 1) ts)))

  -- the weights of single trees
  pub all_weight : (items : Deps) → class_weight counted c (dep.more (dep.all items) dep.end) ≡ 2 + class_weight counted c items
  all_weight items = omega (arith, length-append (dep_tokens items) (tokens.Close ∷ []), sum_by-append (packages_weight counted c) (wanted_atoms items) [])

  pub any_weight : (items : Deps) → class_weight counted c (dep.more (dep.any items) dep.end) ≡ 3 + class_weight counted c items
  any_weight items = omega (arith, length-append (dep_tokens items) (tokens.Close ∷ []), sum_by-append (packages_weight counted c) (wanted_atoms items) [])

  pub when_weight : (flag : List ℕ) (negated : Bool) (items : Deps) → class_weight counted c (dep.more (dep.when flag negated items) dep.end) ≡ 3 + class_weight counted c items
  when_weight flag negated items = omega (arith, length-append (dep_tokens items) (tokens.Close ∷ []), sum_by-append (packages_weight counted c) (wanted_atoms items) [])

shown_first : (profile : Profile) (level : Level) (a : Atom) → shows profile level a ≡ (λ p. visible p profile level && matches_pkg a p)
shown_first profile level a = fun_ext (λ p. and_comm (matches_pkg a p) (visible p profile level))

pub leaf_weight : (counted : Counted) (c : Parent) (atom : Atom) → atom.block ≡ No → class_weight counted c (dep.more (dep.leaf atom) dep.end) ≡ 1 + packages_weight counted c atom
leaf_weight counted c atom block =
    ap (λ b. 1 + sum_by (packages_weight counted c) (with_atom atom b [])) block ∙ ap (λ n. 1 + n) (sum_by-cons (packages_weight counted c) atom [] ∙ omega arith)

pub shown_is : {F : Type 0} (cands : Candidates F) (pkg : Pkg) (atom : Atom)
    → sum_by (λ (p : Pkg). 1 + length atom.items) (filter (shows (profile_of cands) (level_of cands) atom) (pkgs_of cands)) ≡ packages_weight Shown (parent_of cands pkg) atom
shown_is cands pkg atom = ap (λ t. sum_by (λ (p : Pkg). 1 + length atom.items) (filter t (pkgs_of cands))) (shown_first (profile_of cands) (level_of cands) atom)

pub token_group : (n : ℕ) (items : Reqs) → suc (length (req_tokens items ++ tokens.Close ∷ [])) ≡ 2 + length (req_tokens items)
token_group n items = omega (arith, req_group items)

pub token_group_more : (n : ℕ) (items : Reqs) → suc (suc (length (req_tokens items ++ tokens.Close ∷ []))) ≡ 3 + length (req_tokens items)
token_group_more n items = omega (arith, req_group items)
