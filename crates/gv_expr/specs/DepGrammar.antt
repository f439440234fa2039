-- The grammar of dependencies (PMS chapter 8): how trees are written, and which are good, inside of so many open groups.
use Rattle.std.specs.Prelude.{◌≡◌, ℕ, ◌+◌, ◌<◌, ◌≤◌, true, List, [], ◌∷◌, ◌++◌, length}
use Rattle.gv_version.specs.Names.{is_flag}
use Rattle.gv_atom.specs.Grammar.{atom_text, is_atom}
use Rattle.gv_expr.specs.declared.token.Token.{Token}
use Rattle.gv_expr.specs.declared.token.Token.TheVariants.{Open, Close, Any, If, Word}
use Rattle.gv_expr.specs.Dep.{Dep, Deps, leaf, all, any, when, end, more, deps}
use Rattle.gv_expr.specs.Token.{tokens_of, tokens_text}

abbrev pub dep_tokens : Deps → List Token
dep_tokens end = []
dep_tokens (more (leaf atom) rest) = Word (atom_text atom) ∷ dep_tokens rest
dep_tokens (more (all items) rest) = Open ∷ (dep_tokens items ++ Close ∷ dep_tokens rest)
dep_tokens (more (any items) rest) = Any ∷ Open ∷ (dep_tokens items ++ Close ∷ dep_tokens rest)
dep_tokens (more (when flag negated items) rest) = If flag negated ∷ Open ∷ (dep_tokens items ++ Close ∷ dep_tokens rest)

-- at most 64 groups are open, and the atoms and flags are such
abbrev pub AreDeps : ℕ → Deps → Type 0
AreDeps depth end = Unit {0}
AreDeps depth (more (leaf atom) rest) = (is_atom atom ≡ true) × AreDeps depth rest
AreDeps depth (more (all items) rest) = (depth < 64) × AreDeps (depth + 1) items × AreDeps depth rest
AreDeps depth (more (any items) rest) = (depth < 64) × AreDeps (depth + 1) items × AreDeps depth rest
AreDeps depth (more (when flag negated items) rest) =
    (is_flag flag ≡ true) × (depth < 64) × AreDeps (depth + 1) items × AreDeps depth rest

-- the bytes are this dependency, within the limits
pub record IsDepOf (bytes : List ℕ) (ts : List Dep) : Type 0 where
  pub good : AreDeps 0 (deps ts)
  pub few : length (dep_tokens (deps ts)) ≤ 100000
  pub written : dep_tokens (deps ts) ≡ tokens_of bytes

-- tokens joined by one space
abbrev pub dep_text : Deps → List ℕ
dep_text ts = tokens_text (dep_tokens ts)

-- a top item alone
abbrev pub item_text : Dep → List ℕ
item_text t = dep_text (more t end)
