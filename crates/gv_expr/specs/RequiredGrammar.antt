-- The grammar of REQUIRED_USE (PMS chapter 7): how trees are written, and which are good, inside of so many open groups.
use Rattle.std.specs.Prelude.{◌≡◌, ℕ, ◌+◌, ◌<◌, ◌≤◌, true, List, [], ◌∷◌, ◌++◌, length}
use Rattle.gv_version.specs.Names.{is_flag}
use Rattle.gv_expr.specs.declared.token.Token.{Token}
use Rattle.gv_expr.specs.declared.token.Token.TheVariants as tokens
use Rattle.gv_expr.specs.Required.{Req, Reqs, leaf, all, any, one, most, when, end, more, reqs}
use Rattle.gv_expr.specs.Token.{signed, tokens_of, tokens_text}

abbrev pub req_tokens : Reqs → List Token
req_tokens end = []
req_tokens (more (leaf flag negated) rest) = tokens.Word (signed flag negated) ∷ req_tokens rest
req_tokens (more (all items) rest) = tokens.Open ∷ (req_tokens items ++ tokens.Close ∷ req_tokens rest)
req_tokens (more (any items) rest) = tokens.Any ∷ tokens.Open ∷ (req_tokens items ++ tokens.Close ∷ req_tokens rest)
req_tokens (more (one items) rest) = tokens.One ∷ tokens.Open ∷ (req_tokens items ++ tokens.Close ∷ req_tokens rest)
req_tokens (more (most items) rest) = tokens.Most ∷ tokens.Open ∷ (req_tokens items ++ tokens.Close ∷ req_tokens rest)
req_tokens (more (when flag negated items) rest) =
    tokens.If flag negated ∷ tokens.Open ∷ (req_tokens items ++ tokens.Close ∷ req_tokens rest)

-- at most 64 groups are open, and the flags are such
abbrev pub AreReqs : ℕ → Reqs → Type 0
AreReqs depth end = Unit {0}
AreReqs depth (more (leaf flag negated) rest) = (is_flag flag ≡ true) × AreReqs depth rest
AreReqs depth (more (all items) rest) = (depth < 64) × AreReqs (depth + 1) items × AreReqs depth rest
AreReqs depth (more (any items) rest) = (depth < 64) × AreReqs (depth + 1) items × AreReqs depth rest
AreReqs depth (more (one items) rest) = (depth < 64) × AreReqs (depth + 1) items × AreReqs depth rest
AreReqs depth (more (most items) rest) = (depth < 64) × AreReqs (depth + 1) items × AreReqs depth rest
AreReqs depth (more (when flag negated items) rest) =
    (is_flag flag ≡ true) × (depth < 64) × AreReqs (depth + 1) items × AreReqs depth rest

-- the bytes are this REQUIRED_USE, within the limits
pub record IsReqOf (bytes : List ℕ) (ts : List Req) : Type 0 where
  pub good : AreReqs 0 (reqs ts)
  pub few : length (req_tokens (reqs ts)) ≤ 100000
  pub written : req_tokens (reqs ts) ≡ tokens_of bytes

abbrev pub req_text : Reqs → List ℕ
req_text ts = tokens_text (req_tokens ts)
