-- Values of the definitions on worked examples.
use Rattle.std.specs.Prelude.{◌≡◌, List, [], ◌∷◌, true, false, refl}
use Rattle.gv_logic.specs.Bytes.{number_bytes}
use Rattle.gv_logic.specs.Logs.{Step}
use Rattle.gv_cert.specs.Claim.{claim_bytes, claim_form}
use Rattle.gv_cert.specs.Numbers.{short_bytes}
use Rattle.gv_cert.specs.declared.claim.Claim.TheVariants.{Refuted, Found}
use Rattle.gv_cert.specs.declared.version.FileVersion.TheVariants.{First}

nought : short_bytes 0 ≡ 0 ∷ []
unfolding short_bytes
nought = refl

one_byte : short_bytes 127 ≡ 127 ∷ []
unfolding short_bytes
one_byte = refl

two_bytes : short_bytes 128 ≡ 128 ∷ 1 ∷ []
unfolding short_bytes
two_bytes = refl

low_bits_first : short_bytes 300 ≡ 172 ∷ 2 ∷ []
unfolding short_bytes
low_bits_first = refl

greatest_number : short_bytes 4294967295 ≡ 255 ∷ 255 ∷ 255 ∷ 255 ∷ 15 ∷ []
unfolding short_bytes
greatest_number = refl

greatest_way_back : short_bytes 8589934591 ≡ 255 ∷ 255 ∷ 255 ∷ 255 ∷ 31 ∷ []
unfolding short_bytes
greatest_way_back = refl

-- one step, of the empty clause, by the second and the first of two clauses
abbrev none : List Step
none = (record { clause = []; hints = 1 ∷ 0 ∷ [] }) ∷ []

answer_of_none : claim_bytes 2 (Refuted none) ≡ 0 ∷ 1 ∷ 0 ∷ 2 ∷ 1 ∷ 2 ∷ []
unfolding short_bytes
answer_of_none = refl

in_the_first_version : claim_form First 2 (Refuted none) ≡ 0 ∷ 0 ∷ 0 ∷ 0 ∷ 1 ∷ 0 ∷ 0 ∷ 0 ∷ 0 ∷ 0 ∷ 0 ∷ 0 ∷ 2 ∷ 0 ∷ 0 ∷ 0 ∷ 1 ∷ 0 ∷ 0 ∷ 0 ∷ 0 ∷ []
unfolding number_bytes
in_the_first_version = refl

-- the second step names the first, and then the one clause
answer_of_bits : claim_bytes 1 (Found (false ∷ true ∷ []) ((record { clause = 2 ∷ []; hints = 0 ∷ [] }) ∷ (record { clause = []; hints = 1 ∷ 0 ∷ [] }) ∷ []))
    ≡ 1 ∷ 0 ∷ 1 ∷ 2 ∷ 1 ∷ 2 ∷ 1 ∷ 1 ∷ 0 ∷ 2 ∷ 1 ∷ 2 ∷ []
unfolding short_bytes
answer_of_bits = refl
