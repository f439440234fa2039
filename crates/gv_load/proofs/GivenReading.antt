-- Given names as they are read.
use Rattle.std.proofs.Common.{◌≡◌, ℕ, List, map, sym, ap, ◌∙◌}
use Rattle.gv_base.specs.Order.{has_text}
use Rattle.gv_load.specs.Entries.{eclass_digest, pf_read}
use Rattle.gv_load.specs.Freshness.{pf_kept}
use Rattle.gv_reading.specs.Look.{Look}
use Rattle.gv_load.specs.Order.{pfs_steps}
use Rattle.gv_load.specs.Given.{all_said, given_in, given_read, given_reads, given_with, pfs_in, read_paths, steps_in}
use Rattle.gv_load.specs.declared.given.Given.{Given}
use Rattle.gv_load.specs.declared.given.GivenRead.{GivenRead}
use Rattle.gv_load.specs.declared.entries.PfRead.{PfRead}
use Rattle.gv_load.specs.declared.freshness.PfKept.{PfKept}
use Rattle.gv_load.proofs.PfLemmas.{same_reads, same_steps}

module _ (g : Given) (keys pfs : List (List ℕ)) (same : (text : List ℕ) → has_text keys text ≡ has_text pfs text) (are : pfs ≡ pfs_in g) where
  pub steps_are : steps_in g ≡ pfs_steps keys g.category pfs
  steps_are = sym (same_steps keys pfs g.category pfs same ∙ ap (λ (ps : List (List ℕ)). pfs_steps ps g.category ps) are)

  pub reads_in : (look : Look) → map (pf_read look keys g.category) pfs ≡ given_in look g
  reads_in look = same_reads look keys pfs g.category pfs same ∙ ap (λ (ps : List (List ℕ)). map (pf_read look ps g.category) ps) are

pub all_read : (look : Look) (given : List Given) (reads : List PfRead) (kepts : List PfKept) (more : ℕ) (read : GivenRead) → reads ≡ given_reads look given → kepts ≡ map (pf_kept (eclass_digest look)) reads →
    more ≡ read_paths reads → read ≡ given_with kepts more → read ≡ given_read look given
all_read look given reads kepts more read is kept_are more_is with_ =
    with_ ∙ ap (λ (ks : List PfKept). given_with ks more) kept_are ∙ ap (given_with (map (pf_kept (eclass_digest look)) reads)) more_is
    ∙ ap (λ (rs : List PfRead). given_with (map (pf_kept (eclass_digest look)) rs) (read_paths rs)) is
