-- Names of edited entries that are given, and the edited PFs.
use Rattle.std.proofs.Common.{◌≡◌, List, [], ◌∷◌, ◌++◌, ℕ, map, refl, ap, sym, ◌∙◌}
use Rattle.std.specs.Prelude.{flat_map}
use Rattle.gv_base.specs.Order.{in_order}
use Rattle.gv_load.specs.Given.{all_said, given_in as those_in, given_read, given_reads, given_steps, pf_steps, read_with}
use Rattle.gv_load.specs.Order.{eclass_steps}
use Rattle.gv_load.specs.declared.entries.PfRead.{PfRead}
use Rattle.gv_load.specs.declared.given.Given.{Given}
use Rattle.gv_reading.specs.Look.{Look}
use Rattle.gv_reading.specs.Reading.{Step}
use Rattle.gv_reload.specs.Rereading.{edited_in, edited_reads, edited_steps, given_of, pf_edited_steps, read_of, steps_in}

same_reads : (look : Look) (paths categories : List (List ℕ)) → given_reads look (given_of paths categories) ≡ edited_reads look paths categories
same_reads look paths [] = refl
same_reads look paths (c ∷ cs) = ap (λ (rs : List PfRead). edited_in look paths c ++ rs) (same_reads look paths cs)

same_pf_steps : (paths categories : List (List ℕ)) → pf_steps (given_of paths categories) ≡ pf_edited_steps paths categories
same_pf_steps paths [] = refl
same_pf_steps paths (c ∷ cs) = ap (λ (ss : List Step). steps_in paths c ++ ss) (same_pf_steps paths cs)

pub same_steps : (look : Look) (paths categories : List (List ℕ)) (given : List Given) → given ≡ given_of paths categories → edited_steps look paths categories ≡ given_steps look given
same_steps look paths categories given is =
    sym (ap (given_steps look) is
    ∙ ap (λ (ss : List Step). ss ++ eclass_steps (in_order (all_said (given_reads look (given_of paths categories))))) (same_pf_steps paths categories)
    ∙ ap (λ (rs : List PfRead). pf_edited_steps paths categories ++ eclass_steps (in_order (all_said rs))) (same_reads look paths categories))

pub same_read : (look : Look) (paths categories : List (List ℕ)) (given : List Given) → given ≡ given_of paths categories → given_read look given ≡ read_of look paths categories
same_read look paths categories given is = ap (given_read look) is ∙ ap (read_with look) (same_reads look paths categories)
