use Rattle.std.proofs.Common.{◌≡◌, ◌++◌, refl, subst, sym, ◌∙◌}
use Rattle.std.specs.Prelude.{option_map}
use Rattle.gv_entry.specs.Digests.{between_tabs, eclasses_in}
use Rattle.gv_entry.specs.PrivateWords.{fields_left}
use Rattle.gv_entry.proofs.TabCuts.{pair_read}
use Rattle.gv_entry.proofs.digests.read_pairs.Goals as goal

pub loop-name-preserved : goal.loop-name-preserved
loop-name-preserved c =
    subst (λ so_far. option_map (λ more. so_far ++ more) (eclasses_in (fields_left c.next_field-in-Some.new.rest)) ≡ eclasses_in (between_tabs c.args.value.now)) (sym (c.in_ok-add.ensures.ok ∙ rw c.in_ok-name.ensures refl))
    (pair_read c.loop-name.eclasses (eclasses_in (between_tabs c.args.value.now)) c.in-Some.name.now c.in-Some-next_field.text.now c.in-Some-digest_in.digest (fields_left c.loop-name.rest) (fields_left c.next_field.new.rest) (fields_left c.next_field-in-Some.new.rest)
    c.loop-name.invariant c.in-Some.ensures c.in-Some-next_field.ensures c.in-Some-digest_in.ensures c.if-not-is_part.ensures)
