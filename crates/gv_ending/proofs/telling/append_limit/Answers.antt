use Rattle.gv_ending.proofs.telling.append_limit.Goals as goal

pub returns : goal.returns
returns c = rw c.in_ok-numbered.ensures at c.append_place.ensures
