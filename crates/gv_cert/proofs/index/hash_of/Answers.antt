use Rattle.std.proofs.Common.{ap, ◌∙◌}
use Rattle.std.specs.Hash.FoldHasher.{finish, write}
use Rattle.gv_cert.specs.Index.{hash_of}
use Rattle.gv_cert.proofs.index.hash_of.Goals as goal

pub returns : goal.returns
unfolding hash_of
returns c = c.finish.ensures ∙ ap finish (c.write.ensures ∙ ap (λ hasher. write hasher c.args.query.now) c.default-hasher.ensures)
