use Rattle.std.proofs.Common.{ap, ◌∙◌}
use Rattle.std.specs.Result.{result_ok}
use Rattle.gv_entry.proofs.HexLaw.{digest_is}
use Rattle.gv_entry.proofs.digests.digest_in.Goals as goal

pub returns : goal.returns
returns c = c.ok.ensures.value ∙ ap result_ok c.from_hex.ensures ∙ digest_is c.args.text.now
