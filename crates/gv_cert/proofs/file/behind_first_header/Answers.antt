use Rattle.gv_cert.specs.File.{first_header}
use Rattle.gv_cert.proofs.Files.{behind_is}
use Rattle.gv_cert.proofs.file.behind_first_header.Goals as goal

pub returns : goal.returns
unfolding first_header
returns c = behind_is c.strip_prefix.result first_header c.args.bytes.now c.strip_prefix.ensures.cases
