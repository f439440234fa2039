use Rattle.gv_cert.proofs.reader.Reader.+short.Given as goal

abbrev pub decreases-short : goal.decreases-short
decreases-short l = l.more
