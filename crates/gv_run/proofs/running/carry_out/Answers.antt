use Rattle.gv_run.proofs.running.carry_out.Goals as goal

pub returns-in-Scan-clause-performs : goal.returns-in-Scan-clause-performs
returns-in-Scan-clause-performs g c = rw c.in-Scan.is (c.scan.ensures.performs _)

pub returns-in-Verify-clause-performs : goal.returns-in-Verify-clause-performs
returns-in-Verify-clause-performs g c = rw c.in-Verify.is (c.verify_report.ensures.performs _)

pub returns-in-Session-clause-performs : goal.returns-in-Session-clause-performs
returns-in-Session-clause-performs g c = rw c.in-Session.is (c.serve.ensures.performs _ _)

pub returns-in-Demo-clause-performs : goal.returns-in-Demo-clause-performs
returns-in-Demo-clause-performs g c = rw c.in-Demo.is (c.write_summary.ensures _ _ _ _ _)

pub returns-in-Part-clause-performs : goal.returns-in-Part-clause-performs
returns-in-Part-clause-performs g c = rw c.in-Part.is (c.scan_part.ensures.performs _ _ _)

pub returns-in-Merge-clause-performs : goal.returns-in-Merge-clause-performs
returns-in-Merge-clause-performs g c = rw c.in-Merge.is (c.merge_parts.ensures.performs _)

pub returns-in-Overlay-clause-performs : goal.returns-in-Overlay-clause-performs
returns-in-Overlay-clause-performs g c = rw c.in-Overlay.is (c.scan_overlay.ensures.performs _)

pub returns-in-Lint-clause-performs : goal.returns-in-Lint-clause-performs
returns-in-Lint-clause-performs g c = rw c.in-Lint.is (c.lint.ensures.performs _ _ _ _)
