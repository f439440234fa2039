use Rattle.std.proofs.Common.{rules, ◌≡◌, true, false}
use Rattle.std.specs.Option.{is_some}
use Rattle.std.specs.FinMap.{get}
use Rattle.gv_reading.specs.Passing.{faulted}
use Rattle.gv_reading.proofs.Readings.{known_put, knows_put, known_before}
use Rattle.gv_reading.proofs.reader.Reader.learn.Goals as goal

pub returns-in_err-found-clause-cause : goal.returns-in_err-found-clause-cause
returns-in_err-found-clause-cause g c =
    let new : is_some (get c.args.self.now.known c.args.path.now) ≡ false = search rules in
    rw (faulted c.from_residual.result c.from_residual.ensures.1) (rw new (c.in_err-found.ensures.cause c.args.self.now))

pub returns-clause-known : goal.returns-clause-known
returns-clause-known g c = known_put _ c.args.self.now c.put.new.self c.args.path.now c.in_ok-found.found c.in_ok-files.files c.in_ok-found.ensures.found c.in_ok-put.ensures

pub returns-clause-knows : goal.returns-clause-knows
returns-clause-knows g c = knows_put _ c.args.self.now c.put.new.self c.args.path.now c.in_ok-found.found c.in_ok-files.files c.in_ok-found.ensures.found c.requires c.in_ok-put.ensures

pub returns-then-is_some-clause-known : goal.returns-then-is_some-clause-known
returns-then-is_some-clause-known g c =
    let there : is_some (get c.args.self.now.known c.args.path.now) ≡ true = search rules in
    known_before _ c.args.self.now c.args.path.now c.requires there
