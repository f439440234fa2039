use Rattle.gv_plain.specs.Context.{listed}
use Rattle.gv_plain.specs.Cases.{case_at}
use Rattle.gv_checks.proofs.NamedLemmas.{has_asked, named_here, never_past, passed}
use Rattle.gv_checks.proofs.finding.find_in.Goals as goal

pub loop-profile-preserved : goal.loop-profile-preserved
loop-profile-preserved c =
    passed c.args.options.now c.args.repo.now c.args.name.now (listed c.args.one.now) c.requires.number c.requires.pkg c.requires.body c.args.profiles.now c.profile-item.result c.loop-profile.profile-index
    c.requires.profiles c.loop-profile-test.true c.profile-item.is c.in_default.ensures c.loop-profile.invariant

pub unreachable-requires : goal.unreachable-requires
unreachable-requires c =
    never_past c.args.options.now c.args.repo.now c.args.name.now c.args.profiles.now c.loop-profile.profile-index c.requires.there c.requires.profiles c.loop-profile-test.false c.loop-profile.invariant

pub returns-in-Some-clause-named : goal.returns-in-Some-clause-named
returns-in-Some-clause-named c =
    named_here c.args.options.now c.args.repo.now c.args.name.now (listed c.args.one.now) c.args.profiles.now c.profile-item.result c.loop-profile.profile-index c.in-Some.level
    c.requires.number c.requires.pkg c.requires.body c.requires.profiles c.loop-profile-test.true c.profile-item.is c.in-Some.ensures

pub returns-in-Some-clause-has : goal.returns-in-Some-clause-has
returns-in-Some-clause-has c =
    has_asked c.args.options.now (case_at c.args.repo.now.pkgs (listed c.args.one.now) c.profile-item.result c.in-Some.level) c.args.name.now.class c.in-Some.ensures.asked
