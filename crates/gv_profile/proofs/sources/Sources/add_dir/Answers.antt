use Rattle.std.proofs.Common.{◌≡◌, ap, sym, ◌∙◌}
use Rattle.std.specs.FinMap.{get}
use Rattle.gv_profile.specs.Sources.{lines_of}
use Rattle.gv_profile.proofs.SourceLemmas.{after}
use Rattle.gv_profile.proofs.sources.Sources.add_dir.Goals as goal

pub returns-in-Some-clause-rules : goal.returns-in-Some-clause-rules
returns-in-Some-clause-rules c =
    let said : c.in-Some.lines.now ≡ lines_of c.args.files.now =
    c.self.invariant.at c.args.dir.now c.args.files.now c.in-Some.lines.now (ap (λ s. get s.dirs c.args.dir.now) c.self.view_is ∙ c.requires) (sym c.in-Some.ensures) in
    rw said at c.add_lines.ensures.rules

pub invariant_of-self : goal.invariant_of-self
invariant_of-self c =
    after c.put_at.result c.self.inside.dirs.now c.self.inside.lines.entries c.put_at.new.map.entries c.self.inside.first.now c.self.inside.first_lines
    c.args.dir.now c.args.files.now c.in_ok-lines.lines
    c.self.invariant (ap (λ s. get s.dirs c.args.dir.now) c.self.view_is ∙ c.requires) c.in_ok-lines.ensures c.put_at.ensures.ok c.put_at.ensures.err
