use Rattle.std.proofs.Common.{◌≡◌, ◌++◌, List, ap, ◌∙◌, map}
use Rattle.std.specs.Prelude.{filter}
use Rattle.gv_entry.specs.declared.entry.Body.{Body}
use Rattle.gv_facts.specs.declared.pkg.Pkg.{Pkg}
use Rattle.gv_reload.specs.EntryEdits.{is_other, together}
use Rattle.gv_reload.specs.Interleaved.{interleaved}
use Rattle.gv_reload.specs.Replacing.{is_of_edited}
use Rattle.gv_load.specs.Repository.{body_of, in_package_order, member_cmp, pkg_of}
use Rattle.gv_load.specs.declared.members.Member.{Member}
use Rattle.gv_reload.proofs.Replaces.{put_in_order}
use Rattle.gv_reload.proofs.replacing.moved.Goals as goal

pub returns-clause-pkgs : goal.returns-clause-pkgs
returns-clause-pkgs c =
    let paths = c.args.edits.now in
    let olds : List Member = filter (is_other paths) (together c.args.old.pkgs c.args.old.bodies) in
    let news : List Member = filter (is_of_edited paths) (together c.args.new.pkgs c.args.new.bodies) in
    let all : interleaved member_cmp olds c.in_ok-edited.edited.keys ≡ in_package_order (olds ++ news) =
    ap (interleaved member_cmp olds) c.in_ok-edited.ensures
    ∙ put_in_order paths c.args.old.pkgs c.args.new.pkgs c.args.old.bodies c.args.new.bodies c.requires.old_order c.requires.new_order in
    c.in_ok-add_all.ensures.pkgs ∙ c.in_ok-add_standing.ensures.pkgs
    ∙ ap (λ (ps : List Pkg). ps ++ map pkg_of (interleaved member_cmp olds c.in_ok-edited.edited.keys)) c.new-packages.ensures.pkgs ∙ ap (map pkg_of) all

pub returns-clause-bodies : goal.returns-clause-bodies
returns-clause-bodies c =
    let paths = c.args.edits.now in
    let olds : List Member = filter (is_other paths) (together c.args.old.pkgs c.args.old.bodies) in
    let news : List Member = filter (is_of_edited paths) (together c.args.new.pkgs c.args.new.bodies) in
    let all : interleaved member_cmp olds c.in_ok-edited.edited.keys ≡ in_package_order (olds ++ news) =
    ap (interleaved member_cmp olds) c.in_ok-edited.ensures
    ∙ put_in_order paths c.args.old.pkgs c.args.new.pkgs c.args.old.bodies c.args.new.bodies c.requires.old_order c.requires.new_order in
    c.in_ok-add_all.ensures.bodies ∙ c.in_ok-add_standing.ensures.bodies
    ∙ ap (λ (bs : List Body). bs ++ map body_of (interleaved member_cmp olds c.in_ok-edited.edited.keys)) c.new-packages.ensures.bodies ∙ ap (map body_of) all
