use Rattle.std.proofs.Common.{◌≡◌, true, List, ap, ◌∙◌, map}
use Rattle.std.specs.Prelude.{filter}
use Rattle.gv_reload.specs.EntryEdits.{together}
use Rattle.gv_reload.specs.Exchanged.{are_at, edited_places, set_all}
use Rattle.gv_reload.specs.Replacing.{is_of_edited}
use Rattle.gv_load.specs.Repository.{body_of, pkg_of}
use Rattle.gv_load.specs.declared.members.Member.{Member}
use Rattle.gv_reload.proofs.Exchanges.{bodies_set, counted, keys_are, pkgs_set, stand_at}
use Rattle.gv_reload.proofs.replacing.exchanged.Goals as goal

pub set_all-requires-clause-there : goal.set_all-requires-clause-there
set_all-requires-clause-there c =
    let paths = c.args.edits.now in
    let old = c.args.old in
    let keys : c.in_ok-edited.edited.keys ≡ filter (is_of_edited paths) (together c.args.new.pkgs c.args.new.bodies) =
    c.in_ok-edited.ensures ∙ keys_are paths old c.args.new c.requires.old_order c.requires.new_order c.requires.exchangeable in
    ap (λ ns. are_at old.pkgs ns (map pkg_of c.in_ok-edited.edited.keys)) c.requires.places
    ∙ ap (λ (ms : List Member). are_at old.pkgs (edited_places paths old.pkgs) (map pkg_of ms)) keys
    ∙ stand_at paths old c.args.new c.requires.old_order c.requires.new_order c.requires.exchangeable

pub set_all-requires-clause-count : goal.set_all-requires-clause-count
set_all-requires-clause-count c = counted c.args.edits.now c.args.old c.args.new c.requires.old_order c.requires.new_order c.requires.exchangeable

pub returns-clause-pkgs : goal.returns-clause-pkgs
returns-clause-pkgs c =
    let paths = c.args.edits.now in
    let old = c.args.old in
    let keys : c.in_ok-edited.edited.keys ≡ filter (is_of_edited paths) (together c.args.new.pkgs c.args.new.bodies) =
    c.in_ok-edited.ensures ∙ keys_are paths old c.args.new c.requires.old_order c.requires.new_order c.requires.exchangeable in
    c.set_all.ensures.pkgs ∙ ap (λ ns. set_all old.pkgs ns (map pkg_of c.in_ok-edited.edited.keys)) c.requires.places
    ∙ ap (λ (ms : List Member). set_all old.pkgs (edited_places paths old.pkgs) (map pkg_of ms)) keys
    ∙ pkgs_set paths old c.args.new c.requires.old_order c.requires.new_order c.requires.exchangeable

pub returns-clause-bodies : goal.returns-clause-bodies
returns-clause-bodies c =
    let paths = c.args.edits.now in
    let old = c.args.old in
    let keys : c.in_ok-edited.edited.keys ≡ filter (is_of_edited paths) (together c.args.new.pkgs c.args.new.bodies) =
    c.in_ok-edited.ensures ∙ keys_are paths old c.args.new c.requires.old_order c.requires.new_order c.requires.exchangeable in
    c.set_all.ensures.bodies ∙ ap (λ ns. set_all old.bodies ns (map body_of c.in_ok-edited.edited.keys)) c.requires.places
    ∙ ap (λ (ms : List Member). set_all old.bodies (edited_places paths old.pkgs) (map body_of ms)) keys
    ∙ bodies_set paths old c.args.new c.requires.old_order c.requires.new_order c.requires.exchangeable
