use Rattle.std.proofs.Common.{◌≡◌, ◌++◌, List, ℕ, subst}
use Rattle.gv_base.specs.FileMap.{FileMap}
use Rattle.gv_base.specs.Listing.{IsListing, names_below}
use Rattle.gv_base.specs.Order.{HaveSameTexts}
use Rattle.gv_edits.specs.Inner.{told_files}
use Rattle.gv_edits.specs.Kept.{put_files}
use Rattle.gv_edits.proofs.Lefts.{listed_stand}
use Rattle.gv_edits.proofs.Looks.{if_told}
use Rattle.gv_edits.proofs.Lists.{edited_listing}
use Rattle.gv_edits.proofs.listing.list_edited.Goals as goal

pub kept-requires : goal.kept-requires
kept-requires g c = rw c.names_of.ensures.files (λ t. listed_stand c.in_order_law.ensures (told_files (g.T.Tree.files c.args.tree.now)) c.args.path.now c.in_ok-listed.listed (c.in_ok-listed.ensures.names t))

pub returns-clause-parts : goal.returns-clause-parts
returns-clause-parts g c =
    let told = g.T.Tree.files c.args.tree.now in
    let es = c.args.edits.now in
    let path = c.args.path.now in
    let names = c.in_ok-names-2.names in
    let kept = rw c.names_of.ensures.files at c.in_ok-names.ensures.kept in
    let put : c.in_ok-put.put ≡ names_below (put_files es) path = rw c.bytes.ensures at c.in_ok-put.ensures in
    let same : HaveSameTexts (c.in_ok-names.names ++ c.in_ok-put.put) names = subst (λ (xs : List (List ℕ)). HaveSameTexts xs names) c.in_ok-add_all.ensures c.in_ok-names-2.ensures.members in
    if_told told es (λ (m : FileMap). IsListing m path names)
    (λ t. edited_listing c.in_order_law.ensures (told_files told) es path c.in_ok-listed.listed c.in_ok-names.names c.in_ok-put.put names (c.in_ok-listed.ensures.names t) (kept t) put c.in_ok-names-2.ensures.ascends same)
