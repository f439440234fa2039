use Rattle.std.proofs.Common.{◌≡◌, List, [], ◌∷◌, ◌++◌, ap, subst, ◌∙◌, refl, cond, ℕ, Some}
use Rattle.std.specs.Prelude.{if◌then◌else◌, IsSome}
use Rattle.std.specs.BTreeMap.{is_at}
use Rattle.std.specs.Ordering.{nat_cmp}
use Rattle.std.specs.Rc.{rc_slice_items}
use Rattle.std.specs.Str.{bytes_eq}
use Rattle.gv_cert.specs.Index.{hash_of, numbers_among}
use Rattle.gv_cert.proofs.Entries.{At, hash_added, numbers_kept_in}
use Rattle.gv_cert.proofs.index.Index.add.Goals as goal

pub returns-in_ok-add-in-Some-clause-ok : goal.returns-in_ok-add-in-Some-clause-ok
returns-in_ok-add-in-Some-clause-ok c =
    let es = c.args.self.now.by_hash.entries in
    let fs = (c.get_mut.follows.lender c.add.new.self).entries in
    let query = rc_slice_items c.args.query.now in
    let hashed = c.hash_of-hash.ensures ∙ ap hash_of c.as_slice-bytes.ensures.value in
    let added = subst (λ b. (q : List ℕ) → numbers_among c.add.new.self q ≡ (if bytes_eq q b then numbers_among c.in-Some.alike.now q ++ c.args.number ∷ [] else numbers_among c.in-Some.alike.now q)) c.as_slice-bytes.ensures.value c.in_ok-add-in-Some.ensures.ok in
    let sets : (n : ℕ) → At fs n ≡ cond (is_at (nat_cmp (hash_of query)) n) (Some c.add.new.self) (At es n) =
    subst (λ h. (n : ℕ) → At fs n ≡ cond (is_at (nat_cmp h) n) (Some c.add.new.self) (At es n)) hashed
    ((c.get_mut.follows.holds c.add.new.self).3 (subst IsSome c.in-Some.ensures.value refl)).0 in
    hash_added es fs query c.add.new.self sets c.args.number
    (λ q. added q
    ∙ ap (λ o. if bytes_eq q query then numbers_kept_in o q ++ c.args.number ∷ [] else numbers_kept_in o q)
    (c.in-Some.ensures.value ∙ ap (At es) hashed))
