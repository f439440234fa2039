-- Lemmas, no rule, for this crate and those above: packages put in order one after another are those in package order.
use Rattle.std.proofs.Common.{◌≡◌, List, [], ◌∷◌, Some, None, refl, sym, ap, subst, ◌∙◌, map}
use Rattle.std.specs.Prelude.{Option, fold}
use Rattle.std.specs.List.{cons_option}
use Rattle.std.specs.BTreeSet.{insert_key}
use Rattle.std.specs.Cmp.{IsTotalOrder}
use Rattle.std.specs.List.{AllByRecursion}
use Rattle.std.specs.List.Sorted.{IsStrictlySortedBy}
use Rattle.std.specs.Ordering.{match_ordering, ordering_reverse}
use Rattle.std.specs.declared.cmp.Ordering.{Ordering}
use Rattle.std.specs.declared.cmp.Ordering.TheVariants.{Less, Equal, Greater}
use Rattle.gv_facts.specs.declared.pkg.Pkg.{Pkg}
use Rattle.gv_load.specs.MemberOrder.{member_total}
use Rattle.gv_load.specs.declared.freshness.PfKept.{PfKept}
use Rattle.gv_load.specs.declared.members.Member.{Member}
use Rattle.gv_load.specs.Members.{with_all, with_member}
use Rattle.gv_load.specs.Repository.{AreInPackageOrder, in_package_order, member_cmp, member_in, members_in, pkg_cmp, pkg_of}

all_are : (members : List Member) (kepts : List PfKept) → with_all members kepts ≡ fold (insert_key member_cmp) members (members_in kepts)
all_are members [] = refl
all_are members (k ∷ ks) = by (member_in k.kept) (λ ms. all_are ms ks)
  where
    by : (m : Option Member) → ((ms : List Member) → with_all ms ks ≡ fold (insert_key member_cmp) ms (members_in ks)) →
        with_all (with_member members m) ks ≡ fold (insert_key member_cmp) members (cons_option m (members_in ks))
    by None rest = rest members
    by (Some m) rest = rest (insert_key member_cmp members m)

pub in_order_are : (kepts : List PfKept) → with_all [] kepts ≡ in_package_order (members_in kepts)
in_order_are kepts = all_are [] kepts

-- ---- what is put in order ascends
module _ {K : Type 0} {cmp : K → K → Ordering} (total : IsTotalOrder cmp) where
  pub below_all : (k x : K) (ys : List K) → cmp k x ≡ Less → AllByRecursion (λ y. cmp x y ≡ Less) ys → AllByRecursion (λ y. cmp k y ≡ Less) ys
  below_all k x [] e a = tt
  below_all k x (y ∷ ys) e a = (total.trans k x y e a.0, below_all k x ys e a.1)

  all_put : (x k : K) (ks : List K) → cmp x k ≡ Less → AllByRecursion (λ y. cmp x y ≡ Less) ks → AllByRecursion (λ y. cmp x y ≡ Less) (insert_key cmp ks k)
  all_put x k [] e a = (e, tt)
  all_put x k (y ∷ ys) e a = by (cmp k y) (all_put x k ys e a.1)
    where
      by : (r : Ordering) → AllByRecursion (λ z. cmp x z ≡ Less) (insert_key cmp ys k) → AllByRecursion (λ z. cmp x z ≡ Less) (match_ordering r (k ∷ y ∷ ys) (y ∷ ys) (y ∷ insert_key cmp ys k))
      by Less h = (e, a)
      by Equal h = a
      by Greater h = (a.0, h)

  pub ascends_put : (ks : List K) (k : K) → IsStrictlySortedBy cmp ks → IsStrictlySortedBy cmp (insert_key cmp ks k)
  unfolding IsStrictlySortedBy
  ascends_put [] k a = (tt, tt)
  ascends_put (x ∷ xs) k a = by (cmp k x) refl (ascends_put xs k a.1)
    where
      by : (r : Ordering) → cmp k x ≡ r → IsStrictlySortedBy cmp (insert_key cmp xs k) → IsStrictlySortedBy cmp (match_ordering r (k ∷ x ∷ xs) (x ∷ xs) (x ∷ insert_key cmp xs k))
      by Less e h = ((e, below_all k x xs e a.0), a)
      by Equal e h = a
      by Greater e h = (all_put x k xs (total.antisymm x k ∙ ap ordering_reverse e) a.0, h)

  ascends_all : (ks xs : List K) → IsStrictlySortedBy cmp ks → IsStrictlySortedBy cmp (fold (insert_key cmp) ks xs)
  ascends_all ks [] a = a
  ascends_all ks (x ∷ xs) a = ascends_all (insert_key cmp ks x) xs (ascends_put ks x a)

  pub all_ascend : (xs : List K) → IsStrictlySortedBy cmp (fold (insert_key cmp) [] xs)
  unfolding IsStrictlySortedBy
  all_ascend xs = ascends_all [] xs tt

pub pkgs_ascend : (ms : List Member) → IsStrictlySortedBy member_cmp ms → AreInPackageOrder (map pkg_of ms)
unfolding IsStrictlySortedBy
pkgs_ascend [] a = tt
pkgs_ascend (m ∷ ms) a = (all_of m ms a.0, pkgs_ascend ms a.1)
  where
    all_of : (m : Member) (ms : List Member) → AllByRecursion (λ n. member_cmp m n ≡ Less) ms → AllByRecursion (λ (p : Pkg). pkg_cmp m.pkg p ≡ Less) (map pkg_of ms)
    all_of m [] all = tt
    all_of m (n ∷ ns) all = (all.0, all_of m ns all.1)

pub in_package_order_are : (kepts : List PfKept) (pkgs : List Pkg) → pkgs ≡ map pkg_of (in_package_order (members_in kepts)) → AreInPackageOrder pkgs
in_package_order_are kepts pkgs is = subst AreInPackageOrder (sym is) (pkgs_ascend (in_package_order (members_in kepts)) (all_ascend member_total (members_in kepts)))
