use Rattle.std.proofs.Common.{◌≡◌, ℕ, List, [], ◌∷◌, ◌++◌, ap, length, length-append, sym, ◌∙◌, subst, arith}
use Rattle.std.specs.Prelude.{if◌then◌else◌}
use Rattle.std.specs.Rc.{rc_slice_items}
use Rattle.std.specs.Str.{bytes_eq}
use Rattle.gv_cert.specs.Index.{numbers_at, numbers_of}
use Rattle.gv_cert.specs.Known.{KnownRecord}
use Rattle.gv_cert.proofs.Entries.{numbers_more}
use Rattle.gv_cert.proofs.known.Known.keep.Goals as goal

pub invariant_of-self-2 : goal.invariant_of-self-2
invariant_of-self-2 c =
    let records = c.self.inside.records.items in
    let with_query : List ℕ → KnownRecord = λ q. record { query = q; answer = c.args.answer } in
    let r = with_query c.args.query.now in
    let many : c.in_ok-number.number ≡ length records = c.in_ok-number.ensures.number ∙ c.len.ensures ∙ c.reserve.new.self.ok.0 ∙ ap length c.reserve.ensures.items in
    let whole : c.push_reserved.new.self.items ≡ records ++ r ∷ [] =
    c.push_reserved.ensures.items ∙ ap (λ xs. xs ++ with_query (rc_slice_items c.in_ok-shared.shared) ∷ []) c.reserve.ensures.items ∙ ap (λ q. records ++ with_query q ∷ []) c.in_ok-shared.ensures.ok in
    let added : (query : List ℕ) → numbers_at c.add.new.self query ≡ (if bytes_eq query r.query then numbers_at c.self.inside.by_query query ++ c.in_ok-number.number ∷ [] else numbers_at c.self.inside.by_query query) =
    subst (λ qs. (query : List ℕ) → numbers_at c.add.new.self query ≡ (if bytes_eq query qs then numbers_at c.self.inside.by_query query ++ c.in_ok-number.number ∷ [] else numbers_at c.self.inside.by_query query)) c.in_ok-shared.ensures.ok c.in_ok-add.ensures.ok in
    record {
      numbers = λ query. subst (λ xs. numbers_at c.add.new.self query ≡ numbers_of query xs) (sym whole)
          (numbers_more query r records (numbers_at c.self.inside.by_query query) (numbers_at c.add.new.self query) c.in_ok-number.number many
          (c.self.invariant.numbers query) (added query));
      few = omega (arith, ap length whole, length-append records (r ∷ []), many, c.in_ok-number.ensures.room);
    }
