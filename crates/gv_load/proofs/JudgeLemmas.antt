-- What a PF is by the digests that were read is what it is in the tree.
use Rattle.std.proofs.Common.{◌≡◌, ℕ, List, [], ◌∷◌, Bool, true, false, ◌||◌, Some, None, refl, sym, ap, ◌∙◌, map}
use Rattle.std.specs.Prelude.{Option, flat_map, if◌then◌else◌}
use Rattle.std.specs.Option.{option_map}
use Rattle.std.specs.Str.{bytes_eq}
use Rattle.std.specs.FinMap.{get}
use Rattle.std.proofs.lemmas.Slice.Eq.{bytes_eq-Decides}
use Rattle.gv_base.specs.Order.{has_text, HaveSameTexts}
use Rattle.std.proofs.lemmas.List.Folds.{list_any-append}
use Rattle.gv_load.specs.declared.entries.PfRead.{PfRead}
use Rattle.gv_entry.specs.declared.entry.Eclass.{Eclass}
use Rattle.gv_entry.specs.declared.entry.Entry.{Entry}
use Rattle.gv_load.specs.declared.freshness.Kept.{Kept}
use Rattle.gv_load.specs.declared.freshness.PfKept.{PfKept}
use Rattle.gv_load.specs.declared.freshness.Why.{Why}
use Rattle.gv_load.specs.declared.freshness.Why.TheVariants.{Ebuild, OneEclass}
use Rattle.gv_load.specs.DigestWords.{AllNamed, AreNamed, KeepsDigests}
use Rattle.gv_load.specs.EclassDigests.{DigestMap}
use Rattle.gv_load.specs.Entries.{eclass_name, named_by, names_in, names_with, eclass_digest}
use Rattle.gv_load.specs.Freshness.{is_that, first_other, stale_eclasses, kept_with, kept_as, pf_kept}
use Rattle.gv_load.specs.ListLemmas.{itself, on_right}
use Rattle.gv_reading.specs.Look.{Look}

kept_there : (look : Look) (names : List (List ℕ)) (digests : DigestMap) (name : List ℕ) → KeepsDigests look names digests → has_text names name ≡ true → get digests name ≡ eclass_digest look name
kept_there look names digests name keeps there = keeps name ∙ ap (λ (b : Bool). let o : Option (List ℕ) = if b then eclass_digest look name else None in o) there

same_other : (look : Look) (names : List (List ℕ)) (digests : DigestMap) (es : List Eclass) → KeepsDigests look names digests → AreNamed names (map eclass_name es) → first_other (get digests) es ≡ first_other (eclass_digest look) es
same_other look names digests [] keeps named = refl
same_other look names digests (e ∷ es) keeps named =
    ap (λ (o : Option (List ℕ)). if is_that o e.digest then first_other (get digests) es else Some e.name) (kept_there look names digests e.name keeps (named e.name (itself e.name (map eclass_name es))))
    ∙ ap (λ (o : Option (List ℕ)). if is_that (eclass_digest look e.name) e.digest then o else Some e.name) (same_other look names digests es keeps (λ name is. named name (on_right (bytes_eq name e.name) _ is)))

same_eclasses : (look : Look) (names : List (List ℕ)) (digests : DigestMap) (es : Option (List Eclass)) → KeepsDigests look names digests → AreNamed names (named_by es) → stale_eclasses (get digests) es ≡ stale_eclasses (eclass_digest look) es
same_eclasses look names digests None keeps named = refl
same_eclasses look names digests (Some es) keeps named = ap (option_map OneEclass) (same_other look names digests es keeps named)

pub same_kept : (look : Look) (names : List (List ℕ)) (digests : DigestMap) (entry : Option Entry) (ebuild : Option (List ℕ)) → KeepsDigests look names digests → AreNamed names (names_with entry ebuild) →
    kept_as (get digests) entry ebuild ≡ kept_as (eclass_digest look) entry ebuild
same_kept look names digests None None keeps named = refl
same_kept look names digests None (Some ebuild) keeps named = refl
same_kept look names digests (Some e) None keeps named = refl
same_kept look names digests (Some e) (Some ebuild) keeps named =
    ap (λ (why : Option Why). kept_with e (if is_that e.digest ebuild then why else Some Ebuild)) (same_eclasses look names digests e.eclasses keeps named)

or_left : (a b : Bool) → a ≡ true → (a || b) ≡ true
or_left true b is = refl
or_left false b is = cc

pub all_named : (names : List (List ℕ)) (reads : List PfRead) → ((name : List ℕ) → has_text (flat_map names_in reads) name ≡ true → has_text names name ≡ true) → AllNamed names reads
all_named names [] within = tt
all_named names (r ∷ rs) within = (
  (λ name is. within name (list_any-append (bytes_eq name) (names_in r) (flat_map names_in rs) ∙ or_left _ _ is)),
  all_named names rs (λ name is. within name (list_any-append (bytes_eq name) (names_in r) (flat_map names_in rs) ∙ on_right (has_text (names_in r) name) _ is)),
)

pub all_of_them : (all names : List (List ℕ)) (reads : List PfRead) → all ≡ flat_map names_in reads → HaveSameTexts all names → AllNamed names reads
all_of_them all names reads is same = all_named names reads (λ name there. sym (same name) ∙ ap (λ ns. has_text ns name) is ∙ there)

pub same_all : (look : Look) (names : List (List ℕ)) (digests : DigestMap) (reads : List PfRead) → KeepsDigests look names digests → AllNamed names reads →
    map (pf_kept (get digests)) reads ≡ map (pf_kept (eclass_digest look)) reads
same_all look names digests [] keeps named = refl
same_all look names digests (r ∷ rs) keeps named =
    ap (λ (kept : Kept). let k : PfKept = record { subject = r.subject; kept = kept } in k ∷ map (pf_kept (get digests)) rs) (same_kept look names digests r.entry r.ebuild keeps named.0)
    ∙ ap (λ (ks : List PfKept). pf_kept (eclass_digest look) r ∷ ks) (same_all look names digests rs keeps named.1)
