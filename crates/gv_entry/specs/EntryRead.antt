-- What a cache entry says (PMS chapters 7 and 14): a package, its expressions, and errors.
use Rattle.std.specs.Prelude.{ℕ, ◌+◌, Bool, if◌then◌else◌, List, [], take, drop, map, filter, Option, None, Some, unwrap_or, codes}
use Rattle.gv_base.specs.Order.{has_text}
use Rattle.gv_base.specs.Words.{tokens_of}
use Rattle.gv_version.specs.Bytes.{begins_with, is_one_of}
use Rattle.gv_version.specs.Names.{split_pf}
use Rattle.gv_expr.specs.Dep.{Dep}
use Rattle.gv_expr.specs.DepRead.{read_dep}
use Rattle.gv_expr.specs.RequiredRead.{read_required}
use Rattle.gv_facts.specs.declared.kinds.Eapi.{Eapi}
use Rattle.gv_facts.specs.declared.kinds.Class.{Class}
use Rattle.gv_facts.specs.declared.kinds.Class.TheVariants.{Required, Depend, Bdepend, Rdepend, Pdepend, Idepend}
use Rattle.gv_facts.specs.declared.pkg.Pkg.{Pkg}
use Rattle.gv_facts.specs.Classes.{class_text, has_class}
use Rattle.gv_entry.specs.declared.entry.Body.{Body}
use Rattle.gv_entry.specs.declared.entry.Entry.{Entry}
use Rattle.gv_entry.specs.declared.entry.EntryError.{EntryError}
use Rattle.gv_entry.specs.Details.{details_of, errors_of}
use Rattle.gv_entry.specs.Digests.{digest_in, eclasses_of}
use Rattle.gv_entry.specs.EntryValues.{value_of, eapi_of, slot_of, is_keyword_word, is_iuse_word, bad_word, unmarked}

-- The package.
abbrev pub has_sign : (signs word : List ℕ) → Bool
has_sign signs word = begins_with (is_one_of signs) word

-- of a PF that is divided at the hyphen, with these words
abbrev pub pkg_with : (category pf : List ℕ) → (hyphen : ℕ) → Eapi → List ℕ × List ℕ → (keywords iuse properties : List (List ℕ)) → Pkg
pkg_with category pf hyphen eapi slot keywords iuse properties = record {
  category = category;
  name = take hyphen pf;
  version = drop (hyphen + 1) pf;
  pf = pf;
  eapi = eapi;
  slot = slot.0;
  sub = slot.1;
  keywords = keywords;
  iuse = map (unmarked (codes "+-")) iuse;
  iuse_plus = map (drop 1) (filter (has_sign (codes "+")) iuse);
  live = has_text properties (codes "live");
}

-- a package where there is a slot and no bad word
abbrev pub head_with : (category pf : List ℕ) → Eapi → Option (List ℕ × List ℕ) → (bad_keyword bad_flag : Option ℕ) → (keywords iuse properties : List (List ℕ)) → Option Pkg
head_with category pf eapi (Some slot) None None keywords iuse properties = Some (pkg_with category pf (unwrap_or (split_pf pf) 0) eapi slot keywords iuse properties)
head_with category pf eapi slot bad_keyword bad_flag keywords iuse properties = None

abbrev pub head_of : (category pf : List ℕ) → Option Eapi → (text : List ℕ) → Option Pkg
head_of category pf None text = None
head_of category pf (Some eapi) text =
    head_with category pf eapi (slot_of (value_of (codes "SLOT") text))
    (bad_word is_keyword_word (value_of (codes "KEYWORDS") text))
    (bad_word is_iuse_word (value_of (codes "IUSE") text))
    (tokens_of (value_of (codes "KEYWORDS") text))
    (tokens_of (value_of (codes "IUSE") text))
    (tokens_of (value_of (codes "PROPERTIES") text))

-- Its expressions; a class that the EAPI lacks is empty.
abbrev pub dep_in : Eapi → (text : List ℕ) → Class → Option (List Dep)
dep_in eapi text class = if has_class eapi class then read_dep (value_of (class_text class) text) else Some []

abbrev pub body_of : Option Eapi → (text : List ℕ) → Body
body_of None text = record { required = Some []; depend = Some []; bdepend = Some []; rdepend = Some []; pdepend = Some []; idepend = Some [] }
body_of (Some eapi) text = record {
  required = read_required (value_of (class_text Required) text);
  depend = dep_in eapi text Depend;
  bdepend = dep_in eapi text Bdepend;
  rdepend = dep_in eapi text Rdepend;
  pdepend = dep_in eapi text Pdepend;
  idepend = dep_in eapi text Idepend;
}

abbrev pub entry_with : (text : List ℕ) → Option Pkg → Body → List EntryError → Entry
entry_with text head body errors = record {
  digest = digest_in (value_of (codes "_md5_") text);
  eclasses = eclasses_of (value_of (codes "_eclasses_") text);
  head = head;
  body = body;
  errors = errors;
}

abbrev pub entry_of : (category pf text : List ℕ) → Entry
entry_of category pf text =
    let eapi = eapi_of (value_of (codes "EAPI") text) in
    entry_with text (head_of category pf eapi text) (body_of eapi text) (errors_of (details_of eapi text))
