-- Values of the definitions on worked examples.
use Rattle.std.specs.Prelude.{◌≡◌, ℕ, Bool, true, false, List, [], ◌∷◌, ◌++◌, Option, None, Some, is_some, option_map, map, codes, refl}
use Rattle.std.specs.Fmt.{digits}
use Rattle.gv_base.specs.Words.{joined}
use Rattle.gv_expr.specs.declared.fault.ExprKind.TheVariants.{TooMany, Depth, Stray, NotHere, BadFlag, BadAtom, Unclosed}
use Rattle.gv_expr.specs.DepGrammar.{item_text}
use Rattle.gv_expr.specs.DepRead.{read_dep}
use Rattle.gv_expr.specs.RequiredRead.{read_required}
use Rattle.gv_facts.specs.declared.kinds.Class.TheVariants.{Required, Depend, Bdepend, Rdepend, Pdepend, Idepend}
use Rattle.gv_facts.specs.declared.kinds.Eapi.{Eapi}
use Rattle.gv_facts.specs.declared.kinds.Eapi.TheVariants.{Five, Six, Seven, Eight}
use Rattle.gv_facts.specs.declared.kinds.FlagState.TheVariants as states
use Rattle.gv_facts.specs.declared.kinds.Level.TheVariants as levels
use Rattle.gv_facts.specs.declared.kinds.Status.TheVariants as statuses
use Rattle.gv_facts.specs.declared.pkg.Pkg.{Pkg}
use Rattle.gv_facts.specs.declared.profile.Profile.{Profile}
use Rattle.gv_facts.specs.declared.rules.Effect.{Effect}
use Rattle.gv_facts.specs.declared.rules.Effect.TheVariants.{Force, Mask}
use Rattle.gv_facts.specs.declared.rules.Rule.{Rule}
use Rattle.gv_facts.specs.Preferred.{preferred}
use Rattle.gv_entry.specs.Allowed.{Parent, agrees, assignment, bits_of, class_holds, first_failing, is_allowed, is_failing, query_flags, required_holds, values_by}
use Rattle.gv_entry.specs.Details.{kind_text, token_detail}
use Rattle.gv_entry.specs.Digests.{digest_in, eclasses_of}
use Rattle.gv_entry.specs.EntryValues.{value_of, slot_of}
use Rattle.gv_entry.specs.EntryRead.{entry_of}
use Rattle.gv_entry.specs.Holds.{any_of, empty_holds, is_met, most_of, one_of}
use Rattle.gv_entry.specs.Least.{least}
use Rattle.gv_entry.specs.Queries.{class_flags, required_flags}
use Rattle.gv_entry.specs.Weight.{weight}

first_line_counts : value_of (codes "RDEPEND") (codes "PDEPEND=a\nRDEPEND=x/y\nRDEPEND=x/z\n") ≡ codes "x/y"
first_line_counts = refl

absent_is_empty : value_of (codes "RDEPEND") (codes "XRDEPEND=a\nRDEPEND\n") ≡ []
absent_is_empty = refl

abbrev details_in : List ℕ → List ℕ
details_in text = joined (map (λ e. e.detail) (entry_of (codes "app") (codes "q-1") text).errors)

unsupported : details_in (codes "EAPI=4\nSLOT=0\nIUSE=?\n") ≡ codes "EAPI: unsupported"
unsupported = refl

second_word : details_in (codes "EAPI=8\nSLOT=0\nKEYWORDS=amd64 ~~x\n") ≡ codes "KEYWORDS: word 2"
unfolding digits
second_word = refl

several : details_in (codes "EAPI=5\nSLOT=0/\nIUSE=a + b\nREQUIRED_USE=a? b\nRDEPEND=( x/y\nBDEPEND=(\n") ≡ codes "SLOT: bad IUSE: word 2 REQUIRED_USE: token 2: stray token RDEPEND: token 3: unclosed group"
unfolding digits
several = refl

kinds : (kind_text TooMany ≡ codes "too many tokens") × (kind_text Depth ≡ codes "depth") × (kind_text Stray ≡ codes "stray token") × (kind_text NotHere ≡ codes "not allowed here")
    × (kind_text BadFlag ≡ codes "bad flag") × (kind_text BadAtom ≡ codes "bad atom") × (kind_text Unclosed ≡ codes "unclosed group")
kinds = (refl, refl, refl, refl, refl, refl, refl)

token_details : (token_detail Required (65, Depth) ≡ codes "REQUIRED_USE: token 65: depth") × (token_detail Depend (1, NotHere) ≡ codes "DEPEND: token 1: not allowed here")
    × (token_detail Bdepend (2, BadAtom) ≡ codes "BDEPEND: token 2: bad atom") × (token_detail Rdepend (100001, TooMany) ≡ codes "RDEPEND: token 100001: too many tokens")
    × (token_detail Pdepend (3, Unclosed) ≡ codes "PDEPEND: token 3: unclosed group") × (token_detail Idepend (10, BadFlag) ≡ codes "IDEPEND: token 10: bad flag")
unfolding digits
token_details = (refl, refl, refl, refl, refl, refl)

no_head : is_some (entry_of (codes "app") (codes "q-1") (codes "EAPI=8\nSLOT=\n")).head ≡ false
no_head = refl

head_parts : option_map (λ p. joined (p.name ∷ p.version ∷ p.slot ∷ p.sub ∷ joined p.iuse ∷ joined p.iuse_plus ∷ [])) (entry_of (codes "app") (codes "q-1.2-r3") (codes "EAPI=8\nSLOT=3/4\nIUSE=+a -b c\nKEYWORDS=-* ~amd64 -x86\n")).head
    ≡ Some (codes "q 1.2-r3 3 4 a b c a")
head_parts = refl

slots : (slot_of (codes "0") ≡ Some (codes "0", codes "0")) × (slot_of (codes "0/") ≡ None) × (slot_of (codes "0/1/2") ≡ None)
slots = (refl, refl, refl)

digest : option_map (map (λ b. b)) (digest_in (codes "d41d8cd98F00b204e9800998ecf8427E"))
    ≡ Some (212 ∷ 29 ∷ 140 ∷ 217 ∷ 143 ∷ 0 ∷ 178 ∷ 4 ∷ 233 ∷ 128 ∷ 9 ∷ 152 ∷ 236 ∷ 248 ∷ 66 ∷ 126 ∷ [])
digest = refl

digest_short : digest_in (codes "d41d8cd98f00b204e9800998ecf8427") ≡ None
digest_short = refl

eclass_names : option_map (map (λ e. e.name)) (eclasses_of (codes "python-r1\td41d8cd98f00b204e9800998ecf8427e\tmulti\td41d8cd98f00b204e9800998ecf8427e"))
    ≡ Some (codes "python-r1" ∷ codes "multi" ∷ [])
eclass_names = refl

no_eclasses : (option_map (map (λ e. e.name)) (eclasses_of []) ≡ Some []) × (eclasses_of (codes "a") ≡ None)
no_eclasses = (refl, refl)

-- Groups by their members' values. A `??` without members holds in every EAPI.
empty_groups : (empty_holds Five ≡ true) × (empty_holds Six ≡ true) × (empty_holds Seven ≡ false) × (empty_holds Eight ≡ false)
empty_groups = (refl, refl, refl, refl)

groups : (any_of true [] ≡ true) × (any_of false [] ≡ false) × (one_of true [] ≡ true) × (one_of false [] ≡ false) × (most_of [] ≡ true)
groups = (refl, refl, refl, refl, refl)

members : (any_of true (false ∷ []) ≡ false) × (any_of false (false ∷ true ∷ []) ≡ true) × (one_of true (false ∷ []) ≡ false) × (one_of false (false ∷ true ∷ []) ≡ true)
    × (one_of false (true ∷ true ∷ []) ≡ false) × (most_of (false ∷ true ∷ []) ≡ true) × (most_of (true ∷ false ∷ true ∷ []) ≡ false)
members = (refl, refl, refl, refl, refl, refl, refl)

met_signs : (is_met false true ≡ true) × (is_met false false ≡ false) × (is_met true true ≡ false) × (is_met true false ≡ true)
met_signs = (refl, refl, refl, refl)

-- CATEGORY/NAME-VERSION with these flags
abbrev pkg_of : (category name version : List ℕ) → Eapi → (iuse : List (List ℕ)) → Pkg
pkg_of category name version eapi iuse = record {
  category = category;
  name = name;
  version = version;
  pf = name ++ codes "-" ++ version;
  eapi = eapi;
  slot = codes "0";
  sub = codes "0";
  keywords = codes "amd64" ∷ [];
  iuse = iuse;
  iuse_plus = [];
  live = false;
}

abbrev rule_of : Effect → List ℕ → Rule
rule_of effect flag = record { effect = effect; stable = false; atom = None; flag = flag; on = true }

-- the flag f is forced and m is masked
abbrev profile : Profile
profile = record {
  line = 1;
  arch = codes "amd64";
  path = codes "base";
  status = statuses.Stable;
  testing = false;
  iuse_implicit = [];
  expand = [];
  expand_implicit = [];
  unprefixed = [];
  values = [];
  masks = [];
  rules = rule_of Force (codes "f") ∷ rule_of Mask (codes "m") ∷ [];
}

-- app/p-1 with the flags a, b, f and m, beside x/y-1 and x/y-2, which have the flag a, and x/none, which isn't there
abbrev parent : Eapi → Parent
parent eapi =
    let p = pkg_of (codes "app") (codes "p") (codes "1") eapi (codes "a" ∷ codes "b" ∷ codes "f" ∷ codes "m" ∷ []) in
    let y1 = pkg_of (codes "x") (codes "y") (codes "1") Eight (codes "a" ∷ []) in
    let y2 = pkg_of (codes "x") (codes "y") (codes "2") Eight (codes "a" ∷ []) in
    record { pkg = p; profile = profile; level = levels.Stable; among = p ∷ y1 ∷ y2 ∷ [] }

abbrev on : List ℕ → Bool
on flag = true

abbrev off : List ℕ → Bool
off flag = false

abbrev class_at : Eapi → List ℕ → (List ℕ → Bool) → Option Bool
class_at eapi text flags = option_map (λ class. class_holds (parent eapi) class flags) (read_dep text)

abbrev required_at : Eapi → List ℕ → (List ℕ → Bool) → Option Bool
required_at eapi text flags = option_map (λ required. required_holds (parent eapi) required flags) (read_required text)

-- a `||` that is empty, or whose one member isn't enabled, in each EAPI
empty_any : (class_at Five (codes "|| ( )") off ≡ Some true) × (class_at Six (codes "|| ( )") off ≡ Some true) × (class_at Seven (codes "|| ( )") off ≡ Some false) × (class_at Eight (codes "|| ( )") off ≡ Some false)
empty_any = (refl, refl, refl, refl)

disabled_member : (class_at Six (codes "|| ( a? ( x/y ) )") off ≡ Some true) × (class_at Seven (codes "|| ( a? ( x/y ) )") off ≡ Some false)
    × (class_at Eight (codes "|| ( !a? ( x/y ) )") off ≡ Some true) × (class_at Six (codes "|| ( a? ( x/none ) )") on ≡ Some false)
disabled_member = (refl, refl, refl, refl)

-- elsewhere a conditional that isn't enabled holds, within a group that is a member too
conditionals : (class_at Eight (codes "a? ( x/none )") off ≡ Some true) × (class_at Eight (codes "a? ( x/none )") on ≡ Some false) × (class_at Eight (codes "!a? ( x/none )") off ≡ Some false)
    × (class_at Eight (codes "|| ( ( a? ( x/none ) ) )") off ≡ Some true) × (class_at Eight (codes "|| ( ( ) )") off ≡ Some true)
conditionals = (refl, refl, refl, refl, refl)

atoms : (class_at Eight (codes "x/y") off ≡ Some true) × (class_at Eight (codes ">x/y-2") off ≡ Some false) × (class_at Eight (codes "x/y x/none") off ≡ Some false) × (class_at Eight (codes "|| ( x/none x/y )") off ≡ Some true)
    × (class_at Eight (codes "!x/y") off ≡ Some true) × (class_at Eight (codes "!!x/none") off ≡ Some true)
atoms = (refl, refl, refl, refl, refl, refl)

asked_of_parent : (class_at Eight (codes "x/y[a?,-a]") off ≡ Some true) × (class_at Eight (codes "x/y[a?,-a]") on ≡ Some false) × (class_at Eight (codes "x/y[g(+)]") off ≡ Some true) × (class_at Eight (codes "x/y[g]") off ≡ Some false)
asked_of_parent = (refl, refl, refl, refl)

-- the groups of REQUIRED_USE, empty or with members that aren't enabled
empty_required : (required_at Six (codes "|| ( )") off ≡ Some true) × (required_at Seven (codes "|| ( )") off ≡ Some false) × (required_at Six (codes "^^ ( a? ( b ) )") off ≡ Some true)
    × (required_at Seven (codes "^^ ( a? ( b ) )") off ≡ Some false) × (required_at Six (codes "?? ( )") off ≡ Some true) × (required_at Eight (codes "?? ( a? ( b ) )") off ≡ Some true)
empty_required = (refl, refl, refl, refl, refl, refl)

required_members : (required_at Eight (codes "^^ ( a b )") on ≡ Some false) × (required_at Eight (codes "^^ ( a !b )") on ≡ Some true) × (required_at Eight (codes "?? ( a b )") on ≡ Some false)
    × (required_at Eight (codes "?? ( a !b )") on ≡ Some true) × (required_at Eight (codes "^^ ( a !b? ( c ) )") on ≡ Some true) × (required_at Eight (codes "^^ ( a ( !b? ( c ) ) )") on ≡ Some false)
    × (required_at Eight (codes "a !b") on ≡ Some false) × (required_at Eight (codes "a? ( !b )") off ≡ Some true)
required_members = (refl, refl, refl, refl, refl, refl, refl, refl)

-- States and bits: an absent flag is off.
states_agree : (agrees states.On true ≡ true) × (agrees states.On false ≡ false) × (agrees states.Off true ≡ false) × (agrees states.Off false ≡ true)
    × (agrees states.Free true ≡ true) × (agrees states.Free false ≡ true) × (agrees states.Absent true ≡ false) × (agrees states.Absent false ≡ true)
states_agree = (refl, refl, refl, refl, refl, refl, refl, refl)

-- in byte order, each once; f is forced, m is masked and z is absent
query_flags_of : query_flags (parent Eight) (codes "b" ∷ codes "m" ∷ codes "a" ∷ codes "f" ∷ codes "z" ∷ codes "b" ∷ []) ≡ codes "a" ∷ codes "b" ∷ []
query_flags_of = refl

abbrev flags_in : (required class : List ℕ) → Option (List (List ℕ) × List (List ℕ))
flags_in required class =
    elim (read_required required) [
      | Some rs ↦ option_map (λ ds. (required_flags (parent Eight) rs, class_flags (parent Eight) rs ds)) (read_dep class)
      | None ↦ None
    ]

-- a blocker mentions no flag, and no item that asks the same of every parent does
flags_of_queries : flags_in (codes "b? ( f )") (codes "x/y[a?,b] !x/y[a=]") ≡ Some (codes "b" ∷ [], codes "a" ∷ codes "b" ∷ [])
flags_of_queries = refl

forced_is_on : (assignment (parent Eight) (codes "a" ∷ []) (true ∷ []) (codes "a") ≡ true) × (assignment (parent Eight) (codes "a" ∷ []) (true ∷ []) (codes "f") ≡ true)
    × (assignment (parent Eight) (codes "a" ∷ []) (true ∷ []) (codes "m") ≡ false) × (assignment (parent Eight) (codes "a" ∷ []) (true ∷ []) (codes "z") ≡ false)
forced_is_on = (refl, refl, refl, refl)

-- the bits of a and b
abbrev allowed_at : List ℕ → List Bool → Option Bool
allowed_at required bits = option_map (λ rs. is_allowed (parent Eight) rs (codes "a" ∷ codes "b" ∷ []) bits) (read_required required)

allowed_bits : (allowed_at (codes "|| ( a b )") (false ∷ false ∷ []) ≡ Some false) × (allowed_at (codes "|| ( a b )") (false ∷ true ∷ []) ≡ Some true) × (allowed_at (codes "f !m !z") (false ∷ false ∷ []) ≡ Some true)
allowed_bits = (refl, refl, refl)

abbrev failing_at : (required class : List ℕ) → List Bool → Option Bool
failing_at required class bits =
    elim (read_required required) [ Some rs ↦ option_map (λ ds. is_failing (parent Eight) rs ds (codes "a" ∷ codes "b" ∷ []) bits) (read_dep class) | None ↦ None ]

-- allowed, and the class doesn't hold: where it holds, and where REQUIRED_USE doesn't, nothing fails
failing_bits : (failing_at (codes "|| ( a b )") (codes "!b? ( x/none )") (true ∷ false ∷ []) ≡ Some true) × (failing_at (codes "|| ( a b )") (codes "!b? ( x/none )") (false ∷ false ∷ []) ≡ Some false)
    × (failing_at (codes "|| ( a b )") (codes "!b? ( x/none )") (true ∷ true ∷ []) ≡ Some false)
failing_bits = (refl, refl, refl)

least_failing_bits : elim (read_required (codes "|| ( a b )")) [ Some rs ↦ option_map (λ ds. least (is_failing (parent Eight) rs ds (codes "a" ∷ codes "b" ∷ [])) 2) (read_dep (codes "x/none")) | None ↦ None ]
    ≡ Some (Some (false ∷ true ∷ []))
least_failing_bits = refl

abbrev first_failing_text : List ℕ → (List ℕ → Bool) → Option (Option (List ℕ))
first_failing_text text flags = option_map (λ ds. option_map item_text (first_failing (parent Eight) ds flags)) (read_dep text)

first_failing_item : (first_failing_text (codes "x/y a? ( x/none ) x/no") off ≡ Some (Some (codes "x/no"))) × (first_failing_text (codes "x/y a? ( x/none ) x/no") on ≡ Some (Some (codes "a? ( x/none )")))
    × (first_failing_text (codes "x/y !x/y") on ≡ Some None)
first_failing_item = (refl, refl, refl)

abbrev weight_at : (required class : List ℕ) → Option ℕ
weight_at required class = elim (read_required required) [ Some rs ↦ option_map (weight (parent Eight) rs) (read_dep class) | None ↦ None ]

-- 4 tokens and 6; two packages, each one and its two items; two more by themselves; nothing for a blocker
weight_of : weight_at (codes "a? ( b )") (codes "x/y[a,-b] || ( x/y !x/y[a] )") ≡ Some 18
weight_of = refl

-- app/p-1 where it prefers a on
abbrev preferring_pkg : Pkg
preferring_pkg = record (pkg_of (codes "app") (codes "p") (codes "1") Eight (codes "a" ∷ codes "b" ∷ [])) { iuse_plus = codes "a" ∷ [] }

abbrev preferring : Parent
preferring = record { pkg = preferring_pkg; profile = profile; level = levels.Stable; among = preferring_pkg ∷ [] }

abbrev preferred_bits : List Bool → List ℕ → Bool
preferred_bits bits flag = assignment preferring (codes "a" ∷ codes "b" ∷ []) bits flag

-- a bit says that the flag hasn't its preferred value
preferred_values : (preferred_bits (false ∷ false ∷ []) (codes "a") ≡ true) × (preferred_bits (true ∷ false ∷ []) (codes "a") ≡ false) × (preferred_bits (false ∷ true ∷ []) (codes "b") ≡ true)
    × (bits_of preferring_pkg (codes "a" ∷ codes "b" ∷ []) on ≡ false ∷ true ∷ []) × (bits_of preferring_pkg (codes "a" ∷ codes "b" ∷ []) off ≡ true ∷ false ∷ [])
    × (values_by (preferred preferring_pkg (codes "a" ∷ codes "b" ∷ [])) (false ∷ true ∷ []) ≡ true ∷ true ∷ [])
preferred_values = (refl, refl, refl, refl, refl, refl)

-- where a is on as it is preferred, b has to be on
least_deviation : option_map (λ ds. least (is_failing preferring [] ds (codes "a" ∷ codes "b" ∷ [])) 2) (read_dep (codes "!a? ( x/none ) b? ( x/none )")) ≡ Some (Some (false ∷ true ∷ []))
least_deviation = refl

-- off before on, flag by flag
least_of_two : least (λ bits. one_of false bits) 2 ≡ Some (false ∷ true ∷ [])
least_of_two = refl

least_of_none : least (λ bits. false) 3 ≡ None
least_of_none = refl
