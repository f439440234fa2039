-- Values of the definitions on worked examples.
use Rattle.std.specs.Prelude.{◌≡◌, ℕ, Bool, true, false, List, [], ◌∷◌, Option, None, Some, map, option_map, codes, refl}
use Rattle.std.specs.Option.{option_map_or}
use Rattle.gv_base.specs.Order.{has_text}
use Rattle.gv_base.specs.Words.{words_of}
use Rattle.gv_atom.specs.Reading.{read_atom}
use Rattle.gv_facts.specs.declared.kinds.Eapi.TheVariants.{Five, Six, Seven, Eight}
use Rattle.gv_facts.specs.declared.kinds.Class.{Class}
use Rattle.gv_facts.specs.declared.kinds.Class.TheVariants.{Required, Depend, Rdepend, Pdepend, Bdepend, Idepend}
use Rattle.gv_facts.specs.declared.kinds.Level.{Level}
use Rattle.gv_facts.specs.declared.kinds.Level.TheVariants as levels
use Rattle.gv_facts.specs.declared.kinds.Status.TheVariants as statuses
use Rattle.gv_facts.specs.declared.kinds.FlagState.{FlagState}
use Rattle.gv_facts.specs.declared.kinds.FlagState.TheVariants.{Absent, Off, On, Free}
use Rattle.gv_facts.specs.declared.pkg.Pkg.{Pkg}
use Rattle.gv_facts.specs.declared.profile.Profile.{Profile}
use Rattle.gv_facts.specs.declared.rules.Rule.{Rule}
use Rattle.gv_facts.specs.declared.rules.Effect.TheVariants.{Force, Mask}
use Rattle.gv_facts.specs.Classes.{has_class}
use Rattle.gv_facts.specs.Effective.{effective, is_effective}
use Rattle.gv_facts.specs.Places.{places_of}
use Rattle.gv_facts.specs.Preferred.{preferred, preferred_on}
use Rattle.gv_facts.specs.States.{is_restricted, state}
use Rattle.gv_facts.specs.Visible.{judged, visible}
use Rattle.gv_facts.specs.AtomMet.{atom_met}

-- every text has the value
abbrev Each : {A : Type 0} → (List ℕ → A) → A → List (List ℕ) → Type 0
Each f value texts = map f texts ≡ map (λ text. value) texts

abbrev all_classes : List Class
all_classes = Required ∷ Depend ∷ Rdepend ∷ Pdepend ∷ Bdepend ∷ Idepend ∷ []

-- BDEPEND from EAPI 7 on, IDEPEND from 8 on, the others always
classes : (map (has_class Five) all_classes ≡ true ∷ true ∷ true ∷ true ∷ false ∷ false ∷ []) × (map (has_class Six) all_classes ≡ true ∷ true ∷ true ∷ true ∷ false ∷ false ∷ [])
    × (map (has_class Seven) all_classes ≡ true ∷ true ∷ true ∷ true ∷ true ∷ false ∷ []) × (map (has_class Eight) all_classes ≡ true ∷ true ∷ true ∷ true ∷ true ∷ true ∷ [])
classes = (refl, refl, refl, refl)

-- x/y-1 with these keywords
abbrev y_with : List (List ℕ) → Pkg
y_with keywords = record {
  category = codes "x";
  name = codes "y";
  version = codes "1";
  pf = codes "y-1";
  eapi = Eight;
  slot = codes "0";
  sub = codes "0";
  keywords = keywords;
  iuse = codes "a" ∷ codes "b" ∷ [];
  iuse_plus = [];
  live = false;
}

abbrev base_with : List Rule → Profile
base_with rules = record {
  line = 1;
  arch = codes "amd64";
  path = codes "base";
  status = statuses.Stable;
  testing = false;
  iuse_implicit = codes "prefix" ∷ codes "a" ∷ [];
  expand = codes "PYTHON_TARGETS" ∷ codes "ELIBC" ∷ [];
  expand_implicit = codes "ELIBC" ∷ codes "ARCH" ∷ [];
  unprefixed = codes "ARCH" ∷ [];
  values = record { name = codes "ELIBC"; words = codes "glibc" ∷ codes "musl" ∷ [] } ∷ record { name = codes "ARCH"; words = codes "amd64" ∷ [] } ∷ [];
  masks = [];
  rules = rules;
}

abbrev stable_pkg : Pkg
stable_pkg = y_with (codes "amd64" ∷ [])

four_sources : effective stable_pkg (base_with [])
    ≡ codes "a" ∷ codes "amd64" ∷ codes "b" ∷ codes "elibc_glibc" ∷ codes "elibc_musl" ∷ codes "prefix" ∷ []
four_sources = refl

abbrev masked : Rule
masked = record { effect = Mask; stable = false; atom = None; flag = codes "a"; on = true }

abbrev forced : Rule
forced = record masked { effect = Force }

abbrev state_with : List Rule → Level → FlagState
state_with rules level = state stable_pkg (base_with rules) level (codes "a")

free : state_with [] levels.Stable ≡ Free
free = refl

mask_wins : state_with (masked ∷ forced ∷ []) levels.Stable ≡ Off
mask_wins = refl

undone : state_with (masked ∷ record masked { on = false } ∷ forced ∷ []) levels.Stable ≡ On
undone = refl

stable_at_stable : state_with (record masked { stable = true } ∷ []) levels.Stable ≡ Off
stable_at_stable = refl

-- at testing the package would be accepted with `~amd64` too
stable_at_testing : state_with (record masked { stable = true } ∷ []) levels.Testing ≡ Free
stable_at_testing = refl

other_atom : state_with (record masked { atom = read_atom (codes "<x/y-1") } ∷ []) levels.Stable ≡ Free
other_atom = refl

absent : state stable_pkg (base_with []) levels.Stable (codes "z") ≡ Absent
absent = refl

judged_levels : (judged stable_pkg (base_with []) ≡ Some levels.Stable) × (judged (y_with (codes "~amd64" ∷ [])) (base_with []) ≡ Some levels.Testing)
    × (judged (y_with (codes "-*" ∷ codes "x86" ∷ [])) (base_with []) ≡ None)
judged_levels = (refl, refl, refl)

-- in a profile that accepts `~amd64`
abbrev accepting : Profile
accepting = record (base_with []) { testing = true }

judged_at_testing : (judged stable_pkg accepting ≡ Some levels.Testing) × (judged (y_with (codes "~amd64" ∷ [])) accepting ≡ Some levels.Testing)
    × (judged (y_with (codes "-*" ∷ codes "x86" ∷ [])) accepting ≡ None)
judged_at_testing = (refl, refl, refl)

seen : (visible (y_with (codes "~amd64" ∷ [])) (base_with []) levels.Stable ≡ false) × (visible (y_with (codes "~amd64" ∷ [])) (base_with []) levels.Testing ≡ true)
seen = (refl, refl)

-- IUSE has a with `+`
abbrev preferring : Pkg
preferring = record stable_pkg { iuse_plus = codes "a" ∷ [] }

preferred_flags : (map (preferred_on preferring) (codes "a" ∷ codes "b" ∷ codes "z" ∷ []) ≡ true ∷ false ∷ false ∷ []) × (preferred stable_pkg (codes "a" ∷ codes "b" ∷ []) ≡ false ∷ false ∷ [])
preferred_flags = (refl, refl)

-- Masks.

abbrev masking : (line : List ℕ) → Profile
masking line = record (base_with []) { masks = option_map_or (λ atom. record { text = line; atom = atom } ∷ []) (read_atom line) [] }

abbrev judged_under : (line : List ℕ) → Option Level
judged_under line = judged stable_pkg (masking line)

hidden : Each judged_under None (codes "x/y" ∷ codes "=x/y-1" ∷ codes "<x/y-2" ∷ codes "x/y:0" ∷ codes "x/y:0/0" ∷ [])
hidden = refl

not_hidden : Each judged_under (Some levels.Stable) (codes "x/z" ∷ codes "z/y" ∷ codes "=x/y-2" ∷ codes "x/y:1" ∷ codes "x/y:0/1" ∷ [])
not_hidden = refl

masked_at_no_level : (visible stable_pkg (masking (codes "x/y")) levels.Stable ≡ false) × (visible stable_pkg (masking (codes "x/y")) levels.Testing ≡ false)
masked_at_no_level = (refl, refl)

-- Effective flags.

abbrev has_flag : (flag : List ℕ) → Bool
has_flag flag = is_effective stable_pkg (base_with []) flag

there : Each has_flag true (codes "a" ∷ codes "b" ∷ codes "prefix" ∷ codes "elibc_glibc" ∷ codes "elibc_musl" ∷ codes "amd64" ∷ [])
there = refl

-- PYTHON_TARGETS isn't implicit, ARCH isn't prefixed, ELIBC is
not_there : Each has_flag false (codes "python_targets_python3_12" ∷ codes "arch_amd64" ∷ codes "glibc" ∷ codes "ELIBC_glibc" ∷ codes "elibc_" ∷ codes "elibcglibc" ∷ codes "A" ∷ [])
not_there = refl

-- Stable restrictions.

abbrev restricts : Level → (keywords : List ℕ) → Bool
restricts level keywords = is_restricted (y_with (words_of keywords)) (base_with []) level

restricted : Each (restricts levels.Stable) true (codes "amd64" ∷ codes "~amd64 amd64" ∷ codes "-* amd64" ∷ [])
restricted = refl

not_accepted : Each (restricts levels.Stable) false (codes "~amd64" ∷ codes "x86" ∷ codes "-amd64" ∷ codes "" ∷ [])
not_accepted = refl

never_at_testing : Each (restricts levels.Testing) false (codes "amd64" ∷ codes "~amd64" ∷ codes "~amd64 amd64" ∷ codes "x86" ∷ [])
never_at_testing = refl

-- Atoms met among x/y-1 alone, which has a forced, a masked and a free flag.

abbrev flagged : Pkg
flagged = record stable_pkg { iuse = codes "forced" ∷ codes "masked" ∷ codes "free" ∷ [] }

abbrev flagging : Profile
flagging = base_with (record forced { flag = codes "forced" } ∷ record masked { flag = codes "masked" } ∷ [])

-- where all flags of the package with the atom are on, or all off; None where the text is no atom
abbrev met_where : (parent : Bool) → (text : List ℕ) → Option Bool
met_where parent text = option_map (atom_met (flagged ∷ []) flagging levels.Stable (λ flag. parent)) (read_atom text)

abbrev met : (text : List ℕ) → Option Bool
met text = met_where true text

matched : Each met (Some true) (codes "x/y" ∷ codes "=x/y-1" ∷ codes "<x/y-2" ∷ codes "x/y:0" ∷ codes "x/y:=" ∷ [])
matched = refl

not_matched : Each met (Some false) (codes "x/z" ∷ codes "z/y" ∷ codes ">x/y-1" ∷ codes "x/y:1" ∷ codes "x/y:0/1" ∷ [])
not_matched = refl

-- as the states allow it
states_allow : Each met (Some true) (codes "x/y[forced]" ∷ codes "x/y[-masked]" ∷ codes "x/y[free]" ∷ codes "x/y[-free]" ∷ codes "x/y[forced,-masked,free]" ∷ [])
states_allow = refl

states_forbid : Each met (Some false) (codes "x/y[-forced]" ∷ codes "x/y[masked]" ∷ codes "x/y[forced,masked]" ∷ codes "x/y[-free,-forced]" ∷ [])
states_forbid = refl

-- a default stands for an absent flag, and for no other
defaults_given : Each met (Some true) (codes "x/y[absent(+)]" ∷ codes "x/y[-absent(-)]" ∷ codes "x/y[forced(-)]" ∷ codes "x/y[-masked(+)]" ∷ [])
defaults_given = refl

defaults_refused : Each met (Some false) (codes "x/y[absent]" ∷ codes "x/y[-absent]" ∷ codes "x/y[absent(-)]" ∷ codes "x/y[-absent(+)]" ∷ codes "x/y[masked(+)]" ∷ codes "x/y[-forced(-)]" ∷ [])
defaults_refused = refl

-- two items of one flag are given by one setting, but each by its own default
two_items : Each met (Some true) (codes "x/y[free,free]" ∷ codes "x/y[forced,forced(-)]" ∷ codes "x/y[absent(+),-absent(-)]" ∷ [])
two_items = refl

at_odds : Each met (Some false) (codes "x/y[free,-free]" ∷ codes "x/y[-free,free?]" ∷ codes "x/y[absent(+),-absent(+)]" ∷ [])
at_odds = refl

-- items that look at the flag of the package with the atom
where_on : Each (met_where true) (Some true) (codes "x/y[forced=]" ∷ codes "x/y[!masked=]" ∷ codes "x/y[forced?]" ∷ codes "x/y[!forced?]" ∷ codes "x/y[!masked?]" ∷ codes "x/y[!absent?]" ∷ [])
where_on = refl

not_where_on : Each (met_where true) (Some false) (codes "x/y[masked=]" ∷ codes "x/y[!forced=]" ∷ codes "x/y[masked?]" ∷ codes "x/y[absent?]" ∷ [])
not_where_on = refl

where_off : Each (met_where false) (Some true) (codes "x/y[masked=]" ∷ codes "x/y[!forced=]" ∷ codes "x/y[masked?]" ∷ codes "x/y[forced?]" ∷ codes "x/y[!masked?]" ∷ codes "x/y[absent?]" ∷ [])
where_off = refl

not_where_off : Each (met_where false) (Some false) (codes "x/y[forced=]" ∷ codes "x/y[!masked=]" ∷ codes "x/y[!forced?]" ∷ codes "x/y[!absent?]" ∷ [])
not_where_off = refl

-- a blocker is met, whatever it names
blockers : Each met (Some true) (codes "!x/y" ∷ codes "!!x/y" ∷ codes "!x/z" ∷ codes "!x/y[masked]" ∷ [])
blockers = refl

-- a package that isn't shown meets nothing
abbrev met_at : Level → Profile → Pkg → Option Bool
met_at level profile p = option_map (atom_met (p ∷ []) profile level (λ flag. true)) (read_atom (codes "x/y"))

abbrev testing_pkg : Pkg
testing_pkg = y_with (codes "~amd64" ∷ [])

not_shown : (met_at levels.Stable (base_with []) testing_pkg ≡ Some false) × (met_at levels.Testing (base_with []) testing_pkg ≡ Some true) × (met_at levels.Stable (masking (codes "x/y")) stable_pkg ≡ Some false)
not_shown = (refl, refl, refl)

-- one package of several is enough, and all is asked of that one
abbrev without_flags : Pkg
without_flags = record stable_pkg { version = codes "2"; iuse = [] }

abbrev met_by_two : (text : List ℕ) → Option Bool
met_by_two text = option_map (atom_met (without_flags ∷ flagged ∷ []) flagging levels.Stable (λ flag. true)) (read_atom text)

some_package : Each met_by_two (Some true) (codes "x/y[free]" ∷ codes ">x/y-1" ∷ codes "=x/y-2" ∷ codes "=x/y-1[forced]" ∷ [])
some_package = refl

no_one_package : Each met_by_two (Some false) (codes "=x/y-2[free]" ∷ codes ">x/y-2" ∷ [])
no_one_package = refl

no_packages : option_map (atom_met [] flagging levels.Stable (λ flag. true)) (read_atom (codes "x/y")) ≡ Some false
no_packages = refl

-- Places.

in_places : (places_of (has_text (codes "b" ∷ [])) (codes "b" ∷ codes "a" ∷ codes "b" ∷ []) ≡ 0 ∷ 2 ∷ []) × (places_of (has_text []) (codes "b" ∷ []) ≡ [])
in_places = (refl, refl)
