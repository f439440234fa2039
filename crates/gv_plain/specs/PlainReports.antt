-- The reports of a repository that need no query: what was noted in reading, and what is told of each package.
use Rattle.std.specs.Prelude.{ℕ, Bool, not, ◌&&◌, if◌then◌else◌, List, [], ◌∷◌, ◌++◌, None, Some, map, filter, flat_map, unwrap_or}
use Rattle.std.specs.List.{list_any}
use Rattle.gv_atom.specs.Grammar.{atom_text}
use Rattle.gv_atom.specs.declared.atom.Atom.{Atom}
use Rattle.gv_expr.specs.Dep.{deps}
use Rattle.gv_expr.specs.Mentions.{mentioned_dep, mentioned_required, wanted_atoms}
use Rattle.gv_expr.specs.Required.{reqs}
use Rattle.gv_facts.specs.Classes.{has_class}
use Rattle.gv_facts.specs.Effective.{is_effective}
use Rattle.gv_facts.specs.Visible.{matches_pkg}
use Rattle.gv_facts.specs.declared.kinds.Class.{Class}
use Rattle.gv_facts.specs.declared.kinds.Class.TheVariants.{Required}
use Rattle.gv_facts.specs.declared.pkg.Pkg.{Pkg}
use Rattle.gv_entry.specs.Queries.{class_in}
use Rattle.gv_entry.specs.declared.entry.Body.{Body}
use Rattle.gv_report.specs.declared.keyword.Keyword.TheVariants as keywords
use Rattle.gv_report.specs.declared.report.Report.{Report}
use Rattle.gv_report.specs.declared.report.Subject.{Subject}
use Rattle.gv_report.specs.declared.report.Subject.TheVariants.{Package}
use Rattle.gv_plain.specs.Cases.{Case, Member, cases_of, members}
use Rattle.gv_plain.specs.Classes.{classes, is_whole}
use Rattle.gv_load.specs.declared.loading.Repo.{Repo}
use Rattle.gv_entry.specs.Allowed.{Parent}
use Rattle.gv_report.specs.declared.report.ContextName.{ContextName}

abbrev pub subject_of : Pkg → Subject
subject_of p = Package p.category p.name p.version p.pf

abbrev pub context_of : Parent → ContextName
context_of c = record { line = c.profile.line; arch = c.profile.arch; path = c.profile.path; level = c.level }

-- of a package, in no context: an atom of a class that matches no package
abbrev pub nonexistent : Pkg → Class → Atom → Report
nonexistent p class atom = record {
  subject = subject_of p;
  keyword = keywords.NonexistentDeps;
  class = Some class;
  context = None;
  witness = None;
  detail = Some (atom_text atom);
}

abbrev pub is_nowhere : List Pkg → Atom → Bool
is_nowhere among atom = not (list_any (matches_pkg atom) among)

-- whether the EAPI has the class, and it isn't broken
abbrev pub is_readable : Pkg → Body → Class → Bool
is_readable p body class = has_class p.eapi class && is_whole body class

abbrev pub readable_classes : Pkg → Body → List Class
readable_classes p body = filter (is_readable p body) classes

-- the atoms of a class that are no blockers; REQUIRED_USE has none
abbrev pub atoms_in : Body → Class → List Atom
atoms_in body class = wanted_atoms (deps (unwrap_or (class_in body class) []))

abbrev pub nonexistent_in : List Pkg → Pkg → Body → Class → List Report
nonexistent_in among p body class = map (nonexistent p class) (filter (is_nowhere among) (atoms_in body class))

-- In a context: a flag that a class mentions and that isn't effective.
abbrev pub unstated : Case → Class → (flag : List ℕ) → Report
unstated c class flag = record {
  subject = subject_of c.parent.pkg;
  keyword = keywords.UnstatedIuse;
  class = Some class;
  context = Some (context_of c.parent);
  witness = None;
  detail = Some flag;
}

-- the flags that a class mentions, in byte order, each once
abbrev pub mentioned_in : Body → Class → List (List ℕ)
mentioned_in body Required = mentioned_required (reqs (unwrap_or body.required []))
mentioned_in body class = mentioned_dep (deps (unwrap_or (class_in body class) []))

abbrev pub is_unstated : Case → List ℕ → Bool
is_unstated c flag = not (is_effective c.parent.pkg c.parent.profile flag)

abbrev pub unstated_in : Case → Class → List Report
unstated_in c class = map (unstated c class) (filter (is_unstated c) (mentioned_in c.member.body class))

-- a live package
abbrev pub live : Case → Report
live c = record {
  subject = subject_of c.parent.pkg;
  keyword = keywords.VisibleVcsPkg;
  class = None;
  context = Some (context_of c.parent);
  witness = None;
  detail = None;
}

abbrev pub live_in : Case → List Report
live_in c = if c.parent.pkg.live then live c ∷ [] else []

abbrev pub case_plain : Case → List Report
case_plain c = flat_map (unstated_in c) (readable_classes c.member.pkg c.member.body) ++ live_in c

abbrev pub member_plain : Repo → Member → List Report
member_plain repo m = flat_map (nonexistent_in repo.pkgs m.pkg m.body) (readable_classes m.pkg m.body) ++ flat_map case_plain (cases_of repo m)

-- what needs no query: what was noted in reading, and of each package these
abbrev pub plain_reports : Repo → List Report
plain_reports repo = repo.notes ++ flat_map (member_plain repo) (members repo)
