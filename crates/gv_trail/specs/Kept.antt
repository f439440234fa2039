-- What is kept between the fields of a trail: its model and its invariant.
use Rattle.std.specs.Prelude.{◌≡◌, ◌<◌, ◌≤◌, ◌*◌, ◌^◌, false, length, replicate, vec_capacity}
use Rattle.gv_trail.specs.declared.trail.Trail.TheInside.{Inside}
use Rattle.gv_trail.specs.Cause.{entries_of}
use Rattle.gv_trail.specs.Entries.{State, made_true, AreLevels}
use Rattle.gv_trail.specs.WatchFields.{links_of}
use Rattle.gv_trail.specs.Marks.{AreFresh}

abbrev pub state_of : Inside → State
state_of t = record {
  variables = length t.causes.items;
  entries = entries_of t.causes.items t.lits.items;
  level = t.level;
  watched = record { links = links_of t.watches; apart = t.apart.items; seen = t.seen; sure = t.sure; lasting = t.lasting };
}

pub record IsKept (t : Inside) : Type 0 where
  pub marked : t.on.items ≡ made_true (replicate (2 * length t.causes.items) false) (entries_of t.causes.items t.lits.items)
  pub fresh : AreFresh (replicate (2 * length t.causes.items) false) (entries_of t.causes.items t.lits.items)
  pub levels : AreLevels 0 (entries_of t.causes.items t.lits.items) t.level
  pub few : 2 * length t.causes.items < 2 ^ 32
  pub room : 2 * length t.causes.items ≤ vec_capacity t.lits
