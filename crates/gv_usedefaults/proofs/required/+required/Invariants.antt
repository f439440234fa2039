use Rattle.std.proofs.Common.{◌≡◌, ◌≤◌, ◌+◌, drop, length}
use Rattle.gv_expr.specs.Required.{reqs}
use Rattle.gv_expr.specs.RequiredView.{view_of}
use Rattle.gv_entry.specs.Holds.{reqs_hold, req_members, trues}
use Rattle.gv_usedefaults.specs.Asked.{on_of}
use Rattle.gv_usedefaults.proofs.required.+required.Given as goal

abbrev pub invariant-all_hold-loop-tree : goal.invariant-all_hold-loop-tree
invariant-all_hold-loop-tree l =
    reqs_hold (reqs (view_of (drop l.tree-index l.tree-items))) (on_of l.on) l.empty
    ≡ reqs_hold (reqs l.items) (on_of l.on) l.empty

-- those so far and those that are left are all, and no more than trees were seen
abbrev pub invariant-members_of-loop-tree : goal.invariant-members_of-loop-tree
invariant-members_of-loop-tree l = record {
  members : l.tally.members + length (req_members (reqs (view_of (drop l.tree-index l.tree-items))) (on_of l.on) l.empty)
      ≡ length (req_members (reqs l.items) (on_of l.on) l.empty);
  holding : l.tally.holding + trues (req_members (reqs (view_of (drop l.tree-index l.tree-items))) (on_of l.on) l.empty)
      ≡ trues (req_members (reqs l.items) (on_of l.on) l.empty);
  few : l.tally.members ≤ l.tree-index;
  fewer : l.tally.holding ≤ l.tree-index;
}
