use Rattle.std.proofs.Common.{◌≡◌, ℕ, map, take}
use Rattle.std.specs.BTreeSet.{contains, IsOrdered}
use Rattle.std.specs.List.{list_any}
use Rattle.std.specs.Ordering.{nat_cmp, eq_by_cmp}
use Rattle.cat_history.specs.declared.op.CallerOp.{CallerOp}
use Rattle.transcript.proofs.limit.callers_in.Given as goal

-- the set has the callers so far
abbrev pub invariant-loop-call : goal.invariant-loop-call
invariant-loop-call l = record {
  ordered : IsOrdered nat_cmp l.callers;
  has : (q : ℕ) → contains nat_cmp l.callers q ≡ list_any (eq_by_cmp nat_cmp q) (map (λ (a : CallerOp). a.caller) (take l.call-index l.asked));
}
