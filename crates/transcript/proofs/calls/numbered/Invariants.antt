use Rattle.std.proofs.Common.{◌≡◌, ◌++◌, ◌==◌, ℕ, map, take, drop}
use Rattle.std.specs.BTreeMap.{get}
use Rattle.std.specs.Option.{unwrap_or}
use Rattle.std.specs.Ordering.{nat_cmp}
use Rattle.std.specs.Prelude.{count_by}
use Rattle.cat_history.specs.Records.{numbered, numbered_after}
use Rattle.cat_history.specs.declared.op.CallerOp.{CallerOp}
use Rattle.transcript.specs.Calls.{as_numbered}
use Rattle.transcript.proofs.calls.numbered.Given as goal

-- the calls so far and those behind them are all, and each caller's are counted
abbrev pub invariant-loop-call : goal.invariant-loop-call
invariant-loop-call l = record {
  told : l.calls.items ++ map as_numbered (numbered_after (map (λ (a : CallerOp). a.caller) (take l.call-index l.asked)) (drop l.call-index l.asked)) ≡ map as_numbered (numbered l.asked);
  counted : (q : ℕ) → unwrap_or (get nat_cmp l.counts q) 0 ≡ count_by (λ caller. caller == q) (map (λ (a : CallerOp). a.caller) (take l.call-index l.asked));
}
