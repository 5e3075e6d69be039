use Rattle.std.proofs.Common.{[], arith}
use Rattle.std.proofs.lemmas.List.FromFn.{fill_by_all}
use Rattle.split_merge.specs.Plans.{entry_at, entries_of}
use Rattle.split_merge.proofs.planning.entries_in.Goals as goal

pub returns : goal.returns
unfolding entries_of
returns c =
    let all = c.loop-slot.invariant in
    let end = c.loop-slot-test.false in
    fill_by_all (entry_at c.args.full.now) c.loop-slot.entries 64 [] all.0 (λ k below. all.1 k (omega arith))
