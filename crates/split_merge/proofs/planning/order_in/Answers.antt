use Rattle.std.proofs.Common.{◌≡◌, ℕ, ◌≤◌, List, length, arith, sym, subst, ap, ◌∙◌}
use Rattle.std.specs.Prelude.{min}
use Rattle.std.specs.List.Sorted.{IsSortedBy}
use Rattle.std.proofs.lemmas.List.{length-take}
use Rattle.data_node.specs.Orders.{listed, comes_before}
use Rattle.split_merge.proofs.Made.{is_order}
use Rattle.split_merge.proofs.Halving.{in_size}
use Rattle.split_merge.proofs.planning.order_in.Goals as goal

pub returns-clause-len : goal.returns-clause-len
returns-clause-len c =
    let e = c.sort_order.ensures in
    let few = c.requires in
    let le = e.len in
    let same = is_order c.args.full.now c.args.slots (listed c.sort_order.result) c.requires e.live
    (subst (λ (entries : List (List ℕ)). IsSortedBy (comes_before entries) (listed c.sort_order.result)) c.entries_in.ensures e.rising) in
    let size : length (listed c.sort_order.result) ≡ c.args.slots = ap length same ∙ in_size c.args.full.now c.args.slots few in
    let short = length-take c.sort_order.result.len c.sort_order.result.slots in
    least_of c.sort_order.result.len (length c.sort_order.result.slots) c.args.slots le (sym short ∙ size)
  where
    least_of : (a b n : ℕ) → a ≤ n → min a b ≡ n → a ≡ n
    least_of a b n le is = omega arith

pub returns-clause-listed : goal.returns-clause-listed
returns-clause-listed c =
    let e = c.sort_order.ensures in
    is_order c.args.full.now c.args.slots (listed c.sort_order.result) c.requires e.live
    (subst (λ (entries : List (List ℕ)). IsSortedBy (comes_before entries) (listed c.sort_order.result)) c.entries_in.ensures e.rising)
