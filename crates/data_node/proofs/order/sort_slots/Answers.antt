use Rattle.std.proofs.Common.{rules}
use Rattle.std.proofs.lemmas.Fn.{always_returns_same}
use Rattle.data_node.specs.Orders.{words_in}
use Rattle.data_node.proofs.order.sort_slots.Goals as goal

pub returns-clause-rising : goal.returns-clause-rising
returns-clause-rising c =
    c.sort_unstable_by_key.ensures.sorted (λ slot. record { 0 = words_in c.args.entries.now slot; 1 = slot }) (always_returns_same _ _ _ (λ a r f called. (search rules, search rules)))
