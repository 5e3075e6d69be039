use Rattle.std.proofs.Common.{◌≡◌, ◌∙◌, List, take, ap, arith}
use Rattle.std.proofs.lemmas.List.{take_all}
use Rattle.cat_key.specs.declared.Pair.{Pair}
use Rattle.cat_history.specs.Maps.{map_of}
use Rattle.cat_history.specs.Scans.{range}
use Rattle.member_map.proofs.OrderedPairs.{lying, lying-range}
use Rattle.member_map.proofs.targets.first_in_target.Goals as goal

pub returns-clause-first : goal.returns-clause-first
returns-clause-first c =
    let pairs = c.args.pairs.now in
    let low = c.args.low.now in
    let high = c.next_bound-high.result in
    let all : take c.loop-pair.pair-index pairs ≡ pairs = take_all c.loop-pair.pair-index pairs (omega (arith, c.loop-pair-test.false)) in
    c.loop-pair.invariant.first
    ∙ ap (λ (ps : List Pair). take c.args.count (lying low high ps)) all
    ∙ ap (take c.args.count) (lying-range (map_of pairs) low high pairs c.requires.in_order)
    ∙ ap (λ h. take c.args.count (range (map_of pairs) low h)) c.next_bound-high.ensures
