use Rattle.std.proofs.Common.{◌≡◌}
use Rattle.data_node.specs.Spots.{IsLiveIn, name_words}
use Rattle.image_rules.specs.Nodes.{image_spot}
use Rattle.image_rules.proofs.LowestLemmas.{NoneBelow}
use Rattle.image_rules.proofs.node.is_repeated.Given as goal

-- no slot that the loop has passed is alike
abbrev pub invariant-loop-lower : goal.invariant-loop-lower
invariant-loop-lower l =
    let s = image_spot l.image.layout l.image.words l.node in
    NoneBelow (λ lower. IsLiveIn s lower × IsLiveIn s l.slot × (name_words s lower ≡ name_words s l.slot)) l.lower
