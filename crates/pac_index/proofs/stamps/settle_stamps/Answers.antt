use Rattle.std.proofs.Common.{◌≡◌, ◌<◌, ◌≤◌, List, ℕ, get_or, ap, ◌∙◌, subst, arith}
use Rattle.pm_words.specs.Images.{Row}
use Rattle.pm_words.specs.Locations.{Volatile, address_of}
use Rattle.pm_words.specs.Offsets.{stamp_offset}
use Rattle.pac_index.proofs.Settling.{stored, stayed}
use Rattle.pac_index.proofs.stamps.settle_stamps.Goals as goal
use Rattle.pac_index.proofs.stamps.settle_stamps.Goals.{then-words-address-gt1, else-words-address-gt1}

pub loop-node-preserved : goal.loop-node-preserved
loop-node-preserved c =
    let first : Row = c.args.memory.now in
    let n = c.loop-node.node in
    let row : Row = c.loop-node.memory in
    let inv = c.loop-node.invariant in
    let address : c.node_volatile-address.result ≡ address_of first.layout (Volatile n stamp_offset) = c.node_volatile-address.ensures.address ∙ ap (λ l. address_of l (Volatile n stamp_offset)) c.layout-layout.ensures.layout in
    let many = c.nodes-node-end.ensures in
    let of_first = ap (λ l. l.nodes) c.layout-layout.ensures.layout in
    let here : n < first.layout.nodes = omega (arith, c.loop-node-test.true, many, of_first) in
    elim c.if-words-address-gt1.branch [
      | then-words-address-gt1 w ↦ stored first.layout n c.node_volatile-address.result first.words row c.if-words-address-gt1.memory inv.0 address here c.words.ensures.row
          (subst (λ (v : List ℕ). 1 < get_or v c.node_volatile-address.result 0) c.words.ensures.words w.if-words-address-gt1.true) inv.1 (w.memory-is ∙ w.store.ensures)
      | else-words-address-gt1 w ↦ stayed first.layout n c.node_volatile-address.result first.words row c.if-words-address-gt1.memory inv.0 address here
          (subst (λ (v : List ℕ). get_or v c.node_volatile-address.result 0 ≤ 1) c.words.ensures.words (omega (arith, w.if-words-address-gt1.false))) inv.1 w.memory-is
    ]
