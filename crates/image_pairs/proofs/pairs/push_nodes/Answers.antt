use Rattle.std.proofs.Common.{◌∙◌, List, sym, arith}
use Rattle.std.specs.FinMap.{empty}
use Rattle.cat_key.specs.declared.Pair.{Pair}
use Rattle.image_rules.specs.Nodes.{image_spot, image_range}
use Rattle.image_rules.specs.Sound.{with_slots}
use Rattle.image_pairs.proofs.PairWalks.{pairs_begin, pairs_end, pairs_on, next_within}
use Rattle.image_pairs.proofs.pairs.push_nodes.Goals as goal

pub loop-position-init : goal.loop-position-init
loop-position-init c =
    let l = c.args.image.now.layout in
    let some = c.layout.ensures.image.layout.nodes in
    record { here = omega arith; takes = pairs_begin l c.args.image.now.words c.requires.sound (omega arith) c.args.pairs.now.items c.requires.none }

pub returns-then-next-eq0 : goal.returns-then-next-eq0
returns-then-next-eq0 c =
    let l = c.args.image.now.layout in
    let image = c.args.image.now.words in
    let node = c.loop-position.node in
    ◌∙◌ {A = List Pair} (c.in_ok-push_names.ensures (with_slots (image_range l image node) (image_spot l image node) empty l.slots) c.in_ok-names_of.ensures)
    (pairs_end l image c.requires.sound c.loop-position._position node c.loop-position.pairs.items c.loop-position.invariant.takes (sym c.next_of-next.ensures ∙ c.if-next-eq0.true))

pub loop-position-preserved : goal.loop-position-preserved
loop-position-preserved c =
    let l = c.args.image.now.layout in
    let image = c.args.image.now.words in
    let node = c.loop-position.node in
    let takes = c.loop-position.invariant.takes in
    let next = c.next_of-next.ensures in
    record {
      here = next_within l image c.requires.sound node c.next_of-next.result takes.listed next c.if-next-eq0.false;
      takes = pairs_on l image c.requires.sound c.loop-position._position node c.next_of-next.result c.loop-position.pairs.items c.push_names.new.pairs.items takes next c.if-next-eq0.false
          (c.in_ok-push_names.ensures (with_slots (image_range l image node) (image_spot l image node) empty l.slots) c.in_ok-names_of.ensures);
    }
