use Rattle.std.proofs.Common.{◌∙◌, sym, arith}
use Rattle.std.proofs.lemmas.Bool.{false≢true}
use Rattle.data_node.specs.Lists.{number_of}
use Rattle.data_node.proofs.PositionLemmas.{position_in}
use Rattle.image_rules.specs.Nodes.{image_list}
use Rattle.image_rules.proofs.WalkLemmas.{walk_on, walk_inside, walk_ends, walk_full}
use Rattle.image_recovery.proofs.Walking.{sound_leads, key_of_list, no_key_at, no_key}
use Rattle.image_recovery.proofs.anchored.node_with.Goals as goal

pub loop-position-preserved : goal.loop-position-preserved
loop-position-preserved c =
    let walks = c.loop-position.invariant in
    let next = c.next_of-node.ensures in
    let inside = walk_inside c.next_of-node.result (sound_leads c.args.image.now.layout c.args.image.now.words c.requires) walks (omega arith) next c.if-node-eq0.false in
    walk_on c.next_of-node.result walks (omega arith) next c.if-node-eq0.false inside
    (no_key_at (number_of c.args.anchor) walks (omega arith) (λ same. false≢true (sym c.if-has_anchor.false ∙ c.has_anchor.ensures.1 same)))

pub returns-then-has_anchor : goal.returns-then-has_anchor
returns-then-has_anchor c =
    let list = image_list c.args.image.now.layout c.args.image.now.words in
    (position_in 0 list c.loop-position._position c.loop-position.node (c.loop-position.invariant.at (omega arith)), c.has_anchor.ensures.0 c.if-has_anchor.true)

pub returns-then-node-eq0 : goal.returns-then-node-eq0
returns-then-node-eq0 c =
    let key = number_of c.args.anchor in
    let walks = c.loop-position.invariant in
    let none_here = no_key_at key walks (omega arith) (λ same. false≢true (sym c.if-has_anchor.false ∙ c.has_anchor.ensures.1 same)) in
    no_key c.args.image.now.layout c.args.image.now.words key (walk_ends (key_of_list _ _ key) walks (omega arith) (sym c.next_of-node.ensures ∙ c.if-node-eq0.true) none_here)

pub returns : goal.returns
returns c =
    let key = number_of c.args.anchor in
    no_key c.args.image.now.layout c.args.image.now.words key (walk_full (key_of_list _ _ key) (omega arith) c.loop-position.invariant)
