use Rattle.std.proofs.Common.{◌∙◌, sym, arith}
use Rattle.image_rules.proofs.NodeLemmas.{in_node_kept, in_node_found}
use Rattle.image_rules.proofs.WalkLemmas.{walk_begins, walk_on, walk_inside, walk_found, walk_ends, walk_full}
use Rattle.image_rules.proofs.ListRules.{in_node_listed}
use Rattle.image_rules.proofs.listed.NodeRule.broken_word.Goals as goal

pub loop-position-init : goal.loop-position-init
loop-position-init c = walk_begins _ _ _ (omega arith)

pub broken_offset-requires : goal.broken_offset-requires
broken_offset-requires c = c.loop-position.invariant.here

pub number_of-requires-clause-node : goal.number_of-requires-clause-node
number_of-requires-clause-node c = c.loop-position.invariant.here

pub returns-in-Some : goal.returns-in-Some
returns-in-Some c =
    let walks = c.loop-position.invariant in
    walk_found c.number_of.result walks (in_node_found c.args.self c.in-Some.offset c.number_of.result walks (omega arith) c.number_of.ensures c.in-Some.ensures.lowest)

pub returns-then-node-eq0 : goal.returns-then-node-eq0
returns-then-node-eq0 c =
    let walks = c.loop-position.invariant in
    walk_ends (in_node_listed _ _ _) walks (omega arith) (sym c.next_of-node.ensures ∙ c.if-node-eq0.true) (in_node_kept c.args.self walks (omega arith) c.in_default.ensures.lowest)

pub loop-position-preserved : goal.loop-position-preserved
loop-position-preserved c =
    let walks = c.loop-position.invariant in
    let inside = walk_inside c.next_of-node.result c.requires walks (omega arith) c.next_of-node.ensures c.if-node-eq0.false in
    walk_on c.next_of-node.result walks (omega arith) c.next_of-node.ensures c.if-node-eq0.false inside (in_node_kept c.args.self walks (omega arith) c.in_default.ensures.lowest)

pub returns : goal.returns
returns c = walk_full (in_node_listed _ _ _) (omega arith) c.loop-position.invariant
