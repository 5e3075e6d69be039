use Rattle.std.proofs.Common.{◌+◌, ◌∙◌, sym, arith}
use Rattle.image_rules.proofs.WalkLemmas.{walk_begins, walk_on, walk_inside}
use Rattle.image_rules.proofs.ListRules.{reached_none, reached_more, reached_all, ends_here, ends_soon}
use Rattle.image_rules.proofs.list.listed_nodes.Goals as goal

pub loop-position-init : goal.loop-position-init
loop-position-init c =
    record { walks = walk_begins _ _ _ (omega arith); reached = reached_none c.args.image.now.layout c.args.image.now.words c.new-listed.result c.new-listed.ensures }

pub insert-requires : goal.insert-requires
insert-requires c = let here = c.loop-position.invariant.walks.here in omega arith

pub returns-then-node-eq0 : goal.returns-then-node-eq0
returns-then-node-eq0 c =
    let l = c.args.image.now.layout in
    let image = c.args.image.now.words in
    let walks = c.loop-position.invariant.walks in
    reached_all l image c.insert.new.self (c.loop-position._position + 1) (reached_more c.insert.new.self walks (omega arith) c.insert.ensures c.loop-position.invariant.reached)
    (ends_here l image c.loop-position._position c.loop-position.node (walks.at (omega arith)) (sym c.next_of-node.ensures ∙ c.if-node-eq0.true))

pub loop-position-preserved : goal.loop-position-preserved
loop-position-preserved c =
    let walks = c.loop-position.invariant.walks in
    let next = c.next_of-node.ensures in
    let inside = walk_inside c.next_of-node.result c.requires walks (omega arith) next c.if-node-eq0.false in
    record {
      walks = walk_on c.next_of-node.result walks (omega arith) next c.if-node-eq0.false inside (λ w none. none);
      reached = reached_more c.insert.new.self walks (omega arith) c.insert.ensures c.loop-position.invariant.reached;
    }

pub returns : goal.returns
returns c =
    let l = c.args.image.now.layout in
    let image = c.args.image.now.words in
    reached_all l image c.loop-position.listed c.loop-position._position c.loop-position.invariant.reached (ends_soon l image c.loop-position._position (omega arith))
