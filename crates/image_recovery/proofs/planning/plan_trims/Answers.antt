use Rattle.std.proofs.Common.{◌≡◌, ◌∙◌, ap, sym, arith}
use Rattle.pm_words.specs.declared.layout.Layout.{Layout}
use Rattle.image_recovery.proofs.PlanLemmas.{walk_begins, walk_on, walk_ends}
use Rattle.image_recovery.proofs.planning.plan_trims.Goals as goal

pub loop-position-init : goal.loop-position-init
loop-position-init c = walk_begins c.args.image.now c.requires.sound c.args.moves.now.items c.requires.raised

pub plan_trim-requires-clause-listed : goal.plan_trim-requires-clause-listed
plan_trim-requires-clause-listed c = c.loop-position.invariant.here

pub returns-then-node-eq0 : goal.returns-then-node-eq0
returns-then-node-eq0 c =
    walk_ends c.args.image.now c.loop-position._position c.loop-position.node c.loop-position.moves.items c.plan_trim.new.moves.items c.in_ok-plan_trim.ensures c.loop-position.invariant
    (sym c.next_of-node.ensures ∙ c.if-node-eq0.true)

pub loop-position-preserved : goal.loop-position-preserved
loop-position-preserved c =
    walk_on c.args.image.now c.loop-position._position c.loop-position.node c.loop-position.moves.items c.plan_trim.new.moves.items c.in_ok-plan_trim.ensures c.loop-position.invariant
    c.next_of-node.result c.next_of-node.ensures c.if-node-eq0.false

pub returns : goal.returns
returns c =
    let image = c.args.image.now in
    let nodes : c.nodes-position-end.result ≡ image.layout.nodes = c.nodes-position-end.ensures ∙ ap (λ (k : Layout). k.nodes) c.layout.ensures.layout in
    let few = c.loop-position.invariant.few in
    absurd (omega arith)
