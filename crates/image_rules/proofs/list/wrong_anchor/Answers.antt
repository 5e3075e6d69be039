use Rattle.std.proofs.Common.{◌∙◌, sym, arith}
use Rattle.std.proofs.lemmas.Bool.{false≢true}
use Rattle.data_node.proofs.KeyLemmas.{anchor_zero, zero_anchor}
use Rattle.image_rules.specs.Nodes.{image_spot}
use Rattle.image_rules.proofs.WalkLemmas.{walk_begins, walk_inside, walk_found, walk_ends}
use Rattle.image_rules.proofs.ListRules.{anchors_listed, anchor_kept, anchor_found, first_anchor_kept, first_anchor_found, ordered_all, ordered_next}
use Rattle.image_rules.proofs.list.wrong_anchor.Goals as goal

pub returns-then-not-is_zero : goal.returns-then-not-is_zero
returns-then-not-is_zero c =
    let l = c.args.image.now.layout in
    let image = c.args.image.now.words in
    walk_found c.number_of.result (walk_begins l image _ (omega arith))
    (first_anchor_found l image c.number_of.result c.number_of.ensures (λ none.
    false≢true (sym c.if-not-is_zero.true ∙ c.is_zero.ensures.1 (c.anchor_of.ensures ∙ zero_anchor (image_spot l image 0) none))))

pub loop-position-init : goal.loop-position-init
loop-position-init c =
    let l = c.args.image.now.layout in
    let image = c.args.image.now.words in
    let zeros = sym c.anchor_of.ensures ∙ c.is_zero.ensures.0 c.if-not-is_zero.false in
    record { walks = walk_begins l image _ (omega arith); kept = first_anchor_kept l image (anchor_zero (image_spot l image 0) zeros) }

pub returns-then-next-eq0 : goal.returns-then-next-eq0
returns-then-next-eq0 c =
    let walk = c.loop-position.invariant in
    walk_ends (anchors_listed _ _) walk.walks (omega arith) (sym c.next_of-next.ensures ∙ c.if-next-eq0.true) walk.kept

pub is_misplaced-requires-clause-before : goal.is_misplaced-requires-clause-before
is_misplaced-requires-clause-before c = c.loop-position.invariant.walks.here

pub is_misplaced-requires-clause-node : goal.is_misplaced-requires-clause-node
is_misplaced-requires-clause-node c = walk_inside c.next_of-next.result c.requires c.loop-position.invariant.walks (omega arith) c.next_of-next.ensures c.if-next-eq0.false

pub number_of-requires-then-is_misplaced-clause-node : goal.number_of-requires-then-is_misplaced-clause-node
number_of-requires-then-is_misplaced-clause-node c = walk_inside c.next_of-next.result c.requires c.loop-position.invariant.walks (omega arith) c.next_of-next.ensures c.if-next-eq0.false

pub returns-then-is_misplaced : goal.returns-then-is_misplaced
returns-then-is_misplaced c =
    let walk = c.loop-position.invariant in
    let next = c.next_of-next.result in
    let behind = ordered_next next c.requires walk (omega arith) c.next_of-next.ensures c.if-next-eq0.false in
    walk_found c.number_of-then-is_misplaced.result behind
    (anchor_found walk.walks (omega arith) next behind (omega arith) c.number_of-then-is_misplaced.result c.number_of-then-is_misplaced.ensures (c.is_misplaced.ensures.0 c.if-is_misplaced.true))

pub loop-position-preserved : goal.loop-position-preserved
loop-position-preserved c =
    let walk = c.loop-position.invariant in
    let next = c.next_of-next.result in
    let behind = ordered_next next c.requires walk (omega arith) c.next_of-next.ensures c.if-next-eq0.false in
    record { walks = behind; kept = anchor_kept walk.walks (omega arith) next behind (omega arith) (λ wrong. false≢true (sym c.if-is_misplaced.false ∙ c.is_misplaced.ensures.1 wrong)) }

pub returns : goal.returns
returns c = ordered_all c.loop-position.invariant (omega arith)
