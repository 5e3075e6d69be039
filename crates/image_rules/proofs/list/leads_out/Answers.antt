use Rattle.std.proofs.Common.{◌∙◌, sym, inl, inr, arith}
use Rattle.image_rules.proofs.WalkLemmas.{walk_begins, walk_on, walk_found, walk_ends, walk_full}
use Rattle.image_rules.proofs.ListRules.{out_listed, out_kept, out_found}
use Rattle.image_rules.proofs.list.leads_out.Goals as goal

pub loop-position-init : goal.loop-position-init
loop-position-init c = walk_begins _ _ _ (omega arith)

pub returns-then-next-eq0 : goal.returns-then-next-eq0
returns-then-next-eq0 c =
    let walks = c.loop-position.invariant in
    let ends = sym c.next_of-next.ensures ∙ c.if-next-eq0.true in
    walk_ends (out_listed _ _) walks (omega arith) ends (out_kept walks (omega arith) (inl ends))

pub number_of-requires-clause-node : goal.number_of-requires-clause-node
number_of-requires-clause-node c = c.loop-position.invariant.here

pub returns-then-nodes-next : goal.returns-then-nodes-next
returns-then-nodes-next c =
    let walks = c.loop-position.invariant in
    let next = c.next_of-next.ensures in
    walk_found c.number_of.result walks (out_found walks (omega arith) c.number_of.result c.number_of.ensures (λ none. c.if-next-eq0.false (next ∙ none)) (omega arith))

pub loop-position-preserved : goal.loop-position-preserved
loop-position-preserved c =
    let walks = c.loop-position.invariant in
    let next = c.next_of-next.ensures in
    walk_on c.next_of-next.result walks (omega arith) next c.if-next-eq0.false (omega arith) (out_kept walks (omega arith) (inr (omega arith)))

pub returns : goal.returns
returns c = walk_full (out_listed _ _) (omega arith) c.loop-position.invariant
