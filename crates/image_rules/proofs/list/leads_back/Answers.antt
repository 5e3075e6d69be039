use Rattle.std.proofs.Common.{◌∙◌, sym, inl, inr, subst, arith}
use Rattle.std.proofs.lemmas.Bool.{false≢true}
use Rattle.image_rules.specs.Nodes.{IsListedAt}
use Rattle.image_rules.proofs.WalkLemmas.{walk_begins, walk_on, walk_inside, walk_found, walk_ends, walk_full}
use Rattle.image_rules.proofs.ListRules.{back_listed, back_kept, back_found, reached_none, reached_more}
use Rattle.image_rules.proofs.list.leads_back.Goals as goal

pub loop-position-init : goal.loop-position-init
loop-position-init c =
    record { walks = walk_begins _ _ _ (omega arith); reached = reached_none c.args.image.now.layout c.args.image.now.words c.new-reached.result c.new-reached.ensures }

pub insert-requires : goal.insert-requires
insert-requires c = let here = c.loop-position.invariant.walks.here in omega arith

pub returns-then-next-eq0 : goal.returns-then-next-eq0
returns-then-next-eq0 c =
    let walks = c.loop-position.invariant.walks in
    let ends = sym c.next_of-next.ensures ∙ c.if-next-eq0.true in
    walk_ends (back_listed _ _) walks (omega arith) ends (back_kept walks (omega arith) (inl ends))

pub number_of-requires-clause-node : goal.number_of-requires-clause-node
number_of-requires-clause-node c = c.loop-position.invariant.walks.here

pub returns-then-contains : goal.returns-then-contains
returns-then-contains c =
    let walks = c.loop-position.invariant.walks in
    let reached = reached_more c.insert.new.self walks (omega arith) c.insert.ensures c.loop-position.invariant.reached in
    let again = reached.from c.next_of-next.result (c.contains.ensures.0 c.if-contains.true) in
    let before = again.1 in
    let next = c.next_of-next.ensures in
    walk_found c.number_of.result walks
    (back_found walks (omega arith) c.number_of.result again.0 c.number_of.ensures (λ none. c.if-next-eq0.false (next ∙ none)) (omega arith)
    (subst (IsListedAt c.args.image.now.layout c.args.image.now.words again.0) next again.2))

pub loop-position-preserved : goal.loop-position-preserved
loop-position-preserved c =
    let walks = c.loop-position.invariant.walks in
    let reached = reached_more c.insert.new.self walks (omega arith) c.insert.ensures c.loop-position.invariant.reached in
    let next = c.next_of-next.ensures in
    let inside = walk_inside c.next_of-next.result c.requires walks (omega arith) next c.if-next-eq0.false in
    record {
      walks = walk_on c.next_of-next.result walks (omega arith) next c.if-next-eq0.false inside
          (back_kept walks (omega arith) (inr (λ earlier before again.
          false≢true (sym c.if-contains.false ∙ c.contains.ensures.1 (reached.to earlier c.next_of-next.result (omega arith)
          (subst (IsListedAt c.args.image.now.layout c.args.image.now.words earlier) (sym next) again))))));
      reached = reached;
    }

pub returns : goal.returns
returns c = walk_full (back_listed _ _) (omega arith) c.loop-position.invariant.walks
