use Rattle.std.proofs.Common.{◌≡◌, ℕ, suc, ◌+◌, ◌<◌, List, sym, ap, ◌∙◌, subst, arith}
use Rattle.pm_words.specs.declared.layout.Layout.{Layout}
use Rattle.pm_words.specs.Images.{Row}
use Rattle.pm_words.specs.Offsets.{next_offset}
use Rattle.index_law.specs.Facts.{spot_in}
use Rattle.recovery.specs.Tellings.{told_words}
use Rattle.recovery.proofs.NodeMarks.{IsTelling, begins_telling, goes_telling, ends_telling, past_telling}
use Rattle.recovery.proofs.telling.tell_marks.Goals as goal

pub loop-position-init : goal.loop-position-init
loop-position-init c =
    let l = c.args.memory.now.layout in
    let words = c.args.memory.now.words in (
      ap (λ (r : Row). r.layout) c.tell_node.ensures,
      c.nodes-nodes.ensures ∙ ap (λ (m : Layout). m.nodes) c.layout.ensures.layout,
      subst (λ (now : List ℕ). IsTelling l words now 0 0) (sym (ap (λ (r : Row). r.words) c.tell_node.ensures)) (begins_telling l words c.requires.untold c.layout.ensures.row),
    )

pub returns-then-next-eq0-clause-tells : goal.returns-then-next-eq0-clause-tells
returns-then-next-eq0-clause-tells c =
    let at = c.loop-position in
    let last = (λ k. spot_in (sym at.invariant.0 k) at.memory.words at.node next_offset) ∙ sym c.next_of-next.ensures ∙ c.if-next-eq0.true in
    (ends_telling c.args.memory.now.layout c.args.memory.now.words c.requires.untold at.memory.words at.node at._position at.invariant.2 last).0

pub tell_node-requires-in-loop-position : goal.tell_node-requires-in-loop-position
tell_node-requires-in-loop-position c =
    let at = c.loop-position in
    let leads = c.next_of-next.ensures ∙ (λ k. spot_in (at.invariant.0 k) at.memory.words at.node next_offset) in
    record {
      node = subst (λ (m : Layout). c.next_of-next.result < m.nodes) (sym at.invariant.0)
          (goes_telling c.args.memory.now.layout c.args.memory.now.words c.requires.untold at.memory.words at.node at._position c.next_of-next.result at.invariant.2 leads c.if-next-eq0.false).0;
    }

pub loop-position-preserved : goal.loop-position-preserved
loop-position-preserved c =
    let at = c.loop-position in
    let leads = c.next_of-next.ensures ∙ (λ k. spot_in (at.invariant.0 k) at.memory.words at.node next_offset) in
    let goes = goes_telling c.args.memory.now.layout c.args.memory.now.words c.requires.untold at.memory.words at.node at._position c.next_of-next.result at.invariant.2 leads c.if-next-eq0.false in
    let told = c.tell_node-in-loop-position.ensures in (
      ap (λ (r : Row). r.layout) told ∙ at.invariant.0,
      at.invariant.1,
      subst (IsTelling c.args.memory.now.layout c.args.memory.now.words c.tell_node-in-loop-position.new.memory.words c.next_of-next.result) (let next : suc at._position ≡ at._position + 1 = omega arith in next)
          (subst (λ (now : List ℕ). IsTelling c.args.memory.now.layout c.args.memory.now.words now c.next_of-next.result (suc at._position))
          (sym (ap (λ (r : Row). r.words) told ∙ (λ k. told_words (at.invariant.0 k) at.memory.words c.next_of-next.result at.node))) goes.1),
    )

pub returns-clause-tells : goal.returns-clause-tells
returns-clause-tells c =
    let at = c.loop-position in
    (past_telling c.args.memory.now.layout c.args.memory.now.words c.requires.untold at.memory.words at.node at._position at.invariant.2
    (let nodes = c.nodes-nodes.ensures ∙ ap (λ (m : Layout). m.nodes) c.layout.ensures.layout in let past = c.loop-position-test.false in omega arith)).0
