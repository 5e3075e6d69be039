use Rattle.std.proofs.Common.{◌≡◌, ◌≢◌, ◌+◌, sym, ◌∙◌, subst, arith}
use Rattle.radix_nodes.specs.Cells.{children_of, words_of}
use Rattle.radix_nodes.proofs.CellWords.{children_are_bytes}
use Rattle.radix_nodes.proofs.Others.{FoundSo, found_none, found_first, found_second, found_end}
use Rattle.radix_nodes.proofs.changes.one_more.Goals as goal
use Rattle.radix_nodes.proofs.changes.one_more.Goals.{then-other-byte+then-reference-ne0+else-found-ne0, else-other-byte, else-other-byte-via-then-other-byte+else-reference-ne0, else-other-byte-via-else-other-byte}

pub returns-then-found-ne0 : goal.returns-then-found-ne0
returns-then-found-ne0 c is =
    found_second (children_of c.args.cell.now) c.args.byte c.loop-other.other c.loop-other.found c.if-other-byte.true (λ e. c.if-reference-ne0.true (c.child_word-reference.ensures ∙ e)) c.if-found-ne0.true c.loop-other.invariant

pub loop-other-preserved : goal.loop-other-preserved
loop-other-preserved c =
    let m = children_of c.args.cell.now in
    let other = c.loop-other.other in
    let found = c.loop-other.found in
    elim c.if-other-byte.branch [
      | then-other-byte+then-reference-ne0+else-found-ne0 w ↦
          subst (FoundSo m c.args.byte (other + 1)) (sym (w.found-is ∙ c.child_word-reference.ensures))
          (found_first m c.args.byte other found w.if-other-byte.true (λ e. w.if-reference-ne0.true (c.child_word-reference.ensures ∙ e)) w.if-found-ne0.false c.loop-other.invariant)
      | else-other-byte w ↦
          let absent : other ≢ c.args.byte → m other ≢ 0 → ⊥ = elim w.else-other-byte.branch [
            | else-other-byte-via-then-other-byte+else-reference-ne0 w' ↦ λ apart some_child. some_child (sym c.child_word-reference.ensures ∙ w'.if-reference-ne0.false)
            | else-other-byte-via-else-other-byte w' ↦ λ apart some_child. apart w'.if-other-byte.false
          ] in
          subst (FoundSo m c.args.byte (other + 1)) (sym w.found-is) (found_none m c.args.byte other found absent c.loop-other.invariant)
    ]

pub returns : goal.returns
returns c is =
    let m = children_of c.args.cell.now in
    let last : c.loop-other.other ≡ 256 = omega arith in
    found_end m c.args.byte c.loop-other.found (λ b past. children_are_bytes c.args.cell.now.kind (words_of c.args.cell.now) b is.lawful.form past) is.lawful.two
    (subst (λ n. FoundSo m c.args.byte n c.loop-other.found) last c.loop-other.invariant)
