use Rattle.std.proofs.Common.{◌+◌, ◌-◌, ◌/◌, ◌^◌, refl, sym, ap, ◌∙◌}
use Rattle.radix_nodes.specs.Cells.{words_of}
use Rattle.radix_nodes.proofs.Lookups.{found_entry, no_entry}
use Rattle.radix_nodes.proofs.lookup.entry_with.Goals as goal

pub returns-then-word-byte : goal.returns-then-word-byte
returns-then-word-byte c =
    found_entry (words_of c.args.cell.now) c.args.first c.args.count c.loop-passed.passed c.args.byte (c.args.first + c.args.count - 1 - c.loop-passed.passed) c.loop-passed-test.true refl
    (λ e. c.if-word-ne0.true (c.word-word.ensures ∙ e)) (ap (λ w. w / 2 ^ 32) (sym c.word-word.ensures) ∙ c.if-word-byte.true) c.loop-passed.invariant

pub returns : goal.returns
returns c = no_entry (words_of c.args.cell.now) c.args.first c.args.count c.loop-passed.passed c.args.byte c.loop-passed-test.false c.loop-passed.invariant
