use Rattle.std.proofs.Common.{slice_index, sym, ap, ◌∙◌, arith}
use Rattle.pm_words.specs.declared.layout.Layout.{Layout}
use Rattle.pm_words.specs.Locations.{Node, cached_address, word_number}
use Rattle.pm_words.specs.Offsets.{next_offset}
use Rattle.index_law.proofs.Rows.{spot_in-here}
use Rattle.recovery.proofs.telling.next_of.Goals as goal

pub returns : goal.returns
returns c =
    let layout = c.layout-layout.ensures.layout in
    let word = c.node_word.ensures.word ∙ ap (λ (l : Layout). word_number l (Node c.args.node next_offset)) layout in
    let address = c.cached.ensures.address ∙ (λ k. cached_address (layout k) (word k)) in
    (λ k. slice_index (c.words.ensures.words k) (address k))
    ∙ sym (spot_in-here c.args.memory.now.layout c.args.memory.now.words c.args.node next_offset (c.requires.node, omega arith) (omega arith))
