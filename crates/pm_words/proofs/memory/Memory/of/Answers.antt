use Rattle.std.proofs.Common.{ap, ◌∙◌, ◌++◌}
use Rattle.pm_words.proofs.Made.{row_of-row_by}
use Rattle.pm_words.proofs.memory.Memory.of.Goals as goal

pub invariant_of-result : goal.invariant_of-result
invariant_of-result c =
    let zeros = c.in_ok-words.ensures.items_if_clones_equal (λ y same. same) in
    let front = c.in_ok-extend_from_slice.ensures.items ∙ ap (λ xs. c.in_ok-words.words.items ++ xs) c.words.ensures.words in
    let all = c.in_ok-extend_from_slice-2.ensures.items ∙ ap (λ xs. c.extend_from_slice.new.self.items ++ xs) c.words-2.ensures.words in
    row_of-row_by _ _ c.args.image.words _ _ _ _ c.words.ensures.image c.layout-layout.ensures.layout zeros c.volatile_words.ensures.words front all
