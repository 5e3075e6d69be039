use Rattle.std.proofs.Common.{ℕ, replicate, ap, ◌∙◌}
use Rattle.pm_words.proofs.Made.{stored_image}
use Rattle.pm_words.proofs.image.Image.fresh.Goals as goal

pub invariant_of-result : goal.invariant_of-result
invariant_of-result c =
    let zeros = c.in_ok-words.ensures.items_if_clones_equal (λ y same. same) ∙ ap (λ (n : ℕ). replicate n 0) c.image_words.ensures.words in
    stored_image c.args.layout _ _ _ _ _ _ c.requires zeros c.from_le_bytes.ensures c.nodes.ensures c.slots.ensures c.callers.ensures c.leaf_word.ensures.word
