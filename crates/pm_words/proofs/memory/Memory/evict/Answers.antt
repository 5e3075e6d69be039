use Rattle.std.proofs.Common.{subst, sym, arith, ◌<◌}
use Rattle.std.proofs.lemmas.List.{get_or_read}
use Rattle.pm_words.specs.Locations.{image_words}
use Rattle.pm_words.specs.Images.{Row}
use Rattle.pm_words.proofs.Kept.{evicted_row_by}
use Rattle.pm_words.proofs.memory.Memory.evict.Goals as goal

pub invariant_of-self : goal.invariant_of-self
invariant_of-self c =
    let inside = subst (λ (row : Row). c.args.word < image_words row.layout) (sym c.self.view_is) c.requires in
    let found = get_or_read c.self.inside.words.items _ _ (omega (arith, c.cached.ensures.within, c.self.invariant.whole)) c.index.ensures 0 in
    evicted_row_by _ _ c.args.word _ _ _ c.self.invariant inside c.cached.ensures.address c.durable-durable.ensures.address found
