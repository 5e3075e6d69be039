use Rattle.std.proofs.Common.{◌≡◌, ℕ, ◌-◌, List, take, drop, sym, ◌∙◌, subst, arith}
use Rattle.pm_words.specs.declared.layout.Layout.{Layout}
use Rattle.pm_words.specs.Locations.{image_words, volatile_words, cached_address, durable_address}
use Rattle.pm_words.specs.Images.{IsImage}
use Rattle.pm_words.specs.Rows.{cached_row}
use Rattle.pm_words.proofs.Made.{cached_row-image}
use Rattle.pm_words.proofs.memory.Memory.image.Goals as goal

-- the words from the first cached twin up to the first durable one are the cached twins
are_cached : (l : Layout) (words row copied : List ℕ) (cached durable : ℕ) → cached ≡ cached_address l 0 → durable ≡ durable_address l 0 → row ≡ words → copied ≡ take (durable - cached) (drop cached row) → copied ≡ cached_row l words
are_cached l words row copied cached durable first second is was =
    let start : cached ≡ volatile_words l = omega arith in
    let size : durable - cached ≡ image_words l = omega arith in
    was ∙ (λ k. take (size k) (drop (start k) (is k)))

pub of_words-requires : goal.of_words-requires
of_words-requires c =
    let is = are_cached c.self.inside.layout _ _ _ _ _ c.cached-cached.ensures.address c.durable-durable.ensures.address c.deref.ensures.value (c.in_ok-words.ensures.items_if_clones_equal (λ x y same. same)) in
    subst (IsImage c.self.inside.layout) (sym is) (cached_row-image c.self.inside.layout c.self.inside.words.items c.self.invariant)

pub returns : goal.returns
returns c =
    let is = are_cached c.self.inside.layout _ _ _ _ _ c.cached-cached.ensures.address c.durable-durable.ensures.address c.deref.ensures.value (c.in_ok-words.ensures.items_if_clones_equal (λ x y same. same)) in
    c.of_words.ensures ∙ (λ k. record { layout = c.self.inside.layout; words = is k })
    ∙ (λ k. record { layout = (c.self.view_is k).layout; words = cached_row (c.self.view_is k).layout (c.self.view_is k).words })
