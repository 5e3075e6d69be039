-- The row of a fresh image with the mark of the search layer's first leaf: all other words are those of the image.
use Rattle.std.proofs.Common.{◌≡◌, ◌≢◌, ◌<◌, ◌≤◌, ◌∙◌, arith}
use Rattle.pm_words.specs.declared.layout.Layout.{Layout}
use Rattle.pm_words.specs.declared.action.Action.TheVariants.{Store}
use Rattle.pm_words.specs.Layouts.{IsLayout}
use Rattle.pm_words.specs.Images.{fresh_words}
use Rattle.pm_words.specs.Locations.{Word, Location, IsVolatile, Mark, Cached, Durable, HasWord, HasLocation, address_of, at, word_at, leaf_count}
use Rattle.pm_words.specs.Rows.{IsRow, CanAct, row_of}
use Rattle.pm_words.specs.Codes.{leaf_kind}
use Rattle.pm_words.proofs.Apart.{addresses_within, at-set_other}
use Rattle.pm_words.proofs.Kept.{acted_row, outside_header}
use Rattle.pm_words.proofs.Made.{fresh_image, row_of-at, row_of-at_volatile, row_of-row}
use Rattle.index_law.specs.Laws.{marked_row}

pub mark_has : (l : Layout) → HasLocation l (Mark leaf_kind 0)
mark_has l =
    let low : 1 ≤ 1 = omega arith in
    let high : 1 ≤ 5 = omega arith in
    let some : 0 < leaf_count l = omega arith in
    (low, high, some)

pub marked-else : (l : Layout) (p : Location) → HasLocation l p → p ≢ Mark leaf_kind 0 → at l (marked_row l) p ≡ at l (row_of l (fresh_words l)) p
marked-else l p has other = at-set_other l (row_of l (fresh_words l)) (Mark leaf_kind 0) p 1 (mark_has l) has other

pub marked-at : (l : Layout) (w : Word) → IsLayout l → HasWord l w →
    (at l (marked_row l) (Cached w) ≡ word_at l (fresh_words l) w) × (at l (marked_row l) (Durable w) ≡ word_at l (fresh_words l) w)
marked-at l w layout has =
    let both = row_of-at l (fresh_words l) w (fresh_image l layout) has in
    (marked-else l (Cached w) has (λ e. cc) ∙ both.0, marked-else l (Durable w) has (λ e. cc) ∙ both.1)

pub marked-at_volatile : (l : Layout) (p : Location) → HasLocation l p → IsVolatile p → p ≢ Mark leaf_kind 0 → at l (marked_row l) p ≡ 0
marked-at_volatile l p has volatile other = marked-else l p has other ∙ row_of-at_volatile l (fresh_words l) p has volatile

pub marked_row-row : (l : Layout) → IsLayout l → IsRow l (marked_row l)
marked_row-row l layout =
    let can : CanAct l (row_of l (fresh_words l)) (Store (address_of l (Mark leaf_kind 0)) 1) = ((addresses_within l (Mark leaf_kind 0) (mark_has l), outside_header l (Mark leaf_kind 0) (mark_has l) (λ k lt. (λ e. cc, λ e. cc))), omega arith) in
    acted_row l (row_of l (fresh_words l)) (Store (address_of l (Mark leaf_kind 0)) 1) (row_of-row l (fresh_words l) (fresh_image l layout)) can
