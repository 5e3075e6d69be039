use Rattle.std.proofs.Common.{◌≡◌, ℕ, suc, ◌+◌, ◌/◌, ◌++◌, ◌∷◌, [], List, take, slice_index, slice_set, length-set, refl, sym, ap, ◌∙◌, arith}
use Rattle.std.proofs.lemmas.List.{take_more_set, set-get_or, get_or-take}
use Rattle.data_node.specs.Bits.{printed}
use Rattle.data_node.specs.Orders.{listed}
use Rattle.permutation.specs.Permutations.{first_slots, words_to}
use Rattle.permutation.proofs.Made.{first_words, next_words}
use Rattle.permutation.proofs.Bytes.{one_more}
use Rattle.permutation.proofs.words.permutation_of.Goals as goal

pub loop-place-init : goal.loop-place-init
loop-place-init c = record { room = refl; done = refl; exact = sym (first_words (listed c.args.order.now)) }

pub loop-place-preserved : goal.loop-place-preserved
loop-place-preserved c =
    let words = c.loop-place.words in
    let place = c.loop-place.place in
    let before = c.loop-place.invariant in
    let most = c.requires in
    let low = c.loop-place-test.true in
    let next : suc place ≡ place + 1 = omega arith in
    let slots = c.args.order.now.slots in
    let wide = c.type_inv.order in
    let slot : ℕ = slice_index slots place in
    record {
      room = length-set words (place / 8) c.with_print.result ∙ before.room;
      done = ap (first_slots (slice_index (slice_set words (place / 8) c.with_print.result))) (sym next)
          ∙ one_more words place c.with_print.result slot before.room (omega arith) c.with_print.ensures.prints
          ∙ ap (λ (l : List ℕ). l ++ (slot ∷ [])) before.done
          ∙ sym (take_more_set slots place slot (omega arith))
          ∙ ap (take (place + 1)) (set-get_or slots place 0);
      exact = (λ i. slice_set (before.exact i) (place / 8) (c.with_print.ensures.value i))
          ∙ (λ i. slice_set (words_to (listed c.args.order.now) place) (place / 8) (printed (slice_index (before.exact i) (place / 8)) place (sym (get_or-take c.args.order.now.len slots place 0 (omega arith)) i)))
          ∙ sym (next_words (listed c.args.order.now) place) ∙ ap (words_to (listed c.args.order.now)) next;
    }
