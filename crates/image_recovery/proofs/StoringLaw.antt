-- A word that is stored and made durable, turn by turn, is a move of the law.
use Rattle.std.proofs.Common.{◌≡◌, ◌≢◌, ℕ, ◌+◌, ◌^◌, ◌<◌, List, Option, slice_index, IfSome, inl, inr, refl, sym, subst, ap, ◌∙◌, arith}
use Rattle.std.proofs.lemmas.Bool.{cases_lt}
use Rattle.pm_words.specs.declared.layout.Layout.{Layout}
use Rattle.pm_words.specs.declared.action.Action.{Action}
use Rattle.pm_words.specs.declared.action.Action.TheVariants.{Load, Store, Exchange, Add, Drain}
use Rattle.pm_words.specs.declared.fence.Fence.{Fence}
use Rattle.pm_words.specs.declared.fence.FenceAt.TheVariants as hand
use Rattle.pm_words.specs.declared.machine.Turn.TheVariants.{Go}
use Rattle.pm_words.specs.Fences.{IsFence, FenceTurn, loads, drains, drains_last, fence_start, fence_next}
use Rattle.pm_words.specs.Locations.{Word, Header, Cached, HasWord, image_words, cached_address, address_of}
use Rattle.pm_words.specs.Rows.{IsRow, IsOutsideHeader, CanAct, acted, got, given, evicted, action_address}
use Rattle.pm_words.proofs.Fencing.{fence_turns, fence_stays}
use Rattle.pm_words.proofs.Kept.{acted_row, evicted_row, outside_header}
use Rattle.pm_words.proofs.Apart.{addresses_within}
use Rattle.data_node.specs.Lists.{ListNode}
use Rattle.image_recovery_law.specs.Columns.{Columns, IsSound}
use Rattle.image_recovery_law.specs.Stages.{Stage}
use Rattle.image_recovery_law.specs.RowMoves.{RowSure, MoveStore, of_generation, of_bits, of_empty}
use Rattle.image_recovery_law.specs.Moves as law
use Rattle.image_recovery_law.proofs.RowMoves.{move_stores, move_ends, row_evicts}
use Rattle.image_recovery_law.proofs.RowStores.{drain_evicts}
use Rattle.image_recovery.specs.declared.making.Making.TheVariants.{Stores}
use Rattle.image_recovery.specs.declared.storing.Storing.{Storing}
use Rattle.image_recovery.specs.declared.storing.StoringAt.{StoringAt}
use Rattle.image_recovery.specs.declared.storing.StoringAt.TheVariants as at
use Rattle.image_recovery.specs.Storings.{IsStoring, IsStoringAt, fenced_word, storing_at_asks, storing_at_turned, storing_fenced}
use Rattle.image_recovery.specs.Makings.{of_storing}
use Rattle.image_recovery.specs.MakingLaw.{IsClearBeside, IsEvenAt, IsStoreOf, SureStoringAt, sure_stores, IsAtMove, IsBetweenMoves, IsAfterTurn}
use Rattle.image_recovery.proofs.Evens.{even_now, even_still, clear_evicts, clear_stored, load_leaves}

given_fits : (a : Action) (word : ℕ) → word < 2 ^ 64 → given a word < 2 ^ 64
given_fits (Load address) word small = small
given_fits (Store address value) word small = omega arith
given_fits (Exchange address old new) word small = small
given_fits (Add address) word small = small
given_fits (Drain address value) word small = omega arith

-- the word of a store is none of the first five, and there is such a word
pub store_other : (l : Layout) (list : List ListNode) (o : Columns) (s t u : Stage) (w : Word) (value : ℕ) → MoveStore l list o s w value t u → (k : ℕ) → k < 5 → w ≢ Header k
store_other l list o s t u w value of_generation k small e = let same : 5 ≡ k = cc in omega arith
store_other l list o s t u w value (of_bits n bits left within is fits) k small e = cc
store_other l list o s t u w value (of_empty j within) k small e = cc

pub store_has : (l : Layout) (list : List ListNode) (o : Columns) (s t u : Stage) (w : Word) (value : ℕ) → MoveStore l list o s w value t u → HasWord l w
store_has l list o s t u w value of_generation = omega arith
store_has l list o s t u w value (of_bits n bits left within is fits) = (within, omega arith)
store_has l list o s t u w value (of_empty j within) = (omega arith, omega arith, omega arith)

module _ (list : List ListNode) (o : Columns) (rest : List law.Move) (words : List ℕ) (storing : Storing) (before after end : Stage) (sound : IsSound storing.layout list o) (row : IsRow storing.layout words) (clear : IsClearBeside storing.layout words) (fits : IsStoring storing)
    (is : IsStoreOf storing.layout list o rest storing before after end) where
  abbrev l : Layout
  l = storing.layout

  abbrev At : StoringAt → Storing
  At at = record storing { at = at }

  -- the number and the row that an action of its gives
  abbrev After : Action → Option Fence → Type 0
  After action next = CanAct l words action × IsAfterTurn l list o rest (acted l words action) (of_storing (storing_fenced storing next))

  -- Its store.
  store_acts : CanAct l words (Store (cached_address l storing.word) storing.value)
  store_acts =
      let has = store_has l list o before after end is.place is.value is.move in
      let other = store_other l list o before after end is.place is.value is.move in
      let there : address_of l (Cached is.place) ≡ cached_address l storing.word = ap (cached_address l) (sym is.word) in
      let within = addresses_within l (Cached is.place) has in
      let outside = outside_header l (Cached is.place) has (λ k small. ((λ e. other k small (let same : is.place ≡ Header k = cc in same)), (λ e. cc))) in
      ((omega arith, subst (IsOutsideHeader l) there outside), fits.value)

  store_goes : RowSure l list o before words → IsAfterTurn l list o rest (acted l words (Store (cached_address l storing.word) storing.value)) (Go (Stores (At (at.Line fence_start))))
  store_goes sure =
      let there : acted l words (Store (address_of l (Cached is.place)) is.value) ≡ acted l words (Store (cached_address l storing.word) storing.value) =
      (λ i. acted l words (Store (cached_address l (sym is.word i)) (sym is.stored i))) in
      record {
        row = acted_row l words (Store (cached_address l storing.word) storing.value) row store_acts;
        clear = subst (IsClearBeside l) there (clear_stored l words is.place is.value (store_has l list o before after end is.place is.value is.move) clear);
        fits = record { layout = fits.layout; word = fits.word; value = fits.value; here = record { word = omega arith; value = tt } };
        sure = sure_stores (At (at.Line fence_start)) before after end refl (record { place = is.place; value = is.value; move = is.move; word = is.word; stored = is.stored; plan = is.plan })
            (subst (λ (ws : List ℕ). RowSure l list o after ws) there (move_stores l list o words before after end is.place is.value row.whole sound sure is.move), tt, λ past. absurd (omega arith));
      }

  -- Its fence: a load leaves the row, and a drain makes a word durable.
  fenced_within : (fence : Fence) → fence.word < 8 → fenced_word storing.word fence < image_words l
  fenced_within fence small = let word = fits.word in omega arith

  place_within : storing.word < image_words l
  place_within = let word = fits.word in omega arith

  -- the fence as it is at a word, with this in hand
  fencing : (fence : Fence) → IsFence fence → (words' : List ℕ) → IsRow l words' → IsClearBeside l words' → SureStoringAt l list o storing before after words' (at.Line fence)
      → IsAtMove l list o rest words' (Stores (At (at.Line fence)))
  fencing fence fine words' row' clear' sure = record {
    row = row';
    clear = clear';
    fits = record { layout = fits.layout; word = fits.word; value = fits.value; here = fine };
    sure = sure_stores (At (at.Line fence)) before after end refl (record { place = is.place; value = is.value; move = is.move; word = is.word; stored = is.stored; plan = is.plan }) sure;
  }

  -- a drain of the word in hand
  module _ (k : ℕ) (value : ℕ) (within : k < image_words l) (small : value < 2 ^ 64) (hand : slice_index words (cached_address l k) ≡ value) where
    drain_acts : CanAct l words (Drain (cached_address l k) value)
    drain_acts =
        (((omega arith, omega arith), λ j few e. sym hand ∙ ap (slice_index words) e ∙ row.cached j few), small)

    drained : acted l words (Drain (cached_address l k) value) ≡ evicted l words k
    drained = drain_evicts l words k value hand

    drained_row : IsRow l (evicted l words k)
    drained_row = evicted_row l words k row within

  fence_goes : (fence : Fence) → IsFence fence → SureStoringAt l list o storing before after words (at.Line fence) → (x : ℕ) (action : Action) (next : Option Fence)
      → FenceTurn (cached_address l (fenced_word storing.word fence)) x fence action next → x ≡ got l words action → IfSome next IsFence → After action next
  fence_goes fence fine sure x action next (loads {word} small told) is_got stays =
      let k = fenced_word storing.word fence in
      let within = fenced_within fence small in
      let same : acted l words (Load (cached_address l k)) ≡ words = load_leaves words (cached_address l k) in (
        (omega arith, tt),
        subst (λ (ws : List ℕ). IsAtMove l list o rest ws (Stores (At (at.Line (record { word = word; at = hand.Drain x }))))) (sym same)
            (fencing (record { word = word; at = hand.Drain x }) stays words row clear (sure.0, sym is_got, sure.2)),
      )
  fence_goes fence fine sure x action next (drains {word} {value} more small) is_got stays =
      let k = fenced_word storing.word fence in
      let within = fenced_within fence (omega arith) in
      let same = drained k value within small sure.1 in (
        drain_acts k value within small sure.1,
        subst (λ (ws : List ℕ). IsAtMove l list o rest ws (Stores (At (at.Line (record { word = word + 1; at = hand.Load }))))) (sym same)
            (fencing (record { word = word + 1; at = hand.Load }) stays (evicted l words k) (drained_row k value within small sure.1) (clear_evicts l words k row.whole within clear) (
              row_evicts l list o words after k row.whole within sound sure.0,
              tt,
              λ past. elim (cases_lt storing.word k) as (λ _. IsEvenAt l (evicted l words k) storing.word) [
                | inl before_it ↦ even_still l words k row.whole within storing.word place_within (sure.2 before_it)
                | inr reached ↦ let here : k ≡ storing.word = omega arith in subst (λ w. IsEvenAt l (evicted l words k) w) here (even_now l words k row.whole within)
              ],
            )),
      )
  fence_goes fence fine sure x action next (drains_last {word} {value} last small) is_got stays =
      let k = fenced_word storing.word fence in
      let within = fenced_within fence (omega arith) in
      let same = drained k value within small sure.1 in
      let even : IsEvenAt l (evicted l words k) storing.word = elim (cases_lt storing.word k) as (λ _. IsEvenAt l (evicted l words k) storing.word) [
        | inl before_it ↦ even_still l words k row.whole within storing.word place_within (sure.2 before_it)
        | inr reached ↦ let here : k ≡ storing.word = omega arith in subst (λ w. IsEvenAt l (evicted l words k) w) here (even_now l words k row.whole within)
      ] in (
        drain_acts k value within small sure.1,
        subst (λ (ws : List ℕ). IsBetweenMoves l list o rest ws) (sym same) (record {
          row = drained_row k value within small sure.1;
          clear = clear_evicts l words k row.whole within clear;
          stage = end;
          sure = move_ends l list o (evicted l words k) before after end is.place is.value sound (row_evicts l list o words after k row.whole within sound sure.0) is.move
              (subst (λ w. IsEvenAt l (evicted l words k) w) is.word even);
          plan = is.plan;
        }),
      )

  -- So each turn.
  pub storing_goes : (now : StoringAt) → IsStoringAt now → SureStoringAt l list o storing before after words now
      → CanAct l words (storing_at_asks storing now) × IsAfterTurn l list o rest (acted l words (storing_at_asks storing now)) (of_storing (storing_at_turned storing now (got l words (storing_at_asks storing now))))
  storing_goes at.Word fine sure = (store_acts, store_goes sure)
  storing_goes (at.Line fence) fine sure =
      let action = storing_at_asks storing (at.Line fence) in
      let x = got l words action in
      let told : x < 2 ^ 64 = given_fits action (slice_index words (action_address l action)) (row.fits (action_address l action)) in
      fence_goes fence fine sure x action (fence_next fence x) (fence_turns (cached_address l (fenced_word storing.word fence)) fence x fine told) refl (fence_stays fence x fine told)

-- what an action gives is a word
pub given_word : (l : Layout) (words : List ℕ) (a : Action) → IsRow l words → got l words a < 2 ^ 64
given_word l words a row = given_fits a (slice_index words (action_address l a)) (row.fits (action_address l a))
