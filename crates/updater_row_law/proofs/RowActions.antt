-- Each step of a turn may be done.
use Rattle.std.proofs.Common.{ℕ, ◌^◌, ◌<◌, List, arith}
use Rattle.pm_words.specs.declared.layout.Layout.{Layout}
use Rattle.pm_words.specs.declared.action.Action.{Action}
use Rattle.pm_words.specs.declared.action.Action.TheVariants.{Load, Store}
use Rattle.pm_words.specs.Locations.{Location, Cached, Volatile, Updater, Node, HasLocation, address_of}
use Rattle.pm_words.specs.Rows.{IsRow, CanAct, IsOutsideHeader}
use Rattle.pm_words.proofs.Apart.{addresses_within}
use Rattle.pm_words.proofs.Kept.{outside_header}
use Rattle.pm_words.specs.Offsets.{version_offset, state_offset, status_offset, stamp_offset}
use Rattle.search_layer.proofs.StepLaw.{step_can_act}
use Rattle.updater_row_law.specs.Columns.{RowTerms, Ghosts, line_count, line_word}
use Rattle.updater_row_law.specs.RowStages.{aim_of, RowStage}
use Rattle.updater_row_law.specs.RowSteps.{lock_at, line_at, volatile_at, RowStep, takes_lock, finds_held, passes, sees, reads, has_read, walks, is_turned_back, finds, loses, decides, changes, has_changed, stamps, empties, passes_node, sees_gone, passes_stamp, sees_stamp, passes_worn, sees_unworn, unstamps, frees, counts, leaves_lock}
use Rattle.updater_row_law.specs.RowLaw.{RowLawful, RowStepCanAct}

module _ (l : Layout) (words : List ℕ) where
  loads : (p : Location) → HasLocation l p → CanAct l words (Load (address_of l p))
  loads p has = (addresses_within l p has, tt)

  loads_line : (o j : ℕ) → j < line_count l → o < 8 → CanAct l words (Load (line_at l j o))
  loads_line o j here small = loads (Cached (line_word o j)) (omega arith, omega arith, small)

  stores_volatile : (n o y : ℕ) → n < l.nodes → o < 16 → y < 2 ^ 64 → CanAct l words (Store (volatile_at l n o) y)
  stores_volatile n o y here small fits =
      let has : HasLocation l (Volatile n o) = (here, small) in
      ((addresses_within l (Volatile n o) has, outside_header l (Volatile n o) has (λ k lt. (λ e. cc, λ e. cc))), fits)

  stores_state : (j : ℕ) → j < line_count l → CanAct l words (Store (line_at l j state_offset) 0)
  stores_state j here =
      let has : HasLocation l (Cached (line_word state_offset j)) = (omega arith, omega arith, omega arith) in
      ((addresses_within l (Cached (line_word state_offset j)) has, outside_header l (Cached (line_word state_offset j)) has (λ k lt. (λ e. cc, λ e. cc))), omega arith)

lock_outside : (l : Layout) → IsOutsideHeader l (lock_at l)
lock_outside l = outside_header l Updater tt (λ k lt. (λ e. cc, λ e. cc))

can : (r : RowTerms) (ghosts : Ghosts) (words : List ℕ) {s : RowStage} {a : Action} {x : ℕ} {t : RowStage} → IsRow r.layout words → r.stamp < 2 ^ 64 → RowLawful r ghosts words s → RowStep r s a x t → CanAct r.layout words a
can r ghosts words row stamp is (takes_lock free) = ((addresses_within r.layout Updater tt, lock_outside r.layout), omega arith)
can r ghosts words row stamp is (finds_held taken) = ((addresses_within r.layout Updater tt, lock_outside r.layout), omega arith)
can r ghosts words row stamp is (passes {j = j} here other_state) = loads_line r.layout words 0 j here (omega arith)
can r ghosts words row stamp is (sees {j = j} seen here ready size) = loads_line r.layout words 0 j here (omega arith)
can r ghosts words row stamp is (reads {j = j} {offset = offset} here some small named) = loads_line r.layout words offset j here (omega arith)
can r ghosts words row stamp is (has_read {j = j} here) = loads_line r.layout words 6 j here (omega arith)
can r ghosts words row stamp is (walks here) = (here, tt)
can r ghosts words row stamp is (is_turned_back here) = (here, tt)
can r ghosts words row stamp is (finds here within free) = (here, tt)
can r ghosts words row stamp is (loses {target = target} moved) = loads r.layout words (Cached (Node target.node version_offset)) (is.sure.1.within, omega arith)
can r ghosts words row stamp is (decides {target = target} same) = loads r.layout words (Cached (Node target.node version_offset)) (is.sure.1.within, omega arith)
can r ghosts words row stamp is (changes {e = e} {word = word} {x = x} {s = s} {t = t} {a = a} step) = step_can_act r.layout (aim_of e word) words s a x t step
can r ghosts words row stamp is (has_changed {e = e} {word = word} {x = x} {s = s} {a = a} step) = step_can_act r.layout (aim_of e word) words s a x _ step
can r ghosts words row stamp is (stamps {e = e} here) = stores_volatile r.layout words e.node stamp_offset r.stamp here (omega arith) stamp
can r ghosts words row stamp is (empties {j = j} here) = stores_state r.layout words j here
can r ghosts words row stamp is (passes_node {n = n} here other_status) = loads r.layout words (Volatile n status_offset) (here, omega arith)
can r ghosts words row stamp is (sees_gone {n = n} here gone) = loads r.layout words (Volatile n status_offset) (here, omega arith)
can r ghosts words row stamp is (passes_stamp {n = n} here why) = loads r.layout words (Volatile n stamp_offset) (here, omega arith)
can r ghosts words row stamp is (sees_stamp {n = n} here some_stamp at_most) = loads r.layout words (Volatile n stamp_offset) (here, omega arith)
can r ghosts words row stamp is (passes_worn {n = n} here worn) = loads r.layout words (Cached (Node n version_offset)) (here, omega arith)
can r ghosts words row stamp is (sees_unworn {n = n} here unworn) = loads r.layout words (Cached (Node n version_offset)) (here, omega arith)
can r ghosts words row stamp is (unstamps {n = n} here) = stores_volatile r.layout words n stamp_offset 0 here (omega arith) (omega arith)
can r ghosts words row stamp is (frees {n = n} here) = stores_volatile r.layout words n 0 0 here (omega arith) (omega arith)
can r ghosts words row stamp is (counts {n = n} here) = loads r.layout words (Volatile n status_offset) (here, omega arith)
can r ghosts words row stamp is (leaves_lock done) = ((addresses_within r.layout Updater tt, lock_outside r.layout), omega arith)

pub row_step_can_act : RowStepCanAct
row_step_can_act r ghosts words s t a x row stamp is step = can r ghosts words row stamp is step
