-- A turn that rests after a step of its work has given the updater lock back.
use Rattle.std.proofs.Common.{◌≡◌, ◌≢◌, ℕ, ◌+◌, Bool, true, false, cond, List, refl}
use Rattle.pm_words.specs.Codes.{merge_kind, untaken_lock}
use Rattle.pm_words.specs.declared.action.Action.{Action}
use Rattle.pm_words.specs.Locations.{Updater, at}
use Rattle.pm_words.specs.Rows.{IsRow, acted}
use Rattle.pm_words.proofs.Apart.{at-set_same}
use Rattle.updater_row_law.specs.Columns.{RowTerms, line_count}
use Rattle.updater_row_law.specs.RowStages.{RowLine, RowStage, Resting, Between, Stamps, Clears, Sweeps, Counts, after_line, after_node, after_change}
use Rattle.updater_row_law.specs.RowSteps.{RowStep, takes_lock, finds_held, passes, sees, reads, has_read, walks, is_turned_back, finds, loses, decides, changes, has_changed, stamps, empties, passes_node, sees_gone, passes_stamp, sees_stamp, passes_worn, sees_unworn, unstamps, frees, counts, leaves_lock}
use Rattle.std.specs.Prelude.{nat_lt, ◌==◌}

past_line : (r : RowTerms) (j : ℕ) → after_line r j ≡ Resting → ⊥
past_line r j is = by_test (nat_lt (j + 1) (line_count r.layout)) is
  where
    by_test : (b : Bool) → cond b (Between (j + 1)) (Sweeps 0) ≡ Resting → ⊥
    by_test true same = cc
    by_test false same = cc

past_node : (r : RowTerms) (n : ℕ) → after_node r n ≡ Resting → ⊥
past_node r n is = by_test (nat_lt (n + 1) r.layout.nodes) is
  where
    by_test : (b : Bool) → cond b (Sweeps (n + 1)) (Counts 0 true) ≡ Resting → ⊥
    by_test true same = cc
    by_test false same = cc

past_change : (e : RowLine) → after_change e ≡ Resting → ⊥
past_change e is = by_test (e.kind == merge_kind) is
  where
    by_test : (b : Bool) → cond b (Stamps e) (Clears e.line) ≡ Resting → ⊥
    by_test true same = cc
    by_test false same = cc

pub gives_back : (r : RowTerms) (words : List ℕ) → IsRow r.layout words → {s : RowStage} {a : Action} {x : ℕ} {t : RowStage} → RowStep r s a x t → s ≢ Resting → t ≡ Resting → at r.layout (acted r.layout words a) Updater ≡ untaken_lock
gives_back r words row (takes_lock free) busy is = absurd (busy refl)
gives_back r words row (finds_held taken) busy is = absurd (busy refl)
gives_back r words row (passes {j = j} here other) busy is = absurd (past_line r j is)
gives_back r words row (sees seen here ready size) busy is = absurd cc
gives_back r words row (reads here some_offset small named) busy is = absurd cc
gives_back r words row (has_read here) busy is = absurd cc
gives_back r words row (walks here) busy is = absurd cc
gives_back r words row (is_turned_back {e = e} here) busy is = absurd (past_line r e.line is)
gives_back r words row (finds here within free) busy is = absurd cc
gives_back r words row (loses {e = e} moved) busy is = absurd (past_line r e.line is)
gives_back r words row (decides same) busy is = absurd cc
gives_back r words row (changes step) busy is = absurd cc
gives_back r words row (has_changed {e = e} step) busy is = absurd (past_change e is)
gives_back r words row (stamps here) busy is = absurd cc
gives_back r words row (empties {j = j} here) busy is = absurd (past_line r j is)
gives_back r words row (passes_node {n = n} here other) busy is = absurd (past_node r n is)
gives_back r words row (sees_gone here gone) busy is = absurd cc
gives_back r words row (passes_stamp {n = n} here why) busy is = absurd (past_node r n is)
gives_back r words row (sees_stamp here has_stamp most) busy is = absurd cc
gives_back r words row (passes_worn {n = n} here worn) busy is = absurd (past_node r n is)
gives_back r words row (sees_unworn here unworn) busy is = absurd cc
gives_back r words row (unstamps here) busy is = absurd cc
gives_back r words row (frees {n = n} here) busy is = absurd (past_node r n is)
gives_back r words row (counts here) busy is = absurd cc
gives_back r words row (leaves_lock done) busy is = at-set_same r.layout words Updater untaken_lock row.whole tt
