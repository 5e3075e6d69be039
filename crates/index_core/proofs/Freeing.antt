-- Which steps make a node FREE: one of a turn of the updater, and no step of a call.
use Rattle.std.proofs.Common.{◌≡◌, ◌≢◌, ℕ, ◌+◌, ◌<◌, ◌⊎◌, inl, inr, ⊎_elim, Bool, true, false, cond, List, slice_set}
use Rattle.std.proofs.Common.{sym, ap, ◌∙◌, subst, arith, refl}
use Rattle.std.specs.Prelude.{Option, nat_lt, ◌==◌}
use Rattle.std.proofs.lemmas.Bool.{cases_eq, eq-eqb, ne_eqb}
use Rattle.std.proofs.lemmas.List.{set-get_or}
use Rattle.pm_words.specs.Codes.{free_status, live_status, gone_status, empty_state, merge_kind, untaken_lock}
use Rattle.pm_words.specs.Codes.{taken_lock}
use Rattle.pm_words.specs.declared.layout.Layout.{Layout}
use Rattle.pm_words.specs.declared.action.Action.{Action}
use Rattle.pm_words.specs.declared.action.Action.TheVariants.{Load}
use Rattle.pm_words.specs.Locations.{Location, Updater, Volatile, Cached, HasLocation, address_of, at}
use Rattle.pm_words.specs.Rows.{IsRow, acted, got}
use Rattle.pm_words.proofs.Apart.{at-set_other}
use Rattle.pm_words.specs.Offsets.{state_offset, left_offset, status_offset, stamp_offset}
use Rattle.call_stages.specs.declared.once.Once.{Once}
use Rattle.call_stages.specs.declared.once.Placed.{Placed}
use Rattle.call_stages.specs.Stages.{Stage}
use Rattle.call_stages.specs.Kinds.{Step, Split, Merge}
use Rattle.call_stages.specs.Kinds as kinds
use Rattle.node_ops.specs.search_layer.specs.ChangeStages.{Changing, Changed, ChangeStep}
use Rattle.index_law.specs.Facts.{Facts, status_in}
use Rattle.index_law.proofs.Listing.{merge_gone}
use Rattle.index_law.proofs.Moves.{fact_after, split_after, merge_after}
use Rattle.index_law.proofs.Places.{node_at, offset_at}
use Rattle.index_law.proofs.Rows.{status_in-alike}
use Rattle.updater.specs.updater_row_law.specs.Columns.{RowTerms, Ghosts, line_count, line_word}
use Rattle.updater.specs.updater_row_law.specs.RowStages.{RowLine, aim_of, RowStage, Resting, Between, Sweeps, Stamps}
use Rattle.updater.specs.updater_row_law.specs.RowStages.{Clears, Counts, Changes, IsUnworn, Frees, after_line}
use Rattle.updater.specs.updater_row_law.specs.RowStages.{after_node, after_change}
use Rattle.updater.specs.updater_row_law.specs.RowSteps.{line_at, volatile_at, version_at, RowStep, takes_lock}
use Rattle.updater.specs.updater_row_law.specs.RowSteps.{finds_held, passes, sees, reads, has_read, walks}
use Rattle.updater.specs.updater_row_law.specs.RowSteps.{is_turned_back, finds, loses, decides, changes, has_changed}
use Rattle.updater.specs.updater_row_law.specs.RowSteps.{stamps, empties, passes_node, sees_gone, passes_stamp}
use Rattle.updater.specs.updater_row_law.specs.RowSteps.{sees_stamp, passes_worn, sees_unworn, unstamps, frees}
use Rattle.updater.specs.updater_row_law.specs.RowSteps.{counts, leaves_lock}
use Rattle.updater.specs.updater_row_law.specs.RowLaw.{RowLawful}
use Rattle.updater.specs.updater_row_law.proofs.RowChanges.{change_kept}

-- ---- of calls

module _ {l : Layout} {g : ℕ} (f : Facts) (caller index : ℕ) where
  split_frees_none : {s : Stage} {a : Action} {x : ℕ} {t : Stage} → (k : Split l g s a x t) → (n : ℕ) → (split_after k f).status n ≡ free_status → f.status n ≡ free_status
  split_frees_none (kinds.fills has positive small within soils told) n is = is
  split_frees_none (kinds.lights {fresh = fresh} here leads) n is = ⊎_elim
      (λ (e : n ≡ fresh.node). absurd (let no : live_status ≡ free_status = sym (ap (λ b. cond b live_status (f.status n)) (eq-eqb n fresh.node e)) ∙ is in omega arith))
      (λ (other : n ≢ fresh.node). sym (ap (λ b. cond b live_status (f.status n)) (ne_eqb n fresh.node other)) ∙ is)
      (cases_eq n fresh.node)
  split_frees_none (kinds.switches here small durable soiled cut told means) n is = is
  split_frees_none (kinds.glances_left has learnt) n is = is
  split_frees_none (kinds.glances_fresh has) n is = is
  split_frees_none (kinds.drains_left has small hand cleans) n is = is
  split_frees_none (kinds.drains_fresh has small hand cleans) n is = is
  split_frees_none (kinds.trims here small durable soiled anchor told means) n is = is

  merge_frees_none : {s : Stage} {a : Action} {x : ℕ} {t : Stage} → (k : Merge l g s a x t) → (n : ℕ) → (merge_after k f).status n ≡ free_status → f.status n ≡ free_status
  merge_frees_none k n is =
      ⊎_elim (λ same. sym same ∙ is) (λ gone. absurd (let no : gone_status ≡ free_status = sym gone ∙ is in omega arith)) (merge_gone f k n)

  pub step_frees_none : {s : Stage} {a : Action} {x : ℕ} {t : Stage} {r : Option (Once Placed)} → (k : Step l g s a x t r) → (n : ℕ) → (fact_after k f caller index).status n ≡ free_status → f.status n ≡ free_status
  step_frees_none (kinds.looks look) n is = is
  step_frees_none (kinds.locks same named live between) n is = is
  step_frees_none (kinds.locks_read same named live between unworn taken small) n is = is
  step_frees_none (kinds.stores has content small clean soils learnt means) n is = is
  step_frees_none (kinds.commits has content small clean durable soiled old about learnt means) n is = is
  step_frees_none (kinds.drains has small unready hand cleans) n is = is
  step_frees_none (kinds.counts durable ready pending unplaced) n is = is
  step_frees_none (kinds.unlocks next pending durable unready answers) n is = is
  step_frees_none (kinds.claims unplaced here same) n is = is
  step_frees_none (kinds.publishes next left fresh) n is = is
  step_frees_none (kinds.leaves next) n is = is
  step_frees_none (kinds.splits k) n is = split_frees_none k n is
  step_frees_none (kinds.merges k) n is = merge_frees_none k n is

-- ---- of turns

abbrev freed_node : RowStage → ℕ
freed_node (Frees n) = n
freed_node _ = 0

-- A turn that is about to free the node, which is one of the layout's.
abbrev pub AboutToFree : RowTerms → RowStage → ℕ → Type 0
AboutToFree r s n = (s ≡ Frees n) × (n < r.layout.nodes)

module _ (r : RowTerms) (ghosts : Ghosts) (words : List ℕ) (row : IsRow r.layout words) (m : ℕ) where
  abbrev l : Layout
  l = r.layout

  abbrev Stays : Action → RowStage → Type 0
  Stays a s = (status_in l (acted l words a) m ≡ status_in l words m) ⊎ AboutToFree r s m

  loads : (address : ℕ) (s : RowStage) → Stays (Load address) s
  loads address s = inl (ap (λ (v : List ℕ). status_in l v m) (set-get_or words address 0))

  apart : (p : Location) (y : ℕ) → HasLocation l p → (Volatile m status_offset ≡ p → ⊥) → status_in l (slice_set words (address_of l p) y) m ≡ status_in l words m
  apart p y has other = status_in-alike l words (slice_set words (address_of l p) y) m (λ there. at-set_other l words p (Volatile m status_offset) y has (there, omega arith) other)

  stamped : (n y : ℕ) → n < l.nodes → status_in l (slice_set words (volatile_at l n stamp_offset) y) m ≡ status_in l words m
  stamped n y here = apart (Volatile n stamp_offset) y (here, omega arith) (λ e. let no : 0 ≡ 2 = ap offset_at e in omega arith)

  leaves_statuses : (e : RowLine) (word : ℕ) (s t : Changing) (a : Action) → RowLawful r ghosts words (Changes e word s) → ChangeStep l (aim_of e word) s a (got l words a) t → status_in l (acted l words a) m ≡ status_in l words m
  leaves_statuses e word s t a is step =
      let keeps = change_kept r words e word s t a row is.sure step in
      status_in-alike l words (acted l words a) m (λ there. keeps.others (Volatile m status_offset) (there, omega arith) refl)

  pub only_frees : {s : RowStage} {a : Action} {x : ℕ} {t : RowStage} → RowStep r s a x t → x ≡ got l words a → (s ≢ Resting → RowLawful r ghosts words s) → Stays a s
  only_frees (takes_lock free) told is = let word : ℕ = at l words Updater in inl (apart Updater (cond (word == untaken_lock) taken_lock word) tt (λ e. cc))
  only_frees (finds_held taken) told is = let word : ℕ = at l words Updater in inl (apart Updater (cond (word == untaken_lock) taken_lock word) tt (λ e. cc))
  only_frees {s = s} (passes {j = j} here other) told is = loads (line_at l j state_offset) s
  only_frees {s = s} (sees {j = j} seen here ready size) told is = loads (line_at l j state_offset) s
  only_frees {s = s} (reads {j = j} {offset = offset} here some_offset small named) told is = loads (line_at l j offset) s
  only_frees {s = s} (has_read {j = j} here) told is = loads (line_at l j left_offset) s
  only_frees {s = s} (walks {address = address} here) told is = loads address s
  only_frees {s = s} (is_turned_back {address = address} here) told is = loads address s
  only_frees {s = s} (finds {address = address} here within free) told is = loads address s
  only_frees {s = s} (loses {target = target} moved) told is = loads (version_at l target.node) s
  only_frees {s = s} (decides {target = target} same) told is = loads (version_at l target.node) s
  only_frees (changes {e = e} {word = word} {s = c} {t = d} {a = a} step) told is =
      inl (leaves_statuses e word c d a (is (λ e. cc)) (subst (λ (x : ℕ). ChangeStep l (aim_of e word) c a x d) told step))
  only_frees (has_changed {e = e} {word = word} {s = c} {a = a} step) told is =
      inl (leaves_statuses e word c Changed a (is (λ e. cc)) (subst (λ (x : ℕ). ChangeStep l (aim_of e word) c a x Changed) told step))
  only_frees (stamps {e = e} here) told is = inl (stamped e.node r.stamp here)
  only_frees (empties {j = j} here) told is = inl (apart (Cached (line_word state_offset j)) empty_state (omega arith, omega arith, omega arith) (λ e. cc))
  only_frees {s = s} (passes_node {n = n} here other) told is = loads (volatile_at l n status_offset) s
  only_frees {s = s} (sees_gone {n = n} here gone) told is = loads (volatile_at l n status_offset) s
  only_frees {s = s} (passes_stamp {n = n} here why) told is = loads (volatile_at l n stamp_offset) s
  only_frees {s = s} (sees_stamp {n = n} here some_stamp most) told is = loads (volatile_at l n stamp_offset) s
  only_frees {s = s} (passes_worn {n = n} here worn) told is = loads (version_at l n) s
  only_frees {s = s} (sees_unworn {n = n} here unworn) told is = loads (version_at l n) s
  only_frees (unstamps {n = n} here) told is = inl (stamped n 0 here)
  only_frees (frees {n = n} here) told is = ⊎_elim
      (λ (e : m ≡ n). inr (ap Frees (sym e), subst (λ k. k < l.nodes) (sym e) here))
      (λ (other : m ≢ n). inl (apart (Volatile n status_offset) free_status (here, omega arith) (λ e. other (ap node_at e))))
      (cases_eq m n)
  only_frees {s = s} (counts {n = n} here) told is = loads (volatile_at l n status_offset) s
  only_frees (leaves_lock done) told is = inl (apart Updater untaken_lock tt (λ e. cc))

past_line : (r : RowTerms) (j n : ℕ) → after_line r j ≡ Frees n → ⊥
past_line r j n is = by_test (nat_lt (j + 1) (line_count r.layout)) is
  where
    by_test : (b : Bool) → cond b (Between (j + 1)) (Sweeps 0) ≡ Frees n → ⊥
    by_test true same = cc
    by_test false same = cc

past_node : (r : RowTerms) (k n : ℕ) → after_node r k ≡ Frees n → ⊥
past_node r k n is = by_test (nat_lt (k + 1) r.layout.nodes) is
  where
    by_test : (b : Bool) → cond b (Sweeps (k + 1)) (Counts 0 true) ≡ Frees n → ⊥
    by_test true same = cc
    by_test false same = cc

past_change : (e : RowLine) (n : ℕ) → after_change e ≡ Frees n → ⊥
past_change e n is = by_test (e.kind == merge_kind) is
  where
    by_test : (b : Bool) → cond b (Stamps e) (Clears e.line) ≡ Frees n → ⊥
    by_test true same = cc
    by_test false same = cc

-- A turn comes to free a node only as it takes that node's stamp away.
pub comes_from : (r : RowTerms) {s : RowStage} {a : Action} {x : ℕ} {t : RowStage} → RowStep r s a x t → (n : ℕ) → t ≡ Frees n → (s ≡ IsUnworn n) × (n < r.layout.nodes)
comes_from r (takes_lock free) n is = absurd cc
comes_from r (finds_held taken) n is = absurd cc
comes_from r (passes {j = j} here other) n is = absurd (past_line r j n is)
comes_from r (sees seen here ready size) n is = absurd cc
comes_from r (reads here some_offset small named) n is = absurd cc
comes_from r (has_read here) n is = absurd cc
comes_from r (walks here) n is = absurd cc
comes_from r (is_turned_back {e = e} here) n is = absurd (past_line r e.line n is)
comes_from r (finds here within free) n is = absurd cc
comes_from r (loses {e = e} moved) n is = absurd (past_line r e.line n is)
comes_from r (decides same) n is = absurd cc
comes_from r (changes step) n is = absurd cc
comes_from r (has_changed {e = e} step) n is = absurd (past_change e n is)
comes_from r (stamps here) n is = absurd cc
comes_from r (empties {j = j} here) n is = absurd (past_line r j n is)
comes_from r (passes_node {n = k} here other) n is = absurd (past_node r k n is)
comes_from r (sees_gone here gone) n is = absurd cc
comes_from r (passes_stamp {n = k} here why) n is = absurd (past_node r k n is)
comes_from r (sees_stamp here some_stamp most) n is = absurd cc
comes_from r (passes_worn {n = k} here worn) n is = absurd (past_node r k n is)
comes_from r (sees_unworn here unworn) n is = absurd cc
comes_from r (unstamps {n = k} here) n is =
    let same : k ≡ n = ap freed_node is in (ap IsUnworn same, subst (λ j. j < r.layout.nodes) same here)
comes_from r (frees {n = k} here) n is = absurd (past_node r k n is)
comes_from r (counts here) n is = absurd cc
comes_from r (leaves_lock done) n is = absurd cc
