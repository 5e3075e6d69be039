-- What calls on an index leave to the updater.
use Rattle.std.proofs.Common.{◌≡◌, ℕ, ◌+◌, ◌*◌, ◌<◌, ◌≤◌, ◌==◌, ◌⊎◌, ⊎_elim, inl, inr, false}
use Rattle.std.proofs.Common.{List, length, refl, sym, ap, ◌∙◌, subst, arith}
use Rattle.std.proofs.lemmas.Bool.{cases_eq}
use Rattle.pm_words.specs.Codes.{empty_state, ready_state}
use Rattle.pm_words.specs.declared.layout.Layout.{Layout}
use Rattle.shapes.specs.Anchors.{Anchors, merges}
use Rattle.data_node.specs.Lists.{ListNode}
use Rattle.call_stages.specs.declared.once.Placed.{Placed}
use Rattle.index_law.specs.Anchors.{anchors_in, anchors_of}
use Rattle.recovery.specs.lone_call_law.specs.Merging.{NextIsWorn}
use Rattle.index_law.specs.Worlds.{World}
use Rattle.recovery.specs.lone_updater_law.specs.CallLogs.{KeepsLines, MakesReady, empty_lines, is_own_empty}
use Rattle.recovery.specs.lone_updater_law.specs.LoneTurns.{line_state}
use Rattle.recovery.specs.lone_updater_law.proofs.ReadyCounts.{count_same, empty_are_counted, ready_are_counted}
use Rattle.updater_law.proofs.Columns.{other}
use Rattle.recovery.specs.index_core.specs.CoreCalls.{most_writes}
use Rattle.recovery.specs.index_core.specs.Indexes.{Index, IsIndex, map_of_index, world}
use Rattle.recovery.specs.index_core.specs.Lone.{HasNoCalls, HasSameList, LeavesList, MergesFor, MergesNothing}
use Rattle.recovery.specs.index_core.specs.Lone.{NeedsNoTurn, RunsAlone, SplitsFor, SplitsNothing, taken_nodes}
use Rattle.recovery.specs.index_core.specs.declared.party.CoreCall.{CoreCall}
use Rattle.recovery.specs.index_core.specs.declared.party.CoreCall.TheVariants as call
use Rattle.recovery.specs.index_core.specs.declared.party.Whole.{Whole}
use Rattle.recovery.specs.index_core.specs.declared.party.Whole.TheVariants as whole
use Rattle.recovery.specs.index_core.proofs.Logs.{room_needs_no_turn}
use Rattle.recovery.specs.index_core.proofs.Taken.{del_length, put_length}
use Rattle.core_rounds.specs.CoreMaps.{Waits, calls_left_of, changes_for, puts_for}
use Rattle.core_rounds.specs.Waiting.{one_if}
use Rattle.core_rounds.proofs.CoreMaps.{locks_remain, next_unworn}

-- a call for which there is room needs no turn
pub needs_none : (caller : ℕ) (s : Index) (c : CoreCall) (changes writes puts : ℕ) → caller < s.layout.callers → IsIndex s → HasNoCalls s → 0 < calls_left_of s →
    Waits s changes (writes + most_writes c) (puts + puts_for c) → NeedsNoTurn caller c s
needs_none caller s (call.Put name value limit) changes writes puts here is idle left waits =
    let lines = waits.lines caller here in
    let nodes = waits.nodes in
    let four = locks_remain s left in
    room_needs_no_turn s caller (call.Put name value limit) is idle (omega arith) (omega arith) (omega arith) (omega arith)
needs_none caller s (call.Del name limit) changes writes puts here is idle left waits =
    let lines = waits.lines caller here in
    let nodes = waits.nodes in
    let four = locks_remain s left in
    room_needs_no_turn s caller (call.Del name limit) is idle (omega arith) (omega arith) (omega arith) (omega arith)
needs_none caller s (call.Get name) changes writes puts here is idle left waits = tt
needs_none caller s (call.Part low count) changes writes puts here is idle left waits = tt
needs_none caller s (call.Recheck node version) changes writes puts here is idle left waits = tt
needs_none caller s (call.Turn stamp release) changes writes puts here is idle left waits = tt

-- puts split, and puts and deletes alone change the shape
split_is_put : (s new : Index) (c : CoreCall) → SplitsFor c s new → 1 ≤ puts_for c
split_is_put s new (call.Put name value limit) cut = omega arith
split_is_put s new (call.Get name) cut = absurd cut
split_is_put s new (call.Del name limit) cut = absurd cut
split_is_put s new (call.Part low count) cut = absurd cut
split_is_put s new (call.Recheck node version) cut = absurd cut
split_is_put s new (call.Turn stamp release) cut = absurd cut

change_is_write : (s new : Index) (c : CoreCall) → SplitsFor c s new ⊎ MergesFor c s new → 1 ≤ most_writes c
change_is_write s new (call.Put name value limit) change = omega arith
change_is_write s new (call.Del name limit) change = omega arith
change_is_write s new (call.Get name) change = absurd (⊎_elim (λ (none : ⊥). none) (λ (none : ⊥). none) change)
change_is_write s new (call.Part low count) change = absurd (⊎_elim (λ (none : ⊥). none) (λ (none : ⊥). none) change)
change_is_write s new (call.Recheck node version) change = absurd (⊎_elim (λ (none : ⊥). none) (λ (none : ⊥). none) change)
change_is_write s new (call.Turn stamp release) change = absurd (⊎_elim (λ (none : ⊥). none) (λ (none : ⊥). none) change)

-- with another shape other nodes are listed
same_size : (s new : Index) → HasSameList s new → length (anchors_in (world new)) ≡ length (anchors_in (world s))
same_size s new same = ap (λ (list : List ListNode). length (anchors_of list)) same

cut_is_other : (s new : Index) (c : CoreCall) → HasSameList s new → SplitsFor c s new → ⊥
cut_is_other s new (call.Put name value limit) same cut =
    let more = ap length cut.1 ∙ put_length s.layout.slots (map_of_index s) (anchors_in (world s)) name cut.0 in
    let size = same_size s new same in
    omega arith
cut_is_other s new (call.Get name) same cut = cut
cut_is_other s new (call.Del name limit) same cut = cut
cut_is_other s new (call.Part low count) same cut = cut
cut_is_other s new (call.Recheck node version) same cut = cut
cut_is_other s new (call.Turn stamp release) same cut = cut

merge_is_other : (s new : Index) (c : CoreCall) → HasSameList s new → MergesFor c s new → ⊥
merge_is_other s new (call.Del name limit) same merge =
    let less = ap (λ (anchors : Anchors). length anchors + 1) merge.1 ∙ del_length s.layout.slots (map_of_index s) (anchors_in (world s)) name merge.0.0 in
    let size = same_size s new same in
    omega arith
merge_is_other s new (call.Put name value limit) same merge = merge
merge_is_other s new (call.Get name) same merge = merge
merge_is_other s new (call.Part low count) same merge = merge
merge_is_other s new (call.Recheck node version) same merge = merge
merge_is_other s new (call.Turn stamp release) same merge = merge

-- a caller whose line is made READY has one EMPTY line fewer, and any other as many as it had
one-fewer : (caller of : ℕ) (w0 w : World) → MakesReady caller w0 w → empty_lines of w0 ≤ empty_lines of w + 1
one-fewer caller of w0 w made = elim (cases_eq of caller) [
  | inl own ↦
      let fewer = (empty_are_counted of w0 w).1 (subst (λ (k : ℕ). MakesReady k w0 w) (sym own) made) in
      omega (arith, fewer)
  | inr other_one ↦
      let line = made.own in
      let same = count_same (is_own_empty of w0) (is_own_empty of w) 8
      (λ k small. ap (λ (state : ℕ). state == empty_state)
      (ap (λ (state : ℕ → ℕ). state (8 * of + k)) made.is ∙ other (line_state w0) made.line (8 * of + k) ready_state (λ is. other_one (omega (arith, is, line, small))))) in
      omega (arith, same)
]

-- what a call leaves that changes the shape so often
module _ (caller : ℕ) (s new : Index) (c : CoreCall) (r : Whole) (here : caller < s.layout.callers) (is : IsIndex s) (idle : HasNoCalls s) (left : 0 < calls_left_of s) (runs : RunsAlone s caller c new r) where
  leaves : (changes writes puts more : ℕ) → (HasSameList s new → more ≡ changes) → (SplitsFor c s new ⊎ MergesFor c s new → more ≡ changes + 1) →
      Waits s changes (writes + most_writes c) (puts + puts_for c) → Waits new more writes puts
  leaves changes writes puts more kept_so changed_so waits =
      let needs = needs_none caller s c changes writes puts here is idle left waits in
      let ready = waits.ready in
      let nodes = waits.nodes in
      let same_nodes : new.layout.nodes ≡ s.layout.nodes = ap (λ (l : Layout). l.nodes) runs.layout in
      let same_callers : new.layout.callers ≡ s.layout.callers = ap (λ (l : Layout). l.callers) runs.layout in
      let taken : taken_nodes new ≤ taken_nodes s + puts_for c = ⊎_elim
      (λ (same : taken_nodes new ≡ taken_nodes s). omega arith)
      (λ (cut : SplitsFor c s new × (taken_nodes new ≡ taken_nodes s + 1)). let put = split_is_put s new c cut.0 in let one = cut.1 in omega arith)
      (runs.log needs).taken in
      let room : taken_nodes new + puts < new.layout.nodes = omega arith in
      let counted = ready_are_counted caller (world s) (world new) runs.layout in
      ⊎_elim
      (λ (kept : HasSameList s new × KeepsLines (world s) (world new)).
      record {
        ready = counted.0 kept.1 ∙ ready ∙ sym (kept_so kept.0);
        lines = λ of there.
            (let lines = waits.lines of (omega (arith, there, same_callers)) in
            let same = (empty_are_counted of (world s) (world new)).0 kept.1 in
            omega (arith, lines, same));
        nodes = room;
      })
      (λ (made : (SplitsFor c s new ⊎ MergesFor c s new) × MakesReady caller (world s) (world new)).
      let write = change_is_write s new c made.0 in
      record {
        ready = counted.1 made.1 ∙ ap (λ (n : ℕ). n + 1) ready ∙ sym (changed_so made.0);
        lines = λ of there.
            (let lines = waits.lines of (omega (arith, there, same_callers)) in
            let fewer = one-fewer caller of (world s) (world new) made.1 in
            omega (arith, lines, fewer, write));
        nodes = room;
      })
      (runs.log needs).lines

  -- one that left the list
  waits_kept : HasSameList s new → (changes writes puts : ℕ) → Waits s changes (writes + most_writes c) (puts + puts_for c) → Waits new changes writes puts
  waits_kept same changes writes puts =
      leaves changes writes puts changes (λ _. refl) (λ changed. absurd (⊎_elim (cut_is_other s new c same) (merge_is_other s new c same) changed))

-- one that took place
split_counts : (s new : Index) (c : CoreCall) → SplitsFor c s new → changes_for s c ≡ 1
split_counts s new (call.Put name value limit) cut = ap one_if cut.0
split_counts s new (call.Get name) cut = absurd cut
split_counts s new (call.Del name limit) cut = absurd cut
split_counts s new (call.Part low count) cut = absurd cut
split_counts s new (call.Recheck node version) cut = absurd cut
split_counts s new (call.Turn stamp release) cut = absurd cut

merge_counts : (s new : Index) (c : CoreCall) → MergesFor c s new → changes_for s c ≡ 1
merge_counts s new (call.Del name limit) merge = ap one_if merge.0.0
merge_counts s new (call.Put name value limit) merge = absurd merge
merge_counts s new (call.Get name) merge = absurd merge
merge_counts s new (call.Part low count) merge = absurd merge
merge_counts s new (call.Recheck node version) merge = absurd merge
merge_counts s new (call.Turn stamp release) merge = absurd merge

none_counts : (s new : Index) (c : CoreCall) → IsIndex s → 0 < calls_left_of s → SplitsNothing c s → MergesNothing c s → changes_for s c ≡ 0
none_counts s new (call.Put name value limit) is left splits_none merges_none = ap one_if splits_none
none_counts s new (call.Del name limit) is left splits_none merges_none = ⊎_elim
    (λ (none : merges s.layout.slots (map_of_index s) (anchors_in (world s)) name ≡ false). ap one_if none)
    (λ (worn : NextIsWorn (world s) name). absurd (next_unworn s name is left worn))
    merges_none
none_counts s new (call.Get name) is left splits_none merges_none = refl
none_counts s new (call.Part low count) is left splits_none merges_none = refl
none_counts s new (call.Recheck node version) is left splits_none merges_none = refl
none_counts s new (call.Turn stamp release) is left splits_none merges_none = refl

kept_counts : (s new : Index) (c : CoreCall) (placed : Placed) → IsIndex s → 0 < calls_left_of s → LeavesList c (whole.Placed placed) s new → HasSameList s new → changes_for s c ≡ 0
kept_counts s new c placed is left list same = ⊎_elim
    (λ (kept : HasSameList s new × SplitsNothing c s × MergesNothing c s). none_counts s new c is left kept.1 kept.2)
    (λ (changed : SplitsFor c s new ⊎ MergesFor c s new). absurd (⊎_elim (cut_is_other s new c same) (merge_is_other s new c same) changed))
    list

pub waits_placed : (caller : ℕ) (s new : Index) (c : CoreCall) (r : Whole) (placed : Placed) → caller < s.layout.callers → IsIndex s → HasNoCalls s → 0 < calls_left_of s → r ≡ whole.Placed placed →
    RunsAlone s caller c new r → (changes writes puts : ℕ) → Waits s changes (writes + most_writes c) (puts + puts_for c) → Waits new (changes + changes_for s c) writes puts
waits_placed caller s new c r placed here is idle left answered runs changes writes puts =
    let run : RunsAlone s caller c new (whole.Placed placed) = subst (RunsAlone s caller c new) answered runs in
    leaves caller s new c (whole.Placed placed) here is idle left run changes writes puts (changes + changes_for s c)
    (λ same. let none = kept_counts s new c placed is left run.list same in omega (arith, none))
    (λ changed. ap (λ (n : ℕ). changes + n) (⊎_elim (split_counts s new c) (merge_counts s new c) changed))

-- and one that found no room
pub waits_full : (caller : ℕ) (s new : Index) (c : CoreCall) (r : Whole) → caller < s.layout.callers → IsIndex s → HasNoCalls s → 0 < calls_left_of s → r ≡ whole.Full → RunsAlone s caller c new r →
    (changes writes puts : ℕ) → Waits s changes (writes + most_writes c) (puts + puts_for c) → Waits new changes writes puts
waits_full caller s new c r here is idle left answered runs =
    let run : RunsAlone s caller c new whole.Full = subst (RunsAlone s caller c new) answered runs in
    waits_kept caller s new c whole.Full here is idle left run run.list

-- a part of a scan changes nothing
pub waits_listed : (caller : ℕ) (s new : Index) (low : List ℕ) (count : ℕ) (r : Whole) → caller < s.layout.callers → IsIndex s → HasNoCalls s → 0 < calls_left_of s →
    RunsAlone s caller (call.Part low count) new r → (changes writes puts : ℕ) → Waits s changes writes puts → Waits new changes writes puts
waits_listed caller s new low count r here is idle left runs changes writes puts waits =
    let nodes = waits.nodes in
    leaves caller s new (call.Part low count) r here is idle left runs changes writes puts changes (λ _. refl)
    (λ changed. absurd (⊎_elim (λ (none : ⊥). none) (λ (none : ⊥). none) changed))
    (record { ready = waits.ready; lines = λ of there. (let lines = waits.lines of there in omega (arith, lines)); nodes = omega (arith, nodes) })

-- nothing more
pub no_more : (s : Index) {changes writes puts : ℕ} → Waits s changes writes puts → Waits s changes (writes + 0) (puts + 0)
no_more s waits =
    let nodes = waits.nodes in
    record { ready = waits.ready; lines = λ of there. (let lines = waits.lines of there in omega (arith, lines)); nodes = omega (arith, nodes) }

pub no_change : (s : Index) {changes writes puts : ℕ} → Waits s changes writes puts → Waits s (changes + 0) writes puts
no_change s waits = let ready = waits.ready in record { ready = omega (arith, ready); lines = waits.lines; nodes = waits.nodes }

pub none_changed : (s : Index) {changes writes puts : ℕ} → Waits s (changes + 0) writes puts → Waits s changes writes puts
none_changed s waits = let ready = waits.ready in record { ready = omega (arith, ready); lines = waits.lines; nodes = waits.nodes }
