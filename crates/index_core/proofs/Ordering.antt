-- A party's earlier writes were placed before its call in flight began.
use Rattle.std.proofs.Common.{◌≡◌, ◌≢◌, ℕ, ◌<◌, ◌≤◌, ◌⊎◌, inl, inr, ⊎_elim, List, ◌++◌, length, set, sym, ap, ◌∙◌, subst, arith}
use Rattle.std.specs.Prelude.{Option, Some, None, IfSome, slice_get}
use Rattle.std.proofs.lemmas.List.{append-nil}
use Rattle.std.proofs.lemmas.Option.{slice_get_within}
use mathlib.Core.Option.{some}
use lib.ListN.{get_elem?}
use Rattle.pm_words.specs.declared.layout.Layout.{Layout}
use Rattle.pm_words.specs.declared.action.Action.TheVariants.{Add}
use Rattle.pm_words.specs.declared.machine.Turn.{Turn}
use Rattle.pm_words.specs.declared.machine.Turn.TheVariants.{Go, Done}
use Rattle.pm_words.specs.Rows.{got}
use Rattle.cat_history.specs.declared.op.Change.{Change}
use Rattle.cat_history.specs.declared.op.Write.{Write}
use Rattle.call_stages.specs.declared.once.Once.{Once}
use Rattle.call_stages.specs.declared.once.Placed.{Placed}
use Rattle.call_stages.specs.Kinds.{clock_address}
use Rattle.call_stages.specs.Stages.{counted}
use Rattle.node_ops.specs.declared.running.Running.{Running}
use Rattle.node_ops.specs.Asked.{IsOf, IsOfAfter, op_in}
use Rattle.node_ops.proofs.OpLaw.{counts_own_change, op_told}
use Rattle.cat_history.specs.Records.{change_of}
use Rattle.node_ops.specs.RunningSteps.{running_call, running_asks, running_turned, Sound}
use Rattle.node_ops.specs.CallStages.{stage_of}
use Rattle.index_law.specs.Worlds.{written}
use Rattle.index_law.specs.Lawful.{ClockCounts}
use Rattle.index_law.proofs.Parties.{at_set}
use Rattle.index_core.specs.declared.party.PartyState.{PartyState}
use Rattle.index_core.specs.PartyStates.{state_with, state_after, IsPartyState}
use Rattle.index_core.specs.Indexes.{Index, IsOwnWrite, AreOrdered, told}
use Rattle.index_core.proofs.Lists.{some_same, got_end}
use Rattle.node_ops.specs.Endings.{GoesOn}
use Rattle.node_ops.proofs.Endings.{turns_keep_place}

-- what stands of the party's since its call began has the call's change
abbrev pub OwnsWrites : List Write → PartyState → Running → Type 0
OwnsWrites history e m = (place : ℕ) (write : Write) → slice_get history place ≡ Some write → write.caller ≡ e.caller → e.since ≤ place → change_of (op_in m) ≡ Some write.change

-- a call that begins comes behind all writes
pub start_ordered : (states : List PartyState) (history : List Write) (i : ℕ) (e : PartyState) (machine : Running) → AreOrdered states history → AreOrdered (set states i (state_with e (length history) machine)) history
start_ordered states history i e machine ordered j place state m write at flies stands caller =
    let now = state_with e (length history) machine in
    ⊎_elim
    (λ (mine : (j ≡ i) × (now ≡ state)). inl (subst (λ (d : PartyState). place < d.since) mine.1 (slice_get_within history place write stands)))
    (λ (other : (j ≢ i) × (get_elem? states j ≡ some state)). ordered j place state m write other.1 flies stands caller)
    (at_set states i j now state at)

-- a party that is idle may have another index
pub reindex_ordered : (states : List PartyState) (history : List Write) (i : ℕ) (e : PartyState) (index : ℕ) → e.machine ≡ None → AreOrdered states history → AreOrdered (set states i (record e { index = index })) history
reindex_ordered states history i e index idle ordered j place state m write at flies stands caller =
    ⊎_elim
    (λ (mine : (j ≡ i) × (now ≡ state)). absurd (let both : None ≡ Some m = sym idle ∙ ap (λ (d : PartyState). d.machine) mine.1 ∙ flies in cc))
    (λ (other : (j ≢ i) × (get_elem? states j ≡ some state)). ordered j place state m write other.1 flies stands caller)
    (at_set states i j now state at)
  where
    now : PartyState
    now = record e { index = index }

module _ (s : Index) (i : ℕ) (e : PartyState) (m : Running) (all : (j : ℕ) (state : PartyState) → get_elem? s.states j ≡ some state → IsPartyState s.layout s.generation j state) (ordered : AreOrdered s.states s.history)
    (clock : ClockCounts s.layout s.words s.history) (there : get_elem? s.states i ≡ some e) (flies : e.machine ≡ Some m) where
  of : IsOf (op_in m) m
  of = subst (λ (o : Option Running). IfSome o (λ q. IsOf (op_in q) q)) flies (all i e there).op

  sound : Sound s.layout s.generation m
  sound = subst (λ (o : Option Running). IfSome o (Sound s.layout s.generation)) flies (all i e there).machine

  -- a write after the step is an earlier one, or the party's own at the end
  earlier_or_own : (o : Option Change) (place : ℕ) (write : Write) → slice_get (s.history ++ written e.caller e.index o) place ≡ Some write → (slice_get s.history place ≡ Some write) ⊎ (write.caller ≡ e.caller)
  earlier_or_own None place write stands = inl (subst (λ (h : List Write). slice_get h place ≡ Some write) (append-nil s.history) stands)
  earlier_or_own (Some change) place write stands =
      ⊎_elim
      (λ (before : slice_get s.history place ≡ Some write). inl before)
      (λ (last : (place ≡ length s.history) × (record { caller = e.caller; index = e.index; change = change } ≡ write)). inr (ap (λ (w : Write). w.caller) (sym last.1)))
      (got_end s.history (record { caller = e.caller; index = e.index; change = change }) write place stands)

  -- another party's call sees no new write of its own
  theirs : (j place : ℕ) (state : PartyState) (machine : Running) (write : Write) → j ≢ i → get_elem? s.states j ≡ some state → state.machine ≡ Some machine
      → slice_get (s.history ++ written e.caller e.index (counted (stage_of m))) place ≡ Some write → write.caller ≡ state.caller → (place < state.since) ⊎ IsOwnWrite state machine place write
  theirs j place state machine write other at flown stands caller =
      ⊎_elim
      (λ (before : slice_get s.history place ≡ Some write). ordered j place state machine write at flown before caller)
      (λ (own : write.caller ≡ e.caller). absurd (other (sym (all j state at).caller ∙ sym caller ∙ own ∙ (all i e there).caller)))
      (earlier_or_own (counted (stage_of m)) place write stands)

  -- the party's own call has the place of the write that its step counts
  module _ (next : Running) (is : running_turned m (told s m) ≡ Go next) (same_op : op_in next ≡ op_in m) where
    on : GoesOn (running_call m).view.layout (stage_of m) (running_asks m) (told s m) (stage_of next) (counted (stage_of m))
    on = turns_keep_place m next (told s m) sound.here is

    -- the place that it is told is the length of the history
    told_length : running_asks m ≡ Add (clock_address (running_call m).view.layout) → told s m ≡ length s.history
    told_length adds = ap (got s.layout s.words) (adds ∙ ap (λ (l : Layout). Add (clock_address l)) sound.layout) ∙ clock

    mine : (o : Option Change) → GoesOn (running_call m).view.layout (stage_of m) (running_asks m) (told s m) (stage_of next) o → IfSome o (λ change. change_of (op_in m) ≡ Some change)
        → (place : ℕ) (write : Write) → slice_get (s.history ++ written e.caller e.index o) place ≡ Some write → write.caller ≡ e.caller → (place < e.since) ⊎ IsOwnWrite (state_after e (Go next)) next place write
    mine None same asks place write stands caller =
        ⊎_elim
        (λ (before : place < e.since). inl before)
        (λ (own : IsOwnWrite e m place write). inr (record { placed = same ∙ own.placed; index = own.index; change = ap change_of same_op ∙ own.change }))
        (ordered i place e m write there flies (subst (λ (h : List Write). slice_get h place ≡ Some write) (append-nil s.history) stands) caller)
    mine (Some change) goes asks place write stands caller =
        ⊎_elim
        (λ (old : slice_get s.history place ≡ Some write). ⊎_elim
        (λ (before : place < e.since). inl before)
        (λ (own : IsOwnWrite e m place write). absurd (let both : None ≡ Some place = sym goes.1 ∙ own.placed in cc))
        (ordered i place e m write there flies old caller))
        (λ (last : (place ≡ length s.history) × (record { caller = e.caller; index = e.index; change = change } ≡ write)). inr (record {
          placed = goes.2 ∙ ap Some (told_length goes.0 ∙ sym last.0);
          index = ap (λ (w : Write). w.index) (sym last.1);
          change = ap change_of same_op ∙ asks ∙ ap (λ (w : Write). Some w.change) last.1;
        }))
        (got_end s.history (record { caller = e.caller; index = e.index; change = change }) write place stands)

  after_turn : (turn : Turn Running (Once Placed)) → running_turned m (told s m) ≡ turn → IsOfAfter (op_in m) turn → AreOrdered (set s.states i (state_after e turn)) (s.history ++ written e.caller e.index (counted (stage_of m)))
  after_turn (Done answer) is keeps j place state machine write at flown stands caller =
      ⊎_elim
      (λ (mine : (j ≡ i) × (state_after e (Done answer) ≡ state)). absurd (let both : None ≡ Some machine = ap (λ (d : PartyState). d.machine) mine.1 ∙ flown in cc))
      (λ (other : (j ≢ i) × (get_elem? s.states j ≡ some state)). theirs j place state machine write other.0 other.1 flown stands caller)
      (at_set s.states i j (state_after e (Done answer)) state at)
  after_turn (Go next) is keeps j place state machine write at flown stands caller =
      ⊎_elim
      (λ (same : (j ≡ i) × (state_after e (Go next) ≡ state)).
      let machine_is : next ≡ machine = some_same (ap (λ (d : PartyState). d.machine) same.1 ∙ flown) in
      let by : write.caller ≡ e.caller = caller ∙ ap (λ (d : PartyState). d.caller) (sym same.1) in
      let same_op : op_in next ≡ op_in m = op_told (op_in m) next keeps in
      subst (λ (q : PartyState × Running). (place < q.0.since) ⊎ IsOwnWrite q.0 q.1 place write) (λ k. (same.1 k, machine_is k))
      (mine next is same_op (counted (stage_of m)) (on next is same_op) (counts_own_change (op_in m) m of) place write stands by))
      (λ (other : (j ≢ i) × (get_elem? s.states j ≡ some state)). theirs j place state machine write other.0 other.1 flown stands caller)
      (at_set s.states i j (state_after e (Go next)) state at)

  -- a step keeps the order
  pub step_ordered : IsOfAfter (op_in m) (running_turned m (told s m)) → AreOrdered (set s.states i (state_after e (running_turned m (told s m)))) (s.history ++ written e.caller e.index (counted (stage_of m)))
  step_ordered keeps = after_turn (running_turned m (told s m)) (λ k. running_turned m (told s m)) keeps

  -- whatever stands of the party's since the call began is the call's own, after its step too
  pub owns : OwnsWrites (s.history ++ written e.caller e.index (counted (stage_of m))) e m
  owns = by (counted (stage_of m)) (counts_own_change (op_in m) m of)
    where
      old : (place : ℕ) (write : Write) → slice_get s.history place ≡ Some write → write.caller ≡ e.caller → e.since ≤ place → change_of (op_in m) ≡ Some write.change
      old place write stands caller later =
          ⊎_elim
          (λ (before : place < e.since). absurd (omega arith))
          (λ (own : IsOwnWrite e m place write). own.change)
          (ordered i place e m write there flies stands caller)

      by : (o : Option Change) → IfSome o (λ change. change_of (op_in m) ≡ Some change) → OwnsWrites (s.history ++ written e.caller e.index o) e m
      by None asks place write stands caller later = old place write (subst (λ (h : List Write). slice_get h place ≡ Some write) (append-nil s.history) stands) caller later
      by (Some change) asks place write stands caller later =
          ⊎_elim
          (λ (before : slice_get s.history place ≡ Some write). old place write before caller later)
          (λ (last : (place ≡ length s.history) × (record { caller = e.caller; index = e.index; change = change } ≡ write)). asks ∙ ap (λ (w : Write). Some w.change) last.1)
          (got_end s.history (record { caller = e.caller; index = e.index; change = change }) write place stands)
