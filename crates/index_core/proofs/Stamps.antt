-- Which steps leave the stamps of nodes: those of calls.
use Rattle.std.proofs.Common.{◌≡◌, ℕ, ◌<◌, inl, inr, List, slice_set, sym, ap, subst, arith, ◌∙◌}
use Rattle.std.specs.Prelude.{Option, IfSome, Some}
use Rattle.std.proofs.lemmas.List.{set-get_or}
use mathlib.Core.Option.{some}
use lib.ListN.{get_elem?}
use Rattle.pm_words.specs.declared.layout.Layout.{Layout}
use Rattle.pm_words.specs.declared.action.Action.{Action}
use Rattle.pm_words.specs.Locations.{Line, Volatile, Cached, Durable, at, address_of}
use Rattle.pm_words.specs.Rows.{acted}
use Rattle.pm_words.proofs.Apart.{at-set_other}
use Rattle.pm_words.proofs.Kept.{action_address-drain}
use Rattle.pm_words.specs.Offsets.{prev_offset, stamp_offset}
use Rattle.call_stages.specs.Stages.{Stage}
use Rattle.call_stages.specs.AnySteps.{IsBeside, loads_line, stores_line, drains_line, stores_prev, loads_layer}
use Rattle.call_stages.specs.AnySteps.{on_permutation}
use Rattle.call_stages.specs.Lines.{line_address}
use Rattle.node_ops.specs.declared.running.Running.{Running}
use Rattle.node_ops.specs.RunningSteps.{Sound, running_asks}
use Rattle.node_ops.specs.CallStages.{stage_of}
use Rattle.index_law.specs.AnySteps.{MayDo}
use Rattle.index_law.specs.Lawful.{Sure}
use Rattle.index_law.specs.Worlds.{facts}
use Rattle.index_law.proofs.AnySteps.{stored_word}
use Rattle.index_law.proofs.Beside.{nodes_leave_others}
use Rattle.index_law.proofs.Own.{sure_within}
use Rattle.updater.specs.updater_row_law.specs.Columns.{volatile_field}
use Rattle.updater.specs.updater_row_law.proofs.RowColumns.{column-same}
use Rattle.index_law.proofs.Places.{offset_at}
use Rattle.lone_hops_law.specs.lone_updater_law.specs.LoneTurns.{stamp_in}
use Rattle.index_core.specs.declared.party.PartyState.{PartyState}
use Rattle.index_core.specs.PartyStates.{machine_stage, party_of}
use Rattle.index_core.specs.Indexes.{Index, IsIndex, stepped_index, world}
use Rattle.index_core.proofs.Lists.{map_there}
use Rattle.index_core.proofs.Stepping.{may_do}

-- what a call does on log lines, prevs and permutations leaves a stamp
beside_leaves_stamp : (l : Layout) (words : List ℕ) (n : ℕ) → n < l.nodes → {a : Action} → IsBeside l a → at l (acted l words a) (Volatile n stamp_offset) ≡ at l words (Volatile n stamp_offset)
beside_leaves_stamp l words n here (loads_line {c = c} {j = j} {offset = o} has) = ap (λ (v : List ℕ). at l v (Volatile n stamp_offset)) (set-get_or words (line_address l c j o) 0)
beside_leaves_stamp l words n here (stores_line {c = c} {j = j} {offset = o} {y = y} has small) = at-set_other l words (Cached (Line c j o)) (Volatile n stamp_offset) y has (here, omega arith) (λ e. cc)
beside_leaves_stamp l words n here (drains_line {c = c} {j = j} {offset = o} {y = y} has small) =
    subst (λ (place : ℕ). at l (slice_set words place y) (Volatile n stamp_offset) ≡ at l words (Volatile n stamp_offset)) (sym (action_address-drain l (Line c j o) y))
    (at-set_other l words (Durable (Line c j o)) (Volatile n stamp_offset) y has (here, omega arith) (λ e. cc))
beside_leaves_stamp l words n here (stores_prev {n = m} {y = y} within small) =
    at-set_other l words (Volatile m prev_offset) (Volatile n stamp_offset) y (within, omega arith) (here, omega arith) (λ e. let no : 2 ≡ 1 = ap offset_at e in omega arith)
beside_leaves_stamp l words n here (loads_layer {w = v} place) = ap (λ (ws : List ℕ). at l ws (Volatile n stamp_offset)) (set-get_or words (address_of l (Cached v)) 0)
beside_leaves_stamp l words n here {a = a} (on_permutation on) =
    let at_word = stored_word l words a on in
    let least = at_word.least in
    ap (λ (v : List ℕ). at l v (Volatile n stamp_offset)) at_word.is
    ∙ at-set_other l words (Volatile at_word.node at_word.offset) (Volatile n stamp_offset) at_word.word (at_word.here, at_word.most) (here, omega arith) (λ e. let no : 2 ≡ at_word.offset = ap offset_at e in omega arith)

-- so whatever a call may do leaves all of them
may_leaves_stamps : (l : Layout) (words : List ℕ) (s : Stage) (a : Action) → MayDo l s a → volatile_field l (acted l words a) stamp_offset ≡ volatile_field l words stamp_offset
may_leaves_stamps l words s a may = column-same l words (acted l words a) l.nodes (λ n. Volatile n stamp_offset) (λ n here. elim may [
  | inl allowed ↦
      nodes_leave_others l words s a (Volatile n stamp_offset) (here, omega arith) (record { clock = λ e. cc; status = λ m e. let no : 2 ≡ 0 = ap offset_at e in omega arith; cached = λ m o e. cc; durable = λ m o e. cc }) allowed
  | inr beside ↦ beside_leaves_stamp l words n here beside
])

pub step_leaves_stamps : (s : Index) (i : ℕ) (state : PartyState) (machine : Running) (spare : ℕ) → IsIndex s → get_elem? s.states i ≡ some state → state.machine ≡ Some machine
    → stamp_in (world (stepped_index s i state machine spare)) ≡ stamp_in (world s)
step_leaves_stamps s i state machine spare is there flies =
    let l = s.layout in
    let g = s.generation in
    let f = facts (world s) in
    let sound : Sound l g machine = subst (λ (o : Option Running). IfSome o (Sound l g)) flies (is.states i state there).machine in
    let known : Sure l g f state.caller state.index state.since (stage_of machine) =
    subst (Sure l g f state.caller state.index state.since) (ap machine_stage flies) (is.lawful.sure i (party_of state) (map_there party_of s.states i state there)) in
    may_leaves_stamps l s.words (stage_of machine) (running_asks machine)
    (may_do l g machine is.lawful.row.layout.nodes.0 sound (sure_within l g f state.caller state.index state.since (stage_of machine) known))
