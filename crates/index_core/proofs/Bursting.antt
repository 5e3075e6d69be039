-- A burst of a call's machine, as turns of the call.
use Rattle.std.proofs.Common.{◌≡◌, ℕ, zero, ◌+◌, ◌-◌, ◌≤◌, List, [], ◌++◌, length, refl, sym, ap, ◌∙◌, subst}
use Rattle.std.proofs.Common.{arith}
use Rattle.std.specs.Prelude.{Option, Some, None, IfSome, slice_set}
use Rattle.std.proofs.lemmas.List.{append-nil}
use mathlib.Core.Option.{some}
use lib.ListN.{get_elem?}
use Rattle.pm_words.specs.declared.action.Action.{Action}
use Rattle.pm_words.specs.declared.action.Action.TheVariants.{Load, Store, Exchange, Add, Drain}
use Rattle.pm_words.specs.declared.machine.Turn.{Turn}
use Rattle.pm_words.specs.declared.machine.Turn.TheVariants.{Go, Done}
use Rattle.pm_words.specs.Images.{Row}
use Rattle.pm_words.specs.Rows.{acted, got}
use Rattle.pm_words.specs.Turns.{GoesBelow}
use Rattle.machine_runs.specs.Runs.{AddsNothing, Bursts, Goes, begins, goes, MayGo}
use Rattle.cat_history.specs.declared.op.Change.{Change}
use Rattle.cat_history.specs.declared.op.Write.{Write}
use Rattle.call_stages.specs.declared.once.Once.{Once}
use Rattle.call_stages.specs.declared.once.Placed.{Placed}
use Rattle.call_stages.specs.Stages.{counted}
use Rattle.node_ops.specs.declared.running.Running.{Running}
use Rattle.node_ops.specs.RunningSteps.{running_asks, running_left, running_takes, running_turned}
use Rattle.node_ops.specs.CallStages.{reply_of, stage_of}
use Rattle.index_law.specs.Worlds.{written}
use Rattle.index_law.proofs.AnySteps.{set_own}
use Rattle.index_law.proofs.Parties.{set_here}
use Rattle.index_core.specs.declared.party.PartyState.{PartyState}
use Rattle.index_core.specs.Bursts.{BurstsSo, BurstsTo, TurnsAlong, at_first, one_more, TurnsOn}
use Rattle.index_core.specs.Cores.{IsAdd}
use Rattle.index_core.specs.Indexes.{Index, IsIndex, KeepsRoom, TurnsTo, room_of, stepped_index}
use Rattle.index_core.specs.PartyStates.{owed, state_after}
use Rattle.index_core.proofs.Lists.{set_twice}
use Rattle.index_core.proofs.Stepping.{StepFacts, adds_if_counts, respare, step_facts, step_owes}

-- a turn as a step makes it
abbrev pub turns_on : {s s' : Index} {i : ℕ} {result : Option (Once Placed)} → TurnsTo s i s' result → IsIndex s'
    → room_of s ≤ room_of s' → TurnsOn s i s' result
turns_on t is' room = record {
  of = record { state = t.state; machine = t.machine; there = t.there; flies = t.flies };
  is = t.is;
  answers = t.answers;
  fewer = t.fewer;
  index = is';
  room = room;
}

-- and which alone is a burst
pub one_turn : {s s' : Index} {i : ℕ} {result : Option (Once Placed)} {begun ended : ℕ} → TurnsTo s i s' result
    → IsIndex s' → KeepsRoom s s' → ended ≡ begun + 1 → BurstsTo s i s' result begun ended
one_turn {s} t is' keeps tick = record {
  last = s;
  turns = 0;
  before = at_first;
  turn = turns_on t is' keeps.all;
  steps = omega (arith, tick);
}

-- an action that adds nothing counts nothing
adds_or_not : (a : Action) → AddsNothing a → IsAdd a → ⊥
adds_or_not (Add address) nothing adds = nothing
adds_or_not (Load address) nothing adds = adds
adds_or_not (Store address word) nothing adds = adds
adds_or_not (Exchange address was word) nothing adds = adds
adds_or_not (Drain address word) nothing adds = adds

nothing_written : (a : Action) (caller index : ℕ) (change : Option Change) → AddsNothing a
    → IfSome change (λ _. IsAdd a) → written caller index change ≡ []
nothing_written a caller index None nothing adds = refl
nothing_written a caller index (Some change) nothing adds = absurd (adds_or_not a nothing adds)

module _ (s : Index) (i : ℕ) (e : PartyState) (m : Running) (is : IsIndex s) (there : get_elem? s.states i ≡ some e)
    (flies : e.machine ≡ Some m) where
  -- the party between two turns of its call, and the parties after a turn
  abbrev flying : Running → PartyState
  flying machine = state_after e (Go machine)

  abbrev states_after : Turn Running (Once Placed) → List PartyState
  states_after turn = slice_set s.states i (state_after e turn)

  -- the index between two turns, in which no room is lost, and after a turn
  abbrev spare_at : List PartyState → ℕ
  spare_at states = (owed s.states + s.spare) - owed states

  abbrev at_turn : List ℕ → Running → Index
  at_turn now machine = let states = states_after (Go machine) in
      record s { words = now; states = states; spare = spare_at states }

  abbrev after_turn : List ℕ → Turn Running (Once Placed) → ℕ → Index
  after_turn now turn spare = record s { words = now; states = states_after turn; spare = spare }

  own : flying m ≡ e
  own = (λ k. record e { machine = sym flies k })

  same_states : states_after (Go m) ≡ s.states
  same_states = ap (λ (state : PartyState). slice_set s.states i state) own ∙ set_own s.states i e there

  at_begin : at_turn s.words m ≡ s
  at_begin =
      let spare : spare_at s.states ≡ s.spare = omega arith in
      (λ k. record s { states = same_states k; spare = spare_at (same_states k) })
      ∙ ap (λ (n : ℕ). record s { spare = n }) spare

  after_own : (machine : Running) (turn : Turn Running (Once Placed))
      → state_after (flying machine) turn ≡ state_after e turn
  after_own machine (Go next) = refl
  after_own machine (Done answer) = refl

  module _ (now : List ℕ) (machine : Running) (is' : IsIndex (at_turn now machine)) where
    abbrev told_now : ℕ
    told_now = got s.layout now (running_asks machine)

    here : get_elem? (at_turn now machine).states i ≡ some (flying machine)
    here = set_here s.states i (flying machine) e there

    step : StepFacts (at_turn now machine) i (flying machine) machine
    step = step_facts (at_turn now machine) i (flying machine) machine is' here refl

    module _ (turn : Turn Running (Once Placed)) (nothing : AddsNothing (running_asks machine))
        (turned : running_turned machine told_now ≡ turn) where
      abbrev words : List ℕ
      words = acted s.layout now (running_asks machine)

      abbrev writes : List Write
      writes = written e.caller e.index (counted (stage_of machine))

      unwritten : writes ≡ []
      unwritten =
          let adds = adds_if_counts s.layout (length s.history) (running_asks machine) told_now _ step.counts in
          nothing_written (running_asks machine) e.caller e.index (counted (stage_of machine)) nothing adds

      states_are : slice_set (states_after (Go machine)) i
          (state_after (flying machine) (running_turned machine told_now)) ≡ states_after turn
      states_are =
          set_twice s.states i (flying machine) _
          ∙ ap (λ (state : PartyState). slice_set s.states i state) (after_own machine _)
          ∙ ap states_after turned

      stepped_is : (spare : ℕ)
          → after_turn words turn spare ≡ stepped_index (at_turn now machine) i (flying machine) machine spare
      stepped_is spare =
          let history : s.history ++ writes ≡ s.history =
          ap (λ (l : List Write). s.history ++ l) unwritten ∙ append-nil s.history in
          (λ k. record s { words = words; states = sym states_are k; history = sym history k; spare = spare })

      owes_less : owed (states_after turn) ≤ owed (states_after (Go machine))
      owes_less =
          let paid = step_owes (at_turn now machine) i (flying machine) machine here refl in
          let same = ap owed states_are in
          omega arith

      turn_on : (spare : ℕ) → GoesBelow running_left (running_left machine) turn
          → room_of (at_turn now machine) ≤ room_of (after_turn words turn spare)
          → TurnsOn (at_turn now machine) i (after_turn words turn spare) (reply_of turn)
      turn_on spare below room = record {
        of = record { state = flying machine; machine = machine; there = here; flies = refl };
        is = stepped_is spare;
        answers = ap reply_of (sym turned);
        fewer = subst (GoesBelow running_left (running_left machine)) (sym turned) below;
        index = subst IsIndex (sym (stepped_is spare)) (step.kept spare);
        room = room;
      }

  -- as it comes between two turns
  record Between (now : List ℕ) (machine : Running) (turns : ℕ) : Type 0 where
    index : IsIndex (at_turn now machine)
    owes : owed (states_after (Go machine)) ≤ owed s.states
    along : TurnsAlong s i (at_turn now machine) turns

  between : {now : List ℕ} {machine : Running} {turns : ℕ}
      → Goes running_asks running_turned running_left s.layout s.words m machine now turns → Between now machine turns
  between begins = record {
    index = subst IsIndex (sym at_begin) is;
    owes = let same = ap owed same_states in omega arith;
    along = subst (λ (v : Index). TurnsAlong s i v zero) (sym at_begin) at_first;
  }
  between (goes {machine = a} {next = n} {now = now} before nothing turned less) =
      let was = between before in
      let less_owed = owes_less now a was.index (Go n) nothing turned in
      let owes_before = was.owes in
      let room : room_of (at_turn now a) ≤ room_of (at_turn (acted s.layout now (running_asks a)) n) = omega arith in
      let turn = turn_on now a was.index (Go n) nothing turned _ less room in
      record { index = turn.index; owes = omega arith; along = one_more was.along turn }

  -- what its action needs is there
  pub may_go : MayGo running_asks running_turned running_left running_takes s.layout s.words m
  may_go machine now turns on = let facts = step now machine (between on).index in (facts.can, facts.takes)

  -- the row as it begins, and what it leaves with another one and another state of the party
  abbrev pub own_row : Row
  own_row = record { layout = s.layout; words = s.words }

  abbrev pub left_index : Row → PartyState → ℕ → Index
  left_index row now spare = let states = slice_set s.states i now in
      record s { layout = row.layout; words = row.words; states = states; spare = spare }

  -- a burst of the machine is one of the call
  burst_turns : {row : Row} {end : Turn Running (Once Placed)} {begun ended : ℕ} (spare : ℕ)
      → Bursts running_asks running_turned running_left own_row row m end begun ended
      → room_of s ≤ length s.history + (owed (states_after end) + spare)
      → BurstsTo s i (left_index row (state_after e end) spare) (reply_of end) begun ended
  burst_turns {row} {end} spare b room =
      let old = at_turn b.now b.last in
      let was = between b.before in
      let owes = was.owes in
      let more : room_of old ≤ length s.history + (owed (states_after end) + spare) = omega arith in
      record {
        last = old;
        turns = b.turns;
        before = was.along;
        turn = subst (λ (r : Row). TurnsOn old i (left_index r (state_after e end) spare) (reply_of end)) (sym b.row)
            (turn_on b.now b.last was.index end b.adds (sym b.ends) spare b.fewer more);
        steps = b.steps;
      }

  -- What is left of it, by what the code has in hand: the row, and the party as it is then.
  pub record Left (row : Row) (now : PartyState) (result : Option (Once Placed)) (begun ended : ℕ) : Type 0 where
    pub owes : owed (slice_set s.states i now) ≤ owed s.states
    pub kept : (spare : ℕ) → IsIndex (left_index row now spare)
    pub bursts : (spare : ℕ) → room_of s ≤ length s.history + (owed (slice_set s.states i now) + spare)
        → BurstsTo s i (left_index row now spare) result begun ended

  pub burst_leaves : {row : Row} {now : PartyState} {result : Option (Once Placed)} {begun ended : ℕ}
      → BurstsSo own_row row m begun ended (λ end. (now ≡ state_after e end) × (result ≡ reply_of end))
      → Left row now result begun ended
  burst_leaves {row} {begun = begun} {ended = ended} so =
      let b = so.bursts in
      let was = between b.before in
      let owes = was.owes in
      let less = owes_less b.now b.last was.index so.end b.adds (sym b.ends) in
      let large = burst_turns (room_of s) b (omega arith) in
      let left : Left row (state_after e so.end) (reply_of so.end) begun ended = record {
        owes = omega arith;
        kept = λ spare. respare (left_index row (state_after e so.end) (room_of s)) spare large.turn.index;
        bursts = λ spare room. burst_turns spare b room;
      } in
      subst (λ (q : PartyState × Option (Once Placed)). Left row q.0 q.1 begun ended)
      (λ k. (sym so.so.0 k, sym so.so.1 k)) left
