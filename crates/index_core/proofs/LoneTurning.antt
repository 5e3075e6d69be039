-- A whole turn of the updater with nothing else in flight.
use Rattle.std.proofs.Common.{◌+◌, ◌≡◌, ◌≢◌, ◌==◌, ℕ, ◌/◌, ◌%◌, ◌<◌, ◌≤◌, ◌^◌, ◌⊎◌, inl, inr, ⊎_elim, cond, List, set, refl}
use Rattle.std.proofs.Common.{sym, ap, ◌∙◌, subst, arith}
use Rattle.std.specs.Prelude.{Option, Some, None, true, false}
use Rattle.std.proofs.lemmas.Bool.{cases_eq, ne_eqb}
use mathlib.Core.Option.{none, some, some-injective}
use lib.ListN.{get_elem?}
use Rattle.pm_words.specs.Codes.{free_status, gone_status}
use Rattle.pm_words.specs.declared.machine.Turn.{Turn}
use Rattle.pm_words.specs.declared.machine.Turn.TheVariants.{Go, Done}
use Rattle.pm_words.specs.Locations.{Cached}
use Rattle.pm_words.specs.Rows.{acted, got}
use Rattle.pm_words.specs.Turns.{GoesBelow}
use Rattle.updater.specs.Takings.{taking_asks, took_of}
use Rattle.updater.specs.declared.taking.Took.TheVariants.{Taken, Held}
use Rattle.index_law.specs.Lines.{line_in}
use Rattle.index_law.specs.Footings.{NeedsNoParty, IsInHand}
use Rattle.index_law.specs.Whole.{Whole}
use Rattle.index_law.proofs.Noting.{line-here}
use Rattle.index_law.proofs.AnySteps.{set_own}
use Rattle.index_law.proofs.Parties.{set_here}
use Rattle.updater.specs.updater_row_law.specs.Columns.{line_count, line_word}
use Rattle.updater.specs.updater_row_law.proofs.RowColumns.{column-here}
use Rattle.updater.specs.updater_row_law.specs.Turnings.{Turning}
use Rattle.updater.specs.declared.making.MakeTurn.{MakeTurn}
use Rattle.updater.specs.declared.making.MakeTurn.TheVariants.{Taking, Working}
use Rattle.updater.specs.declared.making.TurnReply.{TurnReply}
use Rattle.updater.specs.declared.making.TurnReply.TheVariants as reply
use Rattle.updater.specs.declared.terms.Turned.{Turned}
use Rattle.updater.specs.declared.work.Work.{Work}
use Rattle.updater.specs.declared.terms.Terms.{Terms}
use Rattle.updater.specs.Makings.{making_terms, making_from, making_asks, making_turned, making_left, lock_found}
use Rattle.updater.specs.Makings.{worked}
use Rattle.updater.specs.Watches.{turning_after}
use Rattle.updater.specs.Works.{work_from, work_turned, work_asks}
use Rattle.index_image_law.specs.index_layer_law.specs.Layers.{Layered, IsLayered}
use Rattle.index_image_law.specs.index_layer_law.specs.Laws.{IsAtRest, LeavesNodes, turned}
use Rattle.lone_hops_law.specs.lone_updater_law.specs.Laws.{LoneTurning, GoesOn}
use Rattle.lone_hops_law.specs.lone_updater_law.specs.LoneTurns.{line_state, frees_node, status_then, AreEmptyOrReady}
use Rattle.lone_hops_law.specs.lone_updater_law.specs.LoneTurns.{IsIdle, IsLoneTurn, stamp_in}
use Rattle.pm_words.specs.declared.layout.Layout.{Layout}
use Rattle.pm_words.specs.Offsets.{state_offset}
use Rattle.index_law.specs.Facts.{Facts}
use Rattle.index_law.specs.Worlds.{Party, World, facts}
use Rattle.index_law.specs.Weights.{gone_weight, index_weight, weight_sum}
use Rattle.index_law.proofs.Weights.{gone_less}
use Rattle.index_core.specs.Weights.{weight_of}
use Rattle.lone_hops_law.specs.lone_updater_law.proofs.Begins.{turns_begin}
use Rattle.lone_hops_law.specs.lone_updater_law.proofs.Going.{turns_go}
use Rattle.index_core.specs.declared.party.PartyState.{PartyState}
use Rattle.index_core.specs.PartyStates.{resting, turning_of, turn_after, turn_reply}
use Rattle.index_core.specs.Indexes.{Index, IsIndex, IsTurning, footed, layered, world}
use Rattle.index_core.specs.Lone.{HasNoCalls, HoldsLock, IsQuiet}
use Rattle.index_core.specs.Costs.{turn_actions}
use Rattle.index_core.specs.Turns.{KeepsNodes, StartsTurn, TurnAlong, at_first, one_more, TurnSteps, TurnsAlone}
use Rattle.index_core.specs.Turns.{turn_told, turned_index}
use Rattle.index_core.proofs.Layering.{turn_of, rest_turns, at_rest}
use Rattle.index_core.proofs.Lists.{map_there, set_twice}
use Rattle.index_core.proofs.Quiet.{idle_lines, none_now, quiet_parties}
use Rattle.index_core.proofs.MachineLaw.{none_weigh}
use Rattle.index_core.proofs.Retrying.{stamped_are_gone}
use Rattle.index_core.proofs.Turning.{layered_is, parties_same, turns_keep}

-- An index with nothing in flight is idle for a turn.
pub quiet_is_idle_for_turns : (s : Index) → IsIndex s → IsQuiet s → IsIdle (layered s)
quiet_is_idle_for_turns s is quiet = record {
  layered = is.layered;
  parties = quiet_parties s quiet;
  turns = λ j u at. at_rest u (rest_turns s.states quiet.turns j u at);
  lines = lines;
}
  where
    lines : AreEmptyOrReady (world s)
    lines j here =
        let same : line_state (world s) j ≡ line_in s.layout s.words (j / 8) (j % 8) state_offset =
        column-here s.layout s.words (line_count s.layout) (λ k. Cached (line_word state_offset k)) j here ∙ sym (line-here s.layout s.words (j / 8) (j % 8) state_offset (omega arith, omega arith, omega arith)) in
        ⊎_elim
        (λ (none : NeedsNoParty (line_in s.layout s.words (j / 8) (j % 8) state_offset)). ⊎_elim (λ empty. inl (same ∙ empty)) (λ ready. inr (same ∙ ready)) none)
        (λ (hand : IsInHand (footed s) (j / 8) (j % 8)). absurd (let none = idle_lines s quiet.calls hand.number (Some hand.line) hand.there in cc))
        (is.tended (j / 8) (j % 8) (omega arith) (omega arith))

-- Where a lone turn is: it has still to take the lock, or works.
abbrev pub TurnStands : Index → Index → ℕ → ℕ → ℕ → MakeTurn → Type 0
TurnStands s0 s i stamp release (Taking terms) = (s.words ≡ s0.words) × (Taking terms ≡ making_from s0.layout s0.generation stamp release)
TurnStands s0 s i stamp release (Working work) = LoneTurning (layered s0) stamp release i work (layered s)

-- What the turn has found, before which the index was s0: nothing in flight.
pub record TurnStart (s0 : Index) (i stamp : ℕ) : Type 0 where
  pub before : IsIndex s0
  pub quiet : IsQuiet s0
  pub some_stamp : 1 ≤ stamp
  pub small : stamp < 2 ^ 64
  pub state : PartyState
  pub there : get_elem? s0.states i ≡ some state

-- A turn of the party i is in flight, and nothing else, as it was s0 when the turn began.
pub record LoneTurn (s0 s : Index) (i stamp release : ℕ) : Type 0 where
  pub start : TurnStart s0 i stamp
  pub index : IsIndex s
  pub making : MakeTurn
  pub is : s ≡ record s0 { words = s.words; states = set s0.states i (record (start.state) { turn = Some making }) }
  pub stands : TurnStands s0 s i stamp release making
  pub keeps : KeepsNodes s0 s
  pub weighs : weight_sum (world s) ≤ weight_of s0

-- Nodes that one step leaves, and another, both leave.
leaves_both : (a b c : Facts) → LeavesNodes a b → LeavesNodes b c → LeavesNodes a c
leaves_both a b c one two = record {
  nodes = two.nodes ∙ ap (λ (f : Facts). record f { status = c.status }) one.nodes;
  frees = λ n. ⊎_elim
      (λ (same : c.status n ≡ b.status n). ⊎_elim
      (λ (was : b.status n ≡ a.status n). inl (same ∙ was))
      (λ (free : b.status n ≡ free_status). inr (same ∙ free))
      (one.frees n))
      (λ (free : c.status n ≡ free_status). inr free)
      (two.frees n);
}

-- as a turn begins, all nodes are as they were, and the weight is
pub begun_keeps : (s0 s : Index) (i stamp release : ℕ) → StartsTurn s0 i stamp release s → KeepsNodes s0 s
begun_keeps s0 s i stamp release starts =
    subst (KeepsNodes s0) (sym starts.is) (record { nodes = refl; frees = λ n. inl refl })

pub begun_weighs : (s0 s : Index) (i stamp release : ℕ) → HasNoCalls s0 → StartsTurn s0 i stamp release s → weight_sum (world s) ≡ weight_of s0
begun_weighs s0 s i stamp release calls starts =
    ap (λ (v : Index). weight_sum (world v)) starts.is
    ∙ ap (λ (ps : List Party). weight_sum (record (world s0) { parties = ps })) (parties_same s0 i starts.state (Some (making_from s0.layout s0.generation stamp release)) starts.there)
    ∙ none_weigh s0 calls

pub lone_turn_begins : (s0 s : Index) (i stamp release : ℕ) → IsIndex s0 → IsQuiet s0 → 1 ≤ stamp → stamp < 2 ^ 64 → StartsTurn s0 i stamp release s → IsIndex s → LoneTurn s0 s i stamp release
lone_turn_begins s0 s i stamp release is0 quiet some_stamp small starts is = record {
  start = record { before = is0; quiet = quiet; some_stamp = some_stamp; small = small; state = starts.state; there = starts.there };
  index = is;
  making = making_from s0.layout s0.generation stamp release;
  is = starts.is ∙ ap (λ (w : List ℕ). record s0 { words = w; states = set s0.states i (record (starts.state) { turn = Some (making_from s0.layout s0.generation stamp release) }) }) (sym (ap (λ (v : Index). v.words) starts.is));
  stands = (ap (λ (v : Index). v.words) starts.is, refl);
  keeps = begun_keeps s0 s i stamp release starts;
  weighs = let same = begun_weighs s0 s i stamp release quiet.calls starts in omega (arith, same);
}

pub lone_turn_there : (s0 s : Index) (i stamp release : ℕ) (o : LoneTurn s0 s i stamp release) → get_elem? s.states i ≡ some (record (o.start.state) { turn = Some o.making })
lone_turn_there s0 s i stamp release o = ap (λ (v : Index). get_elem? v.states i) o.is ∙ set_here s0.states i (record (o.start.state) { turn = Some o.making }) o.start.state o.start.there

pub lone_turn_flies : (s0 s : Index) (i stamp release : ℕ) → LoneTurn s0 s i stamp release → IsTurning s i
lone_turn_flies s0 s i stamp release o = record { state = record (o.start.state) { turn = Some o.making }; machine = o.making; there = lone_turn_there s0 s i stamp release o; flies = refl }

abbrev pub left_of_turn : Option MakeTurn → ℕ
left_of_turn None = 0
left_of_turn (Some making) = making_left making

-- How many actions its turn makes at most from here on.
abbrev pub turn_left_at : Index → ℕ → ℕ
turn_left_at s i = elim (get_elem? s.states i) [
  | none ↦ 0
  | some e ↦ left_of_turn e.turn
]

-- as it begins
pub turn_left_begins : (s0 s : Index) (i stamp release : ℕ) → 1 ≤ s0.layout.callers → StartsTurn s0 i stamp release s → turn_left_at s i + 1 ≤ turn_actions s0.layout
turn_left_begins s0 s i stamp release some_caller t =
    let now : PartyState = record (t.state) { turn = Some (making_from s0.layout s0.generation stamp release) } in
    let there : get_elem? s.states i ≡ some now = ap (λ (v : Index). get_elem? v.states i) t.is ∙ set_here s0.states i now t.state t.there in
    let is : turn_left_at s i ≡ left_of_turn now.turn = ap left_in there in
    omega (arith, is, some_caller)
  where
    left_in : mathlib.Core.Option.Option PartyState → ℕ
    left_in found = elim found [ none ↦ 0 | some e ↦ left_of_turn e.turn ]

-- What it made FREE weighs nothing any more.
was_gone : (w : World) (stamp release n : ℕ) → status_then w stamp release n ≡ gone_status → (facts w).status n ≡ gone_status
was_gone w stamp release n = elim (frees_node w stamp release n) as (λ b. cond b free_status ((facts w).status n) ≡ gone_status → (facts w).status n ≡ gone_status) [
  | true ↦ λ is. absurd (let no : free_status ≡ gone_status = is in omega arith)
  | false ↦ λ is. is
]

-- Each node's stamp is as it was, or no greater than the one that it gives.
lone_turn_stamps : (s s' : Index) (stamp release : ℕ) (answer : Turned) → IsLoneTurn (layered s) stamp release answer (layered s')
    → (n : ℕ) → n < s.layout.nodes → (stamp_in (world s') n ≡ stamp_in (world s) n) ⊎ (stamp_in (world s') n ≤ stamp)
lone_turn_stamps s s' stamp release answer lone n here = ⊎_elim
    (λ (none : stamp_in (world s') n ≡ 0). inr (omega arith))
    (λ (some_stamp : stamp_in (world s') n ≢ 0).
    let left = lone.stamps n here (stamped_are_gone s' lone.idle.layered n some_stamp) in
    ⊎_elim
    (λ (bare : stamp_in (world s) n ≡ 0).
    let given : stamp_in (world s') n ≡ stamp = left ∙ ap (λ (m : ℕ). cond (m == 0) stamp m) bare in inr (omega arith))
    (λ (had : stamp_in (world s) n ≢ 0).
    inl (left ∙ ap (λ b. cond b stamp (stamp_in (world s) n)) (ne_eqb (stamp_in (world s) n) 0 had)))
    (cases_eq (stamp_in (world s) n) 0))
    (cases_eq (stamp_in (world s') n) 0)

lone_turn_weighs : (s s' : Index) (stamp release : ℕ) (answer : Turned) → IsLoneTurn (layered s) stamp release answer (layered s') → s'.layout ≡ s.layout → weight_of s' ≤ weight_of s
lone_turn_weighs s s' stamp release answer lone layout =
    let l = s.layout in
    let f = facts (world s) in
    let status = (facts (world s')).status in
    let fewer : gone_weight (l.slots / 2) status l.nodes ≤ gone_weight (l.slots / 2) f.status l.nodes =
    gone_less (l.slots / 2) f.status status l.nodes (λ n here gone. was_gone (world s) stamp release n (sym (lone.statuses n here) ∙ gone)) in
    let less : index_weight l (record f { status = status }) ≤ index_weight l f = omega arith in
    subst (λ (q : Layout × Facts). index_weight q.0 q.1 ≤ weight_of s) (λ k. (sym layout k, sym lone.kept.facts k)) less

pub turned_same : {a b : Turned} → reply.Turned a ≡ reply.Turned b → a ≡ b
turned_same e = cc

-- The lock is free, so the turn gets it.
takes_lock : (word : ℕ) → took_of word ≡ Taken → word ≡ 0
takes_lock word took = ⊎_elim
    (λ (e : word ≡ 0). e)
    (λ (other : word ≢ 0). absurd (
    let held : Held word ≡ Taken = sym (ap (λ b. cond b Taken (Held word)) (ne_eqb word 0 other)) ∙ took in
    cc))
    (cases_eq word 0)

module _ (s0 s s' : Index) (i stamp release : ℕ) (o : LoneTurn s0 s i stamp release) (result : Option TurnReply) (t : TurnSteps s i s' result) (is' : IsIndex s') where
  abbrev st : PartyState
  st = record (o.start.state) { turn = Some o.making }

  at_i : get_elem? s.states i ≡ some st
  at_i = lone_turn_there s0 s i stamp release o

  state_is : t.state ≡ st
  state_is = some-injective _ _ (sym t.there ∙ at_i)

  making_is : t.making ≡ o.making
  making_is = let both : Some t.making ≡ Some o.making = sym t.turns ∙ ap (λ (d : PartyState). d.turn) state_is in cc

  abbrev turn : Turn MakeTurn TurnReply
  turn = making_turned o.making (turn_told s o.making)

  abbrev words' : List ℕ
  words' = acted s.layout s.words (making_asks o.making)

  stepped : s' ≡ turned_index s i st o.making
  stepped = t.is ∙ (λ k. turned_index s i (state_is k) (making_is k))

  answered : result ≡ turn_reply turn
  answered = t.answers ∙ (λ k. turn_reply (making_turned (making_is k) (turn_told s (making_is k))))

  fewer : GoesBelow making_left (making_left o.making) turn
  fewer = subst (λ (m : MakeTurn). GoesBelow making_left (making_left m) (making_turned m (turn_told s m))) making_is t.fewer

  -- beside words and this turn all is as before
  abbrev with_words : List ℕ → Option MakeTurn → Index
  with_words w next = record s0 { words = w; states = set s0.states i (record (o.start.state) { turn = next }) }

  left_is : s' ≡ with_words s'.words (turn_after turn)
  left_is =
      let states : set s.states i (record st { turn = turn_after turn }) ≡ set s0.states i (record (o.start.state) { turn = turn_after turn }) =
      ap (λ (v : Index). set v.states i (record st { turn = turn_after turn })) o.is ∙ set_twice s0.states i st (record (o.start.state) { turn = turn_after turn }) in
      stepped ∙ (λ k. record (o.is k) { words = words'; states = states k }) ∙ ap (λ (w : List ℕ). with_words w (turn_after turn)) (sym (ap (λ (v : Index). v.words) stepped))

  -- what the layer and the turns are then
  layered_then : Path Layered (record { whole = record (footed s) { world = record (world s) { words = words' } }; turns = set (layered s).turns i (turning_of (turn_after turn)) }) (layered s')
  layered_then = layered_is s i st (turn_after turn) at_i words' ∙ ap layered (sym stepped)

  -- where it stands after its turn: it works, or has done all
  abbrev StandsAfter : Turn MakeTurn TurnReply → Type 0
  StandsAfter (Go (Taking terms)) = ⊥
  StandsAfter (Go (Working work)) = LoneTurning (layered s0) stamp release i work (layered s')
  StandsAfter (Done (reply.Turned answer)) = IsLoneTurn (layered s0) stamp release answer (layered s')
  StandsAfter (Done (reply.Held word)) = ⊥

  abbrev Ran : Turn Work Turned → Layered → Type 0
  Ran (Go work) z = LoneTurning (layered s0) stamp release i work z
  Ran (Done answer) z = IsLoneTurn (layered s0) stamp release answer z

  idle0 : IsIdle (layered s0)
  idle0 = quiet_is_idle_for_turns s0 o.start.before o.start.quiet

  -- a lone turn that is done leaves what it leaves whatever rests afterwards
  rests_as : (answer : Turned) (z z' : Layered) → z'.whole ≡ z.whole → IsLayered z' → ((j : ℕ) (u : Turning) → get_elem? z'.turns j ≡ some u → IsAtRest u) → IsLoneTurn (layered s0) stamp release answer z → IsLoneTurn (layered s0) stamp release answer z'
  rests_as answer z z' same law rest is =
      subst (λ (w : Whole). (law' : IsLayered (record { whole = w; turns = z'.turns })) → IsLoneTurn (layered s0) stamp release answer (record { whole = w; turns = z'.turns })) (sym same)
      (λ law'. record {
        idle = record { layered = law'; parties = is.idle.parties; turns = rest; lines = is.idle.lines };
        kept = record { whole = is.kept.whole; facts = is.kept.facts };
        empty = is.empty;
        statuses = is.statuses;
        stamps = is.stamps;
        leads = is.leads;
        applied = is.applied;
        left = is.left;
        freed = is.freed;
        none_free = is.none_free;
      })
      law

  layered_end : (words : List ℕ) (next : Option MakeTurn) → s'.words ≡ words → turn_after turn ≡ next
      → Path Layered (record { whole = record (footed s0) { world = record (world s0) { words = words } }; turns = set (layered s0).turns i (turning_of next) }) (layered s')
  layered_end words next at_words at_next = layered_is s0 i o.start.state next o.start.there words ∙ (λ k. layered (with_words (sym at_words k) (sym at_next k))) ∙ ap layered (sym left_is)

  -- nothing is in flight once its turn is done
  quiet_then : turn_after turn ≡ None → IsQuiet s'
  quiet_then done = record {
    calls = none_now s0 s' i now states (λ (d : PartyState). d.machine) (o.start.quiet.calls i o.start.state o.start.there) o.start.quiet.calls;
    turns = none_now s0 s' i now states (λ (d : PartyState). d.turn) done o.start.quiet.turns;
    rechecks = none_now s0 s' i now states (λ (d : PartyState). d.recheck) (o.start.quiet.rechecks i o.start.state o.start.there) o.start.quiet.rechecks;
  }
    where
      now : PartyState
      now = record (o.start.state) { turn = turn_after turn }

      states : s'.states ≡ set s0.states i now
      states = ap (λ (v : Index). v.states) left_is

  -- its turn by its machine
  turn_by : (m : MakeTurn) → o.making ≡ m → turn ≡ making_turned m (turn_told s m)
  turn_by m same = λ k. making_turned (same k) (turn_told s (same k))

  asks_by : (m : MakeTurn) → o.making ≡ m → acted s.layout s.words (making_asks m) ≡ words'
  asks_by m same = λ k. acted s.layout s.words (making_asks (sym same k))

  -- it takes the lock
  takes : (terms : Terms) → o.making ≡ Taking terms → s.words ≡ s0.words → Taking terms ≡ making_from s0.layout s0.generation stamp release → StandsAfter (making_turned (Taking terms) (turn_told s (Taking terms)))
  takes terms same words from =
      let z : Layered = layered s0 in
      let at0 : get_elem? z.turns i ≡ some resting = map_there turn_of s0.states i o.start.state o.start.there ∙ ap (λ (t : Option MakeTurn). some (turning_of t)) (o.start.quiet.turns i o.start.state o.start.there) in
      let begins = turns_begin z i resting stamp release idle0 at0 o.start.some_stamp o.start.small in
      let layout : s.layout ≡ s0.layout = ap (λ (v : Index). v.layout) o.is in
      let zero : turn_told s (Taking terms) ≡ 0 = (λ k. got (layout k) (words k) (making_asks (from k))) ∙ takes_lock (got s0.layout s0.words (making_asks (making_from s0.layout s0.generation stamp release))) begins.taken in
      let terms_is : terms ≡ record { layout = s0.layout; generation = s0.generation; stamp = stamp; release = release } = ap making_terms from in
      let work : Work = work_from terms.layout terms.generation terms.stamp terms.release in
      let work_is : work_from s0.layout s0.generation stamp release ≡ work = ap (λ (t : Terms). work_from t.layout t.generation t.stamp t.release) (sym terms_is) in
      let next : turn_after turn ≡ Some (Working work) = ap turn_after (turn_by (Taking terms) same) ∙ ap (λ n. turn_after (lock_found terms n)) zero in
      let end : s'.words ≡ acted s0.layout s0.words (taking_asks s0.layout) =
      ap (λ (v : Index). v.words) stepped ∙ sym (asks_by (Taking terms) same) ∙ (λ k. acted (layout k) (words k) (making_asks (from k))) in
      let path = (λ k. record { whole = record (footed s0) { world = record (world s0) { words = acted s0.layout s0.words (taking_asks s0.layout) } }; turns = set (layered s0).turns i (turning_of (Some (Working (work_is k)))) })
      ∙ layered_end (acted s0.layout s0.words (taking_asks s0.layout)) (Some (Working work)) end next in
      subst (λ n. StandsAfter (lock_found terms n)) (sym zero)
      (subst (λ (q : Work × Layered). LoneTurning z stamp release i q.0 q.1) (λ k. (work_is k, path k)) begins.turning)

  -- or goes on with its work, or is done
  works : (work : Work) (w : Turn Work Turned) → o.making ≡ Working work → work_turned work (turn_told s (Working work)) ≡ w
      → GoesOn (layered s0) stamp release i w (turned (layered s) i (work_asks work) (turning_after work.terms w)) → StandsAfter (worked w)
  works work (Go next) same is on =
      let after : turn_after turn ≡ Some (Working next) = ap turn_after (turn_by (Working work) same) ∙ ap (λ (u : Turn Work Turned). turn_after (worked u)) is in
      let path = (λ k. record { whole = record (footed s) { world = record (world s) { words = asks_by (Working work) same k } }; turns = set (layered s).turns i (turning_of (sym after k)) }) ∙ layered_then in
      subst (LoneTurning (layered s0) stamp release i next) path on
  works work (Done answer) same is on =
      let after : turn_after turn ≡ None = ap turn_after (turn_by (Working work) same) ∙ ap (λ (u : Turn Work Turned). turn_after (worked u)) is in
      let quiet = quiet_then after in
      let whole : (layered s').whole ≡ (turned (layered s) i (work_asks work) (turning_after work.terms (Done answer))).whole =
      sym ((λ k. record (footed s) { world = record (world s) { words = asks_by (Working work) same k } }) ∙ ap (λ (l : Layered). l.whole) layered_then) in
      rests_as answer (turned (layered s) i (work_asks work) (turning_after work.terms (Done answer))) (layered s') whole is'.layered
      (λ j u at. at_rest u (rest_turns s'.states quiet.turns j u at)) on

  stands_after : StandsAfter turn
  stands_after = by_making o.making refl o.stands
    where
      by_making : (m : MakeTurn) → o.making ≡ m → TurnStands s0 s i stamp release m → StandsAfter turn
      by_making (Taking terms) same stands = subst StandsAfter (sym (turn_by (Taking terms) same)) (takes terms same stands.0 stands.1)
      by_making (Working work) same stands =
          let x = turn_told s (Working work) in
          subst StandsAfter (sym (turn_by (Working work) same)) (works work (work_turned work x) same refl (turns_go (layered s0) stamp release i work (layered s) x stands refl).on)

  -- how it goes on
  pub lone_turn_goes : result ≡ None → (next : LoneTurn s0 s' i stamp release) × (turn_left_at s' i < turn_left_at s i) × HoldsLock (Some next.making)
  lone_turn_goes going = by_turn turn refl stands_after fewer
    where
      left_in : mathlib.Core.Option.Option PartyState → ℕ
      left_in found = elim found [ none ↦ 0 | some e ↦ left_of_turn e.turn ]

      by_turn : (u : Turn MakeTurn TurnReply) → turn ≡ u → StandsAfter u → GoesBelow making_left (making_left o.making) u → (next : LoneTurn s0 s' i stamp release) × (turn_left_at s' i < turn_left_at s i) × HoldsLock (Some next.making)
      by_turn (Go (Working work)) same stands less =
          let now : PartyState = record (o.start.state) { turn = Some (Working work) } in
          let is : s' ≡ with_words s'.words (Some (Working work)) = left_is ∙ ap (λ (u : Turn MakeTurn TurnReply). with_words s'.words (turn_after u)) same in
          let there : get_elem? s'.states i ≡ some now = ap (λ (v : Index). get_elem? v.states i) is ∙ set_here s0.states i now o.start.state o.start.there in (
            record {
              start = o.start;
              index = is';
              making = Working work;
              is = is;
              stands = stands;
              keeps = leaves_both (facts (world s0)) (facts (world s)) (facts (world s')) o.keeps t.keeps;
              weighs =
                  let before = o.weighs in
                  let step = (turns_keep s i st o.making o.index at_i refl).weighs in
                  let after = ap (λ (v : Index). weight_sum (world v)) stepped in
                  omega (arith, before, step, after);
            },
            let was : turn_left_at s i ≡ making_left o.making = ap left_in at_i in
                let left : turn_left_at s' i ≡ making_left (Working work) = ap left_in there in
                omega (arith, less, was, left),
            tt,
          )
      by_turn (Go (Taking terms)) same stands less = absurd stands
      by_turn (Done answer) same stands less = absurd (let none : None ≡ Some answer = sym going ∙ answered ∙ ap turn_reply same in cc)

  -- and how it ends
  pub lone_turn_ends : (r : TurnReply) → result ≡ Some r → (answer : Turned) × (r ≡ reply.Turned answer) × TurnsAlone s0 stamp release answer s' × IsQuiet s'
  lone_turn_ends r ended = by_turn turn refl stands_after
    where
      by_turn : (u : Turn MakeTurn TurnReply) → turn ≡ u → StandsAfter u → (answer : Turned) × (r ≡ reply.Turned answer) × TurnsAlone s0 stamp release answer s' × IsQuiet s'
      by_turn (Go making) same stands = absurd (let none : None ≡ Some r = sym (ap turn_reply same) ∙ sym answered ∙ ended in cc)
      by_turn (Done (reply.Held word)) same stands = absurd stands
      by_turn (Done (reply.Turned answer)) same stands =
          let replied : Some r ≡ Some (reply.Turned answer) = sym ended ∙ answered ∙ ap turn_reply same in
          let after : turn_after turn ≡ None = ap turn_after same in
          let none_before : record (o.start.state) { turn = None } ≡ o.start.state = λ k. record (o.start.state) { turn = sym (o.start.quiet.turns i o.start.state o.start.there) k } in
          let states : set s0.states i (record (o.start.state) { turn = turn_after turn }) ≡ s0.states =
          ap (λ (t : Option MakeTurn). set s0.states i (record (o.start.state) { turn = t })) after ∙ ap (set s0.states i) none_before ∙ set_own s0.states i o.start.state o.start.there in (
            answer,
            (let one : r ≡ reply.Turned answer = cc in one),
            (let same = left_is ∙ (λ k. record s0 { words = s'.words; states = states k }) in
                record { lone = stands; is = same; stamps = lone_turn_stamps s0 s' stamp release answer stands; weighs = lone_turn_weighs s0 s' stamp release answer stands (ap (λ (v : Index). v.layout) same) }),
            quiet_then after,
          )

-- Where it has come by steps that went on.
pub lone_turn_passes : {s0 s : Index} {i stamp release : ℕ} {s' : Index} {turns : ℕ} → LoneTurn s0 s i stamp release
    → TurnAlong s i s' turns → LoneTurn s0 s' i stamp release × (turn_left_at s' i + turns ≤ turn_left_at s i)
lone_turn_passes o at_first = (o, omega arith)
lone_turn_passes {s0 = s0} {i = i} {stamp = stamp} {release = release} o (one_more {now = now} {next = next} before t is) =
    let was = lone_turn_passes o before in
    let go = lone_turn_goes s0 now next i stamp release was.0 None t is refl in
    (go.0, omega (arith, go.1, was.1))
