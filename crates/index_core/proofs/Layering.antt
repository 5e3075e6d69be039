-- What keeps an index with its search layer and its turns.
use Rattle.std.proofs.Common.{◌≡◌, ◌≢◌, ℕ, ◌<◌, ◌^◌, ◌⊎◌, inl, inr, ⊎_elim, List, set, map, slice_set, slice_index}
use Rattle.std.proofs.Common.{refl, sym, ap, ◌∙◌, subst, arith}
use Rattle.std.specs.Prelude.{Option, Some, None, length}
use Rattle.std.proofs.lemmas.List.{set-get_or}
use mathlib.Core.Option.{some}
use lib.ListN.{get_elem?}
use Rattle.pm_words.specs.Locations.{Volatile, image_words, address_of, at}
use Rattle.pm_words.specs.declared.action.Action.{Action}
use Rattle.pm_words.specs.declared.machine.Turn.{Turn}
use Rattle.pm_words.specs.declared.machine.Turn.TheVariants.{Go, Done}
use Rattle.pm_words.specs.Offsets.{stamp_offset}
use Rattle.cat_history.specs.Maps.{map_of}
use Rattle.cat_history.specs.declared.op.Write.{Write}
use Rattle.cat_key.specs.declared.Pair.{Pair}
use Rattle.call_stages.specs.declared.once.Once.{Once}
use Rattle.call_stages.specs.declared.once.Placed.{Placed}
use Rattle.call_stages.specs.Stages.{Idle}
use Rattle.call_stages.specs.Kinds.{clock_address}
use Rattle.call_stages.specs.Lines.{HeldLine}
use Rattle.call_stages.specs.Footings.{Footing, FootStep}
use Rattle.node_ops.specs.declared.running.Running.{Running}
use Rattle.node_ops.specs.CallStages.{stage_of, footing_of, footing_after, reply_of}
use Rattle.node_ops.specs.RunningSteps.{running_asks, running_turned}
use Rattle.node_ops.proofs.CallLaw.{footing_stage}
use Rattle.index_law.specs.Worlds.{Party, moved_on}
use Rattle.index_law.specs.Whole.{Whole}
use Rattle.index_law.specs.Footings.{stepped_whole}
use Rattle.index_law.specs.Footed.{IsFooted}
use Rattle.index_law.proofs.AnySteps.{set_own}
use Rattle.index_law.proofs.Parties.{at_set, set_here, set_else}
use Rattle.updater.specs.updater_row_law.specs.Turnings.{Turning}
use Rattle.index_image_law.specs.index_layer_law.specs.Layers.{Layered, IsLayered}
use Rattle.index_image_law.specs.index_layer_law.specs.Laws.{IsAtRest}
use Rattle.index_image_law.specs.index_layer_law.specs.Beginnings.{IsIdleOrKept}
use Rattle.index_image_law.specs.index_layer_law.proofs.Restamping.{stamp_keeps_layer}
use Rattle.index_image_law.specs.index_layer_law.proofs.Beginnings.{beginning_keeps_layer, other_turns_may_rest}
use Rattle.index_image_law.specs.index_layer_law.proofs.CallLaw.{call_step_keeps}
use Rattle.index_image_law.specs.index_layer_law.proofs.LayerStays.{eviction_keeps_layer}
use Rattle.index_core.specs.declared.party.PartyState.{PartyState}
use Rattle.index_core.specs.PartyStates.{machine_stage, machine_footing, party_of, resting, turning_of, state_after}
use Rattle.index_core.specs.Crashes.{evicted_index}
use Rattle.index_core.specs.Indexes.{Index, footed, layered, world, told, stepped_index}
use Rattle.index_core.proofs.Footings.{after_line, after_stage, line_of, debt_of}
use Rattle.index_core.proofs.Lists.{map_there, map_from, map_set, there_is}

abbrev pub turn_of : PartyState → Turning
turn_of state = turning_of state.turn

-- A party after a change is idle, or stands where one with the same machine stood.
abbrev pub IsIdleOrSame : List PartyState → ℕ → PartyState → Type 0
IsIdleOrSame before i now = (machine_stage now.machine ≡ Idle) ⊎ ((was : PartyState) × (get_elem? before i ≡ some was) × (was.machine ≡ now.machine))

-- Parties that begin anew while the others stay, with whatever base and history, and with this clock.
module _ (s : Index) (clock : ℕ) (states : List PartyState) (base : List Pair) (history : List Write) where
  abbrev after : Index
  after = record s { words = slice_set s.words (clock_address s.layout) clock; states = states; base = base; history = history }

  kept : ((i : ℕ) (now : PartyState) → get_elem? states i ≡ some now → IsIdleOrSame s.states i now) → (i : ℕ) (p : Party) → get_elem? (map party_of states) i ≡ some p → IsIdleOrKept (footed s) (map line_of states) i p
  kept same i p at =
      let from = map_from party_of states i p at in
      elim (same i from.0 from.1) [
        | inl idle ↦ inl (ap (λ (q : Party). q.stage) (sym from.2) ∙ idle)
        | inr was ↦ inr (
          party_of was.0,
          map_there party_of s.states i was.0 was.1,
          ap machine_stage was.2 ∙ ap (λ (q : Party). q.stage) from.2,
          map_there line_of states i from.0 from.1 ∙ ap (λ (m : Option Running). some (machine_footing m).line) (sym was.2) ∙ sym (map_there line_of s.states i was.0 was.1),
        )
      ]

  pub begun_layered : IsLayered (layered s) → IsFooted (footed after) → map turn_of states ≡ map turn_of s.states → ((i : ℕ) (now : PartyState) → get_elem? states i ≡ some now → IsIdleOrSame s.states i now) → IsLayered (layered after)
  begun_layered is footed_after turns same =
      subst (λ (u : List Turning). IsLayered (record { whole = footed after; turns = u })) (sym turns)
      (beginning_keeps_layer (layered s) clock (map party_of states) (map_of base) history (map line_of states) (map debt_of states) is footed_after.0 footed_after.1 (kept same))

-- The same with the clock as it is.
pub same_words_layered : (s : Index) (states : List PartyState) (spare : ℕ) → IsLayered (layered s) → IsFooted (footed (record s { states = states })) → map turn_of states ≡ map turn_of s.states
    → ((i : ℕ) (now : PartyState) → get_elem? states i ≡ some now → IsIdleOrSame s.states i now) → IsLayered (layered (record s { states = states; spare = spare }))
same_words_layered s states spare is footed_after turns same =
    let words : slice_set s.words (clock_address s.layout) (slice_index s.words (clock_address s.layout)) ≡ s.words = set-get_or s.words (clock_address s.layout) 0 in
    subst (λ (w : List ℕ). IsLayered (layered (record s { words = w; states = states }))) words
    (begun_layered s (slice_index s.words (clock_address s.layout)) states s.base s.history is (subst (λ (w : List ℕ). IsFooted (footed (record s { words = w; states = states }))) (sym words) footed_after) turns same)

-- One party's state is another.
pub map_own : {A : Type 0} (f : PartyState → A) (states : List PartyState) (i : ℕ) (was now : PartyState) → get_elem? states i ≡ some was → f now ≡ f was → map f (set states i now) ≡ map f states
map_own f states i was now there same = map_set f states i now ∙ ap (set (map f states) i) same ∙ set_own (map f states) i (f was) (map_there f states i was there)

turns_set : (states : List PartyState) (i : ℕ) (was now : PartyState) → get_elem? states i ≡ some was → now.turn ≡ was.turn → map turn_of (set states i now) ≡ map turn_of states
turns_set states i was now there same = map_own turn_of states i was now there (ap turning_of same)

pub one_layered : (s : Index) (i : ℕ) (was now : PartyState) (spare : ℕ) → IsLayered (layered s) → get_elem? s.states i ≡ some was → now.turn ≡ was.turn → (machine_stage now.machine ≡ Idle) ⊎ (was.machine ≡ now.machine)
    → IsFooted (footed (record s { states = set s.states i now })) → IsLayered (layered (record s { states = set s.states i now; spare = spare }))
one_layered s i was now spare is there turn same footed_after =
    same_words_layered s (set s.states i now) spare is footed_after (turns_set s.states i was now there turn)
    (λ j other at. ⊎_elim
    (λ (mine : (j ≡ i) × (now ≡ other)). ⊎_elim
    (λ (idle : machine_stage now.machine ≡ Idle). inl (ap (λ (d : PartyState). machine_stage d.machine) (sym mine.1) ∙ idle))
    (λ (alike : was.machine ≡ now.machine). inr (was, ap (get_elem? s.states) mine.0 ∙ there, alike ∙ ap (λ (d : PartyState). d.machine) mine.1))
    same)
    (λ (apart : (j ≢ i) × (get_elem? s.states j ≡ some other)). inr (other, apart.1, refl))
    (at_set s.states i j now other at))

-- Each step of a party's call keeps the layer: the law's own step, but for the index of a party whose call is answered.
module _ (s : Index) (i : ℕ) (state : PartyState) (machine : Running) (there : get_elem? s.states i ≡ some state) (flies : state.machine ≡ Some machine) where
  abbrev action : Action
  action = running_asks machine

  abbrev turn : Turn Running (Once Placed)
  turn = running_turned machine (told s machine)

  abbrev next : Footing
  next = footing_after turn

  abbrev now : PartyState
  now = state_after state turn

  abbrev stepped_layered : Layered
  stepped_layered = record { whole = stepped_whole (footed s) i (party_of state) action next; turns = (layered s).turns }

  after_turn : (t : Turn Running (Once Placed)) → (state_after state t).turn ≡ state.turn
  after_turn (Go m) = refl
  after_turn (Done answer) = refl

  abbrev stepped_states : List PartyState
  stepped_states = set s.states i now

  lines : map line_of stepped_states ≡ stepped_layered.whole.lines
  lines = map_set line_of s.states i now ∙ ap (set (map line_of s.states) i) (after_line state turn)

  kept_parties : (j : ℕ) (q : Party) → get_elem? (map party_of stepped_states) j ≡ some q → IsIdleOrKept stepped_layered.whole (map line_of stepped_states) j q
  kept_parties j q at =
      let p = party_of state in
      let moved = moved_on p next.stage in
      let here = ap (λ (ps : List Party). get_elem? ps j) (sym (map_set party_of s.states i now)) ∙ at in
      ⊎_elim
      (λ (mine : (j ≡ i) × (party_of now ≡ q)). inr (
        moved,
        ap (get_elem? stepped_layered.whole.world.parties) mine.0 ∙ set_here (map party_of s.states) i moved p (map_there party_of s.states i state there),
        sym (after_stage state turn) ∙ ap (λ (r : Party). r.stage) mine.1,
        ap (λ (ls : List (Option HeldLine)). get_elem? ls j) lines,
      ))
      (λ (other : (j ≢ i) × (get_elem? (map party_of s.states) j ≡ some q)). inr (
        q,
        set_else (map party_of s.states) i j moved other.0 ∙ other.1,
        refl,
        ap (λ (ls : List (Option HeldLine)). get_elem? ls j) lines,
      ))
      (at_set (map party_of s.states) i j (party_of now) q here)

  pub step_layered : IsLayered (layered s) → IsFooted (footed (stepped_index s i state machine 0))
      → FootStep s.layout s.generation state.caller (footing_of machine) action (told s machine) next (reply_of turn) → length s.history < 2 ^ 63
      → IsLayered (layered (stepped_index s i state machine 0))
  step_layered is footed_after k room =
      let p = party_of state in
      let stage : machine_stage state.machine ≡ stage_of machine = ap machine_stage flies in
      let line_at = map_there line_of s.states i state there ∙ ap (λ (o : Option Running). some (machine_footing o).line) flies in
      let debt_at = map_there debt_of s.states i state there ∙ ap (λ (o : Option Running). some (machine_footing o).debt) flies in
      let stepped_is : IsLayered stepped_layered =
      call_step_keeps (layered s) i p (footing_of machine) next action (told s machine) (reply_of turn) is (map_there party_of s.states i state there) line_at debt_at (stage ∙ sym (footing_stage machine)) k refl room in
      let end : Index = stepped_index s i state machine 0 in
      let clock = slice_index end.words (clock_address s.layout) in
      let words : slice_set end.words (clock_address s.layout) clock ≡ end.words = set-get_or end.words (clock_address s.layout) 0 in
      let turns : map turn_of stepped_states ≡ (layered s).turns = turns_set s.states i state now there (after_turn turn) in
      let whole_with : List ℕ → Whole = λ w. record (footed end) { world = record (world end) { words = w } } in
      let footed_with : IsFooted (whole_with (slice_set end.words (clock_address s.layout) clock)) = subst (λ (w : List ℕ). IsFooted (whole_with w)) (sym words) footed_after in
      subst (λ (q : List ℕ × List Turning). IsLayered (record { whole = whole_with q.0; turns = q.1 })) (λ j. (words j, sym turns j))
      (beginning_keeps_layer stepped_layered clock (map party_of stepped_states) (map_of s.base) end.history (map line_of stepped_states) (map debt_of stepped_states) stepped_is footed_with.0 footed_with.1 kept_parties)

-- A word that becomes durable.
pub evict_layered : (s : Index) (word : ℕ) → IsLayered (layered s) → word < image_words s.layout → IsLayered (layered (evicted_index s word))
evict_layered s word is within = eviction_keeps_layer (layered s) word is within

-- Parties of which no turn is in flight.
pub rest_turns : (states : List PartyState) → ((i : ℕ) (e : PartyState) → get_elem? states i ≡ some e → e.turn ≡ None) → (j : ℕ) (u : Turning) → get_elem? (map turn_of states) j ≡ some u → u ≡ resting
rest_turns states none j u at =
    let from = map_from turn_of states j u at in
    sym from.2 ∙ ap turning_of (none j from.0 from.1)

pub at_rest : (u : Turning) → u ≡ resting → IsAtRest u
at_rest u is = subst IsAtRest (sym is) (record { stage = refl; stamp = λ no. omega arith; watch = refl })

pub first_turn : (states : List PartyState) → 0 < length states → (u : Turning) × (get_elem? (map turn_of states) 0 ≡ some u)
first_turn states some_party = let there = there_is states 0 some_party in (turn_of there.0, map_there turn_of states 0 there.0 there.1)

-- An index in which nothing is in flight, with other idle parties, another base, history and clock.
pub rest_layered : (s : Index) (clock : ℕ) (states : List PartyState) (base : List Pair) (history : List Write) → IsLayered (layered s) → ((i : ℕ) (e : PartyState) → get_elem? s.states i ≡ some e → e.turn ≡ None)
    → ((i : ℕ) (e : PartyState) → get_elem? states i ≡ some e → e.machine ≡ None) → ((i : ℕ) (e : PartyState) → get_elem? states i ≡ some e → e.turn ≡ None) → 0 < length states
    → IsFooted (footed (after s clock states base history)) → IsLayered (layered (after s clock states base history))
rest_layered s clock states base history is none idle resting_turns some_party footed_after =
    let first = first_turn states some_party in
    let z : Layered = record { whole = footed (after s clock states base history); turns = (layered s).turns } in
    let begun : IsLayered z = beginning_keeps_layer (layered s) clock (map party_of states) (map_of base) history (map line_of states) (map debt_of states) is footed_after.0 footed_after.1
    (kept s clock states base history (λ i now at. inl (ap machine_stage (idle i now at)))) in
    other_turns_may_rest z (map turn_of states) 0 first.0 begun (λ i t at. ap (λ (u : Turning). u.stage) (rest_turns s.states none i t at))
    (λ j u at. at_rest u (rest_turns states resting_turns j u at)) first.1

-- With another stamp of a node that has one.
pub stamp_layered : (s : Index) (n stamp : ℕ) → IsLayered (layered s) → ((i : ℕ) (e : PartyState) → get_elem? s.states i ≡ some e → e.turn ≡ None) → n < s.layout.nodes
    → at s.layout s.words (Volatile n stamp_offset) ≢ 0 → stamp ≢ 0 → IsFooted (footed (record s { words = slice_set s.words (address_of s.layout (Volatile n stamp_offset)) stamp }))
    → IsLayered (layered (record s { words = slice_set s.words (address_of s.layout (Volatile n stamp_offset)) stamp }))
stamp_layered s n stamp is none here has_one another footed_after =
    stamp_keeps_layer (layered s) n stamp is (λ i t at. ap (λ (u : Turning). u.stage) (rest_turns s.states none i t at)) here has_one another footed_after.0 footed_after.1

-- With the clock as it is.
pub idle_layered : (s : Index) (states : List PartyState) → IsLayered (layered s) → ((i : ℕ) (e : PartyState) → get_elem? s.states i ≡ some e → e.turn ≡ None)
    → ((i : ℕ) (e : PartyState) → get_elem? states i ≡ some e → e.machine ≡ None) → ((i : ℕ) (e : PartyState) → get_elem? states i ≡ some e → e.turn ≡ None) → 0 < length states
    → IsFooted (footed (record s { states = states })) → IsLayered (layered (record s { states = states }))
idle_layered s states is none idle resting_turns some_party footed_after =
    let clock = slice_index s.words (clock_address s.layout) in
    let words : slice_set s.words (clock_address s.layout) clock ≡ s.words = set-get_or s.words (clock_address s.layout) 0 in
    subst (λ (w : List ℕ). IsLayered (layered (record s { words = w; states = states }))) words
    (rest_layered s clock states s.base s.history is none idle resting_turns some_party (subst (λ (w : List ℕ). IsFooted (footed (record s { words = w; states = states }))) (sym words) footed_after))
