-- Turns of the updater in the core: how one begins, what each step of it changes, and how it is answered.
use Rattle.std.specs.Prelude.{◌≡◌, ◌≢◌, ℕ, zero, suc, ◌+◌, ◌*◌, ◌/◌, ◌<◌, ◌≤◌, ◌^◌, ◌⊎◌, true, slice_set, Option}
use Rattle.std.specs.Prelude.{Some, None}
use mathlib.Core.Option.{some}
use lib.ListN.{get_elem?}
use Rattle.pm_words.specs.Codes.{free_status, gone_status}
use Rattle.pm_words.specs.declared.machine.Turn.{Turn}
use Rattle.pm_words.specs.declared.machine.Turn.TheVariants.{Go, Done}
use Rattle.pm_words.specs.Rows.{CanAct, acted, got}
use Rattle.pm_words.specs.Turns.{GoesBelow}
use Rattle.index_law.specs.Worlds.{facts}
use Rattle.index_law.specs.Weights.{weight_sum}
use Rattle.index_image_law.specs.index_layer_law.specs.Laws.{LeavesNodes}
use Rattle.lone_hops_law.specs.lone_updater_law.specs.LoneTurns.{IsLoneTurn, stamp_in}
use Rattle.updater.specs.updater_row_law.specs.RowStages.{Frees}
use Rattle.updater.specs.declared.making.MakeTurn.{MakeTurn}
use Rattle.updater.specs.declared.making.MakeTurn.TheVariants.{Working}
use Rattle.updater.specs.declared.making.TurnReply.{TurnReply}
use Rattle.updater.specs.declared.making.TurnReply.TheVariants as reply
use Rattle.updater.specs.declared.terms.Turned.{Turned}
use Rattle.updater.specs.Makings.{making_from, making_asks, making_turned, making_takes, making_left, making_terms}
use Rattle.updater.specs.Makings.{making_turning}
use Rattle.updater.specs.Works.{work_from}
use Rattle.index_core.specs.declared.party.PartyState.{PartyState}
use Rattle.index_core.specs.declared.party.Stepped.{Stepped}
use Rattle.index_core.specs.declared.party.Whole.{Whole}
use Rattle.index_core.specs.declared.party.Whole.TheVariants as whole
use Rattle.index_core.specs.PartyStates.{turn_reply, turn_stepped, state_turned}
use Rattle.index_core.specs.Indexes.{Index, IsIndex, world, layered}
use Rattle.index_core.specs.Weights.{weight_of}

-- The index once the party has begun a turn with this stamp and release.
abbrev pub turn_begun : Index → ℕ → PartyState → ℕ → ℕ → Index
turn_begun s party state stamp release = record s {
  states = slice_set s.states party (record state {
    turn = Some (making_from s.layout s.generation stamp release);
  });
}

pub record StartsTurn (old : Index) (party stamp release : ℕ) (new : Index) : Type 0 where
  pub state : PartyState
  pub there : get_elem? old.states party ≡ some state
  pub is : new ≡ turn_begun old party state stamp release

-- The number that the turn's action gives.
abbrev pub turn_told : Index → MakeTurn → ℕ
turn_told s making = got s.layout s.words (making_asks making)

-- The index once the party's turn has done its action.
abbrev pub turned_index : Index → ℕ → PartyState → MakeTurn → Index
turned_index s party state making = record s {
  words = acted s.layout s.words (making_asks making);
  states = slice_set s.states party (state_turned state (making_turned making (turn_told s making)));
}

-- The nodes' words are as before, and with them the list, the map and the history; some GONE nodes may be FREE.
abbrev pub KeepsNodes : Index → Index → Type 0
KeepsNodes old new = LeavesNodes (facts (world old)) (facts (world new))

-- The turn has taken the node's stamp away, and makes it FREE by its next step.
abbrev pub IsToFree : MakeTurn → ℕ → Type 0
IsToFree making n = (making_turning making).stage ≡ Frees n

-- The node is GONE, and has a stamp that the turn releases.
pub record MayFree (s : Index) (making : MakeTurn) (n : ℕ) : Type 0 where
  pub gone : (facts (world s)).status n ≡ gone_status
  pub some_stamp : stamp_in (world s) n ≢ 0
  pub release : stamp_in (world s) n ≤ (making_terms making).release

-- What a turn's step from one index to the next makes FREE.
pub record FreesReleased (old : Index) (making : MakeTurn) (new : Index) : Type 0 where
  -- a node becomes FREE only from GONE, by a turn that has just taken its stamp away
  pub frees : (n : ℕ) → (facts (world new)).status n ≡ free_status → ((facts (world old)).status n ≡ free_status) ⊎
      (((facts (world old)).status n ≡ gone_status) × IsToFree making n)
  -- which it does only where the node is GONE, and has a stamp that the turn releases
  pub comes : (next : MakeTurn) (n : ℕ) → making_turned making (turn_told old making) ≡ Go next → IsToFree next n →
      MayFree old making n

-- One step of the party's turn, and its answer, if that ends it.
pub record TurnSteps (old : Index) (party : ℕ) (new : Index) (result : Option TurnReply) : Type 0 where
  pub state : PartyState
  pub making : MakeTurn
  pub there : get_elem? old.states party ≡ some state
  pub turns : state.turn ≡ Some making
  pub is : new ≡ turned_index old party state making
  pub answers : result ≡ turn_reply (making_turned making (turn_told old making))
  pub keeps : KeepsNodes old new
  pub freed : FreesReleased old making new
  -- it has fewer actions left
  pub fewer : GoesBelow making_left (making_left making) (making_turned making (turn_told old making))

-- So many steps of the party's turn that go on, one after another.
pub data TurnAlong (old : Index) (party : ℕ) : Index → ℕ → Type 0 where
  at_first : TurnAlong old party old zero
  one_more : {now next : Index} {turns : ℕ} → TurnAlong old party now turns → TurnSteps now party next None →
      IsIndex next → TurnAlong old party next (suc turns)

-- Some steps of the party's turn that go on, or none. Each takes one event.
pub record TurnPasses (old : Index) (party : ℕ) (new : Index) (begun ended : ℕ) : Type 0 where
  pub turns : ℕ
  pub along : TurnAlong old party new turns
  pub steps : ended ≡ begun + turns

-- One step of the party's turn, and what it comes to.
pub record TurnStepsTo (old : Index) (party : ℕ) (new : Index) (result : Stepped) : Type 0 where
  pub answer : Option TurnReply
  pub steps : TurnSteps old party new answer
  pub comes_to : result ≡ turn_stepped answer

-- The turn ends here, and answers that no node is FREE.
abbrev pub FindsNoneFree : Turn MakeTurn TurnReply → Type 0
FindsNoneFree (Go making) = ⊥
FindsNoneFree (Done (reply.Turned turned)) = turned.none_free ≡ true
FindsNoneFree (Done (reply.Held word)) = ⊥

-- What a step of a party's turn needs and leaves: whoever keeps the words rests on this.
pub record TurnLaw (s : Index) (party : ℕ) (state : PartyState) (making : MakeTurn) : Type 0 where
  pub can : CanAct s.layout s.words (making_asks making)
  pub takes : making_takes making (turn_told s making)
  pub kept : IsIndex (turned_index s party state making)
  pub keeps : KeepsNodes s (turned_index s party state making)
  pub freed : FreesReleased s making (turned_index s party state making)
  pub weighs : weight_sum (world (turned_index s party state making)) ≤ weight_sum (world s)
  -- where it ends and found no node FREE, the weight is at least half of all slots
  pub in_use : FindsNoneFree (making_turned making (turn_told s making)) →
      s.layout.nodes * (s.layout.slots / 2) ≤ weight_sum (world s)

abbrev pub TurnKeeps : Type 0
TurnKeeps = (s : Index) (party : ℕ) (state : PartyState) (making : MakeTurn) → IsIndex s →
    get_elem? s.states party ≡ some state → state.turn ≡ Some making → TurnLaw s party state making

-- A party without a turn may begin one.
abbrev pub TurnBegins : Type 0
TurnBegins = (s : Index) (party : ℕ) (state : PartyState) (stamp release : ℕ) → IsIndex s →
    get_elem? s.states party ≡ some state → state.turn ≡ None → 1 ≤ stamp → stamp < 2 ^ 64 →
    IsIndex (turn_begun s party state stamp release)

-- The index once the party's turn, which has the updater lock and has done nothing under it, has this stamp and
-- release.
abbrev pub with_terms : Index → ℕ → PartyState → ℕ → ℕ → Index
with_terms s party state stamp release = record s {
  states = slice_set s.states party (record state {
    turn = Some (Working (work_from s.layout s.generation stamp release));
  });
}

pub record TermsLaw (s : Index) (party : ℕ) (state : PartyState) (stamp release : ℕ) : Type 0 where
  pub kept : IsIndex (with_terms s party state stamp release)
  pub weighs : weight_sum (world (with_terms s party state stamp release)) ≡ weight_sum (world s)

-- So the terms of a turn may be set once it has the lock, whichever it began with.
abbrev pub TermsMayBeSet : Type 0
TermsMayBeSet = (s : Index) (party : ℕ) (state : PartyState) (old_stamp old_release stamp release : ℕ) → IsIndex s →
    get_elem? s.states party ≡ some state →
    state.turn ≡ Some (Working (work_from s.layout s.generation old_stamp old_release)) → 1 ≤ stamp → stamp < 2 ^ 64 →
    TermsLaw s party state stamp release

-- A whole turn by the party with nothing else in flight: what it answers and leaves is told by `IsLoneTurn`, and beside
-- words nothing has changed.
pub record TurnsAlone (old : Index) (stamp release : ℕ) (answer : Turned) (new : Index) : Type 0 where
  pub lone : IsLoneTurn (layered old) stamp release answer (layered new)
  pub is : new ≡ record old { words = new.words }
  -- each node's stamp is as it was, or no greater than the one that the turn gives
  pub stamps : (n : ℕ) → n < old.layout.nodes →
      (stamp_in (world new) n ≡ stamp_in (world old) n) ⊎ (stamp_in (world new) n ≤ stamp)
  pub weighs : weight_of new ≤ weight_of old  -- what it made FREE weighs nothing any more

-- A whole call is answered as a turn of the updater is, and this holds of what that has done.
abbrev pub IsTurnedAnd : Whole → (Turned → Type 0) → Type 0
IsTurnedAnd (whole.Placed placed) P = ⊥
IsTurnedAnd (whole.Part words) P = ⊥
IsTurnedAnd (whole.Same place) P = ⊥
IsTurnedAnd (whole.Turned turned) P = P turned
IsTurnedAnd whole.Full P = ⊥
IsTurnedAnd (whole.Spent clock) P = ⊥
IsTurnedAnd (whole.Worn node word) P = ⊥
