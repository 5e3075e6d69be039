-- When the node of a merge becomes FREE again: by turns of the updater alone, and only where a turn found on it a stamp
-- that it releases.
use Rattle.std.specs.Prelude.{◌≡◌, ℕ, ◌⊎◌, List, Option, Some}
use mathlib.Core.Option.{some}
use lib.ListN.{get_elem?}
use Rattle.pm_words.specs.Codes.{free_status, gone_status}
use Rattle.pm_words.specs.declared.machine.Turn.TheVariants.{Go}
use Rattle.index_law.specs.Worlds.{facts}
use Rattle.updater.specs.declared.making.MakeTurn.{MakeTurn}
use Rattle.updater.specs.declared.making.TurnReply.{TurnReply}
use Rattle.updater.specs.Makings.{making_turned}
use Rattle.index_core.specs.declared.party.PartyState.{PartyState}
use Rattle.index_core.specs.Indexes.{Index, IsTurning, world}
use Rattle.index_core.specs.Lone.{IsQuiet}
use Rattle.index_core.specs.Schedules.{BegunCall, AnsweredCall, Runs}
use Rattle.index_core.specs.Turns.{IsToFree, MayFree, TurnSteps, turn_told}

-- At an earlier moment of the schedule the party's turn made the step that led it to where it is. Then the node was
-- GONE, and had a stamp that the turn releases.
pub record WasReleased (first : Index) (party : ℕ) (making : MakeTurn) (n : ℕ) : Type 0 where
  pub begun : List BegunCall
  pub calls : List AnsweredCall
  pub earlier : Index
  pub run : Runs first begun calls earlier
  pub turning : IsTurning earlier party
  pub step : making_turned turning.machine (turn_told earlier turning.machine) ≡ Go making
  pub may : MayFree earlier turning.machine n

-- Wherever a schedule stands, a turn that is to make a node FREE took a stamp of its release from that node.
abbrev pub FreedWereReleased : Type 0
FreedWereReleased = (first last : Index) (begun : List BegunCall) (calls : List AnsweredCall) → IsQuiet first →
    Runs first begun calls last → (party : ℕ) (state : PartyState) (making : MakeTurn) (n : ℕ) →
    get_elem? last.states party ≡ some state → state.turn ≡ Some making → IsToFree making n →
    WasReleased first party making n

-- So a node becomes FREE in a step of a turn only from GONE, and that turn found such a stamp on it.
abbrev pub StepsFreeReleased : Type 0
StepsFreeReleased = (first old new : Index) (begun : List BegunCall) (calls : List AnsweredCall) (party : ℕ)
    (result : Option TurnReply) → IsQuiet first → Runs first begun calls old → (step : TurnSteps old party new result) →
    (n : ℕ) → (facts (world new)).status n ≡ free_status → ((facts (world old)).status n ≡ free_status) ⊎
    (((facts (world old)).status n ≡ gone_status) × WasReleased first party step.making n)
