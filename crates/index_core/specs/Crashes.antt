-- What an eviction makes of the index, and what a crash leaves of it.
use Rattle.std.specs.Prelude.{◌≡◌, ℕ, ◌≤◌, ◌^◌, List, [], ◌∷◌, ◌++◌, Option, Some, None, IfSome, IsSomeAnd}
use Rattle.std.specs.Prelude.{slice_get}
use mathlib.Core.Option.{some}
use lib.ListN.{get_elem?}
use Rattle.pm_words.specs.Images.{Row}
use Rattle.pm_words.specs.Rows.{evicted, durable_row}
use Rattle.cat_history.specs.Maps.{Map}
use Rattle.cat_history.specs.CrashEnds.{IsCrashEnd}
use Rattle.cat_history.specs.declared.op.Change.{Change}
use Rattle.cat_history.specs.declared.op.NameOp.{NameOp}
use Rattle.cat_history.specs.declared.op.NameOp.TheVariants as op
use Rattle.image_rules.specs.Sound.{IsMapOf}
use Rattle.index_image_law.specs.image_layer_rules.specs.Sound.{IsSoundByAll}
use Rattle.call_stages.specs.Stages.{placed_in}
use Rattle.node_ops.specs.declared.running.Running.{Running}
use Rattle.cat_history.specs.Records.{change_of}
use Rattle.node_ops.specs.Asked.{op_in}
use Rattle.node_ops.specs.RunningSteps.{IsRunning, running_call, count_in}
use Rattle.node_ops.specs.CallStages.{stage_of}
use Rattle.node_ops.specs.declared.recheck.Recheck.{Recheck}
use Rattle.node_ops.specs.RecheckSteps.{recheck_node, recheck_version}
use Rattle.updater.specs.declared.making.MakeTurn.{MakeTurn}
use Rattle.updater.specs.Makings.{making_terms}
use Rattle.index_core.specs.declared.party.CoreCall.{CoreCall}
use Rattle.index_core.specs.declared.party.CoreCall.TheVariants as call
use Rattle.index_core.specs.declared.party.PartyState.{PartyState}
use Rattle.index_core.specs.declared.party.Rechecking.{Rechecking}
use Rattle.index_core.specs.declared.crash.CutCall.{CutCall}
use Rattle.index_core.specs.Indexes.{Index, map_of_index, world}
use Rattle.index_core.specs.Weights.{crash_weight}
use Rattle.index_law.specs.Weights.{weight_sum}

-- The index once an image word is durable.
abbrev pub evicted_index : Index → ℕ → Index
evicted_index s word = record s { words = evicted s.layout s.words word }

-- A limit, or the greatest that there is.
abbrev pub limit_or_most : Option ℕ → ℕ
limit_or_most None = 2 ^ 62
limit_or_most (Some limit) = limit

-- A get, or the part of a scan that lists so many names.
abbrev pub call_from : List ℕ → Option ℕ → CoreCall
call_from name None = call.Get name
call_from name (Some count) = call.Part name count

-- The call of an op with this limit, and this count if it is a part of a scan.
abbrev pub call_with : NameOp → ℕ → Option ℕ → CoreCall
call_with (op.Put name value) limit count = call.Put name value limit
call_with (op.Get name) limit count = call_from name count
call_with (op.Del name) limit count = call.Del name limit

-- The call that a machine makes.
abbrev pub call_in : Running → CoreCall
call_in machine = call_with (op_in machine) (limit_or_most (running_call machine).limit) (count_in machine)

-- The turn of the updater that a party makes, as a call.
abbrev pub turn_in : MakeTurn → CoreCall
turn_in making = call.Turn (making_terms making).stamp (making_terms making).release

-- The recheck that a party makes, as a call.
abbrev pub recheck_in : Recheck → CoreCall
recheck_in recheck = call.Recheck (recheck_node recheck) (recheck_version recheck)

-- The recheck of a party that a crash cuts off, if it makes one, or else its turn. Neither places a write.
abbrev pub cut_recheck : ℕ → Option Rechecking → Option CutCall
cut_recheck party None = None
cut_recheck party (Some r) = Some (record { party = party; call = recheck_in r.machine; place = None })

abbrev pub cut_turn : ℕ → Option MakeTurn → Option Rechecking → Option CutCall
cut_turn party None recheck = cut_recheck party recheck
cut_turn party (Some making) recheck = Some (record { party = party; call = turn_in making; place = None })

-- The call of a party that a crash cuts off, if one is in flight: one on a name, a turn, or a recheck.
abbrev pub cut_call : ℕ → Option Running → Option MakeTurn → Option Rechecking → Option CutCall
cut_call party None turn recheck = cut_turn party turn recheck
cut_call party (Some machine) turn recheck =
    Some (record { party = party; call = call_in machine; place = placed_in (stage_of machine) })

abbrev pub cut_of : Option PartyState → Option CutCall
cut_of None = None
cut_of (Some state) = cut_call state.caller state.machine state.turn state.recheck

-- The call of the party at this place that a crash cuts off.
abbrev pub cut_at : List PartyState → ℕ → Option CutCall
cut_at states party = cut_of (slice_get states party)

-- Each call in flight is sound.
abbrev pub AreRunning : List PartyState → Type 0
AreRunning states = (i : ℕ) (state : PartyState) → get_elem? states i ≡ some state → IfSome state.machine IsRunning

-- The change of a write, as long as it has no place.
abbrev pub unplaced : Option ℕ → Option Change → List Change
unplaced (Some place) change = []
unplaced None None = []
unplaced None (Some change) = change ∷ []

abbrev pub cut_change : Option Running → List Change
cut_change None = []
cut_change (Some machine) = unplaced (placed_in (stage_of machine)) (change_of (op_in machine))

-- The changes of the writes in flight that have no place, in the order of their parties.
abbrev pub cut_changes : List PartyState → List Change
cut_changes [] = []
cut_changes (state ∷ states) = cut_change state.machine ++ cut_changes states

-- What a crash leaves: the durable words, which are an image that is sound by all rules, and the calls in flight.
pub record IsCrash (s : Index) (image : Row) (cuts : List PartyState) : Type 0 where
  pub leaves : image ≡ record { layout = s.layout; words = durable_row s.layout s.words }
  pub cut_off : cuts ≡ s.states
  pub sound : IsSoundByAll s.layout (durable_row s.layout s.words)
  -- it weighs no more than the index, with what deletes that aren't counted yet have lowered it by
  pub weighs : crash_weight s ≤ weight_sum (world s)
  -- the map that the image keeps is the one after the whole history and after those of the unplaced writes that are
  -- found in it
  pub end : Map
  pub keeps : IsMapOf s.layout (durable_row s.layout s.words) end
  pub ends : IsCrashEnd (map_of_index s) (cut_changes s.states) end
  -- a write that was cut off with a place stands there in the history, with its change
  pub placed : (i place : ℕ) (state : PartyState) (machine : Running) → get_elem? s.states i ≡ some state →
      state.machine ≡ Some machine →
      placed_in (stage_of machine) ≡ Some place →
      IsSomeAnd (change_of (op_in machine)) (λ change. slice_get s.history place ≡ Some (record {
        caller = state.caller;
        index = state.index;
        change = change;
      }))
