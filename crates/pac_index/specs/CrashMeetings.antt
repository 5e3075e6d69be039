-- What a crash leaves of a shared index, whose callers are at rest, or have a call or a turn in flight.
use Rattle.std.specs.Prelude.{◌≡◌, ℕ, ◌+◌, ◌*◌, ◌/◌, ◌<◌, ◌≤◌, true, List, [], ◌∷◌, ◌++◌, length, map, slice_get}
use Rattle.std.specs.Prelude.{Option, Some, None}
use mathlib.Core.Option.{some}
use lib.ListN.{get_elem?}
use Rattle.cat_history.specs.Maps.{Map, map_of}
use Rattle.cat_history.specs.Writes.{after_all}
use Rattle.cat_history.specs.CrashEnds.{IsCrashEnd}
use Rattle.cat_history.specs.Records.{change_of}
use Rattle.cat_history.specs.declared.op.Change.{Change}
use Rattle.cat_history.specs.declared.op.NameOp.{NameOp}
use Rattle.cat_history.specs.declared.op.NameOp.TheVariants as op
use Rattle.cat_history.specs.declared.op.Write.{Write}
use Rattle.pm_words.specs.Images.{Row}
use Rattle.pm_words.specs.Locations.{image_words}
use Rattle.pm_words.specs.Rows.{durable_row}
use Rattle.image_rules.specs.Rules.{header_generation}
use Rattle.image_rules.specs.Sound.{IsMapOf}
use Rattle.image_rules.specs.Weights.{image_weight}
use Rattle.index_core.specs.image_layer_rules.specs.Sound.{IsSoundByAll}
use Rattle.index_core.specs.CoreCalls.{op_of}
use Rattle.index_core.specs.CrashLaws.{evicted_by}
use Rattle.index_core.specs.Crashes.{unplaced}
use Rattle.index_core.specs.Indexes.{IsIndex}
use Rattle.index_core.specs.declared.party.PartyState.{PartyState}
use Rattle.pac_index.specs.declared.caller.Caller.{Caller}
use Rattle.pac_index.specs.declared.caller.CutCall.{CutCall}
use Rattle.pac_index.specs.declared.crashing.Crashed.{Crashed}
use Rattle.pac_index.specs.declared.shared.Shared.{Shared}
use Rattle.pac_index.specs.Kept.{index_of, placed_by, Begins, opening_weight}
use Rattle.pac_index.specs.Callers.{added_by_all, seen_by}

-- What a caller tells of a call that was cut off.
abbrev pub cut_of : Caller → Option CutCall
cut_of c = c.cut

-- The change of a call that was cut off, where it has no place: a crash may find it.
abbrev pub change_in_flight : Option CutCall → List Change
change_in_flight None = []
change_in_flight (Some cut) = unplaced cut.place (change_of (op_of cut.call))

-- Those of all callers, in their order.
abbrev pub changes_in_flight : List (Option CutCall) → List Change
changes_in_flight [] = []
changes_in_flight (cut ∷ cuts) = change_in_flight cut ++ changes_in_flight cuts

-- One for a put, which may have added its name.
abbrev pub one_put : NameOp → ℕ
one_put (op.Put name value) = 1
one_put (op.Get name) = 0
one_put (op.Del name) = 0

abbrev pub put_in_flight : Option CutCall → ℕ
put_in_flight None = 0
put_in_flight (Some cut) = one_put (op_of cut.call)

-- How many puts were cut off behind a step.
abbrev pub puts_in_flight : List (Option CutCall) → ℕ
puts_in_flight [] = 0
puts_in_flight (cut ∷ cuts) = put_in_flight cut + puts_in_flight cuts

abbrev pub state_of : Caller → PartyState
state_of c = (seen_by c).state

-- The image has the durable words of a row once those that the seed chooses are durable. With the callers' parties,
-- whatever they have in flight, and a history that row was an index.
pub record IsCrashOf (s : Shared) (callers : List Caller) (seed : ℕ) (image : Row) : Type 0 where
  pub words : List ℕ
  pub history : List Write
  pub index : IsIndex (index_of s.about words (map state_of callers) history)
  pub leaves : image ≡ record {
    layout = s.about.layout;
    words = durable_row s.about.layout (evicted_by s.about.layout seed (image_words s.about.layout) words);
  }

-- What each caller tells was cut off, and an image that is sound by all rules, of the same layout and generation. Its
-- map is the one after a history and after the changes cut off without a place that are found in it. That history
-- begins with what each caller has seen, and has of each just the writes that it has seen itself place, each once and
-- in this order.
pub record CrashMeeting (s : Shared) (callers : List Caller) (crashed : Crashed) : Type 0 where
  pub cuts : crashed.cuts.items ≡ map cut_of callers
  pub history : List Write
  pub seen : (i : ℕ) (c : Caller) → get_elem? callers i ≡ some c → Begins (seen_by c).seen history
  pub own : (i : ℕ) (c : Caller) → get_elem? callers i ≡ some c → placed_by i history ≡ placed_by i (seen_by c).seen
  pub writers : (place : ℕ) (w : Write) → slice_get history place ≡ Some w → w.caller < length callers
  pub layout : crashed.image.layout ≡ s.about.layout
  pub generation : header_generation crashed.image.layout crashed.image.words ≡ s.about.generation
  pub sound : IsSoundByAll crashed.image.layout crashed.image.words
  pub end : Map
  pub keeps : IsMapOf crashed.image.layout crashed.image.words end
  pub ends : IsCrashEnd (after_all (map_of s.about.base) history) (changes_in_flight crashed.cuts.items) end
  -- it weighs no more than as the index was opened, the puts that added a name, and those that were cut off
  pub weighs : image_weight crashed.image.layout crashed.image.words ≤
      opening_weight s.about + added_by_all callers + puts_in_flight crashed.cuts.items
  -- and where a caller has found no node FREE, that is at least half of all slots
  pub full : (i : ℕ) (c : Caller) → get_elem? callers i ≡ some c → (seen_by c).none_free ≡ true →
      s.about.layout.nodes * (s.about.layout.slots / 2) ≤
      opening_weight s.about + added_by_all callers + puts_in_flight crashed.cuts.items
