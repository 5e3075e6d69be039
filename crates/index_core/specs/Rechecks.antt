-- What is known in an index of parts that were answered, and what a recheck tells of them.
use Rattle.std.specs.Prelude.{◌≡◌, ℕ, ◌≤◌, List, ◌++◌, length, slice_set, Option, Some, IfSome}
use mathlib.Core.Option.{some}
use lib.ListN.{get_elem?}
use Rattle.cat_history.specs.Maps.{Map, map_of}
use Rattle.cat_history.specs.declared.op.Write.{Write}
use Rattle.pm_words.specs.Rows.{CanAct, acted, got}
use Rattle.pm_words.specs.declared.machine.Turn.{Turn}
use Rattle.pm_words.specs.declared.machine.Turn.TheVariants.{Go, Done}
use Rattle.pm_words.specs.Turns.{GoesBelow}
use Rattle.call_stages.specs.declared.once.Once.{Once}
use Rattle.call_stages.specs.declared.once.Once.TheVariants as once
use Rattle.index_law.specs.Facts.{version_in}
use Rattle.index_law.specs.Worlds.{facts}
use Rattle.node_ops.specs.declared.part.Part.{Part}
use Rattle.node_ops.specs.declared.part.PartWords.{PartWords}
use Rattle.node_ops.specs.declared.recheck.Recheck.{Recheck}
use Rattle.node_ops.specs.declared.recheck.Recheck.TheVariants.{Dating}
use Rattle.node_ops.specs.declared.recheck.Same.{Same}
use Rattle.node_ops.specs.declared.running.Running.{Running}
use Rattle.node_ops.specs.declared.running.Running.TheVariants.{Parting}
use Rattle.node_ops.specs.Calls.{name_in}
use Rattle.node_ops.specs.PartSteps.{part_call, part_count, part_turned}
use Rattle.node_ops.specs.RecheckSteps.{IsRecheck, recheck_asks, recheck_node, recheck_takes, recheck_turned}
use Rattle.node_ops.specs.RecheckSteps.{recheck_left, recheck_version, recheck_view}
use Rattle.node_ops.specs.Rechecks.{KnownPart, IsKnown, RecheckSure, IsRechecked, IsSameAt}
use Rattle.updater.specs.declared.making.MakeTurn.{MakeTurn}
use Rattle.index_core.specs.declared.party.PartyState.{PartyState}
use Rattle.index_core.specs.declared.party.Rechecking.{Rechecking}
use Rattle.index_core.specs.declared.party.Stepped.{Stepped}
use Rattle.index_core.specs.declared.party.Whole.{Whole}
use Rattle.index_core.specs.declared.party.Whole.TheVariants as whole
use Rattle.index_core.specs.PartyStates.{recheck_reply, recheck_stepped, state_rechecked}
use Rattle.index_core.specs.Indexes.{Index, IsIndex, world, told, stepped_index, view_of}
use Rattle.index_core.specs.Turns.{turned_index}

-- The part is known in the index. It reads the words, the base and the history alone.
abbrev pub Knows : Index → KnownPart → Type 0
Knows s k = IsKnown s.layout s.generation (facts (world s)) k

-- So is one that is done now, after its step,
abbrev pub PartsBecomeKnown : Type 0
PartsBecomeKnown = (s : Index) (party : ℕ) (state : PartyState) (p : Part) (words : PartWords) → IsIndex s →
    get_elem? s.states party ≡ some state → state.machine ≡ Some (Parting p) →
    part_turned p (told s (Parting p)) ≡ Done (once.Done words) →
    Knows (stepped_index s party state (Parting p) s.spare)
    (record { low = name_in (part_call p); count = part_count p; words = words })

-- and it stays so through each step of a party's call and each step of a party's turn.
abbrev pub StepsKeepKnown : Type 0
StepsKeepKnown = (s : Index) (party : ℕ) (state : PartyState) (machine : Running) (k : KnownPart) → IsIndex s →
    get_elem? s.states party ≡ some state → state.machine ≡ Some machine → Knows s k →
    Knows (stepped_index s party state machine s.spare) k

abbrev pub TurnsKeepKnown : Type 0
TurnsKeepKnown = (s : Index) (party : ℕ) (state : PartyState) (making : MakeTurn) (k : KnownPart) → IsIndex s →
    get_elem? s.states party ≡ some state → state.turn ≡ Some making → Knows s k →
    Knows (turned_index s party state making) k

-- The number that the recheck's action gives.
abbrev pub recheck_told : Index → Recheck → ℕ
recheck_told s r = got s.layout s.words (recheck_asks r)

-- It is a recheck of this index.
pub record IsRecheckOf (s : Index) (r : Recheck) : Type 0 where
  pub here : IsRecheck r
  pub layout : (recheck_view r).layout ≡ s.layout
  pub generation : (recheck_view r).generation ≡ s.generation

-- Each of its actions can be done, gives a number that it takes, and leaves the words as they are.
pub record RecheckActs (s : Index) (r : Recheck) : Type 0 where
  pub can : CanAct s.layout s.words (recheck_asks r)
  pub takes : recheck_takes r (recheck_told s r)
  pub leaves : acted s.layout s.words (recheck_asks r) ≡ s.words

abbrev pub RechecksAct : Type 0
RechecksAct = (s : Index) (r : Recheck) → IsIndex s → IsRecheckOf s r → RecheckActs s r

-- One that began at this place goes on with a clock between that and the end of the history.
abbrev pub RechecksGoOn : Type 0
RechecksGoOn = (s : Index) (since : ℕ) (r next : Recheck) → IsIndex s → IsRecheckOf s r →
    RecheckSure since s.history r → recheck_turned r (recheck_told s r) ≡ Go next → RecheckSure since s.history next

-- It is answered exactly by whether it finds the version word that it was handed. If so, each known part that tells
-- this word of this node lists what the map has at each place from the part's on to the recheck's.
abbrev pub RechecksAreAnswered : Type 0
RechecksAreAnswered = (s : Index) (since : ℕ) (r : Recheck) (answer : Once Same) → IsIndex s → IsRecheckOf s r →
    RecheckSure since s.history r → recheck_turned r (recheck_told s r) ≡ Done answer →
    IsRechecked since (facts (world s)) r answer

abbrev pub SameTells : Type 0
SameTells = (s : Index) (since : ℕ) (r : Recheck) (same : Same) (k : KnownPart) → IsIndex s → IsRecheckOf s r →
    RecheckSure since s.history r → recheck_turned r (recheck_told s r) ≡ Done (once.Done same) → Knows s k →
    k.words.node ≡ recheck_node r → k.words.version ≡ recheck_version r →
    IsSameAt s.layout.slots (map_of s.base) s.history k same.place

-- Of the history it is enough to have what comes before the place, and what comes behind it changes nothing.
abbrev pub SameIsSoon : Type 0
SameIsSoon = (slots : ℕ) (base : Map) (seen more : List Write) (k : KnownPart) (place : ℕ) → place ≤ length seen →
    IsSameAt slots base (seen ++ more) k place → IsSameAt slots base seen k place

abbrev pub SameOutlasts : Type 0
SameOutlasts = (slots : ℕ) (base : Map) (seen more : List Write) (k : KnownPart) (place : ℕ) → place ≤ length seen →
    IsSameAt slots base seen k place → IsSameAt slots base (seen ++ more) k place

-- The index once the party has begun a recheck of this node, with this version word.
abbrev pub recheck_begun : Index → ℕ → PartyState → ℕ → ℕ → Index
recheck_begun s party state node version = record s {
  states = slice_set s.states party (record state {
    recheck = Some (record { since = length s.history; machine = Dating (view_of s party) node version });
  });
}

pub record StartsRecheck (old : Index) (party node version : ℕ) (new : Index) : Type 0 where
  pub state : PartyState
  pub there : get_elem? old.states party ≡ some state
  pub is : new ≡ recheck_begun old party state node version

-- The index once the party's recheck has done its action: it has changed no word.
abbrev pub rechecked_index : Index → ℕ → PartyState → Rechecking → Index
rechecked_index s party state r = record s {
  states = slice_set s.states party
      (state_rechecked state r.since (recheck_turned r.machine (recheck_told s r.machine)));
}

-- The same recheck.
pub record IsSameRecheck (r next : Recheck) : Type 0 where
  pub view : recheck_view next ≡ recheck_view r
  pub node : recheck_node next ≡ recheck_node r
  pub version : recheck_version next ≡ recheck_version r

-- It goes on as the same recheck, or ends.
abbrev pub GoesOnSame : Recheck → Turn Recheck (Once Same) → Type 0
GoesOnSame r (Go next) = IsSameRecheck r next
GoesOnSame r (Done answer) = Unit {0}

-- One step of the party's recheck, and its answer, if that ends it: that all is the same exactly where the node's
-- version word, loaded behind the clock, is the one that it was handed, at a place of its time; and else that the node
-- moved.
pub record RecheckSteps (old : Index) (party : ℕ) (new : Index) (result : Option (Once Same)) : Type 0 where
  pub state : PartyState
  pub rechecking : Rechecking
  pub there : get_elem? old.states party ≡ some state
  pub checks : state.recheck ≡ Some rechecking
  pub is : new ≡ rechecked_index old party state rechecking
  pub answers : result ≡ recheck_reply (recheck_turned rechecking.machine (recheck_told old rechecking.machine))
  pub same : GoesOnSame rechecking.machine (recheck_turned rechecking.machine (recheck_told old rechecking.machine))
  pub tells : IfSome result (IsRechecked rechecking.since (facts (world old)) rechecking.machine)
  -- it has fewer actions left
  pub fewer : GoesBelow recheck_left (recheck_left rechecking.machine)
      (recheck_turned rechecking.machine (recheck_told old rechecking.machine))

-- One step of the party's recheck, and what it comes to.
pub record RecheckStepsTo (old : Index) (party : ℕ) (new : Index) (result : Stepped) : Type 0 where
  pub answer : Option (Once Same)
  pub steps : RecheckSteps old party new answer
  pub comes_to : result ≡ recheck_stepped answer

-- What a whole recheck is answered.
abbrev pub same_whole : Same → Whole
same_whole same = whole.Same same.place

-- A recheck that is made with nothing else in flight: the node has the version word, its place is the length of the
-- history, and nothing has changed.
pub record RechecksAlone (old : Index) (node version : ℕ) (new : Index) (result : Whole) : Type 0 where
  pub version_is : version_in old.layout old.words node ≡ version
  pub answer : result ≡ whole.Same (length old.history)
  pub same : new ≡ old

-- A recheck of this party is cut off: it is in flight, and nothing else has changed.
pub record CutsRecheckOff (old : Index) (party node version : ℕ) (new : Index) : Type 0 where
  pub state : PartyState
  pub there : get_elem? old.states party ≡ some state
  pub recheck : Recheck
  pub node_is : recheck_node recheck ≡ node
  pub version_is : recheck_version recheck ≡ version
  pub is : new ≡ record old {
    states = slice_set old.states party (record state {
      recheck = Some (record { since = length old.history; machine = recheck });
    });
  }
