-- What a recheck tells: that what a part told of its node is so still.
use Rattle.std.specs.Prelude.{◌≡◌, ◌≢◌, ℕ, ◌<◌, ◌≤◌, ◌⊎◌, Bool, List, length, take, Option}
use mathlib.Core.Option.{some}
use lib.ListN.{get_elem?}
use Rattle.cat_key.specs.Names.{IsName}
use Rattle.cat_history.specs.Maps.{Map}
use Rattle.cat_history.specs.Scans.{range}
use Rattle.cat_history.specs.Writes.{after}
use Rattle.cat_history.specs.declared.op.Write.{Write}
use Rattle.pm_words.specs.declared.action.Action.{Action}
use Rattle.pm_words.specs.declared.again.Again.TheVariants.{Moved}
use Rattle.pm_words.specs.declared.layout.Layout.{Layout}
use Rattle.pm_words.specs.declared.machine.Turn.TheVariants.{Go, Done}
use Rattle.pm_words.specs.Rows.{got}
use Rattle.call_stages.specs.declared.once.Once.{Once}
use Rattle.call_stages.specs.declared.once.Once.TheVariants as once
use Rattle.call_stages.specs.declared.once.Placed.{Placed}
use Rattle.call_stages.specs.AnySteps.{AnyStep}
use Rattle.call_stages.specs.Stages.{Stage, Idle}
use Rattle.index_law.specs.Facts.{Facts}
use Rattle.index_law.specs.Lawful.{HasNames, Lawful}
use Rattle.index_law.specs.Standing.{StandsSince}
use Rattle.index_law.specs.Worlds.{Party, World, facts, stepped}
use Rattle.node_ops.specs.declared.part.Part.{Part}
use Rattle.node_ops.specs.declared.part.PartWords.{PartWords}
use Rattle.node_ops.specs.declared.recheck.Recheck.{Recheck}
use Rattle.node_ops.specs.declared.recheck.Recheck.TheVariants.{Dating, Checking}
use Rattle.node_ops.specs.declared.recheck.Same.{Same}
use Rattle.node_ops.specs.declared.running.Running.TheVariants.{Parting}
use Rattle.node_ops.specs.Calls.{name_in}
use Rattle.node_ops.specs.CallStages.{part_stage}
use Rattle.node_ops.specs.Parts.{EndsAt, HaveWords, IsPartOf, Relies, pairs_in, pairs_of}
use Rattle.node_ops.specs.PartSteps.{part_asks, part_call, part_count, part_turned}
use Rattle.node_ops.specs.RecheckSteps.{IsRecheck, recheck_asks, recheck_node, recheck_turned, recheck_version}
use Rattle.node_ops.specs.RecheckSteps.{recheck_view}
use Rattle.node_ops.specs.RunningSteps.{Sound}

-- A part that a call was answered: of names from this one on, so many at most.
pub record KnownPart : Type 0 where
  pub low : List ℕ
  pub count : ℕ
  pub words : PartWords

-- What is known of it: of its node's range it lists what the map had at its place; and while the node's version word is
-- the one that it tells, the map on that range has been the same since.
pub record IsKnown (l : Layout) (g : ℕ) (f : Facts) (k : KnownPart) : Type 0 where
  pub bounds : List ℕ → Bool
  pub named : IsName k.low
  pub ends : EndsAt bounds k.low k.words.high
  pub within : k.words.place ≤ length f.history
  pub part : IsPartOf (after f.base f.history k.words.place) bounds k.low k.count k.words
  pub fit : length (pairs_in (after f.base f.history k.words.place) bounds) ≤ l.slots
  pub stands : StandsSince l g f bounds k.words.node k.words.version k.words.place

-- So it is known of a part as it is done, after the action that gives its node's version word.
abbrev pub PartsAreKnown : Type 0
PartsAreKnown = (w : World) (i : ℕ) (party : Party) (p : Part) (x : ℕ) (words : PartWords) → Lawful w →
    HaveWords (facts w) → get_elem? w.parties i ≡ some party → party.stage ≡ part_stage p →
    Sound w.layout w.generation (Parting p) → x ≡ got w.layout w.words (part_asks p) →
    Relies w.layout (facts w) w.words (Parting p) → part_turned p x ≡ Done (once.Done words) →
    IsKnown w.layout w.generation (facts (stepped w i party (part_asks p) Idle))
    (record { low = name_in (part_call p); count = part_count p; words = words })

-- It sorted no more names than a node has slots.
abbrev pub PartsAreFew : Type 0
PartsAreFew = (l : Layout) (g : ℕ) (p : Part) (x : ℕ) (words : PartWords) → Sound l g (Parting p) →
    part_turned p x ≡ Done (once.Done words) → words.compared ≤ l.slots

-- A step of any party keeps what is known,
abbrev pub KnownIsKept : Type 0
KnownIsKept = (w : World) (i : ℕ) (p : Party) (action : Action) (x : ℕ) (next : Stage)
    (answer : Option (Once Placed)) (k : KnownPart) → Lawful w → get_elem? w.parties i ≡ some p →
    AnyStep w.layout w.generation p.stage action x next answer → x ≡ got w.layout w.words action →
    IsKnown w.layout w.generation (facts w) k →
    IsKnown w.layout w.generation (facts (stepped w i p action next)) k

-- and so does what changes no more than statuses, as a step of a turn.
abbrev pub StatusesLeaveKnown : Type 0
StatusesLeaveKnown = (l : Layout) (g : ℕ) (f f' : Facts) (k : KnownPart) →
    f' ≡ record f { status = f'.status } → IsKnown l g f k → IsKnown l g f' k

-- What a recheck relies on, that began at this place: once it has loaded the clock, that lies between the place and the
-- end of the history.
abbrev pub RecheckSure : ℕ → List Write → Recheck → Type 0
RecheckSure since history (Dating view node version) = since ≤ length history
RecheckSure since history (Checking view node version clock) = (since ≤ clock) × (clock ≤ length history)

-- The number that its action gives: how long the history is, and then its node's version word.
abbrev pub RecheckTold : Facts → Recheck → ℕ → Type 0
RecheckTold f (Dating view node version) x = x ≡ length f.history
RecheckTold f (Checking view node version clock) x = x ≡ f.version node

-- So it is in a lawful index.
abbrev pub RechecksAreTold : Type 0
RechecksAreTold = (w : World) (r : Recheck) → Lawful w → IsRecheck r → (recheck_view r).layout ≡ w.layout →
    RecheckTold (facts w) r (got w.layout w.words (recheck_asks r))

-- It goes on with what it relies on, which a longer history leaves.
abbrev pub RechecksStaySure : Type 0
RechecksStaySure = (since : ℕ) (f : Facts) (r next : Recheck) (x : ℕ) → RecheckSure since f.history r →
    RecheckTold f r x → recheck_turned r x ≡ Go next → RecheckSure since f.history next

abbrev pub RechecksOutlast : Type 0
RechecksOutlast = (since : ℕ) (history longer : List Write) (r : Recheck) → length history ≤ length longer →
    RecheckSure since history r → RecheckSure since longer r

-- It is answered that all is the same, at a place since its begin, exactly where it finds the version word that it was
-- handed, and else that the node moved.
abbrev pub IsRechecked : ℕ → Facts → Recheck → Once Same → Type 0
IsRechecked since f r (once.Done same) = (f.version (recheck_node r) ≡ recheck_version r) × (since ≤ same.place) ×
    (same.place ≤ length f.history)
IsRechecked since f r (once.Again (Moved node first second)) = (node ≡ recheck_node r) ×
    (first ≡ recheck_version r) ×
    (second ≡ f.version (recheck_node r)) × (second ≢ first)
IsRechecked since f r _ = ⊥

abbrev pub RechecksTell : Type 0
RechecksTell = (since : ℕ) (f : Facts) (r : Recheck) (x : ℕ) (answer : Once Same) → RecheckSure since f.history r →
    RecheckTold f r x → recheck_turned r x ≡ Done answer → IsRechecked since f r answer

-- As many names were asked for as a node has slots, or as the part sorted, if it sorted any.
abbrev pub AsksForAll : ℕ → KnownPart → Type 0
AsksForAll slots k = (slots ≤ k.count) ⊎ ((0 < k.words.compared) × (k.words.compared ≤ k.count))

-- At each place from its own one to this one the part lists the first names of the map from its low one on, up to its
-- high one, with their numbers: as many as were asked for, and all of them where so many were asked for.
pub record IsSameAt (slots : ℕ) (base : Map) (history : List Write) (k : KnownPart) (place : ℕ) : Type 0 where
  pub lists : (between : ℕ) → k.words.place ≤ between → between ≤ place →
      pairs_of k.words ≡ take k.count (range (after base history between) k.low k.words.high)
  pub whole : AsksForAll slots k → (between : ℕ) → k.words.place ≤ between → between ≤ place →
      pairs_of k.words ≡ range (after base history between) k.low k.words.high

-- So it is with each known part of the node that tells the version word which the recheck was handed, if that is
-- answered that all is the same.
abbrev pub SameTells : Type 0
SameTells = (l : Layout) (g : ℕ) (f : Facts) (since : ℕ) (r : Recheck) (x : ℕ) (same : Same) (k : KnownPart) →
    RecheckSure since f.history r → RecheckTold f r x → recheck_turned r x ≡ Done (once.Done same) →
    IsKnown l g f k → k.words.node ≡ recheck_node r → k.words.version ≡ recheck_version r →
    ((place : ℕ) → HasNames (after f.base f.history place)) →
    IsSameAt l.slots f.base f.history k same.place
