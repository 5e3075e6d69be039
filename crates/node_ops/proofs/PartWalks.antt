-- A part looks its low name up no further than to the end of the walk.
use Rattle.std.proofs.Common.{◌≡◌, ℕ, ◌+◌, ◌*◌, ◌<◌, Option, None, subst, sym, arith}
use Rattle.pm_words.specs.declared.machine.Turn.{Turn}
use Rattle.pm_words.specs.declared.machine.Turn.TheVariants.{Go, Done}
use Rattle.tree_floor.specs.declared.floor.Floor.{Floor}
use Rattle.tree_floor.specs.Floors.{floor_turned}
use Rattle.data_list.specs.declared.target.Walked.{Walked}
use Rattle.data_list.specs.declared.target.Walked.TheVariants as walked
use Rattle.data_list.specs.declared.target.Sighting.{Sighting}
use Rattle.data_list.specs.declared.walk.Walk.{Walk}
use Rattle.data_list.specs.Walks.{walk_turned}
use Rattle.node_ops.specs.declared.call.Call.{Call}
use Rattle.node_ops.specs.declared.lookup.Looked.{Looked}
use Rattle.node_ops.specs.declared.lookup.Looked.TheVariants as looked
use Rattle.node_ops.specs.declared.lookup.Lookup.{Lookup}
use Rattle.node_ops.specs.declared.lookup.LookupAt.{LookupAt}
use Rattle.node_ops.specs.declared.lookup.LookupAt.TheVariants as look
use Rattle.node_ops.specs.LookupSteps.{came_by, floored, walked_on, lookup_at_left, lookup_at_turned}
use Rattle.node_ops.specs.PartSteps.{IsWalkingAt}

-- it walks still, or its walk has just ended
abbrev pub IsOnWay : LookupAt → Type 0
IsOnWay (look.Floor floor) = Unit {0}
IsOnWay (look.Walk walk) = Unit {0}
IsOnWay (look.Read seen) = Unit {0}
IsOnWay _ = ⊥

abbrev pub WalksOn : Turn Lookup Looked → Type 0
WalksOn (Go lookup) = IsOnWay lookup.at
WalksOn (Done (looked.Early answer)) = Unit {0}
WalksOn (Done (looked.Found found)) = ⊥

-- what holds of each of these holds as long as it is on its way
pub on_way_is : (P : LookupAt → Type 0) → ((floor : Floor) → P (look.Floor floor)) → ((walk : Walk) → P (look.Walk walk)) → ((seen : Sighting) → P (look.Read seen))
    → (at : LookupAt) → IsOnWay at → P at
on_way_is P floors walks reads (look.Floor floor) way = floors floor
on_way_is P floors walks reads (look.Walk walk) way = walks walk
on_way_is P floors walks reads (look.Read seen) way = reads seen
on_way_is P floors walks reads (look.Lock seen locked) way = absurd way
on_way_is P floors walks reads (look.Clock locked) way = absurd way
on_way_is P floors walks reads (look.Spent hold) way = absurd way
on_way_is P floors walks reads (look.Bitmap hold) way = absurd way
on_way_is P floors walks reads (look.Prints hold bitmap prints k) way = absurd way
on_way_is P floors walks reads (look.Name hold directory left slot k) way = absurd way
on_way_is P floors walks reads (look.Value hold directory slot) way = absurd way

floors_on : (call : Call) (turn : Turn Floor ℕ) → WalksOn (floored call turn)
floors_on call (Go floor) = tt
floors_on call (Done node) = tt

steps_on : (call : Call) (turn : Turn Walk Walked) → call.limit ≡ None → WalksOn (walked_on call turn)
steps_on call (Go walk) read = tt
steps_on call (Done (walked.Again why)) read = tt
steps_on call (Done (walked.Target target)) read = subst (λ (o : Option ℕ). WalksOn (came_by o call target)) (sym read) tt

-- what holds of a look-up that walks, by its two walks
pub walking_is : (P : LookupAt → Type 0) → ((floor : Floor) → P (look.Floor floor)) → ((walk : Walk) → P (look.Walk walk))
    → (at : LookupAt) → IsWalkingAt at → P at
walking_is P floors walks (look.Floor floor) walking = floors floor
walking_is P floors walks (look.Walk walk) walking = walks walk
walking_is P floors walks (look.Read seen) walking = absurd walking
walking_is P floors walks (look.Lock seen locked) walking = absurd walking
walking_is P floors walks (look.Clock locked) walking = absurd walking
walking_is P floors walks (look.Spent hold) walking = absurd walking
walking_is P floors walks (look.Bitmap hold) walking = absurd walking
walking_is P floors walks (look.Prints hold bitmap prints k) walking = absurd walking
walking_is P floors walks (look.Name hold directory left slot k) walking = absurd walking
walking_is P floors walks (look.Value hold directory slot) walking = absurd walking

-- it has more left than one that has come to its node
pub walks_left : (call : Call) (at : LookupAt) → IsWalkingAt at → 3 * call.view.layout.slots + 11 < lookup_at_left call.view.layout.slots at
walks_left call at walking =
    walking_is (λ (a : LookupAt). 3 * call.view.layout.slots + 11 < lookup_at_left call.view.layout.slots a) (λ floor. omega arith)
    (λ walk. omega arith) at walking

pub walks_on : (call : Call) (at : LookupAt) (x : ℕ) → call.limit ≡ None → IsWalkingAt at → WalksOn (lookup_at_turned call at x)
walks_on call at x read walking =
    walking_is (λ (a : LookupAt). WalksOn (lookup_at_turned call a x)) (λ floor. floors_on call (floor_turned floor x))
    (λ walk. steps_on call (walk_turned walk x) read) at walking
