-- What a turn leaves to be done.
use Rattle.std.proofs.Common.{◌≡◌, ℕ, ◌+◌, ◌-◌, ◌*◌, ◌/◌, ◌^◌, ◌<◌, ◌≤◌, ◌==◌, true, false, cond, ltb, Option, Some, None, get_or, inl, inr, refl, sym, subst, ap, ◌∙◌, arith}
use Rattle.std.specs.Int.{bit_at}
use Rattle.std.proofs.lemmas.Bool.{cases_lt, ltb-true}
use Rattle.pm_words.specs.declared.machine.Turn.{Turn}
use Rattle.pm_words.specs.declared.machine.Turn.TheVariants.{Go, Done}
use Rattle.pm_words.specs.Turns.{GoesBelow}
use Rattle.data_node.specs.Slots.{IsLive}
use Rattle.data_node.specs.Bits.{without_live, lowest_live}
use Rattle.data_node.proofs.BitLemmas.{lowest_live-some, without_live-same, without_live-other, without_live_below}
use Rattle.node_ops.specs.declared.call.Call.{Call}
use Rattle.node_ops.specs.declared.lookup.Hold.{Hold}
use Rattle.node_ops.specs.declared.lookup.Directory.{Directory}
use Rattle.node_ops.specs.declared.lookup.LookupAt.{LookupAt}
use Rattle.node_ops.specs.declared.lookup.LookupAt.TheVariants as look
use Rattle.node_ops.specs.declared.lookup.Lookup.{Lookup}
use Rattle.node_ops.specs.declared.lookup.Looked.{Looked}
use Rattle.call_stages.specs.declared.once.Once.{Once}
use Rattle.call_stages.specs.declared.once.Placed.{Placed}
use Rattle.node_ops.specs.declared.running.Running.{Running}
use Rattle.node_ops.specs.RunningSteps.{running_left}
use Rattle.call_stages.specs.declared.once.Once.TheVariants as once
use Rattle.version_lock.specs.Versions.{kept_count, locked_word, is_worn_word}
use Rattle.pm_words.specs.declared.layout.Layout.{Layout}
use Rattle.tree_floor.specs.declared.floor.Floor.{Floor}
use Rattle.tree_floor.specs.Floors.{FloorAfter, floor_left, floor_turned}
use Rattle.search_layer.proofs.FloorLemmas.{goes_on as floor_goes_on}
use Rattle.data_list.specs.declared.walk.Walk.{Walk}
use Rattle.data_list.specs.declared.target.Walked.{Walked}
use Rattle.data_list.specs.declared.target.Walked.TheVariants as walked
use Rattle.data_list.specs.Walks.{sighting_of, walk_left, walk_turned}
use Rattle.node_ops.specs.Calls.{at_node}
use Rattle.node_ops.specs.LookupSteps.{IsFlooring, floored, walked_on, came_by, ends, goes_to}
use Rattle.node_ops.specs.LookupSteps.{IsLookup, IsLookupAt, IsComparing, lookup_left, lookup_at_left, lookup_at_turned, saw_name, next_candidate, candidate_turned}
use Rattle.node_ops.specs.declared.lookup.Hit.{Hit}
use Rattle.node_ops.specs.declared.lookup.Found.{Found}
use Rattle.node_ops.specs.declared.del.Del.TheVariants as del
use Rattle.node_ops.specs.declared.single_del.SingleDel.TheVariants as single_del
use Rattle.node_ops.specs.DelSteps.{names_left, del_hit, del_found, del_left}
use Rattle.node_ops.proofs.LookupLaw.{floor_after}

-- the slot that is compared is one of the slots
pub comparing_within : (slots bitmap left slot : ℕ) → IsComparing slots bitmap left slot → slot < slots
comparing_within slots bitmap left slot comparing = (comparing.live slot (lowest_live-some left slot comparing.fits comparing.lowest).live).0

-- the next candidate is a higher slot
pub next_higher : (slots bitmap left slot next : ℕ) → slots ≤ 64 → IsComparing slots bitmap left slot → lowest_live (without_live left slot) ≡ Some next
    → IsLive left next × (slot < next)
next_higher slots bitmap left slot next limit comparing is =
    let lowest = lowest_live-some left slot comparing.fits comparing.lowest in
    let slot_small : slot < 64 = lowest.within in
    let then_lowest = lowest_live-some (without_live left slot) next (without_live_below 64 left slot comparing.fits) is in
    let next_small : next < 64 = then_lowest.within in
    let set : bit_at (without_live left slot) next ≡ 1 = then_lowest.live in
    let apart : next ≡ slot → ⊥ = λ e.
    let clear : bit_at (without_live left slot) next ≡ 0 = subst (λ n. bit_at (without_live left slot) n ≡ 0) (sym e) (without_live-same left slot slot_small) in
    omega arith in
    let live : bit_at left next ≡ 1 = sym (without_live-other left slot next slot_small next_small apart) ∙ set in (
      live,
      elim (cases_lt next slot) [
        | inl lower ↦ absurd (let clear : bit_at left next ≡ 0 = lowest.lowest next lower in omega arith)
        | inr higher ↦ omega arith
      ],
    )

-- the name's next word, or the next candidate
pub name_fewer : (call : Call) (hold : Hold) (directory : Directory) (left slot k word : ℕ) → call.view.layout.slots ≤ 64
    → IsComparing call.view.layout.slots directory.bitmap left slot → k < 3
    → GoesBelow {A = Looked} lookup_left (3 * (call.view.layout.slots - slot) + 1 - k) (saw_name call hold directory left slot k word)
name_fewer call hold directory left slot k word limit comparing small =
    let slots = call.view.layout.slots in
    let bound = 3 * (slots - slot) + 1 - k in
    let within : slot < slots = comparing_within slots directory.bitmap left slot comparing in
    elim (word == get_or call.name k 0) as (λ b. GoesBelow {A = Looked} lookup_left bound (cond b
    (cond (ltb (k + 1) 3) (Go (record { call = call; at = look.Name hold directory left slot (k + 1) })) (Go (record { call = call; at = look.Value hold directory slot })))
    (next_candidate call hold directory (without_live left slot)))) [
      | true ↦ elim (ltb (k + 1) 3) as (λ b. ltb (k + 1) 3 ≡ b → GoesBelow {A = Looked} lookup_left bound (cond b
          (Go (record { call = call; at = look.Name hold directory left slot (k + 1) })) (Go (record { call = call; at = look.Value hold directory slot })))) [
            | true ↦ λ is. let more : k + 1 < 3 = ltb-true _ _ is in omega arith
            | false ↦ λ is. omega arith
          ] refl
      | false ↦ elim (lowest_live (without_live left slot)) as (λ o. lowest_live (without_live left slot) ≡ o → GoesBelow {A = Looked} lookup_left bound (candidate_turned call hold directory (without_live left slot) o)) [
        | None ↦ λ is. tt
        | Some next ↦ λ is. let higher : slot < next = (next_higher slots directory.bitmap left slot next limit comparing is).1 in omega arith
      ] refl
    ]

pub name_goes_below : (call : Call) (at : LookupAt) (hold : Hold) (directory : Directory) (left slot k word : ℕ) (turn : Turn Lookup Looked) → at ≡ look.Name hold directory left slot k
    → turn ≡ saw_name call hold directory left slot k word → call.view.layout.slots ≤ 64 → IsComparing call.view.layout.slots directory.bitmap left slot → k < 3
    → GoesBelow {A = Looked} lookup_left (lookup_at_left call.view.layout.slots at) turn
name_goes_below call at hold directory left slot k word turn is turned limit comparing small =
    subst (λ (a : LookupAt). GoesBelow {A = Looked} lookup_left (lookup_at_left call.view.layout.slots a) turn) (sym is)
    (subst (GoesBelow {A = Looked} lookup_left (3 * (call.view.layout.slots - slot) + 1 - k)) (sym turned) (name_fewer call hold directory left slot k word limit comparing small))

-- the floor goes on, or has ended: the walk that begins there is shorter
floor_fewer : (call : Call) (floor : Floor) (x : ℕ) → IsFlooring call floor → x < 2 ^ 64
    → GoesBelow {A = Looked} lookup_left (lookup_at_left call.view.layout.slots (look.Floor floor)) (floored call (floor_turned floor x))
floor_fewer call floor x here fits = by (floor_turned floor x) (floor_after call floor x here fits)
  where
    nodes : floor.layout.nodes ≡ call.view.layout.nodes
    nodes = ap (λ (l : Layout). l.nodes) here.layout

    some_left : 0 < floor_left floor
    some_left = floor_goes_on floor here.sound

    by : (turn : Turn Floor ℕ) → FloorAfter call.view.layout call.name (floor_left floor) turn
        → GoesBelow {A = Looked} lookup_left (lookup_at_left call.view.layout.slots (look.Floor floor)) (floored call turn)
    by (Go next) after =
        let same : next.layout.nodes ≡ call.view.layout.nodes = ap (λ (l : Layout). l.nodes) after.1 in
        let less : floor_left next < floor_left floor = after.3 in
        omega (arith, nodes, same, less)
    by (Done node) after = omega (arith, nodes, some_left)

pub floor_goes_below : (call : Call) (at : LookupAt) (floor : Floor) (x : ℕ) → at ≡ look.Floor floor → IsLookupAt call at → x < 2 ^ 64
    → GoesBelow {A = Looked} lookup_left (lookup_at_left call.view.layout.slots at) (lookup_at_turned call at x)
floor_goes_below call at floor x is here fits =
    subst (λ (a : LookupAt). GoesBelow {A = Looked} lookup_left (lookup_at_left call.view.layout.slots a) (lookup_at_turned call a x)) (sym is)
    (floor_fewer call floor x (subst (IsLookupAt call) is here) fits)

-- it ends at a node of the layout
pub floor_ends_within : (call : Call) (at : LookupAt) (floor : Floor) (x node : ℕ) → at ≡ look.Floor floor → IsLookupAt call at → x < 2 ^ 64
    → floor_turned floor x ≡ Done node → node < call.view.layout.nodes
floor_ends_within call at floor x node is here fits ends_at =
    subst (FloorAfter call.view.layout call.name (floor_left floor)) ends_at (floor_after call floor x (subst (IsLookupAt call) is here) fits)

-- the walk goes on, or has ended
pub walk_fewer_by : (call : Call) (walk : Walk) (turn : Turn Walk Walked) → GoesBelow {A = Walked} walk_left (walk_left walk) turn
    → GoesBelow {A = Looked} lookup_left (walk_left walk + (3 * call.view.layout.slots + 13)) (walked_on call turn)
walk_fewer_by call walk (Go next) fewer = omega arith
walk_fewer_by call walk (Done (walked.Again why)) fewer = tt
walk_fewer_by call walk (Done (walked.Target target)) fewer = by call.limit
  where
    by : (limit : Option ℕ) → GoesBelow {A = Looked} lookup_left (walk_left walk + (3 * call.view.layout.slots + 13)) (came_by limit call target)
    by None = omega arith
    by (Some limit) =
        elim (is_worn_word target.version call.view.generation) as (λ b. GoesBelow {A = Looked} lookup_left (walk_left walk + (3 * call.view.layout.slots + 13)) (cond b
        (ends (once.Worn target.node target.version))
        (goes_to (at_node call target.node target.hops) (look.Lock (sighting_of target) (locked_word call.view.generation (kept_count target.version call.view.generation)))))) [
          | true ↦ tt
          | false ↦ omega arith
        ]

pub walk_goes_below : (call : Call) (at : LookupAt) (walk other : Walk) (x : ℕ) → at ≡ look.Walk walk → at ≡ look.Walk other → GoesBelow {A = Walked} walk_left (walk_left walk) (walk_turned walk x)
    → GoesBelow {A = Looked} lookup_left (lookup_at_left call.view.layout.slots at) (walked_on call (walk_turned other x))
walk_goes_below call at walk other x is same fewer =
    subst (λ (a : LookupAt). GoesBelow {A = Looked} lookup_left (lookup_at_left call.view.layout.slots at) (lookup_at_turned call a x)) same
    (subst (λ (a : LookupAt). GoesBelow {A = Looked} lookup_left (lookup_at_left call.view.layout.slots a) (lookup_at_turned call a x)) (sym is)
    (walk_fewer_by call walk (walk_turned walk x) fewer))

-- a look-up has an action left
pub lookup_left_some : (lookup : Lookup) → IsLookup lookup → 0 < lookup_left lookup
lookup_left_some lookup sound = at lookup.call lookup.at sound.here
  where
    at : (call : Call) (at : LookupAt) → IsLookupAt call at → 0 < lookup_at_left call.view.layout.slots at
    at call (look.Floor floor) sound = omega arith
    at call (look.Walk walk) sound = omega arith
    at call (look.Read seen) sound = omega arith
    at call (look.Lock target locked) sound = omega arith
    at call (look.Clock locked) sound = omega arith
    at call (look.Spent hold) sound = omega arith
    at call (look.Bitmap hold) sound = omega arith
    at call (look.Prints hold bitmap prints k) sound = let small : k < 8 = sound.2 in omega arith
    at call (look.Name hold directory left slot k) sound =
        let within : slot < call.view.layout.slots = comparing_within call.view.layout.slots directory.bitmap left slot sound.2 in let small : k < 3 = sound.3 in omega arith
    at call (look.Value hold directory slot) sound = omega arith

-- what a delete has left once its name is looked up
pub found_fewer : (call : Call) (found : Found) (more : ℕ) → del_left (del_found call found) < more + 30052
found_fewer call found more = at found.hit
  where
    at : (hit : Option Hit) → del_left (del_hit call found.hold found.directory.bitmap hit) < more + 30052
    at None = omega arith
    at (Some hit) =
        let bitmap = found.directory.bitmap in
        elim (ltb (call.view.layout.slots / 2) (names_left call bitmap hit)) as (λ b. del_left (cond b (del.Single (single_del.Clearing call found.hold bitmap hit None)) (del.Single (single_del.Next call found.hold bitmap hit))) < more + 30052) [
          | true ↦ omega arith
          | false ↦ omega arith
        ]

-- what is left after a turn: nothing once it is done
abbrev pub turn_left : Turn Running (Once Placed) → ℕ
turn_left (Go running) = running_left running + 1
turn_left (Done answer) = 0
