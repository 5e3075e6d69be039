-- A get and a part of a scan are never answered that their node is worn.
use Rattle.std.proofs.Common.{◌≡◌, ◌==◌, ℕ, List, true, false, cond, arith}
use Rattle.std.specs.Prelude.{Option, Some, None}
use Rattle.pm_words.specs.declared.again.Again.TheVariants as again
use Rattle.pm_words.specs.declared.machine.Turn.{Turn}
use Rattle.pm_words.specs.declared.machine.Turn.TheVariants.{Go, Done}
use Rattle.cat_history.specs.Records.{change_of}
use Rattle.call_stages.specs.declared.once.Once.{Once}
use Rattle.call_stages.specs.declared.once.Once.TheVariants as once
use Rattle.call_stages.specs.declared.once.Placed.{Placed}
use Rattle.data_list.specs.declared.target.Target.{Target}
use Rattle.data_list.specs.declared.target.Walked.{Walked}
use Rattle.data_list.specs.declared.target.Walked.TheVariants as walked
use Rattle.data_list.specs.declared.walk.Walk.{Walk}
use Rattle.data_list.specs.Walks.{sighting_of, walk_turned}
use Rattle.permutation.specs.declared.load.LoadPermutation.{LoadPermutation}
use Rattle.permutation.specs.Loads.{load_turned}
use Rattle.tree_floor.specs.declared.floor.Floor.{Floor}
use Rattle.tree_floor.specs.Floors.{floor_turned}
use Rattle.version_lock.specs.Versions.{is_worn_word, kept_count, locked_word}
use Rattle.node_ops.specs.declared.call.Call.{Call}
use Rattle.node_ops.specs.declared.del.Del.{Del}
use Rattle.node_ops.specs.declared.del.Del.TheVariants as del
use Rattle.node_ops.specs.declared.single_del.SingleDel.TheVariants as single_del
use Rattle.node_ops.specs.declared.finish.Finish.{Finish}
use Rattle.node_ops.specs.declared.get.Get.{Get}
use Rattle.node_ops.specs.declared.get.Get.TheVariants.{Looking, Checking}
use Rattle.node_ops.specs.declared.lookup.Directory.{Directory}
use Rattle.node_ops.specs.declared.lookup.Hold.{Hold}
use Rattle.node_ops.specs.declared.lookup.Looked.{Looked}
use Rattle.node_ops.specs.declared.lookup.Looked.TheVariants as looked
use Rattle.node_ops.specs.declared.lookup.Lookup.{Lookup}
use Rattle.node_ops.specs.declared.lookup.LookupAt.{LookupAt}
use Rattle.node_ops.specs.declared.lookup.LookupAt.TheVariants as look
use Rattle.node_ops.specs.declared.part.Part.{Part}
use Rattle.node_ops.specs.declared.part.Part.TheVariants as part
use Rattle.node_ops.specs.declared.part.PartWords.{PartWords}
use Rattle.node_ops.specs.declared.part.Reading.{Reading}
use Rattle.node_ops.specs.declared.part.ReadingAt.{ReadingAt}
use Rattle.node_ops.specs.declared.part.ReadingAt.TheVariants as reading_at
use Rattle.node_ops.specs.declared.put.Put.{Put}
use Rattle.node_ops.specs.declared.put.Put.TheVariants as put
use Rattle.node_ops.specs.declared.single_put.SinglePut.TheVariants as single_put
use Rattle.node_ops.specs.declared.running.Running.{Running}
use Rattle.node_ops.specs.declared.running.Running.TheVariants.{Getting, Putting, Deleting, Parting}
use Rattle.node_ops.specs.Asked.{del_op, op_in, op_of_finish, put_op}
use Rattle.node_ops.specs.Calls.{at_node}
use Rattle.node_ops.specs.CallStages.{reply_of}
use Rattle.node_ops.specs.GetSteps.{IsGet, get_looked, get_turned}
use Rattle.node_ops.specs.LookupSteps.{came_by, candidate_turned, ends, floored, goes_to, is_spent, lookup_at_turned}
use Rattle.node_ops.specs.LookupSteps.{lookup_turned, walked_on}
use Rattle.node_ops.specs.PartSteps.{IsPart, early_of, ordering_turned, part_held, part_looked}
use Rattle.node_ops.specs.PartSteps.{part_turned, part_words, placed_of, placed_turn, reading_turned}
use Rattle.node_ops.specs.RunningSteps.{IsRunning, running_turned, wrapped}
use Rattle.index_core.specs.Answers.{WornIfWrites}

abbrev IsUnworn : Once Placed → Type 0
IsUnworn (once.Worn node word) = ⊥
IsUnworn _ = Unit {0}

abbrev EndsUnworn : {M : Type 0} → Turn M (Once Placed) → Type 0
EndsUnworn (Go machine) = Unit {0}
EndsUnworn (Done answer) = IsUnworn answer

-- so a look-up without a limit
abbrev LooksUnworn : Option ℕ → Turn Lookup Looked → Type 0
LooksUnworn limit (Go lookup) = Unit {0}
LooksUnworn limit (Done (looked.Early answer)) = limit ≡ None → IsUnworn answer
LooksUnworn limit (Done (looked.Found found)) = Unit {0}

module _ (c : Call) where
  abbrev Ends : Turn Lookup Looked → Type 0
  Ends = LooksUnworn c.limit

  came_at : (target : Target) (limit : Option ℕ) → LooksUnworn limit (came_by limit c target)
  came_at target None = tt
  came_at target (Some most) =
      let g = c.view.generation in
      let lock = look.Lock (sighting_of target) (locked_word g (kept_count target.version g)) in
      elim (is_worn_word target.version g) as (λ b. LooksUnworn (Some most)
      (cond b (ends (once.Worn target.node target.version)) (goes_to (at_node c target.node target.hops) lock))) [
        | true ↦ λ none. absurd cc
        | false ↦ tt
      ]

  floored_so : (turn : Turn Floor ℕ) → Ends (floored c turn)
  floored_so (Go floor) = tt
  floored_so (Done node) = tt

  walked_so : (turn : Turn Walk Walked) → Ends (walked_on c turn)
  walked_so (Go next) = tt
  walked_so (Done (walked.Again why)) = λ none. tt
  walked_so (Done (walked.Target target)) = came_at target c.limit

  compared : (hold : Hold) (directory : Directory) (left : ℕ) (slot : Option ℕ)
      → Ends (candidate_turned c hold directory left slot)
  compared hold directory left None = tt
  compared hold directory left (Some slot) = tt

  looks_unworn : (at : LookupAt) (x : ℕ) → Ends (lookup_at_turned c at x)
  looks_unworn (look.Floor floor) x = floored_so (floor_turned floor x)
  looks_unworn (look.Walk walk) x = walked_so (walk_turned walk x)
  looks_unworn (look.Read seen) x = tt
  looks_unworn (look.Lock seen locked) x =
      let moved : Once Placed = once.Again (again.Moved c.node seen.version x) in
      elim (x == seen.version) as (λ b. Ends (cond b (goes_to c (look.Clock locked)) (ends moved))) [
        | true ↦ tt
        | false ↦ λ none. tt
      ]
  looks_unworn (look.Clock locked) x =
      let hold : Hold = record { locked = locked; clock = x } in
      elim (is_spent c.limit x) as (λ b. Ends (cond b (goes_to c (look.Spent hold)) (goes_to c (look.Bitmap hold)))) [
        | true ↦ tt
        | false ↦ tt
      ]
  looks_unworn (look.Spent hold) x = λ none. tt
  looks_unworn (look.Bitmap hold) x = tt
  looks_unworn (look.Prints hold bitmap prints k) x = grind (arith, compared)
  looks_unworn (look.Name hold directory left slot k) x = grind (arith, compared)
  looks_unworn (look.Value hold directory slot) x = tt

get_unworn : (get : Get) (x : ℕ) → IsGet get → EndsUnworn (get_turned get x)
get_unworn (Looking lookup) x is = at (lookup_turned lookup x) (looks_unworn lookup.call lookup.at x)
  where
    at : (turn : Turn Lookup Looked) → LooksUnworn lookup.call.limit turn → EndsUnworn (get_looked lookup.call turn)
    at (Go next) looks = tt
    at (Done (looked.Early answer)) looks = looks is.1
    at (Done (looked.Found found)) looks = tt
get_unworn (Checking c hold old) x is =
    let done : Once Placed = once.Done (record { old = old; place = hold.clock; hops = c.hops }) in
    let moved : Once Placed = once.Again (again.Moved c.node hold.locked x) in
    elim (x == hold.locked) as (λ b. IsUnworn (cond b done moved)) [ true ↦ tt | false ↦ tt ]

early_unworn : (answer : Once Placed) → IsUnworn answer → IsUnworn (placed_of (early_of answer))
early_unworn (once.Done placed) unworn = tt
early_unworn (once.Spent clock) unworn = tt
early_unworn (once.Worn node word) unworn = unworn
early_unworn (once.Again why) unworn = tt

reading_unworn : (reading : Reading) (at : ReadingAt) (x : ℕ) → EndsUnworn (placed_turn (reading_turned reading at x))
reading_unworn reading reading_at.Clock x = tt
reading_unworn reading reading_at.Bitmap x = tt
reading_unworn reading (reading_at.Load slot word) x = tt
reading_unworn reading reading_at.Check x =
    let done : Once PartWords = once.Done (part_words reading) in
    let moved : Once PartWords = once.Again (again.Moved reading.call.node reading.hold.locked x) in
    elim (x == reading.hold.locked) as (λ b. IsUnworn (placed_of (cond b done moved))) [ true ↦ tt | false ↦ tt ]
reading_unworn reading (reading_at.Store store) x = tt
reading_unworn reading reading_at.Unlock x = tt

part_unworn : (p : Part) (x : ℕ) → IsPart p → EndsUnworn (placed_turn (part_turned p x))
part_unworn (part.Looking lookup count) x is = at (lookup_turned lookup x) (looks_unworn lookup.call lookup.at x)
  where
    at : (turn : Turn Lookup Looked) → LooksUnworn lookup.call.limit turn
        → EndsUnworn (placed_turn (part_looked count turn))
    at (Go next) looks = tt
    at (Done (looked.Early answer)) looks = early_unworn answer (looks is.1)
    at (Done (looked.Found found)) looks = tt
part_unworn (part.Ordering c seen count load) x is = ordered (load_turned load x)
  where
    ordered : (turn : Turn LoadPermutation (Option (List ℕ)))
        → EndsUnworn (placed_turn (ordering_turned c seen count turn))
    ordered (Go next) = tt
    ordered (Done order) = tt
part_unworn (part.Locking c seen count locked) x is =
    let held : Turn Part (Once PartWords) = Go (part_held c seen count locked) in
    let moved : Turn Part (Once PartWords) = Done (once.Again (again.Moved c.node seen.version x)) in
    elim (x == seen.version) as (λ b. EndsUnworn (placed_turn (cond b held moved))) [ true ↦ tt | false ↦ tt ]
part_unworn (part.Dating c seen count way) x is = tt
part_unworn (part.Reading reading) x is = reading_unworn reading reading.at x

wrapped_unworn : {M : Type 0} (wrap : M → Running) (turn : Turn M (Once Placed)) → EndsUnworn turn
    → EndsUnworn (wrapped wrap turn)
wrapped_unworn wrap (Go machine) unworn = tt
wrapped_unworn wrap (Done answer) unworn = unworn

-- a put or a delete writes
finish_writes : (finish : Finish) (new : Option ℕ) → change_of (op_of_finish finish new) ≡ None → ⊥
finish_writes finish None none = cc
finish_writes finish (Some value) none = cc

put_writes : (m : Put) → change_of (put_op m) ≡ None → ⊥
put_writes (put.Single (single_put.Looking lookup value)) none = cc
put_writes (put.Single (single_put.Filling fill)) none = cc
put_writes (put.Single (single_put.Replacing c hold bitmap hit value)) none = cc
put_writes (put.Single (single_put.Finishing finish)) none = finish_writes finish finish.new none
put_writes (put.Splitting c hold bitmap value split) none = cc

del_writes : (m : Del) → change_of (del_op m) ≡ None → ⊥
del_writes (del.Single (single_del.Looking lookup)) none = cc
del_writes (del.Single (single_del.Next c hold bitmap hit)) none = cc
del_writes (del.Single (single_del.Taking c hold bitmap hit take)) none = cc
del_writes (del.Single (single_del.Refusing c hold bitmap hit)) none = cc
del_writes (del.Single (single_del.Clearing c hold bitmap hit line)) none = cc
del_writes (del.Single (single_del.Finishing finish line)) none = finish_writes finish finish.new none
del_writes (del.Merging c hold old place merge) none = cc

reads_unworn : (m : Running) (x : ℕ) → IsRunning m → change_of (op_in m) ≡ None → EndsUnworn (running_turned m x)
reads_unworn (Getting get) x is none = wrapped_unworn (λ (m : Get). Getting m) (get_turned get x) (get_unworn get x is)
reads_unworn (Putting m) x is none = absurd (put_writes m none)
reads_unworn (Deleting m) x is none = absurd (del_writes m none)
reads_unworn (Parting p) x is none =
    wrapped_unworn (λ (m : Part). Parting m) (placed_turn (part_turned p x)) (part_unworn p x is)

-- so only these are answered that their node is worn
pub worn_if_writes : (m : Running) (x : ℕ) → IsRunning m → WornIfWrites (op_in m) (reply_of (running_turned m x))
worn_if_writes m x is = at (running_turned m x) (reads_unworn m x is)
  where
    at : (turn : Turn Running (Once Placed)) → (change_of (op_in m) ≡ None → EndsUnworn turn)
        → WornIfWrites (op_in m) (reply_of turn)
    at (Go next) unworn = tt
    at (Done (once.Done placed)) unworn = tt
    at (Done (once.Spent clock)) unworn = tt
    at (Done (once.Worn node word)) unworn = unworn
    at (Done (once.Again why)) unworn = tt
