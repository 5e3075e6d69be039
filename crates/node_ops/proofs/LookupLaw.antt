-- Each turn of a look-up is a step of a kind. At its end the next step of the call may rely on what the name has.
use Rattle.std.proofs.Common.{◌≡◌, ℕ, zero, suc, ◌+◌, ◌<◌, ◌^◌, ◌≤◌, ◌==◌, Bool, true, false, cond, ltb, List, [], ◌∷◌, ◌++◌, Option, Some, None, IfSome, length, take, replicate, get_or, set, refl, sym, subst, ap, ◌∙◌, arith}
use Rattle.std.specs.Prelude.{IsSome}
use Rattle.std.specs.Int.{bit_at}
use Rattle.std.proofs.Math.ListN.{length-set}
use Rattle.std.proofs.lemmas.Bool.{eqb-true, eqb-false, ltb-false, leb-false}
use Rattle.std.proofs.lemmas.Nat.Bits.{bit_at-zero}
use Rattle.cat_key.specs.Names.{words_of}
use Rattle.cat_key.proofs.Packing.{length-words_of}
use Rattle.cat_history.specs.Maps.{Map, at}
use Rattle.cat_history.specs.Writes.{name_of}
use Rattle.cat_history.specs.declared.op.Change.{Change}
use Rattle.pm_words.specs.declared.action.Action.{Action}
use Rattle.pm_words.specs.declared.action.Action.TheVariants.{Load, Exchange}
use Rattle.pm_words.specs.declared.again.Again.TheVariants.{Moved}
use Rattle.pm_words.specs.declared.machine.Turn.{Turn}
use Rattle.pm_words.specs.declared.machine.Turn.TheVariants.{Go, Done}
use Rattle.pm_words.specs.Locations.{node_words, Word, Cached, address_of}
use Rattle.version_lock.specs.Versions.{kept_count, locked_word, is_worn_word}
use Rattle.data_node.specs.Slots.{IsLive}
use Rattle.data_node.specs.Bits.{without_live, lowest_live, candidate_bits}
use Rattle.pm_words.specs.declared.layout.Layout.{Layout}
use Rattle.pm_words.specs.Offsets.{version_offset, bitmap_offset, prints_offset, slot_offset, value_word}
use Rattle.data_node.specs.Lists.{three_words, key_of, IsBetween, number_of}
use Rattle.data_node.specs.Spots.{Spot, IsLiveIn, name_words, IsTidy, Means}
use Rattle.data_node.proofs.BitLemmas.{lowest_live-some, lowest_live-none, without_live-other}
use Rattle.data_node.proofs.SpotLemmas.{at_found, at_missing}
use Rattle.data_node.proofs.StoreLemmas.{candidates_cover}
use Rattle.call_stages.specs.declared.once.Once.TheVariants as once
use Rattle.call_stages.specs.Stages.{Known, Knows, Sight, Sees, Stage, Idle, Saw, Holds, Reads, just_held, pended, counted}
use Rattle.call_stages.specs.Kinds as kinds
use Rattle.call_stages.specs.Kinds.{reads_on, dates, notes}
use Rattle.call_stages.specs.Kinds.{HasWordAt, clock_address, Told, Step, looks, locks, unlocks, misses, times, learns, decides, is_spent}
use Rattle.data_list.specs.declared.target.Sighting.{Sighting}
use Rattle.data_list.specs.declared.target.Target.{Target}
use Rattle.data_list.specs.declared.target.Walked.{Walked}
use Rattle.data_list.specs.declared.target.Walked.TheVariants as walked
use Rattle.data_list.specs.declared.walk.Walk.{Walk}
use Rattle.data_list.specs.declared.walk.WalkAt.{WalkAt}
use Rattle.data_list.specs.declared.walk.WalkAt.TheVariants as walk_at
use Rattle.data_list.specs.Walks.{sighting_of, walk_from, walk_asks, walk_turned}
use Rattle.data_list.specs.WalkStages.{walk_at_watching, walk_watching, view_stage, walk_at_stage, walk_stage, live_sight, sight_in}
use Rattle.data_list.specs.Laws.{IsSighting, EndsAt, Walks, WalkViews}
use Rattle.data_list.proofs.WalkLaw.{walks_are_looks, walks_are_views}
use Rattle.tree_floor.specs.declared.floor.Floor.{Floor}
use Rattle.tree_floor.specs.Floors.{floor_asks, floor_turned, floor_left}
use Rattle.tree_floor.specs.Floors.{FloorAfter}
use Rattle.search_layer.specs.Floors.{LoadsLayer}
use Rattle.search_layer.proofs.FloorLemmas.{stays as floor_stays, only_loads as floor_only_loads}
use Rattle.call_stages.specs.AnySteps.{IsOfPermutation, volatile_address}
use Rattle.call_stages.specs.declared.once.Once.{Once}
use Rattle.call_stages.specs.declared.once.Placed.{Placed}
use Rattle.node_ops.specs.declared.call.Call.{Call}
use Rattle.node_ops.specs.declared.lookup.Hold.{Hold}
use Rattle.node_ops.specs.declared.lookup.Directory.{Directory}
use Rattle.node_ops.specs.declared.lookup.Hit.{Hit}
use Rattle.node_ops.specs.declared.lookup.Found.{Found}
use Rattle.node_ops.specs.declared.lookup.Looked.{Looked}
use Rattle.node_ops.specs.declared.lookup.Looked.TheVariants as looked
use Rattle.node_ops.specs.declared.lookup.LookupAt.{LookupAt}
use Rattle.node_ops.specs.declared.lookup.LookupAt.TheVariants as look
use Rattle.node_ops.specs.declared.lookup.Lookup.{Lookup}
use Rattle.node_ops.specs.Calls.{IsCall, name_in, call_address, at_node}
use Rattle.node_ops.specs.LookupSteps.{floored, came_by, walked_on, IsFlooring, IsWalking, is_spent as has_reached, value_of, goes_to, ends, finds, tried_lock, saw_clock, saw_prints, saw_name, saw_directory, next_candidate, candidate_turned, lookup_at_asks, lookup_at_turned, IsComparing, IsAtSeen, IsLookupAt}
use Rattle.node_ops.specs.CallStages.{words_from, nothing, knows, timed, decided, held_by, walk_by, at_hold, lookup_at_stage}
use Rattle.node_ops.proofs.SeenLemmas.{Seen, Stand, seen_append, seen_front, seen_back, stand_taken, taken_stand, stand_whole, whole_stand, stand_more, stand_set, name_stands}
use Rattle.layer_map.specs.Places.{IsLayerPlace}

-- what is known of the node once the name is looked up: the directory, and the name's words in the slot that has it
abbrev pub hit_words : Call → Option Hit → List (ℕ × ℕ)
hit_words call None = []
hit_words call (Some hit) = words_from (slot_offset hit.slot 0) call.name

abbrev pub found_known : Call → Found → Known
found_known call found = knows ((bitmap_offset, found.directory.bitmap) ∷ (words_from prints_offset found.directory.prints ++ hit_words call found.hit))

-- The step that ends the look-up of a write leads to each stage that relies on what was found: with the name's old
-- number, with a part of what is known, and with a change that the node shows already. That of a read leads to one that
-- relies on a part of what is known.
abbrev pub Writes_found : Call → Stage → Action → ℕ → Found → Type 0
Writes_found call stage action x found =
    (k : Known) (pending : Option Change) (ready : Bool) → IfSome pending (λ c. name_of c ≡ name_in call) →
    ((s : Spot) → Knows (name_in call) (found_known call found) s → Knows (name_in call) k s) →
    ((range : List ℕ → Bool) (s : Spot) (m : Map) → range (name_in call) ≡ true → at m (name_in call) ≡ value_of found.hit → Means call.view.layout.slots range s m
    → Means call.view.layout.slots range s (pended pending m)) →
    Step call.view.layout call.view.generation stage action x
    (Holds call.node found.hold.locked (record {
      name = name_in call;
      limit = call.limit;
      known = k;
      dirty = [];
      hand = None;
      time = Some found.hold.clock;
      old = Some (value_of found.hit);
      pending = pending;
      ready = ready;
      placed = None;
      merged = false;
    }))
    None

abbrev pub Reads_found : Sight → Call → Stage → Action → ℕ → Found → Type 0
Reads_found kept call stage action x found =
    (k : Known) → ((s : Spot) → Knows (name_in call) (found_known call found) s → Knows (name_in call) k s) →
    Step call.view.layout call.view.generation stage action x
    (Reads call.node found.hold.locked kept (Some (decided call found.hold (value_of found.hit) k))) None

abbrev pub Found_by : Option ℕ → Sight → Call → Stage → Action → ℕ → Found → Type 0
Found_by None kept call stage action x found = Reads_found kept call stage action x found
Found_by (Some limit) kept call stage action x found = Writes_found call stage action x found

abbrev pub Leads_found : Sight → Call → Stage → Action → ℕ → Found → Type 0
Leads_found kept call stage action x found = Found_by call.limit kept call stage action x found

-- that of a write
pub written_found : (limit : Option ℕ) (kept : Sight) (call : Call) (stage : Stage) (action : Action) (x : ℕ) (found : Found) → IsSome limit → Found_by limit kept call stage action x found
    → Writes_found call stage action x found
written_found None kept call stage action x found some leads = absurd (let no : false ≡ true = some in cc)
written_found (Some most) kept call stage action x found some leads = leads

-- A step on nodes; or one of a call that relies on nothing, which loads a word of the search layer; or a load of a
-- permutation.
pub data PlainStep (l : Layout) (g : ℕ) : Stage → Action → ℕ → Stage → Option (Once Placed) → Type 0 where
  steps : {stage next : Stage} {action : Action} {x : ℕ} {answer : Option (Once Placed)} → Step l g stage action x next answer → PlainStep l g stage action x next answer
  reads_layer : {w : Word} {x : ℕ} → IsLayerPlace l w → PlainStep l g Idle (Load (address_of l (Cached w))) x Idle None
  loads_permutation : {stage : Stage} {n offset x : ℕ} → counted stage ≡ None → n < l.nodes → IsOfPermutation offset → PlainStep l g stage (Load (volatile_address l n offset)) x stage None

-- the kind of step of a turn of a machine that has these stages, and may end its call
abbrev pub MachineLeads : {M : Type 0} → (M → Stage) → Call → Stage → Action → ℕ → Turn M (Once Placed) → Type 0
MachineLeads stage_in call stage action x (Go machine) = PlainStep call.view.layout call.view.generation stage action x (stage_in machine) None
MachineLeads stage_in call stage action x (Done answer) = Step call.view.layout call.view.generation stage action x Idle (Some answer)

-- and of a turn of a look-up
abbrev pub Leads : Sight → Call → Stage → Action → ℕ → Turn Lookup Looked → Type 0
Leads kept call stage action x (Go lookup) = PlainStep call.view.layout call.view.generation stage action x (lookup_at_stage kept lookup.call lookup.at) None
Leads kept call stage action x (Done (looked.Early answer)) = Step call.view.layout call.view.generation stage action x Idle (Some answer)
Leads kept call stage action x (Done (looked.Found found)) = Leads_found kept call stage action x found

below_limit : (limit : Option ℕ) (clock : ℕ) → has_reached limit clock ≡ false → IfSome limit (λ most. clock < most)
below_limit None clock is = tt
below_limit (Some limit) clock is = leb-false limit clock is

-- word k of a name
name_word : (s : Spot) (slot k : ℕ) → k < 3 → get_or (name_words s slot) k 0 ≡ s (slot_offset slot k)
name_word s slot zero small = refl
name_word s slot (suc zero) small = refl
name_word s slot (suc (suc zero)) small = refl
name_word s slot (suc (suc (suc k))) small = absurd (omega arith)

-- each turn of the floor loads a word of the search layer
floor_leads : (kept : Sight) (call : Call) (floor : Floor) (x : ℕ) → IsFlooring call floor → Leads kept call Idle (floor_asks floor) x (floored call (floor_turned floor x))
floor_leads kept call floor x here = at (floor_turned floor x)
  where
    asked : LoadsLayer floor.layout (floor_asks floor)
    asked = floor_only_loads floor here.sound

    reads : PlainStep call.view.layout call.view.generation Idle (floor_asks floor) x Idle None
    reads = subst (λ (l : Layout). PlainStep l call.view.generation Idle (floor_asks floor) x Idle None) here.layout
        (subst (λ (a : Action). PlainStep floor.layout call.view.generation Idle a x Idle None) (sym asked.loads) (reads_layer asked.place))

    starts_idle : (limit : Option ℕ) (walk : Walk) → walk.at ≡ walk_at.Version → walk_by limit walk ≡ Idle
    starts_idle None walk is = ap (λ (a : WalkAt). view_stage (walk_at_watching walk.node a)) is
    starts_idle (Some limit) walk is = ap (λ (a : WalkAt). walk_at_stage walk.generation walk.node a) is

    at : (turn : Turn Floor ℕ) → Leads kept call Idle (floor_asks floor) x (floored call turn)
    at (Go next) = reads
    at (Done node) = subst (λ (t : Stage). PlainStep call.view.layout call.view.generation Idle (floor_asks floor) x t None)
        (sym (starts_idle call.limit (walk_from call.view.layout call.view.generation node call.name) refl)) reads

-- where it ends, that is at a node of the layout
pub floor_after : (call : Call) (floor : Floor) (x : ℕ) → IsFlooring call floor → x < 2 ^ 64 → FloorAfter call.view.layout call.name (floor_left floor) (floor_turned floor x)
floor_after call floor x here fits = subst (λ (q : Layout × List ℕ). FloorAfter q.0 q.1 (floor_left floor) (floor_turned floor x)) (λ i. (here.layout i, here.key i)) (floor_stays floor x here.sound fits)

-- each turn of the walk, as the call's
pub own_walks : (call : Call) (walk : Walk) (x : ℕ) → IsWalking call walk → Told call.view.layout call.view.generation (walk_asks walk) x
    → Walks call.view.layout call.view.generation call.name (walk_stage walk) (walk_asks walk) x (walk_turned walk x)
own_walks call walk x here told =
    let at_generation = subst (λ (n : ℕ). Told call.view.layout n (walk_asks walk) x) (sym here.generation) told in
    let at_layout = subst (λ (l : Layout). Told l walk.generation (walk_asks walk) x) (sym here.layout) at_generation in
    subst (λ (q : Layout × (ℕ × List ℕ)). Walks q.0 q.1.0 q.1.1 (walk_stage walk) (walk_asks walk) x (walk_turned walk x)) (λ i. (here.layout i, (here.generation i, here.key i)))
    (walks_are_looks walk x here.sound at_layout)

-- as a read's
own_views : (call : Call) (walk : Walk) (x : ℕ) → IsWalking call walk → Told call.view.layout call.view.generation (walk_asks walk) x
    → WalkViews call.view.layout call.view.generation (view_stage (walk_watching walk)) (walk_asks walk) x (walk_turned walk x)
own_views call walk x here told =
    let at_generation = subst (λ (n : ℕ). Told call.view.layout n (walk_asks walk) x) (sym here.generation) told in
    let at_layout = subst (λ (l : Layout). Told l walk.generation (walk_asks walk) x) (sym here.layout) at_generation in
    subst (λ (q : Layout × ℕ). WalkViews q.0 q.1 (view_stage (walk_watching walk)) (walk_asks walk) x (walk_turned walk x)) (λ i. (here.layout i, here.generation i))
    (walks_are_views walk x here.sound at_layout)

-- the key of the walk is the name's
pub key_is : (call : Call) → IsCall call → number_of call.name ≡ key_of (name_in call)
unfolding key_of
key_is call sound = ap (λ (words : List ℕ). three_words (get_or words 0 0) (get_or words 1 0) (get_or words 2 0)) (sym sound.packed.whole)

-- what it keeps of what it saw, as it loads the clock
abbrev pub Keeps : Sight → LookupAt → Type 0
Keeps kept (look.Read seen) = (s t : Spot) → Sees (sight_in seen) s t → Sees kept s t
Keeps kept _ = Unit {0}

module _ (kept : Sight) (call : Call) (sound : IsCall call) where
  abbrev slots : ℕ
  slots = call.view.layout.slots

  abbrev name : List ℕ
  name = name_in call

  limit : slots ≤ 64
  limit = sound.view.layout.slots.1

  three : length call.name ≡ 3
  three = sym (ap length sound.packed.whole) ∙ length-words_of name

  has_word : (offset : ℕ) → offset < node_words call.view.layout → HasWordAt call.view.layout call.node offset
  has_word offset within = (sound.node, within)

  -- with the word that it loads it knows what the name has
  decide_by : (limit : Option ℕ) (found : Found) (k : Known) (offset x : ℕ) → offset < node_words call.view.layout → 0 < offset
      → ((s : Spot) → IsTidy slots s → Knows name k s → s offset ≡ x → Knows name (found_known call found) s)
      → ((range : List ℕ → Bool) (s : Spot) (m : Map) → range name ≡ true → Knows name k s → s offset ≡ x → Means slots range s m → at m name ≡ value_of found.hit)
      → Found_by limit kept call (held_by limit call.node found.hold.locked kept (timed call found.hold k)) (Load (call_address call offset)) x found
  decide_by None found k offset x within behind learnt old = λ next less.
      looks (reads_on (kinds.finds (has_word offset within) behind
      (λ s tidy known e. less s (learnt s tidy known e)) old))
  decide_by (Some most) found k offset x within behind learnt old = λ next pending ready named less means.
      looks (decides (has_word offset within) behind (record { pending = refl; ready = refl; placed = refl }) refl named
      (λ s tidy known e. less s (learnt s tidy known e))
      (λ range s m in_range known e is. let was = old range s m in_range known e is in (was, means range s m in_range was is)))

  decide : (found : Found) (k : Known) (offset x : ℕ) → offset < node_words call.view.layout → 0 < offset
      → ((s : Spot) → IsTidy slots s → Knows name k s → s offset ≡ x → Knows name (found_known call found) s)
      → ((range : List ℕ → Bool) (s : Spot) (m : Map) → range name ≡ true → Knows name k s → s offset ≡ x → Means slots range s m → at m name ≡ value_of found.hit)
      → Leads_found kept call (at_hold kept call found.hold (timed call found.hold k)) (Load (call_address call offset)) x found
  decide found k offset x within behind learnt old = decide_by call.limit found k offset x within behind learnt old

  -- it loads a word of its node
  learn_by : (limit : Option ℕ) (hold : Hold) (k next : Known) (offset x : ℕ) → offset < node_words call.view.layout → 0 < offset
      → ((s : Spot) → IsTidy slots s → Knows name k s → s offset ≡ x → Knows name next s)
      → PlainStep call.view.layout call.view.generation (held_by limit call.node hold.locked kept (timed call hold k)) (Load (call_address call offset)) x
      (held_by limit call.node hold.locked kept (timed call hold next)) None
  learn_by None hold k next offset x within behind learnt = steps (looks (reads_on (notes (has_word offset within) behind learnt)))
  learn_by (Some most) hold k next offset x within behind learnt = steps (looks (learns (has_word offset within) behind refl learnt))

  learn : (hold : Hold) (k next : Known) (offset x : ℕ) → offset < node_words call.view.layout → 0 < offset
      → ((s : Spot) → IsTidy slots s → Knows name k s → s offset ≡ x → Knows name next s)
      → PlainStep call.view.layout call.view.generation (at_hold kept call hold (timed call hold k)) (Load (call_address call offset)) x
      (at_hold kept call hold (timed call hold next)) None
  learn hold k next offset x within behind learnt = learn_by call.limit hold k next offset x within behind learnt

  -- on to the lowest candidate that is left, if these slots cover the name
  next_leads : (hold : Hold) (directory : Directory) (left : ℕ) (k : Known) (offset x : ℕ) → offset < node_words call.view.layout → 0 < offset
      → ((s : Spot) → Knows name k s → s offset ≡ x → Seen s ((bitmap_offset, directory.bitmap) ∷ words_from prints_offset directory.prints))
      → ((s : Spot) → IsTidy slots s → Knows name k s → s offset ≡ x → (slot : ℕ) → slot < 64 → IsLiveIn s slot → name_words s slot ≡ words_of name → IsLive left slot)
      → Leads kept call (at_hold kept call hold (timed call hold k)) (Load (call_address call offset)) x (next_candidate call hold directory left)
  next_leads hold directory left k offset x within behind seen covers =
      elim (lowest_live left) as (λ o. lowest_live left ≡ o → Leads kept call (at_hold kept call hold (timed call hold k)) (Load (call_address call offset)) x (candidate_turned call hold directory left o)) [
        | Some slot ↦ λ is. learn hold k (record { seen = (bitmap_offset, directory.bitmap) ∷ (words_from prints_offset directory.prints ++ []); left = Some left }) offset x within behind (λ s tidy known e.
            let both = seen s known e in
            record { seen = (both.0, seen_append s (words_from prints_offset directory.prints) [] both.1 tt); left = covers s tidy known e })
        | None ↦ λ is. decide (record { hold = hold; directory = directory; hit = None }) k offset x within behind
            (λ s tidy known e. let both = seen s known e in record { seen = (both.0, seen_append s (words_from prints_offset directory.prints) [] both.1 tt); left = tt })
            (λ range s m in_range known e means. at_missing slots range s m name sound.packed.named in_range means (λ slot slot_within live same.
            let none : left ≡ 0 = lowest_live-none left is in
            let small : slot < 64 = let few : slots ≤ 64 = limit in omega arith in
            let one : bit_at left slot ≡ 1 = covers s means.tidy known e slot small live same in
            let zero_bit : bit_at left slot ≡ 0 = subst (λ n. bit_at n slot ≡ 0) (sym none) (bit_at-zero slot) in
            omega arith))
      ] refl

  walked_leads : (most : ℕ) (stage : Stage) (action : Action) (x : ℕ) (turn : Turn Walk Walked) → call.limit ≡ Some most
      → Walks call.view.layout call.view.generation call.name stage action x turn → Leads kept call stage action x (walked_on call turn)
  walked_leads most stage action x (Go walk) writes is =
      subst (λ (o : Option ℕ). PlainStep call.view.layout call.view.generation stage action x (walk_by o walk) None) (sym writes) (steps (looks is.0))
  walked_leads most stage action x (Done (walked.Again why)) writes is = looks is
  walked_leads most stage action x (Done (walked.Target target)) writes is =
      let g = call.view.generation in
      subst (λ (o : Option ℕ). Leads kept call stage action x (came_by o call target)) (sym writes)
      (elim (is_worn_word target.version g) as (λ b. EndsAt call.view.layout g stage action x target.node (sighting_of target) b → Leads kept call stage action x
      (cond b (ends (once.Worn target.node target.version)) (goes_to (at_node call target.node target.hops) (look.Lock (sighting_of target) (locked_word g (kept_count target.version g)))))) [
        | true ↦ λ step. looks step
        | false ↦ λ step. steps (looks step)
      ] is.0)

  -- that of a read
  viewed_leads : (stage : Stage) (action : Action) (x : ℕ) (turn : Turn Walk Walked) → call.limit ≡ None
      → WalkViews call.view.layout call.view.generation stage action x turn → Leads kept call stage action x (walked_on call turn)
  viewed_leads stage action x (Go walk) read is =
      subst (λ (o : Option ℕ). PlainStep call.view.layout call.view.generation stage action x (walk_by o walk) None) (sym read) (steps (looks is))
  viewed_leads stage action x (Done (walked.Again why)) read is = looks is
  viewed_leads stage action x (Done (walked.Target target)) read is =
      subst (λ (o : Option ℕ). Leads kept call stage action x (came_by o call target)) (sym read) (steps (looks is))

  walk_leads : (walk : Walk) (x : ℕ) → IsWalking call walk → Told call.view.layout call.view.generation (walk_asks walk) x
      → Leads kept call (walk_by call.limit walk) (walk_asks walk) x (walked_on call (walk_turned walk x))
  walk_leads walk x here told =
      elim call.limit as (λ o. call.limit ≡ o → Leads kept call (walk_by o walk) (walk_asks walk) x (walked_on call (walk_turned walk x))) [
        | None ↦ λ read. viewed_leads (view_stage (walk_watching walk)) (walk_asks walk) x (walk_turned walk x) read (own_views call walk x here told)
        | Some most ↦ λ writes. walked_leads most (walk_stage walk) (walk_asks walk) x (walk_turned walk x) writes (own_walks call walk x here told)
      ] refl

  -- a read loads the clock, and goes on with a part of what it saw
  read_leads : (seen : Sighting) (x : ℕ) → IsAtSeen call seen → ((s t : Spot) → Sees (sight_in seen) s t → Sees kept s t)
      → Leads kept call (Reads call.node seen.version (sight_in seen) None) (Load (clock_address call.view.layout)) x (goes_to call (look.Bitmap (record { locked = seen.version; clock = x })))
  read_leads seen x here keeps =
      subst (λ (o : Option ℕ). PlainStep call.view.layout call.view.generation (Reads call.node seen.version (sight_in seen) None) (Load (clock_address call.view.layout)) x
      (held_by o call.node seen.version kept (record (timed call (record { locked = seen.version; clock = x }) nothing) { limit = o })) None) (sym here.reads)
      (steps (looks (reads_on (dates sound.packed.named here.is.live (λ s t see. subst (IsBetween s t) (key_is call sound) (here.is.between s t see)) keeps))))

  lock_leads : (seen : Sighting) (word x : ℕ) → IsSighting call.view.generation call.name seen
      → Leads kept call (Saw call.node seen.version word (sight_in seen)) (Exchange (call_address call version_offset) seen.version word) x (tried_lock call seen.version word x)
  lock_leads seen word x is =
      elim (x == seen.version) as (λ b. (x == seen.version) ≡ b → Leads kept call (Saw call.node seen.version word (sight_in seen)) (Exchange (call_address call version_offset) seen.version word) x
      (cond b (goes_to call (look.Clock word)) (ends (once.Again (Moved call.node seen.version x))))) [
        | true ↦ λ same. steps (locks (eqb-true _ _ same) sound.packed.named is.live (λ s t see. subst (IsBetween s t) (key_is call sound) (is.between s t see)))
        | false ↦ λ other. looks (misses (eqb-false _ _ other))
      ] refl

  clock_leads : (most word x : ℕ) → call.limit ≡ Some most → Leads kept call (Holds call.node word (just_held name)) (Load (clock_address call.view.layout)) x (saw_clock call (record { locked = word; clock = x }))
  clock_leads most word x writes =
      let hold : Hold = record { locked = word; clock = x } in
      elim (has_reached call.limit x) as (λ b. has_reached call.limit x ≡ b → Leads kept call (Holds call.node word (just_held name)) (Load (clock_address call.view.layout)) x
      (cond b (goes_to call (look.Spent hold)) (goes_to call (look.Bitmap hold)))) [
        | true ↦ λ spent. steps (looks (times {limit = None} (record { pending = refl; ready = refl; placed = refl }) tt))
        | false ↦ λ below. subst (λ (o : Option ℕ). PlainStep call.view.layout call.view.generation (Holds call.node word (just_held name)) (Load (clock_address call.view.layout)) x
            (held_by o call.node word kept (timed call hold nothing)) None) (sym writes)
            (steps (looks (times {limit = call.limit} (record { pending = refl; ready = refl; placed = refl }) (below_limit call.limit x below))))
      ] refl

  prints_leads : (hold : Hold) (bitmap : ℕ) (prints : List ℕ) (k x : ℕ) → length prints ≡ 8 → k < 8
      → Leads kept call (lookup_at_stage kept call (look.Prints hold bitmap prints k)) (Load (call_address call (8 + k))) x (saw_prints call hold bitmap prints k x)
  prints_leads hold bitmap prints k x eight small =
      let directory : Directory = record { bitmap = bitmap; prints = set prints k x } in
      let seen_so_far = knows ((bitmap_offset, bitmap) ∷ words_from prints_offset (take k prints)) in
      let whole : length (set prints k x) ≡ 8 = length-set prints k x ∙ eight in
      let more : (s : Spot) → Knows name seen_so_far s → s (8 + k) ≡ x → Stand s prints_offset (set prints k x) (k + 1) =
      λ s known e. stand_set s prints_offset prints k x (omega arith) (stand_taken s prints_offset prints k (omega arith) known.seen.1) e in
      elim (ltb (k + 1) 8) as (λ b. ltb (k + 1) 8 ≡ b → Leads kept call (lookup_at_stage kept call (look.Prints hold bitmap prints k)) (Load (call_address call (8 + k))) x
      (cond b (goes_to call (look.Prints hold bitmap (set prints k x) (k + 1))) (saw_directory call hold directory))) [
        | true ↦ λ is. learn hold seen_so_far (knows ((bitmap_offset, bitmap) ∷ words_from prints_offset (take (k + 1) (set prints k x)))) (8 + k) x (omega arith) (omega arith) (λ s tidy known e.
            record { seen = (known.seen.0, taken_stand s prints_offset (set prints k x) (k + 1) (omega arith) (more s known e)); left = tt })
        | false ↦ λ is.
            let last : k + 1 ≡ 8 = let past : 8 ≤ k + 1 = ltb-false _ _ is in omega arith in
            let stands : (s : Spot) → Knows name seen_so_far s → s (8 + k) ≡ x → Stand s prints_offset (set prints k x) 8 = λ s known e. subst (Stand s prints_offset (set prints k x)) last (more s known e) in
            next_leads hold directory (candidate_bits bitmap (set prints k x) call.print slots) seen_so_far (8 + k) x (omega arith) (omega arith)
            (λ s known e. (known.seen.0, whole_stand s prints_offset (set prints k x) (subst (Stand s prints_offset (set prints k x)) (sym whole) (stands s known e))))
            (λ s tidy known e slot slot_small live same.
            subst (λ b. IsLive (candidate_bits b (set prints k x) call.print slots) slot) known.seen.0
            (subst (λ p. IsLive (candidate_bits (s bitmap_offset) (set prints k x) p slots) slot) (sym sound.print)
            (candidates_cover slots s (set prints k x) name slot limit sound.packed.named tidy (stands s known e) live same)))
      ] refl

  -- what is known while a candidate's name is compared
  abbrev comparing_known : Directory → ℕ → ℕ → ℕ → Known
  comparing_known directory left slot k =
      record { seen = (bitmap_offset, directory.bitmap) ∷ (words_from prints_offset directory.prints ++ words_from (slot_offset slot 0) (take k call.name)); left = Some left }

  name_leads : (hold : Hold) (directory : Directory) (left slot k x : ℕ) → IsComparing slots directory.bitmap left slot → k < 3
      → Leads kept call (at_hold kept call hold (timed call hold (comparing_known directory left slot k))) (Load (call_address call (slot_offset slot k))) x
      (saw_name call hold directory left slot k x)
  name_leads hold directory left slot k x comparing small =
      let words = call.name in
      let count : length words ≡ 3 = three in
      let few : slots ≤ 64 = limit in
      let lowest = lowest_live-some left slot comparing.fits comparing.lowest in
      let slot_within : slot < slots = (comparing.live slot lowest.live).0 in
      let stage = at_hold kept call hold (timed call hold (comparing_known directory left slot k)) in
      let action = Load (call_address call (slot_offset slot k)) in
      let within : slot_offset slot k < node_words call.view.layout = omega arith in
      let more : (s : Spot) → Knows name (comparing_known directory left slot k) s → s (slot_offset slot k) ≡ get_or words k 0 → Stand s (slot_offset slot 0) words (k + 1) =
      λ s known e. stand_more s (slot_offset slot 0) words k
      (stand_taken s (slot_offset slot 0) words k (omega arith) (seen_back s (words_from prints_offset directory.prints) (words_from (slot_offset slot 0) (take k words)) known.seen.1))
      (subst (λ o. s o ≡ get_or words k 0) (let e : slot_offset slot k ≡ slot_offset slot 0 + k = omega arith in e) e) in
      let front : (s : Spot) → Knows name (comparing_known directory left slot k) s → Seen s (words_from prints_offset directory.prints) =
      λ s known. seen_front s (words_from prints_offset directory.prints) (words_from (slot_offset slot 0) (take k words)) known.seen.1 in
      elim (x == get_or words k 0) as (λ b. (x == get_or words k 0) ≡ b → Leads kept call stage action x
      (cond b (cond (ltb (k + 1) 3) (goes_to call (look.Name hold directory left slot (k + 1))) (goes_to call (look.Value hold directory slot)))
      (next_candidate call hold directory (without_live left slot)))) [
        | true ↦ λ same. let is_word : x ≡ get_or words k 0 = eqb-true _ _ same in
            elim (ltb (k + 1) 3) as (λ b. ltb (k + 1) 3 ≡ b → Leads kept call stage action x (cond b (goes_to call (look.Name hold directory left slot (k + 1))) (goes_to call (look.Value hold directory slot)))) [
              | true ↦ λ is. learn hold (comparing_known directory left slot k) (comparing_known directory left slot (k + 1)) (slot_offset slot k) x within (omega arith) (λ s tidy known e. record {
                seen = (
                  known.seen.0,
                  seen_append s (words_from prints_offset directory.prints) (words_from (slot_offset slot 0) (take (k + 1) words)) (front s known)
                      (taken_stand s (slot_offset slot 0) words (k + 1) (omega arith) (more s known (e ∙ is_word))),
                );
                left = known.left;
              })
              | false ↦ λ is.
                  let last : k + 1 ≡ length words = let past : 3 ≤ k + 1 = ltb-false _ _ is in omega arith in
                  learn hold (comparing_known directory left slot k) (knows ((bitmap_offset, directory.bitmap) ∷ (words_from prints_offset directory.prints ++ words_from (slot_offset slot 0) call.name))) (slot_offset slot k) x within (omega arith) (λ s tidy known e. record {
                    seen = (
                      known.seen.0,
                      seen_append s (words_from prints_offset directory.prints) (words_from (slot_offset slot 0) words) (front s known)
                          (whole_stand s (slot_offset slot 0) words (subst (Stand s (slot_offset slot 0) words) last (more s known (e ∙ is_word)))),
                    );
                    left = tt;
                  })
            ] refl
        | false ↦ λ other. next_leads hold directory (without_live left slot) (comparing_known directory left slot k) (slot_offset slot k) x within (omega arith)
            (λ s known e. (known.seen.0, front s known))
            (λ s tidy known e held held_small live same.
            let apart : held ≡ slot → ⊥ = λ here.
            let this : name_words s slot ≡ words = subst (λ n. name_words s n ≡ words_of name) here same ∙ sound.packed.whole in
            eqb-false _ _ other (sym e ∙ sym (name_word s slot k small) ∙ ap (λ w. get_or w k 0) this) in
            without_live-other left slot held lowest.within held_small apart ∙ known.left held held_small live same)
      ] refl

  value_leads : (hold : Hold) (directory : Directory) (slot x : ℕ) → slot < slots → IsLive directory.bitmap slot
      → Leads kept call (lookup_at_stage kept call (look.Value hold directory slot)) (Load (call_address call (slot_offset slot value_word))) x (finds hold directory (Some (record { slot = slot; value = x })))
  value_leads hold directory slot x slot_within live =
      let known_now = knows ((bitmap_offset, directory.bitmap) ∷ (words_from prints_offset directory.prints ++ words_from (slot_offset slot 0) call.name)) in
      decide (record { hold = hold; directory = directory; hit = Some (record { slot = slot; value = x }) }) known_now (slot_offset slot value_word) x (omega arith) (omega arith)
      (λ s tidy known e. known)
      (λ range s m in_range known e means.
      let stands : Stand s (slot_offset slot 0) call.name (length call.name) =
      stand_whole s (slot_offset slot 0) call.name (seen_back s (words_from prints_offset directory.prints) (words_from (slot_offset slot 0) call.name) known.seen.1) in
      let same : name_words s slot ≡ words_of name = name_stands s slot call.name three (subst (Stand s (slot_offset slot 0) call.name) three stands) ∙ sym sound.packed.whole in
      let live_here : IsLiveIn s slot = subst (λ b. IsLive b slot) (sym known.seen.0) live in
      at_found slots range s m name slot sound.packed.named in_range means live_here same ∙ ap Some e)

  pub lookup_leads : (at : LookupAt) (x : ℕ) → IsLookupAt call at → Keeps kept at → Told call.view.layout call.view.generation (lookup_at_asks call at) x
      → Leads kept call (lookup_at_stage kept call at) (lookup_at_asks call at) x (lookup_at_turned call at x)
  lookup_leads (look.Floor floor) x here keeps told = floor_leads kept call floor x here
  lookup_leads (look.Walk walk) x here keeps told = walk_leads walk x here told
  lookup_leads (look.Read seen) x here keeps told = read_leads seen x here keeps
  lookup_leads (look.Lock seen word) x here keeps told = lock_leads seen word x here.1.is
  lookup_leads (look.Clock word) x here keeps told = clock_by call.limit refl here.0
    where
      clock_by : (limit : Option ℕ) → call.limit ≡ limit → IsSome limit → Leads kept call (Holds call.node word (just_held name)) (Load (clock_address call.view.layout)) x (saw_clock call (record { locked = word; clock = x }))
      clock_by None is some = absurd (let no : false ≡ true = some in cc)
      clock_by (Some most) is some = clock_leads most word x is
  lookup_leads (look.Spent hold) x here keeps told = unlocks refl refl refl refl (is_spent refl refl)
  lookup_leads (look.Bitmap hold) x here keeps told = learn hold nothing (knows ((bitmap_offset, x) ∷ words_from prints_offset (take 0 (replicate 8 0)))) bitmap_offset x (omega arith) (omega arith) (λ s tidy known e. record { seen = (e, tt); left = tt })
  lookup_leads (look.Prints hold bitmap prints k) x here keeps told = prints_leads hold bitmap prints k x here.1.prints here.2
  lookup_leads (look.Name hold directory left slot k) x here keeps told = name_leads hold directory left slot k x here.2 here.3
  lookup_leads (look.Value hold directory slot) x here keeps told = value_leads hold directory slot x here.2 here.3

-- of what it saw it keeps nothing but that the node was in use
pub keeps_live : (at : LookupAt) → Keeps (live_sight []) at
keeps_live (look.Floor floor) = tt
keeps_live (look.Walk walk) = tt
keeps_live (look.Read seen) = λ s t see. record { seen = tt; leads = λ ne. absurd (ne refl); beyond = λ ne. absurd (ne refl) }
keeps_live (look.Lock seen locked) = tt
keeps_live (look.Clock locked) = tt
keeps_live (look.Spent hold) = tt
keeps_live (look.Bitmap hold) = tt
keeps_live (look.Prints hold bitmap prints k) = tt
keeps_live (look.Name hold directory left slot k) = tt
keeps_live (look.Value hold directory slot) = tt
