-- Why a call was turned back: what its machine has been told is kept along its steps, and its answer follows from it.
use Rattle.std.proofs.Common.{◌≡◌, ◌≢◌, ℕ, ◌+◌, ◌-◌, ◌*◌, ◌<◌, ◌==◌, inl, inr, ◌⊎◌, true, false, cond, ltb, List, [], ◌∷◌, ◌++◌, refl, sym, ap, ◌∙◌, subst, arith}
use Rattle.std.specs.Prelude.{◌/◌, nat_lt, slice_index, slice_set, Option, Some, None, IsSome, Contains}
use Rattle.std.proofs.lemmas.Bool.{eqb-true, eqb-false, ltb-false}
use Rattle.std.proofs.lemmas.List.{append_assoc, append-nil, length-append}
use Rattle.std.proofs.lemmas.List.Elements.{All-nil, All-push, Contains-append_left, Contains-append_right}
use Rattle.pm_words.specs.Codes.{free_status, gone_status, live_status, empty_state}
use Rattle.pm_words.specs.declared.again.Again.{Again}
use Rattle.pm_words.specs.declared.again.Again.TheVariants as again
use Rattle.pm_words.specs.declared.fence.Fence.{Fence}
use Rattle.pm_words.specs.declared.layout.Layout.{Layout}
use Rattle.pm_words.specs.declared.machine.Turn.{Turn}
use Rattle.pm_words.specs.declared.machine.Turn.TheVariants.{Go, Done}
use Rattle.pm_words.specs.Fences.{fence_start, fence_next}
use Rattle.version_lock.specs.Versions.{IsFree, IsWorn, is_free_word, is_worn_word, kept_count, locked_word}
use Rattle.version_lock.proofs.WordTests.{taken_word, worn_word}
use Rattle.call_stages.specs.declared.once.Once.{Once}
use Rattle.call_stages.specs.declared.once.Once.TheVariants as once
use Rattle.call_stages.specs.declared.once.Placed.{Placed}
use Rattle.call_stages.specs.declared.view.View.{View}
use Rattle.data_list.specs.declared.target.Walked.{Walked}
use Rattle.data_list.specs.declared.target.Walked.TheVariants as walked
use Rattle.data_list.specs.declared.walk.Walk.{Walk}
use Rattle.data_list.specs.declared.walk.WalkAt.{WalkAt}
use Rattle.data_list.specs.declared.walk.WalkAt.TheVariants as walk_at
use Rattle.data_list.specs.Hops.{HopsAt}
use Rattle.data_list.specs.Walks.{hops_to, landing, loads_at, sighting_of, target as walk_target, walk_at_turned, walk_turned}
use Rattle.data_list.proofs.HopLaw.{walks_hop}
use Rattle.smo_log.specs.declared.take.Take.{Take}
use Rattle.smo_log.specs.declared.take.TakeAt.{TakeAt}
use Rattle.smo_log.specs.declared.take.TakeAt.TheVariants as take_at
use Rattle.smo_log.specs.declared.take.Taken.{Taken}
use Rattle.smo_log.specs.declared.take.Taken.TheVariants as taken
use Rattle.smo_log.specs.Takes.{take_at_turned, take_fenced, take_from, take_turned, takes_on}
use Rattle.pm_alloc.specs.declared.claim.Claim.{Claim}
use Rattle.pm_alloc.specs.declared.claim.ClaimAt.{ClaimAt}
use Rattle.pm_alloc.specs.declared.claim.ClaimAt.TheVariants as claim_at
use Rattle.pm_alloc.specs.declared.claim.Claimed.{Claimed}
use Rattle.pm_alloc.specs.declared.claim.Claimed.TheVariants as was
use Rattle.pm_alloc.specs.Claims.{claim_at_turned, claim_from, claim_turned, goes_to, lock_of, passes, saw_free}
use Rattle.tree_floor.specs.declared.floor.Floor.{Floor}
use Rattle.tree_floor.specs.Floors.{floor_turned}
use Rattle.split_merge.specs.declared.moving.Move.{Move}
use Rattle.split_merge.specs.declared.splitting.Split.{Split}
use Rattle.split_merge.specs.declared.splitting.SplitAt.{SplitAt}
use Rattle.split_merge.specs.declared.splitting.SplitAt.TheVariants as split_at
use Rattle.split_merge.specs.declared.splitting.SplitDone.{SplitDone}
use Rattle.split_merge.specs.declared.splitting.SplitDone.TheVariants as split_done
use Rattle.split_merge.specs.declared.merging.Merge.{Merge}
use Rattle.split_merge.specs.Splits.{IsSplitAt, claimed, move_from, moved, plan_of, split_at_turned, split_turned, splits_on, word_count}
use Rattle.split_merge.specs.Splits.{taken as split_taken}
use Rattle.split_merge.specs.Moves.{move_turned}
use Rattle.node_ops.specs.declared.call.Call.{Call}
use Rattle.node_ops.specs.declared.del.Del.{Del}
use Rattle.node_ops.specs.declared.del.Del.TheVariants as del
use Rattle.node_ops.specs.declared.finish.Finish.{Finish}
use Rattle.node_ops.specs.declared.get.Get.{Get}
use Rattle.node_ops.specs.declared.get.Get.TheVariants as get
use Rattle.node_ops.specs.declared.lookup.Found.{Found}
use Rattle.node_ops.specs.declared.lookup.Lookup.{Lookup}
use Rattle.node_ops.specs.declared.lookup.LookupAt.{LookupAt}
use Rattle.node_ops.specs.declared.lookup.LookupAt.TheVariants as look
use Rattle.node_ops.specs.declared.lookup.Looked.{Looked}
use Rattle.node_ops.specs.declared.lookup.Looked.TheVariants as looked
use Rattle.node_ops.specs.declared.part.Part.{Part}
use Rattle.node_ops.specs.declared.part.Part.TheVariants as part
use Rattle.node_ops.specs.declared.part.ReadingAt.{ReadingAt}
use Rattle.node_ops.specs.declared.part.ReadingAt.TheVariants as reading_at
use Rattle.node_ops.specs.declared.put.Put.{Put}
use Rattle.node_ops.specs.declared.put.Put.TheVariants as put
use Rattle.node_ops.specs.declared.running.Running.{Running}
use Rattle.node_ops.specs.declared.running.Running.TheVariants.{Getting, Putting, Deleting, Parting}
use Rattle.node_ops.specs.declared.single_del.SingleDel.TheVariants as single_del
use Rattle.node_ops.specs.declared.single_put.SinglePut.TheVariants as single_put
use Rattle.node_ops.specs.Calls.{at_node}
use Rattle.node_ops.specs.LookupSteps.{IsLookupAt, came_by, candidate_turned, floored, goes_to as look_to, is_spent, lookup_at_turned, lookup_turned, next_candidate, saw_directory, walked_on}
use Rattle.node_ops.specs.GetSteps.{IsGet, get_call, get_looked, get_turned}
use Rattle.node_ops.specs.PutSteps.{IsPut, put_call, put_filled, put_finished, put_full, put_into, put_looked, put_split, put_turned}
use Rattle.node_ops.specs.DelSteps.{IsDel, del_call, del_finished, del_hit, del_looked, del_merged, del_slot, del_taken, del_turned, goes_on, merges_at, names_left}
use Rattle.node_ops.specs.PartSteps.{IsFreely, IsPart, IsReadingAt, after_at, all_loaded, early_of, goes_on as reads_on, low_value, next_at, ordering_turned, part_call, part_held, part_looked, part_ordered, part_turned, part_walked, part_words, placed_of, reading_turned, seen_at, sorted_by, store_on, with_word}
use Rattle.node_ops.specs.declared.part.Way.{Way}
use Rattle.node_ops.specs.declared.part.Way.TheVariants as ways
use Rattle.node_ops.specs.declared.part.Reading.{Reading}
use Rattle.permutation.specs.declared.load.LoadPermutation.{LoadPermutation}
use Rattle.permutation.specs.declared.store.StorePermutation.{StorePermutation}
use Rattle.permutation.specs.Loads.{load_turned}
use Rattle.permutation.specs.Stores.{store_turned}
use Rattle.node_ops.specs.FinishSteps.{finish_at_turned, finish_fenced}
use Rattle.node_ops.specs.FillSteps.{fill_turned}
use Rattle.node_ops.specs.declared.fill.Fill.{Fill}
use Rattle.node_ops.specs.declared.finish.FinishAt.{FinishAt}
use Rattle.node_ops.specs.declared.finish.FinishAt.TheVariants as finish_at
use Rattle.node_ops.specs.declared.lookup.Directory.{Directory}
use Rattle.node_ops.specs.declared.lookup.Hit.{Hit}
use Rattle.node_ops.specs.declared.lookup.Hold.{Hold}
use Rattle.split_merge.specs.declared.merging.Merged.{Merged}
use Rattle.split_merge.specs.Merges.{merge_turned}
use Rattle.data_node.specs.declared.slots.TheConstants.{PRINT_WORDS}
use Rattle.data_node.specs.Bits.{candidate_bits, lowest_clear, lowest_live, without_live}
use Rattle.data_node.specs.Lists.{number_of}
use Rattle.cat_key.specs.declared.TheConstants.{WORDS}
use Rattle.index_core.specs.declared.party.CoreCall.{CoreCall}
use Rattle.index_core.specs.declared.party.CoreCall.TheVariants as core_call
use Rattle.index_core.specs.CoreCalls.{machine_of}
use Rattle.node_ops.specs.RunningSteps.{IsRunning, Sound, running_call, running_turned, wrapped, wrapped_part}
use Rattle.index_core.specs.Causes.{FoundNoLine, AreInUse, none_yet, one_more, FoundNoNode, HasCause, HasCauseIn, HasTold}
use Rattle.index_core.specs.Heard.{EndsFull, TakeHasAt, TakeTold, EndsInUse, EndsSeen, ClaimHasAt, ClaimHas, ClaimTold, SplitHas, SplitTold, WalkHas, WalkTold, HoldHas, LookHas, LookTold, PutHas, DelHas, GetHas, PartHas, WayHas, RunningHas, RunningTold, CallsHear}

at_end : (told : List ℕ) (x : ℕ) → Contains (told ++ x ∷ []) x
at_end told x = Contains-append_right told (x ∷ []) x (0, omega arith, refl)

-- ---- the look for a log line

starts_full : (told : List ℕ) → EndsFull told 0
starts_full told = record { before = told; states = []; is = sym (append-nil told); count = refl; full = All-nil (λ (state : ℕ). state ≢ empty_state) }

one_full : (told : List ℕ) (n x : ℕ) → EndsFull told n → x ≢ 0 → EndsFull (told ++ x ∷ []) (n + 1)
one_full told n x ends some = record {
  before = ends.before;
  states = ends.states ++ x ∷ [];
  is = ap (λ (l : List ℕ). l ++ x ∷ []) ends.is ∙ append_assoc ends.before ends.states (x ∷ []);
  count = let count = ends.count in let long = length-append ends.states (x ∷ []) in omega arith;
  full = All-push (λ (state : ℕ). state ≢ empty_state) ends.states x ends.full some;
}

all_full : (told : List ℕ) → EndsFull told 8 → FoundNoLine told
all_full told ends = record {
  before = ends.before;
  part = ends.states;
  rest = [];
  is = ends.is ∙ ap (λ (l : List ℕ). ends.before ++ l) (sym (append-nil ends.states));
  holds = (ends.count, ends.full);
}

take_told : (take : Take) (at : TakeAt) (told : List ℕ) (x : ℕ) → take.index < 8 → take.at ≡ at → TakeHasAt told take.index at → TakeTold (told ++ x ∷ []) (take_at_turned take at x)
take_told take take_at.State told x low is has =
    let after : List ℕ = told ++ x ∷ [] in
    elim (x == 0) as (λ b. (x == 0) ≡ b → TakeTold after (cond b (takes_on take (take_at.Fence fence_start)) (cond (ltb (take.index + 1) 8) (Go (record take { index = take.index + 1 })) (Done taken.Full)))) [
      | true ↦ λ empty. tt
      | false ↦ λ full.
          let one = one_full told take.index x has (eqb-false _ _ full) in
          elim (ltb (take.index + 1) 8) as (λ b. ltb (take.index + 1) 8 ≡ b → TakeTold after (cond b (Go (record take { index = take.index + 1 })) (Done taken.Full))) [
            | true ↦ λ more. subst (TakeHasAt after (take.index + 1)) (sym is) one
            | false ↦ λ last. let past = ltb-false _ _ last in let eight : take.index + 1 ≡ 8 = omega (arith, past, low) in all_full after (subst (EndsFull after) eight one)
          ] refl
    ] refl
take_told take (take_at.Fence fence) told x low is has = on (fence_next fence x)
  where
    on : (next : Option Fence) → TakeTold (told ++ x ∷ []) (take_fenced take next)
    on (Some next) = tt
    on None = tt

-- ---- the claim of a node

starts_in_use : (g : ℕ) (told : List ℕ) → EndsInUse g told 1
starts_in_use g told = record { before = told; nodes = []; count = 0; is = sym (append-nil told); used = none_yet; next = refl }

one_in_use : (g : ℕ) (told : List ℕ) (node version status : ℕ) → EndsInUse g told node → (status ≢ free_status) ⊎ IsWorn version g → EndsInUse g ((told ++ version ∷ []) ++ status ∷ []) (node + 1)
one_in_use g told node version status ends used = record {
  before = ends.before;
  nodes = ends.nodes ++ version ∷ status ∷ [];
  count = ends.count + 1;
  is = append_assoc told (version ∷ []) (status ∷ []) ∙ ap (λ (l : List ℕ). l ++ version ∷ status ∷ []) ends.is ∙ append_assoc ends.before ends.nodes (version ∷ status ∷ []);
  used = one_more version status ends.used used;
  next = omega (arith, ends.next);
}

all_in_use : (l : Layout) (g : ℕ) (told : List ℕ) → EndsInUse g told l.nodes → FoundNoNode l g told
all_in_use l g told ends = record {
  before = ends.before;
  part = ends.nodes;
  rest = [];
  is = ends.is ∙ ap (λ (n : List ℕ). ends.before ++ n) (sym (append-nil ends.nodes));
  holds = let same : ends.count ≡ l.nodes - 1 = omega (arith, ends.next) in subst (AreInUse g ends.nodes) same ends.used;
}

claim_begins : (l : Layout) (g : ℕ) (told : List ℕ) → ClaimHas told (claim_from l g)
claim_begins l g told =
    elim (l.nodes == 1) as (λ b. (l.nodes == 1) ≡ b → ClaimHas told (cond b (record { layout = l; generation = g; node = 0; at = claim_at.Nowhere }) (record { layout = l; generation = g; node = 1; at = claim_at.Version }))) [
      | true ↦ λ one. eqb-true _ _ one
      | false ↦ λ more. starts_in_use g told
    ] refl

module _ (claim : Claim) (within : claim.node < claim.layout.nodes) where
  abbrev l : Layout
  l = claim.layout

  abbrev g : ℕ
  g = claim.generation

  passes_on : (told : List ℕ) → EndsInUse g told (claim.node + 1) → ClaimTold l g told (passes claim)
  passes_on told ends =
      elim (ltb (claim.node + 1) l.nodes) as (λ b. ltb (claim.node + 1) l.nodes ≡ b → ClaimTold l g told (cond b (Go (record claim { node = claim.node + 1; at = claim_at.Version })) (Done was.NoFree))) [
        | true ↦ λ more. ends
        | false ↦ λ last. let past = ltb-false _ _ last in let same : claim.node + 1 ≡ l.nodes = omega (arith, past, within) in all_in_use l g told (subst (EndsInUse g told) same ends)
      ] refl

  sees : (told : List ℕ) (version x : ℕ) → EndsSeen g told claim.node version → ClaimTold l g (told ++ x ∷ []) (claim_at_turned claim (claim_at.Status version) x)
  sees told version x seen =
      let after : List ℕ = told ++ x ∷ [] in
      let used : (x ≢ free_status) ⊎ IsWorn version g → EndsInUse g after (claim.node + 1) = (λ why.
      subst (λ (t : List ℕ). EndsInUse g (t ++ x ∷ []) (claim.node + 1)) (sym seen.is) (one_in_use g seen.before claim.node version x seen.ends why)) in
      let was_seen : Contains after version = Contains-append_left told (x ∷ []) version (subst (λ (t : List ℕ). Contains t version) (sym seen.is) (at_end seen.before version)) in
      elim (x == free_status) as (λ b. (x == free_status) ≡ b → ClaimTold l g after (cond b (saw_free claim version) (passes claim))) [
        | true ↦ λ free.
            elim (is_free_word version g) as (λ b. is_free_word version g ≡ b → ClaimTold l g after (cond b (cond (is_worn_word version g) (passes claim) (goes_to claim (claim_at.Lock version (lock_of version g)))) (Done (was.Again (again.Locked claim.node version))))) [
              | true ↦ λ unlocked.
                  elim (is_worn_word version g) as (λ b. is_worn_word version g ≡ b → ClaimTold l g after (cond b (passes claim) (goes_to claim (claim_at.Lock version (lock_of version g))))) [
                    | true ↦ λ worn. passes_on after (used (inr (worn_word version g worn)))
                    | false ↦ λ unworn. was_seen
                  ] refl
              | false ↦ λ locked. (was_seen, taken_word version g locked)
            ] refl
        | false ↦ λ other. passes_on after (used (inl (eqb-false _ _ other)))
      ] refl

  claim_told : (at : ClaimAt) (told : List ℕ) (x : ℕ) → ClaimHasAt l g told claim.node at → ClaimTold l g (told ++ x ∷ []) (claim_at_turned claim at x)
  claim_told claim_at.Nowhere told x one = record {
    before = told ++ x ∷ [];
    part = [];
    rest = [];
    is = sym (append-nil (told ++ x ∷ []));
    holds = let zero : 0 ≡ l.nodes - 1 = omega (arith, one) in subst (AreInUse g []) zero none_yet;
  }
  claim_told claim_at.Version told x ends = record { before = told; is = refl; ends = ends }
  claim_told (claim_at.Status version) told x seen = sees told version x seen
  claim_told (claim_at.Lock version locked) told x has =
      elim (x == version) as (λ b. (x == version) ≡ b → ClaimTold l g (told ++ x ∷ []) (cond b (Done (was.Node claim.node locked)) (Done (was.Again (again.Moved claim.node version x))))) [
        | true ↦ λ same. tt
        | false ↦ λ other. (Contains-append_left told (x ∷ []) version has, at_end told x, eqb-false _ _ other)
      ] refl

-- ---- the split

-- what was told stays told
longer_told : {told : List ℕ} {P : List ℕ → Type 0} → (x : ℕ) → HasTold told P → HasTold (told ++ x ∷ []) P
longer_told x has = record {
  before = has.before;
  part = has.part;
  rest = has.rest ++ x ∷ [];
  is = ap (λ (t : List ℕ). t ++ x ∷ []) has.is ∙ append_assoc has.before (has.part ++ has.rest) (x ∷ []) ∙ ap (λ (t : List ℕ). has.before ++ t) (append_assoc has.part has.rest (x ∷ []));
  holds = has.holds;
}

longer : (l : Layout) (g : ℕ) (told : List ℕ) (x : ℕ) (why : Again) → HasCause l g told why → HasCause l g (told ++ x ∷ []) why
longer l g told x (again.Locked node word) cause = (Contains-append_left told (x ∷ []) word cause.0, cause.1)
longer l g told x (again.Moved node first second) cause = (Contains-append_left told (x ∷ []) first cause.0, Contains-append_left told (x ∷ []) second cause.1, cause.2)
longer l g told x (again.Hops count) cause = cause
longer l g told x again.LogFull cause = longer_told x cause
longer l g told x again.NoFree cause = longer_told x cause
longer l g told x (again.NeedsSplit node) cause = tt
longer l g told x (again.Held word) cause = absurd cause
longer l g told x (again.Epoch first second) cause = absurd cause

split_told : (split : Split) (at : SplitAt) (told : List ℕ) (x : ℕ) → IsSplitAt split.view split.node split.word at → SplitHas split.view.layout split.view.generation told at
    → SplitTold split.view.layout split.view.generation (told ++ x ∷ []) (split_at_turned split at x)
split_told split split_at.Next told x here has = starts_full (told ++ x ∷ [])
split_told split (split_at.Take next take) told x here has = on (take_turned take x) (take_told take take.at told x here.1.index refl has)
  where
    after : List ℕ
    after = told ++ x ∷ []

    on : (turn : Turn Take Taken) → TakeTold after turn → SplitTold split.view.layout split.view.generation after (split_taken split next turn)
    on (Go take) so = so
    on (Done (taken.Line line)) so = claim_begins split.view.layout split.view.generation after
    on (Done taken.Full) so = so
split_told split (split_at.Claim next line claim) told x here has =
    on (claim_turned claim x) (subst (λ (q : Layout × ℕ). ClaimTold q.0 q.1 after (claim_turned claim x)) (λ k. (here.3 k, here.4 k)) (claim_told claim here.2.node claim.at told x has))
  where
    after : List ℕ
    after = told ++ x ∷ []

    on : (turn : Turn Claim Claimed) → ClaimTold split.view.layout split.view.generation after turn → SplitTold split.view.layout split.view.generation after (claimed split next line turn)
    on (Go claim) so = so
    on (Done (was.Node fresh word)) so = tt
    on (Done was.NoFree) so = so
    on (Done (was.Again why)) so = so
split_told split (split_at.Read share full count) told x here has =
    elim (ltb (count + 1) (word_count split.view)) as (λ b. SplitTold split.view.layout split.view.generation (told ++ x ∷ []) (cond b (splits_on split (split_at.Read share (slice_set full (8 + count) x) (count + 1))) (splits_on split (split_at.Move (move_from (plan_of split share (slice_set full (8 + count) x))))))) [
      | true ↦ tt
      | false ↦ tt
    ]
split_told split (split_at.Move moving) told x here has = on (move_turned moving x)
  where
    on : (turn : Turn Move (Unit {0})) → SplitTold split.view.layout split.view.generation (told ++ x ∷ []) (moved split moving.plan.share.fresh turn)
    on (Go moving) = tt
    on (Done nothing) = tt
split_told split (split_at.Refuse next why) told x here has = longer split.view.layout split.view.generation told x why has

-- ---- the walk

module _ (walk : Walk) (told : List ℕ) (x : ℕ) where
  abbrev walk_told_then : List ℕ
  walk_told_then = told ++ x ∷ []

  still : (version : ℕ) → Contains told version → Contains walk_told_then version
  still version has = Contains-append_left told (x ∷ []) version has

  hops_so : (node : ℕ) → WalkTold walk_told_then (hops_to walk node)
  hops_so node = elim (nat_lt (walk.hops + 1) (2 * walk.layout.nodes)) as (λ b. WalkTold walk_told_then (cond b (Go (record walk { node = landing walk node; hops = walk.hops + 1; at = walk_at.Version })) (Done (walked.Again (again.Hops (walk.hops + 1)))))) [
    | true ↦ tt
    | false ↦ tt
  ]

  walk_told : (at : WalkAt) → WalkHas told at → WalkTold walk_told_then (walk_at_turned walk at x)
  walk_told walk_at.Version has =
      elim (is_free_word x walk.generation) as (λ b. WalkTold walk_told_then (cond b (loads_at walk (walk_at.Status x)) (Done (walked.Again (again.Locked walk.node x))))) [
        | true ↦ at_end told x
        | false ↦ tt
      ]
  walk_told (walk_at.Status version) has =
      elim (x == live_status) as (λ b. WalkTold walk_told_then (cond b (loads_at walk (walk_at.First version)) (cond (x == gone_status) (loads_at walk walk_at.Prev) (hops_to walk 0)))) [
        | true ↦ still version has
        | false ↦ elim (x == gone_status) as (λ b. WalkTold walk_told_then (cond b (loads_at walk walk_at.Prev) (hops_to walk 0))) [
          | true ↦ tt
          | false ↦ hops_so 0
        ]
      ]
  walk_told (walk_at.First version) has = still version has
  walk_told (walk_at.Second version first) has = still version has
  walk_told (walk_at.Third version first second) has =
      elim (nat_lt (number_of walk.key) (number_of (first ∷ second ∷ x ∷ []))) as (λ b. WalkTold walk_told_then (cond b (loads_at walk walk_at.Prev) (loads_at walk (walk_at.Next version (first ∷ second ∷ x ∷ []))))) [
        | true ↦ tt
        | false ↦ still version has
      ]
  walk_told (walk_at.Next version low) has =
      elim (x == 0) as (λ b. WalkTold walk_told_then (cond b (walk_target walk version low None) (cond (nat_lt x walk.layout.nodes) (loads_at walk (walk_at.HighFirst version low x)) (hops_to walk 0)))) [
        | true ↦ still version has
        | false ↦ elim (nat_lt x walk.layout.nodes) as (λ b. WalkTold walk_told_then (cond b (loads_at walk (walk_at.HighFirst version low x)) (hops_to walk 0))) [
          | true ↦ still version has
          | false ↦ hops_so 0
        ]
      ]
  walk_told (walk_at.HighFirst version low next) has = still version has
  walk_told (walk_at.HighSecond version low next first) has = still version has
  walk_told (walk_at.HighThird version low next first second) has =
      elim (nat_lt (number_of walk.key) (number_of (first ∷ second ∷ x ∷ []))) as (λ b. WalkTold walk_told_then (cond b (walk_target walk version low (Some (record { node = next; anchor = first ∷ second ∷ x ∷ [] }))) (hops_to walk next))) [
        | true ↦ still version has
        | false ↦ hops_so next
      ]
  walk_told walk_at.Prev has = hops_so x

-- ---- the look-up

hold_more : (told : List ℕ) (x : ℕ) (limit : Option ℕ) (hold : Hold) → HoldHas told limit hold → HoldHas (told ++ x ∷ []) limit hold
hold_more told x None hold has = Contains-append_left told (x ∷ []) hold.locked has
hold_more told x (Some limit) hold has = tt

hold_seen : (told : List ℕ) (limit : Option ℕ) (hold : Hold) → Contains told hold.locked → HoldHas told limit hold
hold_seen told None hold has = has
hold_seen told (Some limit) hold has = tt

hold_locked : (told : List ℕ) (limit : Option ℕ) (hold : Hold) → IsSome limit → HoldHas told limit hold
hold_locked told None hold some_limit = absurd cc
hold_locked told (Some limit) hold some_limit = tt

hold_read : (told : List ℕ) (limit : Option ℕ) (hold : Hold) → limit ≡ None → HoldHas told limit hold → Contains told hold.locked
hold_read told limit hold none has = subst (λ (o : Option ℕ). HoldHas told o hold) none has

module _ (call : Call) (told : List ℕ) (x : ℕ) where
  abbrev lay : Layout
  lay = call.view.layout

  abbrev gen : ℕ
  gen = call.view.generation

  abbrev then_told : List ℕ
  then_told = told ++ x ∷ []

  abbrev Told : Turn Lookup Looked → Type 0
  Told turn = LookTold lay gen then_told call.limit turn

  walked_told : (walk : Walk) → walk.layout ≡ lay → walk.generation ≡ gen → (turn : Turn Walk Walked) → HopsAt walk walk.at x turn → WalkTold then_told turn → Told (walked_on call turn)
  walked_told walk layout generation (Go next) hops so = so
  walked_told walk layout generation (Done (walked.Again (again.Locked node word))) hops so =
      (subst (Contains then_told) (sym hops.1) (at_end told x), λ free. hops.2 (subst (IsFree word) (sym generation) free))
  walked_told walk layout generation (Done (walked.Again (again.Moved node first second))) hops so = absurd hops
  walked_told walk layout generation (Done (walked.Again (again.Hops count))) hops so = hops.1 ∙ ap (λ (l : Layout). 2 * l.nodes) layout
  walked_told walk layout generation (Done (walked.Again again.LogFull)) hops so = absurd hops
  walked_told walk layout generation (Done (walked.Again again.NoFree)) hops so = absurd hops
  walked_told walk layout generation (Done (walked.Again (again.NeedsSplit node))) hops so = absurd hops
  walked_told walk layout generation (Done (walked.Again (again.Held word))) hops so = absurd hops
  walked_told walk layout generation (Done (walked.Again (again.Epoch first second))) hops so = absurd hops
  walked_told walk layout generation (Done (walked.Target target)) hops so = comes call.limit
    where
      comes : (limit : Option ℕ) → Told (came_by limit call target)
      comes None = so
      comes (Some most) =
          elim (is_worn_word target.version gen) as (λ b. is_worn_word target.version gen ≡ b → Told (cond b (Done (looked.Early (once.Worn target.node target.version)))
          (look_to (at_node call target.node target.hops) (look.Lock (sighting_of target) (locked_word gen (kept_count target.version gen)))))) [
            | true ↦ λ worn. (so, worn_word target.version gen worn)
            | false ↦ λ unworn. so
          ] refl

  next_told : (hold : Hold) (directory : Directory) (left : ℕ) → HoldHas then_told call.limit hold → Told (next_candidate call hold directory left)
  next_told hold directory left has = on (lowest_live left)
    where
      on : (slot : Option ℕ) → Told (candidate_turned call hold directory left slot)
      on None = has
      on (Some slot) = has

  look_told : (at : LookupAt) → IsLookupAt call at → LookHas told call.limit at → Told (lookup_at_turned call at x)
  look_told (look.Floor floor) here has = on (floor_turned floor x)
    where
      on : (turn : Turn Floor ℕ) → Told (floored call turn)
      on (Go floor) = tt
      on (Done node) = tt
  look_told (look.Walk walk) here has = walked_told walk here.layout here.generation (walk_turned walk x) (walks_hop walk x here.sound) (walk_told walk told x walk.at has)
  look_told (look.Read seen) here has = hold_seen then_told call.limit (record { locked = seen.version; clock = x }) (Contains-append_left told (x ∷ []) seen.version has)
  look_told (look.Lock seen locked) here has =
      elim (x == seen.version) as (λ b. (x == seen.version) ≡ b → Told (cond b (look_to call (look.Clock locked)) (Done (looked.Early (once.Again (again.Moved call.node seen.version x)))))) [
        | true ↦ λ same. tt
        | false ↦ λ other. (Contains-append_left told (x ∷ []) seen.version has, at_end told x, eqb-false _ _ other)
      ] refl
  look_told (look.Clock locked) here has =
      elim (is_spent call.limit x) as (λ b. Told (cond b (look_to call (look.Spent (record { locked = locked; clock = x }))) (look_to call (look.Bitmap (record { locked = locked; clock = x }))))) [
        | true ↦ tt
        | false ↦ hold_locked then_told call.limit (record { locked = locked; clock = x }) here.0
      ]
  look_told (look.Spent hold) here has = tt
  look_told (look.Bitmap hold) here has = hold_more told x call.limit hold has
  look_told (look.Prints hold bitmap prints k) here has =
      elim (nat_lt (k + 1) PRINT_WORDS) as (λ b. Told (cond b (look_to call (look.Prints hold bitmap (slice_set prints k x) (k + 1))) (saw_directory call hold (record { bitmap = bitmap; prints = slice_set prints k x })))) [
        | true ↦ hold_more told x call.limit hold has
        | false ↦ next_told hold (record { bitmap = bitmap; prints = slice_set prints k x }) (candidate_bits bitmap (slice_set prints k x) call.print call.view.layout.slots) (hold_more told x call.limit hold has)
      ]
  look_told (look.Name hold directory left slot k) here has =
      elim (x == slice_index call.name k) as (λ b. Told (cond b (cond (nat_lt (k + 1) WORDS) (look_to call (look.Name hold directory left slot (k + 1))) (look_to call (look.Value hold directory slot))) (next_candidate call hold directory (without_live left slot)))) [
        | true ↦ elim (nat_lt (k + 1) WORDS) as (λ b. Told (cond b (look_to call (look.Name hold directory left slot (k + 1))) (look_to call (look.Value hold directory slot)))) [
          | true ↦ hold_more told x call.limit hold has
          | false ↦ hold_more told x call.limit hold has
        ]
        | false ↦ next_told hold directory (without_live left slot) (hold_more told x call.limit hold has)
      ]
  look_told (look.Value hold directory slot) here has = hold_more told x call.limit hold has

-- ---- a whole call

-- the end of a write is answered that it took place
finish_told : (l : Layout) (g : ℕ) (told : List ℕ) (finish : Finish) (at : FinishAt) (x : ℕ) → RunningTold l g told (wrapped Putting (put_finished (finish_at_turned finish at x)))
finish_told l g told finish (finish_at.Fence line fence) x = on (fence_next fence x)
  where
    on : (next : Option Fence) → RunningTold l g told (wrapped Putting (put_finished (finish_fenced finish line next)))
    on (Some next) = tt
    on None = tt
finish_told l g told finish finish_at.Add x = tt
finish_told l g told finish (finish_at.Unlock place) x = tt

goes_told : (told : List ℕ) (finish : Finish) (line : Option ℕ) → DelHas told (goes_on finish line)
goes_told told finish None = tt
goes_told told finish (Some line) = on finish.at
  where
    on : (at : FinishAt) → DelHas told (merges_at finish line at)
    on (finish_at.Fence first fence) = tt
    on finish_at.Add = tt
    on (finish_at.Unlock place) = tt

del_finish_told : (l : Layout) (g : ℕ) (told : List ℕ) (finish : Finish) (line : Option ℕ) (at : FinishAt) (x : ℕ) → RunningTold l g told (wrapped Deleting (del_finished line (finish_at_turned finish at x)))
del_finish_told l g told finish line (finish_at.Fence first fence) x = on (fence_next fence x)
  where
    on : (next : Option Fence) → RunningTold l g told (wrapped Deleting (del_finished line (finish_fenced finish first next)))
    on (Some next) = goes_told told (record finish { at = finish_at.Fence first next }) line
    on None = goes_told told (record finish { at = finish_at.Add }) line
del_finish_told l g told finish line finish_at.Add x = goes_told told (record finish { at = finish_at.Unlock x }) line
del_finish_told l g told finish line (finish_at.Unlock place) x = tt

put_full_has : (l : Layout) (g : ℕ) (told : List ℕ) (call : Call) (hold : Hold) (bitmap value : ℕ) (hit : Option Hit) → PutHas l g told (put_full call hold bitmap hit value)
put_full_has l g told call hold bitmap value None = tt
put_full_has l g told call hold bitmap value (Some hit) = tt

put_into_has : (l : Layout) (g : ℕ) (told : List ℕ) (call : Call) (found : Found) (value : ℕ) (slot : Option ℕ) → PutHas l g told (put_into call found value slot)
put_into_has l g told call found value None = put_full_has l g told call found.hold found.directory.bitmap value found.hit
put_into_has l g told call found value (Some slot) = tt

put_told : (p : Put) (told : List ℕ) (x : ℕ) → IsPut p → PutHas (put_call p).view.layout (put_call p).view.generation told p
    → RunningTold (put_call p).view.layout (put_call p).view.generation (told ++ x ∷ []) (wrapped Putting (put_turned p x))
put_told (put.Single (single_put.Looking lookup value)) told x here has = on (lookup_turned lookup x) (look_told lookup.call told x lookup.at here.0.here has)
  where
    on : (turn : Turn Lookup Looked) → LookTold lookup.call.view.layout lookup.call.view.generation (told ++ x ∷ []) lookup.call.limit turn
        → RunningTold lookup.call.view.layout lookup.call.view.generation (told ++ x ∷ []) (wrapped Putting (put_looked lookup.call value turn))
    on (Go next) so = so
    on (Done (looked.Early answer)) so = so
    on (Done (looked.Found found)) so = put_into_has lookup.call.view.layout lookup.call.view.generation (told ++ x ∷ []) lookup.call found value (lowest_clear found.directory.bitmap lookup.call.view.layout.slots)
put_told (put.Single (single_put.Filling fill)) told x here has = on (fill_turned fill x)
  where
    on : (turn : Turn Fill Finish) → RunningTold fill.call.view.layout fill.call.view.generation (told ++ x ∷ []) (wrapped Putting (put_filled turn))
    on (Go next) = tt
    on (Done finish) = tt
put_told (put.Single (single_put.Replacing call hold bitmap hit value)) told x here has = tt
put_told (put.Single (single_put.Finishing finish)) told x here has = finish_told finish.call.view.layout finish.call.view.generation (told ++ x ∷ []) finish finish.at x
put_told (put.Splitting call hold bitmap value split) told x here has =
    on (split_turned split x)
    (subst (λ (v : View). SplitTold v.layout v.generation (told ++ x ∷ []) (split_turned split x)) here.view
    (split_told split split.at told x here.here.here (subst (λ (v : View). SplitHas v.layout v.generation told split.at) (sym here.view) has)))
  where
    on : (turn : Turn Split SplitDone) → SplitTold call.view.layout call.view.generation (told ++ x ∷ []) turn
        → RunningTold call.view.layout call.view.generation (told ++ x ∷ []) (wrapped Putting (put_split call hold bitmap value turn))
    on (Go next) so = so
    on (Done (split_done.Done fresh)) so = tt
    on (Done (split_done.Again why)) so = so

del_told : (d : Del) (told : List ℕ) (x : ℕ) → IsDel d → DelHas told d → RunningTold (del_call d).view.layout (del_call d).view.generation (told ++ x ∷ []) (wrapped Deleting (del_turned d x))
del_told (del.Single (single_del.Looking lookup)) told x here has = on (lookup_turned lookup x) (look_told lookup.call told x lookup.at here.0.here has)
  where
    slot : (hold : Hold) (bitmap : ℕ) (hit : Hit) → DelHas (told ++ x ∷ []) (del_slot lookup.call hold bitmap hit)
    slot hold bitmap hit = elim (nat_lt (lookup.call.view.layout.slots / 2) (names_left lookup.call bitmap hit)) as (λ b. DelHas (told ++ x ∷ []) (cond b (del.Single (single_del.Clearing lookup.call hold bitmap hit None)) (del.Single (single_del.Next lookup.call hold bitmap hit)))) [
      | true ↦ tt
      | false ↦ tt
    ]

    found_has : (hold : Hold) (bitmap : ℕ) (hit : Option Hit) → DelHas (told ++ x ∷ []) (del_hit lookup.call hold bitmap hit)
    found_has hold bitmap None = tt
    found_has hold bitmap (Some hit) = slot hold bitmap hit

    on : (turn : Turn Lookup Looked) → LookTold lookup.call.view.layout lookup.call.view.generation (told ++ x ∷ []) lookup.call.limit turn
        → RunningTold lookup.call.view.layout lookup.call.view.generation (told ++ x ∷ []) (wrapped Deleting (del_looked lookup.call turn))
    on (Go next) so = so
    on (Done (looked.Early answer)) so = so
    on (Done (looked.Found found)) so = found_has found.hold found.directory.bitmap found.hit
del_told (del.Single (single_del.Next call hold bitmap hit)) told x here has =
    elim (x == 0) as (λ b. DelHas (told ++ x ∷ []) (cond b (del.Single (single_del.Clearing call hold bitmap hit None)) (del.Single (single_del.Taking call hold bitmap hit (take_from call.view.layout call.view.caller))))) [
      | true ↦ tt
      | false ↦ starts_full (told ++ x ∷ [])
    ]
del_told (del.Single (single_del.Taking call hold bitmap hit take)) told x here has = on (take_turned take x) (take_told take take.at told x here.2.here.index refl has)
  where
    on : (turn : Turn Take Taken) → TakeTold (told ++ x ∷ []) turn → RunningTold call.view.layout call.view.generation (told ++ x ∷ []) (wrapped Deleting (del_taken call hold bitmap hit turn))
    on (Go next) so = so
    on (Done (taken.Line line)) so = tt
    on (Done taken.Full) so = so
del_told (del.Single (single_del.Refusing call hold bitmap hit)) told x here has = longer call.view.layout call.view.generation told x again.LogFull has
del_told (del.Single (single_del.Clearing call hold bitmap hit line)) told x here has = tt
del_told (del.Single (single_del.Finishing finish line)) told x here has = del_finish_told finish.call.view.layout finish.call.view.generation (told ++ x ∷ []) finish line finish.at x
del_told (del.Merging call hold old place merge) told x here has = on (merge_turned merge x)
  where
    on : (turn : Turn Merge Merged) → RunningTold call.view.layout call.view.generation (told ++ x ∷ []) (wrapped Deleting (del_merged call hold old place turn))
    on (Go next) = tt
    on (Done merged) = tt

get_told : (m : Get) (told : List ℕ) (x : ℕ) → IsGet m → GetHas told m → RunningTold (get_call m).view.layout (get_call m).view.generation (told ++ x ∷ []) (wrapped Getting (get_turned m x))
get_told (get.Looking lookup) told x here has = on (lookup_turned lookup x) (look_told lookup.call told x lookup.at here.0.here has)
  where
    on : (turn : Turn Lookup Looked) → LookTold lookup.call.view.layout lookup.call.view.generation (told ++ x ∷ []) lookup.call.limit turn
        → RunningTold lookup.call.view.layout lookup.call.view.generation (told ++ x ∷ []) (wrapped Getting (get_looked lookup.call turn))
    on (Go next) so = so
    on (Done (looked.Early answer)) so = so
    on (Done (looked.Found found)) so = hold_read (told ++ x ∷ []) lookup.call.limit found.hold here.1 so
get_told (get.Checking call hold old) told x here has =
    elim (x == hold.locked) as (λ b. (x == hold.locked) ≡ b → HasCauseIn call.view.layout call.view.generation (told ++ x ∷ []) (cond b (once.Done (record { old = old; place = hold.clock; hops = call.hops })) (once.Again (again.Moved call.node hold.locked x)))) [
      | true ↦ λ same. tt
      | false ↦ λ other. (Contains-append_left told (x ∷ []) hold.locked has, at_end told x, eqb-false _ _ other)
    ] refl

early_told : (l : Layout) (g : ℕ) (told : List ℕ) (answer : Once Placed) → HasCauseIn l g told answer → HasCauseIn l g told (placed_of (early_of answer))
early_told l g told (once.Done placed) so = tt
early_told l g told (once.Spent clock) so = tt
early_told l g told (once.Worn node word) so = so
early_told l g told (once.Again why) so = so

-- once its walk has ended it has its node as it saw it
saw_told : (told : List ℕ) (next : Lookup) (count : ℕ) (at : LookupAt) → next.at ≡ at → LookHas told next.call.limit next.at → PartHas told (part_walked next count (seen_at at))
saw_told told next count (look.Floor floor) is has = has
saw_told told next count (look.Walk walk) is has = has
saw_told told next count (look.Read seen) is has = subst (LookHas told next.call.limit) is has
saw_told told next count (look.Lock seen locked) is has = has
saw_told told next count (look.Clock locked) is has = has
saw_told told next count (look.Spent hold) is has = has
saw_told told next count (look.Bitmap hold) is has = has
saw_told told next count (look.Prints hold bitmap prints k) is has = has
saw_told told next count (look.Name hold directory left slot k) is has = has
saw_told told next count (look.Value hold directory slot) is has = has

-- what it was told stands by whichever way it has its node
way_told : (told : List ℕ) (way : Way) (word : ℕ) → Contains told word → WayHas told way word
way_told told (ways.Served words) word has = has
way_told told (ways.Held words) word has = tt
way_told told ways.Alone word has = has

way_longer : (told : List ℕ) (x : ℕ) (way : Way) (word : ℕ) → WayHas told way word → WayHas (told ++ x ∷ []) way word
way_longer told x (ways.Served words) word has = Contains-append_left told (x ∷ []) word has
way_longer told x (ways.Held words) word has = tt
way_longer told x ways.Alone word has = Contains-append_left told (x ∷ []) word has

sorted_told : (told : List ℕ) (r : Reading) (way : Way) → r.way ≡ way → WayHas told r.way r.hold.locked → WayHas told (sorted_by r way).way (sorted_by r way).hold.locked
sorted_told told r (ways.Served words) is has = has
sorted_told told r (ways.Held words) is has = tt
sorted_told told r ways.Alone is has = has

all_told : (told : List ℕ) (r : Reading) → WayHas told r.way r.hold.locked → WayHas told (all_loaded r).way (all_loaded r).hold.locked
all_told told r has = sorted_told told (record r { old = low_value r r.call.view.layout.slots }) r.way refl has

reads_told : (told : List ℕ) (r : Reading) (at : ReadingAt) → WayHas told r.way r.hold.locked → WayHas told (reads_on r at).way (reads_on r at).hold.locked
reads_told told r (reading_at.Load slot word) has = has
reads_told told r reading_at.Clock has = all_told told r has
reads_told told r reading_at.Bitmap has = all_told told r has
reads_told told r reading_at.Check has = all_told told r has
reads_told told r (reading_at.Store store) has = all_told told r has
reads_told told r reading_at.Unlock has = all_told told r has

part_told : (p : Part) (told : List ℕ) (x : ℕ) → IsPart p → PartHas told p → RunningTold (part_call p).view.layout (part_call p).view.generation (told ++ x ∷ []) (wrapped_part (part_turned p x))
part_told (part.Looking lookup count) told x here has = on (lookup_turned lookup x) (look_told lookup.call told x lookup.at here.0.here has)
  where
    on : (turn : Turn Lookup Looked) → LookTold lookup.call.view.layout lookup.call.view.generation (told ++ x ∷ []) lookup.call.limit turn
        → RunningTold lookup.call.view.layout lookup.call.view.generation (told ++ x ∷ []) (wrapped_part (part_looked count turn))
    on (Go next) so = saw_told (told ++ x ∷ []) next count next.at refl so
    on (Done (looked.Early answer)) so = early_told lookup.call.view.layout lookup.call.view.generation (told ++ x ∷ []) answer so
    on (Done (looked.Found found)) so = tt
part_told (part.Ordering call seen count load) told x here has = on (load_turned load x)
  where
    longer_so : Contains (told ++ x ∷ []) seen.version
    longer_so = Contains-append_left told (x ∷ []) seen.version has

    ordered : (order : Option (List ℕ)) → PartHas (told ++ x ∷ []) (part_ordered call seen count order)
    ordered (Some words) = longer_so
    ordered None = elim (is_worn_word seen.version call.view.generation) as (λ b. PartHas (told ++ x ∷ []) (cond b (part.Dating call seen count ways.Alone)
        (part.Locking call seen count (locked_word call.view.generation (kept_count seen.version call.view.generation))))) [
          | true ↦ longer_so
          | false ↦ longer_so
        ]

    on : (turn : Turn LoadPermutation (Option (List ℕ))) → RunningTold call.view.layout call.view.generation (told ++ x ∷ []) (wrapped_part (ordering_turned call seen count turn))
    on (Go next) = longer_so
    on (Done order) = ordered order
part_told (part.Locking call seen count locked) told x here has =
    elim (x == seen.version) as (λ b. (x == seen.version) ≡ b → RunningTold call.view.layout call.view.generation (told ++ x ∷ [])
    (wrapped_part (cond b (Go (part_held call seen count locked)) (Done (once.Again (again.Moved call.node seen.version x)))))) [
      | true ↦ λ same. tt
      | false ↦ λ other. (Contains-append_left told (x ∷ []) seen.version has, at_end told x, eqb-false _ _ other)
    ] refl
part_told (part.Dating call seen count way) told x here has = way_told (told ++ x ∷ []) way seen.version (Contains-append_left told (x ∷ []) seen.version has)
part_told (part.Reading reading) told x here has = on reading.at here.here
  where
    longer_so : WayHas (told ++ x ∷ []) reading.way reading.hold.locked
    longer_so = way_longer told x reading.way reading.hold.locked has

    freely : (way : Way) → IsFreely way → WayHas (told ++ x ∷ []) way reading.hold.locked → Contains (told ++ x ∷ []) reading.hold.locked
    freely (ways.Served words) free so = so
    freely (ways.Held words) free so = absurd free
    freely ways.Alone free so = so

    stored : (turn : Turn StorePermutation (Unit {0})) → PartHas (told ++ x ∷ []) (part.Reading (store_on reading turn))
    stored (Go store) = longer_so
    stored (Done nothing) = longer_so

    on : (at : ReadingAt) → IsReadingAt reading at → RunningTold reading.call.view.layout reading.call.view.generation (told ++ x ∷ []) (wrapped_part (reading_turned reading at x))
    on reading_at.Clock is = longer_so
    on reading_at.Bitmap is = reads_told (told ++ x ∷ []) (record reading { bitmap = x }) (next_at x 0 reading.call.view.layout.slots) longer_so
    on (reading_at.Load slot word) is = reads_told (told ++ x ∷ []) (record reading { entries = with_word reading.entries slot word x }) (after_at reading slot word) longer_so
    on (reading_at.Store store) is = stored (store_turned store x)
    on reading_at.Unlock is = tt
    on reading_at.Check is =
        elim (x == reading.hold.locked) as (λ b. (x == reading.hold.locked) ≡ b → HasCauseIn reading.call.view.layout reading.call.view.generation (told ++ x ∷ [])
        (placed_of (cond b (once.Done (part_words reading)) (once.Again (again.Moved reading.call.node reading.hold.locked x))))) [
          | true ↦ λ same. tt
          | false ↦ λ other. (freely reading.way is.0 longer_so, at_end told x, eqb-false _ _ other)
        ] refl

own_told : (m : Running) (told : List ℕ) (x : ℕ) → IsRunning m → RunningHas (running_call m).view.layout (running_call m).view.generation told m
    → RunningTold (running_call m).view.layout (running_call m).view.generation (told ++ x ∷ []) (running_turned m x)
own_told (Getting m) told x here has = get_told m told x here has
own_told (Putting m) told x here has = put_told m told x here has
own_told (Deleting m) told x here has = del_told m told x here has
own_told (Parting p) told x here has = part_told p told x here has

-- A step of a call adds what it is told, and an answer has its cause in that.
pub running_told : (l : Layout) (g : ℕ) (m : Running) (told : List ℕ) (x : ℕ) → Sound l g m → RunningHas l g told m → RunningTold l g (told ++ x ∷ []) (running_turned m x)
running_told l g m told x sound has =
    subst (λ (q : Layout × ℕ). RunningTold q.0 q.1 (told ++ x ∷ []) (running_turned m x)) (λ k. (sound.layout k, sound.generation k))
    (own_told m told x sound.here (subst (λ (q : Layout × ℕ). RunningHas q.0 q.1 told m) (λ k. (sym sound.layout k, sym sound.generation k)) has))

-- A call that begins has been told nothing.
pub nothing_told : (l : Layout) (g : ℕ) (v : View) (c : CoreCall) → RunningHas l g [] (machine_of v c)
nothing_told l g v (core_call.Put name value limit) = tt
nothing_told l g v (core_call.Get name) = tt
nothing_told l g v (core_call.Del name limit) = tt
nothing_told l g v (core_call.Part low count) = tt
nothing_told l g v (core_call.Recheck node version) = tt
nothing_told l g v (core_call.Turn stamp release) = tt

pub calls_hear : CallsHear
calls_hear l g machine x sound numbers has = running_told l g machine numbers x sound has
