-- The merge of a lone delete, turn by turn.
use Rattle.std.proofs.Common.{◌≡◌, ◌≢◌, ℕ, zero, suc, ◌+◌, ◌/◌, ◌<◌, ◌==◌, ◌⊎◌, inl, ⊎_elim, true, false, cond, ◌&&◌, nat_lt, List, [], ◌∷◌, refl, sym, ap, ◌∙◌, subst, arith, ltb-true, eqb-true}
use Rattle.std.proofs.lemmas.Bool.{eq-eqb}
use Rattle.std.specs.Prelude.{Option, slice_index, slice_set, replicate}
use Rattle.std.specs.Int.{bit_at}
use Rattle.pm_words.specs.declared.layout.Layout.{Layout}
use Rattle.pm_words.specs.declared.machine.Turn.{Turn}
use Rattle.pm_words.specs.declared.machine.Turn.TheVariants.{Go, Done}
use Rattle.pm_words.specs.declared.action.Action.TheVariants.{Load}
use Rattle.pm_words.specs.Rows.{got}
use Rattle.pm_words.specs.Offsets.{bitmap_offset, next_offset}
use Rattle.version_lock.specs.Versions.{IsFree, IsWorn, is_free_word, is_worn_word}
use Rattle.version_lock.proofs.WordTests.{taken_word, worn_word, fresh_word}
use Rattle.cat_history.specs.declared.op.Change.{Change}
use Rattle.data_node.specs.Bits.{live_count}
use Rattle.data_node.specs.Spots.{Spot}
use Rattle.data_node.specs.Lists.{ListNode, anchor_in, IsMember, IsChain, Rise}
use Rattle.data_node.proofs.ListLemmas.{not_behind, rise_at}
use Rattle.call_stages.specs.Kinds.{version_address, word_address}
use Rattle.call_stages.specs.Stages.{Held, Stage, Idle, Saw, Wears, Reads, Holds, Eyes, Splits, Leaves, Meets, Joins}
use Rattle.node_ops.proofs.MergeFacts.{IsOfMerge}
use Rattle.pm_alloc.specs.Claims.{lock_of}
use Rattle.split_merge.specs.declared.merging.Near.{Near}
use Rattle.split_merge.specs.declared.joining.Join.{Join}
use Rattle.split_merge.specs.declared.joining.JoinAt.{JoinAt}
use Rattle.split_merge.specs.declared.joining.JoinAt.TheVariants as join_at
use Rattle.split_merge.specs.declared.merging.Merge.{Merge}
use Rattle.split_merge.specs.declared.merging.MergeAt.{MergeAt}
use Rattle.split_merge.specs.declared.merging.MergeAt.TheVariants as stands
use Rattle.split_merge.specs.declared.merging.Merged.{Merged}
use Rattle.split_merge.specs.Joins.{join_at_turned, join_turned}
use Rattle.split_merge.specs.JoinStages.{join_at_stage}
use Rattle.split_merge.specs.Merges.{IsMergeAt, after_next, saw_version, finds, no_head, has_head, next_head, crowded, join_from, union_of, prints_count, merge_at_asks, merge_asks, merge_at_turned, merge_turned, merges_on, joined}
use Rattle.split_merge.specs.MergeStages.{knows_near, neighbour, head_before, merge_at_footing, merge_footing}
use Rattle.index_law.specs.Facts.{range_of, IsListed}
use Rattle.index_law.specs.Worlds.{Party, World, facts}
use Rattle.index_law.specs.Lawful.{Sure, SureHolds, SureEyes, SureMeets}
use Rattle.index_law.specs.Laws.{IsAtRest}
use Rattle.index_law.specs.LoneShapes.{has_merged, live_in}
use Rattle.index_law.proofs.Rows.{version_in-here, spot_in-here}
use Rattle.index_law.proofs.Switch.{inside_listed}
use Rattle.lone_call_law.specs.Locks.{HasLocked, HoldsOne, HoldsBoth}
use Rattle.lone_call_law.specs.Merging.{NextIsWorn, ShapeMerges, next_node}
use Rattle.lone_call_law.specs.MergeStands.{merge_leaves, MergeForesees}
use Rattle.lone_call_law.specs.Tries.{is_cut, HasDeleted, IsFor, Trying}
use Rattle.lone_call_law.proofs.Standing.{both, list_uncut, leads_there, alone_unmerged, crowded_unmerged}
use Rattle.shapes.proofs.Agreements.{and-first, and-second}

-- what is merged is merged for the delete that its call has counted
pub merge_is_for : (name : List ℕ) (own : Option Change) (h : Held) (s : Stage) → IsOfMerge h s → HasDeleted name own h → IsFor name own s
merge_is_for name own h (Holds n w k) is deleted = tt
merge_is_for name own h (Eyes n w k m v u free) is deleted = tt
merge_is_for name own h (Meets n w k right) is deleted = record { named = is.name ∙ deleted.named; deletes = deleted.deletes; placed = λ e. deleted.placed (sym is.placed ∙ e); value = deleted.value; old = is.old ∙ deleted.old }
merge_is_for name own h (Joins k left right pace) is deleted = record { named = is.name ∙ deleted.named; deletes = deleted.deletes; placed = λ e. deleted.placed (sym is.placed ∙ e); value = deleted.value; old = is.old ∙ deleted.old }
merge_is_for name own h Idle is deleted = absurd is
merge_is_for name own h (Saw n v w k) is deleted = absurd is
merge_is_for name own h (Wears n v) is deleted = absurd is
merge_is_for name own h (Reads n v sight told) is deleted = absurd is
merge_is_for name own h (Splits left fresh phase) is deleted = absurd is
merge_is_for name own h (Leaves left) is deleted = absurd is

-- ---- it parts once

-- a turn of it that held both nodes, and holds one then, has nothing more to do; and then it ends
abbrev pub MergeParts : Held → Merge → Turn Merge Merged → Type 0
MergeParts h merge (Go next) = (HoldsBoth (merge_footing h merge).stage → HoldsOne (merge_footing h next).stage → merge_leaves next.at ≡ true) ×
    (merge_leaves merge.at ≡ true → HoldsOne (merge_footing h merge).stage → ⊥)
MergeParts h merge (Done merged) = Unit {0}

pub merge_parts : (h : Held) (merge : Merge) (x : ℕ) → MergeParts h merge (merge_turned merge x)
merge_parts h merge x = by_at merge.at
  where
    joined_on : (join : Join) (turn : Turn Join (Unit {0})) → (HoldsOne (join_at_stage h join.union join.at) → ⊥) → MergeParts h (record merge { at = stands.Join join }) (joined merge turn)
    joined_on join (Go next) none = ((λ two one. refl), λ leaves. none)
    joined_on join (Done nothing) none = tt

    on_join : (join : Join) (at : JoinAt) → MergeParts h (record merge { at = stands.Join (record join { at = at }) }) (joined merge (join_at_turned (record join { at = at }) at x))
    on_join join (join_at.Open machine) = joined_on (record join { at = join_at.Open machine }) (join_at_turned (record join { at = join_at.Open machine }) (join_at.Open machine) x) (λ one. one)
    on_join join (join_at.Load left word) = joined_on (record join { at = join_at.Load left word }) (join_at_turned (record join { at = join_at.Load left word }) (join_at.Load left word) x) (λ one. one)
    on_join join (join_at.Copy left word value) = joined_on (record join { at = join_at.Copy left word value }) (join_at_turned (record join { at = join_at.Copy left word value }) (join_at.Copy left word value) x) (λ one. one)
    on_join join (join_at.Print word) = joined_on (record join { at = join_at.Print word }) (join_at_turned (record join { at = join_at.Print word }) (join_at.Print word) x) (λ one. one)
    on_join join (join_at.FenceCopies first fence) = joined_on (record join { at = join_at.FenceCopies first fence }) (join_at_turned (record join { at = join_at.FenceCopies first fence }) (join_at.FenceCopies first fence) x) (λ one. one)
    on_join join join_at.Bitmap = joined_on (record join { at = join_at.Bitmap }) (join_at_turned (record join { at = join_at.Bitmap }) join_at.Bitmap x) (λ one. one)
    on_join join (join_at.FenceBitmap fence) = joined_on (record join { at = join_at.FenceBitmap fence }) (join_at_turned (record join { at = join_at.FenceBitmap fence }) (join_at.FenceBitmap fence) x) (λ one. one)
    on_join join join_at.Switch = joined_on (record join { at = join_at.Switch }) (join_at_turned (record join { at = join_at.Switch }) join_at.Switch x) (λ one. one)
    on_join join (join_at.FenceSwitch fence) = joined_on (record join { at = join_at.FenceSwitch fence }) (join_at_turned (record join { at = join_at.FenceSwitch fence }) (join_at.FenceSwitch fence) x) (λ one. one)
    on_join join join_at.Retire = joined_on (record join { at = join_at.Retire }) (join_at_turned (record join { at = join_at.Retire }) join_at.Retire x) (λ one. one)
    on_join join join_at.Prev = joined_on (record join { at = join_at.Prev }) (join_at_turned (record join { at = join_at.Prev }) join_at.Prev x) (λ one. one)
    on_join join join_at.NextPrev = joined_on (record join { at = join_at.NextPrev }) (join_at_turned (record join { at = join_at.NextPrev }) join_at.NextPrev x) (λ one. one)
    on_join join (join_at.Ready ready) = joined_on (record join { at = join_at.Ready ready }) (join_at_turned (record join { at = join_at.Ready ready }) (join_at.Ready ready) x) (λ one. one)
    on_join join join_at.UnlockRight = joined_on (record join { at = join_at.UnlockRight }) (join_at_turned (record join { at = join_at.UnlockRight }) join_at.UnlockRight x) (λ one. one)
    on_join join join_at.Unlock = tt

    by_at : (at : MergeAt) → MergeParts h (record merge { at = at }) (merge_at_turned merge at x)
    by_at stands.Bitmap = ((λ two. absurd two), λ leaves. absurd (both leaves refl))
    by_at (stands.Next own) = ((λ two. absurd two), λ leaves. absurd (both leaves refl))
    by_at (stands.Version near) = ((λ two. absurd two), λ leaves. absurd (both leaves refl))
    by_at (stands.Lock near version locked) = ((λ two. absurd two), λ leaves. absurd (both leaves refl))
    by_at (stands.Head near locked head count) =
        elim ((count == 1) && nat_lt (merge.view.layout.slots / 2) (crowded merge near x)) as (λ b. MergeParts h (record merge { at = stands.Head near locked head count }) (merges_on merge
        (cond b (stands.Part near locked x) (next_head near locked (slice_set head count x) count)))) [
          | true ↦ ((λ two one. absurd one), λ leaves. absurd (both leaves refl))
          | false ↦ elim (nat_lt (count + 1) 16) as (λ b. MergeParts h (record merge { at = stands.Head near locked head count }) (merges_on merge
              (cond b (stands.Head near locked (slice_set head count x) (count + 1)) (stands.Prints near locked (slice_set head count x) (replicate 4 0) 0)))) [
                | true ↦ ((λ two one. absurd one), λ leaves. absurd (both leaves refl))
                | false ↦ ((λ two one. absurd one), λ leaves. absurd (both leaves refl))
              ]
        ]
    by_at (stands.Prints near locked head prints count) =
        elim (nat_lt (count + 1) (prints_count merge.view)) as (λ b. MergeParts h (record merge { at = stands.Prints near locked head prints count }) (merges_on merge
        (cond b (stands.Prints near locked head (slice_set prints count x) (count + 1)) (stands.Join (join_from (union_of merge near locked head (slice_set prints count x))))))) [
          | true ↦ ((λ two one. absurd one), λ leaves. absurd (both leaves refl))
          | false ↦ ((λ two one. refl), λ leaves. absurd (both leaves refl))
        ]
    by_at (stands.Join join) = on_join join join.at
    by_at (stands.Part near locked bitmap) = ((λ two one. refl), λ leaves. absurd (both leaves refl))
    by_at (stands.Leave near) = tt

-- ---- it foresees whether it merges

-- a member leads to another than itself
leads_away : (now : ℕ → Spot) (here : ℕ) (list : List ListNode) → IsChain now here list → Rise (anchor_in (now here)) list → (n : ℕ) → (n ≡ here) ⊎ IsMember list n → now n next_offset ≢ 0 → now n next_offset ≢ n
leads_away now here [] chain rise n among nonzero same = ⊎_elim (λ (e : n ≡ here). nonzero (ap (λ k. now k next_offset) e ∙ chain)) (λ none. absurd none) among
leads_away now here (m ∷ behind) chain rise n among nonzero same = ⊎_elim
    (λ (e : n ≡ here). not_behind now here (m ∷ behind) chain rise (inl (sym e ∙ sym same ∙ ap (λ k. now k next_offset) e ∙ chain.0)))
    (λ later. leads_away now m.node behind chain.3 (rise_at now m behind chain.2 rise.1) n later nonzero same)
    among

pub live_is : (slots : ℕ) (s : Spot) → live_in slots s ≡ live_count slots (s bitmap_offset)
live_is zero s = refl
live_is (suc slot) s = ap (λ n. cond (bit_at (s bitmap_offset) slot == 1) 1 0 + n) (live_is slot s)

-- where it is after a turn
abbrev pub ForeseesSo : World → List ℕ → Turn Merge Merged → Type 0
ForeseesSo w0 name (Go next) = MergeForesees w0 name next.at
ForeseesSo w0 name (Done merged) = Unit {0}

module _ (name : List ℕ) (own : Option Change) (w0 : World) (i : ℕ) (w : World) (p : Party) (o : Trying name own w0 i w p) (rest : IsAtRest w0) (merge : Merge) (h : Held) (deleted : HasDeleted name own h)
    (unmerged : h.merged ≡ false) (layout : merge.view.layout ≡ w.layout) (generation : merge.view.generation ≡ w.generation) (within : merge.node < w.layout.nodes) (x : ℕ) where
  abbrev So : MergeAt → Type 0
  So next = MergeForesees w0 name next

  -- a word of a node that it loads
  loaded_word : (n offset : ℕ) → n < w.layout.nodes → 0 < offset → offset < 16 → x ≡ got w.layout w.words (Load (word_address merge.view.layout n offset)) → x ≡ (facts w).now n offset
  loaded_word n offset here positive small told =
      told ∙ ap (λ (l : Layout). slice_index w.words (word_address l n offset)) layout ∙ sym (spot_in-here w.layout w.words n offset (here, let slots = o.lawful.row.layout.slots.0 in omega arith) positive)

  -- of a free word that isn't worn it takes the lock
  saw : (near : Near) → x ≡ (facts w0).version near.right → near.right ≡ next_node w0 name → IsFree x merge.view.generation → So (saw_version merge near x)
  saw near same right free =
      elim (is_free_word x merge.view.generation) as (λ b. is_free_word x merge.view.generation ≡ b → So (cond b (cond (is_worn_word x merge.view.generation) (stands.Leave near) (stands.Lock near x (lock_of x merge.view.generation))) (stands.Leave near))) [
        | true ↦ λ _. elim (is_worn_word x merge.view.generation) as (λ b. is_worn_word x merge.view.generation ≡ b → So (cond b (stands.Leave near) (stands.Lock near x (lock_of x merge.view.generation)))) [
          | true ↦ λ worn. λ found. found.1 (worn_at (worn_word x merge.view.generation worn))
          | false ↦ λ fresh. (same, λ worn. fresh_word x merge.view.generation fresh (subst (λ (q : ℕ × ℕ). IsWorn q.0 q.1) (λ k. (sym word k, sym started k)) worn))
        ] refl
        | false ↦ λ taken. absurd (taken_word x merge.view.generation taken free)
      ] refl
    where
      word : x ≡ (facts w0).version (next_node w0 name)
      word = same ∙ ap (facts w0).version right

      started : merge.view.generation ≡ w0.generation
      started = generation ∙ o.start.generation

      worn_at : IsWorn x merge.view.generation → NextIsWorn w0 name
      worn_at worn = subst (λ (q : ℕ × ℕ). IsWorn q.0 q.1) (λ k. (word k, started k)) worn

  -- ---- by where it is
  at_next : (seen : ℕ) → p.stage ≡ (merge_at_footing h merge (stands.Next seen)).stage → x ≡ (facts w).now merge.node next_offset → So (after_next (record { own = seen; right = x }))
  at_next seen stage told =
      elim (x == 0) as (λ b. (x == 0) ≡ b → So (cond b (stands.Leave (record { own = seen; right = x })) (stands.Version (record { own = seen; right = x })))) [
        | true ↦ λ zero found. alone_unmerged name own w0 i w p o merge.node merge.word _ stage unmerged deleted.named (sym told ∙ eqb-true x 0 zero) found.0
        | false ↦ λ _. tt
      ] refl

  -- what it knows of the node that its own leads to
  record Neighbours (near : Near) : Type 0 where
    right : near.right ≡ next_node w0 name
    apart : near.right ≢ merge.node

  neighbours : (near : Near) (seen : (facts w).now merge.node next_offset ≡ near.right) → near.right ≢ 0 → (facts w).list ≡ (facts w0).list → range_of w.layout (facts w) merge.node h.name ≡ true → Neighbours near
  neighbours near seen nonzero list inside =
      let listed : IsListed (facts w) merge.node = inside_listed w.layout (facts w) o.lawful.list merge.node h.name inside in
      record {
        right = leads_there name own w0 i w p o merge.node near.right h.name deleted.named list inside listed seen;
        apart = λ e. leads_away (facts w).now 0 (facts w).list o.lawful.list.chain (subst (λ least. Rise least (facts w).list) (sym o.lawful.list.lowest) o.lawful.list.rise) merge.node listed
            (λ zero. nonzero (sym seen ∙ zero)) (seen ∙ e);
      }

  at_version : (near : Near) → p.stage ≡ (merge_at_footing h merge (stands.Version near)).stage → near.right < w.layout.nodes → near.right ≢ 0
      → ((m : ℕ) → m ≢ merge.node → (facts w).version m ≡ (facts w0).version m) → x ≡ got w.layout w.words (Load (version_address merge.view.layout near.right)) → So (saw_version merge near x)
  at_version near stage here nonzero others told =
      let knows : SureHolds w.layout w.generation (facts w) p.caller p.index p.since merge.node merge.word (knows_near near h) =
      subst (Sure w.layout w.generation (facts w) p.caller p.index p.since) stage (o.lawful.sure i p o.there) in
      let beside = neighbours near knows.knows.seen.1.0 nonzero (list_uncut name own w0 i w p o (ap is_cut stage) (ap has_merged stage ∙ unmerged)) knows.inside in
      let word : x ≡ (facts w0).version near.right =
      told ∙ ap (λ (l : Layout). slice_index w.words (version_address l near.right)) layout ∙ sym (version_in-here w.layout w.words near.right here) ∙ others near.right beside.apart in
      saw near word beside.right
      (subst (λ (q : ℕ × ℕ). IsFree q.0 q.1) (λ k. (sym word k, sym (generation ∙ o.start.generation) k)) (rest.free near.right (subst (λ (l : Layout). near.right < l.nodes) o.start.layout here)))

  at_lock : (near : Near) (version locked : ℕ) → p.stage ≡ (merge_at_footing h merge (stands.Lock near version locked)).stage → near.right < w.layout.nodes → near.right ≢ 0
      → ((m : ℕ) → m ≢ merge.node → (facts w).version m ≡ (facts w0).version m) → So (stands.Lock near version locked) → x ≡ slice_index w.words (version_address merge.view.layout near.right)
      → So (finds near version locked x)
  at_lock near version locked stage here nonzero others so told =
      let knows : SureHolds w.layout w.generation (facts w) p.caller p.index p.since merge.node merge.word (knows_near near h)
      × SureEyes w.layout w.generation (facts w) (knows_near near h) near.right version locked false =
      subst (Sure w.layout w.generation (facts w) p.caller p.index p.since) stage (o.lawful.sure i p o.there) in
      let beside = neighbours near knows.0.knows.seen.1.0 nonzero (list_uncut name own w0 i w p o (ap is_cut stage) (ap has_merged stage ∙ unmerged)) knows.0.inside in
      let word : x ≡ version =
      told ∙ ap (λ (l : Layout). slice_index w.words (version_address l near.right)) layout ∙ sym (version_in-here w.layout w.words near.right here) ∙ others near.right beside.apart ∙ sym so.0 in
      subst (λ b. So (cond b (stands.Head near locked no_head 1) (stands.Leave near))) (sym (eq-eqb x version word)) so.1

  at_head : (near : Near) (locked : ℕ) (head : List ℕ) (count : ℕ) → p.stage ≡ (merge_at_footing h merge (stands.Head near locked head count)).stage → near.right < w.layout.nodes → count < 16
      → (NextIsWorn w0 name → ⊥) → x ≡ got w.layout w.words (Load (word_address merge.view.layout near.right count)) → So (has_head merge near locked head count x)
  at_head near locked head count stage here few fresh told =
      elim ((count == 1) && nat_lt (merge.view.layout.slots / 2) (crowded merge near x)) as (λ b. ((count == 1) && nat_lt (merge.view.layout.slots / 2) (crowded merge near x)) ≡ b
      → So (cond b (stands.Part near locked x) (next_head near locked (slice_set head count x) count))) [
        | true ↦ λ is. λ found. is_crowded (and-first (count == 1) _ is) (and-second (count == 1) _ is) found.0
        | false ↦ λ _. elim (nat_lt (count + 1) 16) as (λ b. So (cond b (stands.Head near locked (slice_set head count x) (count + 1)) (stands.Prints near locked (slice_set head count x) (replicate 4 0) 0))) [
          | true ↦ fresh
          | false ↦ fresh
        ]
      ] refl
    where
      is_crowded : (count == 1) ≡ true → nat_lt (merge.view.layout.slots / 2) (crowded merge near x) ≡ true → ShapeMerges w0 name → ⊥
      is_crowded one more shape =
          let knows : SureHolds w.layout w.generation (facts w) p.caller p.index p.since merge.node merge.word (knows_near near h)
          × SureMeets w.layout w.generation (facts w) merge.node (knows_near near h) (neighbour near locked (head_before head count)) =
          subst (Sure w.layout w.generation (facts w) p.caller p.index p.since) stage (o.lawful.sure i p o.there) in
          let first : count ≡ 1 = eqb-true count 1 one in
          let own_word : (facts w).now merge.node bitmap_offset ≡ near.own = knows.0.knows.seen.0 in
          let right_word : (facts w).now near.right bitmap_offset ≡ x = sym (loaded_word near.right bitmap_offset here (omega arith) (omega arith) (subst (λ k. x ≡ got w.layout w.words (Load (word_address merge.view.layout near.right k))) first told)) in
          let left_live : live_in w.layout.slots ((facts w).now merge.node) ≡ live_count merge.view.layout.slots near.own =
          live_is w.layout.slots ((facts w).now merge.node) ∙ (λ k. live_count (sym layout k).slots (own_word k)) in
          let right_live : live_in w.layout.slots ((facts w).now near.right) ≡ live_count merge.view.layout.slots x =
          live_is w.layout.slots ((facts w).now near.right) ∙ (λ k. live_count (sym layout k).slots (right_word k)) in
          let many = ltb-true (merge.view.layout.slots / 2) (crowded merge near x) more in
          let same : merge.view.layout.slots ≡ w.layout.slots = ap (λ (l : Layout). l.slots) layout in
          let half : w.layout.slots / 2 ≡ merge.view.layout.slots / 2 = ap (λ n. n / 2) (sym same) in
          crowded_unmerged name own w0 i w p o merge.node merge.word (knows_near near h) (neighbour near locked (head_before head count)) stage
          (record { named = deleted.named; deletes = deleted.deletes; placed = deleted.placed; value = deleted.value; old = deleted.old }) (omega arith) shape

  -- each turn
  foresees_at : (at : MergeAt) → p.stage ≡ (merge_at_footing h merge at).stage → IsMergeAt merge.view merge.node merge.word merge.line at
      → HasLocked w.generation (facts w0).version (facts w).version (merge_leaves at) (merge_at_footing h merge at).stage
      → MergeForesees w0 name at → x ≡ got w.layout w.words (merge_at_asks merge at) → ForeseesSo w0 name (merge_at_turned merge at x)
  foresees_at stands.Bitmap stage is locks so told = tt
  foresees_at (stands.Next seen) stage is locks so told = at_next seen stage (loaded_word merge.node next_offset within (omega arith) (omega arith) told)
  foresees_at (stands.Version near) stage is locks so told = at_version near stage (subst (λ (l : Layout). near.right < l.nodes) layout is.0.right) is.1 locks.others told
  foresees_at (stands.Lock near version locked) stage is locks so told = at_lock near version locked stage (subst (λ (l : Layout). near.right < l.nodes) layout is.0.right) is.1 locks.others so told
  foresees_at (stands.Head near locked head count) stage is locks so told = at_head near locked head count stage (subst (λ (l : Layout). near.right < l.nodes) layout is.0.leads.right) is.3 so told
  foresees_at (stands.Prints near locked head prints count) stage is locks so told =
      elim (nat_lt (count + 1) (prints_count merge.view)) as (λ b. So (cond b (stands.Prints near locked head (slice_set prints count x) (count + 1)) (stands.Join (join_from (union_of merge near locked head (slice_set prints count x)))))) [
        | true ↦ so
        | false ↦ so
      ]
  foresees_at (stands.Join join) stage is locks so told = on (join_turned join x)
    where
      on : (turn : Turn Join (Unit {0})) → ForeseesSo w0 name (joined merge turn)
      on (Go next) = so
      on (Done nothing) = tt
  foresees_at (stands.Part near locked bitmap) stage is locks so told = so
  foresees_at (stands.Leave near) stage is locks so told = tt

  pub merge_foresees : p.stage ≡ (merge_footing h merge).stage → IsMergeAt merge.view merge.node merge.word merge.line merge.at
      → HasLocked w.generation (facts w0).version (facts w).version (merge_leaves merge.at) (merge_footing h merge).stage
      → MergeForesees w0 name merge.at → x ≡ got w.layout w.words (merge_asks merge) → ForeseesSo w0 name (merge_turned merge x)
  merge_foresees = foresees_at merge.at
