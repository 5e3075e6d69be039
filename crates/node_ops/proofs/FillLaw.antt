-- Each turn of the writing of a pair into a clear slot is a step of a kind.
use Rattle.std.proofs.Common.{◌≡◌, ℕ, zero, suc, ◌+◌, ◌%◌, ◌<◌, ◌≤◌, ◌^◌, ◌⊎◌, Bool, true, false, cond, ltb, List, [], ◌∷◌, ◌++◌, Option, Some, None, IfSome, length, take, get_or, inl, inr, ⊎_elim, refl, sym, subst, ap, ◌∙◌, arith, length-append}
use Rattle.std.specs.List.{AllByRecursion}
use Rattle.std.specs.Int.{bit_at}
use Rattle.std.specs.FinMap.{insert}
use Rattle.std.proofs.lemmas.Bool.{cases_eq, ltb-false, lt-ltb}
use Rattle.std.proofs.lemmas.List.{get_or-set_same}
use Rattle.cat_key.specs.Names.{words_of, fingerprint_of}
use Rattle.cat_key.proofs.Packing.{length-words_of, get_or-words_of_below, name_bytes}
use Rattle.cat_history.specs.Maps.{Map, at as map_at}
use Rattle.cat_history.specs.declared.op.Change.TheVariants as change
use Rattle.pm_words.specs.declared.action.Action.{Action}
use Rattle.pm_words.specs.declared.machine.Turn.{Turn}
use Rattle.pm_words.specs.declared.machine.Turn.TheVariants.{Go, Done}
use Rattle.data_node.specs.Slots.{IsLive, IsClear, prints_of}
use Rattle.data_node.specs.Bits.{with_live, without_live, printed}
use Rattle.data_node.specs.Spots.{Spot, updated, IsLiveIn, name_words, Means}
use Rattle.data_node.proofs.BitLemmas.{with_live_below, without_live_below, printed_below, prints_of-printed}
use Rattle.data_node.proofs.SpotLemmas.{updated-same, updated-other, lacks}
use Rattle.data_node.proofs.StoreLemmas.{HasPair, means_slot_store, means_print_store, means_added, means_moved_from}
use Rattle.call_stages.specs.Stages.{Knows, IsAmong, Held, Stage, Holds}
use Rattle.call_stages.specs.Kinds.{Soils, Step, stores, commits}
use Rattle.node_ops.specs.declared.call.Call.{Call}
use Rattle.node_ops.specs.declared.lookup.Hit.{Hit}
use Rattle.pm_words.specs.declared.fence.Fence.{Fence}
use Rattle.node_ops.specs.declared.fill.Fill.{Fill}
use Rattle.node_ops.specs.declared.fill.FillAt.{FillAt}
use Rattle.node_ops.specs.declared.fill.FillAt.TheVariants as fill_at
use Rattle.node_ops.specs.declared.finish.Finish.{Finish}
use Rattle.node_ops.specs.Calls.{name_in, call_address}
use Rattle.pm_words.specs.Locations.{node_words}
use Rattle.node_ops.specs.LookupSteps.{value_of, IsHit}
use Rattle.pm_words.specs.Fences.{line_of, fence_start, fence_asks, fence_next}
use Rattle.pm_words.specs.Offsets.{bitmap_offset, print_offset, slot_offset, value_word}
use Rattle.node_ops.specs.FillSteps.{slot_line, print_line}
use Rattle.node_ops.specs.FillSteps.{IsFill, IsFillAt, fill_word, bitmap_without, bitmap_after, fill_asks, fill_at_asks, fill_turned, fill_at_turned, slot_fenced, print_fenced}
use Rattle.node_ops.specs.CallStages.{words_from, nothing, knows, decided, fence_rest, seen_hit, seen_fill, pair_words, slot_words, fill_stage, fill_at_held, finish_stage}
use Rattle.node_ops.proofs.SeenLemmas.{Seen, Stand, seen_append, seen_front, seen_back, stand_taken, taken_stand, stand_whole, whole_stand, stand_updated, name_stands}
use Rattle.node_ops.proofs.FinishLaw.{Fences, fence_leads}

-- the kind of step of a turn
abbrev pub Fills : Call → Stage → Action → ℕ → Turn Fill Finish → Type 0
Fills call stage action x (Go fill) = Step call.view.layout call.view.generation stage action x (fill_stage fill) None
Fills call stage action x (Done finish) = Step call.view.layout call.view.generation stage action x (finish_stage finish) None

-- a fingerprint is a byte
pub fingerprint_below : (name : List ℕ) → fingerprint_of name < 256
unfolding fingerprint_of
fingerprint_below name = omega arith

-- the words of a pair: the name's, then the value
pair_word : (name : List ℕ) (value k : ℕ) → length name ≡ 3 → k < 4 → get_or (name ++ value ∷ []) k 0 ≡ cond (ltb k 3) (get_or name k 0) value
pair_word (a ∷ (b ∷ (c ∷ []))) value zero three small = refl
pair_word (a ∷ (b ∷ (c ∷ []))) value (suc zero) three small = refl
pair_word (a ∷ (b ∷ (c ∷ []))) value (suc (suc zero)) three small = refl
pair_word (a ∷ (b ∷ (c ∷ []))) value (suc (suc (suc zero))) three small = refl
pair_word (a ∷ (b ∷ (c ∷ []))) value (suc (suc (suc (suc k)))) three small = absurd (omega arith)
pair_word _ value k three small = absurd (omega arith)

-- where the name was, by a node's words
abbrev pub Hit_stands : Spot → Call → Option Hit → Type 0
Hit_stands s call hit = IfSome hit (λ h. Stand s (slot_offset h.slot 0) call.name (length call.name))

pub hit_seen : (s : Spot) (call : Call) (bitmap : ℕ) (hit : Option Hit) → Seen s (seen_hit call bitmap hit) → (s bitmap_offset ≡ bitmap) × Hit_stands s call hit
hit_seen s call bitmap None seen = (seen.0, tt)
hit_seen s call bitmap (Some hit) seen = (seen.0, stand_whole s (slot_offset hit.slot 0) call.name seen.1)

pub seen_hit_from : (s : Spot) (call : Call) (bitmap : ℕ) (hit : Option Hit) → s bitmap_offset ≡ bitmap → Hit_stands s call hit → Seen s (seen_hit call bitmap hit)
seen_hit_from s call bitmap None is stands = (is, tt)
seen_hit_from s call bitmap (Some hit) is stands = (is, whole_stand s (slot_offset hit.slot 0) call.name stands)

-- one more word of a slot is stored
slot_soils : (slot count : ℕ) → Soils (slot_words slot count) (slot_offset slot count) (slot_words slot (suc count))
slot_soils slot zero = record { stored = inl (omega arith, omega arith); others = λ offset none. absurd none }
slot_soils slot (suc count) = record {
  stored = inl (omega arith, omega arith);
  others = λ offset among. ⊎_elim (λ within. let high : offset < slot_offset slot 0 + suc count = within.1 in inl (within.0, omega arith)) (λ none. absurd none) among;
}

-- the words of slots stand behind the fingerprints
slot_behind : (slot count offset : ℕ) → IsAmong (slot_words slot count) offset → 16 ≤ offset
slot_behind slot zero offset none = absurd none
slot_behind slot (suc count) offset (inl within) = let low : slot_offset slot 0 ≤ offset = within.0 in omega arith
slot_behind slot (suc count) offset (inr none) = absurd none

-- the fingerprint is stored once the slot is, whose line the first fence is for
print_soils : (slot : ℕ) → Soils (slot_words slot 4) (print_offset slot) (fence_rest (slot_line slot) fence_start ∷ (print_offset slot, 1) ∷ [])
print_soils slot = record {
  stored = inr (inl (omega arith, omega arith));
  others = λ offset among. ⊎_elim (λ within.
      let low : slot_offset slot 0 ≤ offset = within.0 in
      let high : offset < slot_offset slot 0 + 4 = within.1 in
      inl (omega arith, omega arith)) (λ none. absurd none) among;
}

-- the second fence is for the line of the fingerprint
print_in_line : (slot offset : ℕ) → IsAmong ((print_offset slot, 1) ∷ []) offset → IsAmong (fence_rest (print_line slot) fence_start ∷ []) offset
print_in_line slot offset (inl within) =
    let low : print_offset slot ≤ offset = within.0 in
    let high : offset < print_offset slot + 1 = within.1 in
    inl (omega arith, omega arith)
print_in_line slot offset (inr none) = absurd none

module _ (fill : Fill) (sound : IsFill fill) where
  abbrev slots : ℕ
  slots = fill.call.view.layout.slots

  abbrev name : List ℕ
  name = name_in fill.call

  limit : slots ≤ 64
  limit = sound.call.view.layout.slots.1

  in_node : fill.slot < 64
  in_node = let within : fill.slot < slots = sound.within in let few : slots ≤ 64 = limit in omega arith

  three : length fill.call.name ≡ 3
  three = sym (ap length sound.call.packed.whole) ∙ length-words_of name

  four : length (pair_words fill) ≡ 4
  four = let count : length fill.call.name ≡ 3 = three in simp length-append (omega arith)

  -- what the writing relies on
  record Relies (s : Spot) (prints count : ℕ) : Type 0 where
    print_is : s (print_offset fill.slot) ≡ prints
    bitmap_is : s bitmap_offset ≡ fill.bitmap
    hit_is : Hit_stands s fill.call fill.hit
    stored : Stand s (slot_offset fill.slot 0) (pair_words fill) count

  relies : (s : Spot) (prints count : ℕ) → count ≤ 4 → Knows name (knows (seen_fill fill prints count)) s → Relies s prints count
  relies s prints count few known =
      let front = seen_front s (seen_hit fill.call fill.bitmap fill.hit) (words_from (slot_offset fill.slot 0) (take count (pair_words fill))) known.seen.1 in
      let back = seen_back s (seen_hit fill.call fill.bitmap fill.hit) (words_from (slot_offset fill.slot 0) (take count (pair_words fill))) known.seen.1 in
      let hit = hit_seen s fill.call fill.bitmap fill.hit front in
      let whole : length (pair_words fill) ≡ 4 = four in
      record { print_is = known.seen.0; bitmap_is = hit.0; hit_is = hit.1; stored = stand_taken s (slot_offset fill.slot 0) (pair_words fill) count (omega arith) back }

  known : (s : Spot) (prints count : ℕ) → count ≤ 4 → Relies s prints count → Knows name (knows (seen_fill fill prints count)) s
  known s prints count few facts =
      let whole : length (pair_words fill) ≡ 4 = four in
      record {
        seen = (
          facts.print_is,
          seen_append s (seen_hit fill.call fill.bitmap fill.hit) (words_from (slot_offset fill.slot 0) (take count (pair_words fill)))
              (seen_hit_from s fill.call fill.bitmap fill.hit facts.bitmap_is facts.hit_is)
              (taken_stand s (slot_offset fill.slot 0) (pair_words fill) count (omega arith) facts.stored),
        );
        left = tt;
      }

  -- the word with the fingerprint and the bitmap, where only words behind them may not be durable
  durable : (s : Spot) (dirty : List (ℕ × ℕ)) (prints count : ℕ) → ((offset : ℕ) → IsAmong dirty offset → 16 ≤ offset)
      → AllByRecursion (λ (w : ℕ × ℕ). IsAmong dirty w.0 ⊎ (s w.0 ≡ w.1)) (seen_fill fill prints count) → (s (print_offset fill.slot) ≡ prints) × (s bitmap_offset ≡ fill.bitmap)
  durable s dirty prints count behind known =
      let small_slot : fill.slot < 64 = in_node in
      let sure : (offset word : ℕ) → offset < 16 → IsAmong dirty offset ⊎ (s offset ≡ word) → s offset ≡ word =
      λ offset word before either. ⊎_elim (λ among. absurd (let past : 16 ≤ offset = behind offset among in omega arith)) (λ is. is) either in
      let pairs = words_from (slot_offset fill.slot 0) (take count (pair_words fill)) in
      let bitmap : IsAmong dirty bitmap_offset ⊎ (s bitmap_offset ≡ fill.bitmap) =
      elim fill.hit as (λ hit. AllByRecursion (λ (w : ℕ × ℕ). IsAmong dirty w.0 ⊎ (s w.0 ≡ w.1)) (seen_hit fill.call fill.bitmap hit ++ pairs) → IsAmong dirty bitmap_offset ⊎ (s bitmap_offset ≡ fill.bitmap)) [
        | None ↦ λ facts. facts.0
        | Some hit ↦ λ facts. facts.0
      ] known.1 in
      (sure (print_offset fill.slot) prints (omega arith) known.0, sure bitmap_offset fill.bitmap (omega arith) bitmap)

  -- the slot is not the one that has the name
  other_slot : (hit : Hit) → IsHit slots fill.bitmap hit → hit.slot ≡ fill.slot → ⊥
  other_slot hit is same =
      let one : bit_at fill.bitmap hit.slot ≡ 1 = is.live in
      let zero_bit : bit_at fill.bitmap hit.slot ≡ 0 = subst (IsClear fill.bitmap) (sym same) sound.clear in
      omega arith

  -- a store outside of where the name was
  hit_kept : (s : Spot) (at word : ℕ) (hit : Option Hit) → IfSome hit (IsHit slots fill.bitmap)
      → ((h : Hit) → IsHit slots fill.bitmap h → (k : ℕ) → k < 3 → slot_offset h.slot 0 + k ≡ at → ⊥) → Hit_stands s fill.call hit → Hit_stands (updated s at word) fill.call hit
  hit_kept s at word None is apart stands = tt
  hit_kept s at word (Some hit) is apart stands =
      let count : length fill.call.name ≡ 3 = three in
      stand_updated s (slot_offset hit.slot 0) fill.call.name (length fill.call.name) at word (λ k below e. apart hit is k (omega arith) e) stands

  -- one more word of the slot is stored
  word_stored : (s : Spot) (k : ℕ) → k < 4 → Relies s fill.prints k → Relies (updated s (slot_offset fill.slot k) (fill_word fill k)) fill.prints (k + 1)
  word_stored s k small facts =
      let at = slot_offset fill.slot k in
      let small_slot : fill.slot < 64 = in_node in
      record {
        print_is = updated-other s at (fill_word fill k) (print_offset fill.slot) (λ e. omega arith) ∙ facts.print_is;
        bitmap_is = updated-other s at (fill_word fill k) bitmap_offset (λ e. omega arith) ∙ facts.bitmap_is;
        hit_is = hit_kept s at (fill_word fill k) fill.hit sound.hit (λ h is j below e. other_slot h is (omega arith)) facts.hit_is;
        stored = λ j below. elim (cases_eq j k) [
          | inl same ↦
              let here : slot_offset fill.slot 0 + j ≡ at = omega arith in
              subst (λ o. updated s at (fill_word fill k) o ≡ get_or (pair_words fill) j 0) (sym here)
              (updated-same s at (fill_word fill k) ∙ sym (pair_word fill.call.name fill.value k three small) ∙ ap (λ i. get_or (pair_words fill) i 0) (sym same))
          | inr other ↦ updated-other s at (fill_word fill k) (slot_offset fill.slot 0 + j) (λ e. other (omega arith)) ∙ facts.stored j (omega arith)
        ];
      }

  -- and its fingerprint
  print_stored : (s : Spot) (word : ℕ) → Relies s fill.prints 4 → Relies (updated s (print_offset fill.slot) word) word 4
  print_stored s word facts =
      let at = print_offset fill.slot in
      let small_slot : fill.slot < 64 = in_node in
      record {
        print_is = updated-same s at word;
        bitmap_is = updated-other s at word bitmap_offset (λ e. omega arith) ∙ facts.bitmap_is;
        hit_is = hit_kept s at word fill.hit sound.hit (λ h is j below e. omega arith) facts.hit_is;
        stored = stand_updated s (slot_offset fill.slot 0) (pair_words fill) 4 at word (λ j below e. omega arith) facts.stored;
      }

  word_below : (k : ℕ) → fill_word fill k < 2 ^ 64
  word_below k =
      elim (ltb k 3) as (λ b. cond b (get_or fill.call.name k 0) fill.value < 2 ^ 64) [
        | true ↦ subst (λ (w : List ℕ). get_or w k 0 < 2 ^ 64) sound.call.packed.whole (get_or-words_of_below name (name_bytes name sound.call.packed.named) k)
        | false ↦ sound.value
      ]

  print_below : fill.call.print < 256
  print_below = subst (λ p. p < 256) (sym sound.call.print) (fingerprint_below name)

  has_pair : (s : Spot) → Relies s (printed fill.prints fill.slot fill.call.print) 4 → HasPair name fill.value s fill.slot
  has_pair s facts =
      let words = fill.call.name in
      record {
        name_is = name_stands s fill.slot words three (λ k below.
            let first : ltb k 3 ≡ true = lt-ltb k 3 below in
            facts.stored k (omega arith) ∙ pair_word words fill.value k three (omega arith) ∙ ap (λ b. cond b (get_or words k 0) fill.value) first) ∙ sym sound.call.packed.whole;
        value_is =
            let here : slot_offset fill.slot 0 + 3 ≡ slot_offset fill.slot value_word = omega arith in
            ap s (sym here) ∙ facts.stored 3 (omega arith) ∙ pair_word words fill.value 3 three (omega arith);
        print_is = ap (λ w. get_or (prints_of w) (fill.slot % 8) 0) facts.print_is
            ∙ ap (λ bytes. get_or bytes (fill.slot % 8) 0) (prints_of-printed fill.prints fill.slot fill.call.print print_below)
            ∙ get_or-set_same (prints_of fill.prints) (fill.slot % 8) fill.call.print 0 (omega arith) ∙ sound.call.print;
      }

  -- the one store of the bitmap
  means_filled : (range : List ℕ → Bool) (s : Spot) (m : Map) → range name ≡ true → Relies s (printed fill.prints fill.slot fill.call.print) 4 → map_at m name ≡ value_of fill.hit
      → Means slots range s m → Means slots range (updated s bitmap_offset (bitmap_after fill)) (insert m name fill.value)
  means_filled range s m in_range facts old means =
      let pair = has_pair s facts in
      let clear : IsClear (s bitmap_offset) fill.slot = subst (λ b. IsClear b fill.slot) (sym facts.bitmap_is) sound.clear in
      elim fill.hit as (λ hit. IfSome hit (IsHit slots fill.bitmap) → Hit_stands s fill.call hit → map_at m name ≡ value_of hit
      → Means slots range (updated s bitmap_offset (with_live (bitmap_without fill.bitmap hit) fill.slot)) (insert m name fill.value)) [
        | None ↦ λ is stands absent.
            subst (λ b. Means slots range (updated s bitmap_offset (with_live b fill.slot)) (insert m name fill.value)) facts.bitmap_is
            (means_added slots range s m name fill.value fill.slot limit sound.call.packed.named sound.within pair (lacks slots range s m name sound.call.packed.named in_range means absent) means)
        | Some hit ↦ λ is stands was.
            let live : IsLiveIn s hit.slot = subst (λ b. IsLive b hit.slot) (sym facts.bitmap_is) is.live in
            let same : name_words s hit.slot ≡ words_of name = name_stands s hit.slot fill.call.name three (subst (Stand s (slot_offset hit.slot 0) fill.call.name) three stands) ∙ sym sound.call.packed.whole in
            subst (λ b. Means slots range (updated s bitmap_offset (with_live (without_live b hit.slot) fill.slot)) (insert m name fill.value)) facts.bitmap_is
            (means_moved_from slots range s m name fill.value fill.slot hit.slot limit sound.call.packed.named sound.within pair clear live same means)
      ] sound.hit facts.hit_is old

  bitmap_below : bitmap_after fill < 2 ^ 64
  bitmap_below =
      let small_slot : fill.slot < 64 = in_node in
      elim fill.hit as (λ hit. with_live (bitmap_without fill.bitmap hit) fill.slot < 2 ^ 64) [
        | None ↦ with_live_below 64 fill.bitmap fill.slot (omega arith) (omega arith) sound.bitmap
        | Some hit ↦ with_live_below 64 (without_live fill.bitmap hit.slot) fill.slot (omega arith) (omega arith) (without_live_below 64 fill.bitmap hit.slot sound.bitmap)
      ]

  -- what is held while the slot's words are stored, and once its fingerprint is
  abbrev writing : ℕ → Held
  writing count = record (decided fill.call fill.hold (value_of fill.hit) (knows (seen_fill fill fill.prints count))) { dirty = slot_words fill.slot count }

  abbrev written : Held
  written = decided fill.call fill.hold (value_of fill.hit) (knows (seen_fill fill (printed fill.prints fill.slot fill.call.print) 4))

  -- the first fence is followed by the second, and that by the bitmap
  slot_fence : (x : ℕ) (stage : Stage) (action : Action) (o : Option Fence) → Fences fill.call fill.hold.locked written (slot_line fill.slot) ((print_offset fill.slot, 1) ∷ []) stage action x o
      → Fills fill.call stage action x (slot_fenced fill o)
  slot_fence x stage action (Some fence) step = step
  slot_fence x stage action None step = step (fence_rest (print_line fill.slot) fence_start ∷ []) false (print_in_line fill.slot)

  print_fence : (x : ℕ) (stage : Stage) (action : Action) (o : Option Fence) → Fences fill.call fill.hold.locked written (print_line fill.slot) [] stage action x o → Fills fill.call stage action x (print_fenced fill o)
  print_fence x stage action (Some fence) step = step
  print_fence x stage action None step = step [] false (λ offset none. none)

  -- a store of one more word of the slot
  word_step : (k x : ℕ) → k < 4 → Step fill.call.view.layout fill.call.view.generation
      (Holds fill.call.node fill.hold.locked (writing k)) (fill_at_asks fill (fill_at.Word k)) x (Holds fill.call.node fill.hold.locked (writing (k + 1))) None
  word_step k x small =
      let within : fill.slot < slots = sound.within in
      let more : suc k ≡ k + 1 = omega arith in
      stores (sound.call.node, (omega arith)) (inr (omega arith)) (word_below k) (record { pending = refl; ready = refl; placed = refl })
      (subst (λ count. Soils (slot_words fill.slot k) (slot_offset fill.slot k) (slot_words fill.slot count)) more (slot_soils fill.slot k))
      (λ s tidy before. known (updated s (slot_offset fill.slot k) (fill_word fill k)) fill.prints (k + 1) (omega arith) (word_stored s k small (relies s fill.prints k (omega arith) before)))
      (λ range s m before means.
      let facts = durable s (slot_words fill.slot k) fill.prints k (slot_behind fill.slot k) before in
      means_slot_store slots range s m fill.slot k (fill_word fill k) limit small (subst (λ b. IsClear b fill.slot) (sym facts.1) sound.clear) means)

  -- the lines are the node's
  slot_inside : slot_line fill.slot + 8 ≤ node_words fill.call.view.layout
  slot_inside = let even : slots % 2 ≡ 0 = sound.call.view.layout.slots.2 in let within : fill.slot < slots = sound.within in omega arith

  print_inside : print_line fill.slot + 8 ≤ node_words fill.call.view.layout
  print_inside = let few = limit in let within : fill.slot < slots = sound.within in omega arith

  pub fill_at_leads : (at : FillAt) (x : ℕ) → IsFillAt at → x < 2 ^ 64
      → Fills fill.call (Holds fill.call.node fill.hold.locked (fill_at_held fill at)) (fill_at_asks fill at) x (fill_at_turned fill at x)
  fill_at_leads (fill_at.Word k) x small fits =
      elim (ltb (k + 1) 4) as (λ b. ltb (k + 1) 4 ≡ b → Fills fill.call (Holds fill.call.node fill.hold.locked (fill_at_held fill (fill_at.Word k)))
      (fill_at_asks fill (fill_at.Word k)) x (cond b (Go (record fill { at = fill_at.Word (k + 1) })) (Go (record fill { at = fill_at.Print })))) [
        | true ↦ λ is. word_step k x small
        | false ↦ λ is.
            let last : k + 1 ≡ 4 = let past : 4 ≤ k + 1 = ltb-false _ _ is in omega arith in
            subst (λ (count : ℕ). Step fill.call.view.layout fill.call.view.generation
            (Holds fill.call.node fill.hold.locked (writing k)) (fill_at_asks fill (fill_at.Word k)) x (Holds fill.call.node fill.hold.locked (writing count)) None) last (word_step k x small)
      ] refl
  fill_at_leads fill_at.Print x here fits =
      let small_slot : fill.slot < 64 = in_node in
      let word = printed fill.prints fill.slot fill.call.print in
      stores (sound.call.node, (omega arith)) (inr (omega arith)) (printed_below fill.prints fill.slot fill.call.print print_below) (record { pending = refl; ready = refl; placed = refl })
      (print_soils fill.slot)
      (λ s tidy before. known (updated s (print_offset fill.slot) word) word 4 (omega arith) (print_stored s word (relies s fill.prints 4 (omega arith) before)))
      (λ range s m before means.
      let facts = durable s (slot_words fill.slot 4) fill.prints 4 (slot_behind fill.slot 4) before in
      subst (λ w. Means slots range (updated s (print_offset fill.slot) (printed w fill.slot fill.call.print)) m) facts.0
      (means_print_store s fill.slot fill.call.print in_node print_below slots range m (subst (λ b. IsClear b fill.slot) (sym facts.1) sound.clear) means))
  fill_at_leads (fill_at.FenceSlot fence) x here fits = slot_fence x _ (fence_asks (call_address fill.call (slot_line fill.slot + fence.word)) fence) (fence_next fence x)
      (fence_leads fill.call (slot_line fill.slot) fence fill.hold.locked written ((print_offset fill.slot, 1) ∷ []) x sound.call slot_inside here fits refl)
  fill_at_leads (fill_at.FencePrint fence) x here fits = print_fence x _ (fence_asks (call_address fill.call (print_line fill.slot + fence.word)) fence) (fence_next fence x)
      (fence_leads fill.call (print_line fill.slot) fence fill.hold.locked written [] x sound.call print_inside here fits refl)
  fill_at_leads fill_at.Bitmap x here fits =
      let word = printed fill.prints fill.slot fill.call.print in
      commits {h = written} {k = nothing} {dirty = fence_rest (line_of bitmap_offset) fence_start ∷ []} {old = value_of fill.hit} {c = change.Put name fill.value}
      (sound.call.node, (omega arith)) (inl refl) bitmap_below (record { pending = refl; ready = refl; placed = refl }) refl (inl (omega arith, omega arith)) refl refl
      (λ s tidy before. record { seen = tt; left = tt })
      (λ range s m in_range before old means. means_filled range s m in_range (relies s word 4 (omega arith) before) old means)

pub fill_leads : (fill : Fill) (x : ℕ) → IsFill fill → x < 2 ^ 64 → Fills fill.call (fill_stage fill) (fill_asks fill) x (fill_turned fill x)
fill_leads fill x sound fits = fill_at_leads fill sound fill.at x sound.here fits
