-- Each turn of a part of a range scan is a step of a get of its low name, or stores a word of its node's permutation.
use Rattle.std.proofs.Common.{◌≡◌, ℕ, zero, suc, ◌+◌, ◌-◌, ◌<◌, ◌≤◌, ◌==◌, ltb, Bool, true, false, cond, Option, Some, None, IfSome, List, [], ◌∷◌, length, get_or, slice_index, inl, inr, ◌⊎◌, refl, sym, subst, ap, ◌∙◌, arith}
use Rattle.std.specs.Int.{bit_at}
use Rattle.std.proofs.lemmas.Bool.{cases_eq, eqb-true, eqb-false, eq-eqb, ltb-false, and_parts, and_from}
use Rattle.std.proofs.lemmas.List.{get_or-set_same, get_or-set_other}
use Rattle.pm_words.specs.declared.layout.Layout.{Layout}
use Rattle.pm_words.specs.declared.action.Action.{Action}
use Rattle.pm_words.specs.declared.action.Action.TheVariants.{Exchange, Load, Store}
use Rattle.pm_words.specs.declared.machine.Turn.{Turn}
use Rattle.pm_words.specs.declared.machine.Turn.TheVariants.{Go, Done}
use Rattle.pm_words.specs.Locations.{node_words}
use Rattle.cat_key.specs.Names.{words_of}
use Rattle.cat_history.specs.Maps.{Map}
use Rattle.cat_history.specs.Maps as maps
use Rattle.data_node.specs.Slots.{IsLive}
use Rattle.data_node.specs.Spots.{Spot, Finds, IsLiveIn, IsTidy, Means, name_words}
use Rattle.data_node.specs.Lists.{IsBetween}
use Rattle.data_node.specs.Orders.{comes_before, live_slots}
use Rattle.data_node.proofs.SpotLemmas.{at_found, at_missing}
use Rattle.data_list.specs.declared.target.Next.{Next}
use Rattle.data_list.specs.declared.target.Sighting.{Sighting}
use Rattle.data_list.specs.WalkStages.{leads_on, live_sight, sight_in}
use Rattle.cat_key.proofs.Packing.{length-words_of}
use Rattle.call_stages.specs.declared.once.Once.{Once}
use Rattle.call_stages.specs.declared.once.Once.TheVariants as once
use Rattle.call_stages.specs.declared.once.Placed.{Placed}
use Rattle.call_stages.specs.Stages.{Held, Known, Knows, Sees, Stage, Idle, Reads, Holds, just_held}
use Rattle.call_stages.specs.Kinds.{Told, Step, looks, learns, times, decides, reads_on, dates, notes, finds, confirms, misses_read, wavers, locks_read, unlocks, reads, clock_address}
use Rattle.pm_words.specs.declared.again.Again.TheVariants as again
use Rattle.pm_words.specs.Offsets.{version_offset, bitmap_offset, slot_offset}
use Rattle.permutation.specs.declared.load.LoadPermutation.{LoadPermutation}
use Rattle.permutation.specs.declared.load.LoadPermutationAt.{LoadPermutationAt}
use Rattle.permutation.specs.declared.load.LoadPermutationAt.TheVariants as load_at
use Rattle.permutation.specs.declared.store.StorePermutation.{StorePermutation}
use Rattle.permutation.specs.Loads.{IsLoadAt, load_asks, load_at_asks, load_turned}
use Rattle.std.specs.List.Sorted.{IsPermutation}
use Rattle.permutation.specs.Permutations.{HasEntries, permutation_words}
use Rattle.permutation.specs.Sortings.{Sorting, Sorts}
use Rattle.permutation.specs.Sortings as sortings
use Rattle.call_stages.specs.AnySteps.{IsOfPermutation, volatile_address}
use Rattle.call_stages.specs.AnySteps.{IsOnPermutation}
use Rattle.call_stages.specs.AnySteps as any
use Rattle.permutation.specs.Stores as stores
use Rattle.permutation.specs.Stores.{IsStore, TellsOrder, store_asks, store_from, store_turned}
use Rattle.permutation.proofs.Sorted.{orders_are}
use Rattle.permutation.proofs.Stores.{stores_are}
use Rattle.node_ops.specs.declared.call.Call.{Call}
use Rattle.node_ops.specs.declared.lookup.LookupAt.{LookupAt}
use Rattle.node_ops.specs.declared.lookup.Looked.{Looked}
use Rattle.node_ops.specs.declared.lookup.Looked.TheVariants as looked
use Rattle.node_ops.specs.declared.lookup.Lookup.{Lookup}
use Rattle.node_ops.specs.declared.part.PartWords.{PartWords}
use Rattle.node_ops.specs.declared.part.Reading.{Reading}
use Rattle.node_ops.specs.declared.part.ReadingAt.{ReadingAt}
use Rattle.node_ops.specs.declared.part.ReadingAt.TheVariants as at
use Rattle.node_ops.specs.declared.part.Way.{Way}
use Rattle.node_ops.specs.declared.part.Way.TheVariants as ways
use Rattle.node_ops.specs.declared.part.Part.{Part}
use Rattle.node_ops.specs.declared.part.Part.TheVariants as part
use Rattle.node_ops.specs.Calls.{call_address, name_in}
use Rattle.node_ops.specs.CallStages.{nothing, knows, timed, words_loaded, slots_loaded, loaded_at, behind_sight, lookup_at_stage, reading_whole, reading_stage, stage_by, part_stage, stage_after, reply_of}
use Rattle.node_ops.specs.LookupSteps.{IsLocking, lookup_turned}
use Rattle.node_ops.specs.Permuting.{part_sorting, sorting_after}
use Rattle.node_ops.specs.PartSteps.{entry_in, with_word, load_from, next_at, sorted_in, has_low, low_value, sorted_by, goes_on, part_looked, part_walked, part_ordered, part_held, part_locked, part_dated, ordering_turned, seen_at, after_at, part_words, part_call, part_asks, store_on, reading_turned, part_turned, IsFreely, IsHeld, IsReading, IsThere, IsOrdering, IsPart, sorted_slots}
use Rattle.node_ops.specs.RunningSteps.{wrapped_part}
use Rattle.node_ops.proofs.SeenLemmas.{Seen}
use Rattle.node_ops.proofs.LookupLaw.{PlainStep, steps, loads_permutation, Leads, keeps_live, key_is, lookup_leads}
use Rattle.node_ops.proofs.LookupSound.{lock_word}
use Rattle.node_ops.proofs.PartOrder.{live_order_moves, live_order_sorted}
use Rattle.node_ops.proofs.PartSound.{IsReadingBut, but, entry_here, entry_other, with_it, with_sound, within, words_made, words_same}
use Rattle.node_ops.proofs.PartWalks.{WalksOn, IsOnWay, on_way_is, walks_on}
use Rattle.node_ops.proofs.Endings.{LooksEnd, looks_end, early_placed}
use Rattle.node_ops.proofs.PartTurns.{ordered_is}

module _ (s : Spot) where
  words_say : (entry : List ℕ) (slot n : ℕ) (others : List (ℕ × ℕ)) → Seen s (words_loaded entry slot n others) → (k : ℕ) → k < n → s (slot_offset slot k) ≡ get_or entry k 0
  words_say entry slot zero others seen k below = absurd (omega arith)
  words_say entry slot (suc n) others seen k below =
      elim (cases_eq k n) [
        | inl last ↦ subst (λ j. s (slot_offset slot j) ≡ get_or entry j 0) (sym last) seen.0
        | inr other ↦ words_say entry slot n others seen.1 k (omega arith)
      ]

  words_past : (entry : List ℕ) (slot n : ℕ) (others : List (ℕ × ℕ)) → Seen s (words_loaded entry slot n others) → Seen s others
  words_past entry slot zero others seen = seen
  words_past entry slot (suc n) others seen = words_past entry slot n others seen.1

  words_are : (entry : List ℕ) (slot n : ℕ) (others : List (ℕ × ℕ)) → ((k : ℕ) → k < n → s (slot_offset slot k) ≡ get_or entry k 0) → Seen s others → Seen s (words_loaded entry slot n others)
  words_are entry slot zero others same seen = seen
  words_are entry slot (suc n) others same seen = (same n (omega arith), words_are entry slot n others (λ k below. same k (omega arith)) seen)

  -- the words of a slot are as loaded
  abbrev pub HasEntry : List (List ℕ) → ℕ → Type 0
  HasEntry entries slot = (k : ℕ) → k < 4 → s (slot_offset slot k) ≡ get_or (entry_in entries slot) k 0

  pub slots_say : (entries : List (List ℕ)) (bitmap n : ℕ) → Seen s (slots_loaded entries bitmap n) → (slot : ℕ) → slot < n → IsLive bitmap slot → HasEntry entries slot
  slots_say entries bitmap zero seen slot below live = absurd (omega arith)
  slots_say entries bitmap (suc n) seen slot below live =
      elim (bit_at bitmap n == 1) as (λ b. (bit_at bitmap n == 1) ≡ b → Seen s (cond b (words_loaded (entry_in entries n) n 4 (slots_loaded entries bitmap n)) (slots_loaded entries bitmap n)) → HasEntry entries slot) [
        | true ↦ λ here is. elim (cases_eq slot n) [
          | inl last ↦ subst (HasEntry entries) (sym last) (words_say (entry_in entries n) n 4 (slots_loaded entries bitmap n) is)
          | inr other ↦ slots_say entries bitmap n (words_past (entry_in entries n) n 4 (slots_loaded entries bitmap n) is) slot (omega arith) live
        ]
        | false ↦ λ here is. elim (cases_eq slot n) [
          | inl last ↦ absurd (let yes : (bit_at bitmap n == 1) ≡ true = eq-eqb (bit_at bitmap n) 1 (subst (IsLive bitmap) last live) in let no : true ≡ false = sym yes ∙ here in cc)
          | inr other ↦ slots_say entries bitmap n is slot (omega arith) live
        ]
      ] refl seen

  slots_are : (entries : List (List ℕ)) (bitmap n : ℕ) → ((slot : ℕ) → slot < n → IsLive bitmap slot → HasEntry entries slot) → Seen s (slots_loaded entries bitmap n)
  slots_are entries bitmap zero each = tt
  slots_are entries bitmap (suc n) each =
      let rest = slots_are entries bitmap n (λ slot below live. each slot (omega arith) live) in
      elim (bit_at bitmap n == 1) as (λ b. (bit_at bitmap n == 1) ≡ b → Seen s (cond b (words_loaded (entry_in entries n) n 4 (slots_loaded entries bitmap n)) (slots_loaded entries bitmap n))) [
        | true ↦ λ here. words_are (entry_in entries n) n 4 (slots_loaded entries bitmap n) (each n (omega arith) (eqb-true (bit_at bitmap n) 1 here)) rest
        | false ↦ λ here. rest
      ] refl

  -- on to the next live slot, once those below are loaded
  next_loaded : (entries : List (List ℕ)) (bitmap slots slot more : ℕ) → slot + more ≡ slots → ((other : ℕ) → other < slot → IsLive bitmap other → HasEntry entries other)
      → Seen s (loaded_at entries bitmap slots (load_from bitmap slot more))
  next_loaded entries bitmap slots slot zero is each = slots_are entries bitmap slots (λ other below live. each other (omega arith) live)
  next_loaded entries bitmap slots slot (suc more) is each =
      elim (bit_at bitmap slot == 1) as (λ b. (bit_at bitmap slot == 1) ≡ b → Seen s (loaded_at entries bitmap slots (cond b (at.Load slot 0) (load_from bitmap (slot + 1) more)))) [
        | true ↦ λ here. slots_are entries bitmap slot each
        | false ↦ λ here. next_loaded entries bitmap slots (slot + 1) more (omega arith) (λ other below live. elim (cases_eq other slot) [
          | inl last ↦ absurd (let yes : (bit_at bitmap slot == 1) ≡ true = eq-eqb (bit_at bitmap slot) 1 (subst (IsLive bitmap) last live) in let no : true ≡ false = sym yes ∙ here in cc)
          | inr apart ↦ each other (omega arith) live
        ])
      ] refl

  -- so of the slots from this one on
  next_at_loaded : (entries : List (List ℕ)) (bitmap slots from : ℕ) → from ≤ slots → ((other : ℕ) → other < from → IsLive bitmap other → HasEntry entries other)
      → Seen s (loaded_at entries bitmap slots (next_at bitmap from slots))
  next_at_loaded entries bitmap slots from within each = next_loaded entries bitmap slots from (slots - from) (omega arith) each

module _ (reading : Reading) (sound : IsReadingBut reading) (slot word got : ℕ) (here : (slot < reading.call.view.layout.slots) × IsLive reading.bitmap slot × (word < 4)) where
  abbrev slots : ℕ
  slots = reading.call.view.layout.slots

  -- what it knows with the word that it loads
  learnt : (s : Spot) → Seen s (loaded_at reading.entries reading.bitmap slots (at.Load slot word)) → s (slot_offset slot word) ≡ got
      → Seen s (loaded_at (with_word reading.entries slot word got) reading.bitmap slots (after_at reading slot word))
  learnt s seen is =
      let entries = with_word reading.entries slot word got in
      let entry = entry_in reading.entries slot in
      let below : slot < slots = here.0 in
      let small : word < 4 = here.2 in
      let few : slots ≤ 64 = sound.call.view.layout.slots.1 in
      let room : slot < length reading.entries = within reading sound slot word got here in
      let wide : length entry ≡ 4 = sound.wide slot (omega arith) in
      let before = words_say s entry slot word (slots_loaded reading.entries reading.bitmap slot) seen in
      let others : (other : ℕ) → other < slot → IsLive reading.bitmap other → HasEntry s entries other = λ other lower live k less.
      slots_say s reading.entries reading.bitmap slot (words_past s entry slot word (slots_loaded reading.entries reading.bitmap slot) seen) other lower live k less
      ∙ sym (ap (λ (e : List ℕ). get_or e k 0) (entry_other reading.entries slot word got other (omega arith))) in
      let own : (k : ℕ) → k < word + 1 → s (slot_offset slot k) ≡ get_or (entry_in entries slot) k 0 = λ k less.
      elim (cases_eq k word) [
        | inl last ↦ ap (λ j. s (slot_offset slot j)) last ∙ is ∙ sym (get_or-set_same entry word got 0 (omega arith)) ∙ sym (ap (λ (e : List ℕ). get_or e word 0) (entry_here reading.entries slot word got room)) ∙ ap (λ j. get_or (entry_in entries slot) j 0) (sym last)
        | inr apart ↦ before k (omega arith) ∙ sym (get_or-set_other entry word k got 0 apart) ∙ sym (ap (λ (e : List ℕ). get_or e k 0) (entry_here reading.entries slot word got room))
      ] in
      elim (ltb (word + 1) 4) as (λ b. ltb (word + 1) 4 ≡ b → Seen s (loaded_at entries reading.bitmap slots (cond b (at.Load slot (word + 1)) (next_at reading.bitmap (slot + 1) slots)))) [
        | true ↦ λ more. words_are s (entry_in entries slot) slot (word + 1) (slots_loaded entries reading.bitmap slot) own (slots_are s entries reading.bitmap slot others)
        | false ↦ λ last. let full : 4 ≤ word + 1 = ltb-false _ _ last in
            next_at_loaded s entries reading.bitmap slots (slot + 1) (omega arith) (λ other lower live. elim (cases_eq other slot) [
              | inl same ↦ subst (HasEntry s entries) (sym same) (λ k less. own k (omega arith))
              | inr apart ↦ others other (omega arith) live
            ])
      ] refl

-- three words are their own list
three_are : (xs : List ℕ) → length xs ≡ 3 → get_or xs 0 0 ∷ get_or xs 1 0 ∷ get_or xs 2 0 ∷ [] ≡ xs
three_are [] size = absurd (omega arith)
three_are (a ∷ []) size = absurd (omega arith)
three_are (a ∷ b ∷ []) size = absurd (omega arith)
three_are (a ∷ b ∷ c ∷ []) size = refl
three_are (a ∷ b ∷ c ∷ d ∷ xs) size = absurd (omega arith)

-- with one slot more, which hasn't the name, nothing else is found
finds_more : (n : ℕ) (s : Spot) (name : List ℕ) (o : Option ℕ) → Finds n s name o → (IsLiveIn s n → name_words s n ≡ words_of name → ⊥) → Finds (suc n) s name o
finds_more n s name (Some value) found other = (found.0, (let below : found.0 < n = found.1 in omega arith), found.2, found.3, found.4)
finds_more n s name None none other = λ slot below live words. elim (cases_eq slot n) [
  | inl last ↦ other (subst (λ k. IsLiveIn s k) last live) (subst (λ k. name_words s k ≡ words_of name) last words)
  | inr lower ↦ none slot (omega arith) live words
]

-- What a part knows of the low name once it has loaded all live slots.
module _ (reading : Reading) (sound : IsReadingBut reading) (s : Spot) (bits : s bitmap_offset ≡ reading.bitmap)
    (each : (slot : ℕ) → slot < reading.call.view.layout.slots → IsLive reading.bitmap slot → HasEntry s reading.entries slot) where
  abbrev name : List ℕ
  name = name_in reading.call

  words_are_low : words_of name ≡ get_or reading.call.name 0 0 ∷ get_or reading.call.name 1 0 ∷ get_or reading.call.name 2 0 ∷ []
  words_are_low =
      let whole = sound.call.packed.whole in
      whole ∙ sym (three_are reading.call.name (sym (ap length whole) ∙ length-words_of name))

  live_is : (slot : ℕ) → IsLiveIn s slot → IsLive reading.bitmap slot
  live_is slot live = subst (λ b. IsLive b slot) bits live

  low_is : (n : ℕ) → n ≤ reading.call.view.layout.slots → Finds n s name (low_value reading n)
  low_is zero within = λ slot below live. absurd (omega arith)
  low_is (suc n) within =
      let entry = entry_in reading.entries n in
      let low = reading.call.name in
      elim (has_low reading n) as (λ b. has_low reading n ≡ b → Finds (suc n) s name (cond b (Some (get_or entry 3 0)) (low_value reading n))) [
        | true ↦ λ is.
            let parts = and_parts _ _ is in
            let live = eqb-true (bit_at reading.bitmap n) 1 parts.0 in
            let own = each n (omega arith) live in
            let firsts = and_parts _ _ parts.1 in
            let seconds = and_parts _ _ firsts.1 in
            let a : s (slot_offset n 0) ≡ get_or low 0 0 = own 0 (omega arith) ∙ eqb-true (get_or entry 0 0) (get_or low 0 0) firsts.0 in
            let b : s (slot_offset n 1) ≡ get_or low 1 0 = own 1 (omega arith) ∙ eqb-true (get_or entry 1 0) (get_or low 1 0) seconds.0 in
            let c : s (slot_offset n 2) ≡ get_or low 2 0 = own 2 (omega arith) ∙ eqb-true (get_or entry 2 0) (get_or low 2 0) seconds.1 in
            (n, omega arith, subst (λ b. IsLive b n) (sym bits) live, (λ i. a i ∷ b i ∷ c i ∷ []) ∙ sym words_are_low, own 3 (omega arith))
        | false ↦ λ isnt. finds_more n s name (low_value reading n) (low_is n (omega arith)) (λ live words.
            let there = live_is n live in
            let own = each n (omega arith) there in
            let same = words ∙ words_are_low in
            let a : get_or entry 0 0 ≡ get_or low 0 0 = sym (own 0 (omega arith)) ∙ ap (λ (xs : List ℕ). get_or xs 0 0) same in
            let b : get_or entry 1 0 ≡ get_or low 1 0 = sym (own 1 (omega arith)) ∙ ap (λ (xs : List ℕ). get_or xs 1 0) same in
            let c : get_or entry 2 0 ≡ get_or low 2 0 = sym (own 2 (omega arith)) ∙ ap (λ (xs : List ℕ). get_or xs 2 0) same in
            let yes : has_low reading n ≡ true = and_from _ _ (eq-eqb (bit_at reading.bitmap n) 1 there) (and_from _ _ (eq-eqb _ _ a) (and_from _ _ (eq-eqb _ _ b) (eq-eqb _ _ c))) in
            let clash : false ≡ true = sym isnt ∙ yes in
            cc)
      ] refl

  pub low_has : (range : List ℕ → Bool) (m : Map) → range name ≡ true → Means reading.call.view.layout.slots range s m → maps.at m name ≡ low_value reading reading.call.view.layout.slots
  low_has range m inside means = by (low_value reading reading.call.view.layout.slots) (low_is reading.call.view.layout.slots (omega arith))
    where
      by : (o : Option ℕ) → Finds reading.call.view.layout.slots s name o → maps.at m name ≡ o
      by (Some value) found = at_found reading.call.view.layout.slots range s m name found.0 sound.call.packed.named inside means found.2 found.3 ∙ ap Some found.4
      by None none = at_missing reading.call.view.layout.slots range s m name sound.call.packed.named inside means none

-- each entry has the words of its slot
pub entries_are : (reading : Reading) → IsReadingBut reading → (s : Spot)
    → Knows (name_in reading.call) (knows ((bitmap_offset, reading.bitmap) ∷ slots_loaded reading.entries reading.bitmap reading.call.view.layout.slots)) s
    → HasEntries reading.call.view.layout.slots reading.entries s
entries_are reading sound s known = λ slot below live.
    let slots = reading.call.view.layout.slots in
    let own = slots_say s reading.entries reading.bitmap slots known.seen.1 slot below (subst (λ b. IsLive b slot) known.seen.0 live) in
    let a = own 0 (omega arith) in
    let b = own 1 (omega arith) in
    let c = own 2 (omega arith) in
    words_same reading.entries slot sound.many (let few : slots ≤ 64 = sound.call.view.layout.slots.1 in omega arith) ∙ (λ i. sym a i ∷ sym b i ∷ sym c i ∷ [])

-- what it knows with all live slots makes its permutation
pub tells_order : (reading : Reading) → IsReadingBut reading → TellsOrder reading.call.view.layout.slots (reading_whole reading) (permutation_words (sorted_in reading))
unfolding sorted_slots
tells_order reading sound =
    let slots = reading.call.view.layout.slots in
    let made = words_made reading sound.call.view.layout.slots.1 in
    let before = comes_before reading.entries in
    record {
      fits = made.fit;
      order = λ s tidy known.
          orders_are slots reading.entries (slice_index (permutation_words (sorted_in reading))) s (sorted_in reading) sound.call.view.layout.slots.1
          (entries_are reading sound s known)
          (subst (λ b. IsPermutation (live_slots b slots) (sorted_in reading)) (sym known.seen.0) (live_order_moves before reading.bitmap slots))
          (live_order_sorted reading.entries reading.bitmap slots)
          made.first;
    }

-- what it has of its node, as it has the lock or not
abbrev WordsStage : Reading → Known → Stage
WordsStage reading k = stage_by reading.way reading.call.node reading.hold.locked (behind_sight reading.behind) (timed reading.call reading.hold k)

-- with the word that it loads it goes on to the next live slot, or has them all
module _ (reading : Reading) (sound : IsReadingBut reading) (k : Known) (offset x : ℕ) (has : offset < node_words reading.call.view.layout) (positive : 0 < offset) where
  abbrev node_slots : ℕ
  node_slots = reading.call.view.layout.slots

  abbrev low_name : List ℕ
  low_name = name_in reading.call

  abbrev Goes : Stage → Stage → Type 0
  Goes stage next = Step reading.call.view.layout reading.call.view.generation stage (Load (call_address reading.call offset)) x next None

  -- a word of a slot
  on : (way : Way) (next : Known) → ((s : Spot) → IsTidy node_slots s → Knows low_name k s → s offset ≡ x → Knows low_name next s)
      → Goes (stage_by way reading.call.node reading.hold.locked (behind_sight reading.behind) (timed reading.call reading.hold k)) (stage_by way reading.call.node reading.hold.locked (behind_sight reading.behind) (timed reading.call reading.hold next))
  on (ways.Served words) next learnt = looks (reads_on (notes (sound.call.node, has) positive learnt))
  on (ways.Held words) next learnt = looks (learns (sound.call.node, has) positive refl learnt)
  on ways.Alone next learnt = looks (reads_on (notes (sound.call.node, has) positive learnt))

  -- the last one
  abbrev all : Reading
  all = record reading { old = low_value reading node_slots }

  abbrev known_whole : Known
  known_whole = knows ((bitmap_offset, reading.bitmap) ∷ slots_loaded reading.entries reading.bitmap node_slots)

  module _ (seen : (s : Spot) → Knows low_name k s → s offset ≡ x → Seen s ((bitmap_offset, reading.bitmap) ∷ slots_loaded reading.entries reading.bitmap node_slots)) where
    learnt_all : (s : Spot) → IsTidy node_slots s → Knows low_name k s → s offset ≡ x → Knows low_name known_whole s
    learnt_all s tidy known is = record { seen = seen s known is; left = tt }

    old_is : (range : List ℕ → Bool) (s : Spot) (m : Map) → range low_name ≡ true → Knows low_name k s → s offset ≡ x → Means node_slots range s m → maps.at m low_name ≡ low_value reading node_slots
    old_is range s m inside known is means =
        let known_all = seen s known is in
        low_has reading sound s known_all.0 (slots_say s reading.entries reading.bitmap node_slots known_all.1) range m inside means

    ends : (way : Way) → reading.way ≡ way → Goes (stage_by way reading.call.node reading.hold.locked (behind_sight reading.behind) (timed reading.call reading.hold k)) (reading_stage (sorted_by all way))
    ends (ways.Served words) is = subst (λ (w : Way). Goes (Reads reading.call.node reading.hold.locked (behind_sight reading.behind) (Some (timed reading.call reading.hold k))) (stage_by w reading.call.node reading.hold.locked (behind_sight reading.behind) (reading_whole all))) (sym is)
        (looks (reads_on (finds (sound.call.node, has) positive learnt_all old_is)))
    ends ways.Alone is = subst (λ (w : Way). Goes (Reads reading.call.node reading.hold.locked (behind_sight reading.behind) (Some (timed reading.call reading.hold k))) (stage_by w reading.call.node reading.hold.locked (behind_sight reading.behind) (reading_whole all))) (sym is)
        (looks (reads_on (finds (sound.call.node, has) positive learnt_all old_is)))
    ends (ways.Held words) is =
        looks (decides {pending = None} {ready = false} (sound.call.node, has) positive (record { pending = refl; ready = refl; placed = refl }) refl tt learnt_all
        (λ range s m inside known is means. (old_is range s m inside known is means, means)))

  pub goes_leads : (at : ReadingAt) → ((s : Spot) → Knows low_name k s → s offset ≡ x → Seen s ((bitmap_offset, reading.bitmap) ∷ loaded_at reading.entries reading.bitmap node_slots at))
      → Goes (WordsStage reading k) (reading_stage (goes_on reading at))
  goes_leads (at.Load slot word) seen = on reading.way _ (λ s tidy known is. record { seen = seen s known is; left = tt })
  goes_leads at.Clock seen = ends seen reading.way refl
  goes_leads at.Bitmap seen = ends seen reading.way refl
  goes_leads at.Check seen = ends seen reading.way refl
  goes_leads (at.Store store) seen = ends seen reading.way refl
  goes_leads at.Unlock seen = ends seen reading.way refl

-- the kind of step of a turn of a part that stores no word of a permutation
abbrev pub Parts : Call → Stage → Action → ℕ → Turn Part (Once PartWords) → Type 0
Parts call stage action x turn = PlainStep call.view.layout call.view.generation stage action x (stage_after (wrapped_part turn)) (reply_of (wrapped_part turn))

-- a turn that stores one
pub record StoresOne (p : Part) (x : ℕ) : Type 0 where
  pub sorts : Sorts (part_call p).view.layout (part_stage p) (part_sorting p) (part_asks p) (sorting_after (wrapped_part (part_turned p x)))
  pub stage : stage_after (wrapped_part (part_turned p x)) ≡ part_stage p
  pub none : reply_of (wrapped_part (part_turned p x)) ≡ None
  pub node : ℕ
  pub lock : ℕ
  pub held : Held
  pub holds : part_stage p ≡ Holds node lock held
  pub unready : held.ready ≡ false

abbrev pub StoresNoneAt : ReadingAt → Type 0
StoresNoneAt (at.Store store) = ⊥
StoresNoneAt _ = Unit {0}

abbrev pub StoresNone : Part → Type 0
StoresNone (part.Reading reading) = StoresNoneAt reading.at
StoresNone _ = Unit {0}

abbrev pub PartGoes : Part → ℕ → Type 0
PartGoes p x = (Parts (part_call p) (part_stage p) (part_asks p) x (part_turned p x) × StoresNone p) ⊎ StoresOne p x

module _ (start : Call) (stage : Stage) (action : Action) (x count : ℕ) where
  came_leads : (call : Call) (at : LookupAt) → IsOnWay at → PlainStep start.view.layout start.view.generation stage action x (lookup_at_stage (live_sight []) call at) None
      → Parts start stage action x (Go (part_walked (record { call = call; at = at }) count (seen_at at)))
  came_leads call =
      on_way_is (λ (at : LookupAt). PlainStep start.view.layout start.view.generation stage action x (lookup_at_stage (live_sight []) call at) None
      → Parts start stage action x (Go (part_walked (record { call = call; at = at }) count (seen_at at)))) (λ floor step. step) (λ walk step. step) (λ seen step. step)

  looked_leads : (turn : Turn Lookup Looked) → WalksOn turn → LooksEnd start.limit turn → Leads (live_sight []) start stage action x turn → Parts start stage action x (part_looked count turn)
  looked_leads (Go lookup) way ends step = came_leads lookup.call lookup.at way step
  looked_leads (Done (looked.Early answer)) way ends step =
      steps (subst (λ (a : Once Placed). Step start.view.layout start.view.generation stage action x Idle (Some a)) (sym (early_placed start.limit answer ends)) step)
  looked_leads (Done (looked.Found found)) way ends leads = absurd way

-- it loads the permutation
ordered_stage : (call : Call) (seen : Sighting) (count : ℕ) (order : Option (List ℕ)) → part_stage (part_ordered call seen count order) ≡ Reads call.node seen.version (sight_in seen) None
ordered_stage call seen count (Some words) = refl
ordered_stage call seen count None = ordered_is (λ (p : Part). part_stage p ≡ Reads call.node seen.version (sight_in seen) None) call seen count refl (λ locked. refl)

ordering_stage : (call : Call) (seen : Sighting) (count : ℕ) (turn : Turn LoadPermutation (Option (List ℕ))) (x : ℕ) (action : Action)
    → PlainStep call.view.layout call.view.generation (Reads call.node seen.version (sight_in seen) None) action x (Reads call.node seen.version (sight_in seen) None) None
    → Parts call (Reads call.node seen.version (sight_in seen) None) action x (ordering_turned call seen count turn)
ordering_stage call seen count (Go load) x action step = step
ordering_stage call seen count (Done order) x action step = subst (λ (t : Stage). PlainStep call.view.layout call.view.generation (Reads call.node seen.version (sight_in seen) None) action x t None) (sym (ordered_stage call seen count order)) step

ordering_leads : (call : Call) (seen : Sighting) (load : LoadPermutation) (x : ℕ) → IsOrdering call seen load
    → PlainStep call.view.layout call.view.generation (Reads call.node seen.version (sight_in seen) None) (load_asks load) x (Reads call.node seen.version (sight_in seen) None) None
ordering_leads call seen load x sound =
    subst (λ (l : Layout). PlainStep l call.view.generation (Reads call.node seen.version (sight_in seen) None) (load_asks load) x (Reads call.node seen.version (sight_in seen) None) None) sound.layout
    (at load.at sound.loads.here)
  where
    at : (now : LoadPermutationAt) → IsLoadAt now → PlainStep load.layout call.view.generation (Reads call.node seen.version (sight_in seen) None) (load_at_asks load.layout load.node now) x (Reads call.node seen.version (sight_in seen) None) None
    at load_at.Version here = loads_permutation refl sound.loads.node (inl refl)
    at (load_at.Word number) here = loads_permutation refl sound.loads.node (inr (omega arith, omega arith))

-- it takes the lock
locking_leads : (call : Call) (seen : Sighting) (count locked x : ℕ) → IsThere call seen → IsLocking call.view.generation seen.version locked
    → Parts call (Reads call.node seen.version (sight_in seen) None) (Exchange (call_address call version_offset) seen.version locked) x (part_locked call seen count locked x)
locking_leads call seen count locked x there locking =
    let lock = lock_word call.view.generation seen.version locked there.sound.view.generation locking in
    elim (x == seen.version) as (λ b. (x == seen.version) ≡ b → Parts call (Reads call.node seen.version (sight_in seen) None) (Exchange (call_address call version_offset) seen.version locked) x
    (cond b (Go (part_held call seen count locked)) (Done (once.Again (again.Moved call.node seen.version x))))) [
      | true ↦ λ same. steps (locks_read {name = name_in call} (eqb-true x seen.version same) there.sound.packed.named there.is.is.live
          (λ s t sees. subst (IsBetween s t) (key_is call there.sound) (there.is.is.between s t sees)) locking.unworn locking.locked lock.fits)
      | false ↦ λ other. steps (looks (misses_read (eqb-false x seen.version other) lock.fits))
    ] refl

-- what it keeps of what its walk saw: where its node leads
pub keeps_behind : (seen : Sighting) (s t : Spot) → Sees (sight_in seen) s t → Sees (behind_sight seen.next) s t
keeps_behind seen s t see = of seen.next see
  where
    of : (next : Option Next) → Sees (leads_on seen.low next) s t → Sees (behind_sight next) s t
    of None see = record { seen = (see.seen.0, tt); leads = λ ne. absurd (ne refl); beyond = λ ne. absurd (ne refl) }
    of (Some next) see = record { seen = (see.seen.0, tt); leads = see.leads; beyond = see.beyond }

dating_leads : (call : Call) (seen : Sighting) (count : ℕ) (way : Way) (x : ℕ) → IsThere call seen → IsFreely way
    → Step call.view.layout call.view.generation (Reads call.node seen.version (sight_in seen) None) (Load (clock_address call.view.layout)) x (part_stage (part_dated call seen count way x)) None
dating_leads call seen count way x there free = by way free
  where
    dated : Step call.view.layout call.view.generation (Reads call.node seen.version (sight_in seen) None) (Load (clock_address call.view.layout)) x
        (Reads call.node seen.version (behind_sight seen.next) (Some (timed call (record { locked = seen.version; clock = x }) nothing))) None
    dated =
        subst (λ (o : Option ℕ). Step call.view.layout call.view.generation (Reads call.node seen.version (sight_in seen) None) (Load (clock_address call.view.layout)) x
        (Reads call.node seen.version (behind_sight seen.next) (Some (record (just_held (name_in call)) { time = Some x; limit = o }))) None) (sym there.is.reads)
        (looks (reads_on (dates there.sound.packed.named there.is.is.live (λ s t sees. subst (IsBetween s t) (key_is call there.sound) (there.is.is.between s t sees)) (keeps_behind seen))))

    by : (way : Way) → IsFreely way → Step call.view.layout call.view.generation (Reads call.node seen.version (sight_in seen) None) (Load (clock_address call.view.layout)) x (part_stage (part_dated call seen count way x)) None
    by (ways.Served words) free = dated
    by (ways.Held words) free = absurd free
    by ways.Alone free = dated

below_none : (limit : Option ℕ) (x : ℕ) → limit ≡ None → IfSome limit (λ most. x < most)
below_none None x is = tt
below_none (Some most) x is = absurd (cc)

-- each store of a permutation is on one
pub sorts_on : (l : Layout) (stage : Stage) (sorting after : Sorting) (action : Action) → Sorts l stage sorting action after → IsOnPermutation l action
sorts_on l stage sorting after action (sortings.begins here low fits tells) = any.stores here (inr (omega arith, omega arith)) fits
sorts_on l stage sorting after action (sortings.stores here low fits tells) = any.stores here (inr (omega arith, omega arith)) fits
sorts_on l stage sorting after action (sortings.ends here is fits tells) = any.stores here (inl refl) fits

-- the store of a word of the permutation, by who holds the node
pub sorting_leads : (reading : Reading) (store : StorePermutation) (x : ℕ) → IsReading (record reading { at = at.Store store }) → StoresOne (part.Reading (record reading { at = at.Store store })) x
sorting_leads reading store x sound =
    subst (λ (s : StorePermutation). StoresOne (part.Reading (record reading { at = at.Store s })) x) (sym sound.here.0.from) (by reading.way sound.here.1.made)
  where
    words : List ℕ
    words = permutation_words (sorted_in reading)

    own : StorePermutation
    own = record (store_from reading.call.view.layout reading.call.node reading.hold.locked words) { stored = store.stored }

    -- after the turn it has what it stored
    has : (turn : Turn StorePermutation (Unit {0}))
        → stores.sorting_after own turn ≡ sorting_after (wrapped_part (Go (part.Reading (store_on (record reading { at = at.Store own }) turn))))
    has (Go next) = refl
    has (Done done) = refl

    same_stage : (turn : Turn StorePermutation (Unit {0})) → stage_after (wrapped_part (Go (part.Reading (store_on (record reading { at = at.Store own }) turn)))) ≡ part_stage (part.Reading (record reading { at = at.Store own }))
    same_stage (Go next) = refl
    same_stage (Done done) = refl

    by : (way : Way) → reading.way ≡ ways.Held words → StoresOne (part.Reading (record reading { at = at.Store own })) x
    by way is =
        let holds : part_stage (part.Reading (record reading { at = at.Store own })) ≡ Holds reading.call.node reading.hold.locked (reading_whole reading) = ap (λ (w : Way). stage_by w reading.call.node reading.hold.locked (behind_sight reading.behind) (reading_whole reading)) is in
        record {
          sorts = subst (λ (q : Stage × Sorting). Sorts reading.call.view.layout q.0 (stores.sorting_of own) (store_asks own) q.1) (λ i. (sym holds i, has (store_turned own x) i))
              (stores_are own (reading_whole reading) x (subst IsStore sound.here.0.from sound.here.0.sound) (tells_order (record reading { at = at.Store store }) (but (record reading { at = at.Store store }) sound)));
          stage = same_stage (store_turned own x);
          none = refl;
          node = reading.call.node;
          lock = reading.hold.locked;
          held = reading_whole reading;
          holds = holds;
          unready = refl;
        }

reading_leads : (reading : Reading) (at : ReadingAt) (x : ℕ) → IsReading (record reading { at = at }) → PartGoes (part.Reading (record reading { at = at })) x
reading_leads reading at.Clock x sound = inl (steps (by reading.way sound.here), tt)
  where
    by : (way : Way) → IsHeld way → Step reading.call.view.layout reading.call.view.generation (stage_by way reading.call.node reading.hold.locked (behind_sight reading.behind) (just_held (name_in reading.call))) (Load (clock_address reading.call.view.layout)) x
        (stage_by way reading.call.node reading.hold.locked (behind_sight reading.behind) (timed reading.call (record { locked = reading.hold.locked; clock = x }) nothing)) None
    by (ways.Served words) held = absurd held
    by (ways.Held words) held = looks (times {limit = reading.call.limit} (record { pending = refl; ready = refl; placed = refl }) (below_none reading.call.limit x sound.reads))
    by ways.Alone held = absurd held
reading_leads reading at.Bitmap x sound =
    let then_reading = record reading { at = at.Bitmap; bitmap = x } in
    let slots = reading.call.view.layout.slots in
    let others : IsReadingBut then_reading = record { call = sound.call; reads = sound.reads; behind = sound.behind; room = sound.room; locked = sound.locked; many = sound.many; wide = sound.wide; here = tt } in
    inl (
      steps (goes_leads then_reading others nothing bitmap_offset x (omega arith) (omega arith) (next_at x 0 slots)
          (λ s known is. (is, next_at_loaded s reading.entries x slots 0 (omega arith) (λ other below live. absurd (omega arith))))),
      tt,
    )
reading_leads reading (at.Load slot word) x sound =
    let whole = record reading { at = at.Load slot word } in
    let slots = reading.call.view.layout.slots in
    let others = but whole sound in
    let below : slot < slots = sound.here.0 in
    let small : word < 4 = sound.here.2 in
    inl (
      steps (goes_leads (with_it whole others slot word x sound.here) (with_sound whole others slot word x sound.here)
          (knows ((bitmap_offset, reading.bitmap) ∷ loaded_at reading.entries reading.bitmap slots (at.Load slot word))) (slot_offset slot word) x (let few : slots ≤ 64 = sound.call.view.layout.slots.1 in omega arith) (omega arith) (after_at whole slot word)
          (λ s known is. (known.seen.0, learnt whole others slot word x sound.here s known.seen.1 is))),
      tt,
    )
reading_leads reading at.Check x sound = inl (steps (by reading.way sound.here.0), tt)
  where
    whole : Reading
    whole = record reading { at = at.Check }

    read : Step reading.call.view.layout reading.call.view.generation (Reads reading.call.node reading.hold.locked (behind_sight reading.behind) (Some (reading_whole reading))) (Load (call_address reading.call version_offset)) x Idle
        (reply_of (wrapped_part (reading_turned whole at.Check x)))
    read =
        elim (x == reading.hold.locked) as (λ b. (x == reading.hold.locked) ≡ b → Step reading.call.view.layout reading.call.view.generation (Reads reading.call.node reading.hold.locked (behind_sight reading.behind) (Some (reading_whole reading)))
        (Load (call_address reading.call version_offset)) x Idle (reply_of (wrapped_part (Done (cond b (once.Done (part_words whole)) (once.Again (again.Moved reading.call.node reading.hold.locked x))))))) [
          | true ↦ λ same. looks (reads_on (confirms sound.call.node (eqb-true x reading.hold.locked same) refl sound.reads refl refl))
          | false ↦ λ other. looks (reads_on (wavers sound.call.node (eqb-false x reading.hold.locked other)))
        ] refl

    by : (way : Way) → IsFreely way → Step reading.call.view.layout reading.call.view.generation (stage_by way reading.call.node reading.hold.locked (behind_sight reading.behind) (reading_whole reading)) (Load (call_address reading.call version_offset)) x
        (stage_after (wrapped_part (reading_turned whole at.Check x))) (reply_of (wrapped_part (reading_turned whole at.Check x)))
    by (ways.Served words) free = read
    by (ways.Held words) free = absurd free
    by ways.Alone free = read
reading_leads reading (at.Store store) x sound = inr (sorting_leads reading store x sound)
reading_leads reading at.Unlock x sound =
    inl (
      steps (subst (λ (w : Way). Step reading.call.view.layout reading.call.view.generation (stage_by w reading.call.node reading.hold.locked (behind_sight reading.behind) (reading_whole reading)) (Store (call_address reading.call version_offset) (reading.hold.locked + 1)) x Idle
          (Some (once.Done (record { old = reading.old; place = reading.hold.clock; hops = reading.call.hops })))) (sym sound.here.made)
          (unlocks refl refl refl refl (reads refl refl refl))),
      tt,
    )

pub part_steps : (p : Part) (x : ℕ) → IsPart p → Told (part_call p).view.layout (part_call p).view.generation (part_asks p) x → PartGoes p x
part_steps (part.Looking lookup count) x sound told =
    inl (
      looked_leads lookup.call (part_stage (part.Looking lookup count)) (part_asks (part.Looking lookup count)) x count (lookup_turned lookup x)
          (walks_on lookup.call lookup.at x sound.1 sound.2) (looks_end lookup.call lookup.at x sound.0.here)
          (lookup_leads (live_sight []) lookup.call sound.0.call lookup.at x sound.0.here (keeps_live lookup.at) told),
      tt,
    )
part_steps (part.Ordering call seen count load) x sound told = inl (ordering_stage call seen count (load_turned load x) x (load_asks load) (ordering_leads call seen load x sound), tt)
part_steps (part.Locking call seen count locked) x sound told = inl (locking_leads call seen count locked x sound.0 sound.1, tt)
part_steps (part.Dating call seen count way) x sound told = inl (steps (dating_leads call seen count way x sound.0 sound.1), tt)
part_steps (part.Reading reading) x sound told = reading_leads reading reading.at x sound
