-- Each turn of a part of a range scan leaves it sound, and the same call.
use Rattle.std.proofs.Common.{◌≡◌, ◌≢◌, ℕ, zero, suc, ◌+◌, ◌-◌, ◌<◌, ◌≤◌, ◌==◌, ltb, true, false, cond, Option, Some, None, IfSome, List, [], length, get_or, set, inl, inr, refl, sym, subst, ap, ◌∙◌, arith}
use Rattle.std.specs.Prelude.{replicate}
use Rattle.std.specs.Int.{bit_at}
use Rattle.std.proofs.lemmas.Bool.{cases_eq, eqb-true, ltb-true, eqb-false}
use Rattle.std.proofs.lemmas.List.{get_or-set_same, get_or-set_other, get_or-replicate, get_or_default, length-set, length-replicate}
use Rattle.pm_words.specs.declared.machine.Turn.{Turn}
use Rattle.pm_words.specs.declared.machine.Turn.TheVariants.{Go, Done}
use Rattle.data_node.specs.Orders.{comes_before, words_in}
use Rattle.data_list.specs.declared.target.Next.{Next}
use Rattle.data_list.specs.declared.target.Sighting.{Sighting}
use Rattle.version_lock.specs.Versions.{kept_count, locked_word, is_worn_word}
use Rattle.version_lock.proofs.WordTests.{fresh_word}
use Rattle.call_stages.specs.Kinds.{Told}
use Rattle.permutation.specs.declared.load.LoadPermutation.{LoadPermutation}
use Rattle.permutation.specs.declared.load.LoadPermutationAt.{LoadPermutationAt}
use Rattle.permutation.specs.declared.load.LoadPermutationAt.TheVariants as load_at
use Rattle.permutation.specs.declared.store.StorePermutation.{StorePermutation}
use Rattle.permutation.specs.Loads.{IsLoad, load_turned, load_at_turned}
use Rattle.permutation.specs.Permutations.{AreWordsOf, permutation_words}
use Rattle.permutation.specs.Stores.{store_turned}
use Rattle.permutation.proofs.Made.{words_have_slots}
use Rattle.split_merge.proofs.Sorting.{all_at}
use Rattle.node_ops.specs.declared.call.Call.{Call}
use Rattle.node_ops.specs.declared.lookup.Looked.{Looked}
use Rattle.node_ops.specs.declared.lookup.Looked.TheVariants as looked
use Rattle.node_ops.specs.declared.lookup.Lookup.{Lookup}
use Rattle.node_ops.specs.declared.lookup.LookupAt.{LookupAt}
use Rattle.node_ops.specs.declared.part.Reading.{Reading}
use Rattle.node_ops.specs.declared.part.ReadingAt.{ReadingAt}
use Rattle.node_ops.specs.declared.part.ReadingAt.TheVariants as at
use Rattle.node_ops.specs.declared.part.Way.{Way}
use Rattle.node_ops.specs.declared.part.Way.TheVariants as ways
use Rattle.node_ops.specs.declared.part.Part.{Part}
use Rattle.node_ops.specs.declared.part.Part.TheVariants as part
use Rattle.node_ops.specs.Calls.{IsCall}
use Rattle.node_ops.specs.LookupSteps.{IsLookup, IsLocking, lookup_turned}
use Rattle.call_stages.specs.declared.once.Once.TheVariants as once
use Rattle.pm_words.specs.declared.again.Again.TheVariants as again
use Rattle.node_ops.specs.PartSteps.{no_entry, entry_in, entry_name, with_word, load_from, next_at, live_order, sorted_in, reading_from, part_walked, part_ordered, part_held, part_locked, ordering_turned, seen_at, part_words, part_looked, placed_of, placed_turn, low_value, sorted_by, all_loaded, goes_on, after_at, after_word, part_call, part_asks, store_on, reading_turned, part_turned, IsFreely, HasRoom, IsStoring, IsSorted, IsReadingAt, IsReading, IsWordBy, IsThere, IsOrdering, IsPart, sorted_slots}
use Rattle.node_ops.proofs.LookupSound.{SoundLooked, lock_word, lookup_stays, Stays}
use Rattle.node_ops.proofs.PartTurns.{goes_is}
use Rattle.node_ops.proofs.PartOrder.{live_order_few, live_order_within}
use Rattle.node_ops.proofs.PartWalks.{WalksOn, IsOnWay, on_way_is, walks_on}

-- the words of the slot, and of each other one
pub entry_here : (entries : List (List ℕ)) (slot word got : ℕ) → slot < length entries → entry_in (with_word entries slot word got) slot ≡ set (entry_in entries slot) word got
entry_here entries slot word got within =
    get_or-set_same entries slot (set (get_or entries slot []) word got) no_entry within ∙ ap (λ entry. set entry word got) (get_or_default entries slot [] no_entry within)

pub entry_other : (entries : List (List ℕ)) (slot word got other : ℕ) → other ≢ slot → entry_in (with_word entries slot word got) other ≡ entry_in entries other
entry_other entries slot word got other apart = get_or-set_other entries slot other (set (get_or entries slot []) word got) no_entry apart

-- the name in a slot, by its words
pub words_same : (reads : List (List ℕ)) (slot : ℕ) → length reads ≡ 64 → slot < 64 → words_in reads slot ≡ entry_name (entry_in reads slot)
words_same reads slot many small = ap entry_name (get_or_default reads slot [] no_entry (omega arith))

-- The words of the permutation that it makes.
pub words_made : (reading : Reading) → reading.call.view.layout.slots ≤ 64 → AreWordsOf (sorted_in reading) (permutation_words (sorted_in reading))
unfolding sorted_slots
words_made reading limit =
    let slots = reading.call.view.layout.slots in
    let before = comes_before reading.entries in
    let few = live_order_few before reading.bitmap slots in
    words_have_slots (live_order before reading.bitmap slots) (omega arith) (λ k within.
    let small = all_at (λ slot. slot < slots) (live_order before reading.bitmap slots) (live_order_within before reading.bitmap slots) k within in omega arith)

-- what the fields of a reading keep, wherever it is, as where it loads the bitmap
abbrev pub IsReadingBut : Reading → Type 0
IsReadingBut reading = IsReading (record reading { at = at.Bitmap })

-- so it is one wherever it stands, whatever it knows of its low name
reads_at : (reading : Reading) (old : Option ℕ) (at : ReadingAt) → IsReadingBut reading → IsReadingAt (record reading { old = old; at = at }) at → IsReading (record reading { old = old; at = at })
reads_at reading old at sound here = record { call = sound.call; reads = sound.reads; behind = sound.behind; room = sound.room; locked = sound.locked; many = sound.many; wide = sound.wide; here = here }

-- once all live slots are loaded
all_sound : (reading : Reading) → IsReadingBut reading → IsReading (all_loaded reading)
all_sound reading sound = by reading.way refl
  where
    then_reading : Reading
    then_reading = record reading { old = low_value reading reading.call.view.layout.slots }

    by : (way : Way) → reading.way ≡ way → IsReading (sorted_by then_reading way)
    by (ways.Served words) is = reads_at reading then_reading.old at.Check sound (subst IsFreely (sym is) tt, refl)
    by ways.Alone is = reads_at reading then_reading.old at.Check sound (subst IsFreely (sym is) tt, refl)
    by (ways.Held words) is = record {
      call = sound.call;
      reads = sound.reads;
      behind = sound.behind;
      room = (words_made then_reading sound.call.view.layout.slots.1).room;
      locked = subst (λ (w : Way). IsWordBy w reading.hold.locked) is sound.locked;
      many = sound.many;
      wide = sound.wide;
      here = (
        record {
          sound = record { layout = sound.call.view.layout; node = sound.call.node; lock = subst (λ (w : Way). IsWordBy w reading.hold.locked) is sound.locked; few = omega arith };
          from = refl;
        },
        record { made = refl; old = refl },
      );
    }

-- on to the next live slot
next_sound : (reading : Reading) (slot more : ℕ) → slot + more ≡ reading.call.view.layout.slots → IsReadingBut reading → IsReading (goes_on reading (load_from reading.bitmap slot more))
next_sound reading slot zero is sound = all_sound reading sound
next_sound reading slot (suc more) is sound =
    elim (bit_at reading.bitmap slot == 1) as (λ b. (bit_at reading.bitmap slot == 1) ≡ b → IsReading (goes_on reading (cond b (at.Load slot 0) (load_from reading.bitmap (slot + 1) more)))) [
      | true ↦ λ here. reads_at reading reading.old (at.Load slot 0) sound (omega arith, eqb-true (bit_at reading.bitmap slot) 1 here, omega arith)
      | false ↦ λ here. next_sound reading (slot + 1) more (omega arith) sound
    ] refl

next_at_sound : (reading : Reading) (from : ℕ) → from ≤ reading.call.view.layout.slots → IsReadingBut reading → IsReading (goes_on reading (next_at reading.bitmap from reading.call.view.layout.slots))
next_at_sound reading from within sound = next_sound reading from (reading.call.view.layout.slots - from) (omega arith) sound

module _ (reading : Reading) (sound : IsReadingBut reading) (slot word got : ℕ) (here : (slot < reading.call.view.layout.slots) × (bit_at reading.bitmap slot ≡ 1) × (word < 4)) where
  abbrev slots : ℕ
  slots = reading.call.view.layout.slots

  pub limit : slots ≤ 64
  limit = sound.call.view.layout.slots.1

  pub within : slot < length reading.entries
  within = let few : slots ≤ 64 = limit in let below : slot < slots = here.0 in let many : length reading.entries ≡ 64 = sound.many in omega arith

  abbrev pub with_it : Reading
  with_it = record reading { entries = with_word reading.entries slot word got }

  pub with_sound : IsReadingBut with_it
  with_sound =
      let entry = get_or reading.entries slot [] in
      record {
        call = sound.call;
        reads = sound.reads;
        behind = sound.behind;
        room = sound.room;
        locked = sound.locked;
        many = length-set reading.entries slot (set entry word got) ∙ sound.many;
        wide = λ other small. elim (cases_eq other slot) [
          | inl same ↦
              subst (λ o. length (entry_in (with_word reading.entries slot word got) o) ≡ 4) (sym same)
              (ap length (entry_here reading.entries slot word got within) ∙ length-set (entry_in reading.entries slot) word got ∙ subst (λ o. length (entry_in reading.entries o) ≡ 4) same (sound.wide other small))
          | inr apart ↦ ap length (entry_other reading.entries slot word got other apart) ∙ sound.wide other small
        ];
        here = tt;
      }

  pub after_sound : IsReading (after_word reading slot word got)
  after_sound =
      elim (ltb (word + 1) 4) as (λ b. ltb (word + 1) 4 ≡ b → IsReading (goes_on with_it (cond b (at.Load slot (word + 1)) (next_at reading.bitmap (slot + 1) slots)))) [
        | true ↦ λ more. record {
          call = with_sound.call;
          reads = with_sound.reads;
          behind = with_sound.behind;
          room = with_sound.room;
          locked = with_sound.locked;
          many = with_sound.many;
          wide = with_sound.wide;
          here = (here.0, here.1, ltb-true _ _ more);
        }
        | false ↦ λ last. next_at_sound with_it (slot + 1) (let below : slot < slots = here.0 in omega arith) with_sound
      ] refl

-- a reading that begins
from_sound : (call : Call) (locked clock : ℕ) (behind : Option Next) (count : ℕ) (way : Way) (at : ReadingAt) → IsCall call → call.limit ≡ None → IfSome behind (λ next. next.node ≢ 0) → HasRoom way → IsWordBy way locked
    → IsReadingAt (reading_from call (record { locked = locked; clock = clock }) behind count way at) at → IsReading (reading_from call (record { locked = locked; clock = clock }) behind count way at)
from_sound call locked clock behind count way at sound read some room word here = record {
  call = sound;
  reads = read;
  behind = some;
  room = room;
  locked = word;
  many = length-replicate 64 no_entry;
  wide = λ slot small. ap length (get_or-replicate 64 slot no_entry no_entry small);
  here = here;
}

-- the look-up walks on, or has come to its node
module _ (start : Call) (count : ℕ) where
  abbrev StaysSo : Part → Type 0
  StaysSo p = Stays IsPart part_call start (placed_turn (Go p))

  came_stays : (call : Call) (at : LookupAt) → IsOnWay at → IsLookup (record { call = call; at = at }) → call.limit ≡ None → call ≡ record start { node = call.node; hops = call.hops } → StaysSo (part_walked (record { call = call; at = at }) count (seen_at at))
  came_stays call =
      on_way_is (λ (at : LookupAt). IsLookup (record { call = call; at = at }) → call.limit ≡ None → call ≡ record start { node = call.node; hops = call.hops } → StaysSo (part_walked (record { call = call; at = at }) count (seen_at at)))
      (λ floor sound read same. ((sound, read, tt), same)) (λ walk sound read same. ((sound, read, tt), same)) (λ seen sound read same. (
        record {
          there = record { sound = sound.call; is = sound.here };
          loads = record { layout = sound.call.view.layout; node = sound.call.node; room = length-replicate {A = ℕ} 8 0; here = tt };
          layout = refl;
          node = refl;
          version = refl;
        },
        same,
      ))

  looked_stays : (turn : Turn Lookup Looked) → start.limit ≡ None → WalksOn turn → SoundLooked start turn → Stays IsPart part_call start (placed_turn (part_looked count turn))
  looked_stays (Go lookup) read way stays = came_stays lookup.call lookup.at way stays.0 (ap (λ (c : Call). c.limit) stays.1 ∙ read) stays.1
  looked_stays (Done (looked.Early answer)) read way stays = tt
  looked_stays (Done (looked.Found found)) read way stays = absurd way

-- each turn of the load of a permutation leaves that sound
pub record LoadsOn (load next : LoadPermutation) : Type 0 where
  pub sound : IsLoad next
  pub layout : next.layout ≡ load.layout
  pub node : next.node ≡ load.node
  pub version : next.version ≡ load.version

abbrev pub LoadStays : LoadPermutation → Turn LoadPermutation (Option (List ℕ)) → Type 0
LoadStays load (Go next) = LoadsOn load next
LoadStays load (Done None) = Unit {0}
LoadStays load (Done (Some words)) = length words ≡ 8

pub load_stays : (load : LoadPermutation) (at : LoadPermutationAt) (x : ℕ) → IsLoad (record load { at = at }) → LoadStays load (load_at_turned (record load { at = at }) at x)
load_stays load load_at.Version x sound =
    elim (x == load.version) as (λ b. LoadStays load (cond b (Go (record load { at = load_at.Word 0 })) (Done None))) [
      | true ↦ record { sound = record { layout = sound.layout; node = sound.node; room = sound.room; here = omega arith }; layout = refl; node = refl; version = refl }
      | false ↦ tt
    ]
load_stays load (load_at.Word number) x sound =
    let low : number < 8 = sound.here in
    elim (number + 1 == 8) as (λ b. (number + 1 == 8) ≡ b → LoadStays load (cond b (Done (Some (set load.words number x))) (Go (record load { words = set load.words number x; at = load_at.Word (number + 1) })))) [
      | true ↦ λ last. length-set load.words number x ∙ sound.room
      | false ↦ λ more. let apart : number + 1 ≢ 8 = eqb-false (number + 1) 8 more in
          record { sound = record { layout = sound.layout; node = sound.node; room = length-set load.words number x ∙ sound.room; here = omega arith }; layout = refl; node = refl; version = refl }
    ] refl

ordered_stays : (call : Call) (seen : Sighting) (count : ℕ) (order : Option (List ℕ)) → IsThere call seen → IfSome order (λ words. length words ≡ 8) → IsPart (part_ordered call seen count order) × (part_call (part_ordered call seen count order) ≡ call)
ordered_stays call seen count (Some words) there room = ((there, tt, room), refl)
ordered_stays call seen count None there room =
    let g = call.view.generation in
    elim (is_worn_word seen.version g) as (λ b. is_worn_word seen.version g ≡ b → IsPart (cond b (part.Dating call seen count ways.Alone) (part.Locking call seen count (locked_word g (kept_count seen.version g))))
    × (part_call (cond b (part.Dating call seen count ways.Alone) (part.Locking call seen count (locked_word g (kept_count seen.version g)))) ≡ call)) [
      | true ↦ λ worn. ((there, tt, tt), refl)
      | false ↦ λ unworn. ((there, record { known = there.is.is.free.known; free = there.is.is.free.free; unworn = fresh_word seen.version g unworn; locked = refl }), refl)
    ] refl

ordering_stays : (call : Call) (seen : Sighting) (count : ℕ) (load : LoadPermutation) (turn : Turn LoadPermutation (Option (List ℕ))) → IsOrdering call seen load → LoadStays load turn
    → Stays IsPart part_call call (placed_turn (ordering_turned call seen count turn))
ordering_stays call seen count load (Go next) sound stays = (record { there = sound.there; loads = stays.sound; layout = stays.layout ∙ sound.layout; node = stays.node ∙ sound.node; version = stays.version ∙ sound.version }, refl)
ordering_stays call seen count load (Done None) sound stays = let is = ordered_stays call seen count None sound.there tt in (is.0, subst (λ (c : Call). c ≡ record call { node = c.node; hops = c.hops }) (sym is.1) refl)
ordering_stays call seen count load (Done (Some words)) sound stays = let is = ordered_stays call seen count (Some words) sound.there stays in (is.0, subst (λ (c : Call). c ≡ record call { node = c.node; hops = c.hops }) (sym is.1) refl)

locking_stays : (call : Call) (seen : Sighting) (count locked x : ℕ) → IsThere call seen → IsLocking call.view.generation seen.version locked → Stays IsPart part_call call (placed_turn (part_locked call seen count locked x))
locking_stays call seen count locked x there locking =
    elim (x == seen.version) as (λ b. Stays IsPart part_call call (placed_turn (cond b (Go (part_held call seen count locked)) (Done (once.Again (again.Moved call.node seen.version x)))))) [
      | true ↦ (
        from_sound call locked 0 seen.next count (ways.Held (replicate 8 0)) at.Clock there.sound there.is.reads there.is.leads (length-replicate {A = ℕ} 8 0) (lock_word call.view.generation seen.version locked there.sound.view.generation locking) tt,
        refl,
      )
      | false ↦ tt
    ]

-- each turn of a store of the permutation leaves that sound
store_stays : (reading : Reading) (store : StorePermutation) (x : ℕ) → IsReadingBut reading → IsStoring reading store → IsSorted reading → IsReading (store_on reading (store_turned store x))
store_stays reading store x sound storing sorted =
    elim (ltb store.stored 8) as (λ b. ltb store.stored 8 ≡ b → IsReading (store_on reading (cond b (Go (record store { stored = store.stored + 1 })) (Done tt)))) [
      | true ↦ λ low.
          reads_at reading reading.old (at.Store (record store { stored = store.stored + 1 })) sound (
            record {
              sound = record { layout = storing.sound.layout; node = storing.sound.node; lock = storing.sound.lock; few = let less : store.stored < 8 = ltb-true _ _ low in omega arith };
              from = ap (λ (s : StorePermutation). record s { stored = store.stored + 1 }) storing.from;
            },
            record { made = sorted.made; old = sorted.old },
          )
      | false ↦ λ none. reads_at reading reading.old at.Unlock sound (record { made = sorted.made; old = sorted.old })
    ] refl

pub but : (reading : Reading) → IsReading reading → IsReadingBut reading
but reading sound = record { call = sound.call; reads = sound.reads; behind = sound.behind; room = sound.room; locked = sound.locked; many = sound.many; wide = sound.wide; here = tt }

-- the call stays
loaded_call : (reading : Reading) (way : Way) → (sorted_by reading way).call ≡ reading.call
loaded_call reading (ways.Served words) = refl
loaded_call reading (ways.Held words) = refl
loaded_call reading ways.Alone = refl

pub goes_call : (reading : Reading) (at : ReadingAt) → (goes_on reading at).call ≡ reading.call
goes_call reading at = goes_is (λ (r : Reading). r.call ≡ reading.call) reading at (λ slot word. refl) (loaded_call (record reading { old = low_value reading reading.call.view.layout.slots }) reading.way)

same_call : (call start : Call) → call ≡ start → call ≡ record start { node = call.node; hops = call.hops }
same_call call start is = subst (λ (c : Call). c ≡ record start { node = c.node; hops = c.hops }) (sym is) refl

stored_call : (reading : Reading) (turn : Turn StorePermutation (Unit {0})) → (store_on reading turn).call ≡ reading.call
stored_call reading (Go store) = refl
stored_call reading (Done nothing) = refl

reading_stays : (reading : Reading) (at : ReadingAt) (x : ℕ) → IsReading (record reading { at = at }) → Stays IsPart part_call reading.call (placed_turn (reading_turned (record reading { at = at }) at x))
reading_stays reading at.Clock x sound = (
  record { call = sound.call; reads = sound.reads; behind = sound.behind; room = sound.room; locked = sound.locked; many = sound.many; wide = sound.wide; here = tt },
  refl,
)
reading_stays reading at.Bitmap x sound =
    let then_reading = record reading { at = at.Bitmap; bitmap = x } in (
      next_at_sound then_reading 0 (omega arith) (record { call = sound.call; reads = sound.reads; behind = sound.behind; room = sound.room; locked = sound.locked; many = sound.many; wide = sound.wide; here = tt }),
      same_call _ reading.call (goes_call then_reading (next_at x 0 reading.call.view.layout.slots)),
    )
reading_stays reading (at.Load slot word) x sound =
    let whole = record reading { at = at.Load slot word } in
    (after_sound whole (but whole sound) slot word x sound.here, same_call _ reading.call (goes_call (record whole { entries = with_word reading.entries slot word x }) (after_at whole slot word)))
reading_stays reading at.Check x sound = elim (x == reading.hold.locked) as (λ b. Stays IsPart part_call reading.call (Done (placed_of (cond b (once.Done (part_words (record reading { at = at.Check }))) (once.Again (again.Moved reading.call.node reading.hold.locked x)))))) [ true ↦ tt | false ↦ tt ]
reading_stays reading (at.Store store) x sound =
    let whole = record reading { at = at.Store store } in
    (store_stays whole store x (but whole sound) sound.here.0 sound.here.1, same_call _ reading.call (stored_call whole (store_turned store x)))
reading_stays reading at.Unlock x sound = tt

pub part_stays : (p : Part) (x : ℕ) → IsPart p → Told (part_call p).view.layout (part_call p).view.generation (part_asks p) x → Stays IsPart part_call (part_call p) (placed_turn (part_turned p x))
part_stays (part.Looking lookup count) x sound told = looked_stays lookup.call count (lookup_turned lookup x) sound.1 (walks_on lookup.call lookup.at x sound.1 sound.2) (lookup_stays lookup x sound.0 told)
part_stays (part.Ordering call seen count load) x sound told = ordering_stays call seen count load (load_turned load x) sound (load_stays load load.at x sound.loads)
part_stays (part.Locking call seen count locked) x sound told = locking_stays call seen count locked x sound.0 sound.1
part_stays (part.Dating call seen count way) x sound told = (
  from_sound call seen.version x seen.next count way at.Bitmap sound.0.sound sound.0.is.reads sound.0.is.leads sound.2 (free_word way seen.version sound.1) tt,
  refl,
)
  where
    free_word : (way : Way) (word : ℕ) → IsFreely way → IsWordBy way word
    free_word (ways.Served words) word free = tt
    free_word (ways.Held words) word free = absurd free
    free_word ways.Alone word free = tt
part_stays (part.Reading reading) x sound told = reading_stays reading reading.at x sound
