-- A part of a range scan, step by step.
use Rattle.std.specs.Prelude.{◌≡◌, ◌≢◌, ℕ, zero, suc, ◌+◌, ◌-◌, ◌*◌, ◌<◌, ◌==◌, ◌&&◌, not, Bool, nat_lt}
use Rattle.std.specs.Prelude.{if◌then◌else◌, fold}
use Rattle.std.specs.Prelude.{List, [], ◌∷◌, length, replicate, slice_index, slice_index_or, slice_set, Option, Some}
use Rattle.std.specs.Prelude.{None, IfSome}
use Rattle.std.specs.Int.{bit_at}
use Rattle.pm_words.specs.declared.action.Action.{Action}
use Rattle.pm_words.specs.declared.action.Action.TheVariants.{Exchange, Load, Store}
use Rattle.pm_words.specs.declared.again.Again.TheVariants.{Moved}
use Rattle.pm_words.specs.declared.machine.Turn.{Turn}
use Rattle.pm_words.specs.declared.machine.Turn.TheVariants.{Go, Done}
use Rattle.pm_words.specs.Offsets.{version_offset, bitmap_offset, slot_offset}
use Rattle.data_node.specs.Slots.{IsLive}
use Rattle.data_node.specs.Bits.{live_count}
use Rattle.data_node.specs.Lists.{number_of}
use Rattle.data_node.specs.Orders.{comes_before}
use Rattle.data_list.specs.declared.target.Next.{Next}
use Rattle.data_list.specs.declared.target.Sighting.{Sighting}
use Rattle.data_list.specs.Walks.{high_of}
use Rattle.version_lock.specs.Versions.{kept_count, locked_word, is_worn_word, IsLockWord}
use Rattle.permutation.specs.declared.load.LoadPermutation.{LoadPermutation}
use Rattle.permutation.specs.declared.store.StorePermutation.{StorePermutation}
use Rattle.permutation.specs.Loads.{IsLoad, load_asks, load_turned, load_left}
use Rattle.permutation.specs.Loads as permutation_loads
use Rattle.permutation.specs.Permutations.{first_slots, permutation_words}
use Rattle.permutation.specs.Stores.{IsStore, store_asks, store_from, store_turned, store_left}
use Rattle.call_stages.specs.declared.once.Once.{Once}
use Rattle.call_stages.specs.declared.once.Once.TheVariants as once
use Rattle.call_stages.specs.declared.once.Placed.{Placed}
use Rattle.call_stages.specs.Kinds.{clock_address}
use Rattle.split_merge.specs.Plans.{put_in}
use Rattle.node_ops.specs.declared.call.Call.{Call}
use Rattle.node_ops.specs.declared.lookup.Hold.{Hold}
use Rattle.node_ops.specs.declared.lookup.Looked.{Looked}
use Rattle.node_ops.specs.declared.lookup.Looked.TheVariants as looked
use Rattle.node_ops.specs.declared.lookup.Lookup.{Lookup}
use Rattle.node_ops.specs.declared.lookup.LookupAt.{LookupAt}
use Rattle.node_ops.specs.declared.lookup.LookupAt.TheVariants as look
use Rattle.node_ops.specs.declared.part.PartWords.{PartWords}
use Rattle.node_ops.specs.declared.part.Listing.{Listing}
use Rattle.node_ops.specs.declared.part.Reading.{Reading}
use Rattle.node_ops.specs.declared.part.ReadingAt.{ReadingAt}
use Rattle.node_ops.specs.declared.part.ReadingAt.TheVariants as at
use Rattle.node_ops.specs.declared.part.Way.{Way}
use Rattle.node_ops.specs.declared.part.Way.TheVariants as ways
use Rattle.node_ops.specs.declared.part.Part.{Part}
use Rattle.node_ops.specs.declared.part.Part.TheVariants as part
use Rattle.node_ops.specs.Calls.{IsCall, IsToldOf, call_address}
use Rattle.node_ops.specs.LookupSteps.{IsAtSeen, IsLocking, IsLookup, lookup_asks, lookup_turned, lookup_left}

-- what stays the same while it is made
abbrev pub part_call : Part → Call
part_call (part.Looking lookup count) = lookup.call
part_call (part.Ordering call seen count load) = call
part_call (part.Locking call seen count locked) = call
part_call (part.Dating call seen count way) = call
part_call (part.Reading reading) = reading.call

-- how many names it lists at most
abbrev pub part_count : Part → ℕ
part_count (part.Looking lookup count) = count
part_count (part.Ordering call seen count load) = count
part_count (part.Locking call seen count locked) = count
part_count (part.Dating call seen count way) = count
part_count (part.Reading reading) = reading.count

abbrev pub reading_at_asks : Call → Hold → ReadingAt → Action
reading_at_asks call hold at.Clock = Load (clock_address call.view.layout)
reading_at_asks call hold at.Bitmap = Load (call_address call bitmap_offset)
reading_at_asks call hold (at.Load slot word) = Load (call_address call (slot_offset slot word))
reading_at_asks call hold at.Check = Load (call_address call version_offset)
reading_at_asks call hold (at.Store store) = store_asks store
reading_at_asks call hold at.Unlock = Store (call_address call version_offset) (hold.locked + 1)

abbrev pub reading_asks : Reading → Action
reading_asks reading = reading_at_asks reading.call reading.hold reading.at

abbrev pub part_asks : Part → Action
part_asks (part.Looking lookup count) = lookup_asks lookup
part_asks (part.Ordering call seen count load) = load_asks load
part_asks (part.Locking call seen count locked) = Exchange (call_address call version_offset) seen.version locked
part_asks (part.Dating call seen count way) = Load (clock_address call.view.layout)
part_asks (part.Reading reading) = reading_asks reading

-- on to the lowest live one of so many slots, of which this is the first
abbrev pub load_from : ℕ → ℕ → ℕ → ReadingAt
load_from bitmap slot zero = at.Check
load_from bitmap slot (suc more) =
    if bit_at bitmap slot == 1 then at.Load slot 0 else load_from bitmap (slot + 1) more

-- and of the slots from this one on
abbrev pub next_at : ℕ → ℕ → ℕ → ReadingAt
next_at bitmap slot slots = load_from bitmap slot (slots - slot)

-- no slot is loaded yet
abbrev pub no_entry : List ℕ
no_entry = 0 ∷ 0 ∷ 0 ∷ 0 ∷ []

abbrev pub no_entries : List (List ℕ)
no_entries = replicate 64 no_entry

-- at its node, of which it has nothing yet
abbrev pub reading_from : Call → Hold → Option Next → ℕ → Way → ReadingAt → Reading
reading_from call hold behind count way at = record {
  call = call;
  hold = hold;
  old = None;
  behind = behind;
  count = count;
  way = way;
  bitmap = 0;
  entries = no_entries;
  at = at;
}

-- what its walk saw of its target, once it has ended
abbrev pub seen_at : LookupAt → Option Sighting
seen_at (look.Read seen) = Some seen
seen_at _ = None

-- then it loads the permutation of its node
abbrev pub part_came : Call → ℕ → Sighting → Part
part_came call count seen =
    part.Ordering call seen count (permutation_loads.load_from call.view.layout call.node seen.version)

abbrev pub part_walked : Lookup → ℕ → Option Sighting → Part
part_walked lookup count (Some seen) = part_came lookup.call count seen
part_walked lookup count None = part.Looking lookup count

-- a look-up that ends early has no place
abbrev pub IsEarly : Once Placed → Type 0
IsEarly (once.Done placed) = ⊥
IsEarly _ = Unit {0}

-- what a part is answered then
abbrev pub early_of : Once Placed → Once PartWords
early_of (once.Done placed) = once.Spent placed.place
early_of (once.Spent clock) = once.Spent clock
early_of (once.Worn node word) = once.Worn node word
early_of (once.Again why) = once.Again why

-- after a turn of the look-up, which finds nothing before its walk has ended
abbrev pub part_looked : ℕ → Turn Lookup Looked → Turn Part (Once PartWords)
part_looked count (Go lookup) = Go (part_walked lookup count (seen_at lookup.at))
part_looked count (Done (looked.Early answer)) = Done (early_of answer)
part_looked count (Done (looked.Found found)) = Done (once.Spent found.hold.clock)

-- there is a permutation to go by, or it takes the lock of the node, from which one can still be taken, or sorts for
-- itself
abbrev pub part_ordered : Call → Sighting → ℕ → Option (List ℕ) → Part
part_ordered call seen count (Some words) = part.Dating call seen count (ways.Served words)
part_ordered call seen count None =
    if is_worn_word seen.version call.view.generation
    then part.Dating call seen count ways.Alone
    else part.Locking call seen count
    (locked_word call.view.generation (kept_count seen.version call.view.generation))

abbrev pub ordering_turned : Call → Sighting → ℕ → Turn LoadPermutation (Option (List ℕ)) → Turn Part (Once PartWords)
ordering_turned call seen count (Go load) = Go (part.Ordering call seen count load)
ordering_turned call seen count (Done order) = Go (part_ordered call seen count order)

-- it has the lock, or the node has moved
abbrev pub part_held : Call → Sighting → ℕ → ℕ → Part
part_held call seen count locked =
    part.Reading (reading_from call (record { locked = locked; clock = 0 }) seen.next count
    (ways.Held (replicate 8 0)) at.Clock)

abbrev pub part_locked : Call → Sighting → ℕ → ℕ → ℕ → Turn Part (Once PartWords)
part_locked call seen count locked got =
    if got == seen.version
    then Go (part_held call seen count locked)
    else Done (once.Again (Moved call.node seen.version got))

-- it has no lock, and this clock
abbrev pub part_dated : Call → Sighting → ℕ → Way → ℕ → Part
part_dated call seen count way got =
    part.Reading (reading_from call (record { locked = seen.version; clock = got }) seen.next count way at.Bitmap)

-- the words of the slots with this word of a slot
abbrev pub with_word : List (List ℕ) → ℕ → ℕ → ℕ → List (List ℕ)
with_word entries slot word got = slice_set entries slot (slice_set (slice_index_or entries slot []) word got)

-- the words of a slot
abbrev pub entry_in : List (List ℕ) → ℕ → List ℕ
entry_in entries slot = slice_index_or entries slot no_entry

-- the words of the name in it
abbrev pub entry_name : List ℕ → List ℕ
entry_name entry = slice_index entry 0 ∷ slice_index entry 1 ∷ slice_index entry 2 ∷ []

-- the live ones of the first so many slots, each before the first of the others that it comes before
abbrev pub live_order : (ℕ → ℕ → Bool) → ℕ → ℕ → List ℕ
live_order before bitmap zero = []
live_order before bitmap (suc slot) =
    if bit_at bitmap slot == 1 then put_in before slot (live_order before bitmap slot)
    else live_order before bitmap slot

-- so its live slots in rising order of names
unfoldable pub sorted_slots : List (List ℕ) → ℕ → ℕ → List ℕ
sorted_slots entries bitmap slots = live_order (comes_before entries) bitmap slots

abbrev pub sorted_in : Reading → List ℕ
sorted_in reading = sorted_slots reading.entries reading.bitmap reading.call.view.layout.slots

-- in the order by which it goes: that of the permutation that it has read or made, or its own
abbrev pub order_by : Reading → Way → List ℕ
order_by reading (ways.Served words) =
    first_slots (slice_index words) (live_count reading.call.view.layout.slots reading.bitmap)
order_by reading (ways.Held words) =
    first_slots (slice_index words) (live_count reading.call.view.layout.slots reading.bitmap)
order_by reading ways.Alone = sorted_in reading

abbrev pub order_in : Reading → List ℕ
order_in reading = order_by reading reading.way

-- how many names it sorted
abbrev pub compared_by : Way → ℕ → ℕ
compared_by (ways.Served words) names = 0
compared_by (ways.Held words) names = names
compared_by ways.Alone names = names

-- the version word that the node has as it is done with it
abbrev pub version_at : ℕ → ReadingAt → ℕ
version_at locked at.Unlock = locked + 1
version_at locked _ = locked

-- these are the words of the low name
abbrev pub is_low : Reading → List ℕ → Bool
is_low reading entry =
    (slice_index entry 0 == slice_index reading.call.name 0) &&
    ((slice_index entry 1 == slice_index reading.call.name 1) &&
    (slice_index entry 2 == slice_index reading.call.name 2))

-- the low name is in this slot
abbrev pub has_low : Reading → ℕ → Bool
has_low reading slot = (bit_at reading.bitmap slot == 1) && is_low reading (entry_in reading.entries slot)

-- what it has, by this slot, or else this
abbrev pub low_or : Reading → ℕ → Option ℕ → Option ℕ
low_or reading slot old =
    if has_low reading slot then Some (slice_index (entry_in reading.entries slot) 3) else old

-- and by the first so many slots
abbrev pub low_value : Reading → ℕ → Option ℕ
low_value reading zero = None
low_value reading (suc slot) = low_or reading slot (low_value reading slot)

-- all live slots are loaded: it loads the version word again, or it has the lock, and stores the permutation
abbrev pub sorted_by : Reading → Way → Reading
sorted_by reading (ways.Held words) = record reading {
  way = ways.Held (permutation_words (sorted_in reading));
  at = at.Store (store_from reading.call.view.layout reading.call.node reading.hold.locked
      (permutation_words (sorted_in reading)));
}
sorted_by reading _ = record reading { at = at.Check }

abbrev pub all_loaded : Reading → Reading
all_loaded reading =
    sorted_by (record reading { old = low_value reading reading.call.view.layout.slots }) reading.way

-- on to this slot, or behind them all
abbrev pub goes_on : Reading → ReadingAt → Reading
goes_on reading (at.Load slot word) = record reading { at = at.Load slot word }
goes_on reading _ = all_loaded reading

abbrev pub after_bitmap : Reading → ℕ → Reading
after_bitmap reading got =
    goes_on (record reading { bitmap = got }) (next_at got 0 reading.call.view.layout.slots)

-- after this word of this slot
abbrev pub after_at : Reading → ℕ → ℕ → ReadingAt
after_at reading slot word =
    if nat_lt (word + 1) 4 then at.Load slot (word + 1)
    else next_at reading.bitmap (slot + 1) reading.call.view.layout.slots

abbrev pub after_word : Reading → ℕ → ℕ → ℕ → Reading
after_word reading slot word got =
    goes_on (record reading { entries = with_word reading.entries slot word got }) (after_at reading slot word)

-- the name isn't below the low one
abbrev pub is_from : Reading → List ℕ → Bool
is_from reading entry = not (nat_lt (number_of (entry_name entry)) (number_of reading.call.name))

-- it is listed as long as there aren't enough
abbrev pub is_listed : Reading → Listing → List ℕ → Bool
is_listed reading listing entry = nat_lt listing.len reading.count && is_from reading entry

abbrev pub with_entry : Reading → Listing → List ℕ → Listing
with_entry reading listing entry =
    if is_listed reading listing entry
    then record {
      len = listing.len + 1;
      entries = slice_set listing.entries listing.len entry;
    }
    else listing

abbrev pub lists : Reading → Listing → ℕ → Listing
lists reading listing slot = with_entry reading listing (entry_in reading.entries slot)

-- as none is listed yet
abbrev pub no_listing : Listing
no_listing = record { len = 0; entries = no_entries }

-- of these slots, one after another
abbrev pub listing_in : Reading → List ℕ → Listing
listing_in reading slots = fold (lists reading) no_listing slots

-- what it tells
abbrev pub part_words : Reading → PartWords
part_words reading =
    record {
      node = reading.call.node;
      version = version_at reading.hold.locked reading.at;
      place = reading.hold.clock;
      old = reading.old;
      high = high_of reading.behind;
      len = (listing_in reading (order_in reading)).len;
      entries = (listing_in reading (order_in reading)).entries;
      compared = compared_by reading.way (length (order_in reading));
      hops = reading.call.hops;
    }

-- where its next turn ends it
abbrev pub listed_at : Reading → ReadingAt → Option PartWords
listed_at reading at.Check = Some (part_words reading)
listed_at reading at.Unlock = Some (part_words reading)
listed_at reading _ = None

abbrev pub part_listed : Part → Option PartWords
part_listed (part.Reading reading) = listed_at reading reading.at
part_listed _ = None

-- its answer, as that of a get of its low name
abbrev pub words_placed : PartWords → Placed
words_placed words = record { old = words.old; place = words.place; hops = words.hops }

abbrev pub placed_of : Once PartWords → Once Placed
placed_of (once.Done words) = once.Done (words_placed words)
placed_of (once.Spent clock) = once.Spent clock
placed_of (once.Worn node word) = once.Worn node word
placed_of (once.Again why) = once.Again why

-- a turn with that answer
abbrev pub placed_turn : Turn Part (Once PartWords) → Turn Part (Once Placed)
placed_turn (Go p) = Go p
placed_turn (Done answer) = Done (placed_of answer)

-- the version word is still the one that its walk saw, or another one
abbrev pub part_checked : Reading → ℕ → Once PartWords
part_checked reading got =
    if got == reading.hold.locked then once.Done (part_words reading)
    else once.Again (Moved reading.call.node reading.hold.locked got)

-- after a store of the permutation
abbrev pub store_on : Reading → Turn StorePermutation (Unit {0}) → Reading
store_on reading (Go store) = record reading { at = at.Store store }
store_on reading (Done nothing) = record reading { at = at.Unlock }

abbrev pub reading_turned : Reading → ReadingAt → ℕ → Turn Part (Once PartWords)
reading_turned reading at.Clock got =
    Go (part.Reading (record reading {
      hold = record { locked = reading.hold.locked; clock = got };
      at = at.Bitmap;
    }))
reading_turned reading at.Bitmap got = Go (part.Reading (after_bitmap reading got))
reading_turned reading (at.Load slot word) got = Go (part.Reading (after_word reading slot word got))
reading_turned reading at.Check got = Done (part_checked reading got)
reading_turned reading (at.Store store) got = Go (part.Reading (store_on reading (store_turned store got)))
reading_turned reading at.Unlock got = Done (once.Done (part_words reading))

abbrev pub part_turned : Part → ℕ → Turn Part (Once PartWords)
part_turned (part.Looking lookup count) got = part_looked count (lookup_turned lookup got)
part_turned (part.Ordering call seen count load) got = ordering_turned call seen count (load_turned load got)
part_turned (part.Locking call seen count locked) got = part_locked call seen count locked got
part_turned (part.Dating call seen count way) got = Go (part_dated call seen count way got)
part_turned (part.Reading reading) got = reading_turned reading reading.at got

-- it has the lock of its node
abbrev pub IsHeld : Way → Type 0
IsHeld (ways.Held words) = Unit {0}
IsHeld _ = ⊥

-- it has no lock
abbrev pub IsFreely : Way → Type 0
IsFreely (ways.Held words) = ⊥
IsFreely _ = Unit {0}

-- as many words as a permutation has
abbrev pub HasRoom : Way → Type 0
HasRoom (ways.Served words) = length words ≡ 8
HasRoom (ways.Held words) = length words ≡ 8
HasRoom ways.Alone = Unit {0}

-- a store of the permutation that it has made
pub record IsStoring (reading : Reading) (store : StorePermutation) : Type 0 where
  pub sound : IsStore store
  pub from : store ≡ record (store_from reading.call.view.layout reading.call.node reading.hold.locked
      (permutation_words (sorted_in reading))) { stored = store.stored }

-- what it has found of the live slots' words
pub record IsSorted (reading : Reading) : Type 0 where
  pub made : reading.way ≡ ways.Held (permutation_words (sorted_in reading))
  pub old : reading.old ≡ low_value reading reading.call.view.layout.slots

-- the slot whose word it loads is live; the lock is what it must be
abbrev pub IsReadingAt : Reading → ReadingAt → Type 0
IsReadingAt reading at.Clock = IsHeld reading.way
IsReadingAt reading at.Bitmap = Unit {0}
IsReadingAt reading (at.Load slot word) =
    (slot < reading.call.view.layout.slots) × IsLive reading.bitmap slot × (word < 4)
IsReadingAt reading at.Check = IsFreely reading.way × (reading.old ≡ low_value reading reading.call.view.layout.slots)
IsReadingAt reading (at.Store store) = IsStoring reading store × IsSorted reading
IsReadingAt reading at.Unlock = IsSorted reading

-- the version word is one that a lock gives, where it has that
abbrev pub IsWordBy : Way → ℕ → Type 0
IsWordBy (ways.Held words) locked = IsLockWord locked
IsWordBy _ locked = Unit {0}

-- what its fields keep
pub record IsReading (reading : Reading) : Type 0 where
  pub call : IsCall reading.call
  pub reads : reading.call.limit ≡ None
  pub behind : IfSome reading.behind (λ next. next.node ≢ 0)
  pub room : HasRoom reading.way
  pub locked : IsWordBy reading.way reading.hold.locked
  pub many : length reading.entries ≡ 64
  pub wide : (slot : ℕ) → slot < 64 → length (entry_in reading.entries slot) ≡ 4
  pub here : IsReadingAt reading reading.at

-- its walk has not ended yet
abbrev pub IsWalkingAt : LookupAt → Type 0
IsWalkingAt (look.Floor floor) = Unit {0}
IsWalkingAt (look.Walk walk) = Unit {0}
IsWalkingAt _ = ⊥

-- it has come to its node
pub record IsThere (call : Call) (seen : Sighting) : Type 0 where
  pub sound : IsCall call
  pub is : IsAtSeen call seen

-- it loads the permutation of its node
pub record IsOrdering (call : Call) (seen : Sighting) (load : LoadPermutation) : Type 0 where
  pub there : IsThere call seen
  pub loads : IsLoad load
  pub layout : load.layout ≡ call.view.layout
  pub node : load.node ≡ call.node
  pub version : load.version ≡ seen.version

abbrev pub IsPart : Part → Type 0
IsPart (part.Looking lookup count) = IsLookup lookup × (lookup.call.limit ≡ None) × IsWalkingAt lookup.at
IsPart (part.Ordering call seen count load) = IsOrdering call seen load
IsPart (part.Locking call seen count locked) = IsThere call seen × IsLocking call.view.generation seen.version locked
IsPart (part.Dating call seen count way) = IsThere call seen × IsFreely way × HasRoom way
IsPart (part.Reading reading) = IsReading reading

abbrev pub part_takes : Part → ℕ → Type 0
part_takes p got = IsPart p × IsToldOf (part_call p) (part_asks p) got

-- the words of each slot that is left, and the load of the version word, or the stores of the permutation and the one
-- that gives the node back
abbrev pub end_left : Way → ℕ
end_left (ways.Held words) = 10
end_left _ = 1

abbrev pub reading_left : ℕ → Way → ReadingAt → ℕ
reading_left slots way at.Clock = 4 * slots + 2 + end_left way
reading_left slots way at.Bitmap = 4 * slots + 1 + end_left way
reading_left slots way (at.Load slot word) = 4 * (slots - slot) + end_left way - word
reading_left slots way at.Check = 1
reading_left slots way (at.Store store) = store_left store + 1
reading_left slots way at.Unlock = 1

-- without a permutation it takes a lock next
abbrev pub order_left : LoadPermutation → ℕ
order_left load = load_left load + 5

abbrev pub part_left : Part → ℕ
part_left (part.Looking lookup count) = lookup_left lookup + (4 * lookup.call.view.layout.slots + 2)
part_left (part.Ordering call seen count load) = 4 * call.view.layout.slots + order_left load
part_left (part.Locking call seen count locked) = 4 * call.view.layout.slots + 13
part_left (part.Dating call seen count way) = 4 * call.view.layout.slots + 3
part_left (part.Reading reading) = reading_left reading.call.view.layout.slots reading.way reading.at
