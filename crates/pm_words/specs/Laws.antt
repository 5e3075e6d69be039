-- Laws of addresses, rows and images. Each is proved; crates above cite its proof by the lemma's name.
use Rattle.std.specs.Prelude.{◌≡◌, ◌≢◌, ℕ, ◌<◌, ◌^◌, List, length, slice_set, IfSome}
use Rattle.pm_words.specs.declared.layout.Layout.{Layout}
use Rattle.pm_words.specs.declared.action.Action.{Action}
use Rattle.pm_words.specs.declared.action.Action.TheVariants.{Drain}
use Rattle.pm_words.specs.declared.fence.Fence.{Fence}
use Rattle.pm_words.specs.Layouts.{IsLayout}
use Rattle.pm_words.specs.Locations.{Word, Header, Location, Cached, Durable, node_words, image_words}
use Rattle.pm_words.specs.Locations.{word_number, HasWord, word_at, row_words, address_of, HasLocation, IsVolatile, at}
use Rattle.pm_words.specs.Images.{IsImage, fresh_words, fresh_word}
use Rattle.pm_words.specs.Fences.{IsFence, fence_asks, fence_next, FenceTurn}
use Rattle.pm_words.specs.Rows.{IsRow, IsOutsideHeader, KeepsHeader, IsCached, CanAct, action_address, acted, evicted}
use Rattle.pm_words.specs.Rows.{durable_row, cached_row, row_of}
use Rattle.pm_words.specs.Offsets.{slot_offset}

-- a word that an image has is one of its words
abbrev pub WordsWithin : Type 0
WordsWithin = (l : Layout) (w : Word) → HasWord l w → word_number l w < image_words l

-- words with one number are one word
abbrev pub WordsApart : Type 0
WordsApart = (l : Layout) (v w : Word) → HasWord l v → HasWord l w → word_number l v ≡ word_number l w → v ≡ w

abbrev pub AddressesWithin : Type 0
AddressesWithin = (l : Layout) (p : Location) → HasLocation l p → address_of l p < row_words l

abbrev pub AddressesApart : Type 0
AddressesApart = (l : Layout) (p q : Location) → HasLocation l p → HasLocation l q → address_of l p ≡ address_of l q →
    p ≡ q

abbrev pub SlotsWithin : Type 0
SlotsWithin = (l : Layout) (slot k : ℕ) → slot < l.slots → k < 4 → slot_offset slot k < node_words l

abbrev pub SlotsApart : Type 0
SlotsApart = (slot k slot' k' : ℕ) → k < 4 → k' < 4 → slot_offset slot k ≡ slot_offset slot' k' → (slot ≡ slot') ×
    (k ≡ k')

-- a location has the word that was stored there
abbrev pub StoreStands : Type 0
StoreStands = (l : Layout) (words : List ℕ) (p : Location) (word : ℕ) → length words ≡ row_words l → HasLocation l p →
    at l (slice_set words (address_of l p) word) p ≡ word

-- a store at one location leaves the word at any other
abbrev pub StoreLeaves : Type 0
StoreLeaves = (l : Layout) (words : List ℕ) (p q : Location) (word : ℕ) → HasLocation l p → HasLocation l q → q ≢ p →
    at l (slice_set words (address_of l p) word) q ≡ at l words q

-- a drain of a word's cached twin stores into its durable one
abbrev pub DrainsTwin : Type 0
DrainsTwin = (l : Layout) (w : Word) (value : ℕ) →
    action_address l (Drain (address_of l (Cached w)) value) ≡ address_of l (Durable w)

abbrev pub NamesCached : Type 0
NamesCached = (l : Layout) (w : Word) → HasWord l w → IsCached l (address_of l (Cached w))

-- an action may name the address of every location that is no header word's, and a drain of it may give any value
abbrev pub OutsideHeader : Type 0
OutsideHeader = (l : Layout) (p : Location) → HasLocation l p →
    ((k : ℕ) → k < 5 → (p ≢ Cached (Header k)) × (p ≢ Durable (Header k))) →
    IsOutsideHeader l (address_of l p)

abbrev pub DrainsFreely : Type 0
DrainsFreely = (l : Layout) (w : Word) (value : ℕ) → HasWord l w → ((k : ℕ) → k < 5 → w ≢ Header k) →
    KeepsHeader l (address_of l (Cached w)) value

-- a row stays one of its layout
abbrev pub ActKeepsRow : Type 0
ActKeepsRow = (l : Layout) (words : List ℕ) (action : Action) → IsRow l words → CanAct l words action →
    IsRow l (acted l words action)

abbrev pub EvictionKeepsRow : Type 0
EvictionKeepsRow = (l : Layout) (words : List ℕ) (word : ℕ) → IsRow l words → word < image_words l →
    IsRow l (evicted l words word)

-- a crash leaves an image of the durable twins
abbrev pub CrashLeavesImage : Type 0
CrashLeavesImage = (l : Layout) (words : List ℕ) → IsRow l words → IsImage l (durable_row l words)

abbrev pub CrashLeavesDurable : Type 0
CrashLeavesDurable = (l : Layout) (words : List ℕ) (w : Word) →
    word_at l (durable_row l words) w ≡ at l words (Durable w)

-- the cached twins are one, too
abbrev pub CachedIsImage : Type 0
CachedIsImage = (l : Layout) (words : List ℕ) → IsRow l words → IsImage l (cached_row l words)

abbrev pub CachedByWord : Type 0
CachedByWord = (l : Layout) (words : List ℕ) (w : Word) → HasWord l w →
    word_at l (cached_row l words) w ≡ at l words (Cached w)

-- an image makes a row: both twins are the image's word, and the volatile words are 0
abbrev pub ImageMakesRow : Type 0
ImageMakesRow = (l : Layout) (image : List ℕ) → IsImage l image → IsRow l (row_of l image)

abbrev pub TwinsAreImage : Type 0
TwinsAreImage = (l : Layout) (image : List ℕ) (w : Word) → IsImage l image → HasWord l w →
    (at l (row_of l image) (Cached w) ≡ word_at l image w) × (at l (row_of l image) (Durable w) ≡ word_at l image w)

abbrev pub VolatileIsZero : Type 0
VolatileIsZero = (l : Layout) (image : List ℕ) (p : Location) → HasLocation l p → IsVolatile p →
    at l (row_of l image) p ≡ 0

-- the fresh image, whole and word by word
abbrev pub FreshIsImage : Type 0
FreshIsImage = (l : Layout) → IsLayout l → IsImage l (fresh_words l)

abbrev pub FreshByName : Type 0
FreshByName = (l : Layout) (w : Word) → HasWord l w → word_at l (fresh_words l) w ≡ fresh_word l w

-- each turn of a fence is one of its three, and its fields stay in range
abbrev pub FencesTurn : Type 0
FencesTurn = (address : ℕ) (fence : Fence) (x : ℕ) → IsFence fence → x < 2 ^ 64 →
    FenceTurn address x fence (fence_asks address fence) (fence_next fence x)

abbrev pub FencesStay : Type 0
FencesStay = (fence : Fence) (x : ℕ) → IsFence fence → x < 2 ^ 64 → IfSome (fence_next fence x) IsFence
