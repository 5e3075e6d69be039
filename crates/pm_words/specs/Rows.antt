-- Rows of volatile words, cached twins and durable twins, and what is done to them.
use Rattle.std.specs.Prelude.{◌≡◌, ◌≢◌, ℕ, ◌+◌, ◌^◌, ◌<◌, ◌≤◌, ◌==◌, if◌then◌else◌, List, ◌++◌, length, drop, take}
use Rattle.std.specs.Prelude.{replicate}
use Rattle.std.specs.Prelude.{slice_index, slice_set}
use Rattle.pm_words.specs.declared.layout.Layout.{Layout}
use Rattle.pm_words.specs.declared.action.Action.{Action}
use Rattle.pm_words.specs.declared.action.Action.TheVariants.{Load, Store, Exchange, Add, Drain}
use Rattle.pm_words.specs.Layouts.{IsLayout}
use Rattle.pm_words.specs.Locations.{Header, Cached, Durable, image_words, row_words, volatile_words, cached_address}
use Rattle.pm_words.specs.Locations.{durable_address, address_of, at}
use Rattle.pm_words.specs.Images.{header}

-- as many words as the layout says, each of 64 bits, and the header of the layout in both twins of the words 0 to 4
pub record IsRow (l : Layout) (words : List ℕ) : Type 0 where
  pub layout : IsLayout l
  pub whole : length words ≡ row_words l
  pub cached : (k : ℕ) → k < 5 → at l words (Cached (Header k)) ≡ slice_index (header l) k
  pub durable : (k : ℕ) → k < 5 → at l words (Durable (Header k)) ≡ slice_index (header l) k
  pub fits : (k : ℕ) → slice_index words k < 2 ^ 64

-- the address of the word that an action reads or writes: of a drain the durable twin
abbrev pub action_address : Layout → Action → ℕ
action_address l (Load address) = address
action_address l (Store address value) = address
action_address l (Exchange address old new) = address
action_address l (Add address) = address
action_address l (Drain address value) = address + image_words l

-- that word afterwards
abbrev pub word_after : Action → ℕ → ℕ
word_after (Load address) word = word
word_after (Store address value) word = value
word_after (Exchange address old new) word = if word == old then new else word
word_after (Add address) word = word + 1
word_after (Drain address value) word = value

-- the number that the action gives
abbrev pub given : Action → ℕ → ℕ
given (Load address) word = word
given (Store address value) word = 0
given (Exchange address old new) word = word
given (Add address) word = word
given (Drain address value) word = 0

-- the row afterwards: one word is another, and of a load or an exchange that misses not even that
abbrev pub acted : Layout → List ℕ → Action → List ℕ
acted l words action = slice_set words (action_address l action)
    (word_after action (slice_index words (action_address l action)))

abbrev pub got : Layout → List ℕ → Action → ℕ
got l words action = given action (slice_index words (action_address l action))

-- the address of no twin of the words 0 to 4
abbrev pub IsOutsideHeader : Layout → ℕ → Type 0
IsOutsideHeader l address = (k : ℕ) → k < 5 → (address ≢ address_of l (Cached (Header k))) ×
    (address ≢ address_of l (Durable (Header k)))

-- a header word keeps its value
abbrev pub KeepsHeader : Layout → ℕ → ℕ → Type 0
KeepsHeader l address value = (k : ℕ) → k < 5 → address ≡ address_of l (Cached (Header k)) →
    value ≡ slice_index (header l) k

-- the address of a cached twin
abbrev pub IsCached : Layout → ℕ → Type 0
IsCached l address = (volatile_words l ≤ address) × (address < durable_address l 0)

-- the addresses that an action may name, whatever the words are
abbrev pub MayName : Layout → Action → Type 0
MayName l (Load address) = address < row_words l
MayName l (Store address value) = (address < row_words l) × IsOutsideHeader l address
MayName l (Exchange address old new) = (address < row_words l) × IsOutsideHeader l address
MayName l (Add address) = (address < row_words l) × IsOutsideHeader l address
MayName l (Drain address value) = IsCached l address × KeepsHeader l address value

-- the word afterwards has 64 bits, with room for the adds to come
abbrev pub CanChange : Action → ℕ → Type 0
CanChange (Load address) word = Unit {0}
CanChange (Store address value) word = value < 2 ^ 64
CanChange (Exchange address old new) word = new < 2 ^ 64
CanChange (Add address) word = word < 2 ^ 63
CanChange (Drain address value) word = value < 2 ^ 64

-- the action may be done on these words
abbrev pub CanAct : Layout → List ℕ → Action → Type 0
CanAct l words action = MayName l action × CanChange action (slice_index words (action_address l action))

-- the row once an image word is copied to its durable twin
abbrev pub evicted : Layout → List ℕ → ℕ → List ℕ
evicted l words word = slice_set words (durable_address l word) (slice_index words (cached_address l word))

-- what a crash leaves
abbrev pub durable_row : Layout → List ℕ → List ℕ
durable_row l words = drop (durable_address l 0) words

-- the cached twins, as an image
abbrev pub cached_row : Layout → List ℕ → List ℕ
cached_row l words = take (image_words l) (drop (volatile_words l) words)

-- both twins are an image, and every volatile word is 0
abbrev pub row_of : Layout → List ℕ → List ℕ
row_of l image = replicate (volatile_words l) 0 ++ image ++ image
