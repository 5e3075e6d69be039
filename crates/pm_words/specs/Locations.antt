-- The words of an image and the locations of a row by name, and their numbers.
use Rattle.std.specs.Prelude.{ℕ, ◌+◌, ◌-◌, ◌*◌, ◌<◌, ◌≤◌, List, [], ◌∷◌, sum, take, slice_index}
use Rattle.pm_words.specs.declared.layout.Layout.{Layout}

-- a word of an image; the last number is its offset in its part
pub data Word : Type 0 where
  Header : ℕ → Word
  Root : ℕ → Word
  Node : ℕ → ℕ → Word  -- the node
  Line : ℕ → ℕ → ℕ → Word  -- the caller, and which of its log lines
  Leaf : ℕ → ℕ → Word  -- the leaf's number
  Cell : ℕ → ℕ → ℕ → Word  -- the cell's kind, and its number among those of the kind

-- a location of the row: a volatile word, or a twin of an image word
pub data Location : Type 0 where
  Clock : Location
  Updater : Location  -- the updater lock
  Volatile : ℕ → ℕ → Location  -- a node, and the offset of its volatile word
  Mark : ℕ → ℕ → Location  -- whether a leaf (kind 1) or a cell is in use: its kind and its number
  Cached : Word → Location
  Durable : Word → Location

-- where part k starts, if parts of these sizes stand one behind the other
abbrev pub start_of : List ℕ → ℕ → ℕ
start_of sizes k = sum (take k sizes)

-- the words of one node, 16 and four for each slot
abbrev pub node_words : Layout → ℕ
node_words l = 16 + 4 * l.slots

-- how many leaves there are, and how many cells of each kind
abbrev pub leaf_count : Layout → ℕ
leaf_count l = l.nodes + 4

-- the words of one leaf (kind 1), and of one cell of the kinds 2 to 5
abbrev pub kind_words : ℕ → ℕ
kind_words kind = slice_index (0 ∷ 8 ∷ 8 ∷ 24 ∷ 88 ∷ 264 ∷ []) kind

-- the parts of an image: header, root, nodes, log, leaves, and the cells of the kinds 2 to 5
abbrev pub image_parts : Layout → List ℕ
image_parts l =
    8 ∷ 8 ∷ node_words l * l.nodes ∷ 64 * l.callers ∷ 8 * leaf_count l ∷
    8 * leaf_count l ∷ 24 * leaf_count l ∷ 88 * leaf_count l ∷ 264 * leaf_count l ∷ []

abbrev pub image_words : Layout → ℕ
image_words l = sum (image_parts l)

abbrev pub part_of_word : Word → ℕ
part_of_word (Header o) = 0
part_of_word (Root o) = 1
part_of_word (Node n o) = 2
part_of_word (Line c j o) = 3
part_of_word (Leaf k o) = 4
part_of_word (Cell kind k o) = 3 + kind

-- how far a word is behind the start of its part
abbrev pub behind_part : Layout → Word → ℕ
behind_part l (Header o) = o
behind_part l (Root o) = o
behind_part l (Node n o) = n * node_words l + o
behind_part l (Line c j o) = 64 * c + 8 * j + o
behind_part l (Leaf k o) = k * 8 + o
behind_part l (Cell kind k o) = k * kind_words kind + o

-- an image word's number
abbrev pub word_number : Layout → Word → ℕ
word_number l w = start_of (image_parts l) (part_of_word w) + behind_part l w

-- the words that an image of this layout has
abbrev pub HasWord : Layout → Word → Type 0
HasWord l (Header o) = o < 8
HasWord l (Root o) = o < 8
HasWord l (Node n o) = (n < l.nodes) × (o < node_words l)
HasWord l (Line c j o) = (c < l.callers) × (j < 8) × (o < 8)
HasWord l (Leaf k o) = (k < leaf_count l) × (o < 8)
HasWord l (Cell kind k o) = (2 ≤ kind) × (kind ≤ 5) × (k < leaf_count l) × (o < kind_words kind)

-- the parts of a row: the clock's line, the nodes' volatile words, the marks, the cached and the durable twins
abbrev pub row_parts : Layout → List ℕ
row_parts l = 8 ∷ 16 * l.nodes ∷ leaf_count l * 5 ∷ image_words l ∷ image_words l ∷ []

abbrev pub row_words : Layout → ℕ
row_words l = sum (row_parts l)

-- the words in front of the cached twins
abbrev pub volatile_words : Layout → ℕ
volatile_words l = start_of (row_parts l) 3

-- the addresses of an image word's twins, by its number
abbrev pub cached_address : Layout → ℕ → ℕ
cached_address l word = volatile_words l + word

abbrev pub durable_address : Layout → ℕ → ℕ
durable_address l word = start_of (row_parts l) 4 + word

abbrev pub part_of_address : Location → ℕ
part_of_address Clock = 0
part_of_address Updater = 0
part_of_address (Volatile n o) = 1
part_of_address (Mark kind k) = 2
part_of_address (Cached w) = 3
part_of_address (Durable w) = 4

abbrev pub behind_start : Layout → Location → ℕ
behind_start l Clock = 0
behind_start l Updater = 1
behind_start l (Volatile n o) = n * 16 + o
behind_start l (Mark kind k) = (kind - 1) * leaf_count l + k
behind_start l (Cached w) = word_number l w
behind_start l (Durable w) = word_number l w

-- the address of a location
abbrev pub address_of : Layout → Location → ℕ
address_of l p = start_of (row_parts l) (part_of_address p) + behind_start l p

-- the locations that a row of this layout has
abbrev pub HasLocation : Layout → Location → Type 0
HasLocation l Clock = Unit {0}
HasLocation l Updater = Unit {0}
HasLocation l (Volatile n o) = (n < l.nodes) × (o < 16)
HasLocation l (Mark kind k) = (1 ≤ kind) × (kind ≤ 5) × (k < leaf_count l)
HasLocation l (Cached w) = HasWord l w
HasLocation l (Durable w) = HasWord l w

-- a location in front of the cached twins
abbrev pub IsVolatile : Location → Type 0
IsVolatile p = part_of_address p < 3

-- the word at a location
abbrev pub at : Layout → List ℕ → Location → ℕ
at l words p = slice_index words (address_of l p)

-- an image's word by its name
abbrev pub word_at : Layout → List ℕ → Word → ℕ
word_at l words w = slice_index words (word_number l w)
