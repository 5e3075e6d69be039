-- Taking a leaf or a cell that is free, mark by mark.
use Rattle.std.specs.Prelude.{◌≡◌, ◌≢◌, ℕ, ◌+◌, ◌-◌, ◌*◌, ◌^◌, ◌<◌, ◌≤◌, ◌==◌, nat_lt, if◌then◌else◌, IsSomeAnd}
use Rattle.pm_words.specs.declared.layout.Layout.{Layout}
use Rattle.pm_words.specs.declared.action.Action.{Action}
use Rattle.pm_words.specs.declared.action.Action.TheVariants.{Load, Store}
use Rattle.pm_words.specs.declared.machine.Turn.{Turn}
use Rattle.pm_words.specs.declared.machine.Turn.TheVariants.{Go, Done}
use Rattle.pm_words.specs.Layouts.{IsLayout}
use Rattle.pm_words.specs.Locations.{Mark, address_of, leaf_count}
use Rattle.layer_map.specs.Layers.{HasFew}
use Rattle.tree_law.specs.Trees.{IsReached}
use Rattle.tree_law.specs.Words.{LayerWords, tree_of, layer_of, IsLawful, Part, LeafPart, CellPart, part_reference}
use Rattle.tree_law.specs.Words.{AreSameBut, kind_of, number_of, reference_of}
use Rattle.tree_law.specs.Stages.{Marks, MarksTell}
use Rattle.tree_law.specs.Marking.{IsMarkSet}
use Rattle.tree_change.specs.declared.take.Take.{Take}
use Rattle.tree_change.specs.declared.take.TakeAt.{TakeAt}
use Rattle.tree_change.specs.declared.take.TakeAt.TheVariants as at
use Rattle.tree_change.specs.declared.take.Taken.{Taken}
use Rattle.tree_change.specs.declared.take.Taken.TheVariants.{One, Absent}
use Rattle.tree_floor.specs.Telling.{answer_in}

abbrev pub take_starts : Layout → ℕ → Take
take_starts l kind = record { layout = l; kind = kind; at = at.Seek 0 }

-- the address of a mark of its kind
abbrev pub take_mark : Take → ℕ → ℕ
take_mark take number = address_of take.layout (Mark take.kind number)

abbrev pub take_at_asks : Take → TakeAt → Action
take_at_asks take (at.Seek number) = Load (take_mark take number)
take_at_asks take (at.Mark number) = Store (take_mark take number) 1

abbrev pub take_asks : Take → Action
take_asks take = take_at_asks take take.at

-- this mark is set
abbrev pub take_seeks : Take → ℕ → Turn Take Taken
take_seeks take number =
    if nat_lt (number + 1) (leaf_count take.layout) then Go (record take { at = at.Seek (number + 1) }) else Done Absent

abbrev pub take_at_turned : Take → TakeAt → ℕ → Turn Take Taken
take_at_turned take (at.Seek number) got =
    if got == 0 then Go (record take { at = at.Mark number }) else take_seeks take number
take_at_turned take (at.Mark number) got = Done (One number)

abbrev pub take_turned : Take → ℕ → Turn Take Taken
take_turned take got = take_at_turned take take.at got

-- What its fields keep.
abbrev pub IsTakeAt : Layout → TakeAt → Type 0
IsTakeAt l (at.Seek number) = number < leaf_count l
IsTakeAt l (at.Mark number) = number < leaf_count l

pub record IsTake (take : Take) : Type 0 where
  pub layout : IsLayout take.layout
  pub low : 1 ≤ take.kind
  pub high : take.kind ≤ 5
  pub here : IsTakeAt take.layout take.at

abbrev pub take_takes : Take → ℕ → Type 0
take_takes take got = IsTake take × (got < 2 ^ 64)

-- how many actions it asks for from here on, at most; and from its start on
abbrev pub take_at_left : Layout → TakeAt → ℕ
take_at_left l (at.Seek number) = leaf_count l - number + 1
take_at_left l (at.Mark number) = 1

abbrev pub take_left : Take → ℕ
take_left take = take_at_left take.layout take.at

abbrev pub take_most : Layout → ℕ
take_most l = leaf_count l + 1

-- what it takes is in range
abbrev pub IsTakenIn : Layout → Taken → Type 0
IsTakenIn l (One number) = number < leaf_count l
IsTakenIn l Absent = Unit {0}

-- It stays one of its kind, and asks for less and less, whatever it is told.
abbrev pub TakeAfter : Take → ℕ → Turn Take Taken → Type 0
TakeAfter take left (Go next) =
    IsTake next × (next.layout ≡ take.layout) × (next.kind ≡ take.kind) × (take_left next < left)
TakeAfter take left (Done taken) = IsTakenIn take.layout taken

abbrev pub TakeStays : Type 0
TakeStays = (take : Take) (got : ℕ) → take_takes take got → TakeAfter take (take_left take) (take_turned take got)

-- A turn loads a mark; the last one, if it took something, sets the mark of that.
abbrev pub take_number : TakeAt → ℕ
take_number (at.Seek number) = number
take_number (at.Mark number) = number

abbrev pub LoadsMark : Take → Type 0
LoadsMark take = take_asks take ≡ Load (take_mark take (take_number take.at))

abbrev pub TakesBy : Take → Turn Take Taken → Type 0
TakesBy take (Go next) = LoadsMark take
TakesBy take (Done (One number)) = take_asks take ≡ Store (take_mark take number) 1
TakesBy take (Done Absent) = LoadsMark take

abbrev pub TakeMarks : Type 0
TakeMarks = (take : Take) (got : ℕ) → TakesBy take (take_turned take got)

-- the number that it gets, with these marks
abbrev pub take_told : Marks → Take → TakeAt → ℕ
take_told m take (at.Seek number) = m take.kind number
take_told m take (at.Mark number) = 0

abbrev pub take_turn : Marks → Take → Turn Take Taken
take_turn m take = take_turned take (take_told m take take.at)

-- What is taken of so many: the first without a mark, or none, where each has one.
abbrev pub IsTaken : ℕ → Marks → ℕ → Taken → Type 0
IsTaken count m kind (One number) = (number < count) × (m kind number ≡ 0) × ((i : ℕ) → i < number → m kind i ≢ 0)
IsTaken count m kind Absent = (i : ℕ) → i < count → m kind i ≢ 0

-- So long as the marks stay as they are, but for the one that it sets, it takes exactly that.
abbrev pub TakeIsExact : Type 0
TakeIsExact = (l : Layout) (kind : ℕ) (m : Marks) (times : ℕ) → take_most l < times →
    IsSomeAnd (answer_in times (take_turn m) (take_starts l kind)) (IsTaken (leaf_count l) m kind)

-- the leaf or cell of a kind and number
abbrev pub part_of : ℕ → ℕ → Part
part_of kind number = if kind == 1 then LeafPart number else CellPart (kind * 2 ^ 16 + number)

abbrev pub IsUnreached : LayerWords → Part → Type 0
IsUnreached w part = IsReached (tree_of w) (part_reference part) → ⊥

-- The tree doesn't reach what is taken, where the marks of its kind are as they were when they told what it reached;
-- and so it stays while another part that it doesn't reach is filled.
abbrev pub TakenIsUnreached : Type 0
TakenIsUnreached = (count : ℕ) (w : LayerWords) (told m : Marks) (kind number : ℕ) → MarksTell count told w →
    ((i : ℕ) → m kind i ≡ told kind i) → count ≤ 2 ^ 16 → IsTaken count m kind (One number) →
    IsUnreached w (part_of kind number)

abbrev pub UnreachedStays : Type 0
UnreachedStays = (count nodes : ℕ) (w w' : LayerWords) (filled part : Part) → IsLawful count nodes w →
    IsUnreached w filled → AreSameBut filled w w' → IsUnreached w part → IsUnreached w' part

-- With at most as many keys as nodes, and more leaves and cells than nodes, something is taken.
abbrev pub SomeIsTaken : Type 0
SomeIsTaken = (count nodes : ℕ) (w : LayerWords) (told m : Marks) (kind : ℕ) → IsLawful count nodes w →
    MarksTell count told w → HasFew nodes (layer_of w) → ((i : ℕ) → m kind i ≡ told kind i) → nodes < count →
    count ≤ 2 ^ 16 → 1 ≤ kind → kind ≤ 5 → IsTaken count m kind Absent → ⊥

-- A store of a mark, by its kind and number, sets the mark of that leaf or cell.
abbrev pub TakeSets : Type 0
TakeSets = (m m' : Marks) (kind number mark : ℕ) → 1 ≤ kind → kind ≤ 5 → number < 2 ^ 16 → m' kind number ≡ mark →
    ((k i : ℕ) → (k ≡ kind → i ≡ number → ⊥) → m' k i ≡ m k i) →
    IsMarkSet m m' (part_reference (part_of kind number)) mark

-- and by a reference, as a change frees what it leads to
abbrev pub FreeSets : Type 0
FreeSets = (m m' : Marks) (reference mark : ℕ) → 1 ≤ kind_of reference → kind_of reference ≤ 5 →
    m' (kind_of reference) (number_of reference) ≡ mark →
    ((k i : ℕ) → (k ≡ kind_of reference → i ≡ number_of reference → ⊥) → m' k i ≡ m k i) →
    IsMarkSet m m' (reference_of reference) mark
