-- A floor of the tree beside whoever changes it, as the laws of calls cite it.
use Rattle.std.specs.Prelude.{◌≡◌, ℕ, ◌^◌, ◌<◌, ◌≤◌, List, [], ◌∷◌, length, slice_index, Option, None, IsSomeAnd}
use Rattle.pm_words.specs.declared.layout.Layout.{Layout}
use Rattle.pm_words.specs.declared.action.Action.{Action}
use Rattle.pm_words.specs.declared.action.Action.TheVariants.{Load}
use Rattle.pm_words.specs.declared.machine.Turn.{Turn}
use Rattle.pm_words.specs.Layouts.{IsLayout}
use Rattle.pm_words.specs.Locations.{Word, Cached, address_of}
use Rattle.pm_words.specs.Rows.{got}
use Rattle.layer_map.specs.Layers.{IsFloorOf}
use Rattle.tree_law.specs.Words.{LayerWord, LayerWords, word_in}
use Rattle.tree_row.specs.Rows.{layer_words}
use Rattle.tree_floor.specs.declared.floor.Floor.{Floor}
use Rattle.tree_floor.specs.Floors as floors
use Rattle.tree_floor.specs.Floors.{floor_word, floor_asks, floor_starts, floor_turned, floor_turn, floor_left, IsFloor}
use Rattle.tree_floor.specs.Floors.{FloorAfter}
use Rattle.layer_map.specs.Keys.{key_number, IsKey}
use Rattle.tree_floor.specs.Telling.{turn_answer, answer_in}
use Rattle.layer_map.specs.Places.{IsLayerPlace}
use Rattle.search_layer.specs.Kept.{kept, IsKept}

-- what a floor answers that is told these numbers, one after another; nothing where it isn't done by then
abbrev pub told_turn : Turn Floor ℕ → (Floor → Option ℕ) → Option ℕ
told_turn turn answer = turn_answer turn answer

abbrev pub answer_of : List ℕ → Floor → Option ℕ
answer_of [] floor = None
answer_of (number ∷ numbers) floor = told_turn (floor_turned floor number) (answer_of numbers)

-- so many words it reads at most
abbrev pub floor_most : Layout → ℕ
floor_most l = floors.floor_most

-- told so many numbers, whatever they are, it has answered a node
abbrev pub FloorAnswersANode : Type 0
FloorAnswersANode = (l : Layout) (key numbers : List ℕ) → IsLayout l → IsKey key →
    ((k : ℕ) → slice_index numbers k < 2 ^ 64) → floor_most l ≤ length numbers →
    IsSomeAnd (answer_of numbers (floor_starts l key)) (λ node. node < l.nodes)

-- what it is told where these are the words of the layer
abbrev pub floor_told : LayerWords → Floor → ℕ
floor_told w floor = word_in w (floor_word floor.at)

abbrev pub FloorTold : Type 0
FloorTold = (floor : Floor) (words : List ℕ) → IsFloor floor →
    got floor.layout words (floor_asks floor) ≡ floor_told (layer_words floor.layout words Cached) floor

-- what a floor answers that is told these words, each as it asks for it, so many times
abbrev pub answer_from : ℕ → LayerWords → Floor → Option ℕ
answer_from times w floor = answer_in times (floor_turn w) floor

-- so long as the words are in order and stay as they are, it answers the floor of its key
abbrev pub FloorIsExact : Type 0
FloorIsExact = (l : Layout) (key : List ℕ) (w : LayerWords) → IsLayout l → IsKey key →
    ((p : LayerWord) → word_in w p < 2 ^ 64) → IsKept l w →
    IsSomeAnd (answer_from (floor_most l) w (floor_starts l key))
    (λ node. IsFloorOf (kept l w) (key_number key) node)

-- it stays sound, in its layout and with its key, and reads less and less, whatever it is told
abbrev pub FloorStays : Type 0
FloorStays = (floor : Floor) (number : ℕ) → IsFloor floor → number < 2 ^ 64 →
    FloorAfter floor.layout floor.key (floor_left floor) (floor_turned floor number)

abbrev pub FloorGoesOn : Type 0
FloorGoesOn = (floor : Floor) → IsFloor floor → 0 < floor_left floor

-- it asks for a load of a word of the layer
pub record LoadsLayer (l : Layout) (a : Action) : Type 0 where
  pub word : Word
  pub place : IsLayerPlace l word
  pub loads : a ≡ Load (address_of l (Cached word))

abbrev pub FloorOnlyLoads : Type 0
FloorOnlyLoads = (floor : Floor) → IsFloor floor → LoadsLayer floor.layout (floor_asks floor)
