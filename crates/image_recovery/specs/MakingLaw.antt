-- What is sure of the rows while the moves of a recovery are made, one after another, and between them.
use Rattle.std.specs.Prelude.{◌≡◌, ℕ, suc, ◌<◌, false, List, ◌∷◌, slice_index}
use Rattle.pm_words.specs.declared.layout.Layout.{Layout}
use Rattle.pm_words.specs.declared.machine.Turn.{Turn}
use Rattle.pm_words.specs.declared.machine.Turn.TheVariants.{Go, Done}
use Rattle.pm_words.specs.declared.fence.FenceAt.{FenceAt}
use Rattle.pm_words.specs.declared.fence.FenceAt.TheVariants as fence
use Rattle.pm_words.specs.Locations.{Word, Location, HasLocation, IsVolatile, at}
use Rattle.pm_words.specs.Locations.{word_number, image_words, cached_address, durable_address}
use Rattle.pm_words.specs.Rows.{IsRow, CanAct, acted, got, evicted}
use Rattle.version_lock.specs.Versions.{IsGeneration}
use Rattle.data_node.specs.Lists.{ListNode}
use Rattle.layer_map.specs.Layers.{Layer}
use Rattle.layer_map.specs.Places.{is_of_layer}
use Rattle.tree_update.specs.declared.change.Change.{Change}
use Rattle.tree_update.specs.Stages.{aim_of}
use Rattle.image_recovery_law.specs.search_layer.specs.ChangeStages.{stage_of}
use Rattle.image_recovery_law.specs.Columns.{Columns, IsSound}
use Rattle.image_recovery_law.specs.Stages.{Stage, Unsets, Unsetting, Sets, Setting, aim_at}
use Rattle.image_recovery_law.specs.RowMoves.{RowSure, MoveStore}
use Rattle.image_recovery_law.specs.Moves as law
use Rattle.image_recovery.specs.declared.making.Making.{Making}
use Rattle.image_recovery.specs.declared.making.Making.TheVariants.{Stores, Changes}
use Rattle.image_recovery.specs.declared.moves.Move.{Move}
use Rattle.image_recovery.specs.declared.storing.Storing.{Storing}
use Rattle.image_recovery.specs.declared.storing.StoringAt.{StoringAt}
use Rattle.image_recovery.specs.declared.storing.StoringAt.TheVariants as does
use Rattle.image_recovery.specs.Plans.{move_of}
use Rattle.image_recovery.specs.Storings.{fenced_word}
use Rattle.image_recovery.specs.Makings.{IsMaking, MayMake, making_of, making_asks, making_turned}

-- The image word is durable; and the fence has in hand what the cached word is.
abbrev pub IsEvenAt : Layout → List ℕ → ℕ → Type 0
IsEvenAt l words word = slice_index words (durable_address l word) ≡ slice_index words (cached_address l word)

abbrev pub HasInHand : Layout → List ℕ → ℕ → FenceAt → Type 0
HasInHand l words word fence.Load = Unit {0}
HasInHand l words word (fence.Drain value) = slice_index words (cached_address l word) ≡ value

-- It makes this store of the law, and then these moves are planned.
pub record IsStoreOf (l : Layout) (list : List ListNode) (o : Columns) (rest : List law.Move) (storing : Storing)
    (before after end : Stage) : Type 0 where
  pub place : Word
  pub value : ℕ
  pub move : MoveStore l list o before place value after end
  pub word : storing.word ≡ word_number l place
  pub stored : storing.value ≡ value
  pub plan : law.Plan l list o end rest

-- The stage before the store, or the one after it; and once the fence is past the word, that is durable.
abbrev pub SureStoringAt : Layout → List ListNode → Columns → Storing → Stage → Stage → List ℕ → StoringAt → Type 0
SureStoringAt l list o storing before after words does.Word = RowSure l list o before words
SureStoringAt l list o storing before after words (does.Line fence) =
    RowSure l list o after words × HasInHand l words (fenced_word storing.word fence) fence.at ×
    (storing.word < fenced_word storing.word fence → IsEvenAt l words storing.word)

-- While a move is made, and these moves are planned behind it.
pub data SureMaking (l : Layout) (list : List ListNode) (o : Columns) (rest : List law.Move) (words : List ℕ) :
    Making → Type 0 where
  sure_stores : (storing : Storing) (before after end : Stage) → storing.layout ≡ l →
      IsStoreOf l list o rest storing before after end →
      SureStoringAt l list o storing before after words storing.at → SureMaking l list o rest words (Stores storing)
  sure_unsets : (change : Change) (line : ℕ) (before : Layer) → change.layout ≡ l →
      aim_of change ≡ aim_at o line 0 → RowSure l list o (Unsetting line before (stage_of change)) words →
      law.Plan l list o (Unsets (suc line)) rest → SureMaking l list o rest words (Changes change)
  sure_sets : (change : Change) (line n : ℕ) (before : Layer) → change.layout ≡ l →
      aim_of change ≡ aim_at o line (suc n) → RowSure l list o (Setting line n before (stage_of change)) words →
      law.Plan l list o (Sets (suc line)) rest → SureMaking l list o rest words (Changes change)

-- The volatile words are 0, but for the marks of the layer.
abbrev pub IsClearBeside : Layout → List ℕ → Type 0
IsClearBeside l words =
    (p : Location) → HasLocation l p → IsVolatile p → is_of_layer p ≡ false → at l words p ≡ 0

-- A recovery of o is at this move, and these are planned behind it.
pub record IsAtMove (l : Layout) (list : List ListNode) (o : Columns) (rest : List law.Move) (words : List ℕ)
    (making : Making) : Type 0 where
  pub row : IsRow l words
  pub clear : IsClearBeside l words
  pub fits : IsMaking making
  pub sure : SureMaking l list o rest words making

-- It is between two moves, or has yet to begin, and these are planned from there on.
pub record IsBetweenMoves (l : Layout) (list : List ListNode) (o : Columns) (rest : List law.Move) (words : List ℕ) :
    Type 0 where
  pub row : IsRow l words
  pub clear : IsClearBeside l words
  pub stage : Stage
  pub sure : RowSure l list o stage words
  pub plan : law.Plan l list o stage rest

-- The next move may be made, and so it begins.
abbrev pub MakingsBegin : Type 0
MakingsBegin = (l : Layout) (list : List ListNode) (o : Columns) (next : Move) (rest : List law.Move)
    (words : List ℕ) → IsSound l list o → IsGeneration (suc o.generation) →
    IsBetweenMoves l list o (move_of next ∷ rest) words →
    MayMake (record { layout = l; words = words }) next ×
    (IsMaking (making_of (record { layout = l; words = words }) next) →
    IsAtMove l list o rest words (making_of (record { layout = l; words = words }) next))

-- Each action may be done, and leads to the next turn of the move, or to the end of it.
abbrev pub IsAfterTurn : Layout → List ListNode → Columns → List law.Move → List ℕ → Turn Making (Unit {0}) → Type 0
IsAfterTurn l list o rest words (Go making) = IsAtMove l list o rest words making
IsAfterTurn l list o rest words (Done answer) = IsBetweenMoves l list o rest words

abbrev pub MakingsGo : Type 0
MakingsGo = (l : Layout) (list : List ListNode) (o : Columns) (rest : List law.Move) (words : List ℕ)
    (making : Making) → IsSound l list o → IsAtMove l list o rest words making → CanAct l words (making_asks making) ×
    IsAfterTurn l list o rest (acted l words (making_asks making))
    (making_turned making (got l words (making_asks making)))

-- Words may become durable at any time.
abbrev pub MakingsEvict : Type 0
MakingsEvict = (l : Layout) (list : List ListNode) (o : Columns) (rest : List law.Move) (words : List ℕ)
    (making : Making) (word : ℕ) → IsSound l list o → word < image_words l → IsAtMove l list o rest words making →
    IsAtMove l list o rest (evicted l words word) making

-- At any time the law is sure of some stage of a recovery.
abbrev pub MakingsAreSure : Type 0
MakingsAreSure = (l : Layout) (list : List ListNode) (o : Columns) (rest : List law.Move) (words : List ℕ)
    (making : Making) → IsAtMove l list o rest words making → (stage : Stage) × RowSure l list o stage words
