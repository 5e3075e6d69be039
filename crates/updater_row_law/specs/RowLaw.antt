-- What holds of a row of words and of a turn between its steps, and that its steps keep it.
use Rattle.std.specs.Prelude.{◌≡◌, ◌≢◌, ℕ, ◌+◌, ◌^◌, ◌<◌, true, List, length, slice_index, None}
use Rattle.pm_words.specs.declared.action.Action.{Action}
use Rattle.pm_words.specs.Locations.{Cached, Durable, image_words}
use Rattle.pm_words.specs.Rows.{IsRow, CanAct, acted, got, evicted}
use Rattle.pm_words.specs.Offsets.{version_offset, anchor_offset}
use Rattle.version_lock.specs.Versions.{is_free_word}
use Rattle.layer_map.specs.Layers.{Layer, HasFew}
use Rattle.layer_map.specs.Keys.{IsKey, key_number}
use Rattle.search_layer.specs.Rows.{layer_words}
use Rattle.search_layer.specs.Kept.{layer_of, IsInOrder, kept, IsKept, IsAtRest}
use Rattle.search_layer.specs.ChangeStages.{Changing, LayerAt}
use Rattle.search_layer.specs.Laws.{SureIn, KeepsZero}
use Rattle.search_layer.specs.RootLine.{HoldsRoot}
use Rattle.updater_law.specs.Covered.{IsTarget}
use Rattle.updater_law.specs.Facts.{IsListed}
use Rattle.updater_law.specs.Lawful.{TurnLawful}
use Rattle.updater_row_law.specs.Columns.{RowTerms, Ghosts, line_field, node_field, terms_of, facts_in}
use Rattle.updater_row_law.specs.RowStages.{RowLine, RowTarget, aim_of, RowStage, Reads, Lands, HasTarget, Changes}
use Rattle.updater_row_law.specs.RowStages.{turn_stage}
use Rattle.updater_row_law.specs.RowSteps.{RowStep}

-- no change of the layer is under way: its words are in order and durable, and its marks tell what is in use
abbrev pub LayerRests : RowTerms → List ℕ → Type 0
LayerRests r words = IsAtRest r.layout words

-- the first so many words of the line are these, and the first of its anchor isn't 0
pub record HasLoaded (r : RowTerms) (words : List ℕ) (j offset : ℕ) (seen : List ℕ) : Type 0 where
  pub size : length seen ≡ 7
  pub most : offset < 7
  pub same : (k : ℕ) → k < offset → line_field r.layout words Cached k j ≡ slice_index seen k
  pub named : anchor_offset < offset → slice_index seen anchor_offset ≢ 0

-- an anchor of a line is a key, but not the zero key
pub record IsAnchor (words : List ℕ) : Type 0 where
  pub key : IsKey words
  pub some : key_number words ≢ 0

-- What a walk promises of its target, as long as its version word stands: the key belongs there, and these are the
-- words of its anchor.
pub record IsTargetFor (r : RowTerms) (ghosts : Ghosts) (words : List ℕ) (key : List ℕ) (target : RowTarget) : Type 0
  where
    pub stands : node_field r.layout words version_offset target.node ≡ target.version →
        IsTarget (IsListed (facts_in r ghosts words)) (facts_in r ghosts words).anchor (key_number key) target.node
    pub low : node_field r.layout words version_offset target.node ≡ target.version → (k : ℕ) → k < 3 →
        node_field r.layout words (3 + k) target.node ≡ slice_index target.low k

-- the target is a node, and its version word says that nobody holds it
pub record IsSighted (r : RowTerms) (target : RowTarget) : Type 0 where
  pub within : target.node < r.layout.nodes
  pub free : is_free_word target.version r.generation ≡ true

-- What a change of the layer knows, which began on the layer `before`: that had few keys, the zero key among them,
-- which is not taken out, and what a fence of the root's line has in hand is as it is cached.
pub record IsChanging (r : RowTerms) (words : List ℕ) (e : RowLine) (word : ℕ) (s : Changing) : Type 0 where
  pub before : Layer
  pub few : HasFew r.layout.nodes before
  pub rooted : before 0 ≢ None
  pub zero : KeepsZero (aim_of e word)
  pub holds : HoldsRoot r.layout s words
  pub sure : SureIn r.layout before (aim_of e word) s words
  pub layer : LayerAt (aim_of e word) before s (layer_of r.layout words)

-- what a stage knows of the row, beyond what the law of turns says
abbrev pub SureRow : RowTerms → Ghosts → List ℕ → RowStage → Type 0
SureRow r ghosts words (Reads j offset seen) = HasLoaded r words j offset seen × LayerRests r words
SureRow r ghosts words (Lands e) = IsAnchor e.anchor × LayerRests r words
SureRow r ghosts words (HasTarget e target) =
    IsAnchor e.anchor × IsSighted r target × IsTargetFor r ghosts words e.anchor target × LayerRests r words
SureRow r ghosts words (Changes e word s) = IsChanging r words e word s
SureRow r ghosts words _ = LayerRests r words

-- the layer is in order and leads the zero key somewhere, the stage is right, and what is read off the row is lawful
pub record RowLawful (r : RowTerms) (ghosts : Ghosts) (words : List ℕ) (s : RowStage) : Type 0 where
  pub order : IsInOrder r.layout words
  pub rooted : layer_of r.layout words 0 ≢ None
  pub sure : SureRow r ghosts words s
  pub law : TurnLawful (terms_of r) (facts_in r ghosts words) (turn_stage s)

-- A step of a turn keeps the row lawful. That a walk which has come to a target keeps its promise is a premise, of the
-- step by which it comes there alone.
abbrev pub RowStepKeeps : Type 0
RowStepKeeps = (r : RowTerms) (ghosts : Ghosts) (words : List ℕ) (s t : RowStage) (a : Action) →
    IsRow r.layout words → RowLawful r ghosts words s → RowStep r s a (got r.layout words a) t →
    ((e : RowLine) (target : RowTarget) → t ≡ HasTarget e target → IsTargetFor r ghosts words e.anchor target) →
    RowLawful r ghosts (acted r.layout words a) t

-- Each step of a turn may be done.
abbrev pub RowStepCanAct : Type 0
RowStepCanAct = (r : RowTerms) (ghosts : Ghosts) (words : List ℕ) (s t : RowStage) (a : Action) (x : ℕ) →
    IsRow r.layout words → r.stamp < 2 ^ 64 → RowLawful r ghosts words s → RowStep r s a x t →
    CanAct r.layout words a

-- A word of the image that becomes durable keeps the row lawful.
abbrev pub EvictionKeepsTurn : Type 0
EvictionKeepsTurn = (r : RowTerms) (ghosts : Ghosts) (words : List ℕ) (s : RowStage) (word : ℕ) →
    IsRow r.layout words → word < image_words r.layout → RowLawful r ghosts words s →
    RowLawful r ghosts (evicted r.layout words word) s

-- The durable words of the layer are in order, and it has at most as many keys as there are nodes.
pub record IsSafeLayer (r : RowTerms) (words : List ℕ) : Type 0 where
  pub order : IsKept r.layout (layer_words r.layout words Durable)
  pub few : HasFew r.layout.nodes (kept r.layout (layer_words r.layout words Durable))

-- So they are at every moment of a turn.
abbrev pub LayerIsSafe : Type 0
LayerIsSafe = (r : RowTerms) (ghosts : Ghosts) (words : List ℕ) (s : RowStage) → RowLawful r ghosts words s →
    IsSafeLayer r words
