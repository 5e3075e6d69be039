-- The laws of a change, as the law of the updater cites them.
use Rattle.std.specs.Prelude.{◌≡◌, ◌≢◌, ℕ, ◌^◌, ◌<◌, ◌⊎◌, true, List, None}
use Rattle.pm_words.specs.declared.layout.Layout.{Layout}
use Rattle.pm_words.specs.declared.action.Action.{Action}
use Rattle.pm_words.specs.declared.machine.Turn.{Turn}
use Rattle.pm_words.specs.declared.machine.Turn.TheVariants.{Go, Done}
use Rattle.pm_words.specs.Layouts.{IsLayout}
use Rattle.pm_words.specs.declared.action.Action.TheVariants.{Load, Store, Drain}
use Rattle.pm_words.specs.Locations.{Location, Cached, Durable, HasLocation, leaf_count, address_of}
use Rattle.pm_words.specs.Rows.{IsRow, CanAct, acted, got}
use Rattle.layer_map.specs.Layers.{Layer, AreSame, HasFew}
use Rattle.tree_law.specs.Words.{LayerWords, AreEven}
use Rattle.tree_law.specs.Stages.{Marks, MarksTell}
use Rattle.tree_row.specs.Rows.{layer_words}
use Rattle.tree_row.specs.RowMarks.{row_marks}
use Rattle.layer_map.specs.Keys.{key_number, IsKey}
use Rattle.tree_update.specs.declared.change.Change.{Change}
use Rattle.tree_update.specs.declared.change.Ended.{Ended}
use Rattle.tree_update.specs.declared.set.Set.{Set}
use Rattle.tree_update.specs.declared.set.Unset.{Unset}
use Rattle.tree_update.specs.Changes.{IsChange, change_asks, change_turned}
use Rattle.tree_update.specs.Sets.{set_starts, set_turned, IsSet, unset_starts, unset_turned, IsUnset}
use Rattle.tree_update.specs.Stages.{Aim, aim_of, made_of, IsRooted}
use Rattle.layer_map.specs.Places.{is_of_layer}
use Rattle.search_layer.specs.Rows.{IsLayerMix, KeepsOthers}
use Rattle.search_layer.specs.Kept.{kept, IsKept, layer_of, IsInOrder}
use Rattle.search_layer.specs.ChangeStages.{Changing, Changed, ChangeStep, stage_of, stage_after, start_stage}
use Rattle.search_layer.specs.ChangeStages.{SureChanging, LayerAt, MixAt, LayerAfter}

-- each turn is a step
abbrev pub ChangesAreSteps : Type 0
ChangesAreSteps = (change : Change) (number : ℕ) → IsChange change → number < 2 ^ 64 →
    ChangeStep change.layout (aim_of change) (stage_of change) (change_asks change) number
    (stage_after (change_turned change number))

-- the fields stay sound, and the aim and the layout the same
abbrev pub SoundAfter : Layout → Aim → Turn Change Ended → Type 0
SoundAfter l aim (Go change) = IsChange change × (aim_of change ≡ aim) × (change.layout ≡ l)
SoundAfter l aim (Done ended) = Unit {0}

abbrev pub ChangesStaySound : Type 0
ChangesStaySound = (change : Change) (number : ℕ) → IsChange change → number < 2 ^ 64 →
    SoundAfter change.layout (aim_of change) (change_turned change number)

-- and so do sets and unsets, each of which is a change
abbrev pub WrappedAfter : {M : Type 0} → (M → Type 0) → (M → Change) → Layout → Aim → Turn M Ended → Type 0
WrappedAfter Is change l aim (Go next) = Is next × (aim_of (change next) ≡ aim) × ((change next).layout ≡ l)
WrappedAfter Is change l aim (Done ended) = Unit {0}

abbrev pub SetAfter : Layout → Aim → Turn Set Ended → Type 0
SetAfter = WrappedAfter IsSet (λ set. set.change)

abbrev pub UnsetAfter : Layout → Aim → Turn Unset Ended → Type 0
UnsetAfter = WrappedAfter IsUnset (λ unset. unset.change)

abbrev pub SetsStaySound : Type 0
SetsStaySound = (set : Set) (number : ℕ) → IsSet set → number < 2 ^ 64 →
    SetAfter set.change.layout (aim_of set.change) (set_turned set number)

abbrev pub UnsetsStaySound : Type 0
UnsetsStaySound = (unset : Unset) (number : ℕ) → IsUnset unset → number < 2 ^ 64 →
    UnsetAfter unset.change.layout (aim_of unset.change) (unset_turned unset number)

-- they begin sound, a set with a node, an unset with a key that isn't zero
abbrev pub SetsBeginSound : Type 0
SetsBeginSound = (l : Layout) (key : List ℕ) (node : ℕ) → IsLayout l → IsKey key → node < l.nodes →
    IsSet (set_starts l key node)

abbrev pub UnsetsBeginSound : Type 0
UnsetsBeginSound = (l : Layout) (key : List ℕ) → IsLayout l → IsKey key → key_number key ≢ 0 →
    IsUnset (unset_starts l key)

-- it acts on a word of the layer alone
pub data IsOnLayer (l : Layout) : Action → Type 0 where
  loads : (p : Location) → HasLocation l p → is_of_layer p ≡ true → IsOnLayer l (Load (address_of l p))
  stores : (p : Location) {y : ℕ} → HasLocation l p → is_of_layer p ≡ true → IsOnLayer l (Store (address_of l p) y)
  drains : (p : Location) {y : ℕ} → HasLocation l p → is_of_layer p ≡ true → IsOnLayer l (Drain (address_of l p) y)

abbrev pub ChangesStayOnLayer : Type 0
ChangesStayOnLayer = (change : Change) → IsChange change → IsOnLayer change.layout (change_asks change)

-- what a stage knows of the words of the layer, cached (w) and durable (s), and of the marks; and of those of a row
abbrev pub SureOn : Layout → Layer → Aim → Changing → LayerWords → LayerWords → Marks → Type 0
SureOn l before aim stage w s m = SureChanging (leaf_count l) l.nodes aim before stage w s m

abbrev pub SureIn : Layout → Layer → Aim → Changing → List ℕ → Type 0
SureIn l before aim stage words =
    SureOn l before aim stage (layer_words l words Cached) (layer_words l words Durable) (row_marks l words)

-- A change may begin on a row whose layer is in order and durable, with marks that tell what is reached; and once it is
-- done they are so again.
abbrev pub ChangeBegins : Type 0
ChangeBegins = (l : Layout) (before : Layer) (aim : Aim) (words : List ℕ) → IsRow l words → IsKey aim.key →
    IsInOrder l words → AreEven (layer_words l words Cached) (layer_words l words Durable) →
    MarksTell (leaf_count l) (row_marks l words) (layer_words l words Cached) → AreSame (layer_of l words) before →
    SureIn l before aim (start_stage l aim) words × LayerAt aim before (start_stage l aim) (layer_of l words)

pub record ChangeIsDone (l : Layout) (made : Layer) (w s : LayerWords) (m : Marks) : Type 0 where
  pub order : IsKept l w
  pub even : AreEven w s
  pub tells : MarksTell (leaf_count l) m w
  pub layer : AreSame (kept l w) made

abbrev pub ChangeEnds : Type 0
ChangeEnds = (l : Layout) (before : Layer) (aim : Aim) (w s : LayerWords) (m : Marks) →
    SureOn l before aim Changed w s m → ChangeIsDone l (made_of aim before) w s m

-- At each stage the cached layer is the one before or the one made; and a mix is the cached layer or the one before.
abbrev pub LayerIsEither : Type 0
LayerIsEither = (aim : Aim) (before : Layer) (stage : Changing) (layer : Layer) → LayerAt aim before stage layer →
    AreSame layer before ⊎ AreSame layer (made_of aim before)

abbrev pub MixIsEither : Type 0
MixIsEither = (aim : Aim) (before : Layer) (stage : Changing) (layer mix : Layer) → LayerAt aim before stage layer →
    MixAt aim before stage mix → AreSame mix layer ⊎ AreSame mix before

abbrev pub StepIsEither : Type 0
StepIsEither = (aim : Aim) (stage : Changing) (layer after : Layer) → LayerAfter aim stage layer after →
    AreSame after layer ⊎ AreSame after (made_of aim layer)

-- What a step does to a row, where a set began with at most as many keys as nodes, and an unset is of another key than
-- zero, which led somewhere: the words stay in order, the stage knows what it says, the switch store alone changes the
-- layer, and no word but the layer's changes.
pub record ChangeKeeps (l : Layout) (aim : Aim) (before : Layer) (words : List ℕ) (stage : Changing) (a : Action)
    (next : Changing) : Type 0 where
  pub row : IsInOrder l (acted l words a)
  pub sure : SureIn l before aim next (acted l words a)
  pub layer : LayerAt aim before next (layer_of l (acted l words a))
  pub changes : LayerAfter aim stage (layer_of l words) (layer_of l (acted l words a))
  pub others : KeepsOthers l words (acted l words a)

abbrev pub ChangeStepKeeps : Type 0
ChangeStepKeeps = (l : Layout) (aim : Aim) (before : Layer) (words : List ℕ) (s : Changing) (a : Action)
    (t : Changing) → IsRow l words → (aim.word ≢ 0 → HasFew l.nodes before) → IsRooted aim before →
    SureIn l before aim s words → ChangeStep l aim s a (got l words a) t → ChangeKeeps l aim before words s a t

-- each step may be done
abbrev pub ChangeCanAct : Type 0
ChangeCanAct = (l : Layout) (aim : Aim) (words : List ℕ) (s : Changing) (a : Action) (x : ℕ) (t : Changing) →
    ChangeStep l aim s a x t → CanAct l words a

-- Between two steps, whichever words become durable: the durable ones are in order, and their layer is that of the
-- stage; and so are the cached ones.
pub record BacksLayer (l : Layout) (aim : Aim) (before : Layer) (stage : Changing) (w s : LayerWords) : Type 0 where
  pub order : IsKept l w
  pub cached : LayerAt aim before stage (kept l w)
  pub row : (mix : LayerWords) → IsLayerMix w s mix → IsKept l mix
  pub layer : (mix : LayerWords) → IsLayerMix w s mix → MixAt aim before stage (kept l mix)

abbrev pub ChangeIsBacked : Type 0
ChangeIsBacked = (l : Layout) (aim : Aim) (before : Layer) (stage : Changing) (w s : LayerWords) (m : Marks) →
    SureOn l before aim stage w s m → BacksLayer l aim before stage w s

-- and so the stage knows what it says
abbrev pub ChangeEvicts : Type 0
ChangeEvicts = (l : Layout) (aim : Aim) (before : Layer) (stage : Changing) (w s mix : LayerWords) (m : Marks) →
    IsLayerMix w s mix → SureOn l before aim stage w s m → SureOn l before aim stage w mix m

-- at every moment of an unset, and in every mix, the zero key leads where it led
abbrev pub UnsetKeepsZero : Type 0
UnsetKeepsZero = (unset : Unset) (before layer : Layer) → IsUnset unset →
    MixAt (aim_of unset.change) before (stage_of unset.change) layer → layer 0 ≡ before 0

-- Where the zero key leads somewhere it does so behind a set and behind an unset of another key: at each stage, and in
-- each mix.
abbrev pub KeepsZero : Aim → Type 0
KeepsZero aim = aim.word ≡ 0 → key_number aim.key ≢ 0

abbrev pub LayerStaysRooted : Type 0
LayerStaysRooted = (aim : Aim) (before : Layer) (stage : Changing) (layer : Layer) → KeepsZero aim →
    before 0 ≢ None → LayerAt aim before stage layer → layer 0 ≢ None

abbrev pub MixStaysRooted : Type 0
MixStaysRooted = (aim : Aim) (before : Layer) (stage : Changing) (layer : Layer) → KeepsZero aim →
    before 0 ≢ None → MixAt aim before stage layer → layer 0 ≢ None

-- So an unset may begin wherever the layer leads the zero key somewhere.
abbrev pub RootedBegins : Type 0
RootedBegins = (aim : Aim) (before : Layer) → KeepsZero aim → before 0 ≢ None → IsRooted aim before
