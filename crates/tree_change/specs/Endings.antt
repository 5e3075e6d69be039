-- The stages of the end of a change, and the kinds of its steps. What a step says of the words it says of any words: no
-- stage knows which change it is.
use Rattle.std.specs.Prelude.{◌≡◌, ℕ, ◌+◌, ◌%◌, ◌<◌, ◌≤◌, ◌==◌, ◌⊎◌, if◌then◌else◌, Option, Some, None, IfSome}
use Rattle.pm_words.specs.declared.layout.Layout.{Layout}
use Rattle.pm_words.specs.declared.action.Action.{Action}
use Rattle.pm_words.specs.declared.action.Action.TheVariants.{Load, Store, Drain}
use Rattle.pm_words.specs.declared.machine.Turn.{Turn}
use Rattle.pm_words.specs.declared.machine.Turn.TheVariants.{Go, Done}
use Rattle.pm_words.specs.declared.fence.FenceAt.{FenceAt}
use Rattle.pm_words.specs.declared.fence.FenceAt.TheVariants as fence_at
use Rattle.pm_words.specs.Fences.{line_of}
use Rattle.pm_words.specs.Locations.{Root}
use Rattle.layer_map.specs.Layers.{Layer, AreSame, changed_at}
use Rattle.tree_law.specs.Words.{LayerWord, RootWord, LeafWord, CellWord, LayerWords, word_in, kind_of, number_of}
use Rattle.tree_law.specs.Words.{layer_of, Stored, AreEven, IsMix, Keeps, ChangesKey}
use Rattle.tree_law.specs.Stages.{SureSwitched}
use Rattle.tree_floor.specs.tree_row.specs.Rows.{layer_address}
use Rattle.tree_change.specs.declared.finish.Target.{Target}
use Rattle.tree_change.specs.declared.finish.Target.TheVariants as target
use Rattle.tree_change.specs.declared.finish.Finish.{Finish}
use Rattle.tree_change.specs.declared.finish.FinishAt.{FinishAt}
use Rattle.tree_change.specs.declared.finish.FinishAt.TheVariants as at
use Rattle.tree_change.specs.Finishes.{IsMarked, cached_at, mark_at, finish_asks, finish_turned, finish_takes}

abbrev pub target_word : Target → LayerWord
target_word target.Root = RootWord
target_word (target.Leaf leaf offset) = LeafWord leaf offset
target_word (target.Cell cell offset) = CellWord (kind_of cell) (number_of cell) offset

-- the words of its line, where they are of the layer; and which of them it is
abbrev pub line_word : Target → ℕ → Option LayerWord
line_word target.Root word = if word == 0 then Some RootWord else None
line_word (target.Leaf leaf offset) word = Some (LeafWord leaf word)
line_word (target.Cell cell offset) word = Some (CellWord (kind_of cell) (number_of cell) (line_of offset + word))

abbrev pub own : Target → ℕ
own target.Root = 0
own (target.Leaf leaf offset) = offset
own (target.Cell cell offset) = offset % 8

-- what an action does to the two rows
pub data Effect : Type 0 where
  Loads : LayerWord → ℕ → Effect
  Stores : LayerWord → ℕ → Effect
  Drains : LayerWord → ℕ → Effect
  Beside : Effect

abbrev pub Happens : Effect → LayerWords → LayerWords → LayerWords → LayerWords → Type 0
Happens (Loads p x) w s w' s' = (word_in w p ≡ x) × (w' ≡ w) × (s' ≡ s)
Happens (Stores p y) w s w' s' = Stored w w' p y × (s' ≡ s)
Happens (Drains p y) w s w' s' = (w' ≡ w) × Stored s s' p y
Happens Beside w s w' s' = (w' ≡ w) × (s' ≡ s)

abbrev pub loads : Option LayerWord → ℕ → Effect
loads None x = Beside
loads (Some p) x = Loads p x

abbrev pub drains : Option LayerWord → ℕ → Effect
drains None y = Beside
drains (Some p) y = Drains p y

pub data Ending : Type 0 where
  -- this quiet store comes, and then that store by which the layer changes
  CanQuiet : Target → ℕ → Target → ℕ → Ending
  -- it is made, so many words of its line are durable, and it has this word in hand
  Quieted : Target → ℕ → Option ℕ → Target → ℕ → Ending
  CanSwitch : Target → ℕ → Ending
  Switched : Target → ℕ → Option ℕ → Ending
  -- all is durable; marks go
  Unmarks : Ending

pub data EndStep : Ending → Effect → Ending → Type 0 where
  quiets : {p q : Target} {y z : ℕ} → own p < 8 →
      EndStep (CanQuiet p y q z) (Stores (target_word p) y) (Quieted p 0 None q z)
  glances_quiet : {p q : Target} {d x z : ℕ} {hand : Option ℕ} →
      EndStep (Quieted p d hand q z) (loads (line_word p d) x) (Quieted p d (Some x) q z)
  drains_quiet : {p q : Target} {d x z : ℕ} →
      EndStep (Quieted p d (Some x) q z) (drains (line_word p d) x) (Quieted p (d + 1) None q z)
  drains_quiet_last : {p q : Target} {d x z : ℕ} → 8 ≤ d + 1 →
      EndStep (Quieted p d (Some x) q z) (drains (line_word p d) x) (CanSwitch q z)
  switches : {q : Target} {z : ℕ} → own q < 8 →
      EndStep (CanSwitch q z) (Stores (target_word q) z) (Switched q 0 None)
  glances : {q : Target} {d x : ℕ} {hand : Option ℕ} →
      EndStep (Switched q d hand) (loads (line_word q d) x) (Switched q d (Some x))
  drains_switch : {q : Target} {d x : ℕ} →
      EndStep (Switched q d (Some x)) (drains (line_word q d) x) (Switched q (d + 1) None)
  drains_switch_last : {q : Target} {d x : ℕ} → 8 ≤ d + 1 →
      EndStep (Switched q d (Some x)) (drains (line_word q d) x) Unmarks
  unmarks : EndStep Unmarks Beside Unmarks

-- What holds of the rows.
abbrev pub holds : LayerWords → Option LayerWord → ℕ → Type 0
holds w None y = Unit {0}
holds w (Some p) y = word_in w p ≡ y

pub record SureDrains (count nodes : ℕ) (before made : Layer) (p : Target) (d : ℕ) (in_hand : Option ℕ)
    (w s : LayerWords) : Type 0 where
  pub small : own p < 8
  pub sure : SureSwitched count nodes before made (target_word p) w s
  pub drained : own p < d → word_in s (target_word p) ≡ word_in w (target_word p)
  pub hand : IfSome in_hand (λ y. holds w (line_word p d) y)

-- the store makes the layer
abbrev pub Switches : ℕ → ℕ → Layer → LayerWords → Target → ℕ → Type 0
Switches count nodes made w q z = (w' : LayerWords) → Stored w w' (target_word q) z → Keeps count nodes made w'

pub record SureCan (count nodes : ℕ) (before : Layer) (w s : LayerWords) : Type 0 where
  pub keeps : Keeps count nodes before w
  pub even : AreEven w s

abbrev pub SureEnding : ℕ → ℕ → Layer → Layer → Ending → LayerWords → LayerWords → Type 0
SureEnding count nodes before made (CanQuiet p y q z) w s =
    SureCan count nodes before w s × ((w' : LayerWords) → Stored w w' (target_word p) y →
    (Keeps count nodes before w' × Switches count nodes made w' q z))
SureEnding count nodes before made (Quieted p d hand q z) w s =
    SureDrains count nodes before before p d hand w s × Switches count nodes made w q z
SureEnding count nodes before made (CanSwitch q z) w s =
    SureCan count nodes before w s × Switches count nodes made w q z
SureEnding count nodes before made (Switched q d hand) w s = SureDrains count nodes before made q d hand w s
SureEnding count nodes before made Unmarks w s = SureCan count nodes made w s

-- the layer of the cached words, and what any mix keeps
abbrev pub EndingKeeps : ℕ → ℕ → Layer → Layer → Ending → LayerWords → Type 0
EndingKeeps count nodes before made (CanQuiet p y q z) w = Keeps count nodes before w
EndingKeeps count nodes before made (Quieted p d hand q z) w = Keeps count nodes before w
EndingKeeps count nodes before made (CanSwitch q z) w = Keeps count nodes before w
EndingKeeps count nodes before made (Switched q d hand) w = Keeps count nodes made w
EndingKeeps count nodes before made Unmarks w = Keeps count nodes made w

abbrev pub EndingMix : ℕ → ℕ → Layer → Layer → Ending → LayerWords → Type 0
EndingMix count nodes before made (CanQuiet p y q z) mix = Keeps count nodes before mix
EndingMix count nodes before made (Quieted p d hand q z) mix = Keeps count nodes before mix
EndingMix count nodes before made (CanSwitch q z) mix = Keeps count nodes before mix
EndingMix count nodes before made (Switched q d hand) mix = Keeps count nodes before mix ⊎ Keeps count nodes made mix
EndingMix count nodes before made Unmarks mix = Keeps count nodes made mix

-- Each step keeps what its stage knows; so does whatever becomes durable by itself; and each mix has a layer.
abbrev pub EndStepKeeps : Type 0
EndStepKeeps = (count nodes : ℕ) (before made : Layer) (e : Ending) (effect : Effect) (e' : Ending)
    (w s w' s' : LayerWords) → EndStep e effect e' → Happens effect w s w' s' →
    SureEnding count nodes before made e w s → SureEnding count nodes before made e' w' s'

abbrev pub EndingDrains : Type 0
EndingDrains = (count nodes : ℕ) (before made : Layer) (e : Ending) (w s mix : LayerWords) →
    SureEnding count nodes before made e w s → IsMix w s mix → SureEnding count nodes before made e w mix

abbrev pub EndingMixes : Type 0
EndingMixes = (count nodes : ℕ) (before made : Layer) (e : Ending) (w s mix : LayerWords) →
    SureEnding count nodes before made e w s → IsMix w s mix →
    EndingKeeps count nodes before made e w × EndingMix count nodes before made e mix

-- Each turn of the machine is such a step.
abbrev pub word_in_hand : FenceAt → Option ℕ
word_in_hand fence_at.Load = None
word_in_hand (fence_at.Drain value) = Some value

abbrev pub ending_at : Finish → FinishAt → Ending
ending_at f at.Quiet = CanQuiet f.quiet.target f.quiet.word f.switch.target f.switch.word
ending_at f (at.QuietFence fence) =
    Quieted f.quiet.target fence.word (word_in_hand fence.at) f.switch.target f.switch.word
ending_at f at.Switch = CanSwitch f.switch.target f.switch.word
ending_at f (at.SwitchFence fence) = Switched f.switch.target fence.word (word_in_hand fence.at)
ending_at f (at.Unmark reference) = Unmarks

abbrev pub fence_effect : Target → ℕ → FenceAt → ℕ → Effect
fence_effect p word fence_at.Load got = loads (line_word p word) got
fence_effect p word (fence_at.Drain value) got = drains (line_word p word) value

abbrev pub effect_at : Finish → FinishAt → ℕ → Effect
effect_at f at.Quiet got = Stores (target_word f.quiet.target) f.quiet.word
effect_at f (at.QuietFence fence) got = fence_effect f.quiet.target fence.word fence.at got
effect_at f at.Switch got = Stores (target_word f.switch.target) f.switch.word
effect_at f (at.SwitchFence fence) got = fence_effect f.switch.target fence.word fence.at got
effect_at f (at.Unmark reference) got = Beside

abbrev pub ending_after : Turn Finish (Unit {0}) → Ending
ending_after (Go g) = ending_at g g.at
ending_after (Done answer) = Unmarks

-- the action has this effect
pub data IsBeside (l : Layout) : Action → Type 0 where
  mark : {reference : ℕ} → IsMarked l reference → IsBeside l (Store (mark_at l reference) 0)
  glance : {word : ℕ} → 1 ≤ word → word < 8 → IsBeside l (Load (cached_at l (Root word)))
  drain : {word y : ℕ} → 1 ≤ word → word < 8 → IsBeside l (Drain (cached_at l (Root word)) y)

abbrev pub HasEffect : Layout → Action → Effect → Type 0
HasEffect l a (Loads p x) = a ≡ Load (layer_address l p)
HasEffect l a (Stores p y) = a ≡ Store (layer_address l p) y
HasEffect l a (Drains p y) = a ≡ Drain (layer_address l p) y
HasEffect l a Beside = IsBeside l a

abbrev pub FinishTurns : Type 0
FinishTurns = (f : Finish) (got : ℕ) → finish_takes f got →
    HasEffect f.layout (finish_asks f) (effect_at f f.at got) ×
    EndStep (ending_at f f.at) (effect_at f f.at got) (ending_after (finish_turned f got))

-- A store that changes the key's layer makes the layer changed.
abbrev pub SwitchBegins : Type 0
SwitchBegins = (count nodes : ℕ) (before : Layer) (w : LayerWords) (q : Target) (z key : ℕ) (node : Option ℕ) →
    AreSame (layer_of w) before →
    ((w' : LayerWords) → Stored w w' (target_word q) z → ChangesKey count nodes w w' key node) →
    Switches count nodes (changed_at before key node) w q z
