-- What holds of the facts and of a turn between any two steps.
use Rattle.std.specs.Prelude.{◌≡◌, ◌≢◌, ℕ, ◌<◌, ◌≤◌, ◌⊎◌, true, false, Option, Some}
use Rattle.pm_words.specs.Codes.{free_status, live_status, gone_status, empty_state, ready_state, merge_kind}
use Rattle.layer_map.specs.Layers.{Layer, AreSame}
use Rattle.updater_law.specs.Covers.{HasCover, HasOtherCover}
use Rattle.updater_law.specs.Covered.{IsCovered, ListHas, AreApart, IsTarget}
use Rattle.updater_law.specs.Facts.{TurnTerms, TurnFacts, IsListed, HasReadyMerge}
use Rattle.updater_law.specs.TurnStages.{ReadyLine, TurnStage, Resting, Between, Sees, SeesKind, SeesNode, Lands}
use Rattle.updater_law.specs.TurnStages.{Changes}
use Rattle.updater_law.specs.TurnStages.{Stamps, Clears, Sweeps, Gone, HasStamp, IsUnworn, Frees, Counts}
use Rattle.updater_law.specs.TurnSteps.{AreSameBut}

-- What the turn is sure of.

-- the line is ready, and as it was read
pub record IsAtHand (f : TurnFacts) (e : ReadyLine) : Type 0 where
  pub state : f.line.state e.line ≡ ready_state
  pub kind : f.line.kind e.line ≡ e.kind
  pub node : f.line.node e.line ≡ e.node
  pub anchor : f.line.anchor e.line ≡ e.anchor

-- the node that was found has the anchor, and is neither free nor stamped, nor the one that this line's merge left
-- out
pub record IsFit (c : TurnTerms) (f : TurnFacts) (e : ReadyLine) (found : ℕ) : Type 0 where
  pub within : found < c.nodes
  pub anchor : f.anchor found ≡ e.anchor
  pub status : f.status found ≢ free_status
  pub stamp : f.stamp found ≡ 0
  pub other : e.kind ≡ merge_kind → found ≢ e.node

-- What was found is what the list has at the anchor, unless another line covers the anchor by now; and a merge has
-- given its node back.
pub record IsDecided (c : TurnTerms) (f : TurnFacts) (e : ReadyLine) (found : Option ℕ) : Type 0 where
  pub at_hand : IsAtHand f e
  pub stands : ListHas (IsListed f) f.anchor e.anchor found ⊎ HasOtherCover f.line f.safe_line e.anchor e.line
  pub fits : (m : ℕ) → found ≡ Some m → IsFit c f e m
  pub free : e.kind ≡ merge_kind → f.held e.node ≡ false

-- the node may become free: nobody holds it, it isn't worn, and no ready merge has it
pub record IsFreeing (f : TurnFacts) (n : ℕ) : Type 0 where
  pub gone : f.status n ≡ gone_status
  pub bare : f.stamp n ≡ 0
  pub free : f.held n ≡ false
  pub unworn : f.worn n ≡ false
  pub alone : (j : ℕ) → f.line.state j ≡ ready_state → f.line.kind j ≡ merge_kind → f.line.node j ≢ n

-- All is done that this line, as it was read, waits for: its anchor leads to what was found, and the node of a merge
-- has its stamp.
pub record IsCarried (c : TurnTerms) (f : TurnFacts) (j : ℕ) : Type 0 where
  pub entry : ReadyLine
  pub line : entry.line ≡ j
  pub decided : IsDecided c f entry (f.layer entry.anchor)
  pub stamped : entry.kind ≡ merge_kind → f.stamp entry.node ≡ c.stamp

-- the node is gone, and has a stamp that the release allows
pub record IsReleased (c : TurnTerms) (f : TurnFacts) (n : ℕ) : Type 0 where
  pub gone : f.status n ≡ gone_status
  pub some_stamp : f.stamp n ≢ 0
  pub release : f.stamp n ≤ c.release

abbrev pub SureTurn : TurnTerms → TurnFacts → TurnStage → Type 0
SureTurn c f Resting = Unit {0}
SureTurn c f (Between j) = Unit {0}
SureTurn c f (Sees j) = f.line.state j ≡ ready_state
SureTurn c f (SeesKind j kind) = (f.line.state j ≡ ready_state) × (f.line.kind j ≡ kind)
SureTurn c f (SeesNode j kind node) =
    (f.line.state j ≡ ready_state) × (f.line.kind j ≡ kind) × (f.line.node j ≡ node)
SureTurn c f (Lands e) = IsAtHand f e
SureTurn c f (Changes e found) = IsDecided c f e found
SureTurn c f (Stamps e) = IsDecided c f e (f.layer e.anchor) × (e.kind ≡ merge_kind)
SureTurn c f (Clears j) = IsCarried c f j
SureTurn c f (Sweeps n) = Unit {0}
SureTurn c f (Gone n) = f.status n ≡ gone_status
SureTurn c f (HasStamp n) = IsReleased c f n
SureTurn c f (IsUnworn n) = IsReleased c f n × (f.worn n ≡ false)
SureTurn c f (Frees n) = IsFreeing f n
SureTurn c f (Counts n none) = none ≡ true → (m : ℕ) → m < n → f.status m ≢ free_status

-- Parts of the law that the turn's stage moves.

-- the layer is durable, but while it changes at the anchor
abbrev pub IsDurableBut : Layer → Layer → TurnStage → Type 0
IsDurableBut layer safe (Changes e found) = AreSameBut e.anchor safe layer
IsDurableBut layer safe _ = AreSame safe layer

-- the node isn't the one that is being freed
abbrev pub IsNotFreed : TurnStage → ℕ → Type 0
IsNotFreed (Frees n) m = m ≢ n
IsNotFreed _ m = Unit {0}

-- the node is the one that is being freed
abbrev pub IsBeingFreed : TurnStage → ℕ → Type 0
IsBeingFreed (Frees n) m = m ≡ n
IsBeingFreed _ m = ⊥

-- this turn has stamped the node of this line, if it is of a merge
abbrev pub IsStamped : TurnStage → ℕ → Type 0
IsStamped (Clears i) j = j ≡ i
IsStamped _ j = ⊥

-- a key of the layer leads to a node that has it as its anchor, and won't become free before the key leads elsewhere
pub record IsLed (f : TurnFacts) (s : TurnStage) (key node : ℕ) : Type 0 where
  pub anchor : f.anchor node ≡ key
  pub status : f.status node ≢ free_status
  pub stamp : f.stamp node ≡ 0
  pub not_freed : IsNotFreed s node

-- A ready line isn't empty in the durable row either, and has its anchor there. While the party of its merge holds
-- the merged node, it holds the anchor's target too.
pub record IsReady (f : TurnFacts) (j : ℕ) : Type 0 where
  pub safe_state : f.safe_line.state j ≢ empty_state
  pub safe_anchor : f.safe_line.anchor j ≡ f.line.anchor j
  pub busy : f.line.kind j ≡ merge_kind → f.held (f.line.node j) ≡ true → (m : ℕ) →
      IsTarget (IsListed f) f.anchor (f.line.anchor j) m → (f.held m ≡ true) × (f.holder m ≡ f.holder (f.line.node j))

-- A ready line of a merge has a merged node with its anchor, which no other such line has; the node gets its stamp by
-- the turn that empties the line.
pub record IsReadyMerge (f : TurnFacts) (s : TurnStage) (j : ℕ) : Type 0 where
  pub gone : f.status (f.line.node j) ≡ gone_status
  pub anchor : f.anchor (f.line.node j) ≡ f.line.anchor j
  pub stamp : (f.stamp (f.line.node j) ≡ 0) ⊎ IsStamped s j
  pub alone : (i : ℕ) → f.line.state i ≡ ready_state → f.line.kind i ≡ merge_kind →
      f.line.node i ≡ f.line.node j → i ≡ j

-- The facts and a turn are lawful.
pub record TurnLawful (c : TurnTerms) (f : TurnFacts) (s : TurnStage) : Type 0 where
  -- the turn gives a stamp
  pub stamped_by : c.stamp ≢ 0
  -- the durable layer is the cached one, but while that changes
  pub durable : IsDurableBut f.layer f.safe_layer s
  -- keys lead to nodes that are in use
  pub led : (key node : ℕ) → f.layer key ≡ Some node → IsLed f s key node
  -- each key that no line covers leads as the list has it
  pub covered : IsCovered (IsListed f) f.anchor f.layer (HasCover f.line f.safe_line)
  -- listed nodes have different anchors, and are live
  pub apart : AreApart (IsListed f) f.anchor
  pub live : (n : ℕ) → IsListed f n → f.status n ≡ live_status
  -- a node with a stamp is gone, and nobody holds it
  pub marked : (n : ℕ) → f.stamp n ≢ 0 → (f.status n ≡ gone_status) × (f.held n ≡ false)
  -- a merged node without one will get it: a ready line has it, or a party holds it; or it is being freed
  pub owned : (n : ℕ) → f.status n ≡ gone_status → f.stamp n ≡ 0 →
      HasReadyMerge f n ⊎ (f.held n ≡ true) ⊎ IsBeingFreed s n
  -- lines that wait
  pub ready : (j : ℕ) → f.line.state j ≡ ready_state → IsReady f j
  pub merges : (j : ℕ) → f.line.state j ≡ ready_state → f.line.kind j ≡ merge_kind → IsReadyMerge f s j
  -- what the turn is sure of
  pub sure : SureTurn c f s
