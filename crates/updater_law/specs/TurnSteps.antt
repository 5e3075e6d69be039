-- The kinds of step of a turn: from a stage to the facts and the stage afterwards.
use Rattle.std.specs.Prelude.{◌≡◌, ◌≢◌, ℕ, suc, ◌==◌, ◌<◌, ◌≤◌, ◌⊎◌, Bool, true, false, if◌then◌else◌}
use Rattle.std.specs.Prelude.{Option, Some, None}
use Rattle.pm_words.specs.Codes.{free_status, gone_status, empty_state, ready_state, merge_kind}
use Rattle.layer_map.specs.Layers.{Layer, AreSame}
use Rattle.updater_law.specs.Covers.{set_at}
use Rattle.updater_law.specs.Covered.{IsTarget}
use Rattle.updater_law.specs.Facts.{TurnTerms, TurnFacts, IsListed}
use Rattle.updater_law.specs.TurnStages.{ReadyLine, TurnStage, Resting, Between, Sees, SeesKind, SeesNode, Lands}
use Rattle.updater_law.specs.TurnStages.{Changes}
use Rattle.updater_law.specs.TurnStages.{Stamps, Clears, Sweeps, Gone, HasStamp, IsUnworn, Frees, Counts}

-- the layers lead each key but this one alike
abbrev pub AreSameBut : ℕ → Layer → Layer → Type 0
AreSameBut key layer other = (k : ℕ) → k ≢ key → layer k ≡ other k

-- the facts with this line emptied
abbrev pub emptied : TurnFacts → ℕ → TurnFacts
emptied f j = record f { line = record (f.line) { state = set_at f.line.state j empty_state } }

pub data TurnStep (c : TurnTerms) (f : TurnFacts) : TurnStage → TurnFacts → TurnStage → Type 0 where
  -- it takes the updater lock
  takes_lock : TurnStep c f Resting f (Between 0)
  -- it loads the state of a line that isn't ready, and of one that is; then what that line says
  passes : (j : ℕ) → f.line.state j ≢ ready_state → TurnStep c f (Between j) f (Between (suc j))
  sees : (j : ℕ) → f.line.state j ≡ ready_state → TurnStep c f (Between j) f (Sees j)
  sees_kind : (j : ℕ) → TurnStep c f (Sees j) f (SeesKind j (f.line.kind j))
  sees_node : (j kind : ℕ) → TurnStep c f (SeesKind j kind) f (SeesNode j kind (f.line.node j))
  sees_anchor : (j kind node : ℕ) → TurnStep c f (SeesNode j kind node) f
      (Lands (record { line = j; kind = kind; node = node; anchor = f.line.anchor j }))
  -- it lands and walks; it leaves the line where it is turned back, or its target has moved
  walks : {e : ReadyLine} → TurnStep c f (Lands e) f (Lands e)
  leaves_line : (e : ReadyLine) → TurnStep c f (Lands e) f (Between (suc e.line))
  -- the second load of the target's version gives the same free word, so the target stands: what the list has at the
  -- anchor is known
  decides : (e : ReadyLine) (m : ℕ) → IsTarget (IsListed f) f.anchor e.anchor m → f.held m ≡ false → m < c.nodes →
      TurnStep c f (Lands e) f (Changes e (if f.anchor m == e.anchor then Some m else None))
  -- it prepares the change, makes something of it durable, or makes the one store by which the layer changes: the
  -- anchor leads where it led, or to what was found, and the durable layer differs from the cached one at the anchor
  -- alone
  changes : (e : ReadyLine) (found : Option ℕ) (layer safe : Layer) → AreSameBut e.anchor layer f.layer →
      (layer e.anchor ≡ f.layer e.anchor) ⊎ (layer e.anchor ≡ found) → AreSameBut e.anchor safe layer →
      TurnStep c f (Changes e found) (record f { layer = layer; safe_layer = safe }) (Changes e found)
  -- with this step the change is done, and durable: of a merge, and of a split
  has_changed_merge : (e : ReadyLine) (found : Option ℕ) (layer safe : Layer) → AreSameBut e.anchor layer f.layer →
      layer e.anchor ≡ found → AreSame safe layer → e.kind ≡ merge_kind →
      TurnStep c f (Changes e found) (record f { layer = layer; safe_layer = safe }) (Stamps e)
  has_changed_split : (e : ReadyLine) (found : Option ℕ) (layer safe : Layer) → AreSameBut e.anchor layer f.layer →
      layer e.anchor ≡ found → AreSame safe layer → e.kind ≢ merge_kind →
      TurnStep c f (Changes e found) (record f { layer = layer; safe_layer = safe }) (Clears e.line)
  -- it stamps the node of a merge
  stamps : (e : ReadyLine) →
      TurnStep c f (Stamps e) (record f { stamp = set_at f.stamp e.node c.stamp }) (Clears e.line)
  -- it empties the line
  empties : (j : ℕ) → TurnStep c f (Clears j) (emptied f j) (Between (suc j))
  -- all lines are done
  sweeps : (j : ℕ) → c.lines ≤ j → TurnStep c f (Between j) f (Sweeps 0)
  -- it loads the status of a node, then its stamp, then its version; each may let the node pass by
  passes_node : (n : ℕ) → f.status n ≢ gone_status → TurnStep c f (Sweeps n) f (Sweeps (suc n))
  sees_gone : (n : ℕ) → f.status n ≡ gone_status → TurnStep c f (Sweeps n) f (Gone n)
  passes_stamp : (n : ℕ) → (f.stamp n ≡ 0) ⊎ (c.release < f.stamp n) → TurnStep c f (Gone n) f (Sweeps (suc n))
  sees_stamp : (n : ℕ) → f.stamp n ≢ 0 → f.stamp n ≤ c.release → TurnStep c f (Gone n) f (HasStamp n)
  passes_worn : (n : ℕ) → f.worn n ≡ true → TurnStep c f (HasStamp n) f (Sweeps (suc n))
  sees_unworn : (n : ℕ) → f.worn n ≡ false → TurnStep c f (HasStamp n) f (IsUnworn n)
  -- it takes the stamp away, and makes the node free
  unstamps : (n : ℕ) → TurnStep c f (IsUnworn n) (record f { stamp = set_at f.stamp n 0 }) (Frees n)
  frees : (n : ℕ) → TurnStep c f (Frees n) (record f { status = set_at f.status n free_status }) (Sweeps (suc n))
  -- all nodes are done: it looks for a free one, and gives the updater lock back
  starts_count : (n : ℕ) → c.nodes ≤ n → TurnStep c f (Sweeps n) f (Counts 0 true)
  counts_free : (n : ℕ) (none : Bool) → f.status n ≡ free_status → TurnStep c f (Counts n none) f (Counts (suc n) false)
  counts : (n : ℕ) (none : Bool) → f.status n ≢ free_status → TurnStep c f (Counts n none) f (Counts (suc n) none)
  leaves_lock : (n : ℕ) (none : Bool) → c.nodes ≤ n → TurnStep c f (Counts n none) f Resting
