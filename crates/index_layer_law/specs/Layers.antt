-- What holds of an index with its search layer and a turn between any two steps.
use Rattle.std.specs.Prelude.{◌≡◌, ◌≢◌, ℕ, true, false, List, Option, IfSome}
use mathlib.Core.Option.{some}
use lib.ListN.{get_elem?}
use Rattle.pm_words.specs.Codes.{ready_state, merge_kind, untaken_lock}
use Rattle.pm_words.specs.Locations.{Updater, Cached, Durable, at}
use Rattle.data_node.specs.Lists.{anchor_in}
use Rattle.call_stages.specs.Stages.{Held, Grip, Gone, Joins, HoldsNode, IsSwitched}
use Rattle.call_stages.specs.Lines.{HeldLine}
use Rattle.call_stages.specs.Footings.{HasLine}
use Rattle.index_law.specs.Worlds.{Party, World, facts}
use Rattle.index_law.specs.Whole.{Whole, IsWhole}
use Rattle.index_law.specs.Footings.{AreTended}
use Rattle.updater_law.specs.Covers.{IsCover}
use Rattle.updater_law.specs.Facts.{TurnFacts}
use Rattle.updater_row_law.specs.Columns.{lines_in, facts_in}
use Rattle.updater_row_law.specs.RowStages.{RowLine, RowTarget, Resting, HasTarget}
use Rattle.updater_row_law.specs.RowLaw.{RowLawful}
use Rattle.updater_row_law.specs.Turnings.{Turning}
use Rattle.index_layer_law.specs.Turnings.{terms_of, AreResting, AreRestingBut, ghosts_of, line_number}
use Rattle.index_layer_law.specs.Turnings.{SureWatch, IsShown}

-- The parties with their calls, and the turn, if any, that each makes.
pub record Layered : Type 0 where
  pub whole : Whole
  pub turns : List Turning

-- By its words the line of this number is of the merge that leaves the node out.
abbrev pub SaysMerge : TurnFacts → ℕ → ℕ → Type 0
SaysMerge f j node = (f.line.kind j ≡ merge_kind) × (f.line.node j ≡ node)

-- A party holds the right node of its merge, which is GONE: of the READY lines of merges none has this node but the
-- party's own, and that isn't emptied while the node is held.
pub record IsRetiring (f : TurnFacts) (line : Option HeldLine) (right : Grip) : Type 0 where
  pub alone : (j : ℕ) → f.line.state j ≡ ready_state → SaysMerge f j right.node →
      HasLine line (λ e. (e.ready ≡ true) × (j ≡ line_number e))
  pub waits : IfSome line (λ e. e.ready ≡ true → SaysMerge f (line_number e) right.node →
      f.line.state (line_number e) ≡ ready_state)

-- A party's line, which isn't READY, covers the node: in both rows it isn't EMPTY, and has the node's anchor.
abbrev pub CoversNode : World → Option HeldLine → ℕ → Type 0
CoversNode w line n = HasLine line (λ e. (e.ready ≡ false) ×
    IsCover (lines_in w.layout w.words Cached) (lines_in w.layout w.words Durable) (anchor_in ((facts w).now n))
    (line_number e))

-- What the law of turns knows of the index, as the turn t has it.
abbrev pub turn_facts : World → (ℕ → ℕ) → Turning → TurnFacts
turn_facts w holder t = facts_in (terms_of w t) (ghosts_of w holder) w.words

pub record IsLayered (z : Layered) : Type 0 where
  pub whole : IsWhole z.whole
  pub tended : AreTended z.whole
  -- which party holds a node that one holds
  pub holder : ℕ → ℕ
  pub holders : (i : ℕ) (p : Party) (n : ℕ) → get_elem? z.whole.world.parties i ≡ some p → HoldsNode p.stage n →
      holder n ≡ i
  -- one party at most makes a turn that has the updater lock, and the row is lawful for it, or for any that rests
  pub one : (i j : ℕ) (t u : Turning) → get_elem? z.turns i ≡ some t → get_elem? z.turns j ≡ some u →
      t.stage ≢ Resting → u.stage ≢ Resting → i ≡ j
  pub active : (i : ℕ) × (t : Turning) × (get_elem? z.turns i ≡ some t) × AreRestingBut z.turns i
  pub lock : at z.whole.world.layout z.whole.world.words Updater ≡ untaken_lock → AreResting z.turns
  pub unlocked : AreResting z.turns → at z.whole.world.layout z.whole.world.words Updater ≡ untaken_lock
  pub rows : (i : ℕ) (t : Turning) → get_elem? z.turns i ≡ some t → AreRestingBut z.turns i →
      RowLawful (terms_of z.whole.world t) (ghosts_of z.whole.world holder) z.whole.world.words t.stage
  pub stamps : (i : ℕ) (t : Turning) → get_elem? z.turns i ≡ some t → t.stamp ≢ 0
  -- what the walks of turns rely on
  pub watches : (i : ℕ) (t : Turning) → get_elem? z.turns i ≡ some t →
      SureWatch z.whole.world.layout z.whole.world.generation (facts z.whole.world) t.watch
  pub shown : (i : ℕ) (t : Turning) (e : RowLine) (target : RowTarget) → get_elem? z.turns i ≡ some t →
      t.stage ≡ HasTarget e target →
      IsShown z.whole.world.layout z.whole.world.generation (facts z.whole.world) e.anchor target
  -- merges that are to give their right nodes back
  pub retiring : (i : ℕ) (p : Party) (line : Option HeldLine) (t : Turning) (h : Held) (left right : Grip) →
      get_elem? z.whole.world.parties i ≡ some p → get_elem? z.whole.lines i ≡ some line →
      p.stage ≡ Joins h left right Gone →
      IsRetiring (turn_facts z.whole.world holder t) line right
  -- a party whose switch may not be durable yet has a line that covers the node which it put in or left out
  pub switched : (i : ℕ) (p : Party) (n : ℕ) → get_elem? z.whole.world.parties i ≡ some p → IsSwitched p.stage n →
      (line : Option HeldLine) × (get_elem? z.whole.lines i ≡ some line) × CoversNode z.whole.world line n
