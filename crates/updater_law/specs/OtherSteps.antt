-- The kinds of step of other parties that touch what a turn, or the cover of the layer, rests on. Each asks for what
-- the party that takes it must know: premises that the laws of splits and merges have to give.
use Rattle.std.specs.Prelude.{◌≡◌, ◌≢◌, ℕ, ◌<◌, ◌≤◌, Bool, true, false}
use Rattle.pm_words.specs.Codes.{free_status, live_status, gone_status, empty_state, open_state, ready_state}
use Rattle.pm_words.specs.Codes.{merge_kind}
use Rattle.updater_law.specs.Covers.{set_at, Lines, IsCover, LinesEvict}
use Rattle.updater_law.specs.Covered.{IsTarget}
use Rattle.updater_law.specs.Facts.{TurnFacts, IsListed, HasReadyMerge}

-- The merge of this line is done, and both of its nodes are held still, by one party.
pub record IsRipe (f : TurnFacts) (j : ℕ) : Type 0 where
  pub gone : f.status (f.line.node j) ≡ gone_status
  pub anchor : f.anchor (f.line.node j) ≡ f.line.anchor j
  pub held : f.held (f.line.node j) ≡ true
  pub left : (m : ℕ) → IsTarget (IsListed f) f.anchor (f.line.anchor j) m →
      (f.held m ≡ true) × (f.holder m ≡ f.holder (f.line.node j))
  -- no other ready line is of this node
  pub alone : (i : ℕ) → f.line.state i ≡ ready_state → f.line.kind i ≡ merge_kind → f.line.node i ≢ f.line.node j

-- From the facts to those afterwards; p is the party that takes the step.
pub data OtherStep (f : TurnFacts) : TurnFacts → Type 0 where
  -- it fills a line that is empty, and opens it
  notes_kind : (j x : ℕ) → f.line.state j ≡ empty_state →
      OtherStep f (record f { line = record (f.line) { kind = set_at f.line.kind j x } })
  notes_node : (j x : ℕ) → f.line.state j ≡ empty_state →
      OtherStep f (record f { line = record (f.line) { node = set_at f.line.node j x } })
  notes_anchor : (j x : ℕ) → f.line.state j ≡ empty_state →
      OtherStep f (record f { line = record (f.line) { anchor = set_at f.line.anchor j x } })
  opens : (j : ℕ) → f.line.state j ≡ empty_state →
      OtherStep f (record f { line = record (f.line) { state = set_at f.line.state j open_state } })
  -- it makes a line ready that is open in both rows
  readies : (j : ℕ) → f.line.state j ≡ open_state → f.safe_line.state j ≢ empty_state →
      f.safe_line.anchor j ≡ f.line.anchor j → (f.line.kind j ≡ merge_kind → IsRipe f j) →
      OtherStep f (record f { line = record (f.line) { state = set_at f.line.state j ready_state } })
  -- a drain or an eviction of words of lines
  drains_lines : (lines : Lines) → LinesEvict f.line f.safe_line lines → OtherStep f (record f { safe_line = lines })
  -- it takes the lock of a listed node, or claims a free one
  locks : (p n : ℕ) → IsListed f n → f.status n ≡ live_status → f.held n ≡ false →
      OtherStep f (record f { held = set_at f.held n true; holder = set_at f.holder n p })
  claims : (p n : ℕ) → f.status n ≡ free_status → f.held n ≡ false →
      OtherStep f (record f { held = set_at f.held n true; holder = set_at f.holder n p })
  -- It gives a lock back: of a merge whose line is ready, that of the merged node first. A merged node has its ready
  -- line by then. The node may be worn from now on.
  unlocks : (p n : ℕ) (worn : Bool) → f.held n ≡ true → f.holder n ≡ p →
      ((j : ℕ) → f.line.state j ≡ ready_state → f.line.kind j ≡ merge_kind → f.held (f.line.node j) ≡ true →
      f.holder (f.line.node j) ≡ p → f.line.node j ≡ n) →
      (f.status n ≡ gone_status → HasReadyMerge f n) →
      OtherStep f (record f { held = set_at f.held n false; worn = set_at f.worn n worn })
  -- it stores the anchor of a claimed node, and makes it live
  anchors : (n k : ℕ) → f.status n ≡ free_status → f.held n ≡ true →
      OtherStep f (record f { anchor = set_at f.anchor n k })
  lights : (n : ℕ) → f.status n ≡ free_status → f.held n ≡ true →
      OtherStep f (record f { status = set_at f.status n live_status })
  -- the switch of a split of l, whose line is open in both rows
  links : (l n j : ℕ) → (IsListed f n → ⊥) → f.status n ≡ live_status → f.held n ≡ true →
      IsTarget (IsListed f) f.anchor (f.anchor n) l → f.holder l ≡ f.holder n → f.line.state j ≡ open_state →
      IsCover f.line f.safe_line (f.anchor n) j → ((m : ℕ) → IsListed f m → f.anchor m ≢ f.anchor n) →
      OtherStep f (record f { listed = set_at f.listed n true })
  -- the switch of a merge of r into l, the node before it
  unlinks : (l r j : ℕ) → IsListed f l → IsListed f r → l ≢ r → f.held l ≡ true → f.held r ≡ true →
      f.holder l ≡ f.holder r → f.anchor l < f.anchor r →
      ((n : ℕ) → IsListed f n → f.anchor n < f.anchor r → f.anchor n ≤ f.anchor l) → f.line.state j ≡ open_state →
      IsCover f.line f.safe_line (f.anchor r) j → OtherStep f (record f { listed = set_at f.listed r false })
  -- it makes a merged node gone, which it still holds
  goes : (n : ℕ) → (IsListed f n → ⊥) → f.status n ≡ live_status → f.held n ≡ true →
      OtherStep f (record f { status = set_at f.status n gone_status })
