-- Where the split of a full node stands that nobody disturbs: which log line it takes, and which node it claims.
use Rattle.std.specs.Prelude.{◌≡◌, ◌≢◌, ℕ, ◌<◌, ◌==◌, if◌then◌else◌, List}
use Rattle.pm_words.specs.Codes.{free_status, live_status, empty_state}
use Rattle.pm_words.specs.declared.layout.Layout.{Layout}
use Rattle.pm_words.specs.declared.again.Again.{Again}
use Rattle.pm_words.specs.declared.again.Again.TheVariants as again
use Rattle.pm_words.specs.declared.machine.Turn.{Turn}
use Rattle.pm_words.specs.declared.machine.Turn.TheVariants.{Go, Done}
use Rattle.pm_words.specs.Rows.{acted, got}
use Rattle.pm_words.specs.Offsets.{state_offset}
use Rattle.version_lock.specs.Versions.{IsFree, IsWorn}
use Rattle.call_stages.specs.Kinds.{Told}
use Rattle.pm_alloc.specs.Events.{Heard, HasHeard}
use Rattle.smo_log.specs.Laws.{HasLooked}
use Rattle.split_merge.specs.declared.splitting.Split.{Split}
use Rattle.split_merge.specs.declared.splitting.SplitDone.{SplitDone}
use Rattle.split_merge.specs.declared.splitting.SplitDone.TheVariants as done
use Rattle.split_merge.specs.Splits.{IsSplit, split_asks, split_turned}
use Rattle.split_merge.specs.declared.splitting.SplitAt.{SplitAt}
use Rattle.split_merge.specs.declared.splitting.SplitAt.TheVariants as at
use Rattle.index_law.specs.Facts.{version_in, status_in}
use Rattle.index_law.specs.Lines.{line_in}
use Rattle.lone_call_law.specs.There.{IsUnmoved}

-- One of the caller's log lines is EMPTY.
pub record HasLine (l : Layout) (words : List ℕ) (caller : ℕ) : Type 0 where
  pub number : ℕ
  pub within : number < 8
  pub empty : line_in l words caller number state_offset ≡ empty_state

-- None of them is.
abbrev pub LacksLine : Layout → List ℕ → ℕ → Type 0
LacksLine l words caller = (number : ℕ) → number < 8 → line_in l words caller number state_offset ≢ empty_state

-- Some node is FREE, and its lock can be taken.
pub record HasFree (l : Layout) (g : ℕ) (words : List ℕ) : Type 0 where
  pub node : ℕ
  pub within : node < l.nodes
  pub free : status_in l words node ≡ free_status
  pub unworn : IsWorn (version_in l words node) g → ⊥

-- The lock of no FREE node can be taken any more.
abbrev pub LacksFree : Layout → ℕ → List ℕ → Type 0
LacksFree l g words = (m : ℕ) → m < l.nodes → status_in l words m ≡ free_status → IsWorn (version_in l words m) g

-- The words that a claim is told of a call that holds the node n with the version word w.
abbrev pub heard_in : Layout → List ℕ → ℕ → ℕ → ℕ → Heard
heard_in l words n w found = record {
  version = λ m. if m == n then w else version_in l words m;
  status = status_in l words;
  found = found;
}

-- Why a split of this caller is refused: it has no EMPTY line; or it has one, and there is no node to claim.
abbrev pub IsLacking : Layout → ℕ → List ℕ → ℕ → Again → Type 0
IsLacking l g words caller again.LogFull = LacksLine l words caller
IsLacking l g words caller again.NoFree = HasLine l words caller × LacksFree l g words
IsLacking l g words caller _ = ⊥

-- Until it has a node of its own, nothing but the lock has changed. Then there was an EMPTY line, and a free node; and
-- where it is refused, one of the two was lacking.
abbrev pub SplitStands : Layout → ℕ → List ℕ → List ℕ → ℕ → ℕ → ℕ → SplitAt → Type 0
SplitStands l g words0 words n w caller at.Next = IsUnmoved l words0 words n
SplitStands l g words0 words n w caller (at.Take next take) =
    IsUnmoved l words0 words n × HasLooked (λ index. line_in l words0 caller index state_offset) take.index take.at
SplitStands l g words0 words n w caller (at.Claim next line claim) =
    IsUnmoved l words0 words n × HasLine l words0 caller ×
    HasHeard l g (heard_in l words0 n w 0) claim.node claim.at
SplitStands l g words0 words n w caller (at.Read share full count) = HasLine l words0 caller × HasFree l g words0
SplitStands l g words0 words n w caller (at.Move moving) = HasLine l words0 caller × HasFree l g words0
SplitStands l g words0 words n w caller (at.Refuse next why) =
    IsUnmoved l words0 words n × IsLacking l g words0 caller why

-- Where a turn of a split leads
abbrev pub SplitWent : Layout → ℕ → List ℕ → List ℕ → ℕ → ℕ → ℕ → Turn Split SplitDone → Type 0
SplitWent l g words0 words n w caller (Go next) = SplitStands l g words0 words n w caller next.at
SplitWent l g words0 words n w caller (Done (done.Done fresh)) = HasLine l words0 caller × HasFree l g words0
SplitWent l g words0 words n w caller (Done (done.Again why)) =
    IsUnmoved l words0 words n × IsLacking l g words0 caller why

-- The words as the call that splits began: its node and the first one are LIVE, and all are free
pub record IsReadyToSplit (l : Layout) (g : ℕ) (words0 : List ℕ) (n : ℕ) : Type 0 where
  pub live : status_in l words0 n ≡ live_status
  pub first : status_in l words0 0 ≡ live_status
  pub free : (m : ℕ) → m < l.nodes → IsFree (version_in l words0 m) g

-- It holds no other node yet
abbrev pub HoldsAlone : SplitAt → Type 0
HoldsAlone (at.Claim next line claim) = Unit {0}
HoldsAlone _ = ⊥

-- Each turn of a split that nobody disturbs, whose node's version word is its own.
abbrev pub SplitsComeThere : Type 0
SplitsComeThere = (split : Split) (words0 words : List ℕ) (x : ℕ) → IsSplit split →
    IsReadyToSplit split.view.layout split.view.generation words0 split.node →
    SplitStands split.view.layout split.view.generation words0 words split.node split.word split.view.caller split.at →
    Told split.view.layout split.view.generation (split_asks split) x →
    (HoldsAlone split.at → version_in split.view.layout words split.node ≡ split.word) →
    x ≡ got split.view.layout words (split_asks split) →
    SplitWent split.view.layout split.view.generation words0 (acted split.view.layout words (split_asks split))
    split.node split.word split.view.caller (split_turned split x)
