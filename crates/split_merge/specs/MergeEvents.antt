-- What a merge answers, by the words that it was told.
use Rattle.std.specs.Prelude.{◌≡◌, ◌≢◌, ℕ, ◌<◌, ◌↔◌, true, slice_index}
use Rattle.pm_words.specs.declared.machine.Turn.{Turn}
use Rattle.pm_words.specs.declared.machine.Turn.TheVariants.{Go, Done}
use Rattle.version_lock.specs.Versions.{IsFree, IsWorn}
use Rattle.call_stages.specs.declared.view.View.{View}
use Rattle.split_merge.specs.declared.merging.Merge.{Merge}
use Rattle.split_merge.specs.declared.merging.MergeAt.{MergeAt}
use Rattle.split_merge.specs.declared.merging.MergeAt.TheVariants as at
use Rattle.split_merge.specs.declared.merging.Merged.{Merged}
use Rattle.split_merge.specs.Unions.{AreFew}
use Rattle.split_merge.specs.Merges.{merge_turned, merge_takes}

-- The numbers of one merge: its node's bitmap and where that leads, the neighbour's version word, the word that the
-- exchange found there, and the neighbour's bitmap.
pub record MergeHeard : Type 0 where
  pub own : ℕ
  pub right : ℕ
  pub version : ℕ
  pub found : ℕ
  pub bitmap : ℕ

-- It has a neighbour, which was neither locked nor worn, and whose version word the exchange found again.
pub record TookNeighbour (view : View) (heard : MergeHeard) : Type 0 where
  pub some : heard.right ≢ 0
  pub free : IsFree heard.version view.generation
  pub unworn : IsWorn heard.version view.generation → ⊥
  pub found : heard.found ≡ heard.version

-- It merges: it took the neighbour, and both nodes have at most half as many names as a node has slots.
pub record Merges (view : View) (heard : MergeHeard) : Type 0 where
  pub took : TookNeighbour view heard
  pub few : AreFew view.layout.slots heard.own heard.bitmap

-- What it has loaded so far is so.
abbrev pub MergeHas : View → MergeHeard → MergeAt → Type 0
MergeHas view heard at.Bitmap = Unit {0}
MergeHas view heard (at.Next own) = own ≡ heard.own
MergeHas view heard (at.Version near) = (near.own ≡ heard.own) × (near.right ≡ heard.right)
MergeHas view heard (at.Lock near version locked) =
    (near.own ≡ heard.own) × (near.right ≡ heard.right) × (version ≡ heard.version)
MergeHas view heard (at.Head near locked head count) = TookNeighbour view heard × (near.own ≡ heard.own) ×
    (1 < count → slice_index head 1 ≡ heard.bitmap)
MergeHas view heard (at.Prints near locked head prints count) = Merges view heard
MergeHas view heard (at.Join join) = Merges view heard
MergeHas view heard (at.Part near locked bitmap) = Merges view heard → ⊥
MergeHas view heard (at.Leave near) = Merges view heard → ⊥

-- The number that it is told next is one of these, where it is one of those that count.
abbrev pub MergeHearsSo : MergeHeard → MergeAt → ℕ → Type 0
MergeHearsSo heard at.Bitmap x = x ≡ heard.own
MergeHearsSo heard (at.Next own) x = x ≡ heard.right
MergeHearsSo heard (at.Version near) x = x ≡ heard.version
MergeHearsSo heard (at.Lock near version locked) x = x ≡ heard.found
MergeHearsSo heard (at.Head near locked head count) x = count ≡ 1 → x ≡ heard.bitmap
MergeHearsSo heard _ x = Unit {0}

abbrev pub MergeHeeds : View → MergeHeard → Turn Merge Merged → Type 0
MergeHeeds view heard (Go next) = MergeHas view heard next.at
MergeHeeds view heard (Done merged) = (merged.merged ≡ true) ↔ Merges view heard

-- A merge begins with nothing heard; each turn adds what it is told, and the answer is that it merged exactly where it
-- took the neighbour and both had few names.
abbrev pub MergesHeed : Type 0
MergesHeed = (merge : Merge) (heard : MergeHeard) (x : ℕ) → merge_takes merge x → MergeHearsSo heard merge.at x →
    MergeHas merge.view heard merge.at →
    MergeHeeds merge.view heard (merge_turned merge x)
