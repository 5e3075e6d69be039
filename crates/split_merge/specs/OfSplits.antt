-- The stages of a split, whatever it is at.
use Rattle.std.specs.Prelude.{◌≡◌}
use Rattle.call_stages.specs.Stages.{Held, Stage, Holds, Eyes, Splits, Leaves}
use Rattle.split_merge.specs.declared.splitting.Split.{Split}
use Rattle.split_merge.specs.SplitStages.{split_footing}

-- What is held stands for the same call, with no other change and place.
pub record StandsFor (h k : Held) : Type 0 where
  pub name : k.name ≡ h.name
  pub limit : k.limit ≡ h.limit
  pub old : k.old ≡ h.old
  pub pending : k.pending ≡ h.pending
  pub ready : k.ready ≡ h.ready
  pub placed : k.placed ≡ h.placed

-- The stage is one of the split of a node that is held as h says: it holds that node alone, or the fresh one too.
abbrev pub IsOfSplit : Held → Stage → Type 0
IsOfSplit h (Holds n w k) = StandsFor h k
IsOfSplit h (Eyes n w k m v u free) = StandsFor h k
IsOfSplit h (Splits left fresh phase) = (left.name ≡ h.name) × (left.old ≡ h.old)
IsOfSplit h (Leaves left) = Unit {0}
IsOfSplit h _ = ⊥

-- So is each stage that a split comes to.
abbrev pub StagesAreOfSplits : Type 0
StagesAreOfSplits = (h : Held) (split : Split) → IsOfSplit h (split_footing h split).stage
