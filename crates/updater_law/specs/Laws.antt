-- The laws of single steps, of crashes, and of nodes that become free.
use Rattle.std.specs.Prelude.{◌≡◌, ◌≢◌, ℕ, ◌⊎◌, Bool, true}
use Rattle.pm_words.specs.Codes.{free_status}
use Rattle.layer_map.specs.Layers.{Layer, LeadsApart}
use Rattle.updater_law.specs.Covers.{IsOpenFor}
use Rattle.updater_law.specs.Covered.{IsCovered}
use Rattle.updater_law.specs.Facts.{TurnTerms, TurnFacts, IsListed}
use Rattle.updater_law.specs.TurnStages.{TurnStage, Resting, Frees}
use Rattle.updater_law.specs.TurnSteps.{TurnStep}
use Rattle.updater_law.specs.OtherSteps.{OtherStep}
use Rattle.updater_law.specs.Lawful.{IsReleased, IsDurableBut, TurnLawful}
use Rattle.updater_law.specs.Fresh.{fresh_facts}

-- A step of the turn, and one of another party, keep what is lawful.
abbrev pub TurnKeeps : Type 0
TurnKeeps = (c : TurnTerms) (f f' : TurnFacts) (s t : TurnStage) → TurnLawful c f s → TurnStep c f s f' t →
    TurnLawful c f' t

abbrev pub OtherKeeps : Type 0
OtherKeeps = (c : TurnTerms) (f f' : TurnFacts) (s : TurnStage) → TurnLawful c f s → OtherStep f f' →
    TurnLawful c f' s

-- Words of the layer may become durable, as long as the durable layer is what it may be at this stage.
abbrev pub LayerEvicts : Type 0
LayerEvicts = (c : TurnTerms) (f : TurnFacts) (s : TurnStage) (safe : Layer) → TurnLawful c f s →
    IsDurableBut f.layer safe s → TurnLawful c (record f { safe_layer = safe }) s

-- The durable list, with the durable anchors, differs from the cached one at most by nodes whose anchor a durable
-- line has that isn't empty.
pub record IsPending (f : TurnFacts) (listed : ℕ → Bool) (anchor : ℕ → ℕ) : Type 0 where
  pub hidden : (n : ℕ) → IsListed f n →
      ((listed n ≡ true) × (anchor n ≡ f.anchor n)) ⊎ IsOpenFor f.safe_line (f.anchor n)
  pub shown : (n : ℕ) → listed n ≡ true →
      (IsListed f n × (anchor n ≡ f.anchor n)) ⊎ IsOpenFor f.safe_line (anchor n)

-- Whenever a crash comes, the durable layer is covered by the durable lines,
abbrev pub CrashIsCovered : Type 0
CrashIsCovered = (c : TurnTerms) (f : TurnFacts) (s : TurnStage) (listed : ℕ → Bool) (anchor : ℕ → ℕ) →
    TurnLawful c f s → IsPending f listed anchor →
    IsCovered (λ n. listed n ≡ true) anchor f.safe_layer (IsOpenFor f.safe_line)

-- and at every moment the cached layer is, by the cached lines.
abbrev pub IsCoveredNow : Type 0
IsCoveredNow = (c : TurnTerms) (f : TurnFacts) (s : TurnStage) → TurnLawful c f s →
    IsCovered (IsListed f) f.anchor f.layer (IsOpenFor f.line)

-- No two keys lead to one node, so there are no more keys than nodes.
abbrev pub KeysLeadApart : Type 0
KeysLeadApart = (c : TurnTerms) (f : TurnFacts) (s : TurnStage) → TurnLawful c f s → LeadsApart f.layer

-- Of all steps one alone makes a node free, which is one of the turn's, at the stage of having taken that node's stamp
-- away.
abbrev pub FreedAreReleased : Type 0
FreedAreReleased = (c : TurnTerms) (f f' : TurnFacts) (s t : TurnStage) (n : ℕ) → TurnStep c f s f' t →
    f.status n ≢ free_status → f'.status n ≡ free_status → s ≡ Frees n

abbrev pub OthersFreeNone : Type 0
OthersFreeNone = (f f' : TurnFacts) (n : ℕ) → OtherStep f f' → f.status n ≢ free_status → f'.status n ≢ free_status

-- The turn comes to that stage only by the store that takes the stamp away, and the release allows the stamp.
abbrev pub StampWasReleased : Type 0
StampWasReleased = (c : TurnTerms) (f f' : TurnFacts) (s : TurnStage) (n : ℕ) → TurnLawful c f s →
    TurnStep c f s f' (Frees n) → IsReleased c f n × (f'.stamp n ≡ 0)

-- A fresh index is lawful, whatever stamp and release the turn to come has.
abbrev pub FreshIsLawful : Type 0
FreshIsLawful = (c : TurnTerms) → c.stamp ≢ 0 → TurnLawful c fresh_facts Resting
