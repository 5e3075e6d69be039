-- Steps of a turn and of other parties, one after another.
use Rattle.std.specs.Prelude.{ℕ}
use Rattle.layer_map.specs.Layers.{Layer}
use Rattle.updater_law.specs.Facts.{TurnTerms, TurnFacts}
use Rattle.updater_law.specs.TurnStages.{TurnStage, Resting, IsUnworn, Frees}
use Rattle.updater_law.specs.TurnSteps.{TurnStep}
use Rattle.updater_law.specs.OtherSteps.{OtherStep}
use Rattle.updater_law.specs.Lawful.{IsReleased, IsDurableBut, TurnLawful}

-- From these facts and this stage it has come to those: by steps of the turn and of other parties, and by words of
-- the layer that became durable.
pub data Trace (c : TurnTerms) : TurnFacts → TurnStage → TurnFacts → TurnStage → Type 0 where
  starts : {f : TurnFacts} {s : TurnStage} → Trace c f s f s
  turns : {f f' f'' : TurnFacts} {s t u : TurnStage} → Trace c f s f' t → TurnStep c f' t f'' u → Trace c f s f'' u
  others : {f f' f'' : TurnFacts} {s t : TurnStage} → Trace c f s f' t → OtherStep f' f'' → Trace c f s f'' t
  evicts : {f f' : TurnFacts} {s t : TurnStage} (safe : Layer) → Trace c f s f' t → IsDurableBut f'.layer safe t →
      Trace c f s (record f' { safe_layer = safe }) t

-- at an earlier moment of this very turn the node was gone, and had a stamp that the turn's release allows
pub record WasStamped (c : TurnTerms) (f : TurnFacts) (n : ℕ) : Type 0 where
  pub then_facts : TurnFacts
  pub earlier : Trace c f Resting then_facts (IsUnworn n)
  pub released : IsReleased c then_facts n

-- A turn comes to the store that frees a node only where it took from that node, in this turn, a stamp of its release.
abbrev pub FreedWereStamped : Type 0
FreedWereStamped = (c : TurnTerms) (f f' : TurnFacts) (n : ℕ) → TurnLawful c f Resting →
    Trace c f Resting f' (Frees n) → WasStamped c f n

-- Whatever a trace comes to is lawful.
abbrev pub TracesKeep : Type 0
TracesKeep = (c : TurnTerms) (f f' : TurnFacts) (s t : TurnStage) → TurnLawful c f s → Trace c f s f' t →
    TurnLawful c f' t
