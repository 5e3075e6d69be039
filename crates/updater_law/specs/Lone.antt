-- A turn with nothing else in flight.
use Rattle.std.specs.Prelude.{◌≡◌, ◌≢◌, ℕ, ◌<◌, ◌≤◌, ◌⊎◌, Bool, true, false}
use Rattle.pm_words.specs.Codes.{free_status, gone_status, empty_state, ready_state}
use Rattle.updater_law.specs.Facts.{TurnTerms, TurnFacts}
use Rattle.updater_law.specs.TurnStages.{TurnStage, Resting, Counts}
use Rattle.updater_law.specs.TurnSteps.{TurnStep, leaves_line}
use Rattle.updater_law.specs.Lawful.{TurnLawful}

-- no node is held, and no line is open
pub record IsAlone (c : TurnTerms) (f : TurnFacts) : Type 0 where
  pub free : (n : ℕ) → f.held n ≡ false
  pub lines : (j : ℕ) → (f.line.state j ≡ empty_state) ⊎ (f.line.state j ≡ ready_state)
  pub beyond : (j : ℕ) → c.lines ≤ j → f.line.state j ≡ empty_state

-- The step leaves a ready line as it is, since its walk was turned back or its target has moved. With nothing else in
-- flight that doesn't come, as whoever knows the walk has to show.
abbrev pub Leaves : {c : TurnTerms} {f f' : TurnFacts} {s t : TurnStage} → TurnStep c f s f' t → Type 0
Leaves (leaves_line e) = Unit {0}
Leaves _ = ⊥

-- steps of the turn alone, of which none leaves a line
pub data LoneRun (c : TurnTerms) : TurnFacts → TurnStage → TurnFacts → TurnStage → Type 0 where
  starts : {f : TurnFacts} {s : TurnStage} → LoneRun c f s f s
  steps : {f f' f'' : TurnFacts} {s t u : TurnStage} → LoneRun c f s f' t → (k : TurnStep c f' t f'' u) →
      (Leaves k → ⊥) → LoneRun c f s f'' u

abbrev pub AreEmpty : TurnFacts → Type 0
AreEmpty f = (j : ℕ) → f.line.state j ≡ empty_state

-- each merged node below this one is worn, or has a stamp that the release doesn't allow
abbrev pub AreFreedTo : TurnTerms → TurnFacts → ℕ → Type 0
AreFreedTo c f n = (m : ℕ) → m < n → f.status m ≡ gone_status → (f.worn m ≡ true) ⊎ (c.release < f.stamp m)

-- A turn alone leaves every line empty, keeps the list, and frees each merged node that isn't worn and whose stamp
-- the release allows. At its end it knows whether no node is free.
pub record IsLoneTurn (c : TurnTerms) (f f' : TurnFacts) (none : Bool) : Type 0 where
  pub empty : AreEmpty f'
  pub freed : AreFreedTo c f' c.nodes
  pub listed : f'.listed ≡ f.listed
  pub anchor : f'.anchor ≡ f.anchor
  pub none_free : none ≡ true → (m : ℕ) → m < c.nodes → f'.status m ≢ free_status

abbrev pub LoneTurn : Type 0
LoneTurn = (c : TurnTerms) (f f' : TurnFacts) (n : ℕ) (none : Bool) → TurnLawful c f Resting → IsAlone c f →
    LoneRun c f Resting f' (Counts n none) → c.nodes ≤ n → IsLoneTurn c f f' none
