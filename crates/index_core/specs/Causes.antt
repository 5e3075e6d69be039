-- Why a call was turned back, by the numbers that its own steps gave.
use Rattle.std.specs.Prelude.{◌≡◌, ◌≢◌, ℕ, ◌+◌, ◌-◌, ◌*◌, ◌⊎◌, List, [], ◌∷◌, ◌++◌, length, All, Contains}
use Rattle.pm_words.specs.Codes.{free_status, empty_state}
use Rattle.pm_words.specs.declared.again.Again.{Again}
use Rattle.pm_words.specs.declared.again.Again.TheVariants as again
use Rattle.pm_words.specs.declared.layout.Layout.{Layout}
use Rattle.version_lock.specs.Versions.{IsFree, IsWorn}
use Rattle.call_stages.specs.declared.once.Once.{Once}
use Rattle.call_stages.specs.declared.once.Once.TheVariants as once
use Rattle.call_stages.specs.declared.once.Placed.{Placed}

-- Of what it was told some part holds this.
pub record HasTold (told : List ℕ) (P : List ℕ → Type 0) : Type 0 where
  pub before : List ℕ
  pub part : List ℕ
  pub rest : List ℕ
  pub is : told ≡ before ++ (part ++ rest)
  pub holds : P part

-- It loaded the states of its caller's eight log lines, one after another, and none was EMPTY, whose number is 0.
abbrev pub FoundNoLine : List ℕ → Type 0
FoundNoLine told = HasTold told (λ states. (length states ≡ 8) × All (λ (state : ℕ). state ≢ empty_state) states)

-- Of so many nodes, one after another, it loaded the version word and the status. None is FREE, but for such as have no
-- lock left.
pub data AreInUse (g : ℕ) : List ℕ → ℕ → Type 0 where
  none_yet : AreInUse g [] 0
  one_more : {told : List ℕ} {n : ℕ} (version status : ℕ) → AreInUse g told n →
      (status ≢ free_status) ⊎ IsWorn version g → AreInUse g (told ++ version ∷ status ∷ []) (n + 1)

-- So it found each node but node 0, which is always listed.
abbrev pub FoundNoNode : Layout → ℕ → List ℕ → Type 0
FoundNoNode l g told = HasTold told (λ nodes. AreInUse g nodes (l.nodes - 1))

-- The cause of each answer that says to make the call again. Another party has the node: the call was given this
-- version word, which isn't free. The node has changed: it was given one version word, and another one, by a load or by
-- the exchange that was to take the lock. It made twice as many hops as there are nodes, which is where a walk gives
-- up. None of its caller's log lines was EMPTY; no node was FREE. Its node was full, and is split now. No call is
-- turned back by the updater's lock or by the epoch.
abbrev pub HasCause : Layout → ℕ → List ℕ → Again → Type 0
HasCause l g told (again.Locked node word) = Contains told word × (IsFree word g → ⊥)
HasCause l g told (again.Moved node first second) = Contains told first × Contains told second × (second ≢ first)
HasCause l g told (again.Hops count) = count ≡ 2 * l.nodes
HasCause l g told again.LogFull = FoundNoLine told
HasCause l g told again.NoFree = FoundNoNode l g told
HasCause l g told (again.NeedsSplit node) = Unit {0}
HasCause l g told (again.Held word) = ⊥
HasCause l g told (again.Epoch first second) = ⊥

-- That of an answer, where it is one of these. Of a worn node it loaded this version word, which has no lock left.
abbrev pub HasCauseIn : Layout → ℕ → List ℕ → Once Placed → Type 0
HasCauseIn l g told (once.Again why) = HasCause l g told why
HasCauseIn l g told (once.Worn node word) = Contains told word × IsWorn word g
HasCauseIn l g told _ = Unit {0}
