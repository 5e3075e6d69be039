-- What a put or a delete comes to that is made again until it takes place, with turns of the updater between its tries.
use Rattle.std.specs.Prelude.{◌≡◌, ℕ, zero, suc, ◌≤◌, Bool, true, length}
use Rattle.cat_history.specs.Maps.{map_of}
use Rattle.pm_words.specs.declared.again.Again.TheVariants.{LogFull, NoFree}
use Rattle.call_stages.specs.declared.once.Once.{Once}
use Rattle.call_stages.specs.declared.once.Once.TheVariants as once
use Rattle.call_stages.specs.declared.once.Placed.{Placed}
use Rattle.node_ops.specs.Asked.{name_asked}
use Rattle.updater.specs.declared.terms.Turned.{Turned}
use Rattle.index_core.specs.declared.party.CoreCall.{CoreCall}
use Rattle.index_core.specs.Answers.{FoundNoRoom}
use Rattle.index_core.specs.CoreCalls.{op_of}
use Rattle.pac_index.specs.declared.ended.Ended.{Ended}
use Rattle.pac_index.specs.declared.ended.Ended.TheVariants as ended
use Rattle.pac_index.specs.declared.rule.Member.{Member}
use Rattle.pac_index.specs.Calls.{Answers}
use Rattle.pac_index.specs.Ends.{HasOnlyRead, AtLast, EachIs, TurnedBack}
use Rattle.pac_index.specs.Turns.{HasMadeTurn}

-- How such a call ends: the first holds of the answer of its last try, the second where it is full, the third where it
-- was cut off.
abbrev pub EndsSo : Ended Placed → (Once Placed → Type 0) → Type 0 → Type 0 → Type 0
EndsSo (ended.Done placed) answered full cut = answered (once.Done placed)
EndsSo (ended.Spent clock) answered full cut = answered (once.Spent clock)
EndsSo ended.Full answered full cut = full
EndsSo ended.Cut answered full cut = cut

-- What a put or a delete did behind a try that was answered so: one turn of the updater where the try found none of its
-- caller's log lines EMPTY, or no node to split its own with, and nothing elsewhere.
abbrev pub TurnsBehind : Once Placed → Member → Member → Type 0
TurnsBehind (once.Again LogFull) tried new = (turned : Turned) × HasMadeTurn turned tried new
TurnsBehind (once.Again NoFree) tried new = (turned : Turned) × HasMadeTurn turned tried new
TurnsBehind _ tried new = new ≡ tried

-- A try of a put or a delete that was turned back, with what came behind it.
abbrev pub WriteBack : CoreCall → ℕ → Member → Member → Type 0
WriteBack call index old new = TurnedBack (Answers call index) TurnsBehind old new

-- A try found no node to split its own with, and behind it its caller made a turn of the updater, which told whether it
-- found none FREE.
pub record TurnedForRoom (call : CoreCall) (index : ℕ) (none_free : Bool) (old new : Member) : Type 0 where
  pub tried : Member
  pub refused : Answers call index old (once.Again NoFree) tried
  pub turned : Turned
  pub turn : HasMadeTurn turned tried new
  pub told : turned.none_free ≡ none_free

-- So many tries found no node and have a turn behind each. The tries between them were turned back too.
abbrev pub HaveTurned : CoreCall → ℕ → ℕ → Member → Member → Type 0
HaveTurned call index zero old new = EachIs (WriteBack call index) old new
HaveTurned call index (suc turns) old new = (before : Member) × (none_free : Bool) ×
    HaveTurned call index turns old before ×
    AtLast (WriteBack call index) (TurnedForRoom call index none_free) before new

-- A put found no room. It placed nothing. At least four of its tries found no node to split their own with, and the
-- turn behind the last of them found none FREE, which the caller's view notes. After as many writes as a clock of the
-- put's time says, the map lacked its name and had at least as many names as a node has slots.
pub record FoundFull (call : CoreCall) (index : ℕ) (old new : Member) : Type 0 where
  pub reads : HasOnlyRead old new
  pub earlier : ℕ
  pub enough : 3 ≤ earlier
  pub before : Member
  pub turned : HaveTurned call index earlier old before
  pub last : AtLast (WriteBack call index) (TurnedForRoom call index true) before new
  pub none_free : new.none_free ≡ true
  pub room : FoundNoRoom old.about.layout.slots (map_of old.about.base) new.seen (length old.seen) (length new.seen)
      (name_asked (op_of call))
