-- What calls of a caller come to: single tries, and calls that are repeated until they are answered or cut off.
use Rattle.std.specs.Prelude.{◌≡◌, ℕ, ◌+◌, ◌≤◌, List, length}
use Rattle.call_stages.specs.declared.once.Once.{Once}
use Rattle.call_stages.specs.declared.once.Once.TheVariants as once
use Rattle.call_stages.specs.declared.once.Placed.{Placed}
use Rattle.node_ops.specs.declared.part.PartWords.{PartWords}
use Rattle.updater.specs.declared.terms.Turned.{Turned}
use Rattle.index_core.specs.declared.party.CoreCall.{CoreCall}
use Rattle.index_core.specs.declared.party.CoreCall.TheVariants as call
use Rattle.pac_index.specs.declared.caller.Caller.{Caller}
use Rattle.pac_index.specs.declared.ended.Ended.{Ended}
use Rattle.pac_index.specs.declared.rule.Member.{Member}
use Rattle.pac_index.specs.declared.tried.Tried.{Tried}
use Rattle.pac_index.specs.declared.tried.TriedTurn.{TriedTurn}
use Rattle.pac_index.specs.Budgets.{TriedBack}
use Rattle.pac_index.specs.Callers.{IsAtRest, pins_of, seen_by, spare_of}
use Rattle.pac_index.specs.Calls.{Answers, OnTried, PartAnswers, own_of}
use Rattle.pac_index.specs.CutTurns.{IsCutTurn, IsCutTurnTry}
use Rattle.pac_index.specs.CutWrites.{IsCutWrite}
use Rattle.pac_index.specs.Cuts.{HasEnded, IsCutCall, IsCutTry, IsTried}
use Rattle.pac_index.specs.Ends.{AtLast, OnDone}
use Rattle.pac_index.specs.Turns.{MadeTurn, OnTurn, TurnHeld, TurnedAtLast}
use Rattle.pac_index.specs.Writes.{EndsSo, FoundFull, WriteBack}

-- One try: it was answered, and this holds of the answer, or it was cut off.
abbrev pub OnceComesTo : {T : Type 0} → (ℕ → Member → Once T → Member → Type 0) → CoreCall → Caller → Tried T → Caller →
    Type 0
OnceComesTo holds call old tried new =
    OnTried tried (λ answer. IsTried holds old answer new) (IsCutTry call old new)

-- One try of a call on one name, and of a part of a range scan.
abbrev pub TryComesTo : CoreCall → Caller → Tried Placed → Caller → Type 0
TryComesTo call old tried new = OnceComesTo (Answers call) call old tried new

abbrev pub PartTryComesTo : List ℕ → ℕ → Caller → Tried PartWords → Caller → Type 0
PartTryComesTo low count old tried new = OnceComesTo (PartAnswers low count) (call.Part low count) old tried new

-- A call that is repeated while it is turned back: it is done, and this holds of its last try, or it was cut off.
abbrev pub RepeatComesTo : {T : Type 0} → (ℕ → Member → Once T → Member → Type 0) → CoreCall → Caller → Ended T → Caller
    → Type 0
RepeatComesTo holds call old ended new = OnDone ended
    (λ value. HasEnded (AtLast (TriedBack holds old.index)
    (λ before after. holds old.index before (once.Done value) after)) old new)
    (IsCutCall (TriedBack holds old.index) call old new)

-- A get, and a part of a range scan.
abbrev pub GetComesTo : List ℕ → Caller → Ended Placed → Caller → Type 0
GetComesTo name old ended new = RepeatComesTo (Answers (call.Get name)) (call.Get name) old ended new

abbrev pub PartComesTo : List ℕ → ℕ → Caller → Ended PartWords → Caller → Type 0
PartComesTo low count old ended new =
    RepeatComesTo (PartAnswers low count) (call.Part low count) old ended new

-- A put or a delete that was answered so at its last try.
abbrev pub WriteAnswered : CoreCall → Caller → Once Placed → Caller → Type 0
WriteAnswered call old answer new = HasEnded
    (AtLast (WriteBack call old.index) (λ before after. Answers call old.index before answer after)) old new

-- A put or a delete: it was answered, or it is a put that found no room, or it was cut off.
abbrev pub WriteComesTo : ℕ → CoreCall → Caller → Ended Placed → Caller → Type 0
WriteComesTo parties call old ended new = EndsSo ended (λ answer. WriteAnswered call old answer new)
    (HasEnded (FoundFull call old.index) old new) (IsCutWrite parties call old new)

-- A delete: it is never full.
abbrev pub DelComesTo : ℕ → List ℕ → ℕ → Caller → Ended Placed → Caller → Type 0
DelComesTo parties name limit old ended new = EndsSo ended
    (λ answer. WriteAnswered (call.Del name limit) old answer new) ⊥
    (IsCutWrite parties (call.Del name limit) old new)

-- A call that was answered so has taken room for no more than the write that it placed, if it placed one.
abbrev pub TakesSpare : CoreCall → Caller → Once Placed → Caller → Type 0
TakesSpare call old answer new = spare_of old ≤ spare_of new + length (own_of old call answer)

-- So it is of one try, and of a put or a delete. What one takes that was cut off, it says itself.
abbrev pub TryTakesSpare : CoreCall → Caller → Tried Placed → Caller → Type 0
TryTakesSpare call old tried new = OnTried tried (λ answer. TakesSpare call old answer new) (Unit {0})

abbrev pub WriteTakesSpare : CoreCall → Caller → Ended Placed → Caller → Type 0
WriteTakesSpare call old ended new = EndsSo ended (λ answer. TakesSpare call old answer new)
    (spare_of old ≤ spare_of new) (Unit {0})

-- One try of a turn: it was made, or it found the updater lock taken and its party made no step on the epoch, or it was
-- cut off.
abbrev pub TurnTryComesTo : ℕ → Caller → TriedTurn → Caller → Type 0
TurnTryComesTo parties old tried new = OnTurn tried
    (λ turned epoch advanced. MadeTurn parties (seen_by old) (pins_of old) turned epoch advanced (seen_by new)
    (pins_of new))
    (λ word. TurnHeld word (seen_by old) (seen_by new) × (pins_of new ≡ pins_of old))
    (IsCutTurnTry parties old new)

-- The caller is at rest behind a try of a turn that wasn't cut off.
abbrev pub TurnTryRests : TriedTurn → Caller → Type 0
TurnTryRests tried new = OnTurn tried (λ turned epoch advanced. IsAtRest new) (λ word. IsAtRest new) (Unit {0})

-- A turn that is tried again while another party has the updater lock: it was made, and its caller is at rest, or it
-- was cut off.
abbrev pub TurnComesTo : ℕ → Caller → Ended Turned → Caller → Type 0
TurnComesTo parties old ended new = OnDone ended
    (λ turned. IsAtRest new × TurnedAtLast parties (seen_by old) (pins_of old) turned (seen_by new) (pins_of new))
    (IsCutTurn parties old new)
