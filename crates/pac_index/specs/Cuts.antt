-- What a call leaves of its caller that was answered, and one that was cut off.
use Rattle.std.specs.Prelude.{◌≡◌, ◌⊎◌, ℕ, ◌+◌, ◌≤◌, List, length, Option, Some, IfSome}
use Rattle.cat_history.specs.Records.{change_of}
use Rattle.cat_history.specs.declared.op.Write.{Write}
use Rattle.call_stages.specs.declared.once.Once.{Once}
use Rattle.index_core.specs.declared.party.CoreCall.{CoreCall}
use Rattle.index_core.specs.CoreCalls.{op_of}
use Rattle.index_core.specs.PartyStates.{next_index}
use Rattle.pac_index.specs.declared.caller.Caller.{Caller}
use Rattle.pac_index.specs.declared.caller.CutCall.{CutCall}
use Rattle.pac_index.specs.declared.rule.Member.{Member}
use Rattle.pac_index.specs.declared.tried.Tried.{Tried}
use Rattle.pac_index.specs.declared.tried.Tried.TheVariants as tried
use Rattle.pac_index.specs.declared.tried.TriedTurn.{TriedTurn}
use Rattle.pac_index.specs.declared.tried.TriedTurn.TheVariants as turn
use Rattle.pac_index.specs.Budgets.{CutsOff, Pays, StopsAt, place_in}
use Rattle.pac_index.specs.Callers.{IsAtRest, seen_by, spare_of}
use Rattle.pac_index.specs.Calls.{counted_index, own_at}
use Rattle.pac_index.specs.Ends.{AtLast}
use Rattle.pac_index.specs.Pinned.{Pinned, WasPinned}

-- A caller's budget falls by just the steps that it makes on the words of the index.
abbrev pub HasPaid : Caller → Caller → Type 0
HasPaid old new = Pays old.left new.left (seen_by old).taken (seen_by new).taken

-- The write of a caller's call that was cut off, with its place, if it has one.
abbrev pub own_cut : Caller → CoreCall → Caller → List (ℕ × Write)
own_cut old call new = own_at old.number old.index (change_of (op_of call)) (place_in new.cut)

-- What a try leaves of its caller that was answered: it is at rest, has counted a call that isn't made again, and gave
-- back the pin that it took.
pub record IsTried {T : Type 0} (holds : ℕ → Member → Once T → Member → Type 0) (old : Caller) (answer : Once T)
    (new : Caller) : Type 0 where
  pub rests : IsAtRest new
  pub index : new.index ≡ counted_index old.index answer
  pub pinned : Pinned (holds old.index) old answer new

-- A try was cut off behind a step. Its caller tells so, and has given its pin back.
pub record StopsTry (call : CoreCall) (old new : Caller) : Type 0 where
  pub place : Option ℕ
  pub stops : StopsAt call old.index (seen_by old) place (seen_by new)
  pub tells : new.cut ≡ Some (record { call = call; index = old.index; place = place })
  pub pinned : WasPinned old new

-- A try was cut off. Its caller has no step left: as the try began, so that nothing has changed, or behind a step.
pub record IsCutTry (call : CoreCall) (old new : Caller) : Type 0 where
  pub spent : new.left ≡ Some 0
  pub index : new.index ≡ old.index
  pub cut : (new ≡ old) ⊎ StopsTry call old new
  pub spare : spare_of old ≤ spare_of new + length (own_cut old call new)

-- A caller without a step left is answered that its try was cut off, and nothing of it changes.
abbrev pub IsStoppedTry : {T : Type 0} → Caller → Tried T → Caller → Type 0
IsStoppedTry old answer new = old.left ≡ Some 0 → (answer ≡ tried.Cut) × (new ≡ old)

-- So it is with a try of a turn.
abbrev pub IsStoppedTurn : Caller → TriedTurn → Caller → Type 0
IsStoppedTurn old answer new = old.left ≡ Some 0 → (answer ≡ turn.Cut) × (new ≡ old)

-- What a call leaves of its caller that has ended, and isn't made again.
pub record HasEnded (holds : Member → Member → Type 0) (old new : Caller) : Type 0 where
  pub rests : IsAtRest new
  pub index : new.index ≡ next_index old.index
  pub ends : holds (seen_by old) (seen_by new)

-- It was cut off within a try, behind those that were turned back. Its caller tells of no other call.
pub record IsCutWithin (back : Member → Member → Type 0) (call : CoreCall) (old new : Caller) : Type 0 where
  pub last : AtLast back (λ before after. CutsOff call old.index before (place_in new.cut) after) (seen_by old)
      (seen_by new)
  pub tells : IfSome new.cut (λ (cut : CutCall). (cut.call ≡ call) × (cut.index ≡ old.index))

-- A call was cut off that is tried again while it is turned back. Its caller has no step left: as the call began, so
-- that nothing has changed, or within a try.
pub record IsCutCall (back : Member → Member → Type 0) (call : CoreCall) (old new : Caller) : Type 0 where
  pub spent : new.left ≡ Some 0
  pub index : new.index ≡ old.index
  pub cut : (new ≡ old) ⊎ IsCutWithin back call old new
  pub spare : spare_of old ≤ spare_of new + length (own_cut old call new)
