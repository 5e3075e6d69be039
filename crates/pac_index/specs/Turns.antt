-- Turns of the updater by a seat's party: what each step tells, and what a turn is answered.
use Rattle.std.specs.Prelude.{◌≡◌, ◌≢◌, ℕ, ◌+◌, ◌-◌, ◌<◌, List, [], ◌∷◌, ◌++◌, length, Option, Some, None}
use Rattle.std.specs.Prelude.{◌↔◌, ◌||◌, Bool, true, All, Result, MatchResult}
use Rattle.epochs.specs.declared.answers.Advance.{Advance}
use Rattle.epochs.specs.declared.rule.PinMember.{PinMember}
use Rattle.epochs.specs.Answers.{HasAdvanced, IsRefused, IsReleased}
use Rattle.epochs.specs.Kept.{first_epoch}
use Rattle.pm_words.specs.Codes.{free_status, untaken_lock}
use Rattle.pm_words.specs.declared.layout.Layout.{Layout}
use Rattle.pm_words.specs.declared.machine.Turn.{Turn}
use Rattle.pm_words.specs.declared.machine.Turn.TheVariants.{Go, Done}
use Rattle.pm_words.specs.Locations.{row_words}
use Rattle.pm_words.specs.Rows.{given, action_address}
use Rattle.updater.specs.declared.making.MakeTurn.{MakeTurn}
use Rattle.updater.specs.declared.making.MakeTurn.TheVariants.{Taking, Working}
use Rattle.updater.specs.declared.making.TurnReply.{TurnReply}
use Rattle.updater.specs.declared.making.TurnReply.TheVariants as reply
use Rattle.updater.specs.declared.terms.Turned.{Turned}
use Rattle.updater.specs.Makings.{IsMaking, making_from, making_asks, making_turned, making_takes, making_left, worked}
use Rattle.updater.specs.Works.{work_from, work_turned}
use Rattle.updater.specs.declared.work.Work.{Work}
use Rattle.pm_words.specs.Turns.{AdvancesTo, turn_of}
use Rattle.index_core.specs.PartyStates.{state_turned}
use Rattle.atomic_table.specs.Table.{Me}
use Rattle.pac_index.specs.declared.rule.Member.{Member}
use Rattle.pac_index.specs.declared.tried.TriedTurn.{TriedTurn}
use Rattle.pac_index.specs.declared.tried.TriedTurn.TheVariants as tried
use Rattle.pac_index.specs.Kept.{PlacesNone, LeftByStep, placed_by, party, IsLone}
use Rattle.pac_index.specs.Calls.{run_of}
use Rattle.pac_index.specs.Ends.{AtLast}

-- The turn of a party at this epoch, before its first action: it gives merged nodes the epoch as their stamp, and makes
-- those FREE whose stamp is two less, or lower.
abbrev pub turn_in : Member → ℕ → MakeTurn
turn_in v epoch = making_from v.about.layout v.about.generation epoch (epoch - 2)

-- Once it has the updater lock, before the next action.
abbrev pub work_in : Member → ℕ → MakeTurn
work_in v epoch = Working (work_from v.about.layout v.about.generation epoch (epoch - 2))

-- The party once it has begun its turn. It loads the epoch only once it has the lock, so until then its turn is one at
-- the first epoch, of which nothing comes.
abbrev pub turning : Member → Member
turning v = record v { state = record v.state { turn = Some (turn_in v first_epoch) }; told = [] }

-- The party once its turn, which has the lock, is one at this epoch.
abbrev pub turning_at : Member → ℕ → Member
turning_at v epoch = record v { state = record v.state { turn = Some (work_in v epoch) } }

-- Where it goes on, its fields keep their law, and its next action is on a word of the row.
abbrev pub TurnReady : Layout → Turn MakeTurn TurnReply → Type 0
TurnReady l (Go making) = IsMaking making × (action_address l (making_asks making) < row_words l)
TurnReady l (Done answer) = Unit {0}

-- Whether a party has found no node FREE, once its turn is answered so, and once it has made a step.
abbrev pub noted_in : Bool → TurnReply → Bool
noted_in noted (reply.Turned turned) = noted || turned.none_free
noted_in noted (reply.Held word) = noted

abbrev pub noted_by : Bool → Turn MakeTurn TurnReply → Bool
noted_by noted (Go making) = noted
noted_by noted (Done answer) = noted_in noted answer

-- What a step of a party's turn, which is told this number, leaves and shows.
pub record TurnGoes (making : MakeTurn) (v : Member) (x : ℕ) (w : Member) : Type 0 where
  pub takes : making_takes making x
  pub stepped : LeftByStep v x w
  pub state : w.state ≡ state_turned v.state (making_turned making x)
  pub added : w.added ≡ v.added
  pub none_free : w.none_free ≡ noted_by v.none_free (making_turned making x)
  pub known : w.known ≡ v.known
  pub own : placed_by v.state.caller w.seen ≡ placed_by v.state.caller v.seen
  pub ready : TurnReady v.about.layout (making_turned making x)

-- A step of the turn that is in flight.
abbrev pub TellsTurn : Me (Unit {0}) (List Member) → ℕ → Me (Unit {0}) (List Member) → Type 0
TellsTurn me found after = (making : MakeTurn) → (party me).state.turn ≡ Some making → IsLone after ×
    TurnGoes making (party me) (given (making_asks making) found) (party after)

-- The first step of a turn.
abbrev pub StartsTurn : Me (Unit {0}) (List Member) → ℕ → Me (Unit {0}) (List Member) → Type 0
StartsTurn me found after = IsLone after × TurnGoes (turn_in (party me) first_epoch) (turning (party me))
    (given (making_asks (turn_in (party me) first_epoch)) found) (party after)

-- The first step of a turn under the lock, which has its epoch from then on.
abbrev pub StartsWork : ℕ → Me (Unit {0}) (List Member) → ℕ → Me (Unit {0}) (List Member) → Type 0
StartsWork epoch me found after = IsLone after × TurnGoes (work_in (party me) epoch) (turning_at (party me) epoch)
    (given (making_asks (work_in (party me) epoch)) found) (party after)

-- The first number that a turn is told is what its exchange found at the updater lock: no party's word where it was
-- done, and where it was refused another, which it answers and with which it ended.
abbrev pub FoundLock : List ℕ → TurnReply → Type 0
FoundLock told (reply.Turned turned) = (rest : List ℕ) × (told ≡ untaken_lock ∷ rest)
FoundLock told (reply.Held word) = (told ≡ word ∷ []) × (word ≢ untaken_lock)

-- A turn that goes on has taken the lock, which no party had.
abbrev pub IsUnderLock : MakeTurn → Type 0
IsUnderLock (Taking terms) = ⊥
IsUnderLock (Working work) = Unit {0}

abbrev pub HasLock : List ℕ → Turn MakeTurn TurnReply → Type 0
HasLock told (Go making) = IsUnderLock making × ((rest : List ℕ) × (told ≡ untaken_lock ∷ rest))
HasLock told (Done answer) = FoundLock told answer

-- How far a turn at this epoch is: it places no write.
pub record TurnRuns (epoch : ℕ) (old : Member) (turn : Turn MakeTurn TurnReply) (new : Member) : Type 0 where
  pub leaves : PlacesNone old new
  pub state : new.state ≡ state_turned old.state turn
  pub ran : run_of making_turned (Go (turn_in old epoch)) new.told ≡ turn
  pub lock : HasLock new.told turn
  pub none_free : new.none_free ≡ noted_by old.none_free turn
  pub ready : TurnReady old.about.layout turn

-- Among the numbers that a turn was told stand the statuses of all nodes, from the first to the last, and it answers
-- that it found none FREE exactly where none of them is.
pub record FoundStatuses (l : Layout) (none_free : Bool) (told : List ℕ) : Type 0 where
  pub before : List ℕ
  pub statuses : List ℕ
  pub rest : List ℕ
  pub is : told ≡ before ++ statuses ++ rest
  pub all : length statuses ≡ l.nodes
  pub none : (none_free ≡ true) ↔ All (λ status. status ≢ free_status) statuses

-- What an answer says of the statuses that the turn was told. A turn that was refused was told none.
abbrev pub TellsOfFree : Layout → List ℕ → TurnReply → Type 0
TellsOfFree l told (reply.Turned turned) = FoundStatuses l turned.none_free told
TellsOfFree l told (reply.Held word) = Unit {0}

-- What a turn at this epoch is answered: what its machine ends with on the numbers that its steps on the table gave, of
-- which the caller's count of steps tells how many there were. The caller has seen a longer history, with no more
-- writes of its own, and has counted no call.
pub record TurnAnswers (epoch : ℕ) (old : Member) (answer : TurnReply) (new : Member) : Type 0 where
  pub leaves : PlacesNone old new
  pub state : new.state ≡ record old.state { turn = None }
  pub ran : run_of making_turned (Go (turn_in old epoch)) new.told ≡ Done answer
  pub lock : FoundLock new.told answer
  pub free : TellsOfFree old.about.layout new.told answer
  pub none_free : new.none_free ≡ noted_in old.none_free answer

-- One that was made, at some epoch.
abbrev pub HasTurned : Turned → Member → Member → Type 0
HasTurned turned old new = (epoch : ℕ) × TurnAnswers epoch old (reply.Turned turned) new

-- What a turn is answered that found the updater lock taken: it is so at whichever epoch.
abbrev pub TurnHeld : ℕ → Member → Member → Type 0
TurnHeld word old new = (epoch : ℕ) → TurnAnswers epoch old (reply.Held word) new

-- A try of a turn that is made again: it found the updater lock taken.
abbrev pub FoundHeld : Member → Member → Type 0
FoundHeld old new = (word : ℕ) × TurnHeld word old new

-- One turn that was made, after tries that found the updater lock taken.
abbrev pub HasMadeTurn : Turned → Member → Member → Type 0
HasMadeTurn turned old new = AtLast FoundHeld (HasTurned turned) old new

-- A party tried once to advance the epoch, among so many parties, with this answer. Then it loaded the epoch, as this
-- number; so the release number that it read is two less.
pub record IsDated (parties : ℕ) (pins : PinMember) (epoch : ℕ) (advanced : Result ℕ Advance) (pins_now : PinMember) :
    Type 0 where
  pub between : PinMember
  pub advances : MatchResult advanced (HasAdvanced parties pins between) (IsRefused parties pins between)
  pub release : ℕ
  pub releases : IsReleased between pins_now (record { number = release })
  pub two_less : release + 2 ≡ epoch

-- What a turn is answered that was made: all that is said of one at this epoch, and its party dated it so, by its own
-- steps on the epoch. That it did so between the first step on the index, which took the updater lock, and the next one
-- no clause says, since none speaks of the order of steps on two tables.
pub record MadeTurn (parties : ℕ) (old : Member) (pins : PinMember) (turned : Turned) (epoch : ℕ)
    (advanced : Result ℕ Advance) (new : Member) (pins_now : PinMember) : Type 0 where
  pub answers : TurnAnswers epoch old (reply.Turned turned) new
  pub dated : IsDated parties pins epoch advanced pins_now

-- What a try of a turn comes to: the first holds of the answer where it was made, the second of the word where it found
-- the updater lock taken, the last where it was cut off.
abbrev pub OnTurn : TriedTurn → (Turned → ℕ → Result ℕ Advance → Type 0) → (ℕ → Type 0) → Type 0 → Type 0
OnTurn (tried.Turned turned epoch advanced) made held cut = made turned epoch advanced
OnTurn (tried.Held word) made held cut = held word
OnTurn tried.Cut made held cut = cut

-- A turn that was tried until it was made: each of its tries but the last found the updater lock taken, and until then
-- its party made no step on the epoch.
pub record TurnedAtLast (parties : ℕ) (old : Member) (pins : PinMember) (turned : Turned) (new : Member)
    (pins_now : PinMember) : Type 0 where
  pub epoch : ℕ
  pub advanced : Result ℕ Advance
  pub last : AtLast FoundHeld (λ before after. MadeTurn parties before pins turned epoch advanced after pins_now) old
      new

-- For how many actions a turn may go on.
abbrev pub actions_left : Turn MakeTurn TurnReply → ℕ
actions_left (Go making) = making_left making + 1
actions_left (Done answer) = 0

-- A step of the turn in flight, which has the updater lock, leaves its work so, or it was answered.
pub record WorkStepsOn (work : Work) (v w : Member) (next : Work) (answer : Option Turned) : Type 0 where
  pub told : ℕ
  pub goes : TurnGoes (Working work) v told w
  pub turned : AdvancesTo (work_turned work told) next answer
  pub fewer : actions_left (worked (turn_of next answer)) < actions_left (Go (Working work))
