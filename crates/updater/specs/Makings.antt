-- A whole turn: the exchange of the updater lock, and the work under it.
use Rattle.std.specs.Prelude.{◌≡◌, ◌+◌, ◌^◌, ◌<◌, ◌==◌, if◌then◌else◌, ℕ}
use Rattle.pm_words.specs.declared.layout.Layout.{Layout}
use Rattle.pm_words.specs.declared.action.Action.{Action}
use Rattle.pm_words.specs.declared.machine.Turn.{Turn}
use Rattle.pm_words.specs.declared.machine.Turn.TheVariants.{Go, Done}
use Rattle.pm_words.specs.Codes.{untaken_lock}
use Rattle.call_stages.specs.Watches.{Nothing}
use Rattle.updater_row_law.specs.RowStages.{Resting}
use Rattle.updater_row_law.specs.Turnings.{Turning, TurnFoot}
use Rattle.updater.specs.declared.making.MakeTurn.{MakeTurn}
use Rattle.updater.specs.declared.making.MakeTurn.TheVariants.{Taking, Working}
use Rattle.updater.specs.declared.making.TurnReply.{TurnReply}
use Rattle.updater.specs.declared.making.TurnReply.TheVariants as reply
use Rattle.updater.specs.declared.terms.Terms.{Terms}
use Rattle.updater.specs.declared.terms.Turned.{Turned}
use Rattle.updater.specs.declared.work.Work.{Work}
use Rattle.updater.specs.Takings.{taking_asks}
use Rattle.updater.specs.Works.{IsTerms, IsWork, work_from, work_asks, work_turned, work_left, work_takes}
use Rattle.updater.specs.Steps.{row_terms}
use Rattle.updater.specs.Watches.{turning_at, work_turning}

-- it has these terms to its end
abbrev pub making_terms : MakeTurn → Terms
making_terms (Taking terms) = terms
making_terms (Working work) = work.terms

abbrev pub making_from : Layout → ℕ → ℕ → ℕ → MakeTurn
making_from layout generation stamp release =
    Taking (record { layout = layout; generation = generation; stamp = stamp; release = release })

abbrev pub making_asks : MakeTurn → Action
making_asks (Taking terms) = taking_asks terms.layout
making_asks (Working work) = work_asks work

-- it works if it found this word, that of a lock which no party has
abbrev pub lock_found : Terms → ℕ → Turn MakeTurn TurnReply
lock_found terms word =
    if word == untaken_lock then Go (Working (work_from terms.layout terms.generation terms.stamp terms.release))
    else Done (reply.Held word)

abbrev pub worked : Turn Work Turned → Turn MakeTurn TurnReply
worked (Go work) = Go (Working work)
worked (Done turned) = Done (reply.Turned turned)

abbrev pub making_turned : MakeTurn → ℕ → Turn MakeTurn TurnReply
making_turned (Taking terms) got = lock_found terms got
making_turned (Working work) got = worked (work_turned work got)

-- what its fields keep
abbrev pub IsMaking : MakeTurn → Type 0
IsMaking (Taking terms) = IsTerms terms
IsMaking (Working work) = IsWork work

abbrev pub making_takes : MakeTurn → ℕ → Type 0
making_takes (Taking terms) got = IsTerms terms × (got < 2 ^ 64)
making_takes (Working work) got = work_takes work got

-- how many actions it makes at most from here on
abbrev pub making_left : MakeTurn → ℕ
making_left (Taking terms) = work_left (work_from terms.layout terms.generation terms.stamp terms.release) + 1
making_left (Working work) = work_left work

-- The turn as the law of turns has it: until it has the lock, and once it is done, it rests.
abbrev pub making_turning : MakeTurn → Turning
making_turning (Taking terms) = turning_at (row_terms terms) Resting Nothing
making_turning (Working work) = work_turning work

abbrev pub turning_made : Terms → Turn MakeTurn TurnReply → Turning
turning_made terms (Go making) = making_turning making
turning_made terms (Done answer) = turning_at (row_terms terms) Resting Nothing

-- It goes on as one of the same terms, whose fields keep the same.
abbrev pub MakingStays : Terms → Turn MakeTurn TurnReply → Type 0
MakingStays terms (Go making) = IsMaking making × (making_terms making ≡ terms)
MakingStays terms (Done answer) = Unit {0}

abbrev pub MakingsStaySound : Type 0
MakingsStaySound = (making : MakeTurn) (x : ℕ) → making_takes making x →
    MakingStays (making_terms making) (making_turned making x)

-- Each turn of it, whatever it is told, is a step of the row and a watch at once.
abbrev pub MakingsAreFeet : Type 0
MakingsAreFeet = (making : MakeTurn) (x : ℕ) → making_takes making x →
    TurnFoot (row_terms (making_terms making)) (making_turning making) (making_asks making) x
    (turning_made (making_terms making) (making_turned making x))
