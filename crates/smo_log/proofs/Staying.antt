-- A machine on a line goes on as one whose fields keep the same.
use Rattle.std.proofs.Common.{ℕ, ◌+◌, ◌^◌, ◌<◌}
use Rattle.pm_words.specs.declared.machine.Turn.{Turn}
use Rattle.pm_words.specs.declared.machine.Turn.TheVariants.{Go, Done}
use Rattle.smo_log.specs.declared.line.Entry.{Entry}
use Rattle.smo_log.specs.declared.take.Taken.{Taken}
use Rattle.smo_log.specs.declared.take.Take.{Take}
use Rattle.smo_log.specs.declared.open.Open.{Open}
use Rattle.smo_log.specs.declared.state.Ready.{Ready}
use Rattle.smo_log.specs.declared.read.LineSeen.{LineSeen}
use Rattle.smo_log.specs.declared.read.ReadLine.{ReadLine}
use Rattle.smo_log.specs.Takes.{IsTake, take_asks, take_turned, take_held, TakeNotes}
use Rattle.smo_log.specs.Opens.{IsOpen, open_asks, open_turned, open_held, OpenNotes}
use Rattle.smo_log.specs.States.{IsReady, ready_asks, ready_turned, ready_held, ReadyNotes}
use Rattle.smo_log.specs.Reads.{IsRead, read_asks, read_turned, ReadNotes}
pub use Rattle.smo_log.specs.Laws.{StaysSo}
use Rattle.smo_log.proofs.LineLaw.{takes_are_notes, opens_are_notes, readies_are_notes, reads_are_notes}

abbrev pub turn_left : {M A : Type 0} → (M → ℕ) → Turn M A → ℕ
turn_left left (Go machine) = left machine + 1
turn_left left (Done answer) = 0

pub take_stays : (take : Take) (x : ℕ) → IsTake take → x < 2 ^ 64 → StaysSo IsTake (take_turned take x)
take_stays take x sound fits = of (take_turned take x) (takes_are_notes take x sound fits)
  where
    of : (turn : Turn Take Taken) → TakeNotes take.layout take.caller (take_held take) (take_asks take) x turn → StaysSo IsTake turn
    of (Go next) is = is.1
    of (Done answer) is = tt

pub open_stays : (machine : Open) (x : ℕ) → IsOpen machine → x < 2 ^ 64 → StaysSo IsOpen (open_turned machine x)
open_stays machine x sound fits = of (open_turned machine x) (opens_are_notes machine x sound fits)
  where
    of : (turn : Turn Open (Unit {0})) → OpenNotes machine.layout machine.line machine.entry (open_held machine) (open_asks machine) x turn → StaysSo IsOpen turn
    of (Go next) is = is.1
    of (Done answer) is = tt

pub ready_stays : (ready : Ready) (entry : Entry) (x : ℕ) → IsReady ready → x < 2 ^ 64 → StaysSo IsReady (ready_turned ready x)
ready_stays ready entry x sound fits = of (ready_turned ready x) (readies_are_notes ready entry x sound fits)
  where
    of : (turn : Turn Ready (Unit {0})) → ReadyNotes ready.layout ready.line entry (ready_held entry ready) (ready_asks ready) x turn → StaysSo IsReady turn
    of (Go next) is = is.1
    of (Done answer) is = tt

pub read_stays : (read : ReadLine) (x : ℕ) → IsRead read → StaysSo IsRead (read_turned read x)
read_stays read x sound = of (read_turned read x) (reads_are_notes read x sound)
  where
    of : (turn : Turn ReadLine LineSeen) → ReadNotes read.layout read.line (read_asks read) x turn → StaysSo IsRead turn
    of (Go next) is = is.1
    of (Done seen) is = tt
