-- What every turn of a machine of the updater is.
use Rattle.std.specs.Prelude.{◌≡◌, ℕ}
use Rattle.pm_words.specs.declared.machine.Turn.{Turn}
use Rattle.pm_words.specs.declared.machine.Turn.TheVariants.{Go, Done}
use Rattle.updater.specs.declared.terms.Terms.{Terms}
use Rattle.updater.specs.declared.terms.Turned.{Turned}
use Rattle.updater.specs.declared.work.Work.{Work}
use Rattle.updater.specs.Works.{IsWork, work_takes, work_turned}

-- It goes on as one of the same terms, whose fields keep the same.
abbrev pub WorkStays : Terms → Turn Work Turned → Type 0
WorkStays terms (Go work) = IsWork work × (work.terms ≡ terms)
WorkStays terms (Done answer) = Unit {0}

-- So does each turn, whatever it is told of what its action may give.
abbrev pub WorksStaySound : Type 0
WorksStaySound = (work : Work) (x : ℕ) → work_takes work x → WorkStays work.terms (work_turned work x)
