-- What a delete answers that looks for a log line, by the words that it was told.
use Rattle.std.specs.Prelude.{◌≡◌, ℕ, IfSome}
use Rattle.pm_words.specs.declared.again.Again.TheVariants.{LogFull}
use Rattle.pm_words.specs.declared.machine.Turn.{Turn}
use Rattle.pm_words.specs.declared.machine.Turn.TheVariants.{Go, Done}
use Rattle.call_stages.specs.declared.once.Once.{Once}
use Rattle.call_stages.specs.declared.once.Once.TheVariants as once
use Rattle.call_stages.specs.declared.once.Placed.{Placed}
use Rattle.smo_log.specs.declared.take.TakeAt.TheVariants as take_at
use Rattle.smo_log.specs.Laws.{NoneEmpty, HasLooked}
use Rattle.split_merge.specs.SplitEvents.{SomeEmpty}
use Rattle.node_ops.specs.declared.del.Del.{Del}
use Rattle.node_ops.specs.declared.del.Del.TheVariants.{Single, Merging}
use Rattle.node_ops.specs.declared.single_del.SingleDel.TheVariants.{Looking, Next, Taking, Refusing, Clearing}
use Rattle.node_ops.specs.declared.single_del.SingleDel.TheVariants.{Finishing}
use Rattle.node_ops.specs.DelSteps.{IsDel, del_turned}

-- What it has loaded so far of the states of its caller's lines is so: with a line, one of them was EMPTY.
abbrev pub DelHas : (ℕ → ℕ) → Del → Type 0
DelHas lines (Single (Looking lookup)) = Unit {0}
DelHas lines (Single (Next call hold bitmap hit)) = Unit {0}
DelHas lines (Single (Taking call hold bitmap hit take)) = HasLooked lines take.index take.at
DelHas lines (Single (Refusing call hold bitmap hit)) = NoneEmpty lines 8
DelHas lines (Single (Clearing call hold bitmap hit line)) = IfSome line (λ number. SomeEmpty lines)
DelHas lines (Single (Finishing finish line)) = IfSome line (λ number. SomeEmpty lines)
DelHas lines (Merging call hold old place merge) = SomeEmpty lines

-- The number that it is told next is one of these, if it loads a state of a line.
abbrev pub DelHearsSo : (ℕ → ℕ) → Del → ℕ → Type 0
DelHearsSo lines (Single (Taking call hold bitmap hit take)) x = take.at ≡ take_at.State → x ≡ lines take.index
DelHearsSo lines _ x = Unit {0}

-- It is answered that the log is full only where none of the lines was EMPTY.
abbrev pub DelTells : (ℕ → ℕ) → Once Placed → Type 0
DelTells lines (once.Again LogFull) = NoneEmpty lines 8
DelTells lines _ = Unit {0}

abbrev pub DelHeeds : (ℕ → ℕ) → Turn Del (Once Placed) → Type 0
DelHeeds lines (Go next) = DelHas lines next
DelHeeds lines (Done answer) = DelTells lines answer

-- A delete begins with nothing heard; each turn adds what it is told, and the answer follows from that.
abbrev pub DelsHeed : Type 0
DelsHeed = (del : Del) (lines : ℕ → ℕ) (x : ℕ) → IsDel del → DelHearsSo lines del x → DelHas lines del →
    DelHeeds lines (del_turned del x)
