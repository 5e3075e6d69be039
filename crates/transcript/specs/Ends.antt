-- The map that a round leaves, by what its records say of the writes that a crash cut off.
use Rattle.std.specs.Prelude.{List, Option, None}
use Rattle.std.specs.List.{filter_map}
use Rattle.cat_history.specs.CrashEnds.{after_changes}
use Rattle.cat_history.specs.Maps.{Map}
use Rattle.cat_history.specs.Records.{change_asked}
use Rattle.cat_history.specs.Writes.{after_all}
use Rattle.cat_history.specs.declared.op.Change.{Change}
use Rattle.cat_history.specs.declared.op.Op.{Op}
use Rattle.cat_history.specs.declared.op.Write.{Write}
use Rattle.cat_history.specs.declared.record.CutMark.{CutMark}
use Rattle.cat_history.specs.declared.record.CutMark.TheVariants.{At, Open, Found, Lost, Read}
use Rattle.cat_history.specs.declared.record.Record.{Record}
use Rattle.cat_history.specs.declared.record.Reply.{Reply}
use Rattle.cat_history.specs.declared.record.Reply.TheVariants.{Old, Parts, Full, Spent, Cut, Unstarted}

-- The change of a call whose mark says that it was found.
abbrev pub change_marked : Op → CutMark → Option Change
change_marked op (At place) = None
change_marked op Open = None
change_marked op Found = change_asked op
change_marked op Lost = None
change_marked op Read = None

-- The change that a reply says was found.
abbrev pub change_found : Op → Reply → Option Change
change_found op (Old old place) = None
change_found op (Parts parts cut) = None
change_found op Full = None
change_found op (Spent clock) = None
change_found op (Cut mark) = change_marked op mark
change_found op Unstarted = None

-- The changes that were found, in the order of the records.
abbrev pub changes_found : List Record → List Change
changes_found told = filter_map (λ r. change_found r.op r.reply) told

-- The map after all placed writes, and after the changes that were found.
abbrev pub end_told : Map → List Record → List Write → Map
end_told base told writes = after_changes (after_all base writes) (changes_found told)
