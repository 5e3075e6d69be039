use Rattle.catalog_cli.proofs.FileOutcomes.{left-then}
use Rattle.std.proofs.KnownBytes.{Keeps-refl}
use Rattle.catalog_cli.proofs.Outcomes.{ends-so, printed, printed-part, printed-named, writes-none}
use Rattle.catalog_cli.specs.Headline.{seen}
use Rattle.std.proofs.Common.{inr, ap}
use Rattle.std.specs.Prelude.{Err}
use Rattle.catalog_cli.proofs.commands.run_command.Goals as goal

pub returns-in-Ok-write_whole-clause-sink : goal.returns-in-Ok-write_whole-clause-sink
returns-in-Ok-write_whole-clause-sink g c = printed _ _ _ _ _ _ c.in-Ok.ensures.prints c.deref.ensures.value c.in-Ok-write_whole.ensures.whole

pub returns-in-Ok-write_whole-clause-cause : goal.returns-in-Ok-write_whole-clause-cause
returns-in-Ok-write_whole-clause-cause g c = printed-named _ _ _ c.in-Ok.ensures.prints

pub returns-in-Err-Failed-clause-sink : goal.returns-in-Err-Failed-clause-sink
returns-in-Err-Failed-clause-sink g c = printed-part _ _ _ _ _ _ c.in-Ok.ensures.prints c.deref.ensures.value c.in-Err-Failed.ensures.part

pub returns-in-Err-Failed-clause-cause : goal.returns-in-Err-Failed-clause-cause
returns-in-Err-Failed-clause-cause g c = (printed-named _ _ _ c.in-Ok.ensures.prints, c.in-Err-Failed.ensures.failed (ap Err c.in-Err-Failed.field-0-is))

pub returns-clause-sink : goal.returns-clause-sink
returns-clause-sink g c = inr (printed-part _ _ _ _ _ _ c.in-Ok.ensures.prints c.deref.ensures.value c.in-Err-NoMemory.ensures.part)

pub returns-clause-cause : goal.returns-clause-cause
returns-clause-cause g c = printed-named _ _ _ c.in-Ok.ensures.prints

pub returns-in-Err-Failed-clause-read_to_end : goal.returns-in-Err-Failed-clause-read_to_end
returns-in-Err-Failed-clause-read_to_end g c reads after = c.in-Ok.ensures.read_to_end reads

pub returns-clause-files : goal.returns-clause-files
returns-clause-files g c =
    let made = c.text_of.new in
    left-then _ (seen (g.S.Source.left c.args.script.now) (g.H.Shelf.files c.args.shelf.now) (g.H.Shelf.files made.shelf) (g.S.Source.faults c.args.script.now) (g.S.Source.faults made.script)
    (g.H.Shelf.faults c.args.shelf.now) (g.H.Shelf.faults made.shelf)) c.in-Ok.ensures.files

pub returns-in-Ok-write_whole-clause-read_to_end : goal.returns-in-Ok-write_whole-clause-read_to_end
returns-in-Ok-write_whole-clause-read_to_end g c reads after = c.in-Ok.ensures.read_to_end reads

pub returns-in-Err-clause-cause : goal.returns-in-Err-clause-cause
returns-in-Err-clause-cause g c =
    let made = c.text_of.new in
    let told = seen (g.S.Source.left c.args.script.now) (g.H.Shelf.files c.args.shelf.now) (g.H.Shelf.files made.shelf) (g.S.Source.faults c.args.script.now) (g.S.Source.faults made.script)
    (g.H.Shelf.faults c.args.shelf.now) (g.H.Shelf.faults made.shelf) in
    ends-so _ told _ c.in-Err.status c.in-Err.ensures.cause

pub returns-in-Err-clause-sink : goal.returns-in-Err-clause-sink
returns-in-Err-clause-sink g c =
    let made = c.text_of.new in
    let told = seen (g.S.Source.left c.args.script.now) (g.H.Shelf.files c.args.shelf.now) (g.H.Shelf.files made.shelf) (g.S.Source.faults c.args.script.now) (g.S.Source.faults made.script)
    (g.H.Shelf.faults c.args.shelf.now) (g.H.Shelf.faults made.shelf) in
    writes-none _ told _ c.in-Err.status c.in-Err.ensures.cause (Keeps-refl _)
