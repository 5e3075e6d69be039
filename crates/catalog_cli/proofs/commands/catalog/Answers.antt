use Rattle.catalog_cli.proofs.FileOutcomes.{finishes-on-file, tells-file, tells-run}
use Rattle.catalog_cli.proofs.Outcomes.{blames-no-steady, tells, finishes, finishes-generated, usage-exactly}
use Rattle.catalog_cli.specs.Headline.{Seen, seen}
use Rattle.catalog_cli.proofs.commands.catalog.Goals as goal

-- what is told of source and shelf
abbrev told : (g : _) → goal.After-run_command g → Seen
told g c =
    let ran = c.run_command.new in
    seen (g.S.Source.left c.args.script.now) (g.H.Shelf.files c.args.shelf.now) (g.H.Shelf.files ran.shelf) (g.S.Source.faults c.args.script.now) (g.S.Source.faults ran.script) (g.H.Shelf.faults c.args.shelf.now)
    (g.H.Shelf.faults ran.shelf)

pub returns-clause-run : goal.returns-clause-run
returns-clause-run g c =
    let ran = c.run_command in
    let cause = ran.ensures.cause in
    record {
      sink = ran.ensures.sink;
      files = ran.ensures.files;
      cause = cause;
      usage = usage-exactly _ (told g c) _ _ ran.result cause;
      refused = tells _ (told g c) _ _ _ _ ran.result ran.ensures.sink cause;
      accepted = finishes _ (told g c) _ _ ran.result cause;
      run_refused = tells-run _ (told g c) _ _ _ _ ran.result ran.ensures.sink cause;
      generated = finishes-generated _ (told g c) _ _ ran.result cause;
      file_refused = tells-file _ (told g c) _ _ _ _ ran.result ran.ensures.sink cause;
      file_done = finishes-on-file _ (told g c) _ _ ran.result cause;
    }

pub returns-clause-blames : goal.returns-clause-blames
returns-clause-blames g c =
    let ran = c.run_command in
    blames-no-steady _ _ _ _ _ _ _ (told g c) _ _ ran.result ran.ensures.source_stays_steady ran.ensures.sink_stays_steady ran.ensures.shelf_stays_steady ran.ensures.cause
