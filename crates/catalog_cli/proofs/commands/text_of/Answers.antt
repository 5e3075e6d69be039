use Rattle.std.proofs.Common.{ℕ, List, inl, inr, subst}
use Rattle.catalog_cli.specs.Files.{HasBytes, HasNoFile}
use Rattle.std.proofs.lemmas.Result.{err_from_is_err_and, IfOk-weaker, IfErr-weaker}
use Rattle.catalog_cli.specs.Headline.{seen}
use Rattle.catalog_cli.specs.Headline.Prints.{reports, sums_up, makes_file, lists_words}
use Rattle.cat_command.specs.Commands.{IsCommand}
use Rattle.catalog_cli.proofs.FileOutcomes.{not-run, not-told, run-not-of-words}
use Rattle.catalog_cli.proofs.Outcomes.{no-command, no-command-keeps, no-report, no-report-keeps, not-of-words}
use Rattle.catalog_cli.proofs.FileRuns.{kept-first}
use Rattle.catalog_cli.proofs.commands.text_of.Goals as goal

pub returns-in_err-text-in-Gen-clause-cause : goal.returns-in_err-text-in-Gen-clause-cause
returns-in_err-text-in-Gen-clause-cause g c =
    let p = err_from_is_err_and c.from_residual-in_err-text-in-Gen.result c.from_residual-in_err-text-in-Gen.ensures.1 in
    rw (p.1, p.2) (inl (inr (c.in-Gen.seed, c.in-Gen.count, c.in-Gen.callers, subst (IsCommand _) c.in-Gen.is c.in_ok-layout.ensures.command)))

pub returns-in-Play-clause-prints : goal.returns-in-Play-clause-prints
returns-in-Play-clause-prints g c =
    IfOk-weaker c.report_of.result _ _ (λ text is. reports c.in-Play.layout is.0 (subst (IsCommand _) c.in-Play.is c.in_ok-layout.ensures.command) is.1 is.2) c.report_of.ensures.report

pub returns-in-Play-clause-nothing_read : goal.returns-in-Play-clause-nothing_read
returns-in-Play-clause-nothing_read g c =
    IfErr-weaker c.report_of.result _ _ (λ status cause of_words. absurd (not-of-words _ _ _ _ status cause of_words)) c.report_of.ensures.refusal

pub returns-in_ok-text-in-Gen-clause-prints : goal.returns-in_ok-text-in-Gen-clause-prints
returns-in_ok-text-in-Gen-clause-prints g c =
    sums_up _ _ _ (subst (IsCommand _) c.in-Gen.is c.in_ok-layout.ensures.command) c.in_ok-text-in-Gen.ensures

pub returns-in-Format-clause-prints : goal.returns-in-Format-clause-prints
returns-in-Format-clause-prints g c =
    IfOk-weaker c.format_file.result _ _ (λ text line.
    makes_file c.in-Format.layout (subst (IsCommand _) c.in-Format.is c.in_ok-layout.ensures.command) (subst (HasNoFile (g.H.Shelf.files c.args.shelf.now)) c.file_of.ensures line.0) line.1) c.format_file.ensures.line

pub returns-in-Words-clause-prints : goal.returns-in-Words-clause-prints
returns-in-Words-clause-prints g c =
    IfOk-weaker c.list_words.result _ _ (λ text told.
    lists_words c.in-Words.from c.in-Words.count told.0 (subst (IsCommand _) c.in-Words.is c.in_ok-layout.ensures.command)
    (subst (λ (name : List ℕ). HasBytes (g.H.Shelf.files c.args.shelf.now) name told.0) c.file_of-in-Words.ensures told.1) told.2 told.3) c.list_words.ensures.lines

pub returns-in-Words-clause-cause : goal.returns-in-Words-clause-cause
returns-in-Words-clause-cause g c =
    IfErr-weaker c.list_words.result _ _ (λ status refused.
    not-told _ (seen _ _ (g.H.Shelf.files c.list_words.new.shelf) _ _ _ _) c.in-Words.from c.in-Words.count _ status (subst (IsCommand _) c.in-Words.is c.in_ok-layout.ensures.command) c.file_of-in-Words.ensures refused) c.list_words.ensures.refused

pub returns-in-Run-clause-cause : goal.returns-in-Run-clause-cause
returns-in-Run-clause-cause g c =
    IfErr-weaker c.run_file.result _ _ (λ status refused.
    not-run _ (seen _ _ (g.H.Shelf.files c.run_file.new.shelf) _ _ _ _) _ status (subst (IsCommand _) c.in-Run.is c.in_ok-layout.ensures.command) c.file_of-in-Run.ensures refused) c.run_file.ensures.refused

pub returns-in-Run-clause-nothing_read : goal.returns-in-Run-clause-nothing_read
returns-in-Run-clause-nothing_read g c =
    IfErr-weaker c.run_file.result _ _ (λ status refused of_words. absurd (run-not-of-words _ _ _ _ _ _ _ status refused of_words)) c.run_file.ensures.refused

pub returns-in_err-layout-clause-cause : goal.returns-in_err-layout-clause-cause
returns-in_err-layout-clause-cause g c =
    let p = err_from_is_err_and c.from_residual.result c.from_residual.ensures.1 in
    let files = g.H.Shelf.files c.args.shelf.now in
    rw (p.1, p.2) (no-command _ (seen (g.S.Source.left c.args.script.now) files files (g.S.Source.faults c.args.script.now) (g.S.Source.faults c.args.script.now)
    (g.H.Shelf.faults c.args.shelf.now) (g.H.Shelf.faults c.args.shelf.now)) c.in_err-layout.field-0.0 c.in_err-layout.ensures.refused)

pub returns-in_err-layout-clause-files_then : goal.returns-in_err-layout-clause-files_then
returns-in_err-layout-clause-files_then g c =
    let p = err_from_is_err_and c.from_residual.result c.from_residual.ensures.1 in
    let files = g.H.Shelf.files c.args.shelf.now in
    rw (p.1, p.2) (no-command-keeps _ (seen (g.S.Source.left c.args.script.now) files files (g.S.Source.faults c.args.script.now) (g.S.Source.faults c.args.script.now)
    (g.H.Shelf.faults c.args.shelf.now) (g.H.Shelf.faults c.args.shelf.now)) c.in_err-layout.field-0.0 c.in_err-layout.ensures.refused (kept-first files))

pub returns-in-Play-clause-cause : goal.returns-in-Play-clause-cause
returns-in-Play-clause-cause g c =
    let files = g.H.Shelf.files c.args.shelf.now in
    let faults = g.H.Shelf.faults c.args.shelf.now in
    let told = seen (g.S.Source.left c.args.script.now) files files (g.S.Source.faults c.args.script.now) (g.S.Source.faults c.report_of.new.script) faults faults in
    IfErr-weaker c.report_of.result _ _ (λ status refusal.
    no-report _ c.in-Play.layout told status (subst (IsCommand _) c.in-Play.is c.in_ok-layout.ensures.command) refusal) c.report_of.ensures.refusal

pub returns-in-Play-clause-files_then : goal.returns-in-Play-clause-files_then
returns-in-Play-clause-files_then g c =
    let files = g.H.Shelf.files c.args.shelf.now in
    let faults = g.H.Shelf.faults c.args.shelf.now in
    let told = seen (g.S.Source.left c.args.script.now) files files (g.S.Source.faults c.args.script.now) (g.S.Source.faults c.report_of.new.script) faults faults in
    IfErr-weaker c.report_of.result _ _ (λ status refusal. no-report-keeps _ c.in-Play.layout.callers told status refusal (kept-first files)) c.report_of.ensures.refusal
