use Rattle.std.proofs.lemmas.Result.{err_from_is_err_and}
use Rattle.catalog_cli.proofs.Outcomes.{unfit-no-report, unread-no-report}
use Rattle.catalog_cli.proofs.commands.report_of.Goals as goal

pub returns-in_err-script-clause-refusal : goal.returns-in_err-script-clause-refusal
returns-in_err-script-clause-refusal g c =
    let p = err_from_is_err_and c.from_residual.result c.from_residual.ensures.1 in
    rw (p.1, p.2) (unread-no-report c.args.layout.callers _ _ _ c.in_err-script.field-0.0 c.in_err-script.ensures.refused)

pub returns-in_err-accept-clause-refusal : goal.returns-in_err-accept-clause-refusal
returns-in_err-accept-clause-refusal g c =
    let p = err_from_is_err_and c.from_residual-in_err-accept.result c.from_residual-in_err-accept.ensures.1 in
    let read = c.in_ok-script.ensures.script in
    rw (p.1, p.2) (unfit-no-report c.args.layout.callers _ _ _ read.0 c.in_err-accept.field-0.0 read.1 (c.in_err-accept.ensures.refused read.0 read.2))

pub play-requires-clause-accepted : goal.play-requires-clause-accepted
play-requires-clause-accepted g c κs lives =
    let read = c.in_ok-script.ensures.script in
    (read.0, c.in_ok-accept.ensures.accepted read.0 read.2)

pub returns-clause-report : goal.returns-clause-report
returns-clause-report g c =
    let done = c.in_ok-report.ensures.played in
    let read = c.in_ok-script.ensures.script in (
      read.0,
      read.1,
      record {
        script = c.in_ok-script.script;
        reports = c.in_ok-report.report;
        end = done.0;
        shape = done.1;
        accepted = c.in_ok-accept.ensures.accepted read.0 read.2;
        played = done.2;
        works = c.in_ok-report.ensures.works;
        told = c.in_ok-text.ensures.tells;
      },
    )
