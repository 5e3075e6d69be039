use Rattle.std.proofs.Common.{arith}
use Rattle.std.proofs.lemmas.Result.{err_from_is_err_and}
use Rattle.crowd_rounds.specs.core_rounds.proofs.Restarting.{restarts_few}
use Rattle.catalog_cli.proofs.RunEnds.{can-be-played, not-opened}
use Rattle.catalog_cli.proofs.run_file.open_for.Goals as goal

pub overflow_add-generation : goal.overflow_add-generation
overflow_add-generation c =
    let fits = c.in_ok-core.ensures.next.fits in
    let read = c.word-generation.ensures in
    let counted = c.restarts.ensures in
    let few = c.requires in
    omega (arith, fits, read, counted, few, restarts_few c.args.plans.now)

pub returns-in_err-core-clause-refused : goal.returns-in_err-core-clause-refused
returns-in_err-core-clause-refused c =
    let p = err_from_is_err_and c.from_residual.result c.from_residual.ensures.1 in
    rw (p.1, p.2) (λ bytes. not-opened c.args.image bytes _ c.in_err-core.field-0.0 c.in_err-core.ensures)

pub returns-clause-openable : goal.returns-clause-openable
returns-clause-openable c =
    let early = c.if-generation-restarts.false in
    let counted = c.restarts.ensures in
    can-be-played c.args.image c.args.plans.now c.in_ok-core.core c.word-generation.result 16777216 c.in_ok-core.ensures c.word-generation.ensures (omega arith) (omega (arith, early, counted))
