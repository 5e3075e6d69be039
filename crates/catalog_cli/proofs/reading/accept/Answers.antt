use Rattle.std.proofs.lemmas.Result.{err_from_is_err_and}
use Rattle.catalog_cli.proofs.Outcomes.{unfit-refused}
use Rattle.catalog_cli.proofs.reading.accept.Goals as goal

pub returns-in_err-fits-clause-refused : goal.returns-in_err-fits-clause-refused
returns-in_err-fits-clause-refused c =
    let p = err_from_is_err_and c.from_residual.result c.from_residual.ensures.1 in
    rw (p.1, p.2) (λ bytes is. unfit-refused _ _ _ c.in_err-fits.field-0.0 is c.in_err-fits.ensures.unfit)
