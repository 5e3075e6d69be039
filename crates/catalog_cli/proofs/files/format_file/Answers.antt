use Rattle.std.proofs.lemmas.Result.{err_from_is_err_and}
use Rattle.catalog_cli.proofs.FileRuns.{kept-first}
use Rattle.catalog_cli.proofs.files.format_file.Goals as goal

pub returns-in_err-line-clause-refused : goal.returns-in_err-line-clause-refused
returns-in_err-line-clause-refused g c =
    let p = err_from_is_err_and c.from_residual.result c.from_residual.ensures.1 in
    rw (p.1, p.2) (kept-first (g.H.Shelf.files c.args.shelf.now))

pub returns-in_err-fresh-clause-refused : goal.returns-in_err-fresh-clause-refused
returns-in_err-fresh-clause-refused g c =
    let p = err_from_is_err_and c.from_residual-in_err-fresh.result c.from_residual-in_err-fresh.ensures.1 in
    rw (p.1, p.2) (kept-first (g.H.Shelf.files c.args.shelf.now))

pub returns-in_err-bytes-clause-refused : goal.returns-in_err-bytes-clause-refused
returns-in_err-bytes-clause-refused g c =
    let p = err_from_is_err_and c.from_residual-in_err-bytes.result c.from_residual-in_err-bytes.ensures.1 in
    rw (p.1, p.2) (kept-first (g.H.Shelf.files c.args.shelf.now))
