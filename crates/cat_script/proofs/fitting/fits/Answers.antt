use Rattle.std.proofs.Common.{sym, subst}
use Rattle.cat_script.specs.Fits.{IsFirstUnfit}
use Rattle.cat_script.proofs.FitLemmas.{unfit_told}
use Rattle.cat_script.proofs.fitting.fits.Goals as goal

pub returns-clause-first_unfit : goal.returns-clause-first_unfit
returns-clause-first_unfit c = λ line why first.
    unfit_told c.callers.result c.as_slice.result.now c.look_through.result c.look_through.ensures.fits.0 c.look_through.ensures.unfit line why
    (subst (λ n. IsFirstUnfit n c.as_slice.result.now line why) (sym c.callers.ensures) (subst (λ ls. IsFirstUnfit c.args.layout.callers ls line why) (sym c.as_slice.ensures) first))
