use Rattle.cat_script.proofs.FitLemmas.{fits_or_unfit, unfit_fits_not, one_unfit}
use Rattle.cat_script.proofs.laws.fit_law.Goals as goal

pub returns-clause-either : goal.returns-clause-either
returns-clause-either c = fits_or_unfit

pub returns-clause-no_fit : goal.returns-clause-no_fit
returns-clause-no_fit c = unfit_fits_not

pub returns-clause-one_unfit : goal.returns-clause-one_unfit
returns-clause-one_unfit c = one_unfit
