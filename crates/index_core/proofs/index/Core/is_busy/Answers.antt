use Rattle.std.proofs.Common.{sym, ◌∙◌}
use Rattle.index_core.proofs.index.Core.is_busy.Goals as goal

pub returns : goal.returns
returns c =
    let told = c.may_begin.ensures.in_flight in
    (λ yes. told.0 (sym c.is_err.ensures.value ∙ yes), λ busy. c.is_err.ensures.value ∙ told.1 busy)
