use Rattle.std.proofs.Common.{◌∙◌, ◌+◌, slice_get, ap}
use Rattle.member_map.proofs.BoundLemmas.{next-begins}
use Rattle.member_map.proofs.bounds.second_bound.Goals as goal

pub returns : goal.returns
returns c =
    let bounds = c.args.bounds.now in
    c.bound_at.ensures ∙ ap (λ k. slice_get bounds (k + 1)) c.number_of.ensures.number ∙ next-begins bounds c.args.name.now 1 c.requires
