use Rattle.std.proofs.Common.{◌≡◌, ◌∙◌, ◌+◌, slice_get, ap, arith}
use Rattle.member_map.proofs.BoundLemmas.{next-begins, place_of}
use Rattle.member_map.proofs.bounds.next_bound.Goals as goal

pub returns : goal.returns
returns c =
    let bounds = c.args.bounds.now in
    let name = c.args.name.now in
    let is = c.number_of.ensures.number in
    let place : c.number_of.result ≡ place_of bounds name + 0 = omega (arith, is) in
    c.bound_at.ensures ∙ ap (slice_get bounds) place ∙ next-begins bounds name 0 c.requires
