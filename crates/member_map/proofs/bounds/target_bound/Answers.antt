use Rattle.std.proofs.Common.{[], ◌∙◌, get_or, ap}
use Rattle.member_map.specs.Members.{anchors_of}
use Rattle.member_map.proofs.BoundLemmas.{target-begins}
use Rattle.member_map.proofs.bounds.target_bound.Goals as goal

pub returns : goal.returns
returns c =
    let bounds = c.args.bounds.now in
    c.bound_of.ensures ∙ ap (λ k. get_or (anchors_of bounds) k []) c.number_of.ensures.number ∙ target-begins bounds c.args.name.now c.requires
