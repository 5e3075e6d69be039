use Rattle.std.proofs.Common.{rules, ◌+◌, refl}
use Rattle.std.proofs.lemmas.Bool.{false≢true}
use Rattle.radix_nodes.specs.Cells.{children_of}
use Rattle.image_layer_rules.specs.Branches.{HasNoneFrom, IsNextFrom}
use Rattle.image_layer_rules.proofs.WrongLemmas.{two_told, one_told}
use Rattle.image_layer_rules.proofs.children.has_two.Goals as goal

pub returns-in_default-next_byte : goal.returns-in_default-next_byte
returns-in_default-next_byte c =
    let m = children_of c.args.cell.now in
    let first : IsNextFrom m 0 c.in-Some.one = search rules in
    let none : HasNoneFrom m (c.in-Some.one + 1) = search rules in
    (λ yes. absurd (false≢true yes), λ two. absurd (one_told m c.in-Some.one first none two))

pub returns : goal.returns
returns c =
    let m = children_of c.args.cell.now in
    let first : IsNextFrom m 0 c.in-Some.one = search rules in
    let second : IsNextFrom m (c.in-Some.one + 1) c.in-Some-next_byte._two = search rules in
    (λ _. two_told m c.in-Some.one c.in-Some-next_byte._two first second, λ _. refl)
