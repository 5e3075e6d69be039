use Rattle.std.proofs.Common.{ℕ, [], ◌∷◌, List, arith}
use Rattle.std.specs.FinMap.{empty, len-empty}
use Rattle.cat_key.specs.Names.{name_cmp}
use Rattle.shapes.specs.Weights.{IsShape}
use Rattle.shapes.proofs.Shapes.{fresh_is_shape}
use Rattle.member_map.specs.Members.{AreMembers}
use Rattle.member_map.proofs.OrderedPairs.{none-in-order}
use Rattle.member_map.proofs.map.MemberMap.new.Goals as goal

pub invariant_of-result : goal.invariant_of-result
invariant_of-result c =
    let slots = c.args.slots in
    let nodes = c.args.nodes in
    let empty_shape : IsShape slots nodes (empty {K = List ℕ} {X = ℕ} {R = name_cmp}) ([] ∷ []) = fresh_is_shape slots nodes empty c.requires.some (omega (arith, len-empty name_cmp ℕ)) in
    let members : AreMembers slots nodes [] [] = record { halves = c.requires.halves; in_order = none-in-order; shape = empty_shape } in (
      rw (c.in_ok-with_capacity.ensures.items, c.in_ok-with_capacity-2.ensures.items) members,
      record { for_pairs = c.in_ok-with_capacity.ensures.capacity; for_bounds = c.in_ok-with_capacity-2.ensures.capacity },
    )
