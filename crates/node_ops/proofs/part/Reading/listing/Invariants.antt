use Rattle.std.proofs.Common.{◌≡◌, ◌≤◌, take}
use Rattle.node_ops.specs.PartSteps.{listing_in}
use Rattle.node_ops.proofs.part.Reading.listing.Given as goal

-- it has listed of the slots that the loop has passed
abbrev pub invariant-loop-place : goal.invariant-loop-place
invariant-loop-place l = record {
  few : l.listing.len ≤ l.place;
  done : l.listing ≡ listing_in l.self (take l.place l.order.slots);
}
