use Rattle.std.proofs.Common.{◌≡◌, ◌<◌, ℕ, get_or}
use Rattle.cat_history.specs.declared.op.Write.{Write}
use Rattle.transcript.proofs.places.stand_in_place.Given as goal

-- those so far stand in their places
abbrev pub invariant-loop-at : goal.invariant-loop-at
invariant-loop-at l = (k : ℕ) (d : ℕ × Write) → k < l.at → (get_or l.placed k d).0 ≡ k
