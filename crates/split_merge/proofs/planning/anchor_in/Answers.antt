use Rattle.std.proofs.Common.{◌≡◌, ℕ, ◌+◌, ◌*◌, List, [], ◌∷◌, slice_index, ap, ◌∙◌, arith}
use Rattle.pm_words.specs.Offsets.{slot_offset}
use Rattle.data_node.specs.Spots.{name_words}
use Rattle.split_merge.specs.Plans.{spot_of, anchor_of}
use Rattle.split_merge.proofs.planning.anchor_in.Goals as goal

-- the words as the code finds them
in_place : (full : List ℕ) (slot : ℕ) → slice_index full (16 + 4 * slot) ∷ slice_index full (16 + 4 * slot + 1) ∷ slice_index full (16 + 4 * slot + 2) ∷ [] ≡ name_words (spot_of full) slot
in_place full slot = let place : 16 + 4 * slot ≡ slot_offset slot 0 = omega arith in λ i. slice_index full (place i) ∷ slice_index full (16 + 4 * slot + 1) ∷ slice_index full (16 + 4 * slot + 2) ∷ []

pub returns : goal.returns
returns c = c.name_or_some.ensures ∙ ap anchor_of (in_place c.args.full.now c.args.slot)
