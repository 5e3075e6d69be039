-- Lines of the log that have the same words.
use Rattle.std.proofs.Common.{◌≡◌, ◌≢◌, ℕ, ◌+◌, ◌<◌, ◌≤◌, inl, inr, ⊎_elim, [], ◌∷◌, ◌∙◌, arith}
use Rattle.pm_words.specs.Offsets.{anchor_offset, state_offset, kind_offset, line_node_offset, left_offset}
use Rattle.pm_words.specs.Offsets.{spare_offset}
use Rattle.data_node.specs.Spots.{Spot}
use Rattle.data_node.specs.Lines.{IsEntry, IsFitLine}

-- one that says the same but for its state is of the same change
pub entry_alike : (nodes : ℕ) (s t : Spot) → t state_offset ≤ 2 → ((offset : ℕ) → offset ≢ state_offset → offset < 8 → t offset ≡ s offset) → IsEntry nodes s → IsEntry nodes t
entry_alike nodes s t small same is = record {
  state = small;
  kind =
      let kind = same kind_offset (λ z. omega arith) (omega arith) in
      ⊎_elim (λ one. inl (kind ∙ one)) (λ two. inr (kind ∙ two)) is.kind;
  node =
      let node = same line_node_offset (λ z. omega arith) (omega arith) in
      let low = is.node.0 in
      let high = is.node.1 in (omega arith, omega arith);
  name = is.name;
  is_name = is.is_name;
  anchor =
      (λ k. same anchor_offset (λ z. omega arith) (omega arith) k
      ∷ same (anchor_offset + 1) (λ z. omega arith) (omega arith) k
      ∷ same (anchor_offset + 2) (λ z. omega arith) (omega arith) k ∷ [])
      ∙ is.anchor;
  left = let left = same left_offset (λ z. omega arith) (omega arith) in let high = is.left in omega arith;
  zero = same spare_offset (λ z. omega arith) (omega arith) ∙ is.zero;
}

-- and one that says the same is in order as that one is
pub fit_alike : (nodes : ℕ) (s t : Spot) → ((offset : ℕ) → offset < 8 → t offset ≡ s offset) → IsFitLine nodes s → IsFitLine nodes t
fit_alike nodes s t same (inl empty) = inl (same state_offset (omega arith) ∙ empty)
fit_alike nodes s t same (inr is) =
    let state = same state_offset (omega arith) in
    let small = is.state in
    inr (entry_alike nodes s t (omega arith) (λ offset other within. same offset within) is)
