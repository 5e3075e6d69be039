use Rattle.std.proofs.Common.{◌≡◌, ℕ, ◌<◌, ◌-◌, ◌*◌, inl, inr, slice_index, slice_set, length-set, sym, ap, ◌∙◌, arith}
use Rattle.std.proofs.lemmas.Bool.{cases_eq}
use Rattle.std.proofs.lemmas.List.{get_or-set_same, get_or-set_other}
use Rattle.radix_nodes.specs.Keys.{first_bytes_of}
use Rattle.radix_nodes.proofs.KeyBytes.{prefix_bytes}
use Rattle.radix_nodes.proofs.key.prefix_of.Goals as goal

pub loop-at-preserved : goal.loop-at-preserved
loop-at-preserved c =
    let prefix = c.loop-at.prefix in
    let at = c.loop-at.at in
    let word = c.first_bytes.result in
    let key = slice_index c.args.key.now in
    let whole = c.loop-at.invariant.0 in
    let lt = c.loop-at-test.true in (
      length-set prefix at word ∙ whole,
      (λ k less. elim (cases_eq k at) [
        | inl same ↦
            ap (slice_index (slice_set prefix at word)) same ∙ get_or-set_same prefix at word 0 (omega arith)
            ∙ c.first_bytes.ensures ∙ ap (first_bytes_of (key at)) c.saturating_sub.ensures ∙ sym (ap (λ n. first_bytes_of (key n) (c.args.depth - 8 * n)) same)
        | inr other ↦ get_or-set_other prefix at k word 0 other ∙ c.loop-at.invariant.1 k (omega (arith, other))
      ]),
    )

pub returns : goal.returns
returns c =
    let past = c.loop-at-test.false in
    let each : (k : ℕ) → k < 3 → slice_index c.loop-at.prefix k ≡ first_bytes_of (slice_index c.args.key.now k) (c.args.depth - 8 * k) = λ k lt. c.loop-at.invariant.1 k (omega arith) in
    record { prefix = prefix_bytes c.args.depth (slice_index c.args.key.now) (slice_index c.loop-at.prefix) each; words = each }
