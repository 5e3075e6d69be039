use Rattle.std.proofs.Common.{◌≡◌, ◌∙◌, List, [], ◌∷◌, length, map, take, refl, sym, ap, arith}
use Rattle.std.proofs.lemmas.Bool.{eq-eqb, eqb-true}
use Rattle.cat_key.specs.declared.Pair.{Pair}
use Rattle.cat_history.specs.Scans.{range}
use Rattle.transcript.specs.Chains.{pair_of}
use Rattle.transcript.proofs.FirstPairs.{none_first}
use Rattle.transcript.proofs.RangeLemmas.{open_range, closed_range, no_range}
use Rattle.transcript.proofs.parts.lists_first.Goals as goal

pub returns-in_default : goal.returns-in_default
returns-in_default c = λ m is.
    let part = c.args.part.now in
    let found : map pair_of c.range.result ≡ range m part.low part.high =
    ap (map pair_of) (c.range.ensures.between tt) ∙ open_range m c.args.names.now.entries part.low is ∙ ap (range m part.low) (sym c.in_default.is) in
    let first = c.are_first.ensures in (
      λ yes. sym c.as_slice-pairs.ensures ∙ first.0 yes ∙ ap (take c.args.left) found,
      λ is_first. first.1 (c.as_slice-pairs.ensures ∙ is_first ∙ ap (take c.args.left) (sym found)),
    )

pub returns-then-lt : goal.returns-then-lt
returns-then-lt c = λ m is.
    let part = c.args.part.now in
    let found : map pair_of c.range-then-lt.result ≡ range m part.low part.high =
    ap (map pair_of) (c.range-then-lt.ensures.between tt) ∙ closed_range m c.args.names.now.entries part.low c.in-Some.high is ∙ ap (range m part.low) (sym c.in-Some.is) in
    let first = c.are_first-then-lt.ensures in (
      λ yes. sym c.as_slice-pairs.ensures ∙ first.0 yes ∙ ap (take c.args.left) found,
      λ is_first. first.1 (c.as_slice-pairs.ensures ∙ is_first ∙ ap (take c.args.left) (sym found)),
    )

pub returns-else-lt : goal.returns-else-lt
returns-else-lt c = λ m is.
    let part = c.args.part.now in
    let none : range m part.low part.high ≡ [] = ap (range m part.low) c.in-Some.is ∙ no_range m part.low c.in-Some.high (sym c.lt.ensures ∙ c.if-lt.false) in
    let found : take c.args.left (range m part.low part.high) ≡ [] = ap (take c.args.left) none ∙ none_first c.args.left in (
      λ yes. nothing part.pairs (ap length (sym c.as_slice-pairs.ensures) ∙ eqb-true (length c.as_slice-pairs.result.now) 0 (sym c.is_empty.ensures ∙ yes)) ∙ sym found,
      λ is_first. c.is_empty.ensures ∙ eq-eqb (length c.as_slice-pairs.result.now) 0 (ap length (c.as_slice-pairs.ensures ∙ is_first ∙ found)),
    )
  where
    nothing : (pairs : List Pair) → length pairs ≡ 0 → pairs ≡ []
    nothing [] none = refl
    nothing (pair ∷ pairs) none = absurd (omega arith)
