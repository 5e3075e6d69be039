use Rattle.std.proofs.Common.{◌≡◌, ◌+◌, length, get_or, set, sym, ◌∙◌, subst, arith}
use Rattle.std.proofs.lemmas.Bool.{eqb-true}
use mathlib.Core.Option.{some-injective}
use Rattle.pac_index.specs.declared.caller.PlacedWrite.{PlacedWrite}
use Rattle.pac_index.proofs.Gathered.{Filled, read_there, kept_within, fill_more, filled_all, none_kept}
use Rattle.pac_index.proofs.meeting.in_order.Goals as goal

pub returns-then-is_empty : goal.returns-then-is_empty
returns-then-is_empty c = λ h long are. c.new-history.ensures.items ∙ none_kept c.args.kept.now h (eqb-true (length c.args.kept.now) 0 (sym c.is_empty.ensures ∙ c.if-is_empty.true)) are

pub index_mut-requires : goal.index_mut-requires
index_mut-requires c =
    let h = c.requires.0 in
    let n = c.loop-number.number in
    let filled = c.loop-number.invariant h c.requires.1 c.requires.2 in
    let there = read_there c.args.kept.now n c.index-kept-number.result c.loop-number-test.true in
    let less = kept_within c.args.kept.now h n (get_or c.args.kept.now n c.index-kept-number.result) c.requires.2 there in
    let long = filled.long in
    omega (arith, c.loop-number.history.ok)

pub loop-number-preserved : goal.loop-number-preserved
loop-number-preserved c = λ h long are.
    let kept = c.args.kept.now in
    let n = c.loop-number.number in
    let filled = c.loop-number.invariant h long are in
    let first : PlacedWrite = get_or kept n c.index-kept-number.result in
    let second : PlacedWrite = get_or kept n c.index-kept-number-in-loop-number.result in
    let there = read_there kept n c.index-kept-number.result c.loop-number-test.true in
    let same : first ≡ second = some-injective first second (sym there ∙ read_there kept n c.index-kept-number-in-loop-number.result c.loop-number-test.true) in
    subst (λ (p : PlacedWrite). Filled kept (n + 1) h (set c.loop-number.history.items first.place p.write)) same (fill_more kept n h c.loop-number.history.items first are there filled)

pub returns : goal.returns
returns c = λ h long are.
    filled_all c.args.kept.now c.loop-number.number h c.loop-number.history.items are (omega (arith, c.loop-number-test.false, c.loop-number.auto.number-end)) (c.loop-number.invariant h long are)
