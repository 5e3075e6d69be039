use Rattle.std.proofs.Common.{ℕ, ◌+◌, ◌≤◌, sym, subst, ap, ◌∙◌, arith}
use Rattle.pm_words.specs.declared.machine.Turn.{Turn}
use Rattle.pm_words.specs.declared.machine.Turn.TheVariants.{Go, Done}
use Rattle.pm_words.specs.Turns.{GoesBelow}
use Rattle.pm_words.specs.Fences.{fence_next}
use Rattle.smo_log.specs.Opens.{open_left}
use Rattle.split_merge.specs.declared.joining.Join.{Join}
use Rattle.split_merge.specs.Unions.{joined_end}
use Rattle.split_merge.specs.Joins.{IsJoinAt, joins_on, after_open, after_copy, after_copies, join_at_left, join_left}
use Rattle.split_merge.proofs.JoinMeasures.{open_fewer, copy_fewer, copies_fewer}
use Rattle.split_merge.proofs.joining.JoinMachine.resume.Goals as goal

-- fewer than a number are fewer than a greater one
wider : (turn : Turn Join (Unit {0})) (few many : ℕ) → few ≤ many → GoesBelow {A = Unit {0}} join_left few turn → GoesBelow {A = Unit {0}} join_left many turn
wider (Go join) few many le below = omega arith
wider (Done answer) few many le below = tt

pub returns-in-Done-clause-fewer : goal.returns-in-Done-clause-fewer
returns-in-Done-clause-fewer c =
    let join = c.args.self in
    let turn = c.goes_to-in-Done.ensures ∙ ap (joins_on join) c.after_open.ensures in
    subst (GoesBelow {A = Unit {0}} join_left (join_left join)) (sym turn)
    (subst (λ n. GoesBelow {A = Unit {0}} join_left n (joins_on join (after_open join.union))) (sym (ap (join_at_left join.union) c.in-Open.is))
    (wider (joins_on join (after_open join.union)) 2000 (open_left c.in-Open.open + 2000) (omega arith) (open_fewer join)))

pub returns-in-Copy-clause-fewer : goal.returns-in-Copy-clause-fewer
returns-in-Copy-clause-fewer c =
    let join = c.args.self in
    let here = subst (IsJoinAt join.union) c.in-Copy.is c.requires.0.here in
    let turn = c.goes_to-in-Copy.ensures ∙ ap (joins_on join) c.after_copy.ensures in
    subst (GoesBelow {A = Unit {0}} join_left (join_left join)) (sym turn)
    (subst (λ n. GoesBelow {A = Unit {0}} join_left n (joins_on join (after_copy c.in-Copy.left c.in-Copy.word))) (sym (ap (join_at_left join.union) c.in-Copy.is))
    (copy_fewer join c.in-Copy.left c.in-Copy.word c.requires.0.union here.0 here.1))

pub returns-in-FenceCopies-clause-fewer : goal.returns-in-FenceCopies-clause-fewer
returns-in-FenceCopies-clause-fewer c =
    let join = c.args.self in
    let here = subst (IsJoinAt join.union) c.in-FenceCopies.is c.requires.0.here in
    let most : joined_end join.union ≤ 272 = (let high = c.requires.0.union.layout.slots.1 in omega arith) in
    let turn = c.goes_to-in-FenceCopies.ensures ∙ ap (joins_on join) (c.after_copies.ensures ∙ ap (after_copies join.union c.in-FenceCopies.first) c.next.ensures) in
    subst (GoesBelow {A = Unit {0}} join_left (join_left join)) (sym turn)
    (subst (λ n. GoesBelow {A = Unit {0}} join_left n (joins_on join (after_copies join.union c.in-FenceCopies.first (fence_next c.in-FenceCopies.fence c.args.got)))) (sym (ap (join_at_left join.union) c.in-FenceCopies.is))
    (copies_fewer join c.in-FenceCopies.first c.in-FenceCopies.fence c.args.got here.0 most here.3))
