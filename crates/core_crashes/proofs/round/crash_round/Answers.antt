use Rattle.std.proofs.Common.{◌≡◌, ◌<◌, List, All, length, sym, ap, subst, ◌∙◌, arith}
use Rattle.cat_history.specs.Maps.{map_of}
use Rattle.cat_history.specs.CrashRounds.{all_settled}
use Rattle.cat_history.specs.declared.op.CallerOp.{CallerOp}
use Rattle.cat_key.specs.declared.Pair.{Pair}
use Rattle.pm_words.specs.declared.layout.Layout.{Layout}
use Rattle.core_crashes.proofs.Played.{begun, begun_index, begun_quiet, begun_stamps, caller_within, crash_played, has_budget}
use Rattle.core_crashes.proofs.Turnless.{begun_turnless}
use Rattle.core_crashes.proofs.round.crash_round.Goals as goal

pub offset_bounds-as_slice-caller : goal.offset_bounds-as_slice-caller
offset_bounds-as_slice-caller c =
    let within = caller_within c.args.core c.lone_caller-caller.result c.args.plan.now.ops c.as_slice.result.now c.requires.index c.requires.callers c.as_slice.ensures c.lone_caller-caller.ensures.lone c.lone_caller-caller.ensures.first in
    let callers = c.requires.index.lawful.row.layout.callers in
    omega (arith, within, callers)

pub bounds-as_slice-caller : goal.bounds-as_slice-caller
bounds-as_slice-caller c =
    let within = caller_within c.args.core c.lone_caller-caller.result c.args.plan.now.ops c.as_slice.result.now c.requires.index c.requires.callers c.as_slice.ensures c.lone_caller-caller.ensures.lone c.lone_caller-caller.ensures.first in
    let budgets = ap length c.as_slice-2.ensures ∙ c.requires.budgets in
    omega (arith, within, budgets)

pub stop_on_core-requires-clause-index : goal.stop_on_core-requires-clause-index
stop_on_core-requires-clause-index c = begun_index c.args.core c.new_round.new.self c.reserve.new.self c.in_ok-new_round.ensures.ok c.reserve.ensures.kept c.requires.index c.requires.quiet

pub stop_on_core-requires-clause-quiet : goal.stop_on_core-requires-clause-quiet
stop_on_core-requires-clause-quiet c = begun_quiet c.args.core c.new_round.new.self c.reserve.new.self c.in_ok-new_round.ensures.ok c.reserve.ensures.kept c.new_round.ensures.quiet

pub stop_on_core-requires-clause-stamps : goal.stop_on_core-requires-clause-stamps
stop_on_core-requires-clause-stamps c = begun_stamps c.args.core c.new_round.new.self c.reserve.new.self c.in_ok-new_round.ensures.ok c.reserve.ensures.kept c.requires.stamps

pub stop_on_core-requires-clause-caller : goal.stop_on_core-requires-clause-caller
stop_on_core-requires-clause-caller c =
    let within = caller_within c.args.core c.lone_caller-caller.result c.args.plan.now.ops c.as_slice.result.now c.requires.index c.requires.callers c.as_slice.ensures c.lone_caller-caller.ensures.lone c.lone_caller-caller.ensures.first in
    let layout = (begun c.args.core c.new_round.new.self c.reserve.new.self c.in_ok-new_round.ensures.ok c.reserve.ensures.kept).layout in
    subst (λ n. c.lone_caller-caller.result < n) (sym (ap (λ (l : Layout). l.callers) layout)) within

pub returns : goal.returns
returns c =
    let mid = c.reserve.new.self in
    let round = c.in_ok-round.field-0.round in
    let within = caller_within c.args.core c.lone_caller-caller.result c.args.plan.now.ops c.as_slice.result.now c.requires.index c.requires.callers c.as_slice.ensures c.lone_caller-caller.ensures.lone c.lone_caller-caller.ensures.first in
    let lone = subst (λ (asked : List CallerOp). All (λ (a : CallerOp). a.caller ≡ c.lone_caller-caller.result) asked) c.as_slice.ensures c.lone_caller-caller.ensures.lone in
    crash_played c.args.core mid c.in_ok-round.field-0.core c.in_ok-core.core c.args.plan.now c.args.crash.now c.lone_caller-caller.result _ round c.requires.index c.requires.quiet c.requires.stamps
    (begun c.args.core c.new_round.new.self mid c.in_ok-new_round.ensures.ok c.reserve.ensures.kept)
    (begun_quiet c.args.core c.new_round.new.self mid c.in_ok-new_round.ensures.ok c.reserve.ensures.kept c.new_round.ensures.quiet)
    c.in_ok-round.ensures c.in_ok-core.ensures lone
    (has_budget c.lone_caller-caller.result c.args.core.layout.callers c.args.crash.now.budgets c.as_slice-2.result.now within c.requires.budgets c.as_slice-2.ensures)
    (begun_turnless c.args.core c.new_round.new.self mid c.in_ok-new_round.ensures.ok c.reserve.ensures.kept c.new_round.ensures.short)
    (length c.as_slice-4.result.now) (ap length (c.as_slice-4.ensures ∙ c.base-2.ensures)) (search arith) (search arith) c.settle.new.records
    (c.settle.ensures ∙ ap (λ (pairs : List Pair). all_settled (map_of pairs) round.records) c.base.ensures)
