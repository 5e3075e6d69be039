use Rattle.std.proofs.Common.{ap, arith}
use Rattle.recovery.specs.index_core.specs.Lone.{part_whole}
use Rattle.recovery.specs.index_core.specs.declared.party.CoreCall.TheVariants as call
use Rattle.core_rounds.proofs.CoreMaps.{call_stays, part_goes_through, part_same}
use Rattle.core_rounds.proofs.Waiting.{waits_listed}
use Rattle.core_rounds.proofs.core_map.list_alone.Goals as goal

-- there is a lock left
pub unreachable-requires : goal.unreachable-requires
unreachable-requires g c =
    part_goes_through c.args.core.now c.args.caller c.args.low.now c.args.count c.part_alone.new.self c.part_alone.result c.requires.index c.requires.calls_left c.part_alone.ensures.runs.answer c.in-Spent.is

pub returns-clause-quiet : goal.returns-clause-quiet
returns-clause-quiet g c =
    let ran = c.part_alone.ensures in
    call_stays c.args.core.now c.part_alone.new.self (call.Part c.args.low.now c.args.count) (part_whole c.part_alone.result) c.args.caller ran.runs ran.index ran.quiet (omega (arith, ran.locks)) ran.spare

pub returns-clause-same : goal.returns-clause-same
returns-clause-same g c = part_same c.args.core.now c.args.low.now c.args.count c.part_alone.new.self (part_whole c.part_alone.result) c.in-Done.words (ap part_whole c.in-Done.is) c.part_alone.ensures.runs

pub returns-clause-waits : goal.returns-clause-waits
returns-clause-waits g c changes writes puts waits =
    waits_listed c.args.caller c.args.core.now c.part_alone.new.self c.args.low.now c.args.count (part_whole c.part_alone.result) c.requires.caller c.requires.index c.requires.quiet.calls c.requires.calls_left c.part_alone.ensures.runs changes writes puts waits
