use Rattle.std.proofs.Common.{◌≡◌, ◌<◌, ◌≤◌, [], false, true, arith, ap, sym, subst}
use Rattle.pm_words.specs.declared.layout.Layout.{Layout}
use Rattle.core_rounds.specs.index_core.specs.Lone.{part_whole}
use Rattle.stopped_rounds.specs.Bounded.{IsSame}
use Rattle.core_rounds.proofs.CoreMaps.{same_run}
use Rattle.core_rounds.specs.index_core.specs.declared.party.CoreCall.TheVariants as call
use Rattle.core_crashes.specs.CrashMaps.{Stoppable, state_of, weighs_of}
use Rattle.core_crashes.proofs.CrashMaps.{few_are_left, cut_weighs, listed_weighs, part_cut, part_goes_on}
use Rattle.core_crashes.proofs.CrashMaps.{goes, no_calls, part_same, stops_same}
use Rattle.core_crashes.proofs.crash_map.CrashMap.list.Goals as goal

pub part_within-requires-clause-still : goal.part_within-requires-clause-still
part_within-requires-clause-still g c = (goes g.K.CrashRun.anchors c.self.inside.core c.self.inside.stopped c.self.inside.turning c.self.inside.placed c.self.invariant.0 c.if-self.false).still c.self.inside.caller (subst (λ (l : Layout). c.self.inside.caller < l.callers) (sym c.self.invariant.1.layout) c.self.invariant.2)

pub returns-in_default-clause-same : goal.returns-in_default-clause-same
returns-in_default-clause-same g c =
    let cuts = c.in_default.ensures.runs in
    let wrote = part_cut g.K.CrashRun.anchors c.self.inside.core c.self.inside.stopped c.self.inside.turning c.self.inside.placed c.self.invariant.0 c.if-self.false c.part_within.new.self c.self.inside.caller c.args.low.now c.args.count cuts (subst (λ (l : Layout). c.self.inside.caller < l.callers) (sym c.self.invariant.1.layout) c.self.invariant.2) in
    subst (λ (m : Stoppable). IsSame (state_of g.K.CrashRun.anchors m) (state_of g.K.CrashRun.anchors (record { index = c.part_within.new.self; stopped = true; turning = c.self.inside.turning; placed = c.self.inside.placed }))) c.self.view_is
    (stops_same g.K.CrashRun.anchors c.self.inside.core c.self.inside.stopped c.self.inside.turning c.self.inside.placed c.self.invariant.0 c.if-self.false c.part_within.new.self cuts.layout cuts.base wrote.0 wrote.1
    (subst (λ (m : Stoppable). (state_of g.K.CrashRun.anchors m).cut ≡ []) (sym c.self.view_is) c.requires.uncut))

pub returns-in_default-clause-calls_left : goal.returns-in_default-clause-calls_left
returns-in_default-clause-calls_left g c =
    let known =
    few_are_left g.K.CrashRun.anchors c.self.inside.core c.self.inside.stopped c.self.inside.turning c.self.inside.placed c.self.invariant.0 c.if-self.false c.args.self.now c.self.view_is in
    omega (arith, known)

pub invariant_of-self-2 : goal.invariant_of-self-2
invariant_of-self-2 g c = (
  part_goes_on g.K.CrashRun.anchors c.self.inside.core c.self.inside.stopped c.self.inside.turning c.self.inside.placed c.self.invariant.0 c.if-self.false c.part_within.new.self c.self.inside.caller c.args.low.now c.args.count
      (part_whole c.in-Some.answer) c.in-Done.words (ap part_whole c.in-Done.is) c.in-Some.ensures.runs c.part_within.ensures.index,
  same_run c.self.inside.core c.part_within.new.self c.self.invariant.1 c.in-Some.ensures.runs.runs.layout c.in-Some.ensures.runs.runs.generation,
  c.self.invariant.2,
)

pub returns-clause-same : goal.returns-clause-same
returns-clause-same g c =
    subst (λ (m : Stoppable). IsSame (state_of g.K.CrashRun.anchors m) (state_of g.K.CrashRun.anchors (record { index = c.part_within.new.self; stopped = c.self.inside.stopped; turning = c.self.inside.turning; placed = c.self.inside.placed }))) c.self.view_is
    (part_same g.K.CrashRun.anchors c.self.inside.core c.self.inside.stopped c.self.inside.turning c.self.inside.placed c.self.invariant.0 c.if-self.false c.part_within.new.self c.self.inside.caller c.args.low.now c.args.count
    (part_whole c.in-Some.answer) c.in-Done.words (ap part_whole c.in-Done.is) c.in-Some.ensures.runs
    (subst (λ (m : Stoppable). (state_of g.K.CrashRun.anchors m).cut ≡ []) (sym c.self.view_is) c.requires.uncut))

pub returns-in_default-clause-weighs : goal.returns-in_default-clause-weighs
returns-in_default-clause-weighs g c =
    let none = no_calls g.K.CrashRun.anchors c.self.inside.core c.self.inside.stopped c.self.inside.turning c.self.inside.placed c.self.invariant.0 c.if-self.false in
    let light = cut_weighs c.self.inside.core c.part_within.new.self (call.Part c.args.low.now c.args.count) c.self.inside.caller false none c.in_default.ensures.runs in
    subst (λ (m : Stoppable). weighs_of (record { index = c.part_within.new.self; stopped = true; turning = c.self.inside.turning; placed = c.self.inside.placed }) ≤ weighs_of m) c.self.view_is (omega (arith, light))

pub returns-clause-weighs : goal.returns-clause-weighs
returns-clause-weighs g c =
    let here = (goes g.K.CrashRun.anchors c.self.inside.core c.self.inside.stopped c.self.inside.turning c.self.inside.placed c.self.invariant.0 c.if-self.false).still c.self.inside.caller (subst (λ (l : Layout). c.self.inside.caller < l.callers) (sym c.self.invariant.1.layout) c.self.invariant.2) in
    subst (λ (m : Stoppable). weighs_of (record { index = c.part_within.new.self; stopped = c.self.inside.stopped; turning = c.self.inside.turning; placed = c.self.inside.placed }) ≤ weighs_of m) c.self.view_is
    (listed_weighs c.self.inside.core c.part_within.new.self c.self.inside.caller c.args.low.now c.args.count (part_whole c.in-Some.answer) here c.in-Some.ensures.runs)
