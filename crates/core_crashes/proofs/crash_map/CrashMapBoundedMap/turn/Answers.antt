use Rattle.std.proofs.Common.{◌≡◌, ◌+◌, ◌<◌, ◌≤◌, Bool, [], true, length, refl, sym, ap, ◌∙◌, subst, arith}
use Rattle.stopped_rounds.specs.Bounded.{IsSame}
use Rattle.pm_words.specs.declared.layout.Layout.{Layout}
use Rattle.core_rounds.specs.index_core.specs.Costs.{turn_actions}
use Rattle.core_rounds.specs.index_core.specs.Indexes.{Index}
use Rattle.core_rounds.specs.index_core.proofs.Quiet.{quiet_is_still}
use Rattle.core_rounds.specs.CoreMaps.{calls_left_of}
use Rattle.core_rounds.proofs.CoreMaps.{same_run, turned_run}
use Rattle.core_crashes.specs.CrashMaps.{FindRoom, Stoppable, calls_of, members_by, members_of, state_of, weighs_of}
use Rattle.core_crashes.specs.CrashMaps.{writes_of}
use Rattle.core_crashes.proofs.Turnless.{room_stays, turned_calls, turned_turnless}
use Rattle.core_crashes.proofs.CrashMaps.{anchors_are, calls_are, calls_stay, low_then, none_cut_off, plain, turn_cut}
use Rattle.core_crashes.proofs.CrashMaps.{turn_cut_weighs, turn_goes_on, turn_stops, turned_weighs, writes_stay}
use Rattle.core_crashes.proofs.crash_map.CrashMapBoundedMap.turn.Goals as goal

pub turn_within-requires-clause-still : goal.turn_within-requires-clause-still
turn_within-requires-clause-still g c = quiet_is_still c.callers-updater.result c.self.inside.core (c.self.invariant.0.can_turn c.if-self.false c.if-self-2.false).quiet

-- it was cut off
pub invariant_of-self-in_default : goal.invariant_of-self-in_default
invariant_of-self-in_default g c =
    let cuts = c.in_default.ensures.turns in
    let rests = c.self.invariant.0.can_turn c.if-self.false c.if-self-2.false in (
      turn_stops g.K.CrashRun.anchors c.self.inside.core c.self.inside.stopped c.self.inside.turning c.self.inside.placed c.self.invariant.0 c.if-self.false c.if-self-2.false c.turn_within.new.self c.callers-updater.result (c.callers-updater.ensures ∙ ap (λ (l : Layout). l.callers) c.layout.ensures.layout) cuts (none_cut_off c.self.inside.core rests.quiet.calls) c.turn_within.ensures.index
          (c.turn_within.ensures.stays c.in_default.is rests.quiet (omega (arith, c.if-budget-eq0.false))),
      same_run c.self.inside.core c.turn_within.new.self c.self.invariant.1 cuts.layout cuts.generation,
      c.self.invariant.2,
    )

pub returns-in_default-clause-same : goal.returns-in_default-clause-same
returns-in_default-clause-same g c =
    subst (λ (m : Stoppable). IsSame (state_of g.K.CrashRun.anchors m) (state_of g.K.CrashRun.anchors (record { index = c.turn_within.new.self; stopped = c.self.inside.stopped; turning = true; placed = c.self.inside.placed }))) c.self.view_is
    (turn_cut g.K.CrashRun.anchors c.self.inside.core c.self.inside.stopped c.self.inside.turning c.self.inside.placed c.self.invariant.0 c.if-self.false c.if-self-2.false c.turn_within.new.self c.callers-updater.result (c.callers-updater.ensures ∙ ap (λ (l : Layout). l.callers) c.layout.ensures.layout) c.in_default.ensures.turns
    (subst (λ (m : Stoppable). (state_of g.K.CrashRun.anchors m).cut ≡ []) (sym c.self.view_is) c.requires.uncut))

pub returns-in_default-clause-calls_left : goal.returns-in_default-clause-calls_left
returns-in_default-clause-calls_left g c =
    subst (λ (m : Stoppable). calls_of m ≤ calls_of (record { index = c.turn_within.new.self; stopped = c.self.inside.stopped; turning = true; placed = c.self.inside.placed })) c.self.view_is
    (calls_stay g.K.CrashRun.anchors c.self.inside.core c.self.inside.stopped c.self.inside.turning c.self.inside.placed c.self.invariant.0 c.if-self.false c.if-self-2.false c.turn_within.new.self c.callers-updater.result (c.callers-updater.ensures ∙ ap (λ (l : Layout). l.callers) c.layout.ensures.layout) c.in_default.ensures.turns
    (subst (λ (m : Stoppable). (state_of g.K.CrashRun.anchors m).cut ≡ []) (sym c.self.view_is) c.requires.uncut))

pub returns-in_default-clause-writes_left : goal.returns-in_default-clause-writes_left
returns-in_default-clause-writes_left g c =
    subst (λ (m : Stoppable). writes_of m ≤ writes_of (record { index = c.turn_within.new.self; stopped = c.self.inside.stopped; turning = true; placed = c.self.inside.placed })) c.self.view_is
    (writes_stay g.K.CrashRun.anchors c.self.inside.core c.self.inside.stopped c.self.inside.turning c.self.inside.placed c.self.invariant.0 c.if-self.false c.if-self-2.false c.turn_within.new.self c.callers-updater.result (c.callers-updater.ensures ∙ ap (λ (l : Layout). l.callers) c.layout.ensures.layout) c.in_default.ensures.turns
    (subst (λ (m : Stoppable). (state_of g.K.CrashRun.anchors m).cut ≡ []) (sym c.self.view_is) c.requires.uncut))

pub returns-in_default-clause-weighs : goal.returns-in_default-clause-weighs
returns-in_default-clause-weighs g c =
    let rests = c.self.invariant.0.can_turn c.if-self.false c.if-self-2.false in
    subst (λ (m : Stoppable). weighs_of (record { index = c.turn_within.new.self; stopped = c.self.inside.stopped; turning = true; placed = c.self.inside.placed }) ≤ weighs_of m) c.self.view_is
    (turn_cut_weighs c.self.inside.core c.turn_within.new.self c.callers-updater.result rests.quiet c.in_default.ensures.turns)

pub returns-in_default-clause-in_time : goal.returns-in_default-clause-in_time
returns-in_default-clause-in_time g c = λ calls more often some turnless room paid.
    let rests = c.self.invariant.0.can_turn c.if-self.false c.if-self-2.false in
    let little : c.args.budget.now < turn_actions g.K.CrashRun.layout = subst (λ (l : Layout). c.args.budget.now < turn_actions l) c.self.invariant.1.layout (c.in_default.ensures.in_time rests.quiet) in
    absurd (omega (arith, little, paid))

-- it was made
pub invariant_of-self : goal.invariant_of-self
invariant_of-self g c =
    let turns = c.in-Some.ensures.turns in (
      turn_goes_on g.K.CrashRun.anchors c.self.inside.core c.self.inside.stopped c.self.inside.turning c.self.inside.placed c.self.invariant.0 c.if-self.false c.if-self-2.false c.turn_within.new.self c.in-Some.field-0 turns c.turn_within.ensures.index c.in-Some.ensures.quiet.1,
      turned_run c.self.inside.core c.turn_within.new.self c.in-Some.field-0 turns c.self.invariant.1,
      c.self.invariant.2,
    )

pub returns-clause-weighs : goal.returns-clause-weighs
returns-clause-weighs g c =
    subst (λ (m : Stoppable). weighs_of (record { index = c.turn_within.new.self; stopped = c.self.inside.stopped; turning = c.self.inside.turning; placed = c.self.inside.placed }) ≤ weighs_of m) c.self.view_is
    (turned_weighs c.self.inside.core c.turn_within.new.self c.in-Some.field-0 c.in-Some.ensures.quiet.0 c.in-Some.ensures.quiet.1 c.in-Some.ensures.turns)

pub returns-clause-in_time : goal.returns-clause-in_time
returns-clause-in_time g c = λ calls more often some turnless room paid.
    let first = g.K.CrashRun.anchors in
    let was : Stoppable = record { index = c.self.inside.core; stopped = c.self.inside.stopped; turning = c.self.inside.turning; placed = c.self.inside.placed } in
    let now : Stoppable = record { index = c.turn_within.new.self; stopped = c.self.inside.stopped; turning = c.self.inside.turning; placed = c.self.inside.placed } in
    let find = subst (λ (m : Stoppable). FindRoom first m more) (sym c.self.view_is) room in
    let t = c.in-Some.ensures.turns in
    let quiet = c.in-Some.ensures.quiet.1 in
    let low = low_then first c.self.inside.core c.self.inside.stopped c.self.inside.turning c.self.inside.placed c.self.invariant.0 c.if-self.false c.if-self-2.false c.turn_within.new.self c.in-Some.field-0 t c.turn_within.ensures.index quiet in
    let members = ap length (anchors_are first c.self.inside.core c.self.inside.stopped c.self.inside.turning c.self.inside.placed c.self.invariant.0 c.if-self.false) in
    let before = calls_are first c.self.inside.core c.self.inside.stopped c.self.inside.turning c.self.inside.placed c.self.invariant.0 c.if-self.false in
    let kept = turned_calls c.self.inside.core c.turn_within.new.self c.in-Some.field-0 t in
    let nodes = find.nodes in
    let left = find.calls in
    let taken : c.turn_within.new.steps ≤ c.self.inside.steps + turn_actions g.K.CrashRun.layout = subst (λ (l : Layout). c.turn_within.new.steps ≤ c.self.inside.steps + turn_actions l) c.self.invariant.1.layout (c.in-Some.ensures.in_time c.in-Some.ensures.quiet.0) in
    let after : calls_of now ≡ calls_left_of c.turn_within.new.self = ap (λ (b : Bool). calls_of (record { index = c.turn_within.new.self; stopped = b; turning = c.self.inside.turning; placed = c.self.inside.placed })) c.if-self.false in
    let then = plain first c.self.inside.core c.self.inside.stopped c.self.inside.turning c.self.inside.placed c.self.invariant.0 c.if-self.false in
    let same : members_of first now ≡ members_of first was = then c.turn_within.new.self ∙ ap (members_by first) t.is ∙ sym (then c.self.inside.core) in (
      omega (arith, taken, c.turn_within.ensures.events),
      record {
        going = c.if-self.false;
        turnless = turned_turnless c.self.inside.core c.turn_within.new.self c.in-Some.field-0 calls more t c.turn_within.ensures.index quiet low (omega (arith, left, some, before, kept)) (omega (arith, nodes, members)) often;
      },
      room_stays first was now more find (ap (λ (s : Index). s.layout) t.is) same (omega (arith, before, after, kept)) refl,
    )
