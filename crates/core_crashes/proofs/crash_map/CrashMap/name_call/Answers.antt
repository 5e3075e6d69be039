use Rattle.std.proofs.Common.{◌≡◌, ◌+◌, ◌<◌, ◌≤◌, ℕ, length, inl, inr, [], ◌∷◌, Bool, true, arith, refl, sym, ap, ◌∙◌}
use Rattle.std.proofs.Common.{subst}
use Rattle.std.specs.Prelude.{Option, Result, Ok, Err, nat_lt}
use Rattle.shapes.specs.declared.map.Full.{Full}
use Rattle.stopped_rounds.specs.declared.bounded_map.Bounded.{Bounded}
use Rattle.stopped_rounds.specs.declared.bounded_map.Bounded.TheVariants as bounded
use Rattle.cat_history.specs.Records.{change_of}
use Rattle.core_rounds.specs.index_core.specs.CoreCalls.{most_writes, op_of}
use Rattle.core_rounds.specs.index_core.specs.Lone.{whole_of}
use Rattle.stopped_rounds.specs.Bounded.{ComesTo}
use Rattle.core_rounds.specs.CoreMaps.{calls_left_of}
use Rattle.core_rounds.proofs.CoreMaps.{calls_fall, goes_through, same_run, writes_fall}
use Rattle.core_rounds.specs.CrashWork.{most_events}
use Rattle.core_crashes.specs.CrashMaps.{FindRoom, Gave, IsTurnless, Stoppable, WasCutBy, added_within, calls_of}
use Rattle.core_crashes.specs.CrashMaps.{state_of, weighs_of, writes_of}
use Rattle.core_crashes.proofs.CrashMaps.{few_are_left, calls_are, cut_name, cut_weighs, gave, gave_weighs}
use Rattle.core_crashes.proofs.CrashMaps.{goes, no_calls, some_calls, writes_are, writes_now}
use Rattle.std.proofs.lemmas.Bool.{false≢true}
use Rattle.pm_words.specs.declared.layout.Layout.{Layout}
use Rattle.stopped_rounds.specs.Bounded.{IsInTime}
use Rattle.core_crashes.proofs.Turnless.{answered_in_time, cut_in_time, members_after, room_then}
use Rattle.core_crashes.proofs.crash_map.CrashMap.name_call.Goals as goal
use Rattle.core_crashes.proofs.crash_map.CrashMap.name_call.Goals.{in-Done, in-Again}

pub name_within-requires-clause-still : goal.name_within-requires-clause-still
name_within-requires-clause-still g c = (goes g.K.CrashRun.anchors c.self.inside.core c.self.inside.stopped c.self.inside.turning c.self.inside.placed c.self.invariant.0 c.if-self.false).still c.self.inside.caller (subst (λ (l : Layout). c.self.inside.caller < l.callers) (sym c.self.invariant.1.layout) c.self.invariant.2)

pub invariant_of-self : goal.invariant_of-self
invariant_of-self g c =
    let cuts = c.in_default.ensures.runs in
    let uncut = subst (λ (m : Stoppable). (state_of g.K.CrashRun.anchors m).cut ≡ []) (sym c.self.view_is) c.requires.uncut in
    let so = cut_name g.K.CrashRun.anchors c.self.inside.core c.self.inside.stopped c.self.inside.turning c.self.inside.placed c.self.invariant.0 c.if-self.false c.name_within.new.self c.args.call c.self.inside.caller (subst (λ (l : Layout). c.self.inside.caller < l.callers) (sym c.self.invariant.1.layout) c.self.invariant.2) cuts c.name_within.ensures.index c.requires.unlimited uncut
    (nat_lt (length c.history-before.result.now) (length c.history.result.now)) (λ k. nat_lt (length (c.history-before.ensures k)) (length (c.history.ensures k))) in (
      so.0,
      same_run c.self.inside.core c.name_within.new.self c.self.invariant.1 cuts.layout cuts.generation,
      c.self.invariant.2,
    )

pub returns-in_default-clause-ends : goal.returns-in_default-clause-ends
returns-in_default-clause-ends g c =
    let cuts = c.in_default.ensures.runs in
    let uncut = subst (λ (m : Stoppable). (state_of g.K.CrashRun.anchors m).cut ≡ []) (sym c.self.view_is) c.requires.uncut in
    let placed = nat_lt (length c.history-before.result.now) (length c.history.result.now) in
    let so = cut_name g.K.CrashRun.anchors c.self.inside.core c.self.inside.stopped c.self.inside.turning c.self.inside.placed c.self.invariant.0 c.if-self.false c.name_within.new.self c.args.call c.self.inside.caller (subst (λ (l : Layout). c.self.inside.caller < l.callers) (sym c.self.invariant.1.layout) c.self.invariant.2) cuts c.name_within.ensures.index c.requires.unlimited uncut
    placed (λ k. nat_lt (length (c.history-before.ensures k)) (length (c.history.ensures k))) in (
      c.name_within.ensures.spent c.in_default.is,
      subst (λ (m : Stoppable). WasCutBy (state_of g.K.CrashRun.anchors m) (change_of (op_of c.args.call)) placed (state_of g.K.CrashRun.anchors (record { index = c.name_within.new.self; stopped = true; turning = c.self.inside.turning; placed = placed }))) c.self.view_is so.1,
    )

pub returns-in_default-clause-calls_left : goal.returns-in_default-clause-calls_left
returns-in_default-clause-calls_left g c =
    let known =
    few_are_left g.K.CrashRun.anchors c.self.inside.core c.self.inside.stopped c.self.inside.turning c.self.inside.placed c.self.invariant.0 c.if-self.false c.args.self.now c.self.view_is in
    omega (arith, known)

pub returns-in_default-clause-weighs : goal.returns-in_default-clause-weighs
returns-in_default-clause-weighs g c =
    let none = no_calls g.K.CrashRun.anchors c.self.inside.core c.self.inside.stopped c.self.inside.turning c.self.inside.placed c.self.invariant.0 c.if-self.false in
    let placed = nat_lt (length c.history-before.result.now) (length c.history.result.now) in
    subst (λ (m : Stoppable). weighs_of (record { index = c.name_within.new.self; stopped = true; turning = c.self.inside.turning; placed = placed }) ≤ weighs_of m + added_within (op_of c.args.call) (bounded.Cut placed)) c.self.view_is
    (cut_weighs c.self.inside.core c.name_within.new.self c.args.call c.self.inside.caller placed none c.in_default.ensures.runs)

pub unreachable-requires : goal.unreachable-requires
unreachable-requires g c =
    let calls = some_calls g.K.CrashRun.anchors c.self.inside.core c.self.inside.stopped c.self.inside.turning c.self.inside.placed c.self.invariant.0 c.if-self.false (subst (λ (m : Stoppable). 0 < calls_of m) (sym c.self.view_is) c.requires.calls) in
    let writes = subst (λ n. most_writes c.args.call ≤ n) (writes_are g.K.CrashRun.anchors c.self.inside.core c.self.inside.stopped c.self.inside.turning c.self.inside.placed c.self.invariant.0 c.if-self.false)
    (subst (λ (m : Stoppable). most_writes c.args.call ≤ writes_of m) (sym c.self.view_is) c.requires.writes) in
    goes_through c.self.inside.core c.self.inside.caller c.args.call c.name_within.new.self c.in-Some.answer c.self.invariant.0.index c.requires.unlimited calls writes c.in-Some.ensures.runs.runs.answer c.in-Spent.is

pub invariant_of-self-2 : goal.invariant_of-self-2
invariant_of-self-2 g c =
    let uncut = subst (λ (m : Stoppable). (state_of g.K.CrashRun.anchors m).cut ≡ []) (sym c.self.view_is) c.requires.uncut in
    let calls = subst (λ (m : Stoppable). 0 < calls_of m) (sym c.self.view_is) c.requires.calls in
    let give = gave g.K.CrashRun.anchors c.self.inside.core c.self.inside.stopped c.self.inside.turning c.self.inside.placed c.self.invariant.0 c.if-self.false c.name_within.new.self c.args.call c.self.inside.caller (whole_of c.in-Some.answer) c.in-Some.ensures.runs c.name_within.ensures.index c.requires.unlimited calls uncut c.in-Some.answer refl in (
      elim c.match-answer.branch [
        | in-Done w ↦ (give (Ok w.in-Done.placed.old) (inl (w.in-Done.placed, w.in-Done.is, refl))).0
        | in-Again w ↦ (give (Err (record {})) (inr (_, w.in-Again.is, refl))).0
      ],
      same_run c.self.inside.core c.name_within.new.self c.self.invariant.1 c.in-Some.ensures.runs.runs.layout c.in-Some.ensures.runs.runs.generation,
      c.self.invariant.2,
    )

pub returns-clause-ends : goal.returns-clause-ends
returns-clause-ends g c =
    let uncut = subst (λ (m : Stoppable). (state_of g.K.CrashRun.anchors m).cut ≡ []) (sym c.self.view_is) c.requires.uncut in
    let calls = subst (λ (m : Stoppable). 0 < calls_of m) (sym c.self.view_is) c.requires.calls in
    let give = gave g.K.CrashRun.anchors c.self.inside.core c.self.inside.stopped c.self.inside.turning c.self.inside.placed c.self.invariant.0 c.if-self.false c.name_within.new.self c.args.call c.self.inside.caller (whole_of c.in-Some.answer) c.in-Some.ensures.runs c.name_within.ensures.index c.requires.unlimited calls uncut c.in-Some.answer refl in
    let left : Stoppable = record { index = c.name_within.new.self; stopped = c.self.inside.stopped; turning = c.self.inside.turning; placed = c.self.inside.placed } in
    let Ends : Result (Option ℕ) Full → Type 0 = λ answer. Gave c.args.self.now.index.layout.slots c.args.self.now.index.layout.nodes (state_of g.K.CrashRun.anchors c.args.self.now) c.args.call answer (state_of g.K.CrashRun.anchors left) in
    let lift : (answer : Result (Option ℕ) Full) → Gave c.self.inside.core.layout.slots c.self.inside.core.layout.nodes (state_of g.K.CrashRun.anchors (record { index = c.self.inside.core; stopped = c.self.inside.stopped; turning = c.self.inside.turning; placed = c.self.inside.placed })) c.args.call answer (state_of g.K.CrashRun.anchors left) → Ends answer =
    λ answer so. subst (λ (m : Stoppable). Gave m.index.layout.slots m.index.layout.nodes (state_of g.K.CrashRun.anchors m) c.args.call answer (state_of g.K.CrashRun.anchors left)) c.self.view_is so in
    elim c.match-answer.branch [
      | in-Done w ↦ subst (λ (r : Bounded (Result (Option ℕ) Full)). ComesTo r Ends (λ placed. (c.name_within.new.budget ≡ 0) × WasCutBy (state_of g.K.CrashRun.anchors c.args.self.now) (change_of (op_of c.args.call)) placed (state_of g.K.CrashRun.anchors left))) (sym w.result-is) (lift (Ok w.in-Done.placed.old) (give (Ok w.in-Done.placed.old) (inl (w.in-Done.placed, w.in-Done.is, refl))).1)
      | in-Again w ↦ subst (λ (r : Bounded (Result (Option ℕ) Full)). ComesTo r Ends (λ placed. (c.name_within.new.budget ≡ 0) × WasCutBy (state_of g.K.CrashRun.anchors c.args.self.now) (change_of (op_of c.args.call)) placed (state_of g.K.CrashRun.anchors left))) (sym w.result-is) (lift (Err (record {})) (give (Err (record {})) (inr (_, w.in-Again.is, refl))).1)
    ]

pub returns-clause-writes_left : goal.returns-clause-writes_left
returns-clause-writes_left g c =
    let fall = writes_fall c.self.inside.core c.name_within.new.self c.args.call (whole_of c.in-Some.answer) _ c.in-Some.ensures.runs.runs c.in-Some.ensures.runs.spare in
    let before = writes_now c.self.inside.core c.self.inside.stopped c.self.inside.turning c.self.inside.placed c.if-self.false in
    let after = writes_now c.name_within.new.self c.self.inside.stopped c.self.inside.turning c.self.inside.placed c.if-self.false in
    subst (λ (m : Stoppable). writes_of m ≤ writes_of (record { index = c.name_within.new.self; stopped = c.self.inside.stopped; turning = c.self.inside.turning; placed = c.self.inside.placed }) + most_writes c.args.call) c.self.view_is (omega (arith, fall, before, after))

pub returns-clause-weighs : goal.returns-clause-weighs
returns-clause-weighs g c =
    let here = (goes g.K.CrashRun.anchors c.self.inside.core c.self.inside.stopped c.self.inside.turning c.self.inside.placed c.self.invariant.0 c.if-self.false).still c.self.inside.caller (subst (λ (l : Layout). c.self.inside.caller < l.callers) (sym c.self.invariant.1.layout) c.self.invariant.2) in
    let light = gave_weighs c.self.inside.core c.name_within.new.self c.args.call c.self.inside.caller (whole_of c.in-Some.answer) here c.in-Some.ensures.runs c.in-Some.answer refl in
    let left : Stoppable = record { index = c.name_within.new.self; stopped = c.self.inside.stopped; turning = c.self.inside.turning; placed = c.self.inside.placed } in
    subst (λ (m : Stoppable). weighs_of left ≤ weighs_of m + added_within (op_of c.args.call) c.match-answer.result) c.self.view_is
    (elim c.match-answer.branch [
      | in-Done w ↦ subst (λ (r : Bounded (Result (Option ℕ) Full)). weighs_of left ≤ weighs_of (record { index = c.self.inside.core; stopped = c.self.inside.stopped; turning = c.self.inside.turning; placed = c.self.inside.placed }) + added_within (op_of c.args.call) r) (sym w.result-is) (light (Ok w.in-Done.placed.old) (inl (w.in-Done.placed, w.in-Done.is, refl)))
      | in-Again w ↦ subst (λ (r : Bounded (Result (Option ℕ) Full)). weighs_of left ≤ weighs_of (record { index = c.self.inside.core; stopped = c.self.inside.stopped; turning = c.self.inside.turning; placed = c.self.inside.placed }) + added_within (op_of c.args.call) r) (sym w.result-is) (light (Err (record {})) (inr (_, w.in-Again.is, refl)))
    ])

pub returns-then-self-clause-in_time : goal.returns-then-self-clause-in_time
returns-then-self-clause-in_time g c = λ a rest same turnless. absurd (false≢true (sym turnless.going ∙ sym (ap (λ (m : Stoppable). m.stopped) c.self.view_is) ∙ c.if-self.true))

pub returns-in_default-clause-in_time : goal.returns-in_default-clause-in_time
returns-in_default-clause-in_time g c = λ a rest same turnless.
    let old = subst (λ (m : Stoppable). IsTurnless m (a ∷ rest)) (sym c.self.view_is) turnless in
    let calls = some_calls g.K.CrashRun.anchors c.self.inside.core c.self.inside.stopped c.self.inside.turning c.self.inside.placed c.self.invariant.0 c.if-self.false (subst (λ (m : Stoppable). 0 < calls_of m) (sym c.self.view_is) c.requires.calls) in
    let here = (goes g.K.CrashRun.anchors c.self.inside.core c.self.inside.stopped c.self.inside.turning c.self.inside.placed c.self.invariant.0 c.if-self.false).still c.self.inside.caller (subst (λ (l : Layout). c.self.inside.caller < l.callers) (sym c.self.invariant.1.layout) c.self.invariant.2) in
    let within = subst (λ (l : Layout). c.self.inside.caller < l.callers) (sym c.self.invariant.1.layout) c.self.invariant.2 in
    cut_in_time c.self.inside.core c.self.inside.caller c.args.call a rest within c.self.invariant.0.index here calls c.requires.unlimited same old.turnless c.args.budget.now c.self.inside.steps c.name_within.new.steps c.in_default.ensures.in_time

pub returns-clause-in_time : goal.returns-clause-in_time
returns-clause-in_time g c = λ a rest same turnless.
    let old = subst (λ (m : Stoppable). IsTurnless m (a ∷ rest)) (sym c.self.view_is) turnless in
    let calls = some_calls g.K.CrashRun.anchors c.self.inside.core c.self.inside.stopped c.self.inside.turning c.self.inside.placed c.self.invariant.0 c.if-self.false (subst (λ (m : Stoppable). 0 < calls_of m) (sym c.self.view_is) c.requires.calls) in
    let here = (goes g.K.CrashRun.anchors c.self.inside.core c.self.inside.stopped c.self.inside.turning c.self.inside.placed c.self.invariant.0 c.if-self.false).still c.self.inside.caller (subst (λ (l : Layout). c.self.inside.caller < l.callers) (sym c.self.invariant.1.layout) c.self.invariant.2) in
    let within = subst (λ (l : Layout). c.self.inside.caller < l.callers) (sym c.self.invariant.1.layout) c.self.invariant.2 in
    let left : Stoppable = record { index = c.name_within.new.self; stopped = c.self.inside.stopped; turning = c.self.inside.turning; placed = c.self.inside.placed } in
    let both = answered_in_time c.self.inside.core c.self.inside.caller c.args.call a rest within c.self.invariant.0.index here calls c.requires.unlimited same old.turnless c.name_within.new.self c.in-Some.answer c.in-Some.ensures.runs.runs
    c.args.budget.now c.name_within.new.budget c.self.inside.steps c.name_within.new.steps c.in-Some.ensures.in_time c.name_within.ensures.events in
    elim c.match-answer.branch [
      | in-Done w ↦ subst (λ (r : Bounded (Result (Option ℕ) Full)). IsInTime r most_events c.args.budget.now c.name_within.new.budget (IsTurnless left rest)) (sym w.result-is)
          (let done = both (inl (w.in-Done.placed, w.in-Done.is)) in (done.0, record { going = c.if-self.false; turnless = done.1 }))
      | in-Again w ↦ subst (λ (r : Bounded (Result (Option ℕ) Full)). IsInTime r most_events c.args.budget.now c.name_within.new.budget (IsTurnless left rest)) (sym w.result-is)
          (let full = both (inr (_, w.in-Again.is)) in (full.0, record { going = c.if-self.false; turnless = full.1 }))
    ]

pub returns-clause-room : goal.returns-clause-room
returns-clause-room g c = λ a rest same room.
    let first = g.K.CrashRun.anchors in
    let was : Stoppable = record { index = c.self.inside.core; stopped = c.self.inside.stopped; turning = c.self.inside.turning; placed = c.self.inside.placed } in
    let left : Stoppable = record { index = c.name_within.new.self; stopped = c.self.inside.stopped; turning = c.self.inside.turning; placed = c.self.inside.placed } in
    let uncut = subst (λ (m : Stoppable). (state_of first m).cut ≡ []) (sym c.self.view_is) c.requires.uncut in
    let some = subst (λ (m : Stoppable). 0 < calls_of m) (sym c.self.view_is) c.requires.calls in
    let give = gave first c.self.inside.core c.self.inside.stopped c.self.inside.turning c.self.inside.placed c.self.invariant.0 c.if-self.false c.name_within.new.self c.args.call c.self.inside.caller (whole_of c.in-Some.answer) c.in-Some.ensures.runs c.name_within.ensures.index c.requires.unlimited some uncut c.in-Some.answer refl in
    let find = subst (λ (m : Stoppable). FindRoom first m (a ∷ rest)) (sym c.self.view_is) room in
    let before = calls_are first c.self.inside.core c.self.inside.stopped c.self.inside.turning c.self.inside.placed c.self.invariant.0 c.if-self.false in
    let after : calls_of left ≡ calls_left_of c.name_within.new.self = ap (λ (b : Bool). calls_of (record { index = c.name_within.new.self; stopped = b; turning = c.self.inside.turning; placed = c.self.inside.placed })) c.if-self.false in
    let fall = calls_fall c.self.inside.core c.name_within.new.self c.args.call c.self.inside.caller c.in-Some.ensures.runs.locks in
    let finds : (answer : Result (Option ℕ) Full) → Gave c.self.inside.core.layout.slots c.self.inside.core.layout.nodes (state_of first was) c.args.call answer (state_of first left) → FindRoom first left rest =
    λ answer so. room_then first was left c.args.call a rest c.requires.unlimited same find c.in-Some.ensures.runs.runs.layout (omega (arith, before, after, fall))
    (members_after c.self.inside.core.layout.slots c.self.inside.core.layout.nodes (state_of first was) c.args.call answer (state_of first left) c.requires.unlimited so) refl in
    elim c.match-answer.branch [
      | in-Done w ↦ subst (λ (r : Bounded (Result (Option ℕ) Full)). ComesTo r (λ answer. FindRoom first left rest) (λ placed. Unit {0})) (sym w.result-is) (finds (Ok w.in-Done.placed.old) (give (Ok w.in-Done.placed.old) (inl (w.in-Done.placed, w.in-Done.is, refl))).1)
      | in-Again w ↦ subst (λ (r : Bounded (Result (Option ℕ) Full)). ComesTo r (λ answer. FindRoom first left rest) (λ placed. Unit {0})) (sym w.result-is) (finds (Err (record {})) (give (Err (record {})) (inr (_, w.in-Again.is, refl))).1)
    ]
