use Rattle.std.proofs.Common.{◌≡◌, refl, ap}
use Rattle.std.proofs.lemmas.Bool.{false≢true}
use Rattle.index_law.specs.Anchors.{anchors_in}
use Rattle.recovery.specs.index_core.specs.Indexes.{world}
use Rattle.recovery.specs.index_core.specs.Lone.{FindsNoRoom, whole_of}
use Rattle.core_rounds.specs.CoreMaps.{anchors_made}
use Rattle.core_rounds.proofs.CoreMaps.{call_stays, calls_fall, full_exactly, full_same, goes_through, told_full}
use Rattle.core_rounds.proofs.CoreMaps.{told_map, told_placed, told_weighs}
use Rattle.core_rounds.proofs.Waiting.{no_change, waits_full, waits_placed}
use Rattle.core_rounds.proofs.core_map.call_alone.Goals as goal

-- there is a lock left, and the clock is below the limit
pub unreachable-requires : goal.unreachable-requires
unreachable-requires g c = goes_through c.args.core.now _ c.args.call c.name_alone.new.self c.name_alone.result c.requires.index c.requires.unlimited c.requires.calls_left c.requires.writes_left c.name_alone.ensures.runs.answer c.in-Spent.is

-- what it says where it took place
placed_so : (g : _) (c : goal.In-Done g) → (FindsNoRoom c.args.call c.args.core.now → ⊥) × (anchors_in (world c.name_alone.new.self) ≡ anchors_made c.args.core.now c.args.call)
placed_so g c = told_placed c.args.core.now c.args.call c.name_alone.new.self (whole_of c.name_alone.result) c.in-Done.placed c.requires.index c.requires.unlimited c.requires.calls_left (ap whole_of c.in-Done.is) c.name_alone.ensures.runs

pub returns-in-Done-clause-full : goal.returns-in-Done-clause-full
returns-in-Done-clause-full g c =
    let exactly = full_exactly c.args.core.now c.args.call c.requires.index c.requires.quiet c.name_alone.ensures.runs.named c.requires.calls_left c.requires.stamps in
    ((λ e. absurd (false≢true e)), (λ full. absurd ((placed_so g c).0 (exactly.1 full))))

pub returns-in-Again-clause-full : goal.returns-in-Again-clause-full
returns-in-Again-clause-full g c =
    let exactly = full_exactly c.args.core.now c.args.call c.requires.index c.requires.quiet c.name_alone.ensures.runs.named c.requires.calls_left c.requires.stamps in
    ((λ _. exactly.0 (told_full c.args.core.now c.args.call c.name_alone.new.self (whole_of c.name_alone.result) (ap whole_of c.in-Again.is) c.name_alone.ensures.runs).0), (λ _. refl))

pub returns-in-Done-clause-ok : goal.returns-in-Done-clause-ok
returns-in-Done-clause-ok g c = told_map c.args.core.now c.args.call c.name_alone.new.self (whole_of c.name_alone.result) c.in-Done.placed (ap whole_of c.in-Done.is) c.name_alone.ensures.runs

pub returns-in-Done-clause-anchors : goal.returns-in-Done-clause-anchors
returns-in-Done-clause-anchors g c = (placed_so g c).1

-- it changes nothing but the place of the call, where it found no room
pub returns-in-Again-clause-err : goal.returns-in-Again-clause-err
returns-in-Again-clause-err g c = full_same c.args.core.now c.args.call c.name_alone.new.self (whole_of c.name_alone.result) (ap whole_of c.in-Again.is) c.name_alone.ensures.runs

-- and it is left with no call in flight
pub returns-in-Done-clause-quiet : goal.returns-in-Done-clause-quiet
returns-in-Done-clause-quiet g c =
    let ran = c.name_alone.ensures in
    call_stays c.args.core.now c.name_alone.new.self c.args.call (whole_of c.name_alone.result) c.args.caller ran.runs ran.index ran.quiet (calls_fall c.args.core.now c.name_alone.new.self c.args.call c.args.caller ran.locks) ran.spare

pub returns-in-Again-clause-quiet : goal.returns-in-Again-clause-quiet
returns-in-Again-clause-quiet g c =
    let ran = c.name_alone.ensures in
    call_stays c.args.core.now c.name_alone.new.self c.args.call (whole_of c.name_alone.result) c.args.caller ran.runs ran.index ran.quiet (calls_fall c.args.core.now c.name_alone.new.self c.args.call c.args.caller ran.locks) ran.spare

pub returns-in-Done-clause-waits : goal.returns-in-Done-clause-waits
returns-in-Done-clause-waits g c =
    waits_placed c.args.caller c.args.core.now c.name_alone.new.self c.args.call (whole_of c.name_alone.result) c.in-Done.placed c.requires.caller c.requires.index c.requires.quiet.calls c.requires.calls_left (ap whole_of c.in-Done.is)
    c.name_alone.ensures.runs

pub returns-in-Again-clause-err_waits : goal.returns-in-Again-clause-err_waits
returns-in-Again-clause-err_waits g c changes writes puts waits =
    no_change c.name_alone.new.self
    (waits_full c.args.caller c.args.core.now c.name_alone.new.self c.args.call (whole_of c.name_alone.result) c.requires.caller c.requires.index c.requires.quiet.calls c.requires.calls_left (ap whole_of c.in-Again.is) c.name_alone.ensures.runs
    changes writes puts waits)

pub returns-in-Done-clause-weighs : goal.returns-in-Done-clause-weighs
returns-in-Done-clause-weighs g c = told_weighs c.args.core.now c.args.call c.name_alone.new.self (whole_of c.name_alone.result) c.in-Done.placed (ap whole_of c.in-Done.is) c.name_alone.ensures.runs
