use Rattle.std.proofs.Common.{◌≡◌, ℕ, ◌<◌, refl, sym, subst, arith}
use Rattle.call_stages.specs.declared.once.Once.{Once}
use Rattle.call_stages.specs.declared.once.Placed.{Placed}
use Rattle.node_ops.specs.declared.part.PartWords.{PartWords}
use Rattle.lone_hops_law.specs.lone_updater_law.specs.CallLogs.{ready_lines}
use Rattle.index_core.specs.declared.party.CoreCall.{CoreCall}
use Rattle.index_core.specs.declared.party.CoreCall.TheVariants as call
use Rattle.updater.specs.declared.terms.Turned.{Turned}
use Rattle.index_core.specs.declared.party.Whole.TheVariants as whole
use Rattle.index_core.specs.CoreCalls.{IfRecheck, IfTurn, IsGetCall}
use Rattle.index_core.specs.Costs.{most_actions, turn_actions}
use Rattle.index_core.specs.Indexes.{IsIndex, world}
use Rattle.index_core.specs.Lone.{part_whole, whole_of}
use Rattle.index_core.specs.Withins.{EndsInTime}
use Rattle.node_ops.specs.declared.recheck.Same.{Same}
use Rattle.index_core.specs.Rechecks.{CutsRecheckOff, RechecksAlone, same_whole}
use Rattle.index_core.proofs.Either.{a_recheck, a_turn, no_recheck, no_turn, part_no_recheck, part_no_turn}
use Rattle.index_core.proofs.Either.{may_name, may_part, may_recheck, may_turn, no_part_counts, turn_no_name, turn_no_recheck}
use Rattle.index_core.proofs.Ends.{ends_by, in_time_ends, name_ends, recheck_ends, recheck_no_name, recheck_no_turn, turn_ends}
use Rattle.index_core.proofs.Ends.{spent_ends, stays_end}
use Rattle.index_core.proofs.Stepping.{respare}
use Rattle.index_core.proofs.index.Core.run_within.Goals as goal

pub returns-then-budget-eq0-clause-index : goal.returns-then-budget-eq0-clause-index
returns-then-budget-eq0-clause-index g c = subst IsIndex c.self.view_is (respare _ _ c.self.invariant.0)

pub returns-in_default : goal.returns-in_default
returns-in_default g c =
    let some : 0 < c.args.budget.now = omega (arith, c.if-budget-eq0.false) in
    record {
      ends = name_ends (Once Placed) c.name_within.result whole_of c.within_name.result c.args.self.now c.name_within.new.self c.args.caller c.args.call c.args.call refl c.in_default.not-Turn c.within_name.ensures c.name_within.ensures.runs;
      turn_stays = no_turn c.args.call _ c.in_default.not-Turn;
      rechecks = no_recheck c.args.call _ c.in_default.not-Recheck;
      reads = c.name_within.ensures.reads;
      budget = spent_ends (Once Placed) c.name_within.result whole_of c.within_name.result c.args.budget.now c.name_within.new.budget some c.name_within.ensures.spent c.within_name.ensures;
      events = c.name_within.ensures.events;
      in_time = λ may short none. in_time_ends (Once Placed) c.name_within.result whole_of c.within_name.result c.args.budget.now c.args.steps.now c.name_within.new.steps (most_actions c.args.self.now.layout c.args.call (ready_lines (world c.args.self.now))) c.within_name.ensures (c.name_within.ensures.in_time short none);
      turn_in_time = no_turn c.args.call _ c.in_default.not-Turn;
      recheck_in_time = no_recheck c.args.call _ c.in_default.not-Recheck;
      index = c.name_within.ensures.index;
    }

pub returns-in-Recheck : goal.returns-in-Recheck
returns-in-Recheck g c =
    let some : 0 < c.args.budget.now = omega (arith, c.if-budget-eq0.false) in
    let s0 = c.args.self.now in
    let s = c.recheck_within.new.self in
    let i = c.args.caller in
    let node = c.in-Recheck.node in
    let version = c.in-Recheck.version in
    let is = c.in-Recheck.is in
    let answer = c.recheck_within.result in
    let result = c.within_recheck.result in
    let comes = c.within_recheck.ensures in
    record {
      ends = recheck_ends answer result s0 s i node version c.args.call is comes;
      turn_stays = no_turn _ _ (recheck_no_turn c.args.call node version is);
      rechecks = a_recheck c.args.call _ node version is (ends_by Same answer same_whole result (RechecksAlone s0 node version s) (CutsRecheckOff s0 i node version s) (s ≡ s0) comes c.recheck_within.ensures.ends);
      reads = λ get. absurd (subst IsGetCall is get);
      budget = spent_ends Same answer same_whole result c.args.budget.now c.recheck_within.new.budget some c.recheck_within.ensures.spent comes;
      events = c.recheck_within.ensures.events;
      in_time = λ may. absurd (recheck_no_name c.args.call node version is may);
      turn_in_time = no_turn _ _ (recheck_no_turn c.args.call node version is);
      recheck_in_time = a_recheck c.args.call _ node version is (λ there. in_time_ends Same answer same_whole result c.args.budget.now c.args.steps.now c.recheck_within.new.steps 2 comes (c.recheck_within.ensures.in_time there));
      index = c.recheck_within.ensures.index;
    }

pub returns-in-Turn-clause-turn_stays : goal.returns-in-Turn-clause-turn_stays
returns-in-Turn-clause-turn_stays g c =
    let some : 0 < c.args.budget.now = omega (arith, c.if-budget-eq0.false) in
    a_turn _ _ _ _ c.in-Turn.is
    (stays_end c.turn_within.result c.within_turn.result c.args.self.now c.turn_within.new.self c.args.caller c.args.budget.now some c.turn_within.ensures.quiet c.turn_within.ensures.short c.turn_within.ensures.stays c.within_turn.ensures)

pub returns-in-Turn-clause-reads : goal.returns-in-Turn-clause-reads
returns-in-Turn-clause-reads g c = λ get. absurd (subst IsGetCall c.in-Turn.is get)

pub returns-in-Part-clause-reads : goal.returns-in-Part-clause-reads
returns-in-Part-clause-reads g c = λ get. absurd (subst IsGetCall c.in-Part.is get)

pub returns-in-Part-clause-in_time : goal.returns-in-Part-clause-in_time
returns-in-Part-clause-in_time g c = λ may short none.
    subst (λ (d : CoreCall). EndsInTime c.within_part.result c.args.budget.now c.args.steps.now c.part_within.new.steps (most_actions c.args.self.now.layout d (ready_lines (world c.args.self.now)))) (sym c.in-Part.is)
    (in_time_ends (Once PartWords) c.part_within.result part_whole c.within_part.result c.args.budget.now c.args.steps.now c.part_within.new.steps (most_actions c.args.self.now.layout (call.Part c.in-Part.low c.in-Part.count) (ready_lines (world c.args.self.now)))
    c.within_part.ensures (c.part_within.ensures.in_time short tt))

-- whatever holds of each stamp and release holds of a turn, if it is one
if_turn : (d : CoreCall) (P : ℕ → ℕ → Type 0) → ((stamp release : ℕ) → P stamp release) → IfTurn d P
if_turn (call.Put name value limit) P each = tt
if_turn (call.Get name) P each = tt
if_turn (call.Del name limit) P each = tt
if_turn (call.Part low count) P each = tt
if_turn (call.Recheck node version) P each = tt
if_turn (call.Turn stamp release) P each = each stamp release

if_recheck : (d : CoreCall) (P : ℕ → ℕ → Type 0) → ((node version : ℕ) → P node version) → IfRecheck d P
if_recheck (call.Put name value limit) P each = tt
if_recheck (call.Get name) P each = tt
if_recheck (call.Del name limit) P each = tt
if_recheck (call.Part low count) P each = tt
if_recheck (call.Recheck node version) P each = each node version
if_recheck (call.Turn stamp release) P each = tt

pub returns-then-budget-eq0-clause-ends : goal.returns-then-budget-eq0-clause-ends
returns-then-budget-eq0-clause-ends g c = refl

pub returns-then-budget-eq0-clause-turn_stays : goal.returns-then-budget-eq0-clause-turn_stays
returns-then-budget-eq0-clause-turn_stays g c = if_turn c.args.call _ (λ stamp release. refl)

pub returns-then-budget-eq0-clause-rechecks : goal.returns-then-budget-eq0-clause-rechecks
returns-then-budget-eq0-clause-rechecks g c = if_recheck c.args.call _ (λ node version. refl)

pub returns-then-budget-eq0-clause-reads : goal.returns-then-budget-eq0-clause-reads
returns-then-budget-eq0-clause-reads g c = λ get. refl

pub returns-then-budget-eq0-clause-budget : goal.returns-then-budget-eq0-clause-budget
returns-then-budget-eq0-clause-budget g c = omega (arith, c.if-budget-eq0.true)

pub returns-then-budget-eq0-clause-events : goal.returns-then-budget-eq0-clause-events
returns-then-budget-eq0-clause-events g c = refl

pub returns-then-budget-eq0-clause-in_time : goal.returns-then-budget-eq0-clause-in_time
returns-then-budget-eq0-clause-in_time g c = λ may short none. tt

pub returns-then-budget-eq0-clause-turn_in_time : goal.returns-then-budget-eq0-clause-turn_in_time
returns-then-budget-eq0-clause-turn_in_time g c = if_turn c.args.call _ (λ stamp release quiet. tt)

pub returns-then-budget-eq0-clause-recheck_in_time : goal.returns-then-budget-eq0-clause-recheck_in_time
returns-then-budget-eq0-clause-recheck_in_time g c = if_recheck c.args.call _ (λ node version there. tt)

pub part_within-requires-clause-caller : goal.part_within-requires-clause-caller
part_within-requires-clause-caller g c = may_part _ _ _ _ _ _ c.in-Part.is c.requires.may

pub part_within-requires-clause-still : goal.part_within-requires-clause-still
part_within-requires-clause-still g c = c.requires.still

pub turn_within-requires-clause-party : goal.turn_within-requires-clause-party
turn_within-requires-clause-party g c = (may_turn _ _ _ _ _ _ c.in-Turn.is c.requires.may).0

pub turn_within-requires-clause-stamp : goal.turn_within-requires-clause-stamp
turn_within-requires-clause-stamp g c = (may_turn _ _ _ _ _ _ c.in-Turn.is c.requires.may).1

pub turn_within-requires-clause-still : goal.turn_within-requires-clause-still
turn_within-requires-clause-still g c = c.requires.still

pub recheck_within-requires-clause-caller : goal.recheck_within-requires-clause-caller
recheck_within-requires-clause-caller g c = (may_recheck _ _ _ _ _ _ c.in-Recheck.is c.requires.may).0

pub recheck_within-requires-clause-node : goal.recheck_within-requires-clause-node
recheck_within-requires-clause-node g c = (may_recheck _ _ _ _ _ _ c.in-Recheck.is c.requires.may).1

pub recheck_within-requires-clause-still : goal.recheck_within-requires-clause-still
recheck_within-requires-clause-still g c = c.requires.still

pub name_within-requires-clause-caller : goal.name_within-requires-clause-caller
name_within-requires-clause-caller g c = (may_name _ _ _ _ c.in_default.not-Turn c.in_default.not-Recheck c.requires.may).0

pub name_within-requires-clause-begins : goal.name_within-requires-clause-begins
name_within-requires-clause-begins g c = (may_name _ _ _ _ c.in_default.not-Turn c.in_default.not-Recheck c.requires.may).1

pub name_within-requires-clause-name : goal.name_within-requires-clause-name
name_within-requires-clause-name g c = no_part_counts c.args.call c.in_default.not-Part

pub name_within-requires-clause-spare : goal.name_within-requires-clause-spare
name_within-requires-clause-spare g c = c.requires.spare

pub name_within-requires-clause-still : goal.name_within-requires-clause-still
name_within-requires-clause-still g c = c.requires.still

pub returns-in-Part-clause-ends : goal.returns-in-Part-clause-ends
returns-in-Part-clause-ends g c =
    name_ends (Once PartWords) c.part_within.result part_whole c.within_part.result c.args.self.now c.part_within.new.self c.args.caller (call.Part c.in-Part.low c.in-Part.count) c.args.call c.in-Part.is
    (part_no_turn _ _ _ c.in-Part.is) c.within_part.ensures c.part_within.ensures.runs

pub returns-in-Part-clause-turn_stays : goal.returns-in-Part-clause-turn_stays
returns-in-Part-clause-turn_stays g c = no_turn _ _ (part_no_turn _ _ _ c.in-Part.is)

pub returns-in-Part-clause-turn_in_time : goal.returns-in-Part-clause-turn_in_time
returns-in-Part-clause-turn_in_time g c = no_turn _ _ (part_no_turn _ _ _ c.in-Part.is)

pub returns-in-Part-clause-rechecks : goal.returns-in-Part-clause-rechecks
returns-in-Part-clause-rechecks g c = no_recheck _ _ (part_no_recheck _ _ _ c.in-Part.is)

pub returns-in-Part-clause-recheck_in_time : goal.returns-in-Part-clause-recheck_in_time
returns-in-Part-clause-recheck_in_time g c = no_recheck _ _ (part_no_recheck _ _ _ c.in-Part.is)

pub returns-in-Part-clause-budget : goal.returns-in-Part-clause-budget
returns-in-Part-clause-budget g c =
    let some : 0 < c.args.budget.now = omega (arith, c.if-budget-eq0.false) in
    spent_ends (Once PartWords) c.part_within.result part_whole c.within_part.result c.args.budget.now c.part_within.new.budget some c.part_within.ensures.spent c.within_part.ensures

pub returns-in-Part-clause-events : goal.returns-in-Part-clause-events
returns-in-Part-clause-events g c = c.part_within.ensures.events

pub returns-in-Part-clause-index : goal.returns-in-Part-clause-index
returns-in-Part-clause-index g c = c.part_within.ensures.index

pub returns-in-Turn-clause-ends : goal.returns-in-Turn-clause-ends
returns-in-Turn-clause-ends g c =
    turn_ends c.turn_within.result c.within_turn.result c.args.self.now c.turn_within.new.self c.args.caller c.in-Turn.stamp c.in-Turn.release c.args.call c.in-Turn.is c.within_turn.ensures c.turn_within.ensures.turns

pub returns-in-Turn-clause-rechecks : goal.returns-in-Turn-clause-rechecks
returns-in-Turn-clause-rechecks g c = no_recheck _ _ (turn_no_recheck _ _ _ c.in-Turn.is)

pub returns-in-Turn-clause-recheck_in_time : goal.returns-in-Turn-clause-recheck_in_time
returns-in-Turn-clause-recheck_in_time g c = no_recheck _ _ (turn_no_recheck _ _ _ c.in-Turn.is)

pub returns-in-Turn-clause-budget : goal.returns-in-Turn-clause-budget
returns-in-Turn-clause-budget g c =
    let some : 0 < c.args.budget.now = omega (arith, c.if-budget-eq0.false) in
    spent_ends Turned c.turn_within.result (λ turned. whole.Turned turned) c.within_turn.result c.args.budget.now c.turn_within.new.budget some c.turn_within.ensures.spent c.within_turn.ensures

pub returns-in-Turn-clause-events : goal.returns-in-Turn-clause-events
returns-in-Turn-clause-events g c = c.turn_within.ensures.events

pub returns-in-Turn-clause-index : goal.returns-in-Turn-clause-index
returns-in-Turn-clause-index g c = c.turn_within.ensures.index

pub returns-in-Turn-clause-in_time : goal.returns-in-Turn-clause-in_time
returns-in-Turn-clause-in_time g c = λ may. absurd (turn_no_name _ _ _ c.in-Turn.is may)

pub returns-in-Turn-clause-turn_in_time : goal.returns-in-Turn-clause-turn_in_time
returns-in-Turn-clause-turn_in_time g c =
    a_turn _ _ _ _ c.in-Turn.is
    (λ quiet. in_time_ends Turned c.turn_within.result (λ turned. whole.Turned turned) c.within_turn.result c.args.budget.now c.args.steps.now c.turn_within.new.steps (turn_actions c.args.self.now.layout) c.within_turn.ensures (c.turn_within.ensures.in_time quiet))
