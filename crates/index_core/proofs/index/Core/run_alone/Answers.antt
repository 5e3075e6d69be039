use Rattle.std.proofs.Common.{inl, ◌+◌, ◌≤◌, length, sym, subst, arith}
use Rattle.index_core.specs.declared.party.Whole.{Whole}
use Rattle.index_core.specs.declared.party.CoreCall.{CoreCall}
use Rattle.index_core.specs.Costs.{ActsWithin}
use Rattle.index_core.specs.Indexes.{Index}
use Rattle.index_core.specs.Lone.{IsQuiet, RunsAlone}
use Rattle.index_core.proofs.Either.{a_recheck, a_turn, no_recheck, no_turn, part_no_recheck, part_no_turn}
use Rattle.index_core.proofs.Either.{may_name, may_part, may_recheck, may_turn, no_part_counts, turn_no_name, turn_no_recheck}
use Rattle.index_core.proofs.Ends.{recheck_no_name, recheck_no_turn}
use Rattle.index_core.proofs.index.Core.run_alone.Goals as goal

pub returns-in_default-clause-runs : goal.returns-in_default-clause-runs
returns-in_default-clause-runs g c = λ _. subst (λ (r : Whole). RunsAlone c.args.self.now c.args.caller c.args.call c.name_alone.new.self r) (sym c.of.ensures) c.name_alone.ensures.runs

pub returns-in_default-clause-turns : goal.returns-in_default-clause-turns
returns-in_default-clause-turns g c = no_turn c.args.call _ c.in_default.not-Turn

pub returns-in_default-clause-short : goal.returns-in_default-clause-short
returns-in_default-clause-short g c = no_turn c.args.call _ c.in_default.not-Turn

pub returns-in_default-clause-events : goal.returns-in_default-clause-events
returns-in_default-clause-events g c = λ _. c.name_alone.ensures.events

pub returns-in_default-clause-rechecks : goal.returns-in_default-clause-rechecks
returns-in_default-clause-rechecks g c = no_recheck c.args.call _ c.in_default.not-Recheck

pub returns-in_default-clause-turn_events : goal.returns-in_default-clause-turn_events
returns-in_default-clause-turn_events g c = no_turn c.args.call _ c.in_default.not-Turn

pub returns-in_default-clause-recheck_events : goal.returns-in_default-clause-recheck_events
returns-in_default-clause-recheck_events g c = no_recheck c.args.call _ c.in_default.not-Recheck

-- as much room for writes is left
abbrev HasRoom : Index → Index → Type 0
HasRoom s0 s = s0.spare + length s0.history ≤ s.spare + length s.history

pub part_alone-requires-clause-caller : goal.part_alone-requires-clause-caller
part_alone-requires-clause-caller g c = may_part _ _ _ _ _ _ c.in-Part.is c.requires.may

pub part_alone-requires-clause-quiet : goal.part_alone-requires-clause-quiet
part_alone-requires-clause-quiet g c = c.requires.quiet

pub turn_alone-requires-clause-party : goal.turn_alone-requires-clause-party
turn_alone-requires-clause-party g c = (may_turn _ _ _ _ _ _ c.in-Turn.is c.requires.may).0

pub turn_alone-requires-clause-stamp : goal.turn_alone-requires-clause-stamp
turn_alone-requires-clause-stamp g c = (may_turn _ _ _ _ _ _ c.in-Turn.is c.requires.may).1

pub turn_alone-requires-clause-quiet : goal.turn_alone-requires-clause-quiet
turn_alone-requires-clause-quiet g c = c.requires.quiet

pub recheck_alone-same-requires-clause-caller : goal.recheck_alone-same-requires-clause-caller
recheck_alone-same-requires-clause-caller g c = (may_recheck _ _ _ _ _ _ c.in-Recheck.is c.requires.may).0

pub recheck_alone-same-requires-clause-node : goal.recheck_alone-same-requires-clause-node
recheck_alone-same-requires-clause-node g c = (may_recheck _ _ _ _ _ _ c.in-Recheck.is c.requires.may).1

pub recheck_alone-same-requires-clause-version : goal.recheck_alone-same-requires-clause-version
recheck_alone-same-requires-clause-version g c = (may_recheck _ _ _ _ _ _ c.in-Recheck.is c.requires.may).2

pub recheck_alone-same-requires-clause-quiet : goal.recheck_alone-same-requires-clause-quiet
recheck_alone-same-requires-clause-quiet g c = c.requires.quiet

pub name_alone-requires-clause-caller : goal.name_alone-requires-clause-caller
name_alone-requires-clause-caller g c = (may_name _ _ _ _ c.in_default.not-Turn c.in_default.not-Recheck c.requires.may).0

pub name_alone-requires-clause-begins : goal.name_alone-requires-clause-begins
name_alone-requires-clause-begins g c = (may_name _ _ _ _ c.in_default.not-Turn c.in_default.not-Recheck c.requires.may).1

pub name_alone-requires-clause-name : goal.name_alone-requires-clause-name
name_alone-requires-clause-name g c = no_part_counts c.args.call c.in_default.not-Part

pub name_alone-requires-clause-quiet : goal.name_alone-requires-clause-quiet
name_alone-requires-clause-quiet g c = c.requires.quiet

pub name_alone-requires-clause-spare : goal.name_alone-requires-clause-spare
name_alone-requires-clause-spare g c = c.requires.spare

pub returns-in-Part-clause-runs : goal.returns-in-Part-clause-runs
returns-in-Part-clause-runs g c =
    λ _. subst (λ (q : CoreCall × Whole). RunsAlone c.args.self.now c.args.caller q.0 c.part_alone.new.self q.1) (λ k. (sym c.in-Part.is k, sym c.of_part.ensures k)) c.part_alone.ensures.runs

pub returns-in-Part-clause-turns : goal.returns-in-Part-clause-turns
returns-in-Part-clause-turns g c = no_turn _ _ (part_no_turn _ _ _ c.in-Part.is)

pub returns-in-Part-clause-short : goal.returns-in-Part-clause-short
returns-in-Part-clause-short g c = no_turn _ _ (part_no_turn _ _ _ c.in-Part.is)

pub returns-in-Part-clause-turn_events : goal.returns-in-Part-clause-turn_events
returns-in-Part-clause-turn_events g c = no_turn _ _ (part_no_turn _ _ _ c.in-Part.is)

pub returns-in-Part-clause-rechecks : goal.returns-in-Part-clause-rechecks
returns-in-Part-clause-rechecks g c = no_recheck _ _ (part_no_recheck _ _ _ c.in-Part.is)

pub returns-in-Part-clause-recheck_events : goal.returns-in-Part-clause-recheck_events
returns-in-Part-clause-recheck_events g c = no_recheck _ _ (part_no_recheck _ _ _ c.in-Part.is)

pub returns-in-Part-clause-quiet : goal.returns-in-Part-clause-quiet
returns-in-Part-clause-quiet g c = c.part_alone.ensures.quiet

pub returns-in-Part-clause-spare : goal.returns-in-Part-clause-spare
returns-in-Part-clause-spare g c = c.part_alone.ensures.spare

pub returns-in-Part-clause-acts : goal.returns-in-Part-clause-acts
returns-in-Part-clause-acts g c = c.part_alone.ensures.acts

pub returns-in-Part-clause-index : goal.returns-in-Part-clause-index
returns-in-Part-clause-index g c = c.part_alone.ensures.index

pub returns-in-Part-clause-each_lock : goal.returns-in-Part-clause-each_lock
returns-in-Part-clause-each_lock g c = λ _. inl c.part_alone.ensures.each_lock

pub returns-in-Part-clause-locks : goal.returns-in-Part-clause-locks
returns-in-Part-clause-locks g c = λ _. inl c.part_alone.ensures.locks

pub returns-in-Part-clause-events : goal.returns-in-Part-clause-events
returns-in-Part-clause-events g c =
    λ _. subst (λ (d : CoreCall). ActsWithin c.args.self.now c.args.caller d c.args.steps.now c.part_alone.new.steps) (sym c.in-Part.is) c.part_alone.ensures.events

pub returns-in-Turn-clause-runs : goal.returns-in-Turn-clause-runs
returns-in-Turn-clause-runs g c = λ may. absurd (turn_no_name _ _ _ c.in-Turn.is may)

pub returns-in-Turn-clause-each_lock : goal.returns-in-Turn-clause-each_lock
returns-in-Turn-clause-each_lock g c = λ may. absurd (turn_no_name _ _ _ c.in-Turn.is may)

pub returns-in-Turn-clause-locks : goal.returns-in-Turn-clause-locks
returns-in-Turn-clause-locks g c = λ may. absurd (turn_no_name _ _ _ c.in-Turn.is may)

pub returns-in-Turn-clause-events : goal.returns-in-Turn-clause-events
returns-in-Turn-clause-events g c = λ may. absurd (turn_no_name _ _ _ c.in-Turn.is may)

pub returns-in-Turn-clause-turns : goal.returns-in-Turn-clause-turns
returns-in-Turn-clause-turns g c = a_turn _ _ _ _ c.in-Turn.is c.turn_alone.ensures.turns

pub returns-in-Turn-clause-short : goal.returns-in-Turn-clause-short
returns-in-Turn-clause-short g c = a_turn _ _ _ _ c.in-Turn.is c.turn_alone.ensures.short

pub returns-in-Turn-clause-turn_events : goal.returns-in-Turn-clause-turn_events
returns-in-Turn-clause-turn_events g c = a_turn _ _ _ _ c.in-Turn.is c.turn_alone.ensures.events

pub returns-in-Turn-clause-rechecks : goal.returns-in-Turn-clause-rechecks
returns-in-Turn-clause-rechecks g c = no_recheck _ _ (turn_no_recheck _ _ _ c.in-Turn.is)

pub returns-in-Turn-clause-recheck_events : goal.returns-in-Turn-clause-recheck_events
returns-in-Turn-clause-recheck_events g c = no_recheck _ _ (turn_no_recheck _ _ _ c.in-Turn.is)

pub returns-in-Turn-clause-quiet : goal.returns-in-Turn-clause-quiet
returns-in-Turn-clause-quiet g c = c.turn_alone.ensures.quiet

pub returns-in-Turn-clause-acts : goal.returns-in-Turn-clause-acts
returns-in-Turn-clause-acts g c = c.turn_alone.ensures.acts

pub returns-in-Turn-clause-index : goal.returns-in-Turn-clause-index
returns-in-Turn-clause-index g c = c.turn_alone.ensures.index

pub returns-in-Turn-clause-spare : goal.returns-in-Turn-clause-spare
returns-in-Turn-clause-spare g c = subst (HasRoom c.args.self.now) (sym c.turn_alone.ensures.turns.is) (omega arith)

pub returns-in-Recheck-clause-runs : goal.returns-in-Recheck-clause-runs
returns-in-Recheck-clause-runs g c = λ may. absurd (recheck_no_name _ _ _ c.in-Recheck.is may)

pub returns-in-Recheck-clause-each_lock : goal.returns-in-Recheck-clause-each_lock
returns-in-Recheck-clause-each_lock g c = λ may. absurd (recheck_no_name _ _ _ c.in-Recheck.is may)

pub returns-in-Recheck-clause-locks : goal.returns-in-Recheck-clause-locks
returns-in-Recheck-clause-locks g c = λ may. absurd (recheck_no_name _ _ _ c.in-Recheck.is may)

pub returns-in-Recheck-clause-events : goal.returns-in-Recheck-clause-events
returns-in-Recheck-clause-events g c = λ may. absurd (recheck_no_name _ _ _ c.in-Recheck.is may)

pub returns-in-Recheck-clause-turns : goal.returns-in-Recheck-clause-turns
returns-in-Recheck-clause-turns g c = no_turn _ _ (recheck_no_turn _ _ _ c.in-Recheck.is)

pub returns-in-Recheck-clause-short : goal.returns-in-Recheck-clause-short
returns-in-Recheck-clause-short g c = no_turn _ _ (recheck_no_turn _ _ _ c.in-Recheck.is)

pub returns-in-Recheck-clause-turn_events : goal.returns-in-Recheck-clause-turn_events
returns-in-Recheck-clause-turn_events g c = no_turn _ _ (recheck_no_turn _ _ _ c.in-Recheck.is)

pub returns-in-Recheck-clause-rechecks : goal.returns-in-Recheck-clause-rechecks
returns-in-Recheck-clause-rechecks g c = a_recheck _ _ _ _ c.in-Recheck.is c.recheck_alone-same.ensures.alone

pub returns-in-Recheck-clause-recheck_events : goal.returns-in-Recheck-clause-recheck_events
returns-in-Recheck-clause-recheck_events g c = a_recheck _ _ _ _ c.in-Recheck.is c.recheck_alone-same.ensures.tick

pub returns-in-Recheck-clause-quiet : goal.returns-in-Recheck-clause-quiet
returns-in-Recheck-clause-quiet g c = subst IsQuiet (sym c.recheck_alone-same.ensures.alone.same) c.requires.quiet

pub returns-in-Recheck-clause-spare : goal.returns-in-Recheck-clause-spare
returns-in-Recheck-clause-spare g c = subst (HasRoom c.args.self.now) (sym c.recheck_alone-same.ensures.alone.same) (omega arith)

pub returns-in-Recheck-clause-acts : goal.returns-in-Recheck-clause-acts
returns-in-Recheck-clause-acts g c = omega (arith, c.recheck_alone-same.ensures.tick)

pub returns-in-Recheck-clause-index : goal.returns-in-Recheck-clause-index
returns-in-Recheck-clause-index g c = c.recheck_alone-same.ensures.index

pub returns-in_default-clause-quiet : goal.returns-in_default-clause-quiet
returns-in_default-clause-quiet g c = c.name_alone.ensures.quiet

pub returns-in_default-clause-spare : goal.returns-in_default-clause-spare
returns-in_default-clause-spare g c = c.name_alone.ensures.spare

pub returns-in_default-clause-acts : goal.returns-in_default-clause-acts
returns-in_default-clause-acts g c = c.name_alone.ensures.acts

pub returns-in_default-clause-index : goal.returns-in_default-clause-index
returns-in_default-clause-index g c = c.name_alone.ensures.index

pub returns-in_default-clause-each_lock : goal.returns-in_default-clause-each_lock
returns-in_default-clause-each_lock g c = λ _. c.name_alone.ensures.each_lock

pub returns-in_default-clause-locks : goal.returns-in_default-clause-locks
returns-in_default-clause-locks g c = λ _. c.name_alone.ensures.locks
