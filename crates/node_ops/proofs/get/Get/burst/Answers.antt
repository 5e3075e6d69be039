use Rattle.std.proofs.Common.{ℕ, sym, refl, ap, ◌∙◌}
use Rattle.std.specs.Prelude.{Option}
use Rattle.pm_words.specs.Turns.{turn_of}
use Rattle.pm_words.specs.declared.machine.Turn.TheVariants.{Done}
use Rattle.call_stages.specs.declared.once.Once.{Once}
use Rattle.call_stages.specs.declared.once.Placed.{Placed}
use Rattle.machine_runs.proofs.Running.{run_begins, run_can, run_ends, run_takes}
use Rattle.node_ops.specs.declared.lookup.Looked.{Looked}
use Rattle.node_ops.specs.declared.get.Get.TheVariants.{Looking}
use Rattle.node_ops.specs.GetSteps.{checked, get_takes, get_looked}
use Rattle.node_ops.proofs.CallBursts.{get_adds_nothing, get_found_run, get_looked_call, get_looking_may}
use Rattle.node_ops.proofs.CallBursts.{get_looking_bursts}
use Rattle.node_ops.proofs.get.Get.burst.Goals as goal

pub action-requires : goal.action-requires
action-requires g c =
    (run_takes get_takes c.requires (run_begins c.args.memory.now c.args.self.now c.args.steps.now) refl refl).0

pub act-got-requires : goal.act-got-requires
act-got-requires g c =
    run_can get_takes c.requires (run_begins c.args.memory.now c.args.self.now c.args.steps.now) c.action.ensures

pub advance-requires : goal.advance-requires
advance-requires g c =
    run_takes get_takes c.requires (run_begins c.args.memory.now c.args.self.now c.args.steps.now) c.action.ensures
    c.act-got.ensures.got

pub returns-in_default : goal.returns-in_default
returns-in_default g c =
    run_ends (run_begins c.args.memory.now c.args.self.now c.args.steps.now) (get_adds_nothing c.args.self.now)
    c.action.ensures c.act-got.ensures.row c.act-got.ensures.got c.act-got.ensures.tick c.advance.ensures.fewer
    c.advance.ensures.turned

pub burst-requires : goal.burst-requires
burst-requires g c =
    get_looking_may c.args.self.now c.in-Looking.lookup c.in-Looking.is {old = c.args.memory.now} c.requires

pub returns-in_err-answer : goal.returns-in_err-answer
returns-in_err-answer g c =
    get_looking_bursts c.args.self.now c.in-Looking.lookup c.in-Looking.is c.requires c.in_err-answer.ensures
    (ap (turn_of (Looking c.burst.new.self)) (sym c.from_residual.ensures))

pub returns-in-Early : goal.returns-in-Early
returns-in-Early g c =
    get_looking_bursts c.args.self.now c.in-Looking.lookup c.in-Looking.is c.requires c.in_ok-answer.ensures
    (ap (λ (f : Looked). get_looked c.burst.new.self.call (Done f)) c.in-Early.is)

pub checks-requires : goal.checks-requires
checks-requires g c =
    get_looked_call c.args.self.now c.in-Looking.lookup c.in-Looking.is {old = c.args.memory.now} c.requires
    c.in_ok-answer.ensures

pub act-again-requires : goal.act-again-requires
act-again-requires g c =
    run_can get_takes c.requires
    (get_found_run c.args.self.now c.in-Looking.lookup c.in-Looking.is c.in-Found.found c.requires
    c.in_ok-answer.ensures c.in-Found.is)
    c.checks.ensures

pub returns : goal.returns
returns g c =
    run_ends
    (get_found_run c.args.self.now c.in-Looking.lookup c.in-Looking.is c.in-Found.found c.requires
    c.in_ok-answer.ensures c.in-Found.is)
    tt c.checks.ensures c.act-again.ensures.row
    c.act-again.ensures.got c.act-again.ensures.tick tt
    (ap (λ (o : Option ℕ). Done (checked c.burst.new.self.call c.in-Found.found.hold o c.act-again.result))
    (sym c.value_of.ensures)
    ∙ ap (λ (a : Once Placed). Done a) (sym c.checked.ensures))
