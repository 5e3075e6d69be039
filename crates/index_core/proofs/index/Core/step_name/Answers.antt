use Rattle.std.proofs.Common.{arith, refl, ap, sym, ◌∙◌, subst}
use Rattle.std.specs.Prelude.{IsSome}
use lib.ListN.{get_elem?}
use Rattle.node_ops.specs.RunningSteps.{IsRunning, count_in, listed_in, running_turned}
use Rattle.index_core.specs.declared.party.PartyState.{PartyState}
use Rattle.index_core.specs.declared.party.Stepped.TheVariants.{Answered}
use Rattle.index_core.specs.declared.party.CoreReply.{CoreReply}
use Rattle.index_core.specs.PartyStates.{reply_with}
use Rattle.index_core.specs.Cores.{index_with}
use Rattle.index_core.specs.Indexes.{Index, StepsTo, told}
use Rattle.index_core.proofs.Lists.{within, read_is}
use Rattle.index_core.proofs.Reading.{reads, reads_turned}
use Rattle.index_core.proofs.Told.{done_of, is_early, steps_on, steps_off}
use Rattle.index_core.proofs.index.Core.step_name.Goals as goal

pub index-requires : goal.index-requires
index-requires g c =
    let flies = c.requires.flies in
    let there = ap (λ (v : Index). get_elem? v.states c.args.party) c.self.view_is ∙ flies.there in
    omega (arith, within c.self.inside.states.items c.args.party flies.state there, c.self.inside.states.ok.0)

pub running-machine-requires : goal.running-machine-requires
running-machine-requires g c =
    let flies = c.requires.flies in
    let there = ap (λ (v : Index). get_elem? v.states c.args.party) c.self.view_is ∙ flies.there in
    let read = read_is c.self.inside.states.items c.args.party flies.state c.index.result.now there c.index.ensures in
    subst IsSome (sym (ap (λ (d : PartyState). d.machine) read ∙ flies.flies)) refl

pub listed-listed-requires : goal.listed-listed-requires
listed-listed-requires g c =
    let at = reads (index_with c.self.inside 0) c.args.self.now c.args.party c.requires.flies c.index.result.now c.running-machine.result.now (ap (λ (v : Index). v.states) c.self.view_is) c.self.invariant.0 c.index.ensures c.running-machine.ensures in
    subst IsRunning (sym at.found.same) at.facts.fits

pub of-requires : goal.of-requires
of-requires g c = λ counts none.
    let t = c.in-Some.ensures.turned in
    let same = reads_turned (index_with c.self.inside 0) c.args.self.now c.step_call.new.self c.args.party _ c.in-Some.ensures.turned c.index.result.now c.running-machine.result.now (ap (λ (v : Index). v.states) c.self.view_is) c.self.invariant.0 c.index.ensures c.running-machine.ensures in
    let done = done_of (running_turned t.machine (told c.args.self.now t.machine)) c.in-Some.answer (sym t.answers) in
    is_early t.machine (told c.args.self.now t.machine) c.in-Some.answer done (subst IsSome (c.count-count.ensures ∙ ap count_in same) counts) (sym (c.listed-listed.ensures ∙ ap listed_in same) ∙ none)

pub returns-in-None-clause-stepped : goal.returns-in-None-clause-stepped
returns-in-None-clause-stepped g c = steps_on c.args.self.now c.step_call.new.self c.args.party c.in-None.ensures.turned

pub returns-in-Some-clause-stepped : goal.returns-in-Some-clause-stepped
returns-in-Some-clause-stepped g c =
    subst (λ (r : CoreReply). StepsTo c.args.self.now c.args.party c.step_call.new.self (Answered r)) (sym (c.of.ensures ∙ (λ k. reply_with (c.count-count.ensures k) (c.listed-listed.ensures k) c.in-Some.answer)))
    (steps_off c.args.self.now c.step_call.new.self c.args.party c.running-machine.result.now c.in-Some.answer c.in-Some.ensures.turned (reads_turned (index_with c.self.inside 0) c.args.self.now c.step_call.new.self c.args.party _ c.in-Some.ensures.turned c.index.result.now c.running-machine.result.now (ap (λ (v : Index). v.states) c.self.view_is) c.self.invariant.0 c.index.ensures c.running-machine.ensures))
