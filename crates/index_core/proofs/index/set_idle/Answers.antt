use Rattle.std.proofs.Common.{◌≡◌, ◌++◌, ◌<◌, List, length, drop, set, ap, ◌∙◌, arith}
use Rattle.std.proofs.lemmas.List.{append-nil, drop_all, length-set}
use Rattle.index_core.specs.PartyStates.{idle_states}
use Rattle.index_core.specs.declared.party.PartyState.{PartyState}
use Rattle.index_core.proofs.Rounds.{idle_more}
use Rattle.index_core.proofs.index.set_idle.Goals as goal

pub loop-caller-preserved : goal.loop-caller-preserved
loop-caller-preserved c =
    let i = c.loop-caller.caller in
    let old : List PartyState = c.args.states.now.items in
    let within : i < length old = omega (arith, c.loop-caller-test.true, c.len-caller-end.ensures, c.args.states.now.ok) in
    record {
      long = length-set c.loop-caller.states.items i c.begins_anew.new.self ∙ c.loop-caller.invariant.long;
      idle = (λ k. set (c.loop-caller.invariant.idle k) i (c.begins_anew.ensures k)) ∙ idle_more old i within;
    }

pub returns : goal.returns
returns c =
    let old : List PartyState = c.args.states.now.items in
    let done : c.loop-caller.caller ≡ length old = omega (arith, c.loop-caller-test.false, c.loop-caller.auto.caller-end, c.len-caller-end.ensures, c.args.states.now.ok) in
    c.loop-caller.invariant.idle ∙ (λ k. idle_states (done k) ++ drop (done k) old)
    ∙ ap (λ (others : List PartyState). idle_states (length old) ++ others) (drop_all (length old) old (omega arith)) ∙ append-nil (idle_states (length old))
