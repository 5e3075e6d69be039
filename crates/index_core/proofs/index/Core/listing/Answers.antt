use Rattle.std.proofs.Common.{◌≡◌, refl, ap, sym, ◌∙◌, subst, arith}
use Rattle.std.specs.Prelude.{Option, IfSome, IsSome}
use lib.ListN.{get_elem?}
use Rattle.node_ops.specs.declared.running.Running.{Running}
use Rattle.node_ops.specs.RunningSteps.{IsRunning, Sound, listed_in}
use Rattle.index_core.specs.declared.party.PartyState.{PartyState}
use Rattle.index_core.specs.Cores.{index_with}
use Rattle.index_core.specs.Indexes.{Index}
use Rattle.index_core.proofs.Lists.{within, read_is}
use Rattle.index_core.proofs.PartTries.{machine_read}
use Rattle.index_core.proofs.index.Core.listing.Goals as goal
use Rattle.index_core.proofs.index.Core.listing.Goals.{After-running-machine}

pub index-requires : goal.index-requires
index-requires c =
    let s = index_with c.self.inside 0 in
    let h = c.requires.1 in
    let there = ap (λ (v : Index). get_elem? v.states c.args.party) c.self.view_is ∙ h.there in
    omega (arith, within s.states c.args.party h.state there, c.self.inside.states.ok.0)

pub running-machine-requires : goal.running-machine-requires
running-machine-requires c =
    let s = index_with c.self.inside 0 in
    let h = c.requires.1 in
    let there = ap (λ (v : Index). get_elem? v.states c.args.party) c.self.view_is ∙ h.there in
    let read = read_is s.states c.args.party h.state c.index.result.now there c.index.ensures in
    subst IsSome (sym (ap (λ (d : PartyState). d.machine) read ∙ h.flies)) refl

-- the machine that it reads is the party's
own_machine : (c : After-running-machine) → c.running-machine.result.now ≡ c.requires.1.machine
own_machine c =
    let s = index_with c.self.inside 0 in
    let h = c.requires.1 in
    let there = ap (λ (v : Index). get_elem? v.states c.args.party) c.self.view_is ∙ h.there in
    machine_read c.running-machine.ensures (read_is s.states c.args.party h.state c.index.result.now there c.index.ensures) h.flies

pub listed-requires : goal.listed-requires
listed-requires c =
    let s = index_with c.self.inside 0 in
    let h = c.requires.1 in
    let there = ap (λ (v : Index). get_elem? v.states c.args.party) c.self.view_is ∙ h.there in
    let own = (c.self.invariant.0.states c.args.party h.state there).machine in
    subst IsRunning (sym (own_machine c)) (subst (λ (o : Option Running). IfSome o (Sound s.layout s.generation)) h.flies own).here

pub unreachable-requires : goal.unreachable-requires
unreachable-requires c =
    c.in_default.not-Some c.requires.0 (c.listed.ensures ∙ ap listed_in (own_machine (goal.at.unreachable-requires c).After-running-machine) ∙ c.requires.1.listed)

pub returns : goal.returns
returns c =
    let h = c.requires.1 in
    record {
      state = h.state;
      machine = h.machine;
      there = h.there;
      flies = h.flies;
      listed = ap listed_in (sym (own_machine (goal.at.returns c).After-running-machine)) ∙ sym c.listed.ensures ∙ c.in-Some.is;
    }
