use Rattle.std.proofs.Common.{◌≡◌, refl, ap, sym, ◌∙◌, subst, arith}
use Rattle.std.specs.Prelude.{IsSome}
use lib.ListN.{get_elem?}
use Rattle.index_core.specs.declared.party.PartyState.{PartyState}
use Rattle.index_core.specs.Cores.{index_with}
use Rattle.index_core.specs.Indexes.{Index}
use Rattle.index_core.proofs.Lists.{within, read_is}
use Rattle.index_core.proofs.PartTries.{has_listing, machine_read}
use Rattle.index_core.proofs.index.Core.has_listed.Goals as goal

pub index-requires : goal.index-requires
index-requires c =
    let s = index_with c.self.inside 0 in
    let there = ap (λ (v : Index). get_elem? v.states c.args.party) c.self.view_is ∙ c.requires.there in
    omega (arith, within s.states c.args.party c.requires.state there, c.self.inside.states.ok.0)

pub running-machine-requires : goal.running-machine-requires
running-machine-requires c =
    let s = index_with c.self.inside 0 in
    let there = ap (λ (v : Index). get_elem? v.states c.args.party) c.self.view_is ∙ c.requires.there in
    let read = read_is s.states c.args.party c.requires.state c.index.result.now there c.index.ensures in
    subst IsSome (sym (ap (λ (d : PartyState). d.machine) read ∙ c.requires.flies)) refl

pub returns : goal.returns
returns c =
    let s = index_with c.self.inside 0 in
    let there = ap (λ (v : Index). get_elem? v.states c.args.party) c.self.view_is ∙ c.requires.there in
    let read = read_is s.states c.args.party c.requires.state c.index.result.now there c.index.ensures in
    let machine : c.running-machine.result.now ≡ c.requires.machine = machine_read c.running-machine.ensures read c.requires.flies in
    let has = has_listing c.args.self.now c.args.party c.requires c.running-machine.result.now machine in
    ((λ yes. has.0 (c.has_listed.ensures.0 yes)), (λ listing. c.has_listed.ensures.1 (has.1 listing)))
