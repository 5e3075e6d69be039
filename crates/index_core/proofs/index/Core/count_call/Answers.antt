use Rattle.std.proofs.Common.{◌≡◌, ℕ, ◌+◌, ◌-◌, set, sym, ap, ◌∙◌, subst, arith}
use Rattle.std.specs.Prelude.{None}
use mathlib.Core.Option.{some}
use lib.ListN.{get_elem?}
use Rattle.index_core.specs.declared.party.PartyState.{PartyState}
use Rattle.index_core.specs.PartyStates.{state_counted, owed}
use Rattle.index_core.specs.Cores.{index_with}
use Rattle.index_core.specs.Indexes.{Index, IsIndex}
use Rattle.index_core.proofs.Lists.{there_is, read_is}
use Rattle.index_core.proofs.Stepping.{count_keeps, count_owes}
use Rattle.index_core.proofs.index.Core.count_call.Goals as goal

-- The state that it reads is the party's, e, which is idle, and the one that it makes of it counts a call more.
record Counts (c : goal.After-self-1) : Type 0 where
  state : PartyState
  there : get_elem? c.self.inside.states.items c.args.party ≡ some state
  idle : state.machine ≡ None
  now : c.counts.new.self ≡ state_counted state
  owing : owed (set c.self.inside.states.items c.args.party c.counts.new.self) ≡ owed c.self.inside.states.items

counts_at : (c : goal.After-self-1) → Counts c
counts_at c =
    let s = index_with c.self.inside 0 in
    let i = c.args.party in
    let callers = ap (λ (v : Index). v.layout.callers) c.self.view_is in
    let lt = c.requires.party in
    let here = there_is s.states i (omega (arith, c.self.invariant.0.parties, callers, lt)) in
    let now : c.counts.new.self ≡ state_counted here.0 = c.counts.ensures ∙ ap state_counted (read_is s.states i here.0 c.index_mut.result.now here.1 c.index_mut.ensures.value) in
    record {
      state = here.0;
      there = here.1;
      idle = c.requires.idle i here.0 (sym (ap (λ (v : Index). get_elem? v.states i) c.self.view_is) ∙ here.1);
      now = now;
      owing = ap (λ (d : PartyState). owed (set s.states i d)) now ∙ count_owes s i here.0 here.1;
    }

-- so it leaves an index
kept : (c : goal.After-self-1) (spare : ℕ) → IsIndex (record (index_with c.self.inside 0) { states = set c.self.inside.states.items c.args.party c.counts.new.self; spare = spare })
kept c spare =
    let s = index_with c.self.inside 0 in
    let at = counts_at c in
    subst (λ (d : PartyState). IsIndex (record s { states = set s.states c.args.party d; spare = spare })) (sym at.now)
    (count_keeps s c.args.party at.state spare c.self.invariant.0 at.there at.idle)

pub invariant_of-self : goal.invariant_of-self
invariant_of-self c =
    let owing = (counts_at c).owing in
    let room = c.self.invariant.1 in
    (kept c 0, omega arith)

pub returns-clause-counts : goal.returns-clause-counts
returns-clause-counts c =
    let s = index_with c.self.inside 0 in
    let i = c.args.party in
    let at = counts_at c in
    record {
      state = at.state;
      there = sym (ap (λ (v : Index). get_elem? v.states i) c.self.view_is) ∙ at.there;
      is = (λ k. record s { states = set s.states i (at.now k); spare = c.self.inside.history.cap - (c.self.inside.history.len + at.owing k) })
          ∙ ap (λ (v : Index). record v { states = set v.states i (state_counted at.state) }) c.self.view_is;
    }

pub returns-clause-spare : goal.returns-clause-spare
returns-clause-spare c =
    ap (λ (n : ℕ). c.self.inside.history.cap - (c.self.inside.history.len + n)) (counts_at c).owing ∙ ap (λ (v : Index). v.spare) c.self.view_is

pub returns-clause-index : goal.returns-clause-index
returns-clause-index c = kept c _
