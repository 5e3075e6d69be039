use Rattle.std.proofs.Common.{◌≡◌, ◌+◌, ◌-◌, ℕ, List, vec_capacity, ap, sym, ◌∙◌, subst, arith}
use mathlib.Core.Option.{some}
use lib.ListN.{get_elem?}
use Rattle.cat_history.specs.Maps.{map_of}
use Rattle.cat_history.specs.Writes.{after_all}
use Rattle.cat_history.specs.Replays.{pairs_of}
use Rattle.cat_history.specs.declared.op.Write.{Write}
use Rattle.index_core.specs.declared.party.PartyState.{PartyState}
use Rattle.index_core.specs.Cores.{index_of, index_with, taken}
use Rattle.index_core.specs.PartyStates.{idle_state, idle_states, owed}
use Rattle.index_core.specs.Indexes.{Index, IsIndex, parties_of}
use Rattle.index_core.specs.Lone.{HasShortWays, IsQuiet}
use Rattle.index_core.specs.Rounds.{BeginsRound, round_index}
use Rattle.index_core.proofs.Lists.{idle-each, idle-owed, quiet-owed}
use Rattle.index_core.proofs.Rounds.{begins_round, round_is}
use Rattle.index_core.proofs.ShortWays.{round_short}
use Rattle.index_core.proofs.Stepping.{respare}
use Rattle.index_core.proofs.index.Core.new_round.Goals as goal

-- the index with these parts
abbrev parts : goal.After-drop-self-inside-2 → ℕ → Index
parts c spare = index_with (record { memory = c.store.new.self; generation = c.self.inside.generation; states = c.set_idle.new.states; base = c.in_ok-base.base; history = c.in_ok-history.history }) spare

-- its parties have made no call
idle : (c : goal.After-drop-self-inside-2) → c.set_idle.new.states.items ≡ idle_states (parties_of c.self.inside.memory.layout)
idle c = c.set_idle.ensures ∙ ap idle_states c.self.invariant.0.parties

quiet : (c : goal.After-drop-self-inside-2) → IsQuiet (index_of c.self.inside)
quiet c = subst IsQuiet (sym c.self.view_is) c.requires.quiet

-- and it is the next round's
is_round : (c : goal.After-drop-self-inside-2) → (spare : ℕ) → parts c spare ≡ round_index (index_of c.self.inside) spare
is_round c spare =
    let base = c.in_ok-base.ensures.pairs ∙ ap (λ (writes : List Write). pairs_of (after_all (map_of c.self.inside.base) writes)) c.as_slice.ensures.value in
    (λ k. record { layout = (c.store.ensures k).layout; generation = c.self.inside.generation; words = (c.store.ensures k).words; states = idle c k; base = base k; history = c.in_ok-history.ensures.items k; spare = spare })

pub invariant_of-self : goal.invariant_of-self
invariant_of-self c =
    let owing = ap owed (idle c) ∙ idle-owed (parties_of c.self.inside.memory.layout) in
    let none = c.in_ok-history.ensures.len in
    (subst IsIndex (sym (is_round c 0)) (round_is (index_of c.self.inside) (respare _ _ c.self.invariant.0) (quiet c) 0), omega arith)

pub returns-in_err-base-clause-index : goal.returns-in_err-base-clause-index
returns-in_err-base-clause-index c = subst IsIndex c.self.view_is (respare _ _ c.self.invariant.0)

pub returns-in_err-history-clause-index : goal.returns-in_err-history-clause-index
returns-in_err-history-clause-index c = subst IsIndex c.self.view_is (respare _ _ c.self.invariant.0)

pub returns-in_err-base-clause-short : goal.returns-in_err-base-clause-short
returns-in_err-base-clause-short c short = short

pub returns-in_err-history-clause-short : goal.returns-in_err-history-clause-short
returns-in_err-history-clause-short c short = short

pub returns-clause-short : goal.returns-clause-short
returns-clause-short c short =
    subst HasShortWays (sym (is_round c 0)) (round_short (index_of c.self.inside) 0 (subst HasShortWays (sym c.self.view_is) short))

pub returns-clause-ok : goal.returns-clause-ok
returns-clause-ok c =
    let spare = c.in_ok-history.history.cap - taken (record { memory = c.store.new.self; generation = c.self.inside.generation; states = c.set_idle.new.states; base = c.in_ok-base.base; history = c.in_ok-history.history }) in
    subst (λ (s : Index). BeginsRound s (parts c spare)) c.self.view_is
    (subst (BeginsRound (index_of c.self.inside)) (sym (is_round c spare)) (begins_round (index_of c.self.inside) (respare _ _ c.self.invariant.0) (quiet c) spare))

pub returns-clause-spare : goal.returns-clause-spare
returns-clause-spare c =
    let owing = ap owed (idle c) ∙ idle-owed (parties_of c.self.inside.memory.layout) in
    let was = quiet-owed c.self.inside.states.items (quiet c).calls in
    let none = c.in_ok-history.ensures.len in
    let room = c.in_ok-history.ensures.exact in
    let held = c.capacity.ensures in
    let placed = c.len.ensures in
    let fits = c.self.invariant.1 in
    let whole = c.self.inside.history.ok in
    let all : vec_capacity c.in_ok-history.history - (c.in_ok-history.history.len + owed c.set_idle.new.states.items) ≡ c.self.inside.history.cap - taken c.self.inside = omega arith in
    all ∙ ap (λ (s : Index). s.spare) c.self.view_is

pub returns-clause-quiet : goal.returns-clause-quiet
returns-clause-quiet c =
    let each : (i : ℕ) (state : PartyState) → get_elem? c.set_idle.new.states.items i ≡ some state → state ≡ idle_state i =
    λ i state there. idle-each (parties_of c.self.inside.memory.layout) i state (subst (λ (states : List PartyState). get_elem? states i ≡ some state) (idle c) there) in
    record { calls = λ i state there. ap (λ (d : PartyState). d.machine) (each i state there); turns = λ i state there. ap (λ (d : PartyState). d.turn) (each i state there); rechecks = λ i state there. ap (λ (d : PartyState). d.recheck) (each i state there) }

pub returns-clause-index : goal.returns-clause-index
returns-clause-index c = respare _ _ (invariant_of-self c).0
