use Rattle.std.proofs.Common.{◌≡◌, ℕ, ◌-◌, ◌+◌, arith, refl, ap, sym, ◌∙◌, subst}
use Rattle.std.specs.Prelude.{IfSome, IsSome, slice_set}
use Rattle.pm_words.specs.Turns.{GoesBelow}
use Rattle.pm_words.specs.Rows.{acted, got, CanAct}
use Rattle.updater.specs.declared.making.MakeTurn.{MakeTurn}
use Rattle.updater.specs.Makings.{IsMaking, making_asks, making_takes, making_turned, making_left}
use Rattle.index_core.specs.declared.party.PartyState.{PartyState}
use Rattle.index_core.specs.PartyStates.{owed, state_turned, turn_after, turn_reply}
use Rattle.index_core.specs.Cores.{index_with}
use Rattle.index_core.specs.Indexes.{Index, IsIndex}
use Rattle.index_core.specs.Turns.{turn_told, turned_index, KeepsNodes, FreesReleased}
use Rattle.index_core.proofs.CorePasses.{some_turn, turn_within}
use Rattle.index_core.proofs.Lists.{read_is}
use Rattle.index_core.proofs.PartyPlaces.{holds_in, told_of}
use Rattle.index_core.proofs.Stepping.{respare}
use Rattle.index_core.proofs.TurnReading.{TurnRead, turn_reads, turn_owes, turn_at}
use Rattle.index_core.proofs.index.Core.step_turn.Goals.{After-making}
use Rattle.index_core.proofs.index.Core.step_turn.Goals as goal

pub index-requires : goal.index-requires
index-requires g c = omega (arith, turn_within c.self.inside c.args.self.now c.args.party c.requires.turns c.self.view_is, c.self.inside.states.ok.0)

pub index_mut-requires : goal.index_mut-requires
index_mut-requires g c = omega (arith, turn_within c.self.inside c.args.self.now c.args.party c.requires.turns c.self.view_is, c.self.inside.states.ok.0)

pub making-requires : goal.making-requires
making-requires g c = subst IsSome (sym (some_turn c.self.inside c.args.self.now c.args.party c.requires.turns c.self.view_is c.index.result.now c.index.ensures)) refl

-- what it has read
read_first : (g : _) (c : After-making g) → TurnRead (index_with c.self.inside 0) c.args.party c.requires.turns.state c.index.result.now c.requires.turns.machine c.making.result.now
read_first g c = turn_reads (index_with c.self.inside 0) c.args.self.now c.args.party c.requires.turns c.index.result.now c.making.result.now (ap (λ (v : Index). v.states) c.self.view_is) c.self.invariant.0 c.index.ensures c.making.ensures

pub action-action-requires : goal.action-action-requires
action-action-requires g c =
    let at = read_first g (goal.at.action-action-requires g c).After-making in
    subst IsMaking (sym at.found.same) at.sound

pub act-got-requires : goal.act-got-requires
act-got-requires g c =
    let s = index_with c.self.inside 0 in
    let at = read_first g (goal.at.act-got-requires g c).After-making in
    subst (CanAct s.layout s.words) (sym (c.action-action.ensures ∙ ap making_asks at.found.same)) at.law.can

pub advance_turn-requires : goal.advance_turn-requires
advance_turn-requires g c =
    let s = index_with c.self.inside 0 in
    let f = c.requires.turns in
    let at = read_first g (goal.at.advance_turn-requires g c).After-making in
    let told : c.act-got.result ≡ turn_told s f.machine = c.act-got.ensures.got ∙ ap (got s.layout s.words) (c.action-action.ensures ∙ ap making_asks at.found.same) in
    let state = read_is s.states c.args.party f.state c.index_mut.result.now at.found.there c.index_mut.ensures.value in
    holds_in (λ (d : PartyState). d.turn) c.index_mut.result.now f.state f.machine state f.flies (λ (m : MakeTurn). making_takes m c.act-got.result)
    (subst (λ (n : ℕ). making_takes f.machine n) (sym told) at.law.takes)

read_at : (g : _) (c : goal.After-self-1 g) → TurnRead (index_with c.self.inside 0) c.args.party c.requires.turns.state c.index.result.now c.requires.turns.machine c.making.result.now
read_at g c = turn_reads (index_with c.self.inside 0) c.args.self.now c.args.party c.requires.turns c.index.result.now c.making.result.now (ap (λ (v : Index). v.states) c.self.view_is) c.self.invariant.0 c.index.ensures c.making.ensures

told_at : (g : _) (c : goal.After-self-1 g) → c.act-got.result ≡ turn_told (index_with c.self.inside 0) c.requires.turns.machine
told_at g c = let s = index_with c.self.inside 0 in c.act-got.ensures.got ∙ ap (got s.layout s.words) (c.action-action.ensures ∙ ap making_asks (read_at g c).found.same)

state_at : (g : _) (c : goal.After-self-1 g) → c.index_mut.result.now ≡ c.requires.turns.state
state_at g c = read_is c.self.inside.states.items c.args.party c.requires.turns.state c.index_mut.result.now (read_at g c).found.there c.index_mut.ensures.value

-- what the turn is told in place, said of the party
of_turn : (g : _) (c : goal.After-self-1 g) (P : PartyState → MakeTurn → Type 0) → IfSome c.index_mut.result.now.turn (P c.index_mut.result.now) → P c.requires.turns.state c.requires.turns.machine
of_turn g c P says =
    let f = c.requires.turns in
    told_of (λ (d : PartyState). d.turn) c.index_mut.result.now f.state f.machine (state_at g c) f.flies P says

now_is : (g : _) (c : goal.After-self-1 g) → c.advance_turn.new.self ≡ state_turned c.requires.turns.state (making_turned c.requires.turns.machine c.act-got.result)
now_is g c = of_turn g c (λ e m. c.advance_turn.new.self ≡ state_turned e (making_turned m c.act-got.result)) c.advance_turn.ensures.state

-- the index that it leaves
stepped_is : (g : _) (c : goal.After-self-1 g) (k spare : ℕ) → spare ≡ k
    → Path Index (record { layout = c.act-got.new.self.layout; generation = c.self.inside.generation; words = c.act-got.new.self.words; states = slice_set c.self.inside.states.items c.args.party c.advance_turn.new.self; base = c.self.inside.base; history = c.self.inside.history.items; spare = spare })
    (turned_index (index_with c.self.inside k) c.args.party c.requires.turns.state c.requires.turns.machine)
stepped_is g c k spare same =
    let s = index_with c.self.inside k in
    let f = c.requires.turns in
    turn_at s c.args.party f.state c.advance_turn.new.self f.machine c.act-got.new.self spare
    (c.act-got.ensures.row ∙ ap (λ a. record { layout = s.layout; words = acted s.layout s.words a }) (c.action-action.ensures ∙ ap making_asks (read_at g c).found.same))
    (now_is g c ∙ ap (λ n. state_turned f.state (making_turned f.machine n)) (told_at g c)) same

owes_same : (g : _) (c : goal.After-self-1 g) → owed (slice_set c.self.inside.states.items c.args.party c.advance_turn.new.self) ≡ owed c.self.inside.states.items
owes_same g c =
    let f = c.requires.turns in
    ap (λ (d : PartyState). owed (slice_set c.self.inside.states.items c.args.party d)) (now_is g c)
    ∙ turn_owes c.self.inside.states.items c.args.party f.state (turn_after (making_turned f.machine c.act-got.result)) (read_at g c).found.there

pub invariant_of-self : goal.invariant_of-self
invariant_of-self g c = (subst IsIndex (sym (stepped_is g c 0 0 refl)) (read_at g c).law.kept, omega (arith, owes_same g c, c.self.invariant.1))

pub returns-clause-stepped : goal.returns-clause-stepped
returns-clause-stepped g c =
    let f = c.requires.turns in
    let told = told_at g c in
    let k = c.self.inside.history.cap - (c.self.inside.history.len + owed c.self.inside.states.items) in
    let owing = ap (λ n. c.self.inside.history.cap - (c.self.inside.history.len + n)) (owes_same g c) in
    let is = stepped_is g c k _ owing ∙ ap (λ (v : Index). turned_index v c.args.party f.state f.machine) c.self.view_is in
    let told_old : turn_told (index_with c.self.inside 0) f.machine ≡ turn_told c.args.self.now f.machine = ap (λ (v : Index). turn_told v f.machine) c.self.view_is in
    record {
      state = f.state;
      making = f.machine;
      there = f.there;
      turns = f.flies;
      is = is;
      answers = of_turn g c (λ e m. c.advance_turn.result ≡ turn_reply (making_turned m c.act-got.result)) c.advance_turn.ensures.answer ∙ ap (λ n. turn_reply (making_turned f.machine n)) (told ∙ told_old);
      keeps = subst (KeepsNodes c.args.self.now) (sym is) (subst (λ (v : Index). KeepsNodes v (turned_index v c.args.party f.state f.machine)) c.self.view_is
          (let keeps = (read_at g c).law.keeps in record { nodes = keeps.nodes; frees = keeps.frees }));
      freed = subst (FreesReleased c.args.self.now f.machine) (sym is) (subst (λ (v : Index). FreesReleased v f.machine (turned_index v c.args.party f.state f.machine)) c.self.view_is
          (let freed = (read_at g c).law.freed in record { frees = freed.frees; comes = λ next n goes to_free. let may = freed.comes next n goes to_free in record { gone = may.gone; some_stamp = may.some_stamp; release = may.release } }));
      fewer = subst (λ n. GoesBelow making_left (making_left f.machine) (making_turned f.machine n)) (told ∙ told_old)
          (of_turn g c (λ e m. GoesBelow making_left (making_left m) (making_turned m c.act-got.result)) c.advance_turn.ensures.fewer);
    }

pub returns-clause-index : goal.returns-clause-index
returns-clause-index g c = respare _ _ (invariant_of-self g c).0
