use Rattle.std.proofs.Common.{◌≡◌, ℕ, ◌-◌, ◌+◌, arith, refl, ap, sym, ◌∙◌, subst}
use Rattle.std.specs.Prelude.{Option, IfSome, IsSome, slice_set}
use lib.ListN.{get_elem?}
use Rattle.pm_words.specs.Rows.{acted, got, CanAct}
use Rattle.pm_words.specs.Turns.{GoesBelow}
use Rattle.pm_words.specs.declared.action.Action.{Action}
use Rattle.call_stages.specs.declared.once.Once.{Once}
use Rattle.index_law.specs.Worlds.{facts}
use Rattle.node_ops.specs.declared.recheck.Same.{Same}
use Rattle.node_ops.specs.RecheckSteps.{IsRecheck, recheck_asks, recheck_left, recheck_takes, recheck_turned}
use Rattle.node_ops.specs.Rechecks.{IsRechecked}
use Rattle.index_core.specs.declared.party.PartyState.{PartyState}
use Rattle.index_core.specs.declared.party.Rechecking.{Rechecking}
use Rattle.index_core.specs.PartyStates.{owed, recheck_after, recheck_reply, state_rechecked}
use Rattle.index_core.specs.Cores.{index_with}
use Rattle.index_core.specs.Indexes.{Index, IsIndex, world}
use Rattle.index_core.specs.Rechecks.{GoesOnSame, recheck_told, rechecked_index}
use Rattle.index_core.proofs.Checks.{recheck_owes}
use Rattle.index_core.proofs.Lists.{read_is}
use Rattle.index_core.proofs.PartyPlaces.{holds_in, party_within, told_of}
use Rattle.index_core.proofs.RecheckReading.{RecheckRead, recheck_at, recheck_reads}
use Rattle.index_core.proofs.Stepping.{respare}
use Rattle.index_core.proofs.index.Core.step_recheck.Goals.{After-rechecking-recheck}
use Rattle.index_core.proofs.index.Core.step_recheck.Goals as goal

pub index-requires : goal.index-requires
index-requires g c = let f = c.requires.checks in omega (arith, party_within c.self.inside c.args.self.now c.args.party c.self.view_is f.state f.there, c.self.inside.states.ok.0)

pub index_mut-requires : goal.index_mut-requires
index_mut-requires g c = let f = c.requires.checks in omega (arith, party_within c.self.inside c.args.self.now c.args.party c.self.view_is f.state f.there, c.self.inside.states.ok.0)

pub rechecking-recheck-requires : goal.rechecking-recheck-requires
rechecking-recheck-requires g c =
    let f = c.requires.checks in
    let read = read_is c.self.inside.states.items c.args.party f.state c.index.result.now (ap (λ (v : Index). get_elem? v.states c.args.party) c.self.view_is ∙ f.there) c.index.ensures in
    subst IsSome (sym (ap (λ (d : PartyState). d.recheck) read ∙ f.flies)) refl

-- what it has read
read_first : (g : _) (c : After-rechecking-recheck g) → RecheckRead (index_with c.self.inside 0) c.args.party c.requires.checks.state c.index.result.now c.requires.checks.machine c.rechecking-recheck.result
read_first g c = recheck_reads (index_with c.self.inside 0) c.args.self.now c.args.party c.requires.checks c.index.result.now c.rechecking-recheck.result (ap (λ (v : Index). v.states) c.self.view_is) c.self.invariant.0 c.index.ensures c.rechecking-recheck.ensures

pub action-action-requires : goal.action-action-requires
action-action-requires g c =
    let at = read_first g (goal.at.action-action-requires g c).After-rechecking-recheck in
    subst (λ (r : Rechecking). IsRecheck r.machine) (sym at.found.same) at.law.sound

pub act-got-requires : goal.act-got-requires
act-got-requires g c =
    let s = index_with c.self.inside 0 in
    let at = read_first g (goal.at.act-got-requires g c).After-rechecking-recheck in
    subst (CanAct s.layout s.words) (sym (c.action-action.ensures ∙ ap (λ (r : Rechecking). recheck_asks r.machine) at.found.same)) at.law.can

pub advance_recheck-requires : goal.advance_recheck-requires
advance_recheck-requires g c =
    let s = index_with c.self.inside 0 in
    let f = c.requires.checks in
    let at = read_first g (goal.at.advance_recheck-requires g c).After-rechecking-recheck in
    let told : c.act-got.result ≡ recheck_told s f.machine.machine = c.act-got.ensures.got ∙ ap (got s.layout s.words) (c.action-action.ensures ∙ ap (λ (r : Rechecking). recheck_asks r.machine) at.found.same) in
    let state = read_is s.states c.args.party f.state c.index_mut.result.now at.found.there c.index_mut.ensures.value in
    holds_in (λ (d : PartyState). d.recheck) c.index_mut.result.now f.state f.machine state f.flies (λ (m : Rechecking). recheck_takes m.machine c.act-got.result)
    (subst (λ (n : ℕ). recheck_takes f.machine.machine n) (sym told) at.law.takes)

read_at : (g : _) (c : goal.After-self-1 g) → RecheckRead (index_with c.self.inside 0) c.args.party c.requires.checks.state c.index.result.now c.requires.checks.machine c.rechecking-recheck.result
read_at g c = recheck_reads (index_with c.self.inside 0) c.args.self.now c.args.party c.requires.checks c.index.result.now c.rechecking-recheck.result (ap (λ (v : Index). v.states) c.self.view_is) c.self.invariant.0 c.index.ensures c.rechecking-recheck.ensures

asks_at : (g : _) (c : goal.After-self-1 g) → c.action-action.result ≡ recheck_asks c.requires.checks.machine.machine
asks_at g c = c.action-action.ensures ∙ ap (λ (r : Rechecking). recheck_asks r.machine) (read_at g c).found.same

told_at : (g : _) (c : goal.After-self-1 g) → c.act-got.result ≡ recheck_told (index_with c.self.inside 0) c.requires.checks.machine.machine
told_at g c = let s = index_with c.self.inside 0 in c.act-got.ensures.got ∙ ap (got s.layout s.words) (asks_at g c)

state_at : (g : _) (c : goal.After-self-1 g) → c.index_mut.result.now ≡ c.requires.checks.state
state_at g c = read_is c.self.inside.states.items c.args.party c.requires.checks.state c.index_mut.result.now (read_at g c).found.there c.index_mut.ensures.value

-- what the recheck is told, said of the party
of_recheck : (g : _) (c : goal.After-self-1 g) (P : PartyState → Rechecking → Type 0) → IfSome c.index_mut.result.now.recheck (P c.index_mut.result.now) → P c.requires.checks.state c.requires.checks.machine
of_recheck g c P says =
    let f = c.requires.checks in
    told_of (λ (d : PartyState). d.recheck) c.index_mut.result.now f.state f.machine (state_at g c) f.flies P says

now_is : (g : _) (c : goal.After-self-1 g) → c.advance_recheck.new.self ≡ state_rechecked c.requires.checks.state c.requires.checks.machine.since (recheck_turned c.requires.checks.machine.machine c.act-got.result)
now_is g c = of_recheck g c (λ e m. c.advance_recheck.new.self ≡ state_rechecked e m.since (recheck_turned m.machine c.act-got.result)) c.advance_recheck.ensures.state

-- the index that it leaves
stepped_is : (g : _) (c : goal.After-self-1 g) (k spare : ℕ) → spare ≡ k
    → Path Index (record { layout = c.act-got.new.self.layout; generation = c.self.inside.generation; words = c.act-got.new.self.words; states = slice_set c.self.inside.states.items c.args.party c.advance_recheck.new.self; base = c.self.inside.base; history = c.self.inside.history.items; spare = spare })
    (rechecked_index (index_with c.self.inside k) c.args.party c.requires.checks.state c.requires.checks.machine)
stepped_is g c k spare same =
    let s = index_with c.self.inside k in
    let f = c.requires.checks in
    recheck_at s c.args.party f.state c.advance_recheck.new.self f.machine c.act-got.new.self spare
    (c.act-got.ensures.row ∙ ap (λ (a : Action). record { layout = s.layout; words = acted s.layout s.words a }) (asks_at g c) ∙ (λ k. record { layout = s.layout; words = (read_at g c).law.leaves k }))
    (now_is g c ∙ ap (λ n. state_rechecked f.state f.machine.since (recheck_turned f.machine.machine n)) (told_at g c)) same

owes_same : (g : _) (c : goal.After-self-1 g) → owed (slice_set c.self.inside.states.items c.args.party c.advance_recheck.new.self) ≡ owed c.self.inside.states.items
owes_same g c =
    let f = c.requires.checks in
    ap (λ (d : PartyState). owed (slice_set c.self.inside.states.items c.args.party d)) (now_is g c)
    ∙ recheck_owes c.self.inside.states.items c.args.party f.state (recheck_after f.machine.since (recheck_turned f.machine.machine c.act-got.result)) (read_at g c).found.there

pub invariant_of-self : goal.invariant_of-self
invariant_of-self g c = (subst IsIndex (sym (stepped_is g c 0 0 refl)) (read_at g c).law.kept, omega (arith, owes_same g c, c.self.invariant.1))

pub returns-clause-stepped : goal.returns-clause-stepped
returns-clause-stepped g c =
    let f = c.requires.checks in
    let m = f.machine.machine in
    let told = told_at g c in
    let k = c.self.inside.history.cap - (c.self.inside.history.len + owed c.self.inside.states.items) in
    let owing = ap (λ n. c.self.inside.history.cap - (c.self.inside.history.len + n)) (owes_same g c) in
    let told_old : recheck_told (index_with c.self.inside 0) m ≡ recheck_told c.args.self.now m = ap (λ (v : Index). recheck_told v m) c.self.view_is in
    let answers : c.advance_recheck.result ≡ recheck_reply (recheck_turned m (recheck_told c.args.self.now m)) =
    of_recheck g c (λ e r. c.advance_recheck.result ≡ recheck_reply (recheck_turned r.machine c.act-got.result)) c.advance_recheck.ensures.answer ∙ ap (λ n. recheck_reply (recheck_turned m n)) (told ∙ told_old) in
    record {
      state = f.state;
      rechecking = f.machine;
      there = f.there;
      checks = f.flies;
      is = stepped_is g c k _ owing ∙ ap (λ (v : Index). rechecked_index v c.args.party f.state f.machine) c.self.view_is;
      answers = answers;
      same = subst (λ (v : Index). GoesOnSame m (recheck_turned m (recheck_told v m))) c.self.view_is (read_at g c).law.same;
      tells = subst (λ (o : Option (Once Same)). IfSome o (IsRechecked f.machine.since (facts (world c.args.self.now)) m)) (sym answers)
          (subst (λ (v : Index). IfSome (recheck_reply (recheck_turned m (recheck_told v m))) (IsRechecked f.machine.since (facts (world v)) m)) c.self.view_is (read_at g c).law.tells);
      fewer = subst (λ (v : Index). GoesBelow recheck_left (recheck_left m) (recheck_turned m (recheck_told v m))) c.self.view_is (read_at g c).law.fewer;
    }

pub returns-clause-index : goal.returns-clause-index
returns-clause-index g c = respare _ _ (invariant_of-self g c).0
