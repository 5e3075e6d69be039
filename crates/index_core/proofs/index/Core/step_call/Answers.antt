use Rattle.std.proofs.Common.{◌≡◌, ℕ, ◌+◌, length, arith, refl, ap, sym, ◌∙◌, subst}
use Rattle.std.specs.Prelude.{◌-◌, slice_set, Option, IfSome}
use Rattle.pm_words.specs.Turns.{GoesBelow}
use Rattle.cat_history.specs.Maps.{map_of}
use Rattle.cat_history.specs.declared.op.NameOp.{NameOp}
use Rattle.node_ops.specs.Asked.{IsOf, IsOfAfter, op_in}
use Rattle.pm_words.specs.Rows.{got, CanAct}
use Rattle.call_stages.specs.Stages.{counted}
use Rattle.node_ops.specs.declared.running.Running.{Running}
use Rattle.call_stages.specs.AnySteps.{AnyStep}
use Rattle.node_ops.specs.CallStages.{stage_of, stage_after, reply_of}
use Rattle.node_ops.specs.RunningSteps.{running_call, running_left, running_asks, running_turned, running_takes, IsRunning}
use Rattle.index_law.specs.Worlds.{facts}
use Rattle.index_law.specs.Laws.{IsLegal}
use Rattle.index_law.specs.Weights.{AddsName, RisesBy, weight_sum}
use Rattle.index_core.specs.declared.party.PartyState.{PartyState}
use Rattle.call_stages.specs.declared.once.Once.{Once}
use Rattle.call_stages.specs.declared.once.Placed.{Placed}
use Rattle.index_core.specs.Listings.{ListsAt}
use Rattle.index_core.specs.Answers.{SaysOf, WornIfWrites}
use Rattle.index_core.specs.Heard.{HearsOn}
use Rattle.index_core.specs.PartyStates.{state_after, owed}
use Rattle.pm_words.specs.declared.action.Action.{Action}
use Rattle.index_core.specs.Cores.{IsAdd, index_with}
use Rattle.index_core.specs.Indexes.{Index, IsIndex, world, told, stepped_index, KeepsWords, MakesCall, FreesNone}
use Rattle.index_core.proofs.Answering.{says_of}
use Rattle.index_core.proofs.CoreBursts.{core_flies, core_within}
use Rattle.index_core.proofs.GetLoads.{get_keeps_words}
use Rattle.index_core.proofs.Lists.{read_is}
use Rattle.index_core.proofs.PartyPlaces.{holds_in, told_of}
use Rattle.index_core.proofs.Reading.{Reads, reads, Leaves, leaves}
use Rattle.index_core.proofs.Stepping.{adds_if_counts, count_room}
use Rattle.index_core.proofs.UnwornReads.{worn_if_writes}
use Rattle.index_core.proofs.index.Core.step_call.Goals.{After-running-machine}
use Rattle.index_core.proofs.index.Core.step_call.Goals as goal

pub index-requires : goal.index-requires
index-requires g c = omega (arith, core_within c.self.inside c.args.self.now c.args.party c.requires.flies c.self.view_is, c.self.inside.states.ok.0)

pub index_mut-requires : goal.index_mut-requires
index_mut-requires g c = omega (arith, core_within c.self.inside c.args.self.now c.args.party c.requires.flies c.self.view_is, c.self.inside.states.ok.0)

pub running-machine-requires : goal.running-machine-requires
running-machine-requires g c = core_flies c.self.inside c.args.self.now c.args.party c.requires.flies c.self.view_is c.index.result.now c.index.ensures

-- what it has read of the party and its machine
reads_first : (g : _) (c : After-running-machine g) → Reads (index_with c.self.inside 0) c.args.party c.requires.flies.state c.index.result.now c.requires.flies.machine c.running-machine.result.now
reads_first g c =
    reads (index_with c.self.inside 0) c.args.self.now c.args.party c.requires.flies c.index.result.now c.running-machine.result.now (ap (λ (v : Index). v.states) c.self.view_is) c.self.invariant.0
    c.index.ensures c.running-machine.ensures

pub action-action-requires : goal.action-action-requires
action-action-requires g c =
    let at = reads_first g (goal.at.action-action-requires g c).After-running-machine in
    subst IsRunning (sym at.found.same) at.facts.fits

pub count-requires-clause-fits : goal.count-requires-clause-fits
count-requires-clause-fits g c =
    let at = reads_first g (goal.at.count-requires-clause-fits g c).After-running-machine in
    subst IsRunning (sym at.found.same) at.facts.fits

pub count-requires-clause-adds : goal.count-requires-clause-adds
count-requires-clause-adds g c =
    let s = index_with c.self.inside 0 in
    let flies = c.requires.flies in
    let at = reads_first g (goal.at.count-requires-clause-adds g c).After-running-machine in
    let asks : c.action-action.result ≡ running_asks flies.machine = c.action-action.ensures ∙ ap running_asks at.found.same in
    subst (λ (q : Action × Running). IfSome (counted (stage_of q.1)) (λ _. IsAdd q.0)) (λ k. (sym asks k, sym at.found.same k))
    (adds_if_counts s.layout (length s.history) (running_asks flies.machine) (told s flies.machine) (counted (stage_of flies.machine)) at.facts.counts)

pub act-got-requires : goal.act-got-requires
act-got-requires g c =
    let s = index_with c.self.inside 0 in
    let at = reads_first g (goal.at.act-got-requires g c).After-running-machine in
    subst (CanAct s.layout s.words) (sym (c.action-action.ensures ∙ ap running_asks at.found.same)) at.facts.can

pub count-requires-clause-room : goal.count-requires-clause-room
count-requires-clause-room g c =
    let s = index_with c.self.inside 0 in
    let i = c.args.party in
    let flies = c.requires.flies in
    let e = flies.state in
    let m = flies.machine in
    let at = reads_first g (goal.at.count-requires-clause-room g c).After-running-machine in
    count_room s i e c.index.result.now m (counted (stage_of c.running-machine.result.now)) _ _ at.found.there flies.flies at.found.state (ap (λ (n : Running). counted (stage_of n)) at.found.same) c.self.invariant.1

pub advance-requires : goal.advance-requires
advance-requires g c =
    let s = index_with c.self.inside 0 in
    let flies = c.requires.flies in
    let m = flies.machine in
    let at = reads_first g (goal.at.advance-requires g c).After-running-machine in
    let given : c.act-got.result ≡ told s m = c.act-got.ensures.got ∙ ap (got s.layout s.words) (c.action-action.ensures ∙ ap running_asks at.found.same) in
    let read = read_is s.states c.args.party flies.state c.index_mut.result.now at.found.there c.index_mut.ensures.value in
    holds_in (λ (d : PartyState). d.machine) c.index_mut.result.now flies.state m read flies.flies (λ (q : Running). running_takes q c.act-got.result)
    (subst (λ (n : ℕ). running_takes m n) (sym given) at.facts.takes)

-- what it has read, and what it has made, once it is done
reads_at : (g : _) (c : goal.After-self-1 g) → Reads (index_with c.self.inside 0) c.args.party c.requires.flies.state c.index.result.now c.requires.flies.machine c.running-machine.result.now
reads_at g c =
    reads (index_with c.self.inside 0) c.args.self.now c.args.party c.requires.flies c.index.result.now c.running-machine.result.now (ap (λ (v : Index). v.states) c.self.view_is) c.self.invariant.0
    c.index.ensures c.running-machine.ensures

-- what its call is told in place, said of the party and its machine
of_call : (g : _) (c : goal.After-self-1 g) (P : PartyState → Running → Type 0) → IfSome c.index_mut.result.now.machine (P c.index_mut.result.now) → P c.requires.flies.state c.requires.flies.machine
of_call g c P says =
    let at = reads_at g c in
    let flies = c.requires.flies in
    let read = read_is (index_with c.self.inside 0).states c.args.party flies.state c.index_mut.result.now at.found.there c.index_mut.ensures.value in
    told_of (λ (d : PartyState). d.machine) c.index_mut.result.now flies.state flies.machine read flies.flies P says

goes_at : (g : _) (c : goal.After-self-1 g) → c.advance.new.self ≡ state_after c.index.result.now (running_turned c.running-machine.result.now c.act-got.result)
goes_at g c =
    let at = reads_at g c in
    of_call g c (λ d q. c.advance.new.self ≡ state_after d (running_turned q c.act-got.result)) c.advance.ensures.state
    ∙ (λ k. state_after (sym at.found.state k) (running_turned (sym at.found.same k) c.act-got.result))

told_at : (g : _) (c : goal.After-self-1 g) → c.act-got.result ≡ told (index_with c.self.inside 0) c.requires.flies.machine
told_at g c =
    let s = index_with c.self.inside 0 in
    c.act-got.ensures.got ∙ ap (got s.layout s.words) (c.action-action.ensures ∙ ap running_asks (reads_at g c).found.same)

answers_at : (g : _) (c : goal.After-self-1 g) → c.advance.result ≡ reply_of (running_turned c.requires.flies.machine (told (index_with c.self.inside 0) c.requires.flies.machine))
answers_at g c =
    of_call g c (λ d q. c.advance.result ≡ reply_of (running_turned q c.act-got.result)) c.advance.ensures.answer
    ∙ ap (λ (n : ℕ). reply_of (running_turned c.requires.flies.machine n)) (told_at g c)

leaves_at : (g : _) (c : goal.After-self-1 g) → Leaves (index_with c.self.inside 0) c.args.party c.requires.flies.state c.requires.flies.machine c.act-got.new.self (running_turned c.running-machine.result.now c.act-got.result) c.advance.new.self
    c.count.new.history.items c.self.inside.history.len c.self.inside.history.cap c.count.new.history.len c.count.new.history.cap
leaves_at g c =
    leaves (index_with c.self.inside 0) c.args.party c.requires.flies.state c.index.result.now c.requires.flies.machine c.running-machine.result.now (reads_at g c) c.requires.flies.flies c.action-action.result c.act-got.new.self c.act-got.result (running_turned c.running-machine.result.now c.act-got.result) c.advance.new.self (counted (stage_of c.running-machine.result.now))
    c.count.new.history.items c.self.inside.history.len c.self.inside.history.cap c.count.new.history.len c.count.new.history.cap c.action-action.ensures c.act-got.ensures.row c.act-got.ensures.got refl
    (goes_at g c) refl c.count.ensures.items c.self.inside.history.ok.0 c.count.new.history.ok.0 c.count.ensures.room c.self.invariant.1

pub invariant_of-self : goal.invariant_of-self
invariant_of-self g c =
    let at = reads_at g c in
    let left = leaves_at g c in
    (subst IsIndex (sym (left.same 0)) (at.facts.kept 0), left.room)

pub returns-clause-turned : goal.returns-clause-turned
returns-clause-turned g c =
    let s = index_with c.self.inside 0 in
    let i = c.args.party in
    let flies = c.requires.flies in
    let e = flies.state in
    let m = flies.machine in
    let at = reads_at g c in
    let left = leaves_at g c in
    let n : ℕ = c.count.new.history.cap - (c.count.new.history.len + owed (slice_set s.states i c.advance.new.self)) in
    let new : Index = record { layout = c.act-got.new.self.layout; generation = s.generation; words = c.act-got.new.self.words; states = slice_set s.states i c.advance.new.self; base = s.base; history = c.count.new.history.items; spare = n } in
    record {
      state = e;
      machine = m;
      there = flies.there;
      flies = flies.flies;
      is = left.same n ∙ ap (λ (v : Index). stepped_index v i e m n) c.self.view_is;
      answers = answers_at g c ∙ ap (λ (v : Index). reply_of (running_turned m (told v m))) c.self.view_is;
      reads = λ getting. subst (λ (q : Index × Index). KeepsWords q.0 q.1) (λ k. (c.self.view_is k, sym (left.same n) k))
          (get_keeps_words s i e m n at.facts.fits getting);
      says = subst (λ (r : Option (Once Placed)). SaysOf new.layout.slots (map_of new.base) new.history e (op_in m) (running_call m).limit r) (sym (answers_at g c))
          (subst (λ (v : Index). SaysOf v.layout.slots (map_of v.base) v.history e (op_in m) (running_call m).limit (reply_of (running_turned m (told s m)))) (sym (left.same n))
          (says_of s.layout s.generation (facts (world (stepped_index s i e m n))) e m (told s m) at.of at.sound.here at.facts.owns (at.facts.legal n)));
      worn = subst (WornIfWrites (op_in m)) (sym (answers_at g c)) (worn_if_writes m (told s m) at.facts.fits);
      lists = subst (λ (v : Index × Index). ListsAt v.0.layout (facts (world v.0)) m (told v.1 m)) (λ k. (sym (left.same n) k, c.self.view_is k)) at.facts.lists;
      fewer = subst (λ (v : Index). GoesBelow running_left (running_left m) (running_turned m (told v m))) c.self.view_is
          (subst (λ (n : ℕ). GoesBelow running_left (running_left m) (running_turned m n)) (told_at g c)
          (of_call g c (λ d q. GoesBelow running_left (running_left q) (running_turned q c.act-got.result)) c.advance.ensures.fewer));
      turn = record {
        keeps_op = subst (λ (v : Index). (asked : NameOp) → IsOf asked m → IsOfAfter asked (running_turned m (told v m))) c.self.view_is at.facts.keeps_op;
        keeps_call = subst (λ (v : Index). MakesCall (running_call m) (running_turned m (told v m))) c.self.view_is at.facts.keeps_call;
        kind = subst (λ (v : Index). AnyStep v.layout v.generation (stage_of m) (running_asks m) (told v m) (stage_after (running_turned m (told v m))) (reply_of (running_turned m (told v m)))) c.self.view_is at.facts.is_step;
        weighs = subst (λ (q : Index × Index). RisesBy (AddsName q.0.layout (stage_of m) (running_asks m) (stage_after (running_turned m (told q.0 m)))) (weight_sum (world q.0)) (weight_sum (world q.1)))
            (λ k. (c.self.view_is k, sym (left.same n) k)) (at.facts.weighs n);
        legal = subst (λ (v : Index). IsLegal new.layout new.generation (facts (world new)) e.caller e.index e.since (stage_of m) (reply_of (running_turned m (told v m)))) c.self.view_is
            (subst (λ (v : Index). IsLegal v.layout v.generation (facts (world v)) e.caller e.index e.since (stage_of m) (reply_of (running_turned m (told s m)))) (sym (left.same n)) (at.facts.legal n));
        frees_none = subst (λ (q : Index × Index). FreesNone q.0 q.1) (λ k. (c.self.view_is k, sym (left.same n) k)) (at.facts.frees_none n);
        hears = subst (λ (v : Index). HearsOn v.layout v.generation m (told v m)) c.self.view_is at.facts.hears;
      };
    }

pub returns-clause-spare : goal.returns-clause-spare
returns-clause-spare g c =
    let left = leaves_at g c in
    let was = ap (λ (v : Index). v.spare) c.self.view_is in
    let written = ap (λ (v : Index). length v.history) c.self.view_is in
    let owing = ap (λ (v : Index). owed v.states) c.self.view_is in
    let here = left.room in
    let fewer = left.spare in
    let before = c.self.invariant.1 in
    let larger = c.count.ensures.room in
    record { spare = omega arith; all = omega (arith, c.self.inside.history.ok.0, c.count.new.history.ok.0) }

pub returns-clause-index : goal.returns-clause-index
returns-clause-index g c =
    let at = reads_at g c in
    let left = leaves_at g c in
    subst IsIndex (sym (left.same _)) (at.facts.kept _)
