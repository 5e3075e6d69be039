-- How a turn goes on by one step, and what it is answered at its end.
use Rattle.std.proofs.Common.{◌≡◌, ℕ, ◌+◌, ◌<◌, Bool, List, [], ◌∷◌, ◌++◌, length, refl, sym, ap, ◌∙◌, subst, arith}
use Rattle.std.proofs.lemmas.List.{length-append}
use Rattle.std.specs.Prelude.{Option, Some, None}
use Rattle.pm_words.specs.declared.machine.Turn.{Turn}
use Rattle.pm_words.specs.declared.machine.Turn.TheVariants.{Go, Done}
use Rattle.pm_words.specs.Turns.{GoesBelow}
use Rattle.updater.specs.declared.making.MakeTurn.{MakeTurn}
use Rattle.updater.specs.declared.making.MakeTurn.TheVariants.{Taking, Working}
use Rattle.updater.specs.declared.making.TurnReply.{TurnReply}
use Rattle.updater.specs.declared.making.TurnReply.TheVariants as reply
use Rattle.updater.specs.declared.terms.Turned.{Turned}
use Rattle.updater.specs.declared.work.Work.{Work}
use Rattle.updater.specs.Makings.{making_turned, worked}
use Rattle.updater.specs.Works.{work_left, work_turned}
use Rattle.pm_words.specs.Turns.{turn_of}
use Rattle.pm_words.specs.Codes.{untaken_lock}
use Rattle.index_core.specs.PartyStates.{state_turned}
use Rattle.index_core.specs.declared.party.PartyState.{PartyState}
use Rattle.pac_index.specs.declared.rule.About.{About}
use Rattle.pac_index.specs.declared.rule.Member.{Member}
use Rattle.pac_index.specs.Kept.{placed_by}
use Rattle.pac_index.specs.Calls.{run_of}
use Rattle.pac_index.specs.Turns.{turn_in, TurnReady, TurnGoes, TurnRuns, HasLock, noted_by, TurnAnswers, WorkStepsOn, actions_left}
use Rattle.pac_index.proofs.Lists.{begins_trans}
use Rattle.pac_index.proofs.PartRuns.{run_more}
use Rattle.pac_index.proofs.Statuses.{turn_tells}

-- its work under the lock isn't refused
lock_on : (told : List ℕ) (making : MakeTurn) (x : ℕ) → HasLock told (Go making) → HasLock (told ++ x ∷ []) (making_turned making x)
lock_on told (Taking terms) x has = absurd has.0
lock_on told (Working work) x has = at (work_turned work x)
  where
    more : told ++ x ∷ [] ≡ untaken_lock ∷ (has.1.0 ++ x ∷ [])
    more = ap (λ (l : List ℕ). l ++ x ∷ []) has.1.1

    at : (t : Turn Work Turned) → HasLock (told ++ x ∷ []) (worked t)
    at (Go next) = (tt, (has.1.0 ++ x ∷ [], more))
    at (Done turned) = (has.1.0 ++ x ∷ [], more)

-- a turn goes on by one step
pub turn_on : (epoch : ℕ) (old v w : Member) (turn : Turn MakeTurn TurnReply) (making : MakeTurn) (x : ℕ) → TurnRuns epoch old turn v → turn ≡ Go making → TurnGoes making v x w → TurnRuns epoch old (making_turned making x) w
turn_on epoch old v w turn making x runs is goes =
    let turn' = making_turned making x in
    let caller : v.state.caller ≡ old.state.caller = ap (λ (e : PartyState). e.caller) runs.state in
    record {
      leaves = record {
        about = goes.stepped.about ∙ runs.leaves.about;
        taken = let was = runs.leaves.taken in let one = goes.stepped.taken in let long = ap length goes.stepped.told ∙ length-append v.told (x ∷ []) in omega arith;
        added = goes.added ∙ runs.leaves.added;
        known = goes.known ∙ runs.leaves.known;
        seen = begins_trans old.seen v.seen w.seen runs.leaves.seen goes.stepped.seen;
        own = subst (λ (c : ℕ). placed_by c w.seen ≡ placed_by c v.seen) caller goes.own ∙ runs.leaves.own;
      };
      state = goes.state ∙ ap (λ (e : PartyState). state_turned e turn') runs.state;
      ran = ap (run_of making_turned (Go (turn_in old epoch))) goes.stepped.told ∙ run_more making_turned (Go (turn_in old epoch)) v.told making x (runs.ran ∙ is);
      lock = subst (λ (l : List ℕ). HasLock l turn') (sym goes.stepped.told) (lock_on v.told making x (subst (HasLock v.told) is runs.lock));
      none_free = goes.none_free ∙ ap (λ (b : Bool). noted_by b turn') (runs.none_free ∙ ap (noted_by old.none_free) is);
      ready = subst (λ (b : About). TurnReady b.layout turn') runs.leaves.about goes.ready;
    }

-- without an answer the work goes on
pub work_going : (work : Work) (answer : Option Turned) → ((told : Turned) → answer ≡ Some told → ⊥) → worked (turn_of work answer) ≡ Go (Working work)
work_going work None none = refl
work_going work (Some told) none = absurd (none told refl)

pub work_stepped : (epoch : ℕ) (old v w : Member) (turn : Turn MakeTurn TurnReply) (work next : Work) (answer : Option Turned) → TurnRuns epoch old turn v → turn ≡ Go (Working work) → WorkStepsOn work v w next answer → TurnRuns epoch old (worked (turn_of next answer)) w
work_stepped epoch old v w turn work next answer runs is on = subst (λ (t : Turn Work Turned). TurnRuns epoch old (worked t) w) on.turned (turn_on epoch old v w turn (Working work) on.told runs is on.goes)

pub work_lessens : (work : Work) (turn : Turn Work Turned) → GoesBelow work_left (work_left work) turn → actions_left (worked turn) < actions_left (Go (Working work))
work_lessens work (Go next) less = omega arith
work_lessens work (Done answer) less = omega arith

-- the answer that it ends with
pub turn_ends : (epoch : ℕ) (old v : Member) (turn : Turn MakeTurn TurnReply) (answer : TurnReply) → TurnRuns epoch old turn v → turn ≡ Done answer → 0 < old.about.layout.nodes → TurnAnswers epoch old answer v
turn_ends epoch old v turn answer runs is some = record {
  leaves = runs.leaves;
  state = runs.state ∙ ap (state_turned old.state) is;
  ran = runs.ran ∙ is;
  lock = subst (HasLock v.told) is runs.lock;
  free = turn_tells epoch old v.told answer some (subst (HasLock v.told) is runs.lock) (runs.ran ∙ is);
  none_free = runs.none_free ∙ ap (noted_by old.none_free) is;
}
