-- What is known of parts in an index, and what a recheck tells there.
use Rattle.std.proofs.Common.{◌≡◌, ℕ, ◌<◌, ◌+◌, List, [], ◌∷◌, ◌++◌, length, take, refl, sym, subst, ap, arith}
use Rattle.std.specs.Prelude.{Option, IfSome}
use Rattle.std.proofs.lemmas.List.{set-get_or}
use mathlib.Core.Option.{some}
use lib.ListN.{get_elem?}
use Rattle.cat_history.specs.Maps.{Map, map_of}
use Rattle.cat_history.specs.Scans.{range}
use Rattle.pm_words.specs.declared.layout.Layout.{Layout}
use Rattle.pm_words.specs.declared.action.Action.TheVariants.{Load}
use Rattle.pm_words.specs.declared.machine.Turn.TheVariants.{Go}
use Rattle.pm_words.specs.Rows.{acted}
use Rattle.call_stages.specs.declared.once.Once.TheVariants as once
use Rattle.call_stages.specs.AnySteps.{AnyStep}
use Rattle.call_stages.specs.Kinds.{Told, clock_address, version_address}
use Rattle.call_stages.specs.Stages.{Stage, counted}
use Rattle.index_law.specs.Facts.{facts_of}
use Rattle.index_law.specs.Laws.{Allowed, loads_clock, loads_word, ActionLaw}
use Rattle.index_law.specs.Worlds.{facts, written}
use Rattle.index_law.proofs.Actions.{action_law}
use Rattle.index_law.proofs.Maps.{after-longer}
use Rattle.node_ops.specs.declared.recheck.Recheck.{Recheck}
use Rattle.node_ops.specs.declared.recheck.Recheck.TheVariants.{Dating, Checking}
use Rattle.node_ops.specs.declared.running.Running.{Running}
use Rattle.node_ops.specs.declared.running.Running.TheVariants.{Parting}
use Rattle.node_ops.specs.CallStages.{stage_of, stage_after, reply_of}
use Rattle.node_ops.specs.PartSteps.{part_asks, part_call, part_count}
use Rattle.node_ops.specs.Calls.{name_in}
use Rattle.node_ops.specs.RecheckSteps.{recheck_asks, recheck_node, recheck_turned, recheck_view}
use Rattle.node_ops.specs.Parts.{pairs_of}
use Rattle.node_ops.specs.Rechecks.{IsKnown, KnownPart}
use Rattle.node_ops.specs.RunningSteps.{Sound, running_asks, running_turned}
use Rattle.node_ops.proofs.Rechecks as ops
use Rattle.index_core.specs.declared.party.PartyState.{PartyState}
use Rattle.index_core.specs.Indexes.{Index, world, told}
use Rattle.index_core.specs.PartyStates.{machine_stage, party_of}
use Rattle.index_core.specs.Rechecks.{PartsBecomeKnown, StepsKeepKnown, TurnsKeepKnown, recheck_told, RechecksAct}
use Rattle.index_core.specs.Rechecks.{IsRecheckOf, IsSameRecheck}
use Rattle.index_core.specs.Rechecks.{RechecksGoOn, RechecksAreAnswered, SameTells, SameIsSoon, SameOutlasts}
use Rattle.index_core.specs.Turns.{turned_index}
use Rattle.index_core.proofs.Bounds.{bounded_small}
use Rattle.index_core.proofs.PartFacts.{have_words}
use Rattle.index_core.proofs.Permuting.{relies_so_far}
use Rattle.index_core.proofs.Stepping.{step_facts}
use Rattle.index_core.proofs.Lists.{map_there}
use Rattle.index_core.proofs.Turning.{turns_keep}

pub steps_keep_known : StepsKeepKnown
steps_keep_known s i state m k is there flies known =
    let step = step_facts s i state m is there flies in
    let a = running_asks m in
    let turn = running_turned m (told s m) in
    let stage : machine_stage state.machine ≡ stage_of m = ap machine_stage flies in
    let kept = ops.known_is_kept (world s) i (party_of state) a (told s m) (stage_after turn) (reply_of turn) k is.lawful (map_there party_of s.states i state there)
    (subst (λ (u : Stage). AnyStep s.layout s.generation u a (told s m) (stage_after turn) (reply_of turn)) (sym stage) step.is_step) refl known in
    subst (λ (u : Stage). IsKnown s.layout s.generation (facts_of s.layout (acted s.layout s.words a) (map_of s.base) (s.history ++ written state.caller state.index (counted u))) k) stage kept

pub turns_keep_known : TurnsKeepKnown
turns_keep_known s i state making k is there turns known =
    ops.statuses_leave_known s.layout s.generation (facts (world s)) (facts (world (turned_index s i state making))) k (turns_keep s i state making is there turns).keeps.nodes known

pub parts_become_known : PartsBecomeKnown
parts_become_known s i state p words is there flies done =
    let l = s.layout in
    let g = s.generation in
    let m = Parting p in
    let a = part_asks p in
    let k : KnownPart = record { low = name_in (part_call p); count = part_count p; words = words } in
    let stage : machine_stage state.machine ≡ stage_of m = ap machine_stage flies in
    let sound : Sound l g m = subst (λ (o : Option Running). IfSome o (Sound l g)) flies (is.states i state there).machine in
    let known = ops.parts_are_known (world s) i (party_of state) p (told s m) words is.lawful (have_words l s.words (map_of s.base) s.history is.lawful.row) (map_there party_of s.states i state there) stage sound refl
    (relies_so_far s i state m there flies (is.permuted, is.relying)) done in
    subst (λ (u : Stage). IsKnown l g (facts_of l (acted l s.words a) (map_of s.base) (s.history ++ written state.caller state.index (counted u))) k) stage known

-- it loads what every party may load, at whatever stage that is
may_load : (l : Layout) (u : Stage) (r : Recheck) → (recheck_view r).layout ≡ l → recheck_node r < l.nodes → Allowed l u (recheck_asks r)
may_load l u (Dating view node version) same here = subst (λ (n : Layout). Allowed l u (Load (clock_address n))) (sym same) loads_clock
may_load l u (Checking view node version clock) same here = subst (λ (n : Layout). Allowed l u (Load (version_address n node))) (sym same) (loads_word (here, omega arith))

leaves_words : (l : Layout) (words : List ℕ) (r : Recheck) → acted l words (recheck_asks r) ≡ words
leaves_words l words (Dating view node version) = set-get_or words (clock_address view.layout) 0
leaves_words l words (Checking view node version clock) = set-get_or words (version_address view.layout node) 0

pub rechecks_act : RechecksAct
rechecks_act s r is of =
    let here : recheck_node r < s.layout.nodes = subst (λ (n : Layout). recheck_node r < n.nodes) of.layout of.here.1 in
    let first = first_party in
    let act : ActionLaw (world s) (party_of first.0).stage (recheck_asks r) =
    action_law (world s) 0 (party_of first.0) (recheck_asks r) is.lawful (map_there party_of s.states 0 first.0 first.1) (may_load s.layout (party_of first.0).stage r of.layout here) (bounded_small s is) in
    record {
      can = act.can;
      takes = (
        of.here,
        subst (λ (n : Layout). Told n (recheck_view r).generation (recheck_asks r) (recheck_told s r)) (sym of.layout)
            (subst (λ (g : ℕ). Told s.layout g (recheck_asks r) (recheck_told s r)) (sym of.generation) act.told),
      );
      leaves = leaves_words s.layout s.words r;
    }
  where
    first_party : (state : PartyState) × (get_elem? s.states 0 ≡ some state)
    first_party = at s.states is.parties
      where
        at : (states : List PartyState) → length states ≡ s.layout.callers + 1 → (state : PartyState) × (get_elem? states 0 ≡ some state)
        at [] none = absurd (omega arith)
        at (state ∷ states) some_there = (state, refl)

pub rechecks_go_on : RechecksGoOn
rechecks_go_on s since r next is of sure goes =
    ops.rechecks_stay_sure since (facts (world s)) r next (recheck_told s r) sure (ops.rechecks_are_told (world s) r is.lawful of.here of.layout) goes

pub rechecks_are_answered : RechecksAreAnswered
rechecks_are_answered s since r answer is of sure done =
    ops.rechecks_tell since (facts (world s)) r (recheck_told s r) answer sure (ops.rechecks_are_told (world s) r is.lawful of.here of.layout) done

pub same_tells : SameTells
same_tells s since r same k is of sure done known node_is version_is =
    ops.same_tells s.layout s.generation (facts (world s)) since r (recheck_told s r) same k sure (ops.rechecks_are_told (world s) r is.lawful of.here of.layout) done known node_is version_is is.named

pub same_is_soon : SameIsSoon
same_is_soon slots base seen more k place within is = record {
  lists = λ between late soon. subst (λ (m : Map). pairs_of k.words ≡ take k.count (range m k.low k.words.high)) (after-longer base seen more between (omega (arith, soon, within))) (is.lists between late soon);
  whole = λ all between late soon. subst (λ (m : Map). pairs_of k.words ≡ range m k.low k.words.high) (after-longer base seen more between (omega (arith, soon, within))) (is.whole all between late soon);
}

pub same_outlasts : SameOutlasts
same_outlasts slots base seen more k place within is = record {
  lists = λ between late soon. subst (λ (m : Map). pairs_of k.words ≡ take k.count (range m k.low k.words.high)) (sym (after-longer base seen more between (omega (arith, soon, within)))) (is.lists between late soon);
  whole = λ all between late soon. subst (λ (m : Map). pairs_of k.words ≡ range m k.low k.words.high) (sym (after-longer base seen more between (omega (arith, soon, within)))) (is.whole all between late soon);
}

-- what goes on is the same recheck
pub goes_same : (s : Index) (r next : Recheck) (x : ℕ) → IsRecheckOf s r → recheck_turned r x ≡ Go next → IsSameRecheck r next × IsRecheckOf s next
goes_same s (Dating view node version) next x of goes =
    let same : Checking view node version x ≡ next = cc in
    subst (λ (q : Recheck). IsSameRecheck (Dating view node version) q × IsRecheckOf s q) same
    (record { view = refl; node = refl; version = refl }, record { here = of.here; layout = of.layout; generation = of.generation })
goes_same s (Checking view node version clock) next x of goes = absurd (cc)
