-- An index of which a turn finds no node FREE weighs at least half of all its slots.
use Rattle.std.proofs.Common.{◌≡◌, ℕ, ◌*◌, ◌/◌, ◌≤◌, ◌==◌, true, false, cond, refl, sym, ap, ◌∙◌, subst}
use Rattle.std.specs.Prelude.{Option, Some, None, IfSome}
use mathlib.Core.Option.{some}
use lib.ListN.{get_elem?}
use Rattle.pm_words.specs.declared.layout.Layout.{Layout}
use Rattle.pm_words.specs.declared.machine.Turn.TheVariants.{Go, Done}
use Rattle.pm_words.specs.Codes.{untaken_lock}
use Rattle.call_stages.specs.Stages.{Filling, Splits}
use Rattle.split_merge.specs.SplitLaws.{IsSplitOfFull}
use Rattle.node_ops.specs.declared.running.Running.{Running}
use Rattle.node_ops.specs.RunningSteps.{Sound}
use Rattle.node_ops.specs.CallStages.{stage_of}
use Rattle.node_ops.proofs.FullSplits.{splits_are_of_full_nodes}
use Rattle.index_law.specs.InUse.{AreSplitFull, AreInUse}
use Rattle.index_law.specs.Lawful.{Sure}
use Rattle.index_law.specs.Weights.{weight_sum}
use Rattle.index_law.specs.Worlds.{Party, facts}
use Rattle.index_image_law.specs.index_layer_law.specs.Layers.{IsLayered, turn_facts}
use Rattle.index_image_law.specs.index_layer_law.specs.Turnings.{terms_of as row_terms_of}
use Rattle.index_image_law.specs.index_layer_law.proofs.FactTies.{status_tie}
use Rattle.index_image_law.specs.index_layer_law.proofs.TurnSteps.{others_rest}
use Rattle.index_law.proofs.InUse.{use_weighs}
use Rattle.updater_law.specs.Lawful.{TurnLawful}
use Rattle.updater.specs.updater_row_law.specs.Columns.{terms_of}
use Rattle.updater.specs.updater_row_law.specs.RowStages.{RowStage, Resting, Counts, turn_stage}
use Rattle.updater.specs.updater_row_law.specs.Turnings.{Turning}
use Rattle.updater.specs.declared.making.MakeTurn.{MakeTurn}
use Rattle.updater.specs.declared.making.MakeTurn.TheVariants.{Taking, Working}
use Rattle.updater.specs.declared.making.TurnReply.TheVariants as reply
use Rattle.updater.specs.declared.work.Work.{Work}
use Rattle.updater.specs.declared.work.WorkAt.{WorkAt}
use Rattle.updater.specs.declared.work.WorkAt.TheVariants as at
use Rattle.updater.specs.Makings.{making_terms, making_turned, making_turning, worked}
use Rattle.updater.specs.Steps.{work_at_stage}
use Rattle.updater.specs.Works.{work_from, work_at_turned}
use Rattle.index_core.specs.declared.party.PartyState.{PartyState}
use Rattle.index_core.specs.PartyStates.{machine_stage, party_of}
use Rattle.index_core.specs.Indexes.{Index, IsIndex, world, layered}
use Rattle.index_core.specs.Turns.{FindsNoneFree}
use Rattle.index_core.proofs.Lists.{map_from}

-- what a machine knows of the node that it splits
machine_splits : (l : Layout) (g : ℕ) (machine : Option Running) → IfSome machine (Sound l g) → IsSplitOfFull l.slots (machine_stage machine)
machine_splits l g None sound = tt
machine_splits l g (Some machine) sound =
    subst (λ (k : Layout). IsSplitOfFull k.slots (stage_of machine)) sound.layout (splits_are_of_full_nodes machine sound.here)

-- a node that some call splits is full, until it leads to the fresh one
pub splits_are_full : (s : Index) → IsIndex s → AreSplitFull (world s)
splits_are_full s is i p left fresh lit there stage =
    let from = map_from party_of s.states i p there in
    let state : PartyState = from.0 in
    let own : machine_stage state.machine ≡ p.stage = ap (λ (q : Party). q.stage) from.2 in
    let knows : IsSplitOfFull s.layout.slots (Splits left fresh (Filling lit)) =
    subst (IsSplitOfFull s.layout.slots) (own ∙ stage) (machine_splits s.layout s.generation state.machine (is.states i state from.1).machine) in
    let sure = subst (Sure s.layout s.generation (facts (world s)) p.caller p.index p.since) stage (is.lawful.sure i p there) in
    knows ((facts (world s)).now left.node) sure.full.seen

pub in_use_weighs : (s : Index) → IsIndex s → AreInUse (world s) → s.layout.nodes * (s.layout.slots / 2) ≤ weight_sum (world s)
in_use_weighs s is used = use_weighs (world s) is.lawful (splits_are_full s is) used

-- a turn ends so only behind its last count of nodes, by which none is FREE
work_ends : (work : Work) (at : WorkAt) (x : ℕ) → FindsNoneFree (worked (work_at_turned work at x)) → work_at_stage work.terms at ≡ Counts work.terms.layout.nodes true
work_ends work (at.Leaving none) x finds = ap (Counts work.terms.layout.nodes) finds
work_ends work _ x finds = absurd finds

pub ends_counting : (making : MakeTurn) (x : ℕ) → FindsNoneFree (making_turned making x) → (making_turning making).stage ≡ Counts (making_terms making).layout.nodes true
ends_counting (Taking terms) x finds = absurd (elim (x == untaken_lock) as (λ b. FindsNoneFree (cond b (Go (Working (work_from terms.layout terms.generation terms.stamp terms.release))) (Done (reply.Held x))) → ⊥) [
  | true ↦ λ none. none
  | false ↦ λ none. none
] finds)
ends_counting (Working work) x finds = work_ends work work.at x finds

-- and what it has counted stands, as long as it has the lock
pub counted_none : (s : Index) → IsLayered (layered s) → (i : ℕ) (t : Turning) → get_elem? (layered s).turns i ≡ some t → t.stage ≡ Counts s.layout.nodes true → AreInUse (world s)
counted_none s layer i t there stage n here free =
    let rest = others_rest (layered s) i t layer there (λ rests. let no : Counts s.layout.nodes true ≡ Resting = sym stage ∙ rests in cc) in
    let row = layer.rows i t there rest in
    let law = subst (λ (at : RowStage). TurnLawful (terms_of (row_terms_of (world s) t)) (turn_facts (world s) layer.holder t) (turn_stage at)) stage row.law in
    law.sure refl n here (status_tie s.layout s.words n ∙ free)
