-- A call that splits a node knows that it is full until that leads to the fresh one; no other call splits one.
use Rattle.std.proofs.Common.{ℕ, ◌≤◌, sym, subst, arith, []}
use Rattle.data_node.specs.Slots.{AreAllLive}
use Rattle.call_stages.specs.Stages.{Stage, Idle, Saw, Wears, Reads, Holds, Eyes, Splits, Leaves, Meets, Joins}
use Rattle.call_stages.specs.declared.view.View.{View}
use Rattle.split_merge.specs.SplitLaws.{IsSplitOfFull}
use Rattle.split_merge.specs.SplitStages.{split_footing}
use Rattle.split_merge.proofs.FullSplits.{splits_are_of_full, merges_split_none}
use Rattle.node_ops.specs.declared.del.Del.TheVariants as del
use Rattle.node_ops.specs.declared.single_del.SingleDel.TheVariants as single_del
use Rattle.node_ops.specs.declared.get.Get.TheVariants as get
use Rattle.node_ops.specs.declared.put.Put.TheVariants as put
use Rattle.node_ops.specs.declared.single_put.SinglePut.TheVariants as single_put
use Rattle.node_ops.specs.declared.running.Running.TheVariants.{Getting, Putting, Deleting, Parting}
use Rattle.node_ops.specs.CallStages.{lookup_at_stage, found_full, has_place, part_stage}
use Rattle.node_ops.specs.Laws.{SplitsAreOfFullNodes}
use Rattle.node_ops.proofs.PlainSteps.{IsSingle, looks_single}
use Rattle.node_ops.proofs.CallLaw.{part_single}
use Rattle.data_list.specs.WalkStages.{live_sight}

-- a stage that holds one node splits none
single_splits_none : (slots : ℕ) (s : Stage) → IsSingle s → IsSplitOfFull slots s
single_splits_none slots Idle is = tt
single_splits_none slots (Saw n v w k) is = tt
single_splits_none slots (Wears n v) is = tt
single_splits_none slots (Reads n v sight told) is = tt
single_splits_none slots (Holds n w h) is = tt
single_splits_none slots (Eyes n w h m v u free) is = tt
single_splits_none slots (Splits left fresh phase) is = absurd is
single_splits_none slots (Leaves left) is = tt
single_splits_none slots (Meets n w h right) is = tt
single_splits_none slots (Joins h left right pace) is = absurd is

pub splits_are_of_full_nodes : SplitsAreOfFullNodes
splits_are_of_full_nodes (Getting (get.Looking lookup)) sound = single_splits_none _ (lookup_at_stage (live_sight []) lookup.call lookup.at) (looks_single (live_sight []) lookup.call lookup.at)
splits_are_of_full_nodes (Getting (get.Checking call hold old)) sound = tt
splits_are_of_full_nodes (Putting (put.Single (single_put.Looking lookup value))) sound = single_splits_none _ (lookup_at_stage (live_sight []) lookup.call lookup.at) (looks_single (live_sight []) lookup.call lookup.at)
splits_are_of_full_nodes (Putting (put.Single (single_put.Filling fill))) sound = tt
splits_are_of_full_nodes (Putting (put.Single (single_put.Replacing call hold bitmap hit value))) sound = tt
splits_are_of_full_nodes (Putting (put.Single (single_put.Finishing finish))) sound = tt
splits_are_of_full_nodes (Putting (put.Splitting call hold bitmap value split)) sound =
    let slots : 4 ≤ call.view.layout.slots = sound.call.view.layout.slots.0 in
    subst (λ (v : View). IsSplitOfFull v.layout.slots (split_footing (found_full call hold bitmap) split).stage) sound.view
    (splits_are_of_full split (found_full call hold bitmap) (subst (λ (v : View). 1 ≤ v.layout.slots) (sym sound.view) (omega arith))
    (subst (λ (v : View). AreAllLive bitmap v.layout.slots) (sym sound.view) sound.more))
splits_are_of_full_nodes (Deleting (del.Single (single_del.Looking lookup))) sound = single_splits_none _ (lookup_at_stage (live_sight []) lookup.call lookup.at) (looks_single (live_sight []) lookup.call lookup.at)
splits_are_of_full_nodes (Deleting (del.Single (single_del.Next call hold bitmap hit))) sound = tt
splits_are_of_full_nodes (Deleting (del.Single (single_del.Taking call hold bitmap hit take))) sound = tt
splits_are_of_full_nodes (Deleting (del.Single (single_del.Refusing call hold bitmap hit))) sound = tt
splits_are_of_full_nodes (Deleting (del.Single (single_del.Clearing call hold bitmap hit line))) sound = tt
splits_are_of_full_nodes (Deleting (del.Single (single_del.Finishing finish line))) sound = tt
splits_are_of_full_nodes (Deleting (del.Merging call hold old place merge)) sound = merges_split_none call.view.layout.slots merge (has_place call old place)
splits_are_of_full_nodes (Parting p) sound = single_splits_none _ (part_stage p) (part_single p)
