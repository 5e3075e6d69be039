-- How much longer the ways are after a try of a lone call.
use Rattle.std.proofs.Common.{◌≡◌, ℕ, ◌+◌, ◌≤◌, ⊎_elim, true, false, List, ap, ◌∙◌, subst, arith, Option}
use Rattle.pm_words.specs.declared.layout.Layout.{Layout}
use Rattle.pm_words.specs.declared.again.Again.TheVariants as again
use Rattle.cat_history.specs.declared.op.Change.{Change}
use Rattle.data_node.specs.Lists.{ListNode, IsIn, with_member, key_of}
use Rattle.call_stages.specs.declared.once.Once.{Once}
use Rattle.call_stages.specs.declared.once.Once.TheVariants as once
use Rattle.call_stages.specs.declared.once.Placed.{Placed}
use Rattle.call_stages.specs.Stages.{Stage}
use Rattle.data_list.specs.Still.{AreQuiet}
use Rattle.index_law.specs.LoneShapes.{has_merged}
use Rattle.index_law.specs.Worlds.{World, facts}
use Rattle.lone_updater_law.specs.lone_call_law.specs.Merging.{HasKeptList, IsMergedSince}
use Rattle.lone_updater_law.specs.lone_call_law.specs.Tries.{IsHalvedSince, Says, has_retired}
use Rattle.lone_updater_law.specs.CallLogs.{KeepsLines, MakesReady, LeavesLines, ready_lines}
use Rattle.lone_updater_law.proofs.ReadyCounts.{ready_are_counted}
use Rattle.lone_hops_law.specs.Ways.{StayGone, HasCut, HasJoined, LongerByOne}
use Rattle.lone_hops_law.specs.LoneNodes.{nodes_of, HasLeftOut, LengthenWithin, TriesLengthen}
use Rattle.lone_hops_law.proofs.WayLemmas.{same_ways, cut_ways, join_ways}

module _ (name : List ℕ) (w0 w : World) (caller : ℕ) (layout : w.layout ≡ w0.layout) (generation : w.generation ≡ w0.generation) (began : AreQuiet w0.layout w0.generation (nodes_of w0))
    (ends : AreQuiet w.layout w.generation (nodes_of w)) (stay : StayGone (nodes_of w0) (nodes_of w)) where
  after : AreQuiet w0.layout w0.generation (nodes_of w)
  after = subst (λ (q : Layout × ℕ). AreQuiet q.0 q.1 (nodes_of w)) (λ i. (layout i, generation i)) ends

  same_lines : KeepsLines w0 w → ready_lines w ≡ ready_lines w0
  same_lines = (ready_are_counted caller w0 w layout).0

  one_line : MakesReady caller w0 w → ready_lines w ≡ ready_lines w0 + 1
  one_line = (ready_are_counted caller w0 w layout).1

  -- with the same list
  kept : (facts w).list ≡ (facts w0).list → ready_lines w0 ≤ ready_lines w → LengthenWithin w0 w
  kept list more key n hops way = (hops, omega arith, same_ways w0.layout w0.generation (nodes_of w0) (nodes_of w) began after stay list key n hops way)

  -- with one hop more
  longer : LongerByOne (nodes_of w0) (nodes_of w) → MakesReady caller w0 w → LengthenWithin w0 w
  longer by made key n hops way =
      let grown = by key n hops way in
      let most = grown.1 in
      let one = one_line made in
      (grown.0, omega arith, grown.2)

  cut_of : IsHalvedSince name w0 w → HasCut (nodes_of w0) (nodes_of w)
  cut_of cut = record {
    left = cut.halved.node;
    new = record { node = cut.halved.fresh; anchor = key_of cut.halved.anchor };
    listed = subst (λ (m : List ListNode). IsIn m cut.halved.node) cut.list cut.halved.listed;
    list = cut.halved.longer ∙ ap (with_member cut.halved.node (record { node = cut.halved.fresh; anchor = key_of cut.halved.anchor }) 0) cut.list;
  }

  joined_of : {s : Stage} → (has_retired s ≡ true) × HasLeftOut w0 w s → HasJoined (nodes_of w0) (nodes_of w)
  joined_of (retired, out) =
      let gone = out.gone retired in
      record { left = out.left; right = out.right; listed = out.listed; some = out.some; leads = out.leads; list = out.list; gone = gone.0; prev = gone.1 }

  module _ (own : Option Change) (s : Stage) (left_out : has_merged s ≡ true → (has_retired s ≡ true) × HasLeftOut w0 w s) where
    lengthen : (answer : Once Placed) → Says w0 w name own s answer → LeavesLines name caller w0 w answer → LengthenWithin w0 w
    lengthen (once.Done placed) says lines = ⊎_elim
        (λ (same : (has_merged s ≡ false) × HasKeptList w0 w). kept same.1.0 (⊎_elim
        (λ (quiet : HasKeptList w0 w × KeepsLines w0 w). let ready = same_lines quiet.1 in omega arith)
        (λ (made : IsMergedSince name w0 w × MakesReady caller w0 w). let ready = one_line made.1 in omega arith)
        lines))
        (λ merged. ⊎_elim
        (λ (quiet : HasKeptList w0 w × KeepsLines w0 w). let most = quiet.0.1 in let less = merged.3.most in absurd (omega arith))
        (λ (made : IsMergedSince name w0 w × MakesReady caller w0 w). longer (join_ways w0.layout w0.generation (nodes_of w0) (nodes_of w) began after stay (joined_of (left_out merged.0))) made.1)
        lines)
        says.2
    lengthen (once.Spent clock) says lines = kept says.2.0 (let ready = same_lines lines in omega arith)
    lengthen (once.Worn node word) says lines = kept says.1.0 (let ready = same_lines lines in omega arith)
    lengthen (once.Again (again.NeedsSplit node)) says lines = longer (cut_ways w0.layout w0.generation (nodes_of w0) (nodes_of w) began after stay (cut_of says.1)) lines
    lengthen (once.Again (again.Locked node word)) says lines = kept says.1.0 (let ready = same_lines lines in omega arith)
    lengthen (once.Again (again.Moved node first second)) says lines = kept says.1.0 (let ready = same_lines lines in omega arith)
    lengthen (once.Again (again.Hops count)) says lines = kept says.1.0 (let ready = same_lines lines in omega arith)
    lengthen (once.Again again.LogFull) says lines = kept says.1.0 (let ready = same_lines lines in omega arith)
    lengthen (once.Again again.NoFree) says lines = kept says.1.0 (let ready = same_lines lines in omega arith)
    lengthen (once.Again (again.Held word)) says lines = kept says.1.0 (let ready = same_lines lines in omega arith)
    lengthen (once.Again (again.Epoch first second)) says lines = kept says.1.0 (let ready = same_lines lines in omega arith)

pub tries_lengthen : TriesLengthen
tries_lengthen name own w0 w s caller answer layout generation began ends stay left_out says lines =
    lengthen name w0 w caller layout generation began ends stay own s left_out answer says lines
