-- Between two moves nothing changes but the stage, so what is known of the marks is the same.
use Rattle.std.proofs.Common.{ℕ, List}
use Rattle.pm_words.specs.declared.layout.Layout.{Layout}
use Rattle.pm_words.specs.Locations.{Cached, Durable}
use Rattle.data_node.specs.Lists.{ListNode}
use Rattle.image_recovery_law.specs.Columns.{Columns}
use Rattle.image_recovery_law.specs.Stages.{Stage}
use Rattle.image_recovery_law.specs.Moves.{Move, Plan, Takes, raise, trim, leaves_node, to_unsets, unset_line, leaves_unset, to_sets, set_line, leaves_set, to_empties, empty_line, leaves_empty, ends, raises_now, trims_now, unsets_now, sets_now, empties_now}
use Rattle.image_recovery_law.specs.Rows.{columns_in}
use Rattle.image_recovery_law.specs.RowMoves.{MarksTellIn, KnowsMarks, RowReaches, RowEnds}
use Rattle.image_recovery_law.proofs.Plans.{plan_reaches, plan_ends}

module _ (l : Layout) (list : List ListNode) (o : Columns) (words : List ℕ) where
  plan_tells : {s : Stage} {moves : List Move} → Plan l list o s moves → KnowsMarks l o s words → MarksTellIn l words
  plan_tells (raise plan) tells = tells
  plan_tells (trim n bits is trims plan) tells = tells
  plan_tells (leaves_node n is stays plan) tells = tells
  plan_tells (to_unsets plan) tells = tells
  plan_tells (unset_line j busy none plan) tells = tells
  plan_tells (leaves_unset j why plan) tells = tells
  plan_tells (to_sets j past plan) tells = tells
  plan_tells (set_line j n busy is anchor plan) tells = tells
  plan_tells (leaves_set j why plan) tells = tells
  plan_tells (to_empties j past plan) tells = tells
  plan_tells (empty_line j busy plan) tells = tells
  plan_tells (leaves_empty j none plan) tells = tells
  plan_tells (ends j past) tells = tells

  takes_know : {s : Stage} {move : Move} {moves : List Move} → Takes l list o s move moves → MarksTellIn l words → KnowsMarks l o s words
  takes_know (raises_now plan) tells = tells
  takes_know (trims_now n bits is trims plan) tells = tells
  takes_know (unsets_now j busy none plan) tells = tells
  takes_know (sets_now j n busy is anchor plan) tells = tells
  takes_know (empties_now j busy plan) tells = tells

pub row_reaches : RowReaches
row_reaches l list o words s move moves sound known plan =
    let next = plan_reaches l list o (columns_in l words Cached) (columns_in l words Durable) s move moves sound known.sure plan in
    record {
      stage = next.stage;
      sure = record { sure = next.sure; marks = takes_know l list o words next.takes (plan_tells l list o words plan known.marks) };
      takes = next.takes;
    }

pub row_ends : RowEnds
row_ends l list o words s sound known plan = record {
  sure = plan_ends l list o (columns_in l words Cached) (columns_in l words Durable) s sound known.sure plan;
  marks = plan_tells l list o words plan known.marks;
}
