-- How the versions of permutations come to be told, node by node, beside volatile words that tell a list.
use Rattle.std.proofs.Common.{◌≡◌, ℕ, ◌<◌, List, [], ◌∷◌, inr, ⊎_elim, ◌∙◌}
use Rattle.std.proofs.Common.{arith}
use Rattle.std.specs.List.{AllByRecursion}
use Rattle.pm_words.specs.declared.layout.Layout.{Layout}
use Rattle.pm_words.specs.Codes.{no_permutation}
use Rattle.pm_words.specs.Locations.{Location, Volatile, Clock, Updater, Mark, Cached, Durable}
use Rattle.pm_words.specs.Locations.{at}
use Rattle.pm_words.specs.Rows.{IsRow}
use Rattle.data_node.specs.Lists.{ListNode, IsIn}
use Rattle.data_node.proofs.ListLemmas.{all_member}
use Rattle.pm_words.specs.Offsets.{permutation_version_offset, prev_offset, stamp_offset, status_offset}
use Rattle.index_core.specs.index_opening_law.specs.Openings.{LeadBack, TellsList}
use Rattle.recovery.specs.Tellings.{IsNodeMark, IsOrder, KeepsBeside, KeepsButOrders}

-- Those of so many nodes are told.
pub record IsOrderedTo (l : Layout) (words now : List ℕ) (count : ℕ) : Type 0 where
  pub row : IsRow l now
  pub beside : KeepsButOrders l words now
  pub orders : (n : ℕ) → n < count → at l now (Volatile n permutation_version_offset) ≡ no_permutation

-- a word before the version of a permutation is another one
no_order : (o : ℕ) → o < 3 → o ≡ permutation_version_offset → ⊥
no_order o low same = omega arith

-- what leads back still does
leads_still : (l : Layout) (words after : List ℕ) (here : ℕ) (list : List ListNode) → KeepsButOrders l words after → AllByRecursion (λ (m : ListNode). m.node < l.nodes) list
    → LeadBack (λ n. at l words (Volatile n prev_offset)) here list → LeadBack (λ n. at l after (Volatile n prev_offset)) here list
leads_still l words after here [] keeps within leads = tt
leads_still l words after here (m ∷ behind) keeps within leads =
    (keeps (Volatile m.node prev_offset) (within.0, omega arith) (no_order prev_offset (omega arith)) ∙ leads.0, leads_still l words after m.node behind keeps within.1 leads.1)

-- The list is told still.
pub tells_still : (l : Layout) (words after : List ℕ) (list : List ListNode) → 0 < l.nodes → AllByRecursion (λ (m : ListNode). m.node < l.nodes) list → KeepsButOrders l words after
    → TellsList l list words → TellsList l list after
tells_still l words after list some within keeps tells = record {
  live = λ n listed. keeps (Volatile n status_offset) (listed_here n listed, omega arith) (no_order status_offset (omega arith)) ∙ tells.live n listed;
  free = λ n here unlisted. keeps (Volatile n status_offset) (here, omega arith) (no_order status_offset (omega arith)) ∙ tells.free n here unlisted;
  back = leads_still l words after 0 list keeps within tells.back;
  none = λ n here unlisted. keeps (Volatile n prev_offset) (here, omega arith) (no_order prev_offset (omega arith)) ∙ tells.none n here unlisted;
  stamps = λ n here. keeps (Volatile n stamp_offset) (here, omega arith) (no_order stamp_offset (omega arith)) ∙ tells.stamps n here;
  clock = keeps Clock tt (λ order. order) ∙ tells.clock;
  updater = keeps Updater tt (λ order. order) ∙ tells.updater;
}
  where
    listed_here : (n : ℕ) → IsIn list n → n < l.nodes
    listed_here n listed = ⊎_elim (λ (e : n ≡ 0). omega arith) (λ among. all_member (λ k. k < l.nodes) list n within among) listed

-- What keeps all but these keeps all that is beside marks.
pub keeps_beside : (l : Layout) (words between after : List ℕ) → KeepsBeside l words between → KeepsButOrders l between after → KeepsBeside l words after
keeps_beside l words between after marked ordered p has unmarked = ordered p has (λ order. unmarked (is_mark p order)) ∙ marked p has unmarked
  where
    is_mark : (q : Location) → IsOrder q → IsNodeMark q
    is_mark (Volatile n offset) same = inr same
    is_mark Clock same = absurd same
    is_mark Updater same = absurd same
    is_mark (Mark kind k) same = absurd same
    is_mark (Cached w) same = absurd same
    is_mark (Durable w) same = absurd same
