-- Prev words stand beside the nodes.
use Rattle.std.proofs.Common.{◌≡◌, ◌≢◌, ℕ, ◌<◌, ⊎_elim, List, slice_set, sym, ap, subst, arith}
use Rattle.std.proofs.lemmas.Bool.{cases_eq}
use Rattle.std.proofs.lemmas.List.{set-get_or}
use Rattle.pm_words.specs.declared.layout.Layout.{Layout}
use Rattle.pm_words.specs.declared.action.Action.TheVariants.{Store}
use Rattle.pm_words.specs.Locations.{Node, Location, Volatile, Cached, Durable, Clock, HasLocation, at, address_of}
use Rattle.pm_words.specs.Rows.{acted, CanAct}
use Rattle.pm_words.proofs.Apart.{at-set_same, at-set_other, addresses_within}
use Rattle.pm_words.proofs.Kept.{action_address-drain, acted_row, outside_header}
use Rattle.pm_words.specs.Offsets.{prev_offset, status_offset, version_offset}
use Rattle.call_stages.specs.Kinds.{word_address, status_address, clock_address, prev_address}
use Rattle.index_law.specs.Laws.{loads_clock, loads_word, loads_status, loads_prev, exchanges, exchanges_read, stores_word, stores_status, drains_word, adds, claims_node, frees_fresh, frees_left, frees_met, frees_right, frees}
use Rattle.index_law.specs.Beside.{NodesLeaveOthers, PrevsKeep}
use Rattle.index_law.proofs.Joint.{fit_same}
use Rattle.index_law.proofs.Noting.{beside_law, store_leaves}
use Rattle.index_law.proofs.Rows.{facts-elsewhere}
use Rattle.index_law.proofs.Twins.{nearer, store_closer}
use Rattle.index_law.proofs.Places.{node_at, offset_at}

stays : (l : Layout) (words words' : List ℕ) (p : Location) → words' ≡ words → at l words' p ≡ at l words p
stays l words words' p same = ap (λ v. at l v p) same

pub nodes_leave_others : NodesLeaveOthers
nodes_leave_others l words s a p has beside loads_clock = stays l words (acted l words a) p (set-get_or words (clock_address l) 0)
nodes_leave_others l words s a p has beside (loads_word {n = n} {offset = o} at_word) = stays l words (acted l words a) p (set-get_or words (word_address l n o) 0)
nodes_leave_others l words s a p has beside (loads_status {n = n} here) = stays l words (acted l words a) p (set-get_or words (status_address l n) 0)
nodes_leave_others l words s a p has beside (loads_prev {n = n} here) = stays l words (acted l words a) p (set-get_or words (prev_address l n) 0)
nodes_leave_others l words s a p has beside (exchanges {n = n} here) = at-set_other l words (Cached (Node n version_offset)) p _ (here, omega arith) has (beside.cached n 0)
nodes_leave_others l words s a p has beside (exchanges_read {n = n} here small) = at-set_other l words (Cached (Node n version_offset)) p _ (here, omega arith) has (beside.cached n 0)
nodes_leave_others l words s a p has beside (stores_word {n = n} {y = y} {offset = o} holds at_word positive small) = at-set_other l words (Cached (Node n o)) p y at_word has (beside.cached n o)
nodes_leave_others l words s a p has beside (stores_status {n = n} {y = y} holds here small) = at-set_other l words (Volatile n status_offset) p y (here, omega arith) has (beside.status n)
nodes_leave_others l words s a p has beside (drains_word {n = n} {y = y} {offset = o} holds at_word small) =
    subst (λ (place : ℕ). at l (slice_set words place y) p ≡ at l words p) (sym (action_address-drain l (Node n o) y)) (at-set_other l words (Durable (Node n o)) p y at_word has (beside.durable n o))
nodes_leave_others l words s a p has beside adds = at-set_other l words Clock p _ tt has beside.clock
nodes_leave_others l words s a p has beside (claims_node {m = m} here) = at-set_other l words (Cached (Node m version_offset)) p _ (here, omega arith) has (beside.cached m 0)
nodes_leave_others l words s a p has beside (frees_fresh {fresh = fresh} here next) = at-set_other l words (Cached (Node fresh.node version_offset)) p _ (here, omega arith) has (beside.cached fresh.node 0)
nodes_leave_others l words s a p has beside (frees_left {left = left} here next) = at-set_other l words (Cached (Node left.node version_offset)) p _ (here, omega arith) has (beside.cached left.node 0)
nodes_leave_others l words s a p has beside (frees_met {right = right} here next) = at-set_other l words (Cached (Node right.node version_offset)) p _ (here, omega arith) has (beside.cached right.node 0)
nodes_leave_others l words s a p has beside (frees_right {right = right} here next) = at-set_other l words (Cached (Node right.node version_offset)) p _ (here, omega arith) has (beside.cached right.node 0)
nodes_leave_others l words s a p has beside (frees {n = n} here next) = at-set_other l words (Cached (Node n version_offset)) p _ (here, omega arith) has (beside.cached n 0)

pub prevs_keep : PrevsKeep
prevs_keep w n y lawful fit prevs here within =
    let l = w.layout in
    let p : Location = Volatile n prev_offset in
    let has : HasLocation l (Volatile n prev_offset) = (here, omega arith) in
    let words : List ℕ = slice_set w.words (address_of l (Volatile n prev_offset)) y in
    let most = lawful.row.layout.nodes in
    let can : CanAct l w.words (Store (prev_address l n) y) = ((addresses_within l (Volatile n prev_offset) has, outside_header l (Volatile n prev_offset) has (λ k lt. (λ e. cc, λ e. cc))), omega arith) in
    record {
      kept = beside_law w words lawful (acted_row l w.words (Store (prev_address l n) y) lawful.row can)
          (facts-elsewhere l w.words w.base w.history (Volatile n prev_offset) y has (λ m o e. cc, λ m e. let no : 1 ≡ 0 = ap offset_at e in omega arith))
          (nearer l w.words words (store_closer l w.words (Volatile n prev_offset) y has (λ v e. cc)))
          (at-set_other l w.words (Volatile n prev_offset) Clock y has tt (λ e. cc))
          (λ v there none. at-set_other l w.words (Volatile n prev_offset) (Cached v) y has there (λ e. cc));
      fit = fit_same l w.words words (store_leaves l w.words (Volatile n prev_offset) y has (λ c j o. (λ e. cc, λ e. cc))) fit;
      prevs = λ m low. ⊎_elim
          (λ (same : m ≡ n). subst (λ k. at l words (Volatile k prev_offset) < l.nodes) (sym same)
          (subst (λ x. x < l.nodes) (sym (at-set_same l w.words (Volatile n prev_offset) y lawful.row.whole has)) within))
          (λ (other : m ≢ n). subst (λ x. x < l.nodes) (sym (at-set_other l w.words (Volatile n prev_offset) (Volatile m prev_offset) y has (low, omega arith) (λ e. other (ap node_at e)))) (prevs m low))
          (cases_eq m n);
    }
