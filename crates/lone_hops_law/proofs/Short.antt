-- Where no log line waits the layer leads to the targets themselves; and what keeps ways short.
use Rattle.std.proofs.Common.{◌≡◌, ◌==◌, ℕ, ◌<◌, ◌≤◌, inl, ⊎_elim, Some, None, refl, sym, ◌∙◌, subst, arith}
use Rattle.pm_words.specs.Codes.{ready_state}
use Rattle.pm_words.specs.declared.layout.Layout.{Layout}
use Rattle.pm_words.specs.Locations.{Node, Cached, Volatile}
use Rattle.data_node.specs.Lists.{anchor_in, members_from, IsIn, Rise}
use Rattle.pm_words.specs.Offsets.{version_offset, state_offset, status_offset, prev_offset}
use Rattle.data_list.specs.Still.{Nodes, AreQuiet}
use Rattle.data_list.proofs.Comings.{comes_once}
use Rattle.index_law.specs.Facts.{spot_in, status_in, version_in}
use Rattle.index_law.specs.Prevs.{prev_in}
use Rattle.index_law.specs.Worlds.{World}
use Rattle.index_law.proofs.Prevs.{prev_in-alike}
use Rattle.index_law.proofs.Rows.{spot_in-alike, status_in-alike, version_in-alike}
use Rattle.lone_updater_law.specs.index_layer_law.proofs.LayerCover.{layer_is_covered}
use Rattle.layer_map.specs.Layers.{Layer, IsFloorOf, IsBest}
use Rattle.lone_updater_law.specs.search_layer.specs.Kept.{layer_of, kept}
use Rattle.lone_updater_law.specs.search_layer.specs.Rows.{layer_words}
use Rattle.lone_updater_law.specs.search_layer.proofs.RowLemmas.{kept_leads_below}
use Rattle.lone_updater_law.specs.search_layer.proofs.RowLemmas.{rows_alike}
use Rattle.updater_law.specs.Covered.{IsCovered}
use Rattle.lone_updater_law.specs.updater_row_law.specs.Columns.{line_count, line_word}
use Rattle.lone_updater_law.specs.updater_row_law.proofs.RowColumns.{column-same}
use Rattle.lone_updater_law.specs.updater.specs.Events.{how_many}
use Rattle.lone_updater_law.specs.CallLogs.{ready_lines}
use Rattle.lone_updater_law.specs.LoneTurns.{line_state}
use Rattle.lone_hops_law.specs.LoneNodes.{nodes_of}
use Rattle.lone_hops_law.specs.Short.{EmptyIsShort, ShortStays, ShortStaysAlike, ShortWalks}
use Rattle.lone_hops_law.specs.Ways.{is_out, IsWay}
use Rattle.lone_hops_law.proofs.Positions.{position_between}
use Rattle.lone_hops_law.proofs.WayLemmas.{ways_are_walks}

-- the layer leads each key just as the list has it
module _ (l : Layout) (g : ℕ) (f : Nodes) (all : AreQuiet l g f) (layer : Layer) (covered : IsCovered (IsIn f.list) (λ n. anchor_in (f.now n)) layer (λ key. ⊥)) where
  rise : Rise (anchor_in (f.now 0)) f.list
  rise = subst (λ least. Rise least f.list) (sym all.quiet.lowest) all.quiet.rise

  -- no listed node's anchor lies above the floor's key and not past the key
  none_between : (key best : ℕ) → ((other : ℕ) → other ≤ key → best < other → layer other ≡ None) → (n : ℕ) → IsIn f.list n → anchor_in (f.now n) ≤ key → best < anchor_in (f.now n) → ⊥
  none_between key best greatest n listed low above_it =
      let some = (covered (anchor_in (f.now n)) n (λ no. no)).1 (listed, refl) in
      let none = greatest (anchor_in (f.now n)) low above_it in
      absurd (let no : None ≡ Some n = sym none ∙ some in cc)

  best_way : (key node : ℕ) → IsBest layer key node → IsWay f key node 0
  best_way key node best =
      let here = (covered best.best node (λ no. no)).0 best.leads in
      let anchor = here.1 in
      let at_most = best.at_most in
      let same = position_between f.now 0 f.list all.quiet.chain rise node key here.0 (omega arith) (λ n listed low above_it. none_between key best.best best.greatest n listed low (omega arith)) in
      record { out = node; gone = 0; leads = is_out here.0; all = omega arith }

  floor_way : (key node : ℕ) → IsFloorOf layer key node → IsWay f key node 0
  floor_way key node = ⊎_elim
      (λ (best : IsBest layer key node). best_way key node best)
      (λ (none : (node ≡ 0) × ((other : ℕ) → other ≤ key → layer other ≡ None)).
      let lowest = all.quiet.lowest in
      let some = (covered 0 0 (λ no. no)).1 (inl refl, lowest) in
      let never : layer 0 ≡ None = none.1 0 (omega arith) in
      absurd (let no : None ≡ Some 0 = sym never ∙ some in cc))

pub empty_is_short : EmptyIsShort
empty_is_short z is all empty key start floor =
    let w : World = z.whole.world in
    let covered = (layer_is_covered z is).cached in
    let way = floor_way w.layout w.generation (nodes_of w) all (layer_of w.layout w.words) (λ k node closed. covered k node (λ waits. waits.state (empty waits.line))) key start floor in
    (0, omega arith, way)

pub short_stays : ShortStays
short_stays w0 w layer lengthen short key start floor =
    let was = short key start (subst (λ (layer : Layer). IsFloorOf layer key start) layer floor) in
    let now = lengthen key start was.0 was.2 in
    let few = was.1 in
    let more = now.1 in
    (now.0, omega arith, now.2)

pub short_stays_alike : ShortStaysAlike
short_stays_alike w words alike short key start floor =
    let l : Layout = w.layout in
    let same : layer_words l words Cached ≡ layer_words l w.words Cached = rows_alike l w.words words Cached Cached (λ v place. alike (Cached v) place.there tt) in
    let layer : layer_of l words ≡ layer_of l w.words = λ k. kept l (same k) in
    let states : line_state (record w { words = words }) ≡ line_state w =
    column-same l w.words words (line_count l) (λ j. Cached (line_word state_offset j)) (λ j here. alike (Cached (line_word state_offset j)) (omega arith, omega arith, omega arith) tt) in
    let ready : ready_lines (record w { words = words }) ≡ ready_lines w = λ k. how_many (λ j. states k j == ready_state) (line_count l) in
    let version : (n : ℕ) → version_in l words n ≡ version_in l w.words n =
    λ n. version_in-alike l w.words words n (λ here. alike (Cached (Node n version_offset)) (here, omega arith) tt) in
    let status : (n : ℕ) → status_in l words n ≡ status_in l w.words n =
    λ n. status_in-alike l w.words words n (λ here. alike (Volatile n status_offset) (here, omega arith) tt) in
    let prev : (n : ℕ) → prev_in l words n ≡ prev_in l w.words n =
    λ n. prev_in-alike l w.words words n (λ here. alike (Volatile n prev_offset) (here, omega arith) tt) in
    let spot : (n offset : ℕ) → spot_in l words n offset ≡ spot_in l w.words n offset =
    λ n offset. spot_in-alike l w.words words n offset (λ has positive. alike (Cached (Node n offset)) has tt) in
    let nodes : nodes_of (record w { words = words }) ≡ nodes_of w =
    λ k. record { version = λ n. version n k; status = λ n. status n k; prev = λ n. prev n k; now = λ n offset. spot n offset k; list = members_from (λ n offset. spot n offset k) l.nodes 0 } in
    let was = short key start (subst (λ (layer : Layer). IsFloorOf layer key start) layer floor) in
    (was.0, subst (λ (count : ℕ). was.0 ≤ count) (sym ready) was.1, subst (λ (f : Nodes). IsWay f key start was.0) (sym nodes) was.2)

-- the floor is one of the nodes
floor_within : (w : World) (key start : ℕ) → 0 < w.layout.nodes → ((k node : ℕ) → layer_of w.layout w.words k ≡ Some node → node < w.layout.nodes) → IsFloorOf (layer_of w.layout w.words) key start → start < w.layout.nodes
floor_within w key start some below = ⊎_elim
    (λ (best : IsBest (layer_of w.layout w.words) key start). below best.best start best.leads)
    (λ (none : (start ≡ 0) × ((other : ℕ) → other ≤ key → layer_of w.layout w.words other ≡ None)). let zero_node = none.0 in omega arith)

pub short_walks : ShortWalks
short_walks w key start hops all order short floor comes =
    let way = short key start floor in
    let within = floor_within w key start (let least = all.below 0 in omega arith) (kept_leads_below w.layout (layer_words w.layout w.words Cached) order) floor in
    let same = comes_once w.layout w.generation (nodes_of w) key start hops way.0 all.quiet comes (ways_are_walks w.layout w.generation (nodes_of w) key start way.0 all within way.2) in
    let few = way.1 in
    omega arith
