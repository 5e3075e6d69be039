-- How many nodes are listed or GONE behind a call.
use Rattle.std.proofs.Common.{◌≡◌, ℕ, zero, suc, ◌+◌, ◌-◌, ◌/◌, ◌≤◌, ◌==◌, ◌&&◌, true, false, cond, List, [], ◌∷◌}
use Rattle.std.proofs.Common.{◌++◌, length, drop, refl, ap, ◌∙◌, arith, length-append}
use Rattle.std.specs.Prelude.{not, nat_le, slice_get}
use Rattle.std.specs.FinMap.{remove}
use Rattle.std.proofs.lemmas.Bool.{false≢true}
use Rattle.std.specs.Option.{is_some}
use Rattle.std.proofs.lemmas.List.Filters.{length-filter_both}
use Rattle.pm_words.specs.Codes.{gone_status}
use Rattle.pm_words.specs.declared.layout.Layout.{Layout}
use Rattle.data_node.specs.Lists.{ListNode}
use Rattle.cat_history.specs.Maps.{Map, at}
use Rattle.shapes.specs.Anchors.{Anchors, below, del_anchors, merges, middle_of, names_between, next_of, past}
use Rattle.shapes.specs.Anchors.{put_anchors, splits, target_of, up_to}
use Rattle.shapes.proofs.Agreements.{and-first, and-second}
use Rattle.index_law.specs.Anchors.{anchors_in, anchors_of, gone_nodes, members_most}
use Rattle.index_law.specs.Facts.{Facts, map_now}
use Rattle.index_law.specs.Worlds.{facts}
use Rattle.lone_hops_law.specs.lone_call_law.specs.Merging.{HasKeptList, IsMergedSince, ShapeMerges}
use Rattle.index_core.specs.declared.party.CoreCall.{CoreCall}
use Rattle.index_core.specs.declared.party.CoreCall.TheVariants as call
use Rattle.index_core.specs.Indexes.{Index, map_of_index, world}
use Rattle.index_core.specs.Lone.{SplitsFor, taken_nodes}

pub gone_few : (n : ℕ) (f : Facts) → gone_nodes n f ≤ n
gone_few zero f = omega arith
gone_few (suc n) f =
    let before = gone_few n f in
    elim (f.status n == gone_status) as (λ b. cond b 1 0 + gone_nodes n f ≤ suc n) [ true ↦ omega arith | false ↦ omega arith ]

-- the anchors at most a name and those above it are all
parts_are_all : (anchors : Anchors) (name : List ℕ) → length (up_to anchors name) + length (past anchors name) ≡ length anchors
parts_are_all anchors name =
    let both = length-filter_both (λ (anchor : List ℕ). below name anchor) (λ (anchor : List ℕ). not (below name anchor)) (λ anchor. refl) anchors in
    omega (arith, both)

-- a split puts one more among them,
pub put_length : (slots : ℕ) (m : Map) (anchors : Anchors) (name : List ℕ) → splits slots m anchors name ≡ true → length (put_anchors slots m anchors name) ≡ length anchors + 1
put_length slots m anchors name is =
    let cut : put_anchors slots m anchors name ≡ up_to anchors name ++ middle_of slots m anchors name ∷ past anchors name =
    ap (λ b. cond b (up_to anchors name ++ middle_of slots m anchors name ∷ past anchors name) anchors) is in
    let both = length-append (up_to anchors name) (middle_of slots m anchors name ∷ past anchors name) in
    let all = parts_are_all anchors name in
    ap length cut ∙ omega (arith, both, all)

drop_one : (xs : List (List ℕ)) → is_some (slice_get xs 0) ≡ true → length (drop 1 xs) + 1 ≡ length xs
drop_one [] none = absurd (false≢true none)
drop_one (x ∷ xs) there = omega arith

-- and a merge takes one away
pub del_length : (slots : ℕ) (m : Map) (anchors : Anchors) (name : List ℕ) → merges slots m anchors name ≡ true → length (del_anchors slots m anchors name) + 1 ≡ length anchors
del_length slots m anchors name is =
    let less : del_anchors slots m anchors name ≡ up_to anchors name ++ drop 1 (past anchors name) = ap (λ b. cond b (up_to anchors name ++ drop 1 (past anchors name)) anchors) is in
    let both = length-append (up_to anchors name) (drop 1 (past anchors name)) in
    let all = parts_are_all anchors name in
    let joined = nat_le (length (names_between (remove m name) (target_of anchors name) (slice_get (past anchors name) 1))) (slots / 2) in
    let has_next = and-second (is_some (at m name)) (is_some (next_of anchors name) && joined) is in
    let one = drop_one (past anchors name) (and-first (is_some (next_of anchors name)) joined has_next) in
    let size = ap length less in
    omega (arith, both, all, one, size)

module _ (s s' : Index) (layout : s'.layout ≡ s.layout) where
  same_nodes : s'.layout.nodes ≡ s.layout.nodes
  same_nodes = ap (λ (l : Layout). l.nodes) layout

  abbrev gone : ℕ
  gone = gone_nodes s.layout.nodes (facts (world s))

  abbrev gone' : ℕ
  gone' = gone_nodes s'.layout.nodes (facts (world s'))

  same_gone : members_most (world s') ≡ members_most (world s) → gone' ≡ gone
  same_gone most =
      let few : gone ≤ s.layout.nodes = gone_few s.layout.nodes (facts (world s)) in
      let few' : gone' ≤ s'.layout.nodes = gone_few s'.layout.nodes (facts (world s')) in
      let same : s'.layout.nodes - gone' ≡ s.layout.nodes - gone = most in
      let nodes = same_nodes in
      omega arith

  -- where the same nodes are listed, and as many are GONE
  pub taken_kept : HasKeptList (world s) (world s') → taken_nodes s' ≡ taken_nodes s
  taken_kept kept =
      let listed : length (anchors_in (world s')) ≡ length (anchors_in (world s)) = ap (λ (list : List ListNode). length (anchors_of list)) kept.0 in
      let merged = same_gone kept.1 in
      omega arith

  -- behind a merge
  pub taken_merged : (name : List ℕ) → ShapeMerges (world s) name → IsMergedSince name (world s) (world s') → taken_nodes s' ≡ taken_nodes s
  taken_merged name merges_here since =
      let less : length (anchors_in (world s')) + 1 ≡ length (anchors_in (world s)) =
      ap (λ (anchors : Anchors). length anchors + 1) since.anchors ∙ del_length s.layout.slots (map_now (facts (world s))) (anchors_in (world s)) name merges_here in
      let few : gone ≤ s.layout.nodes = gone_few s.layout.nodes (facts (world s)) in
      let few' : gone' ≤ s'.layout.nodes = gone_few s'.layout.nodes (facts (world s')) in
      let most : (s'.layout.nodes - gone') + 1 ≡ s.layout.nodes - gone = since.most in
      let nodes = same_nodes in
      omega arith

  -- and behind a split
  pub taken_split : (c : CoreCall) → SplitsFor c s s' → members_most (world s') ≡ members_most (world s) → taken_nodes s' ≡ taken_nodes s + 1
  taken_split (call.Put name value limit) cut most =
      let more : length (anchors_in (world s')) ≡ length (anchors_in (world s)) + 1 =
      ap length cut.1 ∙ put_length s.layout.slots (map_of_index s) (anchors_in (world s)) name cut.0 in
      let merged = same_gone most in
      omega arith
  taken_split (call.Get name) cut most = absurd cut
  taken_split (call.Del name limit) cut most = absurd cut
  taken_split (call.Part low count) cut most = absurd cut
  taken_split (call.Recheck node version) cut most = absurd cut
  taken_split (call.Turn stamp release) cut most = absurd cut
