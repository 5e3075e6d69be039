-- Which node stands at which position of a list.
use Rattle.std.proofs.Common.{◌≡◌, ◌≢◌, ℕ, zero, suc, ◌<◌, ◌≤◌, ◌⊎◌, inl, inr, true, false, cond, List, [], ◌∷◌, length, refl, sym, ap, ◌∙◌, subst, arith}
use Rattle.std.specs.Prelude.{◌==◌}
use Rattle.std.specs.List.{AllByRecursion, IsDistinct}
use Rattle.std.proofs.Math.Dec.{eqb}
use Rattle.std.proofs.lemmas.Bool.{eq-eqb, ne_eqb, eqb-true, eqb-false, le-leb, lt-leb}
use Rattle.pm_words.specs.Offsets.{next_offset}
use Rattle.data_node.specs.Spots.{Spot}
use Rattle.data_node.specs.Lists.{ListNode, anchor_in, members_from, target_from, IsMember, IsChain, Rise, IsAtPosition}
use Rattle.data_node.proofs.ListLemmas.{above, rise_at, chain_is, nodes_of, none_is, distinct_few}

-- one node stands at a position
pub position_one : (here : ℕ) (list : List ListNode) (position n m : ℕ) → IsAtPosition here list position n → IsAtPosition here list position m → n ≡ m
position_one here list zero n m at at' = at ∙ sym at'
position_one here [] (suc position) n m at at' = absurd at
position_one here (next ∷ behind) (suc position) n m at at' = position_one next.node behind position n m at at'

-- it is of the list, and each of the list stands at some position
pub position_in : (here : ℕ) (list : List ListNode) (position n : ℕ) → IsAtPosition here list position n → (n ≡ here) ⊎ IsMember list n
position_in here list zero n at = inl at
position_in here [] (suc position) n at = absurd at
position_in here (next ∷ behind) (suc position) n at = inr (position_in next.node behind position n at)

pub in_position : (here : ℕ) (list : List ListNode) (n : ℕ) → (n ≡ here) ⊎ IsMember list n → (position : ℕ) × IsAtPosition here list position n
in_position here list n (inl e) = (0, e)
in_position here [] n (inr among) = absurd among
in_position here (next ∷ behind) n (inr among) = let at = in_position next.node behind n among in (suc at.0, at.1)

module _ (now : ℕ → Spot) where
  -- behind a node stands the one to which it leads, as far as the list goes
  pub position_next : (fuel here position n : ℕ) → IsAtPosition here (members_from now fuel here) position n → position < fuel → now n next_offset ≢ 0
      → IsAtPosition here (members_from now fuel here) (suc position) (now n next_offset)
  position_next zero here position n at below leads = absurd (omega arith)
  position_next (suc fuel) here zero n at below leads =
      subst (λ b. IsAtPosition here (cond b [] ((record { node = now here next_offset; anchor = anchor_in (now (now here next_offset)) }) ∷ members_from now fuel (now here next_offset))) 1 (now n next_offset))
      (sym (ne_eqb (now here next_offset) 0 (λ e. leads (ap (λ k. now k next_offset) at ∙ e)))) (ap (λ k. now k next_offset) at)
  position_next (suc fuel) here (suc position) n at below leads =
      elim (now here next_offset == 0)
      as (λ b. IsAtPosition here (cond b [] ((record { node = now here next_offset; anchor = anchor_in (now (now here next_offset)) }) ∷ members_from now fuel (now here next_offset))) (suc position) n
      → IsAtPosition here (cond b [] ((record { node = now here next_offset; anchor = anchor_in (now (now here next_offset)) }) ∷ members_from now fuel (now here next_offset))) (suc (suc position)) (now n next_offset)) [
        | true ↦ λ none. absurd none
        | false ↦ λ there. position_next fuel (now here next_offset) position n there (omega arith) leads
      ] at

  -- and in front of it one that leads to it
  pub position_before : (fuel here position n : ℕ) → IsAtPosition here (members_from now fuel here) (suc position) n
      → (b : ℕ) × IsAtPosition here (members_from now fuel here) position b × (now b next_offset ≡ n) × (n ≢ 0)
  position_before zero here position n at = absurd at
  position_before (suc fuel) here zero n at =
      elim (now here next_offset == 0)
      as (λ b. (now here next_offset == 0) ≡ b
      → IsAtPosition here (cond b [] ((record { node = now here next_offset; anchor = anchor_in (now (now here next_offset)) }) ∷ members_from now fuel (now here next_offset))) 1 n
      → (k : ℕ) × (k ≡ here) × (now k next_offset ≡ n) × (n ≢ 0)) [
        | true ↦ λ _ none. absurd none
        | false ↦ λ leads there. (here, refl, sym there, λ z. eqb-false (now here next_offset) 0 leads (sym there ∙ z))
      ] refl at
  position_before (suc fuel) here (suc position) n at =
      elim (now here next_offset == 0)
      as (λ b. IsAtPosition here (cond b [] ((record { node = now here next_offset; anchor = anchor_in (now (now here next_offset)) }) ∷ members_from now fuel (now here next_offset))) (suc (suc position)) n
      → (k : ℕ) × IsAtPosition here (cond b [] ((record { node = now here next_offset; anchor = anchor_in (now (now here next_offset)) }) ∷ members_from now fuel (now here next_offset))) (suc position) k
      × (now k next_offset ≡ n) × (n ≢ 0)) [
        | true ↦ λ none. absurd none
        | false ↦ λ there. let before = position_before fuel (now here next_offset) position n there in (before.0, before.1, before.2, before.3)
      ] at

  -- there are no more positions than this
  pub position_bound : (fuel here position n : ℕ) → IsAtPosition here (members_from now fuel here) position n → position ≤ fuel
  position_bound fuel here zero n at = omega arith
  position_bound zero here (suc position) n at = absurd at
  position_bound (suc fuel) here (suc position) n at =
      elim (now here next_offset == 0)
      as (λ b. IsAtPosition here (cond b [] ((record { node = now here next_offset; anchor = anchor_in (now (now here next_offset)) }) ∷ members_from now fuel (now here next_offset))) (suc position) n
      → suc position ≤ suc fuel) [
        | true ↦ λ none. absurd none
        | false ↦ λ there. let bound = position_bound fuel (now here next_offset) position n there in omega arith
      ] at

  -- and none behind a node that leads to none
  pub position_end : (fuel here position n : ℕ) → IsAtPosition here (members_from now fuel here) position n → now n next_offset ≡ 0
      → (later m : ℕ) → position < later → IsAtPosition here (members_from now fuel here) later m → ⊥
  position_end fuel here position n at ends zero m after at' = omega arith
  position_end zero here position n at ends (suc later) m after at' = absurd at'
  position_end (suc fuel) here zero n at ends (suc later) m after at' =
      subst (λ b. IsAtPosition here (cond b [] ((record { node = now here next_offset; anchor = anchor_in (now (now here next_offset)) }) ∷ members_from now fuel (now here next_offset))) (suc later) m)
      (eq-eqb (now here next_offset) 0 (ap (λ k. now k next_offset) (sym at) ∙ ends)) at'
  position_end (suc fuel) here (suc position) n at ends (suc later) m after at' =
      elim (now here next_offset == 0)
      as (λ b. IsAtPosition here (cond b [] ((record { node = now here next_offset; anchor = anchor_in (now (now here next_offset)) }) ∷ members_from now fuel (now here next_offset))) (suc position) n
      → IsAtPosition here (cond b [] ((record { node = now here next_offset; anchor = anchor_in (now (now here next_offset)) }) ∷ members_from now fuel (now here next_offset))) (suc later) m → ⊥) [
        | true ↦ λ none _. absurd none
        | false ↦ λ there there'. position_end fuel (now here next_offset) position n there ends later m (omega arith) there'
      ] at at'

  -- in a chain whose anchors rise, they rise from position to position,
  pub position_rise : (here : ℕ) (list : List ListNode) → IsChain now here list → Rise (anchor_in (now here)) list → (position later n m : ℕ) → position < later
      → IsAtPosition here list position n → IsAtPosition here list later m → anchor_in (now n) < anchor_in (now m)
  position_rise here list chain rise position zero n m after at at' = absurd (omega arith)
  position_rise here [] chain rise position (suc later) n m after at at' = absurd at'
  position_rise here (next ∷ behind) chain rise zero (suc later) n m after at at' =
      subst (λ k. anchor_in (now k) < anchor_in (now m)) (sym at) (above now here (anchor_in (now here)) (next ∷ behind) chain rise m (position_in next.node behind later m at'))
  position_rise here (next ∷ behind) chain rise (suc position) (suc later) n m after at at' =
      position_rise next.node behind chain.3 (rise_at now next behind chain.2 rise.1) position later n m (omega arith) at at'

  -- and a node that leads on has one behind it
  pub chain_next : (here : ℕ) (list : List ListNode) → IsChain now here list → (position n : ℕ) → IsAtPosition here list position n → now n next_offset ≢ 0
      → IsAtPosition here list (suc position) (now n next_offset)
  chain_next here [] chain zero n at leads = absurd (leads (ap (λ k. now k next_offset) at ∙ chain))
  chain_next here [] chain (suc position) n at leads = absurd at
  chain_next here (next ∷ behind) chain zero n at leads = ap (λ k. now k next_offset) at ∙ chain.0
  chain_next here (next ∷ behind) chain (suc position) n at leads = chain_next next.node behind chain.3 position n at leads

  -- what is said of each member is said of the node behind any position
  pub chain_member : (P : ListNode → Type 0) (here : ℕ) (list : List ListNode) → IsChain now here list → AllByRecursion P list → (position n : ℕ) → IsAtPosition here list (suc position) n
      → (m : ListNode) × P m × (anchor_in (now n) ≡ m.anchor)
  chain_member P here [] chain all position n at = absurd at
  chain_member P here (next ∷ behind) chain all zero n at = (next, all.0, ap (λ k. anchor_in (now k)) at ∙ chain.2)
  chain_member P here (next ∷ behind) chain all (suc position) n at = chain_member P next.node behind chain.3 all.1 position n at

-- Each node stands at one position.
abbrev pub StandOnce : ℕ → List ListNode → Type 0
StandOnce here list = (position other n : ℕ) → IsAtPosition here list position n → IsAtPosition here list other n → position ≡ other

positions_differ : (here : ℕ) (list : List ListNode) → StandOnce here list → IsDistinct eqb (here ∷ nodes_of list)
unfolding IsDistinct
positions_differ here [] once = (tt, tt)
positions_differ here (m ∷ behind) once = (
  none_is here (m ∷ behind) (λ among. let at = in_position here (m ∷ behind) here (inr among) in let same = once 0 at.0 here refl at.1 in not_first at.0 at.1 among same),
  positions_differ m.node behind (λ position other n at at'. let same = once (suc position) (suc other) n at at' in omega arith),
) where
  not_first : (position : ℕ) → IsAtPosition here (m ∷ behind) position here → IsMember (m ∷ behind) here → 0 ≡ position → ⊥
  not_first position at among same = let there = in_position m.node behind here among in let later = once 0 (suc there.0) here refl there.1 in omega arith

-- so there are fewer than nodes behind the first
pub once_few : (here most : ℕ) (list : List ListNode) → StandOnce here list → here < most → AllByRecursion (λ (m : ListNode). m.node < most) list → length list < most
once_few here most list once = distinct_few here most list (positions_differ here list once)

module _ (now : ℕ → Spot) where
  -- what holds of the node at each position behind the first holds of each member
  pub all_positions : (P : ListNode → Type 0) (fuel here : ℕ)
      → ((position n : ℕ) → IsAtPosition here (members_from now fuel here) (suc position) n → P (record { node = n; anchor = anchor_in (now n) }))
      → AllByRecursion P (members_from now fuel here)
  all_positions P zero here each = tt
  all_positions P (suc fuel) here each =
      elim (now here next_offset == 0)
      as (λ b. ((position n : ℕ) → IsAtPosition here (cond b [] ((record { node = now here next_offset; anchor = anchor_in (now (now here next_offset)) }) ∷ members_from now fuel (now here next_offset))) (suc position) n
      → P (record { node = n; anchor = anchor_in (now n) }))
      → AllByRecursion P (cond b [] ((record { node = now here next_offset; anchor = anchor_in (now (now here next_offset)) }) ∷ members_from now fuel (now here next_offset)))) [
        | true ↦ λ _. tt
        | false ↦ λ of. (of 0 (now here next_offset) refl, all_positions P fuel (now here next_offset) (λ position n at. of (suc position) n at))
      ] each

  -- where the anchor of each is above the one before, they rise
  pub rise_positions : (fuel here : ℕ)
      → ((position b n : ℕ) → IsAtPosition here (members_from now fuel here) position b → IsAtPosition here (members_from now fuel here) (suc position) n → anchor_in (now b) < anchor_in (now n))
      → Rise (anchor_in (now here)) (members_from now fuel here)
  rise_positions zero here each = tt
  rise_positions (suc fuel) here each =
      elim (now here next_offset == 0)
      as (λ b. ((position k n : ℕ) → IsAtPosition here (cond b [] ((record { node = now here next_offset; anchor = anchor_in (now (now here next_offset)) }) ∷ members_from now fuel (now here next_offset))) position k
      → IsAtPosition here (cond b [] ((record { node = now here next_offset; anchor = anchor_in (now (now here next_offset)) }) ∷ members_from now fuel (now here next_offset))) (suc position) n
      → anchor_in (now k) < anchor_in (now n))
      → Rise (anchor_in (now here)) (cond b [] ((record { node = now here next_offset; anchor = anchor_in (now (now here next_offset)) }) ∷ members_from now fuel (now here next_offset)))) [
        | true ↦ λ _. tt
        | false ↦ λ of. (of 0 here (now here next_offset) refl refl, rise_positions fuel (now here next_offset) (λ position k n at at'. of (suc position) k n at at'))
      ] each

  -- where there are fewer than were looked for, the list ends
  pub members_end : (fuel here : ℕ) → length (members_from now fuel here) < fuel → IsChain now here (members_from now fuel here)
  members_end zero here few = absurd (omega arith)
  members_end (suc fuel) here few =
      elim (now here next_offset == 0)
      as (λ b. (now here next_offset == 0) ≡ b
      → length (cond b [] ((record { node = now here next_offset; anchor = anchor_in (now (now here next_offset)) }) ∷ members_from now fuel (now here next_offset))) < suc fuel
      → IsChain now here (cond b [] ((record { node = now here next_offset; anchor = anchor_in (now (now here next_offset)) }) ∷ members_from now fuel (now here next_offset)))) [
        | true ↦ λ ends _. eqb-true (now here next_offset) 0 ends
        | false ↦ λ leads less. (refl, eqb-false (now here next_offset) 0 leads, refl, members_end fuel (now here next_offset) (omega arith))
      ] refl few

-- The target among a node and those behind it: the node itself where it leads to none, or to one whose anchor is above the key; and
-- else one from there on.
module _ (now : ℕ → Spot) (fuel here key : ℕ) where
  pub target_last : now here next_offset ≡ 0 → target_from here (members_from now fuel here) key ≡ here
  target_last ends = ap (λ (list : List ListNode). target_from here list key) (chain_is now fuel here [] ends (omega arith))

  pub target_here : now here next_offset ≢ 0 → key < anchor_in (now (now here next_offset)) → target_from here (members_from now (suc fuel) here) key ≡ here
  target_here leads above =
      ap (λ b. target_from here (cond b [] ((record { node = now here next_offset; anchor = anchor_in (now (now here next_offset)) }) ∷ members_from now fuel (now here next_offset))) key)
      (ne_eqb (now here next_offset) 0 leads)
      ∙ ap (λ b. cond b (target_from (now here next_offset) (members_from now fuel (now here next_offset)) key) here) (lt-leb (anchor_in (now (now here next_offset))) key above)

  pub target_behind : now here next_offset ≢ 0 → anchor_in (now (now here next_offset)) ≤ key
      → target_from here (members_from now (suc fuel) here) key ≡ target_from (now here next_offset) (members_from now fuel (now here next_offset)) key
  target_behind leads reached =
      ap (λ b. target_from here (cond b [] ((record { node = now here next_offset; anchor = anchor_in (now (now here next_offset)) }) ∷ members_from now fuel (now here next_offset))) key)
      (ne_eqb (now here next_offset) 0 leads)
      ∙ ap (λ b. cond b (target_from (now here next_offset) (members_from now fuel (now here next_offset)) key) here) (le-leb (anchor_in (now (now here next_offset))) key reached)
