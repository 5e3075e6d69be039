-- How many nodes of a list come before a key, once one more stands there or one less.
use Rattle.std.proofs.Common.{◌≡◌, ◌≢◌, ℕ, ◌+◌, ◌<◌, ◌≤◌, ◌⊎◌, ◌==◌, true, false, cond, List, [], ◌∷◌, inl, inr, ⊎_elim, refl, sym, ap, ◌∙◌, arith}
use Rattle.std.specs.Prelude.{nat_le}
use Rattle.std.proofs.lemmas.Bool.{eqb-true, eqb-false, leb-true, leb-false, le-leb, lt-leb}
use Rattle.pm_words.specs.Offsets.{next_offset}
use Rattle.data_node.specs.Spots.{Spot}
use Rattle.data_node.specs.Lists.{ListNode, anchor_in, IsMember, IsChain, Rise, with_member, without_member}
use Rattle.data_node.proofs.ListLemmas.{above, rise_at, chain_closed}
use Rattle.data_list.specs.Still.{position_from}

-- one, where the anchor isn't past the key
abbrev pub one_at : ℕ → ℕ → ℕ
one_at anchor key = cond {A = ℕ} (nat_le anchor key) 1 0

-- none comes before a key that isn't past what the list rises from
pub position_none : (list : List ListNode) (least key : ℕ) → Rise least list → key ≤ least → position_from list key ≡ 0
position_none [] least key rise low = refl
position_none (m ∷ behind) least key rise low =
    elim (nat_le m.anchor key) as (λ b. nat_le m.anchor key ≡ b → cond b (1 + position_from behind key) 0 ≡ 0) [
      | true ↦ λ up. absurd (let most = leb-true m.anchor key up in let up_here = rise.0 in omega arith)
      | false ↦ λ _. refl
    ] refl

pub position_past : (m : ListNode) (behind : List ListNode) (key : ℕ) → m.anchor ≤ key → position_from (m ∷ behind) key ≡ 1 + position_from behind key
position_past m behind key most = ap (λ b. cond b (1 + position_from behind key) 0) (le-leb m.anchor key most)

pub position_before : (m : ListNode) (behind : List ListNode) (key : ℕ) → key < m.anchor → position_from (m ∷ behind) key ≡ 0
position_before m behind key below = ap (λ b. cond b (1 + position_from behind key) 0) (lt-leb m.anchor key below)

one_isnt : (anchor key : ℕ) → key < anchor → one_at anchor key ≡ 0
one_isnt anchor key below = ap (λ b. cond {A = ℕ} b 1 0) (lt-leb anchor key below)

pub one_or : (anchor key : ℕ) → ((anchor ≤ key) × (one_at anchor key ≡ 1)) ⊎ ((key < anchor) × (one_at anchor key ≡ 0))
one_or anchor key =
    elim (nat_le anchor key) as (λ b. nat_le anchor key ≡ b → ((anchor ≤ key) × (cond {A = ℕ} b 1 0 ≡ 1)) ⊎ ((key < anchor) × (cond {A = ℕ} b 1 0 ≡ 0))) [
      | true ↦ λ up. inl (leb-true anchor key up, refl)
      | false ↦ λ past. inr (leb-false anchor key past, refl)
    ] refl

-- of two keys the lower has no more nodes before it
pub position_rises : (list : List ListNode) (key other : ℕ) → key ≤ other → position_from list key ≤ position_from list other
position_rises [] key other low = omega arith
position_rises (m ∷ behind) key other low = ⊎_elim
    (λ (past : (m.anchor ≤ key) × (one_at m.anchor key ≡ 1)).
    let most = past.0 in
    let one : position_from (m ∷ behind) key ≡ 1 + position_from behind key = position_past m behind key most in
    let two : position_from (m ∷ behind) other ≡ 1 + position_from behind other = position_past m behind other (omega arith) in
    let rest = position_rises behind key other low in
    omega arith)
    (λ (before : (key < m.anchor) × (one_at m.anchor key ≡ 0)).
    let none : position_from (m ∷ behind) key ≡ 0 = position_before m behind key before.0 in
    omega arith)
    (one_or m.anchor key)

-- the next node stands one position behind
pub position_next : (now : ℕ → Spot) (here : ℕ) (list : List ListNode) → IsChain now here list → Rise (anchor_in (now here)) list → (n : ℕ) → (n ≡ here) ⊎ IsMember list n → now n next_offset ≢ 0
    → position_from list (anchor_in (now (now n next_offset))) ≡ position_from list (anchor_in (now n)) + 1
position_next now here [] chain rise n (inl e) some = absurd (some (ap (λ k. now k next_offset) e ∙ chain))
position_next now here [] chain rise n (inr among) some = absurd among
position_next now here (m ∷ behind) chain rise n (inl e) some =
    let own : anchor_in (now n) ≡ anchor_in (now here) = ap (λ k. anchor_in (now k)) e in
    let next : anchor_in (now (now n next_offset)) ≡ m.anchor = ap (λ k. anchor_in (now (now k next_offset))) e ∙ ap (λ k. anchor_in (now k)) chain.0 ∙ chain.2 in
    let up = rise.0 in
    let zero_before : position_from (m ∷ behind) (anchor_in (now n)) ≡ 0 = position_before m behind (anchor_in (now n)) (omega arith) in
    let step : position_from (m ∷ behind) (anchor_in (now (now n next_offset))) ≡ 1 + position_from behind (anchor_in (now (now n next_offset))) = position_past m behind (anchor_in (now (now n next_offset))) (omega arith) in
    let none : position_from behind (anchor_in (now (now n next_offset))) ≡ 0 = position_none behind m.anchor (anchor_in (now (now n next_offset))) rise.1 (omega arith) in
    omega arith
position_next now here (m ∷ behind) chain rise n (inr among) some =
    let least : (k : ℕ) → (k ≡ m.node) ⊎ IsMember behind k → m.anchor ≤ anchor_in (now k) = λ k. ⊎_elim
    (λ (e : k ≡ m.node). let same : anchor_in (now k) ≡ m.anchor = ap (λ q. anchor_in (now q)) e ∙ chain.2 in omega arith)
    (λ later. let past = above now m.node m.anchor behind chain.3 rise.1 k later in omega arith) in
    let rest = position_next now m.node behind chain.3 (rise_at now m behind chain.2 rise.1) n among some in
    let one : position_from (m ∷ behind) (anchor_in (now n)) ≡ 1 + position_from behind (anchor_in (now n)) = position_past m behind (anchor_in (now n)) (least n among) in
    let two : position_from (m ∷ behind) (anchor_in (now (now n next_offset))) ≡ 1 + position_from behind (anchor_in (now (now n next_offset))) =
    position_past m behind (anchor_in (now (now n next_offset))) (least (now n next_offset) (inr (chain_closed now m.node behind chain.3 n among some))) in
    omega arith

-- no more nodes come before a key than before a node's own anchor, if no anchor lies between them
pub position_between : (now : ℕ → Spot) (here : ℕ) (list : List ListNode) → IsChain now here list → Rise (anchor_in (now here)) list → (n key : ℕ) → (n ≡ here) ⊎ IsMember list n → anchor_in (now n) ≤ key
    → ((k : ℕ) → (k ≡ here) ⊎ IsMember list k → anchor_in (now k) ≤ key → anchor_in (now n) < anchor_in (now k) → ⊥) → position_from list (anchor_in (now n)) ≡ position_from list key
position_between now here [] chain rise n key place low none = refl
position_between now here (m ∷ behind) chain rise n key place low none =
    let up = rise.0 in
    let anchor = chain.2 in
    ⊎_elim
    (λ (past : (m.anchor ≤ anchor_in (now n)) × (one_at m.anchor (anchor_in (now n)) ≡ 1)).
    let least = past.0 in
    let one : position_from (m ∷ behind) (anchor_in (now n)) ≡ 1 + position_from behind (anchor_in (now n)) = position_past m behind (anchor_in (now n)) least in
    let two : position_from (m ∷ behind) key ≡ 1 + position_from behind key = position_past m behind key (omega arith) in
    let later : (n ≡ m.node) ⊎ IsMember behind n = ⊎_elim (λ (e : n ≡ here). let own = ap (λ k. anchor_in (now k)) e in absurd (omega arith)) (λ among. among) place in
    let rest = position_between now m.node behind chain.3 (rise_at now m behind chain.2 rise.1) n key later low (λ k there. none k (inr there)) in
    omega arith)
    (λ (before : (anchor_in (now n) < m.anchor) × (one_at m.anchor (anchor_in (now n)) ≡ 0)).
    let below = before.0 in
    let one : position_from (m ∷ behind) (anchor_in (now n)) ≡ 0 = position_before m behind (anchor_in (now n)) below in
    ⊎_elim
    (λ (reached : (m.anchor ≤ key) × (one_at m.anchor key ≡ 1)). let most = reached.0 in absurd (none m.node (inr (inl refl)) (omega arith) (omega arith)))
    (λ (past : (key < m.anchor) × (one_at m.anchor key ≡ 0)). let two : position_from (m ∷ behind) key ≡ 0 = position_before m behind key past.0 in omega arith)
    (one_or m.anchor key))
    (one_or m.anchor (anchor_in (now n)))

-- ---- one more

-- the new one is above what the list rises from
new_above : (left : ℕ) (new : ListNode) (here least : ℕ) (list : List ListNode) → (left ≡ here) ⊎ IsMember list left → Rise least (with_member left new here list) → least < new.anchor
new_above left new here least [] (inr among) = absurd among
new_above left new here least [] (inl e) =
    elim (here == left) as (λ b. (here == left) ≡ b → Rise least (cond b (new ∷ []) []) → least < new.anchor) [
      | true ↦ λ _ rise. rise.0
      | false ↦ λ isnt _. absurd (eqb-false here left isnt (sym e))
    ] refl
new_above left new here least (m ∷ behind) place =
    elim (here == left) as (λ b. (here == left) ≡ b → Rise least (cond b (new ∷ m ∷ behind) (m ∷ with_member left new m.node behind)) → least < new.anchor) [
      | true ↦ λ _ rise. rise.0
      | false ↦ λ isnt rise.
          let later = new_above left new m.node m.anchor behind (⊎_elim (λ (e : left ≡ here). absurd (eqb-false here left isnt (sym e))) (λ among. among) place) rise.1 in
          let up = rise.0 in
          omega arith
    ] refl

pub position_cut : (left : ℕ) (new : ListNode) (here least : ℕ) (list : List ListNode) (key : ℕ) → (left ≡ here) ⊎ IsMember list left → Rise least (with_member left new here list)
    → position_from (with_member left new here list) key ≡ position_from list key + one_at new.anchor key
position_cut left new here least [] key (inr among) = absurd among
position_cut left new here least [] key (inl e) =
    elim (here == left) as (λ b. (here == left) ≡ b → Rise least (cond b (new ∷ []) []) → position_from (cond b (new ∷ []) []) key ≡ 0 + one_at new.anchor key) [
      | true ↦ λ _ rise. omega arith
      | false ↦ λ isnt _. absurd (eqb-false here left isnt (sym e))
    ] refl
position_cut left new here least (m ∷ behind) key place =
    elim (here == left) as (λ b. (here == left) ≡ b → Rise least (cond b (new ∷ m ∷ behind) (m ∷ with_member left new m.node behind))
    → position_from (cond b (new ∷ m ∷ behind) (m ∷ with_member left new m.node behind)) key ≡ position_from (m ∷ behind) key + one_at new.anchor key) [
      | true ↦ λ _ rise. ⊎_elim
          (λ (past : (new.anchor ≤ key) × (one_at new.anchor key ≡ 1)).
          let step : position_from (new ∷ m ∷ behind) key ≡ 1 + position_from (m ∷ behind) key = position_past new (m ∷ behind) key past.0 in
          let one = past.1 in
          omega arith)
          (λ (before : (key < new.anchor) × (one_at new.anchor key ≡ 0)).
          let step : position_from (new ∷ m ∷ behind) key ≡ 0 = position_before new (m ∷ behind) key before.0 in
          let least_above = before.0 in
          let none : position_from (m ∷ behind) key ≡ 0 = position_none (m ∷ behind) new.anchor key rise.1 (omega arith) in
          let one = before.1 in
          omega arith)
          (one_or new.anchor key)
      | false ↦ λ isnt rise.
          let among : (left ≡ m.node) ⊎ IsMember behind left = ⊎_elim (λ (e : left ≡ here). absurd (eqb-false here left isnt (sym e))) (λ among. among) place in
          let above = new_above left new m.node m.anchor behind among rise.1 in
          ⊎_elim
          (λ (past : (m.anchor ≤ key) × (one_at m.anchor key ≡ 1)).
          let step : position_from (m ∷ with_member left new m.node behind) key ≡ 1 + position_from (with_member left new m.node behind) key = position_past m (with_member left new m.node behind) key past.0 in
          let was : position_from (m ∷ behind) key ≡ 1 + position_from behind key = position_past m behind key past.0 in
          let rest = position_cut left new m.node m.anchor behind key among rise.1 in
          omega arith)
          (λ (before : (key < m.anchor) × (one_at m.anchor key ≡ 0)).
          let step : position_from (m ∷ with_member left new m.node behind) key ≡ 0 = position_before m (with_member left new m.node behind) key before.0 in
          let was : position_from (m ∷ behind) key ≡ 0 = position_before m behind key before.0 in
          let below = before.0 in
          let none : one_at new.anchor key ≡ 0 = one_isnt new.anchor key (omega arith) in
          omega arith)
          (one_or m.anchor key)
    ] refl

-- ---- one less

pub position_joined : (now : ℕ → Spot) (right here least : ℕ) (list : List ListNode) (key : ℕ) → IsChain now here list → Rise least list → IsMember list right
    → position_from (without_member right list) key + one_at (anchor_in (now right)) key ≡ position_from list key
position_joined now right here least [] key chain rise among = absurd among
position_joined now right here least (m ∷ behind) key chain rise among =
    elim (m.node == right) as (λ b. (m.node == right) ≡ b → position_from (cond b behind (m ∷ without_member right behind)) key + one_at (anchor_in (now right)) key ≡ position_from (m ∷ behind) key) [
      | true ↦ λ is.
          let anchor : anchor_in (now right) ≡ m.anchor = ap (λ k. anchor_in (now k)) (sym (eqb-true m.node right is)) ∙ chain.2 in
          let same : one_at (anchor_in (now right)) key ≡ one_at m.anchor key = ap (λ a. one_at a key) anchor in
          ⊎_elim
          (λ (past : (m.anchor ≤ key) × (one_at m.anchor key ≡ 1)).
          let was : position_from (m ∷ behind) key ≡ 1 + position_from behind key = position_past m behind key past.0 in
          let one = past.1 in
          omega arith)
          (λ (before : (key < m.anchor) × (one_at m.anchor key ≡ 0)).
          let was : position_from (m ∷ behind) key ≡ 0 = position_before m behind key before.0 in
          let below = before.0 in
          let none : position_from behind key ≡ 0 = position_none behind m.anchor key rise.1 (omega arith) in
          let one = before.1 in
          omega arith)
          (one_or m.anchor key)
      | false ↦ λ isnt.
          let later : IsMember behind right = ⊎_elim (λ (e : right ≡ m.node). absurd (eqb-false m.node right isnt (sym e))) (λ later. later) among in
          let above = above now m.node m.anchor behind chain.3 rise.1 right later in
          ⊎_elim
          (λ (past : (m.anchor ≤ key) × (one_at m.anchor key ≡ 1)).
          let step : position_from (m ∷ without_member right behind) key ≡ 1 + position_from (without_member right behind) key = position_past m (without_member right behind) key past.0 in
          let was : position_from (m ∷ behind) key ≡ 1 + position_from behind key = position_past m behind key past.0 in
          let rest = position_joined now right m.node m.anchor behind key chain.3 rise.1 later in
          omega arith)
          (λ (before : (key < m.anchor) × (one_at m.anchor key ≡ 0)).
          let step : position_from (m ∷ without_member right behind) key ≡ 0 = position_before m (without_member right behind) key before.0 in
          let was : position_from (m ∷ behind) key ≡ 0 = position_before m behind key before.0 in
          let below = before.0 in
          let none : one_at (anchor_in (now right)) key ≡ 0 = one_isnt (anchor_in (now right)) key (omega arith) in
          omega arith)
          (one_or m.anchor key)
    ] refl
