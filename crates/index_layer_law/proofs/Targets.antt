-- Targets of keys among the listed nodes, as the law of turns has them.
use Rattle.std.proofs.Common.{◌≡◌, ◌≢◌, ℕ, ◌<◌, ◌≤◌, ◌⊎◌, inl, inr, ⊎_elim, true, false, cond, List, [], ◌∷◌, refl, ap, subst, arith}
use Rattle.std.specs.Prelude.{nat_le}
use Rattle.std.proofs.lemmas.Bool.{leb-true, leb-false}
use Rattle.pm_words.specs.declared.layout.Layout.{Layout}
use Rattle.pm_words.specs.Offsets.{next_offset}
use Rattle.data_node.specs.Spots.{Spot}
use Rattle.data_node.specs.Lists.{ListNode, IsMember, IsChain, Rise, IsBetween, anchor_in, key_of, target_from}
use Rattle.data_node.proofs.ListLemmas.{above, rise_at, between_target}
use Rattle.index_law.specs.Facts.{Facts, IsListed, range_of}
use Rattle.index_law.specs.Lawful.{IsList}
use Rattle.index_law.proofs.Past.{chain_up}
use Rattle.index_law.proofs.Switch.{rise_from, inside_between, inside_listed}
use Rattle.updater_law.specs.Covered.{IsTarget}
use Rattle.index_layer_law.specs.Turnings.{is_listed}
use Rattle.index_layer_law.proofs.FactTies.{listed_told, listed_tells}

-- of the nodes whose anchor is no greater than the key, the target has the greatest
greatest : (now : ℕ → Spot) (here : ℕ) (list : List ListNode) → IsChain now here list → Rise (anchor_in (now here)) list → (key m : ℕ) → (m ≡ here) ⊎ IsMember list m → anchor_in (now m) ≤ key
    → anchor_in (now m) ≤ anchor_in (now (target_from here list key))
greatest now here [] chain rise key m (inl e) low = let same = ap (λ k. anchor_in (now k)) e in omega arith
greatest now here [] chain rise key m (inr among) low = absurd among
greatest now here (q ∷ behind) chain rise key m is low =
    let up : Rise (anchor_in (now q.node)) behind = rise_at now q behind chain.2 rise.1 in
    elim (nat_le q.anchor key) as (λ b. nat_le q.anchor key ≡ b → anchor_in (now m) ≤ anchor_in (now (cond b (target_from q.node behind key) here))) [
      | true ↦ λ reached.
          let within : q.anchor ≤ key = leb-true q.anchor key reached in
          let same = chain.2 in
          ⊎_elim
          (λ (e : m ≡ here).
          let first : anchor_in (now q.node) ≤ anchor_in (now (target_from q.node behind key)) = greatest now q.node behind chain.3 up key q.node (inl refl) (omega arith) in
          let at = ap (λ k. anchor_in (now k)) e in
          let rising = rise.0 in
          omega arith)
          (λ (later : IsMember (q ∷ behind) m). greatest now q.node behind chain.3 up key m later low)
          is
      | false ↦ λ past.
          let high : key < q.anchor = leb-false q.anchor key past in
          ⊎_elim
          (λ (e : m ≡ here). let at = ap (λ k. anchor_in (now k)) e in omega arith)
          (λ (later : IsMember (q ∷ behind) m). ⊎_elim
          (λ (e : m ≡ q.node). let at = ap (λ k. anchor_in (now k)) e in let same = chain.2 in absurd (omega arith))
          (λ (among : IsMember behind m). let far = above now q.node q.anchor behind chain.3 rise.1 m among in absurd (omega arith))
          later)
          is
    ] refl

module _ (l : Layout) (f : Facts) (list : IsList l f) where
  -- a listed node's key between its anchor and that of the next has it as its target
  pub between_is_target : (n key : ℕ) → IsListed f n → IsBetween (f.now n) (f.now (f.now n next_offset)) key → IsTarget (λ m. is_listed f m ≡ true) (λ m. anchor_in (f.now m)) key n
  between_is_target n key listed between =
      let is : target_from 0 f.list key ≡ n = between_target f.now 0 f.list list.chain (rise_from l f list) n key listed between in
      record {
        here = listed_tells f n listed;
        low = between.low;
        greatest = λ m there low. subst (λ k. anchor_in (f.now m) ≤ anchor_in (f.now k)) is (greatest f.now 0 f.list list.chain (rise_from l f list) key m (listed_told f m there) low);
      }

  -- so has a name of its range
  pub inside_is_target : (n : ℕ) (name : List ℕ) → range_of l f n name ≡ true → IsTarget (λ m. is_listed f m ≡ true) (λ m. anchor_in (f.now m)) (key_of name) n
  inside_is_target n name inside = between_is_target n (key_of name) (inside_listed l f list n name inside) (inside_between l f list n name inside)

  -- and it is the only one
  pub one_target : (n m key : ℕ) → IsListed f n → IsBetween (f.now n) (f.now (f.now n next_offset)) key → IsTarget (λ k. is_listed f k ≡ true) (λ k. anchor_in (f.now k)) key m
      → ((a b : ℕ) → IsListed f a → IsListed f b → anchor_in (f.now a) ≡ anchor_in (f.now b) → a ≡ b) → m ≡ n
  one_target n m key listed between target apart =
      let mine = between_is_target n key listed between in
      let up = mine.greatest m target.here target.low in
      let down = target.greatest n mine.here mine.low in
      apart m n (listed_told f m target.here) listed (omega arith)

  -- between the anchors of a listed node and of the next there is none
  pub none_between : (n m : ℕ) → IsListed f n → f.now n next_offset ≢ 0 → IsListed f m → anchor_in (f.now m) < anchor_in (f.now (f.now n next_offset)) → anchor_in (f.now m) ≤ anchor_in (f.now n)
  none_between n m listed ne there low = ⊎_elim
      (λ (below : anchor_in (f.now m) ≤ anchor_in (f.now n)). below)
      (λ (over : anchor_in (f.now n) < anchor_in (f.now m)).
      let target = between_is_target n (anchor_in (f.now m)) listed (record { low = omega arith; high = λ some. low }) in
      target.greatest m (listed_tells f m there) (omega arith))
      (cases (anchor_in (f.now m)) (anchor_in (f.now n)))
    where
      cases : (a b : ℕ) → (a ≤ b) ⊎ (b < a)
      cases a b = elim (nat_le a b) as (λ c. nat_le a b ≡ c → (a ≤ b) ⊎ (b < a)) [
        | true ↦ λ is. inl (leb-true a b is)
        | false ↦ λ is. inr (leb-false a b is)
      ] refl

  -- the next one's anchor is above
  pub next_up : (n : ℕ) → IsListed f n → f.now n next_offset ≢ 0 → anchor_in (f.now n) < anchor_in (f.now (f.now n next_offset))
  next_up n listed ne = chain_up f.now 0 f.list list.chain (rise_from l f list) n listed ne
