-- A way is the walk's with nothing in flight; and how much longer a split or a merge makes it.
use Rattle.std.proofs.Common.{◌≡◌, ◌≢◌, ℕ, suc, ◌+◌, ◌<◌, ◌≤◌, ◌⊎◌, ◌==◌, true, false, cond, List, [], ◌∷◌, inl, inr, ⊎_elim, refl, sym, subst, ap, ◌∙◌, arith}
use Rattle.std.specs.Prelude.{nat_le}
use Rattle.std.proofs.lemmas.Bool.{cases_eq, eqb-true, leb-true, leb-false}
use Rattle.pm_words.specs.declared.layout.Layout.{Layout}
use Rattle.pm_words.specs.Offsets.{next_offset}
use Rattle.data_node.specs.Spots.{Spot}
use Rattle.data_node.specs.Lists.{ListNode, anchor_in, target_from, IsMember, IsIn, IsChain, Rise, with_member}
use Rattle.data_node.specs.Lists.{without_member}
use Rattle.data_node.proofs.ListLemmas.{above, rise_at, chain_closed}
use Rattle.data_list.specs.Still.{Nodes, position_from, AreQuiet, Comes, is_there, leaves_gone, goes_back}
use Rattle.data_list.proofs.Comings.{forward}
use Rattle.index_law.proofs.Past.{chain_up}
use Rattle.lone_hops_law.specs.Ways.{GoesOut, is_out, goes_by, apart, IsWay, WaysAreWalks, StayGone, HasCut, HasJoined, LongerByOne}
use Rattle.lone_hops_law.proofs.Positions.{one_at, one_or, position_none, position_rises, position_next, position_past, position_before, position_cut, position_joined}

module _ (l : Layout) (g : ℕ) (f : Nodes) (key : ℕ) (all : AreQuiet l g f) where
  -- past the key it goes back from each to the one before it
  back_far : (here least hops : ℕ) (behind : List ListNode) → key ≤ least → IsIn f.list here → ((k : ℕ) → IsMember behind k → IsMember f.list k) → IsChain f.now here behind → Rise least behind
      → Comes l f key here hops → (n : ℕ) → IsMember behind n → Comes l f key n (hops + position_from behind (anchor_in (f.now n)))
  back_far here least hops [] low listed members chain rise comes n is = absurd is
  back_far here least hops (m ∷ behind) low listed members chain rise comes n is =
      let up = rise.0 in
      let anchor = chain.2 in
      let among : IsIn f.list m.node = inr (members m.node (inl refl)) in
      let prev : f.prev m.node ≡ here = subst (λ k. f.prev k ≡ here) chain.0 (all.prevs here listed (λ z. chain.1 (sym chain.0 ∙ z))) in
      let there : Comes l f key m.node (suc hops) = goes_back among (omega arith) (subst (λ k. Comes l f key k hops) (sym prev) comes) in
      ⊎_elim
      (λ (e : n ≡ m.node).
      let is_anchor : anchor_in (f.now n) ≡ m.anchor = ap (λ k. anchor_in (f.now k)) e ∙ anchor in
      let step : position_from (m ∷ behind) (anchor_in (f.now n)) ≡ 1 + position_from behind (anchor_in (f.now n)) = position_past m behind (anchor_in (f.now n)) (omega arith) in
      let none : position_from behind (anchor_in (f.now n)) ≡ 0 = position_none behind m.anchor (anchor_in (f.now n)) rise.1 (omega arith) in
      let sum : suc hops ≡ hops + position_from (m ∷ behind) (anchor_in (f.now n)) = omega arith in
      subst (Comes l f key n) sum (subst (λ k. Comes l f key k (suc hops)) (sym e) there))
      (λ later.
      let above_it = above f.now m.node m.anchor behind chain.3 rise.1 n later in
      let step : position_from (m ∷ behind) (anchor_in (f.now n)) ≡ 1 + position_from behind (anchor_in (f.now n)) = position_past m behind (anchor_in (f.now n)) (omega arith) in
      let sum : suc hops + position_from behind (anchor_in (f.now n)) ≡ hops + position_from (m ∷ behind) (anchor_in (f.now n)) = omega arith in
      subst (Comes l f key n) sum
      (back_far m.node m.anchor (suc hops) behind (omega arith) among (λ k member. members k (inr member)) chain.3 rise.1 there n later))
      is

  spread_far : (here : ℕ) (behind : List ListNode) → IsIn f.list here → ((k : ℕ) → IsMember behind k → IsMember f.list k) → IsChain f.now here behind → Rise (anchor_in (f.now here)) behind
      → target_from here behind key ≡ target_from 0 f.list key → (n : ℕ) → (n ≡ here) ⊎ IsMember behind n → Comes l f key n (apart behind (anchor_in (f.now n)) key)
  spread_far here behind listed members chain rise is n (inl e) =
      let own : anchor_in (f.now n) ≡ anchor_in (f.now here) = ap (λ k. anchor_in (f.now k)) e in
      let none : position_from behind (anchor_in (f.now n)) ≡ 0 = position_none behind (anchor_in (f.now here)) (anchor_in (f.now n)) rise (omega arith) in
      let sum : position_from behind key ≡ apart behind (anchor_in (f.now n)) key = omega arith in
      subst (Comes l f key n) sum (subst (λ k. Comes l f key k (position_from behind key)) (sym e) (forward l g f key all.quiet here behind listed members chain is))
  spread_far here [] listed members chain rise is n (inr among) = absurd among
  spread_far here (m ∷ behind) listed members chain rise is n (inr among) =
      elim (nat_le m.anchor key) as (λ b. nat_le m.anchor key ≡ b → cond b (target_from m.node behind key) here ≡ target_from 0 f.list key → Comes l f key n (apart (m ∷ behind) (anchor_in (f.now n)) key)) [
        | true ↦ λ up is.
            let most = leb-true m.anchor key up in
            let at_least : m.anchor ≤ anchor_in (f.now n) = ⊎_elim
            (λ (e : n ≡ m.node). let own : anchor_in (f.now n) ≡ m.anchor = ap (λ k. anchor_in (f.now k)) e ∙ chain.2 in omega arith)
            (λ later. let past = above f.now m.node m.anchor behind chain.3 rise.1 n later in omega arith)
            among in
            let own : position_from (m ∷ behind) (anchor_in (f.now n)) ≡ 1 + position_from behind (anchor_in (f.now n)) = position_past m behind (anchor_in (f.now n)) at_least in
            let its : position_from (m ∷ behind) key ≡ 1 + position_from behind key = position_past m behind key most in
            let sum : apart behind (anchor_in (f.now n)) key ≡ apart (m ∷ behind) (anchor_in (f.now n)) key = omega arith in
            subst (Comes l f key n) sum
            (spread_far m.node behind (inr (members m.node (inl refl))) (λ k member. members k (inr member)) chain.3 (rise_at f.now m behind chain.2 rise.1) is n among)
        | false ↦ λ past is.
            let below = leb-false m.anchor key past in
            let none : position_from (m ∷ behind) key ≡ 0 = position_before m behind key below in
            let sum : 0 + position_from (m ∷ behind) (anchor_in (f.now n)) ≡ apart (m ∷ behind) (anchor_in (f.now n)) key = omega arith in
            subst (Comes l f key n) sum
            (back_far here key 0 (m ∷ behind) (omega arith) listed members chain (below, rise.1) (is_there is) n among)
      ] refl is

  listed_far : (n : ℕ) → IsIn f.list n → Comes l f key n (apart f.list (anchor_in (f.now n)) key)
  listed_far n listed =
      spread_far 0 f.list (inl refl) (λ k is. is) all.quiet.chain (subst (λ a. Rise a f.list) (sym all.quiet.lowest) all.quiet.rise) refl n listed

  out_walks : (n gone out : ℕ) → n < l.nodes → GoesOut f n gone out → Comes l f key n (gone + apart f.list (anchor_in (f.now out)) key)
  out_walks n gone out within (is_out listed) =
      let sum : apart f.list (anchor_in (f.now n)) key ≡ 0 + apart f.list (anchor_in (f.now n)) key = omega arith in
      subst (Comes l f key n) sum (listed_far n listed)
  out_walks n gone out within (goes_by {hops = hops} is rest) =
      let more : ℕ = hops + apart f.list (anchor_in (f.now out)) key in
      let sum : suc more ≡ suc hops + apart f.list (anchor_in (f.now out)) key = omega arith in
      subst (Comes l f key n) sum (leaves_gone within is (out_walks (f.prev n) hops out (all.below n) rest))

pub ways_are_walks : WaysAreWalks
ways_are_walks l g f key n hops all within way =
    subst (Comes l f key n) (sym way.all) (out_walks l g f key all n way.gone way.out within way.leads)

-- ---- from one list to another

-- this member with this anchor stands there
abbrev Has : List ListNode → ℕ → ℕ → Type 0
Has [] n anchor = ⊥
Has (m ∷ behind) n anchor = ((n ≡ m.node) × (anchor ≡ m.anchor)) ⊎ Has behind n anchor

chain_has : (now : ℕ → Spot) (here : ℕ) (list : List ListNode) → IsChain now here list → (n : ℕ) → IsMember list n → Has list n (anchor_in (now n))
chain_has now here [] chain n among = absurd among
chain_has now here (m ∷ behind) chain n (inl e) = inl (e, ap (λ k. anchor_in (now k)) e ∙ chain.2)
chain_has now here (m ∷ behind) chain n (inr later) = inr (chain_has now m.node behind chain.3 n later)

has_anchor : (now : ℕ → Spot) (here : ℕ) (list : List ListNode) → IsChain now here list → (n anchor : ℕ) → Has list n anchor → anchor_in (now n) ≡ anchor
has_anchor now here [] chain n anchor has = absurd has
has_anchor now here (m ∷ behind) chain n anchor (inl is) = ap (λ k. anchor_in (now k)) is.0 ∙ chain.2 ∙ sym is.1
has_anchor now here (m ∷ behind) chain n anchor (inr later) = has_anchor now m.node behind chain.3 n anchor later

has_member : (list : List ListNode) (n anchor : ℕ) → Has list n anchor → IsMember list n
has_member [] n anchor has = absurd has
has_member (m ∷ behind) n anchor (inl is) = inl is.0
has_member (m ∷ behind) n anchor (inr later) = inr (has_member behind n anchor later)

has_cut : (left : ℕ) (new : ListNode) (here : ℕ) (list : List ListNode) (n anchor : ℕ) → Has list n anchor → Has (with_member left new here list) n anchor
has_cut left new here [] n anchor has = absurd has
has_cut left new here (m ∷ behind) n anchor has =
    elim (here == left) as (λ b. Has (cond b (new ∷ m ∷ behind) (m ∷ with_member left new m.node behind)) n anchor) [
      | true ↦ inr has
      | false ↦ ⊎_elim (λ is. inl is) (λ later. inr (has_cut left new m.node behind n anchor later)) has
    ]

has_joined : (right : ℕ) (list : List ListNode) (n anchor : ℕ) → n ≢ right → Has list n anchor → Has (without_member right list) n anchor
has_joined right [] n anchor other has = absurd has
has_joined right (m ∷ behind) n anchor other has =
    elim (m.node == right) as (λ b. (m.node == right) ≡ b → Has (cond b behind (m ∷ without_member right behind)) n anchor) [
      | true ↦ λ is. ⊎_elim (λ here. absurd (other (here.0 ∙ eqb-true m.node right is))) (λ later. later) has
      | false ↦ λ _. ⊎_elim (λ here. inl here) (λ later. inr (has_joined right behind n anchor other later)) has
    ] refl

module _ (l : Layout) (g : ℕ) (f f' : Nodes) (all : AreQuiet l g f) (after : AreQuiet l g f') (stay : StayGone f f') where
  -- a node that is listed in both has its anchor in both
  abbrev Moves : ℕ → Type 0
  Moves n = IsIn f'.list n × (anchor_in (f'.now n) ≡ anchor_in (f.now n))

  moved : (n : ℕ) → IsIn f.list n → (Has f.list n (anchor_in (f.now n)) → Has f'.list n (anchor_in (f.now n))) → Moves n
  moved n (inl e) has = (inl e, ap (λ k. anchor_in (f'.now k)) e ∙ after.quiet.lowest ∙ sym all.quiet.lowest ∙ ap (λ k. anchor_in (f.now k)) (sym e))
  moved n (inr among) has =
      let there = has (chain_has f.now 0 f.list all.quiet.chain n among) in
      (inr (has_member f'.list n (anchor_in (f.now n)) there), has_anchor f'.now 0 f'.list after.quiet.chain n (anchor_in (f.now n)) there)

  -- the way out is the same where it leads to a node that is still listed
  out_stays : (n gone out : ℕ) → GoesOut f n gone out → IsIn f'.list out → GoesOut f' n gone out
  out_stays n gone out (is_out listed) still = is_out still
  out_stays n gone out (goes_by {hops = hops} is rest) still =
      let same = stay n is in
      goes_by same.0 (subst (λ k. GoesOut f' k hops out) (sym same.1) (out_stays (f.prev n) hops out rest still))

  out_listed : (n gone out : ℕ) → GoesOut f n gone out → IsIn f.list out
  out_listed n gone out (is_out listed) = listed
  out_listed n gone out (goes_by {hops = hops} is rest) = out_listed (f.prev n) hops out rest

  pub same_ways : f'.list ≡ f.list → (key n hops : ℕ) → IsWay f key n hops → IsWay f' key n hops
  same_ways list key n hops way =
      let moves = moved way.out (out_listed n way.gone way.out way.leads) (λ has. subst (λ (m : List ListNode). Has m way.out (anchor_in (f.now way.out))) (sym list) has) in
      record {
        out = way.out;
        gone = way.gone;
        leads = out_stays n way.gone way.out way.leads moves.0;
        all = way.all ∙ sym (λ i. way.gone + apart (list i) (moves.1 i) key);
      }

  -- a way to a node that is still listed is longer by no more than its key and the other one are further apart
  still_way : (key n hops : ℕ) (way : IsWay f key n hops) → Moves way.out → apart f'.list (anchor_in (f.now way.out)) key ≤ apart f.list (anchor_in (f.now way.out)) key + 1
      → (more : ℕ) × (more ≤ hops + 1) × IsWay f' key n more
  still_way key n hops way moves few =
      let was = way.all in (
        way.gone + apart f'.list (anchor_in (f.now way.out)) key,
        omega arith,
        record {
          out = way.out;
          gone = way.gone;
          leads = out_stays n way.gone way.out way.leads moves.0;
          all = ap (λ a. way.gone + apart f'.list a key) (sym moves.1);
        },
      )

  pub cut_ways : HasCut f f' → LongerByOne f f'
  cut_ways cut key n hops way =
      let own : ℕ = anchor_in (f.now way.out) in
      let moves = moved way.out (out_listed n way.gone way.out way.leads) (λ has. subst (λ (m : List ListNode). Has m way.out own) (sym cut.list) (has_cut cut.left cut.new 0 f.list way.out own has)) in
      let rise : Rise 0 (with_member cut.left cut.new 0 f.list) = subst (Rise 0) cut.list after.quiet.rise in
      let far : (x : ℕ) → position_from f'.list x ≡ position_from f.list x + one_at cut.new.anchor x =
      λ x. ap (λ (m : List ListNode). position_from m x) cut.list ∙ position_cut cut.left cut.new 0 0 f.list x cut.listed rise in
      let one = far own in
      let other = far key in
      let few : apart f'.list own key ≤ apart f.list own key + 1 = ⊎_elim
      (λ (a : (cut.new.anchor ≤ own) × (one_at cut.new.anchor own ≡ 1)). ⊎_elim
      (λ (b : (cut.new.anchor ≤ key) × (one_at cut.new.anchor key ≡ 1)). let x = a.1 in let y = b.1 in omega arith)
      (λ (b : (key < cut.new.anchor) × (one_at cut.new.anchor key ≡ 0)). let x = a.1 in let y = b.1 in omega arith)
      (one_or cut.new.anchor key))
      (λ (a : (own < cut.new.anchor) × (one_at cut.new.anchor own ≡ 0)). ⊎_elim
      (λ (b : (cut.new.anchor ≤ key) × (one_at cut.new.anchor key ≡ 1)). let x = a.1 in let y = b.1 in omega arith)
      (λ (b : (key < cut.new.anchor) × (one_at cut.new.anchor key ≡ 0)). let x = a.1 in let y = b.1 in omega arith)
      (one_or cut.new.anchor key))
      (one_or cut.new.anchor own) in
      still_way key n hops way moves few

  module _ (joined : HasJoined f f') where
    abbrev left : ℕ
    left = joined.left

    abbrev right : ℕ
    right = joined.right

    rise : Rise (anchor_in (f.now 0)) f.list
    rise = subst (λ least. Rise least f.list) (sym all.quiet.lowest) all.quiet.rise

    some : f.now left next_offset ≢ 0
    some z = joined.some (sym joined.leads ∙ z)

    among : IsMember f.list right
    among = subst (IsMember f.list) joined.leads (chain_closed f.now 0 f.list all.quiet.chain left joined.listed some)

    up : anchor_in (f.now left) < anchor_in (f.now right)
    up = subst (λ k. anchor_in (f.now left) < anchor_in (f.now k)) joined.leads (chain_up f.now 0 f.list all.quiet.chain rise left joined.listed some)

    still : (n : ℕ) → n ≢ right → IsIn f.list n → Moves n
    still n other listed = moved n listed (λ has. subst (λ (m : List ListNode). Has m n (anchor_in (f.now n))) (sym joined.list) (has_joined right f.list n (anchor_in (f.now n)) other has))

    left_moves : Moves left
    left_moves = still left (λ e. let same = ap (λ k. anchor_in (f.now k)) e in let above_it = up in absurd (omega arith)) joined.listed

    -- where it led to the right node, it leads on to the left one
    out_joins : (n gone out : ℕ) → out ≡ right → GoesOut f n gone out → GoesOut f' n (gone + 1) left
    out_joins n gone out e (is_out listed) =
        subst (λ k. GoesOut f' k 1 left) (sym e) (goes_by joined.gone (subst (λ k. GoesOut f' k 0 left) (sym joined.prev) (is_out left_moves.0)))
    out_joins n gone out e (goes_by {hops = hops} is rest) =
        let same = stay n is in
        let longer : suc (hops + 1) ≡ suc hops + 1 = omega arith in
        subst (λ k. GoesOut f' n k left) longer (goes_by same.0 (subst (λ k. GoesOut f' k (hops + 1) left) (sym same.1) (out_joins (f.prev n) hops out e rest)))

    far : (x : ℕ) → position_from f'.list x + one_at (anchor_in (f.now right)) x ≡ position_from f.list x
    far x = ap (λ (m : List ListNode). position_from m x + one_at (anchor_in (f.now right)) x) joined.list ∙ position_joined f.now right 0 0 f.list x all.quiet.chain all.quiet.rise among

    -- two keys with the right node's anchor between them come nearer
    across : (low high : ℕ) → low < anchor_in (f.now right) → anchor_in (f.now right) ≤ high → one_at (anchor_in (f.now right)) low ≡ 0 → one_at (anchor_in (f.now right)) high ≡ 1
        → apart f'.list low high ≤ apart f.list low high
    across low high under over none one =
        let at_low = far low in
        let at_high = far high in
        let rises = position_rises f'.list low high (omega (arith, under, over)) in
        omega (arith, none, one)

    -- how far the keys of two nodes are apart once the right node is gone
    nearer : (own key : ℕ) → apart f'.list own key ≤ apart f.list own key
    nearer own key =
        let its : ℕ = anchor_in (f.now right) in
        let at_own = far own in
        let at_key = far key in
        ⊎_elim
        (λ (a : (its ≤ own) × (one_at its own ≡ 1)). ⊎_elim
        (λ (b : (its ≤ key) × (one_at its key ≡ 1)). let x = a.1 in let y = b.1 in omega arith)
        (λ (b : (key < its) × (one_at its key ≡ 0)). let nearer_both = across key own b.0 a.0 b.1 a.1 in omega arith)
        (one_or its key))
        (λ (a : (own < its) × (one_at its own ≡ 0)). ⊎_elim
        (λ (b : (its ≤ key) × (one_at its key ≡ 1)). across own key a.0 b.0 a.1 b.1)
        (λ (b : (key < its) × (one_at its key ≡ 0)). let x = a.1 in let y = b.1 in omega arith)
        (one_or its key))
        (one_or its own)

    from_left : (key : ℕ) → apart f'.list (anchor_in (f.now left)) key ≤ apart f.list (anchor_in (f.now right)) key
    from_left key =
        let its : ℕ = anchor_in (f.now right) in
        let lower : ℕ = anchor_in (f.now left) in
        let next : position_from f.list its ≡ position_from f.list lower + 1 =
        subst (λ k. position_from f.list (anchor_in (f.now k)) ≡ position_from f.list lower + 1) joined.leads (position_next f.now 0 f.list all.quiet.chain rise left joined.listed some) in
        let above_it = up in
        let at_its = far its in
        let at_lower = far lower in
        let at_key = far key in
        let here : one_at its its ≡ 1 = ⊎_elim (λ (a : (its ≤ its) × (one_at its its ≡ 1)). a.1) (λ (a : (its < its) × (one_at its its ≡ 0)). let no = a.0 in absurd (omega arith)) (one_or its its) in
        let below : one_at its lower ≡ 0 = ⊎_elim (λ (a : (its ≤ lower) × (one_at its lower ≡ 1)). let no = a.0 in absurd (omega arith)) (λ (a : (lower < its) × (one_at its lower ≡ 0)). a.1) (one_or its lower) in
        ⊎_elim
        (λ (b : (its ≤ key) × (one_at its key ≡ 1)). let y = b.1 in omega arith)
        (λ (b : (key < its) × (one_at its key ≡ 0)).
        let high = b.0 in
        let rises = position_rises f'.list key its (omega arith) in
        let y = b.1 in
        omega arith)
        (one_or its key)

    pub join_ways : LongerByOne f f'
    join_ways key n hops way =
        let own : ℕ = anchor_in (f.now way.out) in
        let was = way.all in
        ⊎_elim
        (λ (e : way.out ≡ right).
        let same : apart f.list own key ≡ apart f.list (anchor_in (f.now right)) key = ap (λ k. apart f.list (anchor_in (f.now k)) key) e in
        let few = from_left key in (
          way.gone + 1 + apart f'.list (anchor_in (f.now left)) key,
          omega arith,
          record {
            out = left;
            gone = way.gone + 1;
            leads = out_joins n way.gone way.out e way.leads;
            all = ap (λ a. way.gone + 1 + apart f'.list a key) (sym left_moves.1);
          },
        ))
        (λ (other : way.out ≢ right).
        let moves = still way.out other (out_listed n way.gone way.out way.leads) in
        let near = nearer own key in
        let few : apart f'.list own key ≤ apart f.list own key + 1 = omega arith in
        still_way key n hops way moves few)
        (cases_eq way.out right)
