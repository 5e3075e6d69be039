-- The list of nodes: which node is the one for a name, and what one member more makes of it.
use Rattle.std.proofs.Common.{◌≡◌, ◌≢◌, ℕ, zero, suc, ◌<◌, ◌≤◌, ◌⊎◌, inl, inr, ⊎_elim, Bool, true, false, cond, List, [], ◌∷◌, length, refl, sym, ap, ◌∙◌, subst, arith}
use Rattle.std.specs.Prelude.{◌==◌, ◌&&◌, ◌||◌, nat_le}
use Rattle.std.specs.List.{AllByRecursion, IsDistinct, list_any}
use Rattle.std.proofs.lemmas.Map.Steps.{length-le_from_distinct_below}
use Rattle.std.proofs.Math.Dec.{eqb}
use Rattle.std.proofs.lemmas.Bool.{cases_eq, eq-eqb, ne_eqb, leb-true, leb-false, le-leb, lt-leb}
use Rattle.pm_words.specs.Offsets.{next_offset}
use Rattle.data_node.specs.Spots.{Spot}
use Rattle.data_node.specs.Lists.{ListNode, anchor_in, IsBetween, members_from, target_from, IsMember, IsChain, Rise}
use Rattle.data_node.specs.Lists.{with_member}

-- the target is this node or one behind it
pub target_in : (here : ℕ) (list : List ListNode) (key : ℕ) → (target_from here list key ≡ here) ⊎ IsMember list (target_from here list key)
target_in here [] key = inl refl
target_in here (m ∷ behind) key =
    elim (nat_le m.anchor key) as (λ b. (cond b (target_from m.node behind key) here ≡ here) ⊎ ((cond b (target_from m.node behind key) here ≡ m.node) ⊎ IsMember behind (cond b (target_from m.node behind key) here))) [
      | true ↦ inr (target_in m.node behind key)
      | false ↦ inl refl
    ]

-- the members, where the words of no node in the list tell another next or anchor
pub members_alike : (now now' : ℕ → Spot) (fuel here : ℕ)
    → ((n : ℕ) → (n ≡ here) ⊎ IsMember (members_from now fuel here) n → (now' n next_offset ≡ now n next_offset) × (anchor_in (now' n) ≡ anchor_in (now n)))
    → members_from now' fuel here ≡ members_from now fuel here
members_alike now now' zero here same = refl
members_alike now now' (suc fuel) here same =
    let next : now' here next_offset ≡ now here next_offset = (same here (inl refl)).0 in
    let to : ℕ = now here next_offset in
    let rest : Bool → List ListNode = λ b. cond b [] ((record { node = to; anchor = anchor_in (now to) }) ∷ members_from now fuel to) in
    ⊎_elim
    (λ (last : to ≡ 0).
    ap (λ b. cond b [] ((record { node = now' here next_offset; anchor = anchor_in (now' (now' here next_offset)) }) ∷ members_from now' fuel (now' here next_offset))) (eq-eqb (now' here next_offset) 0 (next ∙ last))
    ∙ sym (ap rest (eq-eqb to 0 last)))
    (λ (other : to ≢ 0).
    let among : (n : ℕ) → (n ≡ to) ⊎ IsMember (members_from now fuel to) n → (now' n next_offset ≡ now n next_offset) × (anchor_in (now' n) ≡ anchor_in (now n)) =
    λ n is. same n (inr (subst (λ b. IsMember (rest b) n) (sym (ne_eqb to 0 other)) is)) in
    ap (λ b. cond b [] ((record { node = now' here next_offset; anchor = anchor_in (now' (now' here next_offset)) }) ∷ members_from now' fuel (now' here next_offset))) (ne_eqb (now' here next_offset) 0 (λ z. other (sym next ∙ z)))
    ∙ (λ i. (record { node = next i; anchor = (ap (λ k. anchor_in (now' k)) next ∙ (among to (inl refl)).1) i }) ∷ (ap (members_from now' fuel) next ∙ members_alike now now' fuel to among) i)
    ∙ sym (ap rest (ne_eqb to 0 other)))
    (cases_eq to 0)

module _ (now : ℕ → Spot) where
  -- the anchors of the members are above what they rise from
  pub above : (here least : ℕ) (list : List ListNode) → IsChain now here list → Rise least list → (n : ℕ) → IsMember list n → least < anchor_in (now n)
  above here least [] chain rise n among = absurd among
  above here least (m ∷ behind) chain rise n (inl e) = let low = rise.0 in let is = ap (λ k. anchor_in (now k)) e ∙ chain.2 in omega arith
  above here least (m ∷ behind) chain rise n (inr later) = let low = rise.0 in let up = above m.node m.anchor behind chain.3 rise.1 n later in omega arith

  -- so this node is none of those behind it
  pub not_behind : (here : ℕ) (list : List ListNode) → IsChain now here list → Rise (anchor_in (now here)) list → IsMember list here → ⊥
  not_behind here list chain rise among = let up = above here (anchor_in (now here)) list chain rise here among in absurd (omega arith)

  pub rise_at : (m : ListNode) (behind : List ListNode) → anchor_in (now m.node) ≡ m.anchor → Rise m.anchor behind → Rise (anchor_in (now m.node)) behind
  rise_at m behind is rise = subst (λ least. Rise least behind) (sym is) rise

  -- a key between a listed node's anchor and that of the next has this node as its target
  pub between_target : (here : ℕ) (list : List ListNode) → IsChain now here list → Rise (anchor_in (now here)) list → (n key : ℕ) → (n ≡ here) ⊎ IsMember list n
      → IsBetween (now n) (now (now n next_offset)) key → target_from here list key ≡ n
  between_target here [] chain rise n key (inl e) between = sym e
  between_target here [] chain rise n key (inr among) between = absurd among
  between_target here (m ∷ behind) chain rise n key (inl e) between =
      let leads : now n next_offset ≡ m.node = ap (λ k. now k next_offset) e ∙ chain.0 in
      let high = between.high (λ z. chain.1 (sym leads ∙ z)) in
      let is : anchor_in (now (now n next_offset)) ≡ m.anchor = ap (λ k. anchor_in (now k)) leads ∙ chain.2 in
      ap (λ b. cond b (target_from m.node behind key) here) (lt-leb m.anchor key (omega arith)) ∙ sym e
  between_target here (m ∷ behind) chain rise n key (inr among) between =
      let low = between.low in
      let reached : m.anchor ≤ key =
      ⊎_elim
      (λ (e : n ≡ m.node). let is = ap (λ k. anchor_in (now k)) e ∙ chain.2 in omega arith)
      (λ (later : IsMember behind n). let up = above m.node m.anchor behind chain.3 rise.1 n later in omega arith)
      among in
      ap (λ b. cond b (target_from m.node behind key) here) (le-leb m.anchor key reached)
      ∙ between_target m.node behind chain.3 (rise_at m behind chain.2 rise.1) n key among between

  -- and a key whose target is a node lies between them
  pub target_between : (here : ℕ) (list : List ListNode) → IsChain now here list → (key n : ℕ) → anchor_in (now here) ≤ key → target_from here list key ≡ n
      → IsBetween (now n) (now (now n next_offset)) key
  target_between here [] chain key n low is =
      subst (λ k. IsBetween (now k) (now (now k next_offset)) key) is (record { low = low; high = λ ne. absurd (ne chain) })
  target_between here (m ∷ behind) chain key n low is =
      elim (nat_le m.anchor key) as (λ b. nat_le m.anchor key ≡ b → cond b (target_from m.node behind key) here ≡ n → IsBetween (now n) (now (now n next_offset)) key) [
        | true ↦ λ reached on. let least = leb-true m.anchor key reached in let anchor = chain.2 in target_between m.node behind chain.3 key n (omega arith) on
        | false ↦ λ past on.
            let high = leb-false m.anchor key past in
            let anchor : anchor_in (now (now here next_offset)) ≡ m.anchor = ap (λ k. anchor_in (now k)) chain.0 ∙ chain.2 in
            subst (λ k. IsBetween (now k) (now (now k next_offset)) key) on (record { low = low; high = λ ne. omega arith })
      ] refl is

  -- a listed node leads to a listed one
  pub chain_closed : (here : ℕ) (list : List ListNode) → IsChain now here list → (n : ℕ) → (n ≡ here) ⊎ IsMember list n → now n next_offset ≢ 0 → IsMember list (now n next_offset)
  chain_closed here [] chain n (inl e) ne = absurd (ne (ap (λ k. now k next_offset) e ∙ chain))
  chain_closed here [] chain n (inr among) ne = absurd among
  chain_closed here (m ∷ behind) chain n (inl e) ne = inl (ap (λ k. now k next_offset) e ∙ chain.0)
  chain_closed here (m ∷ behind) chain n (inr among) ne = inr (chain_closed m.node behind chain.3 n among ne)

  -- enough fuel finds the whole chain
  pub chain_is : (fuel here : ℕ) (list : List ListNode) → IsChain now here list → length list ≤ fuel → members_from now fuel here ≡ list
  chain_is zero here [] chain few = refl
  chain_is zero here (m ∷ behind) chain few = absurd (omega arith)
  chain_is (suc fuel) here [] chain few =
      ap (λ b. cond b [] ((record { node = now here next_offset; anchor = anchor_in (now (now here next_offset)) }) ∷ members_from now fuel (now here next_offset))) (eq-eqb (now here next_offset) 0 chain)
  chain_is (suc fuel) here (m ∷ behind) chain few =
      ap (λ b. cond b [] ((record { node = now here next_offset; anchor = anchor_in (now (now here next_offset)) }) ∷ members_from now fuel (now here next_offset)))
      (ne_eqb (now here next_offset) 0 (λ z. chain.1 (sym chain.0 ∙ z)))
      ∙ (λ i. (record { node = chain.0 i; anchor = (ap (λ k. anchor_in (now k)) chain.0 ∙ chain.2) i })
      ∷ (ap (members_from now fuel) chain.0 ∙ chain_is fuel m.node behind chain.3 (omega arith)) i)

-- the chain stays where its nodes lead on as before, and their anchors are the same
pub chain_same : (now now' : ℕ → Spot) (here : ℕ) (list : List ListNode) → ((n : ℕ) → (n ≡ here) ⊎ IsMember list n → now' n next_offset ≡ now n next_offset)
    → ((n : ℕ) → (n ≡ here) ⊎ IsMember list n → anchor_in (now' n) ≡ anchor_in (now n)) → IsChain now here list → IsChain now' here list
chain_same now now' here [] next anchor chain = next here (inl refl) ∙ chain
chain_same now now' here (m ∷ behind) next anchor chain =
    (next here (inl refl) ∙ chain.0, chain.1, anchor m.node (inr (inl refl)) ∙ chain.2, chain_same now now' m.node behind (λ n is. next n (inr is)) (λ n is. anchor n (inr is)) chain.3)

-- a node more is a member afterwards, and no other
pub member_cut : (l : ℕ) (new : ListNode) (here : ℕ) (list : List ListNode) (n : ℕ) → IsMember (with_member l new here list) n → IsMember list n ⊎ (n ≡ new.node)
member_cut l new here [] n among =
    elim (here == l) as (λ b. IsMember (cond b (new ∷ []) []) n → ⊥ ⊎ (n ≡ new.node)) [
      | true ↦ λ is. ⊎_elim (λ e. inr e) (λ none. absurd none) is
      | false ↦ λ is. absurd is
    ] among
member_cut l new here (m ∷ behind) n among =
    elim (here == l) as (λ b. IsMember (cond b (new ∷ m ∷ behind) (m ∷ with_member l new m.node behind)) n → ((n ≡ m.node) ⊎ IsMember behind n) ⊎ (n ≡ new.node)) [
      | true ↦ λ is. ⊎_elim (λ e. inr e) (λ was. inl was) is
      | false ↦ λ is. ⊎_elim (λ e. inl (inl e)) (λ later. ⊎_elim (λ was. inl (inr was)) (λ e. inr e) (member_cut l new m.node behind n later)) is
    ] among

pub cut_keeps : (l : ℕ) (new : ListNode) (here : ℕ) (list : List ListNode) (n : ℕ) → IsMember list n → IsMember (with_member l new here list) n
cut_keeps l new here [] n among = absurd among
cut_keeps l new here (m ∷ behind) n among =
    elim (here == l) as (λ b. IsMember (cond b (new ∷ m ∷ behind) (m ∷ with_member l new m.node behind)) n) [
      | true ↦ inr among
      | false ↦ ⊎_elim (λ e. inl e) (λ later. inr (cut_keeps l new m.node behind n later)) among
    ]

pub cut_has : (l : ℕ) (new : ListNode) (here : ℕ) (list : List ListNode) → (l ≡ here) ⊎ IsMember list l → IsMember (with_member l new here list) new.node
cut_has l new here [] (inl e) = subst (λ b. IsMember (cond b (new ∷ []) []) new.node) (sym (eq-eqb here l (sym e))) (inl refl)
cut_has l new here [] (inr among) = absurd among
cut_has l new here (m ∷ behind) (inl e) =
    subst (λ b. IsMember (cond b (new ∷ m ∷ behind) (m ∷ with_member l new m.node behind)) new.node) (sym (eq-eqb here l (sym e))) (inl refl)
cut_has l new here (m ∷ behind) (inr among) =
    elim (here == l) as (λ b. IsMember (cond b (new ∷ m ∷ behind) (m ∷ with_member l new m.node behind)) new.node) [
      | true ↦ inl refl
      | false ↦ inr (cut_has l new m.node behind among)
    ]

-- The node of new is put behind l: it leads on where l led, and its anchor is a key of l's range, above l's anchor.
pub record Cuts (now now' : ℕ → Spot) (l : ℕ) (new : ListNode) : Type 0 where
  pub at_left : now' l next_offset ≡ new.node
  pub others : (n : ℕ) → n ≢ l → now' n next_offset ≡ now n next_offset
  pub anchors : (n : ℕ) → anchor_in (now' n) ≡ anchor_in (now n)
  pub goes_on : now new.node next_offset ≡ now l next_offset
  pub anchored : anchor_in (now new.node) ≡ new.anchor
  pub nonzero : new.node ≢ 0
  pub up : anchor_in (now l) < new.anchor
  pub under : now l next_offset ≢ 0 → new.anchor < anchor_in (now (now l next_offset))

module _ (now now' : ℕ → Spot) (l : ℕ) (new : ListNode) (cuts : Cuts now now' l new) where
  -- where l is a member, this node is another
  other_than : (here : ℕ) (list : List ListNode) → IsChain now here list → Rise (anchor_in (now here)) list → IsMember list l → here ≢ l
  other_than here list chain rise among e = not_behind now here list chain rise (subst (IsMember list) (sym e) among)

  -- the chain afterwards
  pub chain_cut : (here : ℕ) (list : List ListNode) → IsChain now here list → Rise (anchor_in (now here)) list → (l ≡ here) ⊎ IsMember list l
      → ((new.node ≡ here) ⊎ IsMember list new.node → ⊥) → IsChain now' here (with_member l new here list)
  chain_cut here [] chain rise (inr among) out = absurd among
  chain_cut here [] chain rise (inl e) out =
      let other : new.node ≢ l = (λ d. out (inl (d ∙ e))) in
      subst (λ b. IsChain now' here (cond b (new ∷ []) [])) (sym (eq-eqb here l (sym e))) (
        ap (λ k. now' k next_offset) (sym e) ∙ cuts.at_left,
        cuts.nonzero,
        cuts.anchors new.node ∙ cuts.anchored,
        cuts.others new.node other ∙ cuts.goes_on ∙ ap (λ k. now k next_offset) e ∙ chain,
      )
  chain_cut here (m ∷ behind) chain rise (inl e) out =
      let other : new.node ≢ l = (λ d. out (inl (d ∙ e))) in
      let gone : (n : ℕ) → (n ≡ m.node) ⊎ IsMember behind n → n ≢ l = λ n is d. not_behind now here (m ∷ behind) chain rise (subst (λ k. (k ≡ m.node) ⊎ IsMember behind k) (d ∙ e) is) in
      subst (λ b. IsChain now' here (cond b (new ∷ m ∷ behind) (m ∷ with_member l new m.node behind))) (sym (eq-eqb here l (sym e))) (
        ap (λ k. now' k next_offset) (sym e) ∙ cuts.at_left,
        cuts.nonzero,
        cuts.anchors new.node ∙ cuts.anchored,
        (
          cuts.others new.node other ∙ cuts.goes_on ∙ ap (λ k. now k next_offset) e ∙ chain.0,
          chain.1,
          cuts.anchors m.node ∙ chain.2,
          chain_same now now' m.node behind (λ n is. cuts.others n (gone n is)) (λ n is. cuts.anchors n) chain.3,
        ),
      )
  chain_cut here (m ∷ behind) chain rise (inr among) out =
      let other = other_than here (m ∷ behind) chain rise among in
      subst (λ b. IsChain now' here (cond b (new ∷ m ∷ behind) (m ∷ with_member l new m.node behind))) (sym (ne_eqb here l other)) (
        cuts.others here other ∙ chain.0,
        chain.1,
        cuts.anchors m.node ∙ chain.2,
        chain_cut m.node behind chain.3 (rise_at now m behind chain.2 rise.1) among (λ is. out (inr is)),
      )

  -- its anchors rise
  pub rise_cut : (here least : ℕ) (list : List ListNode) → IsChain now here list → least ≡ anchor_in (now here) → Rise least list → (l ≡ here) ⊎ IsMember list l
      → Rise least (with_member l new here list)
  rise_cut here least [] chain is rise (inr among) = absurd among
  rise_cut here least [] chain is rise (inl e) =
      let up = cuts.up in let same = ap (λ k. anchor_in (now k)) e in
      subst (λ b. Rise least (cond b (new ∷ []) [])) (sym (eq-eqb here l (sym e))) (omega arith, tt)
  rise_cut here least (m ∷ behind) chain is rise (inl e) =
      let up = cuts.up in let same = ap (λ k. anchor_in (now k)) e in
      let leads : now l next_offset ≡ m.node = ap (λ k. now k next_offset) e ∙ chain.0 in
      let under = cuts.under (λ z. chain.1 (sym leads ∙ z)) in
      let anchor : anchor_in (now (now l next_offset)) ≡ m.anchor = ap (λ k. anchor_in (now k)) leads ∙ chain.2 in
      subst (λ b. Rise least (cond b (new ∷ m ∷ behind) (m ∷ with_member l new m.node behind))) (sym (eq-eqb here l (sym e))) (omega arith, (omega arith, rise.1))
  rise_cut here least (m ∷ behind) chain is rise (inr among) =
      subst (λ b. Rise least (cond b (new ∷ m ∷ behind) (m ∷ with_member l new m.node behind)))
      (sym (ne_eqb here l (other_than here (m ∷ behind) chain (subst (λ k. Rise k (m ∷ behind)) is rise) among)))
      (rise.0, rise_cut m.node m.anchor behind chain.3 (sym chain.2) rise.1 among)

  -- the target of a key is the same but where it was l and the key is at least the new anchor
  pub target_cut : (here : ℕ) (list : List ListNode) (key : ℕ) → IsChain now here list → Rise (anchor_in (now here)) list → (l ≡ here) ⊎ IsMember list l
      → target_from here (with_member l new here list) key ≡ cond ((target_from here list key == l) && nat_le new.anchor key) new.node (target_from here list key)
  target_cut here [] key chain rise (inr among) = absurd among
  target_cut here [] key chain rise (inl e) =
      ap (λ b. target_from here (cond b (new ∷ []) []) key) (eq-eqb here l (sym e)) ∙ sym (ap (λ b. cond (b && nat_le new.anchor key) new.node here) (eq-eqb here l (sym e)))
  target_cut here (m ∷ behind) key chain rise (inl e) =
      let leads : now l next_offset ≡ m.node = ap (λ k. now k next_offset) e ∙ chain.0 in
      let under = cuts.under (λ z. chain.1 (sym leads ∙ z)) in
      let anchor : anchor_in (now (now l next_offset)) ≡ m.anchor = ap (λ k. anchor_in (now k)) leads ∙ chain.2 in
      let T : ℕ = target_from m.node behind key in
      let gone : (T == l) ≡ false = ne_eqb T l (λ d. not_behind now here (m ∷ behind) chain rise (subst (λ k. (k ≡ m.node) ⊎ IsMember behind k) (d ∙ e) (target_in m.node behind key))) in
      ap (λ b. target_from here (cond b (new ∷ m ∷ behind) (m ∷ with_member l new m.node behind)) key) (eq-eqb here l (sym e))
      ∙ elim (nat_le new.anchor key) as (λ b. nat_le new.anchor key ≡ b
      → cond b (cond (nat_le m.anchor key) T new.node) here ≡ cond ((cond (nat_le m.anchor key) T here == l) && b) new.node (cond (nat_le m.anchor key) T here)) [
        | true ↦ λ up. elim (nat_le m.anchor key) as (λ c. cond c T new.node ≡ cond ((cond c T here == l) && true) new.node (cond c T here)) [
          | true ↦ sym (ap (λ b. cond (b && true) new.node T) gone)
          | false ↦ sym (ap (λ b. cond (b && true) new.node here) (eq-eqb here l (sym e)))
        ]
        | false ↦ λ low.
            let less = leb-false new.anchor key low in
            let past : nat_le m.anchor key ≡ false = lt-leb m.anchor key (omega arith) in
            sym (ap (λ c. cond ((cond c T here == l) && false) new.node (cond c T here)) past ∙ ap (λ b. cond (b && false) new.node here) (eq-eqb here l (sym e)))
      ] refl
  target_cut here (m ∷ behind) key chain rise (inr among) =
      let other = other_than here (m ∷ behind) chain rise among in
      ap (λ b. target_from here (cond b (new ∷ m ∷ behind) (m ∷ with_member l new m.node behind)) key) (ne_eqb here l other)
      ∙ elim (nat_le m.anchor key) as (λ c. cond c (target_from m.node (with_member l new m.node behind) key) here
      ≡ cond ((cond c (target_from m.node behind key) here == l) && nat_le new.anchor key) new.node (cond c (target_from m.node behind key) here)) [
        | true ↦ target_cut m.node behind key chain.3 (rise_at now m behind chain.2 rise.1) among
        | false ↦ sym (ap (λ b. cond (b && nat_le new.anchor key) new.node here) (ne_eqb here l other))
      ]

-- the numbers of the members
abbrev pub nodes_of : List ListNode → List ℕ
nodes_of [] = []
nodes_of (m ∷ behind) = m.node ∷ nodes_of behind

nodes-length : (list : List ListNode) → length (nodes_of list) ≡ length list
nodes-length [] = refl
nodes-length (m ∷ behind) = ap suc (nodes-length behind)

pub none_is : (x : ℕ) (list : List ListNode) → (IsMember list x → ⊥) → AllByRecursion (λ y. eqb x y ≡ false) (nodes_of list)
none_is x [] out = tt
none_is x (m ∷ behind) out = (ne_eqb x m.node (λ e. out (inl e)), none_is x behind (λ is. out (inr is)))

nodes_differ : (now : ℕ → Spot) (here : ℕ) (list : List ListNode) → IsChain now here list → Rise (anchor_in (now here)) list → IsDistinct eqb (nodes_of list)
unfolding IsDistinct
nodes_differ now here [] chain rise = tt
nodes_differ now here (m ∷ behind) chain rise =
    let up = rise_at now m behind chain.2 rise.1 in
    (none_is m.node behind (not_behind now m.node behind chain.3 up), nodes_differ now m.node behind chain.3 up)

nodes_below : (most q : ℕ) (list : List ListNode) → AllByRecursion (λ (m : ListNode). m.node < most) list → list_any (eqb q) (nodes_of list) ≡ true → q < most
nodes_below most q [] within is = absurd cc
nodes_below most q (m ∷ behind) within is = ⊎_elim
    (λ (e : q ≡ m.node). let low = within.0 in omega arith)
    (λ (other : q ≢ m.node). nodes_below most q behind within.1 (subst (λ b. (b || list_any (eqb q) (nodes_of behind)) ≡ true) (ne_eqb q m.node other) is))
    (cases_eq q m.node)

-- there are no more members than nodes
pub members_few : (now : ℕ → Spot) (here most : ℕ) (list : List ListNode) → IsChain now here list → Rise (anchor_in (now here)) list
    → AllByRecursion (λ (m : ListNode). m.node < most) list → length list ≤ most
members_few now here most list chain rise within =
    let few = length-le_from_distinct_below (nodes_of list) most (nodes_differ now here list chain rise) (λ q is. nodes_below most q list within is) in
    let same = nodes-length list in
    omega arith

-- with this one
here_distinct : (now : ℕ → Spot) (here : ℕ) (list : List ListNode) → IsChain now here list → Rise (anchor_in (now here)) list → IsDistinct eqb (here ∷ nodes_of list)
unfolding IsDistinct
here_distinct now here list chain rise = (none_is here list (not_behind now here list chain rise), nodes_differ now here list chain rise)

pub distinct_few : (here most : ℕ) (list : List ListNode) → IsDistinct eqb (here ∷ nodes_of list) → here < most
    → AllByRecursion (λ (m : ListNode). m.node < most) list → length list < most
distinct_few here most list distinct first within =
    let few = length-le_from_distinct_below (here ∷ nodes_of list) most distinct
    (λ q is. ⊎_elim
    (λ (e : q ≡ here). let low = first in omega arith)
    (λ (other : q ≢ here). nodes_below most q list within (subst (λ b. (b || list_any (eqb q) (nodes_of list)) ≡ true) (ne_eqb q here other) is))
    (cases_eq q here)) in
    let same = nodes-length list in
    omega arith

pub members_all : (now : ℕ → Spot) (here most : ℕ) (list : List ListNode) → IsChain now here list → Rise (anchor_in (now here)) list
    → here < most → AllByRecursion (λ (m : ListNode). m.node < most) list → length list < most
members_all now here most list chain rise = distinct_few here most list (here_distinct now here list chain rise)

-- what holds of each member and of one more holds of each afterwards
pub all_cut : (P : ListNode → Type 0) (l : ℕ) (new : ListNode) (here : ℕ) (list : List ListNode) → P new → AllByRecursion P list → AllByRecursion P (with_member l new here list)
all_cut P l new here [] more all =
    elim (here == l) as (λ b. AllByRecursion P (cond b (new ∷ []) [])) [ true ↦ (more, tt) | false ↦ tt ]
all_cut P l new here (m ∷ behind) more all =
    elim (here == l) as (λ b. AllByRecursion P (cond b (new ∷ m ∷ behind) (m ∷ with_member l new m.node behind))) [
      | true ↦ (more, all)
      | false ↦ (all.0, all_cut P l new m.node behind more all.1)
    ]

-- a member is one of those of which it holds
pub all_member : (P : ℕ → Type 0) (list : List ListNode) (n : ℕ) → AllByRecursion (λ (m : ListNode). P m.node) list → IsMember list n → P n
all_member P [] n all among = absurd among
all_member P (m ∷ behind) n all (inl e) = subst P (sym e) all.0
all_member P (m ∷ behind) n all (inr later) = all_member P behind n all.1 later

-- a node is in the list or not
pub member_or : (list : List ListNode) (n : ℕ) → IsMember list n ⊎ (IsMember list n → ⊥)
member_or [] n = inr (λ none. none)
member_or (m ∷ behind) n = ⊎_elim
    (λ (e : n ≡ m.node). inl (inl e))
    (λ (other : n ≢ m.node). ⊎_elim (λ later. inl (inr later)) (λ none. inr (λ is. ⊎_elim other none is)) (member_or behind n))
    (cases_eq n m.node)
