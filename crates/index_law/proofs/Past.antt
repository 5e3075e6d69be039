-- One member fewer: the list, the targets and the ranges where a node leads past the one that it led to.
use Rattle.std.proofs.Common.{◌≡◌, ◌≢◌, ℕ, ◌<◌, ◌≤◌, ◌⊎◌, inl, inr, ⊎_elim, Bool, true, false, cond, List, [], ◌∷◌, refl, sym, ap, ◌∙◌, subst, arith}
use Rattle.std.specs.Prelude.{◌==◌, ◌&&◌, ◌||◌, nat_le}
use Rattle.std.specs.List.{AllByRecursion}
use Rattle.std.proofs.lemmas.Bool.{eq-eqb, ne_eqb, eqb-true, leb-true, le-leb, lt-leb}
use Rattle.pm_words.specs.declared.layout.Layout.{Layout}
use Rattle.pm_words.specs.Offsets.{next_offset}
use Rattle.cat_key.specs.Names.{IsName}
use Rattle.data_node.specs.Spots.{Spot}
use Rattle.data_node.proofs.SpotLemmas.{updated-same}
use Rattle.data_node.specs.Lists.{ListNode, key_of, anchor_in, members_from, target_from, IsMember, IsChain, Rise}
use Rattle.data_node.specs.Lists.{without_member}
use Rattle.index_law.specs.Facts.{Facts, range_of, IsListed}
use Rattle.index_law.specs.Lawful.{IsList}
use Rattle.call_stages.specs.Kinds.{from_key}
use Rattle.data_node.proofs.ListLemmas.{target_in, not_behind, rise_at, chain_closed, chain_is, chain_same, members_few}
use Rattle.index_law.proofs.Rows.{with_past, word_set, set_here, set_else}
use Rattle.index_law.proofs.Switch.{rise_from, anchors_set, inside_between, between_inside, leads_on}

-- The node r is left out: l leads on where r led.
pub record Passes (now now' : ℕ → Spot) (l r : ℕ) : Type 0 where
  pub leads : now l next_offset ≡ r
  pub nonzero : r ≢ 0
  pub at_left : now' l next_offset ≡ now r next_offset
  pub others : (n : ℕ) → n ≢ l → now' n next_offset ≡ now n next_offset
  pub anchors : (n : ℕ) → anchor_in (now' n) ≡ anchor_in (now n)

-- members rise from anything smaller too
rise_less : (less least : ℕ) (list : List ListNode) → less ≤ least → Rise least list → Rise less list
rise_less less least [] below rise = tt
rise_less less least (m ∷ behind) below rise = let low = rise.0 in (omega arith, rise.1)

pub rise_past : (r least : ℕ) (list : List ListNode) → Rise least list → Rise least (without_member r list)
rise_past r least [] rise = tt
rise_past r least (m ∷ behind) rise = elim (m.node == r) as (λ b. Rise least (cond b behind (m ∷ without_member r behind))) [
  | true ↦ rise_less least m.anchor behind (let low = rise.0 in omega arith) rise.1
  | false ↦ (rise.0, rise_past r m.anchor behind rise.1)
]

pub all_past : (P : ListNode → Type 0) (r : ℕ) (list : List ListNode) → AllByRecursion P list → AllByRecursion P (without_member r list)
all_past P r [] all = tt
all_past P r (m ∷ behind) all = elim (m.node == r) as (λ b. AllByRecursion P (cond b behind (m ∷ without_member r behind))) [
  | true ↦ all.1
  | false ↦ (all.0, all_past P r behind all.1)
]

-- the members are members before
pub member_past : (r : ℕ) (list : List ListNode) (n : ℕ) → IsMember (without_member r list) n → IsMember list n
member_past r [] n among = among
member_past r (m ∷ behind) n among = elim (m.node == r) as (λ b. IsMember (cond b behind (m ∷ without_member r behind)) n → (n ≡ m.node) ⊎ IsMember behind n) [
  | true ↦ λ is. inr is
  | false ↦ λ is. ⊎_elim (λ e. inl e) (λ later. inr (member_past r behind n later)) is
] among

-- and all but r are members still
pub past_keeps : (r : ℕ) (list : List ListNode) (n : ℕ) → n ≢ r → IsMember list n → IsMember (without_member r list) n
past_keeps r [] n other among = among
past_keeps r (m ∷ behind) n other among = elim (m.node == r) as (λ b. (m.node == r) ≡ b → IsMember (cond b behind (m ∷ without_member r behind)) n) [
  | true ↦ λ is. ⊎_elim (λ e. absurd (other (e ∙ eqb-true m.node r is))) (λ later. later) among
  | false ↦ λ _. ⊎_elim (λ e. inl e) (λ later. inr (past_keeps r behind n other later)) among
] refl

-- r itself is none
pub past_out : (now : ℕ → Spot) (r here : ℕ) (list : List ListNode) → IsChain now here list → Rise (anchor_in (now here)) list → IsMember (without_member r list) r → ⊥
past_out now r here [] chain rise among = among
past_out now r here (m ∷ behind) chain rise among = elim (m.node == r) as (λ b. (m.node == r) ≡ b → IsMember (cond b behind (m ∷ without_member r behind)) r → ⊥) [
  | true ↦ λ is later. not_behind now m.node behind chain.3 (rise_at now m behind chain.2 rise.1) (subst (IsMember behind) (sym (eqb-true m.node r is)) later)
  | false ↦ λ is. λ still. ⊎_elim
      (λ (e : r ≡ m.node). absurd (let no : true ≡ false = sym (eq-eqb m.node r (sym e)) ∙ is in cc))
      (λ later. past_out now r m.node behind chain.3 (rise_at now m behind chain.2 rise.1) later)
      still
] refl among

-- anchors rise from a member to the next
pub chain_up : (now : ℕ → Spot) (here : ℕ) (list : List ListNode) → IsChain now here list → Rise (anchor_in (now here)) list → (k : ℕ) → (k ≡ here) ⊎ IsMember list k
    → now k next_offset ≢ 0 → anchor_in (now k) < anchor_in (now (now k next_offset))
chain_up now here [] chain rise k (inl d) ne = absurd (ne (ap (λ z. now z next_offset) d ∙ chain))
chain_up now here [] chain rise k (inr among) ne = absurd among
chain_up now here (m ∷ behind) chain rise k (inl d) ne =
    let same = ap (λ z. anchor_in (now z)) d in
    let next : anchor_in (now (now k next_offset)) ≡ m.anchor = ap (λ z. anchor_in (now (now z next_offset))) d ∙ ap (λ z. anchor_in (now z)) chain.0 ∙ chain.2 in
    let low = rise.0 in
    omega arith
chain_up now here (m ∷ behind) chain rise k (inr among) ne = chain_up now m.node behind chain.3 (rise_at now m behind chain.2 rise.1) k among ne

module _ (now now' : ℕ → Spot) (l r : ℕ) (passes : Passes now now' l r) where
  -- the node that l leads to is the one left out
  next_is : (here : ℕ) (m : ListNode) (behind : List ListNode) → IsChain now here (m ∷ behind) → l ≡ here → m.node ≡ r
  next_is here m behind chain e = sym chain.0 ∙ ap (λ k. now k next_offset) (sym e) ∙ passes.leads

  -- and where l is behind this node, r is none of both
  next_not : (here : ℕ) (m : ListNode) (behind : List ListNode) → IsChain now here (m ∷ behind) → Rise (anchor_in (now here)) (m ∷ behind) → (l ≡ m.node) ⊎ IsMember behind l → IsMember behind r
  next_not here m behind chain rise among =
      subst (IsMember behind) passes.leads (chain_closed now m.node behind chain.3 l among (λ z. passes.nonzero (sym passes.leads ∙ z)))

  other_left : (here : ℕ) (list : List ListNode) → IsChain now here list → Rise (anchor_in (now here)) list → IsMember list l → here ≢ l
  other_left here list chain rise among e = not_behind now here list chain rise (subst (IsMember list) (sym e) among)

  -- the chain from l on
  chain_from : (here : ℕ) (m : ListNode) (behind : List ListNode) → IsChain now here (m ∷ behind) → Rise (anchor_in (now here)) (m ∷ behind) → l ≡ here → IsChain now' here behind
  chain_from here m [] chain rise e =
      ap (λ k. now' k next_offset) (sym e) ∙ passes.at_left ∙ ap (λ k. now k next_offset) (sym (next_is here m [] chain e)) ∙ chain.3
  chain_from here m (q ∷ rest) chain rise e =
      let gone : (n : ℕ) → (n ≡ q.node) ⊎ IsMember rest n → n ≢ l =
      λ n is d. not_behind now here (m ∷ q ∷ rest) chain rise (inr (subst (λ k. (k ≡ q.node) ⊎ IsMember rest k) (d ∙ e) is)) in (
        ap (λ k. now' k next_offset) (sym e) ∙ passes.at_left ∙ ap (λ k. now k next_offset) (sym (next_is here m (q ∷ rest) chain e)) ∙ chain.3.0,
        chain.3.1,
        passes.anchors q.node ∙ chain.3.2,
        chain_same now now' q.node rest (λ n is. passes.others n (gone n is)) (λ n is. passes.anchors n) chain.3.3,
      )

  pub chain_past : (here : ℕ) (list : List ListNode) → IsChain now here list → Rise (anchor_in (now here)) list → (l ≡ here) ⊎ IsMember list l → IsChain now' here (without_member r list)
  chain_past here [] chain rise (inl e) = absurd (passes.nonzero (sym passes.leads ∙ ap (λ k. now k next_offset) e ∙ chain))
  chain_past here [] chain rise (inr among) = absurd among
  chain_past here (m ∷ behind) chain rise (inl e) =
      subst (λ b. IsChain now' here (cond b behind (m ∷ without_member r behind))) (sym (eq-eqb m.node r (next_is here m behind chain e))) (chain_from here m behind chain rise e)
  chain_past here (m ∷ behind) chain rise (inr among) =
      let later = next_not here m behind chain rise among in
      let up = rise_at now m behind chain.2 rise.1 in
      let other : m.node ≢ r = (λ e. not_behind now m.node behind chain.3 up (subst (IsMember behind) (sym e) later)) in
      subst (λ b. IsChain now' here (cond b behind (m ∷ without_member r behind))) (sym (ne_eqb m.node r other)) (
        passes.others here (other_left here (m ∷ behind) chain rise among) ∙ chain.0,
        chain.1,
        passes.anchors m.node ∙ chain.2,
        chain_past m.node behind chain.3 up among,
      )

  -- the target of a key from l on
  target_here : (here : ℕ) (m : ListNode) (behind : List ListNode) (key : ℕ) → IsChain now here (m ∷ behind) → Rise (anchor_in (now here)) (m ∷ behind) → l ≡ here
      → target_from here behind key ≡ cond (target_from here (m ∷ behind) key == r) l (target_from here (m ∷ behind) key)
  target_here here m [] key chain rise e =
      let is = next_is here m [] chain e in
      let apart : here ≢ r = (λ d. not_behind now here (m ∷ []) chain rise (inl (d ∙ sym is))) in
      elim (nat_le m.anchor key) as (λ c. here ≡ cond (cond c m.node here == r) l (cond c m.node here)) [
        | true ↦ sym e ∙ sym (ap (λ b. cond b l m.node) (eq-eqb m.node r is))
        | false ↦ sym (ap (λ b. cond b l here) (ne_eqb here r apart))
      ]
  target_here here m (q ∷ rest) key chain rise e =
      let is = next_is here m (q ∷ rest) chain e in
      let apart : here ≢ r = (λ d. not_behind now here (m ∷ q ∷ rest) chain rise (inl (d ∙ sym is))) in
      let U : ℕ = target_from q.node rest key in
      let up = rise_at now m (q ∷ rest) chain.2 rise.1 in
      let beyond : U ≢ r = (λ d. not_behind now m.node (q ∷ rest) chain.3 up (subst (λ k. (k ≡ q.node) ⊎ IsMember rest k) (d ∙ sym is) (target_in q.node rest key))) in
      elim (nat_le q.anchor key) as (λ b. nat_le q.anchor key ≡ b
      → cond b U here ≡ cond (cond (nat_le m.anchor key) (cond b U m.node) here == r) l (cond (nat_le m.anchor key) (cond b U m.node) here)) [
        | true ↦ λ reached.
            let least = leb-true q.anchor key reached in
            let between = rise.1.0 in
            let low : nat_le m.anchor key ≡ true = le-leb m.anchor key (omega arith) in
            sym (ap (λ c. cond (cond c U here == r) l (cond c U here)) low ∙ ap (λ b. cond b l U) (ne_eqb U r beyond))
        | false ↦ λ past. elim (nat_le m.anchor key) as (λ c. here ≡ cond (cond c m.node here == r) l (cond c m.node here)) [
          | true ↦ sym e ∙ sym (ap (λ b. cond b l m.node) (eq-eqb m.node r is))
          | false ↦ sym (ap (λ b. cond b l here) (ne_eqb here r apart))
        ]
      ] refl

  -- it is the same but where it was r
  pub target_past : (here : ℕ) (list : List ListNode) (key : ℕ) → IsChain now here list → Rise (anchor_in (now here)) list → (l ≡ here) ⊎ IsMember list l
      → target_from here (without_member r list) key ≡ cond (target_from here list key == r) l (target_from here list key)
  target_past here [] key chain rise (inl e) = absurd (passes.nonzero (sym passes.leads ∙ ap (λ k. now k next_offset) e ∙ chain))
  target_past here [] key chain rise (inr among) = absurd among
  target_past here (m ∷ behind) key chain rise (inl e) =
      ap (λ b. target_from here (cond b behind (m ∷ without_member r behind)) key) (eq-eqb m.node r (next_is here m behind chain e)) ∙ target_here here m behind key chain rise e
  target_past here (m ∷ behind) key chain rise (inr among) =
      let later = next_not here m behind chain rise among in
      let up = rise_at now m behind chain.2 rise.1 in
      let other : m.node ≢ r = (λ e. not_behind now m.node behind chain.3 up (subst (IsMember behind) (sym e) later)) in
      let apart : here ≢ r = (λ d. not_behind now here (m ∷ behind) chain rise (inr (subst (IsMember behind) (sym d) later))) in
      ap (λ b. target_from here (cond b behind (m ∷ without_member r behind)) key) (ne_eqb m.node r other)
      ∙ elim (nat_le m.anchor key) as (λ c. cond c (target_from m.node (without_member r behind) key) here
      ≡ cond (cond c (target_from m.node behind key) here == r) l (cond c (target_from m.node behind key) here)) [
        | true ↦ target_past m.node behind key chain.3 up among
        | false ↦ sym (ap (λ b. cond b l here) (ne_eqb here r apart))
      ]

module _ (l : Layout) (f : Facts) (list : IsList l f) (n y r : ℕ) (listed : IsListed f n) (leads : f.now n next_offset ≡ r) (nonzero : r ≢ 0) (on : f.now r next_offset ≡ y) where
  abbrev now' : ℕ → Spot
  now' = word_set f.now n next_offset y

  passes : Passes f.now (word_set f.now n next_offset y) n r
  passes = record {
    leads = leads;
    nonzero = nonzero;
    at_left = ap (λ (s : Spot). s next_offset) (set_here f.now n next_offset y n refl) ∙ updated-same (f.now n) next_offset y ∙ sym on;
    others = λ k other. ap (λ (s : Spot). s next_offset) (set_else f.now n next_offset y k other);
    anchors = λ k. anchors_set f.now n y k;
  }

  pub right_listed : IsListed f r
  right_listed = subst (IsListed f) leads (leads_on l f list n listed (λ z. nonzero (sym leads ∙ z)))

  -- its anchor is above the left one's
  pub right_above : anchor_in (f.now n) < anchor_in (f.now r)
  right_above =
      let up = chain_up f.now 0 f.list list.chain (rise_from l f list) n listed (λ z. nonzero (sym leads ∙ z)) in
      let same : anchor_in (f.now (f.now n next_offset)) ≡ anchor_in (f.now r) = ap (λ k. anchor_in (f.now k)) leads in
      omega arith

  pub right_apart : n ≢ r
  right_apart e = let up = right_above in let same = ap (λ k. anchor_in (f.now k)) e in absurd (omega arith)

  chain_after : IsChain (word_set f.now n next_offset y) 0 (without_member r f.list)
  chain_after = chain_past f.now (word_set f.now n next_offset y) n r passes 0 f.list list.chain (rise_from l f list) listed

  rise_after : Rise 0 (without_member r f.list)
  rise_after = rise_past r 0 f.list list.rise

  -- the list afterwards
  pub list_past : IsList l (with_past f n y r)
  list_past = record {
    chain = chain_after;
    lowest = anchors_set f.now n y 0 ∙ list.lowest;
    rise = rise_after;
    within = all_past (λ (k : ListNode). k.node < l.nodes) r f.list list.within;
    named = all_past (λ (k : ListNode). (name : List ℕ) × IsName name × (k.anchor ≡ key_of name)) r f.list list.named;
  }

  -- and it is the one that the words give
  pub members_past : members_from (word_set f.now n next_offset y) l.nodes 0 ≡ without_member r f.list
  members_past =
      let low = anchors_set f.now n y 0 ∙ list.lowest in
      chain_is (word_set f.now n next_offset y) l.nodes 0 (without_member r f.list) chain_after
      (members_few (word_set f.now n next_offset y) 0 l.nodes (without_member r f.list) chain_after
      (subst (λ least. Rise least (without_member r f.list)) (sym low) rise_after) list_past.within)

  -- the target of a name
  target_now : (name : List ℕ) → target_from 0 (with_past f n y r).list (key_of name) ≡ cond (target_from 0 f.list (key_of name) == r) n (target_from 0 f.list (key_of name))
  target_now name = target_past f.now (word_set f.now n next_offset y) n r passes 0 f.list (key_of name) list.chain (rise_from l f list) listed

  -- the ranges of the other nodes stay
  pub range_past : (k : ℕ) → k ≢ n → k ≢ r → range_of l (with_past f n y r) k ≡ range_of l f k
  range_past k other apart = λ i name. by name i where
    by : (name : List ℕ) → range_of l (with_past f n y r) k name ≡ range_of l f k name
    by name =
        let T : ℕ = target_from 0 f.list (key_of name) in
        ap (λ t. t == k) (target_now name)
        ∙ elim (T == r) as (λ b. (T == r) ≡ b → (cond b n T == k) ≡ (T == k)) [
          | true ↦ λ is. ne_eqb n k (λ e. other (sym e)) ∙ sym (ne_eqb T k (λ e. apart (sym e ∙ eqb-true T r is)))
          | false ↦ λ _. refl
        ] refl

  -- the left node has the names of both
  pub range_joined : range_of l (with_past f n y r) n ≡ (λ name. range_of l f n name || range_of l f r name)
  range_joined = λ i name. by name i where
    by : (name : List ℕ) → range_of l (with_past f n y r) n name ≡ (range_of l f n name || range_of l f r name)
    by name =
        let T : ℕ = target_from 0 f.list (key_of name) in
        ap (λ t. t == n) (target_now name)
        ∙ elim (T == r) as (λ b. (T == r) ≡ b → (cond b n T == n) ≡ ((T == n) || b)) [
          | true ↦ λ is. eq-eqb n n refl ∙ sym (or_true (T == n))
          | false ↦ λ _. sym (or_false (T == n))
        ] refl
      where
        or_true : (b : Bool) → (b || true) ≡ true
        or_true true = refl
        or_true false = refl

        or_false : (b : Bool) → (b || false) ≡ b
        or_false true = refl
        or_false false = refl

  -- the names of the right one are those of both from its anchor on
  pub range_right : range_of l f r ≡ from_key (λ name. range_of l f n name || range_of l f r name) (anchor_in (f.now r))
  range_right = λ i name. by name i where
    by : (name : List ℕ) → range_of l f r name ≡ from_key (λ name. range_of l f n name || range_of l f r name) (anchor_in (f.now r)) name
    by name =
        let a : ℕ = anchor_in (f.now r) in
        elim (range_of l f r name) as (λ b. range_of l f r name ≡ b → b ≡ ((range_of l f n name || b) && nat_le a (key_of name))) [
          | true ↦ λ inside.
              let low = (inside_between l f list r name inside).low in
              sym (ap (λ c. (range_of l f n name || true) && c) (le-leb a (key_of name) (omega arith)) ∙ or_and (range_of l f n name))
          | false ↦ λ _. elim (range_of l f n name) as (λ c. range_of l f n name ≡ c → false ≡ ((c || false) && nat_le a (key_of name))) [
            | true ↦ λ inside.
                let high = (inside_between l f list n name inside).high (λ z. nonzero (sym leads ∙ z)) in
                let is : anchor_in (f.now (f.now n next_offset)) ≡ a = ap (λ k. anchor_in (f.now k)) leads in
                sym (lt-leb a (key_of name) (omega arith))
            | false ↦ λ _. refl
          ] refl
        ] refl
      where
        or_and : (b : Bool) → ((b || true) && true) ≡ true
        or_and true = refl
        or_and false = refl

  -- the nodes that are listed then
  pub listed_was : (k : ℕ) → IsListed (with_past f n y r) k → IsListed f k
  listed_was k (inl first) = inl first
  listed_was k (inr among) = inr (member_past r f.list k among)

  pub listed_else : (k : ℕ) → k ≢ r → IsListed f k → IsListed (with_past f n y r) k
  listed_else k other (inl first) = inl first
  listed_else k other (inr among) = inr (past_keeps r f.list k other among)

  pub listed_not : IsListed (with_past f n y r) r → ⊥
  listed_not (inl first) = nonzero first
  listed_not (inr among) = past_out f.now r 0 f.list list.chain (rise_from l f list) among

  -- the right node's anchor is a name, which belongs to it
  pub right_anchor : (name : List ℕ) × IsName name × (anchor_in (f.now r) ≡ key_of name)
  right_anchor = anchor_of 0 f.list list.chain list.named right_listed where
    anchor_of : (here : ℕ) (members : List ListNode) → IsChain f.now here members → AllByRecursion (λ (k : ListNode). (name : List ℕ) × IsName name × (k.anchor ≡ key_of name)) members
        → (r ≡ 0) ⊎ IsMember members r → (name : List ℕ) × IsName name × (anchor_in (f.now r) ≡ key_of name)
    anchor_of here members chain named (inl first) = absurd (nonzero first)
    anchor_of here [] chain named (inr among) = absurd among
    anchor_of here (m ∷ behind) chain named (inr (inl e)) = (named.0.0, named.0.1, ap (λ k. anchor_in (f.now k)) e ∙ chain.2 ∙ named.0.2)
    anchor_of here (m ∷ behind) chain named (inr (inr later)) = anchor_of m.node behind chain.3 named.1 (inr later)

  pub anchor_inside : (name : List ℕ) → IsName name → anchor_in (f.now r) ≡ key_of name → range_of l f r name ≡ true
  anchor_inside name named is = between_inside l f list r name right_listed (record {
    low = omega arith;
    high = λ ne. let up = chain_up f.now 0 f.list list.chain (rise_from l f list) r right_listed ne in omega arith;
  })
