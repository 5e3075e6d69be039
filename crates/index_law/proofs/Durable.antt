-- The list that the durable words make: that of the cached words, without the nodes to which a link isn't durable yet, and with those
-- that a link leads past which isn't durable yet.
use Rattle.std.proofs.Common.{◌≡◌, ◌≢◌, ℕ, ◌+◌, ◌<◌, ◌≤◌, ◌⊎◌, inl, inr, ⊎_elim, ◌/◌, Bool, true, false, cond, List, [], ◌∷◌, refl, sym, ap, ◌∙◌, subst, arith}
use Rattle.std.specs.Prelude.{◌==◌, ◌||◌, ◌&&◌, nat_le, Option, Some, None}
use Rattle.std.specs.List.{AllByRecursion}
use Rattle.std.proofs.lemmas.Bool.{cases_eq, eqb-true, eq-eqb, leb-true, le-leb}
use mathlib.Core.Option.{some, some-injective}
use lib.ListN.{get_elem?}
use Rattle.version_lock.specs.Versions.{IsFree}
use Rattle.cat_key.specs.Names.{IsName}
use Rattle.cat_history.specs.declared.op.Change.{Change}
use Rattle.pm_words.specs.Offsets.{next_offset}
use Rattle.data_node.specs.Spots.{Spot, Means}
use Rattle.data_node.specs.Weights.{names_in}
use Rattle.data_node.proofs.NameCounts.{same_names}
use Rattle.call_stages.specs.Kinds.{from_key}
use Rattle.data_node.specs.Lists.{ListNode, key_of, anchor_in, target_from, IsMember, IsIn, IsChain, Rise}
use Rattle.call_stages.specs.Stages.{Held, Grip, Filling, Linked, Parted, Gathered, Joined, Gone, Stage, Idle, Saw, Wears, Reads, Holds, Eyes, Splits, Leaves, Meets, Joins, pended, pending_in}
use Rattle.index_law.specs.Facts.{Facts, map_now, range_of, durable_spot, IsListed}
use Rattle.index_law.specs.Twins.{BacksStage}
use Rattle.index_law.specs.Worlds.{Party, World, facts}
use Rattle.index_law.specs.Lawful.{IsHeld, Sure, Lawful}
use Rattle.call_stages.specs.Stages.{HoldsNode}
use Rattle.index_law.specs.Laws.{HasLinked, HasJoined, MeansDurably, durable_list, DurablesAreAList}
use Rattle.data_node.proofs.ListLemmas.{target_in, rise_at, between_target, chain_is, members_few}
use Rattle.index_law.proofs.Rows.{anchor-alike}
use Rattle.index_law.proofs.Starts.{listed_within}
use Rattle.data_node.specs.Weights.{total}
use Rattle.index_law.proofs.Totals.{names_less}
use Rattle.index_law.proofs.Switch.{leads_on, inside_between}
use Rattle.index_law.proofs.Stays.{means_less, means_beside, both_true}

-- The durable link of this node leads to one that isn't a member, and from there to where the node leads.
pub record IsPutBack (now safe : ℕ → Spot) (n r : ℕ) : Type 0 where
  pub leads : safe n next_offset ≡ r
  pub nonzero : r ≢ 0
  pub on : safe r next_offset ≡ now n next_offset
  pub up : anchor_in (now n) < anchor_in (safe r)
  pub under : now n next_offset ≢ 0 → anchor_in (safe r) < anchor_in (now (now n next_offset))

-- A node's durable anchor is the cached one, and so is its next; or its durable link skips one node, or leads to one that is put back.
pub record IsTwin (now safe : ℕ → Spot) (Skip : ℕ → Type 0) (Back : ℕ → ℕ → Type 0) (n : ℕ) : Type 0 where
  pub anchor : anchor_in (safe n) ≡ anchor_in (now n)
  pub next : (safe n next_offset ≡ now n next_offset)
      ⊎ ((Skip n × (now n next_offset ≢ 0) × (safe n next_offset ≡ now (now n next_offset) next_offset))
      ⊎ ((r : ℕ) × Back n r × IsPutBack now safe n r))

-- How the target of a key there stands to that among the members: it is the same, or skips that one, or is put back behind it.
abbrev pub Aims : (ℕ → Spot) → (ℕ → Spot) → (ℕ → Type 0) → (ℕ → ℕ → Type 0) → ℕ → ℕ → ℕ → Type 0
Aims now safe Skip Back there here key = (there ≡ here) ⊎ ((Skip there × (now there next_offset ≡ here)) ⊎ (Back here there × (anchor_in (safe there) ≤ key)))

-- A list with some members taken out, and others put in.
pub record Thin (now safe : ℕ → Spot) (P : ListNode → Type 0) (Skip : ℕ → Type 0) (Back : ℕ → ℕ → Type 0) (here : ℕ) (list : List ListNode) : Type 0 where
  pub to : List ListNode
  pub chain : IsChain safe here to
  pub rise : (least : ℕ) → least ≤ anchor_in (now here) → Rise least list → Rise least to
  pub all : AllByRecursion P list → AllByRecursion P to
  pub listed : (n : ℕ) → IsMember to n → IsMember list n ⊎ ((k : ℕ) × ((k ≡ here) ⊎ IsMember list k) × Back k n)
  -- what the nodes weigh together, where one that skips another weighs no more than both, and one with one put back no more with it
  pub weighs : (d cost : ℕ → ℕ) → ((n : ℕ) → (n ≡ here) ⊎ IsMember list n → safe n next_offset ≡ now n next_offset → d n ≤ cost n)
      → ((n : ℕ) → (n ≡ here) ⊎ IsMember list n → Skip n → d n ≤ cost n + cost (now n next_offset))
      → ((n r : ℕ) → (n ≡ here) ⊎ IsMember list n → Back n r → d n + d r ≤ cost n) → total d here to ≤ total cost here list
  pub target : (key : ℕ) → Aims now safe Skip Back (target_from here to key) (target_from here list key) key

module _ (now safe : ℕ → Spot) (P : ListNode → Type 0) (Skip : ℕ → Type 0) (Back : ℕ → ℕ → Type 0)
    (proper : (n r : ℕ) → Back n r → P (record { node = r; anchor = anchor_in (safe r) })) where
  -- a link that is durable
  keep_link : (here : ℕ) (m : ListNode) (behind : List ListNode) → safe here next_offset ≡ now here next_offset → IsTwin now safe Skip Back m.node → IsChain now here (m ∷ behind)
      → Thin now safe P Skip Back m.node behind → Thin now safe P Skip Back here (m ∷ behind)
  keep_link here m behind same twin chain rest = record {
    to = m ∷ rest.to;
    chain = (same ∙ chain.0, chain.1, twin.anchor ∙ chain.2, rest.chain);
    rise = λ least low rises. (rises.0, rest.rise m.anchor (let is = chain.2 in omega arith) rises.1);
    all = λ all. (all.0, rest.all all.1);
    listed = λ n among. ⊎_elim (λ e. inl (inl e)) (λ later. ⊎_elim (λ is. inl (inr is)) (λ back. inr (back.0, inr back.1, back.2)) (rest.listed n later)) among;
    weighs = λ d cost plain skips backs.
        let first = plain here (inl refl) same in
        let others = rest.weighs d cost (λ n is. plain n (inr is)) (λ n is. skips n (inr is)) (λ n r is. backs n r (inr is)) in
        omega arith;
    target = λ key. elim (nat_le m.anchor key) as (λ c. Aims now safe Skip Back (cond c (target_from m.node rest.to key) here) (cond c (target_from m.node behind key) here) key) [
      | true ↦ rest.target key
      | false ↦ inl refl
    ];
  }

  -- one that isn't, to the last node
  skip_last : (here : ℕ) (m : ListNode) → Skip here → safe here next_offset ≡ now (now here next_offset) next_offset → IsChain now here (m ∷ [])
      → Thin now safe P Skip Back here (m ∷ [])
  skip_last here m skip before chain = record {
    to = [];
    chain = before ∙ ap (λ n. now n next_offset) chain.0 ∙ chain.3;
    rise = λ least low rises. tt;
    all = λ all. tt;
    listed = λ n among. absurd among;
    weighs = λ d cost plain skips backs.
        let both = skips here (inl refl) skip in
        let next = ap cost chain.0 in
        omega arith;
    target = λ key. elim (nat_le m.anchor key) as (λ c. Aims now safe Skip Back here (cond c m.node here) key) [
      | true ↦ inr (inl (skip, chain.0))
      | false ↦ inl refl
    ];
  }

  -- and to another
  skip_link : (here : ℕ) (m q : ListNode) (behind : List ListNode) → Skip here → safe here next_offset ≡ now (now here next_offset) next_offset
      → IsTwin now safe Skip Back q.node → IsChain now here (m ∷ q ∷ behind) → m.anchor < q.anchor → Thin now safe P Skip Back q.node behind → Thin now safe P Skip Back here (m ∷ q ∷ behind)
  skip_link here m q behind skip before twin chain up rest = record {
    to = q ∷ rest.to;
    chain = (before ∙ ap (λ n. now n next_offset) chain.0 ∙ chain.3.0, chain.3.1, twin.anchor ∙ chain.3.2, rest.chain);
    rise = λ least low rises. let first = rises.0 in (omega arith, rest.rise q.anchor (let is = chain.3.2 in omega arith) rises.1.1);
    all = λ all. (all.1.0, rest.all all.1.1);
    listed = λ n among. ⊎_elim (λ e. inl (inr (inl e)))
        (λ later. ⊎_elim (λ is. inl (inr (inr is))) (λ back. inr (back.0, inr (inr back.1), back.2)) (rest.listed n later)) among;
    weighs = λ d cost plain skips backs.
        let both = skips here (inl refl) skip in
        let next = ap cost chain.0 in
        let others = rest.weighs d cost (λ n is. plain n (inr (inr is))) (λ n is. skips n (inr (inr is))) (λ n r is. backs n r (inr (inr is))) in
        omega arith;
    target = λ key. elim (nat_le q.anchor key) as (λ c. nat_le q.anchor key ≡ c
        → Aims now safe Skip Back (cond c (target_from q.node rest.to key) here) (cond (nat_le m.anchor key) (cond c (target_from q.node behind key) m.node) here) key) [
          | true ↦ λ reached.
              let least = leb-true q.anchor key reached in
              subst (λ d. Aims now safe Skip Back (target_from q.node rest.to key) (cond d (target_from q.node behind key) here) key)
              (sym (le-leb m.anchor key (omega arith))) (rest.target key)
          | false ↦ λ past. elim (nat_le m.anchor key) as (λ d. Aims now safe Skip Back here (cond d m.node here) key) [
            | true ↦ inr (inl (skip, chain.0))
            | false ↦ inl refl
          ]
        ] refl;
  }

  -- one to a node that is put back behind the last,
  back_last : (here r : ℕ) → Back here r → IsPutBack now safe here r → IsChain now here [] → Thin now safe P Skip Back here []
  back_last here r back put chain = record {
    to = (record { node = r; anchor = anchor_in (safe r) }) ∷ [];
    chain = (put.leads, put.nonzero, refl, put.on ∙ chain);
    rise = λ least low rises. (let up = put.up in omega arith, tt);
    all = λ all. (proper here r back, tt);
    listed = λ n among. ⊎_elim (λ e. inr (here, inl refl, subst (Back here) (sym e) back)) (λ none. absurd none) among;
    weighs = λ d cost plain skips backs. backs here r (inl refl) back;
    target = λ key. elim (nat_le (anchor_in (safe r)) key) as (λ c. nat_le (anchor_in (safe r)) key ≡ c → Aims now safe Skip Back (cond c r here) here key) [
      | true ↦ λ reached. inr (inr (back, leb-true (anchor_in (safe r)) key reached))
      | false ↦ λ past. inl refl
    ] refl;
  }

  -- or behind another
  back_link : (here r : ℕ) (m : ListNode) (behind : List ListNode) → Back here r → IsPutBack now safe here r → IsTwin now safe Skip Back m.node → IsChain now here (m ∷ behind)
      → Thin now safe P Skip Back m.node behind → Thin now safe P Skip Back here (m ∷ behind)
  back_link here r m behind back put twin chain rest =
      let next : anchor_in (now (now here next_offset)) ≡ m.anchor = ap (λ n. anchor_in (now n)) chain.0 ∙ chain.2 in
      let high = put.under (λ z. chain.1 (sym chain.0 ∙ z)) in
      record {
        to = (record { node = r; anchor = anchor_in (safe r) }) ∷ m ∷ rest.to;
        chain = (put.leads, put.nonzero, refl, (put.on ∙ chain.0, chain.1, twin.anchor ∙ chain.2, rest.chain));
        rise = λ least low rises. (let up = put.up in omega arith, (omega arith, rest.rise m.anchor (let is = chain.2 in omega arith) rises.1));
        all = λ all. (proper here r back, (all.0, rest.all all.1));
        listed = λ n among. ⊎_elim
            (λ e. inr (here, inl refl, subst (Back here) (sym e) back))
            (λ others. ⊎_elim (λ e. inl (inl e)) (λ later. ⊎_elim (λ is. inl (inr is)) (λ more. inr (more.0, inr more.1, more.2)) (rest.listed n later)) others)
            among;
        weighs = λ d cost plain skips backs.
            let both = backs here r (inl refl) back in
            let others = rest.weighs d cost (λ n is. plain n (inr is)) (λ n is. skips n (inr is)) (λ n q is. backs n q (inr is)) in
            omega arith;
        target = λ key. elim (nat_le m.anchor key) as (λ c. nat_le m.anchor key ≡ c
            → Aims now safe Skip Back (cond (nat_le (anchor_in (safe r)) key) (cond c (target_from m.node rest.to key) r) here) (cond c (target_from m.node behind key) here) key) [
              | true ↦ λ reached.
                  let least = leb-true m.anchor key reached in
                  subst (λ d. Aims now safe Skip Back (cond d (target_from m.node rest.to key) here) (target_from m.node behind key) key)
                  (sym (le-leb (anchor_in (safe r)) key (omega arith))) (rest.target key)
              | false ↦ λ past. elim (nat_le (anchor_in (safe r)) key) as (λ d. nat_le (anchor_in (safe r)) key ≡ d → Aims now safe Skip Back (cond d r here) here key) [
                | true ↦ λ low. inr (inr (back, leb-true (anchor_in (safe r)) key low))
                | false ↦ λ _. inl refl
              ] refl
            ] refl;
      }

  thin : (here least : ℕ) (list : List ListNode) → IsChain now here list → Rise least list → ((n : ℕ) → (n ≡ here) ⊎ IsMember list n → IsTwin now safe Skip Back n)
      → Thin now safe P Skip Back here list
  thin here least [] chain rise twin = ⊎_elim
      (λ (same : safe here next_offset ≡ now here next_offset). record {
        to = [];
        chain = same ∙ chain;
        rise = λ least' low rises. tt;
        all = λ all. tt;
        listed = λ n among. absurd among;
        weighs = λ d cost plain skips backs. plain here (inl refl) same;
        target = λ key. inl refl;
      })
      (λ other. ⊎_elim (λ skip. absurd (skip.1 chain)) (λ back. back_last here back.0 back.1 back.2 chain) other)
      (twin here (inl refl)).next
  thin here least (m ∷ []) chain rise twin = ⊎_elim
      (λ same. keep_link here m [] same (twin m.node (inr (inl refl))) chain (thin m.node m.anchor [] chain.3 rise.1 (λ n is. twin n (inr is))))
      (λ other. ⊎_elim
      (λ skip. skip_last here m skip.0 skip.2 chain)
      (λ back. back_link here back.0 m [] back.1 back.2 (twin m.node (inr (inl refl))) chain (thin m.node m.anchor [] chain.3 rise.1 (λ n is. twin n (inr is))))
      other)
      (twin here (inl refl)).next
  thin here least (m ∷ (q ∷ behind)) chain rise twin = ⊎_elim
      (λ same. keep_link here m (q ∷ behind) same (twin m.node (inr (inl refl))) chain (thin m.node m.anchor (q ∷ behind) chain.3 rise.1 (λ n is. twin n (inr is))))
      (λ other. ⊎_elim
      (λ skip. skip_link here m q behind skip.0 skip.2 (twin q.node (inr (inr (inl refl)))) chain rise.1.0
      (thin q.node q.anchor behind chain.3.3 rise.1.1 (λ n is. twin n (inr (inr is)))))
      (λ back. back_link here back.0 m (q ∷ behind) back.1 back.2 (twin m.node (inr (inl refl))) chain (thin m.node m.anchor (q ∷ behind) chain.3 rise.1 (λ n is. twin n (inr is))))
      other)
      (twin here (inl refl)).next

-- The durable link of a split isn't there yet: the node means the map on the ranges of both.
pub record IsSkip (w : World) (n : ℕ) : Type 0 where
  pub listed : IsListed (facts w) n
  pub ne : (facts w).now n next_offset ≢ 0
  pub other : durable_spot w.layout w.words n next_offset ≢ (facts w).now n next_offset
  pub to : durable_spot w.layout w.words n next_offset ≡ (facts w).now ((facts w).now n next_offset) next_offset
  pub means : Means w.layout.slots (λ name. range_of w.layout (facts w) n name || range_of w.layout (facts w) ((facts w).now n next_offset) name)
      (durable_spot w.layout w.words n) (map_now (facts w))
  pub beyond : Means w.layout.slots (range_of w.layout (facts w) ((facts w).now n next_offset)) (durable_spot w.layout w.words ((facts w).now n next_offset)) (map_now (facts w))
  pub linked : HasLinked w.parties ((facts w).now n next_offset)

-- The durable link of a merge isn't there yet: the right node means the map from its anchor on.
pub record IsBack (w : World) (n r : ℕ) : Type 0 where
  pub listed : IsListed (facts w) n
  pub out : IsListed (facts w) r → ⊥
  pub leads : durable_spot w.layout w.words n next_offset ≡ r
  pub anchor : anchor_in (durable_spot w.layout w.words r) ≡ anchor_in ((facts w).now r)
  pub up : anchor_in ((facts w).now n) < anchor_in (durable_spot w.layout w.words r)
  pub means : Means w.layout.slots (from_key (range_of w.layout (facts w) n) (anchor_in (durable_spot w.layout w.words r))) (durable_spot w.layout w.words r) (map_now (facts w))
  pub here : r < w.layout.nodes
  pub named : (name : List ℕ) × IsName name × (anchor_in (durable_spot w.layout w.words r) ≡ key_of name)
  pub few : names_in w.layout.slots (range_of w.layout (facts w) n) (durable_spot w.layout w.words n) ≤ w.layout.slots / 2
  pub few_right : names_in w.layout.slots (from_key (range_of w.layout (facts w) n) (anchor_in (durable_spot w.layout w.words r))) (durable_spot w.layout w.words r) ≤ w.layout.slots / 2
  pub number : ℕ
  pub party : Party
  pub there : get_elem? w.parties number ≡ some party
  pub held : Held
  pub left : Grip
  pub right : Grip
  pub stage : party.stage ≡ Joins held left right Joined
  pub at_left : left.node ≡ n
  pub at_right : right.node ≡ r

-- What the durable words of a listed node are: where they lead, and what they mean.
pub record IsSaved (w : World) (n : ℕ) : Type 0 where
  pub twin : IsTwin (facts w).now (durable_spot w.layout w.words) (IsSkip w) (IsBack w) n
  pub means : MeansDurably w (range_of w.layout (facts w) n) (durable_spot w.layout w.words n)

-- the left node of a merge
abbrev left_of : Stage → ℕ
left_of (Joins h left right pace) = left.node
left_of _ = 0

module _ (w : World) (lawful : Lawful w) where
  abbrev f : Facts
  f = facts w

  abbrev safe : ℕ → Spot
  safe = durable_spot w.layout w.words

  -- the ranges of a full node and the fresh one together
  abbrev linked_range : Grip → Grip → List ℕ → Bool
  linked_range left fresh name = range_of w.layout f left.node name || range_of w.layout f fresh.node name

  -- a node whose next and anchor are durable
  whole : (n : ℕ) → ((offset : ℕ) → 2 ≤ offset → offset ≤ 5 → safe n offset ≡ f.now n offset) → MeansDurably w (range_of w.layout f n) (safe n) → IsSaved w n
  whole n fixed means = record {
    twin = record { anchor = anchor-alike (f.now n) (safe n) (λ offset low high. fixed offset (omega arith) high); next = inl (fixed next_offset (omega arith) (omega arith)) };
    means = means;
  }

  settles : (n : ℕ) → Means w.layout.slots (range_of w.layout f n) (safe n) (map_now f) → MeansDurably w (range_of w.layout f n) (safe n)
  settles n means = record { pending = None; cut = tt; means = means }

  all_same : (s t : Spot) → ((offset : ℕ) → s offset ≡ t offset) → s ≡ t
  all_same s t same = λ k offset. same offset k

  pends : (i : ℕ) (p : Party) (n : ℕ) → get_elem? w.parties i ≡ some p → (pending : Option Change) → pending_in p.stage ≡ pending
      → Means w.layout.slots (range_of w.layout f n) (safe n) (pended pending (map_now f)) → MeansDurably w (range_of w.layout f n) (safe n)
  pends i p n there None is means = settles n means
  pends i p n there (Some change) is means = record { pending = Some change; cut = record { number = i; party = p; there = there; pending = is }; means = means }

  -- the fresh node of a split, from the switch on
  fresh_saved : (fresh : ℕ) → ((offset : ℕ) → safe fresh offset ≡ f.now fresh offset) → Means w.layout.slots (range_of w.layout f fresh) (f.now fresh) (map_now f) → IsSaved w fresh
  fresh_saved fresh same means = whole fresh (λ offset low high. same offset)
      (settles fresh (subst (λ (s : Spot). Means w.layout.slots (range_of w.layout f fresh) s (map_now f)) (sym (all_same (safe fresh) (f.now fresh) same)) means))

  held_saved : (n i : ℕ) (p : Party) (stage : Stage) → get_elem? w.parties i ≡ some p → p.stage ≡ stage → IsListed f n → HoldsNode stage n
      → Sure w.layout w.generation f p.caller p.index p.since stage → BacksStage w.layout f w.words stage → IsSaved w n
  held_saved n i p Idle there is listed holds sure backed = absurd holds
  held_saved n i p (Saw m v lock k) there is listed holds sure backed = absurd holds
  held_saved n i p (Holds m lock h) there is listed holds sure backed = subst (IsSaved w) holds (whole m backed.fixed
      (⊎_elim
      (λ was. settles m was)
      (λ shows. pends i p m there h.pending (ap pending_in is) shows)
      (backed.mixes (safe m) (λ offset. inl refl))))
  held_saved n i p (Eyes m lock h k v u free) there is listed holds sure backed = subst (IsSaved w) holds (whole m backed.fixed
      (⊎_elim
      (λ was. settles m was)
      (λ shows. settles m (subst (λ (o : Option Change). Means w.layout.slots (range_of w.layout f m) (safe m) (pended o (map_now f))) sure.1.clean.pending shows))
      (backed.mixes (safe m) (λ offset. inl refl))))
  held_saved n i p (Wears m v) there is listed holds sure backed = absurd holds
  held_saved n i p (Reads m v sight told) there is listed holds sure backed = absurd holds
  held_saved n i p (Leaves left) there is listed holds sure backed = subst (IsSaved w) holds (fresh_saved left.node backed sure.settled.means)
  held_saved n i p (Splits left fresh (Filling lit)) there is listed (inl holds) sure backed = subst (IsSaved w) holds (whole left.node (λ offset low high. backed.left_backed offset)
      (settles left.node (subst (λ (s : Spot). Means w.layout.slots (range_of w.layout f left.node) s (map_now f)) (sym (all_same (safe left.node) (f.now left.node) backed.left_backed)) sure.at.settled.means)))
  held_saved n i p (Splits left fresh (Filling lit)) there is listed (inr holds) sure backed = absurd (sure.at.unlisted (subst (IsListed f) (sym holds) listed))
  held_saved n i p (Splits left fresh Linked) there is listed (inl holds) sure backed = subst (IsSaved w) holds (record {
    twin = record {
      anchor = anchor-alike (f.now left.node) (safe left.node) (λ offset low high. backed.left_backed.0 offset (λ e. omega arith));
      next = ⊎_elim
          (λ same. inl same)
          (λ was. ⊎_elim
          (λ same. inl same)
          (λ other.
          let ne : f.now left.node next_offset ≢ 0 = λ z. sure.nonzero (sym sure.at.leads ∙ z) in
          let to : safe left.node next_offset ≡ f.now (f.now left.node next_offset) next_offset = was ∙ ap (λ k. f.now k next_offset) (sym sure.at.leads) in
          inr (inl (
            record {
              listed = sure.at.listed;
              ne = ne;
              other = other;
              to = to;
              means = subst (λ k. Means w.layout.slots (λ name. range_of w.layout f left.node name || range_of w.layout f k name) (safe left.node) (map_now f)) (sym sure.at.leads) wide;
              beyond = subst (λ k. Means w.layout.slots (range_of w.layout f k) (safe k) (map_now f)) (sym sure.at.leads)
                  (subst (λ (s : Spot). Means w.layout.slots (range_of w.layout f fresh.node) s (map_now f)) (sym (all_same (safe fresh.node) (f.now fresh.node) backed.fresh_backed)) sure.at.settled.means);
              linked = record { number = i; party = p; there = there; left = left; fresh = fresh; stage = is; is = sym sure.at.leads };
            },
            ne,
            to,
          )))
          (cases_eq (safe left.node next_offset) (f.now left.node next_offset)))
          backed.left_backed.1;
    };
    means = settles left.node (means_less w.layout.slots (linked_range left fresh) (range_of w.layout f left.node) (safe left.node) (map_now f) (λ name inside. ap (λ b. b || range_of w.layout f fresh.node name) inside) wide);
  })
    where
      wide : Means w.layout.slots (linked_range left fresh) (safe left.node) (map_now f)
      wide = means_beside w.layout.slots (linked_range left fresh) (f.now left.node) (safe left.node) (map_now f) backed.left_backed.0 sure.at.means
  held_saved n i p (Splits left fresh Linked) there is listed (inr holds) sure backed = subst (IsSaved w) holds (fresh_saved fresh.node backed.fresh_backed sure.at.settled.means)
  held_saved n i p (Splits left fresh Parted) there is listed (inl holds) sure backed = subst (IsSaved w) holds (whole left.node (λ offset low high. backed.left_backed.0 offset (λ e. omega arith))
      (settles left.node (backed.left_backed.1 (safe left.node) (λ offset. inl refl))))
  held_saved n i p (Splits left fresh Parted) there is listed (inr holds) sure backed = subst (IsSaved w) holds (fresh_saved fresh.node backed.fresh_backed sure.at.settled.means)
  held_saved n i p (Meets m lock h right) there is listed (inl holds) sure backed = subst (IsSaved w) holds (whole m backed.0.fixed
      (⊎_elim
      (λ was. settles m was)
      (λ shows. settles m (subst (λ (o : Option Change). Means w.layout.slots (range_of w.layout f m) (safe m) (pended o (map_now f))) sure.1.still.pending shows))
      (backed.0.mixes (safe m) (λ offset. inl refl))))
  held_saved n i p (Meets m lock h right) there is listed (inr holds) sure backed = subst (IsSaved w) holds (fresh_saved right.node backed.1 sure.1.settled.means)
  held_saved n i p (Joins h left right Gathered) there is listed (inl holds) sure backed = subst (IsSaved w) holds (whole left.node (λ offset low high. backed.left_backed.0 offset (λ e. omega arith))
      (settles left.node (backed.left_backed.1 (safe left.node) (λ offset. inl refl))))
  held_saved n i p (Joins h left right Gathered) there is listed (inr holds) sure backed = subst (IsSaved w) holds (fresh_saved right.node backed.right_backed sure.at.linked.settled.means)
  held_saved n i p (Joins h left right Joined) there is listed (inl holds) sure backed = subst (IsSaved w) holds (record {
    twin = record {
      anchor = anchor-alike (f.now left.node) (safe left.node) (λ offset low high. backed.left_backed.0 offset (λ e. omega arith));
      next = ⊎_elim
          (λ same. inl same)
          (λ was. inr (inr (
            right.node,
            record {
              listed = sure.at.listed;
              out = sure.at.unlisted;
              leads = was;
              anchor = anchor;
              up = let up = sure.at.up in omega (arith, anchor);
              means = part;
              here = sure.other.here;
              named = (sure.at.anchor, sure.at.named, anchor ∙ sure.at.anchored);
              few = let few = sure.at.few in omega (arith, names);
              few_right = let few = sure.at.few in let less = names_less w.layout.slots (from_key (range_of w.layout f left.node) (anchor_in (safe right.node))) (range_of w.layout f left.node) (f.now left.node) (λ name inside. both_true (range_of w.layout f left.node name) _ inside) in omega (arith, moved);
              number = i;
              party = p;
              there = there;
              held = h;
              left = left;
              right = right;
              stage = is;
              at_left = refl;
              at_right = refl;
            },
            record {
              leads = was;
              nonzero = sure.nonzero;
              on = backed.right_backed next_offset ∙ sym sure.at.leads;
              up = let up = sure.at.up in omega (arith, anchor);
              under = λ ne.
                  let high = (inside_between w.layout f lawful.list left.node sure.at.anchor sure.at.inside).high ne in
                  let is_key = sure.at.anchored in
                  omega (arith, anchor);
            },
          )))
          backed.left_backed.1;
    };
    means = settles left.node own;
  })
    where
      anchor : anchor_in (safe right.node) ≡ anchor_in (f.now right.node)
      anchor = anchor-alike (f.now right.node) (safe right.node) (λ offset low high. backed.right_backed offset)

      own : Means w.layout.slots (range_of w.layout f left.node) (safe left.node) (map_now f)
      own = means_beside w.layout.slots (range_of w.layout f left.node) (f.now left.node) (safe left.node) (map_now f) backed.left_backed.0 sure.at.settled.means

      part : Means w.layout.slots (from_key (range_of w.layout f left.node) (anchor_in (safe right.node))) (safe right.node) (map_now f)
      part = subst (λ (s : Spot). Means w.layout.slots (from_key (range_of w.layout f left.node) (anchor_in s)) s (map_now f)) (sym (all_same (safe right.node) (f.now right.node) backed.right_backed)) sure.at.kept

      names : names_in w.layout.slots (range_of w.layout f left.node) (safe left.node) ≡ names_in w.layout.slots (range_of w.layout f left.node) (f.now left.node)
      names = same_names w.layout.slots (range_of w.layout f left.node) (safe left.node) (f.now left.node) (map_now f) own sure.at.settled.means

      moved : names_in w.layout.slots (from_key (range_of w.layout f left.node) (anchor_in (safe right.node))) (safe right.node)
          ≡ names_in w.layout.slots (from_key (range_of w.layout f left.node) (anchor_in (safe right.node))) (f.now left.node)
      moved = same_names w.layout.slots (from_key (range_of w.layout f left.node) (anchor_in (safe right.node))) (safe right.node) (f.now left.node) (map_now f) part
          (means_less w.layout.slots (range_of w.layout f left.node) (from_key (range_of w.layout f left.node) (anchor_in (safe right.node))) (f.now left.node) (map_now f)
          (λ name inside. both_true (range_of w.layout f left.node name) _ inside) sure.at.settled.means)
  held_saved n i p (Joins h left right Joined) there is listed (inr holds) sure backed = absurd (sure.at.unlisted (subst (IsListed f) (sym holds) listed))
  held_saved n i p (Joins h left right Gone) there is listed (inl holds) sure backed = subst (IsSaved w) holds (fresh_saved left.node backed.left_backed sure.at.settled.means)
  held_saved n i p (Joins h left right Gone) there is listed (inr holds) sure backed = absurd (sure.at.unlisted (subst (IsListed f) (sym holds) listed))

  pub saved : (n : ℕ) → IsListed f n → IsSaved w n
  saved n listed =
      let here = listed_within w.layout f lawful.list lawful.row.layout n listed in
      ⊎_elim
      (λ (free : IsFree (f.version n) w.generation). whole n (λ offset low high. lawful.durable n here free offset)
      (settles n (subst (λ (s : Spot). Means w.layout.slots (range_of w.layout f n) s (map_now f)) (sym (all_same (safe n) (f.now n) (lawful.durable n here free))) (lawful.settled n listed free).means)))
      (λ (held : IsHeld w.parties n). held_saved n held.number held.party held.party.stage held.there refl listed held.holds
      (lawful.sure held.number held.party held.there) (lawful.backed held.number held.party held.there))
      (lawful.held n here)

  abbrev pub Proper : ListNode → Type 0
  Proper m = (m.node < w.layout.nodes) × ((name : List ℕ) × IsName name × (m.anchor ≡ key_of name))

  proper : (list : List ListNode) → AllByRecursion (λ (m : ListNode). m.node < w.layout.nodes) list
      → AllByRecursion (λ (m : ListNode). (name : List ℕ) × IsName name × (m.anchor ≡ key_of name)) list → AllByRecursion Proper list
  proper [] within named = tt
  proper (m ∷ behind) within named = ((within.0, named.0), proper behind within.1 named.1)

  firsts : (list : List ListNode) → AllByRecursion Proper list → AllByRecursion (λ (m : ListNode). m.node < w.layout.nodes) list
  firsts [] all = tt
  firsts (m ∷ behind) all = (all.0.0, firsts behind all.1)

  seconds : (list : List ListNode) → AllByRecursion Proper list → AllByRecursion (λ (m : ListNode). (name : List ℕ) × IsName name × (m.anchor ≡ key_of name)) list
  seconds [] all = tt
  seconds (m ∷ behind) all = (all.0.1, seconds behind all.1)

  pub thinned : Thin f.now safe Proper (IsSkip w) (IsBack w) 0 f.list
  thinned = thin f.now safe Proper (IsSkip w) (IsBack w) (λ n r back. (back.here, back.named)) 0 0 f.list lawful.list.chain lawful.list.rise (λ n is. (saved n is).twin)

  low : anchor_in (safe 0) ≡ 0
  low = (saved 0 (inl refl)).twin.anchor ∙ lawful.list.lowest

  pub same_list : durable_list w ≡ thinned.to
  same_list = chain_is safe w.layout.nodes 0 thinned.to thinned.chain
      (members_few safe 0 w.layout.nodes thinned.to thinned.chain (subst (λ least. Rise least thinned.to) (sym low) (thinned.rise 0 (omega arith) lawful.list.rise))
      (firsts thinned.to (thinned.all (proper f.list lawful.list.within lawful.list.named))))

  -- a node there is listed, or it is put back
  among : (n : ℕ) → IsIn thinned.to n → IsListed f n ⊎ ((k : ℕ) × IsListed f k × IsBack w k n)
  among n (inl e) = inl (inl e)
  among n (inr later) = ⊎_elim (λ was. inl (inr was)) (λ back. inr back) (thinned.listed n later)

  -- the anchors of a listed node and of the next rise
  rises_on : (here : ℕ) (list : List ListNode) → IsChain f.now here list → Rise (anchor_in (f.now here)) list → (n : ℕ) → (n ≡ here) ⊎ IsMember list n → f.now n next_offset ≢ 0
      → anchor_in (f.now n) < anchor_in (f.now (f.now n next_offset))
  rises_on here [] chain rise n (inl e) ne = absurd (ne (ap (λ k. f.now k next_offset) e ∙ chain))
  rises_on here [] chain rise n (inr among) ne = absurd among
  rises_on here (m ∷ behind) chain rise n (inl e) ne =
      let next : anchor_in (f.now (f.now n next_offset)) ≡ m.anchor = ap (λ k. anchor_in (f.now (f.now k next_offset))) e ∙ ap (λ k. anchor_in (f.now k)) chain.0 ∙ chain.2 in
      let own : anchor_in (f.now n) ≡ anchor_in (f.now here) = ap (λ k. anchor_in (f.now k)) e in
      let up = rise.0 in omega arith
  rises_on here (m ∷ behind) chain rise n (inr among) ne = rises_on m.node behind chain.3 (rise_at f.now m behind chain.2 rise.1) n among ne

  -- so a listed node is the target of its own anchor
  own_target : (n : ℕ) → IsListed f n → target_from 0 f.list (anchor_in (f.now n)) ≡ n
  own_target n listed = between_target f.now 0 f.list lawful.list.chain rise_from n (anchor_in (f.now n)) listed (record { low = omega arith; high = rises_on 0 f.list lawful.list.chain rise_from n listed })
    where
      rise_from : Rise (anchor_in (f.now 0)) f.list
      rise_from = subst (λ least. Rise least f.list) (sym lawful.list.lowest) lawful.list.rise

  -- a listed node is there, or a link to it isn't durable yet
  hides : (n : ℕ) → IsListed f n → IsIn thinned.to n ⊎ HasLinked w.parties n
  hides n listed =
      let key : ℕ = anchor_in (f.now n) in
      let own = own_target n listed in
      ⊎_elim
      (λ alike. inl (subst (IsIn thinned.to) (alike ∙ own) (target_in 0 thinned.to key)))
      (λ other. ⊎_elim
      (λ skip. inr (subst (HasLinked w.parties) (skip.1 ∙ own) skip.0.linked))
      (λ back. absurd (let up = back.0.up in let same = ap (λ k. anchor_in (f.now k)) own in let low = back.1 in omega arith))
      other)
      (thinned.target key)

  -- of all these the durable anchor is the cached one
  anchors : (n : ℕ) → IsListed f n ⊎ IsIn thinned.to n → anchor_in (safe n) ≡ anchor_in (f.now n)
  anchors n is = ⊎_elim
      (λ listed. (saved n listed).twin.anchor)
      (λ there. ⊎_elim (λ listed. (saved n listed).twin.anchor) (λ back. back.2.anchor) (among n there))
      is

  abbrev safe_range : ℕ → List ℕ → Bool
  safe_range n name = target_from 0 thinned.to (key_of name) == n

  less : (range less : List ℕ → Bool) (s : Spot) → ((name : List ℕ) → less name ≡ true → range name ≡ true) → MeansDurably w range s → MeansDurably w less s
  less range part s within means = record { pending = means.pending; cut = means.cut; means = means_less w.layout.slots range part s (pended means.pending (map_now f)) within means.means }

  or-true : (b : Bool) → (b || true) ≡ true
  or-true true = refl
  or-true false = refl

  -- the names of a listed node's range there are those of its range, or where it skips one, of the range of that
  by_target : (n : ℕ) → IsListed f n → (name : List ℕ) → safe_range n name ≡ true
      → (range_of w.layout f n name ≡ true) ⊎ (IsSkip w n × (range_of w.layout f (f.now n next_offset) name ≡ true))
  by_target n listed name inside =
      let is : target_from 0 thinned.to (key_of name) ≡ n = eqb-true _ _ inside in
      ⊎_elim
      (λ alike. inl (eq-eqb _ _ (sym alike ∙ is)))
      (λ other. ⊎_elim
      (λ skip. inr (subst (IsSkip w) is skip.0, eq-eqb _ _ (sym skip.1 ∙ ap (λ k. f.now k next_offset) is)))
      (λ back. absurd (back.0.out (subst (IsListed f) (sym is) listed)))
      other)
      (thinned.target (key_of name))

  pub plain_within : (n : ℕ) → IsListed f n → safe n next_offset ≡ f.now n next_offset → (name : List ℕ) → safe_range n name ≡ true → range_of w.layout f n name ≡ true
  plain_within n listed same name inside = ⊎_elim (λ own. own) (λ skip. absurd (skip.0.other same)) (by_target n listed name inside)

  pub skip_within : (n : ℕ) → IsListed f n → (name : List ℕ) → safe_range n name ≡ true → (range_of w.layout f n name || range_of w.layout f (f.now n next_offset) name) ≡ true
  skip_within n listed name inside = ⊎_elim
      (λ own. ap (λ b. b || range_of w.layout f (f.now n next_offset) name) own)
      (λ skip. ap (λ b. range_of w.layout f n name || b) skip.1 ∙ or-true (range_of w.layout f n name))
      (by_target n listed name inside)

  -- a node behind which one is put back skips none
  pub back_within : (n r : ℕ) → IsBack w n r → (name : List ℕ) → safe_range n name ≡ true → range_of w.layout f n name ≡ true
  back_within n r back name inside = ⊎_elim
      (λ own. own)
      (λ skip.
      let is : f.now (f.now n next_offset) next_offset ≡ r = sym skip.0.to ∙ back.leads in
      let next = leads_on w.layout f lawful.list n back.listed skip.0.ne in
      absurd (⊎_elim
      (λ (z : f.now (f.now n next_offset) next_offset ≡ 0). back.out (inl (sym is ∙ z)))
      (λ (ne : f.now (f.now n next_offset) next_offset ≢ 0). back.out (subst (IsListed f) is (leads_on w.layout f lawful.list (f.now n next_offset) next ne)))
      (cases_eq (f.now (f.now n next_offset) next_offset) 0)))
      (by_target n back.listed name inside)

  -- one node is put back behind one only
  back_one : (n k r : ℕ) → IsBack w n r → IsBack w k r → n ≡ k
  back_one n k r one other =
      let holds : HoldsNode one.party.stage r = subst (λ s. HoldsNode s r) (sym one.stage) (inr one.at_right) in
      let holds' : HoldsNode other.party.stage r = subst (λ s. HoldsNode s r) (sym other.stage) (inr other.at_right) in
      let same : one.number ≡ other.number = lawful.alone one.number other.number r one.party other.party one.there other.there holds holds' in
      let party : one.party ≡ other.party = some-injective _ _ (sym one.there ∙ ap (get_elem? w.parties) same ∙ other.there) in
      sym one.at_left ∙ sym (ap left_of one.stage) ∙ ap (λ (p : Party). left_of p.stage) party ∙ ap left_of other.stage ∙ other.at_left

  -- the names of the range of a node that is put back
  pub put_within : (n r : ℕ) → IsBack w n r → (name : List ℕ) → safe_range r name ≡ true → from_key (range_of w.layout f n) (anchor_in (safe r)) name ≡ true
  put_within n r back name inside =
      let is : target_from 0 thinned.to (key_of name) ≡ r = eqb-true _ _ inside in
      let T : ℕ = target_from 0 f.list (key_of name) in
      ⊎_elim
      (λ alike. absurd (back.out (subst (IsListed f) (sym alike ∙ is) (target_in 0 f.list (key_of name)))))
      (λ other. ⊎_elim
      (λ skip. absurd (back.out (subst (IsListed f) is skip.0.listed)))
      (λ put.
      let same : T ≡ n = back_one T n r (subst (IsBack w T) is put.0) back in
      let reached : nat_le (anchor_in (safe r)) (key_of name) ≡ true = le-leb (anchor_in (safe r)) (key_of name) (let low = put.1 in let to = ap (λ k. anchor_in (safe k)) is in omega arith) in
      (λ i. eq-eqb T n same i && reached i))
      other)
      (thinned.target (key_of name))

  durably : (n : ℕ) → IsListed f n → MeansDurably w (safe_range n) (safe n)
  durably n listed = ⊎_elim
      (λ (same : safe n next_offset ≡ f.now n next_offset). less (range_of w.layout f n) (safe_range n) (safe n) (plain_within n listed same) (saved n listed).means)
      (λ other. ⊎_elim
      (λ skip. less (λ name. range_of w.layout f n name || range_of w.layout f (f.now n next_offset) name) (safe_range n) (safe n)
      (skip_within n listed) (record { pending = None; cut = tt; means = skip.0.means }))
      (λ back. less (range_of w.layout f n) (safe_range n) (safe n) (back_within n back.0 back.1) (saved n listed).means)
      other)
      (saved n listed).twin.next

  durably_there : (n : ℕ) → IsIn thinned.to n → (IsListed f n ⊎ HasJoined w.parties n) × MeansDurably w (safe_range n) (safe n)
  durably_there n is = ⊎_elim
      (λ listed. (inl listed, durably n listed))
      (λ back. (
        inr (record { number = back.2.number; party = back.2.party; there = back.2.there; held = back.2.held; left = back.2.left; right = back.2.right; stage = back.2.stage; is = back.2.at_right }),
        less (from_key (range_of w.layout f back.0) (anchor_in (safe n))) (safe_range n) (safe n) (put_within back.0 n back.2) (record { pending = None; cut = tt; means = back.2.means }),
      ))
      (among n is)

  hides_there : (n : ℕ) → IsListed f n → IsIn (durable_list w) n ⊎ HasLinked w.parties n
  hides_there n listed = subst (λ (to : List ListNode). IsIn to n ⊎ HasLinked w.parties n) (sym same_list) (hides n listed)

  anchors_there : (n : ℕ) → IsListed f n ⊎ IsIn (durable_list w) n → anchor_in (safe n) ≡ anchor_in (f.now n)
  anchors_there n is = anchors n (subst (λ (to : List ListNode). IsListed f n ⊎ IsIn to n) same_list is)

  is_list : (to : List ListNode) → to ≡ thinned.to → (IsChain safe 0 to) × (Rise 0 to) × (AllByRecursion Proper to)
      × ((n : ℕ) → IsIn to n → (IsListed f n ⊎ HasJoined w.parties n) × MeansDurably w (λ name. target_from 0 to (key_of name) == n) (safe n))
  is_list to same = subst (λ (to : List ListNode). (IsChain safe 0 to) × (Rise 0 to) × (AllByRecursion Proper to)
      × ((n : ℕ) → IsIn to n → (IsListed f n ⊎ HasJoined w.parties n) × MeansDurably w (λ name. target_from 0 to (key_of name) == n) (safe n))) (sym same)
      (thinned.chain, thinned.rise 0 (omega arith) lawful.list.rise, thinned.all (proper f.list lawful.list.within lawful.list.named), λ n is. durably_there n is)

pub durable_law : DurablesAreAList
durable_law w lawful =
    let all = is_list w lawful (durable_list w) (same_list w lawful) in
    record {
      list = record {
        chain = all.0;
        lowest = low w lawful;
        rise = all.1;
        within = firsts w lawful (durable_list w) all.2;
        named = seconds w lawful (durable_list w) all.2;
      };
      listed = λ n is. (all.3 n is).0;
      hides = hides_there w lawful;
      anchors = anchors_there w lawful;
      means = λ n is. (all.3 n is).1;
    }
