-- The list and its ranges once a full node leads to a fresh one.
use Rattle.std.proofs.Common.{◌≡◌, ◌≢◌, ℕ, ◌<◌, ◌⊎◌, inl, inr, ⊎_elim, true, false, cond, List, refl, sym, ap, ◌∙◌, subst, arith}
use Rattle.std.specs.Prelude.{◌==◌, ◌&&◌, nat_le, nat_lt}
use Rattle.std.proofs.lemmas.Bool.{eq-eqb, ne_eqb, eqb-true, leb-true, leb-false, lt-ltb, le-ltb}
use Rattle.pm_words.specs.declared.layout.Layout.{Layout}
use Rattle.pm_words.specs.Offsets.{next_offset}
use Rattle.cat_key.specs.Names.{IsName}
use Rattle.cat_history.specs.Maps.{Map}
use Rattle.data_node.specs.Spots.{Spot}
use Rattle.data_node.specs.Lists.{ListNode, key_of, anchor_in, IsBetween, target_from, IsMember, IsIn, IsChain, Rise}
use Rattle.data_node.specs.Lists.{members_from, with_member}
use Rattle.data_node.proofs.SpotLemmas.{updated-same}
use Rattle.call_stages.specs.Kinds.{IsCut, from_key, below_key}
use Rattle.index_law.specs.Facts.{Facts, range_of, IsListed}
use Rattle.index_law.specs.Lawful.{IsList}
use Rattle.data_node.proofs.ListLemmas.{target_in, between_target, target_between, chain_closed, chain_is, members_few, all_cut, member_cut, cut_keeps, cut_has, Cuts, chain_cut, rise_cut, target_cut}
use Rattle.index_law.proofs.Rows.{word_set, new_member, with_next, set_here, set_else, set_other, anchor-alike}

module _ (l : Layout) (f : Facts) (list : IsList l f) where
  -- the anchors rise from that of node 0
  pub rise_from : Rise (anchor_in (f.now 0)) f.list
  rise_from = subst (λ least. Rise least f.list) (sym list.lowest) list.rise

  -- a name of a node's range lies between its anchor and that of the next node
  pub inside_between : (n : ℕ) (name : List ℕ) → range_of l f n name ≡ true → IsBetween (f.now n) (f.now (f.now n next_offset)) (key_of name)
  inside_between n name inside =
      let low = list.lowest in target_between f.now 0 f.list list.chain (key_of name) n (omega arith) (eqb-true _ _ inside)

  -- and one that lies there belongs to its range, if the node is listed
  pub between_inside : (n : ℕ) (name : List ℕ) → IsListed f n → IsBetween (f.now n) (f.now (f.now n next_offset)) (key_of name) → range_of l f n name ≡ true
  between_inside n name listed between = eq-eqb _ _ (between_target f.now 0 f.list list.chain rise_from n (key_of name) listed between)

  -- a node with a name in its range is listed
  pub inside_listed : (n : ℕ) (name : List ℕ) → range_of l f n name ≡ true → IsListed f n
  inside_listed n name inside = subst (IsIn f.list) (eqb-true _ _ inside) (target_in 0 f.list (key_of name))

  -- a listed node leads to a listed one
  pub leads_on : (n : ℕ) → IsListed f n → f.now n next_offset ≢ 0 → IsListed f (f.now n next_offset)
  leads_on n listed ne = inr (chain_closed f.now 0 f.list list.chain n listed ne)

-- two nodes with one name in their ranges are one
pub one_range : (l : Layout) (f : Facts) (n m : ℕ) (name : List ℕ) → range_of l f n name ≡ true → range_of l f m name ≡ true → n ≡ m
one_range l f n m name inside inside' = sym (eqb-true _ _ inside) ∙ eqb-true _ _ inside'

-- the other nodes' words, where one leads elsewhere
pub anchors_set : (now : ℕ → Spot) (n y m : ℕ) → anchor_in (word_set now n next_offset y m) ≡ anchor_in (now m)
anchors_set now n y m = anchor-alike (now m) (word_set now n next_offset y m) (λ other low high. set_other now n next_offset y m other (λ same is. omega arith))

module _ (l : Layout) (f : Facts) (list : IsList l f) (n y : ℕ) (listed : IsListed f n) (out : IsListed f y → ⊥) (here : y < l.nodes) (m : Map)
    (cut : IsCut l.slots (range_of l f n) (f.now n) (f.now y) m) where
  abbrev new : ListNode
  new = new_member f.now y

  differ : n ≢ y
  differ e = out (subst (IsIn f.list) e listed)

  nonzero : y ≢ 0
  nonzero e = out (inl e)

  pub cuts : Cuts f.now (word_set f.now n next_offset y) n (new_member f.now y)
  cuts =
      let low = (inside_between l f list n cut.lower cut.lower_inside).low in
      let mid = inside_between l f list n cut.anchor cut.inside in
      let below = cut.below in
      let anchored = cut.anchored in
      record {
        at_left = ap (λ (s : Spot). s next_offset) (set_here f.now n next_offset y n refl) ∙ updated-same (f.now n) next_offset y;
        others = λ k other. ap (λ (s : Spot). s next_offset) (set_else f.now n next_offset y k other);
        anchors = λ k. anchors_set f.now n y k;
        goes_on = cut.leads;
        anchored = refl;
        nonzero = nonzero;
        up = omega arith;
        under = λ ne. let high = mid.high ne in omega arith;
      }

  unlisted : (y ≡ 0) ⊎ IsMember f.list y → ⊥
  unlisted is = out is

  chain_after : IsChain (word_set f.now n next_offset y) 0 (with_member n (new_member f.now y) 0 f.list)
  chain_after = chain_cut f.now (word_set f.now n next_offset y) n (new_member f.now y) cuts 0 f.list list.chain (rise_from l f list) listed out

  rise_after : Rise 0 (with_member n (new_member f.now y) 0 f.list)
  rise_after = rise_cut f.now (word_set f.now n next_offset y) n (new_member f.now y) cuts 0 0 f.list list.chain (sym list.lowest) list.rise listed

  -- the list afterwards
  pub list_after : IsList l (with_next f n y)
  list_after = record {
    chain = chain_after;
    lowest = anchors_set f.now n y 0 ∙ list.lowest;
    rise = rise_after;
    within = all_cut (λ (k : ListNode). k.node < l.nodes) n new 0 f.list here list.within;
    named = all_cut (λ (k : ListNode). (name : List ℕ) × IsName name × (k.anchor ≡ key_of name)) n new 0 f.list (cut.anchor, cut.named, cut.anchored) list.named;
  }

  -- and it is the one that the words give
  pub members_after : members_from (word_set f.now n next_offset y) l.nodes 0 ≡ with_member n (new_member f.now y) 0 f.list
  members_after =
      let low = anchors_set f.now n y 0 ∙ list.lowest in
      chain_is (word_set f.now n next_offset y) l.nodes 0 (with_member n (new_member f.now y) 0 f.list) chain_after
      (members_few (word_set f.now n next_offset y) 0 l.nodes (with_member n (new_member f.now y) 0 f.list) chain_after
      (subst (λ least. Rise least (with_member n (new_member f.now y) 0 f.list)) (sym low) rise_after) list_after.within)

  -- the target of a name
  target_after : (name : List ℕ) → target_from 0 (with_next f n y).list (key_of name)
      ≡ cond ((target_from 0 f.list (key_of name) == n) && nat_le (anchor_in (f.now y)) (key_of name)) y (target_from 0 f.list (key_of name))
  target_after name = target_cut f.now (word_set f.now n next_offset y) n (new_member f.now y) cuts 0 f.list (key_of name) list.chain (rise_from l f list) listed

  -- the node that a name belonged to, and the anchor of the new one
  abbrev had : List ℕ → ℕ
  had name = target_from 0 f.list (key_of name)

  abbrev new_anchor : ℕ
  new_anchor = anchor_in (f.now y)

  -- the ranges of the other nodes stay
  pub range_other : (k : ℕ) → k ≢ n → k ≢ y → range_of l (with_next f n y) k ≡ range_of l f k
  range_other k other apart = λ i name. by name i where
    by : (name : List ℕ) → range_of l (with_next f n y) k name ≡ range_of l f k name
    by name =
        ap (λ t. t == k) (target_after name)
        ∙ elim (had name == n) as (λ b. (had name == n) ≡ b → (cond (b && nat_le new_anchor (key_of name)) y (had name) == k) ≡ (had name == k)) [
          | true ↦ λ is.
              elim (nat_le new_anchor (key_of name)) as (λ c. (cond (true && c) y (had name) == k) ≡ (had name == k)) [
                | true ↦ ne_eqb y k (λ e. apart (sym e)) ∙ sym (ne_eqb (had name) k (λ e. other (sym e ∙ eqb-true (had name) n is)))
                | false ↦ refl
              ]
          | false ↦ λ not. refl
        ] refl

  -- the full node has of its names those below the fresh node's anchor
  pub range_left : range_of l (with_next f n y) n ≡ below_key (range_of l f n) (anchor_in (f.now y))
  range_left = λ i name. by name i where
    by : (name : List ℕ) → range_of l (with_next f n y) n name ≡ below_key (range_of l f n) (anchor_in (f.now y)) name
    by name =
        ap (λ t. t == n) (target_after name)
        ∙ elim (had name == n) as (λ b. (had name == n) ≡ b → (cond (b && nat_le new_anchor (key_of name)) y (had name) == n) ≡ (b && nat_lt (key_of name) new_anchor)) [
          | true ↦ λ is.
              elim (nat_le new_anchor (key_of name)) as (λ c. nat_le new_anchor (key_of name) ≡ c → (cond (true && c) y (had name) == n) ≡ (true && nat_lt (key_of name) new_anchor)) [
                | true ↦ λ reached. ne_eqb y n (λ e. differ (sym e)) ∙ sym (le-ltb (key_of name) new_anchor (leb-true new_anchor (key_of name) reached))
                | false ↦ λ low. is ∙ sym (lt-ltb (key_of name) new_anchor (leb-false new_anchor (key_of name) low))
              ] refl
          | false ↦ λ not. not
        ] refl

  -- and the fresh node the others
  pub range_fresh : range_of l (with_next f n y) y ≡ from_key (range_of l f n) (anchor_in (f.now y))
  range_fresh = λ i name. by name i where
    by : (name : List ℕ) → range_of l (with_next f n y) y name ≡ from_key (range_of l f n) (anchor_in (f.now y)) name
    by name =
        ap (λ t. t == y) (target_after name)
        ∙ elim (had name == n) as (λ b. (had name == n) ≡ b → (cond (b && nat_le new_anchor (key_of name)) y (had name) == y) ≡ (b && nat_le new_anchor (key_of name))) [
          | true ↦ λ is.
              elim (nat_le new_anchor (key_of name)) as (λ c. (cond (true && c) y (had name) == y) ≡ (true && c)) [
                | true ↦ eq-eqb y y refl
                | false ↦ ne_eqb (had name) y (λ e. differ (sym (eqb-true (had name) n is) ∙ e))
              ]
          | false ↦ λ not. ne_eqb (had name) y (λ e. out (subst (IsIn f.list) e (target_in 0 f.list (key_of name))))
        ] refl

  -- the nodes that are listed then
  pub listed_after : (k : ℕ) → IsListed (with_next f n y) k → IsListed f k ⊎ (k ≡ y)
  listed_after k (inl first) = inl (inl first)
  listed_after k (inr among) = ⊎_elim (λ was. inl (inr was)) (λ e. inr e) (member_cut n new 0 f.list k among)

  pub listed_still : (k : ℕ) → IsListed f k → IsListed (with_next f n y) k
  listed_still k (inl first) = inl first
  listed_still k (inr among) = inr (cut_keeps n new 0 f.list k among)

  pub listed_fresh : IsListed (with_next f n y) y
  listed_fresh = inr (cut_has n new 0 f.list listed)
