-- A walk along the list of a sound image that takes the pairs of each node behind those of the nodes before.
use Rattle.std.proofs.Common.{◌≡◌, ◌≢◌, ℕ, ◌+◌, ◌<◌, ◌≤◌, ◌==◌, true, false, nat_lt, Greater, Option, Some, None, List, [], ◌∷◌, ◌++◌, map, length, inl, inr, refl, sym, ap, subst, ◌∙◌, arith}
use Rattle.std.specs.Prelude.{IsSome, IfSome}
use Rattle.std.proofs.lemmas.Bool.{eq-eqb, ne_eqb, eqb-true, and_parts, ltb-true, ltb-false}
use Rattle.std.proofs.lemmas.List.{map-append}
use Rattle.std.specs.FinMap.{empty, entries}
use Rattle.std.specs.List.{AllByRecursion}
use Rattle.pm_words.specs.declared.layout.Layout.{Layout}
use Rattle.cat_key.specs.Names.{IsName, AreNameWords, name_cmp, words_of, bytes_of}
use Rattle.cat_key.specs.declared.Pair.{Pair}
use Rattle.cat_key.proofs.Packing.{bytes_of-words_of, packed_from_words}
use Rattle.cat_history.specs.Maps.{Map}
use Rattle.cat_history.specs.Replays.{pairs_of}
use Rattle.cat_history.proofs.ReplayLemmas.{entries-none, pair_of}
use Rattle.data_node.specs.Spots.{Spot, IsLiveIn, name_words}
use Rattle.data_node.specs.Lists.{ListNode, anchor_in, number_of, key_of, target_from, IsBetween, IsMember, IsChain, Rise}
use Rattle.data_node.proofs.ListLemmas.{chain_closed, between_target, target_between, members_all, all_member, rise_at}
use Rattle.data_node.proofs.KeyLemmas.{key-number}
use Rattle.image_rules.specs.Laws.{KeepsRules}
use Rattle.image_rules.specs.Nodes.{image_spot, image_list, image_range, IsListedNode, next_in}
use Rattle.image_rules.specs.Sound.{IsSound, with_slots, with_nodes, image_map}
use Rattle.image_rules.proofs.TidyLemmas.{sound_keeps}
use Rattle.image_pairs.proofs.SlotLemmas.{Entry, HoldsOfNames, HoldsOfSlots, IsAbove, slots_hold, slots_behind, higher_key}

-- A name whose key is below this number.
pub record IsNameBelow (bound : ℕ) (name : List ℕ) : Type 0 where
  pub is_name : IsName name
  pub low : key_of name < bound

-- The name that is found in words that are a name's.
pub found_name : (words : List ℕ) (found : Option (List ℕ)) → IsSome found → IfSome found IsName → IfSome found (λ name. words_of name ≡ words) → found ≡ Some (bytes_of words)
found_name words None some is whole = absurd cc
found_name words (Some name) some is whole = ap Some (sym (bytes_of-words_of name is) ∙ ap bytes_of whole)

-- The walk is at this node: the pairs so far are those of a map whose names are below the node's anchor, and with what
-- the node and those behind it have, that is the image's map.
pub record TakesPairs (l : Layout) (image : List ℕ) (position node : ℕ) (pairs : List Pair) : Type 0 where
  pub listed : IsListedNode l image node
  pub behind : List ListNode
  pub chain : IsChain (image_spot l image) node behind
  pub rise : Rise (anchor_in (image_spot l image node)) behind
  pub members : (n : ℕ) → IsMember behind n → IsMember (image_list l image) n
  pub few : position + length behind < l.nodes
  pub so_far : Map
  pub told : pairs ≡ pairs_of so_far
  pub below : HoldsOfNames (IsNameBelow (anchor_in (image_spot l image node))) so_far
  pub whole : with_nodes l.slots (image_range l image) (image_spot l image) so_far node behind ≡ image_map l image

module _ (l : Layout) (image : List ℕ) (sound : IsSound l image) where
  keeps : KeepsRules l image
  keeps = sound_keeps l image sound

  -- a listed node leads to one of the image's,
  pub next_within : (n next : ℕ) → IsListedNode l image n → next ≡ next_in l image n → next ≢ 0 → next < l.nodes
  next_within n next listed is leads =
      all_member (λ k. k < l.nodes) (image_list l image) next keeps.list.within
      (subst (IsMember (image_list l image)) (sym is) (chain_closed (image_spot l image) 0 (image_list l image) keeps.list.chain n listed (λ none. leads (is ∙ none))))

  -- and has the names between its anchor and that of the next
  pub range_between : (n key : ℕ) → target_from 0 (image_list l image) key ≡ n → IsBetween (image_spot l image n) (image_spot l image (next_in l image n)) key
  range_between n key is =
      let lowest = keeps.list.lowest in
      target_between (image_spot l image) 0 (image_list l image) keeps.list.chain key n (omega arith) is

  pub between_range : (n key : ℕ) → IsListedNode l image n → IsBetween (image_spot l image n) (image_spot l image (next_in l image n)) key → target_from 0 (image_list l image) key ≡ n
  between_range n key listed between =
      between_target (image_spot l image) 0 (image_list l image) keeps.list.chain (subst (λ k. Rise k (image_list l image)) (sym keeps.list.lowest) keeps.list.rise) n key listed between

  -- so it is told by comparing with those,
  module _ (n next key : ℕ) (listed : IsListedNode l image n) (is : next ≡ next_in l image n) where
    pub out_below : key < anchor_in (image_spot l image n) → (target_from 0 (image_list l image) key == n) ≡ false
    out_below less = ne_eqb _ _ (λ here. let low = (range_between n key here).low in omega (arith, less, low))

    pub in_last : anchor_in (image_spot l image n) ≤ key → next ≡ 0 → (target_from 0 (image_list l image) key == n) ≡ true
    in_last low none = eq-eqb _ _ (between_range n key listed (record { low = low; high = λ leads. absurd (leads (sym is ∙ none)) }))

    pub in_by_next : anchor_in (image_spot l image n) ≤ key → next ≢ 0 → nat_lt key (anchor_in (image_spot l image next)) ≡ (target_from 0 (image_list l image) key == n)
    in_by_next low leads =
        elim (nat_lt key (anchor_in (image_spot l image next))) as (λ b. nat_lt key (anchor_in (image_spot l image next)) ≡ b → b ≡ (target_from 0 (image_list l image) key == n)) [
          | true ↦ λ less.
              sym (eq-eqb _ _ (between_range n key listed (record { low = low; high = λ _. subst (λ k. key < anchor_in (image_spot l image k)) is (ltb-true _ _ less) })))
          | false ↦ λ more.
              let least = ltb-false _ _ more in
              sym (ne_eqb _ _ (λ here.
              let high = subst (λ k. key < anchor_in (image_spot l image k)) (sym is) ((range_between n key here).high (λ none. leads (is ∙ none))) in
              omega (arith, least, high)))
        ] refl

  -- a live slot has a name, which lies between them if it is in the range,
  pub name_between : (n : ℕ) → IsListedNode l image n
      → HoldsOfSlots (λ name. IsName name × IsBetween (image_spot l image n) (image_spot l image (next_in l image n)) (key_of name)) (image_range l image n) (image_spot l image n) l.slots
  name_between n listed slot within has =
      let parts = and_parts _ _ has in
      let words = name_words (image_spot l image n) slot in
      let named = (keeps.tidy n listed).named slot within (eqb-true _ _ parts.0) in
      ((packed_from_words words named).named, range_between n (key_of (bytes_of words)) (eqb-true _ _ parts.1))

  -- and its words tell whether that is in the range
  pub live_named : (n slot : ℕ) → IsListedNode l image n → slot < l.slots → IsLiveIn (image_spot l image n) slot → AreNameWords (name_words (image_spot l image n) slot)
  live_named n slot listed within live = (keeps.tidy n listed).named slot within live

  pub range_of_words : (n slot : ℕ) → IsListedNode l image n → slot < l.slots → IsLiveIn (image_spot l image n) slot
      → (target_from 0 (image_list l image) (number_of (name_words (image_spot l image n) slot)) == n) ≡ image_range l image n (bytes_of (name_words (image_spot l image n) slot))
  range_of_words n slot listed within live =
      let words = name_words (image_spot l image n) slot in
      let packed = packed_from_words words (live_named n slot listed within live) in
      ap (λ key. target_from 0 (image_list l image) key == n) (ap number_of (sym packed.whole) ∙ sym (key-number (bytes_of words)))

  above_all : (n : ℕ) (m : Map) (name : List ℕ) → IsName name → anchor_in (image_spot l image n) ≤ key_of name → HoldsOfNames (IsNameBelow (anchor_in (image_spot l image n))) m → IsAbove m name
  above_all n m name is low below = weaker (entries m) below where
    weaker : (es : List Entry) → AllByRecursion (λ (e : Entry). IsNameBelow (anchor_in (image_spot l image n)) e.0) es → AllByRecursion (λ (e : Entry). name_cmp name e.0 ≡ Greater) es
    weaker [] all = tt
    weaker (e ∷ es) all = let under = all.0.low in (higher_key e.0 name all.0.is_name is (omega arith), weaker es all.1)

  -- so the pairs of a node come behind those of names below its anchor
  pub pairs_behind : (n : ℕ) (m : Map) → IsListedNode l image n → HoldsOfNames (IsNameBelow (anchor_in (image_spot l image n))) m
      → pairs_of (with_slots (image_range l image n) (image_spot l image n) m l.slots)
      ≡ pairs_of m ++ pairs_of (with_slots (image_range l image n) (image_spot l image n) empty l.slots)
  pairs_behind n m listed below =
      let range = image_range l image n in
      let s = image_spot l image n in
      ap (map pair_of) (slots_behind range s m l.slots (λ slot within has.
      let name = name_between n listed slot within has in
      above_all n m (bytes_of (name_words s slot)) name.0 name.1.low below))
      ∙ map-append pair_of (entries m) (entries (with_slots range s empty l.slots))

  pub pairs_begin : 0 < l.nodes → (pairs : List Pair) → pairs ≡ [] → TakesPairs l image 0 0 pairs
  pairs_begin some pairs none =
      let rise = subst (λ k. Rise k (image_list l image)) (sym keeps.list.lowest) keeps.list.rise in
      let zero_more : length (image_list l image) ≡ 0 + length (image_list l image) = omega arith in
      record {
        listed = inl refl;
        behind = image_list l image;
        chain = keeps.list.chain;
        rise = rise;
        members = λ n among. among;
        few = subst (λ k. k < l.nodes) zero_more (members_all (image_spot l image) 0 l.nodes (image_list l image) keeps.list.chain rise some keeps.list.within);
        so_far = empty;
        told = none ∙ ap (map pair_of) (sym entries-none);
        below = subst (AllByRecursion (λ (e : Entry). IsNameBelow (anchor_in (image_spot l image 0)) e.0)) (sym entries-none) tt;
        whole = refl;
      }

  -- at a node that leads nowhere they are all there
  pub pairs_end : (position node : ℕ) (pairs : List Pair) → TakesPairs l image position node pairs → next_in l image node ≡ 0
      → pairs ++ pairs_of (with_slots (image_range l image node) (image_spot l image node) empty l.slots) ≡ pairs_of (image_map l image)
  pairs_end position node pairs takes ends =
      let m = takes.so_far in
      ap (λ (first : List Pair). first ++ pairs_of (with_slots (image_range l image node) (image_spot l image node) empty l.slots)) takes.told
      ∙ sym (pairs_behind node m takes.listed takes.below)
      ∙ ap pairs_of (at_end takes.behind takes.chain takes.whole)
    where
      at_end : (list : List ListNode) → IsChain (image_spot l image) node list
          → with_nodes l.slots (image_range l image) (image_spot l image) takes.so_far node list ≡ image_map l image
          → with_slots (image_range l image node) (image_spot l image node) takes.so_far l.slots ≡ image_map l image
      at_end [] chain whole = whole
      at_end (next ∷ behind) chain whole = absurd (chain.1 (sym chain.0 ∙ ends))

  -- and at one that leads on the walk goes on
  pub pairs_on : (position node next : ℕ) (pairs more : List Pair) → TakesPairs l image position node pairs → next ≡ next_in l image node → next ≢ 0
      → more ≡ pairs ++ pairs_of (with_slots (image_range l image node) (image_spot l image node) empty l.slots) → TakesPairs l image (position + 1) next more
  pairs_on position node next pairs more takes leads on is =
      go takes.behind takes.chain takes.rise takes.members takes.few takes.whole
    where
      now : ℕ → Spot
      now = image_spot l image

      after : Map
      after = with_slots (image_range l image node) (now node) takes.so_far l.slots

      told : more ≡ pairs_of after
      told =
          is
          ∙ ap (λ (first : List Pair). first ++ pairs_of (with_slots (image_range l image node) (now node) empty l.slots)) takes.told
          ∙ sym (pairs_behind node takes.so_far takes.listed takes.below)

      lower : (low high : ℕ) → low < high → (es : List Entry) → AllByRecursion (λ (e : Entry). IsNameBelow low e.0) es → AllByRecursion (λ (e : Entry). IsNameBelow high e.0) es
      lower low high less [] all = tt
      lower low high less (e ∷ es) all =
          let under = all.0.low in
          (record { is_name = all.0.is_name; low = omega arith }, lower low high less es all.1)

      below : anchor_in (now node) < anchor_in (now (next_in l image node)) → HoldsOfNames (IsNameBelow (anchor_in (now (next_in l image node)))) after
      below up =
          slots_hold (IsNameBelow (anchor_in (now (next_in l image node)))) (image_range l image node) (now node) takes.so_far l.slots
          (λ slot within has.
          let name = name_between node takes.listed slot within has in
          record { is_name = name.0; low = name.1.high (λ none. on (leads ∙ none)) })
          (lower (anchor_in (now node)) (anchor_in (now (next_in l image node))) up (entries takes.so_far) takes.below)

      go : (list : List ListNode) → IsChain now node list → Rise (anchor_in (now node)) list → ((n : ℕ) → IsMember list n → IsMember (image_list l image) n)
          → position + length list < l.nodes
          → with_nodes l.slots (image_range l image) now takes.so_far node list ≡ image_map l image → TakesPairs l image (position + 1) next more
      go [] chain rise members few whole = absurd (on (leads ∙ chain))
      go (m ∷ list) chain rise members few whole =
          let there : next ≡ m.node = leads ∙ chain.0 in
          let anchor : anchor_in (now (next_in l image node)) ≡ m.anchor = ap (λ k. anchor_in (now k)) chain.0 ∙ chain.2 in
          let first = rise.0 in
          subst (λ k. TakesPairs l image (position + 1) k more) (sym there) (record {
            listed = inr (members m.node (inl refl));
            behind = list;
            chain = chain.3;
            rise = rise_at now m list chain.2 rise.1;
            members = λ n among. members n (inr among);
            few = omega arith;
            so_far = after;
            told = told;
            below = subst (λ k. HoldsOfNames (IsNameBelow (anchor_in (now k))) after) chain.0 (below (omega arith));
            whole = whole;
          })
