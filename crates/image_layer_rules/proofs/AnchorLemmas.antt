-- The anchors of listed nodes are keys of a layer.
use Rattle.std.proofs.Common.{◌≡◌, ℕ, zero, suc, ◌<◌, List, inl, inr, ap, ◌∙◌, arith}
use Rattle.pm_words.specs.declared.layout.Layout.{Layout}
use Rattle.cat_key.specs.Names.{IsName}
use Rattle.data_node.specs.Lists.{ListNode, key_of, IsAtPosition}
use Rattle.data_node.proofs.ListLemmas.{all_member}
use Rattle.data_node.proofs.PositionLemmas.{in_position, chain_member}
use Rattle.image_rules.specs.Nodes.{image_spot, image_list, IsListedNode}
use Rattle.image_rules.specs.Sound.{IsSound}
use Rattle.image_rules.proofs.TidyLemmas.{sound_keeps}
use Rattle.image_layer_rules.specs.Anchors.{image_anchor, IsKeyNumber}

-- each anchor of a listed node is a key, and the node is one of the image's
anchor_at : (l : Layout) (image : List ℕ) → IsSound l image → (position n : ℕ) → IsAtPosition 0 (image_list l image) position n → IsKeyNumber (image_anchor l image n)
anchor_at l image sound zero n at = inl (ap (image_anchor l image) at ∙ (sound_keeps l image sound).list.lowest)
anchor_at l image sound (suc position) n at =
    let list = (sound_keeps l image sound).list in
    let named = chain_member (image_spot l image) (λ (m : ListNode). (name : List ℕ) × IsName name × (m.anchor ≡ key_of name)) 0 (image_list l image) list.chain list.named position n at in
    inr (named.1.0, named.1.1, named.2 ∙ named.1.2)

pub anchor_is_key : (l : Layout) (image : List ℕ) → IsSound l image → (n : ℕ) → IsListedNode l image n → IsKeyNumber (image_anchor l image n)
anchor_is_key l image sound n listed = let at = in_position 0 (image_list l image) n listed in anchor_at l image sound at.0 n at.1

pub listed_within : (l : Layout) (image : List ℕ) → IsSound l image → 0 < l.nodes → (n : ℕ) → IsListedNode l image n → n < l.nodes
listed_within l image sound some n (inl first) = omega arith
listed_within l image sound some n (inr among) = all_member (λ k. k < l.nodes) (image_list l image) n (sound_keeps l image sound).list.within among
