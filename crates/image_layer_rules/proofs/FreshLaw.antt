-- A fresh image is sound by all rules.
use Rattle.std.proofs.Common.{◌≡◌, ℕ, List, [], ◌∷◌, Some, None, cond, inl, inr, sym, ap, ◌∙◌, arith}
use Rattle.std.proofs.lemmas.Bool.{eq-eqb}
use Rattle.pm_words.specs.declared.layout.Layout.{Layout}
use Rattle.pm_words.specs.Images.{fresh_words}
use Rattle.pm_words.specs.Layouts.{IsLayout}
use Rattle.pm_words.specs.Locations.{Node}
use Rattle.pm_words.specs.Offsets.{next_offset}
use Rattle.pm_words.proofs.Made.{fresh_at, fresh_image}
use Rattle.data_node.specs.Spots.{Spot}
use Rattle.data_node.specs.Lists.{ListNode, IsMember, IsChain}
use Rattle.image_rules.specs.Nodes.{image_spot, image_list, IsListedNode}
use Rattle.image_rules.proofs.FreshLemmas.{fresh_is_sound}
use Rattle.image_rules.proofs.TidyLemmas.{sound_keeps}
use Rattle.image_rules.proofs.WordLemmas.{image_spot-here}
use Rattle.tree_row.specs.Rows.{image_layer, IsFreshLayer}
use Rattle.tree_row.proofs.FreshRow.{fresh_keeps}
use Rattle.image_layer_rules.specs.Anchors.{image_anchor}
use Rattle.image_layer_rules.specs.Laws.{IsCoveredImage, FreshIsSoundByAll}
use Rattle.image_layer_rules.proofs.LayerLaws.{layer_makes_sound}

-- a list whose first node leads nowhere has no node behind it
none_behind : (now : ℕ → Spot) (list : List ListNode) → IsChain now 0 list → now 0 next_offset ≡ 0 → (n : ℕ) → IsMember list n → ⊥
none_behind now [] chain none n among = among
none_behind now (m ∷ behind) chain none n among = chain.1 (sym chain.0 ∙ none)

module _ (l : Layout) (is : IsLayout l) where
  keeps : IsFreshLayer l (image_layer l (fresh_words l))
  keeps = fresh_keeps l is

  first_anchor : image_anchor l (fresh_words l) 0 ≡ 0
  first_anchor = (sound_keeps l (fresh_words l) (fresh_is_sound l is).0).list.lowest

  only_first : (n : ℕ) → IsListedNode l (fresh_words l) n → n ≡ 0
  only_first n (inl first) = first
  only_first n (inr among) =
      let nodes = is.nodes in
      absurd (none_behind (image_spot l (fresh_words l)) (image_list l (fresh_words l)) (sound_keeps l (fresh_words l) (fresh_is_sound l is).0).list.chain
      (image_spot-here l (fresh_words l) 0 next_offset (omega arith) (omega arith) (omega arith) ∙ fresh_at l (Node 0 next_offset) (omega arith, omega arith)) n among)

  covered : IsCoveredImage l (fresh_words l)
  covered key node closed = (
    λ to.
        let zero = keeps.first key node to in
        (inl zero.1, ap (image_anchor l (fresh_words l)) zero.1 ∙ first_anchor ∙ sym zero.0),
    λ has.
        let first = only_first node has.0 in
        let zero : key ≡ 0 = sym has.1 ∙ ap (image_anchor l (fresh_words l)) first ∙ first_anchor in
        keeps.keeps.same key ∙ ap (λ b. cond b (Some 0) None) (eq-eqb key 0 zero) ∙ ap Some (sym first),
  )

pub fresh_is_sound_by_all : FreshIsSoundByAll
fresh_is_sound_by_all l is =
    layer_makes_sound l (fresh_words l) (fresh_image l is) (fresh_is_sound l is).0 (record {
      row = (keeps l is).keeps.lawful;
      keys = λ key node to. inl ((keeps l is).first key node to).0;
      few = (keeps l is).few;
      covered = covered l is;
    })
