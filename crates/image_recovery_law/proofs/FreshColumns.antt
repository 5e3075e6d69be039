-- A fresh image is sound by all rules.
use Rattle.std.proofs.Common.{◌≡◌, ℕ, cond, List, [], ◌∷◌, Some, None, inl, inr, sym, ap, ◌∙◌, arith}
use Rattle.std.proofs.lemmas.Bool.{eq-eqb}
use Rattle.pm_words.specs.declared.layout.Layout.{Layout}
use Rattle.pm_words.specs.Images.{fresh_words}
use Rattle.pm_words.specs.Layouts.{IsLayout}
use Rattle.pm_words.specs.Locations.{Node}
use Rattle.pm_words.specs.Offsets.{next_offset}
use Rattle.pm_words.proofs.Made.{fresh_at, fresh_image}
use Rattle.data_node.specs.Spots.{Spot}
use Rattle.data_node.specs.Lists.{ListNode, IsIn, IsChain}
use Rattle.tree_row.specs.Rows.{image_layer, IsFreshLayer}
use Rattle.tree_row.proofs.FreshRow.{fresh_keeps}
use Rattle.updater_law.specs.Covered.{IsCovered}
use Rattle.updater_law.specs.Covers.{IsOpenFor}
use Rattle.image_rules.specs.Nodes.{image_spot, image_list}
use Rattle.image_rules.proofs.FreshLemmas.{fresh_is_sound}
use Rattle.image_rules.proofs.WordLemmas.{image_spot-here}
use Rattle.image_recovery_law.specs.Columns.{Columns, anchor_of, lines_of, layer_kept, NodesAreSound}
use Rattle.image_recovery_law.specs.Rows.{image_columns}
use Rattle.image_recovery_law.specs.SoundImages.{FreshHasSoundColumns}
use Rattle.image_recovery_law.proofs.SoundColumns.{spots_are, sound_nodes}

-- a list whose node 0 leads nowhere has node 0 alone
only_zero : (now : ℕ → Spot) (list : List ListNode) (n : ℕ) → IsChain now 0 list → now 0 next_offset ≡ 0 → IsIn list n → n ≡ 0
only_zero now list n chain end (inl e) = e
only_zero now [] n chain end (inr is) = absurd is
only_zero now (m ∷ behind) n chain end (inr is) = absurd (chain.1 (sym chain.0 ∙ end))

module _ (l : Layout) (is : IsLayout l) where
  abbrev words : List ℕ
  words = fresh_words l

  abbrev i : Columns
  i = image_columns l words

  nodes : NodesAreSound l (image_list l words) i
  nodes = sound_nodes l words (fresh_image l is) (fresh_is_sound l is).0

  -- its layer is that of an empty catalogue
  fresh : IsFreshLayer l (image_layer l words)
  fresh = fresh_keeps l is

  only_first : (n : ℕ) → IsIn (image_list l words) n → n ≡ 0
  only_first n among =
      let some = is.nodes.0 in
      let end : image_spot l words 0 next_offset ≡ 0 = image_spot-here l words 0 next_offset (omega arith) (omega arith) (omega arith) ∙ fresh_at l (Node 0 next_offset) (omega arith, omega arith) in
      only_zero i.spot (image_list l words) n nodes.makes.chain (ap (λ (s : ℕ → Spot). s 0 next_offset) (spots_are l words) ∙ end) among

  covered : IsCovered (IsIn (image_list l words)) (anchor_of i) (layer_kept l i) (IsOpenFor (lines_of i))
  covered key node bare = (
    λ leads. let zeros = fresh.first key node leads in (inl zeros.1, ap (anchor_of i) zeros.1 ∙ nodes.makes.lowest ∙ sym zeros.0),
    λ has.
        let first : node ≡ 0 = only_first node has.0 in
        let zero_key : key ≡ 0 = sym has.1 ∙ ap (anchor_of i) first ∙ nodes.makes.lowest in
        fresh.keeps.same key ∙ ap (λ b. cond b (Some 0) None) (eq-eqb key 0 zero_key) ∙ ap Some (sym first),
  )

pub fresh_has_sound_columns : FreshHasSoundColumns
fresh_has_sound_columns l is = record {
  nodes = nodes l is;
  layer = record { row = (fresh l is).keeps.lawful; keys = λ key node leads. inl ((fresh l is).first key node leads).0; few = (fresh l is).few; covered = covered l is };
}
