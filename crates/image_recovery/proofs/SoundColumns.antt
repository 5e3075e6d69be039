-- The columns of an image that is sound by all rules are those of a sound image.
use Rattle.std.proofs.Common.{◌≡◌, ℕ, ◌⊎◌, List, inl, inr, refl, sym, subst}
use Rattle.pm_words.specs.declared.layout.Layout.{Layout}
use Rattle.pm_words.specs.Images.{IsImage}
use Rattle.data_node.specs.Spots.{Spot}
use Rattle.data_node.specs.Lists.{ListNode, IsIn, MakeList, Rise, anchor_in}
use Rattle.data_node.proofs.ListLemmas.{members_few, chain_is}
use Rattle.image_rules.specs.Nodes.{image_spot, image_list}
use Rattle.updater_law.specs.Covered.{IsCovered}
use Rattle.updater_law.specs.Covers.{Lines, IsOpenFor}
use Rattle.image_layer_rules.specs.Anchors as layer
use Rattle.image_layer_rules.specs.Sound.{IsSoundByAll}
use Rattle.image_layer_rules.proofs.LayerLaws.{sound_keeps_layer, layer_makes_sound}
use Rattle.image_recovery_law.specs.Columns.{Columns, IsSound, IsNameKey, lines_of, layer_kept}
use Rattle.image_recovery_law.specs.Rows.{word_if, image_columns}
use Rattle.image_recovery_law.proofs.SoundColumns.{spots_are, sound_nodes, columns_are_sound}

module _ (l : Layout) (words : List ℕ) where
  abbrev o : Columns
  o = image_columns l words

  lines_are : layer.image_lines l words ≡ lines_of o
  unfolding layer.line_word word_if anchor_in
  lines_are = refl

  key_named : (key : ℕ) → layer.IsKeyNumber key → (key ≡ 0) ⊎ IsNameKey key
  key_named key (inl zero) = inl zero
  key_named key (inr named) = inr (record { name = named.0; is_name = named.1; same = named.2 })

  pub all_sound : IsImage l words → IsSoundByAll l words → IsSound l (image_list l words) o
  all_sound is sound =
      let both = sound_keeps_layer l words is sound in
      let keeps = both.1 in
      record {
        nodes = sound_nodes l words is both.0;
        layer = record {
          row = keeps.row;
          keys = λ key node leads. key_named key (keeps.keys key node leads);
          few = keeps.few;
          covered = subst (λ (now : ℕ → Spot). IsCovered (IsIn (image_list l words)) (λ n. anchor_in (now n)) (layer_kept l o) (IsOpenFor (lines_of o))) (sym (spots_are l words))
              (subst (λ (lines : Lines). IsCovered (IsIn (image_list l words)) (λ n. anchor_in (image_spot l words n)) (layer_kept l o) (IsOpenFor lines)) lines_are keeps.covered);
        };
      }

  -- and the other way
  name_keyed : (key : ℕ) → (key ≡ 0) ⊎ IsNameKey key → layer.IsKeyNumber key
  name_keyed key (inl zero) = inl zero
  name_keyed key (inr named) = inr (named.name, named.is_name, named.same)

  pub sound_all : IsImage l words → IsSound l (image_list l words) o → IsSoundByAll l words
  sound_all is sound = layer_makes_sound l words is ((columns_are_sound l words is).0 sound.nodes) (record {
    row = sound.layer.row;
    keys = λ key node leads. name_keyed key (sound.layer.keys key node leads);
    few = sound.layer.few;
    covered = subst (λ (lines : Lines). IsCovered (IsIn (image_list l words)) (λ n. anchor_in (image_spot l words n)) (layer_kept l o) (IsOpenFor lines)) (sym lines_are)
        (subst (λ (now : ℕ → Spot). IsCovered (IsIn (image_list l words)) (λ n. anchor_in (now n)) (layer_kept l o) (IsOpenFor (lines_of o))) (spots_are l words) sound.layer.covered);
  })

  -- the list that the columns make is that of the image
  pub list_is : (list : List ListNode) → IsSound l list o → image_list l words ≡ list
  list_is list sound =
      let makes = subst (λ (now : ℕ → Spot). MakeList l.nodes now list) (spots_are l words) sound.nodes.makes in
      let few = members_few (image_spot l words) 0 l.nodes list makes.chain (subst (λ least. Rise least list) (sym makes.lowest) makes.rise) makes.within in
      chain_is (image_spot l words) l.nodes 0 list makes.chain few
