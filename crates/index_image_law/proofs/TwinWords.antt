-- An image whose words are those of one twin, cached or durable, has that twin's layer and lines.
use Rattle.std.proofs.Common.{◌≡◌, ℕ, ◌*◌, ◌/◌, ◌%◌, ◌<◌, ◌&&◌, true, false, cond, List, refl, sym, arith}
use Rattle.std.specs.Prelude.{nat_lt}
use Rattle.std.proofs.lemmas.Bool.{lt-ltb, ltb-true}
use Rattle.pm_words.specs.declared.layout.Layout.{Layout}
use Rattle.pm_words.specs.Locations.{Word, Location, HasWord, Line, word_at, at}
use Rattle.layer_map.specs.Keys.{key_of}
use Rattle.index_layer_law.specs.search_layer.specs.Rows.{layer_words, image_layer_words}
use Rattle.index_layer_law.specs.search_layer.proofs.RowLemmas.{images_alike}
use Rattle.index_layer_law.specs.updater_row_law.specs.Columns.{column, line_field, lines_in}
use Rattle.image_layer_rules.specs.Anchors.{image_lines, line_word}

-- each word of the image is that of this twin
abbrev pub AreTwinWords : Layout → List ℕ → (Word → Location) → List ℕ → Type 0
AreTwinWords l words twin image = (w : Word) → HasWord l w → word_at l image w ≡ at l words (twin w)

module _ (l : Layout) (words image : List ℕ) (twin : Word → Location) (same : AreTwinWords l words twin image) where
  pub layer_is : layer_words l words twin ≡ image_layer_words l image
  layer_is = sym (images_alike l words image twin (λ w place. same w place.there))

  -- lines, as the law of turns numbers them
  field_at : (offset j : ℕ) → offset < 8 → line_field l words twin offset j ≡ line_word l image j offset
  unfolding column line_word
  field_at offset j small =
      rw (lt-ltb offset 8 small)
      (elim (nat_lt j (8 * l.callers))
      as (λ b. nat_lt j (8 * l.callers) ≡ b → cond b (at l words (twin (Line (j / 8) (j % 8) offset))) 0 ≡ cond (b && true) (word_at l image (Line (j / 8) (j % 8) offset)) 0) [
        | true ↦ λ here.
            let below = ltb-true j (8 * l.callers) here in
            sym (same (Line (j / 8) (j % 8) offset) (omega arith, omega arith, small))
        | false ↦ λ _. refl
      ] refl)

  pub lines_are : lines_in l words twin ≡ image_lines l image
  lines_are =
      let field = λ (offset : ℕ) (small : offset < 8) (j : ℕ). field_at offset j small in
      let state = field 0 (omega arith) in
      let kind = field 1 (omega arith) in
      let node = field 2 (omega arith) in
      let first = field 3 (omega arith) in
      let second = field 4 (omega arith) in
      let third = field 5 (omega arith) in
      λ k. record {
        state = λ j. state j k;
        kind = λ j. kind j k;
        node = λ j. node j k;
        anchor = λ j. key_of (first j k) (second j k) (third j k);
      }
