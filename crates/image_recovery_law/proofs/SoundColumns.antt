-- The columns of an image are sound where the image is.
use Rattle.std.proofs.Common.{◌≡◌, ℕ, suc, ◌+◌, ◌-◌, ◌<◌, ◌≤◌, List, inl, inr, refl, sym, subst, ap, ◌∙◌, arith}
use Rattle.std.specs.Prelude.{nat_lt}
use Rattle.std.proofs.lemmas.Bool.{cases_lt, and_parts, ltb-true, lt-ltb, false_from_ne_true}
use Rattle.pm_words.specs.declared.layout.Layout.{Layout}
use Rattle.pm_words.specs.Images.{IsImage}
use Rattle.pm_words.specs.Locations.{Word, Header, Root, Node, word_at}
use Rattle.version_lock.specs.Versions.{generation_of}
use Rattle.data_node.specs.Spots.{Spot, IsTidy, Means}
use Rattle.data_node.specs.Lists.{MakeList}
use Rattle.data_node.proofs.LineLemmas.{fit_alike}
use Rattle.pm_words.specs.Offsets.{version_offset, state_offset}
use Rattle.image_rules.specs.Nodes.{image_spot, image_list, image_range}
use Rattle.image_rules.specs.Rules.{IsSpare, line_spot}
use Rattle.image_rules.specs.Laws.{KeepsRules}
use Rattle.image_rules.specs.Sound as image
use Rattle.image_rules.proofs.TidyLemmas.{sound_keeps, keeps_sound}
use Rattle.updater_row_law.specs.Columns.{line_count, line_word}
use Rattle.image_recovery_law.specs.Columns.{Columns, NodesAreSound}
use Rattle.image_recovery_law.specs.Rows.{word_if, spare_count, spare_word, image_columns}
use Rattle.image_recovery_law.specs.SoundImages.{ColumnsAreSound, ColumnsKeepMaps}
use Rattle.image_recovery_law.proofs.RowColumns.{word_if-here, word_if-past, spare_low, spare_high, has_line_word, line_here, not_below}

module _ (l : Layout) (words : List ℕ) where
  abbrev i : Columns
  i = image_columns l words

  pub spots_are : i.spot ≡ image_spot l words
  unfolding image_spot word_if
  spots_are = refl

  spare_here : (k : ℕ) → k < spare_count → i.spare k ≡ word_at l words (spare_word k)
  spare_here k lt = word_if-here (nat_lt k spare_count) (word_at l words (spare_word k)) (lt-ltb k spare_count lt)

  version_here : (n : ℕ) → n < l.nodes → i.version n ≡ word_at l words (Node n version_offset)
  version_here n lt = word_if-here (nat_lt n l.nodes) (word_at l words (Node n version_offset)) (lt-ltb n l.nodes lt)

  line_word_here : (j o : ℕ) → j < line_count l → o < 8 → i.line j o ≡ line_spot l words j o
  line_word_here j o lt small = word_if-here (has_line_word l j o) (word_at l words (line_word o j)) (line_here l j o lt small)

  -- the spare words by number
  spare_is : (k : ℕ) → k < spare_count → IsSpare (spare_word k)
  spare_is k lt = elim (cases_lt k 2) [
    | inl low ↦ subst IsSpare (sym (spare_low k low)) (omega arith, omega arith)
    | inr high ↦ subst IsSpare (sym (spare_high k high)) (omega arith, omega arith)
  ]

  spare_none : ((k : ℕ) → i.spare k ≡ 0) → (w : Word) → IsSpare w → word_at l words w ≡ 0
  spare_none none (Header o) is =
      let k : ℕ = o - 6 in
      let there : 6 + k ≡ o = omega (arith, is.0) in
      let low : k < 2 = omega (arith, is.0, is.1) in
      ap (λ x. word_at l words (Header x)) (sym there) ∙ ap (word_at l words) (sym (spare_low k low)) ∙ sym (spare_here k (omega arith)) ∙ none k
  spare_none none (Root o) is =
      let there : suc o - 1 ≡ o = omega arith in
      ap (λ x. word_at l words (Root x)) (sym there) ∙ ap (word_at l words) (sym (spare_high (suc o) (omega (arith, is.0)))) ∙ sym (spare_here (suc o) (omega (arith, is.1))) ∙ none (suc o)
  spare_none none _ is = absurd is

  none_spare : ((w : Word) → IsSpare w → word_at l words w ≡ 0) → (k : ℕ) → i.spare k ≡ 0
  none_spare none k = elim (cases_lt k spare_count) [
    | inl lt ↦ spare_here k lt ∙ none (spare_word k) (spare_is k lt)
    | inr past ↦ word_if-past (nat_lt k spare_count) (word_at l words (spare_word k)) (not_below k spare_count past)
  ]

  pub sound_nodes : IsImage l words → image.IsSound l words → NodesAreSound l (image_list l words) i
  sound_nodes is sound =
      let keeps : KeepsRules l words = sound_keeps l words sound in
      record {
        some = let least = is.layout.nodes.0 in omega arith;
        generation = keeps.generation;
        spare = none_spare keeps.spare;
        versions = λ n lt. subst (λ x. generation_of x ≤ i.generation) (sym (version_here n lt)) (keeps.versions n lt);
        makes = subst (λ (s : ℕ → Spot). MakeList l.nodes s (image_list l words)) (sym spots_are) keeps.list;
        tidy = λ n among. subst (λ (s : ℕ → Spot). IsTidy l.slots (s n)) (sym spots_are) (keeps.tidy n among);
        lines = λ j lt. fit_alike l.nodes (line_spot l words j) (i.line j) (λ o small. line_word_here j o lt small) (keeps.lines j lt);
        beyond = λ j past. word_if-past (has_line_word l j state_offset) (word_at l words (line_word state_offset j))
            (false_from_ne_true (has_line_word l j state_offset) (λ e. let lt = ltb-true j (line_count l) (and_parts (nat_lt j (line_count l)) (nat_lt 0 8) e).0 in omega arith));
      }

  nodes_sound : IsImage l words → NodesAreSound l (image_list l words) i → image.IsSound l words
  nodes_sound is sound = keeps_sound l words is (record {
    generation = sound.generation;
    spare = spare_none sound.spare;
    versions = λ n lt. subst (λ x. generation_of x ≤ i.generation) (version_here n lt) (sound.versions n lt);
    list = subst (λ (s : ℕ → Spot). MakeList l.nodes s (image_list l words)) spots_are sound.makes;
    tidy = λ n among. subst (λ (s : ℕ → Spot). IsTidy l.slots (s n)) spots_are (sound.tidy n among);
    lines = λ j lt. fit_alike l.nodes (i.line j) (line_spot l words j) (λ o small. sym (line_word_here j o lt small)) (sound.lines j lt);
  })

pub columns_are_sound : ColumnsAreSound
columns_are_sound l words is = (nodes_sound l words is, sound_nodes l words is)

pub columns_keep_maps : ColumnsKeepMaps
columns_keep_maps l words m = (
  λ is_map. record { means = λ n among. subst (λ (s : ℕ → Spot). Means l.slots (image_range l words n) (s n) m) (spots_are l words) (is_map.means n among); names = is_map.names },
  λ is_map. record { means = λ n among. subst (λ (s : ℕ → Spot). Means l.slots (image_range l words n) (s n) m) (sym (spots_are l words)) (is_map.means n among); names = is_map.names },
)
