-- The words of the layer in a row, and in an image.
use Rattle.std.proofs.Common.{◌≡◌, ℕ, ◌<◌, ◌&&◌, true, false, inl, inr, cond, ltb, leb, refl, sym, ◌∙◌, arith, Bool, List, slice_set, ap}
use Rattle.std.proofs.lemmas.Bool.{and_parts, ltb-true, leb-true, false≢true, lt-ltb}
use Rattle.pm_words.specs.declared.layout.Layout.{Layout}
use Rattle.pm_words.specs.Locations.{Word, Header, Root, Node, Line, Leaf, Cell, Location, Clock, Updater, Volatile, Mark, Cached, Durable, leaf_count, at, word_at, HasLocation, address_of}
use Rattle.pm_words.proofs.Apart.{at-set_other}
use Rattle.tree_law.specs.Words.{LayerWord, RootWord, LeafWord, CellWord, room_of, tree_of}
use Rattle.tree_law.proofs.StageLaw.{same_words}
use Rattle.tree_law.proofs.TreeLaw.{layer_leads_to_nodes}
use Rattle.tree_row.specs.Rows.{image_word, HasLayerWord, has_layer_word, layer_word, image_layer_word, IsOutsideWord, IsOutsideLayer}
use Rattle.tree_row.specs.RowMarks.{IsNoMark, has_mark}
use Rattle.tree_row.proofs.RowLaw.{has_from, outside_leaves, eviction_mixes}
use Rattle.tree_row.proofs.MarkLaw.{store_leaves_marks, eviction_leaves_marks}
use Rattle.layer_map.specs.Places.{is_layer_word, is_of_layer}
use Rattle.search_layer.specs.Rows.{LayerWords, IsLayerMix, root_words, LayerAlike, LayerWordsStay, RowsAlike, ImagesAlike, EvenAreSame, MixesAreEven, EvictionMixes}
use Rattle.search_layer.specs.Kept.{KeptLeadsBelow}

-- what holds of each word beside the layer; and of each location
pub off_word : (P : Word → Type 0) → ((o : ℕ) → P (Header o)) → ((n o : ℕ) → P (Node n o)) → ((c j o : ℕ) → P (Line c j o)) → (w : Word) → is_layer_word w ≡ false → P w
off_word P header node line (Header o) e = header o
off_word P header node line (Root o) e = absurd (false≢true (sym e))
off_word P header node line (Node n o) e = node n o
off_word P header node line (Line c j o) e = line c j o
off_word P header node line (Leaf k o) e = absurd (false≢true (sym e))
off_word P header node line (Cell kind k o) e = absurd (false≢true (sym e))

pub off_layer : (P : Location → Type 0) → P Clock → P Updater → ((n o : ℕ) → P (Volatile n o)) → ((w : Word) → is_layer_word w ≡ false → P (Cached w) × P (Durable w)) → (p : Location) → is_of_layer p ≡ false → P p
off_layer P clock updater volatile twins Clock e = clock
off_layer P clock updater volatile twins Updater e = updater
off_layer P clock updater volatile twins (Volatile n o) e = volatile n o
off_layer P clock updater volatile twins (Mark kind k) e = absurd (false≢true (sym e))
off_layer P clock updater volatile twins (Cached w) e = (twins w e).0
off_layer P clock updater volatile twins (Durable w) e = (twins w e).1

word_outside : (w : Word) → is_layer_word w ≡ false → IsOutsideWord w
word_outside = off_word IsOutsideWord (λ o. tt) (λ n o. tt) (λ c j o. tt)

outside_layer : (p : Location) → is_of_layer p ≡ false → IsOutsideLayer p
outside_layer = off_layer IsOutsideLayer tt tt (λ n o. tt) (λ w e. (word_outside w e, word_outside w e))

no_mark : (p : Location) → is_of_layer p ≡ false → IsNoMark p
no_mark = off_layer IsNoMark tt tt (λ n o. tt) (λ w e. (tt, tt))

-- a number that a row has under a guard
guarded_by : (b : Bool) (x y : ℕ) → (b ≡ true → y ≡ x) → cond b y 0 ≡ cond b x 0
guarded_by true x y same = same refl
guarded_by false x y same = refl

root_alike : (l : Layout) (words after : List ℕ) → ((o : ℕ) → o < 8 → at l after (Cached (Root o)) ≡ at l words (Cached (Root o))) → root_words l after ≡ root_words l words
root_alike l words after same = λ x o. guarded_by (ltb o 8) (at l words (Cached (Root o))) (at l after (Cached (Root o))) (λ e. same o (ltb-true o 8 e)) x

pub root_word : (l : Layout) (words after : List ℕ) → root_words l after ≡ root_words l words → (o : ℕ) → o < 8 → at l after (Cached (Root o)) ≡ at l words (Cached (Root o))
root_word l words after same o lt =
    sym (ap (λ b. cond b (at l after (Cached (Root o))) 0) (lt-ltb o 8 lt)) ∙ ap (λ f. f o) same ∙ ap (λ b. cond b (at l words (Cached (Root o))) 0) (lt-ltb o 8 lt)

pub layer_words_stay : LayerWordsStay
layer_words_stay l words p word has e =
    let twins = outside_leaves l words p word has (outside_layer p e) in
    record {
      cached = twins.0;
      durable = twins.1;
      marks = store_leaves_marks l words p word has (no_mark p e);
      root = root_alike l words (slice_set words (address_of l p) word) (λ o lt. at-set_other l words p (Cached (Root o)) word has lt (λ same. false≢true (sym e ∙ ap is_of_layer (sym same))));
    }

pub is_place : (p : LayerWord) → is_layer_word (image_word p) ≡ true
is_place RootWord = refl
is_place (LeafWord i o) = refl
is_place (CellWord kind n o) = refl

-- a number that a row or an image has at each word of the layer
guarded : (l : Layout) (p : LayerWord) (x y : ℕ) → (HasLayerWord l p → y ≡ x) → cond (has_layer_word l p) y 0 ≡ cond (has_layer_word l p) x 0
guarded l p x y same = elim (has_layer_word l p) as (λ a. has_layer_word l p ≡ a → cond a y 0 ≡ cond a x 0) [ true ↦ λ e. same (has_from l p e) | false ↦ λ e. refl ] refl

pub rows_alike : RowsAlike
rows_alike l words after twin other same = λ x. record { root = word RootWord x; leaf = λ i o. word (LeafWord i o) x; cell = λ kind n o. word (CellWord kind n o) x }
  where
    word : (p : LayerWord) → layer_word l after other p ≡ layer_word l words twin p
    word p = guarded l p (at l words (twin (image_word p))) (at l after (other (image_word p))) (λ has. same (image_word p) (record { of_layer = is_place p; there = has }))

pub images_alike : ImagesAlike
images_alike l words image twin same = λ x. record { root = word RootWord x; leaf = λ i o. word (LeafWord i o) x; cell = λ kind n o. word (CellWord kind n o) x }
  where
    word : (p : LayerWord) → image_layer_word l image p ≡ layer_word l words twin p
    word p = guarded l p (at l words (twin (image_word p))) (word_at l image (image_word p)) (λ has. same (image_word p) (record { of_layer = is_place p; there = has }))

mark_has : (l : Layout) (kind n : ℕ) → has_mark l kind n ≡ true → HasLocation l (Mark kind n)
mark_has l kind n e =
    let number = and_parts (leb 1 kind && leb kind 5) (ltb n (leaf_count l)) e in
    let kinds = and_parts (leb 1 kind) (leb kind 5) number.0 in
    (leb-true _ _ kinds.0, leb-true _ _ kinds.1, ltb-true _ _ number.1)

pub layer_alike : LayerAlike
layer_alike l words after same = record {
  cached = rows_alike l words after Cached Cached (λ w place. same (Cached w) place.there place.of_layer);
  durable = rows_alike l words after Durable Durable (λ w place. same (Durable w) place.there place.of_layer);
  marks = λ x kind n. guarded_by (has_mark l kind n) (at l words (Mark kind n)) (at l after (Mark kind n)) (λ e. same (Mark kind n) (mark_has l kind n e) refl) x;
  root = root_alike l words after (λ o lt. same (Cached (Root o)) lt refl);
}

pub even_are_same : EvenAreSame
even_are_same w s even = same_words w s even

pub mixes_are_even : MixesAreEven
mixes_are_even w s mix even is p = elim (is p) [ inl cached ↦ cached | inr durable ↦ durable ∙ even p ]

pub mix_of_durable : (w s : LayerWords) → IsLayerMix w s s
mix_of_durable w s p = inr refl

pub row_eviction_mixes : EvictionMixes
row_eviction_mixes l words word whole within =
    let mixes = eviction_mixes l words word whole in
    record { cached = mixes.0; durable = mixes.1; marks = eviction_leaves_marks l words word }

pub kept_leads_below : KeptLeadsBelow
kept_leads_below l w is = layer_leads_to_nodes (room_of (leaf_count l) l.nodes) (tree_of w) is.tree
