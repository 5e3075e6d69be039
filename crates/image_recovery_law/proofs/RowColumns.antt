-- Columns by the words that are read: which words alike make which columns alike.
use Rattle.std.proofs.Common.{◌≡◌, ◌≢◌, ℕ, ◌+◌, ◌-◌, ◌*◌, ◌<◌, ◌≤◌, ◌&&◌, ◌⊎◌, Bool, true, false, cond, inl, inr}
use Rattle.std.proofs.Common.{refl, sym, subst, ap, arith}
use Rattle.std.specs.Prelude.{nat_lt}
use Rattle.std.proofs.lemmas.Bool.{cases_lt, and_parts, and_from, ltb-true, lt-ltb, false_from_ne_true}
use Rattle.pm_words.specs.declared.layout.Layout.{Layout}
use Rattle.pm_words.specs.Locations.{Word, Location, Header, Root, Node, Cached, Durable, HasWord, part_of_word}
use Rattle.pm_words.specs.Locations.{node_words, word_at, at}
use Rattle.pm_words.specs.Rows.{durable_row, row_of}
use Rattle.pm_words.proofs.Made.{row_of-at, durable_row-at}
use Rattle.pm_words.specs.Offsets.{generation_offset, reference_offset, version_offset}
use Rattle.updater_row_law.specs.search_layer.specs.Rows.{LayerWords, layer_words, image_layer_words}
use Rattle.updater_row_law.specs.search_layer.proofs.RowLemmas.{images_alike}
use Rattle.updater_row_law.specs.Columns.{line_count, line_word}
use Rattle.image_recovery_law.specs.Rows.{word_if, spare_count, spare_word, columns_by, StartHasColumns}
use Rattle.image_recovery_law.specs.Rows.{CrashHasColumns}
use Rattle.image_recovery_law.proofs.Mixes.{columns_path}

pub word_if-alike : (inside : Bool) (x y : ℕ) → (inside ≡ true → x ≡ y) → word_if inside x ≡ word_if inside y
unfolding word_if
word_if-alike true x y same = same refl
word_if-alike false x y same = refl

pub word_if-here : (inside : Bool) (x : ℕ) → inside ≡ true → word_if inside x ≡ x
unfolding word_if
word_if-here true x is = refl
word_if-here false x is = absurd (let no_way : false ≡ true = is in cc)

pub word_if-past : (inside : Bool) (x : ℕ) → inside ≡ false → word_if inside x ≡ 0
unfolding word_if
word_if-past true x is = absurd (let no_way : true ≡ false = is in cc)
word_if-past false x is = refl

pub word_if-either : (inside : Bool) (x a b : ℕ) → (inside ≡ true → (x ≡ a) ⊎ (x ≡ b)) → (word_if inside x ≡ word_if inside a) ⊎ (word_if inside x ≡ word_if inside b)
unfolding word_if
word_if-either true x a b either = either refl
word_if-either false x a b either = inl refl

pub not_below : (a b : ℕ) → b ≤ a → nat_lt a b ≡ false
not_below a b le = false_from_ne_true (nat_lt a b) (λ e. let lt : a < b = ltb-true a b e in omega arith)

-- the words that columns tell by name are those of an image, and neither the root nor words of leaves and cells
abbrev pub IsRest : Layout → Word → Type 0
IsRest l w = HasWord l w × (part_of_word w ≤ 3) × (w ≢ Root reference_offset)

-- the number of a word of the root's line
abbrev root_at : Word → ℕ
root_at (Root o) = o
root_at _ = 0

pub generation_rest : (l : Layout) → IsRest l (Header generation_offset)
generation_rest l = let small : 5 < 8 = omega arith in (small, omega arith, λ e. cc)

pub spare_low : (k : ℕ) → k < 2 → spare_word k ≡ Header (6 + k)
spare_low k low = ap (λ b. cond b (Header (6 + k)) (Root (k - 1))) (lt-ltb k 2 low)

pub spare_high : (k : ℕ) → 2 ≤ k → spare_word k ≡ Root (k - 1)
spare_high k high = ap (λ b. cond b (Header (6 + k)) (Root (k - 1))) (not_below k 2 high)

pub spare_rest : (l : Layout) (k : ℕ) → nat_lt k spare_count ≡ true → IsRest l (spare_word k)
spare_rest l k is =
    let lt : k < 9 = ltb-true k spare_count is in
    elim (cases_lt k 2) [
      | inl low ↦ subst (IsRest l) (sym (spare_low k low)) (let small : 6 + k < 8 = omega arith in (small, omega arith, λ e. cc))
      | inr high ↦ subst (IsRest l) (sym (spare_high k high)) (let small : k - 1 < 8 = omega arith in (small, omega arith, λ e. let none : k - 1 ≡ 0 = ap root_at e in omega arith))
    ]

pub version_rest : (l : Layout) (n : ℕ) → nat_lt n l.nodes ≡ true → IsRest l (Node n version_offset)
version_rest l n is = ((ltb-true n l.nodes is, omega arith), omega arith, λ e. cc)

abbrev pub has_spot_word : Layout → ℕ → ℕ → Bool
has_spot_word l n o = nat_lt n l.nodes && (nat_lt 0 o && nat_lt o (node_words l))

pub spot_rest : (l : Layout) (n o : ℕ) → has_spot_word l n o ≡ true → IsRest l (Node n o)
spot_rest l n o is =
    let parts = and_parts (nat_lt n l.nodes) (nat_lt 0 o && nat_lt o (node_words l)) is in
    ((ltb-true n l.nodes parts.0, ltb-true o (node_words l) (and_parts (nat_lt 0 o) (nat_lt o (node_words l)) parts.1).1), omega arith, λ e. cc)

pub spot_here : (l : Layout) (n o : ℕ) → n < l.nodes → 0 < o → o < node_words l → has_spot_word l n o ≡ true
spot_here l n o here some small = and_from (nat_lt n l.nodes) (nat_lt 0 o && nat_lt o (node_words l)) (lt-ltb n l.nodes here) (and_from (nat_lt 0 o) (nat_lt o (node_words l)) (lt-ltb 0 o some) (lt-ltb o (node_words l) small))

abbrev pub has_line_word : Layout → ℕ → ℕ → Bool
has_line_word l j o = nat_lt j (line_count l) && nat_lt o 8

pub line_rest : (l : Layout) (j o : ℕ) → has_line_word l j o ≡ true → IsRest l (line_word o j)
line_rest l j o is =
    let parts = and_parts (nat_lt j (line_count l)) (nat_lt o 8) is in
    let lt : j < 8 * l.callers = ltb-true j (line_count l) parts.0 in
    ((omega arith, omega arith, ltb-true o 8 parts.1), omega arith, λ e. cc)

pub line_here : (l : Layout) (j o : ℕ) → j < line_count l → o < 8 → has_line_word l j o ≡ true
line_here l j o here small = and_from (nat_lt j (line_count l)) (nat_lt o 8) (lt-ltb j (line_count l) here) (lt-ltb o 8 small)

-- the word of a twin
abbrev pub word_of : Location → Word
word_of (Cached w) = w
word_of (Durable w) = w
word_of _ = Root reference_offset

-- the same words, but for one perhaps, are the same columns, but for those that tell this one
module _ (l : Layout) (word word' : Word → ℕ) (Kept : Word → Type 0) (same : (w : Word) → IsRest l w → Kept w → word' w ≡ word w) where
  pub generation_same : Kept (Header generation_offset) → word' (Header generation_offset) ≡ word (Header generation_offset)
  generation_same kept = same (Header generation_offset) (generation_rest l) kept

  pub spare_same : (k : ℕ) → Kept (spare_word k) → word_if (nat_lt k spare_count) (word' (spare_word k)) ≡ word_if (nat_lt k spare_count) (word (spare_word k))
  spare_same k kept = word_if-alike (nat_lt k spare_count) (word' (spare_word k)) (word (spare_word k)) (λ is. same (spare_word k) (spare_rest l k is) kept)

  pub version_same : (n : ℕ) → Kept (Node n version_offset) → word_if (nat_lt n l.nodes) (word' (Node n version_offset)) ≡ word_if (nat_lt n l.nodes) (word (Node n version_offset))
  version_same n kept = word_if-alike (nat_lt n l.nodes) (word' (Node n version_offset)) (word (Node n version_offset)) (λ is. same (Node n version_offset) (version_rest l n is) kept)

  pub spot_same : (n o : ℕ) → Kept (Node n o) → word_if (has_spot_word l n o) (word' (Node n o)) ≡ word_if (has_spot_word l n o) (word (Node n o))
  spot_same n o kept = word_if-alike (has_spot_word l n o) (word' (Node n o)) (word (Node n o)) (λ is. same (Node n o) (spot_rest l n o is) kept)

  pub line_same : (j o : ℕ) → Kept (line_word o j) → word_if (has_line_word l j o) (word' (line_word o j)) ≡ word_if (has_line_word l j o) (word (line_word o j))
  line_same j o kept = word_if-alike (has_line_word l j o) (word' (line_word o j)) (word (line_word o j)) (λ is. same (line_word o j) (line_rest l j o is) kept)

pub columns_alike : (l : Layout) (word word' : Word → ℕ) (layer layer' : LayerWords) → ((w : Word) → IsRest l w → word' w ≡ word w) → layer' ≡ layer → columns_by l word' layer' ≡ columns_by l word layer
columns_alike l word word' layer layer' same words =
    let all : (w : Word) → IsRest l w → Unit {0} → word' w ≡ word w = λ w rest kept. same w rest in
    columns_path (columns_by l word layer) (columns_by l word' layer')
    (generation_same l word word' (λ w. Unit {0}) all tt)
    (λ k. spare_same l word word' (λ w. Unit {0}) all k tt)
    (λ n. version_same l word word' (λ w. Unit {0}) all n tt)
    (λ n o. spot_same l word word' (λ w. Unit {0}) all n o tt)
    (λ j o. line_same l word word' (λ w. Unit {0}) all j o tt)
    words

pub start_has_columns : StartHasColumns
start_has_columns l image is = (
  columns_alike l (word_at l image) (λ w. at l (row_of l image) (Cached w)) (image_layer_words l image) (layer_words l (row_of l image) Cached)
      (λ w rest. (row_of-at l image w is rest.0).0)
      (sym (images_alike l (row_of l image) image Cached (λ w place. sym (row_of-at l image w is place.there).0))),
  columns_alike l (word_at l image) (λ w. at l (row_of l image) (Durable w)) (image_layer_words l image) (layer_words l (row_of l image) Durable)
      (λ w rest. (row_of-at l image w is rest.0).1)
      (sym (images_alike l (row_of l image) image Durable (λ w place. sym (row_of-at l image w is place.there).1))),
)

pub crash_has_columns : CrashHasColumns
crash_has_columns l words = sym (columns_alike l (word_at l (durable_row l words)) (λ w. at l words (Durable w)) (image_layer_words l (durable_row l words)) (layer_words l words Durable)
    (λ w rest. sym (durable_row-at l words w))
    (sym (images_alike l words (durable_row l words) Durable (λ w place. durable_row-at l words w))))
