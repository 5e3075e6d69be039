-- The fresh image, the row that is made of an image, and the image that a crash leaves.
use Rattle.std.proofs.Common.{◌≡◌, ◌≢◌, ℕ, zero, suc, ◌+◌, ◌-◌, ◌^◌, ◌<◌, ◌≤◌, ⊎_elim, inl, inr, List, [], ◌∷◌, ◌++◌, length, replicate, slice_index, slice_set, drop, refl, sym, ap, ◌∙◌, subst, arith, length-set, length-append, length-drop, lit<}
use Rattle.std.proofs.lemmas.Bool.{cases_eq, cases_lt}
use Rattle.std.proofs.lemmas.List.{length-replicate, get_or-set_same, get_or-set_other, get_or-drop, get_or-take, length-take-le, get_or-replicate, get_or_past, get_or_append_left, get_or-append-add, replicate-append-replicate}
use Rattle.std.specs.Int.{w64, from_le_bytes}
use Rattle.std.specs.Prelude.{codes}
use Rattle.pm_words.specs.declared.layout.Layout.{Layout}
use Rattle.pm_words.specs.Layouts.{IsLayout}
use Rattle.pm_words.specs.Locations.{Location, HasLocation, IsVolatile, address_of, row_parts, part_of_address, behind_start, Word, Header, Root, Node, Line, Leaf, Cell, Cached, Durable, HasWord, image_parts, part_of_word, behind_part, image_words, row_words, volatile_words, word_number, word_at, cached_address, durable_address, at}
use Rattle.pm_words.specs.Images.{IsImage, header, first_leaf, fresh_words, fresh_word}
use Rattle.pm_words.specs.Rows.{IsRow, cached_row, durable_row, row_of}
use Rattle.pm_words.specs.Offsets.{reference_offset, leaf_node_offset}
use Rattle.pm_words.proofs.Parts.{earlier}
use Rattle.pm_words.proofs.Apart.{address_fits, words_within, word_at-set_other, word_at-set_same}

length-zeros : (n : ℕ) → length (replicate {A = ℕ} n 0) ≡ n
length-zeros n = length-replicate {A = ℕ} n 0

zeros_are : (n k : ℕ) → slice_index (replicate n 0) k ≡ 0
zeros_are n k = ⊎_elim (λ (lt : k < n). get_or-replicate n k 0 0 lt) (λ (ge : n ≤ k). get_or_past (replicate n 0) k 0 (let size = length-zeros n in omega arith)) (cases_lt k n)

-- the fresh image but for its root and its leaf
abbrev bare : Layout → List ℕ
bare l = header l ++ 1 ∷ replicate (image_words l - 6) 0

length-bare : (l : Layout) → length (bare l) ≡ image_words l
length-bare l =
    let size = length-zeros (image_words l - 6) in
    let parts = length-append (header l) (1 ∷ replicate (image_words l - 6) 0) in
    omega arith

-- nothing but zeros stands behind the generation
bare_zero : (l : Layout) (k : ℕ) → 6 ≤ k → slice_index (bare l) k ≡ 0
bare_zero l (suc (suc (suc (suc (suc (suc k)))))) le = zeros_are (image_words l - 6) k
bare_zero l k le = absurd (omega arith)

bare_header : (l : Layout) (k : ℕ) → slice_index (bare l) k ≡ slice_index (header l ++ 1 ∷ []) k
bare_header l zero = refl
bare_header l (suc zero) = refl
bare_header l (suc (suc zero)) = refl
bare_header l (suc (suc (suc zero))) = refl
bare_header l (suc (suc (suc (suc zero)))) = refl
bare_header l (suc (suc (suc (suc (suc zero))))) = refl
bare_header l (suc (suc (suc (suc (suc (suc k)))))) = zeros_are (image_words l - 6) k

bare_fits : (l : Layout) → IsLayout l → (k : ℕ) → slice_index (bare l) k < 2 ^ 64
bare_fits l layout zero = lit< tt
bare_fits l layout (suc zero) = lit< tt
bare_fits l layout (suc (suc zero)) = let most = layout.nodes.1 in omega arith
bare_fits l layout (suc (suc (suc zero))) = let most = layout.slots.1 in omega arith
bare_fits l layout (suc (suc (suc (suc zero)))) = let most = layout.callers.1 in omega arith
bare_fits l layout (suc (suc (suc (suc (suc zero))))) = lit< tt
bare_fits l layout (suc (suc (suc (suc (suc (suc k)))))) = let none = zeros_are (image_words l - 6) k in omega arith

-- and but for its leaf
abbrev rooted : Layout → List ℕ
rooted l = slice_set (bare l) (word_number l (Root reference_offset)) first_leaf

length-rooted : (l : Layout) → length (rooted l) ≡ image_words l
length-rooted l = length-set (bare l) (word_number l (Root reference_offset)) first_leaf ∙ length-bare l

-- a header word stands at its number
pub header_at : (l : Layout) (words : List ℕ) (k : ℕ) → word_at l words (Header k) ≡ slice_index words k
header_at l words k = ap (slice_index words) (let same : 0 + k ≡ k = omega arith in same)

six_words : (l : Layout) → 6 ≤ image_words l
six_words l = omega arith

leaf_has : (l : Layout) → HasWord l (Leaf 0 leaf_node_offset)
leaf_has l = (omega arith, omega arith)

root_has : (l : Layout) → HasWord l (Root reference_offset)
root_has l = lit< tt

-- a word of any part but the header stands behind the generation
late : (l : Layout) (w : Word) → 0 < part_of_word w → 6 ≤ word_number l w
late l w behind = let last = earlier (image_parts l) 0 (part_of_word w) 7 (behind_part l w) (lit< tt) behind in omega arith

zero_at : (l : Layout) (w : Word) → HasWord l w → 0 < part_of_word w → w ≢ Leaf 0 leaf_node_offset → w ≢ Root reference_offset → word_at l (fresh_words l) w ≡ 0
zero_at l w has behind other root = word_at-set_other l (rooted l) (Leaf 0 leaf_node_offset) w 1 (leaf_has l) has other ∙
    word_at-set_other l (bare l) (Root reference_offset) w first_leaf (root_has l) has root ∙ bare_zero l (word_number l w) (late l w behind)

pub fresh_at : (l : Layout) (w : Word) → HasWord l w → word_at l (fresh_words l) w ≡ fresh_word l w
fresh_at l (Header k) has = word_at-set_other l (rooted l) (Leaf 0 leaf_node_offset) (Header k) 1 (leaf_has l) has (λ e. cc) ∙
    word_at-set_other l (bare l) (Root reference_offset) (Header k) first_leaf (root_has l) has (λ e. cc) ∙ header_at l (bare l) k ∙ bare_header l k
fresh_at l (Root zero) has = word_at-set_other l (rooted l) (Leaf 0 leaf_node_offset) (Root reference_offset) 1 (leaf_has l) has (λ e. cc) ∙
    word_at-set_same l (bare l) (Root reference_offset) first_leaf (length-bare l) has
fresh_at l (Root (suc o)) has = zero_at l (Root (suc o)) has (lit< tt) (λ e. cc) (λ e. cc)
fresh_at l (Node n o) has = zero_at l (Node n o) has (lit< tt) (λ e. cc) (λ e. cc)
fresh_at l (Line c j o) has = zero_at l (Line c j o) has (lit< tt) (λ e. cc) (λ e. cc)
fresh_at l (Leaf zero zero) has = zero_at l (Leaf 0 0) has (lit< tt) (λ e. cc) (λ e. cc)
fresh_at l (Leaf zero (suc zero)) has = zero_at l (Leaf 0 1) has (lit< tt) (λ e. cc) (λ e. cc)
fresh_at l (Leaf zero (suc (suc zero))) has = zero_at l (Leaf 0 2) has (lit< tt) (λ e. cc) (λ e. cc)
fresh_at l (Leaf zero (suc (suc (suc zero)))) has = word_at-set_same l (rooted l) (Leaf 0 leaf_node_offset) 1 (length-rooted l) has
fresh_at l (Leaf zero (suc (suc (suc (suc o))))) has = zero_at l (Leaf 0 (suc (suc (suc (suc o))))) has (lit< tt) (λ e. cc) (λ e. cc)
fresh_at l (Leaf (suc k) o) has = zero_at l (Leaf (suc k) o) has (lit< tt) (λ e. cc) (λ e. cc)
fresh_at l (Cell kind k o) has = zero_at l (Cell kind k o) has (omega arith) (λ e. cc) (λ e. cc)

rooted_fits : (l : Layout) → IsLayout l → (k : ℕ) → slice_index (rooted l) k < 2 ^ 64
rooted_fits l layout k =
    let address = word_number l (Root reference_offset) in
    let inside : address < length (bare l) = let within = words_within l (Root reference_offset) (root_has l) in let size = length-bare l in omega arith in
    elim (cases_eq k address) [
      | inl same ↦ subst (λ (n : ℕ). slice_index (rooted l) n < 2 ^ 64) (sym same) (let stored = get_or-set_same (bare l) address first_leaf 0 inside in omega arith)
      | inr other ↦ let kept = get_or-set_other (bare l) address k first_leaf 0 other in let before = bare_fits l layout k in omega arith
    ]

pub fresh_image : (l : Layout) → IsLayout l → IsImage l (fresh_words l)
fresh_image l layout =
    let address = word_number l (Leaf 0 leaf_node_offset) in
    let inside : address < length (rooted l) =
    let within = words_within l (Leaf 0 leaf_node_offset) (leaf_has l) in let size = length-rooted l in
    omega arith in
    record {
      layout = layout;
      whole = length-set (rooted l) address 1 ∙ length-rooted l;
      header_stands = λ k lt. fresh_at l (Header k) (omega arith) ∙ get_or_append_left (header l) (1 ∷ []) 0 k lt;
      fits = λ k. ⊎_elim
          (λ (same : k ≡ address). subst (λ (n : ℕ). slice_index (fresh_words l) n < 2 ^ 64) (sym same) (let stored = get_or-set_same (rooted l) address 1 0 inside in omega arith))
          (λ (other : k ≡ address → ⊥). let kept = get_or-set_other (rooted l) address k 1 0 other in let before = rooted_fits l layout k in omega arith)
          (cases_eq k address);
    }

-- what the stores of the code make of a row of zeros
abbrev stored : List ℕ → ℕ → ℕ → ℕ → ℕ → ℕ → List ℕ
stored words magic nodes slots callers leaf =
    slice_set (slice_set (slice_set (slice_set (slice_set (slice_set (slice_set (slice_set words 0 magic) 1 1) 2 nodes) 3 slots) 4 callers) 5 1) 8 first_leaf) leaf 1

abbrev stored_for : Layout → List ℕ → List ℕ
stored_for l words = stored words (from_le_bytes w64 (codes "PACCAT01")) l.nodes l.slots l.callers (word_number l (Leaf 0 leaf_node_offset))

six_zeros : (n rest zero_word : ℕ) → 6 + rest ≡ n → replicate 6 zero_word ++ replicate rest zero_word ≡ replicate n zero_word
six_zeros n rest zero_word size = replicate-append-replicate 6 rest zero_word ∙ ap (λ (k : ℕ). replicate k zero_word) size

stored_zeros : (l : Layout) → stored_for l (replicate (image_words l) 0) ≡ fresh_words l
stored_zeros l = sym (ap (stored_for l) (six_zeros (image_words l) (image_words l - 6) 0 (omega (arith, six_words l))))

pub stored_image : (l : Layout) (words : List ℕ) (magic nodes slots callers leaf : ℕ) → IsLayout l →
    words ≡ replicate (image_words l) 0 → magic ≡ from_le_bytes w64 (codes "PACCAT01") → nodes ≡ l.nodes → slots ≡ l.slots →
    callers ≡ l.callers → leaf ≡ word_number l (Leaf 0 leaf_node_offset) → IsImage l (stored words magic nodes slots callers leaf)
stored_image l words magic nodes slots callers leaf layout zeros magic_is nodes_is slots_is callers_is leaf_is =
    let same : stored words magic nodes slots callers leaf ≡ stored_for l (replicate (image_words l) 0) = λ x. stored (zeros x) (magic_is x) (nodes_is x) (slots_is x) (callers_is x) (leaf_is x) in
    subst (IsImage l) (sym (same ∙ stored_zeros l)) (fresh_image l layout)

-- where the parts of a row that is made of an image stand
length-row_of : (l : Layout) (image : List ℕ) → length image ≡ image_words l → length (row_of l image) ≡ row_words l
length-row_of l image whole =
    let zeros : List ℕ = replicate (volatile_words l) 0 in
    let a = length-zeros (volatile_words l) in
    let b = length-append zeros image in
    let c = length-append (zeros ++ image) image in
    omega arith

row_of-volatile : (l : Layout) (image : List ℕ) (address : ℕ) → address < volatile_words l → slice_index (row_of l image) address ≡ 0
row_of-volatile l image address lt =
    let zeros : List ℕ = replicate (volatile_words l) 0 in
    let a = length-zeros (volatile_words l) in
    let b = length-append zeros image in
    get_or_append_left (zeros ++ image) image 0 address (omega arith) ∙ get_or_append_left zeros image 0 address (omega arith) ∙
    zeros_are (volatile_words l) address

row_of-cached : (l : Layout) (image : List ℕ) (word : ℕ) → length image ≡ image_words l → word < image_words l →
    slice_index (row_of l image) (cached_address l word) ≡ slice_index image word
row_of-cached l image word whole lt =
    let zeros : List ℕ = replicate (volatile_words l) 0 in
    let a = length-zeros (volatile_words l) in
    let b = length-append zeros image in
    let there : cached_address l word ≡ length zeros + word = omega arith in
    get_or_append_left (zeros ++ image) image 0 (cached_address l word) (omega arith) ∙ ap (slice_index (zeros ++ image)) there ∙
    get_or-append-add zeros image word 0

row_of-durable : (l : Layout) (image : List ℕ) (word : ℕ) → length image ≡ image_words l →
    slice_index (row_of l image) (durable_address l word) ≡ slice_index image word
row_of-durable l image word whole =
    let zeros : List ℕ = replicate (volatile_words l) 0 in
    let a = length-zeros (volatile_words l) in
    let b = length-append zeros image in
    let there : durable_address l word ≡ length (zeros ++ image) + word = omega arith in
    ap (slice_index (row_of l image)) there ∙ get_or-append-add (zeros ++ image) image word 0

row_of-fits : (l : Layout) (image : List ℕ) → IsImage l image → (address : ℕ) → slice_index (row_of l image) address < 2 ^ 64
row_of-fits l image is address = ⊎_elim
    (λ (lt : address < volatile_words l). let none = row_of-volatile l image address lt in omega arith)
    (λ (ge : volatile_words l ≤ address). ⊎_elim
    (λ (lt : address < durable_address l 0).
    let word : ℕ = address - volatile_words l in
    let there : cached_address l word ≡ address = omega arith in
    let twin = ap (slice_index (row_of l image)) (sym there) ∙ row_of-cached l image word is.whole (omega arith) in
    let small = is.fits word in omega arith)
    (λ (ge : durable_address l 0 ≤ address).
    let word : ℕ = address - durable_address l 0 in
    let there : durable_address l word ≡ address = omega arith in
    let twin = ap (slice_index (row_of l image)) (sym there) ∙ row_of-durable l image word is.whole in
    let small = is.fits word in omega arith)
    (cases_lt address (durable_address l 0)))
    (cases_lt address (volatile_words l))

-- a volatile word of a new row is 0
pub row_of-at_volatile : (l : Layout) (image : List ℕ) (p : Location) → HasLocation l p → IsVolatile p → at l (row_of l image) p ≡ 0
row_of-at_volatile l image p has volatile =
    row_of-volatile l image (address_of l p) (let before = earlier (row_parts l) (part_of_address p) 3 (behind_start l p) 0 (address_fits l p has) volatile in omega arith)

pub row_of-row : (l : Layout) (image : List ℕ) → IsImage l image → IsRow l (row_of l image)
row_of-row l image is = record {
  layout = is.layout;
  whole = length-row_of l image is.whole;
  cached = λ k lt. row_of-cached l image (word_number l (Header k)) is.whole (omega arith) ∙ is.header_stands k lt;
  durable = λ k lt. row_of-durable l image (word_number l (Header k)) is.whole ∙ is.header_stands k lt;
  fits = row_of-fits l image is;
}

-- both twins of a word are the image's
pub row_of-at : (l : Layout) (image : List ℕ) (w : Word) → IsImage l image → HasWord l w →
    (at l (row_of l image) (Cached w) ≡ word_at l image w) × (at l (row_of l image) (Durable w) ≡ word_at l image w)
row_of-at l image w is has = (row_of-cached l image (word_number l w) is.whole (words_within l w has), row_of-durable l image (word_number l w) is.whole)

-- a crash leaves the durable twin of each word
pub durable_row-at : (l : Layout) (words : List ℕ) (w : Word) → word_at l (durable_row l words) w ≡ at l words (Durable w)
durable_row-at l words w =
    get_or-drop (durable_address l 0) words (word_number l w) 0 ∙
    ap (slice_index words) (let same : durable_address l 0 + word_number l w ≡ durable_address l (word_number l w) = omega arith in same)

pub durable_row-image : (l : Layout) (words : List ℕ) → IsRow l words → IsImage l (durable_row l words)
durable_row-image l words row = record {
  layout = row.layout;
  whole = let size = length-drop (durable_address l 0) words in let whole = row.whole in omega arith;
  header_stands = λ k lt. durable_row-at l words (Header k) ∙ row.durable k lt;
  fits = λ k. let word = get_or-drop (durable_address l 0) words k 0 in let small = row.fits (durable_address l 0 + k) in omega arith;
}

-- the cached twins are one, word by word
cached_row-at_number : (l : Layout) (words : List ℕ) (k : ℕ) → k < image_words l → slice_index (cached_row l words) k ≡ slice_index words (cached_address l k)
cached_row-at_number l words k within = get_or-take (image_words l) (drop (volatile_words l) words) k 0 within ∙ get_or-drop (volatile_words l) words k 0

pub cached_row-at : (l : Layout) (words : List ℕ) (w : Word) → HasWord l w → word_at l (cached_row l words) w ≡ at l words (Cached w)
cached_row-at l words w has = cached_row-at_number l words (word_number l w) (words_within l w has)

cached_row-size : (l : Layout) (words : List ℕ) → IsRow l words → length (cached_row l words) ≡ image_words l
cached_row-size l words row =
    let whole = row.whole in
    let behind = length-drop (volatile_words l) words in
    length-take-le (image_words l) (drop (volatile_words l) words) (omega arith)

pub cached_row-image : (l : Layout) (words : List ℕ) → IsRow l words → IsImage l (cached_row l words)
cached_row-image l words row = record {
  layout = row.layout;
  whole = cached_row-size l words row;
  header_stands = λ k lt. cached_row-at l words (Header k) (omega arith) ∙ row.cached k lt;
  fits = λ k. ⊎_elim
      (λ (within : k < image_words l).
      let word = cached_row-at_number l words k within in
      let small = row.fits (cached_address l k) in
      omega arith)
      (λ (past : image_words l ≤ k).
      let none = get_or_past (cached_row l words) k 0 (let size = cached_row-size l words row in omega arith) in
      omega arith)
      (cases_lt k (image_words l));
}

pub row_of-row_by : (l m : Layout) (image words zeros front : List ℕ) (volatile : ℕ) → IsImage l image → m ≡ l →
    zeros ≡ replicate volatile 0 → volatile ≡ volatile_words m → front ≡ zeros ++ image → words ≡ front ++ image → IsRow m words
row_of-row_by l m image words zeros front volatile is m_is zeros_are volatile_is front_is words_is =
    let there : volatile ≡ volatile_words l = volatile_is ∙ ap volatile_words m_is in
    let starts : zeros ≡ replicate (volatile_words l) 0 = zeros_are ∙ ap (λ (n : ℕ). replicate n 0) there in
    let all : words ≡ row_of l image = words_is ∙
    ap (λ (xs : List ℕ). xs ++ image) (front_is ∙ ap (λ (xs : List ℕ). xs ++ image) starts) in
    subst (λ (n : Layout). IsRow n words) (sym m_is) (subst (IsRow l) (sym all) (row_of-row l image is))
