-- Words and their bytes tell each other, and the bytes of an image lack nothing.
use Rattle.std.proofs.Common.{◌≡◌, ℕ, zero, suc, ◌+◌, ◌*◌, ◌/◌, ◌^◌, ◌<◌, ◌≤◌, ⊎_elim, inl, inr, List, [], ◌∷◌, ◌++◌, length, map, take, drop, slice_index, get_or, refl, sym, ap, ◌∙◌, subst, arith, lit<, length-append, length-drop, length-take}
use Rattle.std.proofs.lemmas.List.{length-take-le, get_or-take, get_or-drop, get_or_past, take-append-drop}
use Rattle.std.proofs.lemmas.Bool.{cases_lt}
use Rattle.std.proofs.lemmas.Nat.{le_bytes_8, from_le_bytes-to_le_bytes_8}
use Rattle.std.specs.Int.{w64, to_le_bytes, from_le_bytes}
use Rattle.std.specs.Prelude.{codes}
use Rattle.std.specs.Simd.{first_chunks}
use Rattle.pm_words.specs.declared.layout.Layout.{Layout}
use Rattle.pm_words.specs.declared.layout.Field.{Field}
use Rattle.pm_words.specs.declared.layout.Field.TheVariants.{Nodes, Slots, Callers}
use Rattle.pm_words.specs.declared.bytes.ImageFault.TheVariants.{Length, Magic, Format, Layout as LayoutFault, NoMemory}
use Rattle.pm_words.specs.Layouts.{IsLayout}
use Rattle.pm_words.specs.Locations.{image_words}
use Rattle.pm_words.specs.Images.{Row, IsImage, header}
use Rattle.pm_words.specs.Bytes.{bytes_of, words_in, layout_in, image_in, HasHeader, HasLength, IsFirstOut, HasNoFault}
use Rattle.pm_words.proofs.Made.{header_at}

pub length-bytes_of : (words : List ℕ) → length (bytes_of words) ≡ 8 * length words
length-bytes_of [] = refl
length-bytes_of (w ∷ ws) = let rest = length-bytes_of ws in omega (arith, length-append (to_le_bytes w64 w) (bytes_of ws))

-- the words that the first 8n bytes spell
abbrev pub spelled : ℕ → List ℕ → List ℕ
spelled n bytes = map (from_le_bytes w64) (first_chunks 8 n bytes)

length-spelled : (n : ℕ) (bytes : List ℕ) → length (spelled n bytes) ≡ n
length-spelled zero bytes = refl
length-spelled (suc n) bytes = ap suc (length-spelled n (drop 8 bytes))

pub length-words_in : (bytes : List ℕ) → length (words_in bytes) ≡ length bytes / 8
length-words_in bytes = length-spelled (length bytes / 8) bytes

small_front : (bytes : List ℕ) → ((i : ℕ) → get_or bytes i 0 < 256) → (i : ℕ) → get_or (take 8 bytes) i 0 < 256
small_front bytes small i = ⊎_elim
    (λ (lt : i < 8). subst (λ (b : ℕ). b < 256) (sym (get_or-take 8 bytes i 0 lt)) (small i))
    (λ (ge : 8 ≤ i). let none = get_or_past (take 8 bytes) i 0 (let size = length-take 8 bytes in omega arith) in omega arith)
    (cases_lt i 8)

small_rest : (bytes : List ℕ) → ((i : ℕ) → get_or bytes i 0 < 256) → (i : ℕ) → get_or (drop 8 bytes) i 0 < 256
small_rest bytes small i = subst (λ (b : ℕ). b < 256) (sym (get_or-drop 8 bytes i 0)) (small (8 + i))

-- bytes to words and back
spelled_back : (n : ℕ) (bytes : List ℕ) → length bytes ≡ 8 * n → ((i : ℕ) → get_or bytes i 0 < 256) → bytes_of (spelled n bytes) ≡ bytes
spelled_back zero [] size small = refl
spelled_back zero (b ∷ bytes) size small = absurd (omega (arith, size))
spelled_back (suc n) bytes size small =
    let front : to_le_bytes w64 (from_le_bytes w64 (take 8 bytes)) ≡ take 8 bytes =
    le_bytes_8 (take 8 bytes) (from_le_bytes w64 (take 8 bytes)) (length-take-le 8 bytes (omega (arith, size))) (small_front bytes small) refl in
    let rest : bytes_of (spelled n (drop 8 bytes)) ≡ drop 8 bytes =
    spelled_back n (drop 8 bytes) (omega (arith, size, length-drop 8 bytes)) (small_rest bytes small) in
    (λ x. front x ++ rest x) ∙ take-append-drop 8 bytes

pub bytes_back : (bytes : List ℕ) (n : ℕ) → length bytes ≡ 8 * n → ((i : ℕ) → get_or bytes i 0 < 256) → bytes_of (words_in bytes) ≡ bytes
bytes_back bytes n size small =
    let count : length bytes / 8 ≡ n = omega (arith, size) in
    ap (λ (k : ℕ). bytes_of (spelled k bytes)) count ∙ spelled_back n bytes size small

-- words to bytes and back
spelled-bytes_of : (words : List ℕ) → ((k : ℕ) → slice_index words k < 2 ^ 64) → spelled (length words) (bytes_of words) ≡ words
spelled-bytes_of [] fits = refl
spelled-bytes_of (w ∷ ws) fits = λ x. from_le_bytes-to_le_bytes_8 w (fits 0) x ∷ spelled-bytes_of ws (λ k. fits (suc k)) x

pub words_back : (words : List ℕ) → ((k : ℕ) → slice_index words k < 2 ^ 64) → words_in (bytes_of words) ≡ words
words_back words fits =
    let count : length (bytes_of words) / 8 ≡ length words = omega (arith, length-bytes_of words) in
    ap (λ (k : ℕ). spelled k (bytes_of words)) count ∙ spelled-bytes_of words fits

-- each word that bytes spell has 64 bits
word_fits : (bytes : List ℕ) → ((i : ℕ) → get_or bytes i 0 < 256) → from_le_bytes w64 bytes < 2 ^ 64
word_fits bytes small = omega (arith, small 0, small 1, small 2, small 3, small 4, small 5, small 6, small 7)

spelled_fit : (n : ℕ) (bytes : List ℕ) → ((i : ℕ) → get_or bytes i 0 < 256) → (k : ℕ) → slice_index (spelled n bytes) k < 2 ^ 64
spelled_fit zero bytes small k = lit< tt
spelled_fit (suc n) bytes small zero = word_fits (take 8 bytes) (small_front bytes small)
spelled_fit (suc n) bytes small (suc k) = spelled_fit n (drop 8 bytes) (small_rest bytes small) k

-- the first word is that of the first eight bytes
first_word : (n : ℕ) (bytes : List ℕ) → 0 < n → slice_index (spelled n bytes) 0 ≡ from_le_bytes w64 (take 8 bytes)
first_word zero bytes some = absurd (omega (arith, some))
first_word (suc n) bytes some = refl

pub magic_stands : (bytes : List ℕ) → HasHeader bytes → ((i : ℕ) → get_or bytes i 0 < 256) →
    slice_index (words_in bytes) 0 ≡ from_le_bytes w64 (codes "PACCAT01") → take 8 bytes ≡ codes "PACCAT01"
magic_stands bytes header small told =
    let eight : length (take 8 bytes) ≡ 8 = length-take-le 8 bytes (omega (arith, header)) in
    let first = first_word (length bytes / 8) bytes (omega (arith, header)) in
    sym (le_bytes_8 (take 8 bytes) (from_le_bytes w64 (codes "PACCAT01")) eight (small_front bytes small) (sym told ∙ first))

-- bytes that lack nothing spell the words of an image
pub spells_image : (bytes : List ℕ) → HasLength bytes → ((i : ℕ) → get_or bytes i 0 < 256) → IsImage (layout_in bytes) (words_in bytes)
spells_image bytes has small =
    let first = first_word (length bytes / 8) bytes (omega (arith, has.0.0.0.0)) in
    record {
      layout = has.0.1;
      whole = omega (arith, length-words_in bytes, has.1);
      header_stands = λ k lt. header_at (layout_in bytes) (words_in bytes) k ∙ header_spelled bytes (first ∙ ap (from_le_bytes w64) has.0.0.0.1) has.0.0.1 k lt;
      fits = spelled_fit (length bytes / 8) bytes small;
    } where
      header_spelled : (bytes : List ℕ) → slice_index (words_in bytes) 0 ≡ from_le_bytes w64 (codes "PACCAT01") → slice_index (words_in bytes) 1 ≡ 1 →
          (k : ℕ) → k < 5 → slice_index (words_in bytes) k ≡ slice_index (header (layout_in bytes)) k
      header_spelled bytes magic format zero lt = magic
      header_spelled bytes magic format (suc zero) lt = format
      header_spelled bytes magic format (suc (suc zero)) lt = refl
      header_spelled bytes magic format (suc (suc (suc zero))) lt = refl
      header_spelled bytes magic format (suc (suc (suc (suc zero)))) lt = refl
      header_spelled bytes magic format (suc (suc (suc (suc (suc k))))) lt = absurd (omega (arith, lt))

-- the bytes of an image spell it
pub image_back : (l : Layout) (words : List ℕ) → IsImage l words → image_in (bytes_of words) ≡ record { layout = l; words = words }
image_back l words is =
    let back = words_back words is.fits in
    let told : (k : ℕ) → k < 5 → slice_index words k ≡ slice_index (header l) k = λ k lt. sym (header_at l words k) ∙ is.header_stands k lt in
    let nodes : slice_index (words_in (bytes_of words)) 2 ≡ l.nodes = ap (λ (ws : List ℕ). slice_index ws 2) back ∙ told 2 (lit< tt) in
    let slots : slice_index (words_in (bytes_of words)) 3 ≡ l.slots = ap (λ (ws : List ℕ). slice_index ws 3) back ∙ told 3 (lit< tt) in
    let callers : slice_index (words_in (bytes_of words)) 4 ≡ l.callers = ap (λ (ws : List ℕ). slice_index ws 4) back ∙ told 4 (lit< tt) in
    λ x. record { layout = record { nodes = nodes x; slots = slots x; callers = callers x }; words = back x }

-- and lack nothing
pub image_has_length : (l : Layout) (words : List ℕ) → IsImage l words → HasLength (bytes_of words)
image_has_length l words is =
    let same : layout_in (bytes_of words) ≡ l = ap (λ (r : Row). r.layout) (image_back l words is) in
    let back = words_back words is.fits in
    let many = length-bytes_of words in
    let whole = is.whole in
    let size : 64 ≤ length (bytes_of words) = omega arith in
    let magic : slice_index words 0 ≡ from_le_bytes w64 (codes "PACCAT01") = sym (header_at l words 0) ∙ is.header_stands 0 (lit< tt) in
    let format : slice_index words 1 ≡ 1 = sym (header_at l words 1) ∙ is.header_stands 1 (lit< tt) in
    let layout : IsLayout (layout_in (bytes_of words)) = subst IsLayout (sym same) is.layout in
    let length_is : length (bytes_of words) ≡ 8 * image_words (layout_in (bytes_of words)) =
    many ∙ ap (λ (n : ℕ). 8 * n) (whole ∙ ap image_words (sym same)) in
    ((((size, magic_front words magic), ap (λ (ws : List ℕ). slice_index ws 1) back ∙ format), layout), length_is) where
      magic_front : (words : List ℕ) → slice_index words 0 ≡ from_le_bytes w64 (codes "PACCAT01") → take 8 (bytes_of words) ≡ codes "PACCAT01"
      magic_front [] magic = absurd (omega (arith, magic))
      magic_front (w ∷ ws) magic = ap (to_le_bytes w64) magic

-- bytes that lack nothing have no fault
pub no_fault : (bytes : List ℕ) → HasLength bytes → HasNoFault bytes
no_fault bytes has (Length found) (told, inl none) = none has.0.0.0.0
no_fault bytes has (Length found) (told, inr (layout, other)) = other has.1
no_fault bytes has Magic (header, other) = other has.0.0.0.1
no_fault bytes has (Format found) (magic, told, other) = other (told ∙ has.0.0.1)
no_fault bytes has (LayoutFault Nodes) (format, out) = out has.0.1.nodes
no_fault bytes has (LayoutFault Slots) (format, out) = out.1 has.0.1.slots
no_fault bytes has (LayoutFault Callers) (format, out) = out.2 has.0.1.callers
no_fault bytes has NoMemory fault = fault

-- the first number out of range, by cases of the fault that names it
pub first_out : (l : Layout) (field : Field) → (field ≡ Nodes → IsFirstOut l Nodes) → (field ≡ Slots → IsFirstOut l Slots) →
    (field ≡ Callers → IsFirstOut l Callers) → IsFirstOut l field
first_out l Nodes nodes slots callers = nodes refl
first_out l Slots nodes slots callers = slots refl
first_out l Callers nodes slots callers = callers refl
