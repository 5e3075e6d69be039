-- The order of words is the order of names.
use Rattle.std.proofs.Common.{◌≡◌, ℕ, zero, suc, ◌+◌, ◌*◌, ◌≤◌, List, [], ◌∷◌, ◌++◌, length, drop, All, Ordering, Less, Equal, Greater, nat_cmp, is_eq, bytes_eq, refl, sym, ap, ap₂, ◌∙◌, arith}
use Rattle.std.specs.Ordering.{ordering_then}
use Rattle.std.specs.Cmp.Lexicographic.{slice_cmp, texts_ties}
use Rattle.std.proofs.lemmas.Cmp.{nat_list_cmp_total, tied_itself}
use Rattle.std.proofs.lemmas.List.Elements.{All-head, All-tail, All-drop, All-weaker}
use Rattle.cat_key.specs.Names.{IsName, IsNameByte, IsPacked, padded, word_of, first_words, words_of, bytes_of}
use Rattle.cat_key.specs.Names.{name_cmp}
use Rattle.cat_key.specs.declared.TheConstants.{WORDS}
use Rattle.cat_key.proofs.Digits.{IsByte, number_cmp, nat_cmp-less, nat_cmp-more, length-padded, word_is_number}
use Rattle.cat_key.proofs.Packing.{padded-add, byte_of_name}

-- two words compare as their bytes do
word_cmp : (a b : List ℕ) → All IsByte a → All IsByte b → nat_cmp (word_of a) (word_of b) ≡ slice_cmp nat_cmp (padded 8 a) (padded 8 b)
word_cmp a b ha hb = rw (word_is_number a, word_is_number b) (number_cmp 8 a b ha hb)

ordering_then_assoc : (p q r : Ordering) → ordering_then p (ordering_then q r) ≡ ordering_then (ordering_then p q) r
ordering_then_assoc Less q r = refl
ordering_then_assoc Equal q r = refl
ordering_then_assoc Greater q r = refl

-- lists in two parts, whose first parts are of one length, compare by the first parts first
slice_cmp-append : (a b more more' : List ℕ) → length a ≡ length b → slice_cmp nat_cmp (a ++ more) (b ++ more') ≡ ordering_then (slice_cmp nat_cmp a b) (slice_cmp nat_cmp more more')
slice_cmp-append [] [] more more' h = refl
slice_cmp-append [] (y ∷ b) more more' h = absurd (omega arith)
slice_cmp-append (x ∷ a) [] more more' h = absurd (omega arith)
slice_cmp-append (x ∷ a) (y ∷ b) more more' h =
    ap (λ o. ordering_then (nat_cmp x y) o) (slice_cmp-append a b more more' (omega arith))
    ∙ ordering_then_assoc (nat_cmp x y) (slice_cmp nat_cmp a b) (slice_cmp nat_cmp more more')

-- rows of words compare as the padded texts do
first_words_cmp : (count : ℕ) (a b : List ℕ) → All IsByte a → All IsByte b → slice_cmp nat_cmp (first_words count a) (first_words count b) ≡ slice_cmp nat_cmp (padded (8 * count) a) (padded (8 * count) b)
first_words_cmp zero a b ha hb = refl
first_words_cmp (suc count) a b ha hb =
    let size : 8 * suc count ≡ 8 + 8 * count = omega arith in
    let even : length (padded 8 a) ≡ length (padded 8 b) = length-padded 8 a ∙ sym (length-padded 8 b) in
    ap (λ o. ordering_then o (slice_cmp nat_cmp (first_words count (drop 8 a)) (first_words count (drop 8 b)))) (word_cmp a b ha hb)
    ∙ ap (λ o. ordering_then (slice_cmp nat_cmp (padded 8 a) (padded 8 b)) o) (first_words_cmp count (drop 8 a) (drop 8 b) (All-drop IsByte 8 a ha) (All-drop IsByte 8 b hb))
    ∙ sym (slice_cmp-append (padded 8 a) (padded 8 b) (padded (8 * count) (drop 8 a)) (padded (8 * count) (drop 8 b)) even)
    ∙ rw (size, padded-add 8 (8 * count) a, padded-add 8 (8 * count) b) refl

-- padding keeps the order of names, since no byte of a name is zero
padded_cmp : (count : ℕ) (a b : List ℕ) → length a ≤ count → length b ≤ count → All IsNameByte a → All IsNameByte b → slice_cmp nat_cmp (padded count a) (padded count b) ≡ name_cmp a b
padded_cmp zero [] [] ha hb na nb = refl
padded_cmp zero [] (y ∷ b) ha hb na nb = absurd (omega arith)
padded_cmp zero (x ∷ a) b ha hb na nb = absurd (omega arith)
padded_cmp (suc count) [] [] ha hb na nb = tied_itself nat_list_cmp_total (padded (suc count) [])
padded_cmp (suc count) [] (y ∷ b) ha hb na nb =
    let here : IsNameByte y = All-head IsNameByte y b nb in
    rw (nat_cmp-less 0 y (omega arith)) refl
padded_cmp (suc count) (x ∷ a) [] ha hb na nb =
    let here : IsNameByte x = All-head IsNameByte x a na in
    rw (nat_cmp-more x 0 (omega arith)) refl
padded_cmp (suc count) (x ∷ a) (y ∷ b) ha hb na nb =
    ap (λ o. ordering_then (nat_cmp x y) o) (padded_cmp count a b (omega arith) (omega arith) (All-tail IsNameByte x a na) (All-tail IsNameByte y b nb))

-- texts of bytes of names compare as their words do; that of no byte, whose words are zero, is below every name
pub words_keep_text_order : (a b : List ℕ) → length a ≤ 8 * WORDS → length b ≤ 8 * WORDS → All IsNameByte a → All IsNameByte b → slice_cmp nat_cmp (words_of a) (words_of b) ≡ name_cmp a b
unfolding words_of
words_keep_text_order a b fits fits' bytes bytes' =
    first_words_cmp WORDS a b (All-weaker IsNameByte IsByte byte_of_name a bytes) (All-weaker IsNameByte IsByte byte_of_name b bytes')
    ∙ padded_cmp (8 * WORDS) a b fits fits' bytes bytes'

-- two names compare as their words do
pub words_keep_order : (a b : List ℕ) → IsName a → IsName b → slice_cmp nat_cmp (words_of a) (words_of b) ≡ name_cmp a b
words_keep_order a b ha hb = words_keep_text_order a b ha.fits hb.fits ha.bytes hb.bytes

-- words that stand for names compare as those names do
pub packed_cmp : (words words' : List ℕ) → IsPacked words → IsPacked words' → slice_cmp nat_cmp words words' ≡ name_cmp (bytes_of words) (bytes_of words')
packed_cmp words words' h h' =
    ap₂ (slice_cmp nat_cmp) (sym h.whole) (sym h'.whole) ∙ words_keep_order (bytes_of words) (bytes_of words') h.named h'.named

pub packed_eq : (words words' : List ℕ) → IsPacked words → IsPacked words' → bytes_eq words words' ≡ bytes_eq (bytes_of words) (bytes_of words')
packed_eq words words' h h' =
    texts_ties words words'
    ∙ ap is_eq (packed_cmp words words' h h')
    ∙ sym (texts_ties (bytes_of words) (bytes_of words'))
