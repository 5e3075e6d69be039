-- Texts by the numbers of their words: order, and back.
use Rattle.std.proofs.Common.{◌≡◌, ℕ, ◌*◌, ◌/◌, ◌%◌, ◌^◌, ◌<◌, ◌≤◌, ⊎_elim, true, false, cond, ◌==◌, nat_lt, Ordering, Less, Equal, Greater, nat_cmp, is_lt, List, [], ◌∷◌, length, All, slice_index, sym, ap, ap₂, ◌∙◌, arith}
use Rattle.std.proofs.lemmas.Bool.{lt-ltb, le-ltb, ltb-true, ltb-false, eqb-true, eqb-false}
use Rattle.std.specs.Ordering.{ordering_then}
use Rattle.std.specs.Cmp.Lexicographic.{slice_cmp}
use Rattle.cat_key.specs.Names.{IsName, IsNameByte, words_of, bytes_of}
use Rattle.cat_key.specs.declared.TheConstants.{WORDS}
use Rattle.cat_key.proofs.Packing.{bytes_of-words_of}
use Rattle.cat_key.proofs.WordOrder.{words_keep_text_order}
use Rattle.data_node.specs.Lists.{three_words, key_of}
use Rattle.data_node.proofs.KeyLemmas.{three, word_fits}
use Rattle.shapes.specs.Anchors.{below}
use Rattle.shapes.proofs.Orders.{true_or_false}
use Rattle.index_law.specs.Anchors.{text_of_key}

-- A text of bytes of names, as a name or the empty one.
pub record IsText (text : List ℕ) : Type 0 where
  pub fits : length text ≤ 8 * WORDS
  pub bytes : All IsNameByte text

pub named-text : (name : List ℕ) → IsName name → IsText name
named-text name is = record { fits = is.fits; bytes = is.bytes }

pub empty-text : IsText []
empty-text = record { fits = omega arith; bytes = λ k d within. absurd (omega (arith, within)) }

by-word : (x y : ℕ) (later : Ordering) (p q : ℕ) → (x < y → p < q) → (y < x → q ≤ p) → (x ≡ y → is_lt later ≡ nat_lt p q) → is_lt (ordering_then (nat_cmp x y) later) ≡ nat_lt p q
by-word x y later p q less more same =
    ⊎_elim
    (λ (is : nat_lt x y ≡ true).
    ap (λ b. is_lt (ordering_then (cond b Less (cond (x == y) Equal Greater)) later)) is ∙ sym (lt-ltb p q (less (ltb-true x y is))))
    (λ (isnt : nat_lt x y ≡ false).
    ap (λ b. is_lt (ordering_then (cond b Less (cond (x == y) Equal Greater)) later)) isnt
    ∙ ⊎_elim
    (λ (even : (x == y) ≡ true). ap (λ b. is_lt (ordering_then (cond b Equal Greater) later)) even ∙ same (eqb-true x y even))
    (λ (odd : (x == y) ≡ false).
    ap (λ b. is_lt (ordering_then (cond b Equal Greater) later)) odd
    ∙ sym (le-ltb p q (more (let least = ltb-false x y isnt in let apart = eqb-false x y odd in omega arith))))
    (true_or_false (x == y)))
    (true_or_false (nat_lt x y))

words-order : (a b c x y z : ℕ) → b < 2 ^ 64 → c < 2 ^ 64 → y < 2 ^ 64 → z < 2 ^ 64 →
    is_lt (slice_cmp nat_cmp (a ∷ b ∷ c ∷ []) (x ∷ y ∷ z ∷ [])) ≡ nat_lt (three_words a b c) (three_words x y z)
words-order a b c x y z fb fc fy fz =
    by-word a x (ordering_then (nat_cmp b y) (ordering_then (nat_cmp c z) Equal)) (three_words a b c) (three_words x y z)
    (λ less. omega (arith, less, fb, fc, fy, fz))
    (λ more. omega (arith, more, fb, fc, fy, fz))
    (λ same. by-word b y (ordering_then (nat_cmp c z) Equal) (three_words a b c) (three_words x y z)
    (λ less. omega (arith, same, less, fc, fz))
    (λ more. omega (arith, same, more, fc, fz))
    (λ same'. by-word c z Equal (three_words a b c) (three_words x y z)
    (λ less. omega (arith, same, same', less))
    (λ more. omega (arith, same, same', more))
    (λ same''. sym (le-ltb (three_words a b c) (three_words x y z) (omega (arith, same, same', same''))))))

-- texts are in the order of their numbers
pub key-order : (a b : List ℕ) → IsText a → IsText b → below a b ≡ nat_lt (key_of a) (key_of b)
unfolding key_of
key-order a b ta tb =
    ap is_lt (sym (words_keep_text_order a b ta.fits tb.fits ta.bytes tb.bytes) ∙ ap₂ (slice_cmp nat_cmp) (three a) (three b))
    ∙ words-order (slice_index (words_of a) 0) (slice_index (words_of a) 1) (slice_index (words_of a) 2) (slice_index (words_of b) 0) (slice_index (words_of b) 1) (slice_index (words_of b) 2)
    (word_fits a ta.bytes 1) (word_fits a ta.bytes 2) (word_fits b tb.bytes 1) (word_fits b tb.bytes 2)

-- a name by its number
pub key-back : (name : List ℕ) → IsName name → text_of_key (key_of name) ≡ name
unfolding key_of
key-back name is =
    let a : ℕ = slice_index (words_of name) 0 in
    let b : ℕ = slice_index (words_of name) 1 in
    let c : ℕ = slice_index (words_of name) 2 in
    let fb : b < 2 ^ 64 = word_fits name is.bytes 1 in
    let fc : c < 2 ^ 64 = word_fits name is.bytes 2 in
    let first : three_words a b c / 2 ^ 64 / 2 ^ 64 ≡ a = omega (arith, fb, fc) in
    let second : three_words a b c / 2 ^ 64 % 2 ^ 64 ≡ b = omega (arith, fb, fc) in
    let third : three_words a b c % 2 ^ 64 ≡ c = omega (arith, fb, fc) in
    (λ i. bytes_of (first i ∷ second i ∷ third i ∷ [])) ∙ ap bytes_of (sym (three name)) ∙ bytes_of-words_of name is
