-- Keys, and the numbers of their words.
use Rattle.std.proofs.Common.{◌≡◌, ℕ, ◌+◌, ◌^◌, ◌<◌, List, [], ◌∷◌, All, slice_index, refl, sym, ap, ◌∙◌, arith}
use Rattle.std.proofs.lemmas.List.Elements.{All-weaker}
use Rattle.cat_key.specs.Names.{IsName, IsNameByte, AreNameWords, words_of}
use Rattle.cat_key.proofs.Digits.{IsByte}
use Rattle.cat_key.proofs.Packing.{get_or-words_of_below, byte_of_name}
use Rattle.pm_words.specs.Offsets.{anchor_offset}
use Rattle.data_node.specs.Spots.{Spot}
use Rattle.data_node.specs.Lists.{three_words, number_of, key_of, anchor_in, anchor_words}

-- the words of a text are three, each of 64 bits
pub three : (text : List ℕ) → words_of text ≡ slice_index (words_of text) 0 ∷ slice_index (words_of text) 1 ∷ slice_index (words_of text) 2 ∷ []
unfolding words_of
three text = refl

pub word_fits : (text : List ℕ) → All IsNameByte text → (k : ℕ) → slice_index (words_of text) k < 2 ^ 64
word_fits text bytes k = get_or-words_of_below text (All-weaker IsNameByte IsByte byte_of_name text bytes) k

pub key-number : (name : List ℕ) → key_of name ≡ number_of (words_of name)
unfolding key_of
key-number name = refl

pub anchor-number : (s : Spot) → anchor_in s ≡ number_of (anchor_words s)
unfolding anchor_in
anchor-number s = refl

-- an anchor whose words are those of a name has that name's number,
pub anchor_named : (s : Spot) → AreNameWords (anchor_words s) → (name : List ℕ) × IsName name × (anchor_in s ≡ key_of name)
anchor_named s are = (are.0, are.1, anchor-number s ∙ ap number_of (sym are.2) ∙ sym (key-number are.0))

-- and one whose number is a name's has its words
same_words : (a b c x y z : ℕ) → b < 2 ^ 64 → c < 2 ^ 64 → y < 2 ^ 64 → z < 2 ^ 64 → three_words a b c ≡ three_words x y z → a ∷ b ∷ c ∷ [] ≡ x ∷ y ∷ z ∷ []
same_words a b c x y z fb fc fy fz same =
    let first : a ≡ x = omega arith in
    let second : b ≡ y = omega arith in
    let third : c ≡ z = omega arith in
    λ i. first i ∷ second i ∷ third i ∷ []

pub named_anchor : (s : Spot) (name : List ℕ) → ((offset : ℕ) → s offset < 2 ^ 64) → IsName name → anchor_in s ≡ key_of name → AreNameWords (anchor_words s)
named_anchor s name fits is same = (
  name,
  is,
  three name ∙ same_words (slice_index (words_of name) 0) (slice_index (words_of name) 1) (slice_index (words_of name) 2) (s anchor_offset) (s (anchor_offset + 1)) (s (anchor_offset + 2))
      (word_fits name is.bytes 1) (word_fits name is.bytes 2) (fits (anchor_offset + 1)) (fits (anchor_offset + 2)) (sym (key-number name) ∙ sym same ∙ anchor-number s),
)

-- an anchor is zero exactly where its words are
pub anchor_zero : (s : Spot) → anchor_words s ≡ 0 ∷ 0 ∷ 0 ∷ [] → anchor_in s ≡ 0
anchor_zero s zeros = anchor-number s ∙ ap number_of zeros

pub zero_anchor : (s : Spot) → anchor_in s ≡ 0 → anchor_words s ≡ 0 ∷ 0 ∷ 0 ∷ []
zero_anchor s none =
    let number : three_words (s anchor_offset) (s (anchor_offset + 1)) (s (anchor_offset + 2)) ≡ 0 = sym (anchor-number s) ∙ none in
    let first : s anchor_offset ≡ 0 = omega arith in
    let second : s (anchor_offset + 1) ≡ 0 = omega arith in
    let third : s (anchor_offset + 2) ≡ 0 = omega arith in
    λ i. first i ∷ second i ∷ third i ∷ []
