-- Words are those of a name or not.
use Rattle.std.proofs.Common.{ℕ, ◌*◌, ◌⊎◌, List, [], ◌∷◌, length, inl, inr, arith}
use Rattle.std.specs.List.{AllByRecursion}
use Rattle.std.proofs.lemmas.Bool.{cases_lt}
use Rattle.std.proofs.lemmas.List.Elements.{All-from_recursion, recursion_from_All}
use Rattle.cat_key.specs.declared.TheConstants.{WORDS}
use Rattle.cat_key.specs.Names.{IsNameByte, IsName, AreNameWords, words_of, bytes_of}
use Rattle.cat_key.proofs.Packing.{packed_from_words}
use Rattle.data_node.proofs.SpotLemmas.{same_words}

byte_or_not : (byte : ℕ) → IsNameByte byte ⊎ ¬ IsNameByte byte
byte_or_not byte =
    elim (cases_lt byte 0x21) [
      | inl low ↦ inr (λ is. omega (arith, is.0))
      | inr least ↦ elim (cases_lt 0x7E byte) [ inl high ↦ inr (λ is. omega (arith, is.1)) | inr most ↦ inl (least, most) ]
    ]

bytes_or_not : (text : List ℕ) → AllByRecursion IsNameByte text ⊎ ¬ AllByRecursion IsNameByte text
bytes_or_not [] = inl tt
bytes_or_not (byte ∷ text) =
    elim (byte_or_not byte) [
      | inr other ↦ inr (λ all. other all.0)
      | inl first ↦ elim (bytes_or_not text) [ inl rest ↦ inl (first, rest) | inr other ↦ inr (λ all. other all.1) ]
    ]

name_or_not : (text : List ℕ) → IsName text ⊎ ¬ IsName text
name_or_not text =
    elim (cases_lt (length text) 1) [
      | inl empty ↦ inr (λ is. omega (arith, is.some))
      | inr some ↦
          elim (cases_lt (8 * WORDS) (length text)) [
            | inl long ↦ inr (λ is. omega (arith, is.fits))
            | inr fits ↦
                elim (bytes_or_not text) [
                  | inl all ↦ inl (record { some = some; fits = fits; bytes = All-from_recursion IsNameByte text all })
                  | inr other ↦ inr (λ is. other (recursion_from_All IsNameByte text is.bytes))
                ]
          ]
    ]

pub name_words_or_not : (words : List ℕ) → AreNameWords words ⊎ ¬ AreNameWords words
name_words_or_not words =
    elim (name_or_not (bytes_of words)) [
      | inr other ↦ inr (λ are. other (packed_from_words words are).named)
      | inl named ↦
          elim (same_words (words_of (bytes_of words)) words) [
            | inl whole ↦ inl (bytes_of words, named, whole)
            | inr other ↦ inr (λ are. other (packed_from_words words are).whole)
          ]
    ]
