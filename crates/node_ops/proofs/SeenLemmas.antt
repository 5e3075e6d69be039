-- Words of a node that a call knows, and what is left of them by a store.
use Rattle.std.proofs.Common.{◌≡◌, ℕ, zero, suc, ◌+◌, ◌<◌, ◌≤◌, List, [], ◌∷◌, ◌++◌, length, take, get_or, set, inl, inr, sym, subst, ◌∙◌, arith}
use Rattle.std.specs.List.{AllByRecursion}
use Rattle.std.proofs.lemmas.Bool.{cases_eq}
use Rattle.std.proofs.lemmas.List.{get_or-set_same, get_or-set_other}
use Rattle.pm_words.specs.Offsets.{slot_offset}
use Rattle.data_node.specs.Spots.{Spot, updated, name_words}
use Rattle.data_node.proofs.SpotLemmas.{updated-other}
use Rattle.node_ops.specs.CallStages.{words_from}

-- the node's words are these
abbrev pub Seen : Spot → List (ℕ × ℕ) → Type 0
Seen s seen = AllByRecursion (λ (word : ℕ × ℕ). s word.0 ≡ word.1) seen

-- the first so many of these words stand from this offset on
abbrev pub Stand : Spot → ℕ → List ℕ → ℕ → Type 0
Stand s offset words count = (k : ℕ) → k < count → s (offset + k) ≡ get_or words k 0

pub seen_append : (s : Spot) (first second : List (ℕ × ℕ)) → Seen s first → Seen s second → Seen s (first ++ second)
seen_append s [] second here there = there
seen_append s (word ∷ first) second here there = (here.0, seen_append s first second here.1 there)

pub seen_front : (s : Spot) (first second : List (ℕ × ℕ)) → Seen s (first ++ second) → Seen s first
seen_front s [] second seen = tt
seen_front s (word ∷ first) second seen = (seen.0, seen_front s first second seen.1)

pub seen_back : (s : Spot) (first second : List (ℕ × ℕ)) → Seen s (first ++ second) → Seen s second
seen_back s [] second seen = seen
seen_back s (word ∷ first) second seen = seen_back s first second seen.1

pub stand_taken : (s : Spot) (offset : ℕ) (words : List ℕ) (count : ℕ) → count ≤ length words → Seen s (words_from offset (take count words)) → Stand s offset words count
stand_taken s offset words zero within seen k below = absurd (omega arith)
stand_taken s offset [] (suc count) within seen k below = absurd (omega arith)
stand_taken s offset (word ∷ words) (suc count) within seen zero below = subst (λ o. s o ≡ word) (let e : offset ≡ offset + zero = omega arith in e) seen.0
stand_taken s offset (word ∷ words) (suc count) within seen (suc k) below =
    subst (λ o. s o ≡ get_or words k 0) (let e : offset + 1 + k ≡ offset + suc k = omega arith in e) (stand_taken s (offset + 1) words count (omega arith) seen.1 k (omega arith))

pub taken_stand : (s : Spot) (offset : ℕ) (words : List ℕ) (count : ℕ) → count ≤ length words → Stand s offset words count → Seen s (words_from offset (take count words))
taken_stand s offset words zero within stand = tt
taken_stand s offset [] (suc count) within stand = tt
taken_stand s offset (word ∷ words) (suc count) within stand = (
  subst (λ o. s o ≡ word) (let e : offset + zero ≡ offset = omega arith in e) (stand zero (omega arith)),
  taken_stand s (offset + 1) words count (omega arith) (λ k below. subst (λ o. s o ≡ get_or words k 0) (let e : offset + suc k ≡ offset + 1 + k = omega arith in e) (stand (suc k) (omega arith))),
)

pub stand_whole : (s : Spot) (offset : ℕ) (words : List ℕ) → Seen s (words_from offset words) → Stand s offset words (length words)
stand_whole s offset [] seen k below = absurd (omega arith)
stand_whole s offset (word ∷ words) seen zero below = subst (λ o. s o ≡ word) (let e : offset ≡ offset + zero = omega arith in e) seen.0
stand_whole s offset (word ∷ words) seen (suc k) below =
    subst (λ o. s o ≡ get_or words k 0) (let e : offset + 1 + k ≡ offset + suc k = omega arith in e) (stand_whole s (offset + 1) words seen.1 k (omega arith))

pub whole_stand : (s : Spot) (offset : ℕ) (words : List ℕ) → Stand s offset words (length words) → Seen s (words_from offset words)
whole_stand s offset [] stand = tt
whole_stand s offset (word ∷ words) stand = (
  subst (λ o. s o ≡ word) (let e : offset + zero ≡ offset = omega arith in e) (stand zero (omega arith)),
  whole_stand s (offset + 1) words (λ k below. subst (λ o. s o ≡ get_or words k 0) (let e : offset + suc k ≡ offset + 1 + k = omega arith in e) (stand (suc k) (omega arith))),
)

-- one more word is loaded
pub stand_more : (s : Spot) (offset : ℕ) (words : List ℕ) (count : ℕ) → Stand s offset words count → s (offset + count) ≡ get_or words count 0 → Stand s offset words (count + 1)
stand_more s offset words count stand here k below =
    elim (cases_eq k count) [
      | inl same ↦ subst (λ j. s (offset + j) ≡ get_or words j 0) (sym same) here
      | inr other ↦ stand k (omega arith)
    ]

-- and kept in its place
pub stand_set : (s : Spot) (offset : ℕ) (words : List ℕ) (count word : ℕ) → count < length words → Stand s offset words count → s (offset + count) ≡ word
    → Stand s offset (set words count word) (count + 1)
stand_set s offset words count word within stand here k below =
    elim (cases_eq k count) [
      | inl same ↦ subst (λ j. s (offset + j) ≡ get_or (set words count word) j 0) (sym same) (here ∙ sym (get_or-set_same words count word 0 within))
      | inr other ↦ stand k (omega arith) ∙ sym (get_or-set_other words count k word 0 other)
    ]

-- a store elsewhere leaves them
pub stand_updated : (s : Spot) (offset : ℕ) (words : List ℕ) (count at word : ℕ) → ((k : ℕ) → k < count → offset + k ≡ at → ⊥) → Stand s offset words count
    → Stand (updated s at word) offset words count
stand_updated s offset words count at word apart stand k below = updated-other s at word (offset + k) (apart k below) ∙ stand k below

-- a slot in which a name's three words stand has that name
pub name_stands : (s : Spot) (slot : ℕ) (words : List ℕ) → length words ≡ 3 → Stand s (slot_offset slot 0) words 3 → name_words s slot ≡ words
name_stands s slot (a ∷ (b ∷ (c ∷ []))) three stand =
    let first : s (slot_offset slot 0) ≡ a = subst (λ o. s o ≡ a) (let e : slot_offset slot 0 + 0 ≡ slot_offset slot 0 = omega arith in e) (stand 0 (omega arith)) in
    let second : s (slot_offset slot 1) ≡ b = subst (λ o. s o ≡ b) (let e : slot_offset slot 0 + 1 ≡ slot_offset slot 1 = omega arith in e) (stand 1 (omega arith)) in
    let third : s (slot_offset slot 2) ≡ c = subst (λ o. s o ≡ c) (let e : slot_offset slot 0 + 2 ≡ slot_offset slot 2 = omega arith in e) (stand 2 (omega arith)) in
    cc
name_stands s slot _ three stand = absurd (omega arith)
