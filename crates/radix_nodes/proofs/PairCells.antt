-- A cell of form 4 with two children, by its words.
use Rattle.std.proofs.Common.{◌≡◌, ℕ, zero, suc, ◌+◌, ◌<◌, ◌≤◌, List, slice_index, slice_set, refl, subst, ap, ap₂, arith}
use Rattle.pm_words.specs.Offsets.{prefix_offset}
use Rattle.radix_nodes.specs.declared.cell.Branch.{Branch}
use Rattle.radix_nodes.specs.declared.cell.Cell.{Cell}
use Rattle.radix_nodes.specs.Keys.{KeyWords}
use Rattle.radix_nodes.specs.Cells.{entry_of}
use Rattle.radix_nodes.specs.Making.{headed_words, pair_of, PairIsPair, PairsAlike}
use Rattle.radix_nodes.proofs.Heads.{HeadedSo, headed_start, headed_step}
use Rattle.radix_nodes.proofs.Pairing.{pair_is, pair_path}

headed_so : (depth : ℕ) (prefix : KeyWords) (at : ℕ) → at ≤ 3 → HeadedSo depth prefix (headed_words depth prefix at) at
headed_so depth prefix zero le = headed_start depth prefix (headed_words depth prefix 0) refl
headed_so depth prefix (suc at) le =
    subst (HeadedSo depth prefix (headed_words depth prefix (suc at))) (let next : at + 1 ≡ suc at = omega arith in next) (headed_step depth prefix (headed_words depth prefix at) at (omega arith) (headed_so depth prefix at (omega arith)))

abbrev form_4 : List ℕ → Cell
form_4 words = record { kind = 2; words = words }

-- the words that are stored are those of the pair
pub pair_words : (depth : ℕ) (prefix : KeyWords) (one two : Branch) (words : List ℕ) (first second : ℕ) → words ≡ headed_words depth prefix 3 → first ≡ entry_of one.byte one.reference → second ≡ entry_of two.byte two.reference
    → form_4 (slice_set (slice_set words 4 first) 5 second) ≡ pair_of depth prefix one two
unfolding pair_of
pair_words depth prefix one two words first second headed is is' = λ i. form_4 (slice_set (slice_set (headed i) 4 (is i)) 5 (is' i))

pub pair_is_pair : PairIsPair
unfolding pair_of
pair_is_pair depth prefix one two lt small small' apart sound sound' =
    let words = headed_words depth prefix 3 in
    let so = headed_so depth prefix 3 (omega arith) in
    pair_is depth prefix one two (slice_index words) (record { depth_is = so.1; prefix_is = so.2; behind = λ o le. so.3 o (omega arith) }) apart small small' sound sound'
    (slice_set (slice_set words 4 (entry_of one.byte one.reference)) 5 (entry_of two.byte two.reference)) lt
    (pair_path words (entry_of one.byte one.reference) (entry_of two.byte two.reference) so.0)

headed_alike : (depth : ℕ) (prefix other : KeyWords) (at : ℕ) → at ≤ 3 → ((k : ℕ) → k < 3 → prefix k ≡ other k) → headed_words depth prefix at ≡ headed_words depth other at
headed_alike depth prefix other zero le same = refl
headed_alike depth prefix other (suc at) le same = ap₂ (λ w v. slice_set w (prefix_offset + at) v) (headed_alike depth prefix other at (omega arith) same) (same at (omega arith))

pub pairs_alike : PairsAlike
unfolding pair_of
pairs_alike depth prefix other one two same =
    ap (λ (w : List ℕ). form_4 (slice_set (slice_set w 4 (entry_of one.byte one.reference)) 5 (entry_of two.byte two.reference))) (headed_alike depth prefix other 3 (omega arith) same)
