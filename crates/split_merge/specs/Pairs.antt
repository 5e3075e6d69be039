-- Which name of the right node goes into which slot of the left one.
use Rattle.std.specs.Prelude.{ℕ, zero, suc, ◌/◌, ◌==◌, ◌&&◌, nat_lt, if◌then◌else◌, Bool, List, map}
use Rattle.std.specs.Int.{w64, bit_at, trailing_zeros}
use Rattle.std.specs.List.{range_with_len}
use Rattle.data_node.specs.Bits.{with_live, without_live}
use Rattle.split_merge.specs.declared.pairing.Pairs.{Pairs}

-- This slot of the left node, whose bitmap is `own`, gets the first of the right node's slots that are left, as bits:
-- it is clear, and there is one.
abbrev pub gets : ℕ → ℕ → ℕ → ℕ → Bool
gets own slots rest slot = bit_at own slot == 0 && nat_lt (trailing_zeros w64 rest) slots

-- The right node's slots that are left for the left one's slots from this one on.
abbrev pub rest_at : ℕ → ℕ → ℕ → ℕ → ℕ
rest_at own right slots zero = right
rest_at own right slots (suc slot) =
    if gets own slots (rest_at own right slots slot) slot
    then without_live (rest_at own right slots slot) (trailing_zeros w64 (rest_at own right slots slot))
    else rest_at own right slots slot

-- It gets one, if all slots before it have got theirs.
abbrev pub gets_at : ℕ → ℕ → ℕ → ℕ → Bool
gets_at own right slots slot = gets own slots (rest_at own right slots slot) slot

-- The slot of the right node whose name this one gets; 64 is none.
abbrev pub source_at : ℕ → ℕ → ℕ → ℕ → ℕ
source_at own right slots slot =
    if gets_at own right slots slot then trailing_zeros w64 (rest_at own right slots slot) else 64

-- So it is of the slots of the left node's first half; the other ones get none.
abbrev pub half_source : ℕ → ℕ → ℕ → ℕ → ℕ
half_source own right slots slot = if nat_lt slot (slots / 2) then source_at own right slots slot else 64

unfoldable pub sources_of : ℕ → ℕ → ℕ → List ℕ
sources_of own right slots = map (half_source own right slots) (range_with_len 0 32)

-- The first so many slots that get one, as bits, and the left node's bitmap with them.
abbrev pub targets_at : ℕ → ℕ → ℕ → ℕ → ℕ
targets_at own right slots zero = 0
targets_at own right slots (suc slot) =
    if gets_at own right slots slot then with_live (targets_at own right slots slot) slot
    else targets_at own right slots slot

abbrev pub grown_at : ℕ → ℕ → ℕ → ℕ → ℕ
grown_at own right slots zero = own
grown_at own right slots (suc slot) =
    if gets_at own right slots slot then with_live (grown_at own right slots slot) slot
    else grown_at own right slots slot

abbrev pub pairs_of : ℕ → ℕ → ℕ → Pairs
pairs_of own right slots = record {
  from = sources_of own right slots;
  targets = targets_at own right slots (slots / 2);
  grown = grown_at own right slots (slots / 2);
}
