-- The lowest of the slots that are still to get their names.
use Rattle.std.proofs.Common.{◌≡◌, ℕ, ◌<◌, ◌≤◌, subst, ap, ◌∙◌, slice_index, true, arith}
use Rattle.std.proofs.lemmas.Nat.Bits.{bit_at-trailing_zeros}
use Rattle.std.specs.Int.{w64}
use Rattle.pm_words.specs.Offsets.{bitmap_offset}
use Rattle.data_node.specs.Slots.{IsLive, IsClear}
use Rattle.split_merge.specs.declared.uniting.Union.{Union}
use Rattle.split_merge.specs.declared.pairing.Pairs.{Pairs}
use Rattle.split_merge.specs.Pairs.{gets_at}
use Rattle.split_merge.specs.Unions.{IsUnion, from_in, half_of, head_word}
use Rattle.split_merge.specs.Joins.{IsLeft, lowest}
use Rattle.split_merge.proofs.PairLemmas.{target_is, low}

-- a slot that gets a name: one of the first half, and whose it is
pub record IsTarget (union : Union) (slot : ℕ) : Type 0 where
  pub within : slot < half_of union
  pub does : gets_at union.own (head_word union bitmap_offset) union.layout.slots slot ≡ true
  pub from : from_in union slot ≡ low union.own (head_word union bitmap_offset) union.layout.slots slot
  pub source : from_in union slot < union.layout.slots

pub target : (union : Union) → IsUnion union → (slot : ℕ) → IsLive union.pairs.targets slot → IsTarget union slot
target union sound slot live =
    let few : union.layout.slots ≤ 64 = sound.layout.slots.1 in
    let made = sound.pairs in
    let is = target_is union.own (head_word union bitmap_offset) union.layout.slots few slot (subst (λ (p : Pairs). IsLive p.targets slot) made live) in
    let from : from_in union slot ≡ low union.own (head_word union bitmap_offset) union.layout.slots slot = ap (λ (p : Pairs). slice_index p.from slot) made ∙ is.2 in
    record { within = is.0; does = is.1; from = from; source = (let small = is.3 in omega arith) }

pub record IsFirst (union : Union) (left : ℕ) : Type 0 where
  pub within : lowest left < 64
  pub live : IsLive left (lowest left)
  pub below : (slot : ℕ) → slot < lowest left → IsClear left slot
  pub target : IsTarget union (lowest left)

pub first_left : (union : Union) (left : ℕ) → IsUnion union → IsLeft union left → IsFirst union left
first_left union left sound is =
    let some = is.some in
    let found = bit_at-trailing_zeros w64 left (omega arith) is.fits in
    record { within = found.0; live = found.1; below = found.2; target = target union sound (lowest left) (is.each (lowest left) found.0 found.1) }
