-- A row stays a row of its layout, whatever is done to it.
use Rattle.std.proofs.Common.{◌≡◌, ◌≢◌, ℕ, ◌+◌, ◌^◌, ◌<◌, ◌≤◌, ⊎_elim, eqb, List, length, slice_index, slice_set, sym, ap, ◌∙◌, subst, arith, length-set}
use Rattle.std.proofs.lemmas.Bool.{cases_eq, cond_both}
use Rattle.std.proofs.lemmas.List.{get_or-set_same, get_or-set_other}
use Rattle.pm_words.specs.declared.layout.Layout.{Layout}
use Rattle.pm_words.specs.declared.action.Action.{Action}
use Rattle.pm_words.specs.declared.action.Action.TheVariants.{Load, Store, Exchange, Add, Drain}
use Rattle.pm_words.specs.Locations.{Word, Header, HasWord, word_number, Location, HasLocation, Cached, Durable, image_words, row_words, volatile_words, cached_address, durable_address, address_of}
use Rattle.pm_words.specs.Images.{header}
use Rattle.pm_words.specs.Rows.{IsRow, action_address, word_after, acted, IsOutsideHeader, KeepsHeader, IsCached, MayName, CanChange, CanAct, evicted}
use Rattle.pm_words.proofs.Apart.{words_within, words_apart, addresses_apart}

-- what stands at one address after a store at another, or at the same
set_at : (words : List ℕ) (address value q word : ℕ) → address < length words → (address ≡ q → value ≡ word) →
    slice_index words q ≡ word → slice_index (slice_set words address value) q ≡ word
set_at words address value q word inside here there = ⊎_elim
    (λ (same : q ≡ address). subst (λ (n : ℕ). slice_index (slice_set words address value) n ≡ word) (sym same) (get_or-set_same words address value 0 inside ∙ here (sym same)))
    (λ (other : q ≡ address → ⊥). get_or-set_other words address q value 0 other ∙ there)
    (cases_eq q address)

set_fits : (words : List ℕ) (address value bound : ℕ) → address < length words → value < bound →
    ((k : ℕ) → slice_index words k < bound) → (k : ℕ) → slice_index (slice_set words address value) k < bound
set_fits words address value bound inside small fits k = ⊎_elim
    (λ (same : k ≡ address). subst (λ (n : ℕ). slice_index (slice_set words address value) n < bound) (sym same) (let stored = get_or-set_same words address value 0 inside in omega arith))
    (λ (other : k ≡ address → ⊥). let kept = get_or-set_other words address k value 0 other in let before = fits k in omega arith)
    (cases_eq k address)

-- a header word, where it is stored at all, is stored as it is
record Keeps (l : Layout) (address value : ℕ) : Type 0 where
  cached : (k : ℕ) → k < 5 → address ≡ address_of l (Cached (Header k)) → value ≡ slice_index (header l) k
  durable : (k : ℕ) → k < 5 → address ≡ address_of l (Durable (Header k)) → value ≡ slice_index (header l) k

set_keeps : (l : Layout) (words : List ℕ) (address value : ℕ) → IsRow l words → address < row_words l → value < 2 ^ 64 →
    Keeps l address value → IsRow l (slice_set words address value)
set_keeps l words address value row inside small keeps =
    let within : address < length words = let whole = row.whole in omega arith in
    record {
      layout = row.layout;
      whole = length-set words address value ∙ row.whole;
      cached = λ k lt. set_at words address value (address_of l (Cached (Header k))) (slice_index (header l) k) within (keeps.cached k lt) (row.cached k lt);
      durable = λ k lt. set_at words address value (address_of l (Durable (Header k))) (slice_index (header l) k) within (keeps.durable k lt) (row.durable k lt);
      fits = set_fits words address value (2 ^ 64) within small row.fits;
    }

outside_keeps : (l : Layout) (address value : ℕ) → IsOutsideHeader l address → Keeps l address value
outside_keeps l address value outside = record {
  cached = λ k lt e. absurd ((outside k lt).0 e);
  durable = λ k lt e. absurd ((outside k lt).1 e);
}

-- the word itself is stored by a load
same_keeps : (l : Layout) (words : List ℕ) (address : ℕ) → IsRow l words → Keeps l address (slice_index words address)
same_keeps l words address row = record {
  cached = λ k lt e. ap (slice_index words) e ∙ row.cached k lt;
  durable = λ k lt e. ap (slice_index words) e ∙ row.durable k lt;
}

drain_keeps : (l : Layout) (address value : ℕ) → volatile_words l ≤ address → address < durable_address l 0 → KeepsHeader l address value →
    Keeps l (address + image_words l) value
drain_keeps l address value from to keeps = record {
  cached = λ k lt e. absurd (omega (arith, e));
  durable = λ k lt e. keeps k lt (omega (arith, e));
}

evict_keeps : (l : Layout) (words : List ℕ) (word : ℕ) → IsRow l words → word < image_words l →
    Keeps l (durable_address l word) (slice_index words (cached_address l word))
evict_keeps l words word row inside = record {
  cached = λ k lt e. absurd (omega (arith, e));
  durable = λ k lt e. let twin : cached_address l word ≡ address_of l (Cached (Header k)) = omega (arith, e) in
      ap (slice_index words) twin ∙ row.cached k lt;
}

after_fits : (action : Action) (word : ℕ) → word < 2 ^ 64 → CanChange action word → word_after action word < 2 ^ 64
after_fits (Load address) word fits can = fits
after_fits (Store address value) word fits can = can
after_fits (Exchange address old new) word fits can = cond_both (eqb word old) new word (λ (n : ℕ). n < 2 ^ 64) (λ _. can) (λ _. fits)
after_fits (Add address) word fits can = let small : word < 2 ^ 63 = can in omega arith
after_fits (Drain address value) word fits can = can

address_inside : (l : Layout) (action : Action) → MayName l action → action_address l action < row_words l
address_inside l (Load address) may = may
address_inside l (Store address value) may = may.0
address_inside l (Exchange address old new) may = may.0
address_inside l (Add address) may = may.0
address_inside l (Drain address value) may = let to = may.0.1 in omega arith

keeps : (l : Layout) (words : List ℕ) (action : Action) → IsRow l words → MayName l action →
    Keeps l (action_address l action) (word_after action (slice_index words (action_address l action)))
keeps l words (Load address) row may = same_keeps l words address row
keeps l words (Store address value) row may = outside_keeps l address value may.1
keeps l words (Exchange address old new) row may = outside_keeps l address _ may.1
keeps l words (Add address) row may = outside_keeps l address _ may.1
keeps l words (Drain address value) row may = drain_keeps l address value may.0.0 may.0.1 may.1

pub acted_row : (l : Layout) (words : List ℕ) (action : Action) → IsRow l words → CanAct l words action →
    IsRow l (acted l words action)
acted_row l words action row can =
    set_keeps l words (action_address l action) (word_after action (slice_index words (action_address l action))) row (address_inside l action can.0) (after_fits action (slice_index words (action_address l action)) (row.fits (action_address l action)) can.1) (keeps l words action row can.0)

pub evicted_row : (l : Layout) (words : List ℕ) (word : ℕ) → IsRow l words → word < image_words l → IsRow l (evicted l words word)
evicted_row l words word row inside =
    set_keeps l words (durable_address l word) (slice_index words (cached_address l word)) row (omega arith) (row.fits (cached_address l word)) (evict_keeps l words word row inside)

-- likewise where the code has the address and the words in hand
pub acted_row_by : (l : Layout) (words : List ℕ) (action : Action) (address found word : ℕ) → IsRow l words → CanAct l words action →
    address ≡ action_address l action → found ≡ slice_index words address → word ≡ word_after action found →
    IsRow l (slice_set words address word)
acted_row_by l words action address found word row can address_is found_is word_is =
    let after : word ≡ word_after action (slice_index words (action_address l action)) = word_is ∙
    ap (word_after action) (found_is ∙ ap (slice_index words) address_is) in
    subst (IsRow l) (sym (λ x. slice_set words (address_is x) (after x))) (acted_row l words action row can)

pub evicted_row_by : (l : Layout) (words : List ℕ) (word cached durable found : ℕ) → IsRow l words → word < image_words l →
    cached ≡ cached_address l word → durable ≡ durable_address l word → found ≡ slice_index words cached →
    IsRow l (slice_set words durable found)
evicted_row_by l words word cached durable found row inside cached_is durable_is found_is =
    let after : found ≡ slice_index words (cached_address l word) = found_is ∙ ap (slice_index words) cached_is in
    subst (IsRow l) (sym (λ x. slice_set words (durable_is x) (after x))) (evicted_row l words word row inside)

-- a location other than the header's twins
pub outside_header : (l : Layout) (p : Location) → HasLocation l p →
    ((k : ℕ) → k < 5 → (p ≢ Cached (Header k)) × (p ≢ Durable (Header k))) → IsOutsideHeader l (address_of l p)
outside_header l p has other k lt =
    let eight : k < 8 = omega arith in
    (λ e. (other k lt).0 (addresses_apart l p (Cached (Header k)) has eight e), λ e. (other k lt).1 (addresses_apart l p (Durable (Header k)) has eight e))

pub keeps_header : (l : Layout) (w : Word) (value : ℕ) → HasWord l w → ((k : ℕ) → k < 5 → w ≢ Header k) →
    KeepsHeader l (address_of l (Cached w)) value
keeps_header l w value has other k lt e =
    let eight : k < 8 = omega arith in
    let same : word_number l w ≡ word_number l (Header k) = omega (arith, e) in
    absurd (other k lt (words_apart l w (Header k) has eight same))

pub names_cached : (l : Layout) (w : Word) → HasWord l w → IsCached l (address_of l (Cached w))
names_cached l w has = let within = words_within l w has in (omega arith, omega arith)

-- a drain of a word's cached twin stores into its durable one
pub action_address-drain : (l : Layout) (w : Word) (value : ℕ) →
    action_address l (Drain (address_of l (Cached w)) value) ≡ address_of l (Durable w)
action_address-drain l w value = omega arith
