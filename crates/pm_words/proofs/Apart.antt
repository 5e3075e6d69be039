-- Words, and addresses, that are in range have one number only if they are one.
use Rattle.std.proofs.Common.{◌≡◌, ◌≢◌, ℕ, zero, suc, ◌+◌, ◌-◌, ◌*◌, ◌<◌, List, length, slice_index, slice_set, sym, ap, ◌∙◌, subst, arith}
use Rattle.std.proofs.lemmas.List.{get_or-set_same, get_or-set_other}
use Rattle.std.proofs.lemmas.Nat.{mul-add-lt, same_from_place}
use Rattle.pm_words.specs.declared.layout.Layout.{Layout}
use Rattle.pm_words.specs.Locations.{Word, Header, Root, Node, Line, Leaf, Cell, Location, Clock, Updater, Volatile}
use Rattle.pm_words.specs.Locations.{Mark, Cached, Durable, node_words, leaf_count, kind_words, image_parts}
use Rattle.pm_words.specs.Locations.{image_words, part_of_word, behind_part, word_number, HasWord, row_parts, row_words}
use Rattle.pm_words.specs.Locations.{part_of_address, behind_start, address_of, HasLocation, at, word_at}
use Rattle.pm_words.specs.Offsets.{slot_offset}
use Rattle.pm_words.proofs.Parts.{part_tells, part_within}

cell_fits : (l : Layout) (kind k o : ℕ) → HasWord l (Cell kind k o) →
    k * kind_words kind + o < slice_index (image_parts l) (3 + kind)
cell_fits l zero k o has = absurd (omega (arith, has.0))
cell_fits l (suc zero) k o has = absurd (omega (arith, has.0))
cell_fits l (suc (suc zero)) k o has = mul-add-lt k 8 o (leaf_count l) has.2 has.3
cell_fits l (suc (suc (suc zero))) k o has = mul-add-lt k 24 o (leaf_count l) has.2 has.3
cell_fits l (suc (suc (suc (suc zero)))) k o has = mul-add-lt k 88 o (leaf_count l) has.2 has.3
cell_fits l (suc (suc (suc (suc (suc zero))))) k o has = mul-add-lt k 264 o (leaf_count l) has.2 has.3
cell_fits l (suc (suc (suc (suc (suc (suc kind)))))) k o has = absurd (omega (arith, has.1))

word_fits : (l : Layout) (w : Word) → HasWord l w → behind_part l w < slice_index (image_parts l) (part_of_word w)
word_fits l (Header o) has = has
word_fits l (Root o) has = has
word_fits l (Node n o) has = mul-add-lt n (node_words l) o l.nodes has.0 has.1
word_fits l (Line c j o) has = let fits : 64 * c + 8 * j + o < 64 * l.callers = omega arith in fits
word_fits l (Leaf k o) has = mul-add-lt k 8 o (leaf_count l) has.0 has.1
word_fits l (Cell kind k o) has = cell_fits l kind k o has

pub words_within : (l : Layout) (w : Word) → HasWord l w → word_number l w < image_words l
words_within l w has = part_within (image_parts l) (part_of_word w) (behind_part l w) (word_fits l w has)

same_cell : (l : Layout) (kind k o kind' k' o' : ℕ) → HasWord l (Cell kind k o) → HasWord l (Cell kind' k' o') → kind ≡ kind' →
    k * kind_words kind + o ≡ k' * kind_words kind' + o' → Cell kind k o ≡ Cell kind' k' o'
same_cell l kind k o kind' k' o' has has' same e =
    let fits : o' < kind_words kind = subst (λ (n : ℕ). o' < kind_words n) (sym same) has'.3 in
    let there : k' * kind_words kind' + o' ≡ k' * kind_words kind + o' = ap (λ (n : ℕ). k' * kind_words n + o') (sym same) in
    let parts = same_from_place k o k' o' (kind_words kind) has.3 fits (e ∙ there) in
    λ x. Cell (same x) (parts.0 x) (parts.1 x)

-- within a part
same_word : (l : Layout) (v w : Word) → HasWord l v → HasWord l w → part_of_word v ≡ part_of_word w →
    behind_part l v ≡ behind_part l w → v ≡ w
same_word l (Header o) (Header p) has has' part e = ap Header e
same_word l (Root o) (Root p) has has' part e = ap Root e
same_word l (Node n o) (Node m p) has has' part e =
    let parts = same_from_place n o m p (node_words l) has.1 has'.1 e in λ x. Node (parts.0 x) (parts.1 x)
same_word l (Line c j o) (Line d i p) has has' part e =
    let callers : c ≡ d = omega arith in
    let lines : j ≡ i = omega arith in
    let offsets : o ≡ p = omega arith in
    λ x. Line (callers x) (lines x) (offsets x)
same_word l (Leaf k o) (Leaf m p) has has' part e =
    let parts = same_from_place k o m p 8 has.1 has'.1 e in λ x. Leaf (parts.0 x) (parts.1 x)
same_word l (Cell kind k o) (Cell kind' k' o') has has' part e =
    same_cell l kind k o kind' k' o' has has' (let kinds : 3 + kind ≡ 3 + kind' = part in omega arith) e
same_word l v w has has' part e = absurd (omega arith)

pub words_apart : (l : Layout) (v w : Word) → HasWord l v → HasWord l w → word_number l v ≡ word_number l w → v ≡ w
words_apart l v w has has' e =
    let told = part_tells (image_parts l) (part_of_word v) (part_of_word w) (behind_part l v) (behind_part l w) (word_fits l v has) (word_fits l w has') e in
    same_word l v w has has' told.0 told.1

mark_fits : (l : Layout) (kind k : ℕ) → HasLocation l (Mark kind k) → (kind - 1) * leaf_count l + k < leaf_count l * 5
mark_fits l kind k has = mul-add-lt (kind - 1) (leaf_count l) k 5 (omega (arith, has.0, has.1)) has.2

pub address_fits : (l : Layout) (p : Location) → HasLocation l p → behind_start l p < slice_index (row_parts l) (part_of_address p)
address_fits l Clock has = let fits : 0 < 8 = omega arith in fits
address_fits l Updater has = let fits : 1 < 8 = omega arith in fits
address_fits l (Volatile n o) has = mul-add-lt n 16 o l.nodes has.0 has.1
address_fits l (Mark kind k) has = mark_fits l kind k has
address_fits l (Cached w) has = words_within l w has
address_fits l (Durable w) has = words_within l w has

pub addresses_within : (l : Layout) (p : Location) → HasLocation l p → address_of l p < row_words l
addresses_within l p has = part_within (row_parts l) (part_of_address p) (behind_start l p) (address_fits l p has)

same_address : (l : Layout) (p q : Location) → HasLocation l p → HasLocation l q → part_of_address p ≡ part_of_address q →
    behind_start l p ≡ behind_start l q → p ≡ q
same_address l Clock Clock has has' part e = λ x. Clock
same_address l Updater Updater has has' part e = λ x. Updater
same_address l (Volatile n o) (Volatile m i) has has' part e =
    let parts = same_from_place n o m i 16 has.1 has'.1 e in λ x. Volatile (parts.0 x) (parts.1 x)
same_address l (Mark kind k) (Mark kind' k') has has' part e =
    let parts = same_from_place (kind - 1) k (kind' - 1) k' (leaf_count l) has.2 has'.2 e in
    let kinds : kind ≡ kind' = omega (arith, parts.0, has.0, has'.0) in
    λ x. Mark (kinds x) (parts.1 x)
same_address l (Cached v) (Cached w) has has' part e = ap Cached (words_apart l v w has has' e)
same_address l (Durable v) (Durable w) has has' part e = ap Durable (words_apart l v w has has' e)
same_address l p q has has' part e = absurd (omega arith)

pub addresses_apart : (l : Layout) (p q : Location) → HasLocation l p → HasLocation l q → address_of l p ≡ address_of l q → p ≡ q
addresses_apart l p q has has' e =
    let told = part_tells (row_parts l) (part_of_address p) (part_of_address q) (behind_start l p) (behind_start l q) (address_fits l p has) (address_fits l q has') e in
    same_address l p q has has' told.0 told.1

-- a store at one address leaves the word at any other
pub at-set_other : (l : Layout) (words : List ℕ) (p q : Location) (word : ℕ) → HasLocation l p → HasLocation l q → q ≢ p →
    at l (slice_set words (address_of l p) word) q ≡ at l words q
at-set_other l words p q word has has' other = get_or-set_other words (address_of l p) (address_of l q) word 0 (λ e. other (addresses_apart l q p has' has e))

-- a location has the word that was stored there
pub at-set_same : (l : Layout) (words : List ℕ) (p : Location) (word : ℕ) → length words ≡ row_words l → HasLocation l p →
    at l (slice_set words (address_of l p) word) p ≡ word
at-set_same l words p word whole has = get_or-set_same words (address_of l p) word 0 (let within = addresses_within l p has in omega arith)

-- likewise for the words of an image
pub word_at-set_other : (l : Layout) (words : List ℕ) (v w : Word) (word : ℕ) → HasWord l v → HasWord l w → w ≢ v →
    word_at l (slice_set words (word_number l v) word) w ≡ word_at l words w
word_at-set_other l words v w word has has' other = get_or-set_other words (word_number l v) (word_number l w) word 0 (λ e. other (words_apart l w v has' has e))

pub word_at-set_same : (l : Layout) (words : List ℕ) (w : Word) (word : ℕ) → length words ≡ image_words l → HasWord l w →
    word_at l (slice_set words (word_number l w) word) w ≡ word
word_at-set_same l words w word whole has = get_or-set_same words (word_number l w) word 0 (let within = words_within l w has in omega arith)

-- the words of a node's slots
pub slots_within : (l : Layout) (slot k : ℕ) → slot < l.slots → k < 4 → slot_offset slot k < node_words l
slots_within l slot k slot_in k_in = omega arith

pub slots_apart : (slot k slot' k' : ℕ) → k < 4 → k' < 4 → slot_offset slot k ≡ slot_offset slot' k' → (slot ≡ slot') × (k ≡ k')
slots_apart slot k slot' k' k_in k_in' e = (omega arith, omega arith)
