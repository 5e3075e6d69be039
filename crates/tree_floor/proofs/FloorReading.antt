-- A floor that makes its loads one after another.
use Rattle.std.proofs.Common.{◌≡◌, ℕ, ◌+◌, ◌*◌, ◌%◌, ◌^◌, ◌<◌, ◌≤◌, Bool, cond, inl, inr, ◌⊎◌, List, [], ◌∷◌, length}
use Rattle.std.proofs.Common.{slice_set}
use Rattle.std.proofs.Common.{ap, sym, refl, subst, ◌∙◌, arith}
use Rattle.std.proofs.lemmas.Bool.{lt-ltb}
use Rattle.std.proofs.lemmas.Nat.{mul-le}
use Rattle.pm_words.specs.declared.layout.Layout.{Layout}
use Rattle.pm_words.specs.declared.machine.Turn.{Turn}
use Rattle.pm_words.specs.declared.machine.Turn.TheVariants.{Go}
use Rattle.pm_words.specs.declared.action.Action.TheVariants.{Load}
use Rattle.pm_words.specs.Images.{Row}
use Rattle.pm_words.specs.Layouts.{IsLayout}
use Rattle.pm_words.specs.Locations.{Leaf, Cell, word_number, node_words, image_words, row_words, cached_address}
use Rattle.pm_words.specs.Rows.{CanAct, acted, got}
use Rattle.pm_words.proofs.Apart.{words_within}
use Rattle.machine_runs.specs.Runs.{begins}
use Rattle.machine_runs.proofs.Running.{turn_bursts, third_can, thrice_bursts}
use Rattle.tree_row.specs.tree_law.specs.Words.{RootWord, kind_of, number_of}
use Rattle.tree_row.specs.Rows.{layer_address, HasLayerWord}
use Rattle.tree_floor.specs.declared.floor.Floor.{Floor}
use Rattle.tree_floor.specs.declared.floor.FloorAt.{FloorAt}
use Rattle.tree_floor.specs.declared.floor.FloorAt.TheVariants as at
use Rattle.tree_floor.specs.declared.scan.Scanned.TheVariants.{More, Found}
use Rattle.tree_floor.specs.declared.scan.Scan.TheVariants as scan
use Rattle.tree_floor.specs.Scans.{scan_told, first_entry, entry_count, child_entry, better_entry}
use Rattle.tree_floor.specs.Floors.{floor_word, floor_at_turned, floor_takes}
use Rattle.tree_floor.specs.Floors.{cell_word, has_key, has_prefix, has_scanned, IsFloor}
use Rattle.tree_floor.specs.FloorRuns.{MayFloor, FloorBursts, key_loaded, key_at}
use Rattle.tree_floor.proofs.FloorStays.{floor_fewer}
use Rattle.tree_floor.proofs.FloorLoads.{floor_only_loads}

-- it is a floor there, and may load what it asks for
pub floor_is : (row : Row) (floor : Floor) (here : FloorAt) → MayFloor row floor here
    → IsFloor (record floor { at = here })
floor_is row floor here may = ((may _ row.words 0 begins).1).0

pub floor_can : (row : Row) (floor : Floor) (here : FloorAt) {address : ℕ} → MayFloor row floor here
    → Load address ≡ Load (layer_address floor.layout (floor_word here)) → CanAct row.layout row.words (Load address)
floor_can row floor here may asked =
    subst (CanAct row.layout row.words) (sym asked) (may _ row.words 0 begins).0

-- one load
pub load_bursts : {old after : Row} (floor : Floor) (here : FloorAt) {address number begun later : ℕ}
    → MayFloor old floor here → Load address ≡ Load (layer_address floor.layout (floor_word here))
    → after ≡ record old { words = acted old.layout old.words (Load address) }
    → number ≡ got old.layout old.words (Load address) → later ≡ begun + 1
    → FloorBursts old after floor here (floor_at_turned (record floor { at = here }) here number) begun later
load_bursts floor here may asked acts given ticks =
    turn_bursts floor_takes (λ f. tt) floor_fewer (record floor { at = here }) may asked acts given ticks

-- three words set are a key of them
three_set : (words : List ℕ) (x y z : ℕ) → length words ≡ 3
    → slice_set (slice_set (slice_set words 0 x) 1 y) 2 z ≡ x ∷ y ∷ z ∷ []
three_set [] x y z whole = absurd (omega (arith, whole))
three_set (a ∷ []) x y z whole = absurd (omega (arith, whole))
three_set (a ∷ b ∷ []) x y z whole = absurd (omega (arith, whole))
three_set (a ∷ b ∷ c ∷ []) x y z whole = refl
three_set (a ∷ b ∷ c ∷ d ∷ rest) x y z whole = absurd (omega (arith, whole))

abbrev loads : {a b : ℕ} → a ≡ b → Load b ≡ Load a
loads is = ap (λ (n : ℕ). Load n) (sym is)

-- of a leaf
module _ {old : Row} (floor : Floor) (leaf : ℕ) (words : List ℕ) (word : ℕ)
    (is : word ≡ word_number floor.layout (Leaf leaf 0)) (may : MayFloor old floor (at.Key leaf words 0)) where
  abbrev leaf_second : ℕ → FloorAt
  leaf_second x = at.Key leaf (slice_set words 0 x) 1

  abbrev leaf_third : ℕ → ℕ → FloorAt
  leaf_third x y = at.Key leaf (slice_set (slice_set words 0 x) 1 y) 2

  pub leaf_within : cached_address floor.layout (word + 2) < row_words old.layout
  leaf_within =
      (third_can floor_takes (λ f. tt) floor_fewer 0 (record floor { at = at.Key leaf words 0 })
      (λ x. record floor { at = leaf_second x }) (λ x y. record floor { at = leaf_third x y })
      (cached_address floor.layout word) (cached_address floor.layout (word + 1)) (cached_address floor.layout (word + 2))
      (loads (omega (arith, is))) (λ x. loads (omega (arith, is))) (λ x y. loads (omega (arith, is))) (λ x. refl)
      (λ x y. refl) may).0

  pub leaf_bursts : {after : Row} {key : List ℕ} {begun later : ℕ}
      → after ≡ record old { words = key_loaded floor.layout word old.layout old.words }
      → key ≡ key_at floor.layout word old.layout old.words → later ≡ begun + 3
      → FloorBursts old after floor (at.Key leaf words 0) (has_key floor leaf key) begun later
  leaf_bursts {after} {begun = begun} {later} acts given ticks =
      subst (λ (k : List ℕ). FloorBursts old after floor (at.Key leaf words 0) (has_key floor leaf k) begun later)
      (three_set words _ _ _ (floor_is old floor (at.Key leaf words 0) may).here.2.whole ∙ sym given)
      (thrice_bursts floor_takes (λ f. tt) floor_fewer begun (record floor { at = at.Key leaf words 0 })
      (λ x. record floor { at = leaf_second x }) (λ x y. record floor { at = leaf_third x y })
      (cached_address floor.layout word) (cached_address floor.layout (word + 1)) (cached_address floor.layout (word + 2))
      (loads (omega (arith, is))) (λ x. loads (omega (arith, is))) (λ x y. loads (omega (arith, is))) (λ x. refl)
      (λ x y. refl) may acts refl ticks)

-- and of a cell's prefix
module _ {old : Row} (floor : Floor) (cell depth : ℕ) (words : List ℕ) (word : ℕ)
    (is : word ≡ word_number floor.layout (Cell (kind_of cell) (number_of cell) 1))
    (may : MayFloor old floor (at.Prefix cell depth words 0)) where
  abbrev prefix_second : ℕ → FloorAt
  prefix_second x = at.Prefix cell depth (slice_set words 0 x) 1

  abbrev prefix_third : ℕ → ℕ → FloorAt
  prefix_third x y = at.Prefix cell depth (slice_set (slice_set words 0 x) 1 y) 2

  pub prefix_within : cached_address floor.layout (word + 2) < row_words old.layout
  prefix_within =
      (third_can floor_takes (λ f. tt) floor_fewer 0 (record floor { at = at.Prefix cell depth words 0 })
      (λ x. record floor { at = prefix_second x }) (λ x y. record floor { at = prefix_third x y })
      (cached_address floor.layout word) (cached_address floor.layout (word + 1)) (cached_address floor.layout (word + 2))
      (loads (omega (arith, is))) (λ x. loads (omega (arith, is))) (λ x y. loads (omega (arith, is))) (λ x. refl)
      (λ x y. refl) may).0

  pub prefix_bursts : {after : Row} {key : List ℕ} {begun later : ℕ}
      → after ≡ record old { words = key_loaded floor.layout word old.layout old.words }
      → key ≡ key_at floor.layout word old.layout old.words → later ≡ begun + 3
      → FloorBursts old after floor (at.Prefix cell depth words 0) (has_prefix floor cell depth key) begun later
  prefix_bursts {after} {begun = begun} {later} acts given ticks =
      subst (λ (k : List ℕ). FloorBursts old after floor (at.Prefix cell depth words 0)
      (has_prefix floor cell depth k) begun later)
      (three_set words _ _ _ (floor_is old floor (at.Prefix cell depth words 0) may).here.3.whole ∙ sym given)
      (thrice_bursts floor_takes (λ f. tt) floor_fewer begun (record floor { at = at.Prefix cell depth words 0 })
      (λ x. record floor { at = prefix_second x }) (λ x y. record floor { at = prefix_third x y })
      (cached_address floor.layout word) (cached_address floor.layout (word + 1)) (cached_address floor.layout (word + 2))
      (loads (omega (arith, is))) (λ x. loads (omega (arith, is))) (λ x y. loads (omega (arith, is))) (λ x. refl)
      (λ x y. refl) may acts refl ticks)

-- The entries of a cell, of which each but the last is followed by one more.
pub entries_few : (kind : ℕ) → (kind ≡ 2) ⊎ (kind ≡ 3) → entry_count kind ≤ 16
entries_few kind (inl two) = subst (λ k. entry_count k ≤ 16) (sym two) (omega arith)
entries_few kind (inr three) = subst (λ k. entry_count k ≤ 16) (sym three) (omega arith)

pub image_small : (l : Layout) → IsLayout l → image_words l < 2 ^ 32
image_small l is =
    let few : node_words l * l.nodes ≤ 272 * 4096 =
    mul-le (node_words l) l.nodes 272 4096 (let most = is.slots.1 in omega (arith, most)) is.nodes.1 in
    let callers = is.callers.1 in
    let nodes = is.nodes.1 in
    omega (arith, few, callers, nodes)

pub more_entries : (floor : Floor) (cell depth byte entry child below number more better count : ℕ)
    → more ≡ child_entry byte child number → better ≡ better_entry byte below number
    → count ≡ entry_count (kind_of cell) → entry + 1 < count
    → has_scanned floor cell depth byte (scan_told (kind_of cell) byte (scan.Entry entry child below) number)
    ≡ Go (record floor { at = at.Scanning cell depth byte (scan.Entry (entry + 1) more better) })
more_entries floor cell depth byte entry child below number more better count is_more is_better is less =
    ap (λ (b : Bool). has_scanned floor cell depth byte (cond b
    (More (scan.Entry (entry + 1) (child_entry byte child number) (better_entry byte below number)))
    (Found (child_entry byte child number) (better_entry byte below number % 2 ^ 32))))
    (lt-ltb (entry + 1) (entry_count (kind_of cell)) (omega (arith, is, less)))
    ∙ (λ k. Go (record floor {
      at = at.Scanning cell depth byte (scan.Entry (entry + 1) (sym is_more k) (sym is_better k));
    }))

pub entry_address : (l : Layout) (cell entry first start address : ℕ) → first ≡ first_entry (kind_of cell)
    → start ≡ word_number l (Cell (kind_of cell) (number_of cell) first) → address ≡ cached_address l (start + entry)
    → address ≡ layer_address l (cell_word cell (first_entry (kind_of cell) + entry))
entry_address l cell entry first start address first_is start_is is = omega (arith, first_is, start_is, is)

pub entry_within : (floor : Floor) (cell depth byte entry child below first start : ℕ)
    → IsFloor (record floor { at = at.Scanning cell depth byte (scan.Entry entry child below) })
    → first ≡ first_entry (kind_of cell)
    → start ≡ word_number floor.layout (Cell (kind_of cell) (number_of cell) first)
    → start + entry < image_words floor.layout
entry_within floor cell depth byte entry child below first start is first_is start_is =
    let within : word_number floor.layout (Cell (kind_of cell) (number_of cell) (first_entry (kind_of cell) + entry))
    < image_words floor.layout =
    words_within floor.layout (Cell (kind_of cell) (number_of cell) (first_entry (kind_of cell) + entry))
    (floor_only_loads (record floor { at = at.Scanning cell depth byte (scan.Entry entry child below) }) is) in
    omega (arith, within, first_is, start_is)

-- a floor that stands there
pub at_may : (row : Row) (floor : Floor) {here : FloorAt} → floor.at ≡ here → MayFloor row floor floor.at
    → MayFloor row floor here
at_may row floor is may = subst (λ (h : FloorAt). MayFloor row floor h) is may

pub at_bursts : {old new : Row} (floor : Floor) {here : FloorAt} {turn : Turn Floor ℕ} {begun later : ℕ}
    → floor.at ≡ here → FloorBursts old new floor here turn begun later
    → FloorBursts old new floor floor.at turn begun later
at_bursts {old} {new} floor {turn = turn} {begun} {later} is b =
    subst (λ (h : FloorAt). FloorBursts old new floor h turn begun later) (sym is) b

pub at_key : {here : FloorAt} {leaf word count : ℕ} {words : List ℕ} → here ≡ at.Key leaf words word → count ≡ word
    → count ≡ 0 → here ≡ at.Key leaf words 0
at_key {leaf = leaf} {words = words} is word_is none =
    is ∙ ap (λ (w : ℕ). at.Key leaf words w) (sym word_is ∙ none)

pub at_prefix : {here : FloorAt} {cell depth word count : ℕ} {words : List ℕ} → here ≡ at.Prefix cell depth words word
    → count ≡ word → count ≡ 0 → here ≡ at.Prefix cell depth words 0
at_prefix {cell = cell} {depth} {words = words} is word_is none =
    is ∙ ap (λ (w : ℕ). at.Prefix cell depth words w) (sym word_is ∙ none)

pub stands_is : (row : Row) (floor : Floor) {here : FloorAt} → floor.at ≡ here → MayFloor row floor floor.at
    → IsFloor (record floor { at = here })
stands_is row floor {here} is may = floor_is row floor here (at_may row floor is may)

pub stands_can : (row : Row) (floor : Floor) {here : FloorAt} {address : ℕ} → floor.at ≡ here
    → MayFloor row floor floor.at → Load address ≡ Load (layer_address floor.layout (floor_word here))
    → CanAct row.layout row.words (Load address)
stands_can row floor {here} is may asked = floor_can row floor here (at_may row floor is may) asked

-- a load of the cached twin of a word
pub cached_load : (l : Layout) {address word number : ℕ} → address ≡ cached_address l word → word ≡ number
    → Load address ≡ Load (cached_address l number)
cached_load l is word_is = ap (λ (a : ℕ). Load a) (is ∙ ap (λ (w : ℕ). cached_address l w) word_is)

-- there is the word that it reads there
pub first_loads : (floor : Floor) (here : FloorAt) → IsFloor (record floor { at = here })
    → HasLayerWord floor.layout (floor_word here)
first_loads floor here is = floor_only_loads (record floor { at = here }) is

pub cell_address : (l : Layout) (cell offset told word address : ℕ) → told ≡ offset
    → word ≡ word_number l (Cell (kind_of cell) (number_of cell) told) → address ≡ cached_address l word
    → Load address ≡ Load (layer_address l (cell_word cell offset))
cell_address l cell offset told word address told_is word_is is =
    ap (λ (a : ℕ). Load a)
    (is ∙ ap (λ (w : ℕ). cached_address l w)
    (word_is ∙ ap (λ (o : ℕ). word_number l (Cell (kind_of cell) (number_of cell) o)) told_is))

pub root_address : (l : Layout) (address : ℕ) → address ≡ cached_address l 8 → address ≡ layer_address l RootWord
root_address l address is = omega (arith, is)
