-- What stands of a part while it is filled.
use Rattle.std.proofs.Common.{◌≡◌, ◌≢◌, ℕ, zero, suc, ◌+◌, ◌*◌, ◌^◌, ◌<◌, ◌≤◌, ◌==◌, inl, inr, true, false, cond, ltb, Option, Some, None, List, slice_index, slice_set, refl, sym, subst, ap, ◌∙◌, arith}
use Rattle.std.proofs.lemmas.Bool.{cases_eq, ltb-false}
use lib.Seq.{set-get_or}
use Rattle.pm_words.specs.declared.layout.Layout.{Layout}
use Rattle.pm_words.specs.declared.action.Action.{Action}
use Rattle.pm_words.specs.declared.action.Action.TheVariants as action
use Rattle.pm_words.specs.declared.fence.Fence.{Fence}
use Rattle.pm_words.specs.declared.fence.FenceAt.{FenceAt}
use Rattle.pm_words.specs.declared.fence.FenceAt.TheVariants as fence_at
use Rattle.pm_words.specs.declared.machine.Turn.{Turn}
use Rattle.pm_words.specs.Fences.{IsFence, fence_start, fence_asks, fence_next, FenceTurn}
use Rattle.pm_words.specs.Fences as turn
use Rattle.pm_words.specs.Locations.{Word, Header, Leaf, Cell, Cached, Durable, HasWord, kind_words, address_of}
use Rattle.pm_words.specs.Rows.{IsRow, CanAct, acted, got}
use Rattle.pm_words.proofs.Apart.{addresses_within, at-set_same, at-set_other}
use Rattle.pm_words.proofs.Kept.{outside_header, keeps_header, names_cached, action_address-drain}
use Rattle.pm_words.proofs.Fencing.{fence_turns}
use Rattle.radix_nodes.specs.declared.filling.Filling.{Filling}
use Rattle.radix_nodes.specs.declared.filling.Filling.TheVariants.{Store, Drain}
use Rattle.radix_nodes.specs.declared.fill_leaf.FillLeaf.{FillLeaf}
use Rattle.radix_nodes.specs.declared.fill_cell.FillCell.{FillCell}
use Rattle.radix_nodes.specs.Fills.{filling_offset, filling_asks, filling_next, next_line, IsFilling, filling_left, leaf_value, lines_of, IsFillLeaf, fill_leaf_goes, IsFillCell, fill_cell_goes}
use Rattle.radix_nodes.specs.FillLaws.{Part, leaf_part, cell_part, Stands, IsDurable, stored_to, durable_to, IsFilledTo, IsFilled, FillsBegin, FillsStay, FillAfter, FillStep, LeavesAreFilled, CellsAreFilled}
use Rattle.radix_nodes.proofs.FillEnds.{Fewer, filling_fewer}

pub fills_begin : FillsBegin
fills_begin l part words = record { stands = λ o lt. absurd (omega arith); durable = λ o lt. absurd (omega arith); hand = tt }

-- how far a filling is
stored_within : (part : Part) (filling : Filling) → IsFilling part.lines filling → (o : ℕ) → o < stored_to part filling → o < 8 * part.lines
stored_within part (Store offset) is o lt = omega (arith, is)
stored_within part (Drain line fence) is o lt = lt

durable_within : (part : Part) (filling : Filling) → IsFilling part.lines filling → (o : ℕ) → o < durable_to filling → o < stored_to part filling
durable_within part (Store offset) is o lt = absurd (omega arith)
durable_within part (Drain line fence) is o lt = let word = is.1.word in omega (arith, is.0)

pub fills_stay : FillsStay
fills_stay l part filling words words' is beside to = record {
  stands = λ o lt. beside.cached o (stored_within part filling is o lt) ∙ to.stands o lt;
  durable = λ o lt.
      let stored = durable_within part filling is o lt in
      elim (beside.durable o (stored_within part filling is o stored)) [ inl same ↦ same ∙ to.durable o lt | inr cached ↦ cached ∙ to.stands o stored ];
  hand = to.hand;
}

-- a part whose words are in the image, and are apart
pub record IsPart (l : Layout) (part : Part) : Type 0 where
  pub has : (o : ℕ) → o < 8 * part.lines → HasWord l (part.word o)
  pub apart : (o p : ℕ) → part.word o ≡ part.word p → o ≡ p
  pub no_header : (o k : ℕ) → part.word o ≢ Header k
  pub fits : (o : ℕ) → part.value o < 2 ^ 64

cached_apart : (v w : Word) → Cached v ≡ Cached w → v ≡ w
cached_apart v w e = cc

durable_apart : (v w : Word) → Durable v ≡ Durable w → v ≡ w
durable_apart v w e = cc

not_durable : (v w : Word) → Cached v ≢ Durable w
not_durable v w e = cc

-- what is left of a filling, and what stands
abbrev pub AfterFilling : Layout → Part → Option Filling → List ℕ → Type 0
AfterFilling l part (Some next) words = IsFilledTo l part next words
AfterFilling l part None words = IsFilled l part words

pub record StepOf (l : Layout) (part : Part) (words : List ℕ) (asked : Action) (next : Option Filling) : Type 0 where
  pub can : CanAct l words asked
  pub after : AfterFilling l part next (acted l words asked)

module _ (l : Layout) (part : Part) (words : List ℕ) (row : IsRow l words) (is : IsPart l part) where
  abbrev address : ℕ → ℕ
  address o = address_of l (Cached (part.word o))

  outside : (o : ℕ) → o < 8 * part.lines → (k : ℕ) → k < 5 → (Cached (part.word o) ≢ Cached (Header k)) × (Cached (part.word o) ≢ Durable (Header k))
  outside o lt k small = ((λ e. is.no_header o k (cached_apart (part.word o) (Header k) e)), (λ e. not_durable (part.word o) (Header k) e))

  -- a store of a word
  store_stands : (o : ℕ) → o < 8 * part.lines → ((k : ℕ) → k < o → Stands l words part k) → (k : ℕ) → k < o + 1 → Stands l (slice_set words (address o) (part.value o)) part k
  store_stands o lt before k less = elim (cases_eq k o) [
    | inl here ↦ subst (λ n. Stands l (slice_set words (address o) (part.value o)) part n) (sym here) (at-set_same l words (Cached (part.word o)) (part.value o) row.whole (is.has o lt))
    | inr other ↦
        at-set_other l words (Cached (part.word o)) (Cached (part.word k)) (part.value o) (is.has o lt) (is.has k (omega arith)) (λ e. other (is.apart k o (cached_apart (part.word k) (part.word o) e)))
        ∙ before k (omega (arith, other))
  ]

  store_can : (o : ℕ) → o < 8 * part.lines → CanAct l words (action.Store (address o) (part.value o))
  store_can o lt = ((addresses_within l (Cached (part.word o)) (is.has o lt), outside_header l (Cached (part.word o)) (is.has o lt) (outside o lt)), is.fits o)

  store_goes : (o : ℕ) → o < 8 * part.lines → IsFilledTo l part (Store o) words → (x : ℕ) → AfterFilling l part (filling_next part.lines (Store o) x) (slice_set words (address o) (part.value o))
  store_goes o lt to x = elim (ltb (o + 1) (8 * part.lines)) as (λ b. ltb (o + 1) (8 * part.lines) ≡ b → AfterFilling l part (cond b (Some (Store (o + 1))) (Some (Drain 0 fence_start))) (slice_set words (address o) (part.value o))) [
    | true ↦ λ more. record { stands = store_stands o lt to.stands; durable = λ k less. absurd (omega arith); hand = tt }
    | false ↦ λ last.
        let end : 8 * part.lines ≤ o + 1 = ltb-false _ _ last in
        record { stands = λ k less. store_stands o lt to.stands k (omega arith); durable = λ k less. absurd (omega arith); hand = tt }
  ] refl

  -- a load leaves the words
  loaded : (a : ℕ) → slice_set words a (slice_index words a) ≡ words
  loaded a = set-get_or words a 0

  load_can : (o : ℕ) → o < 8 * part.lines → CanAct l words (action.Load (address o))
  load_can o lt = (addresses_within l (Cached (part.word o)) (is.has o lt), tt)

  -- a drain of a word
  drain_stands : (o value : ℕ) → o < 8 * part.lines → ((k : ℕ) → k < 8 * part.lines → Stands l words part k) → (k : ℕ) → k < 8 * part.lines → Stands l (slice_set words (address_of l (Durable (part.word o))) value) part k
  drain_stands o value lt all k less =
      at-set_other l words (Durable (part.word o)) (Cached (part.word k)) value (is.has o lt) (is.has k less) (not_durable (part.word k) (part.word o)) ∙ all k less

  drain_durable : (o value : ℕ) → o < 8 * part.lines → value ≡ part.value o → ((k : ℕ) → k < o → IsDurable l words part k) → (k : ℕ) → k < o + 1 → IsDurable l (slice_set words (address_of l (Durable (part.word o))) value) part k
  drain_durable o value lt hand before k less = elim (cases_eq k o) [
    | inl here ↦ subst (λ n. IsDurable l (slice_set words (address_of l (Durable (part.word o))) value) part n) (sym here) (at-set_same l words (Durable (part.word o)) value row.whole (is.has o lt) ∙ hand)
    | inr other ↦
        at-set_other l words (Durable (part.word o)) (Durable (part.word k)) value (is.has o lt) (is.has k (omega arith)) (λ e. other (is.apart k o (durable_apart (part.word k) (part.word o) e)))
        ∙ before k (omega (arith, other))
  ]

  drain_can : (o value : ℕ) → o < 8 * part.lines → value < 2 ^ 64 → CanAct l words (action.Drain (address o) value)
  drain_can o value lt fits = ((names_cached l (part.word o) (is.has o lt), keeps_header l (part.word o) value (is.has o lt) (λ k small. is.no_header o k)), fits)

  -- a drained row, by the address of the durable twin
  drained : (o value : ℕ) → acted l words (action.Drain (address o) value) ≡ slice_set words (address_of l (Durable (part.word o))) value
  drained o value = ap (λ a. slice_set words a value) (action_address-drain l (part.word o) value)

  line_ends : (line : ℕ) (words' : List ℕ) → line < part.lines → ((k : ℕ) → k < 8 * part.lines → Stands l words' part k) → ((k : ℕ) → k < 8 * (line + 1) → IsDurable l words' part k) → AfterFilling l part (next_line part.lines line None) words'
  line_ends line words' lt all done = elim (ltb (line + 1) part.lines) as (λ b. ltb (line + 1) part.lines ≡ b → AfterFilling l part (cond b (Some (Drain (line + 1) fence_start)) None) words') [
    | true ↦ λ more. record { stands = all; durable = λ k less. done k (omega arith); hand = tt }
    | false ↦ λ last. let end : part.lines ≤ line + 1 = ltb-false _ _ last in record { stands = all; durable = λ k less. done k (omega arith) }
  ] refl

  drain_goes : (line : ℕ) (fence : Fence) (x : ℕ) → line < part.lines → IsFence fence → x < 2 ^ 64 → x ≡ got l words (fence_asks (address (8 * line + fence.word)) fence) → IsFilledTo l part (Drain line fence) words
      → StepOf l part words (fence_asks (address (8 * line + fence.word)) fence) (next_line part.lines line (fence_next fence x))
  drain_goes line fence x lt sound fits told to = leads fence _ _ (fence_turns (address (8 * line + fence.word)) fence x sound fits) told to
    where
      leads : (before : Fence) (asked : Action) (after : Option Fence) → FenceTurn (address (8 * line + before.word)) x before asked after → x ≡ got l words asked → IsFilledTo l part (Drain line before) words → StepOf l part words asked (next_line part.lines line after)
      leads before asked after (turn.loads {word} small value) told to =
          let o = 8 * line + word in
          let within : o < 8 * part.lines = omega arith in
          record {
            can = load_can o within;
            after = subst (AfterFilling l part (Some (Drain line (record { word = word; at = fence_at.Drain x })))) (sym (loaded (address o)))
                (record { stands = to.stands; durable = to.durable; hand = told ∙ to.stands o within });
          }
      leads before asked after (turn.drains {word} {value} more fits') told to =
          let o = 8 * line + word in
          let within : o < 8 * part.lines = omega arith in
          record {
            can = drain_can o value within fits';
            after = subst (AfterFilling l part (Some (Drain line (record { word = word + 1; at = fence_at.Load })))) (sym (drained o value))
                (record { stands = drain_stands o value within to.stands; durable = λ k less. drain_durable o value within to.hand to.durable k (omega arith); hand = tt });
          }
      leads before asked after (turn.drains_last {word} {value} last fits') told to =
          let o = 8 * line + word in
          let within : o < 8 * part.lines = omega arith in
          record {
            can = drain_can o value within fits';
            after = subst (AfterFilling l part (next_line part.lines line None)) (sym (drained o value))
                (line_ends line (slice_set words (address_of l (Durable (part.word o))) value) lt (drain_stands o value within to.stands) (λ k less. drain_durable o value within to.hand to.durable k (omega arith)));
          }

  told_at : (place : ℕ) (k : FenceAt) (word : ℕ) → got l words (fence_asks place (record { word = word; at = k })) < 2 ^ 64
  told_at place fence_at.Load word = row.fits place
  told_at place (fence_at.Drain value) word = omega arith

  -- each step of a filling
  pub step_fills : (filling : Filling) → IsFilling part.lines filling → IsFilledTo l part filling words
      → StepOf l part words (filling_asks (address (filling_offset filling)) (part.value (filling_offset filling)) filling)
      (filling_next part.lines filling (got l words (filling_asks (address (filling_offset filling)) (part.value (filling_offset filling)) filling)))
  step_fills (Store offset) sound to = record { can = store_can offset sound; after = store_goes offset sound to 0 }
  step_fills (Drain line fence) sound to =
      let asked = fence_asks (address (8 * line + fence.word)) fence in
      drain_goes line fence (got l words asked) sound.0 sound.1 (told_at (address (8 * line + fence.word)) fence.at fence.word) refl to

  abbrev asks_for : Filling → Action
  asks_for filling = filling_asks (address (filling_offset filling)) (part.value (filling_offset filling)) filling

  told_fits : (filling : Filling) → got l words (asks_for filling) < 2 ^ 64
  told_fits (Store offset) = omega arith
  told_fits (Drain line fence) = told_at (address (8 * line + fence.word)) fence.at fence.word

  -- and so each step of a machine that goes on as its filling does
  pub machine_fills : {M : Type 0} (Fits : M → Type 0) (far : M → Filling) (goes : Option Filling → Turn M (Unit {0})) (filling : Filling) → IsFilling part.lines filling → IsFilledTo l part filling words
      → ((next : Filling) (after : List ℕ) → IsFilling part.lines next → IsFilledTo l part next after → FillAfter Fits far l part (goes (Some next)) after)
      → ((after : List ℕ) → IsFilled l part after → FillAfter Fits far l part (goes None) after)
      → FillStep Fits far l part (asks_for filling) (λ x. goes (filling_next part.lines filling x)) words
  machine_fills Fits far goes filling sound to on end =
      let step = step_fills filling sound to in
      let told = got l words (asks_for filling) in
      record { can = step.can; after = of (filling_next part.lines filling told) step.after (filling_fewer part.lines filling told sound (told_fits filling)) }
    where
      of : (next : Option Filling) → AfterFilling l part next (acted l words (asks_for filling)) → Fewer part.lines (filling_left part.lines filling) next → FillAfter Fits far l part (goes next) (acted l words (asks_for filling))
      of (Some next) after fewer = on next (acted l words (asks_for filling)) fewer.0 after
      of None after fewer = end (acted l words (asks_for filling)) after

-- A leaf.

leaf_fits : (key : ℕ → ℕ) (node o : ℕ) → ((k : ℕ) → key k < 2 ^ 64) → node + 1 < 2 ^ 64 → leaf_value key node o < 2 ^ 64
leaf_fits key node o each lt = elim (ltb o 3) as (λ b. cond b (key o) (cond (o == 3) (node + 1) 0) < 2 ^ 64) [
  | true ↦ each o
  | false ↦ elim (o == 3) as (λ b. cond b (node + 1) 0 < 2 ^ 64) [ true ↦ lt | false ↦ omega arith ]
]

leaf_is_part : (m : FillLeaf) → IsFillLeaf m → IsPart m.layout (leaf_part m)
leaf_is_part m is =
    let few = is.layout.nodes.1 in
    let node = is.node in
    record {
      has = λ o lt. (is.number, omega arith);
      apart = λ o p e. leaves_apart m.number o p e;
      no_header = λ o k e. no_leaf m.number o k e;
      fits = λ o. leaf_fits (slice_index m.key) m.node o is.key (omega arith);
    }
  where
    leaves_apart : (n o p : ℕ) → Leaf n o ≡ Leaf n p → o ≡ p
    leaves_apart n o p e = cc

    no_leaf : (n o k : ℕ) → Leaf n o ≢ Header k
    no_leaf n o k e = cc

pub leaves_are_filled : LeavesAreFilled
leaves_are_filled m words is row to =
    machine_fills m.layout (leaf_part m) words row (leaf_is_part m is) IsFillLeaf (λ leaf. leaf.at) (fill_leaf_goes m) m.at is.here to
    (λ next after here filled. (record { layout = is.layout; number = is.number; key = is.key; node = is.node; here = here }, filled)) (λ after filled. filled)

-- A cell.

cell_words : (kind o : ℕ) → 2 ≤ kind → kind ≤ 5 → o < 8 * lines_of kind → o < kind_words kind
cell_words zero o low high lt = absurd (omega arith)
cell_words (suc zero) o low high lt = absurd (omega arith)
cell_words (suc (suc zero)) o low high lt = lt
cell_words (suc (suc (suc zero))) o low high lt = lt
cell_words (suc (suc (suc (suc zero)))) o low high lt = lt
cell_words (suc (suc (suc (suc (suc zero))))) o low high lt = lt
cell_words (suc (suc (suc (suc (suc (suc kind)))))) o low high lt = absurd (omega arith)

cell_is_part : (m : FillCell) → IsFillCell m → IsPart m.layout (cell_part m)
cell_is_part m is = record {
  has = λ o lt. (is.kind.0, is.kind.1, is.number, cell_words m.cell.kind o is.kind.0 is.kind.1 lt);
  apart = λ o p e. cells_apart m.cell.kind m.number o p e;
  no_header = λ o k e. no_cell m.cell.kind m.number o k e;
  fits = is.words;
}
  where
    cells_apart : (kind n o p : ℕ) → Cell kind n o ≡ Cell kind n p → o ≡ p
    cells_apart kind n o p e = cc

    no_cell : (kind n o k : ℕ) → Cell kind n o ≢ Header k
    no_cell kind n o k e = cc

pub cells_are_filled : CellsAreFilled
cells_are_filled m words is row to =
    machine_fills m.layout (cell_part m) words row (cell_is_part m is) IsFillCell (λ cell. cell.at) (fill_cell_goes m) m.at is.here to
    (λ next after here filled. (record { layout = is.layout; kind = is.kind; number = is.number; words = is.words; here = here }, filled)) (λ after filled. filled)
