-- A log line that a call has, beside the nodes, and the steps that it makes on it.
use Rattle.std.specs.Prelude.{◌≡◌, ◌≢◌, ℕ, ◌<◌, ◌^◌, ◌⊎◌, Bool, true, false, List, [], ◌∷◌, Option, Some, None}
use Rattle.std.specs.List.{AllByRecursion}
use Rattle.pm_words.specs.declared.layout.Layout.{Layout}
use Rattle.pm_words.specs.declared.action.Action.{Action}
use Rattle.pm_words.specs.declared.action.Action.TheVariants.{Load, Store, Drain}
use Rattle.pm_words.specs.Locations.{address_of, Cached, Line}
use Rattle.pm_words.specs.Codes.{empty_state, open_state, ready_state}
use Rattle.pm_words.specs.Offsets.{state_offset}
use Rattle.data_node.specs.Spots.{Spot, updated}
use Rattle.data_node.specs.Lines as lines
use Rattle.call_stages.specs.Stages.{IsAmong, Tells}
use Rattle.call_stages.specs.Kinds.{Soils, Cleans}

-- A line of the caller: words of it by offset, those that may differ from their durable twins, and the word in hand.
-- Once the line is READY its state isn't the party's any more: a turn may empty it at any time.
pub record HeldLine : Type 0 where
  pub caller : ℕ
  pub number : ℕ
  pub seen : List (ℕ × ℕ)
  pub dirty : List (ℕ × ℕ)
  pub hand : Option (ℕ × ℕ)
  pub ready : Bool  -- its state was made READY

abbrev pub line_address : Layout → ℕ → ℕ → ℕ → ℕ
line_address l c j offset = address_of l (Cached (Line c j offset))

-- A line that isn't EMPTY: a split or a merge of two nodes, with the anchor of the new or the merged one.
abbrev pub IsEntry : Layout → Spot → Type 0
IsEntry l s = lines.IsEntry l.nodes s

abbrev pub IsFitLine : Layout → Spot → Type 0
IsFitLine l s = lines.IsFitLine l.nodes s

-- The words that are known and durable are as known.
abbrev pub TellsDurably : List (ℕ × ℕ) → List (ℕ × ℕ) → Spot → Type 0
TellsDurably dirty seen s = AllByRecursion (λ (w : ℕ × ℕ). IsAmong dirty w.0 ⊎ (s w.0 ≡ w.1)) seen

-- What is known of the words says nothing of the state.
abbrev pub IsBlind : List (ℕ × ℕ) → Type 0
IsBlind seen = (s : Spot) (state : ℕ) → Tells seen s → Tells seen (updated s state_offset state)

-- What a store into a line of the party is for: from what is known of the line, with what is known then, and whether
-- the line is READY then.
pub data Marks (e : HeldLine) : ℕ → ℕ → List (ℕ × ℕ) → Bool → Type 0 where
  -- a field, while the line is EMPTY
  fills : {y offset : ℕ} {seen : List (ℕ × ℕ)} → offset ≢ state_offset → e.ready ≡ false →
      ((s : Spot) → Tells e.seen s → s state_offset ≡ empty_state) → Marks e offset y seen false
  -- its state: OPEN, of an EMPTY line;
  opens : {seen : List (ℕ × ℕ)} → e.ready ≡ false →
      ((s : Spot) → Tells e.seen s → s state_offset ≡ empty_state) → Marks e state_offset open_state seen false
  -- READY, of an OPEN line, all of which is durable
  readies : {seen : List (ℕ × ℕ)} → e.ready ≡ false → e.dirty ≡ [] →
      ((s : Spot) → Tells e.seen s → s state_offset ≡ open_state) → IsBlind seen →
      Marks e state_offset ready_state seen true

-- The steps on a line: a word of a line is loaded that nothing is relied on of; an EMPTY line is taken, its words are
-- loaded, stored so that it stays in order whichever of them are durable, and made durable. What is no longer relied on
-- is let go at any step on nodes.
pub data Notes (l : Layout) : Option HeldLine → Action → ℕ → Option HeldLine → Type 0 where
  passes_line : {c j offset x : ℕ} → c < l.callers → j < 8 → offset < 8 →
      Notes l None (Load (line_address l c j offset)) x None
  takes : {c j x : ℕ} → c < l.callers → j < 8 → x ≡ empty_state →
      Notes l None (Load (line_address l c j state_offset)) x (Some (record {
        caller = c;
        number = j;
        seen = (state_offset, x) ∷ [];
        dirty = (state_offset, 8) ∷ [];
        hand = None;
        ready = false;
      }))
  looks_up : {x offset : ℕ} {e : HeldLine} {seen : List (ℕ × ℕ)} → offset < 8 →
      ((s : Spot) → Tells e.seen s → s offset ≡ x → Tells seen s) → (e.ready ≡ true → IsBlind seen) →
      Notes l (Some e) (Load (line_address l e.caller e.number offset)) x (Some (record e {
        seen = seen;
        hand = Some (offset, x);
      }))
  notes : {x y offset : ℕ} {e : HeldLine} {seen dirty : List (ℕ × ℕ)} {ready : Bool} → offset < 8 → y < 2 ^ 64 →
      Marks e offset y seen ready → Soils e.dirty offset dirty →
      ((s : Spot) → Tells e.seen s → Tells seen (updated s offset y)) →
      ((s : Spot) → TellsDurably e.dirty e.seen s → IsFitLine l s → IsFitLine l (updated s offset y)) →
      Notes l (Some e) (Store (line_address l e.caller e.number offset) y) x (Some (record e {
        seen = seen;
        dirty = dirty;
        hand = None;
        ready = ready;
      }))
  keeps_safe : {x y offset : ℕ} {e : HeldLine} {dirty : List (ℕ × ℕ)} → offset < 8 → y < 2 ^ 64 →
      e.hand ≡ Some (offset, y) → Cleans e.dirty offset dirty →
      Notes l (Some e) (Drain (line_address l e.caller e.number offset) y) x (Some (record e {
        dirty = dirty;
        hand = None;
      }))
