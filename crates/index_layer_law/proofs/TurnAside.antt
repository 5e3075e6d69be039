-- Stores of a turn that touch neither nodes nor lines: of the updater lock, of stamps, and of the layer.
use Rattle.std.proofs.Common.{◌≡◌, ◌≢◌, ℕ, ◌≤◌, ◌⊎◌, ⊎_elim, inl, inr, true, false, cond, List, refl, sym, ap, subst}
use Rattle.std.proofs.Common.{arith}
use Rattle.std.specs.Prelude.{nat_lt}
use Rattle.std.proofs.lemmas.Bool.{ltb-true}
use Rattle.pm_words.specs.declared.layout.Layout.{Layout}
use Rattle.pm_words.specs.Locations.{Word, Header, Line, Node, Location, Clock, Updater, Volatile, Cached, Durable}
use Rattle.pm_words.specs.Locations.{HasWord, HasLocation, at, Root, Leaf, Cell}
use Rattle.pm_words.specs.Rows.{IsRow}
use Rattle.cat_history.specs.Maps.{Map}
use Rattle.cat_history.specs.declared.op.Write.{Write}
use Rattle.data_node.specs.Lists.{members_from}
use Rattle.pm_words.specs.Offsets.{version_offset, state_offset, status_offset, prev_offset, stamp_offset}
use Rattle.pm_words.specs.Codes.{empty_state}
use Rattle.index_law.specs.Facts.{facts_of, version_in, status_in, spot_in}
use Rattle.index_law.specs.Lawful.{Lawful}
use Rattle.index_law.specs.Lines.{line_in}
use Rattle.index_law.specs.Prevs.{prev_in}
use Rattle.index_law.specs.Whole.{Whole, IsWhole}
use Rattle.index_law.specs.Footings.{IsInHand, NeedsNoParty, AreTended}
use Rattle.index_law.proofs.Noting.{LinesStay, line-alike, safe-alike, beside_law}
use Rattle.index_law.proofs.Rows.{version_in-alike, status_in-alike, spot_in-alike}
use Rattle.index_law.proofs.Twins.{IsAside, IsNearer}
use Rattle.index_law.proofs.Whole.{traced_same, joint_same}
use Rattle.layer_map.specs.Places.{is_of_layer, is_layer_word}
use Rattle.updater_row_law.specs.search_layer.specs.RootLine.{RootLineStays}

-- a location that none of these stores touches
pub record IsUntouched (p : Location) : Type 0 where
  pub lock : p ≢ Updater
  pub stamp : (n : ℕ) → p ≢ Volatile n stamp_offset
  pub layer : is_of_layer p ≡ false

-- Those stay, and behind the first word of the root's line the cached words, while the durable ones stay or become them.
pub record KeepsRest (l : Layout) (words after : List ℕ) : Type 0 where
  pub rest : (p : Location) → HasLocation l p → IsUntouched p → at l after p ≡ at l words p
  pub root : RootLineStays l words after

abbrev offset_at : Location → ℕ
offset_at (Volatile n o) = o
offset_at _ = 0

-- words that aren't the layer's are kept, as cached and as durable
kept_cached : (w : Word) → is_layer_word w ≡ false → IsUntouched (Cached w)
kept_cached w other = record { lock = λ e. cc; stamp = λ n e. cc; layer = other }

kept_durable : (w : Word) → is_layer_word w ≡ false → IsUntouched (Durable w)
kept_durable w other = record { lock = λ e. cc; stamp = λ n e. cc; layer = other }

-- the root's word alone is aside in its line
behind_first : (o : ℕ) → (o ≡ 0 → ⊥) → 1 ≤ o
behind_first o aside = omega (arith, aside)

pub kept_volatile : (n offset : ℕ) → offset ≢ 2 → IsUntouched (Volatile n offset)
kept_volatile n offset other = record { lock = λ e. cc; stamp = λ m e. other (ap offset_at e); layer = refl }

module _ (l : Layout) (words after : List ℕ) (same : KeepsRest l words after) where
  pub facts_kept : (base : Map) (history : List Write) → facts_of l after base history ≡ facts_of l words base history
  facts_kept base history =
      let version : (n : ℕ) → version_in l after n ≡ version_in l words n =
      λ n. version_in-alike l words after n (λ here. same.rest (Cached (Node n version_offset)) (here, omega arith) (kept_cached (Node n version_offset) refl)) in
      let status : (n : ℕ) → status_in l after n ≡ status_in l words n =
      λ n. status_in-alike l words after n (λ here. same.rest (Volatile n status_offset) (here, omega arith) (kept_volatile n status_offset (λ e. omega arith))) in
      let spot : (n offset : ℕ) → spot_in l after n offset ≡ spot_in l words n offset =
      λ n offset. spot_in-alike l words after n offset (λ has positive. same.rest (Cached (Node n offset)) has (kept_cached (Node n offset) refl)) in
      λ k. record { version = λ n. version n k; status = λ n. status n k; now = λ n offset. spot n offset k; list = members_from (λ n offset. spot n offset k) l.nodes 0; base = base; history = history }

  pub lines_kept : (c j offset : ℕ) → LinesStay l words after c j offset
  lines_kept c j offset =
      let cached = λ (has : HasWord l (Line c j offset)). same.rest (Cached (Line c j offset)) has (record { lock = λ e. cc; stamp = λ n e. cc; layer = refl }) in
      let durable = λ (has : HasWord l (Line c j offset)). same.rest (Durable (Line c j offset)) has (record { lock = λ e. cc; stamp = λ n e. cc; layer = refl }) in
      (line-alike l words after c j offset cached, safe-alike l words after c j offset durable)

  pub prevs_kept : (n : ℕ) → prev_in l after n ≡ prev_in l words n
  unfolding prev_in
  prevs_kept n =
      elim (nat_lt n l.nodes) as (λ b. nat_lt n l.nodes ≡ b → cond b (at l after (Volatile n prev_offset)) 0 ≡ cond b (at l words (Volatile n prev_offset)) 0) [
        | true ↦ λ is. same.rest (Volatile n prev_offset) (ltb-true n l.nodes is, omega arith) (kept_volatile n prev_offset (λ e. omega arith))
        | false ↦ λ _. refl
      ] refl

  nearer_kept : IsNearer l words after
  nearer_kept (Header o) has aside = inl (same.rest (Durable (Header o)) has (kept_durable (Header o) refl))
  nearer_kept (Root o) has aside = same.root.durable o (behind_first o aside) has
  nearer_kept (Node n o) has aside = inl (same.rest (Durable (Node n o)) has (kept_durable (Node n o) refl))
  nearer_kept (Line c j o) has aside = absurd (aside tt)
  nearer_kept (Leaf k o) has aside = absurd (aside tt)
  nearer_kept (Cell kind k o) has aside = absurd (aside tt)

  cached_kept : (w : Word) → HasWord l w → (IsAside w → ⊥) → at l after (Cached w) ≡ at l words (Cached w)
  cached_kept (Header o) has aside = same.rest (Cached (Header o)) has (kept_cached (Header o) refl)
  cached_kept (Root o) has aside = same.root.cached o (behind_first o aside) has
  cached_kept (Node n o) has aside = same.rest (Cached (Node n o)) has (kept_cached (Node n o) refl)
  cached_kept (Line c j o) has aside = absurd (aside tt)
  cached_kept (Leaf k o) has aside = absurd (aside tt)
  cached_kept (Cell kind k o) has aside = absurd (aside tt)

-- the index stays whole, and its lines tended
module _ (z : Whole) (after : List ℕ) (same : KeepsRest z.world.layout z.world.words after) where
  aside_lawful : IsRow z.world.layout after → Lawful z.world → Lawful (record (z.world) { words = after })
  aside_lawful row lawful = beside_law z.world after lawful row
      (facts_kept z.world.layout z.world.words after same z.world.base z.world.history)
      (nearer_kept z.world.layout z.world.words after same)
      (same.rest Clock tt (record { lock = λ e. cc; stamp = λ n e. cc; layer = refl }))
      (cached_kept z.world.layout z.world.words after same)

  pub aside_whole : IsRow z.world.layout after → IsWhole z → IsWhole (record z { world = record (z.world) { words = after } })
  aside_whole row whole =
      let lawful = aside_lawful row whole.joint.lawful in
      record {
        joint = joint_same (record { world = z.world; lines = z.lines }) after whole.joint lawful (lines_kept z.world.layout z.world.words after same);
        traced = traced_same (record { world = z.world; debts = z.debts }) after whole.traced lawful
            (facts_kept z.world.layout z.world.words after same z.world.base z.world.history)
            (prevs_kept z.world.layout z.world.words after same);
      }

-- where no state of a line is another, or one is EMPTY then
pub still_tended : (z : Whole) (after : List ℕ) → ((c j : ℕ) → (line_in z.world.layout after c j state_offset ≡ empty_state) ⊎ (line_in z.world.layout after c j state_offset ≡ line_in z.world.layout z.world.words c j state_offset))
    → AreTended z → AreTended (record z { world = record (z.world) { words = after } })
still_tended z after states tended c j here low = ⊎_elim
    (λ (empty : line_in z.world.layout after c j state_offset ≡ empty_state). inl (inl empty))
    (λ stays. ⊎_elim
    (λ none. inl (subst NeedsNoParty (sym stays) none))
    (λ (hand : IsInHand z c j). inr (record { number = hand.number; line = hand.line; there = hand.there; caller = hand.caller; index = hand.index }))
    (tended c j here low))
    (states c j)
