-- The lowest offset at which a node breaks a rule, from the lowest slot that does; and the lowest word.
use Rattle.std.proofs.Common.{◌≡◌, ℕ, ◌+◌, ◌*◌, ◌/◌, ◌<◌, ◌≤◌, ◌==◌, ◌↔◌, List, Some, None, inl, inr, refl, sym, ap, subst, ◌∙◌, arith}
use Rattle.std.specs.Prelude.{not, IsTrue}
use Rattle.std.proofs.lemmas.Bool.{cases_lt, cases_eq, eq-eqb, ne_eqb, false≢true}
use Rattle.std.proofs.Math.Nat.{div-eq_of_lt, lt-div-mul-add}
use Rattle.cat_key.specs.Names.{IsName, words_of, fingerprint_of}
use Rattle.cat_key.proofs.Packing.{words_tell_names}
use Rattle.pm_words.specs.declared.layout.Layout.{Layout}
use Rattle.pm_words.specs.Locations.{Word, Node, word_number}
use Rattle.pm_words.specs.Offsets.{print_offset, slot_offset}
use Rattle.data_node.specs.Spots.{Spot, IsLiveIn, name_words, print_in_spot}
use Rattle.image_rules.specs.Lowest.{IsLowest, IsNumberOf}
use Rattle.image_rules.specs.Nodes.{image_spot, IsListedAt}
use Rattle.image_rules.specs.Rules.{IsMisprinted, IsRepeated, BreaksPrints, BreaksApart, BreaksBy, BreaksInNode}
use Rattle.image_rules.specs.declared.listed.NodeRule.{NodeRule}
use Rattle.image_rules.proofs.LowestLemmas.{Moves, lowest-some}
use Rattle.image_rules.proofs.WalkLemmas.{Walks, same_node}

-- a bitmap has a bit from the slots on exactly where it is still something without the bits of the slots
pub past_slots : (bitmap power : ℕ) → 0 < power → IsTrue (not (bitmap / power == 0)) ↔ (power ≤ bitmap)
past_slots bitmap power positive =
    elim (cases_lt bitmap power) as (λ _. IsTrue (not (bitmap / power == 0)) ↔ (power ≤ bitmap)) [
      | inl below ↦ (λ yes. absurd (false≢true (sym (ap not (eq-eqb (bitmap / power) 0 (div-eq_of_lt below))) ∙ yes)), λ reached. absurd (omega arith))
      | inr reached ↦ (λ _. reached, λ _. ap not (ne_eqb (bitmap / power) 0 (some reached)))
    ] where
      some : power ≤ bitmap → bitmap / power ≡ 0 → ⊥
      some reached none =
          let bound : bitmap < bitmap / power * power + power = lt-div-mul-add positive in
          let rest : bitmap / power * power ≡ 0 = ap (λ q. q * power) none ∙ omega arith in
          omega arith

pub prints_move : (slots : ℕ) (s : Spot) → Moves (IsMisprinted slots s) (BreaksPrints slots s) print_offset
prints_move slots s = record { to = λ slot is. (slot, refl, is); from = λ offset is. (is.0, is.2, sym is.1); rises = λ a b below. omega arith }

pub apart_move : (slots : ℕ) (s : Spot) → Moves (IsRepeated slots s) (BreaksApart slots s) (λ slot. slot_offset slot 0)
apart_move slots s = record { to = λ slot is. (slot, refl, is); from = λ offset is. (is.0, is.2, sym is.1); rises = λ a b below. omega arith }

-- the offset at which the node at a position breaks a rule, as a word
pub offsets_move : (l : Layout) (image : List ℕ) (rule : NodeRule) (position node : ℕ) → IsListedAt l image position node →
    Moves (BreaksBy rule l.slots (image_spot l image node)) (IsNumberOf l (BreaksInNode l image rule position)) (λ offset. word_number l (Node node offset))
offsets_move l image rule position node listed = record {
  to = λ offset breaks. record { word = Node node offset; numbered = refl; holds = record { node = node; offset = offset; listed = listed; here = refl; breaks = breaks } };
  from = λ there is.
      let at = is.holds in
      let same = same_node l image position at.node node at.listed listed in (
        at.offset,
        subst (λ n. BreaksBy rule l.slots (image_spot l image n) at.offset) same at.breaks,
        ap (λ n. word_number l (Node n at.offset)) (sym same) ∙ sym (ap (word_number l) at.here) ∙ is.numbered,
      );
  rises = λ a b below. omega arith;
}

-- so what is known of the node is known of the position
pub in_node_kept : {l : Layout} {image : List ℕ} {P : ℕ → Word → Type 0} {position node : ℕ} (rule : NodeRule) → Walks l image P position node → position ≤ l.nodes →
    IsLowest (BreaksBy rule l.slots (image_spot l image node)) None → (w : Word) → ¬ BreaksInNode l image rule position w
in_node_kept {l} {image} {P} {position} {node} rule walks within none w breaks =
    let same = same_node l image position breaks.node node breaks.listed (walks.at within) in
    none breaks.offset (subst (λ n. BreaksBy rule l.slots (image_spot l image n) breaks.offset) same breaks.breaks)

pub in_node_found : {l : Layout} {image : List ℕ} {P : ℕ → Word → Type 0} {position node : ℕ} (rule : NodeRule) (offset number : ℕ) → Walks l image P position node → position ≤ l.nodes →
    number ≡ word_number l (Node node offset) → IsLowest (BreaksBy rule l.slots (image_spot l image node)) (Some offset) → IsLowest (IsNumberOf l (BreaksInNode l image rule position)) (Some number)
in_node_found {l} {image} {P} {position} {node} rule offset number walks within is =
    lowest-some (BreaksBy rule l.slots (image_spot l image node)) (IsNumberOf l (BreaksInNode l image rule position)) (λ o. word_number l (Node node o)) offset number
    (offsets_move l image rule position node (walks.at within)) is

-- a live slot that has a name is misprinted exactly where that name's fingerprint is another than the slot's
pub misprinted_if : (slots : ℕ) (s : Spot) (slot : ℕ) (name : List ℕ) (mark print : ℕ) → slot < slots → IsLiveIn s slot → IsName name →
    words_of name ≡ name_words s slot → mark ≡ fingerprint_of name → print ≡ print_in_spot s slot → IsTrue (not (mark == print)) ↔ IsMisprinted slots s slot
misprinted_if slots s slot name mark print within live is_name stands of_name of_slot =
    elim (cases_eq mark print) as (λ _. IsTrue (not (mark == print)) ↔ IsMisprinted slots s slot) [
      | inl same ↦ (λ yes. absurd (false≢true (sym (ap not (eq-eqb mark print same)) ∙ yes)), λ is. absurd (is.other (sym of_slot ∙ sym same ∙ of_name ∙ ap fingerprint_of (one_name is))))
      | inr other ↦ (
        λ _. record { within = within; live = live; name = name; is_name = is_name; stands = stands; other = λ same. other (of_name ∙ sym same ∙ sym of_slot) },
        λ _. ap not (ne_eqb mark print other),
      )
    ] where
      one_name : (is : IsMisprinted slots s slot) → name ≡ is.name
      one_name is = words_tell_names name is.name is_name is.is_name (stands ∙ sym is.stands)
