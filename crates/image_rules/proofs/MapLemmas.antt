-- A sound image keeps a map, and no image keeps two.
use Rattle.std.proofs.Common.{◌≡◌, ◌≢◌, ℕ, zero, suc, ◌<◌, ◌≤◌, ◌⊎◌, ◌==◌, cond, List, [], ◌∷◌, Option, Some, None, true, false, inl, inr, refl, sym, ap, subst, ◌∙◌, arith}
use Rattle.std.specs.Prelude.{◌&&◌, Bool}
use Rattle.std.proofs.lemmas.Bool.{eq-eqb, ne_eqb, eqb-true, eqb-false, cases_lt}
use Rattle.std.proofs.lemmas.Map.Lookups.{exact_bytes}
use Rattle.std.specs.Cmp.Lexicographic.{nat_list_cmp_total}
use Rattle.std.specs.Ordering.{eq_by_cmp}
use Rattle.std.specs.Int.{bit_at}
use Rattle.std.specs.FinMap.{empty, insert, get-empty, get-insert, same_map}
use Rattle.cat_key.specs.Names.{IsName, name_cmp, words_of, bytes_of}
use Rattle.cat_key.proofs.Packing.{bytes_of-words_of}
use Rattle.data_node.proofs.SpotLemmas.{same_name}
use Rattle.cat_history.specs.Maps.{Map, at}
use Rattle.data_node.specs.Spots.{Spot, IsLiveIn, name_words, value_in, Finds, IsTidy}
use Rattle.data_node.specs.Lists.{ListNode, anchor_in, key_of, target_from, IsMember, IsChain, Rise}
use Rattle.data_node.proofs.ListLemmas.{not_behind, rise_at, target_in}
use Rattle.image_rules.specs.Nodes.{image_spot, image_list, image_range, IsListedNode}
use Rattle.image_rules.specs.Nodes.{target_in as name_target}
use Rattle.image_rules.proofs.WordLemmas.{image_spot-outside}
use Rattle.std.proofs.lemmas.Nat.Bits.{bit_at-zero}
use Rattle.image_rules.specs.Sound.{with_slots, with_nodes, IsMapOf}
use Rattle.pm_words.specs.declared.layout.Layout.{Layout}
use Rattle.pm_words.specs.Offsets.{bitmap_offset}
use Rattle.image_rules.specs.Laws.{SoundHasMap, HasOneMap}
use Rattle.image_rules.proofs.TidyLemmas.{sound_keeps}

-- a tidy node has one answer for a name
pub found_once : (slots : ℕ) (s : Spot) (name : List ℕ) → IsTidy slots s → (a b : Option ℕ) → Finds slots s name a → Finds slots s name b → a ≡ b
found_once slots s name tidy None None lacks lacks' = refl
found_once slots s name tidy None (Some y) lacks has = absurd (lacks has.0 has.1 has.2 has.3)
found_once slots s name tidy (Some x) None has lacks = absurd (lacks has.0 has.1 has.2 has.3)
found_once slots s name tidy (Some x) (Some y) has has' =
    let here = tidy.apart has.0 has'.0 has.1 has'.1 has.2 has'.2 (has.3 ∙ sym has'.3) in
    ap (λ (v : ℕ). Some v) (sym has.4 ∙ ap (value_in s) here ∙ has'.4)

-- what is found in some slots is found in one slot more, if that is clear or has another name
finds-next : (slot : ℕ) (s : Spot) (name : List ℕ) (found : Option ℕ) → (IsLiveIn s slot → name_words s slot ≡ words_of name → ⊥) → Finds slot s name found →
    Finds (suc slot) s name found
finds-next slot s name (Some value) other has = let within : has.0 < slot = has.1 in (has.0, omega arith, has.2, has.3, has.4)
finds-next slot s name None other lacks = λ at within live same.
    elim (cases_lt at slot) as (λ _. ⊥) [
      | inl below ↦ lacks at below live same
      | inr reached ↦
          let here : at ≡ slot = omega arith in
          other (subst (IsLiveIn s) here live) (subst (λ k. name_words s k ≡ words_of name) here same)
    ]

-- a slot that isn't live, or has another name, changes nothing that is said of the name,
slot_other : (range : List ℕ → Bool) (s : Spot) (m : Map) (slot : ℕ) (name : List ℕ) → (IsLiveIn s slot → bytes_of (name_words s slot) ≢ name) →
    at (with_slots range s m (suc slot)) name ≡ at (with_slots range s m slot) name
slot_other range s m slot name other =
    let before = with_slots range s m slot in
    let text = bytes_of (name_words s slot) in
    elim (bit_at (s bitmap_offset) slot == 1) as (λ b. (bit_at (s bitmap_offset) slot == 1) ≡ b →
    at (cond (b && range text) (insert before text (value_in s slot)) before) name ≡ at before name) [
      | false ↦ λ _. refl
      | true ↦ λ set. elim (range text) as (λ b. at (cond b (insert before text (value_in s slot)) before) name ≡ at before name) [
        | false ↦ refl
        | true ↦ elim (same_name name text) as (λ _. at (insert before text (value_in s slot)) name ≡ at before name) [
          | inl same ↦ absurd (other (eqb-true _ _ set) (sym same.0))
          | inr apart ↦ get-insert nat_list_cmp_total before text (value_in s slot) name ∙ ap (λ b. cond b (Some (value_in s slot)) (at before name)) apart.1
        ]
      ]
    ] refl

-- one that has it gives it its value,
slot_same : (range : List ℕ → Bool) (s : Spot) (m : Map) (slot : ℕ) (name : List ℕ) → range name ≡ true → IsLiveIn s slot → bytes_of (name_words s slot) ≡ name →
    at (with_slots range s m (suc slot)) name ≡ Some (value_in s slot)
slot_same range s m slot name inside live same =
    let before = with_slots range s m slot in
    let text = bytes_of (name_words s slot) in
    ap (λ b. at (cond (b && range text) (insert before text (value_in s slot)) before) name) (eq-eqb (bit_at (s bitmap_offset) slot) 1 live)
    ∙ ap (λ b. at (cond b (insert before text (value_in s slot)) before) name) (ap range same ∙ inside)
    ∙ get-insert nat_list_cmp_total before text (value_in s slot) name
    ∙ elim (same_name name text) as (λ _. cond (eq_by_cmp name_cmp name text) (Some (value_in s slot)) (at before name) ≡ Some (value_in s slot)) [
      | inl is ↦ ap (λ b. cond b (Some (value_in s slot)) (at before name)) is.1
      | inr other ↦ absurd (other.0 (sym same))
    ]

-- and where a name is out of the range, no slot changes anything
pub slots_out : (range : List ℕ → Bool) (s : Spot) (m : Map) (name : List ℕ) → range name ≡ false → (count : ℕ) → at (with_slots range s m count) name ≡ at m name
slots_out range s m name outside zero = refl
slots_out range s m name outside (suc slot) =
    let before = with_slots range s m slot in
    let text = bytes_of (name_words s slot) in
    elim (same_name name text) as (λ _. at (with_slots range s m (suc slot)) name ≡ at m name) [
      | inr other ↦ slot_other range s m slot name (λ _ same. other.0 (sym same)) ∙ slots_out range s m name outside slot
      | inl same ↦
          let none : (bit_at (s bitmap_offset) slot == 1) && range text ≡ false =
          ap (λ b. (bit_at (s bitmap_offset) slot == 1) && b) (ap range (sym same.0) ∙ outside) ∙ and_false (bit_at (s bitmap_offset) slot == 1) in
          ap (λ b. at (cond b (insert before text (value_in s slot)) before) name) none ∙ slots_out range s m name outside slot
    ]
  where
    and_false : (b : Bool) → b && false ≡ false
    and_false true = refl
    and_false false = refl

-- so the map has, of each name of the range, what the slots have
pub slots_find : (slots : ℕ) (range : List ℕ → Bool) (s : Spot) (m : Map) (name : List ℕ) → IsTidy slots s → IsName name → range name ≡ true → at m name ≡ None →
    (count : ℕ) → count ≤ slots → Finds count s name (at (with_slots range s m count) name)
slots_find slots range s m name tidy is inside new zero within = subst (Finds 0 s name) (sym new) (λ slot below live same. omega (arith, below))
slots_find slots range s m name tidy is inside new (suc slot) within =
    let before = slots_find slots range s m name tidy is inside new slot (omega arith) in
    elim (bit_at (s bitmap_offset) slot == 1) as (λ b. (bit_at (s bitmap_offset) slot == 1) ≡ b → Finds (suc slot) s name (at (with_slots range s m (suc slot)) name)) [
      | false ↦ λ clear.
          let dead : IsLiveIn s slot → ⊥ = eqb-false _ _ clear in
          subst (Finds (suc slot) s name) (sym (slot_other range s m slot name (λ live. absurd (dead live)))) (finds-next slot s name (at (with_slots range s m slot) name) (λ live _. dead live) before)
      | true ↦ λ set.
          let live : IsLiveIn s slot = eqb-true _ _ set in
          let named = tidy.named slot (omega arith) live in
          let text = bytes_of (name_words s slot) in
          let text_is : text ≡ named.0 = ap bytes_of (sym named.2) ∙ bytes_of-words_of named.0 named.1 in
          elim (same_name name text) as (λ _. Finds (suc slot) s name (at (with_slots range s m (suc slot)) name)) [
            | inl same ↦
                subst (Finds (suc slot) s name) (sym (slot_same range s m slot name inside live (sym same.0)))
                (slot, omega arith, live, sym named.2 ∙ ap words_of (sym (same.0 ∙ text_is)), refl)
            | inr other ↦
                subst (Finds (suc slot) s name) (sym (slot_other range s m slot name (λ _ same. other.0 (sym same))))
                (finds-next slot s name (at (with_slots range s m slot) name) (λ _ stands. other.0 (sym (ap bytes_of stands ∙ bytes_of-words_of name is))) before)
          ]
    ] refl

-- Names are all that the map has.
abbrev pub HasNames : Map → Type 0
HasNames m = (name : List ℕ) (value : ℕ) → at m name ≡ Some value → IsName name

pub slots_names : (slots : ℕ) (range : List ℕ → Bool) (s : Spot) (m : Map) → IsTidy slots s → HasNames m → (count : ℕ) → count ≤ slots → HasNames (with_slots range s m count)
slots_names slots range s m tidy names zero within = names
slots_names slots range s m tidy names (suc slot) within = λ name value has.
    elim (bit_at (s bitmap_offset) slot == 1) as (λ b. (bit_at (s bitmap_offset) slot == 1) ≡ b → IsName name) [
      | false ↦ λ clear.
          slots_names slots range s m tidy names slot (omega arith) name value (sym (slot_other range s m slot name (λ live. absurd (eqb-false _ _ clear live))) ∙ has)
      | true ↦ λ set.
          let named = tidy.named slot (omega arith) (eqb-true _ _ set) in
          let text = bytes_of (name_words s slot) in
          let text_is : text ≡ named.0 = ap bytes_of (sym named.2) ∙ bytes_of-words_of named.0 named.1 in
          elim (same_name name text) as (λ _. IsName name) [
            | inl same ↦ subst IsName (sym (same.0 ∙ text_is)) named.1
            | inr other ↦ slots_names slots range s m tidy names slot (omega arith) name value (sym (slot_other range s m slot name (λ _ same. other.0 (sym same))) ∙ has)
          ]
    ] refl

-- Along a list a name gets what the node has to which it belongs, and no other node changes that.
module _ (slots : ℕ) (range : ℕ → List ℕ → Bool) (now : ℕ → Spot) (name : List ℕ) where
  nodes_out : (m : Map) (here : ℕ) (list : List ListNode) → ((n : ℕ) → (n ≡ here) ⊎ IsMember list n → range n name ≡ false) →
      at (with_nodes slots range now m here list) name ≡ at m name
  nodes_out m here [] outside = slots_out (range here) (now here) m name (outside here (inl refl)) slots
  nodes_out m here (next ∷ behind) outside =
      nodes_out (with_slots (range here) (now here) m slots) next.node behind (λ n among. outside n (inr among))
      ∙ slots_out (range here) (now here) m name (outside here (inl refl)) slots

  nodes_find : (target : ℕ) (m : Map) (here : ℕ) (list : List ListNode) → IsChain now here list → Rise (anchor_in (now here)) list → (target ≡ here) ⊎ IsMember list target →
      IsTidy slots (now target) → IsName name → range target name ≡ true → ((n : ℕ) → n ≢ target → range n name ≡ false) → at m name ≡ None →
      Finds slots (now target) name (at (with_nodes slots range now m here list) name)
  nodes_find target m here [] chain rise (inl same) tidy is inside outside new =
      subst (λ k. Finds slots (now target) name (at (with_slots (range k) (now k) m slots) name)) same (slots_find slots (range target) (now target) m name tidy is inside new slots (omega arith))
  nodes_find target m here [] chain rise (inr among) tidy is inside outside new = absurd among
  nodes_find target m here (next ∷ behind) chain rise (inl same) tidy is inside outside new =
      let rest = nodes_out (with_slots (range here) (now here) m slots) next.node behind
      (λ n among. outside n (λ one. not_behind now here (next ∷ behind) chain rise (subst (λ k. (k ≡ next.node) ⊎ IsMember behind k) (one ∙ same) among))) in
      subst (Finds slots (now target) name) (sym rest)
      (subst (λ k. Finds slots (now target) name (at (with_slots (range k) (now k) m slots) name)) same (slots_find slots (range target) (now target) m name tidy is inside new slots (omega arith)))
  nodes_find target m here (next ∷ behind) chain rise (inr among) tidy is inside outside new =
      let other : here ≢ target = (λ one. not_behind now here (next ∷ behind) chain rise (subst (λ k. (k ≡ next.node) ⊎ IsMember behind k) (sym one) among)) in
      nodes_find target (with_slots (range here) (now here) m slots) next.node behind chain.3 (rise_at now next behind chain.2 rise.1) among tidy is inside outside
      (slots_out (range here) (now here) m name (outside here other) slots ∙ new)

nodes_names : (slots : ℕ) (range : ℕ → List ℕ → Bool) (now : ℕ → Spot) (m : Map) (here : ℕ) (list : List ListNode) →
    ((n : ℕ) → (n ≡ here) ⊎ IsMember list n → IsTidy slots (now n)) → HasNames m → HasNames (with_nodes slots range now m here list)
nodes_names slots range now m here [] tidy names = slots_names slots (range here) (now here) m (tidy here (inl refl)) names slots (omega arith)
nodes_names slots range now m here (next ∷ behind) tidy names =
    nodes_names slots range now (with_slots (range here) (now here) m slots) next.node behind (λ n among. tidy n (inr among))
    (slots_names slots (range here) (now here) m (tidy here (inl refl)) names slots (omega arith))

pub sound_has_map : SoundHasMap
sound_has_map l image sound =
    let keeps = sound_keeps l image sound in
    let list = image_list l image in
    let now = image_spot l image in
    record {
      means = λ n listed. record {
        tidy = keeps.tidy n listed;
        agrees = λ name is inside.
            let here : target_from 0 list (key_of name) ≡ n = eqb-true _ _ inside in
            nodes_find l.slots (image_range l image) now name n empty 0 list keeps.list.chain (subst (λ k. Rise k list) (sym keeps.list.lowest) keeps.list.rise) listed
            (keeps.tidy n listed) is inside (λ other apart. ne_eqb (target_from 0 list (key_of name)) other (λ same. apart (sym same ∙ here))) (get-empty name_cmp name);
      };
      names = nodes_names l.slots (image_range l image) now empty 0 list keeps.tidy (λ name value has. absurd (let none : None ≡ Some value = sym (get-empty name_cmp name) ∙ has in cc));
    }

-- each name belongs to a listed node
pub has_one_map : HasOneMap
has_one_map l image m n of_m of_n = same_map nat_list_cmp_total exact_bytes m n alike where
  named : (name : List ℕ) → IsName name → at m name ≡ at n name
  named name is =
      let target = target_from 0 (image_list l image) (key_of name) in
      let listed : IsListedNode l image target = target_in 0 (image_list l image) (key_of name) in
      let a = of_m.means target listed in
      let b = of_n.means target listed in
      found_once l.slots (image_spot l image target) name a.tidy (at m name) (at n name) (a.agrees name is (eq-eqb target target refl)) (b.agrees name is (eq-eqb target target refl))

  alike : (name : List ℕ) → at m name ≡ at n name
  alike name =
      elim (at m name) as (λ o. at m name ≡ o → o ≡ at n name) [
        | Some x ↦ λ has. sym has ∙ named name (of_m.names name x has)
        | None ↦ λ lacks.
            elim (at n name) as (λ o. at n name ≡ o → None ≡ o) [
              | None ↦ λ _. refl
              | Some y ↦ λ has. sym lacks ∙ named name (of_n.names name y has) ∙ has
            ] refl
      ] refl

-- what the slots of the node have to which a name belongs is what the map has
pub in_target : (l : Layout) (image : List ℕ) (m : Map) (name : List ℕ) (n : ℕ) → IsMapOf l image m → IsName name → n ≡ name_target l image name → (found : Option ℕ) →
    Finds l.slots (image_spot l image n) name found → found ≡ at m name
in_target l image m name n of_m is here found finds =
    let target = name_target l image name in
    let means = of_m.means target (target_in 0 (image_list l image) (key_of name)) in
    found_once l.slots (image_spot l image target) name means.tidy found (at m name) (subst (λ (k : ℕ). Finds l.slots (image_spot l image k) name found) here finds)
    (means.agrees name is (eq-eqb target target refl))

-- and a node that the image doesn't have has none
pub in_no_target : (l : Layout) (image : List ℕ) (m : Map) (name : List ℕ) → IsMapOf l image m → IsName name → l.nodes ≤ name_target l image name → None ≡ at m name
in_no_target l image m name of_m is out =
    in_target l image m name (name_target l image name) of_m is refl None (λ slot within live same.
    let bitmap = image_spot-outside l image (name_target l image name) bitmap_offset out in
    let clear : bit_at (image_spot l image (name_target l image name) bitmap_offset) slot ≡ 0 = ap (λ w. bit_at w slot) bitmap ∙ bit_at-zero slot in
    omega (arith, clear, live))
