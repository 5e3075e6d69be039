-- What the slots of a node add to a map whose names are all below theirs: their entries, behind those of the map.
use Rattle.std.proofs.Common.{◌≡◌, ℕ, zero, suc, ◌+◌, ◌<◌, Bool, true, false, cond, Less, Equal, Greater, Option, Some, None, List, [], ◌∷◌, ◌++◌, refl, sym, ap, subst, ◌∙◌, arith}
use Rattle.std.proofs.lemmas.List.{append-nil}
use Rattle.std.specs.BTreeMap.{insert_entry}
use Rattle.std.specs.Cmp.Lexicographic.{nat_list_cmp_total}
use Rattle.std.specs.FinMap.{empty, insert, entries, entries-insert, put}
use Rattle.std.specs.FinMap.Entries.{by_order}
use Rattle.std.specs.List.{AllByRecursion}
use Rattle.cat_key.specs.Names.{IsName, name_cmp, words_of, bytes_of}
use Rattle.cat_key.proofs.Digits.{nat_cmp-more}
use Rattle.cat_history.specs.Maps.{Map}
use Rattle.cat_history.proofs.ReplayLemmas.{entries-none, entries-put}
use Rattle.data_node.specs.Spots.{Spot, name_words, value_in}
use Rattle.data_node.specs.Lists.{key_of}
use Rattle.data_node.specs.Weights.{has_name_in}
use Rattle.data_node.proofs.KeyLemmas.{key-number}
use Rattle.layer_map.specs.Keys.{key_number}
use Rattle.layer_map.proofs.KeyLemmas.{numbers_keep_order}
use Rattle.image_rules.specs.Sound.{with_slots}

abbrev pub Entry : Type 0
Entry = List ℕ × ℕ

-- Of each name that the map has this holds.
abbrev pub HoldsOfNames : (List ℕ → Type 0) → Map → Type 0
HoldsOfNames P m = AllByRecursion (λ (e : Entry). P e.0) (entries m)

-- The name is above all that the map has.
abbrev pub IsAbove : Map → List ℕ → Type 0
IsAbove m name = HoldsOfNames (λ other. name_cmp name other ≡ Greater) m

-- a name above those in front is put among the others
put_behind : (name : List ℕ) (value : ℕ) (es ts : List Entry) → AllByRecursion (λ (e : Entry). name_cmp name e.0 ≡ Greater) es →
    put name_cmp name value (es ++ ts) ≡ es ++ put name_cmp name value ts
put_behind name value [] ts above = refl
put_behind name value (e ∷ es) ts above =
    ap (λ o. by_order o ((name, value) ∷ e ∷ es ++ ts) ((e.0, value) ∷ es ++ ts) (e ∷ put name_cmp name value (es ++ ts))) above.0
    ∙ ap (λ (rest : List Entry). e ∷ rest) (put_behind name value es ts above.1)

-- what holds of all names holds of them and of the one that is put
put_holds : (P : List ℕ → Type 0) (name : List ℕ) (value : ℕ) (es : List Entry) → P name → AllByRecursion (λ (e : Entry). P e.0) es →
    AllByRecursion (λ (e : Entry). P e.0) (put name_cmp name value es)
put_holds P name value [] here all = (here, tt)
put_holds P name value (e ∷ es) here all =
    elim (name_cmp name e.0) as (λ o. AllByRecursion (λ (e : Entry). P e.0) (by_order o ((name, value) ∷ e ∷ es) ((e.0, value) ∷ es) (e ∷ put name_cmp name value es))) [
      | Less ↦ (here, all)
      | Equal ↦ all
      | Greater ↦ (all.0, put_holds P name value es here all.1)
    ]

-- The names that the first so many slots have in the range: of each of them this holds.
abbrev pub HoldsOfSlots : (List ℕ → Type 0) → (List ℕ → Bool) → Spot → ℕ → Type 0
HoldsOfSlots P range s count = (slot : ℕ) → slot < count → has_name_in range s slot ≡ true → P (bytes_of (name_words s slot))

pub slots_hold : (P : List ℕ → Type 0) (range : List ℕ → Bool) (s : Spot) (m : Map) (count : ℕ) → HoldsOfSlots P range s count → HoldsOfNames P m →
    HoldsOfNames P (with_slots range s m count)
slots_hold P range s m zero each all = all
slots_hold P range s m (suc slot) each all =
    let before = slots_hold P range s m slot (λ k within has. each k (omega arith) has) all in
    let name = bytes_of (name_words s slot) in
    let so_far = with_slots range s m slot in
    elim (has_name_in range s slot) as (λ b. has_name_in range s slot ≡ b → HoldsOfNames P (cond b (insert so_far name (value_in s slot)) so_far)) [
      | true ↦ λ has. subst (AllByRecursion (λ (e : Entry). P e.0)) (sym (entries-insert nat_list_cmp_total so_far name (value_in s slot)))
          (put_holds P name (value_in s slot) (entries so_far) (each slot (omega arith) has) before)
      | false ↦ λ _. before
    ] refl

pub slots_behind : (range : List ℕ → Bool) (s : Spot) (m : Map) (count : ℕ) → HoldsOfSlots (IsAbove m) range s count →
    entries (with_slots range s m count) ≡ entries m ++ entries (with_slots range s empty count)
slots_behind range s m zero above = sym (append-nil (entries m)) ∙ ap (λ (rest : List Entry). entries m ++ rest) (sym entries-none)
slots_behind range s m (suc slot) above =
    let before = slots_behind range s m slot (λ k within has. above k (omega arith) has) in
    let name = bytes_of (name_words s slot) in
    let value = value_in s slot in
    let so_far = with_slots range s m slot in
    let alone = with_slots range s empty slot in
    elim (has_name_in range s slot)
    as (λ b. has_name_in range s slot ≡ b → entries (cond b (insert so_far name value) so_far) ≡ entries m ++ entries (cond b (insert alone name value) alone)) [
      | true ↦ λ has.
          entries-insert nat_list_cmp_total so_far name value
          ∙ ap (put name_cmp name value) before
          ∙ put_behind name value (entries m) (entries alone) (above slot (omega arith) has)
          ∙ ap (λ (rest : List Entry). entries m ++ rest) (sym (entries-insert nat_list_cmp_total alone name value))
      | false ↦ λ _. before
    ] refl

-- A slot has a name in the range, or none.
abbrev pub found_in : (List ℕ → Bool) → Spot → ℕ → Option (List ℕ)
found_in range s slot = cond (has_name_in range s slot) (Some (bytes_of (name_words s slot))) None

-- a tree with what is found in a slot
abbrev put_found : Option (List ℕ) → List Entry → ℕ → List Entry
put_found (Some name) es value = insert_entry name_cmp es name value
put_found None es value = es

-- with that, the tree of the slots before is the one up to the next
slot_goes : (range : List ℕ → Bool) (s : Spot) (m : Map) (slot : ℕ) (found : Option (List ℕ)) (es : List Entry) → found ≡ found_in range s slot
    → es ≡ entries (with_slots range s m slot) → put_found found es (value_in s slot) ≡ entries (with_slots range s m (slot + 1))
slot_goes range s m slot found es is before =
    elim (has_name_in range s slot) as (λ b. found ≡ cond b (Some text) None → put_found found es value ≡ entries (cond b (insert so_far text value) so_far)) [
      | true ↦ λ same. ap (λ o. put_found o es value) same ∙ ap (λ es. insert_entry name_cmp es text value) before ∙ entries-put so_far text value
      | false ↦ λ none. ap (λ o. put_found o es value) none ∙ before
    ] is
    ∙ ap (λ n. entries (with_slots range s m n)) next
  where
    text : List ℕ
    text = bytes_of (name_words s slot)

    value : ℕ
    value = value_in s slot

    so_far : Map
    so_far = with_slots range s m slot

    next : suc slot ≡ slot + 1
    next = omega arith

-- a slot that has a name puts it into the tree of those before,
pub slot_puts : (range : List ℕ → Bool) (s : Spot) (m : Map) (slot value : ℕ) (name : List ℕ) (es : List Entry) → Some name ≡ found_in range s slot → value ≡ value_in s slot
    → es ≡ entries (with_slots range s m slot) → insert_entry name_cmp es name value ≡ entries (with_slots range s m (slot + 1))
slot_puts range s m slot value name es found is before = ap (λ v. insert_entry name_cmp es name v) is ∙ slot_goes range s m slot (Some name) es found before

-- and one that has none leaves that
pub slot_leaves : (range : List ℕ → Bool) (s : Spot) (m : Map) (slot : ℕ) (es : List Entry) → None ≡ found_in range s slot
    → es ≡ entries (with_slots range s m slot) → es ≡ entries (with_slots range s m (slot + 1))
slot_leaves range s m slot es found before = slot_goes range s m slot None es found before

-- Of two names the one with the higher key is above the other.
pub higher_key : (low high : List ℕ) → IsName low → IsName high → key_of low < key_of high → name_cmp high low ≡ Greater
higher_key low high is_low is_high less =
    let a = key-number low in
    let b = key-number high in
    sym (numbers_keep_order high low is_high is_low) ∙ nat_cmp-more (key_number (words_of high)) (key_number (words_of low)) (omega (arith, a, b, less))
