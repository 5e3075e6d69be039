-- How many names a map has that a node means: no more than the node has slots, and as many where all its slots are live.
use Rattle.std.proofs.Common.{◌≡◌, ℕ, zero, suc, ◌+◌, ◌-◌, ◌<◌, ◌≤◌, Bool, true, false, cond, List, Some, None}
use Rattle.std.proofs.Common.{is_some, inl, inr, refl, sym, subst, ap, ◌∙◌, arith}
use Rattle.std.specs.FinMap.{empty, remove, len, get-remove, get-empty, len-remove, len-empty, empty_of_len, same_map}
use Rattle.std.specs.FinMap.{slice_cmp-IsAntisymmetric, nat_cmp-IsAntisymmetric}
use Rattle.std.proofs.lemmas.Bool.{cases_eq}
use Rattle.std.proofs.lemmas.Cmp.{nat_list_cmp_total}
use Rattle.cat_key.specs.Names.{IsName, name_cmp, words_of, bytes_of}
use Rattle.cat_key.proofs.Packing.{bytes_of-words_of}
use Rattle.shapes.specs.cat_history.specs.Maps.{Map, at}
use Rattle.pm_words.specs.Offsets.{bitmap_offset}
use Rattle.data_node.specs.Slots.{AreAllLive}
use Rattle.data_node.specs.Spots.{Spot, name_words, Finds, Means}
use Rattle.data_node.specs.Lists.{StaysIn}
use Rattle.data_node.proofs.SpotLemmas.{same_name}

-- The name stands in one of the first so many slots.
record Stands (s : Spot) (count : ℕ) (name : List ℕ) : Type 0 where
  pub is_name : IsName name
  pub slot : ℕ
  pub within : slot < count
  pub same : name_words s slot ≡ words_of name

-- a map without a name
pub at_removed : (m : Map) (name other : List ℕ) → (other ≡ name → ⊥) → at (remove m name) other ≡ at m other
at_removed m name other apart =
    elim (same_name other name) [
      | inl same ↦ absurd (apart same.0)
      | inr different ↦ get-remove nat_list_cmp_total m name other ∙ ap (λ b. cond b None (at m other)) different.1
    ]

pub not_removed : (m : Map) (name other : List ℕ) (value : ℕ) → at (remove m name) other ≡ Some value → (other ≡ name → ⊥) × (at m other ≡ Some value)
not_removed m name other value is =
    elim (same_name other name) [
      | inl same ↦
          let none : at (remove m name) other ≡ None = get-remove nat_list_cmp_total m name other ∙ ap (λ b. cond b None (at m other)) same.1 in
          absurd (cc)
      | inr different ↦ (different.0, sym (at_removed m name other different.0) ∙ is)
    ]

-- to take a name out takes away at most one
pub len_removed : (m : Map) (name : List ℕ) → len m ≤ len (remove m name) + 1
len_removed m name =
    let is = len-remove nat_list_cmp_total m name in
    elim (is_some (at m name)) as (λ b. len (remove m name) ≡ cond b (len m - 1) (len m) → len m ≤ len (remove m name) + 1) [
      | true ↦ λ e. omega arith
      | false ↦ λ e. omega arith
    ] is

-- and one that it has takes away one
pub len_taken : (m : Map) (name : List ℕ) → is_some (at m name) ≡ true → len m ≡ len (remove m name) + 1
len_taken m name here =
    let less : len (remove m name) ≡ len m - 1 = len-remove nat_list_cmp_total m name ∙ ap (λ b. cond b (len m - 1) (len m)) here in
    elim (cases_eq (len m) 0) [
      | inl none ↦
          let is_empty : m ≡ empty = empty_of_len m none in
          let lacks : is_some (at m name) ≡ false = ap (λ (n : Map). is_some (at n name)) is_empty ∙ ap is_some (get-empty name_cmp name) in
          absurd (cc)
      | inr some ↦ omega arith
    ]

pub nothing_stands : (m : Map) → ((name : List ℕ) (value : ℕ) → at m name ≡ Some value → ⊥) → len m ≡ 0
nothing_stands m none =
    let is_empty : m ≡ empty = same_map nat_list_cmp_total (slice_cmp-IsAntisymmetric nat_cmp-IsAntisymmetric) m empty (λ name.
    elim (at m name) as (λ o. at m name ≡ o → at m name ≡ at empty name) [
      | None ↦ λ e. e ∙ sym (get-empty name_cmp name)
      | Some value ↦ λ e. absurd (none name value e)
    ] refl) in
    ap len is_empty ∙ len-empty name_cmp ℕ

stand_count : (s : Spot) (count : ℕ) (m : Map) → ((name : List ℕ) (value : ℕ) → at m name ≡ Some value → Stands s count name) → len m ≤ count
stand_count s zero m stand = let none : len m ≡ 0 = nothing_stands m (λ name value e. let h : (stand name value e).slot < 0 = (stand name value e).within in omega arith) in omega arith
stand_count s (suc count) m stand =
    let last = bytes_of (name_words s count) in
    let fewer : len (remove m last) ≤ count = stand_count s count (remove m last) (λ name value e.
    let kept = not_removed m last name value e in
    let was = stand name value kept.1 in
    let is_name : IsName name = was.is_name in
    let below : was.slot < suc count = was.within in
    elim (cases_eq was.slot count) [
      | inl here ↦ absurd (kept.0 (sym (ap (λ k. bytes_of (name_words s k)) (sym here) ∙ ap bytes_of was.same ∙ bytes_of-words_of name is_name)))
      | inr other ↦ record { is_name = is_name; slot = was.slot; within = omega arith; same = was.same }
    ]) in
    let step = len_removed m last in
    omega arith

-- the names of a map that a node means fit into its slots, if the map has names alone
pub names_fit : (slots : ℕ) (s : Spot) (m : Map) → Means slots (λ _. true) s m → ((name : List ℕ) (value : ℕ) → at m name ≡ Some value → IsName name) → len m ≤ slots
names_fit slots s m means names =
    stand_count s slots m (λ name value e.
    let found = subst (Finds slots s name) e (means.agrees name (names name value e) refl) in
    record { is_name = names name value e; slot = found.0; within = found.1; same = found.3 })

-- the map has the name of each of the first so many slots, and these names differ
has_count : (s : Spot) (count : ℕ) (m : Map) → ((slot : ℕ) → slot < count → is_some (at m (bytes_of (name_words s slot))) ≡ true)
    → ((slot other : ℕ) → slot < count → other < count → bytes_of (name_words s slot) ≡ bytes_of (name_words s other) → slot ≡ other) → count ≤ len m
has_count s zero m has apart = omega arith
has_count s (suc count) m has apart =
    let last = bytes_of (name_words s count) in
    let here : is_some (at m last) ≡ true = has count (omega arith) in
    let fewer : count ≤ len (remove m last) = has_count s count (remove m last)
    (λ slot within.
    let other : bytes_of (name_words s slot) ≡ last → ⊥ = λ e. let same : slot ≡ count = apart slot count (omega arith) (omega arith) e in omega arith in
    ap is_some (at_removed m last (bytes_of (name_words s slot)) other) ∙ has slot (omega arith))
    (λ slot other within other_within e. apart slot other (omega arith) (omega arith) e) in
    let one = len_taken m last here in
    omega arith

-- a node whose slots are all live means a map with at least as many names, if none of these lies out of its range
pub full_has_in : (slots : ℕ) (range : List ℕ → Bool) (s : Spot) (m : Map) → Means slots range s m → StaysIn slots range s → AreAllLive (s bitmap_offset) slots → slots ≤ len m
full_has_in slots range s m means stays full =
    has_count s slots m
    (λ slot within.
    let named = means.tidy.named slot within (full slot within) in
    let text : bytes_of (name_words s slot) ≡ named.0 = ap bytes_of (sym named.2) ∙ bytes_of-words_of named.0 named.1 in
    elim (range named.0) as (λ b. range named.0 ≡ b → is_some (at m (bytes_of (name_words s slot))) ≡ true) [
      | true ↦ λ inside.
          elim (at m named.0) as (λ o. at m named.0 ≡ o → is_some (at m (bytes_of (name_words s slot))) ≡ true) [
            | Some value ↦ λ e. ap (λ n. is_some (at m n)) text ∙ ap is_some e
            | None ↦ λ e. absurd (subst (Finds slots s named.0) e (means.agrees named.0 named.1 inside) slot within (full slot within) (sym named.2))
          ] refl
      | false ↦ λ outside.
          absurd (stays named.0 named.1 outside slot within (full slot within) (sym named.2))
    ] refl)
    (λ slot other within other_within e.
    let a = means.tidy.named slot within (full slot within) in
    let b = means.tidy.named other other_within (full other other_within) in
    let same : a.0 ≡ b.0 = sym (ap bytes_of (sym a.2) ∙ bytes_of-words_of a.0 a.1) ∙ e ∙ ap bytes_of (sym b.2) ∙ bytes_of-words_of b.0 b.1 in
    means.tidy.apart slot other within other_within (full slot within) (full other other_within) (sym a.2 ∙ ap words_of same ∙ b.2))
