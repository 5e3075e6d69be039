-- How the number of a node's names goes with the map that the node means.
use Rattle.std.proofs.Common.{◌≡◌, ◌≢◌, ℕ, zero, suc, ◌+◌, ◌<◌, ◌≤◌, ◌==◌, ◌&&◌, not, Bool, true, false, cond, List}
use Rattle.std.proofs.Common.{Some, None, inl, inr, refl, sym, subst, ap, ◌∙◌, arith}
use Rattle.std.specs.Int.{bit_at}
use Rattle.std.proofs.lemmas.Bool.{cases_eq, eq-eqb, eqb-true, ne_eqb, not-true, eqb-false, and_parts, and_from}
use Rattle.cat_key.specs.Names.{IsName, words_of, bytes_of}
use Rattle.cat_key.proofs.Packing.{bytes_of-words_of, words_tell_names}
use Rattle.shapes.specs.cat_history.specs.Maps.{Map, at}
use Rattle.shapes.specs.cat_history.specs.Writes.{changed, name_of}
use Rattle.shapes.specs.cat_history.specs.declared.op.Change.{Change}
use Rattle.shapes.specs.cat_history.specs.declared.op.Change.TheVariants.{Put, Del}
use Rattle.shapes.specs.cat_history.proofs.ChangeLemmas.{at-changed_other, changed_found}
use Rattle.pm_words.specs.Offsets.{bitmap_offset}
use Rattle.data_node.specs.Spots.{Spot, IsLiveIn, name_words, value_in, Finds, IsTidy, Means}
use Rattle.data_node.specs.Lists.{StaysIn}
use Rattle.data_node.specs.Weights.{has_name_in, names_in}
use Rattle.data_node.proofs.SpotLemmas.{same_name, at_found, remove_absent}

-- One where the test holds.
abbrev pub one_if : Bool → ℕ
one_if b = cond b 1 0

-- How many of the first so many numbers a test takes.
abbrev pub tally : ℕ → (ℕ → Bool) → ℕ
tally zero p = 0
tally (suc i) p = one_if (p i) + tally i p

-- The test, which refuses one number too.
abbrev without : (ℕ → Bool) → ℕ → ℕ → Bool
without p j i = not (i == j) && p i

without-here : (p : ℕ → Bool) (j : ℕ) → without p j j ≡ false
without-here p j = ap (λ b. not b && p j) (eq-eqb j j refl)

without-other : (p : ℕ → Bool) (j i : ℕ) → i ≢ j → without p j i ≡ p i
without-other p j i apart = ap (λ b. not b && p i) (ne_eqb i j apart)

without_parts : (p : ℕ → Bool) (j i : ℕ) → without p j i ≡ true → (i ≢ j) × (p i ≡ true)
without_parts p j i is = let parts = and_parts (not (i == j)) (p i) is in (eqb-false i j (not-true (i == j) parts.0), parts.1)

tally_same : (n : ℕ) (p q : ℕ → Bool) → ((i : ℕ) → i < n → p i ≡ q i) → tally n p ≡ tally n q
tally_same zero p q same = refl
tally_same (suc n) p q same =
    let here : one_if (p n) ≡ one_if (q n) = ap one_if (same n (omega arith)) in
    let rest = tally_same n p q (λ i below. same i (omega arith)) in
    omega arith

tally_without : (n j : ℕ) (p : ℕ → Bool) → j < n → p j ≡ true → tally n p ≡ tally n (without p j) + 1
tally_without zero j p below is = absurd (omega arith)
tally_without (suc n) j p below is =
    elim (cases_eq j n) [
      | inl last ↦
          let taken : one_if (p n) ≡ 1 = ap one_if (subst (λ k. p k ≡ true) last is) in
          let refused : one_if (without p j n) ≡ 0 = ap one_if (ap (λ k. without p k n) last ∙ without-here p n) in
          let rest : tally n p ≡ tally n (without p j) = tally_same n p (without p j) (λ i within. sym (without-other p j i (λ e. omega arith))) in
          omega arith
      | inr other ↦
          let here : one_if (p n) ≡ one_if (without p j n) = ap one_if (sym (without-other p j n (λ e. other (sym e)))) in
          let rest = tally_without n j p (omega arith) is in
          omega arith
    ]

-- Where each number that the one test takes has a number that the other takes, of its own, the other takes as many at least.
pub tally_fits : (n k : ℕ) (p q : ℕ → Bool) (R : ℕ → ℕ → Type 0)
    → ((i : ℕ) → i < n → p i ≡ true → (j : ℕ) × (j < k) × (q j ≡ true) × R i j)
    → ((i other j : ℕ) → i < n → other < n → p i ≡ true → p other ≡ true → R i j → R other j → i ≡ other) → tally n p ≤ tally k q
tally_fits zero k p q R goes alone = omega arith
tally_fits (suc n) k p q R goes alone =
    elim (p n) as (λ b. p n ≡ b → one_if b + tally n p ≤ tally k q) [
      | false ↦ λ _.
          let rest = tally_fits n k p q R (λ i below. goes i (omega arith)) (λ i other j below other_below. alone i other j (omega arith) (omega arith)) in
          omega arith
      | true ↦ λ is.
          let last = goes n (omega arith) is in
          let rest = tally_fits n k p (without q last.0) R
          (λ i below taken.
          let to = goes i (omega arith) taken in
          let apart : to.0 ≢ last.0 = λ e. let same : i ≡ n = alone i n last.0 (omega arith) (omega arith) taken is (subst (R i) e to.3) last.3 in omega arith in
          (to.0, to.1, without-other q last.0 to.0 apart ∙ to.2, to.3))
          (λ i other j below other_below. alone i other j (omega arith) (omega arith)) in
          let one = tally_without k last.0 q last.1 last.2 in
          omega arith
    ] refl

pub names_tally : (n : ℕ) (range : List ℕ → Bool) (s : Spot) → names_in n range s ≡ tally n (has_name_in range s)
names_tally zero range s = refl
names_tally (suc n) range s = ap (λ k. one_if (has_name_in range s n) + k) (names_tally n range s)

-- What a live slot with a name in the range says.
record HasName (range : List ℕ → Bool) (s : Spot) (slot : ℕ) : Type 0 where
  pub live : IsLiveIn s slot
  pub name : List ℕ
  pub is_name : IsName name
  pub inside : range name ≡ true
  pub same : name_words s slot ≡ words_of name

has_name : (slots : ℕ) (range : List ℕ → Bool) (s : Spot) (slot : ℕ) → IsTidy slots s → slot < slots → has_name_in range s slot ≡ true → HasName range s slot
has_name slots range s slot tidy within is =
    let parts = and_parts (bit_at (s bitmap_offset) slot == 1) (range (bytes_of (name_words s slot))) is in
    let live : IsLiveIn s slot = eqb-true (bit_at (s bitmap_offset) slot) 1 parts.0 in
    let named = tidy.named slot within live in
    let text : bytes_of (name_words s slot) ≡ named.0 = ap bytes_of (sym named.2) ∙ bytes_of-words_of named.0 named.1 in
    record { live = live; name = named.0; is_name = named.1; inside = subst (λ n. range n ≡ true) text parts.1; same = sym named.2 }

name_counts : (range : List ℕ → Bool) (s : Spot) (slot : ℕ) (name : List ℕ) → IsName name → range name ≡ true → IsLiveIn s slot → name_words s slot ≡ words_of name → has_name_in range s slot ≡ true
name_counts range s slot name is_name inside live same =
    let text : bytes_of (name_words s slot) ≡ name = ap bytes_of same ∙ bytes_of-words_of name is_name in
    and_from _ _ (eq-eqb (bit_at (s bitmap_offset) slot) 1 live) (subst (λ n. range n ≡ true) (sym text) inside)

-- The map has the name, which is one of the range.
pub record HasIn (range : List ℕ → Bool) (m : Map) (name : List ℕ) : Type 0 where
  pub is_name : IsName name
  pub inside : range name ≡ true
  pub value : ℕ
  pub has : at m name ≡ Some value

module _ (slots : ℕ) (range : List ℕ → Bool) (s : Spot) (m : Map) (means : Means slots range s m) where
  pub slot_has : (slot : ℕ) → slot < slots → has_name_in range s slot ≡ true → (name : List ℕ) × HasIn range m name × (name_words s slot ≡ words_of name)
  slot_has slot within is =
      let h = has_name slots range s slot means.tidy within is in
      (h.name, record { is_name = h.is_name; inside = h.inside; value = value_in s slot; has = at_found slots range s m h.name slot h.is_name h.inside means h.live h.same }, h.same)

  pub has_slot : (name : List ℕ) → HasIn range m name → (slot : ℕ) × (slot < slots) × (has_name_in range s slot ≡ true) × (name_words s slot ≡ words_of name)
  has_slot name h =
      let found = subst (Finds slots s name) h.has (means.agrees name h.is_name h.inside) in
      (found.0, found.1, name_counts range s found.0 name h.is_name h.inside found.2 found.3, found.3)

  pub slots_apart : (slot other : ℕ) → slot < slots → other < slots → has_name_in range s slot ≡ true → has_name_in range s other ≡ true → name_words s slot ≡ name_words s other → slot ≡ other
  slots_apart slot other within other_within is other_is same =
      means.tidy.apart slot other within other_within (has_name slots range s slot means.tidy within is).live (has_name slots range s other means.tidy other_within other_is).live same

module _ (slots : ℕ) (range : List ℕ → Bool) (s t : Spot) (m n : Map) (from : Means slots range s m) (to : Means slots range t n) where
  -- no more names in the one node, where the map of the other has each of them
  pub names_within : ((name : List ℕ) → HasIn range m name → HasIn range n name) → names_in slots range s ≤ names_in slots range t
  names_within also =
      let fits = tally_fits slots slots (has_name_in range s) (has_name_in range t) (λ i j. name_words s i ≡ name_words t j)
      (λ i within is.
      let here = slot_has slots range s m from i within is in
      let there = has_slot slots range t n to here.0 (also here.0 here.1) in
      (there.0, there.1, there.2, here.2 ∙ sym there.3))
      (λ i other j within other_within is other_is a b. slots_apart slots range s m from i other within other_within is other_is (a ∙ sym b)) in
      omega (arith, fits, names_tally slots range s, names_tally slots range t)

  -- fewer, where that map has one that the first lacks
  pub names_below : (name : List ℕ) → HasIn range n name → at m name ≡ None → ((other : List ℕ) → HasIn range m other → HasIn range n other) → names_in slots range s < names_in slots range t
  names_below name new lacks also =
      let last = has_slot slots range t n to name new in
      let fits = tally_fits slots slots (has_name_in range s) (without (has_name_in range t) last.0) (λ i j. name_words s i ≡ name_words t j)
      (λ i within is.
      let here = slot_has slots range s m from i within is in
      let there = has_slot slots range t n to here.0 (also here.0 here.1) in
      let apart : there.0 ≢ last.0 = λ e.
      let same : here.0 ≡ name = words_tell_names here.0 name here.1.is_name new.is_name (sym there.3 ∙ ap (name_words t) e ∙ last.3) in
      let has : at m here.0 ≡ Some here.1.value = here.1.has in
      let absent : at m here.0 ≡ None = ap (at m) same ∙ lacks in
      cc in
      (there.0, there.1, without-other (has_name_in range t) last.0 there.0 apart ∙ there.2, here.2 ∙ sym there.3))
      (λ i other j within other_within is other_is a b. slots_apart slots range s m from i other within other_within is other_is (a ∙ sym b)) in
      let one = tally_without slots last.0 (has_name_in range t) last.1 last.2 in
      omega (arith, fits, one, names_tally slots range s, names_tally slots range t)

  -- at most one more, where that map has each but one of them
  pub names_within_but : (name : List ℕ) → HasIn range m name → ((other : List ℕ) → other ≢ name → HasIn range m other → HasIn range n other) → names_in slots range s ≤ names_in slots range t + 1
  names_within_but name gone also =
      let first = has_slot slots range s m from name gone in
      let fits = tally_fits slots slots (without (has_name_in range s) first.0) (has_name_in range t) (λ i j. name_words s i ≡ name_words t j)
      (λ i within is.
      let apart = without_parts (has_name_in range s) first.0 i is in
      let here = slot_has slots range s m from i within apart.1 in
      let other : here.0 ≢ name = λ e. apart.0 (slots_apart slots range s m from i first.0 within first.1 apart.1 first.2 (here.2 ∙ ap words_of e ∙ sym first.3)) in
      let there = has_slot slots range t n to here.0 (also here.0 other here.1) in
      (there.0, there.1, there.2, here.2 ∙ sym there.3))
      (λ i other j within other_within is other_is a b.
      slots_apart slots range s m from i other within other_within (without_parts (has_name_in range s) first.0 i is).1 (without_parts (has_name_in range s) first.0 other other_is).1 (a ∙ sym b)) in
      let one = tally_without slots first.0 (has_name_in range s) first.1 first.2 in
      omega (arith, fits, one, names_tally slots range s, names_tally slots range t)

-- two nodes that mean one map have as many names of a range
pub same_names : (slots : ℕ) (range : List ℕ → Bool) (s t : Spot) (m : Map) → Means slots range s m → Means slots range t m → names_in slots range s ≡ names_in slots range t
same_names slots range s t m from to =
    let up = names_within slots range s t m m from to (λ name h. h) in
    let down = names_within slots range t s m m to from (λ name h. h) in
    omega arith

-- With the same bitmap a node has no more names of a range, where its live slots had no name out of the range.
pub names_by_bits : (slots : ℕ) (range : List ℕ → Bool) (s t : Spot) → IsTidy slots s → StaysIn slots range s → t bitmap_offset ≡ s bitmap_offset → names_in slots range t ≤ names_in slots range s
names_by_bits slots range s t tidy stays bits = to slots (omega arith)
  where
    had : (slot : ℕ) → slot < slots → has_name_in range t slot ≡ true → has_name_in range s slot ≡ true
    had slot within is =
        let parts = and_parts (bit_at (t bitmap_offset) slot == 1) (range (bytes_of (name_words t slot))) is in
        let live : IsLiveIn s slot = subst (λ bitmap. bit_at bitmap slot ≡ 1) bits (eqb-true (bit_at (t bitmap_offset) slot) 1 parts.0) in
        let named = tidy.named slot within live in
        elim (range named.0) as (λ b. range named.0 ≡ b → has_name_in range s slot ≡ true) [
          | true ↦ λ inside. name_counts range s slot named.0 named.1 inside live (sym named.2)
          | false ↦ λ out. absurd (stays named.0 named.1 out slot within live (sym named.2))
        ] refl

    to : (n : ℕ) → n ≤ slots → names_in n range t ≤ names_in n range s
    to zero few = omega arith
    to (suc n) few =
        let rest = to n (omega arith) in
        elim (has_name_in range t n) as (λ b. has_name_in range t n ≡ b → one_if b + names_in n range t ≤ one_if (has_name_in range s n) + names_in n range s) [
          | true ↦ λ is. let here : one_if (has_name_in range s n) ≡ 1 = ap one_if (had n (omega arith) is) in omega arith
          | false ↦ λ _. omega arith
        ] refl

-- another name is there after a change as it was before
kept : (range : List ℕ → Bool) (m : Map) (c : Change) (other : List ℕ) → other ≢ name_of c → HasIn range m other → HasIn range (changed m c) other
kept range m c other apart h = record { is_name = h.is_name; inside = h.inside; value = h.value; has = at-changed_other m c other apart ∙ h.has }

kept_back : (range : List ℕ → Bool) (m : Map) (c : Change) (other : List ℕ) → other ≢ name_of c → HasIn range (changed m c) other → HasIn range m other
kept_back range m c other apart h = record { is_name = h.is_name; inside = h.inside; value = h.value; has = sym (at-changed_other m c other apart) ∙ h.has }

module _ (slots : ℕ) (range : List ℕ → Bool) (s t : Spot) (m : Map) (name : List ℕ) (is_name : IsName name) (inside : range name ≡ true) where
  module _ (value : ℕ) (before : Means slots range s m) (after : Means slots range t (changed m (Put name value))) where
    found : HasIn range (changed m (Put name value)) name
    found = record { is_name = is_name; inside = inside; value = value; has = changed_found m (Put name value) }

    -- a put takes no name away, and adds at most one
    pub put_keeps_names : names_in slots range s ≤ names_in slots range t
    put_keeps_names = names_within slots range s t m (changed m (Put name value)) before after (λ other h. elim (same_name other name) [
      | inl same ↦ subst (HasIn range (changed m (Put name value))) (sym same.0) found
      | inr apart ↦ kept range m (Put name value) other apart.0 h
    ])

    pub put_adds_one : names_in slots range t ≤ names_in slots range s + 1
    put_adds_one = names_within_but slots range t s (changed m (Put name value)) m after before name found (λ other apart h. kept_back range m (Put name value) other apart h)

    -- and none where the map had the name
    pub put_over_keeps_names : (old : ℕ) → at m name ≡ Some old → names_in slots range t ≡ names_in slots range s
    put_over_keeps_names old had =
        let down = names_within slots range t s (changed m (Put name value)) m after before (λ other h. elim (same_name other name) [
          | inl same ↦ subst (HasIn range m) (sym same.0) (record { is_name = is_name; inside = inside; value = old; has = had })
          | inr apart ↦ kept_back range m (Put name value) other apart.0 h
        ]) in
        let up = put_keeps_names in
        omega arith

  module _ (before : Means slots range s m) (after : Means slots range t (changed m (Del name))) where
    other_than : (other : List ℕ) → HasIn range (changed m (Del name)) other → other ≢ name
    other_than other h e =
        let gone : at (changed m (Del name)) other ≡ None = ap (at (changed m (Del name))) e ∙ changed_found m (Del name) in
        let has : at (changed m (Del name)) other ≡ Some h.value = h.has in
        cc

    -- a delete adds no name
    pub del_adds_none : names_in slots range t ≤ names_in slots range s
    del_adds_none = names_within slots range t s (changed m (Del name)) m after before (λ other h. kept_back range m (Del name) other (other_than other h) h)

    -- it takes one away where the map had the name
    pub del_takes_one : (old : ℕ) → at m name ≡ Some old → names_in slots range t + 1 ≡ names_in slots range s
    del_takes_one old had =
        let gone : HasIn range m name = record { is_name = is_name; inside = inside; value = old; has = had } in
        let most = names_within_but slots range s t m (changed m (Del name)) before after name gone (λ other apart h. kept range m (Del name) other apart h) in
        let least = names_below slots range t s (changed m (Del name)) m after before name gone (changed_found m (Del name)) (λ other h. kept_back range m (Del name) other (other_than other h) h) in
        omega arith

    -- and none where it lacked it
    pub del_keeps_names : at m name ≡ None → names_in slots range t ≡ names_in slots range s
    del_keeps_names absent =
        same_names slots range t s m (subst (Means slots range t) (remove_absent m name absent) after) before

    pub del_takes_at_most_one : names_in slots range s ≤ names_in slots range t + 1
    del_takes_at_most_one = elim (at m name) as (λ o. at m name ≡ o → names_in slots range s ≤ names_in slots range t + 1) [
      | None ↦ λ e. let same = del_keeps_names e in omega arith
      | Some old ↦ λ e. let less = del_takes_one old e in omega arith
    ] refl
