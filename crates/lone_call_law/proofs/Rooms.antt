-- Whether a put finds room, by the index before it and after it.
use Rattle.std.proofs.Common.{◌≡◌, ℕ, zero, suc, ◌+◌, ◌<◌, ◌≤◌, ◌==◌, inr, ⊎_elim, Bool, true, false, cond, ltb, leb, not, ◌&&◌, List, Option, Some, None, refl, sym, ap, ◌∙◌, subst, arith}
use Rattle.std.specs.Prelude.{IsSome}
use Rattle.std.proofs.lemmas.Bool.{eqb-true, eq-eqb, and_from, and_parts, ltb-true, ltb-false, lt-leb, le-leb}
use Rattle.pm_words.specs.declared.layout.Layout.{Layout}
use Rattle.pm_words.specs.Offsets.{bitmap_offset}
use Rattle.std.specs.Int.{bit_at}
use Rattle.cat_key.specs.Names.{bytes_of}
use Rattle.cat_history.specs.Maps.{Map, at}
use Rattle.data_node.specs.Spots.{Spot, Means, name_words}
use Rattle.cat_history.specs.Writes.{after_all}
use Rattle.lone_call_law.specs.Tries.{IsHalvedSince}
use Rattle.data_node.specs.Lists.{ListNode, target_from, key_of}
use Rattle.data_node.specs.Weights.{has_name_in, names_in}
use Rattle.data_node.proofs.NameCounts.{names_below, same_names}
use Rattle.call_stages.specs.Kinds.{below_key, from_key}
use Rattle.index_law.specs.Facts.{map_now, range_of, IsListed}
use Rattle.index_law.specs.Worlds.{World, facts}
use Rattle.index_law.specs.Laws.{IsAtRest}
use Rattle.data_node.specs.Slots.{AreAllLive}
use Rattle.data_node.proofs.ListLemmas.{target_in}
use Rattle.index_law.specs.Lawful.{IsSettled}
use Rattle.index_law.proofs.Copies.{full_names}
use Rattle.index_law.proofs.Switch.{inside_listed}
use Rattle.lone_call_law.specs.Rooms.{target_node, target_names, AddedHadRoom, RefusedWasFull, SplitWasFull, CutHasRoom, IsBetweenTries, OneSplit, FullIsFirst}

pub names_most : (count : ℕ) (range : List ℕ → Bool) (s : Spot) → names_in count range s ≤ count
names_most zero range s = omega arith
names_most (suc slot) range s =
    let rest = names_most slot range s in
    elim (has_name_in range s slot) as (λ b. cond b 1 0 + names_in slot range s ≤ suc slot) [ true ↦ omega arith | false ↦ omega arith ]

has_value : (o : Option ℕ) → IsSome o → (value : ℕ) × (o ≡ Some value)
has_value None is = absurd (cc)
has_value (Some value) is = (value, refl)

-- the target of a name in the index as it is then, by the list as it was
settled_then : (w0 w : World) (name : List ℕ) → IsAtRest w → w.layout ≡ w0.layout → (facts w).list ≡ (facts w0).list
    → Means w0.layout.slots (range_of w0.layout (facts w0) (target_node w0 name)) ((facts w).now (target_node w0 name)) (map_now (facts w))
settled_then w0 w name rest layout list =
    let n = target_node w0 name in
    let listed : IsListed (facts w) n = subst (λ (l : List ListNode). IsListed (facts w) (target_from 0 l (key_of name))) list (target_in 0 (facts w).list (key_of name)) in
    subst (λ (q : Layout × List ListNode). Means q.0.slots (λ other. target_from 0 q.1 (key_of other) == n) ((facts w).now n) (map_now (facts w))) (λ k. (layout k, list k)) (rest.settled n listed).means

pub added_had_room : AddedHadRoom
added_had_room w0 w name rest0 rest layout list named lacks has also =
    let n = target_node w0 name in
    let range = range_of w0.layout (facts w0) n in
    let from = settled_then w0 w0 name rest0 refl refl in
    let to = settled_then w0 w name rest layout list in
    let value = has_value (at (map_now (facts w)) name) has in
    let fewer = names_below w0.layout.slots range ((facts w0).now n) ((facts w).now n) (map_now (facts w0)) (map_now (facts w)) from to name
    (record { is_name = named; inside = eq-eqb n n refl; value = value.0; has = value.1 }) lacks
    (λ other is. let v = has_value (at (map_now (facts w)) other) (also other is.value is.has) in record { is_name = is.is_name; inside = is.inside; value = v.0; has = v.1 }) in
    let most = names_most w0.layout.slots range ((facts w).now n) in
    omega arith

-- where each slot of the node is live in which a name belongs, while list and map are as they were, the target was full
pub target_was_full : (w0 w : World) (name : List ℕ) (n : ℕ) → IsAtRest w0 → w.layout ≡ w0.layout → (facts w).list ≡ (facts w0).list → map_now (facts w) ≡ map_now (facts w0) → range_of w.layout (facts w) n name ≡ true
    → IsSettled w.layout (facts w) n → AreAllLive ((facts w).now n bitmap_offset) w.layout.slots → target_names w0 name ≡ w0.layout.slots
target_was_full w0 w name n rest0 layout list map inside settled live =
    let l = w0.layout in
    let is_n : target_node w0 name ≡ n = ap (λ (q : List ListNode). target_from 0 q (key_of name)) (sym list) ∙ eqb-true _ _ inside in
    let full : names_in w.layout.slots (range_of w.layout (facts w) n) ((facts w).now n) ≡ w.layout.slots =
    full_names w.layout.slots w.layout.slots (range_of w.layout (facts w) n) ((facts w).now n) (omega arith) live (λ slot within. settled.means.tidy.named slot within (live slot within)) settled.stays in
    let full_then : names_in l.slots (range_of l (facts w0) n) ((facts w).now n) ≡ l.slots =
    subst (λ (q : Layout × List ListNode). names_in q.0.slots (λ other. target_from 0 q.1 (key_of other) == n) ((facts w).now n) ≡ q.0.slots) (λ k. (layout k, list k)) full in
    let to : Means l.slots (range_of l (facts w0) n) ((facts w).now n) (map_now (facts w0)) =
    subst (λ (m : Map). Means l.slots (range_of l (facts w0) n) ((facts w).now n) m) map
    (subst (λ (q : Layout × List ListNode). Means q.0.slots (λ other. target_from 0 q.1 (key_of other) == n) ((facts w).now n) (map_now (facts w))) (λ k. (layout k, list k)) settled.means) in
    let from = subst (λ (q : ℕ). Means l.slots (range_of l (facts w0) q) ((facts w0).now q) (map_now (facts w0))) is_n (settled_then w0 w0 name rest0 refl refl) in
    ap (λ (q : ℕ). names_in l.slots (range_of l (facts w0) q) ((facts w0).now q)) is_n
    ∙ same_names l.slots (range_of l (facts w0) n) ((facts w0).now n) ((facts w).now n) (map_now (facts w0)) from to ∙ full_then

pub refused_was_full : RefusedWasFull
refused_was_full w0 w name since n h rest0 rest layout list map no_room about =
    let inside : range_of w.layout (facts w) n name ≡ true = subst (λ (x : List ℕ). range_of w.layout (facts w) n x ≡ true) about no_room.inside in
    let settled = rest.settled n (inside_listed w.layout (facts w) rest.list n name inside) in
    ((λ k. at (sym map k) (sym about k)) ∙ no_room.lacks, target_was_full w0 w name n rest0 layout list map inside settled no_room.full)

pub split_was_full : SplitWasFull
split_was_full w0 w name rest0 layout cut =
    let n = cut.halved.node in
    let is_n : target_node w0 name ≡ n = ap (λ (l : List ListNode). target_from 0 l (key_of name)) (sym cut.list) ∙ eqb-true _ _ cut.inside in
    let from = settled_then w0 w0 name rest0 refl refl in
    let to : Means w0.layout.slots (range_of w0.layout (facts w0) n) (cut.before.now n) (map_now (facts w0)) =
    subst (λ (m : Map). Means w0.layout.slots (range_of w0.layout (facts w0) n) (cut.before.now n) m) cut.map
    (subst (λ (q : Layout × List ListNode). Means q.0.slots (λ other. target_from 0 q.1 (key_of other) == n) (cut.before.now n) (map_now cut.before)) (λ k. (layout k, cut.list k)) cut.halved.means) in
    let full : names_in w0.layout.slots (range_of w0.layout (facts w0) n) (cut.before.now n) ≡ w0.layout.slots =
    subst (λ (q : Layout × List ListNode). names_in q.0.slots (λ other. target_from 0 q.1 (key_of other) == n) (cut.before.now n) ≡ q.0.slots) (λ k. (layout k, cut.list k)) cut.halved.full in
    let from_n = subst (λ (q : ℕ). Means w0.layout.slots (range_of w0.layout (facts w0) q) ((facts w0).now q) (map_now (facts w0))) is_n from in (
      ap (λ (m : Map). at m name) (sym cut.map) ∙ cut.lacks,
      ap (λ (q : ℕ). names_in w0.layout.slots (range_of w0.layout (facts w0) q) ((facts w0).now q)) is_n
          ∙ same_names w0.layout.slots (range_of w0.layout (facts w0) n) ((facts w0).now n) (cut.before.now n) (map_now (facts w0)) from_n to ∙ full,
    )

-- what it means on a range it means on a part of that
means_part : (slots : ℕ) (range part : List ℕ → Bool) (s : Spot) (m : Map) → ((name : List ℕ) → part name ≡ true → range name ≡ true) → Means slots range s m → Means slots part s m
means_part slots range part s m within means = record { tidy = means.tidy; agrees = λ name named inside. means.agrees name named (within name inside) }

one_split : (live here lower upper : Bool) → upper ≡ not lower → cond (live && here) 1 0 ≡ cond (live && (here && lower)) 1 0 + cond (live && (here && upper)) 1 0
one_split false here lower upper is = refl
one_split true false lower upper is = refl
one_split true true true upper is = subst (λ b. 1 ≡ 1 + cond b 1 0) (sym is) refl
one_split true true false upper is = subst (λ b. 1 ≡ 0 + cond b 1 0) (sym is) refl

le_not_lt : (a b : ℕ) → leb a b ≡ not (ltb b a)
le_not_lt a b = elim (ltb b a) as (λ c. ltb b a ≡ c → leb a b ≡ not c) [
  | true ↦ λ is. lt-leb a b (ltb-true b a is)
  | false ↦ λ is. le-leb a b (ltb-false b a is)
] refl

-- the names of a range are those below a key and those from it on
names_split : (count : ℕ) (range : List ℕ → Bool) (key : ℕ) (s : Spot) → names_in count range s ≡ names_in count (below_key range key) s + names_in count (from_key range key) s
names_split zero range key s = refl
names_split (suc slot) range key s =
    let rest = names_split slot range key s in
    let text = bytes_of (name_words s slot) in
    let one = one_split (bit_at (s bitmap_offset) slot == 1) (range text) (ltb (key_of text) key) (leb key (key_of text)) (le_not_lt key (key_of text)) in
    omega (arith, rest, one)

pub cut_has_room : CutHasRoom
cut_has_room w0 w name rest map cut =
    let n = cut.halved.node in
    let y = cut.halved.fresh in
    let key = key_of cut.halved.anchor in
    let slots = w.layout.slots in
    let range = range_of w.layout cut.before n in
    let s = cut.before.now n in
    let m = map_now cut.before in
    let same_map : map_now (facts w) ≡ m = map ∙ sym cut.map in
    let total = names_split slots range key s in
    let whole = cut.halved.full in
    let half = cut.halved.half in
    let least : 4 ≤ slots = rest.row.layout.slots.0 in
    let settled : (k : ℕ) (part : List ℕ → Bool) → target_node w name ≡ k → (λ (other : List ℕ). target_from 0 (facts w).list (key_of other) == k) ≡ part
    → ((other : List ℕ) → part other ≡ true → range other ≡ true) → target_names w name ≡ names_in slots part s =
    λ k part is part_is within.
    let listed : IsListed (facts w) k = subst (IsListed (facts w)) is (target_in 0 (facts w).list (key_of name)) in
    let here : Means slots part ((facts w).now k) m =
    subst (λ (q : Map). Means slots part ((facts w).now k) q) same_map (subst (λ (r : List ℕ → Bool). Means slots r ((facts w).now k) (map_now (facts w))) part_is (rest.settled k listed).means) in
    ap (λ (q : ℕ). names_in slots (range_of w.layout (facts w) q) ((facts w).now q)) is
    ∙ ap (λ (r : List ℕ → Bool). names_in slots r ((facts w).now k)) part_is
    ∙ same_names slots part ((facts w).now k) s m here (means_part slots range part s m within cut.halved.means) in
    elim (ltb (key_of name) key) as (λ b. ltb (key_of name) key ≡ b → target_names w name < slots) [
      | true ↦ λ low.
          let mine : (target_node w name == n) ≡ true = ap (λ (r : List ℕ → Bool). r name) cut.lower ∙ and_from _ _ cut.inside low in
          let is = settled n (below_key range key) (eqb-true _ _ mine) cut.lower (λ other inside. (and_parts _ _ inside).0) in
          omega arith
      | false ↦ λ high.
          let mine : (target_node w name == y) ≡ true = ap (λ (r : List ℕ → Bool). r name) cut.upper ∙ and_from _ _ cut.inside (le-leb key (key_of name) (ltb-false _ _ high)) in
          let is = settled y (from_key range key) (eqb-true _ _ mine) cut.upper (λ other inside. (and_parts _ _ inside).0) in
          omega arith
    ] refl

map_between : (name : List ℕ) (w0 w : World) → IsBetweenTries name w0 w → map_now (facts w) ≡ map_now (facts w0)
map_between name w0 w between = λ k. after_all (between.base k) (between.history k)

pub full_is_first : FullIsFirst
full_is_first w0 w1 name between full = ⊎_elim
    (λ same. same)
    (λ (cut : IsHalvedSince name w0 w1). absurd (let fewer = cut_has_room w0 w1 name between.rest (map_between name w0 w1 between) cut in omega arith))
    between.list

pub one_split_only : OneSplit
one_split_only w0 w1 w name rest between layout base history cut =
    let full = split_was_full w1 w name between.rest layout cut in
    let first = full_is_first w0 w1 name between full.1 in
    let since : IsHalvedSince name w0 w = record {
      before = cut.before;
      chain = cut.chain;
      list = cut.list ∙ first;
      map = cut.map ∙ map_between name w0 w1 between;
      halved = cut.halved;
      inside = cut.inside;
      lacks = cut.lacks;
      lower = cut.lower;
      upper = cut.upper;
    } in
    (first, since, record { rest = rest; layout = layout ∙ between.layout; base = base ∙ between.base; history = history ∙ between.history; list = inr since })
