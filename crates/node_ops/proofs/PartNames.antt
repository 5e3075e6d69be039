-- The live slots of a node in order are the names of the map in the node's range.
use Rattle.std.proofs.Common.{◌≡◌, ◌≢◌, ℕ, zero, suc, ◌<◌, ◌≤◌, ◌==◌, Bool, true, false, cond, T, Less, Equal, Greater, Some, None, List, [], ◌∷◌, length, map, get_or, inl, inr, refl, sym, subst, ap, ◌∙◌, arith}
use Rattle.std.specs.Int.{bit_at}
use Rattle.std.specs.Ordering.{nat_cmp, is_lt, ordering_then}
use Rattle.std.specs.Cmp.{tied_itself}
use Rattle.std.specs.Cmp.Lexicographic.{slice_cmp, nat_list_cmp_total}
use Rattle.std.specs.FinMap.{entries, entries_sorted, get-entries, find, is_sorted, nat_cmp-IsAntisymmetric, slice_cmp-IsAntisymmetric}
use Rattle.std.specs.FinMap.Entries.{where_key, below_all, is_sorted-where_key, find-where_key, same_entries}
use Rattle.std.specs.List.{AllByRecursion}
use Rattle.std.proofs.lemmas.Bool.{cases_eq, and_from, eq-eqb, eqb-true}
use Rattle.std.proofs.lemmas.Cmp.{nat_cmp_total}
use Rattle.cat_key.specs.Names.{IsName, AreNameWords, IsPacked, name_cmp, words_of, bytes_of}
use Rattle.cat_key.proofs.Packing.{packed_from_words, bytes_of-words_of}
use Rattle.cat_key.proofs.WordOrder.{packed_cmp}
use Rattle.cat_history.specs.Maps.{Map, at}
use Rattle.pm_words.specs.Offsets.{bitmap_offset}
use Rattle.data_node.specs.Slots.{IsLive}
use Rattle.data_node.specs.Spots.{Spot, IsLiveIn, name_words, Finds, Means}
use Rattle.data_node.specs.Lists.{StaysIn}
use Rattle.data_node.specs.Orders.{words_in, comes_before}
use Rattle.data_node.proofs.SpotLemmas.{same_name, at_found}
use Rattle.split_merge.specs.Plans.{put_in}
use Rattle.split_merge.proofs.Sorting.{Strict, all_weaker, put_all}
use Rattle.node_ops.specs.PartSteps.{entry_in, entry_name, live_order}
use Rattle.node_ops.proofs.PartSound.{words_same}
use Rattle.node_ops.proofs.PartLaw.{HasEntry}
use Rattle.node_ops.proofs.PartOrder.{live_order_strict}

-- what holds of a list with one put in holds of that one and of the list
put_parts : (before : ℕ → ℕ → Bool) (P : ℕ → Type 0) (x : ℕ) (xs : List ℕ) → AllByRecursion P (put_in before x xs) → P x × AllByRecursion P xs
put_parts before P x [] all = (all.0, tt)
put_parts before P x (y ∷ ys) all =
    elim (before x y) as (λ b. AllByRecursion P (cond b (x ∷ y ∷ ys) (y ∷ put_in before x ys)) → P x × AllByRecursion P (y ∷ ys)) [
      | true ↦ λ is. (is.0, is.1)
      | false ↦ λ is. let rest = put_parts before P x ys is.1 in (rest.0, (is.0, rest.1))
    ] all

-- a live slot stands in the order
live_order_has : (before : ℕ → ℕ → Bool) (bitmap : ℕ) (P : ℕ → Type 0) (n : ℕ) → AllByRecursion P (live_order before bitmap n) → (slot : ℕ) → slot < n → IsLive bitmap slot → P slot
live_order_has before bitmap P zero all slot below live = absurd (omega arith)
live_order_has before bitmap P (suc n) all slot below live =
    elim (bit_at bitmap n == 1) as (λ b. (bit_at bitmap n == 1) ≡ b → AllByRecursion P (cond b (put_in before n (live_order before bitmap n)) (live_order before bitmap n)) → P slot) [
      | true ↦ λ here is.
          let parts = put_parts before P n (live_order before bitmap n) is in
          elim (cases_eq slot n) [ inl last ↦ subst P (sym last) parts.0 | inr other ↦ live_order_has before bitmap P n parts.1 slot (omega arith) live ]
      | false ↦ λ here is. elim (cases_eq slot n) [
        | inl last ↦ absurd (let yes : (bit_at bitmap n == 1) ≡ true = eq-eqb (bit_at bitmap n) 1 (subst (IsLive bitmap) last live) in let no : true ≡ false = sym yes ∙ here in cc)
        | inr other ↦ live_order_has before bitmap P n is slot (omega arith) live
      ]
    ] refl all

-- and no other slot
live_order_live : (before : ℕ → ℕ → Bool) (bitmap n : ℕ) → AllByRecursion (λ slot. (slot < n) × IsLive bitmap slot) (live_order before bitmap n)
live_order_live before bitmap zero = tt
live_order_live before bitmap (suc n) =
    let rest : AllByRecursion (λ slot. (slot < suc n) × IsLive bitmap slot) (live_order before bitmap n) =
    all_weaker (λ slot. (slot < n) × IsLive bitmap slot) (λ slot. (slot < suc n) × IsLive bitmap slot) (λ slot is. let below : slot < n = is.0 in (omega arith, is.1)) (live_order before bitmap n) (live_order_live before bitmap n) in
    elim (bit_at bitmap n == 1) as (λ b. (bit_at bitmap n == 1) ≡ b → AllByRecursion (λ slot. (slot < suc n) × IsLive bitmap slot) (cond b (put_in before n (live_order before bitmap n)) (live_order before bitmap n))) [
      | true ↦ λ here. put_all before (λ slot. (slot < suc n) × IsLive bitmap slot) n (live_order before bitmap n) (omega arith, eqb-true (bit_at bitmap n) 1 here) rest
      | false ↦ λ here. rest
    ] refl

exact : (a b : List ℕ) → name_cmp a b ≡ Equal → a ≡ b
exact a b is = slice_cmp-IsAntisymmetric nat_cmp-IsAntisymmetric a b is

module _ (reads : List (List ℕ)) (bitmap slots : ℕ) (many : length reads ≡ 64) (limit : slots ≤ 64) where
  -- a live slot
  abbrev pub Good : ℕ → Type 0
  Good slot = (slot < slots) × IsLive bitmap slot

  abbrev pub name_at : ℕ → List ℕ
  name_at slot = bytes_of (entry_name (entry_in reads slot))

  abbrev pub pair_at : ℕ → List ℕ × ℕ
  pair_at slot = (name_at slot, get_or (entry_in reads slot) 3 0)

  abbrev pub order : List ℕ
  order = live_order (comes_before reads) bitmap slots

  pub all_good : AllByRecursion Good order
  all_good = live_order_live (comes_before reads) bitmap slots

  module _ (s : Spot) (bits : s bitmap_offset ≡ bitmap) (same : (slot : ℕ) → slot < slots → IsLive bitmap slot → HasEntry s reads slot) (range : List ℕ → Bool) (m : Map) (means : Means slots range s m)
      (stays : StaysIn slots range s) (named : (name : List ℕ) (value : ℕ) → range name ≡ true → at m name ≡ Some value → IsName name) where
    live_here : (slot : ℕ) → IsLive bitmap slot → IsLiveIn s slot
    live_here slot live = subst (λ b. IsLive b slot) (sym bits) live

    own_words : (slot : ℕ) → Good slot → name_words s slot ≡ entry_name (entry_in reads slot)
    own_words slot good =
        let each = same slot good.0 good.1 in
        let a = each 0 (omega arith) in
        let b = each 1 (omega arith) in
        let c = each 2 (omega arith) in
        λ i. a i ∷ b i ∷ c i ∷ []

    pub packed : (slot : ℕ) → Good slot → IsPacked (entry_name (entry_in reads slot))
    packed slot good = packed_from_words (entry_name (entry_in reads slot)) (subst AreNameWords (own_words slot good) (means.tidy.named slot good.0 (live_here slot good.1)))

    pub named_at : (slot : ℕ) → Good slot → IsName (name_at slot)
    named_at slot good = (packed slot good).named

    has_words : (slot : ℕ) → Good slot → name_words s slot ≡ words_of (name_at slot)
    has_words slot good = own_words slot good ∙ sym (packed slot good).whole

    alone : (slot other : ℕ) → Good slot → Good other → name_at slot ≡ name_at other → slot ≡ other
    alone slot other good good' is =
        means.tidy.apart slot other good.0 good'.0 (live_here slot good.1) (live_here other good'.1) (has_words slot good ∙ ap words_of is ∙ sym (has_words other good'))

    -- slots in order have names in order
    below_by : (x y : ℕ) → Good x → Good y → comes_before reads x y ≡ true → is_lt (name_cmp (name_at x) (name_at y)) ≡ true
    below_by x y gx gy is =
        let words : slice_cmp nat_cmp (words_in reads x) (words_in reads y) ≡ name_cmp (name_at x) (name_at y) =
        (λ i. slice_cmp nat_cmp (words_same reads x many (let below : x < slots = gx.0 in let few : slots ≤ 64 = limit in omega arith) i) (words_same reads y many (let below : y < slots = gy.0 in let few : slots ≤ 64 = limit in omega arith) i)) ∙ packed_cmp (entry_name (entry_in reads x)) (entry_name (entry_in reads y)) (packed x gx) (packed y gy) in
        let is_now : is_lt (ordering_then (name_cmp (name_at x) (name_at y)) (nat_cmp x y)) ≡ true = sym (ap (λ o. is_lt (ordering_then o (nat_cmp x y))) words) ∙ is in
        elim (name_cmp (name_at x) (name_at y)) as (λ o. name_cmp (name_at x) (name_at y) ≡ o → is_lt (ordering_then o (nat_cmp x y)) ≡ true → is_lt o ≡ true) [
          | Less ↦ λ e up. refl
          | Equal ↦ λ e up.
              let one = alone x y gx gy (exact (name_at x) (name_at y) e) in
              let tied : nat_cmp x y ≡ Equal = ap (nat_cmp x) (sym one) ∙ tied_itself nat_cmp_total x in
              absurd (let clash : false ≡ true = sym (ap is_lt tied) ∙ up in cc)
          | Greater ↦ λ e up. up
        ] refl is_now

    below_rest : (x : ℕ) (ys : List ℕ) → Good x → AllByRecursion Good ys → AllByRecursion (λ y. comes_before reads x y ≡ true) ys → below_all name_cmp (name_at x) (map pair_at ys) ≡ true
    below_rest x [] gx good up = refl
    below_rest x (y ∷ ys) gx good up = and_from _ _ (below_by x y gx good.0 up.0) (below_rest x ys gx good.1 up.1)

    rises : (xs : List ℕ) → AllByRecursion Good xs → Strict (comes_before reads) xs → is_sorted name_cmp (map pair_at xs) ≡ true
    rises [] good up = refl
    rises (x ∷ xs) good up = and_from _ _ (below_rest x xs good.0 good.1 up.0) (rises xs good.1 up.1)

    -- what is found is in a slot
    record Found (q : List ℕ) (v : ℕ) : Type 0 where
      pub slot : ℕ
      pub good : Good slot
      pub name : name_at slot ≡ q
      pub value : get_or (entry_in reads slot) 3 0 ≡ v

    found : (xs : List ℕ) → AllByRecursion Good xs → (q : List ℕ) (v : ℕ) → find name_cmp q (map pair_at xs) ≡ Some v → Found q v
    found [] good q v is = absurd (let none : None ≡ Some v = is in cc)
    found (x ∷ xs) good q v is =
        elim (same_name q (name_at x)) [
          | inl here ↦
              record { slot = x; good = good.0; name = sym here.0; value = let e : Some (get_or (entry_in reads x) 3 0) ≡ Some v = sym (ap (λ b. cond b (Some (get_or (entry_in reads x) 3 0)) (find name_cmp q (map pair_at xs))) here.1) ∙ is in cc }
          | inr other ↦ found xs good.1 q v (sym (ap (λ b. cond b (Some (get_or (entry_in reads x) 3 0)) (find name_cmp q (map pair_at xs))) other.1) ∙ is)
        ]

    lacking : (xs : List ℕ) (q : List ℕ) → find name_cmp q (map pair_at xs) ≡ None → AllByRecursion (λ slot. name_at slot ≢ q) xs
    lacking [] q is = tt
    lacking (x ∷ xs) q is =
        elim (same_name q (name_at x)) [
          | inl here ↦ absurd (let e : Some (get_or (entry_in reads x) 3 0) ≡ None = sym (ap (λ b. cond b (Some (get_or (entry_in reads x) 3 0)) (find name_cmp q (map pair_at xs))) here.1) ∙ is in cc)
          | inr other ↦ (λ e. other.0 (sym e), lacking xs q (sym (ap (λ b. cond b (Some (get_or (entry_in reads x) 3 0)) (find name_cmp q (map pair_at xs))) other.1) ∙ is))
        ]

    -- a slot's name is one of the range, and the map has its number
    has : (q : List ℕ) (v : ℕ) → Found q v → (range q ≡ true) × (at m q ≡ Some v)
    has q v f =
        let good = f.good in
        let is_name : IsName q = subst IsName f.name (named_at f.slot good) in
        let words : name_words s f.slot ≡ words_of q = has_words f.slot good ∙ ap words_of f.name in
        let inside : range q ≡ true = elim (range q) as (λ b. range q ≡ b → b ≡ true) [
          | true ↦ λ _. refl
          | false ↦ λ out. absurd (stays q is_name out f.slot good.0 (live_here f.slot good.1) words)
        ] refl in
        (inside, at_found slots range s m q f.slot is_name inside means (live_here f.slot good.1) words ∙ ap Some (same f.slot good.0 good.1 3 (omega arith) ∙ f.value))

    agree : (q : List ℕ) → find name_cmp q (map pair_at order) ≡ cond (range q) (at m q) None
    agree q =
        elim (find name_cmp q (map pair_at order)) as (λ o. find name_cmp q (map pair_at order) ≡ o → o ≡ cond (range q) (at m q) None) [
          | Some v ↦ λ is. let is_in = has q v (found order all_good q v is) in sym is_in.1 ∙ ap (λ b. cond b (at m q) None) (sym is_in.0)
          | None ↦ λ is. elim (range q) as (λ b. range q ≡ b → None ≡ cond b (at m q) None) [
            | false ↦ λ _. refl
            | true ↦ λ inside. elim (at m q) as (λ o. at m q ≡ o → None ≡ o) [
              | None ↦ λ _. refl
              | Some w ↦ λ there.
                  let is_name = named q w inside there in
                  let slot = subst (Finds slots s q) there (means.agrees q is_name inside) in
                  let live : IsLive bitmap slot.0 = subst (λ b. IsLive b slot.0) bits slot.2 in
                  let words : words_of q ≡ entry_name (entry_in reads slot.0) = sym slot.3 ∙ own_words slot.0 (slot.1, live) in
                  let its : name_at slot.0 ≡ q = ap bytes_of (sym words) ∙ bytes_of-words_of q is_name in
                  absurd (live_order_has (comes_before reads) bitmap (λ x. name_at x ≢ q) slots (lacking order q is) slot.0 slot.1 live its)
            ] refl
          ] refl
        ] refl

    pub names_are : map pair_at order ≡ where_key name_cmp range (entries m)
    names_are =
        same_entries name_cmp nat_list_cmp_total exact (map pair_at order) (where_key name_cmp range (entries m))
        (subst T (sym (rises order all_good (live_order_strict reads bitmap slots))) tt) (is_sorted-where_key name_cmp range (entries m) (entries_sorted m))
        (λ q. agree q ∙ ap (λ o. cond (range q) o None) (get-entries m q) ∙ sym (find-where_key name_cmp range q (λ x is. ap range (sym (exact q x is))) (entries m)))
