-- Sums over the nodes of a list.
use Rattle.std.proofs.Common.{◌≡◌, ◌≢◌, ℕ, zero, suc, ◌+◌, ◌≤◌, ◌⊎◌, inl, inr, ⊎_elim, Bool, true, false, cond, List, [], ◌∷◌, refl, sym, ap, ◌∙◌, subst, arith}
use Rattle.std.specs.Prelude.{◌==◌, ◌&&◌, ◌||◌, nat_le, nat_lt}
use Rattle.std.specs.Int.{bit_at}
use Rattle.std.proofs.lemmas.Bool.{cases_eq, eq-eqb, ne_eqb, eqb-true, leb-true, leb-false, le-ltb, lt-ltb}
use Rattle.cat_key.specs.Names.{bytes_of}
use Rattle.pm_words.specs.Offsets.{bitmap_offset}
use Rattle.data_node.specs.Spots.{Spot, name_words}
use Rattle.data_node.specs.Weights.{names_in}
use Rattle.data_node.specs.Lists.{ListNode, key_of, anchor_in, IsMember, IsChain, Rise, with_member, without_member}
use Rattle.call_stages.specs.Kinds.{from_key, below_key}
use Rattle.data_node.specs.Weights.{total}
use Rattle.data_node.proofs.ListLemmas.{not_behind, rise_at}

-- the sum where each part is the same
pub total_alike : (v w : ℕ → ℕ) (here : ℕ) (list : List ListNode) → ((n : ℕ) → (n ≡ here) ⊎ IsMember list n → w n ≡ v n) → total w here list ≡ total v here list
total_alike v w here [] same = same here (inl refl)
total_alike v w here (m ∷ behind) same =
    let first = same here (inl refl) in
    let rest = total_alike v w m.node behind (λ n is. same n (inr is)) in
    omega arith

-- and where one part is another
pub total_one : (now : ℕ → Spot) (v w : ℕ → ℕ) (n here : ℕ) (list : List ListNode) → IsChain now here list → Rise (anchor_in (now here)) list → (n ≡ here) ⊎ IsMember list n
    → ((k : ℕ) → (k ≡ here) ⊎ IsMember list k → k ≢ n → w k ≡ v k) → total w here list + v n ≡ total v here list + w n
total_one now v w n here [] chain rise (inl e) same = let a = ap v e in let b = ap w e in omega arith
total_one now v w n here [] chain rise (inr among) same = absurd among
total_one now v w n here (m ∷ behind) chain rise (inl e) same =
    let a = ap v e in
    let b = ap w e in
    let rest = total_alike v w m.node behind (λ k is. same k (inr is) (λ d. not_behind now here (m ∷ behind) chain rise (subst (λ q. (q ≡ m.node) ⊎ IsMember behind q) (d ∙ e) is))) in
    omega arith
total_one now v w n here (m ∷ behind) chain rise (inr among) same =
    let first = same here (inl refl) (λ d. not_behind now here (m ∷ behind) chain rise (subst (λ q. (q ≡ m.node) ⊎ IsMember behind q) (sym d) among)) in
    let rest = total_one now v w n m.node behind chain.3 (rise_at now m behind chain.2 rise.1) among (λ k is. same k (inr is)) in
    omega arith

-- with one member more
pub total_cut : (now : ℕ → Spot) (w : ℕ → ℕ) (l : ℕ) (new : ListNode) (here : ℕ) (list : List ListNode) → IsChain now here list → Rise (anchor_in (now here)) list → (l ≡ here) ⊎ IsMember list l
    → total w here (with_member l new here list) ≡ total w here list + w new.node
total_cut now w l new here [] chain rise (inl e) = subst (λ b. total w here (cond b (new ∷ []) []) ≡ w here + w new.node) (sym (eq-eqb here l (sym e))) refl
total_cut now w l new here [] chain rise (inr among) = absurd among
total_cut now w l new here (m ∷ behind) chain rise (inl e) =
    subst (λ b. total w here (cond b (new ∷ m ∷ behind) (m ∷ with_member l new m.node behind)) ≡ w here + total w m.node behind + w new.node) (sym (eq-eqb here l (sym e))) (omega arith)
total_cut now w l new here (m ∷ behind) chain rise (inr among) =
    let rest = total_cut now w l new m.node behind chain.3 (rise_at now m behind chain.2 rise.1) among in
    let other : here ≢ l = (λ d. not_behind now here (m ∷ behind) chain rise (subst (λ q. (q ≡ m.node) ⊎ IsMember behind q) (sym d) among)) in
    subst (λ b. total w here (cond b (new ∷ m ∷ behind) (m ∷ with_member l new m.node behind)) ≡ w here + total w m.node behind + w new.node) (sym (ne_eqb here l other)) (omega arith)

-- the sum with another first
total_head : (w : ℕ → ℕ) (a b : ℕ) (list : List ListNode) → total w a list + w b ≡ total w b list + w a
total_head w a b [] = omega arith
total_head w a b (m ∷ behind) = omega arith

-- with one member fewer
pub total_past : (w : ℕ → ℕ) (r here : ℕ) (list : List ListNode) → IsMember list r → total w here (without_member r list) + w r ≡ total w here list
total_past w r here [] among = absurd among
total_past w r here (m ∷ behind) among = elim (m.node == r) as (λ b. (m.node == r) ≡ b → total w here (cond b behind (m ∷ without_member r behind)) + w r ≡ w here + total w m.node behind) [
  | true ↦ λ is. let same = ap w (eqb-true m.node r is) in let head = total_head w here m.node behind in omega arith
  | false ↦ λ is. ⊎_elim
      (λ (e : r ≡ m.node). absurd (let no : true ≡ false = sym (eq-eqb m.node r (sym e)) ∙ is in cc))
      (λ later. let rest = total_past w r m.node behind later in omega arith)
      among
] refl

-- one where a test holds
abbrev one_if : Bool → ℕ
one_if b = cond b 1 0

one_parts : (a r : Bool) (k key : ℕ) → one_if (a && (r && nat_lt k key)) + one_if (a && (r && nat_le key k)) ≡ one_if (a && r)
one_parts false r k key = refl
one_parts true false k key = refl
one_parts true true k key =
    elim (nat_le key k) as (λ b. nat_le key k ≡ b → one_if (nat_lt k key) + one_if b ≡ 1) [
      | true ↦ λ up. ap (λ b. one_if b + 1) (le-ltb k key (leb-true key k up))
      | false ↦ λ low. ap (λ b. one_if b + 0) (lt-ltb k key (leb-false key k low))
    ] refl

added : (a b c d e f : ℕ) → a + b ≡ c → d + e ≡ f → (a + d) + (b + e) ≡ c + f
added a b c d e f first rest = omega arith

-- the names of a range are those below a key and those from it on
pub names_parts : (slots : ℕ) (range : List ℕ → Bool) (key : ℕ) (s : Spot) → names_in slots (below_key range key) s + names_in slots (from_key range key) s ≡ names_in slots range s
names_parts zero range key s = refl
names_parts (suc slot) range key s =
    let name = bytes_of (name_words s slot) in
    let live : Bool = bit_at (s bitmap_offset) slot == 1 in
    added (one_if (live && below_key range key name)) (one_if (live && from_key range key name)) (one_if (live && range name))
    (names_in slot (below_key range key) s) (names_in slot (from_key range key) s) (names_in slot range s)
    (one_parts live (range name) (key_of name) key) (names_parts slot range key s)

-- the sum of sums
pub total_plus : (v w : ℕ → ℕ) (here : ℕ) (list : List ListNode) → total (λ n. v n + w n) here list ≡ total v here list + total w here list
total_plus v w here [] = refl
total_plus v w here (m ∷ behind) = let rest = total_plus v w m.node behind in omega arith

pub total_zero : (here : ℕ) (list : List ListNode) → total (λ n. 0) here list ≡ 0
total_zero here [] = refl
total_zero here (m ∷ behind) = let rest = total_zero m.node behind in omega arith

-- a part that only one node has
unfoldable pub part_at : ℕ → ℕ → ℕ → ℕ
part_at a x n = cond (a == n) x 0

pub part-here : (a x n : ℕ) → a ≡ n → part_at a x n ≡ x
unfolding part_at
part-here a x n e = ap (λ b. cond b x 0) (eq-eqb a n e)

pub part-else : (a x n : ℕ) → a ≢ n → part_at a x n ≡ 0
unfolding part_at
part-else a x n e = ap (λ b. cond b x 0) (ne_eqb a n e)

none_of : (a x here : ℕ) (list : List ListNode) → ((a ≡ here) ⊎ IsMember list a → ⊥) → total (part_at a x) here list ≡ 0
none_of a x here [] out = part-else a x here (λ e. out (inl e))
none_of a x here (m ∷ behind) out =
    let first = part-else a x here (λ e. out (inl e)) in
    let rest = none_of a x m.node behind (λ is. out (inr is)) in
    omega arith

pub total_part : (now : ℕ → Spot) (a x here : ℕ) (list : List ListNode) → IsChain now here list → Rise (anchor_in (now here)) list → total (part_at a x) here list ≤ x
total_part now a x here [] chain rise = ⊎_elim
    (λ (e : a ≡ here). let is = part-here a x here e in omega arith)
    (λ (other : a ≢ here). let is = part-else a x here other in omega arith)
    (cases_eq a here)
total_part now a x here (m ∷ behind) chain rise = ⊎_elim
    (λ (e : a ≡ here).
    let is = part-here a x here e in
    let rest = none_of a x m.node behind (λ among. not_behind now here (m ∷ behind) chain rise (subst (λ k. (k ≡ m.node) ⊎ IsMember behind k) e among)) in
    omega arith)
    (λ (other : a ≢ here).
    let is = part-else a x here other in
    let rest = total_part now a x m.node behind chain.3 (rise_at now m behind chain.2 rise.1) in
    omega arith)
    (cases_eq a here)

-- fewer names of a smaller range
one_less : (a r q : Bool) → (r ≡ true → q ≡ true) → one_if (a && r) ≤ one_if (a && q)
one_less false r q also = omega arith
one_less true false q also = omega arith
one_less true true q also = let is : one_if q ≡ 1 = ap one_if (also refl) in omega arith

summed : (a b c d : ℕ) → a ≤ b → c ≤ d → a + c ≤ b + d
summed a b c d first rest = omega arith

pub names_less : (slots : ℕ) (part range : List ℕ → Bool) (s : Spot) → ((name : List ℕ) → part name ≡ true → range name ≡ true) → names_in slots part s ≤ names_in slots range s
names_less zero part range s also = omega arith
names_less (suc slot) part range s also =
    let name = bytes_of (name_words s slot) in
    let live : Bool = bit_at (s bitmap_offset) slot == 1 in
    summed (one_if (live && part name)) (one_if (live && range name)) (names_in slot part s) (names_in slot range s)
    (one_less live (part name) (range name) (also name)) (names_less slot part range s also)

-- and those of two ranges
one_or : (a r q : Bool) → one_if (a && (r || q)) ≤ one_if (a && r) + one_if (a && q)
one_or false r q = omega arith
one_or true false q = omega arith
one_or true true q = omega arith

or_summed : (a b c d e f : ℕ) → a ≤ b + c → d ≤ e + f → a + d ≤ (b + e) + (c + f)
or_summed a b c d e f first rest = omega arith

pub names_or : (slots : ℕ) (one other : List ℕ → Bool) (s : Spot) → names_in slots (λ name. one name || other name) s ≤ names_in slots one s + names_in slots other s
names_or zero one other s = omega arith
names_or (suc slot) one other s =
    let name = bytes_of (name_words s slot) in
    let live : Bool = bit_at (s bitmap_offset) slot == 1 in
    or_summed (one_if (live && (one name || other name))) (one_if (live && one name)) (one_if (live && other name))
    (names_in slot (λ k. one k || other k) s) (names_in slot one s) (names_in slot other s)
    (one_or live (one name) (other name)) (names_or slot one other s)
