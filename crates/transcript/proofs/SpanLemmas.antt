-- Spans in the order of their keys are looked at one after another.
use Rattle.std.proofs.Common.{◌≡◌, ℕ, ◌<◌, ◌≤◌, ◌==◌, ◌⊎◌, ◌↔◌, ⊎_elim, inl, inr, cond, List, [], ◌∷◌, length, get_or, drop, map, max, refl, sym, ap, subst, ◌∙◌, arith}
use Rattle.std.specs.Prelude.{Contains}
use Rattle.std.specs.List.{IsDistinct}
use Rattle.std.specs.Ordering.{nat_cmp, eq_by_cmp, ordering_then}
use Rattle.std.specs.List.Sorted.{IsStrictlySortedBy}
use Rattle.std.specs.declared.cmp.Ordering.{Ordering}
use Rattle.std.specs.declared.cmp.Ordering.TheVariants.{Less, Equal, Greater}
use Rattle.std.proofs.lemmas.Bool.{cases_eq, eq-eqb, ne_eqb}
use Rattle.std.proofs.lemmas.Cmp.{ranked}
use Rattle.std.proofs.lemmas.List.{drop_all}
use Rattle.std.proofs.Math.Seq.{drop-cons}
use Rattle.std.proofs.lemmas.Map.Keys.{sorted_tail}
use Rattle.transcript.specs.Calls.{Key, key_cmp}
use Rattle.transcript.specs.Spans.{key_in, FollowEachOther}
use Rattle.transcript.specs.declared.spans.Span.{Span}
use Rattle.transcript.proofs.KeyLemmas.{key_total}
use Rattle.transcript.proofs.Orders.{first_or_later, first_has, later_has, none_has, head_below}

-- a list of spans has keys apart as the list that it is
pub apart_so : {spans told : List Span} → spans ≡ told → IsDistinct (eq_by_cmp key_cmp) (map key_in told) → IsDistinct (eq_by_cmp key_cmp) (map key_in spans)
apart_so is = subst (λ (s : List Span). IsDistinct (eq_by_cmp key_cmp) (map key_in s)) (sym is)

-- where the earlier spans of a caller end
abbrev pub before : ℕ → ℕ → Span → ℕ
before caller latest span = cond (span.caller == caller) latest 0

-- each span starts behind the earlier ones of its caller, where this caller's end there
abbrev pub Follow : ℕ → ℕ → List Span → Type 0
Follow caller latest [] = Unit {0}
Follow caller latest (span ∷ spans) = (before caller latest span ≤ span.start) × Follow span.caller (max (before caller latest span) span.end) spans

below_is : (a b : Key) → key_cmp a b ≡ Less → (a.0 < b.0) ⊎ ((a.0 ≡ b.0) × (a.1 < b.1))
below_is a b less = by (nat_cmp a.0 b.0) refl less where
  second : (o : Ordering) → o ≡ nat_cmp a.1 b.1 → o ≡ Less → a.1 < b.1
  second Less is less = ranked a.1 b.1 Less is
  second Equal is less = absurd (not_less less) where
    not_less : Equal ≡ Less → ⊥
    not_less e = cc
  second Greater is less = absurd (not_less less) where
    not_less : Greater ≡ Less → ⊥
    not_less e = cc

  by : (o : Ordering) → o ≡ nat_cmp a.0 b.0 → ordering_then o (nat_cmp a.1 b.1) ≡ Less → (a.0 < b.0) ⊎ ((a.0 ≡ b.0) × (a.1 < b.1))
  by Less is less = inl (ranked a.0 b.0 Less is)
  by Equal is less = inr (ranked a.0 b.0 Equal is, second (nat_cmp a.1 b.1) refl less)
  by Greater is less = absurd (not_less less) where
    not_less : Greater ≡ Less → ⊥
    not_less e = cc

-- no span here is of an earlier caller
abbrev FromCaller : ℕ → List Span → Type 0
FromCaller caller spans = (t : Span) → Contains spans t → caller ≤ t.caller

-- each span of this caller starts behind this end
abbrev Behind : ℕ → ℕ → List Span → Type 0
Behind caller latest spans = (t : Span) → Contains spans t → t.caller ≡ caller → latest ≤ t.start

module _ (s : Span) (spans : List Span) (up : IsStrictlySortedBy key_cmp (map key_in (s ∷ spans))) where
  later : (t : Span) → Contains spans t → (s.caller < t.caller) ⊎ ((s.caller ≡ t.caller) × (s.index < t.index))
  later t has = below_is (key_in s) (key_in t) (head_below key_in key_cmp key_total s spans up t has)

  later_caller : FromCaller s.caller spans
  later_caller t has = ⊎_elim (λ (less : s.caller < t.caller). omega arith) (λ (same : (s.caller ≡ t.caller) × (s.index < t.index)). omega (arith, same.0)) (later t has)

  rest_up : IsStrictlySortedBy key_cmp (map key_in spans)
  rest_up = sorted_tail key_cmp (key_in s) (map key_in spans) up

pub before_same : (caller latest : ℕ) (s : Span) → s.caller ≡ caller → before caller latest s ≡ latest
before_same caller latest s same = ap (λ b. cond b latest 0) (eq-eqb s.caller caller same)

pub before_other : (caller latest : ℕ) (s : Span) → (s.caller ≡ caller → ⊥) → before caller latest s ≡ 0
before_other caller latest s other = ap (λ b. cond b latest 0) (ne_eqb s.caller caller other)

follow_tells : (caller latest : ℕ) (spans : List Span) → IsStrictlySortedBy key_cmp (map key_in spans) → FromCaller caller spans → Follow caller latest spans → Behind caller latest spans × FollowEachOther spans
follow_tells caller latest [] up from follow = (λ t has. absurd (none_has t has), λ a b has. absurd (none_has a has))
follow_tells caller latest (s ∷ spans) up from follow =
    let end = max (before caller latest s) s.end in
    let rest = follow_tells s.caller end spans (rest_up s spans up) (later_caller s spans up) follow.1 in (
      λ t has same. ⊎_elim
          (λ (here : s ≡ t). let is = before_same caller latest s (ap (λ (u : Span). u.caller) here ∙ same) in let start = ap (λ (u : Span). u.start) here in omega (arith, follow.0))
          (λ (there : Contains spans t).
          let least = from s (first_has s spans) in
          let more = later_caller s spans up t there in
          let mine : s.caller ≡ caller = omega arith in
          let is = before_same caller latest s mine in
          let behind : end ≤ t.start = rest.0 t there (same ∙ sym mine) in
          omega arith)
          (first_or_later s spans t has),
      λ a b has_a has_b same less. ⊎_elim
          (λ (a_here : s ≡ a). ⊎_elim
          (λ (b_here : s ≡ b). let one = ap (λ (u : Span). u.index) (sym a_here ∙ b_here) in absurd (omega arith))
          (λ (b_there : Contains spans b).
          let behind : end ≤ b.start = rest.0 b b_there (sym same ∙ sym (ap (λ (u : Span). u.caller) a_here)) in
          let is = ap (λ (u : Span). u.end) a_here in
          omega arith)
          (first_or_later s spans b has_b))
          (λ (a_there : Contains spans a). ⊎_elim
          (λ (b_here : s ≡ b).
          let callers = ap (λ (u : Span). u.caller) b_here in
          let indexes = ap (λ (u : Span). u.index) b_here in
          absurd (⊎_elim (λ (before' : s.caller < a.caller). omega arith) (λ (at : (s.caller ≡ a.caller) × (s.index < a.index)). omega (arith, at.1)) (later s spans up a a_there)))
          (λ (b_there : Contains spans b). rest.1 a b a_there b_there same less)
          (first_or_later s spans b has_b))
          (first_or_later s spans a has_a),
    )

tells_follow : (caller latest : ℕ) (spans : List Span) → IsStrictlySortedBy key_cmp (map key_in spans) → FromCaller caller spans → Behind caller latest spans → FollowEachOther spans → Follow caller latest spans
tells_follow caller latest [] up from behind each = tt
tells_follow caller latest (s ∷ spans) up from behind each = (
  ⊎_elim
      (λ (same : s.caller ≡ caller). let is = before_same caller latest s same in let start = behind s (first_has s spans) same in omega arith)
      (λ (other : s.caller ≡ caller → ⊥). let is = before_other caller latest s other in omega arith)
      (cases_eq s.caller caller),
  tells_follow s.caller (max (before caller latest s) s.end) spans (rest_up s spans up) (later_caller s spans up)
      (λ t there same.
      let index : s.index < t.index = ⊎_elim (λ (less : s.caller < t.caller). absurd (omega arith)) (λ (at : (s.caller ≡ t.caller) × (s.index < t.index)). at.1) (later s spans up t there) in
      let own : s.end ≤ t.start = each s t (first_has s spans) (later_has s spans t there) (sym same) index in
      ⊎_elim
      (λ (mine : s.caller ≡ caller). let is = before_same caller latest s mine in let start = behind t (later_has s spans t there) (same ∙ mine) in omega arith)
      (λ (other : s.caller ≡ caller → ⊥). let is = before_other caller latest s other in omega arith)
      (cases_eq s.caller caller))
      (λ a b has_a has_b. each a b (later_has s spans a has_a) (later_has s spans b has_b)),
)

pub follow_is : (spans : List Span) → IsStrictlySortedBy key_cmp (map key_in spans) → Follow 0 0 spans ↔ FollowEachOther spans
follow_is spans up = (
  λ follow. (follow_tells 0 0 spans up (λ t has. omega arith) follow).1,
  λ each. tells_follow 0 0 spans up (λ t has. omega arith) (λ t has same. omega arith) each,
)

-- where one of those that are left doesn't follow, they don't all
pub follow_here : (caller latest : ℕ) (spans : List Span) (i : ℕ) (d : Span) → i < length spans → Follow caller latest (drop i spans) → before caller latest (get_or spans i d) ≤ (get_or spans i d).start
follow_here caller latest spans i d within follow = (subst (Follow caller latest) (drop-cons spans i d within) follow).0

pub follow_none : (caller latest : ℕ) (spans : List Span) (i : ℕ) → length spans ≤ i → Follow caller latest (drop i spans)
follow_none caller latest spans i past = subst (Follow caller latest) (sym (drop_all i spans past)) tt
