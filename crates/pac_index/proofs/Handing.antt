-- Callers as they are made.
use Rattle.std.proofs.Common.{◌≡◌, ℕ, zero, suc, ◌+◌, ◌<◌, inl, false, List, [], ◌∷◌, ◌++◌, drop, take, get_or, length, refl, sym, ap, ◌∙◌, subst, arith}
use Rattle.std.specs.Prelude.{None}
use mathlib.Core.Option.{some}
use lib.ListN.{get_elem?}
use Rattle.index_core.specs.PartyStates.{idle_state}
use Rattle.index_core.specs.Indexes.{parties_of}
use Rattle.atomic_table.specs.Table.{Me}
use Rattle.pac_index.specs.declared.rule.Member.{Member}
use Rattle.pac_index.specs.declared.caller.Caller.{Caller}
use Rattle.pac_index.specs.declared.shared.Shared.{Shared}
use Rattle.pac_index.specs.Kept.{IsLone, party, member_of, first_view, first_of, rest_of, placed_by}
use Rattle.pac_index.proofs.Remaining.{rests_tells}
use Rattle.pac_index.specs.Callers.{IsAtRest, IsCallerOf, HasCallers, AreNew, seen_by, pairs}
use Rattle.epochs.specs.declared.seat.EpochSeat.{EpochSeat}
use Rattle.epochs.specs.Seats.{IsSeatOf, IsUnpinned}
use Rattle.epochs.proofs.Lists.{each_end, at_longer, at_last, numbered_more}
use Rattle.pac_index.proofs.Seats.{next_first}

-- a seat of one party
pub party_is : (me : Me (Unit {0}) (List Member)) (m : Member) → me ≡ (m ∷ [], []) → party me ≡ m
party_is me m e = ap party e

pub lone_is : (me : Me (Unit {0}) (List Member)) (m : Member) → me ≡ (m ∷ [], []) → IsLone me
lone_is me m e = e ∙ ap (λ (x : Member). (x ∷ [], [])) (sym (party_is me m e))

-- what is left of the first parties
pub left_first : (s : Shared) (i : ℕ) → i < parties_of s.about.layout → rest_of (drop i (first_view s.about)) ≡ drop (suc i) (first_view s.about)
left_first s i less = ap rest_of (next_first s.about (parties_of s.about.layout) i less)

-- the first of the seats that are left, and those behind it
next_of : {A : Type 0} (l : List A) (i : ℕ) (x : A) → i < length l → x ≡ get_or (drop i l) 0 x → get_elem? l i ≡ some x
next_of [] i x less is = absurd (omega arith)
next_of (y ∷ ys) zero x less is = ap some (sym is)
next_of (y ∷ ys) (suc i) x less is = next_of ys i x (omega arith) is

fewer_of : {A : Type 0} (l : List A) (i : ℕ) → drop 1 (drop i l) ≡ drop (suc i) l
fewer_of [] zero = refl
fewer_of [] (suc i) = refl
fewer_of (y ∷ ys) zero = refl
fewer_of (y ∷ ys) (suc i) = fewer_of ys i

pub next_seat : (all : List EpochSeat) (i : ℕ) (left : List EpochSeat) (seat : EpochSeat) → left ≡ drop i all → i < length all → seat ≡ get_or left 0 seat → get_elem? all i ≡ some seat
next_seat all i left seat is less first = next_of all i seat less (first ∙ ap (λ (l : List EpochSeat). get_or l 0 seat) is)

pub fewer_seats : (all : List EpochSeat) (i : ℕ) (left : List EpochSeat) → left ≡ drop i all → take 0 left ++ drop (suc 0) left ≡ drop (i + 1) all
fewer_seats all i left is = ap (λ (l : List EpochSeat). drop 1 l) is ∙ fewer_of all i ∙ ap (λ (n : ℕ). drop n all) (let e : suc i ≡ i + 1 = omega arith in e)

-- one caller more
pub handed : (s : Shared) (i : ℕ) (callers : List Caller) (c : Caller) → i < parties_of s.about.layout → HasCallers s i callers → AreNew callers → c.seat.table_id ≡ s.table.shared.table_id
    → c.seat.me ≡ (first_of (drop i (first_view s.about)), []) → c.number ≡ i → c.index ≡ 0 → c.left ≡ None → c.cut ≡ None → c.kept.items ≡ [] → IsSeatOf s.epochs c.pins → IsUnpinned c.pins → c.pins.party ≡ i → HasCallers s (i + 1) (callers ++ c ∷ []) × AreNew (callers ++ c ∷ [])
handed s i callers c less has fresh table me number index left cut kept pins unpinned pinning =
    let m : Member = member_of s.about (idle_state i) in
    let is : c.seat.me ≡ (m ∷ [], []) = me ∙ ap (λ (v : List Member). (first_of v, [])) (next_first s.about (parties_of s.about.layout) i less) in
    let who : party c.seat.me ≡ m = party_is c.seat.me m is in
    let rests : IsAtRest c = (ap (λ (x : Member). x.state.machine) who, ap (λ (x : Member). x.state.turn) who, cut) in
    let one : IsCallerOf s c = record {
      table = table;
      lone = lone_is c.seat.me m is;
      about = ap (λ (x : Member). x.about) who;
      rests = inl rests;
      tells = rests_tells c rests;
      number = ap (λ (x : Member). x.state.caller) who ∙ sym number;
      within = omega arith;
      kept = ap pairs kept ∙ ap (λ (x : Member). placed_by c.number x.seen) (sym who);
      pins = pins;
      unpinned = unpinned;
      pinning = pinning ∙ sym number;
    } in (
      numbered_more (IsCallerOf s) (λ (d : Caller). d.number) i callers c has one number,
      each_end
          (λ _ d. ((seen_by d).seen ≡ []) × (d.index ≡ 0) × ((seen_by d).taken ≡ 0) × ((seen_by d).added ≡ 0) × ((seen_by d).none_free ≡ false) × (d.left ≡ None)) callers c fresh (
            ap (λ (x : Member). x.seen) who,
            index,
            ap (λ (x : Member). x.taken) who,
            ap (λ (x : Member). x.added) who,
            ap (λ (x : Member). x.none_free) who,
            left,
          ),
    )

-- the last caller, and those before it
pub record Popped (s : Shared) (front : List Caller) (c : Caller) : Type 0 where
  pub last : IsCallerOf s c
  pub number : c.number ≡ length front
  pub rest : HasCallers s (length front) front

pub popped : (s : Shared) (n : ℕ) (front : List Caller) (c : Caller) (all : List Caller) → all ≡ front ++ c ∷ [] → HasCallers s n all → Popped s front c
popped s n front c all is has =
    let there = subst (λ (l : List Caller). get_elem? l (length front) ≡ some c) (sym is) (at_last front c (length front) refl) in record {
      last = has.each (length front) c there;
      number = has.numbers (length front) c there;
      rest = record {
        count = refl;
        each = λ i d at. has.each i d (subst (λ (l : List Caller). get_elem? l i ≡ some d) (sym is) (at_longer front (c ∷ []) i d at));
        numbers = λ i d at. has.numbers i d (subst (λ (l : List Caller). get_elem? l i ≡ some d) (sym is) (at_longer front (c ∷ []) i d at));
      };
    }

pub pushed : (s : Shared) (front : List Caller) (c : Caller) → HasCallers s (length front) front → IsCallerOf s c → c.number ≡ length front → HasCallers s (length (front ++ c ∷ [])) (front ++ c ∷ [])
pushed s front c has one number = record {
  count = refl;
  each = each_end (λ _. IsCallerOf s) front c has.each one;
  numbers = each_end (λ j d. d.number ≡ j) front c has.numbers number;
}
