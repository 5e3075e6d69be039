-- The calls of a legal history that took place are a legal round.
use Rattle.std.proofs.Common.{◌≡◌, ◌≢◌, ℕ, zero, suc, ◌+◌, ◌<◌, ◌≤◌, ◌⊎◌, ◌↔◌, ⊎_elim, false, nat_eq, List, [], ◌∷◌, length, get_or, map, refl, sym, ap, ◌∙◌, subst, arith, zero-add}
use Rattle.std.specs.Prelude.{Option, Some, None, All, Contains, IfSome, option_map, slice_get}
use Rattle.std.specs.List.{filter_map, cons_option, enumerate_from, remove, AllByRecursion, IsDistinct}
use Rattle.std.specs.List.Sorted.{IsPermutation}
use Rattle.std.specs.Map.{keys_of}
use Rattle.std.specs.Option.{option_and_then}
use Rattle.std.proofs.lemmas.Bool.{cases_order, eqb-false, ne_eqb}
use Rattle.std.proofs.lemmas.Cmp.{nat_eq_equiv}
use Rattle.std.proofs.lemmas.List.{get_or-map, length-map}
use Rattle.std.proofs.lemmas.List.Elements.{All-from_recursion, recursion_from_All, All-contains, All-map, Contains-append_right}
use Rattle.std.proofs.lemmas.List.FromFn.{length-enumerate_from, get_or-enumerate_from}
use Rattle.std.proofs.lemmas.List.Sorted.{IsPermutation-refl, IsPermutation-sym, IsPermutation-trans, IsPermutation-cons, IsPermutation-map, IsPermutation-remove, Contains-permutation}
use Rattle.std.proofs.lemmas.Map.Keys.{IsDistinct-IsPermutation}
use Rattle.std.proofs.lemmas.Map.Made.{Contains-tail}
use Rattle.std.proofs.lemmas.Option.{slice_get-get_or, slice_get_within, get_or_from_slice_get, option_and_then_some}
use mathlib.Core.Option.{some, some-injective, some-ne-none}
use lib.ListN.{get_elem?}
use Rattle.cat_history.specs.Maps.{map_of, Map, at}
use Rattle.cat_history.specs.Writes.{after}
use Rattle.cat_history.proofs.CallerLemmas.{late_writes_are_few}
use Rattle.cat_history.specs.Records.{Call, as_op, call_of, change_of, change_asked, placed_write, placed_writes, Interval, interval, interval_at, interval_asked}
use Rattle.cat_history.specs.Rounds.{IsAnswer, KeepsCallersOrder}
use Rattle.cat_history.specs.declared.op.Change.{Change}
use Rattle.cat_history.specs.declared.op.NameOp.{NameOp}
use Rattle.cat_history.specs.declared.op.NameOp.TheVariants as op
use Rattle.cat_history.specs.declared.op.Write.{Write}
use Rattle.cat_history.specs.declared.record.Record.{Record}
use Rattle.cat_history.specs.declared.record.Reply.TheVariants.{Old}
use Rattle.call_stages.specs.declared.once.Once.{Once}
use Rattle.call_stages.specs.declared.once.Once.TheVariants as once
use Rattle.call_stages.specs.declared.once.Placed.{Placed}
use Rattle.node_ops.specs.Asked.{name_asked}
use Rattle.index_core.specs.Indexes.{Index}
use Rattle.index_core.specs.LegalRounds.{placed_record, record_told, record_of, records_of, callers_placed, LegalHistoryIsLegalRound, LegalHistoryKeepsLimit}
use Rattle.index_core.specs.Lone.{HasNoCalls}
use Rattle.index_core.specs.Schedules.{BegunCall, AnsweredCall, IsNext, IsLegalAnswer, IsPlacedCall, StandsAt, interval_of, IsAnsweredWrite, IsWriteInFlight, CarryLimit, IsLegalHistory}
use Rattle.index_core.proofs.Flights.{answered_begun}
use Rattle.index_core.proofs.Limits.{write_end, first_there}
use Rattle.index_core.proofs.Lists.{some_same}

module _ {A B : Type 0} (f : A → Option B) where
  -- what holds of all that the elements give
  pub gives-each : (P : B → Type 0) (l : List A) → ((i : ℕ) (a : A) (b : B) → get_elem? l i ≡ some a → f a ≡ Some b → P b) → AllByRecursion P (filter_map f l)
  gives-each P [] each = tt
  gives-each P (a ∷ l) each = by (f a) refl (gives-each P l (λ i. each (suc i)))
    where
      by : (o : Option B) → f a ≡ o → AllByRecursion P (filter_map f l) → AllByRecursion P (cons_option o (filter_map f l))
      by None gives behind = behind
      by (Some b) gives behind = (each 0 a b refl gives, behind)

  -- what an element gives is among what all give
  pub gives-here : (l : List A) (i : ℕ) (a : A) (b : B) → get_elem? l i ≡ some a → f a ≡ Some b → Contains (filter_map f l) b
  gives-here [] i a b at gives = absurd (some-ne-none a (sym at))
  gives-here (c ∷ l) zero a b at gives =
      subst (λ (o : Option B). Contains (cons_option o (filter_map f l)) b) (sym (ap f (some-injective c a at) ∙ gives)) (0, omega arith, refl)
  gives-here (c ∷ l) (suc i) a b at gives = behind (f c) (gives-here l i a b at gives)
    where
      behind : (o : Option B) → Contains (filter_map f l) b → Contains (cons_option o (filter_map f l)) b
      behind None has = has
      behind (Some first) has = (suc has.0, let less = has.1 in omega arith, has.2)

  -- what stands among them is given by an element
  pub given-by : (l : List A) (b : B) → Contains (filter_map f l) b → (i : ℕ) × (a : A) × (get_elem? l i ≡ some a) × (f a ≡ Some b)
  given-by l b has =
      let Given : B → Type 0 = λ d. (i : ℕ) × (a : A) × (get_elem? l i ≡ some a) × (f a ≡ Some d) in
      All-contains Given (filter_map f l) b (All-from_recursion Given (filter_map f l) (gives-each Given l (λ i a d at gives. (i, a, at, gives)))) has

  -- what two steps give, one step gives
  gives-twice : {C : Type 0} (g : B → Option C) (l : List A) → filter_map g (filter_map f l) ≡ filter_map (λ a. option_and_then g (f a)) l
  gives-twice g [] = refl
  gives-twice {C} g (a ∷ l) = by (f a) (gives-twice g l)
    where
      by : (o : Option B) → filter_map g (filter_map f l) ≡ filter_map (λ a. option_and_then g (f a)) l
          → filter_map g (cons_option o (filter_map f l)) ≡ cons_option (option_and_then g o) (filter_map (λ a. option_and_then g (f a)) l)
      by None is = is
      by (Some b) is = ap (cons_option (g b)) is

module _ {A X : Type 0} (f : A → Option (ℕ × X)) where
  -- where no two elements give one number, no number is given twice
  pub gives-apart : (l : List A)
      → ((i j : ℕ) (a b : A) (x y : ℕ × X) → get_elem? l i ≡ some a → get_elem? l j ≡ some b → i < j → f a ≡ Some x → f b ≡ Some y → x.0 ≢ y.0)
      → IsDistinct nat_eq (keys_of (filter_map f l))
  unfolding IsDistinct
  gives-apart [] apart = tt
  gives-apart (a ∷ l) apart = by (f a) refl (gives-apart l (λ i j c d x y at_i at_j less. apart (suc i) (suc j) c d x y at_i at_j (omega arith)))
    where
      by : (o : Option (ℕ × X)) → f a ≡ o → IsDistinct nat_eq (keys_of (filter_map f l)) → IsDistinct nat_eq (keys_of (cons_option o (filter_map f l)))
      by None gives behind = behind
      by (Some x) gives behind =
          let Other : ℕ → Type 0 = λ k. nat_eq x.0 k ≡ false in
          let others : AllByRecursion (λ (y : ℕ × X). Other y.0) (filter_map f l) =
          gives-each f (λ y. Other y.0) l (λ j b y at given. ne_eqb x.0 y.0 (apart 0 (suc j) a b x y refl at (omega arith) gives given)) in (
            recursion_from_All Other (keys_of (filter_map f l))
                (All-map Other (λ (y : ℕ × X). y.0) (filter_map f l) (All-from_recursion (λ (y : ℕ × X). Other y.0) (filter_map f l) others)),
            behind,
          )

module _ {X : Type 0} where
  -- a number that no element has is not that of one
  none-numbered : (k : ℕ) (xs : List (ℕ × X)) (e : ℕ × X) → AllByRecursion (λ m. nat_eq k m ≡ false) (keys_of xs) → Contains xs e → k ≢ e.0
  none-numbered k xs e other has =
      let Other : ℕ → Type 0 = λ m. nat_eq k m ≡ false in
      let number : Contains (keys_of xs) e.0 = (
        has.0,
        let less = has.1 in omega (arith, length-map xs (λ (d : ℕ × X). d.0)),
        get_or-map (λ (d : ℕ × X). d.0) xs has.0 e e.0 has.1 ∙ ap (λ (d : ℕ × X). d.0) has.2,
      ) in
      eqb-false k e.0 (All-contains Other (keys_of xs) e.0 (All-from_recursion Other (keys_of xs) other) number)

  -- numbered elements, no number twice: lists that have the same ones are one another's permutations
  pub permuted : (xs ys : List (ℕ × X)) → IsDistinct nat_eq (keys_of xs) → IsDistinct nat_eq (keys_of ys) → ((e : ℕ × X) → Contains xs e ↔ Contains ys e) → IsPermutation xs ys
  unfolding IsDistinct
  permuted [] [] apart others same = IsPermutation-refl []
  permuted [] (y ∷ ys) apart others same = absurd (let none = ((same y).1 (0, omega arith, refl)).1 in omega arith)
  permuted (x ∷ xs) ys apart others same =
      let has : Contains ys x = (same x).0 (0, omega arith, refl) in
      let rest : List (ℕ × X) = remove ys has.0 in
      let out : IsPermutation ys (x ∷ rest) = IsPermutation-remove ys has.0 x has.1 (sym has.2) in
      let keys : IsDistinct nat_eq (keys_of (x ∷ rest)) =
      IsDistinct-IsPermutation nat_eq nat_eq_equiv.symm (keys_of ys) (keys_of (x ∷ rest)) (IsPermutation-map (λ (e : ℕ × X). e.0) ys (x ∷ rest) out) others in
      let alike : (e : ℕ × X) → Contains xs e ↔ Contains rest e = λ e. (
        λ here.
            Contains-tail x rest e (λ is. none-numbered x.0 xs e apart.0 here (ap (λ (d : ℕ × X). d.0) is))
            (Contains-permutation ys (x ∷ rest) e out ((same e).0 (Contains-append_right (x ∷ []) xs e here))),
        λ here.
            Contains-tail x xs e (λ is. none-numbered x.0 rest e keys.0 here (ap (λ (d : ℕ × X). d.0) is))
            ((same e).1 (Contains-permutation (x ∷ rest) ys e (IsPermutation-sym ys (x ∷ rest) out) (Contains-append_right (x ∷ []) rest e here))),
      ) in
      IsPermutation-trans (x ∷ xs) (x ∷ rest) ys (IsPermutation-cons x xs rest (permuted xs rest apart.1 keys.1 alike)) (IsPermutation-sym ys (x ∷ rest) out)

  -- a list by place has each element beside its place, and no place twice
  pub numbered-there : (h : List X) (place : ℕ) (x : X) → slice_get h place ≡ Some x → Contains (enumerate_from 0 h) (place, x)
  numbered-there h place x stands =
      let within = slice_get_within h place x stands in (
        place,
        omega (arith, within, length-enumerate_from 0 h),
        get_or-enumerate_from 0 h place (place, x) within ∙ (λ i. (zero-add place i, get_or_from_slice_get h place x x stands i)),
      )

  pub numbered-from : (h : List X) (place : ℕ) (x : X) → Contains (enumerate_from 0 h) (place, x) → slice_get h place ≡ Some x
  numbered-from h place x has =
      let within : has.0 < length h = (let less = has.1 in omega (arith, length-enumerate_from 0 h)) in
      let is : ◌≡◌ {A = ℕ × X} (0 + has.0, get_or h has.0 x) (place, x) = sym (get_or-enumerate_from 0 h has.0 (place, x) within) ∙ has.2 in
      let here : has.0 ≡ place = sym (zero-add has.0) ∙ ap (λ (e : ℕ × X). e.0) is in
      subst (λ (k : ℕ). slice_get h k ≡ Some x) here (slice_get-get_or h has.0 x within ∙ ap (λ (e : ℕ × X). Some e.1) is)

  numbered-above : (k n : ℕ) (h : List X) → k < n → AllByRecursion (λ m. nat_eq k m ≡ false) (keys_of (enumerate_from n h))
  numbered-above k n [] less = tt
  numbered-above k n (x ∷ h) less = (ne_eqb k n (λ same. absurd (omega arith)), numbered-above k (n + 1) h (omega arith))

  pub numbered-apart : (n : ℕ) (h : List X) → IsDistinct nat_eq (keys_of (enumerate_from n h))
  unfolding IsDistinct
  numbered-apart n [] = tt
  numbered-apart n (x ∷ h) = (numbered-above n (n + 1) h (omega arith), numbered-apart (n + 1) h)

-- what is made of an element is among what is made of all
pub contains-map : {A B : Type 0} (f : A → B) (l : List A) (a : A) → Contains l a → Contains (map f l) (f a)
contains-map f l a has = (
  has.0,
  let within = has.1 in omega (arith, length-map l f),
  get_or-map f l has.0 a (f a) has.1 ∙ ap f has.2,
)

-- the record of a call that took place
pub took-place : (c : AnsweredCall) (r : Record) → record_of c ≡ Some r → (placed : Placed) × (c.answer ≡ once.Done placed) × (placed_record c.call placed ≡ r)
took-place c r told = by c.answer refl told
  where
    by : (o : Once Placed) → c.answer ≡ o → record_told c.call o ≡ Some r → (placed : Placed) × (c.answer ≡ once.Done placed) × (placed_record c.call placed ≡ r)
    by (once.Done placed) is told = (placed, is, some_same told)
    by (once.Spent clock) is told = absurd (let none : None ≡ Some r = told in cc)
    by (once.Worn node word) is told = absurd (let none : None ≡ Some r = told in cc)
    by (once.Again why) is told = absurd (let none : None ≡ Some r = told in cc)

-- the write of a call that took place, beside its place
abbrev pub write_told : AnsweredCall → Option (ℕ × Write)
write_told c = option_and_then placed_write (record_of c)

-- it stands at its place, and is of that call
told-stands : (history : List Write) (c : BegunCall) (placed : Placed) (o : Option Change) (x : ℕ × Write) → StandsAt history c.caller c.index placed.place o
    → option_map (λ change. (placed.place, record { caller = c.caller; index = c.index; change = change })) o ≡ Some x
    → (slice_get history x.0 ≡ Some x.1) × (x.1.caller ≡ c.caller) × (x.1.index ≡ c.index)
told-stands history c placed None x stands told = absurd (let none : None ≡ Some x = told in cc)
told-stands history c placed (Some change) x stands told =
    subst (λ (y : ℕ × Write). (slice_get history y.0 ≡ Some y.1) × (y.1.caller ≡ c.caller) × (y.1.index ≡ c.index)) (some_same told) (stands, refl, refl)

-- the old number is an answer of each op
pub answer-of : (base : Map) (history : List Write) (limit : ℕ) (o : NameOp) (placed : Placed) → placed.old ≡ at (after base history placed.place) (name_asked o)
    → IsAnswer base history limit (as_op o) (Old placed.old placed.place)
answer-of base history limit (op.Put name value) placed is = is
answer-of base history limit (op.Get name) placed is = is
answer-of base history limit (op.Del name) placed is = is

-- a call on one name asks for its change, and takes its places, among any calls too
pub asked-is : (o : NameOp) → change_asked (as_op o) ≡ change_of o
asked-is (op.Put name value) = refl
asked-is (op.Get name) = refl
asked-is (op.Del name) = refl

pub interval-is : (o : NameOp) (place : ℕ) → interval_at o place ≡ interval_asked (as_op o) place
interval-is (op.Put name value) place = refl
interval-is (op.Get name) place = refl
interval-is (op.Del name) place = refl

ends-before : (a b : NameOp) (p q : ℕ) → (interval_at a p).end ≤ (interval_at b q).start → (interval_asked (as_op a) p).end ≤ (interval_asked (as_op b) q).start
ends-before a b p q before =
    subst (λ (i : Interval). i.end ≤ (interval_asked (as_op b) q).start) (interval-is a p)
    (subst (λ (i : Interval). (interval_at a p).end ≤ i.start) (interval-is b q) before)

module _ (initial : Index) (begun : List BegunCall) (calls : List AnsweredCall) (s : Index) (legal : IsLegalHistory initial begun calls s) where
  abbrev base : Map
  base = map_of initial.base

  pub placed-legal : (i : ℕ) (c : AnsweredCall) (placed : Placed) → get_elem? calls i ≡ some c → c.answer ≡ once.Done placed → IsPlacedCall base s.history c.call c.until placed
  placed-legal i c placed there is = subst (IsLegalAnswer s.layout.slots base s.history c.call c.until c.next) is (legal.answers i c there).answer

  -- of two calls of one caller, the first of which took place, the later one's index is higher
  rises : (i j : ℕ) (a b : AnsweredCall) (placed : Placed) → get_elem? calls i ≡ some a → get_elem? calls j ≡ some b → i < j → a.call.caller ≡ b.call.caller →
      a.answer ≡ once.Done placed → a.call.index < b.call.index
  rises i j a b placed at_i at_j less caller is =
      let next : a.next ≡ a.call.index + 1 = subst (IsNext a.call.index a.next a.whole) is (legal.answers i a at_i).next in
      let before = (legal.in_order i j a b at_i at_j less caller).index in
      omega arith

  -- the write of an answered call stands at its place, and is of that call
  pub stands-there : (i : ℕ) (c : AnsweredCall) (x : ℕ × Write) → get_elem? calls i ≡ some c → write_told c ≡ Some x
      → (placed : Placed) × (c.answer ≡ once.Done placed) × (slice_get s.history x.0 ≡ Some x.1) × (x.1.caller ≡ c.call.caller) × (x.1.index ≡ c.call.index)
  stands-there i c x there told = option_and_then_some placed_write (record_of c) x told (λ r is of.
      let took = took-place c r is in
      let stands = told-stands s.history c.call took.0 (change_of c.call.op) x (placed-legal i c took.0 there took.1).stands
      (ap (option_map (λ (change : Change). (took.0.place, record { caller = c.call.caller; index = c.call.index; change = change }))) (sym (asked-is c.call.op)) ∙ ap placed_write took.2 ∙ of) in
      (took.0, took.1, stands.0, stands.1, stands.2))

  -- no two calls' writes have one place
  pub places-apart : (i j : ℕ) (a b : AnsweredCall) (x y : ℕ × Write) → get_elem? calls i ≡ some a → get_elem? calls j ≡ some b → i < j → write_told a ≡ Some x → write_told b ≡ Some y → x.0 ≢ y.0
  places-apart i j a b x y at_i at_j less told_a told_b place =
      let first = stands-there i a x at_i told_a in
      let second = stands-there j b y at_j told_b in
      let one : x.1 ≡ y.1 = some_same (sym first.2 ∙ ap (slice_get s.history) place ∙ second.2) in
      let caller : a.call.caller ≡ b.call.caller = sym first.3 ∙ ap (λ (w : Write). w.caller) one ∙ second.3 in
      let index : a.call.index ≡ b.call.index = sym first.4 ∙ ap (λ (w : Write). w.index) one ∙ second.4 in
      let above = rises i j a b first.0 at_i at_j less caller first.1 in
      omega arith

  -- each write of the history is told by a call, once none is in flight
  told-here : HasNoCalls s → (place : ℕ) (write : Write) → slice_get s.history place ≡ Some write → Contains (filter_map write_told calls) (place, write)
  told-here idle place write stands =
      ⊎_elim
      (λ (w : IsAnsweredWrite calls place write).
      let told : record_of w.answered ≡ Some (placed_record w.answered.call w.placed) = ap (record_told w.answered.call) w.answer in
      let is : write_told w.answered ≡ Some (place, write) =
      ap (option_and_then placed_write) told
      ∙ ap (option_map (λ (change : Change). (w.placed.place, record { caller = w.answered.call.caller; index = w.answered.call.index; change = change }))) (asked-is w.answered.call.op ∙ w.change)
      ∙ (λ i. Some (w.place i, record { caller = sym w.caller i; index = sym w.index i; change = write.change })) in
      gives-here write_told calls w.number w.answered (place, write) w.there is)
      (λ (w : IsWriteInFlight s.states place write). absurd (let both : None ≡ Some w.machine = sym (idle w.party w.state w.there) ∙ w.flies in cc))
      (legal.writes place write stands)

  by-place : HasNoCalls s → IsPermutation (placed_writes (records_of calls)) (enumerate_from 0 s.history)
  by-place idle =
      let Stands : ℕ × Write → Type 0 = λ x. slice_get s.history x.0 ≡ Some x.1 in
      subst (λ (xs : List (ℕ × Write)). IsPermutation xs (enumerate_from 0 s.history)) (sym (gives-twice record_of placed_write calls))
      (permuted (filter_map write_told calls) (enumerate_from 0 s.history) (gives-apart write_told calls places-apart) (numbered-apart 0 s.history)
      (λ x. (
        λ has. let by = given-by write_told calls x has in numbered-there s.history x.0 x.1 (stands-there by.0 by.1 x by.2 by.3).2,
        λ has. told-here idle x.0 x.1 (numbered-from s.history x.0 x.1 has),
      )))

  -- what holds of the record of each call that took place holds of each record
  each-record : (P : Record → Type 0) → ((i : ℕ) (c : AnsweredCall) (placed : Placed) → IsPlacedCall base s.history c.call c.until placed → P (placed_record c.call placed)) → All P (records_of calls)
  each-record P each = All-from_recursion P (records_of calls)
      (gives-each record_of P calls (λ i c r there told. let took = took-place c r told in subst P took.2 (each i c took.0 (placed-legal i c took.0 there took.1))))

  in-order : KeepsCallersOrder (records_of calls)
  in-order r t has_r has_t same less =
      let by_r = given-by record_of calls r has_r in
      let by_t = given-by record_of calls t has_t in
      let a = by_r.1 in
      let b = by_t.1 in
      let took = took-place a r by_r.3 in
      let later = took-place b t by_t.3 in
      let caller : a.call.caller ≡ b.call.caller = ap (λ (q : Record). q.caller) took.2 ∙ same ∙ sym (ap (λ (q : Record). q.caller) later.2) in
      let first : a.call.index ≡ r.index = ap (λ (q : Record). q.index) took.2 in
      let second : b.call.index ≡ t.index = ap (λ (q : Record). q.index) later.2 in
      subst (λ (q : Record). IfSome (interval q) (λ first. IfSome (interval t) (λ second. first.end ≤ second.start))) took.2
      (subst (λ (q : Record). IfSome (interval (placed_record a.call took.0)) (λ first. IfSome (interval q) (λ second. first.end ≤ second.start))) later.2
      (⊎_elim
      (λ (here : by_r.0 ≡ by_t.0).
      let one : a ≡ b = some-injective _ _ (sym by_r.2 ∙ ap (get_elem? calls) here ∙ by_t.2) in
      let index = ap (λ (c : AnsweredCall). c.call.index) one in
      absurd (omega arith))
      (λ (apart : (by_r.0 < by_t.0) ⊎ (by_t.0 < by_r.0)). ⊎_elim
      (λ (before : by_r.0 < by_t.0).
      ends-before a.call.op b.call.op took.0.place later.0.place
      (subst (λ (o : Once Placed). IfSome (interval_of b.call.op o) (λ second. (interval_at a.call.op took.0.place).end ≤ second.start)) later.1
      (subst (λ (o : Once Placed). IfSome (interval_of a.call.op o) (λ first. IfSome (interval_of b.call.op b.answer) (λ second. first.end ≤ second.start))) took.1
      (legal.in_order by_r.0 by_t.0 a b by_r.2 by_t.2 before caller).in_order)))
      (λ (behind : by_t.0 < by_r.0). let above = rises by_t.0 by_r.0 b a later.0 by_t.2 by_r.2 behind (sym caller) later.1 in absurd (omega arith))
      apart)
      (cases_order by_r.0 by_t.0)))

  module _ (limit : ℕ) (idle : HasNoCalls s) (carry : CarryLimit limit begun) where
    -- a call that wrote began below the limit, and ended past its place
    pub wrote-below : (place : ℕ) (write : Write) (w : IsAnsweredWrite calls place write) → (w.answered.call.since < limit) × (w.answered.call.since ≤ place) × (place < w.answered.until)
    wrote-below place write w =
        let a = w.answered in
        let is = placed-legal w.number a w.placed w.there w.answer in
        let end = write_end a.call.op w.placed.place write.change w.change in
        let ended = is.ended in
        let began = is.took.later in
        let same = w.place in
        let below : a.call.since < limit =
        subst (λ (o : Option ℕ). IfSome o (λ most. a.call.since < most)) (own_limit a.call write.change (answered_begun begun calls s.states legal.each_call w.number a w.there) w.change) is.took.below in
        (below, omega arith, omega arith)
      where
        own_limit : (c : BegunCall) (change : Change) → Contains begun c → change_of c.op ≡ Some change → c.limit ≡ Some limit
        own_limit c change has asks =
            subst (λ (o : Option Change). IfSome o (λ change. c.limit ≡ Some limit)) asks (All-contains (λ (b : BegunCall). IfSome (change_of b.op) (λ change. b.limit ≡ Some limit)) begun c carry has)

    -- each write is that of an answered call
    pub wrote : (place : ℕ) (write : Write) → slice_get s.history place ≡ Some write → IsAnsweredWrite calls place write
    wrote place write stands =
        ⊎_elim (λ (w : IsAnsweredWrite calls place write). w)
        (λ (w : IsWriteInFlight s.states place write). absurd (let both : None ≡ Some w.machine = sym (idle w.party w.state w.there) ∙ w.flies in cc))
        (legal.writes place write stands)

    -- whose caller has a record
    wrote-recorded : (place : ℕ) (write : Write) → IsAnsweredWrite calls place write → Contains (callers_placed calls) write.caller
    wrote-recorded place write w =
        let r = placed_record w.answered.call w.placed in
        let has : Contains (records_of calls) r = gives-here record_of calls w.number w.answered r w.there (ap (record_told w.answered.call) w.answer) in
        let mapped : Contains (map call_of (records_of calls)) (call_of r) = contains-map call_of (records_of calls) r has in
        subst (Contains (callers_placed calls)) (sym w.caller) (contains-map (λ (c : Call). c.caller) (map call_of (records_of calls)) (call_of r) mapped)

    pub wrote-once : (p q : ℕ) (v w : Write) → slice_get s.history p ≡ Some v → slice_get s.history q ≡ Some w → p < q → limit ≤ p + 1 → v.caller ≢ w.caller
    wrote-once p q v w at_p at_q less late same =
        let one = wrote p v at_p in
        let two = wrote q w at_q in
        let by = wrote-below p v one in
        let on = wrote-below q w two in
        let past = by.2 in
        let below = on.0 in
        let later = by.1 in
        let further = on.2 in
        let caller : one.answered.call.caller ≡ two.answered.call.caller = sym one.caller ∙ same ∙ two.caller in
        ⊎_elim
        (λ (number : one.number ≡ two.number).
        let call : one.answered ≡ two.answered = some-injective _ _ (sym one.there ∙ ap (get_elem? calls) number ∙ two.there) in
        let answers : once.Done one.placed ≡ once.Done two.placed = sym one.answer ∙ ap (λ (a : AnsweredCall). a.answer) call ∙ two.answer in
        let place : p ≡ q = sym one.place ∙ done-place one.placed two.placed answers ∙ two.place in
        omega arith)
        (λ (apart : (one.number < two.number) ⊎ (two.number < one.number)). ⊎_elim
        (λ (before : one.number < two.number). let ended = (legal.in_order one.number two.number one.answered two.answered one.there two.there before caller).ended in omega arith)
        (λ (behind : two.number < one.number). let ended = (legal.in_order two.number one.number two.answered one.answered two.there one.there behind (sym caller)).ended in omega arith)
        apart)
        (cases_order one.number two.number)
      where
        done-place : (a b : Placed) → once.Done a ≡ once.Done b → a.place ≡ b.place
        done-place a b e = cc

pub legal_history_is_legal_round : LegalHistoryIsLegalRound
legal_history_is_legal_round initial begun calls s limit legal idle keeps = record {
  each_call = IsPermutation-refl (map call_of (records_of calls));
  by_place = by-place initial begun calls s legal idle;
  answers = each-record initial begun calls s legal (λ r. IsAnswer (map_of initial.base) s.history limit r.op r.reply)
      (λ i c placed is. answer-of (map_of initial.base) s.history limit c.call.op placed is.took.old);
  within = each-record initial begun calls s legal (λ r. IfSome (interval r) (λ i. i.end ≤ length s.history))
      (λ i c placed is. subst (λ (i : Interval). i.end ≤ length s.history) (interval-is c.call.op placed.place) is.took.within);
  in_order = in-order initial begun calls s legal;
  in_time = keeps;
}

pub legal_history_keeps_limit : LegalHistoryKeepsLimit
legal_history_keeps_limit initial begun calls s limit legal idle carry =
    let wrote-it = wrote initial begun calls s legal limit idle carry in
    let below = wrote-below initial begun calls s legal limit idle carry in
    late_writes_are_few limit (callers_placed calls) s.history
    (λ many. let first = first_there s.history many in let began = (below 0 first.0 (wrote-it 0 first.0 first.1)).0 in omega arith)
    (λ place write stands. wrote-recorded initial begun calls s legal limit idle carry place write (wrote-it place write stands))
    (wrote-once initial begun calls s legal limit idle carry)
