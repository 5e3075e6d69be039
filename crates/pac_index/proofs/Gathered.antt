-- Lists of kept writes, and the history that they make.
use Rattle.std.proofs.Common.{◌≡◌, ◌≢◌, ℕ, zero, suc, ◌+◌, ◌<◌, ◌≤◌, set, ◌⊎◌, inl, inr, ⊎_elim, eq-eqb, Bool, true, false, List, [], ◌∷◌, ◌++◌, take, length, get_or, refl, sym, ap, ◌∙◌, subst, arith}
use Rattle.std.proofs.lemmas.Bool.{cases_eq}
use Rattle.std.proofs.lemmas.List.{append_assoc, append-nil, length-append}
use Rattle.std.specs.Prelude.{◌==◌, if◌then◌else◌, Option, Some, None, map, slice_get}
use mathlib.Core.Option.{some, some-injective, some-ne-none}
use lib.ListN.{get_elem?, length-set}
use Rattle.cat_history.specs.declared.op.Write.{Write}
use Rattle.index_core.specs.declared.party.PartyState.{PartyState}
use Rattle.index_core.specs.MachineLaws.{AreIdle}
use Rattle.index_core.proofs.Lists.{some_same, map_from, map_there, there_is, within}
use Rattle.epochs.proofs.Lists.{each_end, at_longer}
pub use Rattle.epochs.proofs.Lists.{last_there}
use Rattle.pac_index.specs.declared.caller.Caller.{Caller}
use Rattle.pac_index.specs.declared.caller.CutCall.{CutCall}
use Rattle.pac_index.specs.declared.caller.PlacedWrite.{PlacedWrite}
use Rattle.pac_index.specs.CrashMeetings.{cut_of}
use Rattle.pac_index.specs.Kept.{placed_from, placed_by}
use Rattle.pac_index.specs.Callers.{AreWritesOf, kept_by, pairs, pair_of}

module _ {A : Type 0} where
  pub or_is : (l : List A) (i : ℕ) (a d : A) → get_elem? l i ≡ some a → get_or l i d ≡ a
  or_is [] i a d at = absurd (some-ne-none a (sym at))
  or_is (x ∷ xs) zero a d at = some-injective x a at
  or_is (x ∷ xs) (suc i) a d at = or_is xs i a d at

  pub got_is : (l : List A) (i : ℕ) → i < length l → (a : A) × (slice_get l i ≡ Some a)
  got_is [] i less = absurd (omega arith)
  got_is (x ∷ xs) zero less = (x, refl)
  got_is (x ∷ xs) (suc i) less = got_is xs i (omega arith)

  pub got_at : (l : List A) (i : ℕ) (a : A) → slice_get l i ≡ Some a → get_elem? l i ≡ some a
  got_at [] i a at = absurd (let none : None ≡ Some a = at in cc)
  got_at (x ∷ xs) zero a at = ap some (some_same at)
  got_at (x ∷ xs) (suc i) a at = got_at xs i a at

  pub take_more : (l : List A) (i : ℕ) (a : A) → slice_get l i ≡ Some a → take (suc i) l ≡ take i l ++ a ∷ []
  take_more [] i a at = absurd (let none : None ≡ Some a = at in cc)
  take_more (x ∷ xs) zero a at = ap (λ (y : A). y ∷ []) (some_same at)
  take_more (x ∷ xs) (suc i) a at = ap (λ (t : List A). x ∷ t) (take_more xs i a at)

  pub take_all : (l : List A) (n : ℕ) → length l ≡ n → take n l ≡ l
  take_all [] zero same = refl
  take_all [] (suc n) same = absurd (omega arith)
  take_all (x ∷ xs) zero same = absurd (omega arith)
  take_all (x ∷ xs) (suc n) same = ap (λ (t : List A). x ∷ t) (take_all xs n (omega arith))

  pub at_back : (l m : List A) (i : ℕ) (a : A) → get_elem? m i ≡ some a → (k : ℕ) × (get_elem? (l ++ m) k ≡ some a)
  at_back [] m i a at = (i, at)
  at_back (x ∷ xs) m i a at = let behind = at_back xs m i a at in (suc behind.0, behind.1)

  pub at_either : (l m : List A) (i : ℕ) (a : A) → get_elem? (l ++ m) i ≡ some a → (get_elem? l i ≡ some a) ⊎ ((k : ℕ) × (get_elem? m k ≡ some a))
  at_either [] m i a at = inr (i, at)
  at_either (x ∷ xs) m zero a at = inl at
  at_either (x ∷ xs) m (suc i) a at = at_either xs m i a at

-- what stands among a caller's writes stands in the history, and is by that caller
pub placed_right : (c k : ℕ) (ws : List Write) (j : ℕ) (x : ℕ × Write) → get_elem? (placed_from c k ws) j ≡ some x → (n : ℕ) × (x.0 ≡ k + n) × (slice_get ws n ≡ Some x.1)
placed_right c k [] j x at = absurd (some-ne-none x (sym at))
placed_right c k (w ∷ ws) j x at = by (w.caller == c) j (λ i there. later (placed_right c (k + 1) ws i x there)) at
  where
    later : ((n : ℕ) × (x.0 ≡ k + 1 + n) × (slice_get ws n ≡ Some x.1)) → (n : ℕ) × (x.0 ≡ k + n) × (slice_get (w ∷ ws) n ≡ Some x.1)
    later behind = let same = behind.1 in (suc behind.0, omega arith, behind.2)

    by : (b : Bool) (j : ℕ) → ((i : ℕ) → get_elem? (placed_from c (k + 1) ws) i ≡ some x → (n : ℕ) × (x.0 ≡ k + n) × (slice_get (w ∷ ws) n ≡ Some x.1))
        → get_elem? (if b then (k, w) ∷ placed_from c (k + 1) ws else placed_from c (k + 1) ws) j ≡ some x → (n : ℕ) × (x.0 ≡ k + n) × (slice_get (w ∷ ws) n ≡ Some x.1)
    by true zero more at = let same : (k, w) ≡ x = some-injective _ _ at in (0, (let e : x.0 ≡ k = ap (λ (q : ℕ × Write). q.0) (sym same) in omega arith), ap (λ (q : ℕ × Write). Some q.1) same)
    by true (suc j) more at = more j at
    by false j more at = more j at

-- and what it wrote stands among them
pub placed_there : (c k : ℕ) (ws : List Write) (n : ℕ) (w : Write) → slice_get ws n ≡ Some w → w.caller ≡ c → (j : ℕ) × (get_elem? (placed_from c k ws) j ≡ some (k + n, w))
placed_there c k [] n w at mine = absurd (let none : None ≡ Some w = at in cc)
placed_there c k (x ∷ xs) zero w at mine =
    let same : x ≡ w = some_same at in
    let here : (x.caller == c) ≡ true = eq-eqb x.caller c (ap (λ (v : Write). v.caller) same ∙ mine) in
    let place : k ≡ k + 0 = omega arith in
    (0, ap (λ (b : Bool). get_elem? (if b then (k, x) ∷ placed_from c (k + 1) xs else placed_from c (k + 1) xs) 0) here ∙ (λ i. some (place i, same i)))
placed_there c k (x ∷ xs) (suc n) w at mine =
    let behind = placed_there c (k + 1) xs n w at mine in
    let place : k + 1 + n ≡ k + suc n = omega arith in
    pass (x.caller == c) behind.0 (behind.1 ∙ ap (λ (q : ℕ). some (q, w)) place)
  where
    pass : (b : Bool) (j : ℕ) → get_elem? (placed_from c (k + 1) xs) j ≡ some (k + suc n, w) → (i : ℕ) × (get_elem? (if b then (k, x) ∷ placed_from c (k + 1) xs else placed_from c (k + 1) xs) i ≡ some (k + suc n, w))
    pass true j at = (suc j, at)
    pass false j at = (j, at)

-- all that callers have kept, one by one
pub kept_from : (callers : List Caller) (k : ℕ) (p : PlacedWrite) → get_elem? (kept_by callers) k ≡ some p → (i : ℕ) × (c : Caller) × (get_elem? callers i ≡ some c) × (j : ℕ) × (get_elem? c.kept.items j ≡ some p)
kept_from [] k p at = absurd (some-ne-none p (sym at))
kept_from (c ∷ cs) k p at = ⊎_elim
    (λ (here : get_elem? c.kept.items k ≡ some p). (0, c, refl, k, here))
    (λ (there : (j : ℕ) × (get_elem? (kept_by cs) j ≡ some p)). let behind = kept_from cs there.0 p there.1 in (suc behind.0, behind.1, behind.2, behind.3, behind.4))
    (at_either c.kept.items (kept_by cs) k p at)

pub kept_there : (callers : List Caller) (i : ℕ) (c : Caller) (j : ℕ) (p : PlacedWrite) → get_elem? callers i ≡ some c → get_elem? c.kept.items j ≡ some p → (k : ℕ) × (get_elem? (kept_by callers) k ≡ some p)
kept_there [] i c j p at there = absurd (some-ne-none c (sym at))
kept_there (x ∷ xs) zero c j p at there = let same : x ≡ c = some-injective x c at in (j, at_longer x.kept.items (kept_by xs) j p (ap (λ (d : Caller). get_elem? d.kept.items j) same ∙ there))
kept_there (x ∷ xs) (suc i) c j p at there = let behind = kept_there xs i c j p at there in at_back x.kept.items (kept_by xs) behind.0 p behind.1

-- where each caller has kept its writes of a history, and each write is of a caller, all that they have kept are its writes
pub writes_gathered : (callers : List Caller) (h : List Write) → ((i : ℕ) (c : Caller) → get_elem? callers i ≡ some c → pairs c.kept.items ≡ placed_by i h)
    → ((place : ℕ) (w : Write) → slice_get h place ≡ Some w → (c : Caller) × (get_elem? callers w.caller ≡ some c)) → AreWritesOf (kept_by callers) h
writes_gathered callers h own writers = record {
  right = λ k p at.
      let from = kept_from callers k p at in
      let pair : get_elem? (placed_by from.0 h) from.3 ≡ some (pair_of p) = ap (λ (l : List (ℕ × Write)). get_elem? l from.3) (sym (own from.0 from.1 from.2)) ∙ map_there pair_of from.1.kept.items from.3 p from.4 in
      let stands = placed_right from.0 0 h from.3 (pair_of p) pair in
      let place : stands.0 ≡ p.place = let e = stands.1 in omega arith in
      subst (λ (n : ℕ). slice_get h n ≡ Some p.write) place stands.2;
  all = λ place w at.
      let writer = writers place w at in
      let there = placed_there w.caller 0 h place w at refl in
      let zero_place : 0 + place ≡ place = omega arith in
      let pair : get_elem? (pairs writer.0.kept.items) there.0 ≡ some (place, w) = ap (λ (l : List (ℕ × Write)). get_elem? l there.0) (own w.caller writer.0 writer.1) ∙ there.1 ∙ ap (λ (n : ℕ). some (n, w)) zero_place in
      let kept = map_from pair_of writer.0.kept.items there.0 (place, w) pair in
      let is : get_elem? writer.0.kept.items there.0 ≡ some (record { place = place; write = w }) = kept.1 ∙ (λ k. some (record { place = (kept.2 k).0; write = (kept.2 k).1 })) in
      kept_there callers w.caller writer.0 there.0 (record { place = place; write = w }) writer.1 is;
}

pub kept_append : (cs ds : List Caller) → kept_by (cs ++ ds) ≡ kept_by cs ++ kept_by ds
kept_append [] ds = refl
kept_append (c ∷ cs) ds = ap (λ (l : List PlacedWrite). c.kept.items ++ l) (kept_append cs ds) ∙ sym (append_assoc c.kept.items (kept_by cs) (kept_by ds))

-- one caller's more
pub kept_more : (cs : List Caller) (n : ℕ) (c d : Caller) → n < length cs → get_or cs n d ≡ c → kept_by (take (n + 1) cs) ≡ kept_by (take n cs) ++ c.kept.items
kept_more cs n c d less read =
    let got = got_is cs n less in
    let same : got.0 ≡ c = sym (or_is cs n got.0 d (got_at cs n got.0 got.1)) ∙ read in
    let e : n + 1 ≡ suc n = omega arith in
    ap (λ (m : ℕ). kept_by (take m cs)) e ∙ ap kept_by (take_more cs n got.0 got.1) ∙ kept_append (take n cs) (got.0 ∷ []) ∙ ap (λ (l : List PlacedWrite). kept_by (take n cs) ++ l) (append-nil got.0.kept.items ∙ ap (λ (x : Caller). x.kept.items) same)

-- the last of so many, or one before it
pub last_or_before : (i n : ℕ) → i < n + 1 → (i < n) ⊎ (i ≡ n)
last_or_before zero zero less = inr refl
last_or_before zero (suc n) less = inl (omega arith)
last_or_before (suc i) zero less = absurd (omega arith)
last_or_before (suc i) (suc n) less = ⊎_elim (λ (before : i < n). inl (omega arith)) (λ (here : i ≡ n). inr (ap suc here)) (last_or_before i n (omega arith))

-- and what it tells
cuts_append : (cs ds : List Caller) → map cut_of (cs ++ ds) ≡ map cut_of cs ++ map cut_of ds
cuts_append [] ds = refl
cuts_append (c ∷ cs) ds = ap (λ (l : List (Option CutCall)). c.cut ∷ l) (cuts_append cs ds)

pub cuts_more : (cs : List Caller) (n : ℕ) (c d : Caller) → n < length cs → get_or cs n d ≡ c → map cut_of (take (n + 1) cs) ≡ map cut_of (take n cs) ++ c.cut ∷ []
cuts_more cs n c d less read =
    let got = got_is cs n less in
    let same : got.0 ≡ c = sym (or_is cs n got.0 d (got_at cs n got.0 got.1)) ∙ read in
    let e : n + 1 ≡ suc n = omega arith in
    ap (λ (m : ℕ). map cut_of (take m cs)) e ∙ ap (map cut_of) (take_more cs n got.0 got.1) ∙ cuts_append (take n cs) (got.0 ∷ []) ∙ ap (λ (x : Caller). map cut_of (take n cs) ++ x.cut ∷ []) same

-- one idle party more
pub idle_more : (es : List PartyState) (n : ℕ) (e : PartyState) → AreIdle es n → e.caller ≡ n → e.machine ≡ None → e.turn ≡ None → e.recheck ≡ None → e.since ≡ 0 → AreIdle (es ++ e ∷ []) (n + 1)
idle_more es n e are caller idle turn recheck since =
    let long = length-append es (e ∷ []) in
    let count = are.count in
    record {
      count = omega arith;
      numbers = each_end (λ i d. d.caller ≡ i) es e are.numbers (caller ∙ sym count);
      idle = each_end (λ _ d. d.machine ≡ None) es e are.idle idle;
      resting = each_end (λ _ d. d.turn ≡ None) es e are.resting turn;
      unchecked = each_end (λ _ d. d.recheck ≡ None) es e are.unchecked recheck;
      begun = each_end (λ _ d. d.since ≡ 0) es e are.begun since;
    }

-- Of the kept writes the first so many stand at their places in a list as long as the history.
pub record Filled (kept : List PlacedWrite) (n : ℕ) (h items : List Write) : Type 0 where
  pub long : length items ≡ length h
  pub there : (k : ℕ) (p : PlacedWrite) → k < n → get_elem? kept k ≡ some p → slice_get items p.place ≡ Some p.write

set_got : (l : List Write) (i : ℕ) (w : Write) → i < length l → slice_get (set l i w) i ≡ Some w
set_got [] i w less = absurd (omega arith)
set_got (x ∷ xs) zero w less = refl
set_got (x ∷ xs) (suc i) w less = set_got xs i w (omega arith)

set_past : (l : List Write) (i j : ℕ) (w : Write) → j ≢ i → slice_get (set l i w) j ≡ slice_get l j
set_past [] i j w apart = refl
set_past (x ∷ xs) zero zero w apart = absurd (apart refl)
set_past (x ∷ xs) zero (suc j) w apart = refl
set_past (x ∷ xs) (suc i) zero w apart = refl
set_past (x ∷ xs) (suc i) (suc j) w apart = set_past xs i j w (λ e. apart (ap suc e))

got_within : (l : List Write) (i : ℕ) (w : Write) → slice_get l i ≡ Some w → i < length l
got_within [] i w at = absurd (let none : None ≡ Some w = at in cc)
got_within (x ∷ xs) zero w at = omega arith
got_within (x ∷ xs) (suc i) w at = let rest = got_within xs i w at in omega arith

-- a kept write has its place within the history
pub kept_within : (kept : List PlacedWrite) (h : List Write) (k : ℕ) (p : PlacedWrite) → AreWritesOf kept h → get_elem? kept k ≡ some p → p.place < length h
kept_within kept h k p are at = got_within h p.place p.write (are.right k p at)

-- one kept write more
pub fill_more : (kept : List PlacedWrite) (n : ℕ) (h items : List Write) (p : PlacedWrite) → AreWritesOf kept h → get_elem? kept n ≡ some p → Filled kept n h items → Filled kept (n + 1) h (set items p.place p.write)
fill_more kept n h items p are at filled = record {
  long = length-set items p.place p.write ∙ filled.long;
  there = λ k q less here. ⊎_elim
      (λ (same : q.place ≡ p.place).
      let stands : slice_get h p.place ≡ Some q.write = ap (slice_get h) (sym same) ∙ are.right k q here in
      let within = kept_within kept h n p are at in
      let long = filled.long in
      ap (slice_get (set items p.place p.write)) same ∙ set_got items p.place p.write (omega arith) ∙ sym (are.right n p at) ∙ stands)
      (λ (other : q.place ≢ p.place). set_past items p.place q.place p.write other ∙ filled.there k q (before k q less here other) here)
      (cases_eq q.place p.place);
}
  where
    before : (k : ℕ) (q : PlacedWrite) → k < n + 1 → get_elem? kept k ≡ some q → q.place ≢ p.place → k < n
    before k q less here other = ⊎_elim
        (λ (last : k ≡ n). absurd (other (ap (λ (r : PlacedWrite). r.place) (some-injective q p (sym here ∙ ap (get_elem? kept) last ∙ at)))))
        (λ (apart : k ≢ n). omega arith)
        (cases_eq k n)

same_each : (xs ys : List Write) → length xs ≡ length ys → ((i : ℕ) (w : Write) → slice_get ys i ≡ Some w → slice_get xs i ≡ Some w) → xs ≡ ys
same_each [] [] long each = refl
same_each [] (y ∷ ys) long each = absurd (omega arith)
same_each (x ∷ xs) [] long each = absurd (omega arith)
same_each (x ∷ xs) (y ∷ ys) long each = let head : x ≡ y = some_same (each 0 y refl) in let rest = same_each xs ys (omega arith) (λ i w at. each (suc i) w at) in λ k. head k ∷ rest k

-- all of them
pub filled_all : (kept : List PlacedWrite) (n : ℕ) (h items : List Write) → AreWritesOf kept h → length kept ≤ n → Filled kept n h items → items ≡ h
filled_all kept n h items are all filled = same_each items h filled.long (λ i w at.
    let there = are.all i w at in
    let less = within kept there.0 (record { place = i; write = w }) there.1 in
    filled.there there.0 (record { place = i; write = w }) (omega arith) there.1)

-- none are kept of a history without writes alone
pub none_kept : (kept : List PlacedWrite) (h : List Write) → length kept ≡ 0 → AreWritesOf kept h → [] ≡ h
none_kept kept [] none are = refl
none_kept kept (w ∷ ws) none are = absurd (let there = are.all 0 w refl in let less = within kept there.0 (record { place = 0; write = w }) there.1 in omega arith)

-- what is read of the kept writes stands there
pub read_there : (kept : List PlacedWrite) (n : ℕ) (d : PlacedWrite) → n < length kept → get_elem? kept n ≡ some (get_or kept n d)
read_there kept n d less = let here = there_is kept n less in here.1 ∙ ap some (sym (or_is kept n here.0 d here.1))
