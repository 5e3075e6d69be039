-- A caller's replies, and one call more.
use Rattle.std.proofs.Common.{◌≡◌, ℕ, zero, suc, ◌+◌, ◌-◌, ◌<◌, ◌≤◌, ⊎_elim, Bool, List, [], ◌∷◌, ◌++◌, length, get_or, map, take, refl, sym, ap, subst, ◌∙◌, arith, add-zero, zero-add}
use Rattle.std.specs.Prelude.{◌==◌, All, Contains, Option, Some, None, IfSome}
use Rattle.std.specs.List.{cons_option, enumerate_from, AllByRecursion}
use Rattle.std.specs.Option.{option_to_list}
use Rattle.std.proofs.lemmas.List.{map-append, length-append, take-append-le}
use Rattle.std.proofs.lemmas.List.Elements.{All-push, All-append, All-nil, All-cons, All-filter, All-from_recursion, All-contains, All-weaker, Contains-push_cases, Contains-append_cases, filter_map-append}
use Rattle.cat_history.specs.Maps.{Map}
use Rattle.cat_history.specs.Writes.{after, after_all}
use Rattle.cat_history.specs.Scans.{IsPart, AreParts, range}
use Rattle.cat_history.specs.Scans.AreParts.{cut_off, ends, goes_on}
use Rattle.cat_history.specs.Records.{Call, call_of, placed_write, placed_writes, Interval, interval, interval_told, last_place}
use Rattle.cat_history.specs.Rounds.{IsOld, IsAnswer, KeepsCallersOrder}
use Rattle.cat_history.specs.declared.op.Op.{Op}
use Rattle.cat_history.specs.declared.op.Op.TheVariants.{Put, Get, Del, Scan}
use Rattle.cat_history.specs.declared.op.Write.{Write}
use Rattle.cat_history.specs.declared.record.Record.{Record}
use Rattle.cat_history.specs.declared.record.CutMark.TheVariants.{At, Open, Found, Lost, Read}
use Rattle.cat_history.specs.declared.record.Reply.{Reply}
use Rattle.cat_history.specs.declared.record.Reply.TheVariants.{Old, Parts, Full, Spent, Cut, Unstarted}
use Rattle.cat_history.specs.declared.record.ScanPart.{ScanPart}
use Rattle.caller_rounds.specs.CallerRounds.{Begins, own_writes, calls_from, AreInTime, RepliesFollow, RepliesStay}
use Rattle.caller_rounds.proofs.Parting.{map-has, numbers-within}

pub begins-le : (xs ys : List Write) → Begins xs ys → length xs ≤ length ys
begins-le xs ys more = let e : length ys ≡ length xs + length more.0 = ap length (sym more.1) ∙ length-append xs more.0 in omega arith

-- a place of a beginning has the map of the whole there
pub after-begins : (base : Map) (xs ys : List Write) (k : ℕ) → Begins xs ys → k ≤ length xs → after base xs k ≡ after base ys k
after-begins base xs ys k more less = sym (ap (λ ws. after base ws k) (sym more.1) ∙ ap (after_all base) (take-append-le k xs more.0 less))

-- ---- the places of a record

pub some-same : {X : Type 0} {a b : X} → Some a ≡ Some b → a ≡ b
some-same e = cc

pub none-some : {X : Type 0} {a : X} → None ≡ Some a → ⊥
none-some e = cc

-- a write takes one place, the one that it tells
pub takes-place : (caller index : ℕ) (op : Op) (reply : Reply) (w : ℕ × Write) → placed_write (record { caller = caller; index = index; op = op; reply = reply }) ≡ Some w
    → interval_told op reply ≡ Some (record { start = w.0; end = w.0 + 1 })
takes-place caller index (Put name value) (Old old place) w is = let at_place : place ≡ w.0 = ap (λ (x : ℕ × Write). x.0) (some-same is) in ap (λ p. Some (record { start = p; end = p + 1 })) at_place
takes-place caller index (Del name) (Old old place) w is = let at_place : place ≡ w.0 = ap (λ (x : ℕ × Write). x.0) (some-same is) in ap (λ p. Some (record { start = p; end = p + 1 })) at_place
takes-place caller index (Get name) (Old old place) w is = absurd (none-some is)
takes-place caller index (Scan from count) (Old old place) w is = absurd (none-some is)
takes-place caller index (Put name value) (Cut (At place)) w is = let at_place : place ≡ w.0 = ap (λ (x : ℕ × Write). x.0) (some-same is) in ap (λ p. Some (record { start = p; end = p + 1 })) at_place
takes-place caller index (Del name) (Cut (At place)) w is = let at_place : place ≡ w.0 = ap (λ (x : ℕ × Write). x.0) (some-same is) in ap (λ p. Some (record { start = p; end = p + 1 })) at_place
takes-place caller index (Get name) (Cut (At place)) w is = absurd (none-some is)
takes-place caller index (Scan from count) (Cut (At place)) w is = absurd (none-some is)
takes-place caller index op (Cut Open) w is = absurd (none-some is)
takes-place caller index op (Cut Found) w is = absurd (none-some is)
takes-place caller index op (Cut Lost) w is = absurd (none-some is)
takes-place caller index op (Cut Read) w is = absurd (none-some is)
takes-place caller index op (Parts parts cut) w is = absurd (none-some is)
takes-place caller index op Full w is = absurd (none-some is)
takes-place caller index op (Spent clock) w is = absurd (none-some is)
takes-place caller index op Unstarted w is = absurd (none-some is)

-- ---- answers, in a longer history

module _ (m n : ℕ → Map) (most : ℕ) (same : (k : ℕ) → k ≤ most → m k ≡ n k) where
  part-stays : (low : List ℕ) (left place : ℕ) (part : ScanPart) → part.place ≤ most → IsPart m low left place part → IsPart n low left place part
  part-stays low left place part less is = record {
    begins = is.begins;
    bounds = is.bounds;
    later = is.later;
    lists = is.lists ∙ ap (λ o. take left (range o part.low part.high)) (same part.place less);
  }

  last-later : (low : List ℕ) (left place : ℕ) (cut : Bool) (parts : List ScanPart) → AreParts m low left place cut parts → place ≤ last_place place parts
  last-later low left place cut parts cut_off = omega arith
  last-later low left place cut parts (ends {part = part} is last) = is.later
  last-later low left place cut parts (goes_on {part = part} {parts = more} high is less bound later) =
      let behind = last-later high (left - length part.pairs) part.place cut more later in
      let here = is.later in
      omega arith

  parts-stay : (low : List ℕ) (left place : ℕ) (cut : Bool) (parts : List ScanPart) → last_place place parts ≤ most → AreParts m low left place cut parts → AreParts n low left place cut parts
  parts-stay low left place cut parts less cut_off = cut_off
  parts-stay low left place cut parts less (ends {part = part} is last) = ends (part-stays low left place part less is) last
  parts-stay low left place cut parts less (goes_on {part = part} {parts = more} high is fewer bound later) =
      let behind = last-later high (left - length part.pairs) part.place cut more later in
      goes_on high (part-stays low left place part (omega arith) is) fewer bound (parts-stay high (left - length part.pairs) part.place cut more less later)

module _ (base : Map) (limit : ℕ) (seen new : List Write) (more : Begins seen new) where
  old-stays : (op : Op) (old : Option ℕ) (place : ℕ) → place ≤ length seen → IsOld (after base seen place) op old → IsOld (after base new place) op old
  old-stays op old place less is = subst (λ m. IsOld m op old) (after-begins base seen new place more less) is

  parts-of-seen : (from : List ℕ) (count : ℕ) (cut : Bool) (parts : List ScanPart) → last_place 0 parts ≤ length seen → AreParts (after base seen) from count 0 cut parts → AreParts (after base new) from count 0 cut parts
  parts-of-seen from count cut parts less is = parts-stay (after base seen) (after base new) (length seen) (λ k within. after-begins base seen new k more within) from count 0 cut parts less is

  pub answer-stays : (op : Op) (reply : Reply) → IfSome (interval_told op reply) (λ i. i.end ≤ length seen) → IsAnswer base seen limit op reply → IsAnswer base new limit op reply
  answer-stays (Put name value) (Old old place) within is = old-stays (Put name value) old place (omega arith) is
  answer-stays (Get name) (Old old place) within is = old-stays (Get name) old place within is
  answer-stays (Del name) (Old old place) within is = old-stays (Del name) old place (omega arith) is
  answer-stays (Scan from count) (Old old place) within is = absurd is
  answer-stays (Put name value) (Parts parts cut) within is = absurd is
  answer-stays (Get name) (Parts parts cut) within is = absurd is
  answer-stays (Del name) (Parts parts cut) within is = absurd is
  answer-stays (Scan from count) (Parts [] cut) within is = parts-of-seen from count cut [] (omega arith) is
  answer-stays (Scan from count) (Parts (part ∷ parts) cut) within is = parts-of-seen from count cut (part ∷ parts) within is
  answer-stays op Full within is = is
  answer-stays op (Spent clock) within is = is
  answer-stays op (Cut mark) within is = is
  answer-stays op Unstarted within is = tt

  all-stay : (records : List Record) → All (λ (r : Record). IfSome (interval r) (λ i. i.end ≤ length seen)) records → All (λ (r : Record). IsAnswer base seen limit r.op r.reply) records
      → All (λ (r : Record). IsAnswer base new limit r.op r.reply) records
  all-stay records within is k r less = let q = get_or records k r in answer-stays q.op q.reply (within k r less) (is k r less)

  some-within : (o : Option Interval) → IfSome o (λ i. i.end ≤ length seen) → IfSome o (λ i. i.end ≤ length new)
  some-within None is = tt
  some-within (Some i) is = let longer = begins-le seen new more in omega arith

  all-within : (records : List Record) → All (λ (r : Record). IfSome (interval r) (λ i. i.end ≤ length seen)) records → All (λ (r : Record). IfSome (interval r) (λ i. i.end ≤ length new)) records
  all-within records within k r less = some-within (interval (get_or records k r)) (within k r less)

pub replies_stay : RepliesStay
replies_stay base limit caller asked old new records has more same = record {
  calls = has.calls;
  answers = all-stay base limit old new more records has.within has.answers;
  within = all-within base limit old new more records has.within;
  in_order = has.in_order;
  own = same ∙ has.own;
  begun = has.begun;
  in_time = has.in_time;
}

-- ---- one call more

calls-push : (caller index : ℕ) (ops : List Op) (op : Op) → calls_from caller index (ops ++ op ∷ []) ≡ calls_from caller index ops ++ record { caller = caller; index = index + length ops; op = op } ∷ []
calls-push caller index [] op = ap (λ i. record { caller = caller; index = i; op = op } ∷ []) (sym (add-zero index))
calls-push caller index (first ∷ ops) op =
    let next : (index + 1) + length ops ≡ index + suc (length ops) = omega arith in
    ap (λ l. record { caller = caller; index = index; op = first } ∷ l)
    (calls-push caller (index + 1) ops op ∙ ap (λ i. calls_from caller (index + 1) ops ++ record { caller = caller; index = i; op = op } ∷ []) next)

calls-known : (caller index : ℕ) (ops : List Op) → AllByRecursion (λ (c : Call). (c.caller ≡ caller) × (c.index < index + length ops)) (calls_from caller index ops)
calls-known caller index [] = tt
calls-known caller index (op ∷ ops) = ((refl, omega arith), weaker (calls_from caller (index + 1) ops) (calls-known caller (index + 1) ops))
  where
    weaker : (cs : List Call) → AllByRecursion (λ (c : Call). (c.caller ≡ caller) × (c.index < index + 1 + length ops)) cs → AllByRecursion (λ (c : Call). (c.caller ≡ caller) × (c.index < index + suc (length ops))) cs
    weaker [] all = tt
    weaker (c ∷ cs) all = ((all.0.0, let low = all.0.1 in omega arith), weaker cs all.1)

-- a caller's records are of it, and of its calls so far
pub record-known : (caller : ℕ) (ops : List Op) (records : List Record) (r : Record) → map call_of records ≡ calls_from caller 0 ops → Contains records r → (r.caller ≡ caller) × (r.index < length ops)
record-known caller ops records r calls has =
    let stands : Contains (calls_from caller 0 ops) (call_of r) = subst (λ cs. Contains cs (call_of r)) calls (map-has call_of records r has) in
    let known = All-contains (λ (c : Call). (c.caller ≡ caller) × (c.index < 0 + length ops)) (calls_from caller 0 ops) (call_of r)
    (All-from_recursion (λ (c : Call). (c.caller ≡ caller) × (c.index < 0 + length ops)) (calls_from caller 0 ops) (calls-known caller 0 ops)) stands in
    (known.0, let less = known.1 in omega arith)

option-has : {X : Type 0} (o : Option X) (x : X) → Contains (option_to_list o) x → o ≡ Some x
option-has None x has = absurd (let less = has.1 in omega arith)
option-has (Some y) x (zero, less, is) = ap Some is
option-has (Some y) x (suc k, less, is) = absurd (omega arith)

own-within : (caller : ℕ) (seen : List Write) → All (λ (e : ℕ × Write). e.0 < length seen) (own_writes caller seen)
own-within caller seen =
    All-filter (λ (e : ℕ × Write). e.1.caller == caller) (λ (e : ℕ × Write). e.0 < length seen) (enumerate_from 0 seen)
    (All-weaker (λ (e : ℕ × Write). (0 ≤ e.0) × (e.0 < 0 + length seen)) (λ (e : ℕ × Write). e.0 < length seen) (λ e both. let less = both.1 in omega arith) (enumerate_from 0 seen)
    (All-from_recursion (λ (e : ℕ × Write). (0 ≤ e.0) × (e.0 < 0 + length seen)) (enumerate_from 0 seen) (numbers-within 0 seen)))

last-gives : {X : Type 0} (o : Option X) → cons_option o [] ≡ option_to_list o
last-gives None = refl
last-gives (Some x) = refl

pub replies_follow : RepliesFollow
replies_follow base limit caller asked old new records r has next = record {
  calls = map-append call_of records (r ∷ []) ∙ ap (λ cs. cs ++ call_of r ∷ []) has.calls ∙ ap (λ c. calls_from caller 0 asked ++ c ∷ []) (next.call ∙ first) ∙ sym (calls-push caller 0 asked r.op);
  answers = All-push (λ (q : Record). IsAnswer base new limit q.op q.reply) records r (all-stay base limit old new next.more records has.within has.answers) next.replied.answer;
  within = All-push (λ (q : Record). IfSome (interval q) (λ i. i.end ≤ length new)) records r (all-within base limit old new next.more records has.within) next.replied.within;
  in_order = in-order;
  own = next.own ∙ ap (λ ws. ws ++ option_to_list (placed_write r)) has.own ∙ sym told;
  begun = subst (All (λ (w : ℕ × Write). 0 < limit)) (sym told) (All-append (λ (w : ℕ × Write). 0 < limit) (placed_writes records) (option_to_list (placed_write r)) has.begun (begun (placed_write r) next.replied.below));
  in_time = in-time;
}
  where
    numbered-so : ℕ → Call
    numbered-so i = record { caller = caller; index = i; op = r.op }

    first : numbered-so (length asked) ≡ numbered-so (0 + length asked)
    first = ap numbered-so (sym (zero-add (length asked)))

    told : placed_writes (records ++ r ∷ []) ≡ placed_writes records ++ option_to_list (placed_write r)
    told = filter_map-append placed_write records (r ∷ []) ∙ ap (λ ws. placed_writes records ++ ws) (last-gives (placed_write r))

    begun : (o : Option (ℕ × Write)) → IfSome o (λ _. length old < limit) → All (λ (w : ℕ × Write). 0 < limit) (option_to_list o)
    begun None below = All-nil (λ (w : ℕ × Write). 0 < limit)
    begun (Some w) below = All-cons (λ (w : ℕ × Write). 0 < limit) w [] (omega arith) (All-nil (λ (w : ℕ × Write). 0 < limit))

    ordered : (o p : Option Interval) → IfSome o (λ i. i.end ≤ length old) → IfSome p (λ i. length old ≤ i.start) → IfSome o (λ i. IfSome p (λ j. i.end ≤ j.start))
    ordered None p before behind = tt
    ordered (Some i) None before behind = tt
    ordered (Some i) (Some j) before behind = omega arith

    index : r.index ≡ length asked
    index = ap (λ (c : Call). c.index) next.call

    in-order : KeepsCallersOrder (records ++ r ∷ [])
    in-order q s has_q has_s same less = ⊎_elim
        (λ (here_q : Contains records q). ⊎_elim
        (λ (here_s : Contains records s). has.in_order q s here_q here_s same less)
        (λ (last_s : r ≡ s). subst (λ (t : Record). IfSome (interval q) (λ i. IfSome (interval t) (λ j. i.end ≤ j.start))) last_s
        (ordered (interval q) (interval r) (All-contains (λ (t : Record). IfSome (interval t) (λ i. i.end ≤ length old)) records q has.within here_q) next.replied.later))
        (Contains-push_cases records r s has_s))
        (λ (last_q : r ≡ q).
        let q_index : q.index ≡ length asked = ap (λ (t : Record). t.index) (sym last_q) ∙ index in
        ⊎_elim
        (λ (here_s : Contains records s). let known = (record-known caller asked records s has.calls here_s).1 in absurd (omega arith))
        (λ (last_s : r ≡ s). let s_index : s.index ≡ length asked = ap (λ (t : Record). t.index) (sym last_s) ∙ index in absurd (omega arith))
        (Contains-push_cases records r s has_s))
        (Contains-push_cases records r q has_q)

    in-old : (w : ℕ × Write) → Contains (placed_writes records) w → w.0 < length old
    in-old w stands = All-contains (λ (e : ℕ × Write). e.0 < length old) (own_writes caller old) w (own-within caller old) (subst (λ ws. Contains ws w) (sym has.own) stands)

    start-of : (w : ℕ × Write) → placed_write r ≡ Some w → length old ≤ w.0
    start-of w gives = subst (λ (o : Option Interval). IfSome o (λ i. length old ≤ i.start)) (takes-place r.caller r.index r.op r.reply w gives) next.replied.later

    limit-above : (w : ℕ × Write) → placed_write r ≡ Some w → length old < limit
    limit-above w gives = subst (λ (o : Option (ℕ × Write)). IfSome o (λ _. length old < limit)) gives next.replied.below

    in-time : AreInTime limit (placed_writes (records ++ r ∷ []))
    in-time p q has_p has_q less =
        let cases_p = Contains-append_cases (placed_writes records) (option_to_list (placed_write r)) p (subst (λ ws. Contains ws p) told has_p) in
        let cases_q = Contains-append_cases (placed_writes records) (option_to_list (placed_write r)) q (subst (λ ws. Contains ws q) told has_q) in
        ⊎_elim
        (λ (here_p : Contains (placed_writes records) p). ⊎_elim
        (λ (here_q : Contains (placed_writes records) q). has.in_time p q here_p here_q less)
        (λ (last_q : Contains (option_to_list (placed_write r)) q).
        let below = limit-above q (option-has (placed_write r) q last_q) in
        let place = in-old p here_p in
        omega arith)
        cases_q)
        (λ (last_p : Contains (option_to_list (placed_write r)) p).
        let start_p = start-of p (option-has (placed_write r) p last_p) in
        ⊎_elim
        (λ (here_q : Contains (placed_writes records) q). let place = in-old q here_q in absurd (omega arith))
        (λ (last_q : Contains (option_to_list (placed_write r)) q).
        let one : p ≡ q = some-same (sym (option-has (placed_write r) p last_p) ∙ option-has (placed_write r) q last_q) in
        let place : p.0 ≡ q.0 = ap (λ (w : ℕ × Write). w.0) one in
        absurd (omega arith))
        cases_q)
        cases_p
