-- Spans told by records: what holds of them is what the records' intervals say.
use Rattle.std.proofs.Common.{◌≡◌, ℕ, suc, ◌<◌, ◌≤◌, ◌-◌, false, Option, Some, None, List, [], ◌∷◌, length, get_or, map, refl, sym, ap, subst, ◌∙◌, arith, All}
use Rattle.std.specs.Prelude.{IfSome, option_map}
use Rattle.std.specs.List.{AllByRecursion, IsDistinct, cons_option}
use Rattle.std.specs.Ordering.{eq_by_cmp}
use Rattle.std.proofs.lemmas.List.Elements.{All-from_recursion, recursion_from_All}
use Rattle.cat_history.specs.Records.{Interval, interval, last_place, parts_interval}
use Rattle.cat_history.specs.Rounds.{KeepsCallersOrder}
use Rattle.cat_history.specs.declared.op.Write.{Write}
use Rattle.cat_history.specs.declared.record.Record.{Record}
use Rattle.cat_history.specs.declared.record.ScanPart.{ScanPart}
use Rattle.transcript.specs.Calls.{Key, HaveKeysApart, key_cmp, key_of, calls_told}
use Rattle.transcript.specs.Rules.{CallersKeepOrder}
use Rattle.transcript.specs.Spans.{FollowEachOther, as_interval, key_in, span_of, spans_of}
use Rattle.transcript.specs.declared.spans.Span.{Span}
use Rattle.transcript.proofs.Giving.{given_here, given_by}

-- the last part's place
pub last_is : (place : ℕ) (parts : List ScanPart) (d : ScanPart) → 0 < length parts → last_place place parts ≡ (get_or parts (length parts - 1) d).place
last_is place [] d some = absurd (omega arith)
last_is place (part ∷ []) d some = refl
last_is place (part ∷ next ∷ parts) d some =
    last_is part.place (next ∷ parts) d (omega arith)
    ∙ ap (λ (k : ℕ). (get_or (part ∷ next ∷ parts) k d).place) (let one : suc (length (next ∷ parts) - 1) ≡ length (part ∷ next ∷ parts) - 1 = omega arith in one)

abbrev made : Record → Interval → Span
made r i = record { caller = r.caller; index = r.index; start = i.start; end = i.end }

-- no two spans are of one call
module _ (k : Key) where
  others_told : (told : List Record) → AllByRecursion (λ key. eq_by_cmp key_cmp k key ≡ false) (map key_of (calls_told told)) → AllByRecursion (λ key. eq_by_cmp key_cmp k key ≡ false) (map key_in (spans_of told))
  others_told [] all = tt
  others_told (r ∷ told) all = by (interval r) (others_told told all.1) where
    by : (o : Option Interval) → AllByRecursion (λ key. eq_by_cmp key_cmp k key ≡ false) (map key_in (spans_of told)) → AllByRecursion (λ key. eq_by_cmp key_cmp k key ≡ false) (map key_in (cons_option (option_map (made r) o) (spans_of told)))
    by None rest = rest
    by (Some i) rest = (all.0, rest)

pub spans_apart : (told : List Record) → HaveKeysApart told → IsDistinct (eq_by_cmp key_cmp) (map key_in (spans_of told))
unfolding IsDistinct
spans_apart [] apart = tt
spans_apart (r ∷ told) apart = by (interval r) (spans_apart told apart.1) where
  by : (o : Option Interval) → IsDistinct (eq_by_cmp key_cmp) (map key_in (spans_of told)) → IsDistinct (eq_by_cmp key_cmp) (map key_in (cons_option (option_map (made r) o) (spans_of told)))
  by None rest = rest
  by (Some i) rest = (others_told (r.caller, r.index) told apart.0, rest)

some_one : {X : Type 0} (a b : X) → Some a ≡ Some b → a ≡ b
some_one a b same = cc

-- the span that a record tells
span_told : (r : Record) (i : Interval) → interval r ≡ Some i → span_of r ≡ Some (made r i)
span_told r i is = ap (option_map (made r)) is

-- what a span says of its record
told_by : (r : Record) (s : Span) → span_of r ≡ Some s → (i : Interval) × (interval r ≡ Some i) × (made r i ≡ s)
told_by r s is = by (interval r) refl is where
  by : (o : Option Interval) → interval r ≡ o → option_map (made r) o ≡ Some s → (i : Interval) × (interval r ≡ Some i) × (made r i ≡ s)
  by None there gives = absurd (none_some gives) where
    none_some : None ≡ Some s → ⊥
    none_some e = cc
  by (Some i) there gives = (i, there, some_one (made r i) s gives)

module _ (count : ℕ) where
  ends_from : (told : List Record) → AllByRecursion (λ (s : Span). s.end ≤ count) (spans_of told) → AllByRecursion (λ r. IfSome (interval r) (λ i. i.end ≤ count)) told
  ends_from [] all = tt
  ends_from (r ∷ told) all = by (interval r) (λ rest. ends_from told rest) all where
    by : (o : Option Interval) → (AllByRecursion (λ (s : Span). s.end ≤ count) (spans_of told) → AllByRecursion (λ r. IfSome (interval r) (λ i. i.end ≤ count)) told) →
        AllByRecursion (λ (s : Span). s.end ≤ count) (cons_option (option_map (made r) o) (spans_of told)) → IfSome o (λ i. i.end ≤ count) × AllByRecursion (λ r. IfSome (interval r) (λ i. i.end ≤ count)) told
    by None rest all = (tt, rest all)
    by (Some i) rest all = (all.0, rest all.1)

  ends_to : (told : List Record) → AllByRecursion (λ r. IfSome (interval r) (λ i. i.end ≤ count)) told → AllByRecursion (λ (s : Span). s.end ≤ count) (spans_of told)
  ends_to [] all = tt
  ends_to (r ∷ told) all = by (interval r) (ends_to told all.1) all.0 where
    by : (o : Option Interval) → AllByRecursion (λ (s : Span). s.end ≤ count) (spans_of told) → IfSome o (λ i. i.end ≤ count) → AllByRecursion (λ (s : Span). s.end ≤ count) (cons_option (option_map (made r) o) (spans_of told))
    by None rest here = rest
    by (Some i) rest here = (here, rest)

module _ (told : List Record) where
  in_order_from : FollowEachOther (spans_of told) → KeepsCallersOrder told
  in_order_from follow r s has_r has_s same less = by (interval r) (interval s) refl refl where
    by : (o p : Option Interval) → interval r ≡ o → interval s ≡ p → IfSome o (λ first. IfSome p (λ second. first.end ≤ second.start))
    by None p is_r is_s = tt
    by (Some i) None is_r is_s = tt
    by (Some i) (Some j) is_r is_s =
        follow (made r i) (made s j) (given_here span_of told r (made r i) has_r (span_told r i is_r)) (given_here span_of told s (made s j) has_s (span_told s j is_s)) same less

  in_order_to : KeepsCallersOrder told → FollowEachOther (spans_of told)
  in_order_to keeps a b has_a has_b same less =
      let r = given_by span_of told a has_a in
      let s = given_by span_of told b has_b in
      let i = told_by r.0 a r.2 in
      let j = told_by s.0 b s.2 in
      let callers : r.0.caller ≡ s.0.caller = ap (λ (t : Span). t.caller) i.2 ∙ same ∙ sym (ap (λ (t : Span). t.caller) j.2) in
      let first : r.0.index ≡ a.index = ap (λ (t : Span). t.index) i.2 in
      let second : s.0.index ≡ b.index = ap (λ (t : Span). t.index) j.2 in
      let ends : (i.0).end ≤ (j.0).start =
      subst (λ (o : Option Interval). IfSome o (λ later. (i.0).end ≤ later.start)) j.1
      (subst (λ (o : Option Interval). IfSome o (λ first. IfSome (interval s.0) (λ later. first.end ≤ later.start))) i.1 (keeps r.0 s.0 r.1 s.1 callers (omega arith))) in
      let end_is : (i.0).end ≡ a.end = ap (λ (t : Span). t.end) i.2 in
      let start_is : (j.0).start ≡ b.start = ap (λ (t : Span). t.start) j.2 in
      omega arith

  -- the spans end where the intervals do
  pub keeps_order : (writes : List Write) → All (λ (s : Span). s.end ≤ length writes) (spans_of told) → FollowEachOther (spans_of told) → CallersKeepOrder told writes
  keeps_order writes ends follow = record {
    within = All-from_recursion (λ r. IfSome (interval r) (λ i. i.end ≤ length writes)) told (ends_from (length writes) told (recursion_from_All (λ (s : Span). s.end ≤ length writes) (spans_of told) ends));
    in_order = in_order_from follow;
  }

  pub order_kept : (writes : List Write) → CallersKeepOrder told writes → All (λ (s : Span). s.end ≤ length writes) (spans_of told) × FollowEachOther (spans_of told)
  order_kept writes keeps = (
    All-from_recursion (λ (s : Span). s.end ≤ length writes) (spans_of told) (ends_to (length writes) told (recursion_from_All (λ r. IfSome (interval r) (λ i. i.end ≤ length writes)) told keeps.within)),
    in_order_to keeps.in_order,
  )

-- the first and the last part bound what parts took
pub parts_took : (parts : List ScanPart) (first last : ScanPart) → 0 < length parts → first ≡ get_or parts 0 first → last ≡ get_or parts (length parts - 1) last →
    Some (as_interval (record { start = first.place; end = last.place })) ≡ parts_interval parts
parts_took [] first last some is_first is_last = absurd (omega arith)
parts_took (part ∷ parts) first last some is_first is_last =
    let start : first.place ≡ part.place = ap (λ (p : ScanPart). p.place) is_first in
    let end : last.place ≡ last_place part.place parts = ap (λ (p : ScanPart). p.place) is_last ∙ sym (last_is 0 (part ∷ parts) last some) in
    λ i. Some (record { start = start i; end = end i })
