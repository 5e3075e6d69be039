-- What waits for the updater behind calls and behind rounds.
use Rattle.std.proofs.Common.{◌≡◌, ℕ, ◌+◌, ◌<◌, List, [], ◌∷◌, ◌++◌, length, take, get_or, sum_by, sym, ap, ◌∙◌, subst, arith}
use Rattle.std.proofs.lemmas.List.Sums.{sum_by_more}
use Rattle.cat_history.specs.Maps.{Map}
use Rattle.cat_history.specs.Writes.{after_all}
use Rattle.cat_history.specs.LoneRounds.{write_of, writes_of}
use Rattle.cat_history.specs.declared.op.CallerOp.{CallerOp}
use Rattle.cat_history.specs.declared.plan.RoundPlan.{RoundPlan}
use Rattle.cat_history.specs.declared.record.Record.{Record}
use Rattle.cat_text.specs.declared.report.RoundReport.{RoundReport}
use Rattle.shapes.specs.Anchors.{Anchors}
use Rattle.shapes.specs.ShapeRounds.{anchors_after, anchors_end}
use Rattle.shapes.proofs.RoundLemmas.{after-cons}
use Rattle.core_rounds.specs.Waiting.{changes_in, changes_made, one_change, one_put, one_write, puts_among, puts_asked, writes_among, writes_asked}
use Rattle.core_rounds.proofs.Played.{map_end, shape_end}

-- one record more
pub changes_in-push : (slots : ℕ) (m : Map) (anchors : Anchors) (records : List Record) (r : Record) →
    changes_in slots m anchors (records ++ r ∷ []) ≡ changes_in slots m anchors records + one_change slots (after_all m (writes_of records)) (anchors_end slots m anchors records) r.op r.reply
changes_in-push slots m anchors [] r = omega arith
changes_in-push slots m anchors (q ∷ records) r =
    let m1 = after_all m (write_of q) in
    let a1 = anchors_after slots m anchors q.op q.reply in
    let one = one_change slots m anchors q.op q.reply in
    let last = one_change slots (after_all m (writes_of (q ∷ records))) (anchors_end slots m1 a1 records) r.op r.reply in
    let rest : changes_in slots m1 a1 (records ++ r ∷ []) ≡ changes_in slots m1 a1 records + last =
    changes_in-push slots m1 a1 records r
    ∙ ap (λ n. changes_in slots m1 a1 records + one_change slots n (anchors_end slots m1 a1 records) r.op r.reply) (sym (after-cons m q records)) in
    ap (λ n. one + n) rest ∙ omega arith

-- one round more
pub changes_made-push : (slots : ℕ) (m : Map) (anchors : Anchors) (reports : List RoundReport) (report : RoundReport) →
    changes_made slots m anchors (reports ++ report ∷ []) ≡ changes_made slots m anchors reports + changes_in slots (map_end m reports) (shape_end slots m anchors reports) report.records
changes_made-push slots m anchors [] report = omega arith
changes_made-push slots m anchors (first ∷ reports) report =
    let m1 = after_all m (writes_of first.records) in
    let a1 = anchors_end slots m anchors first.records in
    let one = changes_in slots m anchors first.records in
    ap (λ n. one + n) (changes_made-push slots m1 a1 reports report) ∙ omega arith

-- What waits at first is told by how much is asked so far and by what it changed; the next one asks for so much, and
-- changes so much.
waits-more : (first was now : ℕ → ℕ → ℕ → Type 0) (writes_so puts_so more_writes more_puts writes_then puts_then so change total : ℕ) →
    ((c w p : ℕ) → first c (w + writes_so) (p + puts_so) → was (c + so) w p) → ((c w p : ℕ) → was c (w + more_writes) (p + more_puts) → now (c + change) w p) →
    writes_then ≡ writes_so + more_writes → puts_then ≡ puts_so + more_puts → total ≡ so + change →
    (c w p : ℕ) → first c (w + writes_then) (p + puts_then) → now (c + total) w p
waits-more first was now writes_so puts_so more_writes more_puts writes_then puts_then so change total before step writes_are puts_are total_is c w p waits =
    let ws : w + writes_then ≡ (w + more_writes) + writes_so = omega (arith, writes_are) in
    let ps : p + puts_then ≡ (p + more_puts) + puts_so = omega (arith, puts_are) in
    let given : first c ((w + more_writes) + writes_so) ((p + more_puts) + puts_so) = subst (λ (q : ℕ × ℕ). first c q.0 q.1) (λ k. (ws k, ps k)) waits in
    let sum : (c + so) + change ≡ c + total = omega (arith, total_is) in
    subst (λ (n : ℕ). now n w p) sum (step (c + so) w p (before c (w + more_writes) (p + more_puts) given))

-- one item more of a list, of calls or of rounds
waits-item : {A : Type 0} (writes puts : A → ℕ) (first was now : ℕ → ℕ → ℕ → Type 0) (items : List A) (index : ℕ) (item : A) (so change total : ℕ) →
    ((c w p : ℕ) → first c (w + sum_by writes (take index items)) (p + sum_by puts (take index items)) → was (c + so) w p) →
    ((c w p : ℕ) → was c (w + writes item) (p + puts item) → now (c + change) w p) → index < length items → item ≡ get_or items index item → total ≡ so + change →
    (c w p : ℕ) → first c (w + sum_by writes (take (index + 1) items)) (p + sum_by puts (take (index + 1) items)) → now (c + total) w p
waits-item {A = A} writes puts first was now items index item so change total before step within is =
    waits-more first was now (sum_by writes (take index items)) (sum_by puts (take index items)) (writes item) (puts item) (sum_by writes (take (index + 1) items))
    (sum_by puts (take (index + 1) items)) so change total before step
    (sum_by_more writes items index item within ∙ ap (λ (a : A). sum_by writes (take index items) + writes a) (sym is))
    (sum_by_more puts items index item within ∙ ap (λ (a : A). sum_by puts (take index items) + puts a) (sym is))

pub waits-call : (first was now : ℕ → ℕ → ℕ → Type 0) (asked : List CallerOp) (index : ℕ) (call : CallerOp) (so change total : ℕ) →
    ((c w p : ℕ) → first c (w + writes_among (take index asked)) (p + puts_among (take index asked)) → was (c + so) w p) →
    ((c w p : ℕ) → was c (w + one_write call.op) (p + one_put call.op) → now (c + change) w p) → index < length asked → call ≡ get_or asked index call → total ≡ so + change →
    (c w p : ℕ) → first c (w + writes_among (take (index + 1) asked)) (p + puts_among (take (index + 1) asked)) → now (c + total) w p
waits-call first was now asked = waits-item (λ (a : CallerOp). one_write a.op) (λ (a : CallerOp). one_put a.op) first was now asked

pub waits-round : (first was now : ℕ → ℕ → ℕ → Type 0) (plans : List RoundPlan) (index : ℕ) (plan : RoundPlan) (so change total : ℕ) →
    ((c w p : ℕ) → first c (w + writes_asked (take index plans)) (p + puts_asked (take index plans)) → was (c + so) w p) →
    ((c w p : ℕ) → was c (w + writes_among plan.ops) (p + puts_among plan.ops) → now (c + change) w p) → index < length plans → plan ≡ get_or plans index plan → total ≡ so + change →
    (c w p : ℕ) → first c (w + writes_asked (take (index + 1) plans)) (p + puts_asked (take (index + 1) plans)) → now (c + total) w p
waits-round first was now plans = waits-item (λ (q : RoundPlan). writes_among q.ops) (λ (q : RoundPlan). puts_among q.ops) first was now plans

-- nothing is asked yet
pub waits-first : (P : ℕ → ℕ → ℕ → Type 0) (c w p : ℕ) → P c (w + 0) (p + 0) → P (c + 0) w p
waits-first P c w p =
    let changes : c ≡ c + 0 = omega arith in
    let writes : w + 0 ≡ w = omega arith in
    let puts : p + 0 ≡ p = omega arith in
    subst (λ (q : ℕ × ℕ × ℕ). P q.0 q.1 q.2) (λ k. (changes k, writes k, puts k))
