-- How a round of one caller goes on by one call.
use Rattle.std.proofs.Common.{◌≡◌, ℕ, ◌+◌, ◌<◌, ◌≤◌, List, [], ◌∷◌, ◌++◌, length, get_or, take, map, fold, All, ◌↔◌, refl, sym, ap, subst, ◌∙◌, arith, append-nil, zero-add}
use Rattle.std.proofs.lemmas.List.{map-append, take_all, take_more, length-take-le}
use Rattle.std.proofs.lemmas.List.Elements.{All-push, All-take}
use Rattle.std.proofs.lemmas.List.Sums.{fold-append}
use Rattle.cat_history.specs.Maps.{Map}
use Rattle.cat_history.specs.Writes.{after_all, changed}
use Rattle.cat_history.specs.Records.{Call, call_of, numbered}
use Rattle.cat_history.specs.LoneRounds.{write_of, writes_of, HoldsAlong}
use Rattle.cat_history.specs.declared.op.CallerOp.{CallerOp}
use Rattle.cat_history.specs.declared.plan.RoundPlan.{RoundPlan}
use Rattle.cat_history.specs.declared.op.Write.{Write}
use Rattle.cat_history.specs.declared.record.Record.{Record}
use Rattle.cat_history.specs.declared.record.Reply.{Reply}
use Rattle.shapes.specs.Anchors.{Anchors}
use Rattle.cat_history.specs.Rounds.{IsWriter}
use Rattle.cat_history.specs.declared.record.Reply.TheVariants.{Full}
use Rattle.cat_text.specs.ReportGrammar.{IsReportRecord, IsReportReply}
use Rattle.stopped_rounds.proofs.Stopping.{recorded}
use Rattle.core_rounds.specs.LoneCalls.{AreReportCalls, IsReportCall}
use Rattle.core_rounds.specs.Rounds.{StopsWithin}
use Rattle.shapes.specs.ShapeRounds.{anchors_end, anchors_after, PutsFull, EndsWithMembers, IsBoundedByShape}
use Rattle.shapes.specs.Runs.{Standing, stands_after, ComesLate, IsFullInTime}
use Rattle.shapes.proofs.RoundLemmas.{HoldsInShape-push, anchors_end-push}
use Rattle.shapes.proofs.RunLemmas.{HoldsFrom-push, late_is}
use Rattle.cat_history.proofs.LoneRoundLemmas.{writes_of-append, writes_of-cons, HoldsAlong-push, numbered-push}

pub writes_of-push : (records : List Record) (r : Record) → writes_of (records ++ r ∷ []) ≡ writes_of records ++ write_of r
writes_of-push records r = writes_of-append records (r ∷ []) ∙ ap (λ ws. writes_of records ++ ws) (writes_of-cons r [] ∙ append-nil (write_of r))

-- the records are those of the calls so far, and then of one call more
pub calls-push : (caller : ℕ) (asked : List CallerOp) (index : ℕ) (call : CallerOp) (reply : Reply) (records : List Record) →
    All (λ a. a.caller ≡ caller) asked → index < length asked → call ≡ get_or asked index call → map call_of records ≡ numbered (take index asked) →
    map call_of (records ++ recorded index call reply ∷ []) ≡ numbered (take (index + 1) asked)
calls-push caller asked index call reply records one within is calls =
    let before : List CallerOp = take index asked in
    let same : call.caller ≡ caller = ap (λ (a : CallerOp). a.caller) is ∙ one index call within in
    let size : length before ≡ index = length-take-le index asked (omega (arith, within)) in
    let longer : take (index + 1) asked ≡ before ++ call ∷ [] = take_more asked index call within ∙ ap (λ (a : CallerOp). before ++ a ∷ []) (sym is) in
    map-append call_of records (recorded index call reply ∷ []) ∙ ap (λ (cs : List Call). cs ++ call_of (recorded index call reply) ∷ []) calls
    ∙ ap (λ (k : ℕ). numbered before ++ record { caller = call.caller; index = k; op = call.op } ∷ []) (sym size)
    ∙ sym (numbered-push caller before call (All-take (λ (a : CallerOp). a.caller ≡ caller) index asked one) same)
    ∙ ap numbered (sym longer)

-- the records are those of all the calls, once the loop has come to their end
pub calls-whole : (asked ops : List CallerOp) (index : ℕ) (records : List Record) → asked ≡ ops → length asked ≤ index → map call_of records ≡ numbered (take index asked) →
    map call_of records ≡ numbered ops
calls-whole asked ops index records same whole calls = calls ∙ ap numbered (take_all index asked whole ∙ same)

-- the records so far are those of a report, and so is that of one call more
pub told-push : (asked : List CallerOp) (index : ℕ) (call : CallerOp) (reply : Reply) (records : List Record) → AreReportCalls asked → index < length asked → call ≡ get_or asked index call →
    IsReportReply call.op reply → All IsReportRecord records → All IsReportRecord (records ++ recorded index call reply ∷ [])
told-push asked index call reply records calls within is answer told =
    let here = subst IsReportCall (sym is) (calls index call within) in
    All-push IsReportRecord records (recorded index call reply) told (record { caller = here.0; op = here.1; reply = answer })

-- what holds along the records holds along one more of which it holds on the map that they left
pub along-push : (P : Map → ℕ → Record → Type 0) (base now : Map) (place : ℕ) (records : List Record) (r : Record) → HoldsAlong P base 0 records →
    now ≡ after_all base (writes_of records) → place ≡ length (writes_of records) → P now place r → HoldsAlong P base 0 (records ++ r ∷ [])
along-push P base now place records r along ends writes here =
    HoldsAlong-push P base 0 records r along
    (subst (λ k. P (after_all base (writes_of records)) k r) (writes ∙ sym (zero-add (length (writes_of records)))) (subst (λ m. P m place r) ends here))

-- the map that one call more leaves
pub ends-push : (base now end : Map) (records : List Record) (r : Record) → now ≡ after_all base (writes_of records) → end ≡ after_all now (write_of r) →
    end ≡ after_all base (writes_of (records ++ r ∷ []))
ends-push base now end records r ends left =
    left ∙ ap (λ (m : Map). after_all m (write_of r)) ends ∙ sym (fold-append (λ n (w : Write). changed n w.change) base (writes_of records) (write_of r))
    ∙ ap (after_all base) (sym (writes_of-push records r))

-- `full` is told exactly by one call more
pub full-push : (slots nodes limit : ℕ) (opening now : Standing) (records : List Record) (r : Record) → IsFullInTime slots nodes limit opening records → fold (stands_after slots) opening records ≡ now →
    (r.reply ≡ Full) ↔ (((IsWriter r.op × (limit ≤ now.place)) → ⊥) × PutsFull slots nodes now.map now.anchors r.op) → IsFullInTime slots nodes limit opening (records ++ r ∷ [])
full-push slots nodes limit opening now records r full stands exact =
    let late = late_is limit now r.op in
    HoldsFrom-push (stands_after slots) (λ s q. (q.reply ≡ Full) ↔ ((ComesLate limit s q.op → ⊥) × PutsFull slots nodes s.map s.anchors q.op)) opening records r full
    (subst (λ (s : Standing). (r.reply ≡ Full) ↔ ((ComesLate limit s r.op → ⊥) × PutsFull slots nodes s.map s.anchors r.op)) (sym stands)
    ((λ is. ((λ comes. (exact.0 is).0 (late.0 comes)), (exact.0 is).1)), (λ is. exact.1 ((λ comes. is.0 (late.1 comes)), is.1))))

-- where it stands after one call more
pub stands-push : (slots : ℕ) (opening now : Standing) (records : List Record) (r : Record) (m : Map) (anchors : Anchors) (place : ℕ) → fold (stands_after slots) opening records ≡ now →
    m ≡ after_all now.map (write_of r) → anchors ≡ anchors_after slots now.map now.anchors r.op r.reply → place ≡ now.place + length (write_of r) →
    fold (stands_after slots) opening (records ++ r ∷ []) ≡ record { map = m; anchors = anchors; place = place }
stands-push slots opening now records r m anchors place stands maps shapes places =
    let left : record { map = m; anchors = anchors; place = place } ≡ stands_after slots now r =
    λ i. record { map = maps i; anchors = shapes i; place = places i } in
    fold-append (stands_after slots) opening records (r ∷ []) ∙ ap (λ (s : Standing). stands_after slots s r) stands ∙ sym left

-- the anchors that one call more leaves
pub anchors-push : (slots : ℕ) (base now : Map) (anchors shape end : Anchors) (records : List Record) (r : Record) → now ≡ after_all base (writes_of records) → shape ≡ anchors_end slots base anchors records →
    end ≡ anchors_after slots now shape r.op r.reply → end ≡ anchors_end slots base anchors (records ++ r ∷ [])
anchors-push slots base now anchors shape end records r ends shape_ends left =
    left ∙ ap (λ m. anchors_after slots m shape r.op r.reply) ends
    ∙ ap (λ a. anchors_after slots (after_all base (writes_of records)) a r.op r.reply) shape_ends
    ∙ sym (anchors_end-push slots base anchors records r)

-- the bounds of one call more
pub bounds-push : (slots : ℕ) (base : Map) (anchors shape : Anchors) (records : List Record) (r : Record) → IsBoundedByShape slots base anchors records → shape ≡ anchors_end slots base anchors records →
    EndsWithMembers shape r.reply → IsBoundedByShape slots base anchors (records ++ r ∷ [])
bounds-push slots base anchors shape records r bounds ends here =
    HoldsInShape-push slots (λ m a q. EndsWithMembers a q.reply) base anchors records r bounds (subst (λ a. EndsWithMembers a r.reply) ends here)

-- no call is played yet
pub none-so-far : (slots nodes : ℕ) (base : Map) (anchors : Anchors) (plan : RoundPlan) → StopsWithin slots nodes base anchors plan base anchors
none-so-far slots nodes base anchors plan =
    (0, [], record { answers = tt; in_script_order = refl; spent = tt; full = tt; bounds = tt; after = refl; after_shape = refl })
