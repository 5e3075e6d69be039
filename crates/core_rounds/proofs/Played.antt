-- Rounds that are played one after another.
use Rattle.std.proofs.Common.{◌≡◌, ℕ, ◌+◌, ◌<◌, ◌≤◌, List, [], ◌∷◌, ◌++◌, length, take, get_or, refl, sym, ap, ◌∙◌, subst, arith}
use Rattle.std.proofs.lemmas.List.{take_more, take_all}
use Rattle.std.proofs.lemmas.Option.{none-some}
use Rattle.std.specs.Prelude.{All, None}
use Rattle.std.specs.FinMap.{len}
use Rattle.cat_history.specs.Maps.{Map}
use Rattle.cat_history.specs.Writes.{after_all}
use Rattle.cat_history.specs.LoneRounds.{writes_of}
use Rattle.cat_history.specs.Records.{numbered}
use Rattle.cat_history.specs.Rounds.{IsJoinedRound}
use Rattle.cat_history.specs.declared.plan.RoundPlan.{RoundPlan}
use Rattle.cat_history.specs.declared.record.Record.{Record}
use Rattle.shapes.specs.Anchors.{Anchors}
use Rattle.shapes.specs.ShapeRounds.{anchors_end, puts_added, FullIsPaid, IsShapeWithin}
use Rattle.shapes.proofs.PaidRounds.{timely_rounds_are_paid}
use Rattle.shapes.proofs.RoundLemmas.{goes_within, more-pays}
use Rattle.cat_text.specs.declared.report.RoundReport.{RoundReport}
use Rattle.core_rounds.specs.LoneCalls.{AreLoneCalls}
use Rattle.core_rounds.specs.Rounds.{ArePaidRounds, ArePlayed, ends, lone, crowd, lone_crash, crowd_crash, EachIsReported, IsPlayedRound, IsRoundTo, MorePays, OnlyRoundIsLegal, PlayedArePaid, RoundsGoOn, added_in}

-- ---- laws

module _ (slots nodes : ℕ) where
  at-weights : {weighs weighs' names names' : ℕ} {base end : Map} {anchors shape : Anchors} {plans : List RoundPlan} {reports : List RoundReport} → weighs ≡ weighs' → names ≡ names' →
      ArePlayed slots nodes weighs names base anchors plans reports end shape → ArePlayed slots nodes weighs' names' base anchors plans reports end shape
  at-weights {base = base} {end = end} {anchors = anchors} {shape = shape} {plans = plans} {reports = reports} heavy many played =
      subst (λ (q : ℕ × ℕ). ArePlayed slots nodes q.0 q.1 base anchors plans reports end shape) (λ k. (heavy k, many k)) played

  go-on : (end : Map) (shape : Anchors) (later : List RoundPlan) (more : List RoundReport) {weighs names : ℕ} {base mid : Map} {anchors between : Anchors} {plans : List RoundPlan} {reports : List RoundReport} →
      ArePlayed slots nodes weighs names base anchors plans reports mid between →
      ArePlayed slots nodes (weighs + added_in reports) (names + added_in reports) mid between later more end shape →
      ArePlayed slots nodes weighs names base anchors (plans ++ later) (reports ++ more) end shape
  go-on end shape later more ends rest = at-weights (omega arith) (omega arith) rest
  go-on end shape later more (lone callers joined round paid played) rest = lone callers joined round paid (go-on end shape later more played (at-weights (omega arith) (omega arith) rest))
  go-on end shape later more (crowd several joined writes round next within played) rest =
      crowd several joined writes round next within (go-on end shape later more played (at-weights (omega arith) (omega arith) rest))
  go-on end shape later more (lone_crash callers crash ended round answers paid next within played) rest =
      lone_crash callers crash ended round answers paid next within (go-on end shape later more played (at-weights (omega arith) (omega arith) rest))
  go-on end shape later more (crowd_crash several crash ended writes round paid next within played) rest =
      crowd_crash several crash ended writes round paid next within (go-on end shape later more played (at-weights (omega arith) (omega arith) rest))

  pay-more : (weighs names weighs' names' : ℕ) (records : List Record) → weighs ≤ weighs' → names ≤ names' →
      All (FullIsPaid slots nodes (weighs + puts_added records) (names + puts_added records)) records → All (FullIsPaid slots nodes (weighs' + puts_added records) (names' + puts_added records)) records
  pay-more weighs names weighs' names' records heavier wider paid k r inside =
      more-pays slots nodes (weighs + puts_added records) (names + puts_added records) (weighs' + puts_added records) (names' + puts_added records) (omega (arith, heavier)) (omega (arith, wider))
      (get_or records k r) (paid k r inside)

  hold-more : (weighs names weighs' names' : ℕ) (records : List Record) (m : Map) (next : Anchors) → weighs ≤ weighs' → names ≤ names' →
      IsShapeWithin slots nodes (weighs + puts_added records) (names + puts_added records) m next → IsShapeWithin slots nodes (weighs' + puts_added records) (names' + puts_added records) m next
  hold-more weighs names weighs' names' records m next heavier wider within =
      let light = within.light in
      let few = within.few in
      record { shape = within.shape; light = omega (arith, light, heavier); few = omega (arith, few, wider) }

  all-pay : {weighs names : ℕ} {base end : Map} {anchors shape : Anchors} {plans : List RoundPlan} {reports : List RoundReport} → ArePlayed slots nodes weighs names base anchors plans reports end shape →
      (weighs' names' : ℕ) → weighs ≤ weighs' → names ≤ names' → ArePlayed slots nodes weighs' names' base anchors plans reports end shape
  all-pay ends weighs' names' heavier wider = ends
  all-pay (lone {weighs = weighs} {names = names} {report = report} callers joined round paid played) weighs' names' heavier wider =
      lone callers joined round (pay-more weighs names weighs' names' report.records heavier wider paid)
      (all-pay played (weighs' + puts_added report.records) (names' + puts_added report.records) (omega (arith, heavier)) (omega (arith, wider)))
  all-pay (crowd {weighs = weighs} {names = names} {report = report} several joined writes round next within played) weighs' names' heavier wider =
      crowd several joined writes
      (record {
        legal = round.legal;
        paid = pay-more weighs names weighs' names' report.records heavier wider round.paid;
        apart = round.apart;
        joined = round.joined;
        placed = round.placed;
        names_are = round.names_are;
      }) next (hold-more weighs names weighs' names' report.records _ next heavier wider within)
      (all-pay played (weighs' + puts_added report.records) (names' + puts_added report.records) (omega (arith, heavier)) (omega (arith, wider)))
  all-pay (lone_crash {weighs = weighs} {names = names} {found = found} {report = report} callers crash ended round answers paid next within played) weighs' names' heavier wider =
      lone_crash callers crash ended round answers (pay-more weighs names weighs' names' report.records heavier wider paid) next
      (hold-more weighs names weighs' names' report.records found next heavier wider within)
      (all-pay played (weighs' + puts_added report.records) (names' + puts_added report.records) (omega (arith, heavier)) (omega (arith, wider)))
  all-pay (crowd_crash {weighs = weighs} {names = names} {found = found} {report = report} several crash ended writes round paid next within played) weighs' names' heavier wider =
      crowd_crash several crash ended writes round (pay-more weighs names weighs' names' report.records heavier wider paid) next
      (hold-more weighs names weighs' names' report.records found next heavier wider within)
      (all-pay played (weighs' + puts_added report.records) (names' + puts_added report.records) (omega (arith, heavier)) (omega (arith, wider)))

  paid-rounds : {weighs names : ℕ} {base end : Map} {anchors shape : Anchors} {plans : List RoundPlan} {reports : List RoundReport} → ArePlayed slots nodes weighs names base anchors plans reports end shape →
      ArePaidRounds slots nodes weighs names reports
  paid-rounds ends = tt
  paid-rounds (lone callers joined round paid played) = (paid, paid-rounds played)
  paid-rounds (crowd several joined writes round next within played) = (round.paid, paid-rounds played)
  paid-rounds (lone_crash callers crash ended round answers paid next within played) = (paid, paid-rounds played)
  paid-rounds (crowd_crash several crash ended writes round paid next within played) = (paid, paid-rounds played)

  as-many : {weighs names : ℕ} {base end : Map} {anchors shape : Anchors} {plans : List RoundPlan} {reports : List RoundReport} → ArePlayed slots nodes weighs names base anchors plans reports end shape →
      length reports ≡ length plans
  as-many ends = refl
  as-many (lone callers joined round paid played) = let rest = as-many played in omega (arith, rest)
  as-many (crowd several joined writes round next within played) = let rest = as-many played in omega (arith, rest)
  as-many (lone_crash callers crash ended round answers paid next within played) = let rest = as-many played in omega (arith, rest)
  as-many (crowd_crash several crash ended writes round paid next within played) = let rest = as-many played in omega (arith, rest)

  -- where no round is left, the map stays
  none-left : {weighs names : ℕ} {base end : Map} {anchors shape : Anchors} {plans : List RoundPlan} {reports : List RoundReport} → ArePlayed slots nodes weighs names base anchors plans reports end shape →
      length plans ≡ 0 → end ≡ base
  none-left ends none = refl
  none-left (lone callers joined round paid played) none = absurd (omega (arith, none))
  none-left (crowd several joined writes round next within played) none = absurd (omega (arith, none))
  none-left (lone_crash callers crash ended round answers paid next within played) none = absurd (omega (arith, none))
  none-left (crowd_crash several crash ended writes round paid next within played) none = absurd (omega (arith, none))

  -- what the first one comes to is said of the only one
  only-one : (base end : Map) (p plan : RoundPlan) (r report : RoundReport) (plans : List RoundPlan) (reports : List RoundReport) → p ∷ plans ≡ plan ∷ [] → r ∷ reports ≡ report ∷ [] →
      IsRoundTo base p r end → IsRoundTo base plan report end
  only-one base end p plan r report plans reports is told round =
      let same : p ≡ plan = ap (λ (qs : List RoundPlan). get_or qs 0 p) is in
      let said : r ≡ report = ap (λ (qs : List RoundReport). get_or qs 0 r) told in
      subst (λ (q : RoundPlan). IsRoundTo base q report end) same (subst (λ (q : RoundReport). IsRoundTo base p q end) said round)

  first-only : {weighs names : ℕ} {base end : Map} {anchors shape : Anchors} {plans : List RoundPlan} {reports : List RoundReport} → ArePlayed slots nodes weighs names base anchors plans reports end shape →
      (plan : RoundPlan) (report : RoundReport) → plan.crash ≡ None → plans ≡ plan ∷ [] → reports ≡ report ∷ [] → IsRoundTo base plan report end
  first-only ends plan report none is told = absurd (let clash = ap length is in omega (arith, clash))
  first-only (lone {base = base} {end = end} {plan = p} {report = r} {plans = ps} {reports = rs} callers joined round paid played) plan report none is told =
      let left = ap length is in
      let last = none-left played (omega (arith, left)) in
      only-one base end p plan r report ps rs is told (record {
        writes = writes_of r.records;
        legal = subst (IsJoinedRound base (numbered p.ops) p.limit r.records (writes_of r.records)) (sym last) round.legal;
        names_are = round.names ∙ ap len (sym last);
      })
  first-only (crowd {base = base} {end = end} {plan = p} {report = r} {plans = ps} {reports = rs} several joined writes round next within played) plan report none is told =
      let left = ap length is in
      let last = none-left played (omega (arith, left)) in
      only-one base end p plan r report ps rs is told (record {
        writes = writes;
        legal = subst (IsJoinedRound base (numbered p.ops) p.limit r.records writes) (sym last) round.legal;
        names_are = round.names_are ∙ ap len (sym last);
      })
  first-only (lone_crash {plan = p} callers crash ended round answers paid next within played) plan report none is told =
      absurd (none-some crash (sym none ∙ ap (λ (qs : List RoundPlan). (get_or qs 0 p).crash) (sym is) ∙ ended))
  first-only (crowd_crash {plan = p} several crash ended writes round paid next within played) plan report none is told =
      absurd (none-some crash (sym none ∙ ap (λ (qs : List RoundPlan). (get_or qs 0 p).crash) (sym is) ∙ ended))

pub rounds_go_on : RoundsGoOn
rounds_go_on slots nodes weighs names base mid end anchors between shape plans later reports more played rest = go-on slots nodes end shape later more played rest

pub more_pays : MorePays
more_pays slots nodes weighs names weighs' names' base end anchors shape plans reports heavier wider played = all-pay slots nodes played weighs' names' heavier wider

pub played_are_paid : PlayedArePaid
played_are_paid slots nodes weighs names base end anchors shape plans reports played = paid-rounds slots nodes played

pub each_is_reported : EachIsReported
each_is_reported slots nodes weighs names base end anchors shape plans reports played = as-many slots nodes played

pub only_round_is_legal : OnlyRoundIsLegal
only_round_is_legal slots nodes weighs names base end anchors shape plan report none played = first-only slots nodes played plan report none refl refl

-- ---- joined rounds of one caller, as a loop over them plays them

-- the map and the shape that they leave
abbrev pub map_end : Map → List RoundReport → Map
map_end base [] = base
map_end base (report ∷ reports) = map_end (after_all base (writes_of report.records)) reports

abbrev pub shape_end : ℕ → Map → Anchors → List RoundReport → Anchors
shape_end slots base anchors [] = anchors
shape_end slots base anchors (report ∷ reports) = shape_end slots (after_all base (writes_of report.records)) (anchors_end slots base anchors report.records) reports

map_end-push : (base : Map) (reports : List RoundReport) (report : RoundReport) → map_end base (reports ++ report ∷ []) ≡ after_all (map_end base reports) (writes_of report.records)
map_end-push base [] report = refl
map_end-push base (first ∷ reports) report = map_end-push (after_all base (writes_of first.records)) reports report

shape_end-push : (slots : ℕ) (base : Map) (anchors : Anchors) (reports : List RoundReport) (report : RoundReport) →
    shape_end slots base anchors (reports ++ report ∷ []) ≡ anchors_end slots (map_end base reports) (shape_end slots base anchors reports) report.records
shape_end-push slots base anchors [] report = refl
shape_end-push slots base anchors (first ∷ reports) report =
    shape_end-push slots (after_all base (writes_of first.records)) (anchors_end slots base anchors first.records) reports report

pub added_in-append : (reports more : List RoundReport) → added_in (reports ++ more) ≡ added_in reports + added_in more
added_in-append [] more = omega arith
added_in-append (report ∷ reports) more = let rest = added_in-append reports more in omega (arith, rest)

-- The rounds so far are played, and left this map in this shape, within what pays for it.
pub record SoFar (slots nodes weighs names : ℕ) (base : Map) (anchors : Anchors) (plans : List RoundPlan) (reports : List RoundReport) (end : Map) (shape : Anchors) : Type 0 where
  pub played : ArePlayed slots nodes weighs names base anchors plans reports end shape
  pub within : IsShapeWithin slots nodes (weighs + added_in reports) (names + added_in reports) end shape
  pub map_is : end ≡ map_end base reports
  pub shape_is : shape ≡ shape_end slots base anchors reports

pub none-so-far-at : (slots nodes weighs names : ℕ) (base : Map) (anchors : Anchors) (reports : List RoundReport) → IsShapeWithin slots nodes weighs names base anchors → reports ≡ [] →
    SoFar slots nodes weighs names base anchors [] reports base anchors
none-so-far-at slots nodes weighs names base anchors reports within none =
    let light = within.light in
    let few = within.few in
    subst (λ (rs : List RoundReport). SoFar slots nodes weighs names base anchors [] rs base anchors) (sym none)
    (record { played = ends; within = record { shape = within.shape; light = omega (arith, light); few = omega (arith, few) }; map_is = refl; shape_is = refl })

one-more : (slots nodes weighs names : ℕ) (base end : Map) (anchors shape : Anchors) (plans : List RoundPlan) (reports : List RoundReport) (plan : RoundPlan) (report : RoundReport) → 2 ≤ slots →
    AreLoneCalls plan.ops → plan.crash ≡ None → SoFar slots nodes weighs names base anchors plans reports end shape → IsPlayedRound slots nodes end shape plan report (writes_of report.records) →
    SoFar slots nodes weighs names base anchors (plans ++ plan ∷ []) (reports ++ report ∷ []) (after_all end (writes_of report.records)) (anchors_end slots end shape report.records)
one-more slots nodes weighs names base end anchors shape plans reports plan report enough callers joined so round =
    let is = timely_rounds_are_paid slots nodes plan.limit end shape report.records enough so.within.shape round.answers round.spent round.full in
    let next = goes_within slots nodes (weighs + added_in reports) (names + added_in reports) end shape report.records so.within is in
    let light = next.1.light in
    let few = next.1.few in
    let added = added_in-append reports (report ∷ []) in
    record {
      played = go-on slots nodes (after_all end (writes_of report.records)) (anchors_end slots end shape report.records) (plan ∷ []) (report ∷ []) so.played (lone callers joined round next.0 ends);
      within = record { shape = next.1.shape; light = omega (arith, light, added); few = omega (arith, few, added) };
      map_is = ap (λ (m : Map). after_all m (writes_of report.records)) so.map_is ∙ sym (map_end-push base reports report);
      shape_is = (λ k. anchors_end slots (so.map_is k) (so.shape_is k) report.records) ∙ sym (shape_end-push slots base anchors reports report);
    }

-- one more of a list of plans
pub one-more-at : (slots nodes weighs names : ℕ) (base end end' : Map) (anchors shape shape' : Anchors) (all : List RoundPlan) (i : ℕ) (plan : RoundPlan) (reports reports' : List RoundReport)
    (report : RoundReport) → 2 ≤ slots → AreLoneCalls plan.ops → plan.crash ≡ None → SoFar slots nodes weighs names base anchors (take i all) reports end shape → i < length all → plan ≡ get_or all i plan →
    IsPlayedRound slots nodes end shape plan report (writes_of report.records) → end' ≡ after_all end (writes_of report.records) → shape' ≡ anchors_end slots end shape report.records →
    reports' ≡ reports ++ report ∷ [] → SoFar slots nodes weighs names base anchors (take (i + 1) all) reports' end' shape'
one-more-at slots nodes weighs names base end end' anchors shape shape' all i plan reports reports' report enough callers joined so less is round map_left shape_left told =
    let longer : take (i + 1) all ≡ take i all ++ plan ∷ [] = take_more all i plan less ∙ ap (λ p. take i all ++ p ∷ []) (sym is) in
    subst (λ (ps : List RoundPlan). SoFar slots nodes weighs names base anchors ps reports' end' shape') (sym longer)
    (subst (λ (rs : List RoundReport). SoFar slots nodes weighs names base anchors (take i all ++ plan ∷ []) rs end' shape') (sym told)
    (subst (λ (m : Map). SoFar slots nodes weighs names base anchors (take i all ++ plan ∷ []) (reports ++ report ∷ []) m shape') (sym map_left)
    (subst (λ (a : Anchors). SoFar slots nodes weighs names base anchors (take i all ++ plan ∷ []) (reports ++ report ∷ []) (after_all end (writes_of report.records)) a) (sym shape_left)
    (one-more slots nodes weighs names base end anchors shape (take i all) reports plan report enough callers joined so round))))

-- all of a list of plans
pub all-so-far : (slots nodes weighs names : ℕ) (base end : Map) (anchors shape : Anchors) (all plans : List RoundPlan) (i : ℕ) (reports told : List RoundReport) →
    SoFar slots nodes weighs names base anchors (take i all) reports end shape → length all ≤ i → all ≡ plans → told ≡ reports → SoFar slots nodes weighs names base anchors plans told end shape
all-so-far slots nodes weighs names base end anchors shape all plans i reports told so done same is =
    subst (λ (ps : List RoundPlan). SoFar slots nodes weighs names base anchors ps told end shape) (take_all i all done ∙ same)
    (subst (λ (rs : List RoundReport). SoFar slots nodes weighs names base anchors (take i all) rs end shape) (sym is) so)

-- what is so of each of the plans is so of the one that a loop over them comes to
pub of-plan : (P : RoundPlan → Type 0) (plans : List RoundPlan) (i : ℕ) (plan : RoundPlan) → All P plans → i < length plans → plan ≡ get_or plans i plan → P plan
of-plan P plans i plan all less is = subst P (sym is) (all i plan less)
