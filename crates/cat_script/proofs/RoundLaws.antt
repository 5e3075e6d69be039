-- Lines make one list of rounds.
use Rattle.std.proofs.Common.{◌≡◌, ◌^◌, inl, inr, List, [], ◌∷◌, ◌++◌, Option, refl, sym, ap, subst, ◌∙◌, append_assoc}
use Rattle.std.specs.List.{AllByRecursion}
use Rattle.cat_history.specs.declared.plan.CrashPlan.{CrashPlan}
use Rattle.cat_history.specs.declared.plan.RoundPlan.{RoundPlan}
use Rattle.cat_script.specs.Rounds.{calls_in, settings_in, GoesOn, EndsBy, AsksRound, AreEnded, AreRounds, HasLast, FinishAs}
use Rattle.cat_script.specs.declared.line.Line.{Line}
use Rattle.cat_script.specs.declared.line.Line.TheVariants.{Blank, Call, Join, Crash, Updater, Limit}

-- no line both ends a round and goes on
clash : (line : Line) (crash : Option CrashPlan) → EndsBy line crash → GoesOn line → ⊥
clash Blank crash ends goes = ends
clash (Call caller op) crash ends goes = ends
clash Join crash ends goes = goes
clash (Crash plan) crash ends goes = goes
clash (Updater turns) crash ends goes = ends
clash (Limit limit) crash ends goes = ends

-- a line ends a round in one way
end_one : (line : Line) (a b : Option CrashPlan) → EndsBy line a → EndsBy line b → a ≡ b
end_one Blank a b ends ends' = absurd ends
end_one (Call caller op) a b ends ends' = absurd ends
end_one Join a b ends ends' = ends ∙ sym ends'
end_one (Crash plan) a b ends ends' = ends ∙ sym ends'
end_one (Updater turns) a b ends ends' = absurd ends
end_one (Limit limit) a b ends ends' = absurd ends

-- lines are cut at one place by the first that ends a round
cut_one : (r r' : List Line) (e e' : Line) (t t' : List Line) (a b : Option CrashPlan) → AllByRecursion GoesOn r → AllByRecursion GoesOn r' → EndsBy e a → EndsBy e' b →
    r ++ e ∷ t ≡ r' ++ e' ∷ t' → (r ≡ r') × (e ≡ e') × (t ≡ t')
cut_one [] [] e e' t t' a b going going' ends ends' is = (refl, cc, cc)
cut_one [] (x ∷ r') e e' t t' a b going going' ends ends' is =
    let heads : e ≡ x = cc in absurd (clash x a (subst (λ l. EndsBy l a) heads ends) going'.0)
cut_one (x ∷ r) [] e e' t t' a b going going' ends ends' is =
    let heads : x ≡ e' = cc in absurd (clash x b (subst (λ l. EndsBy l b) (sym heads) ends') going.0)
cut_one (x ∷ r) (x' ∷ r') e e' t t' a b going going' ends ends' is =
    let heads : x ≡ x' = cc in
    let tails : r ++ e ∷ t ≡ r' ++ e' ∷ t' = cc in
    let rest = cut_one r r' e e' t t' a b going.1 going'.1 ends ends' tails in
    (λ i. heads i ∷ rest.0 i, rest.1, rest.2)

-- a line within lines that go on goes on
goes_within : (r : List Line) (e : Line) (t : List Line) → AllByRecursion GoesOn (r ++ e ∷ t) → GoesOn e
goes_within [] e t going = going.0
goes_within (x ∷ r) e t going = goes_within r e t going.1

-- lines ask a round of one plan
asks_one : (before before' lines lines' : List Line) (p q : RoundPlan) → before ≡ before' → lines ≡ lines' → AsksRound before lines p → AsksRound before' lines' q → p.crash ≡ q.crash → p ≡ q
asks_one before before' lines lines' p q same is asks asks' crash =
    let ops = asks.ops ∙ ap calls_in is ∙ sym asks'.ops in
    let all : before ++ lines ≡ before' ++ lines' = (λ i. same i ++ is i) in
    let updater = asks.updater ∙ ap (λ (ls : List Line). (settings_in (64, 2 ^ 62) ls).0) all ∙ sym asks'.updater in
    let limit = asks.limit ∙ ap (λ (ls : List Line). (settings_in (64, 2 ^ 62) ls).1) all ∙ sym asks'.limit in
    λ i. record { ops = ops i; updater = updater i; limit = limit i; crash = crash i }

-- ended rounds, and what goes on behind them, are one way of cutting lines
pub closed_one : (before before' c c' t t' : List Line) (p q : List RoundPlan) → before ≡ before' → AreEnded before c p → AreEnded before' c' q → AllByRecursion GoesOn t → AllByRecursion GoesOn t' →
    c ++ t ≡ c' ++ t' → (c ≡ c') × (t ≡ t') × (p ≡ q)
closed_one before before' c c' t t' [] [] same ended ended' going going' is =
    (ended ∙ sym ended', sym (ap (λ l. l ++ t) ended) ∙ is ∙ ap (λ l. l ++ t') ended', refl)
closed_one before before' c c' t t' [] (q ∷ qs) same ended ended' going going' is =
    let here : t ≡ ended'.0 ++ ended'.1 ∷ (ended'.2 ++ t') =
    sym (ap (λ l. l ++ t) ended) ∙ is ∙ ap (λ l. l ++ t') ended'.3 ∙ append_assoc ended'.0 (ended'.1 ∷ ended'.2) t' in
    absurd (clash ended'.1 q.crash ended'.5 (goes_within ended'.0 ended'.1 (ended'.2 ++ t') (subst (AllByRecursion GoesOn) here going)))
closed_one before before' c c' t t' (p ∷ ps) [] same ended ended' going going' is =
    let here : t' ≡ ended.0 ++ ended.1 ∷ (ended.2 ++ t) =
    sym (ap (λ l. l ++ t') ended') ∙ sym is ∙ ap (λ l. l ++ t) ended.3 ∙ append_assoc ended.0 (ended.1 ∷ ended.2) t in
    absurd (clash ended.1 p.crash ended.5 (goes_within ended.0 ended.1 (ended.2 ++ t) (subst (AllByRecursion GoesOn) here going')))
closed_one before before' c c' t t' (p ∷ ps) (q ∷ qs) same ended ended' going going' is =
    let all : ended.0 ++ ended.1 ∷ (ended.2 ++ t) ≡ ended'.0 ++ ended'.1 ∷ (ended'.2 ++ t') =
    sym (append_assoc ended.0 (ended.1 ∷ ended.2) t) ∙ sym (ap (λ l. l ++ t) ended.3) ∙ is ∙ ap (λ l. l ++ t') ended'.3 ∙ append_assoc ended'.0 (ended'.1 ∷ ended'.2) t' in
    let cut = cut_one ended.0 ended'.0 ended.1 ended'.1 (ended.2 ++ t) (ended'.2 ++ t') p.crash q.crash ended.4.going ended'.4.going ended.5 ended'.5 all in
    let crash = end_one ended'.1 p.crash q.crash (subst (λ l. EndsBy l p.crash) cut.1 ended.5) ended'.5 in
    let plans = asks_one before before' ended.0 ended'.0 p q same cut.0 ended.4 ended'.4 crash in
    let next : (before ++ ended.0) ++ ended.1 ∷ [] ≡ (before' ++ ended'.0) ++ ended'.1 ∷ [] = (λ i. (same i ++ cut.0 i) ++ cut.1 i ∷ []) in
    let rest = closed_one ((before ++ ended.0) ++ ended.1 ∷ []) ((before' ++ ended'.0) ++ ended'.1 ∷ []) ended.2 ended'.2 t t' ps qs next ended.6 ended'.6 going going' cut.2 in
    let whole : ended.0 ++ ended.1 ∷ ended.2 ≡ ended'.0 ++ ended'.1 ∷ ended'.2 = (λ i. cut.0 i ++ cut.1 i ∷ rest.0 i) in
    (ended.3 ∙ whole ∙ sym ended'.3, rest.1, λ i. plans i ∷ rest.2 i)

last_same : (closed closed' rest rest' : List Line) → closed ≡ closed' → rest ≡ rest' → HasLast closed rest → HasLast closed' rest'
last_same closed closed' rest rest' same is (inl calls) = inl (λ none. calls (ap calls_in is ∙ none))
last_same closed closed' rest rest' same is (inr none) = inr (sym same ∙ none)

-- how a script finishes
finish_one : (lines closed closed' rest rest' : List Line) (p q : List RoundPlan) → closed ++ rest ≡ closed' ++ rest' → AllByRecursion GoesOn rest → AllByRecursion GoesOn rest' →
    FinishAs closed rest p → FinishAs closed' rest' q → p ≡ q
finish_one lines closed closed' rest rest' p q is going going' (inl there) (inl there') =
    (closed_one [] [] closed closed' rest rest' p q refl there.1 there'.1 going going' is).2
finish_one lines closed closed' rest rest' p q is going going' (inl there) (inr more) =
    let same = closed_one [] [] closed closed' rest rest' p more.1 refl there.1 more.4 going going' is in
    absurd (there.0 (last_same closed' closed rest' rest (sym same.0) (sym same.1) more.0))
finish_one lines closed closed' rest rest' p q is going going' (inr more) (inl there) =
    let same = closed_one [] [] closed closed' rest rest' more.1 q refl more.4 there.1 going going' is in
    absurd (there.0 (last_same closed closed' rest rest' same.0 same.1 more.0))
finish_one lines closed closed' rest rest' p q is going going' (inr more) (inr more') =
    let same = closed_one [] [] closed closed' rest rest' more.1 more'.1 refl more.4 more'.4 going going' is in
    let last = asks_one closed closed' rest rest' more.2 more'.2 same.0 same.1 more.5 more'.5 (more.6 ∙ sym more'.6) in
    let plans : more.1 ++ more.2 ∷ [] ≡ more'.1 ++ more'.2 ∷ [] = (λ i. same.2 i ++ last i ∷ []) in
    more.3 ∙ plans ∙ sym more'.3

pub rounds_one : (lines lines' : List Line) (p q : List RoundPlan) → lines ≡ lines' → AreRounds lines p → AreRounds lines' q → p ≡ q
rounds_one lines lines' p q same are are' =
    finish_one lines are.closed are'.closed are.rest are'.rest p q (sym are.cut ∙ same ∙ are'.cut) are.going are'.going are.finish are'.finish
