-- Budgets, one by one.
use Rattle.std.proofs.Common.{◌≡◌, ℕ, ◌<◌, List, ◌∷◌, ◌++◌, length, get_or, refl, sym, ap, subst, ◌∙◌, arith}
use Rattle.std.proofs.lemmas.List.{get_or_at, length-append}
use Rattle.std.specs.Prelude.{All, ◌≤◌, codes}
use Rattle.cat_script.specs.Numbers.{IsSomeUpTo}
use Rattle.cat_script.specs.Reasons.{HaveFirst, WordsHave, FailsBy, rank_of}
use Rattle.cat_script.specs.declared.line.Reason.{Reason}
use Rattle.cat_script.specs.declared.line.Reason.TheVariants as reason
use Rattle.cat_script.specs.declared.line.LineFault.{LineFault}
use Rattle.cat_script.specs.declared.line.LineFault.TheVariants as fault

-- what holds of all items holds of one among them
pub among : {X : Type 0} (P : X → Type 0) (all done : List X) (item : X) (rest : List X) → all ≡ done ++ item ∷ rest → All P all → P item
among P all done item rest is holds =
    let within : length done < length all = omega (arith, ap length is, length-append done (item ∷ rest)) in
    subst P (ap (λ (xs : List _). get_or xs (length done) item) is ∙ get_or_at done item rest item (length done) refl) (holds (length done) item within)

-- what is said of a fault may be said in other words
pub said_so : (P Q : Reason → Type 0) (f : LineFault) → ((why : Reason) → P why → Q why) → FailsBy P f → FailsBy Q f
said_so P Q (fault.Faulty why) each said = each why said
said_so P Q fault.NoMemory each said = tt

-- no reason is earlier than its numbers, where the words are few enough and enough
early : (seed : List ℕ) (budgets : List (List ℕ)) → 3 ≤ length (seed ∷ budgets) → length (seed ∷ budgets) ≤ 18 →
    (earlier : Reason) → rank_of earlier < 5 → ¬ WordsHave (codes "crash" ∷ seed ∷ budgets) earlier
early seed budgets least most reason.Byte less h = h
early seed budgets least most reason.Verb less h = cc
early seed budgets least most reason.Words less h = h (omega arith, omega arith)
early seed budgets least most reason.Caller less h = h.0
early seed budgets least most reason.Name less h = h.0
early seed budgets least most reason.Number less h = absurd (omega (arith, less))

-- a crash line whose budgets are not all numbers within their limit
pub bad_budget : (rest : List (List ℕ)) (seed : List ℕ) (budgets : List (List ℕ)) → rest ≡ seed ∷ budgets → 3 ≤ length rest → length rest ≤ 18 →
    ¬ All (IsSomeUpTo 1000000) budgets → HaveFirst (codes "crash" ∷ rest) reason.Number
bad_budget rest seed budgets is least most bad = subst (λ (ws : List (List ℕ)). HaveFirst (codes "crash" ∷ ws) reason.Number) (sym is) (record {
  has = λ good. bad good.1;
  first = early seed budgets (omega (arith, least, ap length is)) (omega (arith, most, ap length is));
})
