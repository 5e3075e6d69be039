use Rattle.std.proofs.Common.{◌≡◌, ℕ, List, codes, ◌≤◌, ◌++◌, ◌∷◌, [], length, ap, refl, sym, subst, ◌∙◌, arith}
use Rattle.std.proofs.lemmas.List.{length-append}
use Rattle.std.proofs.lemmas.Result.{err_from_is_err_and}
use Rattle.std.proofs.lemmas.Slice.Zip.{AllZip-long}
use Rattle.std.specs.List.{AllZip}
use Rattle.cat_script.specs.Lines.{words_of}
use Rattle.cat_script.specs.Numbers.{IsUpTo}
use Rattle.cat_script.proofs.CrashLemmas.{bad_budget, said_so}
use Rattle.cat_script.proofs.ask.read_crash.Goals as goal

pub returns-in_err-budgets : goal.returns-in_err-budgets
returns-in_err-budgets c =
    let p = err_from_is_err_and c.from_residual.result c.from_residual.ensures.1 in
    let least : 3 ≤ length (words_of c.args.rest.now) = omega (arith, c.if-not-has_crash_words.ensures.0 refl) in
    let most : length (words_of c.args.rest.now) ≤ 18 = omega (arith, c.if-not-has_crash_words.ensures.0 refl) in
    rw (p.1, p.2) (said_so _ _ c.in_err-budgets.field-0.0
    (λ why said. rw said.0 (bad_budget (words_of c.args.rest.now) c.in-Some.seed.now (words_of c.in-Some.rest.now) c.in-Some.ensures.words least most said.1))
    c.in_err-budgets.ensures.err)

pub returns-in_default-pop : goal.returns-in_default-pop
returns-in_default-pop c =
    let least : 3 ≤ length (words_of c.args.rest.now) = omega (arith, c.if-not-has_crash_words.ensures.0 refl) in
    let long = AllZip-long (IsUpTo 1000000) (words_of c.in-Some.rest.now) c.in_ok-budgets.budgets.items c.in_ok-budgets.ensures.ok in
    absurd (omega (arith, least, long, ap length c.in-Some.ensures.words, c.in_default-pop.ensures.cases, c.in_ok-budgets.budgets.ok))

pub returns : goal.returns
returns c =
    let least : 3 ≤ length (words_of c.args.rest.now) = omega (arith, c.if-not-has_crash_words.ensures.0 refl) in
    let most : length (words_of c.args.rest.now) ≤ 18 = omega (arith, c.if-not-has_crash_words.ensures.0 refl) in
    let long = AllZip-long (IsUpTo 1000000) (words_of c.in-Some.rest.now) c.in_ok-budgets.budgets.items c.in_ok-budgets.ensures.ok in
    let count = ap length c.in-Some.ensures.words in
    let made : c.in_ok-budgets.budgets.items ≡ c.of.result ++ c.in-Some-pop.updater_budget ∷ [] =
    c.in-Some-pop.ensures.items ∙ ap (λ bs. bs ++ c.in-Some-pop.updater_budget ∷ []) (sym c.of.ensures) in
    let parts = ap length made ∙ length-append c.of.result (c.in-Some-pop.updater_budget ∷ []) in (
      c.in-Some.seed.now,
      words_of c.in-Some.rest.now,
      c.in-Some-read_number.ensures.some,
      subst (AllZip (IsUpTo 1000000) (words_of c.in-Some.rest.now)) made c.in_ok-budgets.ensures.ok,
      omega (arith, least, long, count, parts),
      omega (arith, most, long, count, parts),
      ap (λ (ws : List (List ℕ)). codes "crash" ∷ ws) c.in-Some.ensures.words,
    )
