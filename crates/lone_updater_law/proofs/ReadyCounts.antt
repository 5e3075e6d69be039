-- How many log lines are READY and EMPTY, where one is made READY.
use Rattle.std.proofs.Common.{◌≡◌, ◌≢◌, ℕ, zero, suc, ◌+◌, ◌*◌, ◌%◌, ◌<◌, ◌==◌, ⊎_elim, Bool, true, false, cond, refl}
use Rattle.std.proofs.Common.{sym, ap, ◌∙◌, arith}
use Rattle.std.proofs.lemmas.Bool.{cases_eq, eq-eqb, ne_eqb}
use Rattle.pm_words.specs.Codes.{empty_state, ready_state}
use Rattle.pm_words.specs.declared.layout.Layout.{Layout}
use Rattle.updater_law.proofs.Columns.{here, other}
use Rattle.index_layer_law.specs.updater_row_law.specs.Columns.{line_count}
use Rattle.updater.specs.Events.{how_many}
use Rattle.lone_updater_law.specs.CallLogs.{EmptyAreCounted, ReadyAreCounted, is_own_empty}
use Rattle.lone_updater_law.specs.LoneTurns.{line_state, is_ready}

-- alike tests hold as often
pub count_same : (test then : ℕ → Bool) (n : ℕ) → ((k : ℕ) → k < n → then k ≡ test k) → how_many then n ≡ how_many test n
count_same test then zero same = refl
count_same test then (suc n) same =
    let before : how_many then n ≡ how_many test n = count_same test then n (λ k small. same k (omega arith)) in
    let last : then n ≡ test n = same n (omega arith) in
    λ k. cond (last k) (before k + 1) (before k)

count_more : (test then : ℕ → Bool) (n j : ℕ) → j < n → test j ≡ false → then j ≡ true → ((k : ℕ) → k ≢ j → then k ≡ test k) → how_many then n ≡ how_many test n + 1
count_more test then zero j small isnt is others = absurd (omega arith)
count_more test then (suc n) j small isnt is others = ⊎_elim
    (λ (same : j ≡ n).
    let before : how_many then n ≡ how_many test n = count_same test then n (λ k less. others k (λ own. omega arith)) in
    let now : then n ≡ true = ap then (sym same) ∙ is in
    let was : test n ≡ false = ap test (sym same) ∙ isnt in
    (λ k. cond (now k) (before k + 1) (before k)) ∙ ap (λ (m : ℕ). m + 1) (sym (ap (λ (b : Bool). cond b (how_many test n + 1) (how_many test n)) was)))
    (λ (apart : j ≢ n).
    let before : how_many then n ≡ how_many test n + 1 = count_more test then n j (omega arith) isnt is others in
    let last : then n ≡ test n = others n (λ own. apart (sym own)) in
    (λ k. cond (last k) (before k + 1) (before k)) ∙ shifted (test n) (how_many test n))
    (cases_eq j n)
  where
    shifted : (b : Bool) (m : ℕ) → cond b (m + 1 + 1) (m + 1) ≡ cond b (m + 1) m + 1
    shifted true m = refl
    shifted false m = refl

pub ready_are_counted : ReadyAreCounted
ready_are_counted caller w0 w layout = (
  (λ kept. λ k. how_many (λ j. kept k j == ready_state) (line_count (layout k))),
  (λ made.
      let before : is_ready w0 made.line ≡ false = ap (λ (state : ℕ). state == ready_state) made.was_empty in
      let now : is_ready w made.line ≡ true = eq-eqb (line_state w made.line) ready_state (ap (λ (f : ℕ → ℕ). f made.line) made.is ∙ here (line_state w0) made.line made.line ready_state refl) in
      ap (λ (l : Layout). how_many (is_ready w) (line_count l)) layout
      ∙ count_more (is_ready w0) (is_ready w) (line_count w0.layout) made.line made.within before now
      (λ j apart. ap (λ (state : ℕ). state == ready_state) (ap (λ (f : ℕ → ℕ). f j) made.is ∙ other (line_state w0) made.line j ready_state apart))),
)

pub empty_are_counted : EmptyAreCounted
empty_are_counted caller w0 w = (
  (λ kept. λ k. how_many (λ j. kept k (8 * caller + j) == empty_state) 8),
  (λ made.
      let j = made.line % 8 in
      let place : 8 * caller + j ≡ made.line = let own = made.own in omega (arith, own) in
      let was : is_own_empty caller w0 j ≡ true = eq-eqb (line_state w0 (8 * caller + j)) empty_state (ap (line_state w0) place ∙ made.was_empty) in
      let is_ready_now : line_state w (8 * caller + j) ≡ ready_state = ap (λ (f : ℕ → ℕ). f (8 * caller + j)) made.is ∙ here (line_state w0) made.line (8 * caller + j) ready_state place in
      let now : is_own_empty caller w j ≡ false = ne_eqb (line_state w (8 * caller + j)) empty_state (λ none. let clash : ready_state ≡ empty_state = sym is_ready_now ∙ none in cc) in
      sym (count_more (is_own_empty caller w) (is_own_empty caller w0) 8 j (omega arith) now was
      (λ k apart. ap (λ (state : ℕ). state == empty_state) (sym (ap (λ (f : ℕ → ℕ). f (8 * caller + k)) made.is ∙ other (line_state w0) made.line (8 * caller + k) ready_state (λ same. apart (omega (arith, same, place)))))))),
)
