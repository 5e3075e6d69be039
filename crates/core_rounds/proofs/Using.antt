-- What is used up of a map, and what it holds, behind one call and another.
use native.Mathlib.Nat.{mul-le-mul}
use Rattle.std.proofs.Common.{◌≡◌, ℕ, ◌+◌, ◌*◌, ◌<◌, ◌≤◌, refl, subst, ◌∙◌, arith}
use Rattle.std.specs.Prelude.{Result, Ok, Err, IfOk, IsErrAnd}
use Rattle.core_rounds.specs.Updated.{HoldsSame, KeepsBounds, UpdatedState, UsesUp, WaitBehind, WaitOn}

pub same-first : (s : UpdatedState) → HoldsSame s s
same-first s = record { contents = refl; anchors = refl; weighs = omega arith }

pub same-then : (s mid new : UpdatedState) → HoldsSame s mid → HoldsSame mid new → HoldsSame s new
same-then s mid new was is =
    let lighter = was.weighs in
    let light = is.weighs in
    record { contents = is.contents ∙ was.contents; anchors = is.anchors ∙ was.anchors; weighs = omega (arith, lighter, light) }

pub bounds-first : (s : UpdatedState) → KeepsBounds s s
bounds-first s = record { slots = refl; most = refl; callers = refl }

pub bounds-then : (s mid new : UpdatedState) → KeepsBounds s mid → KeepsBounds mid new → KeepsBounds s new
bounds-then s mid new was is = record { slots = is.slots ∙ was.slots; most = is.most ∙ was.most; callers = is.callers ∙ was.callers }

-- what uses up fewer calls
pub uses-more : (s new : UpdatedState) (calls most : ℕ) → UsesUp s new calls 0 → calls ≤ most → UsesUp s new most 1
uses-more s new calls most is few =
    let calls_left = is.calls_left in
    let writes_left = is.writes_left in
    record { bounds = is.bounds; calls_left = omega (arith, calls_left, few); writes_left = omega (arith, writes_left) }

-- and no more writes than one
pub uses-within : (s new : UpdatedState) (calls writes most : ℕ) → UsesUp s new calls writes → calls ≤ most → writes ≤ 1 → UsesUp s new most 1
uses-within s new calls writes most is few one =
    let calls_left = is.calls_left in
    let writes_left = is.writes_left in
    record { bounds = is.bounds; calls_left = omega (arith, calls_left, few); writes_left = omega (arith, writes_left, one) }

-- what waits still waits behind no writes
pub waits-none : (was now : ℕ → ℕ → ℕ → Type 0) → WaitOn was now → WaitBehind was now 0 0 0
waits-none was now on changes writes puts before =
    let made : changes ≡ changes + 0 = omega arith in
    let asked : writes + 0 ≡ writes = omega arith in
    let asked_puts : puts + 0 ≡ puts = omega arith in
    subst (λ n. now n writes puts) made
    (on changes writes puts (subst (λ n. was changes n puts) asked (subst (λ n. was changes (writes + 0) n) asked_puts before)))

-- nothing is said of a result at an error
pub none-at-err : {A E : Type 0} (r : Result A E) (Q : E → Type 0) (P : A → Type 0) → IsErrAnd r Q → IfOk r P
none-at-err (Ok a) Q P is = absurd is
none-at-err (Err e) Q P is = tt

-- one call more can be made
pub calls-for-one : (index all most most' left left' : ℕ) → all * most ≤ left → index < all → left ≤ left' + index * most → most' ≡ most → most' ≤ left'
calls-for-one index all most most' left left' enough less used is =
    let here : (index + 1) * most ≤ all * most = mul-le-mul (omega (arith, less)) (omega arith) in
    omega (arith, here, enough, used, is)

-- what calls and one more use up
pub uses-call : (s mid new : UpdatedState) (index all : ℕ) → index < all → UsesUp s mid (index * s.most) index → UsesUp mid new mid.most 1 → UsesUp s new (all * s.most) all
uses-call s mid new index all less was is =
    let here : (index + 1) * s.most ≤ all * s.most = mul-le-mul (omega (arith, less)) (omega arith) in
    let most = was.bounds.most in
    let calls = was.calls_left in
    let calls' = is.calls_left in
    let writes = was.writes_left in
    let writes' = is.writes_left in
    record {
      bounds = bounds-then s mid new was.bounds is.bounds;
      calls_left = omega (arith, here, most, calls, calls');
      writes_left = omega (arith, less, writes, writes');
    }

pub uses-none : (s : UpdatedState) (calls writes : ℕ) → UsesUp s s calls writes
uses-none s calls writes = record { bounds = bounds-first s; calls_left = omega arith; writes_left = omega arith }
