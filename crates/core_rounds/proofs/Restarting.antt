-- Which rounds have calls of several callers, and how many times the index is opened again among rounds.
use Rattle.std.proofs.Common.{◌≡◌, ℕ, ◌+◌, ◌<◌, ◌≤◌, Bool, true, false, cond, List, [], ◌∷◌, drop, get_or, length, refl, sym, ap, ◌∙◌, subst, arith, inl, inr}
use Rattle.std.specs.List.{AllByRecursion}
use Rattle.std.specs.Prelude.{◌||◌, Option, Some, None, is_some}
use Rattle.std.proofs.lemmas.Bool.{cases_eq, eq-eqb, ne_eqb, false≢true}
use Rattle.std.proofs.lemmas.List.{at_drop_all, at_drop_more}
use Rattle.std.proofs.lemmas.List.Elements.{All-from_recursion, recursion_from_All}
use Rattle.cat_history.specs.declared.op.CallerOp.{CallerOp}
use Rattle.cat_history.specs.declared.plan.CrashPlan.{CrashPlan}
use Rattle.cat_history.specs.declared.plan.RoundPlan.{RoundPlan}
use Rattle.core_rounds.specs.LoneCalls.{AreLoneCalls, IsCrowdOrLone, JoinedLoneHaveNoRestart, RestartsAddUp, RestartsAreFew, has_other, has_restart, is_crowd, restarts}
use Rattle.core_rounds.specs.Waiting.{one_if}

abbrev IsOf : ℕ → CallerOp → Type 0
IsOf caller a = a.caller ≡ caller

pub other-here : (caller : ℕ) (a : CallerOp) (asked : List CallerOp) → (a.caller ≡ caller → ⊥) → has_other caller (a ∷ asked) ≡ true
other-here caller a asked other = ap (λ b. cond b (has_other caller asked) true) (ne_eqb a.caller caller other)

pub same-here : (caller : ℕ) (a : CallerOp) (asked : List CallerOp) → a.caller ≡ caller → has_other caller (a ∷ asked) ≡ has_other caller asked
same-here caller a asked same = ap (λ b. cond b (has_other caller asked) true) (eq-eqb a.caller caller same)

none-other : (caller : ℕ) (asked : List CallerOp) → AllByRecursion (IsOf caller) asked → has_other caller asked ≡ false
none-other caller [] all = refl
none-other caller (a ∷ asked) all = same-here caller a asked all.0 ∙ none-other caller asked all.1

all-same : (caller : ℕ) (asked : List CallerOp) → has_other caller asked ≡ false → AllByRecursion (IsOf caller) asked
all-same caller [] none = tt
all-same caller (a ∷ asked) none = elim (cases_eq a.caller caller) [
  | inl same ↦ (same, all-same caller asked (sym (same-here caller a asked same) ∙ none))
  | inr other ↦ absurd (false≢true (sym none ∙ other-here caller a asked other))
]

-- a round of one caller is none of several, and the other way round
lone-is-no-crowd : (asked : List CallerOp) → AreLoneCalls asked → is_crowd asked ≡ false
lone-is-no-crowd [] lone = refl
lone-is-no-crowd (first ∷ asked) lone =
    let all = recursion_from_All (IsOf lone.0) (first ∷ asked) lone.1 in
    none-other first.caller asked (subst (λ (k : ℕ). AllByRecursion (IsOf k) asked) (sym all.0) all.1)

no-crowd-is-lone : (asked : List CallerOp) → is_crowd asked ≡ false → AreLoneCalls asked
no-crowd-is-lone [] none = (0, All-from_recursion (IsOf 0) [] tt)
no-crowd-is-lone (first ∷ asked) none = (first.caller, All-from_recursion (IsOf first.caller) (first ∷ asked) (refl, all-same first.caller asked none))

crowd-is-not-lone : (asked : List CallerOp) → is_crowd asked ≡ true → AreLoneCalls asked → ⊥
crowd-is-not-lone asked is lone = false≢true (sym (lone-is-no-crowd asked lone) ∙ is)

pub crowd_or_lone : IsCrowdOrLone
crowd_or_lone asked = (crowd-is-not-lone asked, no-crowd-is-lone asked)

-- a loop over the calls that looks for another caller
pub other-found : (caller : ℕ) (asked : List CallerOp) (i : ℕ) (a : CallerOp) → i < length asked → a ≡ get_or asked i a → (a.caller ≡ caller → ⊥) →
    has_other caller (drop i asked) ≡ has_other caller asked → true ≡ has_other caller asked
other-found caller asked i a less is other so =
    sym (other-here caller a (drop (i + 1) asked) other) ∙ ap (λ (b : CallerOp). has_other caller (b ∷ drop (i + 1) asked)) is
    ∙ sym (at_drop_more (has_other caller) asked i a less) ∙ so

pub same-on : (caller : ℕ) (asked : List CallerOp) (i : ℕ) (a : CallerOp) → i < length asked → a ≡ get_or asked i a → a.caller ≡ caller →
    has_other caller (drop i asked) ≡ has_other caller asked → has_other caller (drop (i + 1) asked) ≡ has_other caller asked
same-on caller asked i a less is same so =
    sym (same-here caller a (drop (i + 1) asked) same) ∙ ap (λ (b : CallerOp). has_other caller (b ∷ drop (i + 1) asked)) is
    ∙ sym (at_drop_more (has_other caller) asked i a less) ∙ so

pub none-found : (caller : ℕ) (asked : List CallerOp) (i : ℕ) → length asked ≤ i → has_other caller (drop i asked) ≡ has_other caller asked → false ≡ has_other caller asked
none-found caller asked i done so = sym (at_drop_all (has_other caller) asked i done) ∙ so

pub by-first : (asked : List CallerOp) (first : CallerOp) → 0 < length asked → first ≡ get_or asked 0 first → has_other first.caller asked ≡ is_crowd asked
by-first [] first some is = absurd (omega (arith, some))
by-first (a ∷ asked) first some is =
    ap (λ (b : CallerOp). has_other b.caller (a ∷ asked)) is ∙ same-here a.caller a asked refl

-- ---- how many times the index is opened again

at-most : (b : Bool) → one_if b ≤ 1
at-most true = omega arith
at-most false = omega arith

pub restarts_few : RestartsAreFew
restarts_few [] = omega arith
restarts_few (plan ∷ plans) =
    let one = at-most (has_restart plan) in
    let rest = restarts_few plans in
    omega (arith, one, rest)

abbrev IsLonePlan : RoundPlan → Type 0
IsLonePlan plan = AreLoneCalls plan.ops

abbrev IsJoinedPlan : RoundPlan → Type 0
IsJoinedPlan plan = plan.crash ≡ None

-- it isn't behind a round that is of one caller and joined
plain-has-none : (plan : RoundPlan) → AreLoneCalls plan.ops → plan.crash ≡ None → has_restart plan ≡ false
plain-has-none plan lone joined = (λ k. is_some (joined k) || lone-is-no-crowd plan.ops lone k)

none-of : (o : Option CrashPlan) (b : Bool) → (is_some o || b) ≡ false → (o ≡ None) × (b ≡ false)
none-of None b none = (refl, none)
none-of (Some crash) b none = absurd (false≢true (sym none))

pub none-is-plain : (plan : RoundPlan) → has_restart plan ≡ false → AreLoneCalls plan.ops × (plan.crash ≡ None)
none-is-plain plan none =
    let both = none-of plan.crash (is_crowd plan.ops) none in
    (no-crowd-is-lone plan.ops both.1, both.0)

no-restarts : (plans : List RoundPlan) → AllByRecursion IsLonePlan plans → AllByRecursion IsJoinedPlan plans → restarts plans ≡ 0
no-restarts [] lone joined = refl
no-restarts (plan ∷ plans) lone joined =
    let rest = no-restarts plans lone.1 joined.1 in
    ap (λ (b : Bool). one_if b + restarts plans) (plain-has-none plan lone.0 joined.0) ∙ omega (arith, rest)

pub none-there : (b : Bool) (n : ℕ) → one_if b + n ≡ 0 → (b ≡ false) × (n ≡ 0)
none-there true n none = absurd (omega (arith, none))
none-there false n none = (refl, omega (arith, none))

all-plain : (plans : List RoundPlan) → restarts plans ≡ 0 → AllByRecursion IsLonePlan plans × AllByRecursion IsJoinedPlan plans
all-plain [] none = (tt, tt)
all-plain (plan ∷ plans) none =
    let both = none-there (has_restart plan) (restarts plans) none in
    let here = none-is-plain plan both.0 in
    let rest = all-plain plans both.1 in
    ((here.0, rest.0), (here.1, rest.1))

pub joined_lone_have_no_restart : JoinedLoneHaveNoRestart
joined_lone_have_no_restart plans = (
  (λ plain. no-restarts plans (recursion_from_All IsLonePlan plans plain.0) (recursion_from_All IsJoinedPlan plans plain.1)),
  (λ none. let all = all-plain plans none in (All-from_recursion IsLonePlan plans all.0, All-from_recursion IsJoinedPlan plans all.1)),
)

-- a loop over the plans that counts
pub restarts-on : (plans : List RoundPlan) (i so : ℕ) (plan : RoundPlan) → i < length plans → plan ≡ get_or plans i plan → so + restarts (drop i plans) ≡ restarts plans →
    (so + one_if (has_restart plan)) + restarts (drop (i + 1) plans) ≡ restarts plans
restarts-on plans i so plan less is before =
    let here : restarts (drop i plans) ≡ one_if (has_restart plan) + restarts (drop (i + 1) plans) =
    at_drop_more restarts plans i plan less ∙ ap (λ (p : RoundPlan). one_if (has_restart p) + restarts (drop (i + 1) plans)) (sym is) in
    omega (arith, here, before)

pub all-counted : (plans : List RoundPlan) (i so : ℕ) → length plans ≤ i → so + restarts (drop i plans) ≡ restarts plans → so ≡ restarts plans
all-counted plans i so done before = let none : restarts (drop i plans) ≡ 0 = at_drop_all restarts plans i done in omega (arith, none, before)

pub restarts_add_up : RestartsAddUp
restarts_add_up [] more = omega arith
restarts_add_up (plan ∷ plans) more = let rest = restarts_add_up plans more in omega (arith, rest)
