-- What a whole call comes to within a budget, from what it was made of.
use Rattle.std.proofs.Common.{◌≡◌, ◌≢◌, ℕ, ◌<◌, refl, sym, ◌∙◌, subst}
use Rattle.std.specs.Prelude.{Option, Some, None, IfSome}
use Rattle.updater.specs.declared.terms.Turned.{Turned}
use Rattle.index_core.specs.declared.party.CoreCall.{CoreCall}
use Rattle.index_core.specs.declared.party.Whole.{Whole}
use Rattle.index_core.specs.declared.party.Whole.TheVariants as whole
use Rattle.index_core.specs.declared.party.Within.{Within}
use Rattle.index_core.specs.declared.party.Within.TheVariants as within
use Rattle.index_core.specs.CoreCalls.{IfTurn, MayBegin}
use Rattle.index_core.specs.Indexes.{Index}
use Rattle.index_core.specs.Lone.{HasShortWays, IsQuiet, IsStill}
use Rattle.index_core.specs.Turns.{IsTurnedAnd, TurnsAlone}
use Rattle.index_core.specs.Withins.{ComesInTime, ComesTo, CutsOff, CutsTurnOff, EndsInTime, EndsWithin, RanAlone}
use Rattle.index_core.proofs.Either.{IsNoTurn, a_turn, no_turn, turn_no_name}
use Rattle.node_ops.specs.declared.recheck.Same.{Same}
use Rattle.index_core.specs.Rechecks.{same_whole}
use Rattle.index_core.specs.declared.party.CoreCall.TheVariants as call

pub ends_by : (T : Type 0) (answer : Option T) (to : T → Whole) (result : Within) (A : Whole → Type 0) (C U : Type 0) → ComesTo answer (λ given. result ≡ within.Answered (to given)) (result ≡ within.Cut) → ComesTo answer (λ given. A (to given)) C → EndsWithin result A C U
ends_by T (Some given) to result A C U is runs = subst (λ (r : Within). EndsWithin r A C U) (sym is) runs
ends_by T None to result A C U is runs = subst (λ (r : Within). EndsWithin r A C U) (sym is) runs

comes_to : (T : Type 0) (A B : T → Type 0) (C D : Type 0) (answer : Option T) → ((given : T) → A given → B given) → (C → D) → ComesTo answer A C → ComesTo answer B D
comes_to T A B C D (Some given) more cut comes = more given comes
comes_to T A B C D None more cut comes = cut comes

-- how a whole call ends
abbrev pub Ran : Index → ℕ → CoreCall → Index → Whole → Type 0
Ran s0 i c s answer = (MayBegin c → RanAlone s0 i c s answer) × (IfTurn c (λ stamp release. IsTurnedAnd answer (λ turned. TurnsAlone s0 stamp release turned s)))

abbrev pub Cuts : Index → ℕ → CoreCall → Index → Type 0
Cuts s0 i c s = (MayBegin c → CutsOff s0 i c s) × (IfTurn c (λ stamp release. CutsTurnOff s0 i s))

-- one on a name, or a part of a scan
pub name_ends : (T : Type 0) (answer : Option T) (to : T → Whole) (result : Within) (s0 s : Index) (i : ℕ) (c d : CoreCall) → d ≡ c → IsNoTurn d → ComesTo answer (λ given. result ≡ within.Answered (to given)) (result ≡ within.Cut)
    → ComesTo answer (λ given. RanAlone s0 i c s (to given)) (CutsOff s0 i c s) → EndsWithin result (Ran s0 i d s) (Cuts s0 i d s) (s ≡ s0)
name_ends T answer to result s0 s i c d same none is runs =
    ends_by T answer to result (Ran s0 i d s) (Cuts s0 i d s) (s ≡ s0) is
    (comes_to T (λ given. RanAlone s0 i c s (to given)) (λ given. Ran s0 i d s (to given)) (CutsOff s0 i c s) (Cuts s0 i d s) answer
    (λ given ran. (λ _. subst (λ (e : CoreCall). RanAlone s0 i e s (to given)) (sym same) ran, no_turn d _ none))
    (λ cut. (λ _. subst (λ (e : CoreCall). CutsOff s0 i e s) (sym same) cut, no_turn d _ none)) runs)

-- a recheck, which is neither
pub recheck_no_turn : (d : CoreCall) (node version : ℕ) → d ≡ call.Recheck node version → IsNoTurn d
recheck_no_turn d node version is stamp release same = let no : call.Recheck node version ≡ call.Turn stamp release = sym is ∙ same in cc

pub recheck_no_name : (d : CoreCall) (node version : ℕ) → d ≡ call.Recheck node version → MayBegin d → ⊥
recheck_no_name d node version is may = subst MayBegin is may

pub recheck_ends : (answer : Option Same) (result : Within) (s0 s : Index) (i node version : ℕ) (d : CoreCall) → d ≡ call.Recheck node version → ComesTo answer (λ given. result ≡ within.Answered (same_whole given)) (result ≡ within.Cut)
    → EndsWithin result (Ran s0 i d s) (Cuts s0 i d s) (s ≡ s0)
recheck_ends answer result s0 s i node version d same is =
    ends_by Same answer same_whole result (Ran s0 i d s) (Cuts s0 i d s) (s ≡ s0) is (of answer)
  where
    of : (a : Option Same) → ComesTo a (λ given. Ran s0 i d s (same_whole given)) (Cuts s0 i d s)
    of (Some given) = ((λ may. absurd (recheck_no_name d node version same may)), no_turn d _ (recheck_no_turn d node version same))
    of None = ((λ may. absurd (recheck_no_name d node version same may)), no_turn d _ (recheck_no_turn d node version same))

-- or a turn of the updater
pub turn_ends : (answer : Option Turned) (result : Within) (s0 s : Index) (i stamp release : ℕ) (d : CoreCall) → d ≡ call.Turn stamp release → ComesTo answer (λ given. result ≡ within.Answered (whole.Turned given)) (result ≡ within.Cut)
    → ComesTo answer (λ turned. TurnsAlone s0 stamp release turned s) (CutsTurnOff s0 i s) → EndsWithin result (Ran s0 i d s) (Cuts s0 i d s) (s ≡ s0)
turn_ends answer result s0 s i stamp release d same is turns =
    ends_by Turned answer (λ turned. whole.Turned turned) result (Ran s0 i d s) (Cuts s0 i d s) (s ≡ s0) is
    (comes_to Turned (λ turned. TurnsAlone s0 stamp release turned s) (λ given. Ran s0 i d s (whole.Turned given)) (CutsTurnOff s0 i s) (Cuts s0 i d s) answer
    (λ given turned. ((λ may. absurd (turn_no_name d stamp release same may)), a_turn d _ stamp release same turned))
    (λ cut. ((λ may. absurd (turn_no_name d stamp release same may)), a_turn d _ stamp release same cut)) turns)

-- what it finds in flight, and leaves
pub stays_end : (answer : Option Turned) (result : Within) (s0 s : Index) (i before : ℕ) → 0 < before → IfSome answer (λ _. IsQuiet s0 × IsQuiet s) → IfSome answer (λ _. HasShortWays s) → (answer ≡ None → IsQuiet s0 → 0 < before → (party : ℕ) → party ≢ i → IsStill party s)
    → ComesTo answer (λ given. result ≡ within.Answered (whole.Turned given)) (result ≡ within.Cut)
    → EndsWithin result (λ _. IsQuiet s0 × IsQuiet s × HasShortWays s) (IsQuiet s0 → (party : ℕ) → party ≢ i → IsStill party s) (s ≡ s0)
stays_end (Some given) result s0 s i before some quiet short stays is =
    subst (λ (r : Within). EndsWithin r (λ _. IsQuiet s0 × IsQuiet s × HasShortWays s) (IsQuiet s0 → (party : ℕ) → party ≢ i → IsStill party s) (s ≡ s0)) (sym is) (quiet.0, quiet.1, short)
stays_end None result s0 s i before some quiet short stays is =
    subst (λ (r : Within). EndsWithin r (λ _. IsQuiet s0 × IsQuiet s × HasShortWays s) (IsQuiet s0 → (party : ℕ) → party ≢ i → IsStill party s) (s ≡ s0)) (sym is) (λ was. stays refl was some)

-- what is left of the budget
pub spent_ends : (T : Type 0) (answer : Option T) (to : T → Whole) (result : Within) (before after : ℕ) → 0 < before → (answer ≡ None → after ≡ 0) → ComesTo answer (λ given. result ≡ within.Answered (to given)) (result ≡ within.Cut)
    → EndsWithin result (λ _. 0 < before) ((0 < before) × (after ≡ 0)) (before ≡ 0)
spent_ends T (Some given) to result before after some spent is = subst (λ (r : Within). EndsWithin r (λ _. 0 < before) ((0 < before) × (after ≡ 0)) (before ≡ 0)) (sym is) some
spent_ends T None to result before after some spent is = subst (λ (r : Within). EndsWithin r (λ _. 0 < before) ((0 < before) × (after ≡ 0)) (before ≡ 0)) (sym is) (some, spent refl)

-- how many events it has made at most
pub in_time_ends : (T : Type 0) (answer : Option T) (to : T → Whole) (result : Within) (budget before after most : ℕ) → ComesTo answer (λ given. result ≡ within.Answered (to given)) (result ≡ within.Cut) → ComesInTime answer budget before after most
    → EndsInTime result budget before after most
in_time_ends T (Some given) to result budget before after most is few = subst (λ (r : Within). EndsInTime r budget before after most) (sym is) few
in_time_ends T None to result budget before after most is few = subst (λ (r : Within). EndsInTime r budget before after most) (sym is) few
