-- What a split answers follows from what it was told.
use Rattle.std.proofs.Common.{◌≡◌, ℕ, ◌+◌, ◌^◌, ◌<◌, true, false, cond, ltb, refl, sym, subst, ap, arith}
use Rattle.std.specs.Prelude.{slice_set}
use Rattle.pm_words.specs.declared.layout.Layout.{Layout}
use Rattle.pm_words.specs.declared.again.Again.{Again}
use Rattle.pm_words.specs.declared.again.Again.TheVariants as again
use Rattle.pm_words.specs.declared.machine.Turn.{Turn}
use Rattle.pm_words.specs.declared.machine.Turn.TheVariants.{Go, Done}
use Rattle.call_stages.specs.Kinds.{Told}
use Rattle.pm_alloc.specs.declared.claim.Claim.{Claim}
use Rattle.pm_alloc.specs.declared.claim.Claimed.{Claimed}
use Rattle.pm_alloc.specs.declared.claim.Claimed.TheVariants as was
use Rattle.pm_alloc.specs.Claims.{claim_asks, claim_turned}
use Rattle.pm_alloc.specs.Events.{HasHeard, heard_at, Heeds, Tells}
use Rattle.pm_alloc.proofs.ClaimLaw.{claims_begin, claims_heed}
use Rattle.smo_log.specs.declared.take.Take.{Take}
use Rattle.smo_log.specs.declared.take.Taken.{Taken}
use Rattle.smo_log.specs.declared.take.Taken.TheVariants as got
use Rattle.smo_log.specs.Takes.{take_turned}
use Rattle.smo_log.specs.Laws.{NoneEmpty, HasLooked, TakeHeeds}
use Rattle.smo_log.proofs.LineLaw.{takes_heed}
use Rattle.smo_log.proofs.Staying.{StaysSo}
use Rattle.split_merge.specs.declared.planning.Plan.{Plan}
use Rattle.split_merge.specs.declared.moving.Move.{Move}
use Rattle.split_merge.specs.declared.splitting.Split.{Split}
use Rattle.split_merge.specs.declared.splitting.SplitAt.{SplitAt}
use Rattle.split_merge.specs.declared.splitting.SplitAt.TheVariants as at
use Rattle.split_merge.specs.declared.splitting.SplitDone.{SplitDone}
use Rattle.split_merge.specs.declared.splitting.SplitDone.TheVariants as answer
use Rattle.split_merge.specs.Moves.{IsMove, move_turned}
use Rattle.split_merge.specs.Splits.{word_count, plan_of, move_from, splits_on, taken, claimed, moved, split_at_turned, split_at_asks, IsSplitAt, IsSplit}
use Rattle.split_merge.specs.SplitEvents.{SplitHeard, SomeEmpty, SplitTells, SplitHas, HearsSo, SplitHeeds, SplitsHeed, FullsHeed}
use Rattle.split_merge.proofs.Staying.{move_goes_on}

module _ (split : Split) (sound : IsSplit split) (heard : SplitHeard) where
  abbrev Heed : Turn Split SplitDone → Type 0
  Heed = SplitHeeds split.view heard

  at_take : (next : ℕ) (take : Take) (x : ℕ) → IsSplitAt split.view split.node split.word (at.Take next take) → HearsSo heard (at.Take next take) x → HasLooked heard.lines take.index take.at
      → Heed (taken split next (take_turned take x))
  at_take next take x here hears has = of (take_turned take x) (takes_heed take heard.lines x here.1 hears has)
    where
      of : (turn : Turn Take Taken) → TakeHeeds take.caller heard.lines take.index turn → Heed (taken split next turn)
      of (Go take') heeds = heeds
      of (Done (got.Line line)) heeds = ((take.index, heeds.1, heeds.2), claims_begin split.view.layout split.view.generation heard.claim)
      of (Done got.Full) heeds = heeds

  -- why a claim is refused
  refused : (why : Again) → SomeEmpty heard.lines → Tells split.view.layout split.view.generation heard.claim (was.Again why) → SplitTells split.view heard (answer.Again why)
  refused (again.Locked node word) some tells = (some, tells)
  refused (again.Moved node first second) some tells = (some, tells)
  refused (again.Hops count) some tells = (some, tells)
  refused again.LogFull some tells = absurd tells
  refused again.NoFree some tells = absurd tells
  refused (again.NeedsSplit node) some tells = (some, tells)
  refused (again.Held word) some tells = (some, tells)
  refused (again.Epoch first second) some tells = (some, tells)

  at_claim : (next line : ℕ) (claim : Claim) (x : ℕ) → IsSplitAt split.view split.node split.word (at.Claim next line claim) → Told claim.layout claim.generation (claim_asks claim) x
      → x ≡ heard_at heard.claim claim.node claim.at → SomeEmpty heard.lines → HasHeard split.view.layout split.view.generation heard.claim claim.node claim.at
      → Heed (claimed split next line (claim_turned claim x))
  at_claim next line claim x here told is some has =
      subst (λ k. Heed (claimed split next line (claim_turned claim k))) (sym is)
      (of (claim_turned claim (heard_at heard.claim claim.node claim.at))
      (subst (λ (p : Layout × ℕ). Heeds p.0 p.1 heard.claim (claim_turned claim (heard_at heard.claim claim.node claim.at))) (λ i. (here.3 i, here.4 i))
      (claims_heed claim heard.claim here.2 (subst (λ k. Told claim.layout claim.generation (claim_asks claim) k) is told)
      (subst (λ (p : Layout × ℕ). HasHeard p.0 p.1 heard.claim claim.node claim.at) (λ i. (sym here.3 i, sym here.4 i)) has))))
    where
      of : (turn : Turn Claim Claimed) → Heeds split.view.layout split.view.generation heard.claim turn → Heed (claimed split next line turn)
      of (Go claim') heeds = (some, heeds.3)
      of (Done (was.Node node word)) heeds = (some, (word, heeds))
      of (Done was.NoFree) heeds = (some, heeds)
      of (Done (was.Again why)) heeds = refused why some heeds

  at_move : (moving : Move) (x : ℕ) → IsMove moving → x < 2 ^ 64 → SplitTells split.view heard (answer.Done moving.plan.share.fresh) → Heed (moved split moving.plan.share.fresh (move_turned moving x))
  at_move moving x is fits has = of (move_turned moving x) (move_goes_on moving x is fits)
    where
      of : (turn : Turn Move (Unit {0})) → StaysSo (λ next. IsMove next × (next.plan ≡ moving.plan)) turn → Heed (moved split moving.plan.share.fresh turn)
      of (Go moving') stays = subst (λ n. SplitTells split.view heard (answer.Done n)) (sym (ap (λ (p : Plan). p.share.fresh) stays.1)) has
      of (Done nothing) stays = has

  -- a look for a line begins with none loaded
  none : NoneEmpty heard.lines 0
  none index within = absurd (omega arith)

  heeds : (k : SplitAt) (x : ℕ) → IsSplitAt split.view split.node split.word k → Told split.view.layout split.view.generation (split_at_asks split k) x → HearsSo heard k x → SplitHas split.view heard k
      → Heed (split_at_turned split k x)
  heeds at.Next x here told hears has = none
  heeds (at.Take next take) x here told hears has = at_take next take x here hears has
  heeds (at.Claim next line claim) x here told hears has =
      at_claim next line claim x here (subst (λ (p : Layout × ℕ). Told p.0 p.1 (claim_asks claim) x) (λ i. (sym here.3 i, sym here.4 i)) told) hears has.0 has.1
  heeds (at.Read share full count) x here told hears has =
      elim (ltb (count + 1) (word_count split.view)) as (λ b. Heed (cond b (splits_on split (at.Read share (slice_set full (8 + count) x) (count + 1))) (splits_on split (at.Move (move_from (plan_of split share (slice_set full (8 + count) x))))))) [
        | true ↦ has
        | false ↦ has
      ]
  heeds (at.Move moving) x here told hears has = at_move moving x here.0 told.fits has
  heeds (at.Refuse next why) x here told hears has = has

pub splits_heed : SplitsHeed
splits_heed split heard x takes hears has = heeds split takes.0 heard split.at x takes.0.here takes.1 hears has

pub fulls_heed : FullsHeed
fulls_heed view heard done tells = (λ is. subst (SplitTells view heard) is tells, only done tells)
  where
    never : SomeEmpty heard.lines → NoneEmpty heard.lines 8 → ⊥
    never some none = none some.0 some.1 some.2

    why_full : (why : Again) → SplitTells view heard (answer.Again why) → NoneEmpty heard.lines 8 → answer.Again why ≡ answer.Again again.LogFull
    why_full (again.Locked node word) tells all = absurd (never tells.0 all)
    why_full (again.Moved node first second) tells all = absurd (never tells.0 all)
    why_full (again.Hops count) tells all = absurd (never tells.0 all)
    why_full again.LogFull tells all = refl
    why_full again.NoFree tells all = absurd (never tells.0 all)
    why_full (again.NeedsSplit node) tells all = absurd (never tells.0 all)
    why_full (again.Held word) tells all = absurd (never tells.0 all)
    why_full (again.Epoch first second) tells all = absurd (never tells.0 all)

    only : (done : SplitDone) → SplitTells view heard done → NoneEmpty heard.lines 8 → done ≡ answer.Again again.LogFull
    only (answer.Done fresh) tells all = absurd (never tells.0 all)
    only (answer.Again why) tells all = why_full why tells all
