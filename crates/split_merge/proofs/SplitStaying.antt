-- A split goes on as one of the same node, whose fields keep the same.
use Rattle.std.proofs.Common.{◌≡◌, ◌≢◌, ℕ, zero, suc, ◌+◌, ◌*◌, ◌/◌, ◌%◌, ◌^◌, ◌<◌, ◌≤◌, ◌==◌, true, false, cond, ltb, List, take, slice_index, inl, inr, refl, sym, subst, ◌∙◌, arith}
use Rattle.std.specs.Prelude.{slice_set, replicate}
use Rattle.std.proofs.lemmas.Bool.{cases_eq, eqb-false, ltb-true}
use Rattle.std.proofs.lemmas.List.{length-set, length-replicate, length-take-le, get_or-set_same, get_or-set_other, get_or-take}
use Rattle.pm_words.specs.Codes.{free_status}
use Rattle.pm_words.specs.declared.layout.Layout.{Layout}
use Rattle.pm_words.specs.declared.again.Again.TheVariants as again
use Rattle.pm_words.specs.declared.again.Again.TheVariants.{Locked, Moved}
use Rattle.pm_words.specs.declared.machine.Turn.{Turn}
use Rattle.pm_words.specs.declared.machine.Turn.TheVariants.{Go, Done}
use Rattle.pm_words.specs.Layouts.{IsLayout}
use Rattle.pm_words.specs.Offsets.{next_offset, slot_offset}
use Rattle.version_lock.specs.declared.TheConstants.{GENERATION_LIMIT}
use Rattle.version_lock.specs.Versions.{is_free_word, is_worn_word}
use Rattle.call_stages.specs.Kinds.{IsRefusal, Told}
use Rattle.index_law.proofs.Versions.{own_lock, lock_fits}
use Rattle.pm_alloc.specs.declared.claim.Claim.{Claim}
use Rattle.pm_alloc.specs.declared.claim.ClaimAt.{ClaimAt}
use Rattle.pm_alloc.specs.declared.claim.ClaimAt.TheVariants as claim_at
use Rattle.pm_alloc.specs.declared.claim.Claimed.{Claimed}
use Rattle.pm_alloc.specs.declared.claim.Claimed.TheVariants as was
use Rattle.pm_alloc.specs.Claims.{IsClaim, IsClaimAt, StaysClaim, claim_from, claim_asks, claim_turned, claim_at_turned, goes_to, passes, lock_of, saw_free}
use Rattle.pm_alloc.proofs.ClaimLaw.{claims_stay}
use Rattle.smo_log.specs.declared.take.Take.{Take}
use Rattle.smo_log.specs.declared.take.Taken.{Taken}
use Rattle.smo_log.specs.declared.take.Taken.TheVariants as got
use Rattle.smo_log.specs.Takes.{IsTake, take_from, take_asks, take_turned, take_held, TakeNotes}
use Rattle.smo_log.proofs.LineLaw.{takes_are_notes}
use Rattle.smo_log.proofs.Staying.{StaysSo}
use Rattle.split_merge.specs.declared.planning.Plan.{Plan}
use Rattle.split_merge.specs.declared.moving.Move.{Move}
use Rattle.split_merge.specs.declared.splitting.Share.{Share}
use Rattle.split_merge.specs.declared.splitting.Split.{Split}
use Rattle.split_merge.specs.declared.splitting.SplitAt.{SplitAt}
use Rattle.split_merge.specs.declared.splitting.SplitAt.TheVariants as at
use Rattle.split_merge.specs.Plans.{spot_of, order_of, moved_in, IsPlan}
use Rattle.version_lock.specs.Versions.{IsLockWord}
use Rattle.split_merge.specs.Moves.{IsMove, move_turned}
use Rattle.split_merge.specs.Splits.{full_from, word_count, plan_of, move_from, splits_on, taken, claimed, has_read, moved, split_at_turned, AreWords, IsOwnLine, IsShare, IsPlanOf, IsSplitAt, IsSplit, LeadsIn, split_at_asks}
use Rattle.split_merge.specs.SplitLaws.{SplitStays, SplitsStay}
use Rattle.split_merge.proofs.Sorting.{all_from}
use Rattle.split_merge.proofs.Halving.{in_size, in_within, bits_below}
use Rattle.split_merge.proofs.PlanWords.{word_next, word_anchor, source_small, anchor_is, words_fit}
use Rattle.split_merge.proofs.Staying.{move_goes_on}

-- with one word more
pub read_words : (full : List ℕ) (offset x : ℕ) → AreWords full → offset < 272 → x < 2 ^ 64 → AreWords (slice_set full offset x)
read_words full offset x words inside fits =
    let size = words.size in
    record {
      size = length-set full offset x ∙ words.size;
      fits = λ other. elim (cases_eq other offset) [
        | inl here ↦ subst (λ o. slice_index (slice_set full offset x) o < 2 ^ 64) (sym here) (subst (λ n. n < 2 ^ 64) (sym (get_or-set_same full offset x 0 (omega arith))) fits)
        | inr apart ↦ subst (λ n. n < 2 ^ 64) (sym (get_or-set_other full offset other x 0 apart)) (words.fits other)
      ];
    }

zeros : (n k : ℕ) → slice_index (replicate n 0) k < 2 ^ 64
zeros zero k = omega arith
zeros (suc n) zero = omega arith
zeros (suc n) (suc k) = zeros n k

pub first_words : (next : ℕ) → next < 2 ^ 64 → AreWords (full_from next)
first_words next fits = read_words (replicate 272 0) next_offset next (record { size = length-replicate {A = ℕ} 272 0; fits = zeros 272 }) (omega arith) fits

pub first_next : (next : ℕ) → slice_index (full_from next) 2 ≡ next
first_next next = let size = length-replicate {A = ℕ} 272 0 in get_or-set_same (replicate 272 0) next_offset next 0 (omega arith)

-- the plan that is made of words
module _ (split : Split) (sound : IsSplit split) (share : Share) (is : IsShare split.view share) (full : List ℕ) (words : AreWords full) (next : slice_index full 2 < split.view.layout.nodes) where
  abbrev slots : ℕ
  slots = split.view.layout.slots

  abbrev plan : Plan
  plan = plan_of split share full

  few : slots ≤ 64
  few = sound.view.layout.slots.1

  twice : slots ≡ slots / 2 + slots / 2
  twice = let e : slots % 2 ≡ 0 = sound.view.layout.slots.2 in omega arith

  pub plan_is : IsPlan plan
  plan_is =
      let anchor = anchor_is (spot_of full (slot_offset (slice_index (order_of full slots) (slots / 2)) 0)) (spot_of full (slot_offset (slice_index (order_of full slots) (slots / 2)) 1))
      (spot_of full (slot_offset (slice_index (order_of full slots) (slots / 2)) 2)) (words.fits (slot_offset (slice_index (order_of full slots) (slots / 2)) 0))
      (words.fits (slot_offset (slice_index (order_of full slots) (slots / 2)) 1)) (words.fits (slot_offset (slice_index (order_of full slots) (slots / 2)) 2)) in
      let small : moved_in plan ≤ 32 = (let h = few in omega arith) in
      let some = is.positive in
      let w = twice in
      let h = few in
      let low : 4 ≤ slots = sound.view.layout.slots.0 in
      record {
        layout = sound.view.layout;
        node = sound.node;
        fresh = is.fresh;
        lock = sound.lock;
        fresh_lock = is.lock;
        line = is.line.1;
        next = subst (λ n. n < split.view.layout.nodes) (sym (word_next plan)) next;
        entry = record {
          kind = inl refl;
          node = (omega arith, is.fresh);
          name = anchor.named.0;
          is_name = anchor.named.1;
          anchor = word_anchor plan ∙ sym anchor.named.2;
          left = sound.node;
        };
        moved = λ slot inside. source_small (order_of full slots) (slots / 2) 64 slot (omega arith)
            (λ i below. let within = in_within full slots few (slots / 2 + i) (omega arith) in omega arith) inside;
        words = words_fit plan words.fits anchor small;
        keep = bits_below 64 (omega arith) (take (slots / 2) (order_of full slots)) (all_from (λ slot. slot < 64) (take (slots / 2) (order_of full slots)) (λ i inside.
            let size = in_size full slots few in
            let length_is = length-take-le (slots / 2) (order_of full slots) (omega arith) in
            let here = get_or-take (slots / 2) (order_of full slots) i 0 (omega arith) in
            let within = in_within full slots few i (omega arith) in
            omega arith));
      }

  pub plan_of_is : IsPlanOf split.view split.node split.word plan
  plan_of_is = record {
    layout = refl;
    node_is = refl;
    locked = refl;
    caller = is.line.0;
    half = record { moved = refl; anchor = refl; keep = refl };
    words = words;
  }

-- what a claim gives
abbrev Gives : Layout → Turn Claim Claimed → Type 0
Gives l (Go claim) = Unit {0}
Gives l (Done (was.Node n word)) = (n < l.nodes) × (n ≢ 0) × IsLockWord word
Gives l (Done was.NoFree) = Unit {0}
Gives l (Done (was.Again why)) = IsRefusal why

claim_gives : (claim : Claim) (x : ℕ) → IsClaim claim → Gives claim.layout (claim_turned claim x)
claim_gives claim x sound = of claim.at sound.here
  where
    passing : Gives claim.layout (passes claim)
    passing = elim (ltb (claim.node + 1) claim.layout.nodes) as (λ b. Gives claim.layout (cond b (Go (record claim { node = claim.node + 1; at = claim_at.Version })) (Done was.NoFree))) [
      | true ↦ tt
      | false ↦ tt
    ]

    of : (k : ClaimAt) → IsClaimAt claim.generation claim.node k → Gives claim.layout (claim_at_turned claim k x)
    of claim_at.Nowhere here = tt
    of claim_at.Version here = tt
    of (claim_at.Status version) here =
        elim (x == free_status) as (λ b. Gives claim.layout (cond b (saw_free claim version) (passes claim))) [
          | true ↦ elim (is_free_word version claim.generation) as (λ b. Gives claim.layout (cond b (cond (is_worn_word version claim.generation) (passes claim) (goes_to claim (claim_at.Lock version (lock_of version claim.generation)))) (Done (was.Again (Locked claim.node version))))) [
            | true ↦ elim (is_worn_word version claim.generation) as (λ b. Gives claim.layout (cond b (passes claim) (goes_to claim (claim_at.Lock version (lock_of version claim.generation))))) [
              | true ↦ passing
              | false ↦ tt
            ]
            | false ↦ tt
          ]
          | false ↦ passing
        ]
    of (claim_at.Lock version locked) here =
        let own = own_lock version locked claim.generation here.1.known here.1.unworn here.1.lock in
        let fits = lock_fits locked claim.generation own sound.generation in
        elim (x == version) as (λ b. Gives claim.layout (cond b (Done (was.Node claim.node locked)) (Done (was.Again (Moved claim.node version x))))) [
          | true ↦ (sound.node, here.0, record { locked = own.locked; unworn = own.unworn; fits = omega arith })
          | false ↦ tt
        ]

claim_is : (l : Layout) (g : ℕ) → IsLayout l → g < GENERATION_LIMIT → IsClaim (claim_from l g)
claim_is l g layout small =
    let some : 1 ≤ l.nodes = layout.nodes.0 in
    elim (l.nodes == 1) as (λ b. (l.nodes == 1) ≡ b → IsClaim (cond b (record { layout = l; generation = g; node = 0; at = claim_at.Nowhere }) (record { layout = l; generation = g; node = 1; at = claim_at.Version }))) [
      | true ↦ λ _. record { layout = layout; generation = small; node = omega arith; here = tt }
      | false ↦ λ more. let other = eqb-false l.nodes 1 more in record { layout = layout; generation = small; node = omega arith; here = λ e. omega arith }
    ] refl

pub claim_of : (l : Layout) (g : ℕ) → ((claim_from l g).layout ≡ l) × ((claim_from l g).generation ≡ g)
claim_of l g =
    elim (l.nodes == 1) as (λ b. (let claim : Claim = cond b (record { layout = l; generation = g; node = 0; at = claim_at.Nowhere }) (record { layout = l; generation = g; node = 1; at = claim_at.Version }) in
    (claim.layout ≡ l) × (claim.generation ≡ g))) [
      | true ↦ (refl, refl)
      | false ↦ (refl, refl)
    ]

module _ (split : Split) (sound : IsSplit split) where
  on : (at : SplitAt) → IsSplitAt split.view split.node split.word at → SplitStays split (splits_on split at)
  on at here = (record { view = sound.view; node = sound.node; lock = sound.lock; here = here }, record { view = refl; node = refl; word = refl })

  at_take : (next : ℕ) (take : Take) (x : ℕ) → next < split.view.layout.nodes → IsTake take → take.layout ≡ split.view.layout → take.caller ≡ split.view.caller → x < 2 ^ 64
      → SplitStays split (taken split next (take_turned take x))
  at_take next take x within is layout caller fits = of (take_turned take x) (takes_are_notes take x is fits)
    where
      of : (turn : Turn Take Taken) → TakeNotes take.layout take.caller (take_held take) (take_asks take) x turn → SplitStays split (taken split next turn)
      of (Go take') note = on (at.Take next take') (within, note.1, note.2 ∙ layout, note.3 ∙ caller)
      of (Done (got.Line line)) note =
          let made = claim_of split.view.layout split.view.generation in
          on (at.Claim next line (claim_from split.view.layout split.view.generation))
          (within, (note.1 ∙ caller, subst (λ (l : Layout). line < 8 * l.callers) layout note.2), claim_is split.view.layout split.view.generation sound.view.layout sound.view.generation, made.0, made.1)
      of (Done got.Full) note = on (at.Refuse next again.LogFull) (inl tt)

  at_claim : (next line : ℕ) (claim : Claim) (x : ℕ) → next < split.view.layout.nodes → IsOwnLine split.view line → IsClaim claim → claim.layout ≡ split.view.layout
      → claim.generation ≡ split.view.generation → Told claim.layout claim.generation (claim_asks claim) x → SplitStays split (claimed split next line (claim_turned claim x))
  at_claim next line claim x within own is layout generation told = of (claim_turned claim x) (claims_stay claim x is told) (claim_gives claim x is)
    where
      wide : next < 2 ^ 64
      wide = let most : split.view.layout.nodes ≤ 4096 = sound.view.layout.nodes.1 in omega arith

      of : (turn : Turn Claim Claimed) → StaysClaim claim.layout claim.generation turn → Gives claim.layout turn → SplitStays split (claimed split next line turn)
      of (Go claim') stays gives = on (at.Claim next line claim') (within, own, stays.0, stays.1 ∙ layout, stays.2 ∙ generation)
      of (Done (was.Node n word)) stays gives =
          on (at.Read (record { line = line; fresh = n; locked = word }) (full_from next) 0) (
            record { line = own; fresh = subst (λ (l : Layout). n < l.nodes) layout gives.0; positive = gives.1; lock = gives.2 },
            first_words next wide,
            subst (λ n. n < split.view.layout.nodes) (sym (first_next next)) within,
            omega arith,
          )
      of (Done was.NoFree) stays gives = on (at.Refuse next again.NoFree) (inr refl)
      of (Done (was.Again why)) stays gives = on (at.Refuse next why) (inl gives)

  at_read : (share : Share) (full : List ℕ) (count x : ℕ) → IsShare split.view share → AreWords full → slice_index full 2 < split.view.layout.nodes → count < word_count split.view → x < 2 ^ 64
      → SplitStays split (has_read split share full count x)
  at_read share full count x is words next more fits =
      let most : split.view.layout.slots ≤ 64 = sound.view.layout.slots.1 in
      let has = read_words full (8 + count) x words (omega arith) fits in
      let leads = subst (λ n. n < split.view.layout.nodes) (sym (get_or-set_other full (8 + count) next_offset x 0 (λ e. omega arith))) next in
      elim (ltb (count + 1) (word_count split.view)) as (λ b. ltb (count + 1) (word_count split.view) ≡ b → SplitStays split
      (cond b (splits_on split (at.Read share (slice_set full (8 + count) x) (count + 1))) (splits_on split (at.Move (move_from (plan_of split share (slice_set full (8 + count) x))))))) [
        | true ↦ λ another. on (at.Read share (slice_set full (8 + count) x) (count + 1)) (is, has, leads, ltb-true (count + 1) (word_count split.view) another)
        | false ↦ λ last. on (at.Move (move_from (plan_of split share (slice_set full (8 + count) x)))) (
          record { plan = plan_is split sound share is (slice_set full (8 + count) x) has leads; here = (let low : 4 ≤ split.view.layout.slots = sound.view.layout.slots.0 in omega arith) },
          plan_of_is split sound share is (slice_set full (8 + count) x) has leads,
        )
      ] refl

  at_move : (moving : Move) (x : ℕ) → IsMove moving → IsPlanOf split.view split.node split.word moving.plan → x < 2 ^ 64 → SplitStays split (moved split moving.plan.share.fresh (move_turned moving x))
  at_move moving x is of_split fits = of (move_turned moving x) (move_goes_on moving x is fits)
    where
      of : (turn : Turn Move (Unit {0})) → StaysSo (λ next. IsMove next × (next.plan ≡ moving.plan)) turn → SplitStays split (moved split moving.plan.share.fresh turn)
      of (Go moving') stays = on (at.Move moving') (stays.0, subst (IsPlanOf split.view split.node split.word) (sym stays.1) of_split)
      of (Done answer) stays = tt

  stays : (k : SplitAt) (x : ℕ) → IsSplitAt split.view split.node split.word k → Told split.view.layout split.view.generation (split_at_asks split k) x → LeadsIn split k x → SplitStays split (split_at_turned split k x)
  stays at.Next x here told leads =
      on (at.Take x (take_from split.view.layout split.view.caller)) (leads, record { layout = sound.view.layout; caller = sound.view.caller; index = omega arith; here = tt }, refl, refl)
  stays (at.Take next take) x here told leads = at_take next take x here.0 here.1 here.2 here.3 told.fits
  stays (at.Claim next line claim) x here told leads = at_claim next line claim x here.0 here.1 here.2 here.3 here.4
      (subst (λ (p : Layout × ℕ). Told p.0 p.1 (claim_asks claim) x) (λ i. (sym here.3 i, sym here.4 i)) told)
  stays (at.Read share full count) x here told leads = at_read share full count x here.0 here.1 here.2 here.3 told.fits
  stays (at.Move moving) x here told leads = at_move moving x here.0 here.1 told.fits
  stays (at.Refuse next why) x here told leads = tt

pub splits_stay : SplitsStay
splits_stay split x takes = stays split takes.0 split.at x takes.0.here takes.1 takes.2
