-- Each turn of a split is a step.
use Rattle.std.proofs.Common.{◌≡◌, ◌≢◌, ℕ, suc, ◌+◌, ◌*◌, ◌^◌, ◌<◌, ◌≤◌, ◌==◌, ◌⊎◌, Bool, true, false, cond, ltb, List, [], ◌∷◌, Option, Some, None, inl, inr, refl, sym, subst, ap, ◌∙◌, arith}
use Rattle.std.specs.Prelude.{IfSome, slice_set}
use Rattle.std.proofs.lemmas.Bool.{ltb-false}
use Rattle.std.proofs.lemmas.List.{get_or-set_same, get_or-set_other}
use Rattle.pm_words.specs.declared.layout.Layout.{Layout}
use Rattle.pm_words.specs.declared.action.Action.{Action}
use Rattle.pm_words.specs.declared.again.Again.{Again}
use Rattle.pm_words.specs.declared.again.Again.TheVariants as again
use Rattle.pm_words.specs.declared.machine.Turn.{Turn}
use Rattle.pm_words.specs.declared.machine.Turn.TheVariants.{Go, Done}
use Rattle.pm_words.specs.Offsets.{next_offset}
use Rattle.version_lock.specs.Versions.{is_free_word, is_worn_word}
use Rattle.data_node.specs.Slots.{AreAllLive}
use Rattle.data_node.specs.Spots.{Spot}
use Rattle.call_stages.specs.declared.once.Once.{Once}
use Rattle.call_stages.specs.declared.once.Once.TheVariants as once
use Rattle.call_stages.specs.declared.once.Placed.{Placed}
use Rattle.call_stages.specs.Stages.{Tells, Held, Grip, Filling, Linked, Parted, Stage, Idle, Saw, Wears, Reads, Holds, Eyes, Splits, Leaves, Meets, Joins, full_grip, fresh_grip, counted}
use Rattle.call_stages.specs.Kinds.{IsRefusal, HasWordAt, Told, LeadsWithin, Look, learns, Answers, refuses, has_no_room, Step, looks, unlocks, splits, glances_left}
use Rattle.call_stages.specs.Lines.{HeldLine, Notes}
use Rattle.call_stages.specs.Prevs.{no_debt, Deals, keeps}
use Rattle.pm_alloc.specs.declared.claim.Claim.{Claim}
use Rattle.pm_alloc.specs.declared.claim.ClaimAt.{ClaimAt}
use Rattle.pm_alloc.specs.declared.claim.ClaimAt.TheVariants as claim_at
use Rattle.pm_alloc.specs.declared.claim.Claimed.{Claimed}
use Rattle.pm_alloc.specs.declared.claim.Claimed.TheVariants as was
use Rattle.pm_alloc.specs.Claims.{IsClaim, claim_from, claim_asks, claim_turned, lock_of}
use Rattle.pm_alloc.specs.ClaimStages.{claim_stage, claim_at_stage}
use Rattle.pm_alloc.specs.Laws.{MayClaim, Claims}
use Rattle.pm_alloc.proofs.ClaimLaw.{claims_are_steps}
use Rattle.smo_log.specs.declared.take.Take.{Take}
use Rattle.smo_log.specs.declared.take.Taken.{Taken}
use Rattle.smo_log.specs.declared.take.Taken.TheVariants as got
use Rattle.smo_log.specs.declared.take.TakeAt.{TakeAt}
use Rattle.smo_log.specs.declared.take.TakeAt.TheVariants as take_at
use Rattle.smo_log.specs.LogLines.{caller_of, index_of, empty_line}
use Rattle.smo_log.specs.Takes.{IsTake, take_line, take_asks, take_turned, take_at_held, take_held, TakeNotes}
use Rattle.smo_log.proofs.LineLaw.{takes_are_notes, index_within}
use Rattle.split_merge.specs.declared.planning.Plan.{Plan}
use Rattle.split_merge.specs.declared.moving.Move.{Move}
use Rattle.split_merge.specs.declared.splitting.Share.{Share}
use Rattle.split_merge.specs.declared.splitting.Split.{Split}
use Rattle.split_merge.specs.declared.splitting.SplitAt.{SplitAt}
use Rattle.split_merge.specs.declared.splitting.SplitAt.TheVariants as at
use Rattle.split_merge.specs.declared.splitting.SplitDone.{SplitDone}
use Rattle.split_merge.specs.declared.splitting.SplitDone.TheVariants as answer
use Rattle.split_merge.specs.Plans.{spot_of}
use Rattle.split_merge.specs.Moves.{IsMove, move_asks, move_turned}
use Rattle.call_stages.specs.Footings.{Footing, Minds, Waits}
use Rattle.permutation.specs.Sparing.{IsLineOf, SparingStep, on_nodes, on_line}
use Rattle.split_merge.specs.MoveStages.{move_footing}
use Rattle.split_merge.specs.Splits.{word_count, plan_of, move_from, splits_on, taken, claimed, has_read, moved, split_at_turned, split_turned, split_at_asks, split_asks, AreWords, IsPlanOf, IsSplitAt, IsSplit, LeadsIn}
use Rattle.split_merge.specs.SplitStages.{bitmap_in, led, read_seen, read_grip, known_by, split_at_footing, split_footing, done_footing}
use Rattle.split_merge.specs.Laws.{Moves}
use Rattle.split_merge.specs.SplitLaws.{PlansCut, MayBegin, SplitsSo, SplitStays, SplitsAreSteps}
use Rattle.split_merge.proofs.CutLaw.{told_at, told_past, tells_row, full_told, plan_cuts}
use Rattle.split_merge.proofs.LineSteps.{no_ready}
use Rattle.split_merge.proofs.MoveLaw.{moves_are_steps}
use Rattle.split_merge.proofs.SplitStaying.{first_next, plan_is, plan_of_is, splits_stay}

-- a stage from which no list is switched
near : Stage → Bool
near (Splits left fresh (Filling true)) = true
near (Joins held left right pace) = true
near _ = false

-- nor does the step ask anything of the line
minds_far : (s t : Stage) (line : Option HeldLine) → near s ≡ false → Minds s t line
unfolding near
minds_far Idle t line far = tt
minds_far (Saw n v w k) t line far = tt
minds_far (Wears n v) t line far = tt
minds_far (Reads n v sight told) t line far = tt
minds_far (Holds n w h) t line far = tt
minds_far (Eyes n w h m v u free) t line far = tt
minds_far (Splits left fresh (Filling true)) t line far = absurd (let no : true ≡ false = far in cc)
minds_far (Splits left fresh (Filling false)) t line far = tt
minds_far (Splits left fresh Linked) t line far = tt
minds_far (Splits left fresh Parted) t line far = tt
minds_far (Leaves left) t line far = tt
minds_far (Meets n w h right) t line far = tt
minds_far (Joins h left right pace) t line far = absurd (let no : true ≡ false = far in cc)

-- no line that is taken is READY
pub take_waits : (stage : Stage) (line : ℕ) (at : TakeAt) (after : Option HeldLine) → IfSome after (λ e. e.ready ≡ false) → Waits stage (take_at_held line at) after
take_waits stage line take_at.State after unready = tt
take_waits stage line (take_at.Fence fence) None unready = tt
take_waits stage line (take_at.Fence fence) (Some e) unready = λ was ready. absurd (no_ready unready ready)

pub take_unready : (line : ℕ) (at : TakeAt) → IfSome (take_at_held line at) (λ e. e.ready ≡ false)
take_unready line take_at.State = tt
take_unready line (take_at.Fence fence) = refl

deals_far : (s t : Stage) → near s ≡ false → Deals s t no_debt no_debt
unfolding near
deals_far s t far =
    keeps (λ q. clash (ap near q.was)) (λ q. clash (ap near q.was)) (λ q. absurd (clash (ap near q.was))) tt tt
  where
    clash : near s ≡ true → ⊥
    clash is = let no : true ≡ false = sym is ∙ far in cc

claim_far : (g n w : ℕ) (h : Held) (m : ℕ) (k : ClaimAt) → near (claim_at_stage g n w h m k) ≡ false
unfolding near
claim_far g n w h m claim_at.Nowhere = refl
claim_far g n w h m claim_at.Version = refl
claim_far g n w h m (claim_at.Status version) =
    elim (is_free_word version g) as (λ b. near (cond b (cond (is_worn_word version g) (Holds n w h) (Eyes n w h m version (lock_of version g) false)) (Holds n w h)) ≡ false) [
      | true ↦ elim (is_worn_word version g) as (λ b. near (cond b (Holds n w h) (Eyes n w h m version (lock_of version g) false)) ≡ false) [
        | true ↦ refl
        | false ↦ refl
      ]
      | false ↦ refl
    ]
claim_far g n w h m (claim_at.Lock version locked) = refl

holds_far : (n w : ℕ) (h : Held) → near (Holds n w h) ≡ false
unfolding near
holds_far n w h = refl

splits_far : (left fresh : Grip) → near (Splits left fresh (Filling false)) ≡ false
unfolding near
splits_far left fresh = refl

-- a claim begins with what its party had
claim_starts : (l : Layout) (g n w : ℕ) (h : Held) → claim_stage n w h (claim_from l g) ≡ Holds n w h
claim_starts l g n w h =
    elim (l.nodes == 1) as (λ b. claim_stage n w h (cond b (record { layout = l; generation = g; node = 0; at = claim_at.Nowhere }) (record { layout = l; generation = g; node = 1; at = claim_at.Version })) ≡ Holds n w h) [
      | true ↦ refl
      | false ↦ refl
    ]

-- the line that a look has is its caller's
take_caller : (take : Take) → IsTake take → IfSome (take_held take) (λ e. e.caller ≡ take.caller)
take_caller take is = of take.at
  where
    own : caller_of (take_line take) ≡ take.caller
    own = let index : take.index < 8 = is.index in omega arith

    of : (k : TakeAt) → IfSome (take_at_held (take_line take) k) (λ e. e.caller ≡ take.caller)
    of take_at.State = tt
    of (take_at.Fence fence) = own

-- and one of the layout's
take_here : (take : Take) → IsTake take → IfSome (take_held take) (λ e. (e.caller < take.layout.callers) × (e.number < 8))
take_here take is = of take.at
  where
    here : (caller_of (take_line take) < take.layout.callers) × (index_of (take_line take) < 8)
    here = let index : take.index < 8 = is.index in let low = is.caller in (omega arith, index_within (take_line take))

    of : (k : TakeAt) → IfSome (take_at_held (take_line take) k) (λ e. (e.caller < take.layout.callers) × (e.number < 8))
    of take_at.State = tt
    of (take_at.Fence fence) = here

module _ (split : Split) (sound : IsSplit split) (h : Held) (may : MayBegin split.view.layout.slots h) where
  abbrev l : Layout
  l = split.view.layout

  abbrev g : ℕ
  g = split.view.generation

  abbrev c : ℕ
  c = split.view.caller

  abbrev n : ℕ
  n = split.node

  abbrev w : ℕ
  w = split.word

  abbrev footing : SplitAt → Footing
  footing = split_at_footing h split

  abbrev Steps : Footing → Action → ℕ → Footing → Option (Once Placed) → Type 0
  Steps = SparingStep l g c

  abbrev Leads : Footing → Action → ℕ → Turn Split SplitDone → Type 0
  Leads before action x (Go next) = Steps before action x (split_footing h next) None
  Leads before action x (Done (answer.Done fresh)) = Steps before action x done_footing (Some (once.Again (again.NeedsSplit n)))
  Leads before action x (Done (answer.Again why)) = Steps before action x done_footing (Some (once.Again why))

  has_word : (offset : ℕ) → offset < 16 + 4 * l.slots → HasWordAt l n offset
  has_word offset within = (sound.node, within)

  may_led : (next : ℕ) → MayClaim (led next h)
  may_led next = record {
    still = record { pending = may.claim.still.pending; ready = may.claim.still.ready };
    durable = may.claim.durable;
    split = record { unplaced = may.claim.split.unplaced; lacked = may.claim.split.lacked };
  }

  at_next : (x : ℕ) → Leads (footing at.Next) (split_at_asks split at.Next) x (split_at_turned split at.Next x)
  at_next x =
      on_nodes tt (inl refl)
      (looks (learns (has_word next_offset (omega arith)) (omega arith) may.claim.still.ready (λ s tidy knows is. record { seen = (is, knows.seen); left = knows.left })))
      (deals_far (Holds n w h) (Holds n w (led x h)) (holds_far n w h))

  at_take : (next : ℕ) (take : Take) (x : ℕ) → IsTake take → take.layout ≡ l → take.caller ≡ c → x < 2 ^ 64
      → Leads (footing (at.Take next take)) (take_asks take) x (taken split next (take_turned take x))
  at_take next take x is layout caller fits = of (take_turned take x) (takes_are_notes take x is fits)
    where
      noted : (after : Option HeldLine) → Notes take.layout (take_held take) (take_asks take) x after → Notes l (take_held take) (take_asks take) x after
      noted after note = subst (λ k. Notes k (take_held take) (take_asks take) x after) layout note

      -- it has nothing to count
      uncounted : counted (Holds n w (led next h)) ≡ None
      uncounted = subst (λ b. elim b [ true ↦ h.pending | false ↦ None ] ≡ None) (sym may.claim.still.ready) refl

      own : IsLineOf l (take_held take)
      own = subst (λ (k : Layout). IsLineOf k (take_held take)) layout (take_here take is)

      waits : (after : Option HeldLine) → IfSome after (λ e. e.ready ≡ false) → Waits (Holds n w (led next h)) (take_held take) after
      waits after unready = take_waits (Holds n w (led next h)) (take_line take) take.at after unready

      of : (turn : Turn Take Taken) → TakeNotes take.layout take.caller (take_held take) (take_asks take) x turn
          → Leads (footing (at.Take next take)) (take_asks take) x (taken split next turn)
      of (Go take') note = on_line (waits (take_held take') (take_unready (take_line take') take'.at)) uncounted own (noted (take_held take') note.0)
          (subst (λ k. IfSome (take_held take') (λ e. e.caller ≡ k)) (note.3 ∙ caller) (take_caller take' note.1))
      of (Done (got.Line line)) note =
          subst (λ stage. Steps (footing (at.Take next take)) (take_asks take) x (record { stage = stage; line = Some (empty_line line); debt = no_debt }) None) (sym (claim_starts l g n w (led next h)))
          (on_line (waits (Some (empty_line line)) refl) uncounted own (noted (Some (empty_line line)) note.0) (note.1 ∙ caller))
      of (Done got.Full) note = on_line (waits None tt) uncounted own (noted None note) tt

  at_claim : (next line : ℕ) (claim : Claim) (x : ℕ) → IsClaim claim → claim.layout ≡ l → claim.generation ≡ g → Told claim.layout claim.generation (claim_asks claim) x
      → Leads (footing (at.Claim next line claim)) (claim_asks claim) x (claimed split next line (claim_turned claim x))
  at_claim next line claim x is layout generation told = of (claim_turned claim x) (claims_are_steps claim n w (led next h) x is (may_led next) told)
    where
      before : Stage
      before = claim_stage n w (led next h) claim

      far : near (claim_stage n w (led next h) claim) ≡ false
      far = claim_far claim.generation n w (led next h) claim.node claim.at

      minds : (after : Stage) → Minds (claim_stage n w (led next h) claim) after (Some (empty_line line))
      minds after = minds_far (claim_stage n w (led next h) claim) after (Some (empty_line line)) far

      looked : (after : Stage) → Look claim.layout claim.generation (claim_stage n w (led next h) claim) (claim_asks claim) x after None → Look l g (claim_stage n w (led next h) claim) (claim_asks claim) x after None
      looked after look = subst (λ (p : Layout × ℕ). Look p.0 p.1 (claim_stage n w (led next h) claim) (claim_asks claim) x after None) (λ i. (layout i, generation i)) look

      back : Look claim.layout claim.generation (claim_stage n w (led next h) claim) (claim_asks claim) x (Holds n w (led next h)) None
          → (why : Again) → Leads (footing (at.Claim next line claim)) (claim_asks claim) x (splits_on split (at.Refuse next why))
      back look why = on_nodes (minds (Holds n w (led next h))) (inr (refl, inl (λ s told. told.0))) (looks (looked (Holds n w (led next h)) look)) (deals_far (claim_stage n w (led next h) claim) (Holds n w (led next h)) far)

      of : (turn : Turn Claim Claimed) → Claims claim.layout claim.generation n w (led next h) (claim_stage n w (led next h) claim) (claim_asks claim) x turn
          → Leads (footing (at.Claim next line claim)) (claim_asks claim) x (claimed split next line turn)
      of (Go claim') step =
          on_nodes (minds (claim_stage n w (led next h) claim')) (inl refl) (looks (looked (claim_stage n w (led next h) claim') step.0)) (deals_far (claim_stage n w (led next h) claim) (claim_stage n w (led next h) claim') far)
      of (Done (was.Node m word)) step =
          subst (λ v. Steps (footing (at.Claim next line claim)) (claim_asks claim) x (record {
            stage = Splits (record { name = h.name; old = h.old; node = n; lock = w; seen = (next_offset, v) ∷ h.known.seen; dirty = []; hand = None; copied = [] }) (fresh_grip m word) (Filling false);
            line = Some (empty_line line);
            debt = no_debt;
          }) None) (sym (first_next next))
          (on_nodes (minds (Splits (full_grip n w (led next h)) (fresh_grip m word) (Filling false))) (inl refl) (subst (λ (p : Layout × ℕ). Step p.0 p.1 (claim_stage n w (led next h) claim) (claim_asks claim) x (Splits (full_grip n w (led next h)) (fresh_grip m word) (Filling false)) None)
          (λ i. (layout i, generation i)) step.0) (deals_far (claim_stage n w (led next h) claim) (Splits (full_grip n w (led next h)) (fresh_grip m word) (Filling false)) far))
      of (Done was.NoFree) step = back step again.NoFree
      of (Done (was.Again why)) step = back step.0 why

  -- the full node with one word more, and in hand that word as this one
  abbrev with_word : List ℕ → ℕ → ℕ → ℕ → Grip
  with_word full count x v = record (read_grip split h (slice_set full (8 + count) x) (suc count)) { hand = Some (8 + count, v) }

  at_read : (share : Share) (full : List ℕ) (count x : ℕ) → AreWords full → count < word_count split.view
      → Leads (footing (at.Read share full count)) (split_at_asks split (at.Read share full count)) x (has_read split share full count x)
  at_read share full count x words more =
      elim (ltb (count + 1) (word_count split.view)) as (λ b. ltb (count + 1) (word_count split.view) ≡ b → Leads (footing (at.Read share full count)) (split_at_asks split (at.Read share full count)) x
      (cond b (splits_on split (at.Read share after (count + 1))) (splits_on split (at.Move (move_from (plan_of split share after)))))) [
        | true ↦ λ another. subst (λ k. Steps (footing (at.Read share full count)) (split_at_asks split (at.Read share full count)) x (footing (at.Read share after k)) None) (sym next) step
        | false ↦ λ last.
            let end : suc count ≡ 8 + 4 * l.slots = (let high = ltb-false (count + 1) (word_count split.view) last in omega arith) in
            subst (λ k. Steps (footing (at.Read share full count)) (split_at_asks split (at.Read share full count)) x (footing (at.Read share after k)) None) end step
      ] refl
    where
      most : l.slots ≤ 64
      most = sound.view.layout.slots.1

      after : List ℕ
      after = slice_set full (8 + count) x

      next : count + 1 ≡ suc count
      next = omega arith

      value : spot_of (slice_set full (8 + count) x) (8 + count) ≡ x
      value = let size = words.size in let m = most in get_or-set_same full (8 + count) x 0 (omega arith)

      others : (offset : ℕ) → offset ≢ 8 + count → spot_of (slice_set full (8 + count) x) offset ≡ spot_of full offset
      others offset apart = get_or-set_other full (8 + count) offset x 0 apart

      tells : (s : Spot) → Tells (read_seen full count h) s → (0 < 8 + count → s (8 + count) ≡ x) → Tells (read_seen (slice_set full (8 + count) x) (suc count) h) s
      tells s told is =
          let rest = told_past (spot_of full) 8 count ((next_offset, spot_of full next_offset) ∷ h.known.seen) s told in (
            is (omega arith) ∙ sym value,
            tells_row (spot_of (slice_set full (8 + count) x)) 8 count ((next_offset, spot_of (slice_set full (8 + count) x) next_offset) ∷ h.known.seen) s
                (λ k within. told_at (spot_of full) 8 count ((next_offset, spot_of full next_offset) ∷ h.known.seen) s told k within ∙ sym (others (8 + k) (λ e. omega arith)))
                (rest.0 ∙ sym (others next_offset (λ e. omega arith)), rest.1),
          )

      step : Steps (footing (at.Read share full count)) (split_at_asks split (at.Read share full count)) x (footing (at.Read share (slice_set full (8 + count) x) (suc count))) None
      step =
          subst (λ v. Steps (footing (at.Read share full count)) (split_at_asks split (at.Read share full count)) x (record {
            stage = Splits (with_word full count x v) (fresh_grip share.fresh share.locked) (Filling false);
            line = Some (empty_line share.line);
            debt = no_debt;
          }) None) (sym value)
          (on_nodes tt (inl refl) (splits (glances_left (has_word (8 + count) (omega arith)) tells))
          (deals_far (Splits (read_grip split h full count) (fresh_grip share.fresh share.locked) (Filling false))
          (Splits (with_word full count x x) (fresh_grip share.fresh share.locked) (Filling false))
          (splits_far (read_grip split h full count) (fresh_grip share.fresh share.locked))))

  at_move : (moving : Move) (x : ℕ) → IsMove moving → IsPlanOf split.view n w moving.plan → x < 2 ^ 64
      → Leads (footing (at.Move moving)) (move_asks moving) x (moved split moving.plan.share.fresh (move_turned moving x))
  at_move moving x is made fits =
      of (move_turned moving x) (moves_are_steps moving g (known_by h moving.plan) x is
      (plan_cuts moving.plan is.plan made.half made.words h (subst (λ (k : Layout). AreAllLive (bitmap_in h.known.seen) k.slots) (sym made.layout) may.full)) fits)
    where
      of : (turn : Turn Move (Unit {0})) → Moves g moving.plan (known_by h moving.plan) (move_footing (known_by h moving.plan) moving) (move_asks moving) x turn
          → Leads (footing (at.Move moving)) (move_asks moving) x (moved split moving.plan.share.fresh turn)
      of (Go moving') step =
          subst (λ (p : Plan). Steps (footing (at.Move moving)) (move_asks moving) x (move_footing (known_by h p) moving') None) (sym step.2)
          (subst (λ (p : Layout × ℕ). SparingStep p.0 g p.1 (footing (at.Move moving)) (move_asks moving) x (move_footing (known_by h moving.plan) moving') None) (λ i. (made.layout i, made.caller i)) step.0)
      of (Done answer) step =
          subst (λ (p : Layout × (ℕ × ℕ)). SparingStep p.0 g p.1.0 (footing (at.Move moving)) (move_asks moving) x done_footing (Some (once.Again (again.NeedsSplit p.1.1))))
          (λ i. (made.layout i, (made.caller i, made.node_is i))) step

  at_refuse : (next : ℕ) (why : Again) (x : ℕ) → IsRefusal why ⊎ (why ≡ again.NoFree)
      → Leads (footing (at.Refuse next why)) (split_at_asks split (at.Refuse next why)) x (Done (answer.Again why))
  at_refuse next why x here =
      on_nodes tt (inl refl) (unlocks refl may.claim.still.pending may.claim.durable may.claim.still.ready (answers here)) (deals_far (Holds n w (led next h)) Idle (holds_far n w (led next h)))
    where
      answers : IsRefusal why ⊎ (why ≡ again.NoFree) → Answers l (led next h) (once.Again why)
      answers (inl refusal) = refuses may.claim.split.unplaced refusal
      answers (inr none) = subst (λ k. Answers l (led next h) (once.Again k)) (sym none)
          (has_no_room may.claim.split.unplaced may.timed may.claim.split.lacked
          (λ s tidy knows. (full_told h.known.seen l.slots (let low : 4 ≤ l.slots = sound.view.layout.slots.0 in omega arith) may.full s knows.seen.1).1))

  leads : (k : SplitAt) (x : ℕ) → IsSplitAt split.view n w k → Told l g (split_at_asks split k) x → Leads (footing k) (split_at_asks split k) x (split_at_turned split k x)
  leads at.Next x here told = at_next x
  leads (at.Take next take) x here told = at_take next take x here.1 here.2 here.3 told.fits
  leads (at.Claim next line claim) x here told = at_claim next line claim x here.2 here.3 here.4 (subst (λ (p : Layout × ℕ). Told p.0 p.1 (claim_asks claim) x) (λ i. (sym here.3 i, sym here.4 i)) told)
  leads (at.Read share full count) x here told = at_read share full count x here.1 here.3
  leads (at.Move moving) x here told = at_move moving x here.0 here.1 told.fits
  leads (at.Refuse next why) x here told = at_refuse next why x here

  leads_in : (k : SplitAt) (x : ℕ) → LeadsWithin l (footing k).stage (split_at_asks split k) x → LeadsIn split k x
  leads_in at.Next x within = within.held n w h sound.node refl refl
  leads_in (at.Take next take) x within = tt
  leads_in (at.Claim next line claim) x within = tt
  leads_in (at.Read share full count) x within = tt
  leads_in (at.Move moving) x within = tt
  leads_in (at.Refuse next why) x within = tt

  both : (x : ℕ) (turn : Turn Split SplitDone) → Leads (split_footing h split) (split_asks split) x turn → SplitStays split turn → SplitsSo split h x turn
  both x (Go next) step stays = (step, stays.0, stays.1)
  both x (Done (answer.Done fresh)) step stays = step
  both x (Done (answer.Again why)) step stays = step

pub splits_are_steps : SplitsAreSteps
splits_are_steps split h x sound may told within =
    both split sound h may x (split_turned split x) (leads split sound h may split.at x sound.here told) (splits_stay split x (sound, told, leads_in split sound h may split.at x within))

pub plans_cut : PlansCut
plans_cut split share full h sound is words next all =
    let plan = plan_is split sound share is full words next in
    (plan, plan_cuts (plan_of split share full) plan (plan_of_is split sound share is full words next).half words h all)
