-- A split that nobody disturbs takes an EMPTY line, and claims a FREE node if there is one.
use Rattle.std.proofs.Common.{◌≡◌, ◌≢◌, ℕ, ◌+◌, ◌/◌, ◌%◌, ◌<◌, ◌≤◌, ◌⊎◌, inl, inr, ⊎_elim, true, false, cond, ltb, List, set, refl, sym, subst, ap, ◌∙◌, arith}
use Rattle.std.proofs.lemmas.Bool.{cases_eq, eq-eqb, ne_eqb}
use Rattle.std.proofs.lemmas.List.{set-get_or}
use Rattle.pm_words.specs.Codes.{free_status}
use Rattle.pm_words.specs.declared.layout.Layout.{Layout}
use Rattle.pm_words.specs.declared.action.Action.{Action}
use Rattle.pm_words.specs.declared.action.Action.TheVariants.{Load, Drain}
use Rattle.pm_words.specs.declared.again.Again.TheVariants as again
use Rattle.pm_words.specs.declared.machine.Turn.{Turn}
use Rattle.pm_words.specs.declared.machine.Turn.TheVariants.{Go, Done}
use Rattle.pm_words.specs.declared.fence.FenceAt.{FenceAt}
use Rattle.pm_words.specs.declared.fence.FenceAt.TheVariants as fence_at
use Rattle.pm_words.specs.Fences.{fence_at_asks}
use Rattle.pm_words.specs.Locations.{Node, Line, Location, Volatile, Cached, Durable, address_of}
use Rattle.pm_words.specs.Locations as location
use Rattle.pm_words.specs.Rows.{acted, got}
use Rattle.pm_words.proofs.Apart.{at-set_other}
use Rattle.pm_words.proofs.Kept.{action_address-drain}
use Rattle.version_lock.specs.Versions.{IsFree, IsWorn, is_worn_word}
use Rattle.version_lock.proofs.WordTests.{worn_word, fresh_word}
use Rattle.call_stages.specs.Kinds.{version_address, status_address, word_address, Told}
use Rattle.pm_alloc.specs.declared.claim.Claim.{Claim}
use Rattle.pm_alloc.specs.declared.claim.ClaimAt.{ClaimAt}
use Rattle.pm_alloc.specs.declared.claim.ClaimAt.TheVariants as claim_at
use Rattle.pm_alloc.specs.declared.claim.Claimed.{Claimed}
use Rattle.pm_alloc.specs.declared.claim.Claimed.TheVariants as claimed
use Rattle.pm_alloc.specs.Claims.{IsClaim, claim_asks, claim_at_asks, claim_turned}
use Rattle.pm_alloc.specs.Events.{Heard, heard_at, HasHeard, Heeds}
use Rattle.pm_alloc.proofs.ClaimLaw.{claims_heed, claims_begin}
use Rattle.smo_log.specs.declared.take.Take.{Take}
use Rattle.smo_log.specs.declared.take.TakeAt.{TakeAt}
use Rattle.smo_log.specs.declared.take.TakeAt.TheVariants as take_at
use Rattle.smo_log.specs.declared.take.Taken.{Taken}
use Rattle.smo_log.specs.declared.take.Taken.TheVariants as taken
use Rattle.smo_log.specs.LogLines.{numbered_address}
use Rattle.smo_log.specs.Takes.{IsTake, IsTakeAt, take_line, take_asks, take_at_asks, take_turned}
use Rattle.smo_log.specs.Laws.{TakeHeeds}
use Rattle.smo_log.proofs.LineLaw.{takes_heed}
use Rattle.split_merge.specs.declared.moving.Move.{Move}
use Rattle.split_merge.specs.declared.splitting.Split.{Split}
use Rattle.split_merge.specs.declared.splitting.SplitAt.{SplitAt}
use Rattle.split_merge.specs.declared.splitting.SplitAt.TheVariants as at
use Rattle.split_merge.specs.declared.splitting.SplitDone.{SplitDone}
use Rattle.split_merge.specs.Moves.{move_asks, move_turned}
use Rattle.split_merge.specs.Splits.{IsSplit, IsSplitAt, word_count, plan_of, move_from, splits_on, claimed as split_claimed, taken as split_taken, moved, split_at_asks, split_at_turned}
use Rattle.index_law.specs.Facts.{version_in, status_in}
use Rattle.index_law.specs.Lines.{line_in}
use Rattle.index_law.proofs.Rows.{version_in-here, status_in-here, version_in-alike, spot_in-alike, status_in-alike}
use Rattle.pm_words.specs.Offsets.{version_offset, next_offset, state_offset, status_offset}
use Rattle.index_law.proofs.Noting.{line-alike, line-here}
use Rattle.lone_call_law.specs.There.{IsUnmoved}
use Rattle.lone_call_law.proofs.There.{stored_unmoved}
use Rattle.lone_call_law.specs.Splitting.{HasLine, heard_in, SplitStands, SplitWent, IsReadyToSplit, HoldsAlone, SplitsComeThere}

-- a drain of a word of a line leaves all cached words
drained_unmoved : (l : Layout) (words0 words : List ℕ) (n c j offset y : ℕ) → c < l.callers → j < 8 → offset < 8 → IsUnmoved l words0 words n
    → IsUnmoved l words0 (acted l words (Drain (address_of l (Cached (Line c j offset))) y)) n
drained_unmoved l words0 words n c j offset y low index small unmoved =
    let stored : List ℕ = set words (address_of l (Durable (Line c j offset))) y in
    let is : acted l words (Drain (address_of l (Cached (Line c j offset))) y) ≡ stored = ap (λ q. set words q y) (action_address-drain l (Line c j offset) y) in
    subst (λ ws. IsUnmoved l words0 ws n) (sym is) (record {
      versions = λ m other. version_in-alike l words stored m (λ there. at-set_other l words (Durable (Line c j offset)) (Cached (Node m version_offset)) y (low, index, small) (there, omega arith) (λ e. cc)) ∙ unmoved.versions m other;
      statuses = λ m. status_in-alike l words stored m (λ there. at-set_other l words (Durable (Line c j offset)) (Volatile m status_offset) y (low, index, small) (there, omega arith) (λ e. cc)) ∙ unmoved.statuses m;
      nexts = λ m. spot_in-alike l words stored m next_offset (λ there _. at-set_other l words (Durable (Line c j offset)) (Cached (Node m next_offset)) y (low, index, small) there (λ e. cc)) ∙ unmoved.nexts m;
      lines = λ d k. line-alike l words stored d k state_offset (λ there. at-set_other l words (Durable (Line c j offset)) (Cached (Line d k state_offset)) y (low, index, small) there (λ e. cc)) ∙ unmoved.lines d k;
    })

loaded : (l : Layout) (words0 words : List ℕ) (n address : ℕ) → IsUnmoved l words0 words n → IsUnmoved l words0 (acted l words (Load address)) n
loaded l words0 words n address unmoved = subst (λ ws. IsUnmoved l words0 ws n) (sym (set-get_or words address 0)) unmoved

-- the look for a line
module _ (take : Take) (sound : IsTake take) (words0 words : List ℕ) (n : ℕ) (unmoved : IsUnmoved take.layout words0 words n) where
  abbrev l : Layout
  l = take.layout

  low : take.caller < l.callers
  low = sound.caller

  own_caller : take_line take / 8 ≡ take.caller
  own_caller = let index = sound.index in omega arith

  own_index : take_line take % 8 ≡ take.index
  own_index = let index = sound.index in omega arith

  pub take_unmoved : IsUnmoved l words0 (acted l words (take_asks take)) n
  take_unmoved = of take.at sound.here
    where
      of : (at : TakeAt) → IsTakeAt at → IsUnmoved l words0 (acted l words (take_at_asks l (take_line take) at)) n
      of take_at.State here = loaded l words0 words n (numbered_address l (take_line take) state_offset) unmoved
      of (take_at.Fence fence) here = fenced fence.at
        where
          fenced : (at : FenceAt) → IsUnmoved l words0 (acted l words (fence_at_asks (numbered_address l (take_line take) fence.word) at)) n
          fenced fence_at.Load = loaded l words0 words n (numbered_address l (take_line take) fence.word) unmoved
          fenced (fence_at.Drain value) =
              drained_unmoved l words0 words n (take_line take / 8) (take_line take % 8) fence.word value (let is = own_caller in omega arith) (let is = own_index in let small = sound.index in omega arith) here.word unmoved

  -- what it is told of a state
  pub take_told : (x : ℕ) → x ≡ got l words (take_asks take) → take.at ≡ take_at.State → x ≡ line_in l words0 take.caller take.index state_offset
  take_told x told is =
      told ∙ ap (λ (at : TakeAt). got l words (take_at_asks l (take_line take) at)) is
      ∙ (λ k. location.at l words (Cached (Line (own_caller k) (own_index k) state_offset)))
      ∙ sym (line-here l words take.caller take.index state_offset (low, sound.index, omega arith)) ∙ unmoved.lines take.caller take.index

worn_or_fresh : (v g : ℕ) → IsWorn v g ⊎ (IsWorn v g → ⊥)
worn_or_fresh v g = elim (is_worn_word v g) as (λ b. is_worn_word v g ≡ b → IsWorn v g ⊎ (IsWorn v g → ⊥)) [
  | true ↦ λ is. inl (worn_word v g is)
  | false ↦ λ is. inr (fresh_word v g is)
] refl

module _ (split : Split) (sound : IsSplit split) (words0 words : List ℕ) (ready : IsReadyToSplit split.view.layout split.view.generation words0 split.node) (x : ℕ) where
  open split.view use {layout, generation as g, caller}
  open split use {node as n, word as w}

  abbrev heard : Heard
  heard = heard_in layout words0 n w x

  abbrev Goes : List ℕ → Turn Split SplitDone → Type 0
  Goes now = SplitWent layout g words0 now n w caller

  -- a FREE node is another, whose word is as it was
  other_free : (m : ℕ) → status_in layout words0 m ≡ free_status → m ≢ n
  other_free m is same = let live = ap (status_in layout words0) same ∙ ready.live in let no : 0 ≡ 1 = sym is ∙ live in omega arith

  heard_else : (m : ℕ) → m ≢ n → heard.version m ≡ version_in layout words0 m
  heard_else m other = ap (λ b. cond b w (version_in layout words0 m)) (ne_eqb m n other)

  -- a look for a line finds one, or each is in use
  taken_on : (next index : ℕ) (now : List ℕ) → IsUnmoved layout words0 now n → (turn : Turn Take Taken) → TakeHeeds caller (λ number. line_in layout words0 caller number state_offset) index turn → Goes now (split_taken split next turn)
  taken_on next index now unmoved (Go take) heeds = (unmoved, heeds)
  taken_on next index now unmoved (Done (taken.Line line)) heeds = (unmoved, record { number = index; within = heeds.1; empty = heeds.2 }, claims_begin layout g (heard_in layout words0 n w 0))
  taken_on next index now unmoved (Done taken.Full) heeds = (unmoved, heeds)

  claimed_on : (next line : ℕ) (now : List ℕ) (turn : Turn Claim Claimed) → ((found : ℕ) → Heeds layout g (heard_in layout words0 n w found) turn) → IsUnmoved layout words0 now n
      → HasLine layout words0 caller → Goes now (split_claimed split next line turn)
  claimed_on next line now (Go claim) heeds unmoved has = (unmoved, has, (heeds 0).3)
  claimed_on next line now (Done (claimed.Node m word)) heeds unmoved has =
      let first = (heeds 0).0 in
      let free : status_in layout words0 m ≡ free_status = first.ready.0 in
      let same = heard_else m (other_free m free) in (
        has,
        record {
          node = m;
          within = first.within;
          free = free;
          unworn = subst (λ v. IsWorn v g → ⊥) same (first.ready.1 (subst (λ v. IsFree v g) (sym same) (ready.free m first.within)));
        },
      )
  claimed_on next line now (Done claimed.NoFree) heeds unmoved has = (
    unmoved,
    (
      has,
      λ m within free. ⊎_elim
          (λ worn. worn)
          (λ fresh.
          let other = other_free m free in
          let positive : 1 ≤ m = ⊎_elim (λ (zero : m ≡ 0). let live = ap (status_in layout words0) zero ∙ ready.first in let no : 0 ≡ 1 = sym free ∙ live in omega arith) (λ (some : m ≢ 0). omega arith) (cases_eq m 0) in
          absurd (heeds 0 m positive within (free, λ is worn. fresh (subst (λ v. IsWorn v g) (heard_else m other) worn))))
          (worn_or_fresh (version_in layout words0 m) g),
    ),
  )
  claimed_on next line now (Done (claimed.Again (again.Locked m word))) heeds unmoved has =
      let first = (heeds 0).0 in
      let same = heard_else m (other_free m first.ready.0) in
      absurd ((heeds 0).2 (subst (λ v. IsFree v g) (sym same) (ready.free m first.within)))
  claimed_on next line now (Done (claimed.Again (again.Moved m first second))) heeds unmoved has = absurd ((heeds (heard.version m)).4 refl)
  claimed_on next line now (Done (claimed.Again (again.Hops count))) heeds unmoved has = absurd (heeds 0)
  claimed_on next line now (Done (claimed.Again again.LogFull)) heeds unmoved has = absurd (heeds 0)
  claimed_on next line now (Done (claimed.Again again.NoFree)) heeds unmoved has = absurd (heeds 0)
  claimed_on next line now (Done (claimed.Again (again.NeedsSplit m))) heeds unmoved has = absurd (heeds 0)
  claimed_on next line now (Done (claimed.Again (again.Held word))) heeds unmoved has = absurd (heeds 0)
  claimed_on next line now (Done (claimed.Again (again.Epoch first second))) heeds unmoved has = absurd (heeds 0)

  abbrev claim_with : ℕ → ClaimAt → Claim
  claim_with m at = record { layout = layout; generation = g; node = m; at = at }

  -- a claim of it is told the words as they were, and no exchange fails
  module _ (unmoved : IsUnmoved layout words0 words n) (mine : version_in layout words n ≡ w) (m : ℕ) (here : m < layout.nodes) where
    version_now : version_in layout words m ≡ heard.version m
    version_now = ⊎_elim
        (λ (own : m ≡ n). ap (version_in layout words) own ∙ mine ∙ sym (ap (λ b. cond b w (version_in layout words0 m)) (eq-eqb m n own)))
        (λ (other : m ≢ n). unmoved.versions m other ∙ sym (heard_else m other))
        (cases_eq m n)

    version_told : x ≡ got layout words (Load (version_address layout m)) → x ≡ heard.version m
    version_told is = is ∙ sym (version_in-here layout words m here) ∙ version_now

    by_heard : (at : ClaimAt) → IsClaim (claim_with m at) → Told layout g (claim_at_asks layout m at) x → HasHeard layout g (heard_in layout words0 n w 0) m at
        → ((found : ℕ) → x ≡ heard_at (heard_in layout words0 n w found) m at) → (now : List ℕ) → IsUnmoved layout words0 now n → HasLine layout words0 caller → (next line : ℕ)
        → Goes now (split_claimed split next line (claim_turned (claim_with m at) x))
    by_heard at is tells so is_told now still has next line =
        claimed_on next line now (claim_turned (claim_with m at) x)
        (λ found. subst (λ y. Heeds layout g (heard_in layout words0 n w found) (claim_turned (claim_with m at) y)) (sym (is_told found))
        (claims_heed (claim_with m at) (heard_in layout words0 n w found) is (subst (Told layout g (claim_at_asks layout m at)) (is_told found) tells) so)) still has

    claims_there : (at : ClaimAt) → IsClaim (claim_with m at) → Told layout g (claim_at_asks layout m at) x → HasHeard layout g (heard_in layout words0 n w 0) m at
        → x ≡ got layout words (claim_at_asks layout m at) → HasLine layout words0 caller → (next line : ℕ)
        → Goes (acted layout words (claim_at_asks layout m at)) (split_claimed split next line (claim_turned (claim_with m at) x))
    claims_there claim_at.Nowhere is tells so loads has next line =
        by_heard claim_at.Nowhere is tells so (λ found. version_told loads) (acted layout words (Load (version_address layout m))) (loaded layout words0 words n (version_address layout m) unmoved) has next line
    claims_there claim_at.Version is tells so loads has next line =
        by_heard claim_at.Version is tells so (λ found. version_told loads) (acted layout words (Load (version_address layout m))) (loaded layout words0 words n (version_address layout m) unmoved) has next line
    claims_there (claim_at.Status version) is tells so loads has next line =
        by_heard (claim_at.Status version) is tells so (λ found. loads ∙ sym (status_in-here layout words m here) ∙ unmoved.statuses m) (acted layout words (Load (status_address layout m)))
        (loaded layout words0 words n (status_address layout m) unmoved) has next line
    claims_there (claim_at.Lock version locked) is tells so loads has next line =
        let word = version_told loads in
        let same : x ≡ version = word ∙ sym so.1 in
        let other = other_free m so.2 in
        subst (λ b. Goes (acted layout words (claim_at_asks layout m (claim_at.Lock version locked))) (split_claimed split next line
        (cond b (Done (claimed.Node m locked)) (Done (claimed.Again (again.Moved m version x)))))) (sym (eq-eqb x version same))
        (has, record { node = m; within = here; free = so.2; unworn = subst (λ v. IsWorn v g → ⊥) (so.1 ∙ heard_else m other) is.here.1.unworn })

  -- each turn of the split
  splits_there : (at : SplitAt) → IsSplitAt split.view n w at → SplitStands layout g words0 words n w caller at → Told layout g (split_at_asks split at) x → (HoldsAlone at → version_in layout words n ≡ w)
      → x ≡ got layout words (split_at_asks split at) → Goes (acted layout words (split_at_asks split at)) (split_at_turned split at x)
  splits_there at.Next is stands tells mine loads =
      (loaded layout words0 words n (word_address layout n next_offset) stands, λ index lt. absurd (let no : index < 0 = lt in omega arith))
  splits_there (at.Take next take) is stands tells mine loads =
      let same = is.2 in
      let unmoved = subst (λ (k : Layout). IsUnmoved k words0 words n) (sym same) stands.0 in
      let own_loads : x ≡ got take.layout words (take_asks take) = subst (λ (k : Layout). x ≡ got k words (take_asks take)) (sym same) loads in
      let now = subst (λ (k : Layout). IsUnmoved k words0 (acted k words (take_asks take)) n) same (take_unmoved take is.1 words0 words n unmoved) in
      let states : take.at ≡ take_at.State → x ≡ line_in layout words0 caller take.index state_offset =
      λ state. subst (λ (q : Layout × ℕ). x ≡ line_in q.0 words0 q.1 take.index state_offset) (λ k. (same k, is.3 k)) (take_told take is.1 words0 words n unmoved x own_loads state) in
      taken_on next take.index (acted layout words (take_asks take)) now (take_turned take x)
      (subst (λ (c : ℕ). TakeHeeds c (λ number. line_in layout words0 caller number state_offset) take.index (take_turned take x)) is.3
      (takes_heed take (λ number. line_in layout words0 caller number state_offset) x is.1 states stands.1))
  splits_there (at.Claim next line claim) is stands tells mine loads =
      let layout_is = is.3 in
      let generation_is = is.4 in
      let whole : IsClaim (claim_with claim.node claim.at) = subst (λ (q : Layout × ℕ). IsClaim (record { layout = q.0; generation = q.1; node = claim.node; at = claim.at })) (λ k. (layout_is k, generation_is k)) is.2 in
      let asks : claim_asks claim ≡ claim_at_asks layout claim.node claim.at = ap (λ (k : Layout). claim_at_asks k claim.node claim.at) layout_is in
      let ends = claims_there stands.0 (mine tt) claim.node whole.node claim.at whole (subst (λ a. Told layout g a x) asks tells) stands.2 (loads ∙ ap (got layout words) asks) stands.1 next line in
      subst (λ (q : Action × Claim). Goes (acted layout words q.0) (split_claimed split next line (claim_turned q.1 x)))
      (λ k. (sym asks k, record { layout = sym layout_is k; generation = sym generation_is k; node = claim.node; at = claim.at })) ends
  splits_there (at.Read share full count) is stands tells mine loads =
      let now = acted layout words (split_at_asks split (at.Read share full count)) in
      let read = set full (8 + count) x in
      elim (ltb (count + 1) (word_count split.view)) as (λ b. Goes now (cond b (splits_on split (at.Read share read (count + 1))) (splits_on split (at.Move (move_from (plan_of split share read)))))) [ true ↦ stands | false ↦ stands ]
  splits_there (at.Move moving) is stands tells mine loads = moved_on (move_turned moving x)
    where
      moved_on : (turn : Turn Move (Unit {0})) → Goes (acted layout words (move_asks moving)) (moved split moving.plan.share.fresh turn)
      moved_on (Go moving') = stands
      moved_on (Done nothing) = stands
  splits_there (at.Refuse next why) is stands tells mine loads = (stored_unmoved layout words0 words n (w + 1) sound.node stands.0, stands.1)

pub splits_come_there : SplitsComeThere
splits_come_there split words0 words x sound ready stands tells mine loads =
    splits_there split sound words0 words ready x split.at sound.here stands tells mine loads
