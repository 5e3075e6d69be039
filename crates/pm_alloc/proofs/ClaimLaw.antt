-- Each turn of a claim is a step, and its answer follows from what it was told.
use Rattle.std.proofs.Common.{◌≡◌, ◌≢◌, ℕ, ◌+◌, ◌<◌, ◌≤◌, ◌==◌, Bool, true, false, cond, ltb, [], Some, None, refl, sym, ◌∙◌, subst, ap, arith}
use Rattle.std.proofs.lemmas.Bool.{eqb-true, eqb-false, ltb-true, ltb-false}
use Rattle.pm_words.specs.Codes.{free_status}
use Rattle.pm_words.specs.declared.layout.Layout.{Layout}
use Rattle.pm_words.specs.declared.action.Action.{Action}
use Rattle.pm_words.specs.declared.action.Action.TheVariants.{Load, Exchange}
use Rattle.pm_words.specs.declared.again.Again.TheVariants.{Locked, Moved}
use Rattle.pm_words.specs.declared.machine.Turn.{Turn}
use Rattle.pm_words.specs.declared.machine.Turn.TheVariants.{Go, Done}
use Rattle.version_lock.specs.Versions.{generation_of, IsFree, IsWorn, is_free_word, is_worn_word}
use Rattle.call_stages.specs.Stages.{Held, Stage, Holds, Eyes, just_held}
use Rattle.call_stages.specs.Kinds.{version_address, status_address, Told, Look, peeks, peeks_status, eyes, eyes_free, passes as passes_by, loses, claims}
use Rattle.version_lock.proofs.WordTests.{free_word, taken_word, worn_word, fresh_word}
use Rattle.pm_alloc.specs.declared.claim.Claimed.{Claimed}
use Rattle.pm_alloc.specs.declared.claim.Claimed.TheVariants as claimed
use Rattle.pm_alloc.specs.declared.claim.Claim.{Claim}
use Rattle.pm_alloc.specs.declared.claim.ClaimAt.{ClaimAt}
use Rattle.pm_alloc.specs.declared.claim.ClaimAt.TheVariants as at
use Rattle.pm_alloc.specs.Claims.{goes_to, passes, lock_of, saw_free, saw_status, found, claim_at_asks, StaysClaim, claim_at_turned, Locks, IsClaimAt, IsClaim}
use Rattle.pm_alloc.specs.ClaimStages.{eyes_stage, claim_at_stage}
use Rattle.pm_alloc.specs.Events.{Heard, IsOpen, Passed, IsFirst, HasHeard, heard_at, Heeds, ClaimsBegin, ClaimsHeed}
use Rattle.pm_alloc.specs.Laws.{MayClaim, Claims, ClaimsAreSteps}

module _ (claim : Claim) (sound : IsClaim claim) where
  abbrev l : Layout
  l = claim.layout

  abbrev g : ℕ
  g = claim.generation

  abbrev m : ℕ
  m = claim.node

  module _ (n w : ℕ) (h : Held) (may : MayClaim h) where
    abbrev Leads : Stage → Action → ℕ → Turn Claim Claimed → Type 0
    Leads = Claims l g n w h

    on : (stage : Stage) (action : Action) (x : ℕ) (at : ClaimAt) → Look l g stage action x (claim_at_stage g n w h m at) None → IsClaimAt g m at → Leads stage action x (goes_to claim at)
    on stage action x at look here = (look, record { layout = sound.layout; generation = sound.generation; node = sound.node; here = here }, refl, refl)

    on_passes : (stage : Stage) (action : Action) (x : ℕ) → Look l g stage action x (Holds n w h) None → Leads stage action x (passes claim)
    on_passes stage action x look =
        elim (ltb (m + 1) l.nodes) as (λ b. ltb (m + 1) l.nodes ≡ b → Leads stage action x (cond b (Go (record claim { node = m + 1; at = at.Version })) (Done claimed.NoFree))) [
          | true ↦ λ more. (look, record { layout = sound.layout; generation = sound.generation; node = ltb-true _ _ more; here = λ z. omega arith }, refl, refl)
          | false ↦ λ last. look
        ] refl

    saw : (x : ℕ) → m ≢ 0 → generation_of x ≤ g → Look l g (Holds n w h) (Load (version_address l m)) x (eyes_stage g n w h m x) None
    saw x nonzero known =
        elim (is_free_word x g) as (λ b. is_free_word x g ≡ b → Look l g (Holds n w h) (Load (version_address l m)) x
        (cond b (cond (is_worn_word x g) (Holds n w h) (Eyes n w h m x (lock_of x g) false)) (Holds n w h)) None) [
          | true ↦ λ free. elim (is_worn_word x g) as (λ b. is_worn_word x g ≡ b → Look l g (Holds n w h) (Load (version_address l m)) x (cond b (Holds n w h) (Eyes n w h m x (lock_of x g) false)) None) [
            | true ↦ λ worn. peeks sound.node may.still.ready
            | false ↦ λ fresh. eyes may.still may.durable sound.node nonzero (free_word x g free) (fresh_word x g fresh) refl
          ] refl
          | false ↦ λ taken. peeks sound.node may.still.ready
        ] refl

    -- the status isn't FREE
    turns : (version x : ℕ) → Look l g (eyes_stage g n w h m version) (Load (status_address l m)) x (Holds n w h) None
    turns version x =
        elim (is_free_word version g) as (λ b. Look l g (cond b (cond (is_worn_word version g) (Holds n w h) (Eyes n w h m version (lock_of version g) false)) (Holds n w h)) (Load (status_address l m)) x (Holds n w h) None) [
          | true ↦ elim (is_worn_word version g) as (λ b. Look l g (cond b (Holds n w h) (Eyes n w h m version (lock_of version g) false)) (Load (status_address l m)) x (Holds n w h) None) [
            | true ↦ peeks_status sound.node may.still.ready
            | false ↦ passes_by sound.node
          ]
          | false ↦ peeks_status sound.node may.still.ready
        ]

    at_free : (version x : ℕ) → m ≢ 0 → generation_of version ≤ g → x ≡ free_status
        → Leads (eyes_stage g n w h m version) (Load (status_address l m)) x (saw_free claim version)
    at_free version x nonzero known is =
        elim (is_free_word version g) as (λ b. is_free_word version g ≡ b →
        Leads (cond b (cond (is_worn_word version g) (Holds n w h) (Eyes n w h m version (lock_of version g) false)) (Holds n w h)) (Load (status_address l m)) x
        (cond b (cond (is_worn_word version g) (passes claim) (goes_to claim (at.Lock version (lock_of version g)))) (Done (claimed.Again (Locked m version))))) [
          | true ↦ λ free. elim (is_worn_word version g) as (λ b. is_worn_word version g ≡ b →
              Leads (cond b (Holds n w h) (Eyes n w h m version (lock_of version g) false)) (Load (status_address l m)) x (cond b (passes claim) (goes_to claim (at.Lock version (lock_of version g))))) [
                | true ↦ λ worn. on_passes (Holds n w h) (Load (status_address l m)) x (peeks_status sound.node may.still.ready)
                | false ↦ λ fresh. on (Eyes n w h m version (lock_of version g) false) (Load (status_address l m)) x (at.Lock version (lock_of version g)) (eyes_free sound.node is)
                    (nonzero, record { known = known; free = free_word version g free; unworn = fresh_word version g fresh; lock = refl })
              ] refl
          | false ↦ λ taken. (peeks_status sound.node may.still.ready, tt)
        ] refl

    at_status : (version x : ℕ) → m ≢ 0 → generation_of version ≤ g → Leads (eyes_stage g n w h m version) (Load (status_address l m)) x (saw_status claim version x)
    at_status version x nonzero known =
        elim (x == free_status) as (λ b. (x == free_status) ≡ b → Leads (eyes_stage g n w h m version) (Load (status_address l m)) x (cond b (saw_free claim version) (passes claim))) [
          | true ↦ λ is. at_free version x nonzero known (eqb-true _ _ is)
          | false ↦ λ other. on_passes (eyes_stage g n w h m version) (Load (status_address l m)) x (turns version x)
        ] refl

    at_lock : (version locked x : ℕ) → m ≢ 0 → Leads (Eyes n w h m version locked true) (Exchange (version_address l m) version locked) x (found claim version locked x)
    at_lock version locked x nonzero =
        elim (x == version) as (λ b. (x == version) ≡ b → Leads (Eyes n w h m version locked true) (Exchange (version_address l m) version locked) x
        (cond b (Done (claimed.Node m locked)) (Done (claimed.Again (Moved m version x))))) [
          | true ↦ λ is. (claims may.split sound.node (eqb-true _ _ is), nonzero, sound.node)
          | false ↦ λ other. (loses sound.node (eqb-false _ _ other), tt)
        ] refl

    claim_leads : (at : ClaimAt) (x : ℕ) → IsClaimAt g m at → Told l g (claim_at_asks l m at) x
        → Leads (claim_at_stage g n w h m at) (claim_at_asks l m at) x (claim_at_turned claim at x)
    claim_leads at.Nowhere x here told = peeks sound.node may.still.ready
    claim_leads at.Version x here told = on (Holds n w h) (Load (version_address l m)) x (at.Status x) (saw x here (told.known m sound.node refl)) (here, told.known m sound.node refl)
    claim_leads (at.Status version) x here told = at_status version x here.0 here.1
    claim_leads (at.Lock version locked) x here told = at_lock version locked x here.0

  module _ (h : Heard) where
    abbrev Heed : Turn Claim Claimed → Type 0
    Heed = Heeds l g h

    goes : (at : ClaimAt) → IsClaimAt g m at → HasHeard l g h m at → Heed (goes_to claim at)
    goes at here heard = (record { layout = sound.layout; generation = sound.generation; node = sound.node; here = here }, refl, refl, heard)

    one_more : Passed g h m → (IsOpen g h m → ⊥) → Passed g h (m + 1)
    one_more passed shut k positive within ready = elim (k == m) as (λ b. (k == m) ≡ b → ⊥) [
      | true ↦ λ is. shut (subst (IsOpen g h) (eqb-true _ _ is) ready)
      | false ↦ λ other. let apart = eqb-false _ _ other in passed k positive (omega arith) ready
    ] refl

    heeds_pass : Passed g h m → (IsOpen g h m → ⊥) → Heed (passes claim)
    heeds_pass passed shut =
        let more = one_more passed shut in
        elim (ltb (m + 1) l.nodes) as (λ b. ltb (m + 1) l.nodes ≡ b → Heed (cond b (Go (record claim { node = m + 1; at = at.Version })) (Done claimed.NoFree))) [
          | true ↦ λ on. (record { layout = sound.layout; generation = sound.generation; node = ltb-true _ _ on; here = λ z. omega arith }, refl, refl, more)
          | false ↦ λ last. let end = ltb-false _ _ last in λ k positive within. more k positive (omega arith)
        ] refl

    first : m ≢ 0 → Passed g h m → IsOpen g h m → IsFirst l g h m
    first nonzero passed ready = record { positive = omega arith; within = sound.node; ready = ready; before = passed }

    heeds_free : (version : ℕ) → m ≢ 0 → generation_of version ≤ g → Passed g h m → version ≡ h.version m → h.status m ≡ free_status → Heed (saw_free claim version)
    heeds_free version nonzero known passed is free =
        elim (is_free_word version g) as (λ b. is_free_word version g ≡ b →
        Heed (cond b (cond (is_worn_word version g) (passes claim) (goes_to claim (at.Lock version (lock_of version g)))) (Done (claimed.Again (Locked m version))))) [
          | true ↦ λ unlocked. elim (is_worn_word version g) as (λ b. is_worn_word version g ≡ b → Heed (cond b (passes claim) (goes_to claim (at.Lock version (lock_of version g))))) [
            | true ↦ λ worn. heeds_pass passed (λ ready. ready.1 (subst (λ v. IsFree v g) is (free_word version g unlocked)) (subst (λ v. IsWorn v g) is (worn_word version g worn)))
            | false ↦ λ fresh. goes (at.Lock version (lock_of version g))
                (nonzero, record { known = known; free = free_word version g unlocked; unworn = fresh_word version g fresh; lock = refl }) (passed, is, free)
          ] refl
          | false ↦ λ taken. (
            first nonzero passed (free, λ unlocked worn. taken_word version g taken (subst (λ v. IsFree v g) (sym is) unlocked)),
            is,
            λ unlocked. taken_word version g taken (subst (λ v. IsFree v g) (sym is) unlocked),
          )
        ] refl

    heeds_status : (version : ℕ) → m ≢ 0 → generation_of version ≤ g → Passed g h m → version ≡ h.version m → Heed (saw_status claim version (h.status m))
    heeds_status version nonzero known passed is =
        elim (h.status m == free_status) as (λ b. (h.status m == free_status) ≡ b → Heed (cond b (saw_free claim version) (passes claim))) [
          | true ↦ λ free. heeds_free version nonzero known passed is (eqb-true _ _ free)
          | false ↦ λ other. heeds_pass passed (λ ready. eqb-false _ _ other ready.0)
        ] refl

    heeds_found : (version locked : ℕ) → m ≢ 0 → Locks g version locked → Passed g h m → version ≡ h.version m → h.status m ≡ free_status → Heed (found claim version locked h.found)
    heeds_found version locked nonzero locks passed is free =
        let here = first nonzero passed (free, λ unlocked worn. locks.unworn (subst (λ v. IsWorn v g) (sym is) worn)) in
        let unlocked : IsFree (h.version m) g = subst (λ v. IsFree v g) is locks.free in
        elim (h.found == version) as (λ b. (h.found == version) ≡ b → Heed (cond b (Done (claimed.Node m locked)) (Done (claimed.Again (Moved m version h.found))))) [
          | true ↦ λ same. (here, unlocked, eqb-true _ _ same ∙ is, locks.lock ∙ ap (λ v. lock_of v g) is)
          | false ↦ λ other. (here, unlocked, is, refl, λ same. eqb-false _ _ other (same ∙ sym is))
        ] refl

    claim_heeds : (at : ClaimAt) → IsClaimAt g m at → Told l g (claim_at_asks l m at) (heard_at h m at) → HasHeard l g h m at → Heed (claim_at_turned claim at (heard_at h m at))
    claim_heeds at.Nowhere here told heard = λ k positive within. let one : l.nodes ≡ 1 = heard in absurd (let no : 1 ≤ 0 = omega arith in omega arith)
    claim_heeds at.Version here told heard = goes (at.Status (h.version m)) (here, told.known m sound.node refl) (heard, refl)
    claim_heeds (at.Status version) here told heard = heeds_status version here.0 here.1 heard.0 heard.1
    claim_heeds (at.Lock version locked) here told heard = heeds_found version locked here.0 here.1 heard.0 heard.1 heard.2

pub claims_are_steps : ClaimsAreSteps
claims_are_steps claim n w h x sound may told = claim_leads claim sound n w h may claim.at x sound.here told

pub claims_heed : ClaimsHeed
claims_heed claim h sound told heard = claim_heeds claim sound h claim.at sound.here told heard

pub claims_begin : ClaimsBegin
claims_begin layout generation h = elim (layout.nodes == 1) as (λ b. (layout.nodes == 1) ≡ b → starts b) [
  | true ↦ λ one. eqb-true _ _ one
  | false ↦ λ more. λ k positive within. absurd (let no : k < 0 = omega arith in omega arith)
] refl
  where
    start : Bool → Claim
    start b = cond b (record { layout = layout; generation = generation; node = 0; at = at.Nowhere }) (record { layout = layout; generation = generation; node = 1; at = at.Version })

    starts : Bool → Type 0
    starts b = HasHeard layout generation h (start b).node (start b).at

-- it may be any party's
abbrev some_held : Held
some_held = record (just_held []) { old = Some None }

-- a claim goes on as one of the same layout and generation
pub claims_stay : (claim : Claim) (x : ℕ) → IsClaim claim → Told claim.layout claim.generation (claim_at_asks claim.layout claim.node claim.at) x → StaysClaim claim.layout claim.generation (claim_at_turned claim claim.at x)
claims_stay claim x sound told =
    stays (claim_at_turned claim claim.at x) (claims_are_steps claim 0 0 some_held x sound
    (record { still = record { pending = refl; ready = refl }; durable = refl; split = record { unplaced = refl; lacked = refl } }) told)
  where
    stays : (turn : Turn Claim Claimed) → Claims claim.layout claim.generation 0 0 some_held (claim_at_stage claim.generation 0 0 some_held claim.node claim.at) (claim_at_asks claim.layout claim.node claim.at) x turn →
        StaysClaim claim.layout claim.generation turn
    stays (Go next) is = (is.1, is.2, is.3)
    stays (Done answer) is = tt
