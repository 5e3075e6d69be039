-- A look-up's fields keep what they keep, and what it found is in order.
use Rattle.std.proofs.Common.{◌≡◌, ◌≢◌, ℕ, ◌+◌, ◌<◌, ◌≤◌, ◌^◌, ◌==◌, true, false, cond, ltb, List, Option, Some, None, IfSome, get_or, ap, set, inl, inr, refl, sym, subst, ◌∙◌, arith}
use Rattle.std.specs.Prelude.{IsSome, is_some}
use Rattle.std.specs.Int.{bit_at}
use Rattle.std.proofs.Math.ListN.{length-set}
use Rattle.std.proofs.lemmas.Bool.{cases_eq, cases_lt, ltb-true}
use Rattle.std.proofs.lemmas.Nat.Bits.{bit_at_above}
use Rattle.pm_words.specs.declared.again.Again.TheVariants.{Moved}
use Rattle.pm_words.specs.declared.machine.Turn.{Turn}
use Rattle.pm_words.specs.declared.machine.Turn.TheVariants.{Go, Done}
use Rattle.version_lock.specs.declared.TheConstants.{LAST_COUNT, GENERATION_LIMIT}
use Rattle.version_lock.specs.Versions.{generation_of, count_of, kept_count, locked_word, IsLocked, is_worn_word}
use Rattle.version_lock.proofs.VersionFacts.{kept_count-earlier, kept_count-same, count_of-locked_word, count_of-le, IsLocked-locked_word}
use Rattle.data_node.specs.Slots.{IsLive}
use Rattle.data_node.specs.Bits.{without_live, lowest_live, candidate_bits}
use Rattle.data_node.proofs.BitLemmas.{lowest_live-some, without_live-same, without_live-other, without_live_below, candidate_bits-marks, candidate_bits_below}
use Rattle.call_stages.specs.declared.once.Once.{Once}
use Rattle.call_stages.specs.declared.once.Once.TheVariants as once
use Rattle.call_stages.specs.declared.once.Placed.{Placed}
use Rattle.call_stages.specs.Kinds.{Told}
use Rattle.node_ops.specs.declared.call.Call.{Call}
use Rattle.node_ops.specs.declared.lookup.Hold.{Hold}
use Rattle.node_ops.specs.declared.lookup.Directory.{Directory}
use Rattle.node_ops.specs.declared.lookup.Found.{Found}
use Rattle.node_ops.specs.declared.lookup.Looked.{Looked}
use Rattle.node_ops.specs.declared.lookup.Looked.TheVariants as looked
use Rattle.node_ops.specs.declared.lookup.LookupAt.{LookupAt}
use Rattle.node_ops.specs.declared.lookup.LookupAt.TheVariants as look
use Rattle.node_ops.specs.declared.lookup.Lookup.{Lookup}
use Rattle.node_ops.specs.Calls.{IsCall, at_node, IsSame}
use Rattle.version_lock.specs.Versions.{IsLockWord}
use Rattle.node_ops.specs.LookupSteps.{floored, came_by, walked_on, is_spent, goes_to, ends, saw_prints, saw_name, saw_directory, next_candidate, candidate_turned, lookup_asks, lookup_at_asks, lookup_turned, lookup_at_turned, IsLocking, IsDirectory, IsComparing, IsHeldBy, IsFoundIn, IsFoundBy, IsLookupAt, IsLookup}
use Rattle.pm_words.specs.declared.action.Action.{Action}
use Rattle.call_stages.specs.Stages.{Stage}
use Rattle.data_list.specs.declared.target.Walked.{Walked}
use Rattle.data_list.specs.declared.target.Walked.TheVariants as walked
use Rattle.data_list.specs.declared.walk.Walk.{Walk}
use Rattle.data_list.specs.Walks.{LeadsOn, sighting_of, walk_asks, walk_turned}
use Rattle.data_list.specs.declared.target.Next.{Next}
use Rattle.pm_words.specs.declared.layout.Layout.{Layout}
use Rattle.data_list.specs.WalkStages.{walk_stage}
use Rattle.data_list.specs.Laws.{IsTarget, Walks}
use Rattle.version_lock.proofs.WordTests.{fresh_word}
use Rattle.node_ops.proofs.LookupLaw.{floor_after, own_walks}
use Rattle.tree_floor.specs.declared.floor.Floor.{Floor}
use Rattle.tree_floor.specs.Floors.{floor_turned, floor_left}
use Rattle.tree_floor.specs.Floors.{FloorAfter}

-- the fields after a turn, and that the call is the same, maybe at another node
abbrev pub SoundLooked : Call → Turn Lookup Looked → Type 0
SoundLooked call (Go lookup) = IsLookup lookup × IsSame call lookup.call
SoundLooked call (Done (looked.Early answer)) = Unit {0}
SoundLooked call (Done (looked.Found found)) = IsFoundIn call.limit call.view.layout.slots found

-- a call of this layout and generation
abbrev pub Stays : {M : Type 0} → (M → Type 0) → (M → Call) → Call → Turn M (Once Placed) → Type 0
Stays sound of call (Go machine) = sound machine × IsSame call (of machine)
Stays sound of call (Done answer) = Unit {0}

-- a locked word that was made of a free one can be given back
pub lock_word : (generation version word : ℕ) → generation < GENERATION_LIMIT → IsLocking generation version word → IsLockWord word
lock_word generation version word small locking =
    let kept = kept_count version generation in
    let unworn : kept < LAST_COUNT =
    elim (cases_lt (generation_of version) generation) [
      | inl earlier ↦ let none : kept ≡ 0 = kept_count-earlier version generation earlier in omega arith
      | inr later ↦
          let known : generation_of version ≤ generation = locking.known in
          let same : generation_of version ≡ generation = omega arith in
          let counted : kept ≡ count_of version = kept_count-same version generation same in
          elim (cases_eq (count_of version) LAST_COUNT) [
            | inl worn ↦ absurd (locking.unworn (same, worn))
            | inr other ↦ let most = count_of-le version in omega arith
          ]
    ] in
    let made : word ≡ locked_word generation kept = locking.locked in
    let counts : count_of (locked_word generation kept) ≡ kept = count_of-locked_word generation kept (omega arith) in
    record {
      locked = subst IsLocked (sym made) (IsLocked-locked_word generation kept);
      unworn = subst (λ w. count_of w < LAST_COUNT) (sym made) (omega arith);
      fits = omega arith;
    }

held_lock : (limit : Option ℕ) (word : ℕ) → IsLockWord word → IsHeldBy limit word
held_lock None word locked = tt
held_lock (Some most) word locked = locked

-- what a write found
pub found_by : (limit : Option ℕ) (slots : ℕ) (found : Found) → IsSome limit → IsFoundIn limit slots found → IsFoundBy slots found
found_by None slots found some is = absurd (let no : false ≡ true = some in cc)
found_by (Some most) slots found some is = record { locked = is.locked; directory = is.directory; hit = is.hit }

some_leads : (l : Layout) (next : Option Next) → IfSome next (λ n. LeadsOn l n.node) → IfSome next (λ n. n.node ≢ 0)
some_leads l None leads = tt
some_leads l (Some next) leads = leads.some

module _ (call : Call) (sound : IsCall call) where
  abbrev slots : ℕ
  slots = call.view.layout.slots

  limit : slots ≤ 64
  limit = sound.view.layout.slots.1

  next_sound : (hold : Hold) (directory : Directory) (left : ℕ) → IsHeldBy call.limit hold.locked → IsDirectory directory → left < 2 ^ 64
      → ((slot : ℕ) → IsLive left slot → (slot < slots) × IsLive directory.bitmap slot) → SoundLooked call (next_candidate call hold directory left)
  next_sound hold directory left locked loaded fits live =
      elim (lowest_live left) as (λ o. lowest_live left ≡ o → SoundLooked call (candidate_turned call hold directory left o)) [
        | Some slot ↦ λ is. (record { call = sound; here = (locked, loaded, record { fits = fits; live = live; lowest = is }, omega arith) }, refl)
        | None ↦ λ is. record { locked = locked; directory = loaded; hit = tt }
      ] refl

  floored_sound : (left : ℕ) (turn : Turn Floor ℕ) → FloorAfter call.view.layout call.name left turn → SoundLooked call (floored call turn)
  floored_sound left (Go floor) after = (record { call = sound; here = record { sound = after.0; layout = after.1; key = after.2 } }, refl)
  floored_sound left (Done node) after = (
    record {
      call = sound;
      here = record {
        sound = record { layout = sound.view.layout; node = after; hops = let some : 1 ≤ call.view.layout.nodes = sound.view.layout.nodes.0 in omega arith; here = tt; first = tt };
        layout = refl;
        generation = refl;
        key = refl;
      };
    },
    refl,
  )

  walked_sound : (stage : Stage) (action : Action) (x : ℕ) (turn : Turn Walk Walked) → Walks call.view.layout call.view.generation call.name stage action x turn
      → SoundLooked call (walked_on call turn)
  walked_sound stage action x (Go walk) is = (record { call = sound; here = record { sound = is.1; layout = is.2; generation = is.3; key = is.4 } }, refl)
  walked_sound stage action x (Done (walked.Again why)) is = tt
  walked_sound stage action x (Done (walked.Target target)) is = at call.limit refl
    where
      g : ℕ
      g = call.view.generation

      t : IsTarget call.view.layout call.view.generation call.name target
      t = is.1

      there : IsCall (at_node call target.node target.hops)
      there = record { view = sound.view; node = t.here; packed = sound.packed; print = sound.print; limit = sound.limit }

      at : (limit : Option ℕ) → call.limit ≡ limit → SoundLooked call (came_by limit call target)
      at None reads = (record { call = there; here = record { reads = reads; is = t.seen; leads = some_leads call.view.layout target.next t.next } }, refl)
      at (Some most) writes =
          elim (is_worn_word target.version g) as (λ b. is_worn_word target.version g ≡ b → SoundLooked call
          (cond b (ends (once.Worn target.node target.version)) (goes_to (at_node call target.node target.hops) (look.Lock (sighting_of target) (locked_word g (kept_count target.version g)))))) [
            | true ↦ λ worn. tt
            | false ↦ λ fresh. (
              record {
                call = there;
                here = (
                  ap is_some writes,
                  record { locking = record { known = t.seen.free.known; free = t.seen.free.free; unworn = fresh_word target.version g fresh; locked = refl }; is = t.seen; leads = some_leads call.view.layout target.next t.next },
                );
              },
              refl,
            )
          ] refl

  prints_sound : (hold : Hold) (bitmap : ℕ) (prints : List ℕ) (k x : ℕ) → IsHeldBy call.limit hold.locked → IsDirectory (record { bitmap = bitmap; prints = prints })
      → SoundLooked call (saw_prints call hold bitmap prints k x)
  prints_sound hold bitmap prints k x locked loaded =
      let directory : Directory = record { bitmap = bitmap; prints = set prints k x } in
      let also : IsDirectory directory = record { bitmap = loaded.bitmap; prints = length-set prints k x ∙ loaded.prints } in
      let left = candidate_bits bitmap (set prints k x) call.print slots in
      elim (ltb (k + 1) 8) as (λ b. ltb (k + 1) 8 ≡ b → SoundLooked call (cond b (goes_to call (look.Prints hold bitmap (set prints k x) (k + 1))) (saw_directory call hold directory))) [
        | true ↦ λ is. (record { call = sound; here = (locked, also, ltb-true _ _ is) }, refl)
        | false ↦ λ is. next_sound hold directory left locked also (candidate_bits_below bitmap (set prints k x) call.print slots limit)
            (λ slot live. let candidate = (candidate_bits-marks bitmap (set prints k x) call.print slots limit slot).0 live in (candidate.within, candidate.live))
      ] refl

  -- a slot that is left once one is taken out
  left_live : (left slot other : ℕ) → left < 2 ^ 64 → slot < 64 → IsLive (without_live left slot) other → IsLive left other
  left_live left slot other fits small live =
      let one : bit_at (without_live left slot) other ≡ 1 = live in
      elim (cases_lt other 64) [
        | inl below ↦ elim (cases_eq other slot) [
          | inl same ↦ absurd (let zero_bit : bit_at (without_live left slot) other ≡ 0 = subst (λ n. bit_at (without_live left slot) n ≡ 0) (sym same) (without_live-same left slot small) in omega arith)
          | inr apart ↦ sym (without_live-other left slot other small below apart) ∙ live
        ]
        | inr above ↦ absurd (let zero_bit : bit_at (without_live left slot) other ≡ 0 = bit_at_above (without_live left slot) 64 other (without_live_below 64 left slot fits) above in omega arith)
      ]

  name_sound : (hold : Hold) (directory : Directory) (left slot k x : ℕ) → IsHeldBy call.limit hold.locked → IsDirectory directory → IsComparing slots directory.bitmap left slot
      → SoundLooked call (saw_name call hold directory left slot k x)
  name_sound hold directory left slot k x locked loaded comparing =
      let lowest = lowest_live-some left slot comparing.fits comparing.lowest in
      let here = comparing.live slot lowest.live in
      elim (x == get_or call.name k 0) as (λ b. SoundLooked call (cond b
      (cond (ltb (k + 1) 3) (goes_to call (look.Name hold directory left slot (k + 1))) (goes_to call (look.Value hold directory slot)))
      (next_candidate call hold directory (without_live left slot)))) [
        | true ↦ elim (ltb (k + 1) 3) as (λ b. ltb (k + 1) 3 ≡ b → SoundLooked call (cond b (goes_to call (look.Name hold directory left slot (k + 1))) (goes_to call (look.Value hold directory slot)))) [
          | true ↦ λ is. (record { call = sound; here = (locked, loaded, comparing, ltb-true _ _ is) }, refl)
          | false ↦ λ is. (record { call = sound; here = (locked, loaded, here.0, here.1) }, refl)
        ] refl
        | false ↦ next_sound hold directory (without_live left slot) locked loaded (without_live_below 64 left slot comparing.fits)
            (λ other live. comparing.live other (left_live left slot other comparing.fits lowest.within live))
      ]

  lookup_at_stays : (at : LookupAt) (x : ℕ) → IsLookupAt call at → Told call.view.layout call.view.generation (lookup_at_asks call at) x → SoundLooked call (lookup_at_turned call at x)
  lookup_at_stays (look.Floor floor) x here told = floored_sound (floor_left floor) (floor_turned floor x) (floor_after call floor x here told.fits)
  lookup_at_stays (look.Walk walk) x here told = walked_sound (walk_stage walk) (walk_asks walk) x (walk_turned walk x) (own_walks call walk x here told)
  lookup_at_stays (look.Read seen) x here told = (record { call = sound; here = subst (λ (o : Option ℕ). IsHeldBy o seen.version) (sym here.reads) tt }, refl)
  lookup_at_stays (look.Lock seen word) x here told =
      elim (x == seen.version) as (λ b. SoundLooked call (cond b (goes_to call (look.Clock word)) (ends (once.Again (Moved call.node seen.version x))))) [
        | true ↦ (record { call = sound; here = (here.0, lock_word call.view.generation seen.version word sound.view.generation here.1.locking) }, refl)
        | false ↦ tt
      ]
  lookup_at_stays (look.Clock word) x here told =
      let hold : Hold = record { locked = word; clock = x } in
      elim (is_spent call.limit x) as (λ b. is_spent call.limit x ≡ b → SoundLooked call (cond b (goes_to call (look.Spent hold)) (goes_to call (look.Bitmap hold)))) [
        | true ↦ λ e. (record { call = sound; here = (here.1, e) }, refl)
        | false ↦ λ e. (record { call = sound; here = held_lock call.limit word here.1 }, refl)
      ] refl
  lookup_at_stays (look.Spent hold) x here told = tt
  lookup_at_stays (look.Bitmap hold) x here told = (record { call = sound; here = (here, record { bitmap = told.fits; prints = refl }, omega arith) }, refl)
  lookup_at_stays (look.Prints hold bitmap prints k) x here told = prints_sound hold bitmap prints k x here.0 here.1
  lookup_at_stays (look.Name hold directory left slot k) x here told = name_sound hold directory left slot k x here.0 here.1 here.2
  lookup_at_stays (look.Value hold directory slot) x here told = record { locked = here.0; directory = here.1; hit = record { within = here.2; live = here.3; fits = told.fits } }

pub lookup_stays : (lookup : Lookup) (x : ℕ) → IsLookup lookup → Told lookup.call.view.layout lookup.call.view.generation (lookup_asks lookup) x
    → SoundLooked lookup.call (lookup_turned lookup x)
lookup_stays lookup x sound told = lookup_at_stays lookup.call sound.call lookup.at x sound.here told

-- what it found
pub found_sound : (lookup : Lookup) (x : ℕ) (found : Found) → IsLookup lookup → Told lookup.call.view.layout lookup.call.view.generation (lookup_asks lookup) x
    → Done (looked.Found found) ≡ lookup_turned lookup x → IsFoundIn lookup.call.limit lookup.call.view.layout.slots found
found_sound lookup x found sound told is = subst (SoundLooked lookup.call) (sym is) (lookup_stays lookup x sound told)
