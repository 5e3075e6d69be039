-- A look-up that is alone and has come to its node: a read loads the clock, a write locks the node first.
use Rattle.std.proofs.Common.{◌≡◌, ℕ, ◌+◌, ◌*◌, ◌==◌, Bool, true, false, cond, Option, Some, None, refl, ap, sym}
use Rattle.std.proofs.Common.{subst, ◌∙◌, arith}
use Rattle.std.proofs.lemmas.Bool.{eq-eqb, ne_eqb}
use Rattle.pm_words.specs.declared.action.Action.TheVariants.{Load, Store, Exchange}
use Rattle.pm_words.specs.declared.again.Again.TheVariants.{Moved}
use Rattle.pm_words.specs.declared.machine.Turn.{Turn}
use Rattle.pm_words.specs.Images.{Row}
use Rattle.pm_words.specs.Rows.{CanAct, acted, got}
use Rattle.pm_words.specs.Turns.{GoesBelow}
use Rattle.pm_words.specs.Offsets.{version_offset}
use Rattle.version_lock.specs.Versions.{IsLockWord, IsWorn, is_worn_word, kept_count, locked_word}
use Rattle.version_lock.proofs.WordTests.{worn_words_told}
use Rattle.data_list.specs.declared.target.Sighting.{Sighting}
use Rattle.data_list.specs.declared.target.Target.{Target}
use Rattle.data_list.specs.Walks.{sighting_of}
use Rattle.call_stages.specs.Kinds.{clock_address}
use Rattle.call_stages.specs.declared.once.Once.TheVariants as once
use Rattle.node_ops.specs.declared.call.Call.{Call}
use Rattle.node_ops.specs.declared.lookup.Hold.{Hold}
use Rattle.node_ops.specs.declared.lookup.Lookup.{Lookup}
use Rattle.node_ops.specs.declared.lookup.LookupAt.TheVariants as at
use Rattle.node_ops.specs.declared.lookup.Looked.{Looked}
use Rattle.node_ops.specs.declared.lookup.Looked.TheVariants as looked
use Rattle.node_ops.specs.Calls.{at_node, call_address}
use Rattle.node_ops.specs.LookupSteps.{came_by, came_to, ends, goes_to, is_spent, saw_clock, tried_lock}
use Rattle.node_ops.specs.LookupSteps.{lookup_left}
use Rattle.node_ops.specs.Looking.{IsTargetAt, LeadsTo, Locks, LooksFrom, MayLock, MayLookFrom}
use Rattle.node_ops.proofs.Leading.{leads_looks, leads_to, leads_turn, look_can, look_sound, turn_leads}

-- what it comes to at its target, whatever else the walk saw of that
module _ (call : Call) {node hops version : ℕ} (target : Target) (here : IsTargetAt node hops version target) where
  abbrev there : Call
  there = at_node call node hops

  abbrev same : Target
  same = record target { node = node; hops = hops; version = version }

  is_same : target ≡ same
  is_same k = record target { node = here.node_is k; hops = here.hops_are k; version = here.version_is k }

  reads : call.limit ≡ None → came_to call target ≡ goes_to there (at.Read (sighting_of same))
  reads unlimited = ap (came_to call) is_same ∙ ap (λ (o : Option ℕ). came_by o call same) unlimited

  abbrev by_worn : Bool → Turn Lookup Looked
  by_worn worn =
      cond worn (ends (once.Worn node version))
      (goes_to there (at.Lock (sighting_of same)
      (locked_word call.view.generation (kept_count version call.view.generation))))

  writes : {limit : ℕ} (worn : Bool) → call.limit ≡ Some limit → is_worn_word version call.view.generation ≡ worn
      → came_to call target ≡ by_worn worn
  writes worn limited is =
      ap (came_to call) is_same ∙ ap (λ (o : Option ℕ). came_by o call same) limited ∙ ap by_worn is

  unworn : (IsWorn version call.view.generation → ⊥) → is_worn_word version call.view.generation ≡ false
  unworn not_worn =
      elim (is_worn_word version call.view.generation) as (λ (b : Bool).
      is_worn_word version call.view.generation ≡ b → b ≡ false) [
        | true ↦ λ is. absurd (not_worn ((worn_words_told version call.view.generation).0 is))
        | false ↦ λ is. refl
      ] refl

  -- its node is worn
  pub worn_looks : {limit : ℕ} (old : Row) (steps : ℕ) → call.limit ≡ Some limit
      → IsWorn version call.view.generation
      → LooksFrom old old call (came_to call target) call (looked.Early (once.Worn node version)) steps steps
  worn_looks old steps limited worn =
      subst (λ (t : Turn Lookup Looked).
      LooksFrom old old call t call (looked.Early (once.Worn node version)) steps steps)
      (sym (writes true limited ((worn_words_told version call.view.generation).1 worn))) (refl, refl, refl, refl)

  -- a read
  module _ (unlimited : call.limit ≡ None) (old : Row) (may : MayLookFrom old (came_to call target)) where
    read_may : MayLookFrom old (goes_to there (at.Read (sighting_of same)))
    read_may = subst (MayLookFrom old) (reads unlimited) may

    module _ {now : Row} {clock steps : ℕ} (begun : ℕ)
        (acts : now ≡ record old { words = acted old.layout old.words (Load (clock_address call.view.layout)) })
        (given : clock ≡ got old.layout old.words (Load (clock_address call.view.layout)))
        (ticks : steps ≡ begun + 1) where
      read_leads : LeadsTo old now there (goes_to there (at.Read (sighting_of same)))
          (goes_to there (at.Bitmap (record { locked = version; clock = clock }))) begun steps
      read_leads =
          turn_leads (record { call = there; at = at.Read (sighting_of same) }) read_may (omega arith) refl acts given
          ticks

      pub read_then : MayLookFrom now (goes_to there (at.Bitmap (record { locked = version; clock = clock })))
      read_then = read_leads.may

      pub read_looks : {new : Row} {last : Call} {answer : Looked} {ended : ℕ}
          → LooksFrom now new there (goes_to there (at.Bitmap (record { locked = version; clock = clock }))) last answer
          steps ended
          → LooksFrom old new call (came_to call target) last answer begun ended
      read_looks {new} {last} {answer} {ended} rest =
          subst (λ (t : Turn Lookup Looked). LooksFrom old new call t last answer begun ended) (sym (reads unlimited))
          (read_leads.looks new last answer ended rest)

  -- a write locks it
  module _ {limit : ℕ} (limited : call.limit ≡ Some limit) (not_worn : IsWorn version call.view.generation → ⊥)
      {locked : ℕ} (is : locked ≡ locked_word call.view.generation (kept_count version call.view.generation)) where
    locks_there : came_to call target ≡ goes_to there (at.Lock (sighting_of same) locked)
    locks_there =
        writes false limited (unworn not_worn) ∙ ap (λ (w : ℕ). goes_to there (at.Lock (sighting_of same) w)) (sym is)

    pub lock_then : {old : Row} → MayLookFrom old (came_to call target) → MayLock old there version locked
    lock_then {old} may = (sighting_of same, refl, subst (MayLookFrom old) locks_there may)

    pub lock_looks : {old new : Row} {answer : Looked} {begun ended : ℕ} → MayLookFrom old (came_to call target)
        → Locks old new there version locked answer begun ended
        → LooksFrom old new call (came_to call target) there answer begun ended
    lock_looks {old} {new} {answer} {begun} {ended} may locks =
        subst (λ (t : Turn Lookup Looked). LooksFrom old new call t there answer begun ended) (sym locks_there)
        (locks (sighting_of same) refl (subst (MayLookFrom old) locks_there may))

-- only the version word counts of what it saw
module _ (call : Call) {version : ℕ} (locked : ℕ) (seen : Sighting) (is : seen.version ≡ version) where
  seen_is : seen ≡ record seen { version = version }
  seen_is k = record seen { version = is k }

  pub lock_from : {old : Row} → MayLookFrom old (goes_to call (at.Lock seen locked))
      → MayLookFrom old (goes_to call (at.Lock (record seen { version = version }) locked))
  lock_from {old} = subst (λ (s : Sighting). MayLookFrom old (goes_to call (at.Lock s locked))) seen_is

  pub looks_back : {old new : Row} {answer : Looked} {begun ended : ℕ}
      → LooksFrom old new call (goes_to call (at.Lock (record seen { version = version }) locked)) call answer begun
      ended → LooksFrom old new call (goes_to call (at.Lock seen locked)) call answer begun ended
  looks_back {old} {new} {answer} {begun} {ended} =
      subst (λ (s : Sighting). LooksFrom old new call (goes_to call (at.Lock s locked)) call answer begun ended)
      (sym seen_is)

-- each turn leaves fewer actions
lock_fewer : (call : Call) (version locked found : ℕ)
    → GoesBelow {A = Looked} lookup_left (3 * call.view.layout.slots + 12) (tried_lock call version locked found)
lock_fewer call version locked found =
    elim (found == version) as (λ (b : Bool).
    GoesBelow {A = Looked} lookup_left (3 * call.view.layout.slots + 12) (cond b (goes_to call (at.Clock locked))
    (ends (once.Again (Moved call.node version found))))) [
      | true ↦ omega arith
      | false ↦ tt
    ]

clock_fewer : (call : Call) (hold : Hold)
    → GoesBelow {A = Looked} lookup_left (3 * call.view.layout.slots + 11) (saw_clock call hold)
clock_fewer call hold =
    elim (is_spent call.limit hold.clock) as (λ (b : Bool).
    GoesBelow {A = Looked} lookup_left (3 * call.view.layout.slots + 11) (cond b (goes_to call (at.Spent hold))
    (goes_to call (at.Bitmap hold)))) [
      | true ↦ omega arith
      | false ↦ omega arith
    ]

abbrev by_same : Call → ℕ → ℕ → ℕ → Bool → Turn Lookup Looked
by_same call version locked found same =
    cond same (goes_to call (at.Clock locked)) (ends (once.Again (Moved call.node version found)))

abbrev by_spent : Call → Hold → Bool → Turn Lookup Looked
by_spent call hold spent = cond spent (goes_to call (at.Spent hold)) (goes_to call (at.Bitmap hold))

-- it tries to lock its node
module _ (call : Call) (seen : Sighting) (locked : ℕ) {old : Row}
    (may : MayLookFrom old (goes_to call (at.Lock seen locked))) {address : ℕ} (is : address ≡ call_address call version_offset)
  where
    asks_lock : Exchange address seen.version locked ≡ Exchange (call_address call version_offset) seen.version locked
    asks_lock = ap (λ (a : ℕ). Exchange a seen.version locked) is

    pub lock_can : CanAct old.layout old.words (Exchange address seen.version locked)
    lock_can = look_can (record { call = call; at = at.Lock seen locked }) may asks_lock

    module _ {now : Row} {found begun steps : ℕ}
        (acts : now ≡ record old { words = acted old.layout old.words (Exchange address seen.version locked) })
        (given : found ≡ got old.layout old.words (Exchange address seen.version locked)) (ticks : steps ≡ begun + 1)
      where
        lock_leads : LeadsTo old now call (goes_to call (at.Lock seen locked))
            (tried_lock call seen.version locked found) begun steps
        lock_leads =
            turn_leads (record { call = call; at = at.Lock seen locked }) may
            (lock_fewer call seen.version locked found) asks_lock acts given ticks

        -- another word stands there
        pub missed_looks : (found ≡ seen.version → ⊥)
            → LooksFrom old now call (goes_to call (at.Lock seen locked)) call
            (looked.Early (once.Again (Moved call.node seen.version found))) begun steps
        missed_looks other =
            leads_looks (leads_to (ends (once.Again (Moved call.node seen.version found))) lock_leads
            (ap (by_same call seen.version locked found) (ne_eqb _ _ other)))

        -- it has locked its node, and loads the clock
        pub clock_leads : {after : Row} {clock limit later : ℕ} → found ≡ seen.version → call.limit ≡ Some limit
            → (spent : Bool) → is_spent (Some limit) clock ≡ spent
            → after ≡ record now { words = acted now.layout now.words (Load (clock_address call.view.layout)) }
            → clock ≡ got now.layout now.words (Load (clock_address call.view.layout)) → later ≡ steps + 1
            → LeadsTo old after call (goes_to call (at.Lock seen locked))
            (by_spent call (record { locked = locked; clock = clock }) spent) begun later
        clock_leads {clock = clock} same limited spent told next_acts next_given next_ticks =
            let hold : Hold = record { locked = locked; clock = clock } in
            leads_to (by_spent call hold spent)
            (leads_turn (record { call = call; at = at.Clock locked })
            (leads_to (goes_to call (at.Clock locked)) lock_leads
            (ap (by_same call seen.version locked found) (eq-eqb _ _ same)))
            (clock_fewer call hold) refl next_acts next_given next_ticks)
            (ap (by_spent call hold) (ap (λ (o : Option ℕ). is_spent o clock) limited ∙ told))

-- the clock has reached the limit, and it gives its node back
module _ {old now : Row} (call : Call) (hold : Hold) {from : Turn Lookup Looked} {begun steps : ℕ}
    (on : LeadsTo old now call from (goes_to call (at.Spent hold)) begun steps) where
  pub spent_locked : IsLockWord hold.locked
  spent_locked = (look_sound (record { call = call; at = at.Spent hold }) on.may).here.0

  module _ {address freed : ℕ} (is : address ≡ call_address call version_offset) (frees : freed ≡ hold.locked + 1) where
    asks_freed : Store address freed ≡ Store (call_address call version_offset) (hold.locked + 1)
    asks_freed k = Store (is k) (frees k)

    pub spent_can : CanAct now.layout now.words (Store address freed)
    spent_can = look_can (record { call = call; at = at.Spent hold }) on.may asks_freed

    pub spent_looks : {after : Row} {number later : ℕ}
        → after ≡ record now { words = acted now.layout now.words (Store address freed) }
        → number ≡ got now.layout now.words (Store address freed) → later ≡ steps + 1
        → LooksFrom old after call from call (looked.Early (once.Spent hold.clock)) begun later
    spent_looks acts given ticks =
        leads_looks (leads_turn (record { call = call; at = at.Spent hold }) on tt asks_freed acts given ticks)
