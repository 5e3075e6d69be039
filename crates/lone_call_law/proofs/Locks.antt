-- What a try takes of the locks that nodes have left.
use Rattle.std.proofs.Common.{◌≡◌, ◌≢◌, ◌==◌, ℕ, zero, suc, ◌+◌, ◌-◌, ◌<◌, ◌≤◌, ⊎_elim, Bool, true, false, cond, if◌then◌else◌, refl, sym, ap, ◌∙◌, subst, arith}
use Rattle.std.specs.Prelude.{Option, Some, None}
use Rattle.std.proofs.lemmas.Bool.{cases_eq, cases_lt, eq-eqb, ne_eqb}
use Rattle.pm_words.specs.declared.layout.Layout.{Layout}
use Rattle.pm_words.specs.declared.action.Action.{Action}
use Rattle.version_lock.specs.declared.TheConstants.{LAST_COUNT}
use Rattle.version_lock.specs.Versions.{generation_of, kept_count, locked_word, version_word, IsFree, IsWorn}
use Rattle.version_lock.proofs.VersionFacts.{kept_count-same, kept_count-earlier, count_of-le, count_of-locked_word, generation_of-locked_word, generation_of-version_word, count_of-version_word, freed-locked_word}
use Rattle.call_stages.specs.declared.once.Once.{Once}
use Rattle.call_stages.specs.declared.once.Placed.{Placed}
use Rattle.call_stages.specs.Stages.{Held, Stage, Idle, Saw, Wears, Reads, Holds, Eyes, Splits, Leaves, Meets, Joins, IsLoose}
use Rattle.call_stages.specs.Kinds.{Look, turns_back, is_worn, wears, roams, roams_status, sees, misses, misses_read, times, learns, decides, glances, finds_live, watches, watches_next, turns_away, steps_back, wanders, fills, lights, switches, glances_left, glances_fresh, drains_left, drains_fresh, trims, splits, meets, knows_own, knows_right, copies, takes_up, puts_down, parts, gathers, joins, glances_joined, drains_joined, retires, yields, merges, peeks, peeks_status, eyes, eyes_free, passes, loses, claims, publishes, leaves, Step, looks, locks, locks_read, stores, commits, drains, counts, unlocks}
use Rattle.index_law.specs.Facts.{Facts}
use Rattle.index_law.specs.Worlds.{facts}
use Rattle.index_law.specs.Lawful.{Sure, SureEyes, IsOwnLock}
use Rattle.index_law.proofs.Moves.{fact_after, facts_step, Gives, gives}
use Rattle.call_stages.specs.AnySteps.{on_nodes, beside}
use Rattle.index_law.proofs.AnySteps.{beside_keeps}
use Rattle.index_law.proofs.Versions.{unfree}
use Rattle.lone_call_law.specs.Locks.{locks_of, IsTaken, IsLockedOnce, AreLocked, IsLeft, HoldsLocked, HasLocked, PartsOnce, AfterLocks, LocksGo, StagesLose, FewestLose, WornHasNone}
use Rattle.call_stages.specs.Kinds.{reads_on}
use Rattle.index_law.proofs.Moves.{read_before, read_after}
use Rattle.index_law.proofs.Loose.{each_loose}
use Rattle.call_stages.specs.Stages.{IsLoose}

-- a free word that is not worn leaves locks
locks_there : (v g : ℕ) → generation_of v ≤ g → (IsWorn v g → ⊥) → locks_of g v ≡ 0 → ⊥
locks_there v g known unworn none =
    ⊎_elim
    (λ (same : generation_of v ≡ g). let kept = kept_count-same v g same in let most = count_of-le v in unworn (same, omega arith))
    (λ (other : generation_of v ≢ g). let kept = kept_count-earlier v g (omega arith) in omega arith)
    (cases_eq (generation_of v) g)

-- a lock and its freeing take one
locks_after : (v g w : ℕ) → IsTaken g v w → locks_of g v ≤ locks_of g (w + 1) + 1
locks_after v g w taken =
    let known = taken.known in
    let unworn = taken.unworn in
    let lock = taken.lock in
    let left = locks_there v g known unworn in
    let k = kept_count v g in
    let some_left : k + 1 ≤ LAST_COUNT = omega (arith, left) in
    let word : w + 1 ≡ version_word g (k + 1) = ap (λ (n : ℕ). n + 1) lock ∙ freed-locked_word g k in
    let kept : kept_count (w + 1) g ≡ k + 1 = ap (λ (n : ℕ). kept_count n g) word ∙ kept_count-same (version_word g (k + 1)) g (generation_of-version_word g (k + 1) some_left) ∙ count_of-version_word g (k + 1) some_left in
    omega arith

-- while it is held it has taken none yet
lock_keeps : (v g w : ℕ) → IsTaken g v w → locks_of g w ≡ locks_of g v
lock_keeps v g w taken =
    let k = kept_count v g in
    let known = taken.known in
    let most : k ≤ LAST_COUNT = ⊎_elim
    (λ (same : generation_of v ≡ g). let kept = kept_count-same v g same in let most = count_of-le v in omega arith)
    (λ (other : generation_of v ≢ g). let kept = kept_count-earlier v g (omega arith) in omega arith)
    (cases_eq (generation_of v) g) in
    let kept : kept_count w g ≡ k = ap (λ (n : ℕ). kept_count n g) taken.lock ∙ kept_count-same (locked_word g k) g (generation_of-locked_word g k most) ∙ count_of-locked_word g k most in
    ap (λ (n : ℕ). LAST_COUNT - n) kept

-- where the words are the same nothing is lost
keeps : (g : ℕ) (before now : ℕ → ℕ) → ((m : ℕ) → now m ≡ before m) → (m : ℕ) → locks_of g (before m) ≤ locks_of g (now m) + 1
keeps g before now same m = let alike = ap (locks_of g) (same m) in omega arith

-- words that are another's at one node
hits : (now : ℕ → ℕ) (n v m : ℕ) → m ≡ n → (if m == n then v else now m) ≡ v
hits now n v m same = ap (λ (b : Bool). cond b v (now m)) (eq-eqb m n same)

passes_by : (now : ℕ → ℕ) (n v m : ℕ) → m ≢ n → (if m == n then v else now m) ≡ now m
passes_by now n v m other = ap (λ (b : Bool). cond b v (now m)) (ne_eqb m n other)

-- a node that is given back has lost one, and others are as they were
freed_once : {g : ℕ} (before now : ℕ → ℕ) (n w freed k : ℕ) → freed ≡ w + 1 → IsTaken g (before n) w → (k ≢ n → now k ≡ before k)
    → locks_of g (before k) ≤ locks_of g (if k == n then freed else now k) + 1
freed_once {g} before now n w freed k next taken others = ⊎_elim
    (λ (mine : k ≡ n).
    let word : (if k == n then freed else now k) ≡ w + 1 = hits now n freed k mine ∙ next in
    subst (λ (u : ℕ). locks_of g (before k) ≤ locks_of g u + 1) (sym word)
    (subst (λ (m : ℕ). locks_of g (before m) ≤ locks_of g (w + 1) + 1) (sym mine) (locks_after (before n) g w taken)))
    (λ (other : k ≢ n). let same : locks_of g (if k == n then freed else now k) ≡ locks_of g (before k) = ap (locks_of g) (passes_by now n freed k other ∙ others other) in omega arith)
    (cases_eq k n)

-- one that is taken leaves the others all their locks
once_left : {g : ℕ} {before now : ℕ → ℕ} {n w : ℕ} → IsLockedOnce g before now n w → IsLeft g before now n w
once_left {g} once = record { taken = once.taken; others = λ m other. let same = ap (locks_of g) (once.others m other) in omega arith }

module _ (g : ℕ) (before now : ℕ → ℕ) where
  abbrev Same : Type 0
  Same = (m : ℕ) → now m ≡ before m

  loose_same : (leaving : Bool) (s : Stage) → IsLoose s → HasLocked g before now leaving s → Same
  loose_same leaving s loose has = each_loose (λ s. HasLocked g before now leaving s → Same) (λ has. has) (λ n v w k has. has) (λ n v has. has) (λ n v sight told has. has) s loose has

  idle_after : (after : Bool) (r : Option (Once Placed)) → Same → AfterLocks g before now after Idle r
  idle_after after None same = same
  idle_after after (Some answer) same = keeps g before now same

  -- its node is held by one lock more, whatever it has to do
  holds_once : (after : Bool) (n w : ℕ) → IsLockedOnce g before now n w → HoldsLocked g before now after n w
  holds_once false n w once = once
  holds_once true n w once = once_left once

  -- and is left so at last
  holds_left : (leaving : Bool) (n w : ℕ) → HoldsLocked g before now leaving n w → IsLeft g before now n w
  holds_left false n w once = once_left once
  holds_left true n w left = left

  -- a step that isn't answered is made while it has more to do
  still_once : (leaving : Bool) (n w : ℕ) (h : Held) (t : Stage) (after : Bool) → PartsOnce (Holds n w h) leaving t after None → HoldsLocked g before now leaving n w → IsLockedOnce g before now n w
  still_once false n w h t after once has = has
  still_once true n w h t after once has = absurd (once.last refl tt refl)

  -- a step of a read leaves all locks
  loose_after : (after : Bool) (t : Stage) (r : Option (Once Placed)) → IsLoose t → ((m : ℕ) → now m ≡ before m) → AfterLocks g before now after t r
  loose_after after t (Some answer) loose same = keeps g before now same
  loose_after after Idle None loose same = same
  loose_after after (Saw n v w k) None loose same = same
  loose_after after (Wears n v) None loose same = same
  loose_after after (Reads n v k h) None loose same = same
  loose_after after (Holds n w h) None loose same = absurd loose
  loose_after after (Eyes n w h m v u free) None loose same = absurd loose
  loose_after after (Splits left fresh phase) None loose same = absurd loose
  loose_after after (Leaves left) None loose same = absurd loose
  loose_after after (Meets n w h right) None loose same = absurd loose
  loose_after after (Joins h left right pace) None loose same = absurd loose

  look_locks : {l : Layout} {s : Stage} {a : Action} {x : ℕ} {t : Stage} {r : Option (Once Placed)} (leaving after : Bool) → Look l g s a x t r → HasLocked g before now leaving s → PartsOnce s leaving t after r → AfterLocks g before now after t r
  look_locks leaving after (turns_back {s = s} loose here busy) has one = keeps g before now (loose_same leaving s loose has)
  look_locks leaving after (wears {s = s} loose here free worn) has one = loose_same leaving s loose has
  look_locks leaving after (roams at) has one = has
  look_locks leaving after (roams_status here) has one = has
  look_locks leaving after (is_worn at) has one = keeps g before now has
  look_locks leaving after (sees {s = s} loose here free unworn lock) has one = loose_same leaving s loose has
  look_locks leaving after (finds_live here is) has one = has
  look_locks leaving after (watches at positive live next learnt) has one = has
  look_locks leaving after (watches_next at low high ne live live' next leads learnt) has one = has
  look_locks leaving after (turns_away {s = s} {r = r} loose here up) has one = idle_after after r (loose_same leaving s loose has)
  look_locks leaving after (steps_back {s = s} {r = r} loose here up) has one = idle_after after r (loose_same leaving s loose has)
  look_locks leaving after (wanders {s = s} {r = r} loose here up) has one = idle_after after r (loose_same leaving s loose has)
  look_locks leaving after (peeks {n = n} {w = w} here unready) has one = holds_once after n w (still_once leaving n w _ _ after one has)
  look_locks leaving after (peeks_status {n = n} {w = w} here unready) has one = holds_once after n w (still_once leaving n w _ _ after one has)
  look_locks leaving after (eyes {n = n} {w = w} clean durable here nonzero free unworn lock) has one = still_once leaving n w _ _ after one has
  look_locks leaving after (eyes_free here is) has one = has
  look_locks leaving after (passes {n = n} {w = w} here) has one = holds_once after n w has
  look_locks leaving after (loses {n = n} {w = w} here other) has one = holds_once after n w has
  look_locks leaving after (misses other) has one = keeps g before now has
  look_locks leaving after (misses_read other small) has one = keeps g before now has
  look_locks leaving after (times {n = n} {w = w} clean below) has one = holds_once after n w (still_once leaving n w _ _ after one has)
  look_locks leaving after (learns {n = n} {w = w} at positive unready learnt) has one = holds_once after n w (still_once leaving n w _ _ after one has)
  look_locks leaving after (decides {n = n} {w = w} at positive clean durable about learnt decided) has one = holds_once after n w (still_once leaving n w _ _ after one has)
  look_locks leaving after (reads_on {s = s} {t = t} {r = r} k) has one = loose_after after t r (read_after k) (loose_same leaving s (read_before k) has)
  look_locks leaving after (glances {n = n} {w = w} at unready) has one = holds_once after n w (still_once leaving n w _ _ after one has)

-- it is taken from the word that it was
taken_from : (v was w g : ℕ) → v ≡ was → generation_of v ≤ g → (IsWorn v g → ⊥) → w ≡ locked_word g (kept_count v g) → IsTaken g was w
taken_from v was w g same known unworn lock = subst (λ (u : ℕ). IsTaken g u w) same (record { known = known; unworn = unworn; lock = lock })

-- one that had nothing more to do
left_so : (g : ℕ) (before now : ℕ → ℕ) (after : Bool) (n w : ℕ) → after ≡ true → IsLeft g before now n w → HoldsLocked g before now after n w
left_so g before now after n w is left = subst (λ b. HoldsLocked g before now b n w) (sym is) left

-- the second node is given back
parts_left : (g : ℕ) (before now : ℕ → ℕ) (n w r u freed : ℕ) → freed ≡ u + 1 → AreLocked g before now n w r u → IsLeft g before (λ k. if k == r then freed else now k) n w
parts_left g before now n w r u freed next has = record { taken = has.one; others = λ k not_left. freed_once before now r u freed k next has.two (λ other. has.others k not_left other) }

module _ {l : Layout} {g : ℕ} (before : ℕ → ℕ) (f : Facts) (caller index since : ℕ) (leaving after : Bool) where
  -- as it is taken, both are
  takes_both : (n w m v u : ℕ) → v ≡ f.version m → IsOwnLock g w → f.version n ≡ w → {h : Held} {free : Bool} → SureEyes l g f h m v u free → IsLockedOnce g before f.version n w
      → AreLocked g before (λ k. if k == m then u else f.version k) n w m u
  takes_both n w m v u found own stands sees_it has =
      let apart : m ≢ n = (λ same_node. unfree w g own (subst (λ (y : ℕ). IsFree y g) (found ∙ ap f.version same_node ∙ stands) sees_it.word.free)) in
      let was : v ≡ before m = found ∙ has.others m apart in
      record {
        one = has.taken;
        two = taken_from v (before m) u g was sees_it.word.known sees_it.word.unworn sees_it.word.lock;
        others = λ k not_n not_m. passes_by f.version m u k not_m ∙ has.others k not_n;
      }

  step_locks : {s : Stage} {a : Action} {x : ℕ} {t : Stage} {r : Option (Once Placed)} → (k : Step l g s a x t r) → Gives k f → Sure l g f caller index since s
      → HasLocked g before f.version leaving s → PartsOnce s leaving t after r → AfterLocks g before (fact_after k f caller index).version after t r
  step_locks (looks look) e knows has one = look_locks g before f.version leaving after look has one
  step_locks (locks {n = n} {v = v} {w = w} same named live between) e knows has one =
      let was : v ≡ before n = sym same ∙ e ∙ has n in
      holds_once g before (λ m. if m == n then w else f.version m) after n w (record {
        taken = taken_from v (before n) w g was knows.word.known knows.word.unworn knows.word.lock;
        others = λ m other. passes_by f.version n w m other ∙ has m;
      })
  step_locks (locks_read {n = n} {v = v} {w = w} same named live between unworn taken small) e knows has one =
      let was : v ≡ before n = sym same ∙ e ∙ has n in
      holds_once g before (λ m. if m == n then w else f.version m) after n w (record {
        taken = taken_from v (before n) w g was knows.known unworn taken;
        others = λ m other. passes_by f.version n w m other ∙ has m;
      })
  step_locks (stores {n = n} {w = w} at content small clean soils learnt means) e knows has one = holds_once g before f.version after n w (still_once g before f.version leaving n w _ _ after one has)
  step_locks (commits {n = n} {w = w} at content small clean durable soiled old about learnt means) e knows has one = holds_once g before f.version after n w (still_once g before f.version leaving n w _ _ after one has)
  step_locks (drains {n = n} {w = w} at small unready hand cleans) e knows has one = holds_once g before f.version after n w (still_once g before f.version leaving n w _ _ after one has)
  step_locks (counts {n = n} {w = w} durable ready pending unplaced) e knows has one = holds_once g before f.version after n w (still_once g before f.version leaving n w _ _ after one has)
  step_locks (unlocks {n = n} {w = w} {f = freed} next pending durable unready answers) e knows has one = λ m.
      let held = holds_left g before f.version leaving n w has in
      ⊎_elim
      (λ (mine : m ≡ n). freed_once before f.version n w freed m next held.taken (λ other. absurd (other mine)))
      (λ (other : m ≢ n). let kept = held.others m other in let same = ap (locks_of g) (passes_by f.version n freed m other) in omega arith)
      (cases_eq m n)
  step_locks (claims {n = n} {w = w} {m = m} {v = v} {u = u} may here same) e knows has one = takes_both n w m v u (sym same ∙ e) knows.0.lock knows.0.stands knows.1 has
  step_locks (publishes {freed = freed} {left = left} {fresh = fresh} next clean clean') e knows has one = parts_left g before f.version left.node left.lock fresh.node fresh.lock freed next has
  step_locks (leaves {freed = freed} {left = left} next) e knows has one = λ m. ⊎_elim
      (λ (mine : m ≡ left.node). freed_once before f.version left.node left.lock freed m next has.taken (λ other. absurd (other mine)))
      (λ (other : m ≢ left.node). let kept = has.others m other in let same = ap (locks_of g) (passes_by f.version left.node freed m other) in omega arith)
      (cases_eq m left.node)
  step_locks (splits (fills at positive small within soils told)) e knows has one = has
  step_locks (splits (lights here leads)) e knows has one = has
  step_locks (splits (switches here small durable soiled cut told means)) e knows has one = has
  step_locks (splits (glances_left at learnt)) e knows has one = has
  step_locks (splits (glances_fresh at)) e knows has one = has
  step_locks (splits (drains_left at small hand cleans)) e knows has one = has
  step_locks (splits (drains_fresh at small hand cleans)) e knows has one = has
  step_locks (splits (trims here small durable soiled anchor told means)) e knows has one = has
  step_locks (merges (meets {n = n} {w = w} {m = m} {v = v} {u = u} here same may next)) e knows has one = takes_both n w m v u (sym same ∙ e) knows.0.lock knows.0.stands knows.1 has
  step_locks (merges (knows_own at positive learnt)) e knows has one = has
  step_locks (merges (knows_right at positive told)) e knows has one = has
  step_locks (merges (copies at content small soils learnt means)) e knows has one = has
  step_locks (merges (takes_up at)) e knows has one = has
  step_locks (merges (puts_down at small hand cleans)) e knows has one = has
  step_locks (merges (parts {n = n} {w = w} {freed = freed} {right = right} next)) e knows has one =
      left_so g before _ after n w (one.parts tt tt) (parts_left g before f.version n w right.node right.lock freed next has)
  step_locks (merges (gathers small durable soiled told gathered)) e knows has one = has
  step_locks (merges (joins small durable soiled next told)) e knows has one = has
  step_locks (merges (glances_joined at learnt)) e knows has one = has
  step_locks (merges (drains_joined at small hand cleans)) e knows has one = has
  step_locks (merges (retires durable)) e knows has one = has
  step_locks (merges (yields {freed = freed} {left = left} {right = right} next durable)) e knows has one =
      left_so g before _ after left.node left.lock (one.parts tt tt) (parts_left g before f.version left.node left.lock right.node right.lock freed next has)

pub locks_go : LocksGo
locks_go before w i p leaving action x next after answer lawful there has one (on_nodes k) told =
    let knows = lawful.sure i p there in
    subst (λ (φ : Facts). AfterLocks w.generation before φ.version after next answer)
    (sym (facts_step w.words w.base w.history p.caller p.index p.since k lawful.row lawful.list told knows))
    (step_locks before (facts w) p.caller p.index p.since leaving after k (gives w.words w.base w.history p.caller p.index p.since k lawful.clock told knows) knows has one)
locks_go before w i p leaving action x next after answer lawful there has one (beside none is) told =
    subst (λ (φ : Facts). HasLocked w.generation before φ.version after p.stage) (sym (beside_keeps w i p action lawful there none is).facts)
    (on_still w.generation before (facts w).version leaving after p.stage one has)
  where
    on_still : (g : ℕ) (before now : ℕ → ℕ) (leaving after : Bool) (s : Stage) → PartsOnce s leaving s after None → HasLocked g before now leaving s → HasLocked g before now after s
    on_still g before now leaving after Idle once has = has
    on_still g before now leaving after (Saw n v w k) once has = has
    on_still g before now leaving after (Wears n v) once has = has
    on_still g before now leaving after (Reads n v sight told) once has = has
    on_still g before now leaving after (Holds n w h) once has = holds_once g before now after n w (still_once g before now leaving n w h (Holds n w h) after once has)
    on_still g before now leaving after (Eyes n w h m v u free) once has = has
    on_still g before now leaving after (Splits left fresh phase) once has = has
    on_still g before now leaving after (Leaves left) once has = has
    on_still g before now leaving after (Meets n w h right) once has = has
    on_still g before now leaving after (Joins h left right pace) once has = has

-- The words of the nodes that it holds are those with which it took their locks.
module _ (g : ℕ) (before now : ℕ → ℕ) where
  taken_now : (n w m : ℕ) → now n ≡ w → IsTaken g (before n) w → m ≡ n → locks_of g (before m) ≤ locks_of g (now m) + 1
  taken_now n w m stands taken mine =
      let same : locks_of g (now m) ≡ locks_of g (before m) = ap (locks_of g) (ap now mine ∙ stands) ∙ lock_keeps (before n) g w taken ∙ ap (λ (k : ℕ). locks_of g (before k)) (sym mine) in
      omega (arith, same)

  left_now : (n w : ℕ) → now n ≡ w → IsLeft g before now n w → (m : ℕ) → locks_of g (before m) ≤ locks_of g (now m) + 1
  left_now n w stands left m = ⊎_elim (λ (mine : m ≡ n). taken_now n w m stands left.taken mine) (λ (other : m ≢ n). left.others m other) (cases_eq m n)

  both_now : (n w r u : ℕ) → now n ≡ w → now r ≡ u → AreLocked g before now n w r u → (m : ℕ) → locks_of g (before m) ≤ locks_of g (now m) + 1
  both_now n w r u stands stands' both m = ⊎_elim
      (λ (mine : m ≡ n). taken_now n w m stands both.one mine)
      (λ (other : m ≢ n). ⊎_elim
      (λ (mine : m ≡ r). taken_now r u m stands' both.two mine)
      (λ (third : m ≢ r). let same = ap (locks_of g) (both.others m other third) in omega (arith, same))
      (cases_eq m r))
      (cases_eq m n)

pub stages_lose : StagesLose
stages_lose l g before f caller index since leaving Idle knows has m = keeps g before f.version has m
stages_lose l g before f caller index since leaving (Saw n v w k) knows has m = keeps g before f.version has m
stages_lose l g before f caller index since leaving (Wears n v) knows has m = keeps g before f.version has m
stages_lose l g before f caller index since leaving (Reads n v sight told) knows has m = keeps g before f.version has m
stages_lose l g before f caller index since leaving (Holds n w h) knows has m = left_now g before f.version n w knows.stands (holds_left g before f.version leaving n w has) m
stages_lose l g before f caller index since leaving (Eyes n w h e v u free) knows has m = left_now g before f.version n w knows.0.stands (once_left has) m
stages_lose l g before f caller index since leaving (Splits left fresh phase) knows has m = both_now g before f.version left.node left.lock fresh.node fresh.lock knows.full.stands knows.new.stands has m
stages_lose l g before f caller index since leaving (Leaves left) knows has m = left_now g before f.version left.node left.lock knows.grip.stands has m
stages_lose l g before f caller index since leaving (Meets n w h right) knows has m = both_now g before f.version n w right.node right.lock knows.0.stands knows.1.grip.stands has m
stages_lose l g before f caller index since leaving (Joins h left right pace) knows has m = both_now g before f.version left.node left.lock right.node right.lock knows.one.stands knows.other.stands has m

pub fewest_lose : FewestLose
fewest_lose g before now zero each = omega arith
fewest_lose g before now (suc n) each =
    let here = each n in
    let rest = fewest_lose g before now n each in
    omega arith

no_locks : (v g : ℕ) → IsWorn v g → locks_of g v ≡ 0
no_locks v g is = let kept = kept_count-same v g is.0 in let last = is.1 in omega arith

pub worn_has_none : WornHasNone
worn_has_none g version n zero less worn = absurd (omega arith)
worn_has_none g version n (suc nodes) less worn = ⊎_elim
    (λ (before : n < nodes). let none = worn_has_none g version n nodes before worn in omega arith)
    (λ (last : nodes ≤ n). let same : n ≡ nodes = omega arith in let none : locks_of g (version nodes) ≡ 0 = ap (λ (k : ℕ). locks_of g (version k)) (sym same) ∙ no_locks (version n) g worn in omega arith)
    (cases_lt n nodes)
