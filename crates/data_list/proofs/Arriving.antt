-- A walk that makes its loads one after another.
use Rattle.std.proofs.Common.{◌≡◌, ◌≢◌, ℕ, ◌+◌, ◌*◌, ◌<◌, ◌≤◌, ◌==◌, Bool, true, false, cond, ltb, nat_lt, IsTrue, ◌↔◌, List}
use Rattle.std.proofs.Common.{Option, Some, None, ap, ap₂, sym, refl, subst, ◌∙◌, arith}
use Rattle.std.proofs.lemmas.Bool.{both_ways, eq-eqb, ne_eqb, lt-ltb, le-ltb}
use Rattle.pm_words.specs.Codes.{live_status, gone_status}
use Rattle.pm_words.specs.declared.machine.Turn.TheVariants.{Go, Done}
use Rattle.pm_words.specs.declared.again.Again.TheVariants.{Locked, Hops}
use Rattle.version_lock.specs.Versions.{IsFree, is_free_word}
use Rattle.version_lock.proofs.WordTests.{free_word, free_is}
use Rattle.pm_words.specs.declared.action.Action.TheVariants.{Load}
use Rattle.pm_words.specs.Images.{Row}
use Rattle.pm_words.specs.Locations.{row_words}
use Rattle.pm_words.specs.Rows.{CanAct, acted, got}
use Rattle.pm_words.specs.declared.machine.Turn.{Turn}
use Rattle.pm_words.specs.Offsets.{anchor_offset}
use Rattle.data_node.specs.Lists.{number_of}
use Rattle.call_stages.specs.Kinds.{word_address, version_address}
use Rattle.machine_runs.specs.Runs.{begins, Bursts, IsOnRun, MayGo}
use Rattle.machine_runs.proofs.Running.{turn_bursts, third_can, thrice_bursts, burst_goes, burst_behind, run_may}
use Rattle.data_list.specs.declared.target.Walked.{Walked}
use Rattle.data_list.specs.declared.target.Walked.TheVariants as walked
use Rattle.data_list.specs.declared.walk.Walk.{Walk}
use Rattle.data_list.specs.declared.walk.WalkAt.{WalkAt}
use Rattle.data_list.specs.declared.walk.WalkAt.TheVariants as at
use Rattle.data_list.specs.Walks.{walk_asks, walk_turned, walk_left, walk_at_asks, walk_at_turned, walk_takes, IsWalk}
use Rattle.data_list.specs.Walks.{landing, loads_at, hops_to, saw_version, saw_status, saw_anchor, saw_next, saw_high, target, target_at}
use Rattle.data_list.specs.declared.target.Next.{Next}
use Rattle.data_list.specs.Arrivals.{MayWalk, WalkBursts, Arrives, Leads, anchor_loaded, anchor_at}
use Rattle.data_list.proofs.Loading.{walk_adds_nothing, walk_fewer}

-- it is a walk there, and may load what it asks for
pub walk_is : (row : Row) (walk : Walk) (here : WalkAt) → MayWalk row walk here → IsWalk (record walk { at = here })
walk_is row walk here may = ((may _ row.words 0 begins).1).0

pub walk_can : (row : Row) (walk : Walk) (here : WalkAt) {address : ℕ} → MayWalk row walk here
    → Load address ≡ walk_at_asks walk.layout walk.node here → CanAct row.layout row.words (Load address)
walk_can row walk here may asked =
    subst (CanAct row.layout row.words) (sym asked) (may _ row.words 0 begins).0

-- one load
pub load_bursts : {old after : Row} (walk : Walk) (here : WalkAt) {address number begun later : ℕ}
    → MayWalk old walk here → Load address ≡ walk_at_asks walk.layout walk.node here
    → after ≡ record old { words = acted old.layout old.words (Load address) }
    → number ≡ got old.layout old.words (Load address) → later ≡ begun + 1
    → WalkBursts old after walk here (walk_at_turned (record walk { at = here }) here number) begun later
load_bursts walk here may asked acts given ticks =
    turn_bursts walk_takes walk_adds_nothing (λ w x takes. walk_fewer w x) (record walk { at = here }) may asked acts
    given ticks

-- what comes behind loads that went on
pub goes_on : {old now after : Row} (walk : Walk) (here next : WalkAt) {turn end : Turn Walk Walked}
    {begun steps later : ℕ} → WalkBursts old now walk here turn begun steps
    → turn ≡ Go (record walk { at = next })
    → WalkBursts now after walk next end steps later → WalkBursts old after walk here end begun later
goes_on walk here next b on more = burst_behind (burst_goes b on) more

pub goes_may : {old now : Row} (walk : Walk) (here next : WalkAt) {turn : Turn Walk Walked} {begun steps : ℕ}
    → MayWalk old walk here → WalkBursts old now walk here turn begun steps → turn ≡ Go (record walk { at = next })
    → MayWalk now walk next
goes_may walk here next may b on = run_may walk_takes may (burst_goes b on)

-- the words of an anchor
module _ {old : Row} (walk : Walk) (version : ℕ) (may : MayWalk old walk (at.First version)) where
  pub low_within : word_address walk.layout walk.node (anchor_offset + 2) < row_words old.layout
  low_within =
      (third_can walk_takes walk_adds_nothing (λ w x takes. walk_fewer w x) 0 (record walk { at = at.First version })
      (λ x. record walk { at = at.Second version x }) (λ x y. record walk { at = at.Third version x y }) _ _ _ refl
      (λ x. refl) (λ x y. refl) (λ x. refl) (λ x y. refl) may).0

  pub low_bursts : {after : Row} {key : List ℕ} {begun later : ℕ}
      → after ≡ record old { words = anchor_loaded walk.layout walk.node old.layout old.words }
      → key ≡ anchor_at walk.layout walk.node old.layout old.words → later ≡ begun + 3
      → WalkBursts old after walk (at.First version) (saw_anchor walk version key) begun later
  low_bursts {after} {begun = begun} {later} acts is ticks =
      subst (λ (k : List ℕ). WalkBursts old after walk (at.First version) (saw_anchor walk version k) begun later)
      (sym is)
      (thrice_bursts walk_takes walk_adds_nothing (λ w x takes. walk_fewer w x) begun
      (record walk { at = at.First version }) (λ x. record walk { at = at.Second version x })
      (λ x y. record walk { at = at.Third version x y }) _ _ _ refl (λ x. refl) (λ x y. refl) (λ x. refl)
      (λ x y. refl) may acts refl ticks)

module _ {old : Row} (walk : Walk) (version : ℕ) (low : List ℕ) (next : ℕ)
    (may : MayWalk old walk (at.HighFirst version low next)) where
  pub high_within : word_address walk.layout next (anchor_offset + 2) < row_words old.layout
  high_within =
      (third_can walk_takes walk_adds_nothing (λ w x takes. walk_fewer w x) 0
      (record walk { at = at.HighFirst version low next }) (λ x. record walk { at = at.HighSecond version low next x })
      (λ x y. record walk { at = at.HighThird version low next x y }) _ _ _ refl (λ x. refl) (λ x y. refl) (λ x. refl)
      (λ x y. refl) may).0

  pub high_bursts : {after : Row} {key : List ℕ} {begun later : ℕ}
      → after ≡ record old { words = anchor_loaded walk.layout next old.layout old.words }
      → key ≡ anchor_at walk.layout next old.layout old.words → later ≡ begun + 3
      → WalkBursts old after walk (at.HighFirst version low next) (saw_high walk version low next key) begun later
  high_bursts {after} {begun = begun} {later} acts is ticks =
      subst (λ (k : List ℕ). WalkBursts old after walk (at.HighFirst version low next)
      (saw_high walk version low next k) begun later)
      (sym is)
      (thrice_bursts walk_takes walk_adds_nothing (λ w x takes. walk_fewer w x) begun
      (record walk { at = at.HighFirst version low next }) (λ x. record walk { at = at.HighSecond version low next x })
      (λ x y. record walk { at = at.HighThird version low next x y }) _ _ _ refl (λ x. refl) (λ x y. refl) (λ x. refl)
      (λ x y. refl) may acts refl ticks)

-- what its turns come to at the target
pub arrives : {old after : Row} (walk : Walk) (here : WalkAt) (version : ℕ) (low : List ℕ) (next : Option Next)
    {turn : Turn Walk Walked} {begun later : ℕ} → WalkBursts old after walk here turn begun later
    → turn ≡ target walk version low next → Arrives old after (record walk { at = here }) walk version begun later
arrives {old} {after} walk here version low next {begun = begun} {later} b is = record {
  target = target_at walk version low next;
  here = record { node = refl; version_is = refl; hops = refl };
  burst = subst (λ (t : Turn Walk Walked). WalkBursts old after walk here t begun later) is b;
}

-- what follows of what follows
pub leads_so : {old now : Row} (after : Row) (walk : Walk) (here next : WalkAt) (version : ℕ) {turn : Turn Walk Walked}
    (to : Option ℕ) {begun steps : ℕ} (later : ℕ) → WalkBursts old now walk here turn begun steps
    → turn ≡ Go (record walk { at = next }) → Leads now after walk next version to steps later
    → Leads old after walk here version to begun later
leads_so after walk here next version (Some to) later b on more = goes_on walk here next b on more
leads_so after walk here next version None later b on more = record {
  target = more.target;
  here = more.here;
  burst = goes_on walk here next b on more.burst;
}

-- what the number of the next node makes of it
module _ (walk : Walk) (version : ℕ) (low : List ℕ) (next nodes : ℕ) where
  abbrev by_tests : Bool → Bool → Turn Walk Walked
  by_tests none within =
      cond none (target walk version low None)
      (cond within (loads_at walk (at.HighFirst version low next)) (hops_to walk 0))

  pub next_none : next ≡ 0 → saw_next walk version low next ≡ target walk version low None
  next_none none = ap (λ (b : Bool). by_tests b (ltb next walk.layout.nodes)) (eq-eqb next 0 none)

  pub next_some : next ≢ 0 → nodes ≡ walk.layout.nodes → next < nodes
      → saw_next walk version low next ≡ Go (record walk { at = at.HighFirst version low next })
  next_some some is less = ap₂ by_tests (ne_eqb next 0 some) (lt-ltb next walk.layout.nodes (omega (arith, is, less)))

  pub next_past : 1 ≤ walk.layout.nodes → nodes ≡ walk.layout.nodes → nodes ≤ next
      → saw_next walk version low next ≡ hops_to walk 0
  next_past some is less =
      ap₂ by_tests (ne_eqb next 0 (λ none. omega (arith, some, is, less)))
      (le-ltb next walk.layout.nodes (omega (arith, is, less)))

-- and what the status does
module _ (walk : Walk) (version status : ℕ) where
  abbrev by_status : Bool → Bool → Turn Walk Walked
  by_status live gone =
      cond live (loads_at walk (at.First version)) (cond gone (loads_at walk at.Prev) (hops_to walk 0))

  pub status_live : status ≡ live_status
      → saw_status walk version status ≡ Go (record walk { at = at.First version })
  status_live is = ap (λ (b : Bool). by_status b (status == gone_status)) (eq-eqb status live_status is)

  pub status_gone : status ≡ gone_status → saw_status walk version status ≡ Go (record walk { at = at.Prev })
  status_gone is = ap₂ by_status (ne_eqb status live_status (λ live. omega (arith, is, live))) (eq-eqb status gone_status is)

  pub status_other : status ≢ live_status → status ≢ gone_status
      → saw_status walk version status ≡ hops_to walk 0
  status_other not_live not_gone = ap₂ by_status (ne_eqb status live_status not_live) (ne_eqb status gone_status not_gone)

-- what the anchor makes of it
module _ (walk : Walk) (version : ℕ) (low : List ℕ) (below : Bool)
    (is : below ≡ nat_lt (number_of walk.key) (number_of low)) where
  abbrev by_anchor : Bool → Turn Walk Walked
  by_anchor b = cond b (loads_at walk at.Prev) (loads_at walk (at.Next version low))

  pub anchor_above : below ≡ true → saw_anchor walk version low ≡ Go (record walk { at = at.Prev })
  anchor_above so = ap by_anchor (sym is ∙ so)

  pub anchor_here : below ≡ false → saw_anchor walk version low ≡ Go (record walk { at = at.Next version low })
  anchor_here so = ap by_anchor (sym is ∙ so)

-- and what the anchor of the next node does
module _ (walk : Walk) (version : ℕ) (low : List ℕ) (next : ℕ) (high : List ℕ) (below : Bool)
    (is : below ≡ nat_lt (number_of walk.key) (number_of high)) where
  abbrev by_high : Bool → Turn Walk Walked
  by_high b = cond b (target walk version low (Some (record { node = next; anchor = high }))) (hops_to walk next)

  pub high_above : below ≡ true
      → saw_high walk version low next high ≡ target walk version low (Some (record { node = next; anchor = high }))
  high_above so = ap by_high (sym is ∙ so)

  pub high_below : below ≡ false → saw_high walk version low next high ≡ hops_to walk next
  high_below so = ap by_high (sym is ∙ so)

-- and what the version word does
free_same : (word generation : ℕ) (free : Bool) → IsTrue free ↔ IsFree word generation
    → is_free_word word generation ≡ free
free_same word generation true told = free_is word generation (told.0 refl)
free_same word generation false told =
    elim (is_free_word word generation) as (λ b. is_free_word word generation ≡ b → b ≡ false) [
      | true ↦ λ is. absurd (both_ways false refl (told.1 (free_word word generation is)))
      | false ↦ λ is. refl
    ] refl

module _ (walk : Walk) (word : ℕ) (free : Bool) (told : IsTrue free ↔ IsFree word walk.generation) where
  abbrev by_version : Bool → Turn Walk Walked
  by_version b = cond b (loads_at walk (at.Status word)) (Done (walked.Again (Locked walk.node word)))

  pub version_free : free ≡ true → saw_version walk word ≡ Go (record walk { at = at.Status word })
  version_free so = ap by_version (free_same word walk.generation free told ∙ so)

  pub version_taken : free ≡ false → saw_version walk word ≡ Done (walked.Again (Locked walk.node word))
  version_taken so = ap by_version (free_same word walk.generation free told ∙ so)

-- so a load of it goes on where it is free
pub version_bursts : {old after : Row} (walk : Walk) {address number begun later : ℕ} → MayWalk old walk at.Version
    → address ≡ version_address walk.layout walk.node
    → after ≡ record old { words = acted old.layout old.words (Load address) }
    → number ≡ got old.layout old.words (Load address) → later ≡ begun + 1
    → WalkBursts old after walk at.Version (saw_version walk number) begun later
version_bursts walk may asked acts given ticks =
    load_bursts walk at.Version may (ap (λ (a : ℕ). Load a) asked) acts given ticks

free_bursts : {old after : Row} (walk : Walk) {address number begun later : ℕ} → MayWalk old walk at.Version
    → address ≡ version_address walk.layout walk.node
    → after ≡ record old { words = acted old.layout old.words (Load address) }
    → number ≡ got old.layout old.words (Load address) → later ≡ begun + 1
    → (free : Bool) → IsTrue free ↔ IsFree number walk.generation → free ≡ true
    → WalkBursts old after walk at.Version (Go (record walk { at = at.Status number })) begun later
free_bursts {old} {after} walk {number = number} {begun} {later} may asked acts given ticks free told so =
    subst (λ (t : Turn Walk Walked). WalkBursts old after walk at.Version t begun later)
    (version_free walk number free told so) (version_bursts walk may asked acts given ticks)

-- a run that has come to a version word
module _ {old now : Row} {first : Walk} (walk : Walk) {begun steps : ℕ}
    (may : MayGo walk_asks walk_turned walk_left walk_takes old.layout old.words first)
    (on : IsOnRun walk_asks walk_turned walk_left old now first (record walk { at = at.Version }) begun steps) where
  pub hop_is : IsWalk (record walk { at = at.Version })
  hop_is = walk_is now walk at.Version (run_may walk_takes may on)

  module _ {after : Row} {address number middle : ℕ} (asked : address ≡ version_address walk.layout walk.node)
      (acts : after ≡ record now { words = acted now.layout now.words (Load address) })
      (given : number ≡ got now.layout now.words (Load address)) (ticks : middle ≡ steps + 1) (free : Bool)
      (told : IsTrue free ↔ IsFree number walk.generation) (so : free ≡ true) where
    loads : WalkBursts now after walk at.Version (Go (record walk { at = at.Status number })) steps middle
    loads = free_bursts walk (run_may walk_takes may on) asked acts given ticks free told so

    -- it may go on where that is free, and comes to what it comes to from there
    pub free_may : MayWalk after walk (at.Status number)
    free_may = goes_may walk at.Version (at.Status number) (run_may walk_takes may on) loads refl

    pub free_behind : {last : Row} {turn : Turn Walk Walked} {later : ℕ}
        → (MayWalk after walk (at.Status number) → WalkBursts after last walk (at.Status number) turn middle later)
        → Bursts walk_asks walk_turned walk_left old last first turn begun later
    free_behind more = burst_behind on (goes_on walk at.Version (at.Status number) loads refl (more free_may))

-- a hop begins at the version word
abbrev hop_at : Turn Walk Walked → WalkAt
hop_at (Go walk) = walk.at
hop_at (Done walked) = at.Version

hops_begin : (walk : Walk) (to : ℕ) → hop_at (hops_to walk to) ≡ at.Version
hops_begin walk to =
    elim (ltb (walk.hops + 1) (2 * walk.layout.nodes)) as (λ b. hop_at (cond b (Go (record walk {
      node = landing walk to;
      hops = walk.hops + 1;
      at = at.Version;
    })) (Done (walked.Again (Hops (walk.hops + 1))))) ≡ at.Version) [ true ↦ refl | false ↦ refl ]

pub hop_begins : (walk next : Walk) (to : ℕ) → hops_to walk to ≡ Go next
    → hops_to walk to ≡ Go (record next { at = at.Version })
hop_begins walk next to on =
    on ∙ (λ k. Go (record next { at = (ap hop_at (sym on) ∙ hops_begin walk to) k }))
