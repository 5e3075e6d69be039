-- The line of a write's last store, made durable word by word, as turns of the end of that write.
use Rattle.std.proofs.Common.{◌≡◌, ℕ, ◌+◌, ◌-◌, ◌*◌, ◌<◌, ◌≤◌, Bool, true, false, cond, ltb, List, refl, ap, sym, subst}
use Rattle.std.proofs.Common.{arith}
use Rattle.std.proofs.lemmas.Bool.{lt-ltb}
use Rattle.std.specs.Prelude.{Some, None}
use Rattle.pm_words.specs.declared.layout.Layout.{Layout}
use Rattle.pm_words.specs.declared.action.Action.{Action}
use Rattle.pm_words.specs.declared.action.Action.TheVariants.{Load, Drain}
use Rattle.pm_words.specs.declared.fence.FenceAt.TheVariants as fence_at
use Rattle.pm_words.specs.declared.machine.Turn.{Turn}
use Rattle.pm_words.specs.declared.machine.Turn.TheVariants.{Go}
use Rattle.pm_words.specs.Fences.{fence_start}
use Rattle.pm_words.specs.Images.{Row}
use Rattle.pm_words.specs.Locations.{node_words}
use Rattle.pm_words.specs.Rows.{CanAct, acted, got}
use Rattle.pm_words.specs.Turns.{GoesBelow}
use Rattle.call_stages.specs.declared.once.Once.{Once}
use Rattle.call_stages.specs.declared.once.Placed.{Placed}
use Rattle.machine_runs.specs.Runs.{Goes, begins, goes, Bursts, IsOnRun, MayGo}
use Rattle.machine_runs.proofs.Running.{run_begins, run_can, run_goes, run_takes}
use Rattle.node_ops.specs.declared.finish.Finish.{Finish}
use Rattle.node_ops.specs.declared.finish.FinishAt.{FinishAt}
use Rattle.node_ops.specs.declared.finish.FinishAt.TheVariants as at
use Rattle.node_ops.specs.Calls.{IsCall, call_address}
use Rattle.node_ops.specs.FinishSteps.{IsFinish, IsFinishAt, finish_asks, finish_fenced, finish_turned, finish_left}
use Rattle.node_ops.specs.FinishSteps.{finish_at_left, finish_takes}

-- a run of some turns is a burst that goes on
module _ {M A : Type 0} {asks : M → Action} {turned : M → ℕ → Turn M A} {left : M → ℕ} where
  goes_bursts : {l : Layout} {words : List ℕ} {first machine : M} {now : List ℕ} {turns : ℕ}
      → Goes asks turned left l words first machine now turns → 0 < turns → (begun ended : ℕ) → ended ≡ begun + turns
      → Bursts asks turned left (record { layout = l; words = words }) (record { layout = l; words = now }) first
      (Go machine) begun ended
  goes_bursts begins some begun ended counted = absurd (omega (arith, some))
  goes_bursts (goes {machine = m} {now = now} {turns = k} before adds on less) some begun ended counted = record {
    last = m;
    now = now;
    turns = k;
    before = before;
    adds = adds;
    row = refl;
    ends = sym on;
    fewer = less;
    steps = omega (arith, counted);
  }

  pub run_bursts : {old now : Row} {first machine : M} {begun steps : ℕ}
      → IsOnRun asks turned left old now first machine begun steps → begun < steps
      → Bursts asks turned left old now first (Go machine) begun steps
  run_bursts {old} {now} {first} {machine} {begun} {steps} on some =
      subst (λ (l : Layout). Bursts asks turned left old (record { layout = l; words = now.words }) first (Go machine)
      begun steps) (sym on.layout) (goes_bursts on.before (omega (arith, some, on.counted)) begun steps on.counted)

-- the state in which so many words of the line are durable, where there are more words or none
abbrev line_at : ℕ → ℕ → Bool → FinishAt
line_at line word true = at.Fence line (record { word = word; at = fence_at.Load })
line_at line word false = at.Add

abbrev pub flushed : Finish → ℕ → ℕ → Finish
flushed finish line word = record finish { at = line_at line word (ltb word 8) }

-- it loads a word of the line, and has it in hand
abbrev loading : Finish → ℕ → ℕ → Finish
loading finish line word = record finish { at = at.Fence line (record { word = word; at = fence_at.Load }) }

abbrev draining : Finish → ℕ → ℕ → ℕ → Finish
draining finish line word value =
    record finish { at = at.Fence line (record { word = word; at = fence_at.Drain value }) }

flushed_on : (finish : Finish) (line word : ℕ) → word < 8 → flushed finish line word ≡ loading finish line word
flushed_on finish line word more = ap (λ (b : Bool). record finish { at = line_at line word b }) (lt-ltb word 8 more)

drained : (finish : Finish) (line word value number : ℕ)
    → finish_turned (draining finish line word value) number ≡ Go (flushed finish line (word + 1))
drained finish line word value number =
    elim (ltb (word + 1) 8) as (λ b.
    finish_fenced (draining finish line word value) line
    (cond b (Some (record { word = word + 1; at = fence_at.Load })) None)
    ≡ Go (record finish { at = line_at line (word + 1) b })) [
      | true ↦ refl
      | false ↦ refl
    ]

drained_fewer : (finish : Finish) (line word value number : ℕ) → word < 8
    → GoesBelow {A = Once Placed} finish_left (finish_left (draining finish line word value))
    (finish_turned (draining finish line word value) number)
drained_fewer finish line word value number within =
    subst (GoesBelow {A = Once Placed} finish_left (finish_left (draining finish line word value)))
    (sym (drained finish line word value number))
    (elim (ltb (word + 1) 8) as (λ b. finish_at_left (line_at line (word + 1) b) < 15 - 2 * word + 2) [
      | true ↦ omega arith
      | false ↦ omega arith
    ])

-- the end of a write whose line is to be made durable as a whole
module _ (finish : Finish) (line : ℕ) (is : finish.at ≡ at.Fence line fence_start) {old : Row}
    (may : MayGo finish_asks finish_turned finish_left finish_takes old.layout old.words finish) where
  flush_sound : IsFinish finish
  flush_sound = (run_takes finish_takes may (run_begins old finish 0) refl refl).0

  pub flush_call : IsCall finish.call
  flush_call = flush_sound.call

  pub flush_within : line + 8 ≤ node_words finish.call.view.layout
  flush_within = (subst (IsFinishAt finish.call) is flush_sound.here).0

  pub flush_begins : (steps : ℕ)
      → IsOnRun finish_asks finish_turned finish_left old old finish (flushed finish line 0) steps steps
  flush_begins steps =
      subst (λ (f : Finish). IsOnRun finish_asks finish_turned finish_left old old finish f steps steps)
      (ap (λ (a : FinishAt). record finish { at = a }) is) (run_begins old finish steps)

  module _ (word : ℕ) (within : word < 8) {now : Row} {begun steps : ℕ}
      (on : IsOnRun finish_asks finish_turned finish_left old now finish (flushed finish line word) begun steps)
      {address : ℕ} (there : address ≡ call_address finish.call (line + word)) where
    word_on : IsOnRun finish_asks finish_turned finish_left old now finish (loading finish line word) begun steps
    word_on =
        subst (λ (f : Finish). IsOnRun finish_asks finish_turned finish_left old now finish f begun steps)
        (flushed_on finish line word within) on

    pub word_loads : CanAct now.layout now.words (Load address)
    word_loads = run_can finish_takes may word_on (ap (λ (n : ℕ). Load n) there)

    module _ {loaded : Row} {value after : ℕ}
        (acts : loaded ≡ record now { words = acted now.layout now.words (Load address) })
        (given : value ≡ got now.layout now.words (Load address)) (ticks : after ≡ steps + 1) where
      word_loaded : IsOnRun finish_asks finish_turned finish_left old loaded finish (draining finish line word value)
          begun after
      word_loaded = run_goes word_on tt (ap (λ (n : ℕ). Load n) there) acts given ticks (omega arith) refl

      pub word_drains : CanAct loaded.layout loaded.words (Drain address value)
      word_drains = run_can finish_takes may word_loaded (ap (λ (n : ℕ). Drain n value) there)

      pub word_flushed : {drained_row : Row} {number later : ℕ}
          → drained_row ≡ record loaded { words = acted loaded.layout loaded.words (Drain address value) }
          → number ≡ got loaded.layout loaded.words (Drain address value) → later ≡ after + 1
          → IsOnRun finish_asks finish_turned finish_left old drained_row finish (flushed finish line (word + 1)) begun
          later
      word_flushed {number = number} drains gives later_ticks =
          run_goes word_loaded tt (ap (λ (n : ℕ). Drain n value) there) drains gives later_ticks
          (drained_fewer finish line word value number within) (drained finish line word value number)
