-- A machine between two of its turns, and at its end.
use Rattle.std.proofs.Common.{◌≡◌, ℕ, zero, suc, ◌+◌, ◌<◌, ◌≤◌, List, ◌∙◌, ap, sym, refl, subst, arith}
use Rattle.pm_words.specs.declared.layout.Layout.{Layout}
use Rattle.pm_words.specs.declared.action.Action.{Action}
use Rattle.pm_words.specs.declared.action.Action.TheVariants.{Load}
use Rattle.pm_words.specs.declared.machine.Turn.{Turn}
use Rattle.pm_words.specs.declared.machine.Turn.TheVariants.{Go, Done}
use Rattle.pm_words.specs.Images.{Row}
use Rattle.pm_words.specs.Rows.{CanAct, acted, got}
use Rattle.pm_words.specs.Turns.{GoesBelow}
use Rattle.machine_runs.specs.Runs.{AddsNothing, ComesFrom, Goes, begins, goes, MayGo, MayGoFrom, Bursts, IsOnRun}

-- a turn that goes on leaves fewer actions
pub turn_fewer : {M A : Type 0} (left : M → ℕ) (bound : ℕ) {turn : Turn M A} {next : M} → GoesBelow left bound turn
    → turn ≡ Go next → left next < bound
turn_fewer left bound fewer turn = subst (GoesBelow left bound) turn fewer

module _ {M A : Type 0} {asks : M → Action} {turned : M → ℕ → Turn M A} {left : M → ℕ} where
  pub run_begins : (old : Row) (first : M) (steps : ℕ) → IsOnRun asks turned left old old first first steps steps
  run_begins old first steps = record { turns = zero; before = begins; layout = refl; counted = omega arith }

  -- one turn more, which goes on
  pub run_goes : {old now after : Row} {first machine next : M} {begun steps later : ℕ} {action : Action} {number : ℕ}
      → IsOnRun asks turned left old now first machine begun steps → AddsNothing (asks machine) → action ≡ asks machine
      → after ≡ record now { words = acted now.layout now.words action }
      → number ≡ got now.layout now.words action → later ≡ steps + 1
      → GoesBelow left (left machine) (turned machine number) → turned machine number ≡ Go next
      → IsOnRun asks turned left old after first next begun later
  run_goes {old} {now} {after} {first} {machine} {next} on adds asked acts given ticks fewer turn =
      let words : after.words ≡ acted old.layout now.words (asks machine) =
      ap (λ (r : Row). r.words) acts ∙ (λ k. acted (on.layout k) now.words (asked k)) in
      let gives = given ∙ (λ k. got (on.layout k) now.words (asked k)) in
      record {
        turns = suc on.turns;
        before = subst (λ (w : List ℕ). Goes asks turned left old.layout old.words first next w (suc on.turns))
            (sym words)
            (goes on.before adds (subst (λ (x : ℕ). turned machine x ≡ Go next) gives turn)
            (turn_fewer left _ fewer turn));
        layout = ap (λ (r : Row). r.layout) acts ∙ on.layout;
        counted = omega (arith, ticks, on.counted);
      }

  -- and one that comes to whatever it is
  unfoldable pub run_ends : {old now after : Row} {first machine : M} {begun steps later : ℕ} {action : Action}
      {number : ℕ} {end : Turn M A}
      → IsOnRun asks turned left old now first machine begun steps → AddsNothing (asks machine) → action ≡ asks machine
      → after ≡ record now { words = acted now.layout now.words action }
      → number ≡ got now.layout now.words action → later ≡ steps + 1
      → GoesBelow left (left machine) (turned machine number) → turned machine number ≡ end
      → Bursts asks turned left old after first end begun later
  run_ends {old} {now} {machine = machine} on adds asked acts given ticks fewer turn =
      let gives = given ∙ (λ k. got (on.layout k) now.words (asked k)) in
      record {
        last = machine;
        now = now.words;
        turns = on.turns;
        before = on.before;
        adds = adds;
        row = acts ∙ (λ k. record { layout = on.layout k; words = acted (on.layout k) now.words (asked k) });
        ends = sym turn ∙ ap (turned machine) gives;
        fewer = subst (GoesBelow left (left machine)) turn fewer;
        steps = omega (arith, ticks, on.counted);
      }

  -- what it asks for may be done, and what that gives it takes
  pub run_can : (takes : M → ℕ → Type 0) {old now : Row} {first machine : M} {begun steps : ℕ} {action : Action}
      → MayGo asks turned left takes old.layout old.words first
      → IsOnRun asks turned left old now first machine begun steps → action ≡ asks machine
      → CanAct now.layout now.words action
  run_can takes {now = now} {machine = machine} may on asked =
      subst (λ (q : Layout × Action). CanAct q.0 now.words q.1) (λ k. (sym on.layout k, sym asked k))
      (may machine now.words on.turns on.before).0

  pub run_takes : (takes : M → ℕ → Type 0) {old now : Row} {first machine : M} {begun steps : ℕ} {action : Action}
      {number : ℕ} → MayGo asks turned left takes old.layout old.words first
      → IsOnRun asks turned left old now first machine begun steps → action ≡ asks machine
      → number ≡ got now.layout now.words action → takes machine number
  run_takes takes {now = now} {machine = machine} may on asked given =
      subst (takes machine) (sym (given ∙ (λ k. got (on.layout k) now.words (asked k))))
      (may machine now.words on.turns on.before).1

  -- turns behind turns
  pub goes_join : {l : Layout} {words now : List ℕ} {first machine : M} {turns : ℕ} {next : M} {after : List ℕ} {more : ℕ}
      → Goes asks turned left l words first machine now turns → Goes asks turned left l now machine next after more
      → (k : ℕ) × Goes asks turned left l words first next after k × (k ≡ turns + more)
  goes_join {turns = turns} one begins = (turns, one, omega arith)
  goes_join one (goes before adds on less) =
      let joined = goes_join one before in (suc joined.0, goes joined.1 adds on less, omega (arith, joined.2))

  goes_fewer : {l : Layout} {words : List ℕ} {first machine : M} {now : List ℕ} {turns : ℕ}
      → Goes asks turned left l words first machine now turns → left machine ≤ left first
  goes_fewer begins = omega arith
  goes_fewer (goes before adds on less) = omega (arith, less, goes_fewer before)

  -- what a part of a run made of it
  pub run_joins : {old now after : Row} {first machine next : M} {begun steps later : ℕ}
      → IsOnRun asks turned left old now first machine begun steps
      → IsOnRun asks turned left now after machine next steps later
      → IsOnRun asks turned left old after first next begun later
  run_joins {now = now} {after} {machine = machine} {next} on part =
      let joined =
      goes_join on.before
      (subst (λ (l : Layout). Goes asks turned left l now.words machine next after.words part.turns) on.layout
      part.before) in
      record {
        turns = joined.0;
        before = joined.1;
        layout = part.layout ∙ on.layout;
        counted = omega (arith, joined.2, on.counted, part.counted);
      }

  -- a part of a run may go on as the whole may
  pub run_may : (takes : M → ℕ → Type 0) {old now : Row} {first machine : M} {begun steps : ℕ}
      → MayGo asks turned left takes old.layout old.words first
      → IsOnRun asks turned left old now first machine begun steps
      → MayGo asks turned left takes now.layout now.words machine
  run_may takes {now = now} {machine = machine} may on =
      subst (λ (l : Layout). MayGo asks turned left takes l now.words machine) (sym on.layout)
      (λ m words turns more. let joined = goes_join on.before more in may m words joined.0 joined.1)

  -- and leaves no more actions
  pub run_fewer : {old now : Row} {first machine : M} {begun steps : ℕ}
      → IsOnRun asks turned left old now first machine begun steps → left machine ≤ left first
  run_fewer on = goes_fewer on.before

  -- a burst that goes on is a part of a run
  pub burst_goes : {old now : Row} {first next : M} {begun steps : ℕ} {end : Turn M A}
      → Bursts asks turned left old now first end begun steps → end ≡ Go next
      → IsOnRun asks turned left old now first next begun steps
  burst_goes {old} {first = first} {next} b to = record {
    turns = suc b.turns;
    before = subst (λ (w : List ℕ). Goes asks turned left old.layout old.words first next w (suc b.turns))
        (sym (ap (λ (r : Row). r.words) b.row))
        (goes b.before b.adds (sym b.ends ∙ to) (turn_fewer left _ b.fewer to));
    layout = ap (λ (r : Row). r.layout) b.row;
    counted = omega (arith, b.steps);
  }

  -- and leaves fewer actions
  pub burst_fewer : {old now : Row} {first next : M} {begun steps : ℕ} {end : Turn M A}
      → Bursts asks turned left old now first end begun steps → end ≡ Go next → left next < left first
  burst_fewer b to = let most = goes_fewer b.before in let less = turn_fewer left _ b.fewer to in omega (arith, most, less)

  -- a burst behind a part of a run
  unfoldable pub burst_behind : {old now after : Row} {first machine : M} {end : Turn M A} {begun steps later : ℕ}
      → IsOnRun asks turned left old now first machine begun steps
      → Bursts asks turned left now after machine end steps later
      → Bursts asks turned left old after first end begun later
  burst_behind {now = now} {machine = machine} on b =
      let joined =
      goes_join on.before
      (subst (λ (l : Layout). Goes asks turned left l now.words machine b.last b.now b.turns) on.layout b.before) in
      record {
        last = b.last;
        now = b.now;
        turns = joined.0;
        before = joined.1;
        adds = b.adds;
        row = b.row ∙ (λ k. record { layout = on.layout k; words = acted (on.layout k) b.now (asks b.last) });
        ends = b.ends ∙ (λ k. turned b.last (got (on.layout k) b.now (asks b.last)));
        fewer = b.fewer;
        steps = omega (arith, joined.2, on.counted, b.steps);
      }

-- a machine that adds to no word, and of which each turn leaves fewer actions: one turn by itself is a burst
module _ {M A : Type 0} {asks : M → Action} {turned : M → ℕ → Turn M A} {left : M → ℕ} (takes : M → ℕ → Type 0)
    (adds : (machine : M) → AddsNothing (asks machine))
    (fewer : (machine : M) (number : ℕ) → takes machine number → GoesBelow left (left machine) (turned machine number))
  where
    unfoldable pub turn_bursts : {old after : Row} (machine : M) {action : Action} {number begun later : ℕ}
        → MayGo asks turned left takes old.layout old.words machine → action ≡ asks machine
        → after ≡ record old { words = acted old.layout old.words action }
        → number ≡ got old.layout old.words action → later ≡ begun + 1
        → Bursts asks turned left old after machine (turned machine number) begun later
    turn_bursts {old} machine {begun = begun} may asked acts given ticks =
        run_ends (run_begins old machine begun) (adds machine) asked acts given ticks
        (fewer machine _ (run_takes takes may (run_begins old machine begun) asked given)) refl

    -- three loads one after another, of which the first two go on
    module _ {old : Row} (begun : ℕ) (first : M) (second : ℕ → M) (third : ℕ → ℕ → M) (one two three : ℕ)
        (asks_one : Load one ≡ asks first) (asks_two : (x : ℕ) → Load two ≡ asks (second x))
        (asks_three : (x y : ℕ) → Load three ≡ asks (third x y)) (on : (x : ℕ) → turned first x ≡ Go (second x))
        (on_more : (x y : ℕ) → turned (second x) y ≡ Go (third x y))
        (may : MayGo asks turned left takes old.layout old.words first) where
      abbrev row_one : Row
      row_one = record old { words = acted old.layout old.words (Load one) }

      abbrev row_two : Row
      row_two = record old { words = acted old.layout row_one.words (Load two) }

      abbrev x : ℕ
      x = got old.layout old.words (Load one)

      abbrev y : ℕ
      y = got old.layout row_one.words (Load two)

      on_second : IsOnRun asks turned left old row_one first (second x) begun (begun + 1)
      on_second = burst_goes (turn_bursts first may asks_one refl refl refl) (on x)

      on_third : IsOnRun asks turned left old row_two first (third x y) begun (begun + 1 + 1)
      on_third =
          run_joins on_second
          (burst_goes (turn_bursts (second x) (run_may takes may on_second) (asks_two x) refl refl refl) (on_more x y))

      pub third_can : CanAct old.layout row_two.words (Load three)
      third_can = run_can takes may on_third (asks_three x y)

      pub thrice_bursts : {after : Row} {z later : ℕ}
          → after ≡ record old { words = acted old.layout row_two.words (Load three) }
          → z ≡ got old.layout row_two.words (Load three) → later ≡ begun + 3
          → Bursts asks turned left old after first (turned (third x y) z) begun later
      thrice_bursts acts given ticks =
          burst_behind on_third
          (turn_bursts (third x y) (run_may takes may on_third) (asks_three x y) acts given (omega (arith, ticks)))

-- a burst, and what its end comes to
module _ {M A : Type 0} {asks : M → Action} {turned : M → ℕ → Turn M A} {left : M → ℕ} where
  pub burst_comes : {old now after : Row} {first : M} (turn : Turn M A) {end : Turn M A} {begun steps later : ℕ}
      → Bursts asks turned left old now first turn begun steps
      → ComesFrom asks turned left now after turn end steps later
      → Bursts asks turned left old after first end begun later
  burst_comes (Go machine) b comes = burst_behind (burst_goes b refl) comes
  burst_comes {old} {first = first} (Done answer) {begun = begun} b comes =
      subst (λ (q : Row × Turn M A × ℕ). Bursts asks turned left old q.0 first q.1 begun q.2)
      (λ k. (sym comes.1 k, sym comes.0 k, sym comes.2 k)) b

  pub burst_may : (takes : M → ℕ → Type 0) {old now : Row} {first : M} (turn : Turn M A) {begun steps : ℕ}
      → MayGo asks turned left takes old.layout old.words first
      → Bursts asks turned left old now first turn begun steps → MayGoFrom asks turned left takes now turn
  burst_may takes (Go machine) may b = run_may takes may (burst_goes b refl)
  burst_may takes (Done answer) may b = tt
