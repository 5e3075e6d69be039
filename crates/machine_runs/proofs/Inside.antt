-- What goes on inside a machine, as a part of the one that holds it.
use Rattle.std.proofs.Common.{◌≡◌, ℕ, suc, ◌<◌, List, ◌∙◌, ap, sym, subst}
use Rattle.pm_words.specs.declared.layout.Layout.{Layout}
use Rattle.pm_words.specs.declared.action.Action.{Action}
use Rattle.pm_words.specs.declared.machine.Turn.{Turn}
use Rattle.pm_words.specs.declared.machine.Turn.TheVariants.{Go}
use Rattle.pm_words.specs.Rows.{CanAct, acted, got}
use Rattle.pm_words.specs.Images.{Row}
use Rattle.pm_words.specs.Turns.{GoesBelow}
use Rattle.machine_runs.specs.Runs.{AddsNothing, Goes, begins, goes, MayGo, Bursts, Holds}

module _ {M A N B : Type 0} {asks : M → Action} {turned : M → ℕ → Turn M A} {left : M → ℕ} {takes : M → ℕ → Type 0}
    {outer_asks : N → Action} {outer_turned : N → ℕ → Turn N B} {outer_left : N → ℕ} {outer_takes : N → ℕ → Type 0}
    {holds : M → N}
    (h : Holds asks turned left takes outer_asks outer_turned outer_left outer_takes holds) (l : Layout)
    (words : List ℕ) (first : M)
    (may : MayGo outer_asks outer_turned outer_left outer_takes l words (holds first)) where
  -- what the outer machine is told, by what the inner one asks for
  outer_told : {machine : M} {now : List ℕ} {turns : ℕ}
      → Goes outer_asks outer_turned outer_left l words (holds first) (holds machine) now turns
      → CanAct l now (asks machine) × outer_takes (holds machine) (got l now (asks machine))
  outer_told {machine} {now} {turns} on =
      let there = may (holds machine) now turns on in (
        subst (CanAct l now) (h.asked machine) there.0,
        subst (λ (a : Action). outer_takes (holds machine) (got l now a)) (h.asked machine) there.1,
      )

  -- a turn that goes on inside goes on outside, and leaves fewer actions there
  outer_less : (machine next : M) (number : ℕ) → outer_takes (holds machine) number → turned machine number ≡ Go next
      → left next < left machine → outer_left (holds next) < outer_left (holds machine)
  outer_less machine next number told on less =
      subst (GoesBelow outer_left (outer_left (holds machine))) (h.on machine next number on)
      (h.fewer machine number told (subst (GoesBelow left (left machine)) (sym on) less))

  pub inside : {machine : M} {now : List ℕ} {turns : ℕ} → Goes asks turned left l words first machine now turns
      → Goes outer_asks outer_turned outer_left l words (holds first) (holds machine) now turns
  inside begins = begins
  inside (goes {machine = m} {next = n} {now = now} {turns = k} before adds on less) =
      let outer = inside before in
      subst (λ (a : Action). Goes outer_asks outer_turned outer_left l words (holds first) (holds n) (acted l now a)
      (suc k)) (h.asked m)
      (goes outer (subst AddsNothing (sym (h.asked m)) adds)
      (subst (λ (a : Action). outer_turned (holds m) (got l now a) ≡ Go (holds n)) (sym (h.asked m)) (h.on m n _ on))
      (outer_less m n _ (outer_told outer).1 on less))

  -- what the inner machine is told, and what the outer one is
  pub told_inside : {machine : M} {now : List ℕ} {turns : ℕ} → Goes asks turned left l words first machine now turns
      → outer_takes (holds machine) (got l now (asks machine))
  told_inside on = (outer_told (inside on)).1

  pub may_inside : MayGo asks turned left takes l words first
  may_inside machine now turns on =
      let there = outer_told (inside on) in (there.0, h.taken machine _ there.1)

module _ {M A N B : Type 0} {asks : M → Action} {turned : M → ℕ → Turn M A} {left : M → ℕ} {takes : M → ℕ → Type 0}
    {outer_asks : N → Action} {outer_turned : N → ℕ → Turn N B} {outer_left : N → ℕ} {outer_takes : N → ℕ → Type 0}
    {holds : M → N}
    (h : Holds asks turned left takes outer_asks outer_turned outer_left outer_takes holds) where
  -- a burst of it is one of the outer machine, which comes to what its last turn makes of that
  unfoldable pub burst_inside : {old new : Row} {first : M} {end : Turn M A} {outer_end : Turn N B} {begun ended : ℕ}
      → MayGo outer_asks outer_turned outer_left outer_takes old.layout old.words (holds first)
      → (b : Bursts asks turned left old new first end begun ended)
      → outer_turned (holds b.last) (got old.layout b.now (asks b.last)) ≡ outer_end
      → Bursts outer_asks outer_turned outer_left old new (holds first) outer_end begun ended
  burst_inside {old} {first = first} may b comes = record {
    last = holds b.last;
    now = b.now;
    turns = b.turns;
    before = inside h old.layout old.words first may b.before;
    adds = subst AddsNothing (sym (h.asked b.last)) b.adds;
    row = b.row
        ∙ ap (λ (a : Action). record old { words = acted old.layout b.now a }) (sym (h.asked b.last));
    ends = sym comes
        ∙ ap (λ (a : Action). outer_turned (holds b.last) (got old.layout b.now a)) (sym (h.asked b.last));
    fewer = subst (GoesBelow outer_left (outer_left (holds b.last))) comes
        (h.fewer b.last _ (told_inside h old.layout old.words first may b.before)
        (subst (GoesBelow left (left b.last)) b.ends b.fewer));
    steps = b.steps;
  }

  -- the same of an outer machine that is known to be in this state
  module _ {outer : N} {first : M} (is : outer ≡ holds first) {old : Row}
      (may : MayGo outer_asks outer_turned outer_left outer_takes old.layout old.words outer) where
    part_here : MayGo outer_asks outer_turned outer_left outer_takes old.layout old.words (holds first)
    part_here = subst (MayGo outer_asks outer_turned outer_left outer_takes old.layout old.words) is may

    pub part_may : MayGo asks turned left takes old.layout old.words first
    part_may = may_inside h old.layout old.words first part_here

    pub part_told : {new : Row} {end : Turn M A} {begun ended : ℕ}
        → (b : Bursts asks turned left old new first end begun ended)
        → outer_takes (holds b.last) (got old.layout b.now (asks b.last))
    part_told b = told_inside h old.layout old.words first part_here b.before

    pub part_bursts : {new : Row} {end : Turn M A} {outer_end : Turn N B} {begun ended : ℕ}
        → (b : Bursts asks turned left old new first end begun ended)
        → outer_turned (holds b.last) (got old.layout b.now (asks b.last)) ≡ outer_end
        → Bursts outer_asks outer_turned outer_left old new outer outer_end begun ended
    part_bursts {new} {outer_end = outer_end} {begun = begun} {ended = ended} b comes =
        subst (λ (n : N). Bursts outer_asks outer_turned outer_left old new n outer_end begun ended) (sym is)
        (burst_inside part_here b comes)

-- what is said of a machine holds of one that it is known to be
module _ {M A : Type 0} {asks : M → Action} {turned : M → ℕ → Turn M A} {left : M → ℕ} where
  pub same_may : (takes : M → ℕ → Type 0) {machine same : M} → machine ≡ same → {old : Row}
      → MayGo asks turned left takes old.layout old.words machine
      → MayGo asks turned left takes old.layout old.words same
  same_may takes is {old} = subst (MayGo asks turned left takes old.layout old.words) is

  pub same_bursts : {machine same : M} → machine ≡ same → {old new : Row} {end other : Turn M A} {begun ended : ℕ}
      → Bursts asks turned left old new same end begun ended → end ≡ other
      → Bursts asks turned left old new machine other begun ended
  same_bursts is {old} {new} {begun = begun} {ended = ended} b to =
      subst (λ (q : M × Turn M A). Bursts asks turned left old new q.0 q.1 begun ended) (λ k. (sym is k, to k)) b
