-- The parts of a get and of a put that make several turns one after another, as turns of the whole.
use Rattle.std.proofs.Common.{◌≡◌, ℕ, ◌+◌, ◌<◌, refl, ap, sym, subst, ◌∙◌, arith}
use Rattle.std.specs.Prelude.{Option, Some, None, IfSome, IsSome}
use Rattle.pm_words.specs.Images.{Row}
use Rattle.pm_words.specs.Rows.{got}
use Rattle.pm_words.specs.Turns.{GoesBelow, turn_of}
use Rattle.pm_words.specs.declared.action.Action.{Action}
use Rattle.pm_words.specs.declared.machine.Turn.{Turn}
use Rattle.pm_words.specs.declared.machine.Turn.TheVariants.{Go, Done}
use Rattle.pm_words.specs.declared.fence.FenceAt.{FenceAt}
use Rattle.pm_words.specs.declared.fence.FenceAt.TheVariants as fence_at
use Rattle.pm_words.specs.Fences.{fence_at_asks}
use Rattle.call_stages.specs.declared.once.Once.{Once}
use Rattle.call_stages.specs.declared.once.Placed.{Placed}
use Rattle.machine_runs.specs.Runs.{AddsNothing, Holds, Bursts, IsOnRun, MayGo}
use Rattle.machine_runs.proofs.Inside.{part_may, part_told, part_bursts}
use Rattle.machine_runs.proofs.Running.{burst_goes}
use Rattle.node_ops.specs.declared.call.Call.{Call}
use Rattle.node_ops.specs.declared.lookup.Found.{Found}
use Rattle.node_ops.specs.declared.lookup.Lookup.{Lookup}
use Rattle.node_ops.specs.declared.lookup.Looked.{Looked}
use Rattle.node_ops.specs.declared.lookup.Looked.TheVariants as looked_as
use Rattle.node_ops.specs.declared.fill.Fill.{Fill}
use Rattle.node_ops.specs.declared.fill.FillAt.{FillAt}
use Rattle.node_ops.specs.declared.fill.FillAt.TheVariants as fill_at
use Rattle.node_ops.specs.declared.get.Get.{Get}
use Rattle.node_ops.specs.declared.get.Get.TheVariants.{Looking, Checking}
use Rattle.node_ops.specs.Calls.{IsCall}
use Rattle.node_ops.specs.LookupSteps.{IsFoundBy, lookup_asks, lookup_turned, lookup_left, lookup_takes, value_of}
use Rattle.node_ops.specs.FillSteps.{fill_asks, fill_at_asks}
use Rattle.node_ops.specs.GetSteps.{get_asks, get_turned, get_left, get_takes, get_looked}
use Rattle.node_ops.specs.Bursts.{LookupBursts}
use Rattle.node_ops.proofs.Bursting.{lookup_adds_nothing}
use Rattle.node_ops.proofs.LookupSound.{found_by, found_sound}
use Rattle.node_ops.proofs.Measures.{lookup_left_some}

-- a fence adds to no word, nor does the filling of a slot, nor a get
pub fence_adds_nothing : (address : ℕ) (at : FenceAt) → AddsNothing (fence_at_asks address at)
fence_adds_nothing address fence_at.Load = tt
fence_adds_nothing address (fence_at.Drain value) = tt

fill_at_adds_nothing : (fill : Fill) (at : FillAt) → AddsNothing (fill_at_asks fill at)
fill_at_adds_nothing fill (fill_at.Word k) = tt
fill_at_adds_nothing fill fill_at.Print = tt
fill_at_adds_nothing fill (fill_at.FenceSlot fence) = fence_adds_nothing _ fence.at
fill_at_adds_nothing fill (fill_at.FencePrint fence) = fence_adds_nothing _ fence.at
fill_at_adds_nothing fill fill_at.Bitmap = tt

pub fill_adds_nothing : (fill : Fill) → AddsNothing (fill_asks fill)
fill_adds_nothing fill = fill_at_adds_nothing fill fill.at

pub get_adds_nothing : (get : Get) → AddsNothing (get_asks get)
get_adds_nothing (Looking lookup) = lookup_adds_nothing lookup
get_adds_nothing (Checking call hold old) = tt

-- a look-up's burst is one of the call that looks
module _ {N B : Type 0} {outer_asks : N → Action} {outer_turned : N → ℕ → Turn N B} {outer_left : N → ℕ}
    {outer_takes : N → ℕ → Type 0} {holds : Lookup → N}
    (h : Holds lookup_asks lookup_turned lookup_left lookup_takes outer_asks outer_turned outer_left outer_takes holds)
    (after : Call → Turn Lookup Looked → Turn N B)
    (turns : (l : Lookup) (number : ℕ) → outer_turned (holds l) number ≡ after l.call (lookup_turned l number))
    (goes : (call : Call) (l : Lookup) → after call (Go l) ≡ Go (holds l)) where
  of_call : (last : Lookup) (looked : Option Looked) (call : Call) → IfSome looked (λ _. last.call ≡ call)
      → after call (turn_of last looked) ≡ after last.call (turn_of last looked)
  of_call last None call same = goes call last ∙ sym (goes last.call last)
  of_call last (Some looked) call same = ap (λ (c : Call). after c (Done looked)) (sym same)

  pub looking_bursts : {outer : N} {old new : Row} {first last : Lookup} {looked : Option Looked} {end : Turn N B}
      {begun ended : ℕ} → outer ≡ holds first
      → MayGo outer_asks outer_turned outer_left outer_takes old.layout old.words outer
      → LookupBursts old new first last looked begun ended → after last.call (turn_of last looked) ≡ end
      → Bursts outer_asks outer_turned outer_left old new outer end begun ended
  looking_bursts {last = last} {looked = looked} is may b to =
      part_bursts h is may b.burst
      (turns b.burst.last _ ∙ ap (after b.burst.last.call) (sym b.burst.ends)
      ∙ of_call last looked b.burst.last.call b.call ∙ to)

-- what it has found is in the node that the call locked
module _ {N B : Type 0} {outer_asks : N → Action} {outer_turned : N → ℕ → Turn N B} {outer_left : N → ℕ}
    {outer_takes : N → ℕ → Type 0} {holds : Lookup → N}
    (h : Holds lookup_asks lookup_turned lookup_left lookup_takes outer_asks outer_turned outer_left outer_takes holds)
    {outer : N} {lookup : Lookup} (is : outer ≡ holds lookup) {old : Row}
    (may : MayGo outer_asks outer_turned outer_left outer_takes old.layout old.words outer) where
  looked_takes : {new : Row} {end : Turn Lookup Looked} {begun ended : ℕ}
      → (b : Bursts lookup_asks lookup_turned lookup_left old new lookup end begun ended)
      → lookup_takes b.last (got old.layout b.now (lookup_asks b.last))
  looked_takes b = h.taken b.last _ (part_told h is may b)

  pub looked_call : {new : Row} {last : Lookup} {looked : Looked} {begun ended : ℕ}
      → LookupBursts old new lookup last (Some looked) begun ended → IsCall last.call
  looked_call b = subst IsCall (sym b.call) (looked_takes b.burst).0.call

  pub looked_found : ((l : Lookup) (number : ℕ) → outer_takes (holds l) number → IsSome l.call.limit)
      → {new : Row} {last : Lookup} {looked : Looked} {begun ended : ℕ} → (found : Found)
      → LookupBursts old new lookup last (Some looked) begun ended → looked ≡ looked_as.Found found
      → IsFoundBy last.call.view.layout.slots found
  looked_found writes found b is_found =
      let takes = looked_takes b.burst in
      let there = b.burst.last in
      subst (λ (call : Call). IsFoundBy call.view.layout.slots found) (sym b.call)
      (found_by there.call.limit there.call.view.layout.slots found (writes there _ (part_told h is may b.burst))
      (found_sound there _ found takes.0 takes.1 (ap (λ (f : Looked). Done f) (sym is_found) ∙ b.burst.ends)))

-- a get that looks
get_looked_below : (call : Call) (bound : ℕ) (turn : Turn Lookup Looked) → 0 < bound
    → GoesBelow {A = Looked} lookup_left bound turn
    → GoesBelow {A = Once Placed} get_left (bound + 1) (get_looked call turn)
get_looked_below call bound (Go lookup) some below = omega arith
get_looked_below call bound (Done (looked_as.Early answer)) some below = tt
get_looked_below call bound (Done (looked_as.Found found)) some below = omega arith

looking_get : Holds lookup_asks lookup_turned lookup_left lookup_takes get_asks get_turned get_left get_takes Looking
looking_get = record {
  asked = λ lookup. refl;
  on = λ lookup next number goes. ap (get_looked lookup.call) goes;
  taken = λ lookup number takes. (takes.0.0, takes.1);
  fewer = λ lookup number takes below.
      get_looked_below lookup.call (lookup_left lookup) (lookup_turned lookup number)
      (lookup_left_some lookup takes.0.0) below;
}

pub get_looking_may : (get : Get) (lookup : Lookup) → get ≡ Looking lookup → {old : Row}
    → MayGo get_asks get_turned get_left get_takes old.layout old.words get
    → MayGo lookup_asks lookup_turned lookup_left lookup_takes old.layout old.words lookup
get_looking_may get lookup is may = part_may looking_get is may

pub get_looking_bursts : (get : Get) (lookup : Lookup) → get ≡ Looking lookup → {old new : Row} {last : Lookup}
    {looked : Option Looked} {end : Turn Get (Once Placed)} {begun ended : ℕ}
    → MayGo get_asks get_turned get_left get_takes old.layout old.words get
    → LookupBursts old new lookup last looked begun ended → get_looked last.call (turn_of last looked) ≡ end
    → Bursts get_asks get_turned get_left old new get end begun ended
get_looking_bursts get lookup is may b to =
    looking_bursts looking_get get_looked (λ l number. refl) (λ call l. refl) is may b to

-- what a get has found it checks next, at the node of its call
pub get_looked_call : (get : Get) (lookup : Lookup) → get ≡ Looking lookup → {old new : Row} {last : Lookup}
    {looked : Looked} {begun ended : ℕ} → MayGo get_asks get_turned get_left get_takes old.layout old.words get
    → LookupBursts old new lookup last (Some looked) begun ended → IsCall last.call
get_looked_call get lookup is may b = looked_call looking_get is may b

pub get_found_run : (get : Get) (lookup : Lookup) → get ≡ Looking lookup → {old new : Row} {last : Lookup}
    {looked : Looked} {begun ended : ℕ} → (found : Found)
    → MayGo get_asks get_turned get_left get_takes old.layout old.words get
    → LookupBursts old new lookup last (Some looked) begun ended → looked ≡ looked_as.Found found
    → IsOnRun get_asks get_turned get_left old new get (Checking last.call found.hold (value_of found.hit)) begun ended
get_found_run get lookup is {last = last} found may b is_found =
    burst_goes (get_looking_bursts get lookup is may b
    (ap (λ (f : Looked). get_looked last.call (Done f)) is_found)) refl
